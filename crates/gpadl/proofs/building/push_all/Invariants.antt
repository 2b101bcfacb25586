use Rattle.std.proofs.Common.{◌≡◌, ◌+◌, ◌++◌, take, vec_len, vec_capacity}
use Rattle.gpadl.proofs.building.push_all.Given as goal

abbrev pub invariant-loop-frame : goal.invariant-loop-frame
invariant-loop-frame l = record {
  items : l.pages.items ≡ l.fn.pages.items ++ take l.frame-index l.frames;
  len : vec_len l.pages ≡ vec_len l.fn.pages + l.frame-index;
  capacity : vec_capacity l.pages ≡ vec_capacity l.fn.pages;
}
