use Rattle.std.proofs.Common.{◌≡◌, take}
use Rattle.gpadl.proofs.cut.frames_of.Given as goal

abbrev pub invariant-loop-page : goal.invariant-loop-page
invariant-loop-page l = l.frames ≡ take l.page-index l.pages
