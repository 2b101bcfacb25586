use Rattle.std.proofs.Common.{◌≡◌, ◌+◌, ◌≤◌, ◌++◌, length, map, take}
use Rattle.kvp_lines.specs.Replies.{unit_text}
use Rattle.kvp_lines.proofs.reply.push_units.Given as goal

abbrev pub invariant-loop-i : goal.invariant-loop-i
invariant-loop-i l = record {
  text : l.text.items ≡ l.fn.text.items ++ map unit_text (take l.i l.units);
  short : length l.text.items ≤ length l.fn.text.items + l.i;
}
