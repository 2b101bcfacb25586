use Rattle.std.proofs.Common.{◌≡◌, take}
use Rattle.kvp_lines.proofs.pair.widen.Given as goal

abbrev pub invariant-loop-i : goal.invariant-loop-i
invariant-loop-i l = take l.i l.units ≡ take l.i l.word
