use Rattle.std.proofs.Common.{◌≡◌, take}
use Rattle.script_lines.specs.Parts.{offered}
use Rattle.control_model.proofs.planning.specs.Given as goal

abbrev pub invariant-loop-line : goal.invariant-loop-line
invariant-loop-line l = l.specs.items ≡ offered (take l.line-index l.lines)
