use Rattle.std.proofs.Common.{◌≡◌, false, take}
use Rattle.std.specs.Prelude.{All}
use Rattle.script_lines.specs.Parts.{ends_part}
use Rattle.phase_plan.proofs.split.first_part.Given as goal

abbrev pub invariant-loop-i : goal.invariant-loop-i
invariant-loop-i l = All (λ x. ends_part x ≡ false) (take l.i l.lines)
