use Rattle.std.proofs.Common.{◌≡◌, ◌+◌, ◌≤◌, length}
use Rattle.script_explain.specs.Marks.{far_word, last_number}
use Rattle.script_explain.proofs.place.far_word.Given as goal

-- the forms that are left are those of the words from n on
abbrev pub invariant-loop-rest : goal.invariant-loop-rest
invariant-loop-rest l = (far_word l.line (last_number l.line) l.n l.rest ≡ far_word l.line (last_number l.line) 1 l.forms) × (l.n + length l.rest ≤ 6)

abbrev pub decreases-loop-rest : goal.decreases-loop-rest
decreases-loop-rest l = length l.rest
