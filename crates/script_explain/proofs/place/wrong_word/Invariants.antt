use Rattle.std.proofs.Common.{◌≡◌, ◌+◌, ◌≤◌, length}
use Rattle.script_explain.specs.Marks.{wrong_word}
use Rattle.script_explain.proofs.place.wrong_word.Given as goal

-- the forms that are left are those of the words from n on
abbrev pub invariant-loop-rest : goal.invariant-loop-rest
invariant-loop-rest l = (wrong_word l.line l.n l.rest ≡ wrong_word l.line 1 l.forms) × (l.n + length l.rest ≤ 6)

abbrev pub decreases-loop-rest : goal.decreases-loop-rest
decreases-loop-rest l = length l.rest
