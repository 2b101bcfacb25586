use Rattle.std.proofs.Common.{◌≡◌, ◌==◌, ◌+◌, length}
use Rattle.std.specs.Prelude.{slice_get}
use Rattle.std.specs.List.{slice_split}
use Rattle.script_explain.specs.Places.{places}
use Rattle.script_explain.proofs.mark.word_at.Given as goal

-- the word that is wanted is as many words on in the rest, which begins at this place
abbrev pub invariant-loop-part : goal.invariant-loop-part
invariant-loop-part l =
    (slice_get (places l.at (slice_split (λ b. b == 32) l.rest)) l.left ≡ slice_get (places 0 (slice_split (λ b. b == 32) l.fn.line)) l.fn.n) × (l.at + length l.rest ≡ length l.fn.line)

abbrev pub decreases-loop-part : goal.decreases-loop-part
decreases-loop-part l = length l.rest
