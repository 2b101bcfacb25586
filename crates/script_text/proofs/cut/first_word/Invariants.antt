use Rattle.std.proofs.Common.{◌≡◌, length}
use Rattle.script_text.specs.Words.{words}
use Rattle.script_text.proofs.cut.first_word.Given as goal

abbrev pub invariant-loop-word : goal.invariant-loop-word
invariant-loop-word l = words l.fn.line ≡ words l.rest

abbrev pub decreases-loop-word : goal.decreases-loop-word
decreases-loop-word l = length l.rest
