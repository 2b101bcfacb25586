use Rattle.std.proofs.Common.{◌≡◌, length}
use Rattle.trace_lines.specs.Numbers.{are_numbers}
use Rattle.trace_lines.proofs.numbers.are_numbers.Given as goal

abbrev pub invariant-loop-number : goal.invariant-loop-number
invariant-loop-number l = are_numbers l.rest ≡ are_numbers l.fn.word

abbrev pub decreases-loop-number : goal.decreases-loop-number
decreases-loop-number l = length l.rest
