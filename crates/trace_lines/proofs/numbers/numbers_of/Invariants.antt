use Rattle.std.proofs.Common.{◌≡◌, ◌++◌, true, length}
use Rattle.trace_lines.specs.Numbers.{are_numbers, numbers_of}
use Rattle.trace_lines.proofs.numbers.numbers_of.Given as goal

abbrev pub invariant-loop-number : goal.invariant-loop-number
invariant-loop-number l = record {
  form : are_numbers l.rest ≡ true;
  told : l.numbers.items ++ numbers_of l.rest ≡ numbers_of l.fn.word;
}

abbrev pub decreases-loop-number : goal.decreases-loop-number
decreases-loop-number l = length l.rest
