use Rattle.std.proofs.Common.{◌≡◌, ◌≤◌, true, length}
use Rattle.std.specs.Str.Lines.{lines}
use Rattle.hostile_lines.specs.Inputs.{read_from, no_input, is_short}
use Rattle.hostile_lines.proofs.reading.parse_hostile.Given as goal

abbrev pub invariant-loop-line : goal.invariant-loop-line
invariant-loop-line l = record {
  read : read_from l.number l.hostile (lines l.rest) ≡ read_from 1 no_input (lines l.fn.bytes);
  short : is_short l.fn.bytes ≡ true;
  number : l.number ≤ 20001;
}

abbrev pub decreases-loop-line : goal.decreases-loop-line
decreases-loop-line l = length l.rest
