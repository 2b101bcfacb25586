use Rattle.std.proofs.Common.{◌≡◌, ◌≤◌, ◌<◌, length}
use Rattle.std.specs.Str.Lines.{lines}
use Rattle.script_lines.specs.Grammar.{read_from, script_of}
use Rattle.script_lines.proofs.reading.parse.Given as goal

abbrev pub invariant-loop-line : goal.invariant-loop-line
invariant-loop-line l = record {
  read : read_from l.number l.draft (lines l.rest) ≡ script_of l.fn.bytes;
  number : l.number ≤ 20001;
  count : length l.draft < l.number;
}

abbrev pub decreases-loop-line : goal.decreases-loop-line
decreases-loop-line l = length l.rest
