use Rattle.std.proofs.Common.{◌≡◌, ◌≤◌, ◌+◌, ◌*◌, length, vec_len}
use Rattle.std.specs.Str.Lines.{lines}
use Rattle.vmbus_msg_text.specs.Output.{output_from, decode_output}
use Rattle.vmbus_msg_text.proofs.input.decode_text.Given as goal

abbrev pub invariant-loop-line : goal.invariant-loop-line
invariant-loop-line l = record {
  told : output_from l.number l.text.items (lines l.rest) ≡ decode_output l.fn.bytes;
  number : l.number ≤ 20001;
  first : 1 ≤ l.number;
  short : vec_len l.text + 3350 ≤ 3350 * l.number;
}

abbrev pub decreases-loop-line : goal.decreases-loop-line
decreases-loop-line l = length l.rest
