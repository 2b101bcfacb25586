use Rattle.std.proofs.Common.{◌≡◌, ◌≤◌, ◌+◌, ◌*◌, ◌++◌, drop, vec_len}
use Rattle.std.specs.List.{flat_map}
use Rattle.script_text.specs.Hex.{hex_2}
use Rattle.vmbus_msg_text.proofs.push.push_digits.Given as goal

abbrev pub invariant-loop-byte : goal.invariant-loop-byte
invariant-loop-byte l = record {
  told : l.text.items ++ flat_map hex_2 (drop l.byte-index l.bytes) ≡ l.fn.text.items ++ flat_map hex_2 l.bytes;
  short : vec_len l.text ≤ vec_len l.fn.text + 2 * l.byte-index;
}
