use Rattle.std.proofs.Common.{◌≡◌, ◌≤◌, ◌+◌, ◌++◌, drop, length, vec_len}
use Rattle.vmbus_msg_text.specs.Layouts.{Holds, fields_text, most_in}
use Rattle.vmbus_msg_text.proofs.field.push_fields.Given as goal

abbrev pub invariant-loop-shown : goal.invariant-loop-shown
invariant-loop-shown l = record {
  told : l.text.items ++ fields_text (drop l.shown-index l.fields) l.at l.bytes ≡ l.fn.text.items ++ fields_text l.fields 4 l.bytes;
  held : Holds (drop l.shown-index l.fields) l.at (length l.bytes);
  short : vec_len l.text + most_in (drop l.shown-index l.fields) ≤ vec_len l.fn.text + most_in l.fields;
}
