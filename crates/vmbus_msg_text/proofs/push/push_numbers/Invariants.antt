use Rattle.std.proofs.Common.{◌≡◌, ◌≤◌, ◌+◌, ◌*◌, ◌++◌, drop, vec_len}
use Rattle.std.specs.Prelude.{codes}
use Rattle.std.specs.List.{flat_map}
use Rattle.std.specs.Fmt.{decimal}
use Rattle.vmbus_msg_text.proofs.push.push_numbers.Given as goal

abbrev pub invariant-loop-number : goal.invariant-loop-number
invariant-loop-number l = record {
  told : l.text.items ++ flat_map (λ m. codes "," ++ decimal m) (drop l.number-index l.others) ≡ l.initial.text.items ++ flat_map (λ m. codes "," ++ decimal m) l.others;
  short : vec_len l.text ≤ vec_len l.initial.text + 21 * l.number-index;
}
