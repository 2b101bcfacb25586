use Rattle.std.proofs.Common.{◌≡◌, ◌+◌, ◌≤◌, ◌++◌, drop, length, vec_len, vec_capacity}
use Rattle.contact.specs.Classes.{offers_from}
use Rattle.contact.proofs.channel_offer.offers.Given as goal

abbrev pub invariant-loop-kind : goal.invariant-loop-kind
invariant-loop-kind l = record {
  relid : l.relid ≡ l.kind-index;
  len : vec_len l.messages ≡ l.kind-index;
  room : length l.kinds ≤ vec_capacity l.messages;
  sent : l.messages.items ++ offers_from (l.relid + 1) (drop l.kind-index l.kinds) ≡ offers_from 1 l.kinds;
}
