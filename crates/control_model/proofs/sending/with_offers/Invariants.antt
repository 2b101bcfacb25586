use Rattle.std.proofs.Common.{◌≡◌, ◌+◌, ◌∷◌, length, map, take, vec_len, vec_capacity}
use Rattle.control_model.specs.Messages.{offer_sub}
use Rattle.control_model.proofs.sending.with_offers.Given as goal

abbrev pub invariant-loop-o : goal.invariant-loop-o
invariant-loop-o l = record {
  items : l.sent.items ≡ l.first ∷ map offer_sub (take l.o-index l.subs);
  len : vec_len l.sent ≡ l.o-index + 1;
  room : vec_capacity l.sent ≡ length l.subs + 1;
}
