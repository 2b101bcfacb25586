use Rattle.std.proofs.Common.{◌≡◌, length, map, take, vec_len, vec_capacity}
use Rattle.control_model.specs.Messages.{modify_one}
use Rattle.control_model.proofs.sending.modifies.Given as goal

abbrev pub invariant-loop-m : goal.invariant-loop-m
invariant-loop-m l = record {
  items : l.sent.items ≡ map modify_one (take l.m-index l.moves);
  len : vec_len l.sent ≡ l.m-index;
  room : vec_capacity l.sent ≡ length l.moves;
}
