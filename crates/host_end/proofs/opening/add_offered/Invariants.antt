use Rattle.std.proofs.Common.{◌≡◌, ◌+◌, ◌++◌, replicate, vec_len, vec_capacity}
use Rattle.control_model.specs.Host.{offered_life}
use Rattle.host_end.proofs.opening.add_offered.Given as goal

abbrev pub invariant-loop : goal.invariant-loop
invariant-loop l = record {
  added : l.channels.items ≡ l.fn.channels.items ++ replicate l.counter offered_life;
  len : vec_len l.channels ≡ vec_len l.fn.channels + l.counter;
  capacity : vec_capacity l.channels ≡ vec_capacity l.fn.channels;
}
