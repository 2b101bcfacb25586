use Rattle.std.proofs.Common.{◌≡◌, Some}
use Rattle.ring_seat.specs.Seats.{told_in}
use Rattle.ring_seat.specs.declared.table_seat.TableSeat.{TableSeat}
use Rattle.worker_requester.specs.Asking.{AsksOn}
use Rattle.worker_server.specs.Serving.{ServesOn}
use Rattle.device_any.specs.Seats.{device_place}
use Rattle.worker_pair.specs.Leaving.{StandsAsking, StandsServing}
use Rattle.worker_pair.proofs.turns.by_turns.Given as goal

abbrev pub invariant-loop : goal.invariant-loop
invariant-loop g l = record {
  can : (goal.iterator-loop g).can_next l.iterator';
  ends : (goal.iterator-loop g).is_finite l.iterator';
  asks : StandsAsking l.asked l.asker;
  asker : AsksOn (λ (s : TableSeat). s.seat.table_id) (λ (s : TableSeat). Some (told_in s.seat.me.0)) l.fn.asker l.asker;
  serves : StandsServing l.served l.server;
  server : ServesOn (λ s t. device_place t ≡ device_place s) (λ (s : TableSeat). s.seat.table_id) (λ (s : TableSeat). Some (told_in s.seat.me.0)) l.fn.server l.server;
}
