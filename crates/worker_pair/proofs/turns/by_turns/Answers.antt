use Rattle.std.proofs.Common.{◌≡◌, ◌∙◌, Some}
use Rattle.ring_seat.specs.Seats.{told_in}
use Rattle.ring_seat.specs.declared.table_seat.TableSeat.{TableSeat}
use Rattle.worker_server.proofs.ServeSteps.{on_trans}
use Rattle.device_any.specs.Seats.{device_place}
use Rattle.worker_pair.proofs.Going.{asked_on, served_on}
use Rattle.worker_pair.proofs.turns.by_turns.Goals as goal

pub returns-in-Some-Some-clause-served : goal.returns-in-Some-Some-clause-served
returns-in-Some-Some-clause-served g c =
    served_on c.args.server c.serve-served.new.server c.server_done.result
    (on_trans (λ s t. device_place t ≡ device_place s) (λ (s : TableSeat). s.seat.table_id) (λ (s : TableSeat). Some (told_in s.seat.me.0)) (λ a b d p q. q ∙ p) _ _ _ c.loop.invariant.server c.serve-served.ensures.on) c.server_done.ensures

pub returns-in-Some-Some-clause-asked : goal.returns-in-Some-Some-clause-asked
returns-in-Some-Some-clause-asked g c =
    asked_on c.args.asker c.loop.asker c.asker_done.result c.loop.invariant.asker (asked_on c.loop.asker c.ask-asked.new.asker c.asker_done.result c.ask-asked.ensures.on c.asker_done.ensures)
