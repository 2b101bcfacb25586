use Rattle.std.proofs.Common.{◌≡◌, ◌≤◌, [], length, take, drop, vec_len, vec_capacity}
use Rattle.std.specs.Arc.{arc_value}
use Rattle.hist_lock.specs.declared.view.Stage.TheVariants.{Idle}
use Rattle.hist_lock.specs.Seat.{seats_from}
use Rattle.hist_lock.specs.Rule.{view}
use Rattle.hist_lock.specs.Plays.{lines_from}
use Rattle.hist_lock.specs.Sitting.{IsAt, terms_of, lock_of}
use Rattle.hist_lock.proofs.lock.share_out.Given as goal

abbrev pub invariant-loop-left : goal.invariant-loop-left
invariant-loop-left g l =
    let shared = (arc_value l.table).shared in
    let t = terms_of g.M.Machine.first shared.key in
    record {
      seats : l.seats.items ≡ seats_from (lock_of shared.table_id t) 0 (take l.left-index l.quota);
      len : vec_len l.seats ≡ l.left-index;
      room : length l.quota ≤ vec_capacity l.seats;
      at : IsAt shared.table_id l.seat.table_id;
      sits : l.seat.me ≡ (view t (lines_from l.left-index (drop l.left-index l.quota)) Idle, []);
    }
