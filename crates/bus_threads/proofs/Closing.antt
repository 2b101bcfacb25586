-- What the workers of a pair leave fits together: their ends, and the lists that one of them alone has.
use Rattle.std.proofs.Common.{◌≡◌, ◌⊎◌, [], sym, ◌∙◌, inl, inr}
use Rattle.ring_seat.specs.Settling.{AreOfOneChannel}
use Rattle.ring_seat.specs.declared.table_seat.TableSeat.{TableSeat}
use Rattle.worker_port.specs.Line.{IsSameEnd}
use Rattle.worker_pair.specs.Leaving.{Leaves, WorkerDone}
use Rattle.worker_pair.specs.Pairs.{ArePair, AreRoles}
use Rattle.worker_pair.specs.Workers.{end_at}
use Rattle.worker_pair.specs.declared.worker.Worker.{Worker}
use Rattle.worker_pair.specs.declared.worker.Worker.TheVariants.{Asks, Serves}

end_stays : (w : Worker) (d : WorkerDone) → Leaves w d → IsSameEnd (λ (s : TableSeat). s.seat.table_id) (end_at w) d.end
end_stays (Asks w) d left = left.end
end_stays (Serves w) d left = left.end

pub one_channel : (g h : Worker) (d e : WorkerDone) → ArePair g h → Leaves g d → Leaves h e → AreOfOneChannel d.end e.end
one_channel g h d e pair left_g left_h =
    let a = end_stays g d left_g in
    let b = end_stays h e left_h in
    record {
      same = a.seat ∙ (pair.ends.same ∙ sym b.seat);
      guest = a.side ∙ pair.ends.guest;
      host = b.side ∙ pair.ends.host;
    }

-- the one that asks has no serials, and the one that serves no replies
pub serials_of_one : (g h : Worker) (d e : WorkerDone) → AreRoles g h → Leaves g d → Leaves h e → (d.serials.items ≡ []) ⊎ (e.serials.items ≡ [])
serials_of_one (Asks g) (Asks h) d e roles left_g left_h = absurd roles
serials_of_one (Asks g) (Serves h) d e roles left_g left_h = inl left_g.serials
serials_of_one (Serves g) (Asks h) d e roles left_g left_h = inr left_h.serials
serials_of_one (Serves g) (Serves h) d e roles left_g left_h = absurd roles

pub replies_of_one : (g h : Worker) (d e : WorkerDone) → AreRoles g h → Leaves g d → Leaves h e → (d.replies.items ≡ []) ⊎ (e.replies.items ≡ [])
replies_of_one (Asks g) (Asks h) d e roles left_g left_h = absurd roles
replies_of_one (Asks g) (Serves h) d e roles left_g left_h = inr left_h.replies
replies_of_one (Serves g) (Asks h) d e roles left_g left_h = inl left_g.replies
replies_of_one (Serves g) (Serves h) d e roles left_g left_h = absurd roles
