use Rattle.std.proofs.Common.{◌≡◌, ℕ, ◌++◌, [], ◌∷◌, ◌∙◌, sym, ap, arith, get_or, take, drop, drop-cons, add-one, suc, ◌<◌, ◌≤◌}
use Rattle.std.proofs.lemmas.List.{take_more, length-take-le}
use Rattle.std.specs.Arc.{arc_value}
use Rattle.hist_lock.specs.Rule.{view}
use Rattle.hist_lock.specs.Plays.{lines_from}
use Rattle.hist_lock.specs.Seat.{seats_from}
use Rattle.hist_lock.specs.Sitting.{terms_of, lock_of, calls_in}
use Rattle.hist_lock.specs.declared.view.Stage.TheVariants.{Idle}
use Rattle.hist_lock.proofs.Sharing.{splits_at, left_at, cut_at, seats_from_push}
use Rattle.hist_lock.proofs.lock.share_out.Goals as goal

lt_le : {m n : ℕ} → m < n → m ≤ n
lt_le h = omega arith

pub split_seat-own-requires : goal.split_seat-own-requires
split_seat-own-requires g c =
    let m = g.M.Machine in
    let t = terms_of m.first (arc_value c.in_ok-table.table).shared.key in
    let h = c.loop-left.invariant in
    let i = c.loop-left.left-index in
    let lt = c.loop-left-test.true in
    let sits = h.sits ∙ ap (λ l. (view t (lines_from i l) Idle, [])) (drop-cons c.args.quota.now i 0 lt) in
    rw c.deref.ensures (h.at.same, omega (arith, h.at.words), splits_at m.after m.reply_to t _ _ i _ _ sits)

pub loop-left-preserved : goal.loop-left-preserved
loop-left-preserved g c =
    let m = g.M.Machine in
    let t = terms_of m.first (arc_value c.in_ok-table.table).shared.key in
    let h = c.loop-left.invariant in
    let i = c.loop-left.left-index in
    let lt = c.loop-left-test.true in
    let sits = h.sits ∙ ap (λ l. (view t (lines_from i l) Idle, [])) (drop-cons c.args.quota.now i 0 lt) in
    let q = get_or c.args.quota.now i 0 in
    let front = take i c.args.quota.now in
    let number : c.len-number.result ≡ i = c.len-number.ensures ∙ h.len in
    let clone = c.in_ok-try_clone.ensures in
    let cut = cut_at t _ _ i q (drop (suc i) c.args.quota.now) sits c.split_seat-own.ensures.4 in
    let lock = lock_of (arc_value c.in_ok-table.table).shared.table_id t in
    record {
      seats = c.push_reserved.ensures.items
          ∙ (λ j. h.seats j ++ record { lock = lock_of (clone j).shared.table_id (terms_of m.first (clone j).shared.key); number = number j; left = q; calls = calls_in (cut j).0.lines } ∷ [])
          ∙ sym (seats_from_push lock 0 i front q (omega (arith, length-take-le i c.args.quota.now (lt_le lt))))
          ∙ ap (λ l. seats_from lock 0 l) (sym (take_more c.args.quota.now i 0 lt));
      len = omega (arith, c.push_reserved.ensures.len, h.len);
      room = omega (arith, c.push_reserved.ensures.capacity, h.room);
      at = record { same = c.split_seat-own.ensures.0 ∙ h.at.same; words = h.at.words; slots = h.at.slots };
      sits = rw add-one (left_at t _ _ i _ _ sits c.split_seat-own.ensures.2);
    }
