use Rattle.std.proofs.Common.{[], ◌∷◌, ◌++◌, ◌∙◌, sym, ap, subst, arith, append_assoc, append-nil}
use Rattle.std.specs.Arc.{arc_value}
use Rattle.hist_lock.specs.Rule.{view}
use Rattle.hist_lock.specs.Plays.{Took}
use Rattle.hist_lock.specs.Sitting.{terms_of, lines_of}
use Rattle.hist_lock.specs.declared.view.Stage.TheVariants.{Idle}
use Rattle.hist_lock.proofs.Closing.{is_of, alone, joins_at, joined_at, covers, all_gone, lock_at, closes, same_setup, leaves}
use Rattle.hist_lock.proofs.lock.HistLock.close.Goals as goal

pub loop-next-init : goal.loop-next-init
loop-next-init g c =
    let shared = (arc_value c.last.inside.table).shared in
    let items = c.in-Some.ensures.items in
    let last = c.in-Some.last in
    record {
      gone = last ∷ [];
      parts = sym items;
      ours = λ h. sym (is_of c.args.seats.items c.pop.new.self.items last [] (append-nil _ ∙ sym items) h) ∙ sym (ap (λ s. s.lock) c.last.view_is);
      at = c.last.invariant.at;
      sits = alone g.M.Machine.first (terms_of g.M.Machine.first shared.key) shared.table_id _ _ last c.last.inside.number c.last.inside.left c.last.view_is c.last.invariant;
    }

pub join_seat-requires : goal.join_seat-requires
join_seat-requires g c =
    let m = g.M.Machine in
    let shared = (arc_value c.last.inside.table).shared in
    let theirs = (arc_value c.next.inside.table).shared in
    let t = terms_of m.first shared.key in
    let u = terms_of m.first theirs.key in
    let h = c.loop-next.invariant in
    let next = c.in-Some-pop.next in
    let parts = ap (λ l. l ++ h.gone) (sym c.in-Some-pop.ensures.items) ∙ h.parts in
    let lock = ap (λ s. s.lock) c.next.view_is ∙ (is_of c.args.seats.items c.pop-in-loop-next.new.self.items next h.gone parts c.requires ∙ h.ours c.requires) in
    let you = alone m.first u theirs.table_id _ _ next c.next.inside.number c.next.inside.left c.next.view_is c.next.invariant in
    rw c.deref.ensures (
      h.at.same,
      c.next.invariant.at.same ∙ ap (λ l. l.name) lock,
      ap (λ x. x.1) you,
      omega (arith, h.at.words),
      joins_at m.after m.reply_to t u _ _ _ _ (lines_of h.gone) (lines_of (next ∷ [])) h.sits you,
    )

pub loop-next-preserved : goal.loop-next-preserved
loop-next-preserved g c =
    let m = g.M.Machine in
    let shared = (arc_value c.last.inside.table).shared in
    let theirs = (arc_value c.next.inside.table).shared in
    let t = terms_of m.first shared.key in
    let u = terms_of m.first theirs.key in
    let h = c.loop-next.invariant in
    let next = c.in-Some-pop.next in
    let parts = ap (λ l. l ++ h.gone) (sym c.in-Some-pop.ensures.items) ∙ h.parts in
    let you = alone m.first u theirs.table_id _ _ next c.next.inside.number c.next.inside.left c.next.view_is c.next.invariant in
    let joined = c.join_seat.ensures in
    record {
      gone = next ∷ h.gone;
      parts = sym (append_assoc c.pop-in-loop-next.new.self.items (next ∷ []) h.gone) ∙ parts;
      ours = h.ours;
      at = record { same = joined.0 ∙ h.at.same; words = h.at.words; slots = h.at.slots };
      sits = joined_at t u next h.gone _ _ _ h.sits you joined.2;
    }

pub end-state-requires-clause-all : goal.end-state-requires-clause-all
end-state-requires-clause-all g c =
    let m = g.M.Machine in
    let shared = (arc_value c.last.inside.table).shared in
    let t = terms_of m.first shared.key in
    let h = c.loop-next.invariant in
    let gone = all_gone c.loop-next.seats.items h.gone c.args.seats.items (omega (arith, c.in_default-pop.ensures.cases, c.loop-next.seats.ok.0)) h.parts in
    rw c.deref-2.ensures (lines_of c.args.seats.items, covers t shared.table_id c.args.seats.items c.requires (h.ours c.requires), h.sits ∙ ap (λ l. (view t (lines_of l) Idle, [])) gone)

pub returns-clause-closes : goal.returns-clause-closes
returns-clause-closes g c =
    let m = g.M.Machine in
    let shared = (arc_value c.last.inside.table).shared in
    let t = terms_of m.first shared.key in
    let h = c.loop-next.invariant in
    let gone = all_gone c.loop-next.seats.items h.gone c.args.seats.items (omega (arith, c.in_default-pop.ensures.cases, c.loop-next.seats.ok.0)) h.parts in
    let took = rw c.deref-2.ensures at c.end-state.ensures in
    let lines = ap (λ x. x.0.lines) h.sits ∙ ap (λ l. lines_of l) gone in
    closes m.after m.reply_to t shared.table_id c.args.seats.items c.requires took.0 c.end-state.result (h.ours c.requires) (subst (λ ls. Took m.after m.reply_to t took.0 c.end-state.result ls) lines took.1)

pub returns-clause-leaves : goal.returns-clause-leaves
returns-clause-leaves g c =
    let m = g.M.Machine in
    let t = terms_of m.first (arc_value c.last.inside.table).shared.key in
    let took = rw c.deref-2.ensures at c.end-state.ensures in
    leaves m.first m.after m.reply_to t took.0 c.end-state.result _ (same_setup m.first m.after g.met.M.Machine.keeps_setup t c.last.invariant.settled _ c.end-state.result took.1.fits) took.1

pub returns-clause-first : goal.returns-clause-first
returns-clause-first g c k s at =
    let m = g.M.Machine in
    let t = terms_of m.first (arc_value c.last.inside.table).shared.key in
    let took = rw c.deref-2.ensures at c.end-state.ensures in
    same_setup m.first m.after g.met.M.Machine.keeps_setup t c.last.invariant.settled _ c.end-state.result took.1.fits
    ∙ ap (λ l. l.first) (sym (c.loop-next.invariant.ours c.requires)) ∙ ap (λ l. l.first) (sym (lock_at c.args.seats.items c.requires k s at))
