use Rattle.std.proofs.Common.{◌≡◌, ◌<◌, Option, Some, None, length, refl, sym, ap, ◌∙◌, arith}
use Rattle.std.proofs.lemmas.Bool.Decides.{nat_tests}
use Rattle.std.specs.Prelude.{is_some}
use Rattle.page_kept.specs.Kept.{pages_sent}
use Rattle.page_kept.specs.Layouts.{Loan, layout}
use Rattle.ring_core.specs.Pages.{last_words}
use Rattle.page_table.specs.Table.{part_in}
use Rattle.ring_core.specs.Laying.{laid}
use Rattle.worker_port.proofs.PageLaws.{laid_none, nil_by, stores_tell, take_nil}
use Rattle.ring_end_history.proofs.Joining.{came_refl}
use Rattle.worker_port.proofs.CameLaws.{lays_came}
use Rattle.worker_port.proofs.carry.lay_all.Goals as goal

pub returns-then-is_empty-clause-pages : goal.returns-then-is_empty-clause-pages
returns-then-is_empty-clause-pages g c =
    let none : length c.args.words.now ≡ 0 = grind (arith, nat_tests, c.if-is_empty.ensures) in
    sym (ap (laid c.args.end.now.state.pages c.args.packet.now) (nil_by c.args.words.now none) ∙ laid_none c.args.end.now.state.pages c.args.packet.now)

pub returns-then-is_empty-clause-laid : goal.returns-then-is_empty-clause-laid
returns-then-is_empty-clause-laid g c =
    let none : length c.args.words.now ≡ 0 = grind (arith, nat_tests, c.if-is_empty.ensures) in
    record { none = λ e. refl; away = λ e. refl; ran = λ some a e. absurd (some (nil_by c.args.words.now none)) }

pub returns-then-is_empty-clause-words : goal.returns-then-is_empty-clause-words
returns-then-is_empty-clause-words g c = λ _.
    let none : length c.args.words.now ≡ 0 = grind (arith, nat_tests, c.if-is_empty.ensures) in
    let k = c.args.end.now.state.pages in
    take_nil c.args.words.now (last_words (pages_sent (layout k.count) k c.args.packet.now).sent) (nil_by c.args.words.now none)

pub returns-then-is_empty-clause-lends : goal.returns-then-is_empty-clause-lends
returns-then-is_empty-clause-lends g c = c.requires.lays.may

pub returns-then-is_empty-clause-same : goal.returns-then-is_empty-clause-same
returns-then-is_empty-clause-same g c = g.met.S.Seatlike.same_refl _

pub returns-clause-laid : goal.returns-clause-laid
returns-clause-laid g c =
    let some : 0 < length c.args.words.now = grind (arith, nat_tests, c.if-is_empty.ensures) in
    record { none = λ e. absurd (omega (arith, some, ap length e)); away = c.lay.ensures.none; ran = λ _ a e. c.lay.ensures.ran a e }

pub returns-clause-tells : goal.returns-clause-tells
returns-clause-tells g c = by (part_in c.args.end.now.state.pages.owners c.args.packet.now) refl
  where
    by : (o : Option Loan) → part_in c.args.end.now.state.pages.owners c.args.packet.now ≡ o → is_some (g.S.Seatlike.told c.lay.new.self.seat) ≡ is_some (g.S.Seatlike.told c.args.end.now.seat)
    by None e = ap (λ x. is_some (g.S.Seatlike.told x.seat)) (c.lay.ensures.none e)
    by (Some a) e = stores_tell _ _ a.page c.args.words.now _ _ _ _ (c.lay.ensures.ran a e)

pub returns-then-is_empty-clause-came : goal.returns-then-is_empty-clause-came
returns-then-is_empty-clause-came g c = came_refl g.S.Seatlike.tale _

pub returns-clause-came : goal.returns-clause-came
returns-clause-came g c = lays_came g.S.Seatlike.tale g.S.Seatlike.told _ _ c.requires.idle (part_in c.args.end.now.state.pages.owners c.args.packet.now) c.args.words.now c.lay.ensures.none c.lay.ensures.ran
