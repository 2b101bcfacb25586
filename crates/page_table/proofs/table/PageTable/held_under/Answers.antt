use Rattle.std.proofs.Common.{◌≡◌, ◌∙◌, sym, ap, arith, Some, get_or, length}
use Rattle.std.specs.List.{position}
use Rattle.page_kept.specs.Kept.{is_held, lent_words}
use Rattle.page_table.specs.Table.{Table}
use Rattle.page_kept.specs.declared.owner.Owner.TheVariants.{Away, Held}
use Rattle.std.proofs.lemmas.List.{get_or_default}
use Rattle.page_table.proofs.Moves.{found_held, found_owner}
use Rattle.page_table.proofs.table.PageTable.held_under.Goals as goal

pub returns-clause-loan : goal.returns-clause-loan
returns-clause-loan c =
    let os = c.self.inside.owners.items in
    let e : position (is_held c.args.tid) os ≡ Some c.in-Some.page = ap (position (is_held c.args.tid)) (sym c.as_slice.ensures.value) ∙ (sym c.first_held.ensures ∙ c.in-Some.is) in
    let f = found_held c.args.tid c.in-Some.page os c.self.inside.copy.items c.index.result.now c.self.invariant e in
    let n : lent_words (get_or os c.in-Some.page c.index.result.now) ≡ c.words_in.result = ap lent_words (sym c.index.ensures) ∙ sym c.words_in.ensures in
    (omega (arith, f.0, ap (λ (t : Table). length t.owners) c.self.view_is), omega (arith, f.1, n), omega (arith, f.2, n))

pub returns-clause-owner : goal.returns-clause-owner
returns-clause-owner c =
    let os = c.self.inside.owners.items in
    let e : position (is_held c.args.tid) os ≡ Some c.in-Some.page = ap (position (is_held c.args.tid)) (sym c.as_slice.ensures.value) ∙ (sym c.first_held.ensures ∙ c.in-Some.is) in
    let f = found_held c.args.tid c.in-Some.page os c.self.inside.copy.items c.index.result.now c.self.invariant e in
    let n : lent_words (get_or os c.in-Some.page c.index.result.now) ≡ c.words_in.result = ap lent_words (sym c.index.ensures) ∙ sym c.words_in.ensures in
    ap (λ (t : Table). get_or t.owners c.in-Some.page Away) (sym c.self.view_is)
    ∙ (found_owner c.args.tid c.in-Some.page os e ∙ ap (Held c.args.tid) (ap lent_words (get_or_default os c.in-Some.page Away c.index.result.now f.0) ∙ n))
