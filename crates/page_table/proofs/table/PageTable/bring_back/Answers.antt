use Rattle.std.proofs.Common.{◌≡◌, ◌∙◌, sym, ap, arith, length-set, Some, get_or}
use Rattle.std.specs.List.{position}
use Rattle.page_kept.specs.Kept.{is_lent, lent_words}
use Rattle.page_kept.specs.declared.owner.Owner.TheVariants.{Has}
use Rattle.page_table.proofs.Moves.{found_lent}
use Rattle.page_table.proofs.table.PageTable.bring_back.Goals as goal

pub returns-clause-loan : goal.returns-clause-loan
returns-clause-loan c =
    let os = c.self.inside.owners.items in
    let e : position (is_lent c.args.tid) os ≡ Some c.in-Some.page = ap (position (is_lent c.args.tid)) (sym c.as_slice.ensures.value) ∙ (sym c.first_lent.ensures ∙ c.in-Some.is) in
    let f = found_lent c.args.tid c.in-Some.page os c.self.inside.copy.items c.index.result.now c.self.invariant e in
    let n : lent_words (get_or os c.in-Some.page c.index.result.now) ≡ c.words_in-words.result = ap lent_words (sym c.index.ensures) ∙ sym c.words_in-words.ensures in
    (omega (arith, f.0, length-set os c.in-Some.page Has), omega (arith, f.1, n), omega (arith, f.2, n))
