use Rattle.std.proofs.Common.{◌≡◌, ◌∙◌, length, ap, arith, ◌*◌, ◌+◌, List, ℕ}
use Rattle.std.specs.Prelude.{slice_range}
use Rattle.page_table.specs.Table.{Table}
use Rattle.page_table.proofs.Words.{part_is}
use Rattle.page_table.proofs.table.PageTable.words.Goals as goal

pub returns : goal.returns
returns c =
    let q = c.args.loan.page in
    let n = c.args.loan.words in
    let ok = c.self.invariant in
    let copy : c.self.inside.copy.items ≡ c.args.self.now.copy = ap (λ (t : Table). t.copy) c.self.view_is in
    let owners : c.self.inside.owners.items ≡ c.args.self.now.owners = ap (λ (t : Table). t.owners) c.self.view_is in
    ap (λ (xs : List ℕ). slice_range xs (512 * q) (512 * q + n)) (c.deref.ensures.value ∙ copy) ∙ part_is c.args.self.now.copy q n c.requires.words (omega (arith, c.requires.page, c.requires.words, ok.copied, ap length owners, ap length copy))
