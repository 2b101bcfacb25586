use Rattle.std.proofs.Common.{◌≡◌, ◌<◌, length, take, get_or, refl, sym, ◌∙◌, arith, append-nil}
use Rattle.std.proofs.lemmas.List.{drop_all, drop-set-lt}
use Rattle.vm_page.proofs.CutLaws.{first_part, parts_of, cut_more, cut_is}
use Rattle.vm_page.proofs.cut.cut.Goals as goal

pub loop-i-preserved : goal.loop-i-preserved
loop-i-preserved c =
    let i = c.loop-i.i in
    let inv = c.loop-i.invariant in
    let pages = c.args.pages.now in
    let some : 0 < c.loop-i.left = inv.2 c.loop-i-test.true in
    let part = first_part c.loop-i.from c.loop-i.left (get_or pages i 0) in
    rw c.min-part.ensures (
      omega arith,
      omega (arith, inv.1),
      λ later. omega (arith, inv.1),
      cut_more c.loop-i.out _ pages i c.loop-i.from c.loop-i.left part (omega arith) (omega arith) refl inv.3,
      drop-set-lt (length pages) c.loop-i.out i part (omega arith) ∙ inv.4,
    )

pub returns-clause-parts : goal.returns-clause-parts
returns-clause-parts c =
    let pages = c.args.pages.now in
    let n = length pages in
    let at : c.loop-i.i ≡ n = omega arith in
    let all = rw at at c.loop-i.invariant.3 in
    let none = drop_all n pages (omega arith) in
    let parts : take n c.loop-i.out ≡ parts_of c.args.offset c.args.len pages = sym (append-nil (take n c.loop-i.out)) ∙ rw none at all in
    rw parts (cut_is c.args.offset c.args.len pages c.requires.begins c.requires.some c.requires.pages)
