use Rattle.std.proofs.Common.{◌≡◌, [], ap, ◌-◌, length, arith, subst, ◌∙◌, sym, Some}
use Rattle.std.specs.Prelude.{slice_get}
use Rattle.page_kept.specs.Items.{item_of}
use Rattle.worker_port.specs.Line.{words_at}
use Rattle.worker_port.proofs.PortLaws.{last_is}
use Rattle.worker_port.proofs.port.Port.last.Goals as goal

pub returns-clause-value : goal.returns-clause-value
returns-clause-value g c =
    λ before p e.
    let i = c.got_len.result - 1 in
    let at = words_at c.args.self.now.end.state.pages.got in
    let same = ap (λ n. n - 1) c.got_len.ensures in
    let q = g.T.Protocol.said (item_of c.got.result.now (at i)) in
    ap (λ n. g.T.Protocol.said (item_of c.got.result.now (at n))) (sym same) ∙ last_is before p q i (omega (arith, c.requires, c.got_len.ensures, ap length e)) (subst (λ l. slice_get l i ≡ Some q) e c.got.ensures.value)

pub returns-clause-bare : goal.returns-clause-bare
returns-clause-bare g c =
    λ z before p e.
    let i = c.got_len.result - 1 in
    let q = g.T.Protocol.said (item_of c.got.result.now []) in
    last_is before p q i (omega (arith, c.requires, c.got_len.ensures, ap length e)) (subst (λ l. slice_get l i ≡ Some q) e (c.got.ensures.bare z))
