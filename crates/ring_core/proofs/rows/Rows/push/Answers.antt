use Rattle.std.proofs.Common.{◌≡◌, ◌++◌, ◌+◌, ◌∷◌, [], ◌∙◌, length, length-append, ap, arith}
use Rattle.ring_core.proofs.CutLaws.{rises_more, cut_more}
use Rattle.ring_core.proofs.rows.Rows.push.Goals as goal

pub invariant_of-self : goal.invariant_of-self
invariant_of-self c =
    let p = c.self.inside in
    let q = c.args.packet.now in
    let end : c.len.result ≡ length p.words.items + length q = omega (arith, c.len.ensures, c.append.new.words.ok.0, ap length c.append.ensures.items, length-append p.words.items q) in
    rw (c.push_reserved.ensures.items, c.append.ensures.items, length-append p.words.items q, end) (rises_more 0 p.ends.items (length p.words.items) (length q) c.self.invariant)

pub returns-clause-list : goal.returns-clause-list
returns-clause-list c =
    let p = c.self.inside in
    let q = c.args.packet.now in
    let end : c.len.result ≡ length p.words.items + length q = omega (arith, c.len.ensures, c.append.new.words.ok.0, ap length c.append.ensures.items, length-append p.words.items q) in
    rw (c.push_reserved.ensures.items, c.append.ensures.items, end) (cut_more 0 p.ends.items p.words.items q c.self.invariant) ∙ ap (λ h. h.list ++ q ∷ []) c.self.view_is
