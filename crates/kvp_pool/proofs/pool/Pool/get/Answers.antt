use Rattle.std.proofs.Common.{◌∙◌, List, ℕ, Some, sym, ap, subst, arith}
use Rattle.std.proofs.lemmas.Option.{slice_get_read}
use Rattle.kvp_pool.specs.Pools.{value_in}
use Rattle.kvp_pool.specs.Kept.{pairs_at, IsThere, IsGap}
use Rattle.kvp_pool.proofs.KeptLaws.{found_pair, filled_at, there_within, value_found, value_absent}
use Rattle.kvp_pool.proofs.pool.Pool.get.Goals as goal

pub index-requires : goal.index-requires
index-requires c =
    let v = c.self.inside.order in
    let there = subst (λ (ps : List ℕ). IsThere c.args.key.now (pairs_at c.self.inside.pairs ps) c.in-Ok.i) c.deref.ensures.value c.in-Ok.ensures in
    omega (arith, there_within c.self.inside.pairs v.items c.args.key.now c.in-Ok.i there, v.ok.0)

pub index-requires-in-Ok : goal.index-requires-in-Ok
index-requires-in-Ok c =
    let v = c.self.inside.order in
    let there = subst (λ (ps : List ℕ). IsThere c.args.key.now (pairs_at c.self.inside.pairs ps) c.in-Ok.i) c.deref.ensures.value c.in-Ok.ensures in
    let at = slice_get_read v.items v.len c.in-Ok.i c.index.result.now v.ok.0 (omega (arith, there_within c.self.inside.pairs v.items c.args.key.now c.in-Ok.i there, v.ok.0)) c.index.ensures in
    filled_at c.self.inside.pairs v.items c.in-Ok.i c.index.result.now c.self.invariant.filled at

pub returns-in-Ok : goal.returns-in-Ok
returns-in-Ok c =
    let s = c.self.inside.pairs in
    let v = c.self.inside.order in
    let key = c.args.key.now in
    let there = subst (λ (ps : List ℕ). IsThere key (pairs_at s ps) c.in-Ok.i) c.deref.ensures.value c.in-Ok.ensures in
    let at = slice_get_read v.items v.len c.in-Ok.i c.index.result.now v.ok.0 (omega (arith, there_within s v.items key c.in-Ok.i there, v.ok.0)) c.index.ensures in
    ap (λ (p : List ℕ × List ℕ). Some p.1) (found_pair s v.items c.in-Ok.i c.index.result.now key c.index-in-Ok.result.now there at c.index-in-Ok.ensures)
    ∙ (sym (value_found (pairs_at s v.items) key c.in-Ok.i c.self.invariant.rising there) ∙ ap (value_in key) c.self.view_is)

pub returns-in-Err : goal.returns-in-Err
returns-in-Err c =
    let s = c.self.inside.pairs in
    let v = c.self.inside.order in
    let key = c.args.key.now in
    let gap = subst (λ (ps : List ℕ). IsGap key (pairs_at s ps) c.in-Err.field-0) c.deref.ensures.value c.in-Err.ensures in
    sym (value_absent (pairs_at s v.items) key c.in-Err.field-0 c.self.invariant.rising gap) ∙ ap (value_in key) c.self.view_is
