use Rattle.std.proofs.Common.{◌≡◌, ◌∙◌, ◌+◌, List, ℕ, ◌<◌, length, true, false, nat_lt, sym, ap, subst, refl, arith}
use Rattle.std.proofs.lemmas.Bool.Decides.{nat_tests}
use Rattle.std.proofs.lemmas.List.{length-map}
use Rattle.std.proofs.lemmas.Option.{slice_get_read}
use Rattle.kvp_pool.specs.Pools.{can_set, with_pair}
use Rattle.kvp_pool.specs.Kept.{pair_at, pairs_at, IsThere, IsGap}
use Rattle.kvp_pool.proofs.KeptLaws.{there_within, settable_found, settable_gap, added, kept_added, replaced, kept_replaced}
use Rattle.kvp_pool.proofs.pool.Pool.set.Goals as goal

below : (n : ℕ) → n < 256 → nat_lt n 256 ≡ true
below n h = grind (arith, nat_tests)

not_below : (n : ℕ) → 256 < n + 1 → nat_lt n 256 ≡ false
not_below n h = grind (arith, nat_tests)

pub index-place-requires : goal.index-place-requires
index-place-requires c =
    let v = c.self.inside.order in
    let there = subst (λ (ps : List ℕ). IsThere c.args.key.now (pairs_at c.self.inside.pairs ps) c.in-Ok.i) c.deref.ensures.value c.in-Ok.ensures in
    omega (arith, there_within c.self.inside.pairs v.items c.args.key.now c.in-Ok.i there, v.ok.0)

pub invariant_of-self : goal.invariant_of-self
invariant_of-self c =
    let s = c.self.inside.pairs in
    let v = c.self.inside.order in
    let there = subst (λ (ps : List ℕ). IsThere c.args.key.now (pairs_at s ps) c.in-Ok.i) c.deref.ensures.value c.in-Ok.ensures in
    let at = slice_get_read v.items v.len c.in-Ok.i c.index-place.result.now v.ok.0 (omega (arith, there_within s v.items c.args.key.now c.in-Ok.i there, v.ok.0)) c.index-place.ensures in
    kept_replaced s v.items c.in-Ok.i c.index-place.result.now v.cap c.args.key.now c.again-pair.result c.index_mut-pair.result.now c.self.invariant at there c.index_mut-pair.ensures.value

pub returns-in-Ok : goal.returns-in-Ok
returns-in-Ok c =
    let s = c.self.inside.pairs in
    let v = c.self.inside.order in
    let there = subst (λ (ps : List ℕ). IsThere c.args.key.now (pairs_at s ps) c.in-Ok.i) c.deref.ensures.value c.in-Ok.ensures in
    let at = slice_get_read v.items v.len c.in-Ok.i c.index-place.result.now v.ok.0 (omega (arith, there_within s v.items c.args.key.now c.in-Ok.i there, v.ok.0)) c.index-place.ensures in (
      ap (can_set c.args.key.now) (sym c.self.view_is) ∙ settable_found (pairs_at s v.items) c.args.key.now c.in-Ok.i c.self.invariant.rising there,
      replaced s v.items c.in-Ok.i c.index-place.result.now v.cap c.args.key.now c.again-pair.result c.index_mut-pair.result.now c.self.invariant at there c.index_mut-pair.ensures.value
          ∙ (ap (λ (w : List ℕ). with_pair c.args.key.now w (pairs_at s v.items)) c.again-pair.ensures.value ∙ ap (with_pair c.args.key.now c.args.value.now) c.self.view_is),
    )

pub returns-then-len-ge-MOST : goal.returns-then-len-ge-MOST
returns-then-len-ge-MOST c =
    let s = c.self.inside.pairs in
    let v = c.self.inside.order in
    let gap = subst (λ (ps : List ℕ). IsGap c.args.key.now (pairs_at s ps) c.in-Err.i) c.deref.ensures.value c.in-Err.ensures in
    let many : 256 < length (pairs_at s v.items) + 1 = omega (arith, c.len.ensures, v.ok.0, c.if-len-ge-MOST.true, length-map v.items (pair_at s)) in
    (ap (can_set c.args.key.now) (sym c.self.view_is) ∙ (settable_gap (pairs_at s v.items) c.args.key.now c.in-Err.i c.self.invariant.rising gap ∙ not_below (length (pairs_at s v.items)) many), refl)

pub invariant_of-self-in-Err : goal.invariant_of-self-in-Err
invariant_of-self-in-Err c =
    let s = c.self.inside.pairs in
    let v = c.self.inside.order in
    let w = c.insert.new.self in
    let gap = subst (λ (ps : List ℕ). IsGap c.args.key.now (pairs_at s ps) c.in-Err.i) c.deref.ensures.value c.in-Err.ensures in
    let gap_2 = subst (λ (k : List ℕ). IsGap k (pairs_at s v.items) c.in-Err.i) (sym c.again.ensures.value) gap in
    let did = c.insert_reserved-place.ensures in
    kept_added s c.insert_reserved-place.new.self v.items w.items c.in-Err.i c.insert_reserved-place.result v.cap c.again.result c.again-in-Err.result c.self.invariant did.updates did.was_vacant gap_2 c.in-Ok-insert.ensures.items did.len did.capacity
    (omega (arith, c.in-Ok-insert.ensures.len, v.ok.0, w.ok.0)) (omega (arith, c.len.ensures, v.ok.0, c.if-len-ge-MOST.false)) w.cap (omega (arith, c.self.invariant.room, c.in-Ok-insert.ensures.capacity))

pub returns-in-Ok-insert : goal.returns-in-Ok-insert
returns-in-Ok-insert c =
    let s = c.self.inside.pairs in
    let v = c.self.inside.order in
    let w = c.insert.new.self in
    let gap = subst (λ (ps : List ℕ). IsGap c.args.key.now (pairs_at s ps) c.in-Err.i) c.deref.ensures.value c.in-Err.ensures in
    let gap_2 = subst (λ (k : List ℕ). IsGap k (pairs_at s v.items) c.in-Err.i) (sym c.again.ensures.value) gap in
    let did = c.insert_reserved-place.ensures in
    let few : length (pairs_at s v.items) < 256 = omega (arith, c.len.ensures, v.ok.0, c.if-len-ge-MOST.false, length-map v.items (pair_at s)) in (
      ap (can_set c.args.key.now) (sym c.self.view_is) ∙ (settable_gap (pairs_at s v.items) c.args.key.now c.in-Err.i c.self.invariant.rising gap ∙ below (length (pairs_at s v.items)) few),
      added s c.insert_reserved-place.new.self v.items w.items c.in-Err.i c.insert_reserved-place.result v.cap c.again.result c.again-in-Err.result c.self.invariant did.updates did.was_vacant gap_2 c.in-Ok-insert.ensures.items
          ∙ ((λ i. with_pair (c.again.ensures.value i) (c.again-in-Err.ensures.value i) (pairs_at s v.items)) ∙ ap (with_pair c.args.key.now c.args.value.now) c.self.view_is),
    )
