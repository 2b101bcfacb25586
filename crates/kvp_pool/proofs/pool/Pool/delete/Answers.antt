use Rattle.std.proofs.Common.{◌∙◌, List, [], ℕ, is_some, sym, ap, subst, arith}
use Rattle.std.proofs.lemmas.Option.{slice_get_read}
use Rattle.kvp_pool.specs.Pools.{value_in, without}
use Rattle.kvp_pool.specs.Kept.{pairs_at, IsThere, IsGap}
use Rattle.kvp_pool.proofs.MapLaws.{remove_absent}
use Rattle.kvp_pool.proofs.KeptLaws.{filled_at, there_within, value_found, value_absent, removed, kept_removed}
use Rattle.std.specs.BTreeMap.{is_at}
use Rattle.kvp_pool.specs.Pools.{key_order}
use Rattle.kvp_pool.proofs.pool.Pool.delete.Goals as goal

pub remove-place-requires : goal.remove-place-requires
remove-place-requires c =
    let v = c.self.inside.order in
    let there = subst (λ (ps : List ℕ). IsThere c.args.key.now (pairs_at c.self.inside.pairs ps) c.in-Ok.i) c.deref.ensures.value c.in-Ok.ensures in
    omega (arith, there_within c.self.inside.pairs v.items c.args.key.now c.in-Ok.i there, v.ok.0)

pub remove-requires : goal.remove-requires
remove-requires c =
    let s = c.self.inside.pairs in
    let v = c.self.inside.order in
    let there = subst (λ (ps : List ℕ). IsThere c.args.key.now (pairs_at s ps) c.in-Ok.i) c.deref.ensures.value c.in-Ok.ensures in
    let at = slice_get_read v.items v.len c.in-Ok.i c.remove-place.result v.ok.0 (omega (arith, there_within s v.items c.args.key.now c.in-Ok.i there, v.ok.0)) c.remove-place.ensures.value in
    filled_at s v.items c.in-Ok.i c.remove-place.result c.self.invariant.filled at

pub invariant_of-self : goal.invariant_of-self
invariant_of-self c =
    let s = c.self.inside.pairs in
    let v = c.self.inside.order in
    let w = c.remove-place.new.self in
    let there = subst (λ (ps : List ℕ). IsThere c.args.key.now (pairs_at s ps) c.in-Ok.i) c.deref.ensures.value c.in-Ok.ensures in
    let at = slice_get_read v.items v.len c.in-Ok.i c.remove-place.result v.ok.0 (omega (arith, there_within s v.items c.args.key.now c.in-Ok.i there, v.ok.0)) c.remove-place.ensures.value in
    let did = c.remove.ensures in
    let kept = kept_removed s c.remove.new.self v.items w.items c.in-Ok.i c.remove-place.result v.cap c.args.key.now [] c.self.invariant did.updates at there c.remove-place.ensures.items did.len did.capacity (omega (arith, c.remove-place.ensures.len, v.ok.0, w.ok.0)) in
    record {
      filled = kept.filled;
      rising = kept.rising;
      count = kept.count;
      few = kept.few;
      places = kept.places;
      room = omega (arith, kept.room, c.remove-place.ensures.capacity);
    }

pub returns-in-Ok-clause-was : goal.returns-in-Ok-clause-was
returns-in-Ok-clause-was c =
    let s = c.self.inside.pairs in
    let v = c.self.inside.order in
    let there = subst (λ (ps : List ℕ). IsThere c.args.key.now (pairs_at s ps) c.in-Ok.i) c.deref.ensures.value c.in-Ok.ensures in
    sym (ap is_some (ap (value_in c.args.key.now) (sym c.self.view_is) ∙ value_found (pairs_at s v.items) c.args.key.now c.in-Ok.i c.self.invariant.rising there))

pub returns-in-Ok-clause-left : goal.returns-in-Ok-clause-left
returns-in-Ok-clause-left c =
    let s = c.self.inside.pairs in
    let v = c.self.inside.order in
    let w = c.remove-place.new.self in
    let there = subst (λ (ps : List ℕ). IsThere c.args.key.now (pairs_at s ps) c.in-Ok.i) c.deref.ensures.value c.in-Ok.ensures in
    let at = slice_get_read v.items v.len c.in-Ok.i c.remove-place.result v.ok.0 (omega (arith, there_within s v.items c.args.key.now c.in-Ok.i there, v.ok.0)) c.remove-place.ensures.value in
    removed s c.remove.new.self v.items w.items c.in-Ok.i c.remove-place.result v.cap c.args.key.now [] c.self.invariant c.remove.ensures.updates at there c.remove-place.ensures.items
    ∙ ap (without c.args.key.now) c.self.view_is

pub returns-in-Err-clause-was : goal.returns-in-Err-clause-was
returns-in-Err-clause-was c =
    let s = c.self.inside.pairs in
    let v = c.self.inside.order in
    let gap = subst (λ (ps : List ℕ). IsGap c.args.key.now (pairs_at s ps) c.in-Err.field-0) c.deref.ensures.value c.in-Err.ensures in
    sym (ap is_some (ap (value_in c.args.key.now) (sym c.self.view_is) ∙ value_absent (pairs_at s v.items) c.args.key.now c.in-Err.field-0 c.self.invariant.rising gap))

pub returns-in-Err-clause-left : goal.returns-in-Err-clause-left
returns-in-Err-clause-left c =
    let s = c.self.inside.pairs in
    let v = c.self.inside.order in
    let gap = subst (λ (ps : List ℕ). IsGap c.args.key.now (pairs_at s ps) c.in-Err.field-0) c.deref.ensures.value c.in-Err.ensures in
    let none = ap (value_in c.args.key.now) (sym c.self.view_is) ∙ value_absent (pairs_at s v.items) c.args.key.now c.in-Err.field-0 c.self.invariant.rising gap in
    sym (remove_absent (is_at (key_order c.args.key.now)) c.args.self.now none)
