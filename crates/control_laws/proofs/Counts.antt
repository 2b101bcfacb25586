-- How many channels are offered while a phase starts.
use Rattle.std.proofs.Common.{◌≡◌, ◌≢◌, ◌∙◌, ℕ, zero, suc, ◌+◌, ◌<◌, ◌≤◌, Bool, true, false, ◌||◌, cond, if◌then◌else◌, List, [], ◌∷◌, ◌++◌, length, is_some, Option, Some, None, refl, sym, ap, subst, arith, length-append}
use Rattle.std.specs.List.{AllByRecursion, range_with_len}
use Rattle.std.proofs.lemmas.List.Elements.{filter-append}
use Rattle.control_laws.proofs.Words.{Opening}
use Rattle.control_model.specs.Plan.{BusPlan, IsPlan, is_later, is_sub, first_subs, subs_next, laters, phase_of}
use Rattle.control_model.specs.Stand.{At, offered_before, offered_by, offered_for, count_dialed, before_phase}
use Rattle.control_laws.proofs.Marks.{marked_apart}
use Rattle.control_laws.proofs.Cutting.{all_weaker, all_front}
use Rattle.control_laws.proofs.Plans.{facts}
use Rattle.control_laws.proofs.Relids.{later_is, dialed_later, sub_place, relids, cut, in_range, firsts_have, all_mixed, phase_relids, known_before, offered_grows}

-- a channel is open, and its device's sub-channels are offered
record Count (o : Opening) (left : List Opening) : Type 0 where
  counts : (length (first_subs (o ∷ left)) + count_dialed o.dialed) + length (subs_next (o ∷ left)) ≡ length (laters (o ∷ [])) + length (first_subs left)

one_later : (o : Opening) (b : Bool) → is_later o ≡ b → length (laters (o ∷ [])) ≡ length (cond b (o ∷ []) [])
one_later o b e = ap (λ b. length (cond b (o ∷ []) [])) e

count_one : (o : Opening) (left : List Opening) (dialed : Option ℕ) (b : Bool) → o.dialed ≡ dialed → is_sub o ≡ b → (is_some o.dialed ≡ true → is_sub o ≡ false) → Count o left
count_one o left (Some port) true d e alone = absurd (let wrong : true ≡ false = sym e ∙ alone (ap is_some d) in cc)
count_one o left None true d e alone =
    let b = ap (λ b. length (if b then [] else first_subs left)) e in
    record { counts = omega (arith, (ap (λ b. length (if b then o ∷ first_subs left else [])) e), b, (one_later o true (later_is o ∙ (λ i. is_some (d i) || e i))), ap count_dialed d) }
count_one o left (Some port) false d e alone =
    let b = ap (λ b. length (if b then [] else first_subs left)) e in
    record { counts = omega (arith, (ap (λ b. length (if b then o ∷ first_subs left else [])) e), b, (one_later o true (later_is o ∙ (λ i. is_some (d i) || e i))), ap count_dialed d) }
count_one o left None false d e alone =
    let b = ap (λ b. length (if b then [] else first_subs left)) e in
    record { counts = omega (arith, (ap (λ b. length (if b then o ∷ first_subs left else [])) e), b, (one_later o false (later_is o ∙ (λ i. is_some (d i) || e i))), ap count_dialed d) }

pub count_next : (plan : BusPlan) (phase : ℕ) (done : List Opening) (o : Opening) (left : List Opening) → (is_some o.dialed ≡ true → is_sub o ≡ false) → offered_for plan phase done o left + length (subs_next (o ∷ left)) ≡ offered_by plan phase (done ++ o ∷ []) left
count_next plan phase done o left alone =
    omega (arith, (count_one o left o.dialed (is_sub o) refl refl alone).counts, ap length (filter-append is_later done (o ∷ [])), length-append (laters done) (laters (o ∷ [])))

-- the channel of a service counts among those that are offered later
pub dialed_few : (o : Opening) (dialed : Option ℕ) → o.dialed ≡ dialed → count_dialed o.dialed ≤ length (laters (o ∷ []))
dialed_few o None d = let n = ap count_dialed d in omega (arith, n)
dialed_few o (Some port) d =
    omega (arith, ap count_dialed d, (one_later o true (later_is o ∙ ap (λ x. is_some x || is_sub o) d)))

pub done_known : (plan : BusPlan) (phase place : ℕ) (done : List Opening) (o : Opening) (left : List Opening) → IsPlan plan → At plan phase place done o left → AllByRecursion (λ p. p.relid ≤ offered_by plan phase done (o ∷ left)) done
done_known plan phase place done o left planned at =
    let a : ℕ = offered_before plan phase + 1 in
    let P : List Opening → Type 0 = λ xs. relids xs ≡ range_with_len a (length xs) in
    let ids = phase_relids plan phase planned at.in_plan in
    let mine = in_range a (laters done) (cut a (laters done) (laters (o ∷ left)) (subst P (ap laters at.phase_is ∙ filter-append is_later done (o ∷ left)) ids.subs_are)).front in
    let fresh = subst (AllByRecursion (λ p. (is_later p ≡ false → p.relid ≤ length plan.kinds) × (is_later p ≡ true → offered_before plan phase < p.relid))) at.phase_is ids.fresh in
    let low = firsts_have (λ p. p.relid ≤ length plan.kinds) done (all_weaker (λ p. (is_later p ≡ false → p.relid ≤ length plan.kinds) × (is_later p ≡ true → offered_before plan phase < p.relid)) (λ p. is_later p ≡ false → p.relid ≤ length plan.kinds) (λ p f. f.0) done
    (all_front (λ p. (is_later p ≡ false → p.relid ≤ length plan.kinds) × (is_later p ≡ true → offered_before plan phase < p.relid)) done (o ∷ left) fresh).0) in
    all_mixed (λ p. p.relid ≤ offered_by plan phase done (o ∷ left)) done
    (all_weaker (λ p. p.relid ≤ length plan.kinds) (λ p. p.relid ≤ offered_by plan phase done (o ∷ left)) (λ p l. omega (arith, l)) _ low)
    (all_weaker (λ p. (a ≤ p.relid) × (p.relid < a + length (laters done))) (λ p. p.relid ≤ offered_by plan phase done (o ∷ left)) (λ p b. let h = b.1 in omega (arith, h)) (laters done) mine)

-- the relid of a service's channel is the next one
pub service_at : (plan : BusPlan) (phase place : ℕ) (done : List Opening) (o : Opening) (left : List Opening) → IsPlan plan → At plan phase place done o left → is_some o.dialed ≡ true → o.relid ≡ offered_by plan phase done (o ∷ left) + 1
service_at plan phase place done o left planned at dialed =
    let P : List Opening → Type 0 = λ xs. relids (laters xs) ≡ range_with_len (offered_before plan phase + 1) (length (laters xs)) in
    let none : length (first_subs (o ∷ left)) ≡ 0 = ap (λ b. length (if b then o ∷ first_subs left else [])) ((facts plan phase place done o left planned at).fits.alone dialed) in
    omega (arith, sub_place (offered_before plan phase + 1) done o left (dialed_later o dialed) (subst P at.phase_is (phase_relids plan phase planned at.in_plan).subs_are), none)

-- a channel that isn't offered yet was never opened
pub unopened : {X : Type 0} (plan : BusPlan) (ended : Opening → X) (offered : X) (phase q : ℕ) → IsPlan plan → phase ≤ length plan.phases → offered_before plan phase < q → before_phase plan ended offered phase q ≡ offered
unopened plan ended offered zero q planned few above = refl
unopened plan ended offered (suc phase) q planned few above =
    let less : phase < length plan.phases = omega (arith, few) in
    let known = known_before plan phase (suc phase) planned (omega arith) few in
    marked_apart ended (phase_of plan phase) (before_phase plan ended offered phase) q (all_weaker (λ p. p.relid ≤ offered_before plan (suc phase)) (λ p. p.relid ≢ q) (λ p l e. absurd (omega (arith, l, e, above))) (phase_of plan phase) known)
    ∙ unopened plan ended offered phase q planned (omega (arith, few)) (omega (arith, above, offered_grows plan phase (suc phase) (omega arith) few))
