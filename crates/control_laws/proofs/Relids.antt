-- The relids of a plan's openings: those of channels that are offered at the contact are those of the offers, and each one that is offered later has one of its own, behind all earlier ones.
use Rattle.std.proofs.Common.{◌≡◌, ◌≢◌, ◌∙◌, ℕ, zero, suc, ◌+◌, ◌<◌, ◌≤◌, ◌==◌, Bool, true, false, not, ◌&&◌, ◌||◌, is_some, cond, List, [], ◌∷◌, ◌++◌, All, length, map, take, drop, nat_le, refl, sym, ap, subst, arith, length-append}
use Rattle.std.specs.List.{AllByRecursion, range_with_len}
use Rattle.std.proofs.lemmas.List.{take_all}
use Rattle.std.proofs.lemmas.List.Elements.{All-get_or, filter-append}
use Rattle.std.proofs.lemmas.Bool.Decides.{nat_tests}
use Rattle.control_laws.proofs.Words.{Opening}
use Rattle.control_model.specs.Plan.{BusPlan, IsPlan, Rising, at_contact, is_later, is_sub, firsts, laters, phase_of, all_openings}
use Rattle.control_model.specs.Said.{channel_count}
use Rattle.control_model.specs.Stand.{offered_before}
use Rattle.control_laws.proofs.Marks.{by_test, or_true}
use Rattle.control_laws.proofs.Closing.{Distinct}
use Rattle.control_laws.proofs.Cutting.{all_weaker, openings_more, openings_cut, above, by_all, both}

-- a list with these relids, cut in two
pub record Cut (a : ℕ) (xs ys : List Opening) : Type 0 where
  pub front : map (λ o. o.relid) xs ≡ range_with_len a (length xs)
  pub back : map (λ o. o.relid) ys ≡ range_with_len (a + length xs) (length ys)

abbrev pub relids : List Opening → List ℕ
relids os = map (λ o. o.relid) os

pub cut : (a : ℕ) (xs ys : List Opening) → relids (xs ++ ys) ≡ range_with_len a (length (xs ++ ys)) → Cut a xs ys
cut a [] ys e = let none : a ≡ a + 0 = omega arith in record { front = refl; back = e ∙ ap (λ k. range_with_len k (length ys)) none }
cut a (x ∷ xs) ys e =
    let first : x.relid ≡ a = cc in
    let more : relids (xs ++ ys) ≡ range_with_len (a + 1) (length (xs ++ ys)) = cc in
    let rest = cut (a + 1) xs ys more in
    let sum : (a + 1) + length xs ≡ a + suc (length xs) = omega arith in
    let front = rest.front in
    record { front = (λ i. first i ∷ front i); back = rest.back ∙ ap (λ k. range_with_len k (length ys)) sum }

-- they lie in the range, and no two are the same
pub in_range : (a : ℕ) (xs : List Opening) → relids xs ≡ range_with_len a (length xs) → AllByRecursion (λ p. (a ≤ p.relid) × (p.relid < a + length xs)) xs
in_range a [] e = tt
in_range a (x ∷ xs) e =
    let first : x.relid ≡ a = cc in
    let more : relids xs ≡ range_with_len (a + 1) (length xs) = cc in
    ((omega (arith, first), omega (arith, first)), all_weaker (λ p. (a + 1 ≤ p.relid) × (p.relid < (a + 1) + length xs)) (λ p. (a ≤ p.relid) × (p.relid < a + suc (length xs))) (λ p b. let low = b.0 in let high = b.1 in (omega (arith, low), omega (arith, high))) xs (in_range (a + 1) xs more))

range_distinct : (a : ℕ) (xs : List Opening) → relids xs ≡ range_with_len a (length xs) → Distinct (λ o. o.relid) xs
range_distinct a [] e = tt
range_distinct a (x ∷ xs) e =
    let first : x.relid ≡ a = cc in
    let more : relids xs ≡ range_with_len (a + 1) (length xs) = cc in
    (all_weaker (λ p. (a + 1 ≤ p.relid) × (p.relid < (a + 1) + length xs)) (λ p. p.relid ≢ x.relid) (λ p b same. let low = b.0 in absurd (omega (arith, low, same, first))) xs (in_range (a + 1) xs more), range_distinct (a + 1) xs more)

rising_distinct : (least : ℕ) (xs : List Opening) → Rising least xs → Distinct (λ o. o.relid) xs
rising_distinct least [] rises = tt
rising_distinct least (x ∷ xs) rises =
    (all_weaker (λ p. x.relid + 1 ≤ p.relid) (λ p. p.relid ≢ x.relid) (λ p low e. absurd (omega (arith, low, e))) xs (above (x.relid + 1) (x.relid + 1) xs (omega arith) rises.1), rising_distinct (x.relid + 1) xs rises.1)

-- a channel is offered later where the guest asks for its service, or where it is a sub-channel
or_right : (a b : Bool) → not (not a && b) ≡ (a || not b)
or_right true b = refl
or_right false b = refl

pub later_is : (o : Opening) → is_later o ≡ (is_some o.dialed || is_sub o)
later_is o = or_right (is_some o.dialed) (o.sub == 0)

pub sub_later : (o : Opening) → is_sub o ≡ true → is_later o ≡ true
sub_later o e = later_is o ∙ ap (λ b. is_some o.dialed || b) e ∙ or_true (is_some o.dialed)

pub dialed_later : (o : Opening) → is_some o.dialed ≡ true → is_later o ≡ true
dialed_later o e = later_is o ∙ ap (λ b. b || is_sub o) e

-- what holds of those that are offered at the contact and of the others holds of all
mixed_one : (Q : Opening → Type 0) (o : Opening) (os : List Opening) (b : Bool) → (AllByRecursion Q (firsts os) → AllByRecursion Q (laters os) → AllByRecursion Q os) → AllByRecursion Q (cond b (o ∷ firsts os) (firsts os)) → AllByRecursion Q (cond (not b) (o ∷ laters os) (laters os)) → Q o × AllByRecursion Q os
mixed_one Q o os true rest f s = (f.0, rest f.1 s)
mixed_one Q o os false rest f s = (s.0, rest f s.1)

pub all_mixed : (Q : Opening → Type 0) (os : List Opening) → AllByRecursion Q (firsts os) → AllByRecursion Q (laters os) → AllByRecursion Q os
all_mixed Q [] f s = tt
all_mixed Q (o ∷ os) f s = mixed_one Q o os (at_contact o) (all_mixed Q os) f s

distinct_one : (K : ℕ) (o : Opening) (os : List Opening) (b : Bool) → (Distinct (λ p. p.relid) (firsts os) → Distinct (λ p. p.relid) (laters os) → AllByRecursion (λ p. p.relid ≤ K) (firsts os) → AllByRecursion (λ p. K < p.relid) (laters os) → Distinct (λ p. p.relid) os)
    → Distinct (λ p. p.relid) (cond b (o ∷ firsts os) (firsts os)) → Distinct (λ p. p.relid) (cond (not b) (o ∷ laters os) (laters os)) → AllByRecursion (λ p. p.relid ≤ K) (cond b (o ∷ firsts os) (firsts os)) → AllByRecursion (λ p. K < p.relid) (cond (not b) (o ∷ laters os) (laters os))
    → AllByRecursion (λ p. p.relid ≢ o.relid) os × Distinct (λ p. p.relid) os
distinct_one K o os true rest f s low high =
    (all_mixed (λ p. p.relid ≢ o.relid) os f.0 (all_weaker (λ p. K < p.relid) (λ p. p.relid ≢ o.relid) (λ p more e. let less = low.0 in absurd (omega (arith, more, less, e))) (laters os) high), rest f.1 s low.1 high)
distinct_one K o os false rest f s low high =
    (all_mixed (λ p. p.relid ≢ o.relid) os (all_weaker (λ p. p.relid ≤ K) (λ p. p.relid ≢ o.relid) (λ p less e. let more = high.0 in absurd (omega (arith, more, less, e))) (firsts os) low) s.0, rest f s.1 low high.1)

distinct_mixed : (K : ℕ) (os : List Opening) → Distinct (λ p. p.relid) (firsts os) → Distinct (λ p. p.relid) (laters os) → AllByRecursion (λ p. p.relid ≤ K) (firsts os) → AllByRecursion (λ p. K < p.relid) (laters os) → Distinct (λ p. p.relid) os
distinct_mixed K [] f s low high = tt
distinct_mixed K (o ∷ os) f s low high = distinct_one K o os (at_contact o) (distinct_mixed K os) f s low high

-- and back
sub_back_one : (Q : Opening → Type 0) (o : Opening) (os : List Opening) (b : Bool) → is_later o ≡ b → AllByRecursion Q (cond b (o ∷ laters os) (laters os)) → (is_later o ≡ true → Q o) × AllByRecursion Q (laters os)
sub_back_one Q o os true e all = ((λ it. all.0), all.1)
sub_back_one Q o os false e all = ((λ it. absurd (let wrong : true ≡ false = sym it ∙ e in cc)), all)

pub subs_back : (Q : Opening → Type 0) (os : List Opening) → AllByRecursion Q (laters os) → AllByRecursion (λ o. is_later o ≡ true → Q o) os
subs_back Q [] all = tt
subs_back Q (o ∷ os) all = let one = sub_back_one Q o os (is_later o) refl all in (one.0, subs_back Q os one.1)

two : (P Q : Opening → Type 0) (os : List Opening) → AllByRecursion P os → AllByRecursion Q os → AllByRecursion (λ o. P o × Q o) os
two P Q [] p q = tt
two P Q (o ∷ os) p q = ((p.0, q.0), two P Q os p.1 q.1)

-- the relid of one that is offered later among those of these openings
sub_at_one : (a : ℕ) (p o : Opening) (done left : List Opening) (b : Bool) → ((a : ℕ) → relids (laters (done ++ o ∷ left)) ≡ range_with_len a (length (laters (done ++ o ∷ left))) → o.relid ≡ a + length (laters done))
    → relids (cond b (p ∷ laters (done ++ o ∷ left)) (laters (done ++ o ∷ left))) ≡ range_with_len a (length (cond b (p ∷ laters (done ++ o ∷ left)) (laters (done ++ o ∷ left)))) → o.relid ≡ a + length (cond b (p ∷ laters done) (laters done))
sub_at_one a p o done left true rest e =
    let more : relids (laters (done ++ o ∷ left)) ≡ range_with_len (a + 1) (length (laters (done ++ o ∷ left))) = cc in
    omega (arith, rest (a + 1) more)
sub_at_one a p o done left false rest e = rest a e

pub sub_place : (a : ℕ) (done : List Opening) (o : Opening) (left : List Opening) → is_later o ≡ true → relids (laters (done ++ o ∷ left)) ≡ range_with_len a (length (laters (done ++ o ∷ left))) → o.relid ≡ a + length (laters done)
sub_place a [] o left sub e =
    let P : List Opening → Type 0 = λ xs. relids xs ≡ range_with_len a (length xs) in
    let there : P (o ∷ laters left) = subst P (ap (λ b. cond b (o ∷ laters left) (laters left)) sub) e in
    let first : o.relid ≡ a = cc in
    omega (arith, first)
sub_place a (p ∷ done) o left sub e = sub_at_one a p o done left (is_later p) (λ b f. sub_place b done o left sub f) e

-- those that are offered at the contact among those of which each such one keeps something
first_if : (Q : Opening → Type 0) (o : Opening) (os : List Opening) (b : Bool) → (at_contact o) ≡ b → (is_later o ≡ false → Q o) → AllByRecursion Q (firsts os) → AllByRecursion Q (cond b (o ∷ firsts os) (firsts os))
first_if Q o os true e here rest = (here (ap not e), rest)
first_if Q o os false e here rest = rest

pub firsts_have : (Q : Opening → Type 0) (os : List Opening) → AllByRecursion (λ o. is_later o ≡ false → Q o) os → AllByRecursion Q (firsts os)
firsts_have Q [] all = tt
firsts_have Q (o ∷ os) all = first_if Q o os (at_contact o) refl all.0 (firsts_have Q os all.1)

-- what a plan says of the relids of a phase
pub record PhaseRelids (plan : BusPlan) (k : ℕ) : Type 0 where
  pub subs_are : relids (laters (phase_of plan k)) ≡ range_with_len (offered_before plan k + 1) (length (laters (phase_of plan k)))
  pub earlier_are : relids (laters (all_openings (take k plan.phases))) ≡ range_with_len (length plan.kinds + 1) (length (laters (all_openings (take k plan.phases))))
  pub few : AllByRecursion (λ p. p.relid ≤ length plan.kinds) (firsts (phase_of plan k))
  pub distinct : Distinct (λ o. o.relid) (phase_of plan k)
  pub known : AllByRecursion (λ p. p.relid ≤ offered_before plan (suc k)) (phase_of plan k)
  pub fresh : AllByRecursion (λ p. (is_later p ≡ false → p.relid ≤ length plan.kinds) × (is_later p ≡ true → offered_before plan k < p.relid)) (phase_of plan k)

pub offered_more : (plan : BusPlan) (k : ℕ) → k < length plan.phases → offered_before plan (suc k) ≡ offered_before plan k + length (laters (phase_of plan k))
offered_more plan k less =
    let sum = length-append (laters (all_openings (take k plan.phases))) (laters (phase_of plan k)) in
    omega (arith, (ap (λ os. length (laters os)) (openings_more plan.phases k less)), ap length (filter-append is_later (all_openings (take k plan.phases)) (phase_of plan k)), sum)

pub phase_relids : (plan : BusPlan) (k : ℕ) → IsPlan plan → k < length plan.phases → PhaseRelids plan k
phase_relids plan k planned less =
    let os : List Opening = phase_of plan k in
    let before : List Opening = all_openings (take k plan.phases) in
    let behind : List Opening = all_openings (drop (suc k) plan.phases) in
    let K : ℕ = length plan.kinds in
    let P : List Opening → Type 0 = λ xs. relids xs ≡ range_with_len (K + 1) (length xs) in
    let apart : laters (all_openings plan.phases) ≡ laters before ++ (laters os ++ laters behind) =
    ap laters (openings_cut plan.phases k less) ∙ filter-append is_later before (os ++ behind) ∙ ap (λ xs. laters before ++ xs) (filter-append is_later os behind) in
    let one = cut (K + 1) (laters before) (laters os ++ laters behind) (subst P apart planned.later) in
    let rest = cut ((K + 1) + length (laters before)) (laters os) (laters behind) one.back in
    let start : (K + 1) + length (laters before) ≡ offered_before plan k + 1 = omega arith in
    let mine : relids (laters os) ≡ range_with_len (offered_before plan k + 1) (length (laters os)) = rest.front ∙ ap (λ a. range_with_len a (length (laters os))) start in
    let each : AllByRecursion (λ o. is_later o ≡ false → o.relid ≤ K) os = by_all (λ o. is_later o ≡ false → o.relid ≤ K) os (All-get_or (λ os. All (λ o. is_later o ≡ false → o.relid ≤ K) os) plan.phases k [] less planned.offered) in
    let low : AllByRecursion (λ p. p.relid ≤ K) (firsts os) = firsts_have (λ p. p.relid ≤ K) os each in
    let bounds = in_range (offered_before plan k + 1) (laters os) mine in
    let high : AllByRecursion (λ p. K < p.relid) (laters os) = all_weaker (λ p. (offered_before plan k + 1 ≤ p.relid) × (p.relid < (offered_before plan k + 1) + length (laters os))) (λ p. K < p.relid) (λ p b. let l = b.0 in omega (arith, l)) (laters os) bounds in
    let rises : Rising 1 (firsts os) = All-get_or (λ os. Rising 1 (firsts os)) plan.phases k [] less planned.rising in
    let all = offered_more plan k less in
    record {
      subs_are = mine;
      earlier_are = one.front;
      few = low;
      distinct = distinct_mixed K os (rising_distinct 1 (firsts os) rises) (range_distinct (offered_before plan k + 1) (laters os) mine) low high;
      known = all_mixed (λ p. p.relid ≤ offered_before plan (suc k)) os
          (all_weaker (λ p. p.relid ≤ K) (λ p. p.relid ≤ offered_before plan (suc k)) (λ p l. omega (arith, l, all)) (firsts os) low)
          (all_weaker (λ p. (offered_before plan k + 1 ≤ p.relid) × (p.relid < (offered_before plan k + 1) + length (laters os))) (λ p. p.relid ≤ offered_before plan (suc k)) (λ p b. let h = b.1 in omega (arith, h, all)) (laters os) bounds);
      fresh = two (λ p. is_later p ≡ false → p.relid ≤ K) (λ p. is_later p ≡ true → offered_before plan k < p.relid) os each
          (subs_back (λ p. offered_before plan k < p.relid) os (all_weaker (λ p. (offered_before plan k + 1 ≤ p.relid) × (p.relid < (offered_before plan k + 1) + length (laters os))) (λ p. offered_before plan k < p.relid) (λ p b. let l = b.0 in omega (arith, l)) (laters os) bounds));
    }

-- more are offered before each later phase
pub offered_grows : (plan : BusPlan) (j k : ℕ) → j ≤ k → k ≤ length plan.phases → offered_before plan j ≤ offered_before plan k
offered_grows plan j zero less few = let none : j ≡ 0 = omega (arith, less) in let same = ap (offered_before plan) none in omega (arith, same)
offered_grows plan j (suc k) less few = by_test {P = offered_before plan j ≤ offered_before plan (suc k)} (nat_le j k)
    (λ e. let within : j ≤ k = grind (arith, nat_tests, e) in let rest = offered_grows plan j k within (omega (arith, few)) in let more = offered_more plan k (omega (arith, few)) in omega (arith, rest, more))
    (λ e. let same : j ≡ suc k = grind (arith, nat_tests, e, less) in let is = ap (offered_before plan) same in omega (arith, is))

-- all channels that earlier phases opened were offered before, those that are offered later behind the devices
pub known_before : (plan : BusPlan) (j k : ℕ) → IsPlan plan → j < k → k ≤ length plan.phases → AllByRecursion (λ p. p.relid ≤ offered_before plan k) (phase_of plan j)
known_before plan j k planned less few =
    let here = phase_relids plan j planned (omega (arith, less, few)) in
    let up = offered_grows plan (suc j) k (omega (arith, less)) few in
    all_weaker (λ p. p.relid ≤ offered_before plan (suc j)) (λ p. p.relid ≤ offered_before plan k) (λ p l. omega (arith, l, up)) (phase_of plan j) here.known

pub subs_before : (plan : BusPlan) (j k : ℕ) → IsPlan plan → j < k → k ≤ length plan.phases → AllByRecursion (λ q. is_later q ≡ true → (length plan.kinds < q.relid) × (q.relid ≤ offered_before plan k)) (phase_of plan j)
subs_before plan j k planned less few =
    both (λ p. (is_later p ≡ false → p.relid ≤ length plan.kinds) × (is_later p ≡ true → offered_before plan j < p.relid)) (λ p. p.relid ≤ offered_before plan k) (λ q. is_later q ≡ true → (length plan.kinds < q.relid) × (q.relid ≤ offered_before plan k))
    (λ q fresh known it. let far = fresh.1 it in (omega (arith, far), known)) (phase_of plan j) (phase_relids plan j planned (omega (arith, less, few))).fresh (known_before plan j k planned less few)

-- before the farewell all channels of the plan were offered
pub all_offered : (plan : BusPlan) → offered_before plan (length plan.phases) ≡ channel_count plan
all_offered plan = ap (λ phases. length plan.kinds + length (laters (all_openings phases))) (take_all (length plan.phases) plan.phases (omega arith))
