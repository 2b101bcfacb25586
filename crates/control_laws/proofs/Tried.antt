-- Which versions are tried, from one on.
use Rattle.std.proofs.Common.{◌≡◌, ◌∙◌, ℕ, ◌<◌, ◌≤◌, ◌==◌, ◌&&◌, Bool, true, false, min, List, [], ◌∷◌, drop, filter, nat_le, if◌then◌else◌, refl, sym, ap, subst, arith}
use Rattle.std.specs.List.{AllByRecursion}
use Rattle.std.proofs.lemmas.Bool.{eqb-true}
use Rattle.std.proofs.lemmas.Bool.Decides.{nat_tests}
use Rattle.control_laws.proofs.Words.{Version, version, versions, versions_tried, is_tried}
use Rattle.control_model.specs.Plan.{BusPlan, IsPlan}
use Rattle.control_model.specs.Said.{agreed}
use Rattle.control_model.specs.Stand.{Tries, Agreed}
use Rattle.control_laws.proofs.Marks.{by_test}
use Rattle.control_laws.proofs.Lower.{Falling, listed, under, falling, Lower, lower_one}

and_off : (a : Bool) → (a && false) ≡ false
and_off true = refl
and_off false = refl

above_all : (g h u : ℕ) → g < u → is_tried g h u ≡ false
above_all g h u less = let off : nat_le u g ≡ false = grind (arith, nat_tests, less) in ap (λ b. b && nat_le (min g h) u) off

below_all : (g h u : ℕ) → u < min g h → is_tried g h u ≡ false
below_all g h u less = let off : nat_le (min g h) u ≡ false = grind (arith, nat_tests, less) in ap (λ b. nat_le u g && b) off ∙ and_off (nat_le u g)

within_all : (g h u : ℕ) → u ≤ g → min g h ≤ u → is_tried g h u ≡ true
within_all g h u less more =
    let on : nat_le u g ≡ true = grind (arith, nat_tests, less) in
    let also : nat_le (min g h) u ≡ true = grind (arith, nat_tests, more) in
    ap (λ b. b && nat_le (min g h) u) on ∙ also

none_below : (v h : ℕ) (xs : List ℕ) → v ≤ h → AllByRecursion (λ y. y < v) xs → filter (is_tried v h) xs ≡ []
none_below v h [] within all = refl
none_below v h (x ∷ xs) within all = let less = all.0 in rw (below_all v h x (omega (arith, less, within))) (none_below v h xs within all.1)

-- a version that the host has is the last one
last_one : (v h : ℕ) (xs : List ℕ) → Falling xs → listed v xs ≡ true → v ≤ h → filter (is_tried v h) xs ≡ v ∷ []
unfolding listed
last_one v h [] falls is within = absurd (let off : false ≡ true = is in cc)
last_one v h (x ∷ xs) falls is within = by_test {P = filter (is_tried v h) (x ∷ xs) ≡ v ∷ []} (x == v)
    (λ e. let eq = eqb-true x v e in
    rw (within_all v h x (omega (arith, eq)) (omega (arith, eq, within))) (λ i. eq i ∷ (none_below v h xs within (subst (λ z. AllByRecursion (λ y. y < z) xs) eq falls.0)) i))
    (λ e. let rest : listed v xs ≡ true = rw e at is in
    rw (above_all v h x (under x v xs falls.0 rest)) (last_one v h xs falls.1 rest within))

-- below a version, as many are tried as from the next lower one on
alike : (v l h u : ℕ) → l < v → h ≤ l → u ≤ l → is_tried v h u ≡ is_tried l h u
alike v l h u less low most =
    let on : nat_le u v ≡ true = grind (arith, nat_tests, less, most) in
    let also : nat_le u l ≡ true = grind (arith, nat_tests, most) in
    let one : min v h ≡ h = omega (arith, less, low) in
    let two : min l h ≡ h = omega (arith, low) in
    (λ i. on i && nat_le (one i) u) ∙ sym (λ i. also i && nat_le (two i) u)

all_alike : (v l h : ℕ) (xs : List ℕ) → l < v → h ≤ l → AllByRecursion (λ y. y < v) xs → AllByRecursion (λ y. y < v → y ≤ l) xs → filter (is_tried v h) xs ≡ filter (is_tried l h) xs
all_alike v l h [] less low all most = refl
all_alike v l h (x ∷ xs) less low all most =
    let rest = all_alike v l h xs less low all.1 most.1 in
    (λ i. if (alike v l h x less low (most.0 all.0)) i then x ∷ rest i else rest i)

next_ones : (v l h : ℕ) (xs : List ℕ) → Falling xs → listed v xs ≡ true → l < v → h ≤ l → AllByRecursion (λ y. y < v → y ≤ l) xs → filter (is_tried v h) xs ≡ v ∷ filter (is_tried l h) xs
unfolding listed
next_ones v l h [] falls is less low most = absurd (let off : false ≡ true = is in cc)
next_ones v l h (x ∷ xs) falls is less low most = by_test {P = filter (is_tried v h) (x ∷ xs) ≡ v ∷ filter (is_tried l h) (x ∷ xs)} (x == v)
    (λ e. let eq = eqb-true x v e in
    let same = all_alike v l h xs less low (subst (λ z. AllByRecursion (λ y. y < z) xs) eq falls.0) most.1 in
    rw (within_all v h x (omega (arith, eq)) (omega (arith, eq, less, low)), above_all l h x (omega (arith, eq, less))) (λ i. eq i ∷ same i))
    (λ e. let rest : listed v xs ≡ true = rw e at is in
    let more = under x v xs falls.0 rest in
    rw (above_all v h x more, above_all l h x (omega (arith, more, less))) (next_ones v l h xs falls.1 rest less low most.1))

pub one_tried : (plan : BusPlan) (v : Version) → Agreed plan v → versions_tried v.0 plan.host.0 ≡ v.0 ∷ []
unfolding listed
one_tried plan v agreed = last_one v.0 plan.host.0 versions falling agreed.tried.listed agreed.within_host

pub next_tried : (plan : BusPlan) (v : Version) → IsPlan plan → Tries plan v → plan.host.0 < v.0 → (low : Lower plan v) → versions_tried v.0 plan.host.0 ≡ v.0 ∷ versions_tried low.lower.0 plan.host.0
unfolding listed
next_tried plan v planned tries above low =
    next_ones v.0 low.lower.0 plan.host.0 versions falling tries.listed low.less (low.greatest plan.host.0 planned.host above)
    (low.greatest (version 5 3) refl, (low.greatest (version 5 2) refl, (low.greatest (version 5 1) refl, (low.greatest (version 5 0) refl, (low.greatest (version 4 1) refl, (low.greatest (version 4 0) refl, (low.greatest (version 3 0) refl, (low.greatest (version 2 4) refl, tt))))))))

-- the first version that is tried, from one on, is that one
pub first_tried : (plan : BusPlan) (v : Version) → IsPlan plan → Tries plan v → versions_tried v.0 plan.host.0 ≡ v.0 ∷ drop 1 (versions_tried v.0 plan.host.0)
first_tried plan v planned tries = by_test {P = versions_tried v.0 plan.host.0 ≡ v.0 ∷ drop 1 (versions_tried v.0 plan.host.0)} (nat_le v.0 plan.host.0)
    (λ e. let within : v.0 ≤ plan.host.0 = grind (arith, nat_tests, e) in
    let is = one_tried plan v (record { tried = tries; within_host = within }) in
    is ∙ ap (λ vs. v.0 ∷ drop 1 vs) (sym is))
    (λ e. let above : plan.host.0 < v.0 = grind (arith, nat_tests, e) in
    let is = next_tried plan v planned tries above (lower_one plan v planned tries above) in
    is ∙ ap (λ vs. v.0 ∷ drop 1 vs) (sym is))

-- the agreed version is the lower one of both ends' highest
pub agreed_is : (plan : BusPlan) (v : Version) → IsPlan plan → Agreed plan v → v.0 ≡ agreed plan
agreed_is plan v planned is =
    let at_guest = is.tried.within in
    let at_host = is.within_host in
    by_test {P = v.0 ≡ agreed plan} (nat_le plan.guest.0 plan.host.0)
    (λ e. let less : plan.guest.0 ≤ plan.host.0 = grind (arith, nat_tests, e) in
    omega (arith, less, is.tried.greatest plan.guest.0 planned.guest (omega arith) less, at_guest, at_host))
    (λ e. let more : plan.host.0 < plan.guest.0 = grind (arith, nat_tests, e) in
    omega (arith, more, is.tried.greatest plan.host.0 planned.host (omega (arith, more)) (omega arith), at_guest, at_host))
