-- The versions that a guest tries.
use Rattle.std.proofs.Common.{◌≡◌, ℕ, ◌<◌, ◌≤◌, Bool, true, false, cond, List, [], ◌∷◌, ◌++◌, refl, sym, ap, ◌∙◌, arith, All, filter, take, suc, codes, append_assoc}
use Rattle.std.specs.Prelude.{◌&&◌, ◌||◌, ◌==◌, ◌↔◌, nat_le, nat_lt, Option, Some, None, IfSome, IsNone}
use Rattle.std.specs.List.{list_any, AllByRecursion}
use Rattle.std.proofs.lemmas.Bool.Decides.{nat_tests}
use Rattle.std.proofs.lemmas.List.Elements.{recursion_from_All}
use Rattle.contact.specs.Versions.{versions, oldest, IsVersion}
use Rattle.contact.specs.declared.version.Version.{Version}
use Rattle.bus_script.specs.Report.{versions_from, last_or, version_text, versions_text}
use Rattle.script_lines.proofs.Phases.{by_test}

-- the versions that may still be tried
abbrev pub left : Option Version → List ℕ
left None = []
left (Some v) = versions_from v.0

abbrev descends : List ℕ → Bool
descends [] = true
descends (x ∷ []) = true
descends (x ∷ y ∷ xs) = nat_lt y x && descends (y ∷ xs)

both_true : (a b : Bool) → (a && b) ≡ true → (a ≡ true) × (b ≡ true)
both_true true true is = (refl, refl)
both_true true false is = absurd (cc)
both_true false b is = absurd (cc)

behind : (x : ℕ) (xs : List ℕ) → descends (x ∷ xs) ≡ true → descends xs ≡ true
behind x [] down = refl
behind x (y ∷ xs) down = (both_true (nat_lt y x) (descends (y ∷ xs)) down).1

less_is : (x y : ℕ) (xs : List ℕ) → descends (x ∷ y ∷ xs) ≡ true → y < x
less_is x y xs down = let less = (both_true (nat_lt y x) (descends (y ∷ xs)) down).0 in grind (arith, nat_tests, less)

below : (x : ℕ) (xs : List ℕ) (v : ℕ) → descends (x ∷ xs) ≡ true → list_any (λ u. u == v) xs ≡ true → v < x
below x [] v down is = absurd (cc)
below x (y ∷ xs) v down is =
    let less = less_is x y xs down in
    by_test (y == v)
    (λ e. grind (arith, nat_tests, e, less))
    (λ e. omega (arith, less, below y xs v (behind x (y ∷ xs) down) (sym (ap (λ b. b || list_any (λ u. u == v) xs) e) ∙ is)))

all_below : (b x : ℕ) (xs : List ℕ) → descends (x ∷ xs) ≡ true → x ≤ b → AllByRecursion (λ u. u < b) xs
all_below b x [] down most = tt
all_below b x (y ∷ xs) down most = let less = less_is x y xs down in (omega (arith, less, most), all_below b y xs (behind x (y ∷ xs) down) (omega (arith, less, most)))

same_below : (v n : ℕ) (xs : List ℕ) → n < v → AllByRecursion (λ u. u < v → u ≤ n) xs → AllByRecursion (λ u. u < v) xs → filter (λ u. nat_le u v) xs ≡ filter (λ u. nat_le u n) xs
same_below v n [] less next all = refl
same_below v n (x ∷ xs) less next all =
    let low = next.0 all.0 in
    let one : nat_le x v ≡ true = grind (arith, nat_tests, low, less) in
    let two : nat_le x n ≡ true = grind (arith, nat_tests, low) in
    ap (λ b. cond b (x ∷ filter (λ u. nat_le u v) xs) (filter (λ u. nat_le u v) xs)) one ∙ ap (λ ys. x ∷ ys) (same_below v n xs less next.1 all.1)
    ∙ sym (ap (λ b. cond b (x ∷ filter (λ u. nat_le u n) xs) (filter (λ u. nat_le u n) xs)) two)

-- a version of a falling list, and then those not above the next one
next_in : (xs : List ℕ) (v n : ℕ) → descends xs ≡ true → list_any (λ u. u == v) xs ≡ true → n < v → AllByRecursion (λ u. u < v → u ≤ n) xs
    → filter (λ u. nat_le u v) xs ≡ v ∷ filter (λ u. nat_le u n) xs
next_in [] v n down is less next = absurd (cc)
next_in (x ∷ xs) v n down is less next = by_test (x == v)
    (λ e. let same : x ≡ v = grind (arith, nat_tests, e) in
    let one : nat_le x v ≡ true = grind (arith, nat_tests, same) in
    let two : nat_le x n ≡ false = grind (arith, nat_tests, same, less) in
    ap (λ b. cond b (x ∷ filter (λ u. nat_le u v) xs) (filter (λ u. nat_le u v) xs)) one ∙ ap (λ y. y ∷ filter (λ u. nat_le u v) xs) same
    ∙ ap (λ ys. v ∷ ys) (same_below v n xs less next.1 (all_below v x xs down (omega (arith, same))))
    ∙ sym (ap (λ b. v ∷ cond b (x ∷ filter (λ u. nat_le u n) xs) (filter (λ u. nat_le u n) xs)) two))
    (λ e. let more : list_any (λ u. u == v) xs ≡ true = sym (ap (λ b. b || list_any (λ u. u == v) xs) e) ∙ is in
    let high = below x xs v down more in
    let one : nat_le x v ≡ false = grind (arith, nat_tests, high) in
    let two : nat_le x n ≡ false = grind (arith, nat_tests, high, less) in
    ap (λ b. cond b (x ∷ filter (λ u. nat_le u v) xs) (filter (λ u. nat_le u v) xs)) one ∙ next_in xs v n (behind x xs down) more less next.1
    ∙ sym (ap (λ b. v ∷ cond b (x ∷ filter (λ u. nat_le u n) xs) (filter (λ u. nat_le u n) xs)) two))

-- a version, and then what may still be tried behind it
pub left_next : (v : Version) (next : Option Version) → IsVersion v.0 → (IsNone next ↔ (v.0 ≡ oldest)) → IfSome next (λ n. IsVersion n.0 × (n.0 < v.0)) → IfSome next (λ n. All (λ u. u < v.0 → u ≤ n.0) versions) → left (Some v) ≡ v.0 ∷ left next
left_next v None known last lower next =
    let lowest : v.0 ≡ oldest = last.0 refl in
    let alone : filter (λ u. nat_le u oldest) versions ≡ oldest ∷ [] = refl in
    ap (λ n. filter (λ u. nat_le u n) versions) lowest ∙ alone ∙ ap (λ n. n ∷ []) (sym lowest)
left_next v (Some n) known last lower next = next_in versions v.0 n.0 refl known lower.1 (recursion_from_All (λ u. u < v.0 → u ≤ n.0) versions next)

pub known_next : (v : ℕ) (next : Option Version) → IfSome next (λ n. IsVersion n.0 × (n.0 < v)) → IfSome next (λ n. IsVersion n.0)
known_next v None lower = tt
known_next v (Some n) lower = lower.0

-- one version more is tried
pub last_step : (last v n m : ℕ) (next : Option Version) (xs : List ℕ) → xs ≡ v ∷ left next → n ≡ suc m → last_or v (take m (left next)) ≡ last_or last (take n xs)
last_step last v n m next xs is more = sym (ap (λ ys. last_or last (take n ys)) is ∙ ap (λ k. last_or last (take k (v ∷ left next))) more)

pub told_step : (text : List ℕ) (v n m : ℕ) (next : Option Version) (xs : List ℕ) → xs ≡ v ∷ left next → n ≡ suc m
    → ((text ++ codes " ") ++ version_text v) ++ versions_text (take m (left next)) ≡ text ++ versions_text (take n xs)
told_step text v n m next xs is more =
    three text (codes " ") (version_text v) (versions_text (take m (left next)))
    ∙ sym (ap (λ ys. text ++ versions_text (take n ys)) is ∙ ap (λ k. text ++ versions_text (take k (v ∷ left next))) more)
  where
    three : (t a b r : List ℕ) → ((t ++ a) ++ b) ++ r ≡ t ++ ((a ++ b) ++ r)
    three t a b r = simp append_assoc
