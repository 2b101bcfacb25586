-- The greatest version below another one.
use Rattle.std.proofs.Common.{◌≡◌, ℕ, suc, ◌<◌, ◌≤◌, ◌==◌, ◌&&◌, ◌||◌, ◌↔◌, Bool, true, false, All, List, [], ◌∷◌, nat_le, nat_lt, Option, Some, None, IsNone, IfSome, refl, sym, ap, arith}
use Rattle.std.specs.List.{list_any, list_all}
use Rattle.std.proofs.lemmas.Bool.{eqb-true}
use Rattle.std.proofs.lemmas.Bool.Decides.{nat_tests}
use Rattle.contact.specs.declared.version.Version.{Version}
use Rattle.contact.specs.Versions.{versions, oldest, IsVersion}
use Rattle.control_model.specs.Channels.{first_below, version_below}

abbrev Falling : List ℕ → Type 0
Falling [] = Unit {0}
Falling (x ∷ xs) = (list_all (λ y. nat_le y x) xs ≡ true) × Falling xs

-- one of two tests passes
either : {G : Type 0} (a b : Bool) → (a || b) ≡ true → (a ≡ true → G) → (b ≡ true → G) → G
either true b e f g = f refl
either false b e f g = g e

both : (a b : Bool) → (a && b) ≡ true → (a ≡ true) × (b ≡ true)
both true b e = (refl, e)
both false b e = absurd (let no : false ≡ true = e in cc)

most : (u x : ℕ) (xs : List ℕ) → list_any (λ w. w == u) xs ≡ true → list_all (λ y. nat_le y x) xs ≡ true → u ≤ x
most u x [] any all = absurd (let no : false ≡ true = any in cc)
most u x (y ∷ xs) any all =
    let less = both (nat_le y x) (list_all (λ y. nat_le y x) xs) all in
    either (y == u) (list_any (λ w. w == u) xs) any
    (λ e. let same = eqb-true y u e in let h = less.0 in grind (arith, nat_tests, same, h))
    (λ e. most u x xs e less.1)

tail : (P : ℕ → Type 0) (x : ℕ) (xs : List ℕ) → All P (x ∷ xs) → All P xs
tail P x xs all = λ k d q. all (suc k) d (omega (arith, q))

below_step : (v u x : ℕ) (xs : List ℕ) (b : Bool) → nat_lt x v ≡ b → list_any (λ w. w == u) (x ∷ xs) ≡ true → u < v → Falling (x ∷ xs) → All (λ w. w < v → w ≤ u) (x ∷ xs)
    → (list_any (λ w. w == u) xs ≡ true → first_below v xs ≡ Some (record { 0 = u })) → first_below v (x ∷ xs) ≡ Some (record { 0 = u })
below_step v u x xs true e any less falls all rest =
    let under : x < v = grind (arith, nat_tests, e) in
    let least : x ≤ u = all 0 x (omega arith) under in
    let same : x ≡ u = either (x == u) (list_any (λ w. w == u) xs) any (λ f. eqb-true x u f) (λ f. let up = most u x xs f falls.0 in omega (arith, up, least)) in
    let P : ℕ → Option Version = λ w. Some (record { 0 = w }) in
    rw e (ap P same)
below_step v u x xs false e any less falls all rest =
    let over : v ≤ x = grind (arith, nat_tests, e) in
    let more : list_any (λ w. w == u) xs ≡ true = either {G = list_any (λ w. w == u) xs ≡ true} (x == u) (list_any (λ w. w == u) xs) any (λ f. let same = eqb-true x u f in absurd (omega (arith, same, over, less))) (λ f. f) in
    rw e (rest more)

below_from : (v u : ℕ) (xs : List ℕ) → list_any (λ w. w == u) xs ≡ true → u < v → Falling xs → All (λ w. w < v → w ≤ u) xs → first_below v xs ≡ Some (record { 0 = u })
below_from v u [] any less falls all = absurd (let no : false ≡ true = any in cc)
below_from v u (x ∷ xs) any less falls all =
    below_step v u x xs (nat_lt x v) refl any less falls all (λ more. below_from v u xs more less falls.1 (tail (λ w. w < v → w ≤ u) x xs all))

-- what next_version ensures of its answer leaves no other one
pub below_is : (v : Version) (r : Option Version) → IsVersion v.0 → (IsNone r ↔ (v.0 ≡ oldest)) → IfSome r (λ u. IsVersion u.0 × (u.0 < v.0)) → IfSome r (λ u. All (λ w. w < v.0 → w ≤ u.0) versions) → r ≡ version_below v
below_is v None is last lower next = let old = last.0 refl in sym (ap (λ w. first_below w versions) old)
below_is v (Some u) is last lower next = sym (below_from v.0 u.0 versions lower.0 lower.1 (refl, (refl, (refl, (refl, (refl, (refl, (refl, (refl, tt)))))))) next)
