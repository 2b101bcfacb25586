-- The openings of a phase in the order in which its channels are closed: the same ones, each once.
use Rattle.std.proofs.Common.{◌≡◌, ◌≢◌, ◌∙◌, ℕ, suc, Bool, true, false, ◌==◌, if◌then◌else◌, List, [], ◌∷◌, ◌++◌, length, refl, sym, ap}
use Rattle.std.specs.List.{AllByRecursion}
use Rattle.std.proofs.lemmas.Bool.{eqb-true}
use Rattle.control_laws.proofs.Words.{Opening}
use Rattle.control_model.specs.Plan.{is_sub, behind_subs, in_closing_order}
use Rattle.control_model.specs.Stand.{marked}

-- what holds of all of them
all_if : (P : Opening → Type 0) (first o : Opening) (xs ys : List Opening) (b : Bool) → P first → P o → AllByRecursion P xs → AllByRecursion P ys → AllByRecursion P (if b then o ∷ xs else first ∷ ys)
all_if P first o xs ys true p q all rest = (q, all)
all_if P first o xs ys false p q all rest = (p, rest)

pub all_behind : (P : Opening → Type 0) (first : Opening) (os : List Opening) → P first → AllByRecursion P os → AllByRecursion P (behind_subs first os)
all_behind P first [] p all = (p, tt)
all_behind P first (o ∷ os) p all = all_if P first o (behind_subs first os) (behind_subs o os) (is_sub o) p all.0 (all_behind P first os p all.1) (all_behind P o os all.0 all.1)

pub all_closing : (P : Opening → Type 0) (os : List Opening) → AllByRecursion P os → AllByRecursion P (in_closing_order os)
all_closing P [] all = tt
all_closing P (o ∷ os) all = all_behind P o os all.0 all.1

-- no two of them have the same number
abbrev pub Distinct : (Opening → ℕ) → List Opening → Type 0
Distinct f [] = Unit {0}
Distinct f (o ∷ os) = AllByRecursion (λ p. f p ≢ f o) os × Distinct f os

turned : (f : Opening → ℕ) (x : Opening) (os : List Opening) → AllByRecursion (λ p. f p ≢ f x) os → AllByRecursion (λ p. f x ≢ f p) os
turned f x [] all = tt
turned f x (o ∷ os) all = ((λ e. all.0 (sym e)), turned f x os all.1)

distinct_if : (f : Opening → ℕ) (first o : Opening) (os : List Opening) (b : Bool) → AllByRecursion (λ p. f p ≢ f o) (behind_subs first os) → Distinct f (behind_subs first os) → AllByRecursion (λ p. f p ≢ f first) (behind_subs o os) → Distinct f (behind_subs o os)
    → Distinct f (if b then o ∷ behind_subs first os else first ∷ behind_subs o os)
distinct_if f first o os true a c d e = (a, c)
distinct_if f first o os false a c d e = (d, e)

pub distinct_behind : (f : Opening → ℕ) (first : Opening) (os : List Opening) → Distinct f (first ∷ os) → Distinct f (behind_subs first os)
distinct_behind f first [] all = (tt, tt)
distinct_behind f first (o ∷ os) all =
    let off : f first ≢ f o = λ e. all.0.0 (sym e) in
    distinct_if f first o os (is_sub o)
    (all_behind (λ p. f p ≢ f o) first os off all.1.0)
    (distinct_behind f first os (all.0.1, all.1.1))
    (all_behind (λ p. f p ≢ f first) o os all.0.0 all.0.1)
    (distinct_behind f o os all.1)

pub distinct_closing : (f : Opening → ℕ) (os : List Opening) → Distinct f os → Distinct f (in_closing_order os)
distinct_closing f [] all = tt
distinct_closing f (o ∷ os) all = distinct_behind f o os all

-- so those before and behind one of them have other numbers
pub distinct_mid : (f : Opening → ℕ) (done : List Opening) (o : Opening) (left : List Opening) → Distinct f (done ++ o ∷ left) → AllByRecursion (λ p. f p ≢ f o) done × AllByRecursion (λ p. f p ≢ f o) left
distinct_mid f [] o left all = (tt, all.0)
distinct_mid f (p ∷ done) o left all =
    let rest = distinct_mid f done o left all.1 in
    (((λ e. mid_of f done o left p all.0 (sym e)), rest.0), rest.1)
  where
    mid_of : (f : Opening → ℕ) (done : List Opening) (o : Opening) (left : List Opening) (p : Opening) → AllByRecursion (λ q. f q ≢ f p) (done ++ o ∷ left) → f o ≢ f p
    mid_of f [] o left p all = all.0
    mid_of f (q ∷ done) o left p all = mid_of f done o left p all.1

-- and they mark the same channels
swap : {X : Type 0} (a b : Bool) (x y z : X) → (a ≡ true → b ≡ true → ⊥) → (if a then x else if b then y else z) ≡ (if b then y else if a then x else z)
swap true true x y z off = absurd (off refl refl)
swap true false x y z off = refl
swap false true x y z off = refl
swap false false x y z off = refl

module _ {X : Type 0} (so : Opening → X) (base : ℕ → X) (q : ℕ) where
  marked_if : (first o : Opening) (os : List Opening) (b : Bool) → first.relid ≢ o.relid → marked so (behind_subs first os) base q ≡ marked so (first ∷ os) base q → marked so (behind_subs o os) base q ≡ marked so (o ∷ os) base q
      → marked so (if b then o ∷ behind_subs first os else first ∷ behind_subs o os) base q ≡ marked so (first ∷ (o ∷ os)) base q
  marked_if first o os true off e f =
      ap (λ x. if o.relid == q then so o else x) e
      ∙ swap (o.relid == q) (first.relid == q) (so o) (so first) (marked so os base q) (λ a b. let mine = eqb-true o.relid q a in let other = eqb-true first.relid q b in off (other ∙ sym mine))
  marked_if first o os false off e f = ap (λ x. if first.relid == q then so first else x) f

  pub marked_behind : (first : Opening) (os : List Opening) → Distinct (λ o. o.relid) (first ∷ os) → marked so (behind_subs first os) base q ≡ marked so (first ∷ os) base q
  marked_behind first [] all = refl
  marked_behind first (o ∷ os) all =
      marked_if first o os (is_sub o) (λ e. all.0.0 (sym e)) (marked_behind first os (all.0.1, all.1.1)) (marked_behind o os all.1)

  pub marked_closing : (os : List Opening) → Distinct (λ o. o.relid) os → marked so (in_closing_order os) base q ≡ marked so os base q
  marked_closing [] all = refl
  marked_closing (o ∷ os) all = marked_behind o os all

-- there are as many, and as many sub-channels among them
length_if : (first o : Opening) (xs ys : List Opening) (b : Bool) (n : ℕ) → length xs ≡ n → length ys ≡ n → length (if b then o ∷ xs else first ∷ ys) ≡ suc n
length_if first o xs ys true n e f = ap (λ k. suc k) e
length_if first o xs ys false n e f = ap (λ k. suc k) f

pub length_behind : (first : Opening) (os : List Opening) → length (behind_subs first os) ≡ suc (length os)
length_behind first [] = refl
length_behind first (o ∷ os) = length_if first o (behind_subs first os) (behind_subs o os) (is_sub o) (suc (length os)) (length_behind first os) (length_behind o os)

pub length_closing : (os : List Opening) → length (in_closing_order os) ≡ length os
length_closing [] = refl
length_closing (o ∷ os) = length_behind o os

-- each of them is among them
pub record Mid (o : Opening) (xs : List Opening) : Type 0 where
  pub done : List Opening
  pub left : List Opening
  pub is : xs ≡ done ++ o ∷ left

mid_more : (x o : Opening) (xs : List Opening) → Mid o xs → Mid o (x ∷ xs)
mid_more x o xs mid = record { done = x ∷ mid.done; left = mid.left; is = ap (λ ys. x ∷ ys) mid.is }

mid_if : (first o p : Opening) (xs ys : List Opening) (b : Bool) → Mid p (o ∷ xs) → Mid p (first ∷ ys) → Mid p (if b then o ∷ xs else first ∷ ys)
mid_if first o p xs ys true e f = e
mid_if first o p xs ys false e f = f

first_mid : (first : Opening) (os : List Opening) → Mid first (behind_subs first os)
first_mid first [] = record { done = []; left = []; is = refl }
first_mid first (o ∷ os) =
    mid_if first o first (behind_subs first os) (behind_subs o os) (is_sub o) (mid_more o first (behind_subs first os) (first_mid first os)) (record { done = []; left = behind_subs o os; is = refl })

behind_mid : (first : Opening) (done : List Opening) (o : Opening) (left : List Opening) → Mid o (behind_subs first (done ++ o ∷ left))
behind_mid first [] o left =
    mid_if first o o (behind_subs first left) (behind_subs o left) (is_sub o) (record { done = []; left = behind_subs first left; is = refl }) (mid_more first o (behind_subs o left) (first_mid o left))
behind_mid first (p ∷ done) o left =
    mid_if first p o (behind_subs first (done ++ o ∷ left)) (behind_subs p (done ++ o ∷ left)) (is_sub p) (mid_more p o (behind_subs first (done ++ o ∷ left)) (behind_mid first done o left))
    (mid_more first o (behind_subs p (done ++ o ∷ left)) (behind_mid p done o left))

pub closing_mid : (done : List Opening) (o : Opening) (left : List Opening) → Mid o (in_closing_order (done ++ o ∷ left))
closing_mid [] o left = first_mid o left
closing_mid (p ∷ done) o left = behind_mid p done o left
