-- Counts of packets by a test, and the item of a number.
use Rattle.std.proofs.Common.{◌≡◌, ◌⊎◌, ℕ, zero, suc, ◌+◌, ◌-◌, ◌<◌, ◌≤◌, Bool, true, false, cond, List, [], ◌∷◌, ◌++◌, Some, refl, ap, arith}
use Rattle.std.proofs.lemmas.Bool.Decides.{nat_tests}
use Rattle.page_kept.specs.declared.item.Item.{Item}
use Rattle.page_kept.specs.Items.{packets, values}
use Rattle.page_kept.specs.Counts.{count, nth, bit}

pub by_test : {P : Type 0} (b : Bool) → (b ≡ true → P) → (b ≡ false → P) → P
by_test true t f = t refl
by_test false t f = f refl

pub yes_is : {A : Type 0} (b : Bool) (x y : A) → b ≡ true → cond b x y ≡ x
yes_is b x y e = ap (λ (c : Bool). cond c x y) e

pub no_is : {A : Type 0} (b : Bool) (x y : A) → b ≡ false → cond b x y ≡ y
no_is b x y e = ap (λ (c : Bool). cond c x y) e

pub packets_append : (xs ys : List Item) → packets (xs ++ ys) ≡ packets xs ++ packets ys
packets_append [] ys = refl
packets_append (x ∷ xs) ys = cc (packets_append xs ys)

pub count_append : (f : List ℕ → Bool) (xs ys : List (List ℕ)) → count f (xs ++ ys) ≡ count f xs + count f ys
count_append f [] ys = omega arith
count_append f (x ∷ xs) ys = omega (arith, count_append f xs ys)

pub count_one : (f : List ℕ → Bool) (xs : List (List ℕ)) (p : List ℕ) → count f (xs ++ p ∷ []) ≡ count f xs + bit (f p)
count_one f xs p = omega (arith, count_append f xs (p ∷ []))

pub count_more : (f : List ℕ → Bool) (xs ys zs : List (List ℕ)) → zs ≡ xs ++ ys → count f xs ≤ count f zs
count_more f xs ys zs e = omega (arith, ap (count f) e, count_append f xs ys)

-- an item that is there stays there
pub nth_more : (f : List ℕ → Bool) (xs ys : List Item) (k : ℕ) (i : Item) → nth f k xs ≡ Some i → nth f k (xs ++ ys) ≡ Some i
nth_more f [] ys k i h = cc
nth_more f (x ∷ xs) ys k i h = grind (arith, nat_tests, nth_more f xs ys k i, nth_more f xs ys (k - 1) i)

-- an item that passes has the number of those before it
pub nth_here : (f : List ℕ → Bool) (xs ys : List Item) (i : Item) (k : ℕ) → f i.packet ≡ true → k ≡ count f (packets xs) → nth f k (xs ++ i ∷ ys) ≡ Some i
nth_here f [] ys i k e z = grind (arith, nat_tests)
nth_here f (x ∷ xs) ys i k e z = grind (arith, nat_tests, nth_here f xs ys i k e, nth_here f xs ys i (k - 1) e)

-- its number is below the count
pub nth_below : (f : List ℕ → Bool) (xs : List Item) (k : ℕ) (i : Item) → nth f k xs ≡ Some i → k < count f (packets xs)
nth_below f [] k i h = cc
nth_below f (x ∷ xs) k i h = grind (arith, nat_tests, nth_below f xs k i, nth_below f xs (k - 1) i)

-- one more item at the end: an old one, or the new one
pub record IsNew (f : List ℕ → Bool) (xs : List Item) (i j : Item) (k : ℕ) : Type 0 where
  pub same : i ≡ j
  pub number : k ≡ count f (packets xs)
  pub passes : f i.packet ≡ true

pub nth_last : (f : List ℕ → Bool) (xs : List Item) (i j : Item) (k : ℕ) → nth f k (xs ++ i ∷ []) ≡ Some j → (nth f k xs ≡ Some j) ⊎ IsNew f xs i j k
nth_last f [] i j k h = grind (arith, nat_tests)
nth_last f (x ∷ xs) i j k h = grind (arith, nat_tests, nth_last f xs i j k, nth_last f xs i j (k - 1))

-- equal values give equal fronts
pub front_same : (n : ℕ) (f g : ℕ → ℕ) → ((w : ℕ) → w < n → f w ≡ g w) → values n f ≡ values n g
front_same zero f g same = refl
front_same (suc n) f g same = cc (front_same n f g (λ w h. same w (omega (arith, h))), same n (omega arith))
