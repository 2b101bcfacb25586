-- Items of lists at a place, and those that pass a test.
use Rattle.std.proofs.Common.{◌≡◌, ℕ, zero, suc, ◌+◌, ◌<◌, Bool, true, false, cond, List, [], ◌∷◌, ◌++◌, length, take, drop, get_or, filter, refl, ap, ◌∙◌, arith}
use Rattle.std.specs.List.{AllByRecursion}
use Rattle.std.proofs.lemmas.List.{append-nil, take_more, drop_more}
use Rattle.std.proofs.lemmas.List.Elements.{filter-append}
use Rattle.device_any.specs.Boxes.{EachWith}

-- the item at a place, and the items before and behind it
pub record At {X : Type 0} (xs : List X) (i : ℕ) : Type 0 where
  pub item : X
  pub is : (d : X) → get_or xs i d ≡ item
  pub taken : take (i + 1) xs ≡ take i xs ++ item ∷ []
  pub left : drop i xs ≡ item ∷ drop (i + 1) xs

pub at : {X : Type 0} (xs : List X) (i : ℕ) → i < length xs → At xs i
at [] i less = absurd (omega (arith, less))
at (x ∷ xs) zero less = record { item = x; is = λ d. refl; taken = refl; left = refl }
at (x ∷ xs) (suc i) less =
    let more = at xs i (omega (arith, less)) in
    record {
      item = more.item;
      is = λ d. more.is d;
      taken = take_more (x ∷ xs) (suc i) more.item less ∙ ap (λ y. take (suc i) (x ∷ xs) ++ y ∷ []) (more.is more.item);
      left = drop_more (x ∷ xs) (suc i) more.item less ∙ ap (λ y. y ∷ drop (suc i + 1) (x ∷ xs)) (more.is more.item);
    }

pub all_at : {X : Type 0} (P : X → Type 0) (xs : List X) (i : ℕ) (d : X) → AllByRecursion P xs → i < length xs → P (get_or xs i d)
all_at P [] i d all less = absurd (omega (arith, less))
all_at P (x ∷ xs) zero d all less = all.0
all_at P (x ∷ xs) (suc i) d all less = all_at P xs i d all.1 (omega (arith, less))

-- one more item that passes the test, or doesn't

pub push_own : {X : Type 0} (f : X → Bool) (xs : List X) (x : X) → f x ≡ true → filter f (xs ++ x ∷ []) ≡ filter f xs ++ x ∷ []
push_own {X} f xs x own = filter-append f xs (x ∷ []) ∙ ap (λ (b : Bool). filter f xs ++ cond b (x ∷ []) []) own

pub push_other : {X : Type 0} (f : X → Bool) (xs : List X) (x : X) → f x ≡ false → filter f (xs ++ x ∷ []) ≡ filter f xs
push_other {X} f xs x other = filter-append f xs (x ∷ []) ∙ (ap (λ (b : Bool). filter f xs ++ cond b (x ∷ []) []) other ∙ append-nil (filter f xs))

module _ {A B : Type 0} (P : A → B → Type 0) where
  pub with_push : (xs : List A) (ys : List B) (x : A) (y : B) → EachWith P xs ys → P x y → EachWith P (xs ++ x ∷ []) (ys ++ y ∷ [])
  with_push [] [] x y each one = (one, tt)
  with_push [] (b ∷ ys) x y each one = absurd each
  with_push (a ∷ xs) [] x y each one = absurd each
  with_push (a ∷ xs) (b ∷ ys) x y each one = (each.0, with_push xs ys x y each.1 one)

  pub with_long : (xs : List A) (ys : List B) → EachWith P xs ys → length xs ≡ length ys
  with_long [] [] each = refl
  with_long [] (b ∷ ys) each = absurd each
  with_long (a ∷ xs) [] each = absurd each
  with_long (a ∷ xs) (b ∷ ys) each = ap suc (with_long xs ys each.1)
