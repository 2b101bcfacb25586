-- What holds of each element of a list.
use Rattle.std.proofs.Common.{◌≡◌, ℕ, zero, suc, Bool, true, false, cond, List, [], ◌∷◌, ◌++◌}
use Rattle.std.specs.Prelude.{map, filter, slice_get, slice_index_or, Option, Some, None}
use Rattle.std.specs.List.{AllByRecursion, onto_first, slice_split}

module _ {X : Type 0} (P : X → Type 0) where
  pub each_append : (xs ys : List X) → AllByRecursion P xs → AllByRecursion P ys → AllByRecursion P (xs ++ ys)
  each_append [] ys first second = second
  each_append (x ∷ xs) ys first second = (first.0, each_append xs ys first.1 second)

  pub each_left : (xs ys : List X) → AllByRecursion P (xs ++ ys) → AllByRecursion P xs
  each_left [] ys all = tt
  each_left (x ∷ xs) ys all = (all.0, each_left xs ys all.1)

  pub each_right : (xs ys : List X) → AllByRecursion P (xs ++ ys) → AllByRecursion P ys
  each_right [] ys all = all
  each_right (x ∷ xs) ys all = each_right xs ys all.1

  pub each_map : {A : Type 0} (f : A → X) (xs : List A) → AllByRecursion (λ a. P (f a)) xs → AllByRecursion P (map f xs)
  each_map f [] all = tt
  each_map f (x ∷ xs) all = (all.0, each_map f xs all.1)

  pub each_unmap : {A : Type 0} (f : A → X) (xs : List A) → AllByRecursion P (map f xs) → AllByRecursion (λ a. P (f a)) xs
  each_unmap f [] all = tt
  each_unmap f (x ∷ xs) all = (all.0, each_unmap f xs all.1)

  -- an element that is there by a test
  pub each_if : (c : Bool) (x : X) (xs : List X) → P x → AllByRecursion P xs → AllByRecursion P (cond c (x ∷ xs) xs)
  each_if true x xs here all = (here, all)
  each_if false x xs here all = all

  pub each_unless : (c : Bool) (x : X) (xs : List X) → AllByRecursion P (cond c (x ∷ xs) xs) → (c ≡ true → P x) × AllByRecursion P xs
  each_unless true x xs all = (λ is. all.0, all.1)
  each_unless false x xs all = (λ is. cc, all)

  pub each_filter : (p : X → Bool) (xs : List X) → AllByRecursion P xs → AllByRecursion P (filter p xs)
  each_filter p [] all = tt
  each_filter p (x ∷ xs) all = each_if (p x) x (filter p xs) all.0 (each_filter p xs all.1)

  pub each_unfilter : (p : X → Bool) (xs : List X) → AllByRecursion P (filter p xs) → AllByRecursion (λ x. p x ≡ true → P x) xs
  each_unfilter p [] all = tt
  each_unfilter p (x ∷ xs) all = let parts = each_unless (p x) x (filter p xs) all in (parts.0, each_unfilter p xs parts.1)

  -- at an element, or past the end
  pub at_index : (xs : List X) (i : ℕ) (other : X) → AllByRecursion P xs → P other → P (slice_index_or xs i other)
  at_index [] i other all last = last
  at_index (x ∷ xs) zero other all last = all.0
  at_index (x ∷ xs) (suc i) other all last = at_index xs i other all.1 last

  -- of an element, if there is one
  abbrev pub IfThere : Option X → Type 0
  IfThere None = Unit {0}
  IfThere (Some x) = P x

  pub at_get : (xs : List X) (i : ℕ) → AllByRecursion P xs → IfThere (slice_get xs i)
  at_get [] i all = tt
  at_get (x ∷ xs) zero all = all.0
  at_get (x ∷ xs) (suc i) all = at_get xs i all.1

module _ {X : Type 0} (P : X → Type 0) (p : X → Bool) where
  either_part : (c : Bool) (x : X) (ps : List (List X)) → P x → AllByRecursion (AllByRecursion P) ps → AllByRecursion (AllByRecursion P) (cond c ([] ∷ ps) (onto_first x ps))
  either_part true x ps here all = (tt, all)
  either_part false x [] here all = ((here, tt), tt)
  either_part false x (part ∷ ps) here all = ((here, all.0), all.1)

  -- of each element of each part
  pub each_split : (xs : List X) → AllByRecursion P xs → AllByRecursion (AllByRecursion P) (slice_split p xs)
  each_split [] all = (tt, tt)
  each_split (x ∷ xs) all = either_part (p x) x (slice_split p xs) all.0 (each_split xs all.1)

-- of each element for each number
pub each_swap : {X : Type 0} (R : ℕ → X → Type 0) (N : ℕ → Type 0) (xs : List X) → ((j : ℕ) → N j → AllByRecursion (R j) xs) → AllByRecursion (λ x. (j : ℕ) → N j → R j x) xs
each_swap R N [] all = tt
each_swap R N (x ∷ xs) all = (λ j n. (all j n).0, each_swap R N xs (λ j n. (all j n).1))
