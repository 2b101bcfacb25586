-- Fronts of lists.
use Rattle.std.proofs.Common.{◌≡◌, List, [], ◌∷◌, ◌++◌, map, Bool, filter, sym, ap, ◌∙◌, append_assoc}
use Rattle.std.proofs.lemmas.List.{append-nil, append_cancel_left, map-append}
use Rattle.std.proofs.lemmas.List.Elements.{filter-append}
use Rattle.channel_trace.specs.Runs.{IsFront}

pub front_all : {A : Type 0} (xs : List A) → IsFront xs xs
front_all xs = ([], sym (append-nil xs))

pub front_trans : {A : Type 0} (xs ys zs : List A) → IsFront xs ys → IsFront ys zs → IsFront xs zs
front_trans xs ys zs h k = (h.0 ++ k.0, k.1 ∙ (ap (λ l. l ++ k.0) h.1 ∙ append_assoc xs h.0 k.0))

-- a front of a front
pub front_less : {A : Type 0} (xs more ys : List A) → IsFront (xs ++ more) ys → IsFront xs ys
front_less xs more ys h = (more ++ h.0, h.1 ∙ append_assoc xs more h.0)

-- the whole grows
pub front_more : {A : Type 0} (xs ys more : List A) → IsFront xs ys → IsFront xs (ys ++ more)
front_more xs ys more h = (h.0 ++ more, ap (λ l. l ++ more) h.1 ∙ append_assoc xs h.0 more)

-- the first of the rest comes to the front
pub front_next : {A : Type 0} (xs : List A) (x : A) (rest all : List A) → all ≡ xs ++ x ∷ rest → IsFront (xs ++ x ∷ []) all
front_next xs x rest all e = (rest, e ∙ sym (append_assoc xs (x ∷ []) rest))

-- a front isn't longer
pub front_over : {A : Type 0} (xs : List A) (x : A) → IsFront (xs ++ x ∷ []) xs → ⊥
front_over xs x h =
    let e : [] ≡ (x ∷ []) ++ h.0 = append_cancel_left xs [] ((x ∷ []) ++ h.0) (append-nil xs ∙ (h.1 ∙ append_assoc xs (x ∷ []) h.0)) in
    absurd (cc)

pub front_map : {A B : Type 0} (f : A → B) (xs ys : List A) → IsFront xs ys → IsFront (map f xs) (map f ys)
front_map f xs ys h = (map f h.0, ap (map f) h.1 ∙ map-append f xs h.0)

pub front_filter : {A : Type 0} (f : A → Bool) (xs ys : List A) → IsFront xs ys → IsFront (filter f xs) (filter f ys)
front_filter f xs ys h = (filter f h.0, ap (filter f) h.1 ∙ filter-append f xs h.0)
