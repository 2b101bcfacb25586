-- Which packet is acknowledged next.
use Rattle.page_kept.specs.declared.item.Item.{Item}
use Rattle.std.proofs.Common.{◌≡◌, ℕ, zero, suc, ◌+◌, ◌<◌, ◌≤◌, List, [], ◌∷◌, length, drop, refl, sym, ap, ◌∙◌, subst, arith, Some, true, false}
use Rattle.std.specs.Prelude.{slice_get, ◌⊎◌, nat_lt}
use Rattle.std.proofs.Common.{inl, inr}
use Rattle.std.proofs.lemmas.List.{drop_more}
use Rattle.std.proofs.lemmas.Option.{get_or_from_slice_get, slice_get_within}
use Rattle.std.proofs.lemmas.Bool.Decides.{nat_tests}
use Rattle.channel_trace.specs.declared.event.Event.{Event}
use Rattle.channel_model.specs.WireFormat.{WireFormat}
use Rattle.channel_model.specs.Workers.{AcksKept}
use Rattle.channel_model.proofs.Acking.{acks_passed}
use Rattle.worker_requester.specs.Acking.{NoneIn, IsNext}

module _ {A : Type 0} where
  pub first_of : (asks : List A) (k : ℕ) (a : A) → slice_get asks k ≡ Some a → drop k asks ≡ a ∷ drop (k + 1) asks
  first_of asks k a e = drop_more asks k a (slice_get_within asks k a e) ∙ ap (λ x. x ∷ drop (k + 1) asks) (get_or_from_slice_get asks k a a e)

  pub at_least : (asks : List A) (k : ℕ) → k < length asks → (a : A) × (slice_get asks k ≡ Some a)
  at_least [] k lt = absurd (omega (arith, lt))
  at_least (a ∷ asks) zero lt = (a, refl)
  at_least (a ∷ asks) (suc k) lt = at_least asks k (omega (arith, lt))

module _ {A Q R : Type 0} (s : WireFormat Item A Q R) (got : List Item) where
  pub none_first : (from : ℕ) → NoneIn s got from from
  none_first from i p le lt at = absurd (omega (arith, le, lt))

  pub none_more : (from to : ℕ) (q : Item) → slice_get got to ≡ Some q → s.is_message q ≡ false → NoneIn s got from to → NoneIn s got from (to + 1)
  none_more from to q here none h i p le lt at = by_place (omega_or i to lt)
    where
      omega_or : (i to : ℕ) → i < to + 1 → (i < to) ⊎ (i ≡ to)
      omega_or zero zero lt = inr refl
      omega_or zero (suc to) lt = inl (omega arith)
      omega_or (suc i) zero lt = absurd (omega (arith, lt))
      omega_or (suc i) (suc to) lt = up (omega_or i to (omega (arith, lt)))
        where
          up : (i < to) ⊎ (i ≡ to) → (suc i < suc to) ⊎ (suc i ≡ suc to)
          up (inl e) = inl (omega (arith, e))
          up (inr e) = inr (ap suc e)

      by_place : (i < to) ⊎ (i ≡ to) → s.is_message p ≡ false
      by_place (inl less) = h i p le less at
      by_place (inr same) = let one : Some q ≡ Some p = sym here ∙ (ap (slice_get got) (sym same) ∙ at) in let is : q ≡ p = cc in ap s.is_message (sym is) ∙ none

  pub next_found : (from i : ℕ) (q : Item) → slice_get got i ≡ Some q → s.is_message q ≡ true → from ≤ i → NoneIn s got from i → IsNext s got from i
  next_found from i q here one le h = record {
    behind = le;
    within = omega (arith, slice_get_within got i q here);
    none = h;
    some = λ p at. let same : Some q ≡ Some p = sym here ∙ at in let is : q ≡ p = cc in ap s.is_message (sym is) ∙ one;
  }

  pub next_end : (from i count : ℕ) → count ≡ length got → from ≤ length got → i ≡ count → NoneIn s got from i → IsNext s got from count
  next_end from i count is le same h = record {
    behind = omega (arith, is, le);
    within = omega (arith, is);
    none = subst (NoneIn s got from) same h;
    some = λ p at. absurd (omega (arith, is, slice_get_within got count p at));
  }

  -- the packets before it are passed over
  skip : (past : List (Event Item)) (n from : ℕ) → NoneIn s got from (from + n) → from + n ≤ length got → AcksKept s past (drop from got) → AcksKept s past (drop (from + n) got)
  skip past zero from none le h = subst (λ k. AcksKept s past (drop k got)) (let e : from ≡ from + 0 = omega arith in e) h
  skip past (suc n) from none le h =
      let q = at_least got from (omega (arith, le)) in
      let first : drop from got ≡ q.0 ∷ drop (from + 1) got = first_of got from q.0 q.1 in
      let one = acks_passed s past q.0 (drop (from + 1) got) (none from q.0 (omega arith) (omega arith) q.1) (subst (AcksKept s past) first h) in
      let far : (from + 1) + n ≡ from + suc n = omega arith in
      subst (λ k. AcksKept s past (drop k got)) far (skip past n (from + 1) (λ i p a b at. none i p (omega (arith, a)) (omega (arith, b, far)) at) (omega (arith, le, far)) one)

  pub acks_skipped : (past : List (Event Item)) (from next : ℕ) → IsNext s got from next → AcksKept s past (drop from got) → AcksKept s past (drop next got)
  acks_skipped past from next is h =
      let far = split from next is.behind in
      subst (λ k. AcksKept s past (drop k got)) far.1 (skip past far.0 from (subst (NoneIn s got from) (sym far.1) is.none) (omega (arith, far.1, is.within)) h)
    where
      split : (from next : ℕ) → from ≤ next → (n : ℕ) × (from + n ≡ next)
      split zero next le = (next, omega arith)
      split (suc from) zero le = absurd (omega (arith, le))
      split (suc from) (suc next) le = let r = split from next (omega (arith, le)) in (r.0, omega (arith, r.1))

  -- one that stands within the list is a message
  pub found_next : (from next count : ℕ) → count ≡ length got → nat_lt next count ≡ true → IsNext s got from next → (m : Item) × (slice_get got next ≡ Some m) × (s.is_message m ≡ true)
  found_next from next count is less h =
      let lt : next < count = grind (arith, nat_tests, less) in
      let m = at_least got next (omega (arith, is, lt)) in
      (m.0, m.1, h.some m.0 m.1)
