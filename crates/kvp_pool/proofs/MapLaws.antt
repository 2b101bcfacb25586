-- Entries in order of their keys, and an entry among them.
use Rattle.std.proofs.Common.{◌≡◌, ℕ, zero, suc, ◌<◌, List, [], ◌∷◌, set, count_by, cond, true, false, Option, Some, None, refl, sym, ap, ◌∙◌, subst, arith}
use Rattle.std.specs.Prelude.{slice_get, Bool}
use Rattle.std.specs.List.{AllByRecursion, insert, remove}
use Rattle.std.specs.List.Sorted.{IsStrictlySortedBy}
use Rattle.std.specs.Cmp.{IsTotalOrder}
use Rattle.std.specs.Ordering.{ordering_reverse, match_ordering, is_eq, is_lt}
use Rattle.std.specs.declared.cmp.Ordering.{Ordering}
use Rattle.std.specs.declared.cmp.Ordering.TheVariants.{Less, Equal, Greater}
use Rattle.std.specs.Map.{keys_of, lookup, remove_entry}
use Rattle.std.specs.BTreeMap.{insert_entry, is_at}
use Rattle.std.proofs.lemmas.Cmp.{tied_itself, eq_by_cmp_equiv}
use Rattle.std.proofs.lemmas.Map.Entries.{lookup_from_place}
use Rattle.std.proofs.lemmas.Map.{lookup-remove_entry}
use Rattle.std.proofs.lemmas.List.Sums.{sum_by-cons}
use Rattle.std.proofs.lemmas.Map.Keys.{IsDistinct-from_sorted, sorted_head, sorted_tail}

-- a key that isn't there leaves all when it goes out
some_none : {X : Type 0} (x : X) → Some x ≡ None → ⊥
some_none x h = cc

pub remove_absent : {K X : Type 0} (test : K → Bool) (es : List (K × X)) → lookup test es ≡ None → remove_entry test es ≡ es
remove_absent test [] none = refl
remove_absent {X = X} test (e ∷ es) none =
    elim (test e.0) as (λ b. cond b (Some e.1) (lookup test es) ≡ None → cond b es (e ∷ remove_entry test es) ≡ e ∷ es) [
      | true ↦ λ h. absurd (some_none e.1 h)
      | false ↦ λ h. ap (λ rest. e ∷ rest) (remove_absent test es h)
    ] none

module _ {K : Type 0} {R : K → K → Ordering} (o : IsTotalOrder R) where
  pub greater_from_less : (x y : K) → R x y ≡ Less → R y x ≡ Greater
  greater_from_less x y e = o.antisymm y x ∙ ap ordering_reverse e

  pub less_from_greater : (x y : K) → R x y ≡ Greater → R y x ≡ Less
  less_from_greater x y e = o.antisymm y x ∙ ap ordering_reverse e

module _ {K X : Type 0} {R : K → K → Ordering} (o : IsTotalOrder R) where
  insert_past : (e : K × X) (es : List (K × X)) (k : K) (v : X) → R k e.0 ≡ Greater → insert_entry R (e ∷ es) k v ≡ e ∷ insert_entry R es k v
  insert_past e es k v g = ap (λ r. match_ordering r ((k, v) ∷ e ∷ es) ((e.0, v) ∷ es) (e ∷ insert_entry R es k v)) g

  remove_past : (e : K × X) (es : List (K × X)) (k : K) → R k e.0 ≡ Greater → remove_entry (is_at (R k)) (e ∷ es) ≡ e ∷ remove_entry (is_at (R k)) es
  remove_past e es k g = ap (λ r. cond (is_eq r) es (e ∷ remove_entry (is_at (R k)) es)) g

  -- a new key goes to its gap
  pub insert_at_gap : (es : List (K × X)) (i : ℕ) (k : K) (v : X)
      → ((j : ℕ) (e : K × X) → j < i → slice_get es j ≡ Some e → R k e.0 ≡ Greater) → ((e : K × X) → slice_get es i ≡ Some e → R k e.0 ≡ Less)
      → insert_entry R es k v ≡ insert es i (k, v)
  insert_at_gap [] zero k v below above = refl
  insert_at_gap [] (suc i) k v below above = refl
  insert_at_gap (e ∷ es) zero k v below above = ap (λ r. match_ordering r ((k, v) ∷ e ∷ es) ((e.0, v) ∷ es) (e ∷ insert_entry R es k v)) (above e refl)
  insert_at_gap (e ∷ es) (suc i) k v below above =
      insert_past e es k v (below 0 e (omega arith) refl)
      ∙ ap (λ (rest : List (K × X)). e ∷ rest) (insert_at_gap es i k v (λ j p lt at. below (suc j) p (omega arith) at) above)

  -- a key that is there is later than the keys before it
  pub less_than_later : (a k : K) (v : X) (es : List (K × X)) (i : ℕ) → AllByRecursion (λ y. R a y ≡ Less) (keys_of es) → slice_get es i ≡ Some (k, v) → R a k ≡ Less
  less_than_later a k v [] i all at = cc
  less_than_later a k v (e ∷ es) zero all at = let is : e ≡ (k, v) = cc in subst (λ (p : K × X). R a p.0 ≡ Less) is all.0
  less_than_later a k v (e ∷ es) (suc i) all at = less_than_later a k v es i all.1 at

  greater_than_earlier : (e : K × X) (es : List (K × X)) (i : ℕ) (k : K) (v : X) → IsStrictlySortedBy R (keys_of (e ∷ es)) → slice_get es i ≡ Some (k, v) → R k e.0 ≡ Greater
  greater_than_earlier e es i k v up at = greater_from_less o e.0 k (less_than_later e.0 k v es i (sorted_head R e.0 (keys_of es) up) at)

  -- a key that is there takes the value
  pub insert_found : (es : List (K × X)) (i : ℕ) (k : K) (v w : X) → IsStrictlySortedBy R (keys_of es) → slice_get es i ≡ Some (k, w) → insert_entry R es k v ≡ set es i (k, v)
  insert_found [] i k v w up at = cc
  insert_found (e ∷ es) zero k v w up at =
      let is : e ≡ (k, w) = cc in
      let same : k ≡ e.0 = ap (λ p. p.0) (sym is) in
      let tied : R k e.0 ≡ Equal = ap (R k) (sym same) ∙ tied_itself o k in
      ap (λ r. match_ordering r ((k, v) ∷ e ∷ es) ((e.0, v) ∷ es) (e ∷ insert_entry R es k v)) tied ∙ ap (λ (x : K). (x, v) ∷ es) (sym same)
  insert_found (e ∷ es) (suc i) k v w up at =
      insert_past e es k v (greater_than_earlier e es i k w up at)
      ∙ ap (λ (rest : List (K × X)). e ∷ rest) (insert_found es i k v w (sorted_tail R e.0 (keys_of es) up) at)

  -- it goes out with its value
  pub remove_found : (es : List (K × X)) (i : ℕ) (k : K) (w : X) → IsStrictlySortedBy R (keys_of es) → slice_get es i ≡ Some (k, w) → remove_entry (is_at (R k)) es ≡ remove es i
  remove_found [] i k w up at = cc
  remove_found (e ∷ es) zero k w up at =
      let is : e ≡ (k, w) = cc in
      let same : k ≡ e.0 = ap (λ p. p.0) (sym is) in
      let tied : R k e.0 ≡ Equal = ap (R k) (sym same) ∙ tied_itself o k in
      ap (λ r. cond (is_eq r) es (e ∷ remove_entry (is_at (R k)) es)) tied
  remove_found (e ∷ es) (suc i) k w up at =
      remove_past e es k (greater_than_earlier e es i k w up at)
      ∙ ap (λ (rest : List (K × X)). e ∷ rest) (remove_found es i k w (sorted_tail R e.0 (keys_of es) up) at)

  pub lookup_found : (es : List (K × X)) (i : ℕ) (k : K) (w : X) → IsStrictlySortedBy R (keys_of es) → slice_get es i ≡ Some (k, w) → lookup (is_at (R k)) es ≡ Some w
  lookup_found es i k w up at = lookup_from_place (eq_by_cmp_equiv o) es i k w (IsDistinct-from_sorted R (keys_of es) up) at

  all_insert : (P : K → Type 0) (es : List (K × X)) (k : K) (v : X) → AllByRecursion P (keys_of es) → P k → AllByRecursion P (keys_of (insert_entry R es k v))
  all_insert P [] k v all p = (p, tt)
  all_insert P (e ∷ es) k v all p =
      elim (R k e.0) as (λ r. AllByRecursion P (keys_of (match_ordering r ((k, v) ∷ e ∷ es) ((e.0, v) ∷ es) (e ∷ insert_entry R es k v)))) [
        | Less ↦ (p, all)
        | Equal ↦ all
        | Greater ↦ (all.0, all_insert P es k v all.1 p)
      ]

  all_remove : (P : K → Type 0) (test : K → Bool) (es : List (K × X)) → AllByRecursion P (keys_of es) → AllByRecursion P (keys_of (remove_entry test es))
  all_remove P test [] all = tt
  all_remove P test (e ∷ es) all =
      elim (test e.0) as (λ b. AllByRecursion P (keys_of (cond b es (e ∷ remove_entry test es)))) [
        | true ↦ all.1
        | false ↦ (all.0, all_remove P test es all.1)
      ]

  all_later : (k : K) (a : K) (es : List (K × X)) → R k a ≡ Less → AllByRecursion (λ y. R a y ≡ Less) (keys_of es) → AllByRecursion (λ y. R k y ≡ Less) (keys_of es)
  all_later k a [] lt all = tt
  all_later k a (e ∷ es) lt all = (o.trans k a e.0 lt all.0, all_later k a es lt all.1)

  pub sorted_insert : (es : List (K × X)) (k : K) (v : X) → IsStrictlySortedBy R (keys_of es) → IsStrictlySortedBy R (keys_of (insert_entry R es k v))
  unfolding IsStrictlySortedBy
  sorted_insert [] k v up = (tt, tt)
  sorted_insert (e ∷ es) k v up =
      elim (R k e.0) as (λ r. R k e.0 ≡ r → IsStrictlySortedBy R (keys_of (match_ordering r ((k, v) ∷ e ∷ es) ((e.0, v) ∷ es) (e ∷ insert_entry R es k v)))) [
        | Less ↦ λ lt. ((lt, all_later k e.0 es lt up.0), up)
        | Equal ↦ λ is. up
        | Greater ↦ λ gt. (all_insert (λ y. R e.0 y ≡ Less) es k v up.0 (less_from_greater o k e.0 gt), sorted_insert es k v up.1)
      ] refl

  pub sorted_remove : (test : K → Bool) (es : List (K × X)) → IsStrictlySortedBy R (keys_of es) → IsStrictlySortedBy R (keys_of (remove_entry test es))
  unfolding IsStrictlySortedBy
  sorted_remove test [] up = tt
  sorted_remove test (e ∷ es) up =
      elim (test e.0) as (λ b. IsStrictlySortedBy R (keys_of (cond b es (e ∷ remove_entry test es)))) [
        | true ↦ up.1
        | false ↦ (all_remove (λ y. R e.0 y ≡ Less) test es up.0, sorted_remove test es up.1)
      ]

  -- ---- what a change leaves of the values

  pub lookup_set : (es : List (K × X)) (k : K) (v : X) → lookup (is_at (R k)) (insert_entry R es k v) ≡ Some v
  lookup_set [] k v = ap (λ r. cond (is_eq r) (Some v) None) (tied_itself o k)
  lookup_set (e ∷ es) k v =
      elim (R k e.0) as (λ r. R k e.0 ≡ r → lookup (is_at (R k)) (match_ordering r ((k, v) ∷ e ∷ es) ((e.0, v) ∷ es) (e ∷ insert_entry R es k v)) ≡ Some v) [
        | Less ↦ λ h. ap (λ r. cond (is_eq r) (Some v) (lookup (is_at (R k)) (e ∷ es))) (tied_itself o k)
        | Equal ↦ λ h. ap (λ r. cond (is_eq r) (Some v) (lookup (is_at (R k)) es)) h
        | Greater ↦ λ h. ap (λ r. cond (is_eq r) (Some e.1) (lookup (is_at (R k)) (insert_entry R es k v))) h ∙ lookup_set es k v
      ] refl

  pub lookup_set_other : (es : List (K × X)) (k q : K) (v : X) → is_eq (R q k) ≡ false → lookup (is_at (R q)) (insert_entry R es k v) ≡ lookup (is_at (R q)) es
  lookup_set_other [] k q v n = ap (λ b. cond b (Some v) None) n
  lookup_set_other (e ∷ es) k q v n =
      elim (R k e.0) as (λ r. R k e.0 ≡ r → lookup (is_at (R q)) (match_ordering r ((k, v) ∷ e ∷ es) ((e.0, v) ∷ es) (e ∷ insert_entry R es k v)) ≡ lookup (is_at (R q)) (e ∷ es)) [
        | Less ↦ λ h. ap (λ b. cond b (Some v) (lookup (is_at (R q)) (e ∷ es))) n
        | Equal ↦ λ h.
            let other : is_eq (R q e.0) ≡ false = ap is_eq (o.antisymm q e.0 ∙ (ap ordering_reverse (sym (o.congr k e.0 q h)) ∙ sym (o.antisymm q k))) ∙ n in
            ap (λ b. cond b (Some v) (lookup (is_at (R q)) es)) other ∙ sym (ap (λ b. cond b (Some e.1) (lookup (is_at (R q)) es)) other)
        | Greater ↦ λ h. ap (λ (found : Option X). cond (is_eq (R q e.0)) (Some e.1) found) (lookup_set_other es k q v n)
      ] refl

  none_below : (a : K) (es : List (K × X)) → AllByRecursion (λ y. R a y ≡ Less) (keys_of es) → count_by (λ p. is_lt (R p.0 a)) es ≡ 0
  none_below a [] all = refl
  none_below a (e ∷ es) all =
      let test : K × X → Bool = λ p. is_lt (R p.0 a) in
      let not_before : test e ≡ false = ap is_lt (greater_from_less o a e.0 all.0) in
      sum_by-cons (λ (p : K × X). cond (test p) 1 0) e es ∙ omega (arith, ap {B = ℕ} (λ b. cond b 1 0) not_before, none_below a es all.1)

  pub rank : (es : List (K × X)) (i : ℕ) (e : K × X) → IsStrictlySortedBy R (keys_of es) → slice_get es i ≡ Some e → count_by (λ p. is_lt (R p.0 e.0)) es ≡ i
  rank [] i e up at = cc
  rank (x ∷ es) zero e up at =
      let is : x ≡ e = cc in
      let test : K × X → Bool = λ p. is_lt (R p.0 e.0) in
      let not_before : test x ≡ false = ap (λ (p : K × X). is_lt (R p.0 e.0)) is ∙ ap is_lt (tied_itself o e.0) in
      let none : count_by test es ≡ 0 = none_below e.0 es (subst (λ (p : K × X). AllByRecursion (λ y. R p.0 y ≡ Less) (keys_of es)) is (sorted_head R x.0 (keys_of es) up)) in
      sum_by-cons (λ (p : K × X). cond (test p) 1 0) x es ∙ omega (arith, ap {B = ℕ} (λ b. cond b 1 0) not_before, none)
  rank (x ∷ es) (suc i) e up at =
      let test : K × X → Bool = λ p. is_lt (R p.0 e.0) in
      let before : test x ≡ true = ap is_lt (less_than_later x.0 e.0 e.1 es i (sorted_head R x.0 (keys_of es) up) at) in
      sum_by-cons (λ (p : K × X). cond (test p) 1 0) x es ∙ omega (arith, ap {B = ℕ} (λ b. cond b 1 0) before, rank es i e (sorted_tail R x.0 (keys_of es) up) at)

  pub lookup_gone : (es : List (K × X)) (k q : K) → IsStrictlySortedBy R (keys_of es) → lookup (is_at (R q)) (remove_entry (is_at (R k)) es) ≡ cond (is_eq (R k q)) None (lookup (is_at (R q)) es)
  lookup_gone es k q up = lookup-remove_entry (eq_by_cmp_equiv o) (is_at (R k)) (λ x y h. (eq_by_cmp_equiv o).congr k x y h) q es (IsDistinct-from_sorted R (keys_of es) up)
