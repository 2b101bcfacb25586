-- What a change of the slab leaves of the pairs at their places.
use Rattle.std.proofs.Common.{◌≡◌, ◌≢◌, ℕ, zero, suc, ◌+◌, ◌<◌, ◌≤◌, List, [], ◌∷◌, length, set, map, get_or, Option, Some, None, IsSome, is_some, count_by, cond, true, ◌||◌, nat_lt, get_or-set_same, get_or-set_other, refl, sym, ap, ◌∙◌, subst, arith}
use Rattle.std.specs.Prelude.{slice_get, unwrap_or, MatchResult, Result, Ok, Err}
use Rattle.std.specs.List.{AllByRecursion, insert, remove, HoldsAt}
use Rattle.std.specs.List.Sorted.{IsStrictlySortedBy, IsSortedBy, IsPartitionPoint, IsSearchInRange, IsBinarySearchResult}
use Rattle.std.specs.Ordering.{is_lt}
use Rattle.std.specs.declared.cmp.Ordering.TheVariants.{Less, Equal, Greater}
use Rattle.std.specs.Map.{keys_of}
use Rattle.std.specs.BTreeMap.{is_at}
use Rattle.std.proofs.lemmas.List.Sorted.{searchable_from_sorted}
use Rattle.std.proofs.Math.ListN.{get_or-map}
use Rattle.std.proofs.lemmas.List.{length-map}
use Rattle.std.proofs.lemmas.Option.{slice_get_within, slice_get-get_or, get_or_from_slice_get}
use Rattle.std.proofs.lemmas.Cmp.{tied_itself, nat_list_cmp_total}
use Rattle.std.proofs.lemmas.Map.Keys.{sorted_head, sorted_tail, Less-from_sorted}
use Rattle.std.proofs.lemmas.Map.Lookups.{exact_bytes}
use Rattle.std.proofs.lemmas.List.Sums.{sum_by-set}
use Rattle.slab.specs.Slab.{Slab, get, slab_len, with_value, Updates}
use Rattle.std.proofs.lemmas.Map.Entries.{lookup_at_gap}
use Rattle.kvp_pool.specs.Pools.{Pairs, key_order, value_in, with_pair, without, can_set}
use Rattle.kvp_pool.specs.Kept.{pair_at, pairs_at, IsKept, IsThere, IsGap}
use Rattle.kvp_pool.proofs.MapLaws.{greater_from_less, less_from_greater, less_than_later, lookup_found, remove_found, insert_found, insert_at_gap, sorted_insert, sorted_remove}

abbrev Pair : Type 0
Pair = List ℕ × List ℕ

-- ---- lists of places

pub map_insert : (f : ℕ → Pair) (xs : List ℕ) (i x : ℕ) → map f (insert xs i x) ≡ insert (map f xs) i (f x)
map_insert f [] zero x = refl
map_insert f [] (suc i) x = refl
map_insert f (y ∷ ys) zero x = refl
map_insert f (y ∷ ys) (suc i) x = ap (λ (rest : List Pair). f y ∷ rest) (map_insert f ys i x)

all_insert : (P : ℕ → Type 0) (xs : List ℕ) (i x : ℕ) → AllByRecursion P xs → P x → AllByRecursion P (insert xs i x)
all_insert P [] zero x all p = (p, tt)
all_insert P [] (suc i) x all p = (p, tt)
all_insert P (y ∷ ys) zero x all p = (p, all)
all_insert P (y ∷ ys) (suc i) x all p = (all.0, all_insert P ys i x all.1 p)

-- the place key stands at i, and nowhere else
abbrev pub StandsOnce : ℕ → List ℕ → ℕ → Type 0
StandsOnce key [] i = ⊥
StandsOnce key (p ∷ ps) zero = (p ≡ key) × AllByRecursion (λ q. q ≢ key) ps
StandsOnce key (p ∷ ps) (suc i) = (p ≢ key) × StandsOnce key ps i

-- ---- a slab that changed at one place

some_none : (o : Option Pair) → IsSome o → o ≡ None → ⊥
some_none None h e = cc
some_none (Some x) h e = cc

module _ (s t : Slab Pair) (key : ℕ) (slot : Option Pair) (up : Updates s t key slot) where
  pair_same : (p : ℕ) → p ≢ key → pair_at t p ≡ pair_at s p
  pair_same p n = ap (λ (o : Option Pair). unwrap_or o ([], [])) (up.others p n)

  pub pairs_same : (ps : List ℕ) → AllByRecursion (λ p. p ≢ key) ps → pairs_at t ps ≡ pairs_at s ps
  pairs_same [] all = refl
  pairs_same (p ∷ ps) all = λ i. pair_same p all.0 i ∷ pairs_same ps all.1 i

  filled_same : (ps : List ℕ) → AllByRecursion (λ p. p ≢ key) ps → AllByRecursion (λ p. IsSome (get s p)) ps → AllByRecursion (λ p. IsSome (get t p)) ps
  filled_same [] apart all = tt
  filled_same (p ∷ ps) apart all = (ap is_some (up.others p apart.0) ∙ all.0, filled_same ps apart.1 all.1)

  -- a vacant place is none of those that are filled
  pub vacant_apart : get s key ≡ None → (ps : List ℕ) → AllByRecursion (λ p. IsSome (get s p)) ps → AllByRecursion (λ p. p ≢ key) ps
  vacant_apart none [] all = tt
  vacant_apart none (p ∷ ps) all = (λ e. some_none (get s p) all.0 (ap (get s) e ∙ none), vacant_apart none ps all.1)

  -- one more pair
  pub pairs_added : get s key ≡ None → (ps : List ℕ) (i : ℕ) → AllByRecursion (λ p. IsSome (get s p)) ps → pairs_at t (insert ps i key) ≡ insert (pairs_at s ps) i (pair_at t key)
  pairs_added none ps i all = map_insert (pair_at t) ps i key ∙ ap (λ (es : Pairs). insert es i (pair_at t key)) (pairs_same ps (vacant_apart none ps all))

  pub filled_added : get s key ≡ None → (ps : List ℕ) (i : ℕ) → AllByRecursion (λ p. IsSome (get s p)) ps → IsSome slot → AllByRecursion (λ p. IsSome (get t p)) (insert ps i key)
  filled_added none ps i all is = all_insert (λ p. IsSome (get t p)) ps i key (filled_same ps (vacant_apart none ps all) all) (ap is_some up.changed ∙ is)

  -- the pair at i is another one
  pub pairs_replaced : (ps : List ℕ) (i : ℕ) → StandsOnce key ps i → pairs_at t ps ≡ set (pairs_at s ps) i (pair_at t key)
  pairs_replaced [] i once = absurd once
  pairs_replaced (p ∷ ps) zero once = λ j. pair_at t (once.0 j) ∷ pairs_same ps once.1 j
  pairs_replaced (p ∷ ps) (suc i) once = λ j. pair_same p once.0 j ∷ pairs_replaced ps i once.1 j

  pub filled_replaced : (ps : List ℕ) (i : ℕ) → StandsOnce key ps i → AllByRecursion (λ p. IsSome (get s p)) ps → IsSome slot → AllByRecursion (λ p. IsSome (get t p)) ps
  filled_replaced [] i once all is = tt
  filled_replaced (p ∷ ps) zero once all is = (ap (λ q. is_some (get t q)) once.0 ∙ (ap is_some up.changed ∙ is), filled_same ps once.1 all.1)
  filled_replaced (p ∷ ps) (suc i) once all is = (ap is_some (up.others p once.0) ∙ all.0, filled_replaced ps i once.1 all.1 is)

  -- the pair at i is gone
  pub pairs_removed : (ps : List ℕ) (i : ℕ) → StandsOnce key ps i → pairs_at t (remove ps i) ≡ remove (pairs_at s ps) i
  pairs_removed [] i once = absurd once
  pairs_removed (p ∷ ps) zero once = pairs_same ps once.1
  pairs_removed (p ∷ ps) (suc i) once = λ j. pair_same p once.0 j ∷ pairs_removed ps i once.1 j

  pub filled_removed : (ps : List ℕ) (i : ℕ) → StandsOnce key ps i → AllByRecursion (λ p. IsSome (get s p)) ps → AllByRecursion (λ p. IsSome (get t p)) (remove ps i)
  filled_removed [] i once all = absurd once
  filled_removed (p ∷ ps) zero once all = filled_same ps once.1 all.1
  filled_removed (p ∷ ps) (suc i) once all = (ap is_some (up.others p once.0) ∙ all.0, filled_removed ps i once.1 all.1)

-- ---- places in order of their keys

module _ (s : Slab Pair) where
  not_less : (x : List ℕ) → key_order x x ≡ Less → ⊥
  not_less x lt = let e : key_order x x ≡ Equal = tied_itself nat_list_cmp_total x in cc

  apart_behind : (key : ℕ) (ps : List ℕ) → AllByRecursion (λ y. key_order (pair_at s key).0 y ≡ Less) (keys_of (pairs_at s ps)) → AllByRecursion (λ q. q ≢ key) ps
  apart_behind key [] all = tt
  apart_behind key (p ∷ ps) all =
      (λ e. not_less (pair_at s key).0 (subst (λ q. key_order (pair_at s key).0 (pair_at s q).0 ≡ Less) e all.0), apart_behind key ps all.1)

  pair_there : (ps : List ℕ) (i key : ℕ) → slice_get ps i ≡ Some key → slice_get (pairs_at s ps) i ≡ Some (pair_at s key)
  pair_there [] i key at = cc
  pair_there (p ∷ ps) zero key at = let e : p ≡ key = cc in ap (λ q. Some (pair_at s q)) e
  pair_there (p ∷ ps) (suc i) key at = pair_there ps i key at

  pub stands_once : (ps : List ℕ) (i key : ℕ) → IsStrictlySortedBy key_order (keys_of (pairs_at s ps)) → slice_get ps i ≡ Some key → StandsOnce key ps i
  stands_once [] i key up at = cc
  stands_once (p ∷ ps) zero key up at =
      let e : p ≡ key = cc in
      (e, apart_behind key ps (subst (λ q. AllByRecursion (λ y. key_order (pair_at s q).0 y ≡ Less) (keys_of (pairs_at s ps))) e (sorted_head key_order (pair_at s p).0 (keys_of (pairs_at s ps)) up)))
  stands_once (p ∷ ps) (suc i) key up at =
      let lt = less_than_later nat_list_cmp_total (pair_at s p).0 (pair_at s key).0 (pair_at s key).1 (pairs_at s ps) i (sorted_head key_order (pair_at s p).0 (keys_of (pairs_at s ps)) up) (pair_there ps i key at) in
      (λ e. not_less (pair_at s key).0 (subst (λ q. key_order (pair_at s q).0 (pair_at s key).0 ≡ Less) e lt), stands_once ps i key (sorted_tail key_order (pair_at s p).0 (keys_of (pairs_at s ps)) up) at)

  -- the keys rise place by place
  pub sorted_places : (ps : List ℕ) → IsStrictlySortedBy key_order (keys_of (pairs_at s ps)) → IsSortedBy (λ a b. is_lt (key_order (pair_at s a).0 (pair_at s b).0)) ps
  sorted_places ps up k d from within =
      let ks = keys_of (pairs_at s ps) in
      let key : ℕ → List ℕ = λ p. (pair_at s p).0 in
      let at : (j : ℕ) → get_or ks j (key d) ≡ key (get_or ps j d) = λ j. get_or-map (λ (e : Pair). e.0) (pairs_at s ps) j (pair_at s d) ∙ ap (λ (e : Pair). e.0) (get_or-map (pair_at s) ps j d) in
      let long : k + 1 < length ks = omega (arith, within, length-map (pairs_at s ps) (λ (e : Pair). e.0), length-map ps (pair_at s)) in
      let lt = Less-from_sorted key_order ks k (k + 1) (key d) up (omega arith) long in
      let here : key_order (key (get_or ps k d)) (key (get_or ps (k + 1) d)) ≡ Less = (λ i. key_order (sym (at k) i) (sym (at (k + 1)) i)) ∙ lt in
      ap is_lt (greater_from_less nat_list_cmp_total (key (get_or ps k d)) (key (get_or ps (k + 1) d)) here)

  -- what a search finds
  pub there_from_search : (ps : List ℕ) (key : List ℕ) (i : ℕ) → i < length ps → HoldsAt (λ p. key_order (pair_at s p).0 key ≡ Equal) ps i → IsThere key (pairs_at s ps) i
  there_from_search ps key i within is =
      let p = get_or ps i 0 in
      let same : (pair_at s p).0 ≡ key = exact_bytes (pair_at s p).0 key (is 0) in
      record {
        value = (pair_at s p).1;
        here = pair_there ps i p (slice_get-get_or ps i 0 within) ∙ ap (λ (k : List ℕ). Some (k, (pair_at s p).1)) same;
      }

  at_place : (ps : List ℕ) (j : ℕ) (e : Pair) → slice_get (pairs_at s ps) j ≡ Some e → pair_at s (get_or ps j 0) ≡ e
  at_place ps j e at = sym (get_or-map (pair_at s) ps j 0) ∙ get_or_from_slice_get (pairs_at s ps) j e (pair_at s 0) at

  pub gap_from_search : (ps : List ℕ) (key : List ℕ) (i : ℕ) → i ≤ length ps
      → IsPartitionPoint (λ p. key_order (pair_at s p).0 key ≡ Less) (λ p. key_order (pair_at s p).0 key ≡ Greater) ps i → IsGap key (pairs_at s ps) i
  gap_from_search ps key i within parts =
      record {
        within = omega (arith, within, length-map ps (pair_at s));
        below = λ j e lt at.
            greater_from_less nat_list_cmp_total e.0 key (subst (λ (x : Pair). key_order x.0 key ≡ Less) (at_place ps j e at) (parts.0 j 0 (omega arith) lt));
        above = λ e at.
            let inside = slice_get_within (pairs_at s ps) i e at in
            less_from_greater nat_list_cmp_total e.0 key (subst (λ (x : Pair). key_order x.0 key ≡ Greater) (at_place ps i e at) (parts.1 i 0 (omega arith) (omega (arith, inside, length-map ps (pair_at s)))));
      }

  pub found_from_search : (ps : List ℕ) (key : List ℕ) (r : Result ℕ ℕ) → IsStrictlySortedBy key_order (keys_of (pairs_at s ps)) → IsSearchInRange r (length ps)
      → IsBinarySearchResult (λ p. key_order (pair_at s p).0 key) ps r → MatchResult r (IsThere key (pairs_at s ps)) (IsGap key (pairs_at s ps))
  found_from_search ps key (Ok i) up within is = there_from_search ps key i within is
  found_from_search ps key (Err i) up within is =
      gap_from_search ps key i within (is (searchable_from_sorted nat_list_cmp_total (λ p. (pair_at s p).0) ps key (sorted_places ps up)))

  -- ---- a pair that was found

  pub found_pair : (ps : List ℕ) (i place : ℕ) (key : List ℕ) (pair : Pair) (there : IsThere key (pairs_at s ps) i) → slice_get ps i ≡ Some place → get s place ≡ Some pair → pair ≡ (key, there.value)
  found_pair ps i place key pair there at is =
      let e : pair_at s place ≡ pair = ap (λ (o : Option Pair). unwrap_or o ([], [])) is in
      let f : Some (pair_at s place) ≡ Some (key, there.value) = sym (pair_there ps i place at) ∙ there.here in
      cc

  pub filled_at : (ps : List ℕ) (i place : ℕ) → AllByRecursion (λ p. IsSome (get s p)) ps → slice_get ps i ≡ Some place → IsSome (get s place)
  filled_at [] i place all at = cc
  filled_at (p ∷ ps) zero place all at = let e : p ≡ place = cc in subst (λ q. IsSome (get s q)) e all.0
  filled_at (p ∷ ps) (suc i) place all at = filled_at ps i place all.1 at

  pub there_within : (ps : List ℕ) (key : List ℕ) (i : ℕ) → IsThere key (pairs_at s ps) i → i < length ps
  there_within ps key i there = omega (arith, slice_get_within (pairs_at s ps) i (key, there.value) there.here, length-map ps (pair_at s))

-- the value of a key that was found, and of one that was not
pub value_found : (pool : Pairs) (key : List ℕ) (i : ℕ) → IsStrictlySortedBy key_order (keys_of pool) → (there : IsThere key pool i) → value_in key pool ≡ Some there.value
value_found pool key i up there = lookup_found nat_list_cmp_total pool i key there.value up there.here

pub value_absent : (pool : Pairs) (key : List ℕ) (i : ℕ) → IsStrictlySortedBy key_order (keys_of pool) → IsGap key pool i → value_in key pool ≡ None
value_absent pool key i up gap = lookup_at_gap nat_list_cmp_total key pool i up gap.below gap.above

-- ---- what each call leaves

abbrev Rises : Pairs → Type 0
Rises pool = IsStrictlySortedBy key_order (keys_of pool)

pub kept_new : (s : Slab Pair) (ps : List ℕ) (capacity : ℕ) → s.slots ≡ [] → ps ≡ [] → 256 ≤ s.capacity → 256 ≤ capacity → IsKept s ps capacity
unfolding IsStrictlySortedBy
kept_new s ps capacity none empty places room =
    record {
      filled = subst (λ (qs : List ℕ). AllByRecursion (λ p. IsSome (get s p)) qs) (sym empty) tt;
      rising = subst (λ (qs : List ℕ). Rises (pairs_at s qs)) (sym empty) tt;
      count = ap (count_by is_some) none ∙ ap {B = ℕ} (λ (qs : List ℕ). length qs) (sym empty);
      few = omega (arith, ap {B = ℕ} (λ (qs : List ℕ). length qs) empty);
      places = places;
      room = room;
    }

module _ (s t : Slab Pair) (ps qs : List ℕ) (i place capacity : ℕ) (key value : List ℕ) (kept : IsKept s ps capacity) where
  -- one pair is gone
  pub removed : Updates s t place None → slice_get ps i ≡ Some place → IsThere key (pairs_at s ps) i → qs ≡ remove ps i → pairs_at t qs ≡ without key (pairs_at s ps)
  removed up at there new =
      ap (pairs_at t) new
      ∙ (pairs_removed s t place None up ps i (stands_once s ps i place kept.rising at)
      ∙ sym (remove_found nat_list_cmp_total (pairs_at s ps) i key there.value kept.rising there.here))

  pub kept_removed : (up : Updates s t place None) (at : slice_get ps i ≡ Some place) (there : IsThere key (pairs_at s ps) i) (new : qs ≡ remove ps i)
      → slab_len t + 1 ≡ slab_len s → t.capacity ≡ s.capacity → length qs + 1 ≡ length ps → IsKept t qs capacity
  kept_removed up at there new fewer same short =
      record {
        filled = subst (λ (rs : List ℕ). AllByRecursion (λ p. IsSome (get t p)) rs) (sym new) (filled_removed s t place None up ps i (stands_once s ps i place kept.rising at) kept.filled);
        rising = subst Rises (sym (removed up at there new)) (sorted_remove nat_list_cmp_total (is_at (key_order key)) (pairs_at s ps) kept.rising);
        count = omega (arith, fewer, short, kept.count);
        few = omega (arith, short, kept.few);
        places = omega (arith, same, kept.places);
        room = kept.room;
      }

  -- one pair is new
  pub added : Updates s t place (Some (key, value)) → get s place ≡ None → IsGap key (pairs_at s ps) i → qs ≡ insert ps i place → pairs_at t qs ≡ with_pair key value (pairs_at s ps)
  added up vacant gap new =
      let pair : pair_at t place ≡ (key, value) = ap (λ (o : Option Pair). unwrap_or o ([], [])) up.changed in
      ap (pairs_at t) new
      ∙ (pairs_added s t place (Some (key, value)) up vacant ps i kept.filled
      ∙ (ap (λ (p : Pair). insert (pairs_at s ps) i p) pair ∙ sym (insert_at_gap nat_list_cmp_total (pairs_at s ps) i key value gap.below gap.above)))

  pub kept_added : (up : Updates s t place (Some (key, value))) (vacant : get s place ≡ None) (gap : IsGap key (pairs_at s ps) i) (new : qs ≡ insert ps i place)
      → slab_len t ≡ slab_len s + 1 → t.capacity ≡ s.capacity → length qs ≡ length ps + 1 → length ps < 256 → (now : ℕ) → 256 ≤ now → IsKept t qs now
  kept_added up vacant gap new more same long few now room =
      record {
        filled = subst (λ (rs : List ℕ). AllByRecursion (λ p. IsSome (get t p)) rs) (sym new) (filled_added s t place (Some (key, value)) up vacant ps i kept.filled refl);
        rising = subst Rises (sym (added up vacant gap new)) (sorted_insert nat_list_cmp_total (pairs_at s ps) key value kept.rising);
        count = omega (arith, more, long, kept.count);
        few = omega (arith, long, few);
        places = omega (arith, same, kept.places);
        room = room;
      }

-- a write of one value
slot_there : (slots : List (Option Pair)) (place : ℕ) → IsSome (get_or slots place None) → place < length slots
slot_there [] place is = absurd (some_none (get_or {A = Option Pair} [] place None) is refl)
slot_there (x ∷ xs) zero is = omega arith
slot_there (x ∷ xs) (suc place) is = omega (arith, slot_there xs place is)

pub written : (s : Slab Pair) (place : ℕ) (pair : Pair) → IsSome (get s place) → Updates s (with_value s place pair) place (Some pair)
written s place pair is =
    record {
      changed = let lt = slot_there s.slots place is in get_or-set_same s.slots place (Some pair) None lt;
      others = λ p n. get_or-set_other s.slots place p (Some pair) None n;
    }

pub written_count : (s : Slab Pair) (place : ℕ) (pair : Pair) → IsSome (get s place) → slab_len (with_value s place pair) ≡ slab_len s
written_count s place pair is =
    let f : Option Pair → ℕ = λ o. cond (is_some o) 1 0 in
    let step : count_by is_some (set s.slots place (Some pair)) + f (get_or s.slots place None) ≡ count_by is_some s.slots + 1 = sum_by-set f s.slots place (Some pair) None (slot_there s.slots place is) in
    let one : f (get_or s.slots place None) ≡ 1 = ap {B = ℕ} (λ b. cond b 1 0) is in
    omega (arith, step, one)

module _ (s : Slab Pair) (ps : List ℕ) (i place capacity : ℕ) (key value : List ℕ) (pair : Pair) (kept : IsKept s ps capacity) (at : slice_get ps i ≡ Some place) (there : IsThere key (pairs_at s ps) i) (is : get s place ≡ Some pair) where
  -- one pair has another value
  pub replaced : pairs_at (with_value s place (pair.0, value)) ps ≡ with_pair key value (pairs_at s ps)
  replaced =
      let t = with_value s place (pair.0, value) in
      let there_is = filled_at s ps i place kept.filled at in
      let up = written s place (pair.0, value) there_is in
      let same : pair.0 ≡ key = ap (λ (p : Pair). p.0) (found_pair s ps i place key pair there at is) in
      let now : pair_at t place ≡ (key, value) = ap (λ (o : Option Pair). unwrap_or o ([], [])) up.changed ∙ ap (λ (k : List ℕ). (k, value)) same in
      pairs_replaced s t place (Some (pair.0, value)) up ps i (stands_once s ps i place kept.rising at)
      ∙ (ap (set (pairs_at s ps) i) now ∙ sym (insert_found nat_list_cmp_total (pairs_at s ps) i key value there.value kept.rising there.here))

  pub kept_replaced : IsKept (with_value s place (pair.0, value)) ps capacity
  kept_replaced =
      let t = with_value s place (pair.0, value) in
      let there_is = filled_at s ps i place kept.filled at in
      let up = written s place (pair.0, value) there_is in
      record {
        filled = filled_replaced s t place (Some (pair.0, value)) up ps i (stands_once s ps i place kept.rising at) kept.filled refl;
        rising = subst Rises (sym replaced) (sorted_insert nat_list_cmp_total (pairs_at s ps) key value kept.rising);
        count = written_count s place (pair.0, value) there_is ∙ kept.count;
        few = kept.few;
        places = kept.places;
        room = kept.room;
      }

-- ---- whether a key can be set

pub settable_found : (pool : Pairs) (key : List ℕ) (i : ℕ) → Rises pool → IsThere key pool i → can_set key pool ≡ true
settable_found pool key i up there = ap (λ (o : Option (List ℕ)). is_some o || nat_lt (length pool) 256) (value_found pool key i up there)

pub settable_gap : (pool : Pairs) (key : List ℕ) (i : ℕ) → Rises pool → IsGap key pool i → can_set key pool ≡ nat_lt (length pool) 256
settable_gap pool key i up gap = ap (λ (o : Option (List ℕ)). is_some o || nat_lt (length pool) 256) (value_absent pool key i up gap)
