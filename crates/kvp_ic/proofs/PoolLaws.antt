-- One request, and what it leaves.
use Rattle.std.proofs.Common.{◌≡◌, ◌≢◌, ◌∙◌, ℕ, zero, suc, ◌≤◌, ◌==◌, ◌&&◌, List, [], ◌∷◌, length, set, get_or, cond, Bool, true, false, Option, Some, None, is_some, refl, sym, ap, subst, arith}
use Rattle.std.specs.Prelude.{slice_get, if◌then◌else◌, bytes_eq, Result, Ok, Err, MatchResult, is_ok}
use Rattle.std.specs.List.Sorted.{IsStrictlySortedBy}
use Rattle.std.specs.Ordering.{is_eq}
use Rattle.std.specs.declared.cmp.Ordering.{Ordering}
use Rattle.std.specs.declared.cmp.Ordering.TheVariants.{Less, Equal, Greater}
use Rattle.std.specs.Map.{keys_of}
use Rattle.std.specs.BTreeMap.{is_at}
use Rattle.std.proofs.lemmas.Bool.Decides.{nat_tests}
use Rattle.std.proofs.lemmas.Cmp.{nat_list_cmp_total, eq_by_cmp_equiv}
use Rattle.std.proofs.lemmas.Map.Text.{is_eq-slice_cmp}
use Rattle.std.proofs.lemmas.Map.Lookups.{exact_bytes}
use Rattle.kvp_pool.specs.Pools.{Pairs, key_order, value_in, with_pair, without, can_set}
use Rattle.kvp_pool.proofs.MapLaws.{sorted_insert, sorted_remove, remove_absent, lookup_set, lookup_set_other, lookup_gone}
use Rattle.kvp_ic.specs.declared.message.Kvp.{Kvp}
use Rattle.kvp_ic.specs.declared.message.Kvp.TheVariants.{Get, Set, Delete, Enum}
use Rattle.kvp_ic.specs.Machine.{pool_of, told, full, missing, no_pool, pool_reply, pool_after, reply_in, IsReplyTo}
use Rattle.kvp_ic.specs.Runs.{told_by}

abbrev pub Rises : Pairs → Type 0
Rises pool = IsStrictlySortedBy key_order (keys_of pool)

pub rises_after : (pool : Pairs) (q : Kvp) → Rises pool → Rises (pool_after pool q)
rises_after pool (Get _ key) up = up
rises_after pool (Set _ key value) up =
    elim (can_set key pool) as (λ b. Rises (if b then with_pair key value pool else pool)) [
      | true ↦ sorted_insert nat_list_cmp_total pool key value up
      | false ↦ up
    ]
rises_after pool (Delete _ key) up = sorted_remove nat_list_cmp_total (is_at (key_order key)) pool up
rises_after pool (Enum _ index) up = up

none_from : (o : Option (List ℕ)) → is_some o ≡ false → o ≡ None
none_from None h = refl
none_from (Some x) h = cc

-- a request that is refused leaves the pool
pub pool_refused : (pool : Pairs) (q : Kvp) → (pool_reply pool q).status ≢ 0 → pool_after pool q ≡ pool
pool_refused pool (Get _ key) n = refl
pool_refused pool (Set _ key value) n =
    elim (can_set key pool) as (λ b. (if b then told 0 else full).status ≢ 0 → (if b then with_pair key value pool else pool) ≡ pool) [
      | true ↦ λ h. absurd (h refl)
      | false ↦ λ h. refl
    ] n
pool_refused pool (Delete _ key) n =
    elim (is_some (value_in key pool)) as (λ b. is_some (value_in key pool) ≡ b → (if b then told 0 else missing).status ≢ 0 → without key pool ≡ pool) [
      | true ↦ λ e h. absurd (h refl)
      | false ↦ λ e h. remove_absent (is_at (key_order key)) pool (none_from (value_in key pool) e)
    ] refl n
pool_refused pool (Enum _ index) n = refl

pub refused : (pools : List Pairs) (i : ℕ) (q : Kvp) → (reply_in (slice_get pools i) q).status ≢ 0 → set pools i (pool_after (get_or pools i []) q) ≡ pools
refused [] i q n = refl
refused (p ∷ ps) zero q n = ap (λ (x : Pairs). x ∷ ps) (pool_refused p q n)
refused (p ∷ ps) (suc i) q n = ap (λ (xs : List Pairs). p ∷ xs) (refused ps i q n)

pub set_past : (pools : List Pairs) (i : ℕ) (p : Pairs) → length pools ≤ i → set pools i p ≡ pools
set_past [] i p h = refl
set_past (x ∷ xs) zero p h = absurd (omega arith)
set_past (x ∷ xs) (suc i) p h = ap (λ (ys : List Pairs). x ∷ ys) (set_past xs i p (omega arith))

pub get_set_other : (pools : List Pairs) (i j : ℕ) (p : Pairs) → j ≢ i → slice_get (set pools i p) j ≡ slice_get pools j
get_set_other [] i j p n = refl
get_set_other (x ∷ xs) zero zero p n = absurd (n refl)
get_set_other (x ∷ xs) zero (suc j) p n = refl
get_set_other (x ∷ xs) (suc i) zero p n = refl
get_set_other (x ∷ xs) (suc i) (suc j) p n = get_set_other xs i j p (λ e. n (ap suc e))

-- ---- the value of a key behind a request

same_number : (n i : ℕ) → n ≡ i → (n == i) ≡ true
same_number n i e = grind (arith, nat_tests)

other_number : (n i : ℕ) → n ≢ i → (n == i) ≡ false
other_number n i e = grind (arith, nat_tests)

unlike : {X : Type 0} (a b : Bool) (x y : X) → (if (a && false) && b then x else y) ≡ y
unlike true b x y = refl
unlike false b x y = refl

pub told_apart : (q : Kvp) (i : ℕ) (key : List ℕ) (before : Option (List ℕ)) (status : ℕ) → pool_of q ≢ i → told_by i key before q status ≡ before
told_apart (Get pool k) i key before status n = refl
told_apart (Set pool k value) i key before status n =
    let ne = other_number pool i n in
    ap (λ b. if (status == 0) && b && bytes_eq k key then Some value else before) ne ∙ unlike (status == 0) (bytes_eq k key) (Some value) before
told_apart (Delete pool k) i key before status n =
    let ne = other_number pool i n in
    ap (λ b. if (status == 0) && b && bytes_eq k key then None else before) ne ∙ unlike (status == 0) (bytes_eq k key) None before
told_apart (Enum pool index) i key before status n = refl

same_key : (k key : List ℕ) → bytes_eq k key ≡ true → k ≡ key
same_key k key e = exact_bytes k key (is_equal (key_order k key) (is_eq-slice_cmp k key ∙ e))
  where
    is_equal : (r : Ordering) → is_eq r ≡ true → r ≡ Equal
    is_equal Less h = cc
    is_equal Equal h = refl
    is_equal Greater h = cc

value_set : (pool : Pairs) (k value key : List ℕ) (b : Bool) → bytes_eq k key ≡ b → value_in key (with_pair k value pool) ≡ (if b then Some value else value_in key pool)
value_set pool k value key true e = subst (λ (x : List ℕ). value_in x (with_pair k value pool) ≡ Some value) (same_key k key e) (lookup_set nat_list_cmp_total pool k value)
value_set pool k value key false e =
    lookup_set_other nat_list_cmp_total pool k key value ((eq_by_cmp_equiv nat_list_cmp_total).symm key k ∙ (is_eq-slice_cmp k key ∙ e))

after_set : (pool : Pairs) (k value key : List ℕ) (c t : Bool) → t ≡ true → value_in key (if c then with_pair k value pool else pool) ≡ (if ((if c then told 0 else full).status == 0) && t && bytes_eq k key then Some value else value_in key pool)
after_set pool k value key true t e = value_set pool k value key (bytes_eq k key) refl ∙ ap (λ b. if b && bytes_eq k key then Some value else value_in key pool) (sym e)
after_set pool k value key false t e = refl

after_delete : (pool : Pairs) (k key : List ℕ) (c t : Bool) → Rises pool → is_some (value_in k pool) ≡ c → t ≡ true
    → value_in key (without k pool) ≡ (if ((if c then told 0 else missing).status == 0) && t && bytes_eq k key then None else value_in key pool)
after_delete pool k key true t up is e =
    lookup_gone nat_list_cmp_total pool k key up
    ∙ (ap (λ b. cond b None (value_in key pool)) (is_eq-slice_cmp k key) ∙ ap (λ b. if b && bytes_eq k key then None else value_in key pool) (sym e))
after_delete pool k key false t up is e = ap (value_in key) (remove_absent (is_at (key_order k)) pool (none_from (value_in k pool) is))

pub value_after : (pool : Pairs) (q : Kvp) (i : ℕ) (key : List ℕ) → Rises pool → pool_of q ≡ i → value_in key (pool_after pool q) ≡ told_by i key (value_in key pool) q (pool_reply pool q).status
value_after pool (Get n k) i key up e = refl
value_after pool (Set n k value) i key up e = let same = same_number n i e in after_set pool k value key (can_set k pool) (n == i) same
value_after pool (Delete n k) i key up e = let same = same_number n i e in after_delete pool k key (is_some (value_in k pool)) (n == i) up refl same
value_after pool (Enum n index) i key up e = refl

-- ---- what replies have

pub no_pool_fits : (q : Kvp) → IsReplyTo q no_pool
no_pool_fits (Get pool k) = (refl, tt, omega arith)
no_pool_fits (Set pool k value) = (refl, refl, omega arith)
no_pool_fits (Delete pool k) = (refl, refl, omega arith)
no_pool_fits (Enum pool index) = (tt, tt, omega arith)

-- ---- what a set tells

module _ {E : Type 0} (pool new : Pairs) (key value : List ℕ) where
  pub set_reply : (r : Result (Unit {0}) E) → MatchResult r (λ _. (can_set key pool ≡ true) × (new ≡ with_pair key value pool)) (λ _. (can_set key pool ≡ false) × (new ≡ pool))
      → (if is_ok r then told 0 else full) ≡ (if can_set key pool then told 0 else full)
  set_reply (Ok x) h = ap (λ b. if b then told 0 else full) (sym h.0)
  set_reply (Err e) h = ap (λ b. if b then told 0 else full) (sym h.0)

  pub set_after : (r : Result (Unit {0}) E) → MatchResult r (λ _. (can_set key pool ≡ true) × (new ≡ with_pair key value pool)) (λ _. (can_set key pool ≡ false) × (new ≡ pool))
      → new ≡ (if can_set key pool then with_pair key value pool else pool)
  set_after (Ok x) h = h.1 ∙ ap (λ b. if b then with_pair key value pool else pool) (sym h.0)
  set_after (Err e) h = h.1 ∙ ap (λ b. if b then with_pair key value pool else pool) (sym h.0)
