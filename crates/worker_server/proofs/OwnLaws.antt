-- The table of the serving end's own messages.
use Rattle.page_kept.specs.declared.item.Item.{Item}
use Rattle.std.proofs.Common.{◌≡◌, ℕ, zero, suc, ◌≤◌, List, [], ◌∷◌, ◌++◌, length, map, filter, replicate, refl, sym, ap, ◌∙◌, arith, Option, Some, None, is_some, Bool, true, false}
use Rattle.std.specs.Prelude.{IsSome, All, count_by, cond, ◌==◌, ◌||◌, ◌&&◌}
use Rattle.std.proofs.lemmas.List.{map-append}
use Rattle.std.proofs.lemmas.List.Elements.{filter-append}
use Rattle.std.proofs.lemmas.List.Sums.{sum_by-cons}
use Rattle.txn_table.specs.Open.{request_of}
use Rattle.channel_model.specs.Acks.{is_in}
use Rattle.channel_model.specs.WireFormat.{WireFormat}
use Rattle.worker_port.specs.Owed.{Written, is_nil}
use Rattle.channel_model.proofs.Opens.{by_test}
use Rattle.channel_model.proofs.Served.{filter_first, filter_past}
use Rattle.worker_server.specs.Serving.{IsFull, own_in}
use Rattle.worker_server.specs.Sheets.{if_written, item_on, read_all}
use Rattle.worker_server.proofs.OwedLaws.{read_append}

-- the ids of a table are its places, from 1 on
pub own_within : (rs : List (Option ℕ)) (id : ℕ) → own_in rs id ≡ true → (1 ≤ id) × (id ≤ length rs)
own_within rs zero e = absurd (let bad : false ≡ true = e in cc)
own_within [] (suc k) e = absurd (let bad : false ≡ true = e in cc)
own_within (r ∷ rs) (suc zero) e = (omega arith, omega arith)
own_within (r ∷ rs) (suc (suc k)) e = let rest = own_within rs (suc k) e in (omega arith, omega (arith, rest.1))

-- a table that is full has each of them
pub full_open : (rs : List (Option ℕ)) (id : ℕ) → IsFull rs → 1 ≤ id → id ≤ length rs → own_in rs id ≡ true
full_open rs zero full low high = absurd (omega (arith, low))
full_open [] (suc k) full low high = absurd (omega (arith, high))
full_open (r ∷ rs) (suc zero) full low high = full 0 None (omega arith)
full_open (r ∷ rs) (suc (suc k)) full low high = full_open rs (suc k) (λ i d lt. full (suc i) d (omega (arith, lt))) (omega arith) (omega (arith, high))

-- and one that has none isn't full
pub none_full : {X : Type 0} (rs : List (Option ℕ)) → 1 ≤ length rs → IsFull rs → ((id : ℕ) → own_in rs id ≡ false) → X
none_full rs some full none = let bad : true ≡ false = sym (full_open rs 1 full (omega arith) some) ∙ none 1 in absurd (cc)

-- a new table has none
pub table_empty : (n id : ℕ) → own_in (replicate n None) id ≡ false
table_empty n zero = refl
table_empty zero (suc k) = refl
table_empty (suc n) (suc zero) = refl
table_empty (suc n) (suc (suc k)) = table_empty n (suc k)

count_most : (rs : List (Option ℕ)) → count_by is_some rs ≤ length rs
count_most [] = omega arith
count_most (None ∷ rs) = omega (arith, count_most rs, sum_by-cons (λ (o : Option ℕ). cond (is_some o) 1 0) None rs)
count_most (Some r ∷ rs) = omega (arith, count_most rs, sum_by-cons (λ (o : Option ℕ). cond (is_some o) 1 0) (Some r) rs)

-- where a table is full it has as many as it has places
pub full_count : (rs : List (Option ℕ)) → All IsSome rs → count_by is_some rs ≡ length rs
full_count [] h = refl
full_count (None ∷ rs) h = let bad : false ≡ true = h 0 None (omega arith) in absurd (cc)
full_count (Some r ∷ rs) h =
    omega (arith, full_count rs (λ k d lt. h (suc k) d (omega (arith, lt))), sum_by-cons (λ (o : Option ℕ). cond (is_some o) 1 0) (Some r) rs)

-- and where it has as many, it is full
pub all_taken : (rs : List (Option ℕ)) → count_by is_some rs ≡ length rs → All IsSome rs
all_taken [] e = λ i d lt. absurd (omega (arith, lt))
all_taken (None ∷ rs) e = absurd (omega (arith, e, count_most rs, sum_by-cons (λ (o : Option ℕ). cond (is_some o) 1 0) None rs))
all_taken (Some r ∷ rs) e = first_and (all_taken rs (omega (arith, e, sum_by-cons (λ (o : Option ℕ). cond (is_some o) 1 0) (Some r) rs)))
  where
    first_and : All IsSome rs → All IsSome (Some r ∷ rs)
    first_and rest zero d lt = refl
    first_and rest (suc i) d lt = rest i d (omega (arith, lt))

pub none_requested : (n id : ℕ) → request_of {R = ℕ} (replicate n None) id ≡ None
none_requested n zero = refl
none_requested zero (suc k) = refl
none_requested (suc n) (suc zero) = refl
none_requested (suc n) (suc (suc k)) = none_requested n (suc k)

-- what is owed under an id
pub in_append : (id : ℕ) (xs ys : List ℕ) → is_in id (xs ++ ys) ≡ (is_in id xs || is_in id ys)
in_append id [] ys = refl
in_append id (x ∷ xs) ys = ap (λ b. (x == id) || b) (in_append id xs ys) ∙ or_assoc (x == id) (is_in id xs) (is_in id ys)
  where
    or_assoc : (a b c : Bool) → (a || (b || c)) ≡ ((a || b) || c)
    or_assoc true b c = refl
    or_assoc false b c = refl

module _ {A Q R : Type 0} (s : WireFormat Item A Q R) (id : ℕ) where
  pub both_in : (ps qs : List Item) → is_in id (map s.id_of (filter s.is_message (ps ++ qs))) ≡ (is_in id (map s.id_of (filter s.is_message ps)) || is_in id (map s.id_of (filter s.is_message qs)))
  both_in ps qs =
      ap (λ l. is_in id (map s.id_of l)) (filter-append s.is_message ps qs)
      ∙ (ap (is_in id) (map-append s.id_of (filter s.is_message ps) (filter s.is_message qs)) ∙ in_append id (map s.id_of (filter s.is_message ps)) (map s.id_of (filter s.is_message qs)))

  pub both_read : (said : Item → Item) (os ps : List Written) → is_in id (map s.id_of (filter s.is_message (read_all said (os ++ ps)))) ≡ (is_in id (map s.id_of (filter s.is_message (read_all said os))) || is_in id (map s.id_of (filter s.is_message (read_all said ps))))
  both_read said os ps = ap (λ l. is_in id (map s.id_of (filter s.is_message l))) (read_append said os ps) ∙ both_in (read_all said os) (read_all said ps)

  pub none_under : (said : Item → Item) (p : List ℕ) (o : Written) → is_nil p ≡ true → is_in id (map s.id_of (filter s.is_message (read_all said (if_written p o)))) ≡ false
  none_under said [] o e = refl
  none_under said (x ∷ w) o e = absurd (cc)

  one_in : (i : Item) → (s.is_message i && (s.id_of i == id)) ≡ is_in id (map s.id_of (filter s.is_message (i ∷ [])))
  one_in i = by_test (s.is_message i)
      (λ e. ap (λ b. b && (s.id_of i == id)) e ∙ (or_false (s.id_of i == id) ∙ ap (λ l. is_in id (map s.id_of l)) (sym (filter_first s.is_message i [] e))))
      (λ e. ap (λ b. b && (s.id_of i == id)) e ∙ ap (λ l. is_in id (map s.id_of l)) (sym (filter_past s.is_message i [] e)))
    where
      or_false : (b : Bool) → b ≡ (b || false)
      or_false true = refl
      or_false false = refl

  pub one_under : (said : Item → Item) (p : List ℕ) (o : Written) (b : Bool) (n : ℕ) → is_nil p ≡ false → b ≡ s.is_message (said (item_on o)) → n ≡ s.id_of (said (item_on o)) → (b && n == id) ≡ is_in id (map s.id_of (filter s.is_message (read_all said (if_written p o))))
  one_under said [] o b n e is same = absurd (cc)
  one_under said (x ∷ w) o b n e is same = (λ i. is i && same i == id) ∙ one_in (said (item_on o))
