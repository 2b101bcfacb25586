-- The balances of ids, and the counts of packets, where there is one more.
use Rattle.std.proofs.Common.{◌≡◌, ◌≢◌, ℕ, ◌+◌, ◌==◌, ◌&&◌, Bool, true, false, not, List, [], ◌∷◌, ◌++◌, sym, ap, ◌∙◌, subst, arith}
use Rattle.std.proofs.lemmas.Bool.Decides.{nat_tests}
use Rattle.page_kept.specs.Counts.{bit, count, is_ask, is_done}
use Rattle.pkt_desc.specs.Packets.{kind_of, id_of}
use Rattle.page_table.specs.declared.balance.Balance.{Balance}
use Rattle.page_table.specs.Ids.{IsBalance, IsCounted, balance_of}

count_more : (f : List ℕ → Bool) (ps : List (List ℕ)) (p : List ℕ) → count f (ps ++ p ∷ []) ≡ count f ps + bit (f p)
count_more f [] p = omega arith
count_more f (q ∷ ps) p = let h = count_more f ps p in omega (arith, h)

pub a_completion : (p : List ℕ) → kind_of p ≡ 11 → (kind_of p == 11) ≡ true
a_completion p e = grind (arith, nat_tests, e)

pub no_completion : (p : List ℕ) → kind_of p ≢ 11 → (kind_of p == 11) ≡ false
no_completion p e = grind (arith, nat_tests, e)

-- one request more, and one completion more
module _ (p : List ℕ) (xs : List (List ℕ)) (t : ℕ) where
  asks_asked : (kind_of p == 11) ≡ false → count (is_ask t) (xs ++ p ∷ []) ≡ count (is_ask t) xs + bit (id_of p == t)
  asks_asked h = count_more (is_ask t) xs p ∙ ap (λ (b : Bool). count (is_ask t) xs + bit (not b && (id_of p == t))) h

  dones_asked : (kind_of p == 11) ≡ false → count (is_done t) (xs ++ p ∷ []) ≡ count (is_done t) xs
  dones_asked h = count_more (is_done t) xs p ∙ (ap (λ (b : Bool). count (is_done t) xs + bit (b && (id_of p == t))) h ∙ (let z : count (is_done t) xs + 0 ≡ count (is_done t) xs = omega arith in z))

  asks_done : (kind_of p == 11) ≡ true → count (is_ask t) (xs ++ p ∷ []) ≡ count (is_ask t) xs
  asks_done h = count_more (is_ask t) xs p ∙ (ap (λ (b : Bool). count (is_ask t) xs + bit (not b && (id_of p == t))) h ∙ (let z : count (is_ask t) xs + 0 ≡ count (is_ask t) xs = omega arith in z))

  dones_done : (kind_of p == 11) ≡ true → count (is_done t) (xs ++ p ∷ []) ≡ count (is_done t) xs + bit (id_of p == t)
  dones_done h = count_more (is_done t) xs p ∙ ap (λ (b : Bool). count (is_done t) xs + bit (b && (id_of p == t))) h

-- what a packet makes of the balances of its way, and of those of the other way, which it doesn't ask or doesn't answer
module _ (p : List ℕ) (xs ys : List (List ℕ)) where
  pub ways_asked : (es fs : List (ℕ × Balance)) → (kind_of p == 11) ≡ false
      → ((t a d : ℕ) → IsBalance a d (balance_of es t) → IsBalance (a + bit (id_of p == t)) d (balance_of fs t)) → IsCounted es xs ys → IsCounted fs (xs ++ p ∷ []) ys
  ways_asked es fs kind more h = λ t. subst (λ (n : ℕ). IsBalance n (count (is_done t) ys) (balance_of fs t)) (sym (asks_asked p xs t kind)) (more t (count (is_ask t) xs) (count (is_done t) ys) (h t))

  pub back_asked : (es : List (ℕ × Balance)) → (kind_of p == 11) ≡ false → IsCounted es ys xs → IsCounted es ys (xs ++ p ∷ [])
  back_asked es kind h = λ t. subst (λ (n : ℕ). IsBalance (count (is_ask t) ys) n (balance_of es t)) (sym (dones_asked p xs t kind)) (h t)

  pub ways_done : (es : List (ℕ × Balance)) → (kind_of p == 11) ≡ true → IsCounted es xs ys → IsCounted es (xs ++ p ∷ []) ys
  ways_done es kind h = λ t. subst (λ (n : ℕ). IsBalance n (count (is_done t) ys) (balance_of es t)) (sym (asks_done p xs t kind)) (h t)

  pub back_done : (es fs : List (ℕ × Balance)) → (kind_of p == 11) ≡ true
      → ((t a d : ℕ) → IsBalance a d (balance_of es t) → IsBalance a (d + bit (id_of p == t)) (balance_of fs t)) → IsCounted es ys xs → IsCounted fs ys (xs ++ p ∷ [])
  back_done es fs kind more h = λ t. subst (λ (n : ℕ). IsBalance (count (is_ask t) ys) n (balance_of fs t)) (sym (dones_done p xs t kind)) (more t (count (is_ask t) ys) (count (is_done t) xs) (h t))
