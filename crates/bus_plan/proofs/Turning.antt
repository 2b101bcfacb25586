-- The channels of a device take turns.
use Rattle.std.proofs.Common.{◌≡◌, ℕ, suc, ◌+◌, ◌*◌, ◌<◌, ◌/◌, ◌%◌, List, [], ◌∷◌, ◌++◌, length, length-append, ap, sym, ◌∙◌, arith, inl, inr, slice_index_or}
use Rattle.std.specs.Prelude.{slice_get}
use Rattle.std.proofs.Math.Nat.{mod-lt}
use Rattle.std.proofs.Math.Seq.{get_or-append_seam}
use Rattle.std.proofs.lemmas.Bool.{cases_eq}
use Rattle.std.proofs.lemmas.List.{get_or_append_left}
use Rattle.std.proofs.lemmas.Nat.{div-add-mod', mod-mul-add, div-mul-add}
use Rattle.bus_script.specs.declared.outcome.LineResult.{LineResult}
use Rattle.bus_model.specs.Run.{nth_of}
use Rattle.bus_plan.specs.Outcomes.{TakesTurn}

-- the request with this number: whole rounds, and its channel's turn in the next one
nth_at : (outcomes : List (List LineResult)) (n q r : ℕ) → n ≡ q * length outcomes + r → r < length outcomes → nth_of outcomes n ≡ slice_get (slice_index_or outcomes r []) q
nth_at outcomes n q r is low =
    let d : n / length outcomes ≡ q = ap (λ m. m / length outcomes) is ∙ div-mul-add q (length outcomes) r low in
    let e : n % length outcomes ≡ r = ap (λ m. m % length outcomes) is ∙ mod-mul-add q (length outcomes) r low in
    ap (λ i. slice_get (slice_index_or outcomes i []) (n / length outcomes)) e ∙ ap (slice_get (slice_index_or outcomes r [])) d

-- the first channel has the first request
first_is : (c : List LineResult) (cs : List (List LineResult)) → nth_of (c ∷ cs) 0 ≡ slice_get c 0
first_is c cs = nth_at (c ∷ cs) 0 0 0 (omega arith) (omega arith)

-- once its turn is over it stands behind the others
turned : (x : LineResult) (xs : List LineResult) (cs : List (List LineResult)) (n : ℕ) → nth_of (cs ++ xs ∷ []) n ≡ nth_of ((x ∷ xs) ∷ cs) (n + 1)
turned x xs cs n =
    let many = suc (length cs) in
    let q = n / many in
    let r = n % many in
    let is : q * many + r ≡ n = div-add-mod' n many in
    let low : r < many = mod-lt n (omega arith) in
    let long : length (cs ++ xs ∷ []) ≡ many = omega (arith, length-append cs (xs ∷ [])) in
    let here : nth_of (cs ++ xs ∷ []) n ≡ slice_get (slice_index_or (cs ++ xs ∷ []) r []) q = nth_at (cs ++ xs ∷ []) n q r (sym is ∙ ap (λ m. q * m + r) (sym long)) (omega (arith, low, long)) in
    elim (cases_eq r (length cs)) [
      | inl e ↦
          let last : slice_index_or (cs ++ xs ∷ []) r [] ≡ xs = ap (λ i. slice_index_or (cs ++ xs ∷ []) i []) e ∙ get_or-append_seam cs xs [] [] in
          let next : nth_of ((x ∷ xs) ∷ cs) (n + 1) ≡ slice_get xs q = nth_at ((x ∷ xs) ∷ cs) (n + 1) (suc q) 0 (omega (arith, is, e)) (omega arith) in
          here ∙ (ap (λ l. slice_get l q) last ∙ sym next)
      | inr ne ↦
          let below : r < length cs = omega (arith, low, ne) in
          let other : slice_index_or (cs ++ xs ∷ []) r [] ≡ slice_index_or cs r [] = get_or_append_left cs (xs ∷ []) [] r below in
          let next : nth_of ((x ∷ xs) ∷ cs) (n + 1) ≡ slice_get (slice_index_or cs r []) q = nth_at ((x ∷ xs) ∷ cs) (n + 1) q (suc r) (omega (arith, is)) (omega (arith, below)) in
          here ∙ (ap (λ l. slice_get l q) other ∙ sym next)
    ]

-- its next outcome is taken
pub taken : (old new left : List (List LineResult)) (one after : List LineResult) (x : LineResult) → old ≡ one ∷ left → one ≡ x ∷ after → new ≡ left ++ after ∷ [] → TakesTurn old x new
taken old new left one after x is next grown =
    let before : old ≡ (x ∷ after) ∷ left = is ∙ ap (λ l. l ∷ left) next in
    record {
      first = ap (λ l. nth_of l 0) before ∙ first_is (x ∷ after) left;
      later = λ n. ap (λ l. nth_of l n) grown ∙ (turned x after left n ∙ ap (λ l. nth_of l (n + 1)) (sym before));
    }
