-- The share of a channel, request by request.
use Rattle.std.proofs.Common.{◌≡◌, ◌∙◌, ℕ, suc, ◌+◌, ◌<◌, ◌%◌, ◌==◌, Bool, true, false, List, [], ◌∷◌, ◌++◌, length, map, take, get_or, ap, sym, arith}
use Rattle.std.specs.Prelude.{if◌then◌else◌}
use Rattle.std.proofs.lemmas.List.{take_more, length-take, length-map, map-append}
use Rattle.script_phases.specs.Shares.{share}

module _ {X : Type 0} where
  if_more : (b : Bool) (x : X) (whole front back : List X) → whole ≡ front ++ back → (if b then x ∷ whole else whole) ≡ (if b then x ∷ front else front) ++ back
  if_more true x whole front back e = ap (λ l. x ∷ l) e
  if_more false x whole front back e = e

  -- those of more requests
  share_append : (many channel n : ℕ) (xs ys : List X) → share many channel n (xs ++ ys) ≡ share many channel n xs ++ share many channel (n + length xs) ys
  share_append many channel n [] ys = let e : n ≡ n + 0 = omega arith in ap (λ m. share many channel m ys) e
  share_append many channel n (x ∷ xs) ys =
      let e : (n + 1) + length xs ≡ n + suc (length xs) = omega arith in
      if_more (n % many == channel) x (share many channel (n + 1) (xs ++ ys)) (share many channel (n + 1) xs) (share many channel (n + suc (length xs)) ys)
      (share_append many channel (n + 1) xs ys ∙ ap (λ m. share many channel (n + 1) xs ++ share many channel m ys) e)

-- with the request at a place
pub share_more : {R X : Type 0} (rs : List R) (f : R → X) (many channel i : ℕ) (r : R) → i < length rs → r ≡ get_or rs i r → share many channel 0 (map f (take (i + 1) rs)) ≡ share many channel 0 (map f (take i rs)) ++ share many channel i (f r ∷ [])
share_more rs f many channel i r less is =
    let count : 0 + length (map f (take i rs)) ≡ i = let m = length-map (take i rs) f in let t = length-take i rs in omega (arith, m, t, less) in
    ap (λ l. share many channel 0 (map f l)) (take_more rs i r less ∙ ap (λ x. take i rs ++ x ∷ []) (sym is)) ∙ ap (share many channel 0) (map-append f (take i rs) (r ∷ []))
    ∙ share_append many channel 0 (map f (take i rs)) (f r ∷ []) ∙ ap (λ m. share many channel 0 (map f (take i rs)) ++ share many channel m (f r ∷ [])) count
