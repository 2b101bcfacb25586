-- Numbers and bytes put at a place, and what is read then.
use Rattle.std.proofs.Common.{◌≡◌, ℕ, ◌+◌, ◌-◌, ◌^◌, ◌<◌, ◌≤◌, ◌⊎◌, List, ◌++◌, length, get_or, take, drop, slice_range, refl, sym, ap, ◌∙◌, arith, append_assoc, length-append, length-drop}
use Rattle.std.proofs.lemmas.List.{take_at, drop_at, length-take-le, take-append-drop, get_or-drop, take-take, drop-take}
use Rattle.wire_table.specs.Little.{number_of, bytes_of}
use Rattle.wire_table.proofs.LittleLemmas.{length-bytes_of}
use Rattle.wire_table.proofs.PutLaws.{put_value, put_other}
use Rattle.stor_proto.specs.Fields.{number_at, with_bytes, with_number}

-- a part of lists that begin alike
part_before : (xs ys : List ℕ) (at c x : ℕ) → take at xs ≡ take at ys → c + x ≤ at → slice_range xs c (c + x) ≡ slice_range ys c (c + x)
part_before xs ys at c x same le =
    let len : c + x - c ≡ x = omega arith in
    let cut : (zs : List ℕ) → take x (drop c zs) ≡ drop c (take (c + x) (take at zs)) = λ zs. sym (ap (drop c) (take-take (c + x) at zs le) ∙ drop-take c x zs) in
    rw len (cut xs ∙ (ap (λ zs. drop c (take (c + x) zs)) same ∙ sym (cut ys)))

-- what a write of a number leaves
pub put_is : (old new : List ℕ) (at w v : ℕ) → take (at + w) new ≡ take at old ++ bytes_of w v → drop (at + w) new ≡ drop (at + w) old → new ≡ with_number at w v old
unfolding with_number
put_is old new at w v front rest = sym (take-append-drop (at + w) new) ∙ (ap (λ xs. xs ++ drop (at + w) new) front ∙ ap (λ ys. (take at old ++ bytes_of w v) ++ ys) rest)

-- what a write of bytes leaves
pub put_part_is : (old new part : List ℕ) (at : ℕ) → take (at + length part) new ≡ take at old ++ part → drop (at + length part) new ≡ drop (at + length part) old → new ≡ with_bytes at part old
unfolding with_bytes
put_part_is old new part at front rest =
    sym (take-append-drop (at + length part) new) ∙ (ap (λ xs. xs ++ drop (at + length part) new) front ∙ ap (λ ys. (take at old ++ part) ++ ys) rest)

module _ (at w v : ℕ) (b : List ℕ) (within : at + w ≤ length b) where
  front_len : length (take at b ++ bytes_of w v) ≡ at + w
  front_len = omega (arith, length-append (take at b) (bytes_of w v), length-take-le at b (omega arith), length-bytes_of w v)

  front_is : take (at + w) (with_number at w v b) ≡ take at b ++ bytes_of w v
  unfolding with_number
  front_is = take_at (take at b ++ bytes_of w v) (drop (at + w) b) (at + w) front_len

  rest_is : drop (at + w) (with_number at w v b) ≡ drop (at + w) b
  unfolding with_number
  rest_is = drop_at (take at b ++ bytes_of w v) (drop (at + w) b) (at + w) front_len

  pub length-with_number : length (with_number at w v b) ≡ length b
  unfolding with_number
  length-with_number = omega (arith, length-append (take at b ++ bytes_of w v) (drop (at + w) b), front_len, length-drop (at + w) b)

  -- the number that was put
  pub number_at-same : v < 256 ^ w → number_at at w (with_number at w v b) ≡ v
  number_at-same fits = put_value b (with_number at w v b) at w v (omega arith) fits front_is

  -- a number at other places
  pub number_at-other : (c x : ℕ) → (c + x ≤ at) ⊎ (at + w ≤ c) → number_at c x (with_number at w v b) ≡ number_at c x b
  number_at-other c x apart = ap number_of (put_other b (with_number at w v b) at w v c x (omega arith) front_is rest_is apart)

module _ (at : ℕ) (part b : List ℕ) (within : at + length part ≤ length b) where
  at_len : length (take at b) ≡ at
  at_len = length-take-le at b (omega arith)

  from_here : drop at (with_bytes at part b) ≡ part ++ drop (at + length part) b
  unfolding with_bytes
  from_here = ap (drop at) (append_assoc (take at b) part (drop (at + length part) b)) ∙ drop_at (take at b) (part ++ drop (at + length part) b) at at_len

  up_to_here : take at (with_bytes at part b) ≡ take at b
  unfolding with_bytes
  up_to_here = ap (take at) (append_assoc (take at b) part (drop (at + length part) b)) ∙ take_at (take at b) (part ++ drop (at + length part) b) at at_len

  -- the bytes that were put
  pub part_again : slice_range (with_bytes at part b) at (at + length part) ≡ part
  part_again =
      let len : at + length part - at ≡ length part = omega arith in
      ap (λ n. take n (drop at (with_bytes at part b))) len ∙ (ap (take (length part)) from_here ∙ take_at part (drop (at + length part) b) (length part) refl)

  -- one of them
  pub byte_again : (i : ℕ) → get_or (with_bytes at part b) (at + i) 0 ≡ get_or (part ++ drop (at + length part) b) i 0
  byte_again i = sym (get_or-drop at (with_bytes at part b) i 0) ∙ ap (λ xs. get_or xs i 0) from_here

  -- a number before them
  pub number_at-before : (c x : ℕ) → c + x ≤ at → number_at c x (with_bytes at part b) ≡ number_at c x b
  number_at-before c x le = ap number_of (part_before (with_bytes at part b) b at c x up_to_here le)
