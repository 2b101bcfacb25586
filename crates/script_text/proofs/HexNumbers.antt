-- What the kit decodes is what these digits write.
use Rattle.std.proofs.Common.{◌≡◌, ℕ, ◌+◌, ◌*◌, ◌/◌, ◌%◌, true, List, [], ◌∷◌, length, Some, Ok, refl, ap, subst, ◌∙◌, arith}
use Rattle.std.specs.List.{list_all}
use Rattle.std.specs.Int.{w32, from_be_bytes}
use Rattle.std.proofs.lemmas.Bool.{and_parts}
use Rattle.std.proofs.lemmas.Bool.Decides.{nat_tests}
use Rattle.hex.specs.Hex.{hex_digit_value, digit_or_error, value_at, pair_value, decode_pairs, decode_sized}
use Rattle.std.specs.Prelude.{MatchResult}
use Rattle.hex.specs.declared.error.FromHexError.{FromHexError}
use Rattle.hex.proofs.Pairs.{decode_pairs-ok_pair, decode_sized-pairs, cons_byte}
use Rattle.script_text.specs.Forms.{is_hex, hex_value, byte_of, bytes_of, hex_after}

digit_value : (c : ℕ) → is_hex c ≡ true → hex_digit_value c ≡ Some (hex_value c)
digit_value c is = grind (arith, nat_tests, is)

-- pairs of digits decode to their bytes
decoded_pairs : (i : ℕ) (w : List ℕ) → length w % 2 ≡ 0 → list_all is_hex w ≡ true → decode_pairs i w ≡ Ok (bytes_of w)
unfolding decode_pairs
decoded_pairs i [] even all = refl
decoded_pairs i (a ∷ []) even all = absurd (omega arith)
decoded_pairs i (a ∷ b ∷ cs) even all =
    let one = and_parts (is_hex a) (list_all is_hex (b ∷ cs)) all in
    let two = and_parts (is_hex b) (list_all is_hex cs) one.1 in
    let ha : value_at a i ≡ Ok (hex_value a) = ap (digit_or_error a i) (digit_value a one.0) in
    let hb : value_at b (i + 1) ≡ Ok (hex_value b) = ap (digit_or_error b (i + 1)) (digit_value b two.0) in
    let pair : pair_value a b i ≡ Ok (hex_value a * 16 + hex_value b) = rw (ha, hb) refl in
    let byte : hex_value a * 16 + hex_value b ≡ byte_of (a ∷ b ∷ []) = omega arith in
    decode_pairs-ok_pair i a b _ cs pair ∙ ap (cons_byte (hex_value a * 16 + hex_value b)) (decoded_pairs (i + 2) cs (omega arith) two.1)
    ∙ ap (λ v. Ok (v ∷ bytes_of cs)) byte

pub decodes : (w : List ℕ) (n : ℕ) → length w ≡ 2 * n → list_all is_hex w ≡ true → decode_sized w n ≡ Ok (bytes_of w)
decodes w n twice all = decode_sized-pairs w n (omega arith) (omega arith) ∙ decoded_pairs 0 w (omega arith) all

pub length-bytes_of : (w : List ℕ) → length (bytes_of w) ≡ length w / 2
length-bytes_of [] = refl
length-bytes_of (a ∷ []) = refl
length-bytes_of (a ∷ b ∷ cs) = omega (arith, length-bytes_of cs)

-- 8 digits write the number of their 4 bytes
pub read_8 : (w : List ℕ) → length w ≡ 8 → from_be_bytes w32 (bytes_of w) ≡ hex_after 0 w
read_8 (a ∷ b ∷ c ∷ d ∷ e ∷ f ∷ g ∷ h ∷ []) eight = omega arith
read_8 _ eight = absurd (omega arith)

-- what decoding into a slice leaves there
pub written : {R : Type 0} (ok : R) (err : FromHexError → R) (w out : List ℕ) (n : ℕ) (result : R) → length w ≡ 2 * n → list_all is_hex w ≡ true
    → MatchResult (decode_sized w n) (λ bytes. (result ≡ ok) × (out ≡ bytes)) (λ e. result ≡ err e) → (result ≡ ok) × (out ≡ bytes_of w)
written ok err w out n result twice all h =
    subst (λ r. MatchResult r (λ bytes. (result ≡ ok) × (out ≡ bytes)) (λ e. result ≡ err e)) (decodes w n twice all) h
