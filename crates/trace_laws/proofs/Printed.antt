-- Numbers that are printed are read back.
use Rattle.std.proofs.Common.{◌≡◌, ℕ, zero, suc, ◌+◌, ◌*◌, ◌-◌, ◌/◌, ◌%◌, ◌<◌, ◌^◌, ◌||◌, nat_le, nat_lt, Bool, true, false, List, [], ◌∷◌, ◌++◌, length, get_or, Option, Some, None, decimal, refl, ap, ◌∙◌, arith}
use Rattle.std.specs.Prelude.{if◌then◌else◌, codes}
use Rattle.std.specs.List.{list_all}
use Rattle.std.specs.Char.{digit_value}
use Rattle.std.specs.Str.Parse.{AllDigits, digits_value_after}
use Rattle.std.proofs.lemmas.Fmt.{decimal_is_IsNumeral, decimal_digit, first_decimal, length-decimal-le}
use Rattle.std.proofs.lemmas.Str.{digit_value_digit}
use Rattle.std.proofs.lemmas.Str.Parse.{digit_from_value}
use Rattle.std.proofs.lemmas.Bool.Decides.{nat_tests}
use Rattle.script_text.specs.Forms.{is_digit, has_plain_front, is_decimal, number_after, number_of, in_u64, is_hex, hex_value, hex_after}
use Rattle.script_text.specs.Hex.{hex_digit, hex_8}
use Rattle.script_text.specs.Words.{is_word}
use Rattle.line_words.specs.Values.{is_hex_value, hex_value_of, value_of, hex_16}
use Rattle.trace_lines.specs.Steps.{number_in}
use Rattle.trace_text.specs.Steps.{value_text}
use Rattle.trace_laws.proofs.Words.{and_true, plain, IsGood}

-- ---- decimal digits

is_a_digit : (c : ℕ) → digit_value c < 10 → is_digit c ≡ true
is_a_digit c h = let k = digit_from_value c h in grind (arith, nat_tests, k.0, k.1)

plain_digit : (c : ℕ) → digit_value c < 10 → plain c ≡ true
plain_digit c h = let k = digit_from_value c h in grind (arith, nat_tests, k.0, k.1)

are_digits : (ds : List ℕ) → AllDigits 10 ds → list_all is_digit ds ≡ true
are_digits [] h = refl
are_digits (c ∷ ds) h = and_true _ _ (is_a_digit c h.0) (are_digits ds h.1)

plain_digits : (ds : List ℕ) → AllDigits 10 ds → list_all plain ds ≡ true
plain_digits [] h = refl
plain_digits (c ∷ ds) h = and_true _ _ (plain_digit c h.0) (plain_digits ds h.1)

same_number : (ds : List ℕ) (n : ℕ) → AllDigits 10 ds → number_after n ds ≡ digits_value_after 10 n ds
same_number [] n h = refl
same_number (c ∷ ds) n h =
    let k = digit_value_digit c (digit_from_value c h.0) in
    let same : 10 * n + (c - 48) ≡ n * 10 + digit_value c = omega (arith, k) in
    ap (λ (m : ℕ). number_after m ds) same ∙ same_number ds (n * 10 + digit_value c) h.1

front : (ds : List ℕ) → 0 < length ds → 48 < get_or ds 0 0 → has_plain_front ds ≡ true
front [] some h = absurd (omega (arith, some))
front (c ∷ []) some h = refl
front (c ∷ e ∷ ds) some h = grind (arith, nat_tests, h)

plain_front : (n : ℕ) → n < 2 ^ 64 → has_plain_front (decimal n) ≡ true
plain_front zero h = ap has_plain_front (decimal_digit 0 (omega arith))
plain_front (suc n) h = front (decimal (suc n)) (decimal_is_IsNumeral (suc n) h).0.0 (first_decimal (suc n) (omega arith) h)

few : (n : ℕ) → n < 2 ^ 64 → nat_le (length (decimal n)) 20 ≡ true
few n h = let k = length-decimal-le 20 n (omega arith) (omega arith) h in grind (arith, nat_tests, k)

pub decimal_is : (n : ℕ) → n < 2 ^ 64 → is_decimal (decimal n) ≡ true
decimal_is n h = and_true _ _ (and_true _ _ (are_digits (decimal n) (decimal_is_IsNumeral n h).0.1) (few n h)) (plain_front n h)

pub decimal_of : (n : ℕ) → n < 2 ^ 64 → number_of (decimal n) ≡ n
decimal_of n h = let k = decimal_is_IsNumeral n h in same_number (decimal n) 0 k.0.1 ∙ k.1

pub fits : (n : ℕ) → n < 2 ^ 64 → in_u64 n ≡ Some n
fits n h = grind (arith, nat_tests, h)

some_word : (ds : List ℕ) → 0 < length ds → is_word ds ≡ true
some_word [] h = absurd (omega (arith, h))
some_word (c ∷ ds) h = refl

pub plain_decimal : (n : ℕ) → n < 2 ^ 64 → list_all plain (decimal n) ≡ true
plain_decimal n h = plain_digits (decimal n) (decimal_is_IsNumeral n h).0.1

pub good_decimal : (n : ℕ) → n < 2 ^ 64 → IsGood (decimal n)
good_decimal n h = record { each = plain_decimal n h; some = some_word (decimal n) (decimal_is_IsNumeral n h).0.0 }

-- ---- hexadecimal digits

hex_back : (k : ℕ) → k < 16 → hex_value (hex_digit k) ≡ k
hex_back k h = grind (arith, nat_tests, h)

hex_is : (k : ℕ) → k < 16 → is_hex (hex_digit k) ≡ true
hex_is k h = grind (arith, nat_tests, h)

hex_plain : (k : ℕ) → k < 16 → plain (hex_digit k) ≡ true
hex_plain k h = grind (arith, nat_tests, h)

goes : (m k t : ℕ) (ds : List ℕ) → k < 16 → 16 * m + k ≡ t → hex_after m (hex_digit k ∷ ds) ≡ hex_after t ds
goes m k t ds less is = ap (λ (j : ℕ). hex_after (16 * m + j) ds) (hex_back k less) ∙ ap (λ (j : ℕ). hex_after j ds) is

-- eight digits of a number below 2^32, behind those of m
eight_after : (m n : ℕ) (ds : List ℕ) → n < 2 ^ 32 → hex_after m (hex_8 n ++ ds) ≡ hex_after (4294967296 * m + n) ds
unfolding hex_8
eight_after m n ds h =
    let d7 = hex_digit (n / 1 % 16) ∷ ds in
    let d6 = hex_digit (n / 0x10 % 16) ∷ d7 in
    let d5 = hex_digit (n / 0x100 % 16) ∷ d6 in
    let d4 = hex_digit (n / 0x1000 % 16) ∷ d5 in
    let d3 = hex_digit (n / 0x10000 % 16) ∷ d4 in
    let d2 = hex_digit (n / 0x100000 % 16) ∷ d3 in
    let d1 = hex_digit (n / 0x1000000 % 16) ∷ d2 in
    let whole : 4294967296 * m + n / 1 ≡ 4294967296 * m + n = omega arith in
    goes m (n / 0x10000000 % 16) (16 * m + n / 0x10000000) d1 (omega arith) (omega (arith, h))
    ∙ goes (16 * m + n / 0x10000000) (n / 0x1000000 % 16) (256 * m + n / 0x1000000) d2 (omega arith) (omega arith)
    ∙ goes (256 * m + n / 0x1000000) (n / 0x100000 % 16) (4096 * m + n / 0x100000) d3 (omega arith) (omega arith)
    ∙ goes (4096 * m + n / 0x100000) (n / 0x10000 % 16) (65536 * m + n / 0x10000) d4 (omega arith) (omega arith)
    ∙ goes (65536 * m + n / 0x10000) (n / 0x1000 % 16) (1048576 * m + n / 0x1000) d5 (omega arith) (omega arith)
    ∙ goes (1048576 * m + n / 0x1000) (n / 0x100 % 16) (16777216 * m + n / 0x100) d6 (omega arith) (omega arith)
    ∙ goes (16777216 * m + n / 0x100) (n / 0x10 % 16) (268435456 * m + n / 0x10) d7 (omega arith) (omega arith)
    ∙ goes (268435456 * m + n / 0x10) (n / 1 % 16) (4294967296 * m + n / 1) ds (omega arith) (omega arith)
    ∙ ap (λ (j : ℕ). hex_after j ds) whole

eight_last : (m n : ℕ) → n < 2 ^ 32 → hex_after m (hex_8 n) ≡ 4294967296 * m + n
unfolding hex_8
eight_last m n h = eight_after m n [] h

eight_are : (p : ℕ → Bool) → ((k : ℕ) → k < 16 → p (hex_digit k) ≡ true) → (n : ℕ) (ds : List ℕ) → list_all p ds ≡ true → list_all p (hex_8 n ++ ds) ≡ true
unfolding hex_8
eight_are p all n ds h =
    and_true _ _ (all _ (omega arith)) (and_true _ _ (all _ (omega arith)) (and_true _ _ (all _ (omega arith)) (and_true _ _ (all _ (omega arith))
    (and_true _ _ (all _ (omega arith)) (and_true _ _ (all _ (omega arith)) (and_true _ _ (all _ (omega arith)) (and_true _ _ (all _ (omega arith)) h)))))))

eight_are_last : (p : ℕ → Bool) → ((k : ℕ) → k < 16 → p (hex_digit k) ≡ true) → (n : ℕ) → list_all p (hex_8 n) ≡ true
unfolding hex_8
eight_are_last p all n = eight_are p all n [] refl

hex_are : (p : ℕ → Bool) → ((k : ℕ) → k < 16 → p (hex_digit k) ≡ true) → (v : ℕ) → list_all p (hex_16 v) ≡ true
unfolding hex_16
hex_are p all v = eight_are p all (v / 2 ^ 32) (hex_8 (v % 2 ^ 32)) (eight_are_last p all (v % 2 ^ 32))

hex_read : (v : ℕ) → v < 2 ^ 64 → hex_after 0 (hex_16 v) ≡ v
unfolding hex_16
hex_read v h =
    eight_after 0 (v / 2 ^ 32) (hex_8 (v % 2 ^ 32)) (omega (arith, h)) ∙ eight_last (4294967296 * 0 + v / 2 ^ 32) (v % 2 ^ 32) (omega arith) ∙ omega arith

hex_value_is : (v : ℕ) → is_hex_value (codes "0x" ++ hex_16 v) ≡ true
unfolding hex_16 hex_8
hex_value_is v = hex_are is_hex hex_is v

-- ---- a value, in either base

pub by_base : (v : ℕ) (b : Bool) → v < 2 ^ 64 → number_in (if b then decimal v else (codes "0x" ++ hex_16 v)) ≡ Some (Some v)
by_base v true h =
    let w = decimal v in
    ap (λ (b : Bool). if b || is_hex_value w then Some (value_of w) else None) (decimal_is v h)
    ∙ ap (λ (b : Bool). Some (in_u64 (if b then number_of w else hex_value_of w))) (decimal_is v h)
    ∙ ap (λ (n : ℕ). Some (in_u64 n)) (decimal_of v h) ∙ ap {B = Option (Option ℕ)} (λ o. Some o) (fits v h)
by_base v false h =
    ap (λ (b : Bool). if b then Some (in_u64 (hex_after 0 (hex_16 v))) else None) (hex_value_is v)
    ∙ ap (λ (n : ℕ). Some (in_u64 n)) (hex_read v h) ∙ ap {B = Option (Option ℕ)} (λ o. Some o) (fits v h)

pub value_reads : (v : ℕ) → v < 2 ^ 64 → number_in (value_text v) ≡ Some (Some v)
value_reads v h = by_base v (nat_lt v (2 ^ 32)) h

good_by : (v : ℕ) (b : Bool) → v < 2 ^ 64 → IsGood (if b then decimal v else (codes "0x" ++ hex_16 v))
good_by v true h = good_decimal v h
good_by v false h = record { each = hex_are plain hex_plain v; some = refl }

pub good_value : (v : ℕ) → v < 2 ^ 64 → IsGood (value_text v)
good_value v h = good_by v (nat_lt v (2 ^ 32)) h
