-- Numbers in decimal and in hexadecimal digits.
use Rattle.std.specs.Prelude.{ℕ, ◌^◌, ◌/◌, ◌%◌, ◌==◌, Bool, false, ◌&&◌, ◌||◌, nat_le, List, ◌∷◌, ◌++◌, length, Option, if◌then◌else◌}
use Rattle.std.specs.List.{list_all}
use Rattle.script_text.specs.Forms.{is_decimal, number_of, is_hex, hex_after, in_u64}
use Rattle.script_text.specs.Hex.{hex_8}

-- 0x and 1 to 16 hexadecimal digits of either case
abbrev pub is_hex_value : List ℕ → Bool
is_hex_value (c ∷ x ∷ ds) = (c == 48) && (x == 120) && nat_le 1 (length ds) && nat_le (length ds) 16 && list_all is_hex ds
is_hex_value others = false

-- a number in either base
abbrev pub is_value : List ℕ → Bool
is_value w = is_decimal w || is_hex_value w

-- the number that the digits behind 0x write
abbrev pub hex_value_of : List ℕ → ℕ
hex_value_of (c ∷ x ∷ ds) = hex_after 0 ds
hex_value_of others = 0

-- the number that a word writes, where it has 64 bits
abbrev pub value_of : List ℕ → Option ℕ
value_of w = in_u64 (if is_decimal w then number_of w else hex_value_of w)

-- 16 hexadecimal digits of either case
abbrev pub is_hex_16 : List ℕ → Bool
is_hex_16 w = (length w == 16) && list_all is_hex w

-- the number that they write
abbrev pub number_of_hex_16 : List ℕ → ℕ
number_of_hex_16 w = hex_after 0 w

-- the sixteen lower-case digits of a number of 64 bits, the highest first
unfoldable pub hex_16 : ℕ → List ℕ
hex_16 n = hex_8 (n / 2 ^ 32) ++ hex_8 (n % 2 ^ 32)
