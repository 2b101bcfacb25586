-- Numbers in hexadecimal digits.
use Rattle.std.specs.Prelude.{ℕ, ◌+◌, ◌/◌, ◌%◌, List, [], ◌∷◌, nat_lt, if◌then◌else◌}

-- 0 to 9, and a to f
abbrev pub hex_digit : ℕ → ℕ
hex_digit n = if nat_lt n 10 then 48 + n else 87 + n

-- the two lower-case digits of a byte
abbrev pub hex_2 : ℕ → List ℕ
hex_2 b = hex_digit (b / 16) ∷ hex_digit (b % 16) ∷ []

-- the lower-case digits of a byte: one where one is enough
abbrev pub hex_short : ℕ → List ℕ
hex_short b = if nat_lt b 16 then hex_digit b ∷ [] else hex_2 b

-- the eight lower-case digits of a number of 32 bits, the highest first
unfoldable pub hex_8 : ℕ → List ℕ
hex_8 n =
    hex_digit (n / 0x10000000 % 16) ∷ hex_digit (n / 0x1000000 % 16) ∷ hex_digit (n / 0x100000 % 16) ∷ hex_digit (n / 0x10000 % 16) ∷
    hex_digit (n / 0x1000 % 16) ∷ hex_digit (n / 0x100 % 16) ∷ hex_digit (n / 0x10 % 16) ∷ hex_digit (n / 1 % 16) ∷ []
