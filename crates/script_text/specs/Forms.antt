-- The forms of words.
use Rattle.std.specs.Prelude.{ℕ, ◌^◌, ◌*◌, ◌-◌, ◌+◌, ◌%◌, ◌==◌, Bool, true, false, not, ◌&&◌, ◌||◌, nat_le, nat_lt, List, [], ◌∷◌, length, Option, Some, None, if◌then◌else◌, option_and_then}
use Rattle.std.specs.List.{list_all, list_any, slice_split}
use Rattle.contact.specs.Versions.{version, versions}
use Rattle.contact.specs.declared.version.Version.{Version}

-- a to z
abbrev pub is_lower : ℕ → Bool
is_lower c = nat_le 97 c && nat_le c 122

-- 0 to 9
abbrev pub is_digit : ℕ → Bool
is_digit c = nat_le 48 c && nat_le c 57

-- a letter, a digit or an underscore
abbrev pub is_name_byte : ℕ → Bool
is_name_byte c = is_lower c || is_digit c || (c == 95)

-- 1 to 16 letters, digits and underscores, a letter first
abbrev pub is_name : List ℕ → Bool
is_name [] = false
is_name (c ∷ cs) = nat_lt (length cs) 16 && is_lower c && list_all is_name_byte cs

-- a zero alone, or no zero in front
abbrev pub has_plain_front : List ℕ → Bool
has_plain_front [] = false
has_plain_front (c ∷ []) = true
has_plain_front (c ∷ d ∷ cs) = not (c == 48)

-- 1 to 20 digits, in the one form of their number
abbrev pub is_decimal : List ℕ → Bool
is_decimal w = list_all is_digit w && nat_le (length w) 20 && has_plain_front w

-- the number that digits write after those of n
abbrev pub number_after : ℕ → List ℕ → ℕ
number_after n [] = n
number_after n (d ∷ ds) = number_after (10 * n + (d - 48)) ds

-- the number that digits write
abbrev pub number_of : List ℕ → ℕ
number_of w = number_after 0 w

-- a number of 64 bits, where it is one
abbrev pub in_u64 : ℕ → Option ℕ
in_u64 n = if nat_lt n (2 ^ 64) then Some n else None

-- a number from low to high, where it is one
abbrev pub within : ℕ → ℕ → Option ℕ → Option ℕ
within low high None = None
within low high (Some n) = if nat_le low n && nat_le n high then Some n else None

-- 0 to 9, a to f and A to F
abbrev pub is_hex : ℕ → Bool
is_hex c = is_digit c || (nat_le 97 c && nat_le c 102) || (nat_le 65 c && nat_le c 70)

-- two of these digits
abbrev pub is_byte : List ℕ → Bool
is_byte (a ∷ b ∷ []) = is_hex a && is_hex b
is_byte others = false

-- the value of a digit
abbrev pub hex_value : ℕ → ℕ
hex_value c = if nat_le c 57 then c - 48 else (if nat_le c 70 then c - 55 else c - 87)

-- the byte that two digits write
abbrev pub byte_of : List ℕ → ℕ
byte_of (a ∷ b ∷ []) = 16 * hex_value a + hex_value b
byte_of others = 0

-- an even number of these digits, 2 at least
abbrev pub are_bytes : List ℕ → Bool
are_bytes w = nat_le 2 (length w) && (length w % 2 == 0) && list_all is_hex w

-- the bytes that digits write, two for each
abbrev pub bytes_of : List ℕ → List ℕ
bytes_of [] = []
bytes_of (a ∷ []) = []
bytes_of (a ∷ b ∷ cs) = byte_of (a ∷ b ∷ []) ∷ bytes_of cs

-- the address of a network card: 12 digits
abbrev pub is_address : List ℕ → Bool
is_address w = (length w == 12) && list_all is_hex w

-- the number that digits write after those of n
abbrev pub hex_after : ℕ → List ℕ → ℕ
hex_after n [] = n
hex_after n (d ∷ ds) = hex_after (16 * n + hex_value d) ds

-- 0x and 8 digits
abbrev pub is_oid : List ℕ → Bool
is_oid (c ∷ x ∷ ds) = (c == 48) && (x == 120) && (length ds == 8) && list_all is_hex ds
is_oid others = false

-- the number that they write
abbrev pub oid_of : List ℕ → ℕ
oid_of (c ∷ x ∷ ds) = hex_after 0 ds
oid_of others = 0

-- the one part before a dot and the one behind it
abbrev pub pair_of : List (List ℕ) → Option (List ℕ × List ℕ)
pair_of (a ∷ b ∷ []) = Some (a, b)
pair_of others = None

abbrev pub dotted : List ℕ → Option (List ℕ × List ℕ)
dotted w = pair_of (slice_split (λ b. b == 46) w)

-- a decimal number, a dot and a decimal number
abbrev pub is_pair : Option (List ℕ × List ℕ) → Bool
is_pair None = false
is_pair (Some p) = is_decimal p.0 && is_decimal p.1

abbrev pub is_version : List ℕ → Bool
is_version w = is_pair (dotted w)

-- a version of the list with these two numbers
abbrev pub listed : ℕ → ℕ → Option Version
listed major minor = if nat_lt minor 65536 && list_any (λ u. u == version major minor) versions then Some (record { 0 = version major minor }) else None

-- the version of the list that a word writes, where it writes one
abbrev pub version_of : List ℕ → Option Version
version_of w = option_and_then (λ p. listed (number_of p.0) (number_of p.1)) (dotted w)
