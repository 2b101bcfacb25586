-- What stands behind kvp NAME in a line.
use Rattle.std.specs.Prelude.{ℕ, ◌^◌, ◌-◌, ◌==◌, not, ◌&&◌, nat_le, List, [], ◌∷◌, length, codes, Option, Some, None, option_and_then, if◌then◌else◌}
use Rattle.std.specs.List.{list_any}
use Rattle.std.specs.Option.{option_map}
use Rattle.std.specs.Str.{bytes_eq}
use Rattle.kvp_ic.specs.declared.message.Kvp.{Kvp}
use Rattle.kvp_ic.specs.declared.message.Kvp.TheVariants.{Get, Set, Delete, Enum}
use Rattle.script_text.specs.Forms.{is_decimal, number_of, in_u64, within}

-- a word as a text of so many units, one for each of its bytes, where it is one
abbrev pub text_said : ℕ → ℕ → List ℕ → Option (List ℕ)
text_said min max word = if nat_le min (length word) && nat_le (length word) max && not (list_any (λ c. c == 0) word) then Some word else None

-- the number of a pool
abbrev pub pool_said : List ℕ → Option ℕ
pool_said pool = within 0 4 (in_u64 (number_of pool))

-- what is asked about a key, where pool and key are in their ranges
abbrev pub keyed_said : (ℕ → List ℕ → Kvp) → List ℕ → List ℕ → Option Kvp
keyed_said ask pool key = option_and_then (λ p. option_map (ask p) (text_said 1 255 key)) (pool_said pool)

-- and about a key and a value
abbrev pub valued_said : List ℕ → List ℕ → List ℕ → Option Kvp
valued_said pool key value = option_and_then (λ v. keyed_said (λ p k. Set p k v) pool key) (text_said 0 1023 value)

-- and about a place
abbrev pub placed_said : List ℕ → List ℕ → Option Kvp
placed_said pool index = option_and_then (λ p. option_map (Enum p) (within 0 (2 ^ 32 - 1) (in_u64 (number_of index)))) (pool_said pool)

-- POOL KEY, behind get and del
abbrev pub key_row : (ℕ → List ℕ → Kvp) → List (List ℕ) → Option (Option Kvp)
key_row ask (pool ∷ key ∷ []) = if is_decimal pool then Some (keyed_said ask pool key) else None
key_row ask others = None

-- POOL KEY VALUE, behind set
abbrev pub value_row : List (List ℕ) → Option (Option Kvp)
value_row (pool ∷ key ∷ value ∷ []) = if is_decimal pool then Some (valued_said pool key value) else None
value_row others = None

-- POOL INDEX, behind enum
abbrev pub place_row : List (List ℕ) → Option (Option Kvp)
place_row (pool ∷ index ∷ []) = if is_decimal pool && is_decimal index then Some (placed_said pool index) else None
place_row others = None

-- what stands behind each operation
abbrev pub operation_row : List ℕ → List (List ℕ) → Option (Option Kvp)
operation_row operation others =
    if bytes_eq operation (codes "set") then value_row others else
    if bytes_eq operation (codes "get") then key_row Get others else
    if bytes_eq operation (codes "del") then key_row Delete others else
    if bytes_eq operation (codes "enum") then place_row others else None
