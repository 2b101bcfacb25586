-- Numbers of 16 hexadecimal digits, joined by commas.
use Rattle.std.specs.Prelude.{ℕ, ◌==◌, Bool, List, map}
use Rattle.std.specs.List.{list_all, slice_split}
use Rattle.line_words.specs.Values.{is_hex_16, number_of_hex_16}

-- what stands between commas
abbrev pub parts_of : List ℕ → List (List ℕ)
parts_of w = slice_split (λ b. b == 44) w

abbrev pub are_numbers : List ℕ → Bool
are_numbers w = list_all is_hex_16 (parts_of w)

abbrev pub numbers_of : List ℕ → List ℕ
numbers_of w = map number_of_hex_16 (parts_of w)
