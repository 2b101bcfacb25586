-- The words of a line, and where they stand.
use Rattle.std.specs.Prelude.{ℕ, ◌+◌, ◌==◌, Bool, List, [], ◌∷◌, length, Option, if◌then◌else◌, slice_get, bytes_eq}
use Rattle.std.specs.List.{slice_split}
use Rattle.std.specs.Option.{option_map_or}
use Rattle.script_text.specs.Words.{is_word}

-- the words among the parts of a line, each with the place of its first byte; the first part begins at a place, and each next one behind a space
abbrev pub places : ℕ → List (List ℕ) → List (ℕ × List ℕ)
places at [] = []
places at (part ∷ parts) = if is_word part then (at, part) ∷ places (at + length part + 1) parts else places (at + length part + 1) parts

-- the n-th word of a line, from 0 on, with its place
abbrev pub word_at : List ℕ → ℕ → Option (ℕ × List ℕ)
word_at line n = slice_get (places 0 (slice_split (λ b. b == 32) line)) n

-- its bytes; none where there is no such word
abbrev pub text_at : List ℕ → ℕ → List ℕ
text_at line n = option_map_or (λ w. w.1) (word_at line n) []

-- two lines have the same word there, or neither has one
abbrev pub same_word : List ℕ → List ℕ → ℕ → Bool
same_word one other n = bytes_eq (text_at one n) (text_at other n)
