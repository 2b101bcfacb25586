-- The words of bytes, and the bytes of words.
use Rattle.std.specs.Prelude.{ℕ, zero, suc, ◌+◌, ◌*◌, ◌/◌, ◌%◌, ◌-◌, List, [], ◌∷◌, ◌++◌, length, take, drop, replicate}
use Rattle.std.specs.List.{flat_map}

-- the number that bytes spell, the lowest byte first
unfoldable pub number_of : List ℕ → ℕ
number_of [] = 0
number_of (b ∷ bs) = b + 256 * number_of bs

-- the lowest bytes of a number, so many, the lowest first
unfoldable pub low_bytes : ℕ → ℕ → List ℕ
low_bytes zero v = []
low_bytes (suc n) v = (v % 256) ∷ low_bytes n (v / 256)

-- word i of bytes: those from 8i on, with zeros past the end
abbrev pub word_at : List ℕ → ℕ → ℕ
word_at bs i = number_of (take 8 (drop (8 * i) bs))

-- so many words of bytes
unfoldable pub words_from : ℕ → List ℕ → List ℕ
words_from zero bs = []
words_from (suc n) bs = number_of (take 8 bs) ∷ words_from n (drop 8 bs)

-- how many words bytes fill
abbrev pub words_for : ℕ → ℕ
words_for n = (n + 7) / 8

-- bytes as words, the last one padded with zeros
abbrev pub words_of : List ℕ → List ℕ
words_of bs = words_from (words_for (length bs)) bs

-- the eight bytes of each of these words
abbrev pub bytes_in : List ℕ → List ℕ
bytes_in ws = flat_map (low_bytes 8) ws

-- bytes with zeros up to a whole number of words
abbrev pub padded : List ℕ → List ℕ
padded bs = bs ++ replicate (8 * words_for (length bs) - length bs) 0
