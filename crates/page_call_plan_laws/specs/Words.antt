-- Page words that a run stores.
use Rattle.std.specs.Prelude.{ℕ, ◌+◌, ◌*◌, List, [], ◌∷◌, slice_set}

-- the words of the memory, in which the pages begin at `base`, after these words were stored from the word w of page q on
abbrev pub words_stored : ℕ → List ℕ → ℕ → ℕ → List ℕ → List ℕ
words_stored base ws q w [] = ws
words_stored base ws q w (v ∷ vs) = words_stored base (slice_set ws (base + (512 * q + w)) v) q (w + 1) vs
