-- Packets in a row of words, each up to its end.
use Rattle.std.specs.Prelude.{◌≡◌, ℕ, zero, suc, slice_index_or, ◌-◌, ◌≤◌, List, [], ◌∷◌, length, slice_range, vec_len, vec_capacity, Vec}
use Rattle.std.specs.declared.alloc.Global.{Global}
use Rattle.ring_core.specs.Seen.{Rowed}

abbrev pub cut : ℕ → List ℕ → List ℕ → List (List ℕ)
cut from [] words = []
cut from (e ∷ ends) words = slice_range words from e ∷ cut e ends words

-- the ends rise, up to the last word
abbrev pub Rises : ℕ → List ℕ → ℕ → Type 0
Rises from [] last = from ≡ last
Rises from (e ∷ ends) last = (from ≤ e) × Rises e ends last

-- the packets, and the room that is reserved behind them
abbrev pub held_in : Vec ℕ Global → Vec ℕ Global → Rowed
held_in words ends = record { list = cut 0 ends.items words.items; room = record { packets = vec_capacity ends - vec_len ends; words = vec_capacity words - vec_len words } }

abbrev pub IsCut : Vec ℕ Global → Vec ℕ Global → Type 0
IsCut words ends = Rises 0 ends.items (length words.items)

-- where packet i begins
abbrev pub start : ℕ → List ℕ → ℕ → ℕ
start from ends zero = from
start from ends (suc i) = slice_index_or ends i 0
