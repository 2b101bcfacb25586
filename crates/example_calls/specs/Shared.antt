-- The step of an end on words that a peer shares.
use Rattle.std.specs.Prelude.{◌≡◌, ℕ}
use Rattle.ring_machine.specs.declared.place.Op.{Op}
use Rattle.ring_machine.specs.declared.place.Op.TheVariants.{Load, Store, Raise, TakeSignal, StoreMark}
use Rattle.ring_machine.specs.Places.{index_of, signal_of, mark_of}

-- The words are of type W; the three are what a load, a store and an exchange of one word make of them, at its place and with its values
module _ {W : Type 0} (loads stores : W → W → ℕ → ℕ → Type 0) (swaps : W → W → ℕ → ℕ → ℕ → Type 0) where
  -- The step that an end of a channel of n cells names, and no other one, led from the old words to the new ones, and gave v: what the word gave, or 0 where
  -- it was stored alone. So a word that it doesn't name is the peer's
  abbrev pub MadeStep : ℕ → Op → ℕ → W → W → Type 0
  MadeStep n (Load p) v old new = loads old new (index_of n p) v
  MadeStep n (Store p w) v old new = stores old new (index_of n p) w × (v ≡ 0)
  MadeStep n (Raise x) v old new = stores old new (signal_of n x) 1 × (v ≡ 0)
  MadeStep n (TakeSignal x) v old new = swaps old new (signal_of n x) 0 v
  MadeStep n (StoreMark x) v old new = stores old new (mark_of n x) 1 × (v ≡ 0)
