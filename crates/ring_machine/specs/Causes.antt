-- Why a machine refuses what it loaded.
use Rattle.std.specs.Prelude.{◌≡◌, ◌⊎◌, ℕ, ◌+◌, ◌*◌, ◌<◌, ◌≤◌, false}
use Rattle.ring_machine.specs.declared.machine.Stage.TheVariants.{SendRead, TakeWrite, TakeFirst}
use Rattle.ring_machine.specs.declared.machine.EndMachine.{EndMachine}
use Rattle.ring_machine.specs.declared.last.Bad.TheVariants.{Index, Length, Offset}
use Rattle.ring_machine.specs.declared.last.Why.{Why}
use Rattle.ring_machine.specs.declared.last.Why.TheVariants.{BadPeer, Malformed}
use Rattle.ring_machine.specs.Places.{low, is_index, used, len8_of, offset8_of}

-- The value v that a machine loads breaks the rule that is named: an index in no form, a length below 2 words or with its trailer above the bytes that
-- aren't taken yet, and, where the length is right, an offset outside its packet
abbrev pub Breaks : Why → EndMachine → ℕ → Type 0
Breaks (BadPeer i) m v = (m.stage ≡ SendRead) × (is_index m.cells v ≡ false) × (i ≡ low v)
Breaks (Malformed (Index i)) m v = (m.stage ≡ TakeWrite) × (is_index m.cells v ≡ false) × (i ≡ low v)
Breaks (Malformed (Length l a)) m v = (m.stage ≡ TakeFirst) × (l ≡ len8_of v) × (a ≡ 8 * used m.cells m.read m.seen) × ((l < 2) ⊎ (a < 8 * l + 8))
Breaks (Malformed (Offset o l)) m v =
    (m.stage ≡ TakeFirst) × (o ≡ offset8_of v) × (l ≡ len8_of v) × (2 ≤ l) × (8 * l + 8 ≤ 8 * used m.cells m.read m.seen) × ((o < 2) ⊎ (l < o))
