-- What the cells of a ring spell, and what lists a ring stands for. Offsets and indices are in bytes here. Source: Linux drivers/hv/ring_buffer.c, hv_ringbuffer_write.
use Rattle.std.specs.Prelude.{◌≡◌, ℕ, ◌+◌, ◌*◌, ◌^◌, ◌<◌, ◌≤◌, List, [], ◌∷◌, ◌++◌, length, slice_index}
use Rattle.ring_machine.specs.declared.place.Ring.{Ring}
use Rattle.ring_machine.specs.declared.place.Place.TheVariants.{Write, Read, Cell}
use Rattle.ring_machine.specs.declared.machine.Stage.{Stage}
use Rattle.ring_machine.specs.declared.machine.Stage.TheVariants.{SendCell, SendWrite, TakeCell}
use Rattle.ring_machine.specs.declared.machine.EndMachine.{EndMachine}
use Rattle.ring_machine.specs.declared.state.EndState.{EndState}
use Rattle.ring_machine.specs.Places.{index_of, ahead, used, free, trailer}
use Rattle.ring_machine.specs.States.{IsPacket, packet_size}
use Rattle.ring_pair_laws.specs.Ring.{size}

-- The cells of a ring of d bytes spell these packets from the index a to b: there are none and a is b, or the first packet's words stand at a and on,
-- the next cell holds a in its high half, and the cells behind it spell the rest
abbrev pub Spells : ℕ → (ℕ → ℕ) → ℕ → ℕ → List (List ℕ) → Type 0
Spells d cell a b [] = a ≡ b
Spells d cell a b (p ∷ ps) =
    ((j : ℕ) → j < length p → cell (ahead d a (8 * j)) ≡ slice_index p j)
    × (cell (ahead d a (8 * length p)) ≡ a * 2 ^ 32)
    × Spells d cell (ahead d a (8 * length p + 8)) b ps

-- the word of the cell at this offset of a ring of n cells
abbrev pub cell_in : ℕ → List ℕ → Ring → ℕ → ℕ
cell_in n ws r at = slice_index ws (index_of n (Cell r at))

-- A ring of n cells in these words, with its two ends, also inside their calls: its words are their indices, and its cells from the read word to the
-- write word spell the last packets that the consumer got and those that wait
pub record StandsFor (n : ℕ) (ws : List ℕ) (r : Ring) (producer consumer : EndState) : Type 0 where
  pub before : List (List ℕ)
  pub taken : List (List ℕ)
  pub waiting : List (List ℕ)
  pub got_is : consumer.got ≡ before ++ taken
  pub sent_is : producer.sent ≡ consumer.got ++ waiting
  pub write : slice_index ws (index_of n (Write r)) ≡ 8 * producer.machine.write
  pub read : slice_index ws (index_of n (Read r)) ≡ 8 * consumer.machine.start
  pub taken_cells : Spells (8 * n) (cell_in n ws r) (8 * consumer.machine.start) (8 * consumer.machine.read) taken
  pub waiting_cells : Spells (8 * n) (cell_in n ws r) (8 * consumer.machine.read) (8 * producer.machine.write) waiting
  pub filled : 8 * size (taken ++ waiting) ≡ 8 * used n consumer.machine.start producer.machine.write

-- how many cells a send has stored: those of its packet, and then that of the trailer
abbrev pub stored_at : Stage → EndMachine → ℕ
stored_at SendCell m = m.done
stored_at SendWrite m = m.len + 1
stored_at _ m = 0

-- A send that has found room, and hasn't stored the write index yet: the read index that it loaded leaves more room than the packet needs, the ring has
-- no less now, and the cells that it has stored hold the packet's words and then its trailer, from the write index on
pub record HasRoom (n : ℕ) (ws : List ℕ) (r : Ring) (producer consumer : EndState) : Type 0 where
  pub packet : IsPacket producer.packet
  pub room : packet_size producer.packet < 8 * free n producer.machine.seen producer.machine.write
  pub least : free n producer.machine.seen producer.machine.write ≤ free n consumer.machine.start producer.machine.write
  pub stored : (j : ℕ) → j < stored_at producer.machine.stage producer.machine
      → cell_in n ws r (ahead (8 * n) (8 * producer.machine.write) (8 * j)) ≡ slice_index (producer.packet ++ trailer producer.machine.write ∷ []) j

-- A take that has loaded the write index: the cells from the read index to there spell the first of the packets that wait, and each word that it has
-- copied is that of its cell
pub record HasSeen (n : ℕ) (ws : List ℕ) (r : Ring) (producer consumer : EndState) : Type 0 where
  pub seen : List (List ℕ)
  pub rest : List (List ℕ)
  pub sent_is : producer.sent ≡ consumer.got ++ (seen ++ rest)
  pub cells : Spells (8 * n) (cell_in n ws r) (8 * consumer.machine.read) (8 * consumer.machine.seen) seen
  pub copied : (j : ℕ) → consumer.machine.stage ≡ TakeCell → j < consumer.machine.done
      → slice_index consumer.copied j ≡ cell_in n ws r (ahead (8 * n) (8 * consumer.machine.read) (8 * j))
