-- A packet's descriptor and a refusal as the numbers that C sees.
use Rattle.std.specs.Prelude.{◌≡◌, ℕ, ◌+◌, ◌%◌, ◌^◌, ◌<◌, ◌≤◌, List, length, slice_index}
use Rattle.pkt_desc.specs.Packets.{IsPacket, kind_of, offset8_of}
use Rattle.pkt_desc.specs.Ranges.{RangesFit, high_32, low_32, range_count, span_words}
use Rattle.vm_page.specs.Cuts.{pages_for}
use Rattle.vmbus_c.specs.declared.packets.VmbusRange.{VmbusRange}
use Rattle.vmbus_c.specs.declared.packets.VmbusTransfer.{VmbusTransfer}
use Rattle.vmbus_c.specs.declared.packets.VmbusPart.{VmbusPart}
use Rattle.pkt_desc.specs.declared.desc.Desc.{Desc}
use Rattle.pkt_desc.specs.declared.desc.PacketFault.{PacketFault}
use Rattle.pkt_desc.specs.declared.desc.PacketFault.TheVariants.{Length, Offset, Ranges}
use Rattle.vmbus_c.specs.declared.packets.VmbusPacket.{VmbusPacket}

abbrev pub fields_of : Desc → VmbusPacket
fields_of d = record { kind = d.kind; offset8 = d.offset8; len8 = d.len8; flags = d.flags; tid = d.tid }

-- the number of a refusal; 1 is fewer than two words
abbrev pub number_of : PacketFault → ℕ
number_of (Length len8 have) = 2
number_of (Offset offset8 len8) = 3
number_of (Ranges count have) = 4

-- a packet of type 9
pub record NamesPages (words : List ℕ) : Type 0 where
  pub two : 2 ≤ length words
  pub packet : IsPacket words
  pub ranges : RangesFit words
  pub kind : kind_of words ≡ 9

-- a range stands at this word, behind the number of ranges, and all of it before the payload
abbrev pub HasRange : List ℕ → ℕ → Type 0
HasRange words at = (3 ≤ at) × (at < offset8_of (slice_index words 0)) × (at + span_words (slice_index words at) ≤ offset8_of (slice_index words 0))

-- the range at a word
abbrev pub range_at : List ℕ → ℕ → VmbusRange
range_at words at =
    let word = slice_index words at in
    record { bytes = low_32 word; offset = high_32 word; frames_at = at + 1; frames = pages_for (high_32 word) (low_32 word) }

-- a packet of type 7
pub record NamesParts (words : List ℕ) : Type 0 where
  pub two : 2 ≤ length words
  pub packet : IsPacket words
  pub ranges : RangesFit words
  pub kind : kind_of words ≡ 7

-- the number of its buffer, and how many ranges of it there are
abbrev pub transfer_of : List ℕ → VmbusTransfer
transfer_of words = record { pageset = slice_index words 2 % 2 ^ 16; parts = range_count words }

-- a range of it
abbrev pub part_at : List ℕ → ℕ → VmbusPart
part_at words number = record { bytes = low_32 (slice_index words (3 + number)); offset = high_32 (slice_index words (3 + number)) }
