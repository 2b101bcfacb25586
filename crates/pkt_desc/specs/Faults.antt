-- Why words aren't a packet.
use Rattle.std.specs.Prelude.{ℕ, ◌==◌, ◌-◌, nat_lt, nat_le, ◌||◌, List, length, slice_index, Option, Some, None, if◌then◌else◌}
use Rattle.pkt_desc.specs.declared.desc.PacketFault.{PacketFault}
use Rattle.pkt_desc.specs.declared.desc.PacketFault.TheVariants.{Length, Offset, Ranges}
use Rattle.pkt_desc.specs.Packets.{kind_of, offset8_of, len8_of}
use Rattle.pkt_desc.specs.Ranges.{ranges_end, told_count}

-- a packet whose ranges don't end at or before the payload
abbrev pub ranges_fault : ℕ → List ℕ → Option PacketFault
ranges_fault offset8 p = if nat_le (ranges_end (kind_of p) p) offset8 then None else Some (Ranges (told_count offset8 p) (offset8 - 2))

-- a length that isn't the number of words, or else an offset in the descriptor or past the end, or else ranges past the offset
abbrev pub fault_at : ℕ → ℕ → List ℕ → Option PacketFault
fault_at offset8 len8 p =
    if len8 == length p then (if nat_lt offset8 2 || nat_lt len8 offset8 then Some (Offset offset8 len8) else ranges_fault offset8 p)
    else Some (Length len8 (length p))

abbrev pub fault_of : List ℕ → Option PacketFault
fault_of p = fault_at (offset8_of (slice_index p 0)) (len8_of (slice_index p 0)) p
