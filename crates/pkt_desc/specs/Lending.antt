-- The page of its channel that a packet lends.
use Rattle.std.specs.Prelude.{ℕ, ◌+◌, ◌/◌, ◌%◌, ◌^◌, ◌==◌, nat_lt, nat_le, Bool, ◌&&◌, List, length, slice_index, Option, Some, None, if◌then◌else◌}
use Rattle.pkt_desc.specs.declared.loan.Lent.{Lent}
use Rattle.pkt_desc.specs.Packets.{kind_of, offset8_of, payload_of}
use Rattle.pkt_desc.specs.Ranges.{low_32, high_32, range_count, ranges_end}

-- part of a page, or all of it
abbrev pub is_part : ℕ → Bool
is_part bytes = nat_le 1 bytes && nat_le bytes 4096

-- where this holds, so many bytes of this page are lent
abbrev pub loan : Bool → ℕ → ℕ → Option Lent
loan holds page bytes = if holds then Some (record { page = page; bytes = bytes }) else None

-- by one range of pages, that begins a page of the guest
abbrev pub span_lent : List ℕ → Option Lent
span_lent p =
    let range = slice_index p 3 in
    let frame = slice_index p 4 in
    loan ((range_count p == 1) && ((high_32 range == 0) && (is_part (low_32 range) && nat_lt frame 64))) frame (low_32 range)

-- by one range of the receive buffer, that begins a page of it: its pages come after the 64 of the guest
abbrev pub buffer_lent : List ℕ → Option Lent
buffer_lent p =
    let range = slice_index p 3 in
    loan ((slice_index p 2 % 2 ^ 16 == 0xcafe) && ((range_count p == 1) && (is_part (low_32 range) && ((high_32 range % 4096 == 0) && nat_lt (high_32 range) 262144)))) (64 + high_32 range / 4096) (low_32 range)

-- by a payload that is an RNDIS packet: five words, of which the first begins with 107 and the second names a section of the
-- send buffer and the bytes in it
abbrev pub section_lent : List ℕ → Option Lent
section_lent payload =
    let section = slice_index payload 1 in
    loan (nat_le 5 (length payload) && ((low_32 (slice_index payload 0) == 107) && (nat_lt (low_32 section) 64 && is_part (high_32 section)))) (low_32 section) (high_32 section)

-- the three types that lend
abbrev pub lent_by : ℕ → List ℕ → Option Lent
lent_by kind p =
    if kind == 6 then section_lent (payload_of p)
    else (if kind == 7 then buffer_lent p else (if kind == 9 then span_lent p else None))

-- what a packet lends, where its ranges end at or before its payload
abbrev pub lent_of : List ℕ → Option Lent
lent_of p = if nat_le (ranges_end (kind_of p) p) (offset8_of (slice_index p 0)) then lent_by (kind_of p) p else None
