-- Ranges between a packet's descriptor and its payload: parts of a buffer of the channel (type 7), or of pages (type 9).
use Rattle.std.specs.Prelude.{ℕ, zero, suc, ◌+◌, ◌/◌, ◌%◌, ◌^◌, ◌≤◌, ◌==◌, List, [], ◌∷◌, drop, slice_index, if◌then◌else◌}
use Rattle.vm_page.specs.declared.span.Span.{Span}
use Rattle.vm_page.specs.Cuts.{pages_for}
use Rattle.pkt_desc.specs.Packets.{kind_of, offset8_of}

-- a word's two fields of 32 bits
abbrev pub low_32 : ℕ → ℕ
low_32 v = v % 2 ^ 32

abbrev pub high_32 : ℕ → ℕ
high_32 v = v / 2 ^ 32

-- the number of ranges, behind the descriptor
abbrev pub range_count : List ℕ → ℕ
range_count p = high_32 (slice_index p 2)

-- the words of a range of pages: one with its length and offset, and the frame number of each page that it touches
abbrev pub span_words : ℕ → ℕ
span_words v = 1 + pages_for (high_32 v) (low_32 v)

-- the words of so many ranges of pages, one behind the other
unfoldable pub spans_words : ℕ → List ℕ → ℕ
spans_words zero ws = 0
spans_words (suc n) ws = span_words (slice_index ws 0) + spans_words n (drop (span_words (slice_index ws 0)) ws)

-- Where the ranges of a packet of this type end: a part of a buffer has one word, with its length and offset. Packets of
-- other types have no ranges
abbrev pub ranges_end : ℕ → List ℕ → ℕ
ranges_end kind p =
    if kind == 7 then 3 + range_count p
    else (if kind == 9 then 3 + spans_words (range_count p) (drop 3 p) else 2)

-- a packet's ranges end at or before its payload
abbrev pub RangesFit : List ℕ → Type 0
RangesFit p = ranges_end (kind_of p) p ≤ offset8_of (slice_index p 0)

-- the number of ranges before a payload that begins at this word
abbrev pub told_count : ℕ → List ℕ → ℕ
told_count offset8 p = if offset8 == 2 then 0 else range_count p

-- the parts of pages in so many ranges of one page each
unfoldable pub spans_in : ℕ → List ℕ → List Span
spans_in zero ws = []
spans_in (suc n) ws = record { page = slice_index ws 1; offset = high_32 (slice_index ws 0); len = low_32 (slice_index ws 0) } ∷ spans_in n (drop 2 ws)
