-- Packets with ranges between descriptor and payload, and what they carry.
use Rattle.std.specs.Prelude.{◌≡◌, ℕ, ◌+◌, ◌*◌, ◌%◌, ◌^◌, List, ◌∷◌, [], ◌++◌, length, map, take, drop, slice_index}
use Rattle.std.specs.List.{flat_map}
use Rattle.vm_page.specs.declared.span.Span.{Span}
use Rattle.vm_page.specs.Words.{words_for, words_of, bytes_in, padded}
use Rattle.pkt_desc.specs.Packets.{IsPacket, head, kind_of, id_of, flags_of, offset8_of, payload_of}
use Rattle.pkt_desc.specs.Ranges.{low_32, high_32, range_count, ranges_end, spans_in}

-- a range's word: its bytes, and their offset
abbrev pub range_word : ℕ × ℕ → ℕ
range_word r = r.0 + r.1 * 2 ^ 32

-- the bytes and the offset in a range's word
abbrev pub range_of : ℕ → ℕ × ℕ
range_of v = (low_32 v, high_32 v)

-- a part of a page: a range's word, and the page's frame number
abbrev pub words_of_span : Span → List ℕ
words_of_span s = (s.len + s.offset * 2 ^ 32) ∷ s.page ∷ []

-- The words of a packet with these words of ranges behind its third word. It asks for a completion
abbrev pub ranged_packet : ℕ → ℕ → ℕ → List ℕ → List ℕ → List ℕ
ranged_packet kind tid third ranges payload =
    head kind (3 + length ranges) (3 + length ranges + words_for (length payload)) 1 ∷ tid ∷ third ∷ (ranges ++ words_of payload)

-- the words of a packet of type 9 with a range for each part of a page
abbrev pub gpa_packet : ℕ → List Span → List ℕ → List ℕ
gpa_packet tid spans payload = ranged_packet 9 tid (length spans * 2 ^ 32) (flat_map words_of_span spans) payload

-- the words of a packet of type 7 with these ranges of a buffer
abbrev pub xfer_packet : ℕ → ℕ → List (ℕ × ℕ) → List ℕ → List ℕ
xfer_packet tid pageset ranges payload = ranged_packet 7 tid (pageset + length ranges * 2 ^ 32) (map range_word ranges) payload

-- Words are a packet with this type, id and padded payload, that asks for a completion, and whose ranges fill what is between
-- descriptor and payload
pub record CarriesRanges (p : List ℕ) (kind tid : ℕ) (payload : List ℕ) : Type 0 where
  pub is_packet : IsPacket p
  pub kind_is : kind_of p ≡ kind
  pub id_is : id_of p ≡ tid
  pub flags_are : flags_of p ≡ 1
  pub ranges_fill : ranges_end kind p ≡ offset8_of (slice_index p 0)
  pub words_are : payload_of p ≡ words_of payload
  pub bytes_are : bytes_in (payload_of p) ≡ padded payload

-- of type 9, with these parts of pages
pub record CarriesSpans (p : List ℕ) (tid : ℕ) (spans : List Span) (payload : List ℕ) : Type 0 where
  pub packet : CarriesRanges p 9 tid payload
  pub count_is : range_count p ≡ length spans
  pub spans_are : spans_in (length spans) (drop 3 p) ≡ spans

-- of type 7, with this buffer and these ranges of it
pub record CarriesParts (p : List ℕ) (tid pageset : ℕ) (ranges : List (ℕ × ℕ)) (payload : List ℕ) : Type 0 where
  pub packet : CarriesRanges p 7 tid payload
  pub pageset_is : slice_index p 2 % 2 ^ 16 ≡ pageset
  pub count_is : range_count p ≡ length ranges
  pub ranges_are : map range_of (take (length ranges) (drop 3 p)) ≡ ranges
