-- Packets: lists of 64-bit words that begin with a descriptor of two words.
use Rattle.std.specs.Prelude.{◌≡◌, ℕ, ◌+◌, ◌*◌, ◌/◌, ◌%◌, ◌^◌, ◌≤◌, ◌⊎◌, List, ◌∷◌, length, drop, slice_index}
use Rattle.vm_page.specs.Words.{words_for, words_of, bytes_in, padded}
use Rattle.pkt_desc.specs.declared.desc.Desc.{Desc}

-- the type in a first word
abbrev pub kind_in : ℕ → ℕ
kind_in v = v % 2 ^ 16

-- where the payload begins, in words
abbrev pub offset8_of : ℕ → ℕ
offset8_of v = v / 2 ^ 16 % 2 ^ 16

-- the packet's length, in words
abbrev pub len8_of : ℕ → ℕ
len8_of v = v / 2 ^ 32 % 2 ^ 16

-- the flags in a first word
abbrev pub flags_in : ℕ → ℕ
flags_in v = v / 2 ^ 48 % 2 ^ 16

-- the first word of these four
abbrev pub head : ℕ → ℕ → ℕ → ℕ → ℕ
head kind offset8 len8 flags = kind + offset8 * 2 ^ 16 + len8 * 2 ^ 32 + flags * 2 ^ 48

-- a packet's type, flags and id
abbrev pub kind_of : List ℕ → ℕ
kind_of p = kind_in (slice_index p 0)

abbrev pub flags_of : List ℕ → ℕ
flags_of p = flags_in (slice_index p 0)

abbrev pub id_of : List ℕ → ℕ
id_of p = slice_index p 1

-- a packet's words from the offset on
abbrev pub payload_of : List ℕ → List ℕ
payload_of p = drop (offset8_of (slice_index p 0)) p

-- at least two words, of which the first has their number, and an offset past the descriptor and not past the end
pub record IsPacket (p : List ℕ) : Type 0 where
  pub two_words : 2 ≤ length p
  pub length_is : len8_of (slice_index p 0) ≡ length p
  pub past_descriptor : 2 ≤ offset8_of (slice_index p 0)
  pub within : offset8_of (slice_index p 0) ≤ length p

-- in-band data and completions have nothing between descriptor and payload
abbrev pub IsPlainKind : ℕ → Type 0
IsPlainKind kind = (kind ≡ 6) ⊎ (kind ≡ 11)

-- the descriptor in a packet's first two words
abbrev pub desc_in : ℕ → ℕ → Desc
desc_in first tid = record { kind = kind_in first; offset8 = offset8_of first; len8 = len8_of first; flags = flags_in first; tid = tid }

abbrev pub desc_of : List ℕ → Desc
desc_of p = desc_in (slice_index p 0) (id_of p)

-- the words of a packet whose payload follows the descriptor
abbrev pub plain_packet : ℕ → ℕ → ℕ → List ℕ → List ℕ
plain_packet kind tid flags payload = head kind 2 (2 + words_for (length payload)) flags ∷ tid ∷ words_of payload

-- the words of an in-band packet
abbrev pub inband_packet : ℕ → ℕ → List ℕ → List ℕ
inband_packet tid flags payload = plain_packet 6 tid flags payload

-- the words of a completion
abbrev pub completion_packet : ℕ → List ℕ → List ℕ
completion_packet tid payload = plain_packet 11 tid 0 payload

-- words are a packet with this type, id, flags and padded payload
pub record Carries (p : List ℕ) (kind tid flags : ℕ) (payload : List ℕ) : Type 0 where
  pub is_packet : IsPacket p
  pub kind_is : kind_of p ≡ kind
  pub id_is : id_of p ≡ tid
  pub flags_are : flags_of p ≡ flags
  pub words_are : payload_of p ≡ words_of payload
  pub bytes_are : bytes_in (payload_of p) ≡ padded payload
