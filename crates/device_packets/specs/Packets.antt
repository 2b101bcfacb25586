-- Packets that a worker reads: of a type, and of no more words than a packet of this program has.
use Rattle.std.specs.Prelude.{ℕ, ◌==◌, Bool, ◌&&◌, nat_le, List, length}
use Rattle.vm_page.specs.Words.{bytes_in}
use Rattle.pkt_desc.specs.Packets.{kind_of, payload_of}

-- of this type, and of at most 384 words
abbrev pub is_of : ℕ → List ℕ → Bool
is_of kind p = (kind_of p == kind) && nat_le (length p) 384

-- in-band data
unfoldable pub is_inband : List ℕ → Bool
is_inband p = is_of 6 p

-- a completion
unfoldable pub is_completion : List ℕ → Bool
is_completion p = is_of 11 p

-- the bytes of a packet's payload
unfoldable pub content_of : List ℕ → List ℕ
content_of p = bytes_in (payload_of p)
