-- The packets of a stream of bytes, and those that a host sends back. That a packet carries 2,048 bytes is this program's.
use Rattle.std.specs.Prelude.{◌≡◌, ℕ, ◌+◌, ◌/◌, ◌≤◌, Bool, cond, List, [], ◌∷◌, ◌++◌, length, map, Option, Some, None}
use Rattle.std.specs.Fork.{slice_chunk}
use Rattle.std.specs.List.{flat_map, range_with_len}
use Rattle.hv_sock.specs.Packets.{Said, Data, Close, Fault, says, sock_packet}

-- how many pieces of 2,048 bytes so many bytes have, the last one with what is left
abbrev pub pieces_for : ℕ → ℕ
pieces_for n = (n + 2047) / 2048

-- bytes in pieces of 2,048, as `chunks` of Rust's slices cuts them
unfoldable pub pieces : List ℕ → List (List ℕ)
pieces bytes = map (slice_chunk bytes 2048) (range_with_len 0 (pieces_for (length bytes)))

-- each piece but the last has 2,048 bytes, and none is empty
abbrev pub AreFull : List (List ℕ) → Type 0
AreFull [] = Unit {0}
AreFull (d ∷ []) = (1 ≤ length d) × (length d ≤ 2048)
AreFull (d ∷ e ∷ ds) = (length d ≡ 2048) × AreFull (e ∷ ds)

-- these pieces are the bytes, cut every 2,048
pub record ArePiecesOf (bytes : List ℕ) (ds : List (List ℕ)) : Type 0 where
  pub joined : flat_map (λ d. d) ds ≡ bytes
  pub full : AreFull ds

-- such are the pieces of any bytes, and there are no others
abbrev pub CutsInPieces : Type 0
CutsInPieces = (bytes : List ℕ) → ArePiecesOf bytes (pieces bytes)

abbrev pub CutsInNoOthers : Type 0
CutsInNoOthers = (bytes : List ℕ) (ds : List (List ℕ)) → ArePiecesOf bytes ds → ds ≡ pieces bytes

-- the packets of these pieces, and the one that ends their direction
abbrev pub closing : List (List ℕ) → List (List ℕ)
closing ds = map sock_packet ds ++ sock_packet [] ∷ []

-- the packets of a stream of bytes, with the one that ends it
unfoldable pub packets_of : List ℕ → List (List ℕ)
packets_of bytes = closing (pieces bytes)

-- how many packets carry a stream of so many bytes, with the one that ends it
abbrev pub packets_for : ℕ → ℕ
packets_for n = pieces_for n + 1

abbrev pub echo_then : Said → List (List ℕ) → List (List ℕ)
echo_then (Data bytes) rest = sock_packet bytes ∷ rest
echo_then Close rest = []
echo_then (Fault f) rest = []

-- what goes back for a list of packets: a packet for each one with data, up to the first one without
abbrev pub echoed : List (List ℕ) → List (List ℕ)
echoed [] = []
echoed (p ∷ ps) = echo_then (says p) (echoed ps)

-- the packet of a piece that is held
abbrev pub owed : Option (List ℕ) → List (List ℕ)
owed None = []
owed (Some bytes) = sock_packet bytes ∷ []

-- the packet that ends a direction, where it was ended
abbrev pub ending : Bool → List (List ℕ)
ending shut = cond shut (sock_packet [] ∷ []) []
