-- The places of a channel's memory, and the arithmetic round a ring. Source: Linux drivers/hv/ring_buffer.c, hv_get_bytes_to_write and its neighbours.
use Rattle.std.specs.Prelude.{◌≡◌, ℕ, ◌+◌, ◌-◌, ◌*◌, ◌/◌, ◌%◌, ◌^◌, ◌<◌, ◌≤◌, Bool, ◌==◌, ◌&&◌, cond, leb, ltb}
use Rattle.io_edge.specs.declared.side.Side.{Side}
use Rattle.io_edge.specs.declared.side.Side.TheVariants.{Guest, Host}
use Rattle.ring_machine.specs.declared.place.Ring.{Ring}
use Rattle.ring_machine.specs.declared.place.Ring.TheVariants.{ToHost, ToGuest}
use Rattle.ring_machine.specs.declared.place.Place.{Place}
use Rattle.ring_machine.specs.declared.place.Place.TheVariants.{Write, Read, Mask, Pending, Feature, Cell, Signal, Mark, Page}

-- a ring has 1 to 32,768 pages of data
pub record IsRingSize (d : ℕ) : Type 0 where
  pub whole : d % 4096 ≡ 0
  pub some : 4096 ≤ d
  pub most : d ≤ 134217728

-- the ring that an end fills
abbrev pub out_of : Side → Ring
out_of Guest = ToHost
out_of Host = ToGuest

-- the ring that an end empties
abbrev pub in_of : Side → Ring
in_of Guest = ToGuest
in_of Host = ToHost

abbrev pub peer_of : Side → Side
peer_of Guest = Host
peer_of Host = Guest

-- where a ring of n cells begins in the list of a channel's words: five header words and then the cells
abbrev pub base_of : ℕ → Ring → ℕ
base_of n ToHost = 0
base_of n ToGuest = n + 5

-- both signals stand behind the rings, and then both marks
abbrev pub signal_of : ℕ → Side → ℕ
signal_of n Guest = n + n + 10
signal_of n Host = n + n + 11

abbrev pub mark_of : ℕ → Side → ℕ
mark_of n Guest = n + n + 12
mark_of n Host = n + n + 13

-- the words of a channel whose rings have n cells, before those of its data pages
abbrev pub words_of : ℕ → ℕ
words_of n = n + n + 14

-- where a place stands in the list of a channel's words
abbrev pub index_of : ℕ → Place → ℕ
index_of n (Write r) = base_of n r
index_of n (Read r) = base_of n r + 1
index_of n (Mask r) = base_of n r + 2
index_of n (Pending r) = base_of n r + 3
index_of n (Feature r) = base_of n r + 4
index_of n (Cell r at) = base_of n r + 5 + at / 8
index_of n (Signal x) = signal_of n x
index_of n (Mark x) = mark_of n x
index_of n (Page q w) = words_of n + (512 * q + w)

-- the places of a channel of c data pages: a cell's offset is a multiple of 8 inside its ring, and a page has 512 words
abbrev pub IsPlaceOf : ℕ → ℕ → Place → Type 0
IsPlaceOf n c (Cell r at) = (at % 8 ≡ 0) × (at < 8 * n)
IsPlaceOf n c (Write r) = Unit {0}
IsPlaceOf n c (Read r) = Unit {0}
IsPlaceOf n c (Mask r) = Unit {0}
IsPlaceOf n c (Pending r) = Unit {0}
IsPlaceOf n c (Feature r) = Unit {0}
IsPlaceOf n c (Signal x) = Unit {0}
IsPlaceOf n c (Mark x) = Unit {0}
IsPlaceOf n c (Page q w) = (q < c) × (w < 512)

-- the part of a header word that counts
abbrev pub low : ℕ → ℕ
low v = v % 2 ^ 32

-- an index of a ring of d bytes: a multiple of 8 below d
abbrev pub IsIndex : ℕ → ℕ → Type 0
IsIndex d i = (i % 8 ≡ 0) × (i < d)

-- a loaded header word is an index of a ring of n cells
abbrev pub is_index : ℕ → ℕ → Bool
is_index n v = (low v % 8 == 0) && ltb (low v / 8) n

-- the cell that it names
abbrev pub cell_of : ℕ → ℕ
cell_of v = low v / 8

-- k further round a ring of d
abbrev pub ahead : ℕ → ℕ → ℕ → ℕ
ahead d i k = cond (ltb (i + k) d) (i + k) (i + k - d)

-- how far b is from a, round a ring of d
abbrev pub gone : ℕ → ℕ → ℕ → ℕ
gone d a b = cond (leb a b) (b - a) (b + d - a)

-- what a ring of d holds between its read and its write index, and the room that is left. Equal indices mean empty
abbrev pub used : ℕ → ℕ → ℕ → ℕ
used d r w = gone d r w

abbrev pub free : ℕ → ℕ → ℕ → ℕ
free d r w = cond (leb r w) (d - (w - r)) (r - w)

-- The trailer of a packet that began at this cell: its byte offset, in the high half of the word
abbrev pub trailer : ℕ → ℕ
trailer i = i * 34359738368

-- the length in words that a packet's first word names, and the offset of its payload
abbrev pub len8_of : ℕ → ℕ
len8_of v = v / 4294967296 % 65536

abbrev pub offset8_of : ℕ → ℕ
offset8_of v = v / 65536 % 65536

-- A sender signals where the peer asks for it and found the ring empty before: mask is 0, and the read index is the old write index.
-- Source: hv_signal_on_write
abbrev pub raises_on_write : ℕ → ℕ → ℕ → Bool
raises_on_write old_write mask read = (mask == 0) && (read == old_write)

-- A consumer signals where its commit makes room for a producer that waits for more than `pending` bytes, and there was no such room before:
-- `cur` bytes are free now, and `got` were given back by this commit. Source: hv_pkt_iter_close
abbrev pub raises_for_room : ℕ → ℕ → ℕ → Bool
raises_for_room cur got pending = leb got cur && (ltb pending cur && leb (cur - got) pending)

abbrev pub raises_on_commit : ℕ → ℕ → ℕ → ℕ → ℕ → Bool
raises_on_commit d write start read pending = raises_for_room (free d read write) (gone d start read) pending
