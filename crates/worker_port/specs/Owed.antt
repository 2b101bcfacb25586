-- What is owed.
use Rattle.page_kept.specs.declared.item.Item.{Item}
use Rattle.channel_protocol.specs.declared.protocol.Written.{Written as Spread}
use Rattle.channel_protocol.specs.Paged.{IsWritten, Lays, LaysSome}
use Rattle.worker_port.specs.Line.{Line, page_words}
use Rattle.std.specs.Prelude.{ℕ, ◌≡◌, ◌<◌, ◌≤◌, ◌+◌, ◌*◌, ◌⊎◌, Bool, true, false, List, [], ◌∷◌, length, take, Option, Some, None}
use Rattle.ring_machine.specs.States.{IsPacket}
use Rattle.channel_model.specs.WireFormat.{WireFormat}

abbrev pub is_nil : {P : Type 0} → List P → Bool
is_nil [] = true
is_nil (p ∷ ps) = false

-- a packet of at most 384 words, or none, and its first page words, with how many go along
pub record Written : Type 0 where
  pub packet : List ℕ
  pub words : List ℕ
  pub lent : ℕ

-- a buffer has 384 words for a packet and 512 page words, and what is written on it is a packet
pub record IsPacketBuffer (words page : List ℕ) (w : Spread) : Type 0 where
  pub size : length words ≡ 384
  pub page_size : length page ≡ 512
  pub most : IsWritten w
  pub packet : 0 < w.packet → IsPacket (take w.packet words)

-- an item that is written there
abbrev pub LaysOn : Written → Item → Type 0
LaysOn w i = Lays w.packet w.words w.lent i

-- what is written there is this, as it is read, or no packet where there is none
abbrev pub LaysSomeOn : (Item → Item) → Written → Option Item → Type 0
LaysSomeOn said w o = LaysSome said w.packet w.words w.lent o

-- the device may give this reply to what the packet asks
abbrev pub FitsReply : {A Q R : Type 0} → WireFormat Item A Q R → Item → R → Type 0
FitsReply {Q = Q} s p r = (q : Q) × (s.read p ≡ Some q) × (s.fits q r ≡ true)

-- the room in bytes that the next packet needs
abbrev pub need_of : List Item → Option ℕ
need_of [] = None
need_of (p ∷ ps) = Some (8 * length p.packet + 8)

-- a packet, which has at most 384 words, lacks the room of the list of what was sent
pub record LacksSendOf {S : Type 0} (packets words : ℕ) (p : List ℕ) (e : Line S) : Type 0 where
  pub most : length p ≤ 384
  pub packets_is : packets ≡ e.spare_sent.packets
  pub words_is : words ≡ e.spare_sent.words
  pub lacks : (packets ≡ 0) ⊎ (words < length p + page_words e.end.state.pages.count 1)

-- the first of these packets lacks it
pub record LacksSend {S : Type 0} (packets words : ℕ) (owed : List Item) (e : Line S) : Type 0 where
  pub packet : Item
  pub rest : List Item
  pub first : owed ≡ packet ∷ rest
  pub room : LacksSendOf packets words packet.packet e

abbrev pub HasSendRoom : {S : Type 0} → List ℕ → Line S → Type 0
HasSendRoom p e = (0 < e.spare_sent.packets) × (length p + page_words e.end.state.pages.count 1 ≤ e.spare_sent.words)

-- the end's machine keeps no more room than the first of these packets and its trailer take, and the length of that packet. A take keeps a length too: that this very packet was
-- tried is said by `TriedLast`
pub record MetFull {S : Type 0} (owed : List Item) (e : Line S) : Type 0 where
  pub packet : Item
  pub rest : List Item
  pub first : owed ≡ packet ∷ rest
  pub room : e.state.machine.room ≤ length packet.packet + 1
  pub words : e.state.machine.words ≡ length packet.packet

-- a need of a packet of 2 to 384 words
abbrev pub IsNeed : Option ℕ → Type 0
IsNeed None = Unit {0}
IsNeed (Some need) = (24 ≤ need) × (need ≤ 3080)
