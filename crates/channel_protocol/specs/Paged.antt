-- Packets with their page words, as a protocol writes and reads them.
use Rattle.std.specs.Prelude.{◌≡◌, ℕ, ◌<◌, ◌≤◌, ◌+◌, ◌==◌, Bool, true, false, List, [], ◌∷◌, length, take, Option, Some, None}
use Rattle.vm_page.specs.Words.{words_for}
use Rattle.pkt_desc.specs.Packets.{kind_of, id_of}
use Rattle.pkt_desc.specs.Lending.{lent_of}
use Rattle.pkt_desc.specs.declared.loan.Lent.{Lent}
use Rattle.page_kept.specs.declared.item.Item.{Item}
use Rattle.page_kept.specs.Items.{item_of}
use Rattle.channel_model.specs.Carried.{carried}
use Rattle.channel_model.specs.WireFormat.{Back, WireFormat}
use Rattle.channel_protocol.specs.declared.protocol.Written.{Written}

-- an item of this packet with n page words, which begin with these
pub record Lays (packet words : List ℕ) (n : ℕ) (i : Item) : Type 0 where
  pub packet_is : i.packet ≡ packet
  pub words_are : take (length words) i.words ≡ words
  pub long : length i.words ≡ n

-- no more words than a packet has, and no more page words than a page
pub record IsWritten (w : Written) : Type 0 where
  pub packet : w.packet ≤ 384
  pub words : w.words ≤ w.lent
  pub lent : w.lent ≤ 512

-- what was written is this, as it is read, or no packet where there is none
abbrev pub LaysSome : (Item → Item) → List ℕ → List ℕ → ℕ → Option Item → Type 0
LaysSome said packet words n None = packet ≡ []
LaysSome said packet words n (Some j) = (0 < length packet) × ((i : Item) → Lays packet words n i → said i ≡ j)

-- the packet with its page words, as it is read, or none where there are no words
abbrev pub item_in : (Item → Item) → List ℕ → List ℕ → Option Item
item_in said [] words = None
item_in said (w ∷ ws) words = Some (said (item_of (w ∷ ws) words))

-- the page words that a packet lends, where its channel has the page that it names
abbrev pub lent_len : Option Lent → ℕ
lent_len None = 0
lent_len (Some l) = words_for l.bytes

abbrev pub words_lent : List ℕ → ℕ
words_lent p = lent_len (lent_of p)

-- a message besides is no completion, and lends the page of its own id or none: that of id 1 is the first behind the 64 of the guest
abbrev pub LendsOwnPage : Option (ℕ → Item) → Type 0
LendsOwnPage None = Unit {0}
LendsOwnPage (Some m) = (own : ℕ) (l : Lent) → 1 ≤ own → own ≤ 64 → lent_of (m own).packet ≡ Some l → l.page ≡ 63 + own

-- What packets keep to on a channel with data pages. The id is that of the descriptor. What answers or acknowledges is a completion, and no other packet is one
pub record KeepsPages {A Q R : Type 0} (s : WireFormat Item A Q R) : Type 0 where
  pub ids : (i : Item) → s.id_of i ≡ id_of i.packet
  pub answers : (i : Item) → s.is_answer i ≡ (kind_of i.packet == 11)
  pub acks : (i : Item) → s.is_ack i ≡ true → (kind_of i.packet == 11) ≡ true
  pub asks : (id : ℕ) (a : A) → (kind_of (s.encode id a).packet == 11) ≡ false
  pub waits : (i : Item) → s.waits i ≡ true → (kind_of i.packet == 11) ≡ false
  pub messages : (i : Item) → s.is_message i ≡ true → (kind_of i.packet == 11) ≡ false
  -- a request lends the page of its id or none: that of id 1 is the first of the guest. One that has no answer has id 0, and lends none
  pub lent : (id : ℕ) (a : A) (l : Lent) → 1 ≤ id → id ≤ 64 → s.has_answer a ≡ true → lent_of (s.encode id a).packet ≡ Some l → l.page + 1 ≡ id
  pub silent : (id : ℕ) (a : A) → s.has_answer a ≡ false → (id_of (s.encode id a).packet ≡ 0) × (lent_of (s.encode id a).packet ≡ None)
  pub besides : (i : Item) (r : R) → LendsOwnPage (s.gives i r).message
  pub fixed_besides : (i : Item) (b : Back Item) → s.fixed i ≡ Some b → LendsOwnPage b.message
  -- an answer brings back no more page words than came with its request; a fixed one and what acknowledges a message bring back none that is read
  pub back : (i : Item) (q : Q) (r : R) → s.read i ≡ Some q → s.fits q r ≡ true → length (s.gives i r).answer.words ≤ length i.words
  pub fixed_back : (i : Item) (b : Back Item) → s.fixed i ≡ Some b → b.answer.words ≡ []
  pub acked : (i : Item) → (s.ack i).words ≡ []

-- a packet without page words, and the packet of an item
abbrev pub bare_item : List ℕ → Item
bare_item p = item_of p []

abbrev pub packet_of : Item → List ℕ
packet_of i = i.packet

-- what packets say, in items: each has its packet alone, as on a channel without data pages
abbrev pub in_packets : {A Q R : Type 0} → WireFormat (List ℕ) A Q R → WireFormat Item A Q R
in_packets s = carried packet_of bare_item bare_item bare_item s
