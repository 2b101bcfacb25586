-- What a serving worker writes, with the page words that go along, and which of its answers bring back what.
use Rattle.std.specs.Prelude.{ℕ, ◌≡◌, ◌≢◌, ◌≤◌, ◌+◌, ◌-◌, Bool, true, false, List, [], ◌∷◌, ◌++◌, length, replicate, take, Option, Some, is_some}
use Rattle.page_kept.specs.declared.item.Item.{Item}
use Rattle.page_kept.specs.Items.{item_of}
use Rattle.channel_model.specs.WireFormat.{WireFormat}
use Rattle.channel_model.specs.Acks.{is_in, own_open}
use Rattle.channel_protocol.specs.Paged.{Lays, words_lent}
use Rattle.channel_trace.specs.declared.event.Event.{Event}
use Rattle.io_edge.specs.declared.side.Side.TheVariants.{Host}
use Rattle.pkt_desc.specs.Packets.{id_of}
use Rattle.pkt_desc.specs.Lending.{lent_of}
use Rattle.pkt_desc.specs.declared.loan.Lent.{Lent as LentBytes}
use Rattle.worker_port.specs.Homes.{HasHome}
use Rattle.ring_core.specs.declared.told.Told.{Told}
use Rattle.ring_seat.specs.Lawful.{Lawfully}
use Rattle.worker_port.specs.Owed.{Written}
use Rattle.worker_server.specs.Serving.{Serving}

-- a packet as it is written, with the page words that are stored for it, and 0 for each other one that goes along
abbrev pub item_on : Written → Item
item_on o = item_of o.packet (o.words ++ replicate (o.lent - length o.words) 0)

-- one, where a packet is written
abbrev pub if_written : List ℕ → Written → List Written
if_written [] o = []
if_written (w ∷ ws) o = o ∷ []

abbrev pub sheets_of : Written → List Written
sheets_of o = if_written o.packet o

-- what is written, as it is read
abbrev pub read_all : (Item → Item) → List Written → List Item
read_all said [] = []
read_all said (o ∷ os) = said (item_on o) ∷ read_all said os

-- no page words are stored for any of these, nor go along
abbrev pub AreBare : List Written → Type 0
AreBare [] = Unit {0}
AreBare (o ∷ os) = ((o.words ≡ []) × (o.lent ≡ 0)) × AreBare os

-- no more page words are brought back than so many; and whatever stands behind these in the page, it is read as this
pub record BringsBack (said : Item → Item) (most : ℕ) (o : Written) : Type 0 where
  pub within : o.lent ≤ most
  pub whole : (n : ℕ) (i : Item) → o.lent ≤ n → Lays o.packet o.words n i → said i ≡ said (item_on o)

-- it lends as many page words as it was written for, and with these it is read as it was meant
pub record LendsAll (said : Item → Item) (o : Written) : Type 0 where
  pub lent : o.lent ≡ words_lent o.packet
  pub whole : (i : Item) → Lays o.packet o.words o.lent i → said i ≡ said (item_on o)

-- nothing goes back, or this one answer, or a message and then the answer
abbrev pub BringBack : (Item → Item) → ℕ → List Written → Type 0
BringBack said most [] = Unit {0}
BringBack said most (o ∷ []) = BringsBack said most o
BringBack said most (m ∷ o ∷ []) = LendsAll said m × BringsBack said most o
BringBack said most (m ∷ o ∷ p ∷ os) = ⊥

module _ {A Q R : Type 0} (said : Item → Item) (s : WireFormat Item A Q R) where
  -- what is written answers this packet, and brings back no more page words than came with it
  pub record AnswersTo (p : Item) (o : Written) : Type 0 where
    pub waits : s.waits p ≡ true
    pub is_answer : s.is_answer (said (item_on o)) ≡ true
    pub same : s.id_of (said (item_on o)) ≡ s.id_of p
    pub brings : BringsBack said (length p.words) o

  -- what is written is a message of this end's own, which such a channel may have. Under an id from 1 to 64 it lends the page of that id, which stands behind the 64 of the guest, or none
  pub record TellsOwn (besides : Bool) (o : Written) : Type 0 where
    pub may : besides ≡ true
    pub message : s.is_message (said (item_on o)) ≡ true
    pub own : (l : LentBytes) → 1 ≤ id_of o.packet → id_of o.packet ≤ 64 → lent_of o.packet ≡ Some l → l.page ≡ 63 + id_of o.packet
    pub lends : LendsAll said o

  -- what goes back for a packet: nothing, or the answer, or a message and then the answer
  abbrev pub GoesBack : Bool → Item → List Written → Type 0
  GoesBack besides p [] = Unit {0}
  GoesBack besides p (o ∷ []) = AnswersTo p o
  GoesBack besides p (m ∷ o ∷ []) = TellsOwn besides m × AnswersTo p o
  GoesBack besides p (m ∷ o ∷ q ∷ os) = ⊥

  -- what is written goes back for the last of these packets
  pub record GoesLast (besides : Bool) (served : List Item) (os : List Written) : Type 0 where
    pub before : List Item
    pub packet : Item
    pub last : served ≡ before ++ packet ∷ []
    pub back : GoesBack besides packet os

  abbrev pub GoBackLast : Bool → List Item → List Written → Type 0
  GoBackLast besides served [] = Unit {0}
  GoBackLast besides served (o ∷ os) = GoesLast besides served (o ∷ os)

-- a message of this end's own is open under an id: it was sent, and isn't acknowledged
abbrev pub is_own_open : {A Q R : Type 0} → WireFormat Item A Q R → List (Event Item) → ℕ → Bool
is_own_open s past id = is_in id (own_open s past)

-- what a seat tells of its end keeps to the rule of the pages
abbrev pub TellsLawful : {E : Type 0} → (E → Option Told) → Type 0
TellsLawful {E} told = (e : E) (u : Told) → told e ≡ Some u → Lawfully u.state

-- A worker whose protocol lends no pages has none, and brings back none. One whose protocol does has some, at the host's end, with as many as both ends have at most where messages go back besides the answers;
-- it stands at a seat that tells its end's state, by the rule of the pages; what it owes goes back for the packet that it served last; and of each id of its own messages it has the page, or has lent it
-- under that id, which is open
pub record HasPages {T S E A Q R : Type 0} (told : E → Option Told) (said : Item → Item) (s : WireFormat Item A Q R) (lends besides : Bool) (w : Serving T S E Q R) : Type 0 where
  pub none : lends ≡ false → w.end.end.state.pages.count ≡ 0
  pub bare : lends ≡ false → AreBare w.responder.sheets
  pub some : lends ≡ true → w.end.end.state.pages.count ≢ 0
  pub host : lends ≡ true → w.end.end.state.machine.side ≡ Host
  pub enough : lends ≡ true → besides ≡ true → 128 ≤ w.end.end.state.pages.count
  pub tells : lends ≡ true → is_some (told w.end.seat) ≡ true
  pub lawful : lends ≡ true → TellsLawful told
  pub goes : lends ≡ true → GoBackLast said s besides (take w.served w.end.state.got) w.responder.sheets
  pub home : lends ≡ true → HasHome (is_own_open s w.end.state.past) w.end.end.state
