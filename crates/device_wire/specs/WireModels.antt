-- One kind of device on its channel.
use Rattle.std.specs.Prelude.{ℕ, zero, suc, ◌≡◌, ◌≤◌, Bool, true, false, List, [], map, length, Option, Some, None}
use Rattle.page_kept.specs.declared.item.Item.{Item}
use Rattle.pkt_desc.specs.Packets.{id_of}
use Rattle.channel_model.specs.WireFormat.{WireFormat, Keeps}
use Rattle.channel_model.specs.Amounts.{MayHaveMessages}
use Rattle.channel_protocol.specs.Paged.{KeepsPages}
use Rattle.device_wire.specs.declared.buffer_lists.BufferLists.{BufferLists}
use Rattle.device_wire.specs.declared.want.Want.{Want}
use Rattle.device_wire.specs.declared.want.Want.TheVariants.{Step, Request}
use Rattle.device_wire.specs.Codecs.{Codec, format_by}

-- S are the steps of its start-up, Q the device's requests, R its replies
pub record WireModel (S Q R : Type 0) : Type 0 where
  -- what its packets say
  pub format : WireFormat Item (Want S Q) Q R
  -- messages may go back besides the answers
  pub besides : Bool
  -- packets lend data pages of the channel
  pub lends : Bool
  -- the start-up of the first channel, where so many channels are beside it, and with these page lists
  pub steps : ℕ → BufferLists → List S
  -- a step has an answer
  pub answered : S → Bool
  -- what the device is asked where the script asks this under an id
  pub asked_as : ℕ → Q → Q
  -- the reply that an answer says, with the message that came just before it, if one did
  pub reply_in : Option Item → Item → Option R

-- The start-up of a channel, which has this number among its device's channels: a sub-channel has none
abbrev pub startup_in : {S Q R : Type 0} → WireModel S Q R → ℕ → ℕ → BufferLists → List (Want S Q)
startup_in m zero subs lists = map Step (m.steps subs lists)
startup_in m (suc n) subs lists = []

-- What a kind keeps to, whose requests can be asked where `Can` holds
pub record KeepsWire {S Q R : Type 0} (m : WireModel S Q R) (Can : Q → Type 0) : Type 0 where
  pub keeps : Keeps m.format
  pub may : MayHaveMessages m.format m.besides
  pub paged : m.lends ≡ true → KeepsPages m.format
  -- the id is that of the descriptor
  pub ids : (i : Item) → m.format.id_of i ≡ id_of i.packet
  -- a start-up has few steps, and as many with and without answers whatever page lists it tells; what goes back for a step is fixed
  pub few : (subs : ℕ) (lists : BufferLists) → length (m.steps subs lists) ≤ 5
  pub same : (subs : ℕ) (lists others : BufferLists) → map m.answered (m.steps subs lists) ≡ map m.answered (m.steps subs others)
  pub fixed : (id : ℕ) (s : S) → m.format.read (m.format.encode id (Step s)) ≡ None
  pub waits : (s : S) → m.format.has_answer (Step s) ≡ m.answered s
  -- a request that can be asked asks the device, and an answer to it says what it says whatever was asked
  pub asked : (id : ℕ) (q : Q) → Can q → m.format.read (m.format.encode id (Request q)) ≡ Some (m.asked_as id q)
  pub says : (q : Q) (before : Option Item) (i : Item) → Can q → m.format.result (Request q) before i ≡ m.reply_in before i

-- a kind where one packet answers each request and each step, and the device is asked what the script asks
abbrev pub codec_model : {S Q R : Type 0} → Codec Item (Want S Q) Q R → Bool → (ℕ → BufferLists → List S) → WireModel S Q R
codec_model x lends steps = record {
  format = format_by x;
  besides = false;
  lends = lends;
  steps = steps;
  answered = λ s. true;
  asked_as = λ id q. q;
  reply_in = λ before i. x.said i;
}
