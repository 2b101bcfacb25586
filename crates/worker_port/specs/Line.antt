-- One end of a channel, as its worker sees it.
use Rattle.std.specs.Prelude.{ℕ, zero, suc, ◌≡◌, ◌≢◌, ◌<◌, ◌≤◌, ◌+◌, ◌*◌, ◌==◌, ◌⊎◌, Bool, true, false, cond, List, [], ◌∷◌, ◌++◌, length, map, slice_get, Option, Some, None, is_some, Result, Ok, Err}
use Rattle.channel_trace.specs.declared.event.Event.{Event}
use Rattle.channel_trace.specs.declared.event.Event.TheVariants.{Sent, Got, Empty, Saw}
use Rattle.channel_trace.specs.Runs.{IsFront, sent_of, got_of, has_marked}
use Rattle.channel_trace.specs.Filled.{filled}
use Rattle.page_kept.specs.declared.item.Item.{Item}
use Rattle.page_kept.specs.Items.{item_of, packets as packets_of}
use Rattle.page_kept.specs.Kept.{lent_words, pages_sent}
use Rattle.page_kept.specs.Layouts.{layout}
use Rattle.page_kept.specs.declared.kept.Kept.{Kept}
use Rattle.page_kept.specs.declared.owner.Owner.{Owner}
use Rattle.ring_machine.specs.declared.machine.Stage.TheVariants.{Idle, Stopped}
use Rattle.ring_machine.specs.declared.last.Armed.{Armed}
use Rattle.ring_machine.specs.declared.last.Armed.TheVariants.{Asleep, Work as ArmedWork}
use Rattle.ring_machine.specs.declared.machine.Ending.{Ending}
use Rattle.ring_machine.specs.declared.machine.Ending.TheVariants.{FellAsleep, FoundWork, NoSignal, Woke}
use Rattle.ring_machine.specs.declared.machine.EndMachine.{EndMachine}
use Rattle.ring_machine.specs.declared.state.EndState.{EndState}
use Rattle.ring_machine.specs.declared.last.Why.{Why}
use Rattle.ring_machine.specs.Endings.{want_of, why_of}
use Rattle.ring_core.specs.declared.room.Room.{Room}
use Rattle.ring_core.specs.Laying.{laid}
use Rattle.ring_core.specs.Pages.{IsClear, along, first_kept, last_words}
use Rattle.ring_core.specs.Seen.{Seen}
use Rattle.ring_end_history.specs.Calls.{Came}
use Rattle.ring_machine.specs.States.{IsPacket, MayLend, resting, resting_with}
use Rattle.ring_machine.specs.Steps.{is_busy_at, machine_new, poll_begun}
use Rattle.io_edge.specs.declared.side.Side.{Side}
use Rattle.ring_core.specs.declared.told.Told.{Told}
use Rattle.ring_core.specs.Told.{MakesSteps, Tale}
use Rattle.ring_machine.specs.declared.last.Signalled.{Signalled}
use Rattle.ring_machine.specs.declared.last.SendRefusal.{SendRefusal}
use Rattle.ring_machine.specs.declared.last.SendRefusal.TheVariants.{Full as SendFull}
use Rattle.ring_machine.specs.declared.last.TakeRefusal.{TakeRefusal}
use Rattle.ring_machine.specs.declared.last.TakeRefusal.TheVariants.{Empty as TakeEmpty}
use Rattle.worker_port.specs.declared.found.Tried.{Tried}
use Rattle.worker_port.specs.declared.found.Tried.TheVariants.{Sent as TriedSent, Full as TriedFull, Broken as TriedBroken}
use Rattle.worker_port.specs.declared.found.Found.{Found}
use Rattle.worker_port.specs.declared.found.Found.TheVariants.{Packet as FoundPacket, Nothing as FoundNothing, Broken as FoundBroken}
use Rattle.worker_port.specs.declared.port.ArmResult.{ArmResult}
use Rattle.worker_port.specs.declared.port.ArmResult.TheVariants.{Nothing, Work, Mark}

-- a new end of a channel whose rings have n cells
abbrev pub new_end : ℕ → Side → EndState
new_end n x = resting (machine_new x n) [] [] []

-- and one that has c data pages besides
abbrev pub paged_end : ℕ → ℕ → Side → EndState
paged_end c n x = resting_with (machine_new x n) [] [] [] (first_kept x c)

-- packets, each with the page words that it has in these items: none past the items
abbrev pub whole : List (List ℕ) → List Item → List Item
whole [] is = []
whole (p ∷ ps) [] = item_of p [] ∷ whole ps []
whole (p ∷ ps) (i ∷ is) = i ∷ whole ps is

-- what an end got with page words is the front of what the other one sent
abbrev pub GotItems : EndState → EndState → Type 0
GotItems e other = IsFront (whole e.got e.pages.got) (whole other.sent other.pages.sent)

-- what an end did and got, in items as they are read
unfoldable pub past_as : (Item → Item) → EndState → List (Event Item)
past_as f e = filled (λ p. f (item_of p [])) (map f (whole e.sent e.pages.sent)) (map f (whole e.got e.pages.got)) e.past

unfoldable pub got_as : (Item → Item) → EndState → List Item
got_as f e = map f (whole e.got e.pages.got)

-- the page words of the item at a place: none past the items
abbrev pub words_of : Option Item → List ℕ
words_of None = []
words_of (Some i) = i.words

unfoldable pub words_at : List Item → ℕ → List ℕ
words_at is i = words_of (slice_get is i)

-- no page is held with more words than it has
abbrev pub AreFew : List Owner → Type 0
AreFew [] = Unit {0}
AreFew (o ∷ os) = (lent_words o ≤ 512) × AreFew os

-- a channel of c data pages has the words of a whole page with each of n packets, and a place for them; one without has none
abbrev pub page_words : ℕ → ℕ → ℕ
page_words zero n = 0
page_words (suc c) n = 512 * n

abbrev pub page_places : ℕ → ℕ → ℕ
page_places zero n = 0
page_places (suc c) n = n

-- what a worker sees of its end's state
pub record LineState : Type 0 where
  pub machine : EndMachine
  pub past : List (Event Item)
  pub got : List Item

-- an end, and what it did and got in items as they are read
pub record Line (S : Type 0) : Type 0 where
  pub end : Seen S
  pub state : LineState
  pub seat : S
  pub spare_sent : Room
  pub spare_got : Room

abbrev pub line_of : {S : Type 0} → (Item → Item) → Seen S → Line S
line_of f e = record { end = e; state = record { machine = e.state.machine; past = past_as f e.state; got = got_as f e.state }; seat = e.seat; spare_sent = e.spare_sent; spare_got = e.spare_got }

-- No page word is to be loaded: each packet that was sent or got has its page words, at most those of a page, and none in a channel without data pages
pub record HasItems (e : EndState) : Type 0 where
  pub clear : IsClear e.pages
  pub items : e.pages.count ≢ 0 → (packets_of e.pages.sent ≡ e.sent) × (packets_of e.pages.got ≡ e.got)
  pub none : e.pages.count ≡ 0 → (e.pages.sent ≡ []) × (e.pages.got ≡ [])
  pub few : (i : ℕ) → length (words_at e.pages.got i) ≤ 512
  pub held : AreFew e.pages.owners
  pub listed : length e.pages.owners ≡ e.pages.count

-- Between two calls of a worker: the list of what was got is that of the end's past, the cells of each packet in it were given back, and each packet has its page
-- words. No call is under way; where the end sleeps, or the seat tells the end's state, the end isn't stopped
pub record IsLine {S : Type 0} (told : S → Option Told) (e : Seen S) : Type 0 where
  pub rests : is_busy_at e.state.machine.stage ≡ false
  pub dozes : e.state.machine.asleep ≡ true → e.state.machine.stage ≡ Idle
  pub honest : is_some (told e.seat) ≡ true → e.state.machine.stage ≡ Idle
  pub sent : sent_of e.state.past ≡ e.state.sent
  pub got : got_of e.state.past ≡ e.state.got
  pub packets : (i : ℕ) (p : List ℕ) → slice_get e.state.got i ≡ Some p → IsPacket p
  pub committed : e.state.machine.start ≡ e.state.machine.read
  pub mark : e.state.machine.marked ≡ has_marked e.state.past
  pub size : (512 ≤ e.state.machine.cells) × (e.state.machine.cells ≤ 16777216)
  pub pages : HasItems e.state

-- An end came from a new one by whole calls alone: all that it did to the channel's words are their steps, and all that its seat heard since is what these answered
pub record CameNew {S : Type 0} (tale : S → Tale) (e : Seen S) : Type 0 where
  pub first : Seen S
  pub new : first.state ≡ paged_end first.state.pages.count first.state.machine.cells first.state.machine.side
  pub came : Came tale first e

-- what holds of a worker's end between two calls, and where it came from
pub record IsPort {S : Type 0} (told : S → Option Told) (tale : S → Tale) (e : Seen S) : Type 0 where
  pub line : IsLine told e
  pub came : CameNew tale e

-- the page words that go along with a packet behind a store of these: none in a channel without data pages
abbrev pub words_sent : Kept → List ℕ → List ℕ → List ℕ
words_sent k p words = cond (k.count == 0) [] (last_words (pages_sent (layout k.count) (laid k p words) p).sent)

-- the item that a send of this packet keeps, behind a store of these page words
unfoldable pub item_sent : {S : Type 0} → Line S → List ℕ → List ℕ → Item
item_sent e p words = item_of p (words_sent e.end.state.pages p words)

-- these page words may be stored for a packet that may be sent, as far as the pages go: there is a part of a page for them, that goes along with it
pub record CanLay {S : Type 0} (e : Seen S) (p words : List ℕ) : Type 0 where
  pub may : MayLend e.state p
  pub fits : length words ≤ along e.state.pages p

-- it can begin a call
pub record IsReady {S : Type 0} (e : Line S) : Type 0 where
  pub idle : e.state.machine.stage ≡ Idle
  pub awake : e.state.machine.asleep ≡ false
  pub unmarked : e.state.machine.marked ≡ false

-- a call that it made loaded a value that breaks the rings' rules: it makes no step any more
pub record IsBroken {S : Type 0} (e : Line S) : Type 0 where
  pub stopped : e.state.machine.stage ≡ Stopped
  pub awake : e.state.machine.asleep ≡ false
  pub unmarked : e.state.machine.marked ≡ false

-- and that is why
pub record BrokeFor {S : Type 0} (why : Why) (e : Line S) : Type 0 where
  pub broken : IsBroken e
  pub cause : why ≡ why_of e.state.machine

-- after a send, and after a take
abbrev pub Tries : {S : Type 0} → Tried → Line S → Type 0
Tries TriedSent e = IsReady e
Tries TriedFull e = IsReady e
Tries TriedBroken e = IsBroken e

abbrev pub Finds : {S : Type 0} → Found → Line S → Type 0
Finds FoundPacket e = IsReady e
Finds FoundNothing e = IsReady e
Finds FoundBroken e = IsBroken e

-- what became of a packet, by the answer of the send
abbrev pub tried_of : Result Signalled SendRefusal → Tried
tried_of (Ok how) = TriedSent
tried_of (Err (SendFull free need)) = TriedFull
tried_of (Err why) = TriedBroken

-- what a take found, by its refusal
abbrev pub found_of : Option TakeRefusal → Found
found_of None = FoundPacket
found_of (Some (TakeEmpty at)) = FoundNothing
found_of (Some why) = FoundBroken

abbrev pub has_packet : Found → Bool
has_packet FoundPacket = true
has_packet FoundNothing = false
has_packet FoundBroken = false

-- what a send adds to the past
abbrev pub past_tried : Tried → Item → List (Event Item) → List (Event Item)
past_tried TriedSent i past = Sent i ∷ past
past_tried TriedFull i past = past
past_tried TriedBroken i past = past

-- a later state of one and the same end, of a channel with the same number of data pages
pub record IsSameEnd {S C : Type 0} (channel : S → C) (old new : Seen S) : Type 0 where
  pub seat : channel new.seat ≡ channel old.seat
  pub side : new.state.machine.side ≡ old.state.machine.side
  pub pages : new.state.pages.count ≡ old.state.pages.count

-- one and the same end, with the same cells
pub record Stays {S C : Type 0} (channel : S → C) (told : S → Option Told) (old new : Line S) : Type 0 where
  pub tells : is_some (told new.seat) ≡ is_some (told old.seat)
  pub same : IsSameEnd channel old.end new.end
  pub cells : new.state.machine.cells ≡ old.state.machine.cells
  pub side : new.state.machine.side ≡ old.state.machine.side

-- a packet was taken, or none waited, or what stood there was refused
abbrev pub TookOne : Found → LineState → LineState → Type 0
TookOne FoundPacket old new = (i : Item) × (new.past ≡ Got i ∷ old.past) × (new.got ≡ old.got ++ i ∷ []) × IsPacket i.packet
TookOne FoundNothing old new = (new.past ≡ Empty ∷ old.past) × (new.got ≡ old.got)
TookOne FoundBroken old new = (new.past ≡ old.past) × (new.got ≡ old.got)

-- what the looks of an arm add to the past
abbrev pub looked : ArmResult → List (Event Item) → List (Event Item)
looked Nothing past = past
looked Work past = past
looked Mark past = Saw ∷ past

-- what an arm found, by its answer and whether it saw the mark
abbrev pub look_of : Armed → Bool → ArmResult
look_of Asleep saw = Nothing
look_of ArmedWork true = Mark
look_of ArmedWork false = Work

abbrev pub is_asleep : ArmResult → Bool
is_asleep Nothing = true
is_asleep Work = false
is_asleep Mark = false

-- how the arm ended that found so
abbrev pub armed_by : ArmResult → Ending
armed_by Nothing = FellAsleep
armed_by Work = FoundWork
armed_by Mark = FoundWork

-- how the exchange of the signal ended, which was up or down
abbrev pub polled_by : Bool → Ending
polled_by true = Woke
polled_by false = NoSignal

-- its signal was exchanged once
abbrev pub PolledOnce : {S : Type 0} → (S → Option Told) → (S → Tale) → Line S → Line S → Type 0
PolledOnce told tale old new = MakesSteps told tale (poll_begun old.end.state.machine) [] old.end new.end

-- it is asleep, and waits for this room
pub record SleepsFor {S : Type 0} (want : Option ℕ) (e : Line S) : Type 0 where
  pub asleep : e.state.machine.asleep ≡ true
  pub want_is : e.state.machine.want ≡ want_of want

-- the next packet lacks the room of the list of what was got
pub record LacksTake {S : Type 0} (packets words : ℕ) (e : Line S) : Type 0 where
  pub packets_is : packets ≡ e.spare_got.packets
  pub words_is : words ≡ e.spare_got.words
  pub lacks : (packets ≡ 0) ⊎ (words < e.state.machine.cells + page_words e.end.state.pages.count 1)

abbrev pub HasTakeRoom : {S : Type 0} → Line S → Type 0
HasTakeRoom e = (0 < e.spare_got.packets) × (e.state.machine.cells + page_words e.end.state.pages.count 1 ≤ e.spare_got.words)
