-- When a call of an end can be made, by what its guards look at.
use Rattle.std.specs.Prelude.{◌≡◌, ◌≢◌, ◌⊎◌, ◌+◌, ◌<◌, ◌≤◌, false, List, [], ◌∷◌, ◌++◌, ℕ, length, Option, None}
use Rattle.page_kept.specs.Keepers.{MayStore}
use Rattle.page_kept.specs.Layouts.{layout}
use Rattle.page_kept.specs.declared.due.Due.TheVariants.{Clear}
use Rattle.ring_core.specs.Seen.{Seen}
use Rattle.ring_core.specs.Told.{Tale}
use Rattle.ring_core.specs.declared.told.Told.{Told}
use Rattle.ring_core.specs.Driven.{Driven, IsAwakeEnd, broken, MakesSteps}
use Rattle.ring_machine.specs.States.{IsPacket, MayLend}
use Rattle.ring_machine.specs.Steps.{send_begun, take_begun}
use Rattle.ring_machine.specs.declared.machine.EndMachine.{EndMachine}
use Rattle.ring_machine.specs.declared.machine.Stage.TheVariants.{Idle}

-- an end isn't stopped, asleep or marked
pub record IsReady (m : EndMachine) : Type 0 where
  pub idle : m.stage ≡ Idle
  pub awake : m.asleep ≡ false
  pub unmarked : m.marked ≡ false

module _ {S : Type 0} where
  -- a packet can be sent in a channel without data pages: it fits into the ring, and the end's list has room for it
  pub record CanSend (end : Seen S) (p : List ℕ) : Type 0 where
    pub ready : IsReady end.state.machine
    pub bare : end.state.pages.count ≡ 0
    pub packet : IsPacket p
    pub fits : length p + 1 < end.state.machine.cells
    pub place : 0 < end.spare_sent.packets
    pub room : length p ≤ end.spare_sent.words

  -- a packet can be taken in such a channel: the list has room for the longest one
  pub record CanTake (end : Seen S) : Type 0 where
    pub ready : IsReady end.state.machine
    pub bare : end.state.pages.count ≡ 0
    pub clear : end.state.pages.due ≡ Clear
    pub place : 0 < end.spare_got.packets
    pub room : end.state.machine.cells ≤ end.spare_got.words

  -- a word can be stored into a data page
  pub record CanStore (end : Seen S) (page word : ℕ) : Type 0 where
    pub ready : IsReady end.state.machine
    pub may : MayStore (layout end.state.pages.count) end.state.machine.side end.state.pages page word

  -- a packet can be sent that lends a page: the list has room for it and a whole page
  pub record CanLend (end : Seen S) (p : List ℕ) : Type 0 where
    pub awake : end.state.machine.asleep ≡ false
    pub unmarked : end.state.machine.marked ≡ false
    pub packet : IsPacket p
    pub fits : length p + 1 < end.state.machine.cells
    pub lends : MayLend end.state p
    pub place : 0 < end.spare_sent.packets
    pub room : length p + 512 ≤ end.spare_sent.words

  -- an end of a driver can make each call but a poll
  pub record IsFree (end : Driven S) : Type 0 where
    pub awake : IsAwakeEnd end.state
    pub whole : broken end.state ≡ None

-- both ends are free, and the packet fits into the ring of the one that sends
pub record CanPass {S T : Type 0} (from : Driven S) (to : Driven T) (p : List ℕ) : Type 0 where
  pub sender : IsFree from
  pub taker : IsFree to
  pub packet : IsPacket p
  pub few : length p ≤ 8192
  pub fits : length p + 1 < from.state.machine.cells

-- what the steps of a send, or of a take, left of an end, where no packet went, or none came
abbrev pub SendRefused : {S : Type 0} → (S → Option Told) → (S → Tale) → Driven S → Driven S → List ℕ → Type 0
SendRefused told tale old new p = (new.state.sent ≡ old.state.sent) × MakesSteps told tale (send_begun old.state.machine (length p)) p old new

abbrev pub TakeRefused : {S : Type 0} → (S → Option Told) → (S → Tale) → Driven S → Driven S → Type 0
TakeRefused told tale old new = (new.state.got ≡ old.state.got) × MakesSteps told tale (take_begun old.state.machine) [] old new

-- why a packet didn't pass: the send was refused; or it went, and the take was refused, or took other words
abbrev pub FailsToPass : {S T : Type 0} → (S → Option Told) → (S → Tale) → (T → Option Told) → (T → Tale) → Driven S → Driven S → Driven T → Driven T → List ℕ → Type 0
FailsToPass told tale told' tale' from from' to to' p =
    SendRefused told tale from from' p ⊎ ((from'.state.sent ≡ from.state.sent ++ p ∷ []) × (TakeRefused told' tale' to to' ⊎ ((to'.state.got ≡ to.state.got ++ to'.taken ∷ []) × (to'.taken ≢ p))))
