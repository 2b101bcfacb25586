-- Why a worker's turn moved, or left its end asleep: what the turn itself did.
use Rattle.page_kept.specs.declared.item.Item.{Item}
use Rattle.std.specs.Prelude.{◌≡◌, ◌⊎◌, true, false, List, ◌∷◌, Option}
use Rattle.channel_trace.specs.declared.event.Event.{Event}
use Rattle.channel_trace.specs.declared.event.Event.TheVariants.{Sent, Got, Saw}
use Rattle.ring_machine.specs.declared.machine.Ending.{Ending}
use Rattle.ring_machine.specs.declared.machine.Ending.TheVariants.{FellAsleep as ArmFellAsleep, FoundWork as ArmFoundWork, NoSignal, Woke}
use Rattle.ring_machine.specs.Endings.{is_dozed}
use Rattle.ring_core.specs.declared.told.Told.{Told}
use Rattle.ring_core.specs.Told.{Tale}
use Rattle.worker_port.specs.Line.{Line, PolledOnce}
use Rattle.worker_port.specs.declared.ended.Turn.{Turn}
use Rattle.worker_port.specs.declared.ended.Turn.TheVariants.{Moved, Idle, Ended as TurnEnded}

-- after this past the end took one packet
abbrev pub HasTaken : {S : Type 0} → List (Event Item) → Line S → Type 0
HasTaken before e = (p : Item) × (e.state.past ≡ Got p ∷ before)

-- after this past the end sent one packet
abbrev pub HasSent : {S : Type 0} → List (Event Item) → Line S → Type 0
HasSent before e = (p : Item) × (e.state.past ≡ Sent p ∷ before)

-- after this past the looks of an arm found something, maybe the other end's mark
pub record FoundWork {S : Type 0} (before : List (Event Item)) (e : Line S) : Type 0 where
  pub ended : e.state.machine.ended ≡ ArmFoundWork
  pub awake : e.state.machine.asleep ≡ false
  pub past : (e.state.past ≡ before) ⊎ (e.state.past ≡ Saw ∷ before)

-- after this past the looks of an arm found nothing
pub record FellAsleep {S : Type 0} (before : List (Event Item)) (e : Line S) : Type 0 where
  pub ended : e.state.machine.ended ≡ ArmFellAsleep
  pub asleep : e.state.machine.asleep ≡ true
  pub past : e.state.past ≡ before

-- the end was asleep, and one exchange of its signal ended so
pub record Polled {S : Type 0} (told : S → Option Told) (tale : S → Tale) (how : Ending) (old new : Line S) : Type 0 where
  pub once : PolledOnce told tale old new
  pub ended : new.state.machine.ended ≡ how
  pub asleep : new.state.machine.asleep ≡ is_dozed how
  pub past : new.state.past ≡ old.state.past

-- a turn of an end that is asleep exchanges its signal once, and moves where that was up
abbrev pub Polls : {S : Type 0} → (S → Option Told) → (S → Tale) → Turn → Line S → Line S → Type 0
Polls told tale Moved old new = Polled told tale Woke old new
Polls told tale Idle old new = Polled told tale NoSignal old new
Polls told tale (TurnEnded how) old new = ⊥

-- a turn that arms after this past moves where its looks found something
abbrev pub Arms : {S : Type 0} → Turn → List (Event Item) → Line S → Type 0
Arms Moved before e = FoundWork before e
Arms Idle before e = FellAsleep before e
Arms (TurnEnded how) before e = ⊥
