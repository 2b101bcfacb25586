-- Why a turn of the asking worker moved, or left the end asleep: what the turn itself did.
use Rattle.page_kept.specs.declared.item.Item.{Item}
use Rattle.worker_port.specs.Line.{Line}
use Rattle.std.specs.Prelude.{◌≡◌, ◌⊎◌, true, false, List, ◌∷◌, Option}
use Rattle.channel_trace.specs.declared.event.Event.{Event}
use Rattle.channel_trace.specs.declared.event.Event.TheVariants.{Empty}
use Rattle.ring_core.specs.declared.told.Told.{Told}
use Rattle.ring_core.specs.Told.{Tale}
use Rattle.worker_port.specs.Causes.{FellAsleep, FoundWork, HasSent, HasTaken, Polls}
use Rattle.worker_port.specs.declared.ended.Turn.{Turn}
use Rattle.worker_port.specs.declared.ended.Turn.TheVariants.{Moved, Idle, Ended as TurnEnded}
use Rattle.worker_requester.specs.declared.requester.Asked.{Asked}
use Rattle.worker_requester.specs.declared.requester.Asked.TheVariants.{Sent as AskedSent, Held as AskedHeld, Lacks as AskedLacks, Broken as AskedBroken}

-- the next packet was sent after this past, or nothing was done
abbrev pub AsksOne : {S : Type 0} → Asked → List (Event Item) → Line S → Type 0
AsksOne AskedSent before e = HasSent before e
AsksOne (AskedHeld hold) before e = e.state.past ≡ before
AsksOne (AskedLacks packets words) before e = e.state.past ≡ before
AsksOne AskedBroken before e = e.state.past ≡ before

-- a turn that sends the next packet after this past, what acknowledges a message or a request, or arms
abbrev pub AsksOrArms : {S : Type 0} → Turn → List (Event Item) → Line S → Type 0
AsksOrArms Moved before e = HasSent before e ⊎ FoundWork before e
AsksOrArms Idle before e = FellAsleep before e
AsksOrArms (TurnEnded how) before e = Unit {0}

-- a turn of the asking worker, awake, after this past: it took a packet; or none came, and it sent the next packet, or armed
abbrev pub AskerActs : {S : Type 0} → Turn → List (Event Item) → Line S → Type 0
AskerActs Moved before e = HasTaken before e ⊎ AsksOrArms Moved (Empty ∷ before) e
AskerActs Idle before e = AsksOrArms Idle (Empty ∷ before) e
AskerActs (TurnEnded how) before e = Unit {0}

-- why a turn of the asking worker went so: where the end was asleep, the exchange of its signal; where it was awake, what it did
pub record AskCause {S : Type 0} (told : S → Option Told) (tale : S → Tale) (turn : Turn) (old new : Line S) : Type 0 where
  pub asleep : old.state.machine.asleep ≡ true → Polls told tale turn old new
  pub awake : old.state.machine.asleep ≡ false → AskerActs turn old.state.past new
