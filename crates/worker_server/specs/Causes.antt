-- Why a turn of the serving worker moved, or left the end asleep: what the turn itself did.
use Rattle.page_kept.specs.declared.item.Item.{Item}
use Rattle.worker_port.specs.Line.{Line}
use Rattle.std.specs.Prelude.{◌≡◌, ◌⊎◌, true, false, List, ◌∷◌, Option}
use Rattle.channel_trace.specs.declared.event.Event.{Event}
use Rattle.channel_trace.specs.declared.event.Event.TheVariants.{Empty}
use Rattle.ring_core.specs.declared.told.Told.{Told}
use Rattle.ring_core.specs.Told.{Tale}
use Rattle.worker_port.specs.Causes.{FellAsleep, FoundWork, HasSent, HasTaken, Polls}
use Rattle.worker_port.specs.declared.ended.Turn.{Turn}
use Rattle.worker_port.specs.declared.ended.Turn.TheVariants.{Moved, Idle, Ended as TurnEnded}
use Rattle.worker_server.specs.declared.put.Given.{Given}
use Rattle.worker_server.specs.declared.put.Given.TheVariants.{Sent as GivenSent, Full as GivenFull, Lacks as GivenLacks, Broken as GivenBroken}

-- a packet that is owed was sent after this past, or nothing was done
abbrev pub GivesOne : {S : Type 0} → Given → List (Event Item) → Line S → Type 0
GivesOne GivenSent before e = HasSent before e
GivesOne GivenFull before e = e.state.past ≡ before
GivesOne (GivenLacks packets words) before e = e.state.past ≡ before
GivesOne GivenBroken before e = e.state.past ≡ before

-- a turn that takes a packet after this past; or none came, and it arms
abbrev pub TakesOrArms : {S : Type 0} → Turn → List (Event Item) → Line S → Type 0
TakesOrArms Moved before e = HasTaken before e ⊎ FoundWork (Empty ∷ before) e
TakesOrArms Idle before e = FellAsleep (Empty ∷ before) e
TakesOrArms (TurnEnded how) before e = Unit {0}

-- a turn that sends what is owed after this past, or ends
abbrev pub GivesLast : {S : Type 0} → Turn → List (Event Item) → Line S → Type 0
GivesLast Moved before e = HasSent before e
GivesLast Idle before e = ⊥
GivesLast (TurnEnded how) before e = Unit {0}

-- a turn of the serving worker, awake, after this past: it sent what is owed; or took a packet; or none came, and it sent what is owed, or armed
abbrev pub GivesOrTakes : {S : Type 0} → Turn → List (Event Item) → Line S → Type 0
GivesOrTakes Moved before e = (HasSent before e ⊎ HasSent (Empty ∷ before) e) ⊎ TakesOrArms Moved before e
GivesOrTakes Idle before e = TakesOrArms Idle before e
GivesOrTakes (TurnEnded how) before e = Unit {0}

-- why a turn of the serving worker went so
pub record ServeCause {S : Type 0} (told : S → Option Told) (tale : S → Tale) (turn : Turn) (old new : Line S) : Type 0 where
  pub asleep : old.state.machine.asleep ≡ true → Polls told tale turn old new
  pub awake : old.state.machine.asleep ≡ false → GivesOrTakes turn old.state.past new
