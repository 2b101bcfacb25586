-- What C sees of an end and of its steps.
use Rattle.std.specs.Prelude.{◌≡◌, ◌⊎◌, ℕ, ◌*◌, ◌<◌, ◌≤◌, true, false}
use Rattle.ring_machine.specs.declared.machine.EndMachine.{EndMachine}
use Rattle.ring_machine.specs.declared.machine.Stage.TheVariants.{Idle}
use Rattle.ring_machine.specs.Steps.{IsSound}
use Rattle.ring_machine.specs.declared.place.Ring.{Ring}
use Rattle.ring_machine.specs.declared.place.Ring.TheVariants.{ToHost, ToGuest}
use Rattle.ring_machine.specs.declared.place.Place.{Place}
use Rattle.ring_machine.specs.declared.place.Place.TheVariants.{Write, Read, Mask, Pending, Feature, Cell, Signal, Mark, Page}
use Rattle.ring_machine.specs.declared.place.Op.{Op}
use Rattle.ring_machine.specs.declared.place.Op.TheVariants.{Load, Store, Raise, TakeSignal, StoreMark}
use Rattle.vmbus_ring_c.specs.declared.end.VmbusEnd.{VmbusEnd}
use Rattle.vmbus_ring_c.specs.declared.step.VmbusStep.{VmbusStep}
use Rattle.vmbus_ring_c.specs.Numbers.{machine_by, number_of_side, is_set}

abbrev pub machine_of : VmbusEnd → EndMachine
machine_of e = machine_by e.cells e.write e.read e.start e.before e.seen e.len e.done e.value e.want e.room e.words e.side e.stage e.ended (is_set e.masked) (is_set e.asleep) (is_set e.marked) (is_set e.peer_marked) (is_set e.drained) (is_set e.saw)

-- the numbers are those of an end: there is such a step, and the steps of an end can make such a machine
abbrev pub IsEnd : VmbusEnd → Type 0
IsEnd e = (e.stage < 29) × IsSound (machine_of e)

-- An end that can begin a call other than a poll: it isn't stopped, asleep, marked or inside a call
pub record CanBegin (e : VmbusEnd) : Type 0 where
  pub is_end : IsEnd e
  pub idle : (machine_of e).stage ≡ Idle
  pub awake : (machine_of e).asleep ≡ false
  pub unmarked : (machine_of e).marked ≡ false

-- an end that can begin a poll
pub record CanPoll (e : VmbusEnd) : Type 0 where
  pub is_end : IsEnd e
  pub idle : (machine_of e).stage ≡ Idle
  pub asleep : (machine_of e).asleep ≡ true

-- the room that an arm may wait for: none, or 24 bytes or more, and less than a ring has
abbrev pub MayWant : VmbusEnd → ℕ → Type 0
MayWant e want = (want ≡ 0) ⊎ ((24 ≤ want) × (want < 8 * e.cells))

-- the numbers are those of an end with this machine
abbrev pub IsEndOf : EndMachine → VmbusEnd → Type 0
IsEndOf m e = IsEnd e × (machine_of e ≡ m)

abbrev pub number_of_ring : Ring → ℕ
number_of_ring ToHost = 0
number_of_ring ToGuest = 1

-- a step on a place of a ring, or of an end
abbrev pub step_at : ℕ → Place → ℕ → VmbusStep
step_at op (Write r) v = record { op = op; place = 1; which = number_of_ring r; at = 0; value = v }
step_at op (Read r) v = record { op = op; place = 2; which = number_of_ring r; at = 0; value = v }
step_at op (Mask r) v = record { op = op; place = 3; which = number_of_ring r; at = 0; value = v }
step_at op (Pending r) v = record { op = op; place = 4; which = number_of_ring r; at = 0; value = v }
step_at op (Feature r) v = record { op = op; place = 5; which = number_of_ring r; at = 0; value = v }
step_at op (Cell r at) v = record { op = op; place = 6; which = number_of_ring r; at = at; value = v }
step_at op (Signal x) v = record { op = op; place = 7; which = number_of_side x; at = 0; value = v }
step_at op (Mark x) v = record { op = op; place = 8; which = number_of_side x; at = 0; value = v }
step_at op (Page q w) v = record { op = op; place = 9; which = q; at = w; value = v }

abbrev pub step_of : Op → VmbusStep
step_of (Load p) = step_at 1 p 0
step_of (Store p v) = step_at 2 p v
step_of (Raise x) = step_at 3 (Signal x) 1
step_of (TakeSignal x) = step_at 4 (Signal x) 0
step_of (StoreMark x) = step_at 5 (Mark x) 1
