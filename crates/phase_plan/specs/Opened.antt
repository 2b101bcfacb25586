-- The channels that a phase opens, as the plan keeps them.
use Rattle.std.specs.Prelude.{ℕ, ◌≡◌, ◌<◌, ◌≤◌, Bool, List, [], drop, length, map, Option, Some, None, slice_index_or, if◌then◌else◌}
use Rattle.script_lines.specs.declared.line.Line.{Line}
use Rattle.script_lines.specs.declared.line.DeviceSpec.{DeviceSpec}
use Rattle.script_lines.specs.Parts.{parts}
use Rattle.script_phases.specs.Openings.{Opening as PhaseOpening, subs_of, is_ended, channels_from}
use Rattle.phase_plan.specs.declared.device_lines.DeviceLines.{DeviceLines}
use Rattle.phase_plan.specs.declared.opening.Opening.{Opening}
use Rattle.phase_plan.specs.Told.{AreDealt}

-- the phases from a place on, where any is left
abbrev pub parts_left : List Line → Option ℕ → List (List Line)
parts_left lines None = []
parts_left lines (Some at) = parts (drop at lines)

-- the numbers of a channel: what its device is stands elsewhere
abbrev pub plain : PhaseOpening → Opening
plain o = record { relid = o.relid; device = o.device; sub = o.sub }

-- the channels of a device, where it is opened
abbrev pub channels_if : Bool → ℕ → DeviceSpec → ℕ → List PhaseOpening
channels_if opened device spec relid = if opened then channels_from device spec relid else []

-- it is a channel of one of so many devices
pub record IsOfDevice (count : ℕ) (o : Opening) : Type 0 where
  pub device : o.device < count
  pub sub : o.sub ≤ 3

-- these lines ended just these devices
abbrev pub AreEnded : List Line → List Bool → Type 0
AreEnded earlier ended = (k : ℕ) (b : Bool) → k < length ended → slice_index_or ended k b ≡ is_ended k earlier

-- the devices of a script between two phases: whether an earlier line ended each, what the lines of the phase say to it, and how many channels it has beside the first one
pub record AreDevices (earlier part : List Line) (specs : List DeviceSpec) (ended : List Bool) (devices : List DeviceLines) (subs : List ℕ) : Type 0 where
  pub ended_are : AreEnded earlier ended
  pub dealt : AreDealt part devices
  pub subs_are : map subs_of specs ≡ subs
