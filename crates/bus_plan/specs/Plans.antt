-- The plan of a phase: what the script orders of each channel that it opens.
use Rattle.std.specs.Prelude.{ℕ, ◌≡◌, ◌+◌, ◌==◌, Bool, true, false, not, List, [], ◌∷◌, All, length, map, slice_index_or, Option}
use Rattle.script_lines.specs.declared.line.Line.{Line}
use Rattle.script_lines.specs.declared.line.DeviceSpec.{DeviceSpec}
use Rattle.script_lines.specs.Parts.{kind_of}
use Rattle.script_phases.specs.Openings.{Opening, Phase, subs_of, is_opened, opened_from}
use Rattle.bus_model.specs.Orders.{Order, order_of}
use Rattle.phase_plan.specs.Told.{AreDealt, stop_told}
use Rattle.phase_plan.specs.Opened.{plain}
use Rattle.phase_plan.specs.declared.device_lines.DeviceLines.{DeviceLines}
use Rattle.phase_plan.specs.declared.opening.Opening.{Opening as Place}
use Rattle.bus_plan.specs.Endings.{AreEnded}
use Rattle.bus_plan.specs.declared.ending.Ending.{Ending}
use Rattle.bus_plan.specs.declared.opening.ChannelOrder.{ChannelOrder}

-- what is ordered of a channel, whose device is this
abbrev pub order_by : ChannelOrder → DeviceSpec → Order
order_by x spec = record { kind = kind_of spec; sub = x.opening.sub; subs = subs_of spec; asks = x.asks.items; stop = stop_told x.stop }

-- it is what the script orders of this channel in the phase
pub record IsOrdered (p : Phase) (o : Opening) (x : ChannelOrder) : Type 0 where
  pub relid : x.opening.relid ≡ o.relid
  pub device : x.opening.device ≡ o.device
  pub order : order_by x o.spec ≡ order_of p o

-- one for each of these channels, in order
abbrev pub EachOf : {A : Type 0} → (Opening → A → Type 0) → List Opening → List A → Type 0
EachOf P [] [] = Unit {0}
EachOf P [] (x ∷ xs) = ⊥
EachOf P (o ∷ os) [] = ⊥
EachOf P (o ∷ os) (x ∷ xs) = P o x × EachOf P os xs

abbrev pub EachOrdered : Phase → List Opening → List ChannelOrder → Type 0
EachOrdered p os xs = EachOf (IsOrdered p) os xs

-- a channel of a device
abbrev pub opening_at : ℕ → ℕ → DeviceSpec → ℕ → Opening
opening_at relid device spec sub = record { relid = relid; device = device; spec = spec; sub = sub }

-- its first channel
abbrev pub first_opening : ℕ → DeviceSpec → Opening
first_opening device spec = opening_at (device + 1) device spec 0

-- the device of a channel has as many sub-channels as stand at its place
abbrev pub HasSubs : List ℕ → Opening → Type 0
HasSubs subs o = subs_of o.spec ≡ slice_index_or subs o.device 0

-- what is known of the channels of a phase, by what the plan keeps of each channel and of each device
pub record AreOpened (p : Phase) (os : List Opening) (openings : List Place) (subs : List ℕ) (devices : List DeviceLines) : Type 0 where
  pub same : map plain os ≡ openings
  pub subs_are : All (HasSubs subs) os
  pub dealt : AreDealt p.part devices

-- whether a channel is the first one of its device, or whether it is none
abbrev pub is_of : Bool → Place → Bool
is_of true o = o.sub == 0
is_of false o = not (o.sub == 0)

-- the phase of these lines, of a script that offers these devices, of which earlier phases ended these, where this relid is the next one
pub record IsPhaseOf (part : List Line) (ended : List (Option Ending)) (specs : List DeviceSpec) (next : ℕ) (p : Phase) : Type 0 where
  pub part_is : p.part ≡ part
  pub ended_are : AreEnded p.earlier ended
  pub devices : length specs ≡ length ended
  pub opened : p.opened ≡ opened_from (is_opened p.earlier p.part) 0 next specs
