-- How the channels of a phase were opened, and what they left.
use Rattle.vmbus_msg.specs.declared.msg.Msg.{Msg}
use Rattle.std.specs.Prelude.{◌≡◌, ℕ, ◌<◌, List, [], ◌∷◌, ◌++◌, length, map, slice_get, slice_index_or, Some}
use Rattle.std.specs.List.{flat_map}
use Rattle.script_lines.specs.declared.line.Line.{Line}
use Rattle.script_lines.specs.Parts.{kind_of}
use Rattle.control_model.specs.declared.opening.Opening.{Opening as PlanOpening}
use Rattle.control_model.specs.Plan.{phase_of}
use Rattle.control_model.specs.Openings.{has_buffers, plan_of}
use Rattle.control_path.specs.Told.{IsSaidToStart}
use Rattle.script_phases.specs.Openings.{Opening, Phase, by_relid}
use Rattle.bus_model.specs.Orders.{order_of}
use Rattle.bus_model.specs.declared.channel_run.ChannelRun.{ChannelRun}
use Rattle.bus_plan.specs.Plans.{EachOf}
use Rattle.bus_threads.specs.Pairs.{EachRuns, Pairing, lists_of}
use Rattle.bus_threads.specs.declared.pair.PairDone.{PairDone}
use Rattle.device_any.specs.declared.device_seat.DeviceSeat.{DeviceSeat}
use Rattle.bus_run.specs.Opening.{IsOpenedWith, planned_on}
use Rattle.device_any.specs.Boxes.{EachWith}
use Rattle.bus_run.specs.Settings.{settings_of, unset}
use Rattle.bus_run.specs.declared.settings.Settings.{Settings}

-- the workers of the channels of a phase, as they were opened, and what they left
pub record Worked : Type 0 where
  pub opened : List Pairing
  pub left : List PairDone

-- this channel of a phase was opened with what is set for its device, for what the phase orders of it
pub record IsOpenAt (posted : List Msg) (settings : List Settings) (p : Phase) (o : Opening) (pair : Pairing) : Type 0 where
  pub within : o.device < length settings
  pub seat : DeviceSeat
  pub opened : IsOpenedWith posted (slice_index_or settings o.device unset) o.relid (order_of p o) seat pair

-- so was each channel of the phase, in order of relid
abbrev pub AreOpenAt : List Msg → List Settings → Phase → List Pairing → Type 0
AreOpenAt posted settings p pairs = EachOf (IsOpenAt posted settings p) (by_relid p.opened) pairs

-- the control path opens this channel of a phase by one of these openings of its plan, which has buffers where the channel is a network's
pub record IsPlanned (openings : List PlanOpening) (o : Opening) : Type 0 where
  pub place : ℕ
  pub opening : PlanOpening
  pub is : slice_get openings place ≡ Some opening
  pub relid : opening.relid ≡ o.relid
  pub buffers : opening.buffers ≡ has_buffers o.spec

-- this channel of a phase was opened for what the phase orders of it: each of its rings has as many pages, and as many of its requests can be open, as the lines
-- set for its device. A network's guest tells the page lists that the plan of the control path has for the channel's buffers, and any other tells none
pub record IsOpenedAs (posted : List Msg) (lines : List Line) (p : Phase) (o : Opening) (pair : Pairing) : Type 0 where
  pub seat : DeviceSeat
  pub opened : IsOpenedWith posted (settings_of lines o.device) o.relid (order_of p o) seat pair
  pub planned : IsPlanned (phase_of (plan_of lines) p.number) o
  pub lists : lists_of pair ≡ planned_on (kind_of o.spec) planned.opening

-- so was each channel of the phase, in order of relid
abbrev pub AreOpenedAs : List Msg → List Line → Phase → List Pairing → Type 0
AreOpenedAs posted lines p pairs = EachOf (IsOpenedAs posted lines p) (by_relid p.opened) pairs

-- and the workers that were opened are those that ran. Before, the guest's control had posted all that it says by the script's plan up to the end of this phase's start, and nothing behind it; the page lists of a channel's buffers stood in that
pub record RanAsSet (lines : List Line) (p : Phase) (w : Worked) : Type 0 where
  pub posted : List Msg
  pub posted_is : IsSaidToStart (plan_of lines) p.number posted
  pub opened : AreOpenedAs posted lines p w.opened
  pub ran : EachRuns w.opened w.left

-- what the channels of a phase carried, behind what was carried before, is what their workers left
pub record HaveLeft (settled settled' : List ChannelRun) (left : List PairDone) : Type 0 where
  pub runs : List ChannelRun
  pub settled_are : settled' ≡ settled ++ runs
  pub carried : map (λ r. r.settled) runs ≡ map (λ d. d.settled) left

-- One more phase ran: its channels were opened with these settings and, where the guest's control had posted this, with the page lists there, and their workers ran and left what was carried
pub record HaveWorked (posted : List Msg) (settings : List Settings) (p : Phase) (settled settled' : List ChannelRun) (before after : List Worked) : Type 0 where
  pub work : Worked
  pub after_is : after ≡ before ++ work ∷ []
  pub opened : AreOpenAt posted settings p work.opened
  pub ran : EachRuns work.opened work.left
  pub left : HaveLeft settled settled' work.left

-- The channels of each of these phases were opened with the pages and the windows that the lines set, and ran. What was carried is what they left
pub record AllRanAsSet (lines : List Line) (ps : List Phase) (worked : List Worked) (settled : List ChannelRun) : Type 0 where
  pub each : EachWith (RanAsSet lines) ps worked
  pub carried : map (λ r. r.settled) settled ≡ map (λ d. d.settled) (flat_map (λ w. w.left) worked)
