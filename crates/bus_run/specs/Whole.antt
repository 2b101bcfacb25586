-- A phase, and the phases that are left.
use Rattle.std.specs.Prelude.{ℕ, ◌≡◌, ◌+◌, ◌*◌, ◌<◌, ◌≤◌, List, [], ◌∷◌, ◌++◌, length, map, take, drop, All, Option, IfSome, MatchOption, ⊤}
use Rattle.std.specs.List.{flat_map}
use Rattle.script_lines.specs.declared.line.Line.{Line}
use Rattle.script_lines.specs.declared.line.What.{What}
use Rattle.script_lines.specs.declared.line.DeviceSpec.{DeviceSpec}
use Rattle.bus_script.specs.declared.outcome.LineResult.{LineResult}
use Rattle.script_lines.specs.Lines.{offer_of}
use Rattle.script_lines.specs.Parts.{parts, offered, blocks_of, bads_of}
use Rattle.script_lines.specs.WellFormed.{IsDevice}
use Rattle.script_phases.specs.Agreed.{agreed_in}
use Rattle.script_phases.specs.Openings.{Phase, others, phases}
use Rattle.phase_plan.specs.Opened.{parts_left}
use Rattle.bus_model.specs.Run.{PhaseRuns, RunsOf}
use Rattle.bus_model.specs.declared.channel_run.ChannelRun.{ChannelRun}
use Rattle.bus_plan.specs.Endings.{AreEnded}
use Rattle.bus_plan.specs.Plans.{IsPhaseOf}
use Rattle.bus_plan.specs.declared.ending.Ending.{Ending}
use Rattle.scsi_disk.specs.DiskModel.{DiskState}
use Rattle.bus_run.specs.declared.runner.Runner.{Runner}
use Rattle.bus_run.specs.Opened.{AllRanAsSet}
use Rattle.bus_run.specs.Settings.{SettingsOf}
use Rattle.bus_run.specs.Devices.{IsReady}
use Rattle.device_any.specs.Boxes.{box_log, setup_for, setup_of, spec_of}
use Rattle.device_any.specs.declared.device_box.DeviceBox.{DeviceBox}

abbrev pub specs_of : List DeviceBox → List DeviceSpec
specs_of boxes = map spec_of boxes

-- the phase of this version with this number and these lines, behind phases that ended these devices, where this relid is the next one
pub record IsThis (agreed phase : ℕ) (part : List Line) (ended : List (Option Ending)) (specs : List DeviceSpec) (next : ℕ) (p : Phase) : Type 0 where
  pub version : p.version ≡ agreed
  pub number : p.number ≡ phase
  pub of : IsPhaseOf part ended specs next p

-- a phase went by
pub record PhaseRan (p : Phase) (old new : List DeviceBox) (settled settled' : List ChannelRun) (results results' : List LineResult) : Type 0 where
  pub runs : List ChannelRun
  pub told : List LineResult
  pub phase_runs : PhaseRuns p (map box_log old) (map box_log new) runs told
  pub kinds : map spec_of new ≡ map spec_of old
  pub setups : map setup_of new ≡ map setup_of old
  pub settled_are : settled' ≡ settled ++ runs
  pub results_are : results' ≡ results ++ told

-- a device that a line offers can be made: it is right, and so are the places of it that lines make bad
abbrev pub CanMake : List Line → ℕ → What → Type 0
CanMake lines device what = IfSome (offer_of what) (λ o. IsDevice o.1 × All (λ place. place < blocks_of o.1) (bads_of device lines))

-- the disks that devices of these kinds are at first, where the first of them has this number: the lines say which places are bad
abbrev pub setups_from : List Line → ℕ → List DeviceSpec → List (Option DiskState)
setups_from lines device [] = []
setups_from lines device (k ∷ kinds) = setup_for k (bads_of device lines) ∷ setups_from lines (device + 1) kinds

-- new devices of these kinds, with the bad places of these lines
pub record AreFresh (lines : List Line) (kinds : List DeviceSpec) (boxes : List DeviceBox) : Type 0 where
  pub kinds_are : map spec_of boxes ≡ kinds
  pub setups_are : map setup_of boxes ≡ setups_from lines 0 kinds
  pub logs : map box_log boxes ≡ map (λ k. []) kinds
  pub ready : All (IsReady 0) boxes

-- the lines of the first phases, so many
abbrev pub earlier_lines : List Line → ℕ → List Line
earlier_lines lines phase = flat_map (λ part. part) (take phase (parts lines))

-- the first relid that no channel of the first phases had, so many
abbrev pub next_relid : List Line → ℕ → ℕ
next_relid lines phase = length (offered lines) + 1 + length (flat_map (λ p. others p.opened) (take phase (phases lines)))

-- The first phases of a script ran, as many as the runner counts: what it has is a run of them, on channels that were opened as the script sets
pub record RunsSoFar (lines : List Line) (r : Runner) : Type 0 where
  pub runs : RunsOf (take r.phase (phases lines)) (map (λ k. []) (offered lines)) r.settled.items (map box_log r.boxes.items) r.results.items
  pub worked : AllRanAsSet lines (take r.phase (phases lines)) r.work.items r.settled.items
  pub left : parts_left lines r.next ≡ drop r.phase (parts lines)
  pub within : MatchOption r.next ⊤ (λ at. at ≤ length lines)
  pub counted : r.phase ≤ length (parts lines)
  pub kinds : map spec_of r.boxes.items ≡ offered lines
  pub setups : map setup_of r.boxes.items ≡ setups_from lines 0 (offered lines)
  pub ready : All (IsReady (4096 * r.phase)) r.boxes.items
  pub version : r.version.0 ≡ agreed_in lines
  pub settings : SettingsOf lines (length r.boxes.items) r.settings.items
  pub ended : AreEnded (earlier_lines lines r.phase) r.ended.items
  pub ended_count : length r.ended.items ≡ length r.boxes.items
  pub relid : r.relid ≡ next_relid lines r.phase
  pub relid_few : r.relid ≤ 17 + 48 * r.phase
