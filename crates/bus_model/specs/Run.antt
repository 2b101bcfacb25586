-- A run of the bus, phase by phase: what each channel carried, how each device's history went on, and the outcomes of the lines.
use Rattle.std.specs.Prelude.{ℕ, true, false, ◌≡◌, ◌+◌, ◌%◌, ◌/◌, ◌==◌, List, [], ◌∷◌, ◌++◌, length, map, filter, Option, Some, None, slice_get, slice_index_or, if◌then◌else◌}
use Rattle.std.specs.List.{AllByRecursion}
use Rattle.std.specs.Option.{option_map_or}
use Rattle.contact.specs.Versions.{versions_tried, has_modify, answers_modify}
use Rattle.script_lines.specs.declared.line.Line.{Line}
use Rattle.script_lines.specs.declared.line.What.{What}
use Rattle.script_lines.specs.Lines.{Says, Asks, Rescinds, Shuts, Modifies, said, contact_of}
use Rattle.script_lines.specs.Parts.{offered}
use Rattle.script_phases.specs.Says.{asks_of, is_rescinded, is_shut}
use Rattle.script_phases.specs.Openings.{Opening, Phase, phases, by_relid}
use Rattle.bus_script.specs.declared.outcome.LineResult.{LineResult}
use Rattle.bus_script.specs.declared.outcome.LineResult.TheVariants.{Version as Agreed, Modified, Unsupported, Gone, Closed}
use Rattle.device_kinds.specs.Served.{Served}
use Rattle.bus_model.specs.Orders.{order_of}
use Rattle.bus_model.specs.Channel.{IsChannelRun, outcomes_of}
use Rattle.device_kinds.specs.Logs.{Recorded, Grows, EachHistory, log_of}
use Rattle.bus_model.specs.declared.channel_run.ChannelRun.{ChannelRun}
use Rattle.device_kinds.specs.declared.history.DeviceHistory.{DeviceHistory}

-- a channel in one phase: what was opened, what it carried, and what it served
pub record Carried : Type 0 where
  pub opening : Opening
  pub run : ChannelRun
  pub served : List Served

-- it carried what the script orders of it in this phase
pub record IsCarried (p : Phase) (c : Carried) : Type 0 where
  pub phase : c.run.phase ≡ p.number
  pub relid : c.run.relid ≡ c.opening.relid
  pub device : c.run.device ≡ c.opening.device
  pub carried : IsChannelRun (order_of p c.opening) c.run.settled c.served

-- the channels of a device, in order: its seats
abbrev pub seats_of : ℕ → List Carried → List Carried
seats_of device channels = filter (λ c. c.opening.device == device) channels

-- each device's history, from this device on, goes on with what its channels served
abbrev pub EachGrows : ℕ → List Carried → List (List Recorded) → List (List Recorded) → Type 0
EachGrows device channels [] [] = Unit {0}
EachGrows device channels (b ∷ before) (a ∷ after) = Grows b a (map (λ c. c.served) (seats_of device channels)) × EachGrows (device + 1) channels before after
EachGrows device channels [] (a ∷ after) = ⊥
EachGrows device channels (b ∷ before) [] = ⊥

-- what an earlier phase leaves for all requests of a device: nothing while it is served
abbrev pub ended_as : ℕ → List Line → Option LineResult
ended_as device earlier = if is_rescinded device earlier then Some Gone else if is_shut device earlier then Some Closed else None

-- where the outcome of a line comes from: it is known from the earlier phases, or it is that of the request with this number of a device
pub data Source : Type 0 where
  Known : LineResult → Source
  AskedOf : ℕ → ℕ → Source

abbrev pub known_or : Option LineResult → Source → Source
known_or None source = source
known_or (Some result) source = Known result

-- how the interrupts of a device's first channel are moved, by the version: from 5.3 on the host answers, and below 4.1 there is no message for it
abbrev pub modified_by : ℕ → ℕ → LineResult
modified_by version vp = if answers_modify version then Modified vp true else if has_modify version then Modified vp false else Unsupported

-- the source of what is said behind these lines of the phase, where it has an outcome
abbrev pub source_said : Phase → List Line → Option (ℕ × Says) → List Source
source_said p before None = []
source_said p before (Some (device, Asks ask)) = known_or (ended_as device p.earlier) (AskedOf device (length (asks_of device before))) ∷ []
source_said p before (Some (device, Rescinds after held)) = []
source_said p before (Some (device, Shuts)) = []
source_said p before (Some (device, Modifies vp)) = known_or (ended_as device p.earlier) (Known (modified_by p.version vp)) ∷ []

-- a contact line has one besides, and no other line of settings
abbrev pub source_of : Phase → List Line → What → List Source
source_of p before what = option_map_or (λ v. Known (Agreed (length (versions_tried v.0.0 v.1.0))) ∷ []) (contact_of what) (source_said p before (said what))

-- those of the lines that stand behind others in the phase
abbrev pub sources_from : Phase → List Line → List Line → List Source
sources_from p before [] = []
sources_from p before (l ∷ ls) = source_of p before l.what ++ sources_from p (before ++ l ∷ []) ls

-- of the outcomes of a device's channels, that of the request with this number: requests are dealt to the channels in turn
abbrev pub nth_of : List (List LineResult) → ℕ → Option LineResult
nth_of outcomes n = slice_get (slice_index_or outcomes (n % length outcomes) []) (n / length outcomes)

-- the outcomes of the channels of a device
abbrev pub told_by : Phase → List Carried → ℕ → List (List LineResult)
told_by p channels device = map (λ c. outcomes_of (order_of p c.opening) c.served) (seats_of device channels)

abbrev pub outcome_at : Phase → List Carried → Source → Option LineResult
outcome_at p channels (Known result) = Some result
outcome_at p channels (AskedOf device n) = nth_of (told_by p channels device) n

-- the outcomes of a phase's lines
abbrev pub outcomes_in : Phase → List Carried → List (Option LineResult)
outcomes_in p channels = map (outcome_at p channels) (sources_from p [] p.part)

-- one phase: each channel that it opens carried its order, the devices' histories went on, and the lines have their outcomes
pub record PhaseRuns (p : Phase) (before after : List (List Recorded)) (runs : List ChannelRun) (told : List LineResult) : Type 0 where
  pub channels : List Carried
  pub opened : map (λ c. c.opening) channels ≡ by_relid p.opened
  pub each : AllByRecursion (IsCarried p) channels
  pub runs_are : runs ≡ map (λ c. c.run) channels
  pub histories : EachGrows 0 channels before after
  pub outcomes : map (λ r. Some r) told ≡ outcomes_in p channels

-- phases, one after the other: histories go on, and what was carried and the outcomes stand in order
pub data RunsOf : List Phase → List (List Recorded) → List ChannelRun → List (List Recorded) → List LineResult → Type 0 where
  over : {logs : List (List Recorded)} → RunsOf [] logs [] logs []
  then_on : {p : Phase} {rest : List Phase} {before between after : List (List Recorded)} {runs settled : List ChannelRun} {told results : List LineResult}
      → PhaseRuns p before between runs told → RunsOf rest between settled after results → RunsOf (p ∷ rest) before (runs ++ settled) after (told ++ results)

-- The run of a script: each history begins with nothing, is legal, and goes on phase by phase
pub record IsBusRun (lines : List Line) (settled : List ChannelRun) (histories : List DeviceHistory) (results : List LineResult) : Type 0 where
  pub phases_run : RunsOf (phases lines) (map (λ k. []) (offered lines)) settled (map log_of histories) results
  pub legal : EachHistory lines 0 (offered lines) histories
