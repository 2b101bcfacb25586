-- The channels of a run are those that the controls opened.
use Rattle.std.specs.Prelude.{ℕ, ◌≡◌, ◌+◌, ◌==◌, not, filter, List, [], ◌∷◌, ◌++◌, map}
use Rattle.script_lines.specs.declared.line.Line.{Line}
use Rattle.bus_script.specs.declared.outcome.LineResult.{LineResult}
use Rattle.bus_model.specs.Run.{IsBusRun}
use Rattle.control_model.specs.declared.opening.Opening.{Opening}
use Rattle.control_model.specs.Plan.{BusPlan}
use Rattle.bus_model.specs.declared.channel_run.ChannelRun.{ChannelRun}
use Rattle.device_kinds.specs.declared.history.DeviceHistory.{DeviceHistory}
use Rattle.vmbus_main.specs.declared.outcome.Controls.{Controls}
use Rattle.vmbus_main.specs.Controls.{AreControls}

-- the channels of a phase in order of their relids: first channels were offered before all others
abbrev pub in_relid_order : List Opening → List Opening
in_relid_order os = filter (λ o. o.sub == 0) os ++ filter (λ o. not (o.sub == 0)) os

-- phase and relid of the channels that a plan opens, where the first phase has this number
abbrev pub opened_from : ℕ → List (List Opening) → List (ℕ × ℕ)
opened_from phase [] = []
opened_from phase (os ∷ rest) = map (λ o. (phase, o.relid)) (in_relid_order os) ++ opened_from (phase + 1) rest

abbrev pub opened_in : BusPlan → List (ℕ × ℕ)
opened_in plan = opened_from 0 plan.phases

-- phase and relid of what was carried
abbrev pub carried_on : List ChannelRun → List (ℕ × ℕ)
carried_on settled = map (λ r. (r.phase, r.relid)) settled

-- what was carried was carried on the channels that both controls opened, phase by phase in order of relid
abbrev pub CarriedOnOpened : Type 0
CarriedOnOpened = (lines : List Line) (controls : Controls) (settled : List ChannelRun) (histories : List DeviceHistory) (results : List LineResult) → AreControls lines controls → IsBusRun lines settled histories results
    → (carried_on settled ≡ opened_in controls.guest.plan) × (carried_on settled ≡ opened_in controls.host.plan)
