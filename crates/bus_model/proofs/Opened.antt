-- The channels of a run are those that its phases open.
use Rattle.std.proofs.Common.{◌≡◌, List, [], ◌∷◌, ◌++◌, refl, ap, ◌∙◌}
use Rattle.std.specs.Prelude.{map}
use Rattle.std.specs.List.{AllByRecursion, flat_map}
use Rattle.std.proofs.lemmas.List.{map-append}
use Rattle.script_phases.specs.Openings.{Opening, Phase, phases}
use Rattle.bus_script.specs.declared.outcome.LineResult.{LineResult}
use Rattle.device_kinds.specs.Logs.{Recorded}
use Rattle.bus_model.specs.Run.{Carried, IsCarried, PhaseRuns, RunsOf, over, then_on}
use Rattle.bus_model.specs.Laws.{carried_at, opened_at, CarriesOpened}
use Rattle.bus_model.specs.declared.channel_run.ChannelRun.{ChannelRun}

place_same : (p : Phase) (c : Carried) → IsCarried p c → carried_at c.run ≡ (p.number, c.opening.relid, c.opening.device)
place_same p c is =
    ap (λ n. (n, c.run.relid, c.run.device)) is.phase ∙ (ap (λ r. (p.number, r, c.run.device)) is.relid ∙ ap (λ d. (p.number, c.opening.relid, d)) is.device)

places_same : (p : Phase) (channels : List Carried) → AllByRecursion (IsCarried p) channels
    → map carried_at (map (λ c. c.run) channels) ≡ map (λ (o : Opening). (p.number, o.relid, o.device)) (map (λ c. c.opening) channels)
places_same p [] each = refl
places_same p (c ∷ channels) each =
    ap (λ x. x ∷ map carried_at (map (λ (c : Carried). c.run) channels)) (place_same p c each.0) ∙ ap (λ l. (p.number, c.opening.relid, c.opening.device) ∷ l) (places_same p channels each.1)

phase_places : (p : Phase) (before after : List (List Recorded)) (runs : List ChannelRun) (told : List LineResult) → PhaseRuns p before after runs told → map carried_at runs ≡ opened_at p
phase_places p before after runs told one = ap (map carried_at) one.runs_are ∙ (places_same p one.channels one.each ∙ ap (map (λ (o : Opening). (p.number, o.relid, o.device))) one.opened)

all_places : (ps : List Phase) (before : List (List Recorded)) (settled : List ChannelRun) (after : List (List Recorded)) (results : List LineResult) → RunsOf ps before settled after results
    → map carried_at settled ≡ flat_map opened_at ps
all_places [] before settled after results over = refl
all_places (p ∷ ps) before settled after results (then_on {between = between} {runs = runs} {settled = more} {told = told} {results = later} one on) =
    map-append carried_at runs more ∙ (ap (λ l. l ++ map carried_at more) (phase_places p before between runs told one) ∙ ap (λ l. opened_at p ++ l) (all_places ps between more after later on))

pub carries_opened_lem : CarriesOpened
carries_opened_lem lines settled histories results run = all_places (phases lines) _ settled _ results run.phases_run
