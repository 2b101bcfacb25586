-- The channels of a run are those that the controls opened.
use Rattle.std.proofs.Common.{◌≡◌, ℕ, ◌+◌, Bool, true, false, not, cond, List, [], ◌∷◌, ◌++◌, map, filter, length, refl, sym, ap, ◌∙◌}
use Rattle.std.specs.Prelude.{◌==◌}
use Rattle.std.specs.List.{flat_map}
use Rattle.std.proofs.lemmas.List.{map-append}
use Rattle.script_lines.specs.declared.line.Line.{Line}
use Rattle.script_lines.specs.declared.line.DeviceSpec.{DeviceSpec}
use Rattle.script_lines.specs.Parts.{parts, offered, ring_pages_of}
use Rattle.script_phases.specs.Agreed.{agreed_in}
use Rattle.script_phases.specs.Openings.{Opening, is_opened, opened_from as phase_opens, others, by_relid, phases_from}
use Rattle.bus_model.specs.Laws.{carried_at, opened_at}
use Rattle.bus_model.specs.declared.channel_run.ChannelRun.{ChannelRun}
use Rattle.bus_model.proofs.Opened.{carries_opened_lem}
use Rattle.control_model.specs.declared.opening.Opening.{Opening as ControlOpening}
use Rattle.control_model.specs.declared.planning.Fate.{Fate}
use Rattle.control_model.specs.Openings.{fate_of, openings_from, numbered, lists_for, pages_for, lists_in, pages_in, plan_of}
use Rattle.control_model.specs.Plan.{first_gpadl}
use Rattle.vmbus_main.specs.Opened.{CarriedOnOpened, in_relid_order, opened_from, opened_in, carried_on}

abbrev on_phase : ℕ × ℕ × ℕ → ℕ × ℕ
on_phase c = (c.0, c.1)

abbrev control_at : ℕ → ControlOpening → ℕ × ℕ
control_at n o = (n, o.relid)

abbrev opening_at : ℕ → Opening → ℕ × ℕ × ℕ
opening_at n o = (n, o.relid, o.device)

-- a phase's channels keep their relids and their numbers

keep : (n : ℕ) (o : Opening) (c : ControlOpening) (b : Bool) (xs : List Opening) (ys : List ControlOpening) → on_phase (opening_at n o) ≡ control_at n c
    → map on_phase (map (opening_at n) xs) ≡ map (control_at n) ys → map on_phase (map (opening_at n) (cond b (o ∷ xs) xs)) ≡ map (control_at n) (cond b (c ∷ ys) ys)
keep n o c true xs ys same more = λ i. same i ∷ more i
keep n o c false xs ys same more = more

same_places : (p : ℕ → Bool) (n : ℕ) (sizes : ℕ → ℕ) (fates : ℕ → Fate) (gpadl page : ℕ) (os : List Opening)
    → map on_phase (map (opening_at n) (filter (λ o. p o.sub) os)) ≡ map (control_at n) (filter (λ o. p o.sub) (openings_from sizes fates gpadl page os))
same_places p n sizes fates gpadl page [] = refl
same_places p n sizes fates gpadl page (o ∷ os) = keep n o _ (p o.sub) _ _ refl (same_places p n sizes fates (gpadl + lists_for o) (page + pages_for sizes o) os)

-- so they are in one order, by their relids

in_one_order : (n : ℕ) (sizes : ℕ → ℕ) (fates : ℕ → Fate) (gpadl page : ℕ) (os : List Opening)
    → map on_phase (map (opening_at n) (by_relid os)) ≡ map (control_at n) (in_relid_order (openings_from sizes fates gpadl page os))
in_one_order n sizes fates gpadl page os =
    let first : ℕ → Bool = λ sub. sub == 0 in
    let other : ℕ → Bool = λ sub. not (sub == 0) in
    let cs = openings_from sizes fates gpadl page os in
    ap (map on_phase) (map-append (opening_at n) (filter (λ o. first o.sub) os) (filter (λ o. other o.sub) os))
    ∙ (map-append on_phase (map (opening_at n) (filter (λ o. first o.sub) os)) (map (opening_at n) (filter (λ o. other o.sub) os))
    ∙ ((λ i. same_places first n sizes fates gpadl page os i ++ same_places other n sizes fates gpadl page os i)
    ∙ sym (map-append (control_at n) (filter (λ o. first o.sub) cs) (filter (λ o. other o.sub) cs))))

phase_places : (version : ℕ) (kinds : List DeviceSpec) (number next : ℕ) (sizes : ℕ → ℕ) (gpadl page : ℕ) (earlier : List Line) (ps : List (List Line))
    → map on_phase (flat_map opened_at (phases_from version kinds number next earlier ps)) ≡ opened_from number (numbered sizes gpadl page (phases_from version kinds number next earlier ps))
phase_places version kinds number next sizes gpadl page earlier [] = refl
phase_places version kinds number next sizes gpadl page earlier (part ∷ rest) =
    let os = phase_opens (is_opened earlier part) 0 next kinds in
    let fates : ℕ → Fate = λ device. fate_of device part in
    let more = flat_map opened_at (phases_from version kinds (number + 1) (next + length (others os)) (earlier ++ part) rest) in
    map-append on_phase (map (opening_at number) (by_relid os)) more
    ∙ (ap (λ l. l ++ map on_phase more) (in_one_order number sizes fates gpadl page os)
    ∙ ap (λ l. map (control_at number) (in_relid_order (openings_from sizes fates gpadl page os)) ++ l) (phase_places version kinds (number + 1) (next + length (others os)) sizes (gpadl + lists_in os) (page + pages_in sizes os) (earlier ++ part) rest))

of_runs : (settled : List ChannelRun) → carried_on settled ≡ map on_phase (map carried_at settled)
of_runs [] = refl
of_runs (r ∷ settled) = ap (λ l. (r.phase, r.relid) ∷ l) (of_runs settled)

pub carried_on_opened_lem : CarriedOnOpened
carried_on_opened_lem lines controls settled histories results are run =
    let is : carried_on settled ≡ opened_in (plan_of lines) =
    of_runs settled
    ∙ (ap (map on_phase) (carries_opened_lem lines settled histories results run)
    ∙ phase_places (agreed_in lines) (offered lines) 0 (length (offered lines) + 1) (λ d. ring_pages_of d lines) first_gpadl 0 [] (parts lines)) in
    (is ∙ ap opened_in (sym are.guest_plan), is ∙ ap opened_in (sym are.host_plan))
