-- What the guest's control has told of the channels' page lists where a phase runs, and which of its plan's openings the channels of the phase have.
use Rattle.std.proofs.Common.{◌≡◌, ℕ, zero, suc, ◌+◌, ◌<◌, true, not, List, [], ◌∷◌, length, get_or, slice_index_or, Some, None, refl, ap, sym, subst, arith}
use Rattle.std.specs.List.{AllByRecursion}
use Rattle.vmbus_msg.specs.declared.msg.Msg.{Msg}
use Rattle.script_lines.specs.declared.line.Line.{Line}
use Rattle.script_lines.specs.Parts.{ring_pages_of}
use Rattle.script_phases.specs.Openings.{Opening, Phase, by_relid, firsts, is_first, others, phases}
use Rattle.device_wire.specs.declared.buffer_lists.BufferLists.{BufferLists}
use Rattle.control_model.specs.declared.planning.Fate.{Fate}
use Rattle.control_model.specs.declared.opening.Opening.{Opening as PlanOpening}
use Rattle.control_model.specs.Plan.{BusPlan, first_gpadl, opening_at, phase_of, IsPlan}
use Rattle.control_model.specs.Openings.{fate_of, has_buffers, lists_for, lists_in as count_lists, numbered, openings_from, pages_for, pages_in, plan_of, vp_at}
use Rattle.control_model.specs.GuestAt.{GuestAt}
use Rattle.control_path.specs.declared.path.ControlPath.{ControlPath}
use Rattle.control_path.specs.Told.{IsSaidToStart}
use Rattle.control_path.proofs.ToldLaws.{start_law, told_law}
use Rattle.bus_model.proofs.Lists.{each_append, each_filter}
use Rattle.bus_run.specs.Opened.{IsPlanned}
use Rattle.bus_run.specs.Opening.{lists_in, planned_lists}
use Rattle.bus_run.specs.Parts.{AreOpen}

-- the page lists that were told for each channel with buffers that a phase opens are the plan's
abbrev pub TellsPlanned : BusPlan → ℕ → List Msg → Type 0
TellsPlanned plan phase posted = (place : ℕ) (o : PlanOpening) → opening_at plan phase place ≡ Some o → o.buffers ≡ true → lists_in posted o.relid ≡ planned_lists o

pub record IsTold (lines : List Line) (phase : ℕ) (posted : List Msg) : Type 0 where
  pub said : IsSaidToStart (plan_of lines) phase posted
  pub planned : TellsPlanned (plan_of lines) phase posted

-- where the channels of a phase are open the guest's control has said all up to the end of the phase's start, and so the page lists that the plan has
pub all_told : (lines : List Line) (phase : ℕ) (path : ControlPath) → AreOpen lines phase path → IsTold lines phase path.guest.posted
all_told lines phase path open_all =
    let plan : BusPlan = plan_of lines in
    let at : GuestAt plan path.guest = subst (λ (p : BusPlan). GuestAt p path.guest) open_all.guest_plan open_all.rests.guest.at in
    let planned : IsPlan plan = subst IsPlan open_all.guest_plan open_all.rests.guest.planned in
    let said = start_law plan path.guest phase at open_all.guest_part open_all.guest_done in
    let both : ℕ × ℕ → BufferLists = λ told. record { receive = told.0; send = told.1 } in
    record { said = said; planned = λ place o is has. ap both (told_law plan path.guest.posted phase place o planned said is has) }

-- the plan's openings of a phase are those of its channels, numbered
record Numbered (sizes : ℕ → ℕ) (os : List PlanOpening) (cs : List Opening) : Type 0 where
  fates : ℕ → Fate
  gpadl : ℕ
  page : ℕ
  is : os ≡ openings_from sizes fates gpadl page cs

numbered_at : (sizes : ℕ → ℕ) (gpadl page : ℕ) (ps : List Phase) (k : ℕ) (d : Phase) → k < length ps → Numbered sizes (slice_index_or (numbered sizes gpadl page ps) k []) (get_or ps k d).opened
numbered_at sizes gpadl page [] k d less = absurd (omega (arith, less))
numbered_at sizes gpadl page (p ∷ ps) zero d less = record { fates = λ device. fate_of device p.part; gpadl = gpadl; page = page; is = refl }
numbered_at sizes gpadl page (p ∷ ps) (suc k) d less = numbered_at sizes (gpadl + count_lists p.opened) (page + pages_in sizes p.opened) ps k d (omega (arith, less))

-- each channel has one of them
planned_later : (q : PlanOpening) (os : List PlanOpening) (cs : List Opening) → AllByRecursion (IsPlanned os) cs → AllByRecursion (IsPlanned (q ∷ os)) cs
planned_later q os [] all = tt
planned_later q os (c ∷ cs) all =
    let one = all.0 in
    (record { place = suc one.place; opening = one.opening; is = one.is; relid = one.relid; buffers = one.buffers }, planned_later q os cs all.1)

planned_from : (sizes : ℕ → ℕ) (fates : ℕ → Fate) (gpadl page : ℕ) (cs : List Opening) → AllByRecursion (IsPlanned (openings_from sizes fates gpadl page cs)) cs
planned_from sizes fates gpadl page [] = tt
planned_from sizes fates gpadl page (c ∷ cs) =
    let here : PlanOpening = record { relid = c.relid; sub = c.sub; ring_pages = sizes c.device; gpadl = gpadl; first_page = page; rescinded = (fates c.device).rescinded; vp = vp_at (fates c.device).vp c.sub; dialed = None; buffers = has_buffers c.spec } in
    let rest : List PlanOpening = openings_from sizes fates (gpadl + lists_for c) (page + pages_for sizes c) cs in
    (record { place = 0; opening = here; is = refl; relid = refl; buffers = refl }, planned_later here rest cs (planned_from sizes fates (gpadl + lists_for c) (page + pages_for sizes c) cs))

pub all_planned : (lines : List Line) (k : ℕ) (d : Phase) → k < length (phases lines) → AllByRecursion (IsPlanned (phase_of (plan_of lines) k)) (by_relid (get_or (phases lines) k d).opened)
all_planned lines k d less =
    let cs : List Opening = (get_or (phases lines) k d).opened in
    let n = numbered_at (λ d. ring_pages_of d lines) first_gpadl 0 (phases lines) k d less in
    let each : AllByRecursion (IsPlanned (phase_of (plan_of lines) k)) cs = subst (λ os. AllByRecursion (IsPlanned os) cs) (sym n.is) (planned_from (λ d. ring_pages_of d lines) n.fates n.gpadl n.page cs) in
    each_append (IsPlanned (phase_of (plan_of lines) k)) (firsts cs) (others cs) (each_filter (IsPlanned (phase_of (plan_of lines) k)) is_first cs each) (each_filter (IsPlanned (phase_of (plan_of lines) k)) (λ o. not (is_first o)) cs each)
