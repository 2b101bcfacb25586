use Rattle.std.proofs.Common.{map, ◌∙◌, ap, sym, subst, length, arith}
use Rattle.std.proofs.lemmas.List.{length-map}
use Rattle.bus_plan.specs.Heard.{AllBelow}
use Rattle.bus_plan.specs.Outcomes.{AreTold}
use Rattle.device_any.specs.Boxes.{spec_of, subs_in}
use Rattle.bus_run.specs.Whole.{specs_of}
use Rattle.bus_run.proofs.Asking.{below_all}
use Rattle.bus_run.proofs.PhaseRun.{known_subs, few_subs, can_run, have_outcomes, phase_ran}
use Rattle.bus_run.proofs.phase.run_script_phase.Goals as goal

pub run_channels-requires-clause-can : goal.run_channels-requires-clause-can
run_channels-requires-clause-can g c κs asked =
    let p = c.requires.this.0 in
    let this = c.requires.this.1 in
    let boxes = c.args.boxes.now.items in
    let ordered = (c.in_ok-plan.ensures.plan (specs_of boxes) p (known_subs boxes ∙ sym (c.deref-2.ensures.value ∙ (c.in_ok-subs.ensures ∙ ap (map subs_in) c.deref.ensures.value))) this.of) in
    (p, can_run c.args.version.0 c.args.phase c.args.part.now c.args.ended.now c.args.relid.now c.in_ok-plan.plan.items boxes p this ordered c.requires.ready c.requires.right c.requires.go c.requires.asks c.requires.subs c.requires.channels)

pub line_results-requires-clause-below : goal.line_results-requires-clause-below
line_results-requires-clause-below g c =
    subst (λ n. AllBelow n c.args.part.now) (length-map c.args.boxes.now.items spec_of ∙ sym c.requires.ended) (below_all (specs_of c.args.boxes.now.items) c.args.part.now c.requires.right c.requires.go)

pub mark_ended-requires : goal.mark_ended-requires
mark_ended-requires g c =
    subst (λ n. AllBelow n c.args.part.now) (length-map c.args.boxes.now.items spec_of ∙ sym c.requires.ended) (below_all (specs_of c.args.boxes.now.items) c.args.part.now c.requires.right c.requires.go)

pub line_results-requires-clause-devices : goal.line_results-requires-clause-devices
line_results-requires-clause-devices g c =
    let p = c.requires.this.0 in
    let boxes = c.args.boxes.now.items in
    let ordered = (c.in_ok-plan.ensures.plan (specs_of boxes) p (known_subs boxes ∙ sym (c.deref-2.ensures.value ∙ (c.in_ok-subs.ensures ∙ ap (map subs_in) c.deref.ensures.value))) c.requires.this.1.of) in
    let can = can_run c.args.version.0 c.args.phase c.args.part.now c.args.ended.now c.args.relid.now c.in_ok-plan.plan.items boxes p c.requires.this.1 ordered c.requires.ready c.requires.right c.requires.go c.requires.asks c.requires.subs c.requires.channels in
    (c.in_ok-outcomes.ensures.ran p can).long ∙ sym c.requires.ended

pub line_results-requires-clause-has : goal.line_results-requires-clause-has
line_results-requires-clause-has g c =
    let p = c.requires.this.0 in
    let boxes = c.args.boxes.now.items in
    let ordered = (c.in_ok-plan.ensures.plan (specs_of boxes) p (known_subs boxes ∙ sym (c.deref-2.ensures.value ∙ (c.in_ok-subs.ensures ∙ ap (map subs_in) c.deref.ensures.value))) c.requires.this.1.of) in
    let can = can_run c.args.version.0 c.args.phase c.args.part.now c.args.ended.now c.args.relid.now c.in_ok-plan.plan.items boxes p c.requires.this.1 ordered c.requires.ready c.requires.right c.requires.go c.requires.asks c.requires.subs c.requires.channels in
    have_outcomes c.args.version.0 c.args.phase c.args.part.now c.args.ended.now c.args.relid.now boxes c.run_channels.new.boxes.items c.args.settled.now.items c.run_channels.new.settled.items c.in_ok-outcomes.outcomes p c.requires.this.1 (c.in_ok-outcomes.ensures.ran p can)

pub returns-clause-ran : goal.returns-clause-ran
returns-clause-ran g c p this =
    let boxes = c.args.boxes.now.items in
    let ordered = (c.in_ok-plan.ensures.plan (specs_of boxes) p (known_subs boxes ∙ sym (c.deref-2.ensures.value ∙ (c.in_ok-subs.ensures ∙ ap (map subs_in) c.deref.ensures.value))) this.of) in
    let can = can_run c.args.version.0 c.args.phase c.args.part.now c.args.ended.now c.args.relid.now c.in_ok-plan.plan.items boxes p this ordered c.requires.ready c.requires.right c.requires.go c.requires.asks c.requires.subs c.requires.channels in
    let ran = c.in_ok-outcomes.ensures.ran p can in
    let told = subst (λ n. AreTold p ran.channels n c.in_ok-outcomes.outcomes) (sym c.requires.ended) ran.told in
    phase_ran p boxes c.run_channels.new.boxes.items c.args.settled.now.items c.run_channels.new.settled.items c.in_ok-outcomes.outcomes c.args.results.now.items c.line_results.new.results.items ran (c.in_ok-line_results.ensures p ran.channels this.version this.of.part_is this.of.ended_are told)

pub plan_part-requires-clause-devices : goal.plan_part-requires-clause-devices
plan_part-requires-clause-devices g c =
    omega (arith, ap length c.deref-2.ensures.value, ap length c.in_ok-subs.ensures, length-map c.deref.result.now subs_in, ap length c.deref.ensures.value, c.requires.ended)

pub plan_part-requires-clause-most : goal.plan_part-requires-clause-most
plan_part-requires-clause-most g c =
    let boxes = c.args.boxes.now.items in
    few_subs (specs_of boxes) _ c.requires.subs (known_subs boxes ∙ sym (c.deref-2.ensures.value ∙ (c.in_ok-subs.ensures ∙ ap (map subs_in) c.deref.ensures.value)))

pub returns-clause-relid : goal.returns-clause-relid
returns-clause-relid g c p this =
    let boxes = c.args.boxes.now.items in
    c.in_ok-plan.ensures.next (specs_of boxes) p (known_subs boxes ∙ sym (c.deref-2.ensures.value ∙ (c.in_ok-subs.ensures ∙ ap (map subs_in) c.deref.ensures.value))) this.of

pub returns-clause-worked : goal.returns-clause-worked
returns-clause-worked g c p this =
    let boxes = c.args.boxes.now.items in
    let ordered = (c.in_ok-plan.ensures.plan (specs_of boxes) p (known_subs boxes ∙ sym (c.deref-2.ensures.value ∙ (c.in_ok-subs.ensures ∙ ap (map subs_in) c.deref.ensures.value))) this.of) in
    let can = can_run c.args.version.0 c.args.phase c.args.part.now c.args.ended.now c.args.relid.now c.in_ok-plan.plan.items boxes p this ordered c.requires.ready c.requires.right c.requires.go c.requires.asks c.requires.subs c.requires.channels in
    c.in_ok-outcomes.ensures.worked p can
