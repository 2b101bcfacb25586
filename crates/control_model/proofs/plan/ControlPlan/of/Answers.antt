use Rattle.std.proofs.Common.{◌≡◌, ◌∙◌, map, sym, ap, subst}
use Rattle.contact.specs.Classes.{offered_kind}
use Rattle.script_lines.specs.declared.line.DeviceSpec.{DeviceSpec}
use Rattle.script_lines.specs.Parts.{kind_of}
use Rattle.script_lines.specs.WellFormed.{IsScript}
use Rattle.control_model.specs.Plan.{IsPlan}
use Rattle.control_model.specs.Openings.{plan_of}
use Rattle.control_model.proofs.ScriptLaws.{plan_is}
use Rattle.control_model.proofs.plan.ControlPlan.of.Goals as goal

pub phases-requires-clause-script : goal.phases-requires-clause-script
phases-requires-clause-script c = subst IsScript (sym c.lines-lines.ensures.lines) c.lines-lines.ensures.script

pub phases-requires-clause-specs : goal.phases-requires-clause-specs
phases-requires-clause-specs c = c.as_slice-2.ensures.value ∙ c.in_ok-specs.ensures

pub invariant_of-result : goal.invariant_of-result
invariant_of-result c =
    let lines = c.lines-lines.result.now in
    let g = c.versions.ensures.guest in
    let h = c.versions.ensures.host in
    let k = c.in_ok-kinds.ensures ∙ ap (map (λ (spec : DeviceSpec). offered_kind (kind_of spec))) (c.as_slice.ensures.value ∙ c.in_ok-specs.ensures) in
    let p = c.in_ok-phases.ensures in
    let made : plan_of lines ≡ record { guest = c.versions.result.0; host = c.versions.result.1; kinds = c.in_ok-kinds.kinds.items; phases = map (λ phase. phase.items) c.in_ok-phases.phases.items } = (λ i. record { guest = sym g i; host = sym h i; kinds = sym k i; phases = sym p i }) in
    subst IsPlan made (plan_is lines (subst IsScript (sym c.lines-lines.ensures.lines) c.lines-lines.ensures.script))

pub returns : goal.returns
returns c =
    let g = c.versions.ensures.guest in
    let h = c.versions.ensures.host in
    let k = c.in_ok-kinds.ensures ∙ ap (map (λ (spec : DeviceSpec). offered_kind (kind_of spec))) (c.as_slice.ensures.value ∙ c.in_ok-specs.ensures) in
    let p = c.in_ok-phases.ensures in
    (λ i. record { guest = g i; host = h i; kinds = k i; phases = p i }) ∙ ap plan_of c.lines-lines.ensures.lines
