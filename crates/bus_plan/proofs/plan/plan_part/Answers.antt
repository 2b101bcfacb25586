use Rattle.std.proofs.Common.{◌≡◌, ◌∙◌, ◌+◌, [], length, map, sym, ap, subst, arith}
use Rattle.std.specs.Prelude.{All}
use Rattle.script_phases.specs.Openings.{opened_from, is_opened, firsts, others}
use Rattle.phase_plan.specs.Told.{AreDealt}
use Rattle.phase_plan.specs.Opened.{AreDevices, AreEnded, IsOfDevice, plain}
use Rattle.bus_plan.specs.Plans.{AreOpened, EachOrdered, HasSubs}
use Rattle.bus_plan.proofs.Ordering.{subs_have}
use Rattle.bus_plan.proofs.plan.plan_part.Goals as goal

pub phase_openings-requires-clause-few : goal.phase_openings-requires-clause-few
phase_openings-requires-clause-few c = omega (arith, ap length c.as_slice-2.ensures.value, c.in_ok-devices.ensures.count, c.requires.few)

pub phase_openings-requires-clause-ended : goal.phase_openings-requires-clause-ended
phase_openings-requires-clause-ended c = ap length c.as_slice.ensures.value ∙ c.in_ok-over.ensures.count ∙ sym (ap length c.as_slice-2.ensures.value ∙ c.in_ok-devices.ensures.count)

pub phase_openings-requires-clause-subs : goal.phase_openings-requires-clause-subs
phase_openings-requires-clause-subs c = c.requires.devices ∙ sym (ap length c.as_slice-2.ensures.value ∙ c.in_ok-devices.ensures.count)

pub order_some-requires-clause-within : goal.order_some-requires-clause-within
order_some-requires-clause-within c =
    subst (All (IsOfDevice (length c.as_slice-4.result.now))) (sym c.as_slice-3.ensures.value)
    (subst (λ n. All (IsOfDevice n) c.in_ok-openings.openings.items) (ap length (c.as_slice-2.ensures.value ∙ sym c.as_slice-4.ensures.value)) c.in_ok-openings.ensures.within)

pub order_some-requires-clause-subs : goal.order_some-requires-clause-subs
order_some-requires-clause-subs c = c.requires.devices ∙ sym (ap length c.as_slice-4.ensures.value ∙ c.in_ok-devices.ensures.count)

pub returns-clause-plan : goal.returns-clause-plan
returns-clause-plan c specs p subs this =
    let part = c.args.part.now in
    let over = c.in_ok-over.ensures.ended p.earlier this.ended_are in
    let all : AreDevices p.earlier part specs c.as_slice.result.now c.as_slice-2.result.now c.args.subs.now = record {
      ended_are = subst (AreEnded p.earlier) (sym c.as_slice.ensures.value) over;
      dealt = subst (AreDealt part) (sym c.as_slice-2.ensures.value) c.in_ok-devices.ensures.dealt;
      subs_are = subs;
    } in
    let opened : p.opened ≡ opened_from (is_opened p.earlier part) 0 c.args.next.now specs = this.opened ∙ ap (λ l. opened_from (is_opened p.earlier l) 0 c.args.next.now specs) this.part_is in
    let same : map plain p.opened ≡ c.in_ok-openings.openings.items = ap (map plain) opened ∙ sym (c.in_ok-openings.ensures.opened p.earlier part specs all) in
    let counts : All (HasSubs c.args.subs.now) p.opened = subst (All (HasSubs c.args.subs.now)) (sym opened) (subs_have (is_opened p.earlier part) c.args.next.now specs c.args.subs.now subs) in
    let dealt : AreDealt p.part c.in_ok-devices.devices.items = subst (λ l. AreDealt l c.in_ok-devices.devices.items) (sym this.part_is) c.in_ok-devices.ensures.dealt in
    let first : AreOpened p p.opened c.as_slice-3.result.now c.args.subs.now c.as_slice-4.result.now = record { same = same ∙ sym c.as_slice-3.ensures.value; subs_are = counts; dealt = subst (AreDealt p.part) (sym c.as_slice-4.ensures.value) dealt } in
    let rest : AreOpened p p.opened c.as_slice-5.result.now c.args.subs.now c.as_slice-6.result.now = record { same = same ∙ sym c.as_slice-5.ensures.value; subs_are = counts; dealt = subst (AreDealt p.part) (sym c.as_slice-6.ensures.value) dealt } in
    let none : EachOrdered p [] c.in_ok-plan.plan.items = subst (EachOrdered p []) (sym c.in_ok-plan.ensures.items) tt in
    c.in_ok-order_some-2.ensures p p.opened (firsts p.opened) rest (c.in_ok-order_some.ensures p p.opened [] first none)

pub returns-clause-next : goal.returns-clause-next
returns-clause-next c specs p subs this =
    let part = c.args.part.now in
    let over = c.in_ok-over.ensures.ended p.earlier this.ended_are in
    let all : AreDevices p.earlier part specs c.as_slice.result.now c.as_slice-2.result.now c.args.subs.now = record {
      ended_are = subst (AreEnded p.earlier) (sym c.as_slice.ensures.value) over;
      dealt = subst (AreDealt part) (sym c.as_slice-2.ensures.value) c.in_ok-devices.ensures.dealt;
      subs_are = subs;
    } in
    c.in_ok-openings.ensures.next p.earlier part specs all
    ∙ ap (λ l. c.args.next.now + length (others l)) (sym (this.opened ∙ ap (λ l. opened_from (is_opened p.earlier l) 0 c.args.next.now specs) this.part_is))
