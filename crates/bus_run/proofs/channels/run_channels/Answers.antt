use Rattle.std.proofs.Common.{◌≡◌, arith, length, map, sym, ◌∙◌, ap, subst}
use Rattle.std.proofs.lemmas.List.{length-map}
use Rattle.bus_run.specs.Closing.{AllCome}
use Rattle.bus_run.specs.Due.{due_of}
use Rattle.bus_run.specs.Opening.{AreAway, CanOpenAll, OpensAt, quotas_of, seats_given}
use Rattle.bus_run.proofs.Items.{with_long}
use Rattle.bus_run.proofs.OpenedAs.{have_worked}
use Rattle.bus_run.proofs.Assembling.{all_come, all_back, channels_ran, still_ready}
use Rattle.bus_run.proofs.channels.run_channels.Goals as goal

pub share_all-requires-clause-can : goal.share_all-requires-clause-can
share_all-requires-clause-can g c = subst (λ l. CanOpenAll l c.args.boxes.now.items) (sym c.deref.ensures.value) c.requires.can.1.can

pub open_all-requires-clause-away : goal.open_all-requires-clause-away
open_all-requires-clause-away g c = (c.args.boxes.now.items, c.requires.can.1.can, subst (λ l. AreAway l c.args.boxes.now.items c.share_all.new.boxes.items) c.deref.ensures.value c.in-Ok.ensures)

pub open_all-requires-clause-settings : goal.open_all-requires-clause-settings
open_all-requires-clause-settings g c = c.requires.settings ∙ sym c.in-Ok.ensures.count

pub run_phase-requires-clause-few : goal.run_phase-requires-clause-few
run_phase-requires-clause-few g c κs within =
    let old = c.args.boxes.now.items in
    let can = c.requires.can.1.can in
    let all = c.in-Ok-open_all.ensures old can (subst (λ l. AreAway l c.args.boxes.now.items c.share_all.new.boxes.items) c.deref.ensures.value c.in-Ok.ensures) in
    let opened = all.opened in
    omega (arith, with_long (OpensAt c.args.path.now.guest.posted c.args.settings.now old) opened.given c.in-Ok-open_all.pairs.items opened.opens, length-map opened.given (λ g. g.order), ap length opened.planned, can.few)

pub close_all-requires : goal.close_all-requires
close_all-requires g c =
    let can = c.requires.can.1.can in
    let old = c.args.boxes.now.items in
    let before = c.share_all.new.boxes.items in
    let between = c.open_all.new.boxes.items in
    let pairs = c.in-Ok-open_all.pairs.items in
    let away = (subst (λ l. AreAway l c.args.boxes.now.items c.share_all.new.boxes.items) c.deref.ensures.value c.in-Ok.ensures) in
    let all = c.in-Ok-open_all.ensures old can away in
    let dues : c.deref-3.result.now ≡ map due_of c.args.plan.items = (c.deref-3.ensures.value ∙ (c.in-Ok-all_due.ensures ∙ ap (map due_of) c.deref-2.ensures.value)) in
    (old, all.opened.given, subst (λ l. AllCome l old all.opened.given c.open_all.new.boxes.items c.run_phase.new.done.items) (sym dues) (all_come c.args.path.now.guest.posted c.args.settings.now c.args.plan.items old before between pairs c.run_phase.new.done.items can away all c.run_phase.ensures))

pub unite_all-requires : goal.unite_all-requires
unite_all-requires g c =
    let can = c.requires.can.1.can in
    let old = c.args.boxes.now.items in
    let before = c.share_all.new.boxes.items in
    let between = c.open_all.new.boxes.items in
    let pairs = c.in-Ok-open_all.pairs.items in
    let away = (subst (λ l. AreAway l c.args.boxes.now.items c.share_all.new.boxes.items) c.deref.ensures.value c.in-Ok.ensures) in
    let all = c.in-Ok-open_all.ensures old can away in
    let dues : c.deref-3.result.now ≡ map due_of c.args.plan.items = (c.deref-3.ensures.value ∙ (c.in-Ok-all_due.ensures ∙ ap (map due_of) c.deref-2.ensures.value)) in
    let come = subst (λ l. AllCome l old all.opened.given c.open_all.new.boxes.items c.run_phase.new.done.items) (sym dues) (all_come c.args.path.now.guest.posted c.args.settings.now c.args.plan.items old before between pairs c.run_phase.new.done.items can away all c.run_phase.ensures) in
    let closed = c.in-Ok-close_all.ensures.closed old all.opened.given come in
    let back = all_back c.args.path.now.guest.posted c.args.settings.now c.args.phase c.args.phase c.args.plan.items old before between c.close_all.new.boxes.items pairs c.args.settled.now.items c.close_all.new.settled.items c.in-Ok-close_all.outcomes c.requires.ready away all closed in
    (old, λ k. quotas_of k c.args.plan.items, λ k. seats_given k all.opened.given, back)

pub returns-clause-ran : goal.returns-clause-ran
returns-clause-ran g c p run =
    let can = run.can in
    let old = c.args.boxes.now.items in
    let before = c.share_all.new.boxes.items in
    let between = c.open_all.new.boxes.items in
    let pairs = c.in-Ok-open_all.pairs.items in
    let away = (subst (λ l. AreAway l c.args.boxes.now.items c.share_all.new.boxes.items) c.deref.ensures.value c.in-Ok.ensures) in
    let all = c.in-Ok-open_all.ensures old can away in
    let dues : c.deref-3.result.now ≡ map due_of c.args.plan.items = (c.deref-3.ensures.value ∙ (c.in-Ok-all_due.ensures ∙ ap (map due_of) c.deref-2.ensures.value)) in
    let come = subst (λ l. AllCome l old all.opened.given c.open_all.new.boxes.items c.run_phase.new.done.items) (sym dues) (all_come c.args.path.now.guest.posted c.args.settings.now c.args.plan.items old before between pairs c.run_phase.new.done.items can away all c.run_phase.ensures) in
    let closed = c.in-Ok-close_all.ensures.closed old all.opened.given come in
    let back = all_back c.args.path.now.guest.posted c.args.settings.now c.args.phase c.args.phase c.args.plan.items old before between c.close_all.new.boxes.items pairs c.args.settled.now.items c.close_all.new.settled.items c.in-Ok-close_all.outcomes c.requires.ready away all closed in
    channels_ran c.args.path.now.guest.posted c.args.settings.now c.args.phase c.args.plan.items p old before between c.close_all.new.boxes.items c.unite_all.new.boxes.items pairs c.args.settled.now.items c.close_all.new.settled.items c.in-Ok-close_all.outcomes run away all closed
    (c.unite_all.ensures old (λ k. quotas_of k c.args.plan.items) (λ k. seats_given k all.opened.given) back)

pub returns-clause-ready : goal.returns-clause-ready
returns-clause-ready g c =
    let p = c.requires.can.0 in
    let can = c.requires.can.1.can in
    let old = c.args.boxes.now.items in
    let before = c.share_all.new.boxes.items in
    let between = c.open_all.new.boxes.items in
    let pairs = c.in-Ok-open_all.pairs.items in
    let away = (subst (λ l. AreAway l c.args.boxes.now.items c.share_all.new.boxes.items) c.deref.ensures.value c.in-Ok.ensures) in
    let all = c.in-Ok-open_all.ensures old can away in
    let dues : c.deref-3.result.now ≡ map due_of c.args.plan.items = (c.deref-3.ensures.value ∙ (c.in-Ok-all_due.ensures ∙ ap (map due_of) c.deref-2.ensures.value)) in
    let come = subst (λ l. AllCome l old all.opened.given c.open_all.new.boxes.items c.run_phase.new.done.items) (sym dues) (all_come c.args.path.now.guest.posted c.args.settings.now c.args.plan.items old before between pairs c.run_phase.new.done.items can away all c.run_phase.ensures) in
    let closed = c.in-Ok-close_all.ensures.closed old all.opened.given come in
    let back = all_back c.args.path.now.guest.posted c.args.settings.now c.args.phase c.args.phase c.args.plan.items old before between c.close_all.new.boxes.items pairs c.args.settled.now.items c.close_all.new.settled.items c.in-Ok-close_all.outcomes c.requires.ready away all closed in
    still_ready c.args.path.now.guest.posted c.args.settings.now c.args.phase c.args.plan.items p old before between c.close_all.new.boxes.items c.unite_all.new.boxes.items pairs c.args.settled.now.items c.close_all.new.settled.items c.in-Ok-close_all.outcomes c.requires.can.1 away all closed
    (c.unite_all.ensures old (λ k. quotas_of k c.args.plan.items) (λ k. seats_given k all.opened.given) back) c.requires.ready

pub returns-clause-worked : goal.returns-clause-worked
returns-clause-worked g c p run =
    let old = c.args.boxes.now.items in
    let all = c.in-Ok-open_all.ensures old run.can (subst (λ l. AreAway l c.args.boxes.now.items c.share_all.new.boxes.items) c.deref.ensures.value c.in-Ok.ensures) in
    have_worked c.args.phase c.args.path.now.guest.posted c.args.settings.now p old c.args.plan.items c.share_all.new.boxes.items c.open_all.new.boxes.items c.in-Ok-open_all.pairs.items c.run_phase.new.done.items c.args.settled.now.items c.close_all.new.settled.items c.args.work.now.items _ _ c.requires.settings run all c.run_phase.ensures
    c.in-Ok-close_all.ensures.left c.in-Ok-push.ensures.items (ap (λ v. v.items) c.of-opened.ensures) (ap (λ v. v.items) c.of-left.ensures)
