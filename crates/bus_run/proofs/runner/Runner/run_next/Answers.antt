use Rattle.std.proofs.Common.{◌≡◌, ◌≤◌, ◌++◌, ◌∷◌, [], ap, sym, subst, ◌∙◌, refl, length, take, drop, arith, rules}
use Rattle.std.specs.Prelude.{All, map, sum_by, MatchOption, ⊤}
use Rattle.std.specs.List.{AllByRecursion}
use Rattle.script_phases.specs.Openings.{subs_of}
use Rattle.std.proofs.lemmas.List.{with_items_is, places}
use Rattle.script_lines.specs.Parts.{parts, offered, asks_in, channels_of}
use Rattle.script_lines.specs.WellFormed.{AllRight, AllGo}
use Rattle.phase_plan.specs.Opened.{parts_left}
use Rattle.bus_plan.specs.Endings.{AreEnded}
use Rattle.device_any.specs.Boxes.{spec_of}
use Rattle.bus_run.specs.Opened.{HaveWorked}
use Rattle.bus_run.specs.Settings.{HasLimits}
use Rattle.bus_run.specs.Whole.{IsThis, specs_of}
use Rattle.bus_run.proofs.SettingLines.{have_limits}
use Rattle.bus_run.proofs.Phases.{the_phase, next_phase, right_drop, right_take, go_drop, go_take, this_phase, cut_off, all_few, count_parts, go_on, no_next}
use Rattle.bus_run.proofs.Told.{all_told}
use Rattle.bus_run.proofs.runner.Runner.run_next.Goals as goal

pub unreachable-requires : goal.unreachable-requires
unreachable-requires g c = no_next c.args.script.now c.args.self.now.phase c.args.self.now.next c.in_default.is c.requires.so_far.left c.requires.more

pub run_script_phase-requires-clause-right : goal.run_script_phase-requires-clause-right
run_script_phase-requires-clause-right g c κs asked =
    let lines = c.args.script.now in
    let front = c.part_at-next.ensures.front in
    subst (AllRight (map spec_of c.args.self.now.boxes.items)) (sym (front.1 ∙ ap (λ l. take front.0 (drop c.in-Some.at l)) c.lines.ensures.lines))
    (right_take (map spec_of c.args.self.now.boxes.items) front.0 (drop c.in-Some.at lines) (right_drop (map spec_of c.args.self.now.boxes.items) c.in-Some.at lines
    (subst (λ k. AllRight k lines) (sym c.requires.so_far.kinds) c.lines.ensures.script.right)))

pub run_script_phase-requires-clause-go : goal.run_script_phase-requires-clause-go
run_script_phase-requires-clause-go g c κs asked =
    let lines = c.args.script.now in
    let front = c.part_at-next.ensures.front in
    subst AllGo (sym (front.1 ∙ ap (λ l. take front.0 (drop c.in-Some.at l)) c.lines.ensures.lines)) (go_take front.0 (drop c.in-Some.at lines) (go_drop c.in-Some.at lines c.lines.ensures.script.go))

pub run_script_phase-requires-clause-asks : goal.run_script_phase-requires-clause-asks
run_script_phase-requires-clause-asks g c κs asked =
    let lines = c.args.script.now in
    let part = c.part_at-next.result.0.now in
    let next = c.part_at-next.result.1 in
    let left = cut_off lines _ part c.args.self.now c.in-Some.at next c.lines.ensures.lines c.requires.so_far c.in-Some.is c.part_at-next.ensures.parts in
    (this_phase (parts lines) c.args.self.now.phase part (parts_left lines next) left).1 (λ p. asks_in p ≤ 4096) c.lines.ensures.script.asks

pub run_script_phase-requires-clause-this : goal.run_script_phase-requires-clause-this
run_script_phase-requires-clause-this g c κs asked =
    let lines = c.args.script.now in
    let old = c.args.self.now in
    let part = c.part_at-next.result.0.now in
    let next = c.part_at-next.result.1 in
    let left = cut_off lines _ part old c.in-Some.at next c.lines.ensures.lines c.requires.so_far c.in-Some.is c.part_at-next.ensures.parts in
    let p = the_phase lines old.phase in
    (p, subst (λ e. IsThis old.version.0 old.phase part e (specs_of old.boxes.items) old.relid p) (sym c.deref_mut.ensures.value) (next_phase lines old part (parts_left lines next) c.requires.so_far c.lines.ensures.script left))

pub run_script_phase-requires-clause-limits : goal.run_script_phase-requires-clause-limits
run_script_phase-requires-clause-limits g c κs asked =
    subst (All HasLimits) (sym c.deref.ensures.value) (have_limits (offered c.args.script.now) c.args.script.now (length c.args.self.now.boxes.items) c.args.self.now.settings.items c.lines.ensures.script.right c.requires.so_far.settings)

pub run_script_phase-requires-clause-phase : goal.run_script_phase-requires-clause-phase
run_script_phase-requires-clause-phase g c κs asked = omega (arith, c.requires.more, (count_parts c.args.script.now).1, c.lines.ensures.script.short)

pub run_script_phase-requires-clause-room : goal.run_script_phase-requires-clause-room
run_script_phase-requires-clause-room g c κs asked =
    omega (arith, c.requires.so_far.relid_few, c.requires.more, (count_parts c.args.script.now).1, c.lines.ensures.script.short)

pub run_script_phase-requires-clause-subs : goal.run_script_phase-requires-clause-subs
run_script_phase-requires-clause-subs g c κs asked =
    subst (AllByRecursion (λ s. subs_of s ≤ 3)) (sym c.requires.so_far.kinds) (all_few (offered c.args.script.now) c.args.script.now c.lines.ensures.script.right)

pub run_script_phase-requires-clause-channels : goal.run_script_phase-requires-clause-channels
run_script_phase-requires-clause-channels g c κs asked = omega (arith, ap (sum_by channels_of) c.requires.so_far.kinds, c.lines.ensures.script.channels)

pub overflow_add-self : goal.overflow_add-self
overflow_add-self g c =
    let few : c.args.self.now.phase ≤ 20000 = omega (arith, c.requires.more, (count_parts c.args.script.now).1, c.lines.ensures.script.short) in
    search (rules, arith, few)

pub returns-clause-so_far : goal.returns-clause-so_far
returns-clause-so_far g c =
    let lines = c.args.script.now in
    let old = c.args.self.now in
    let part = c.part_at-next.result.0.now in
    let next = c.part_at-next.result.1 in
    let left = cut_off lines _ part old c.in-Some.at next c.lines.ensures.lines c.requires.so_far c.in-Some.is c.part_at-next.ensures.parts in
    let within = subst (λ l. MatchOption next ⊤ (λ n. n ≤ length l)) c.lines.ensures.lines c.part_at-next.ensures.within in
    let before = c.deref_mut.ensures.value in
    let whole = with_items_is old.ended c.run_script_phase.new.ended (search (rules, places)) in
    let ran = c.in_ok-run_script_phase.ensures in
    let posted = all_told lines old.phase c.args.path.now c.requires.open in
    go_on lines part c.args.path.now.guest.posted old _ posted.said posted.planned c.requires.so_far c.lines.ensures.script left within
    (λ p this. ran.ran p (subst (λ e. IsThis old.version.0 old.phase part e (specs_of old.boxes.items) old.relid p) (sym before) this))
    (λ p this. ran.relid p (subst (λ e. IsThis old.version.0 old.phase part e (specs_of old.boxes.items) old.relid p) (sym before) this)) ran.few
    (λ earlier marked. subst (AreEnded (earlier ++ part)) (sym whole) (ran.ended earlier (subst (AreEnded earlier) (sym before) marked)))
    (ap length whole ∙ ran.count ∙ ap length before) ran.ready refl refl refl
    (λ p this. subst (λ s. HaveWorked c.args.path.now.guest.posted s p old.settled.items c.run_script_phase.new.settled.items old.work.items c.run_script_phase.new.work.items) c.deref.ensures.value (ran.worked p (subst (λ e. IsThis old.version.0 old.phase part e (specs_of old.boxes.items) old.relid p) (sym before) this)))
