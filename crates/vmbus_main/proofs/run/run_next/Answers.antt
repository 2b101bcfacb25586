use Rattle.std.proofs.Common.{◌∙◌, Some, sym, ap}
use Rattle.contact.specs.declared.part.Part.TheVariants.{PhaseStart}
use Rattle.vmbus_main.proofs.Parting.{opens, starts, still, then_between}
use Rattle.vmbus_main.proofs.run.run_next.Goals as goal

pub run-requires-clause-part : goal.run-requires-clause-part
run-requires-clause-part g c =
    λ κs lives. starts c.args.script.now c.args.runner.now c.args.path c.requires.between c.requires.more ∙ ap (λ k. Some (PhaseStart k)) (sym c.phase-phase.ensures)

pub run_next-requires-clause-open : goal.run_next-requires-clause-open
run_next-requires-clause-open g c = λ κs asked.
    opens c.args.script.now c.args.runner.now c.args.path c.in_ok-path.path c.phase-phase.result c.requires.between c.phase-phase.ensures c.in_ok-path.ensures.ran

pub run_next-requires-clause-same : goal.run_next-requires-clause-same
run_next-requires-clause-same g c = λ κs asked. still c.args.script.now c.args.runner.now c.args.path c.in_ok-path.path c.phase-phase.result c.requires.between c.in_ok-path.ensures.ran

pub returns-clause-between : goal.returns-clause-between
returns-clause-between g c =
    then_between c.args.script.now c.args.runner.now c.run_next.new.self c.args.path c.in_ok-path.path c.in_ok-run.field-0 c.phase-phase.result c.requires.between c.phase-phase.ensures c.in_ok-path.ensures.ran
    c.in-Ok.ensures.so_far c.in-Ok.ensures.phase c.run_next.ensures.path c.in_ok-run.ensures.ran
