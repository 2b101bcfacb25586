use Rattle.vmbus_main.proofs.Parting.{farewell}
use Rattle.vmbus_main.proofs.run.run_parts.Goals as goal

pub run-requires-clause-part : goal.run-requires-clause-part
run-requires-clause-part g c =
    λ κs lives. farewell c.args.script.now c.run_phases.new.runner _ c.in_ok-path-2.ensures.between c.in_ok-path-2.ensures.all

pub returns-clause-ran : goal.returns-clause-ran
returns-clause-ran g c = (c.in_ok-path-2.path, c.in_ok-path-2.ensures.between, c.in_ok-run.ensures.ran)
