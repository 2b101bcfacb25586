use Rattle.std.proofs.Common.{◌-◌, length}
use Rattle.script_lines.specs.Parts.{parts}
use Rattle.vmbus_main.specs.Between.{IsBetween}
use Rattle.vmbus_main.proofs.run.run_phases.Given as goal

abbrev pub invariant-loop-alloc : goal.invariant-loop-alloc
invariant-loop-alloc g l = IsBetween l.script l.runner l.path

abbrev pub decreases-loop-alloc : goal.decreases-loop-alloc
decreases-loop-alloc g l = length (parts l.script) - l.runner.phase
