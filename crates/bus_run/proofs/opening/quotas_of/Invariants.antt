use Rattle.std.proofs.Common.{◌≡◌, take}
use Rattle.bus_run.specs.Opening.{quotas_of}
use Rattle.bus_run.proofs.opening.quotas_of.Given as goal

abbrev pub invariant-loop-channel : goal.invariant-loop-channel
invariant-loop-channel l = l.quotas.items ≡ quotas_of l.device (take l.channel-index l.plan)
