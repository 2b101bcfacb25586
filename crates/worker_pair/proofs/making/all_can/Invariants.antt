use Rattle.std.proofs.Common.{take}
use Rattle.std.specs.List.{AllByRecursion}
use Rattle.device_kinds.specs.Kinds.{IsAskable}
use Rattle.worker_pair.proofs.making.all_can.Given as goal

abbrev pub invariant-loop-ask : goal.invariant-loop-ask
invariant-loop-ask l = AllByRecursion (IsAskable l.kind) (take l.ask-index l.asks)
