use Rattle.bus_run.proofs.Opened.{SharedSoFar}
use Rattle.bus_run.proofs.opening.share_all.Given as goal

abbrev pub invariant-loop-device : goal.invariant-loop-device
invariant-loop-device l = SharedSoFar l.plan l.device l.fn.boxes.items l.boxes.items
