use Rattle.std.proofs.Common.{map, ◌≡◌, take}
use Rattle.device_any.specs.Boxes.{subs_in}
use Rattle.bus_run.proofs.phase.all_subs.Given as goal

abbrev pub invariant-loop-own : goal.invariant-loop-own
invariant-loop-own l = l.subs.items ≡ map subs_in (take l.own-index l.boxes)
