use Rattle.std.proofs.Common.{◌≡◌, take}
use Rattle.guest_end.specs.Told.{lists_told}
use Rattle.guest_end.proofs.control.last_lists.Given as goal

abbrev pub invariant-loop-m : goal.invariant-loop-m
invariant-loop-m l = lists_told l.relid (0, 0) (take l.m-index l.posted) ≡ l.told
