use Rattle.std.proofs.Common.{◌≡◌, ◌*◌, take}
use Rattle.net_dev.specs.Objects.{objects, numbers_of}
use Rattle.net_dev.proofs.objects.object_list.Given as goal

abbrev pub invariant-loop-i : goal.invariant-loop-i
invariant-loop-i l = take (4 * l.i) l.bytes ≡ numbers_of (take l.i objects)
