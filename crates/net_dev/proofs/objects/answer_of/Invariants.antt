use Rattle.std.proofs.Common.{◌≡◌, drop}
use Rattle.net_dev.specs.Objects.{objects, answer_in, answer_for}
use Rattle.net_dev.proofs.objects.answer_of.Given as goal

abbrev pub invariant-loop-object : goal.invariant-loop-object
invariant-loop-object l = answer_in (drop l.object-index objects) l.oid ≡ answer_for l.oid
