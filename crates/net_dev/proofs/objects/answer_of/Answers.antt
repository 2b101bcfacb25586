use Rattle.std.proofs.Common.{sym, ◌∙◌}
use Rattle.net_dev.specs.Objects.{objects}
use Rattle.net_dev.specs.declared.objects.Answer.TheVariants.{Objects}
use Rattle.net_dev.proofs.ObjectLaws.{answer_step}
use Rattle.net_dev.proofs.objects.answer_of.Goals as goal

pub loop-object-preserved : goal.loop-object-preserved
loop-object-preserved c = sym (answer_step objects c.loop-object.object-index c.args.oid (record { oid = 0; answer = Objects }) c.loop-object-test.true c.if-object-oid.false) ∙ c.loop-object.invariant
