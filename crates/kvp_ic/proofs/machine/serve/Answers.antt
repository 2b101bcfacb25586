use Rattle.std.proofs.Common.{◌∙◌, ap, sym, subst}
use Rattle.kvp_ic.specs.declared.message.Kvp.{Kvp}
use Rattle.kvp_ic.specs.Machine.{value_reply, pool_reply, pool_after, IsReplyTo}
use Rattle.kvp_ic.proofs.machine.serve.Goals as goal

pub returns-in-Get-clause-reply : goal.returns-in-Get-clause-reply
returns-in-Get-clause-reply c = c.give_value.ensures.reply ∙ (ap value_reply c.get.ensures ∙ ap (pool_reply c.args.pool.now) (sym c.in-Get.is))

pub returns-in-Get-clause-fits : goal.returns-in-Get-clause-fits
returns-in-Get-clause-fits c = subst (λ (q : Kvp). IsReplyTo q c.give_value.result) (sym c.in-Get.is) c.give_value.ensures.fits

pub returns-in-Get-clause-after : goal.returns-in-Get-clause-after
returns-in-Get-clause-after c = ap (pool_after c.args.pool.now) (sym c.in-Get.is)
