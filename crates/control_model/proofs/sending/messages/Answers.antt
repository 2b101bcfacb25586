use Rattle.std.proofs.Common.{IfOk, sym, subst}
use Rattle.control_model.specs.declared.burst.Burst.{Burst}
use Rattle.control_model.specs.Messages.{Sends}
use Rattle.control_model.proofs.sending.messages.Goals as goal

pub returns-in-BufferList-clause-sends : goal.returns-in-BufferList-clause-sends
returns-in-BufferList-clause-sends c = subst (λ (b : Burst). IfOk c.buffer_pages.result (λ sent. Sends c.args.plan.now b sent.items)) (sym c.in-BufferList.is) c.buffer_pages.ensures.sends
