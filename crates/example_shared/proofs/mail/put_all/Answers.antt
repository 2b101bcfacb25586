use Rattle.std.proofs.Common.{ap, ◌∙◌, arith}
use Rattle.mail_box.specs.Mail.{Post}
use Rattle.example_shared.proofs.Putting.{may_put}
use Rattle.example_shared.proofs.mail.put_all.Goals as goal

pub put-requires-clause-may : goal.put-requires-clause-may
put-requires-clause-may g c =
    let same = c.loop.invariant.post in
    may_put c.loop.post.named c.args.messages.now c.loop.post.put c.loop.post.last c.index-messages-next.result c.loop.next
    (ap (λ (p : Post). p.named) same ∙ c.requires.named) (ap (λ (p : Post). p.put) same) (omega (arith, c.if-next-messages.false)) c.index-messages-next.is
