use Rattle.std.proofs.Common.{refl, subst, arith}
use Rattle.io_edge.specs.Edge.{Grows, GrowsByFront}
use Rattle.vmbus_main.specs.Answer.{IsAnswer}
use Rattle.vmbus_main.specs.declared.command.Command.TheVariants.{Input}
use Rattle.vmbus_main.proofs.Refusing.{told}
use Rattle.vmbus_main.proofs.call.call_input.Goals as goal
use Rattle.vmbus_main.proofs.call.call_input.Goals.{in-Ok-write_all, in-Err}

pub returns-clause-in_part : goal.returns-clause-in_part
returns-clause-in_part g c four =
    let answer = c.in-Ok-answer_input.answer in (
      Input c.args.command,
      answer.text.items,
      refl,
      (
        c.in-Ok.input.items,
        record { whole = c.in-Ok.ensures.whole; short = c.in-Ok.ensures.most },
        c.in-Ok-answer_input.ensures.0,
      ),
      subst (λ b. GrowsByFront (g.K.Sink.written c.args.sink.now) (g.K.Sink.written c.write_all.new.sink) b) c.deref.ensures.value c.write_all.ensures.front,
    )

pub returns-clause-written : goal.returns-clause-written
returns-clause-written g c zero =
    let answer = c.in-Ok-answer_input.answer in
    elim c.match-write_all.branch [
      | in-Ok-write_all w ↦ (
        Input c.args.command,
        answer.text.items,
        refl,
        (
          c.in-Ok.input.items,
          record { whole = c.in-Ok.ensures.whole; short = c.in-Ok.ensures.most },
          c.in-Ok-answer_input.ensures.0,
        ),
        subst (λ b. Grows (g.K.Sink.written c.args.sink.now) (g.K.Sink.written c.write_all.new.sink) b) c.deref.ensures.value w.in-Ok-write_all.ensures.whole,
      )
      | in-Err w ↦ absurd (omega (arith, zero, w.status-is))
    ]

pub returns-clause-exactly : goal.returns-clause-exactly
returns-clause-exactly g c refused =
    let answer = c.in-Ok-answer_input.answer in
    let right = c.in-Ok-answer_input.ensures.0 in
    absurd (told c.args.command (g.S.Source.left c.args.source.now) c.in-Ok.input.items answer.controls answer.settled.items answer.histories.items answer.text.items c.in-Ok.ensures.whole c.in-Ok.ensures.most right refused)
