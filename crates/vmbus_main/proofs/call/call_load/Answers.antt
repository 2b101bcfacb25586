use Rattle.std.proofs.Common.{refl, subst, arith}
use Rattle.io_edge.specs.Edge.{Grows, GrowsByFront}
use Rattle.vmbus_main.specs.declared.command.Command.TheVariants.{Load}
use Rattle.vmbus_main.proofs.call.call_load.Goals as goal
use Rattle.vmbus_main.proofs.call.call_load.Goals.{in-Ok-write_all, in-Err-write_all}

pub returns-clause-in_part : goal.returns-clause-in_part
returns-clause-in_part g c four left =
    let answer = c.in-Ok.answer in (
      Load c.args.seed c.args.count,
      answer.text.items,
      refl,
      c.in-Ok.ensures.answer,
      subst (λ b. GrowsByFront (g.K.Sink.written c.args.sink.now) (g.K.Sink.written c.write_all.new.sink) b) c.deref.ensures.value c.write_all.ensures.front,
    )

pub returns-clause-written : goal.returns-clause-written
returns-clause-written g c zero left =
    let answer = c.in-Ok.answer in
    elim c.match-write_all.branch [
      | in-Ok-write_all w ↦ (
        Load c.args.seed c.args.count,
        answer.text.items,
        refl,
        c.in-Ok.ensures.answer,
        subst (λ b. Grows (g.K.Sink.written c.args.sink.now) (g.K.Sink.written c.write_all.new.sink) b) c.deref.ensures.value w.in-Ok-write_all.ensures.whole,
      )
      | in-Err-write_all w ↦ absurd (omega (arith, zero, w.status-is))
    ]
