use Rattle.std.proofs.Common.{◌≡◌, Option, Some, subst}
use Rattle.vmbus_main.specs.declared.command.Command.{Command}
use Rattle.vmbus_main.specs.declared.command.Command.TheVariants.{Load}
use Rattle.vmbus_main.specs.Words.{command_of}
use Rattle.vmbus_main.specs.Call.{IsWritten, IsWrittenInPart}
use Rattle.vmbus_main.proofs.call.vmbus.Goals as goal

pub returns-in-Some-Load-clause-written : goal.returns-in-Some-Load-clause-written
returns-in-Some-Load-clause-written g c zero =
    let left = g.S.Source.left c.args.source.now in
    let named : Some (Load c.in-Some-Load.seed c.in-Some-Load.count) ≡ command_of c.args.words.now = cc in
    let r = c.call_load.result in
    subst (λ (n : Option Command). IsWritten n left (g.K.Sink.written c.args.sink.now) (g.K.Sink.written c.call_load.new.sink) r.controls r.settled.items r.histories.items) named (c.call_load.ensures.written zero left)

pub returns-in-Some-Load-clause-in_part : goal.returns-in-Some-Load-clause-in_part
returns-in-Some-Load-clause-in_part g c four =
    let left = g.S.Source.left c.args.source.now in
    let named : Some (Load c.in-Some-Load.seed c.in-Some-Load.count) ≡ command_of c.args.words.now = cc in
    let r = c.call_load.result in
    subst (λ (n : Option Command). IsWrittenInPart n left (g.K.Sink.written c.args.sink.now) (g.K.Sink.written c.call_load.new.sink) r.controls r.settled.items r.histories.items) named (c.call_load.ensures.in_part four left)
