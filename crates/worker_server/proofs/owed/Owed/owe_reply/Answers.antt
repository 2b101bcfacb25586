use Rattle.std.proofs.Common.{arith}
use Rattle.page_kept.specs.Items.{item_of}
use Rattle.worker_server.proofs.OwedLaws.{both_bare, both_few, reply_back, reply_is}
use Rattle.worker_server.proofs.owed.Owed.owe_reply.Goals as goal

pub returns-clause-value : goal.returns-clause-value
returns-clause-value g c =
    let back = (g.T.Protocol.format c.args.protocol.now).gives (g.T.Protocol.said (item_of c.args.packet.now c.args.words.now)) c.args.reply.now in
    reply_is g.T.Protocol.said c.args.own c.write_message.new.self c.write_answer.new.self back c.write_message.ensures.fits c.write_answer.ensures.fits c.write_message.ensures.value (omega (arith, c.write_answer.ensures.packet.two)) c.write_answer.ensures.value

pub returns-clause-few : goal.returns-clause-few
returns-clause-few g c = both_few c.write_message.new.self c.write_answer.new.self

pub returns-clause-bare : goal.returns-clause-bare
returns-clause-bare g c = λ none. both_bare c.write_message.new.self c.write_answer.new.self (c.write_message.ensures.none none) (c.write_answer.ensures.none none)

pub returns-clause-back : goal.returns-clause-back
returns-clause-back g c = λ lends.
    let t = c.args.protocol.now in
    let s = g.T.Protocol.format t in
    let p = g.T.Protocol.said (item_of c.args.packet.now c.args.words.now) in
    reply_back g.T.Protocol.said c.args.own _ c.write_message.new.self c.write_answer.new.self (s.gives p c.args.reply.now) c.write_message.ensures.fits (c.write_message.ensures.lent lends) c.write_message.ensures.value (omega (arith, c.write_answer.ensures.packet.two)) c.write_answer.ensures.fits c.write_answer.ensures.within c.write_answer.ensures.value (c.write_answer.ensures.back lends)
