use Rattle.std.proofs.Common.{length, ap, arith}
use Rattle.page_kept.specs.Items.{item_of}
use Rattle.worker_server.proofs.OwedLaws.{both_bare, both_few, fixed_back, fixed_is}
use Rattle.worker_server.proofs.owed.Owed.owe_fixed.Goals as goal

pub returns-clause-value : goal.returns-clause-value
returns-clause-value g c =
    let fixed = (g.T.Protocol.format c.args.protocol.now).fixed (g.T.Protocol.said (item_of c.args.packet.now c.args.words.now)) in
    fixed_is g.T.Protocol.said c.args.own c.write_fixed_message.new.self c.write_fixed.new.self fixed c.write_fixed_message.ensures.fits (omega (arith, ap length c.write_fixed.ensures.none.0, c.write_fixed.ensures.none.1)) c.write_fixed_message.ensures.value c.write_fixed.ensures.value

pub returns-clause-few : goal.returns-clause-few
returns-clause-few g c = both_few c.write_fixed_message.new.self c.write_fixed.new.self

pub returns-clause-bare : goal.returns-clause-bare
returns-clause-bare g c = λ none. both_bare c.write_fixed_message.new.self c.write_fixed.new.self (c.write_fixed_message.ensures.none none) c.write_fixed.ensures.none

pub returns-clause-back : goal.returns-clause-back
returns-clause-back g c = λ lends.
    let t = c.args.protocol.now in
    let s = g.T.Protocol.format t in
    let p = g.T.Protocol.said (item_of c.args.packet.now c.args.words.now) in
    fixed_back g.T.Protocol.said c.args.own _ c.write_fixed_message.new.self c.write_fixed.new.self (s.fixed p) c.write_fixed_message.ensures.fits (c.write_fixed_message.ensures.lent lends) c.write_fixed_message.ensures.value c.write_fixed.ensures.none c.write_fixed.ensures.value (c.write_fixed.ensures.back lends)
