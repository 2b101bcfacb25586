use Rattle.page_kept.specs.Items.{item_of}
use Rattle.worker_port.specs.Line.{words_at}
use Rattle.std.proofs.Common.{sym, ◌∙◌, arith}
use Rattle.worker_requester.proofs.NextLaws.{none_first, none_more, next_found, next_end}
use Rattle.worker_requester.proofs.next.next_message.Goals as goal

pub loop-i-init : goal.loop-i-init
loop-i-init g c = none_first (g.T.Protocol.format c.args.protocol.now) c.args.port.now.state.got c.args.from

pub returns-then-is_message : goal.returns-then-is_message
returns-then-is_message g c =
    next_found (g.T.Protocol.format c.args.protocol.now) c.args.port.now.state.got c.args.from c.loop-i.i (g.T.Protocol.said (item_of c.got.result.now (words_at c.args.port.now.end.state.pages.got c.loop-i.i))) c.got.ensures.value (sym (c.is_message.ensures (g.T.Protocol.said (item_of c.got.result.now (words_at c.args.port.now.end.state.pages.got c.loop-i.i))) (g.T.Protocol.said_packet (item_of c.got.result.now (words_at c.args.port.now.end.state.pages.got c.loop-i.i)))) ∙ c.if-is_message.true) c.loop-i.auto.i c.loop-i.invariant

pub loop-i-preserved : goal.loop-i-preserved
loop-i-preserved g c =
    none_more (g.T.Protocol.format c.args.protocol.now) c.args.port.now.state.got c.args.from c.loop-i.i (g.T.Protocol.said (item_of c.got.result.now (words_at c.args.port.now.end.state.pages.got c.loop-i.i))) c.got.ensures.value (sym (c.is_message.ensures (g.T.Protocol.said (item_of c.got.result.now (words_at c.args.port.now.end.state.pages.got c.loop-i.i))) (g.T.Protocol.said_packet (item_of c.got.result.now (words_at c.args.port.now.end.state.pages.got c.loop-i.i)))) ∙ c.if-is_message.false) c.loop-i.invariant

pub returns : goal.returns
returns g c = next_end (g.T.Protocol.format c.args.protocol.now) c.args.port.now.state.got c.args.from c.loop-i.i c.got_len-count.result c.got_len-count.ensures c.requires.from (omega (arith, c.loop-i-test.false, c.loop-i.auto.i-end)) c.loop-i.invariant
