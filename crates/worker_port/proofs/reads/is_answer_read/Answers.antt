use Rattle.page_kept.specs.Items.{item_of}
use Rattle.worker_port.proofs.reads.is_answer_read.Goals as goal

pub returns : goal.returns
returns g c = c.is_answer.ensures (g.T.Protocol.said (item_of c.args.packet.now c.args.words.now)) (g.T.Protocol.said_packet (item_of c.args.packet.now c.args.words.now))
