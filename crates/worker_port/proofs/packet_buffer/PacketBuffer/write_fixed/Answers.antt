use Rattle.std.proofs.Common.{ℕ, List, [], rules, subst, sym, take}
use Rattle.std.proofs.lemmas.List.{with_items_is, places}
use Rattle.channel_protocol.specs.Listed.{answer_in}
use Rattle.channel_protocol.specs.Paged.{LaysSome}
use Rattle.page_kept.specs.Items.{item_of}
use Rattle.worker_port.proofs.packet_buffer.PacketBuffer.write_fixed.Goals as goal

pub returns-clause-back : goal.returns-clause-back
returns-clause-back g c = λ e n.
    let r = c.write_fixed-packet in
    let out = with_items_is c.self.inside.words r.new.out (search (rules, places)) in
    subst (λ (z : List ℕ). LaysSome g.T.Protocol.said (take r.result z) [] n (answer_in ((g.T.Protocol.format c.args.protocol.now).fixed (g.T.Protocol.said (item_of c.args.packet.now c.args.words.now))))) (sym out) (r.ensures.back e n)
