use Rattle.std.proofs.Common.{ℕ, List, rules, subst, sym, take}
use Rattle.std.proofs.lemmas.List.{with_items_is, places}
use Rattle.channel_protocol.specs.Listed.{message_in}
use Rattle.channel_protocol.specs.Paged.{LaysSome}
use Rattle.page_kept.specs.Items.{item_of}
use Rattle.worker_port.proofs.packet_buffer.PacketBuffer.write_fixed_message.Goals as goal

pub returns-clause-value : goal.returns-clause-value
returns-clause-value g c =
    let r = c.write_fixed_message-self-inside in
    let out = with_items_is c.self.inside.words r.new.out (search (rules, places)) in
    let page = with_items_is c.self.inside.page r.new.page (search (rules, places)) in
    subst (λ (z : List ℕ × List ℕ). LaysSome g.T.Protocol.said (take r.result.packet z.0) (take r.result.words z.1) r.result.lent (message_in c.args.own ((g.T.Protocol.format c.args.protocol.now).fixed (g.T.Protocol.said (item_of c.args.packet.now c.args.words.now))))) (λ j. (sym out j, sym page j)) r.ensures.value
