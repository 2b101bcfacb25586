use Rattle.std.proofs.Common.{ℕ, List, rules, subst, take}
use Rattle.std.proofs.lemmas.List.{with_items_is, places}
use Rattle.channel_protocol.specs.Paged.{Lays}
use Rattle.worker_port.proofs.packet_buffer.PacketBuffer.write_answer.Goals as goal

pub returns-clause-back : goal.returns-clause-back
returns-clause-back g c = λ e n i le lays.
    let r = c.write_answer-self-inside in
    let out = with_items_is c.self.inside.words r.new.out (search (rules, places)) in
    let page = with_items_is c.self.inside.page r.new.page (search (rules, places)) in
    r.ensures.back e n i le (subst (λ (z : List ℕ × List ℕ). Lays (take r.result.packet z.0) (take r.result.words z.1) n i) (λ j. (out j, page j)) lays)
