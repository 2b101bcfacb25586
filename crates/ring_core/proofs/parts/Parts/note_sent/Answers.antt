use Rattle.ring_core.proofs.Listing.{bare_kept_sent}
use Rattle.ring_core.proofs.parts.Parts.note_sent.Goals as goal

pub returns-then-self-eq0-clause-pages : goal.returns-then-self-eq0-clause-pages
returns-then-self-eq0-clause-pages g c =
    let it = c.args.self.now in
    bare_kept_sent it.core.pages it.past.events it.lent.events it.table it.listed c.if-self-eq0.true c.args.packet.now c.sent-self.result.events c.sent-self.ensures
