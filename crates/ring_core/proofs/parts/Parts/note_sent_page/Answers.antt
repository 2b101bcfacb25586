use Rattle.ring_core.proofs.Listing.{kept_sent, listed_sent}
use Rattle.ring_core.proofs.parts.Parts.note_sent_page.Goals as goal

pub returns-clause-pages : goal.returns-clause-pages
returns-clause-pages g c =
    let it = c.args.self.now in
    kept_sent it.core.pages it.past.events it.lent.events it.table it.listed c.requires.some c.args.packet.now c.sent-part.new.self c.sent-self-2.result.events c.sent-self.result.events c.sent-part.ensures.size c.sent-part.ensures.copy c.sent-part.result
    c.words_in.result.now c.words_in.ensures.words c.sent-self-2.ensures c.sent-self.ensures c.sent-part.ensures.sends

pub invariant_of-self-clause-listed : goal.invariant_of-self-clause-listed
invariant_of-self-clause-listed g c =
    let it = c.args.self.now in
    listed_sent it.core.pages it.past.events it.lent.events it.table it.listed c.requires.some c.args.packet.now c.sent-part.new.self c.sent-self-2.result.events c.sent-self.result.events c.sent-part.ensures.size c.sent-part.ensures.copy c.sent-part.result
    c.words_in.result.now c.words_in.ensures.words c.sent-self-2.ensures c.sent-self.ensures c.sent-part.ensures.counts
