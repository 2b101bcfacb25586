use Rattle.ring_core.proofs.Listing.{kept_due, kept_took, listed_due, listed_took}
use Rattle.ring_core.proofs.parts.Parts.note_taken_page.Goals as goal

pub returns-in-Some-clause-pages : goal.returns-in-Some-clause-pages
returns-in-Some-clause-pages g c =
    let it = c.args.self.now in
    rw (← c.front-words.ensures)
    (kept_due it.core.pages it.past.events it.lent.events it.table it.listed c.requires.some c.front-words.result.now c.took.new.self c.got-self.result.events it.lent.events c.took.ensures.size c.took.ensures.copy c.requires.clear c.got-self.ensures
    c.took.ensures.counts c.in-Some.part c.queue_load.new.self.pages c.queue_load.ensures.pages c.in-Some.ensures.takes)

pub returns-in-None-clause-pages : goal.returns-in-None-clause-pages
returns-in-None-clause-pages g c =
    let it = c.args.self.now in
    rw (← c.front-words.ensures)
    (kept_took it.core.pages it.past.events it.lent.events it.table it.listed c.requires.some c.front-words.result.now c.took.new.self c.got-self.result.events c.got-self-in-None.result.events c.took.ensures.size c.took.ensures.copy c.requires.clear
    c.got-self.ensures c.took.ensures.counts c.got-self-in-None.ensures c.in-None.ensures.takes)

pub invariant_of-self-clause-listed : goal.invariant_of-self-clause-listed
invariant_of-self-clause-listed g c =
    let it = c.args.self.now in
    listed_due it.core.pages it.past.events it.lent.events it.table it.listed c.requires.some c.front-words.result.now c.took.new.self c.got-self.result.events it.lent.events c.took.ensures.size c.took.ensures.copy c.requires.clear c.got-self.ensures
    c.took.ensures.counts c.in-Some.part c.queue_load.new.self.pages c.queue_load.ensures.pages

pub invariant_of-self-in-None-clause-listed : goal.invariant_of-self-in-None-clause-listed
invariant_of-self-in-None-clause-listed g c =
    let it = c.args.self.now in
    listed_took it.core.pages it.past.events it.lent.events it.table it.listed c.requires.some c.front-words.result.now c.took.new.self c.got-self.result.events c.got-self-in-None.result.events c.took.ensures.size c.took.ensures.copy c.requires.clear
    c.got-self.ensures c.took.ensures.counts c.got-self-in-None.ensures
