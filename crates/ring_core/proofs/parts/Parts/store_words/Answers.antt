use Rattle.ring_core.specs.Listing.{got_in, sent_in}
use Rattle.ring_core.proofs.parts.Parts.store_words.Goals as goal

pub returns-clause-ran : goal.returns-clause-ran
returns-clause-ran g c =
    let it = c.args.self.now in
    c.store_words.ensures.stores.ran (sent_in it.past.events it.lent.events) (got_in it.past.events it.lent.events) it.past.events c.requires.told

pub returns-clause-pages : goal.returns-clause-pages
returns-clause-pages g c =
    let it = c.args.self.now in
    c.store_words.ensures.stores.pages (sent_in it.past.events it.lent.events) (got_in it.past.events it.lent.events)

pub store_words-requires-clause-rests : goal.store_words-requires-clause-rests
store_words-requires-clause-rests g c =
    let it = c.args.self.now in
    record {
      idle = c.requires.idle;
      off = it.listed.off;
      fits = c.requires.fits;
      pages = c.requires.pages;
      count = it.listed.count;
      sent = sent_in it.past.events it.lent.events;
      got = got_in it.past.events it.lent.events;
      past = it.past.events;
      stands = c.requires.told;
    }
