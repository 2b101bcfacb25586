use Rattle.std.proofs.Common.{List, ℕ, ◌∷◌, ap, ◌∙◌, take}
use Rattle.channel_trace.specs.declared.event.Event.TheVariants.{Got as GotEvent}
use Rattle.ring_core.proofs.Listing.{bare_kept_took}
use Rattle.ring_core.proofs.parts.Parts.note_taken.Goals as goal

pub returns-then-self-eq0-clause-pages : goal.returns-then-self-eq0-clause-pages
returns-then-self-eq0-clause-pages g c =
    let it = c.args.self.now in
    bare_kept_took it.core.pages it.past.events it.lent.events it.table it.listed c.if-self-eq0.true (take it.core.machine.len it.buf.items) c.got-self.result.events (c.got-self.ensures ∙ ap (λ (w : List ℕ). GotEvent w ∷ it.past.events) c.front-words.ensures)
