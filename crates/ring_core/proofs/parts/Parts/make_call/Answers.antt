use Rattle.std.proofs.Common.{◌≡◌, ap, sym, ◌∙◌}
use Rattle.channel_trace.specs.Runs.{sent_of, got_of}
use Rattle.page_kept.specs.declared.kept.Kept.{Kept}
use Rattle.ring_machine.specs.declared.page_core.PageCore.{PageCore}
use Rattle.ring_machine.specs.States.{pages_by}
use Rattle.ring_core.proofs.Driving.{left_as}
use Rattle.ring_core.specs.Listing.{kept_in}
use Rattle.ring_core.proofs.Calls.{notes_got, notes_sent}
use Rattle.ring_core.proofs.parts.Parts.make_call.Goals as goal

pub returns-clause-left : goal.returns-clause-left
returns-clause-left g c =
    let it = c.args.self.now in
    let past = it.past.events in
    let d = c.drive.new in
    let m = d.core.machine in
    let p = c.args.packet.now in
    let k : Kept = kept_in it.core.pages past it.lent.events it.table in
    let same : kept_in d.core.pages past it.lent.events it.table ≡ k = ap (λ (x : PageCore). kept_in x past it.lent.events it.table) c.drive.ensures.pages in
    left_as _ _ _ (ap g.S.Seatlike.told c.note.ensures.kept.2) (ap g.S.Seatlike.tale c.note.ensures.kept.2) c.note.ensures.kept.0
    (ap sent_of c.note.ensures.past ∙ sym (notes_sent m.ended m past p d.buf.items)) (ap got_of c.note.ensures.past ∙ sym (notes_got m.ended m past p d.buf.items)) c.note.ensures.past
    (c.note.ensures.pages ∙ ap (λ (x : Kept). pages_by m x p d.buf.items) same) (c.drive.ensures.left (sent_of past) (got_of past) past k c.requires.goes_on)

pub drive-requires : goal.drive-requires
drive-requires g c =
    let it = c.args.self.now in
    record {
      starts = c.requires.starts;
      wide = it.wide;
      fits = c.requires.fits;
      sent = sent_of it.past.events;
      got = got_of it.past.events;
      past = it.past.events;
      kept = kept_in it.core.pages it.past.events it.lent.events it.table;
      begins = c.requires.goes_on;
    }
