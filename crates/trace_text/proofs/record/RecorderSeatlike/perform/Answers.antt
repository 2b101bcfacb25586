use Rattle.std.proofs.Common.{◌≡◌, ◌∙◌, ap, sym, subst, refl, ℕ, Some}
use Rattle.ring_core.specs.Told.{memory_after, answer_of}
use Rattle.trace_text.specs.Recording.{Recorded, RecordsOn, kept_in}
use Rattle.trace_text.proofs.Stepping.{goes_by_a_step}
use Rattle.trace_text.proofs.record.RecorderSeatlike.perform.Goals as goal

pub returns-in-Some-clause-same : goal.returns-in-Some-clause-same
returns-in-Some-clause-same g c =
    let before : Recorded g.row.S.Denot = record { seat = c.self.inside.seat; side = c.self.inside.side; text = c.self.inside.text.items; size = c.self.inside.size; full = c.self.inside.full } in
    let later : Recorded g.row.S.Denot = record { seat = c.perform-v.new.self; side = c.self.inside.side; text = c.keep-self-inside.new.text.items; size = c.self.inside.size; full = c.keep-self-inside.result } in
    let fits = c.requires.fits ∙ sym (ap (λ (r : Recorded g.row.S.Denot). g.S.Seatlike.cells r.seat) c.self.view_is) in
    let told = ap (λ (r : Recorded g.row.S.Denot). g.S.Seatlike.told r.seat) c.self.view_is in
    subst (λ (r : Recorded g.row.S.Denot). RecordsOn g.S.Seatlike.same g.S.Seatlike.cells g.S.Seatlike.tale g.S.Seatlike.told r later) c.self.view_is
    (goes_by_a_step g.S.Seatlike.same g.S.Seatlike.cells g.S.Seatlike.tale g.S.Seatlike.told before later c.in-Some.op c.perform-v.result c.perform-v.ensures.same c.perform-v.ensures.cells refl refl
    (c.keep-self-inside.ensures.kept ∙ ap (kept_in c.self.inside.full c.self.inside.size c.self.inside.text.items) (c.bytes.ensures.value ∙ c.step_line-line.ensures.text))
    (λ m e. subst (λ (d : ℕ). ((g.S.Seatlike.tale c.perform-v.new.self).memory ≡ Some (memory_after d c.in-Some.op m)) × (c.perform-v.result ≡ answer_of d c.in-Some.op m)) fits
    (c.perform-v.ensures.runs m c.in-Some.op e (sym c.in-Some.ensures.whole)))
    (λ u e. (
      _,
      (c.perform-v.ensures.tells u e).0,
      record {
        machine = c.args.core.now.machine;
        call = c.args.core.now.pages.call;
        packet = c.args.packet.now;
        goes_on = c.requires.goes_on u (sym told ∙ e);
        next = sym c.in-Some.ensures.whole;
        told = refl;
      },
    )))

pub returns-in-Some-clause-tells : goal.returns-in-Some-clause-tells
returns-in-Some-clause-tells g c u is = c.perform-v.ensures.tells u (ap (λ (r : Recorded g.row.S.Denot). g.S.Seatlike.told r.seat) c.self.view_is ∙ is)
