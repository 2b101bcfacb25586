use Rattle.std.proofs.Common.{◌≡◌, is_ok, sym, ap, ◌∙◌}
use Rattle.ring_machine.specs.Steps.{is_sent}
use Rattle.ring_core.proofs.ListLaws.{keeps_sent, ok_sent}
use Rattle.ring_core.proofs.end.End.send.Goals as goal

pub invariant_of-self : goal.invariant_of-self
invariant_of-self g c =
    let m = c.send-answer.new.self.driven.state.machine in
    let e = c.send-answer.ensures in
    let k = c.keep_sent.ensures in
    let whole = (c.is_stopped.ensures.not c.if-is_stopped.false).1 in
    let went : c.is_ok-went.result ≡ is_sent m.ended = c.is_ok-went.ensures.value ∙ (ap is_ok (e.ran.0 whole).0 ∙ ok_sent m.ended m) in
    keeps_sent c.send-answer.result c.is_ok-went.result c.args.p.now c.part_along-part.result c.self.invariant c.is_ok-went.ensures.value c.stands.ensures.listed c.part_along-part.ensures.part e.sent e.got.0 e.pages
    (record { kept = k.kept; list = k.list; bare = λ is z. k.bare is (e.count ∙ z); paged = k.paged; places = λ is n. k.places is (λ z. n (sym e.count ∙ z)) })
    (λ is n. k.lent is (λ z. n (sym e.count ∙ z))) (λ is. e.uncounted whole (sym went ∙ is)) e.counts (g.met.S.Seatlike.same_pages _ _ e.same.0)
