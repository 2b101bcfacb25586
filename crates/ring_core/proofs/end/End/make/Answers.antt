use Rattle.std.proofs.Common.{ap, ◌∙◌, ◌/◌}
use Rattle.ring_machine.specs.Steps.{machine_new}
use Rattle.ring_core.proofs.ListLaws.{keeps_new}
use Rattle.ring_core.proofs.end.End.make.Goals as goal

pub invariant_of-result : goal.invariant_of-result
invariant_of-result g c =
    let s = c.new-sent.ensures in
    let t = c.new-got.ensures in
    keeps_new c.args.side (machine_new c.args.side (c.args.d / 8)) c.args.pages c.in_ok-lean.ensures.0 s.list t.list s.paged t.paged (ap g.S.Seatlike.pages c.in_ok-lean.ensures.1 ∙ c.requires.seat.1)
