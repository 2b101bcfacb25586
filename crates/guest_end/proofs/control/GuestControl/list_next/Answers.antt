use Rattle.std.proofs.Common.{◌∙◌, ap}
use Rattle.control_model.specs.Plan.{opening_in}
use Rattle.control_model.specs.Guest.{GuestSeen, lists_next}
use Rattle.guest_end.proofs.control.GuestControl.list_next.Goals as goal

pub returns-in-Some-clause-turn : goal.returns-in-Some-clause-turn
returns-in-Some-clause-turn c =
    c.dial_or_list.ensures.turn ∙ ap (lists_next c.args.self.now c.args.part c.args.turn c.args.place) c.in-Some.ensures.opening
    ∙ ap (λ (g : GuestSeen). lists_next c.args.self.now c.args.part c.args.turn c.args.place (opening_in g.plan c.args.part c.args.place)) c.self.view_is
