use Rattle.std.proofs.Common.{◌∙◌, Result, Ok, ap}
use Rattle.control_model.specs.declared.fault.ControlFault.{ControlFault}
use Rattle.control_model.specs.declared.guest_turn.GuestTurn.{GuestTurn}
use Rattle.guest_end.proofs.OfferLaws.{taken_offer, refused_offer}
use Rattle.guest_end.proofs.control.GuestControl.on_offer.Goals as goal

pub returns-in-Ok-clause-turn : goal.returns-in-Ok-clause-turn
returns-in-Ok-clause-turn c =
    let F : GuestTurn → Result GuestTurn ControlFault = λ turn. Ok turn in
    ap F c.offered.ensures.turn ∙ taken_offer c.args.self.now c.args.m.now c.in-Ok.offer c.offered.ensures.port c.in-Ok.ensures.offered

pub returns-in-Err-clause-turn : goal.returns-in-Err-clause-turn
returns-in-Err-clause-turn c = refused_offer c.args.self.now c.args.m.now c.in-Err.fault c.in-Err.ensures.class
