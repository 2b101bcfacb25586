-- What comes of an offer; one of an unknown class is refused.
use Rattle.std.proofs.Common.{◌≡◌, ◌∙◌, Result, Ok, Err, sym, ap}
use Rattle.vmbus_msg.specs.declared.msg.Msg.{Msg}
use Rattle.vmbus_msg.specs.declared.msg.Msg.TheVariants.{OfferChannel}
use Rattle.contact.specs.declared.channel_offer.OfferFault.{OfferFault}
use Rattle.contact.specs.declared.channel_offer.Offered.{Offered}
use Rattle.contact.specs.Classes.{Offers, HasNoKind}
use Rattle.control_model.specs.Plan.{HasPort}
use Rattle.control_model.specs.declared.fault.ControlFault.{ControlFault}
use Rattle.control_model.specs.declared.fault.ControlFault.TheVariants.{Offer}
use Rattle.control_model.specs.declared.guest_turn.GuestTurn.{GuestTurn}
use Rattle.control_model.specs.Guest.{GuestSeen, guest_hears, on_offer, takes_offer}
use Rattle.control_model.proofs.KindLaws.{kind_of_class, kind_of_none}

pub taken_offer : (g : GuestSeen) (m : Msg) (o : Offered) → HasPort o.kind → Offers m o → (let r : Result GuestTurn ControlFault = Ok (takes_offer g g.awaits o.kind o.sub o.relid) in r) ≡ guest_hears g m
taken_offer g (OfferChannel padding if_type if_instance reserved1 reserved2 chn_flags mmio user sub reserved3 relid monitorid monitor interrupt connection) o fits offers =
    (λ i. Ok (takes_offer g g.awaits o.kind (offers.2 i) (offers.1 i))) ∙ ap (on_offer g if_type sub relid) (sym (kind_of_class o.kind if_type fits offers.0))
taken_offer g _ o fits offers = absurd offers

pub refused_offer : (g : GuestSeen) (m : Msg) (fault : OfferFault) → HasNoKind m fault → (let r : Result GuestTurn ControlFault = Err (Offer fault) in r) ≡ guest_hears g m
refused_offer g (OfferChannel padding if_type if_instance reserved1 reserved2 chn_flags mmio user sub reserved3 relid monitorid monitor interrupt connection) fault none =
    let F : OfferFault → Result GuestTurn ControlFault = λ f. Err (Offer f) in
    ap F none.0 ∙ ap (on_offer g if_type sub relid) (sym (kind_of_none if_type none.1))
refused_offer g _ fault none = absurd none
