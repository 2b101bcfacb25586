-- Of which kind a device is, and what its model is then.
use Rattle.std.proofs.Common.{◌≡◌, ◌⊎◌, inl, inr, ◌<◌, ◌^◌, ℕ, Bool, true, Option, Some, None, refl, sym, ap, subst, ◌∙◌}
use Rattle.contact.specs.declared.kind.DeviceKind.{DeviceKind}
use Rattle.contact.specs.declared.kind.DeviceKind.TheVariants.{Beat, Down, Net}
use Rattle.rndis_msg.specs.declared.rndis.Rndis.{Rndis}
use Rattle.net_dev.specs.declared.reply.NetReply.{NetReply}
use Rattle.script_lines.specs.declared.line.Ask.{Ask}
use Rattle.bus_script.specs.declared.outcome.Reply.{Reply}
use Rattle.bus_script.specs.declared.outcome.Reply.TheVariants.{Net as ReplyNet}
use Rattle.page_kept.specs.declared.item.Item.{Item}
use Rattle.channel_model.specs.Lift.{both_hold}
use Rattle.device_wire.specs.Lifted.{lift_model}
use Rattle.device_wire.proofs.LiftedLaws.{reply_fits}
use Rattle.ic_format.specs.Services.{ic_model}
use Rattle.net_format.specs.Nets.{back_in_form}
use Rattle.net_format.specs.PageNets.{net_model}
use Rattle.net_format.proofs.NetLaws.{fits_parts}
use Rattle.device_kinds.specs.Kinds.{services, nets, model_of}
use Rattle.device_kinds.specs.Formats.{fits_on, read_on}
use Rattle.device_kinds.proofs.KindLaws.{case_nets}

-- its model, by its kind
pub model_at : {inside now kind : DeviceKind} → inside ≡ kind → inside ≡ now → model_of now ≡ model_of kind
model_at is seen = ap model_of (sym seen ∙ is)

-- a service's; `own` is the kind of the wire that was made for it
pub service_at : {inside now own : DeviceKind} → (inside ≡ Beat) ⊎ (inside ≡ Down) → inside ≡ now → own ≡ inside → model_of now ≡ lift_model (ic_model own) services
service_at (inl is) seen of = model_at is seen ∙ ap (λ k. lift_model (ic_model k) services) (sym (of ∙ is))
service_at (inr is) seen of = model_at is seen ∙ ap (λ k. lift_model (ic_model k) services) (sym (of ∙ is))

-- its kind, by a reply that fits
none_fits : {Q R : Type 0} (fits : Q → R → Bool) (q : Option Q) {X : Type 0} → both_hold fits q None ≡ true → X
none_fits fits None h = absurd (cc)
none_fits fits (Some q) h = absurd (cc)

fits_net : (kind : DeviceKind) (q : Ask) (status : ℕ) (back : Option Rndis) → fits_on kind q (ReplyNet status back) ≡ true → kind ≡ Net
fits_net Net q status back h = refl
fits_net _ q status back h = none_fits _ _ h

-- a reply of an adapter that fits
pub record Given (kind : DeviceKind) (status : ℕ) (back : Option Rndis) : Type 0 where
  pub kind_is : kind ≡ Net
  pub small : status < 2 ^ 32
  pub formed : back_in_form back ≡ true

pub net_given : (kind : DeviceKind) (i : Item) (reply : Reply) (status : ℕ) (back : Option Rndis) → reply ≡ ReplyNet status back → (q : Ask) → read_on kind i ≡ Some q → fits_on kind q reply ≡ true → Given kind status back
net_given kind i reply status back is q reads fits =
    let r : NetReply = record { status = status; back = back } in
    let kind_is = fits_net kind q status back (subst (λ x. fits_on kind q x ≡ true) is fits) in
    let own = reply_fits nets net_model (model_of kind) (ap model_of kind_is) case_nets i q reply r (ap nets.own_reply is) reads fits in
    let parts = fits_parts own.0 r own.2 in
    record { kind_is = kind_is; small = parts.0; formed = parts.1 }
