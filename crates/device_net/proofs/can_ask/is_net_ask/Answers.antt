use Rattle.std.proofs.Common.{◌≡◌, ◌∙◌, true, false, length, refl, sym, ap, subst, arith}
use Rattle.rndis_msg.specs.declared.rndis.Rndis.TheVariants.{Packet, Query, Set, Reset, Keepalive}
use Rattle.net_format.specs.Nets.{can_ask}
use Rattle.device_net.proofs.AskableLaws.{never_asks}
use Rattle.device_net.proofs.CameLaws.{can_asked}
use Rattle.device_net.proofs.can_ask.is_net_ask.Goals as goal

pub returns-in-Packet-clause-can : goal.returns-in-Packet-clause-can
returns-in-Packet-clause-can c h = let bytes = c.bytes-bytes.ensures in
    subst (λ m. can_ask m ≡ true) (sym c.in-Packet.is) (can_asked (Packet c.in-Packet.body) refl tt (omega (arith, bytes.most, ap length bytes.value)) bytes.bytes)

pub returns-in-Query-clause-can : goal.returns-in-Query-clause-can
returns-in-Query-clause-can c h = let bytes = c.bytes-bytes-in-Query.ensures in
    subst (λ m. can_ask m ≡ true) (sym c.in-Query.is) (can_asked (Query c.in-Query.request_id c.in-Query.oid c.in-Query.body) refl (c.fits.ensures, (c.fits-in-Query.ensures, tt)) (omega (arith, bytes.most, ap length bytes.value)) bytes.bytes)

pub returns-in-Set-clause-can : goal.returns-in-Set-clause-can
returns-in-Set-clause-can c h = let bytes = c.bytes-bytes-in-Set.ensures in
    subst (λ m. can_ask m ≡ true) (sym c.in-Set.is) (can_asked (Set c.in-Set.request_id c.in-Set.oid c.in-Set.body) refl (c.fits-in-Set.ensures, (c.fits-in-Set-2.ensures, tt)) (omega (arith, bytes.most, ap length bytes.value)) bytes.bytes)

pub returns-in-Reset-clause-can : goal.returns-in-Reset-clause-can
returns-in-Reset-clause-can c h = subst (λ m. can_ask m ≡ true) (sym c.in-Reset.is) (can_asked Reset refl tt (omega arith) tt)

pub returns-in-Keepalive-clause-can : goal.returns-in-Keepalive-clause-can
returns-in-Keepalive-clause-can c h = subst (λ m. can_ask m ≡ true) (sym c.in-Keepalive.is) (can_asked (Keepalive c.in-Keepalive.request_id) refl (c.fits-in-Keepalive.ensures, tt) (omega arith) tt)

pub returns-in_default : goal.returns-in_default
returns-in_default c =
    let never : can_ask c.args.message.now ≡ false = never_asks c.args.message.now c.in_default.not-Packet c.in_default.not-Query c.in_default.not-Set c.in_default.not-Reset c.in_default.not-Keepalive in
    record { can = λ h. absurd (cc h); only = λ h. sym never ∙ h }
