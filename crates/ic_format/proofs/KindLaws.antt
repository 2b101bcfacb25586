-- The channel of a service keeps to what a kind of device keeps to, in its own asks and replies.
use Rattle.std.proofs.Common.{◌≡◌, ℕ, Bool, true, false, cond, ◌&&◌, ◌<◌, List, [], length, Option, Some, None, refl, sym, ap, subst, ◌∙◌, arith}
use Rattle.std.specs.Prelude.{is_none, is_some}
use Rattle.contact.specs.declared.kind.DeviceKind.{DeviceKind}
use Rattle.contact.specs.declared.kind.DeviceKind.TheVariants.{Beat, Down}
use Rattle.util_ic.specs.declared.ic.IcAsk.{IcAsk}
use Rattle.util_ic.specs.declared.ic.IcAsk.TheVariants.{Beat as AskBeat, Down as AskDown}
use Rattle.util_ic.specs.declared.ic.IcAnswer.{IcAnswer}
use Rattle.util_ic.specs.Messages.{ask_bytes, negotiate_bytes}
use Rattle.pkt_desc.specs.Packets.{id_of}
use Rattle.page_kept.specs.Items.{item_of}
use Rattle.channel_protocol.specs.Listed.{answer_in}
use Rattle.channel_protocol.specs.Paged.{LaysSome, bare_item}
use Rattle.device_wire.specs.declared.want.Want.{Want}
use Rattle.device_wire.specs.declared.want.Want.TheVariants.{Step, Request}
use Rattle.device_wire.specs.Codecs.{alone, fixed_back}
use Rattle.device_wire.specs.WireModels.{KeepsWire}
use Rattle.device_wire.proofs.CodecLaws.{Sound, codec_kept}
use Rattle.device_packets.specs.Packets.{is_inband}
use Rattle.device_packets.specs.Said.{said_item}
use Rattle.device_packets.proofs.SaidLaws.{bare_so}
use Rattle.ic_format.specs.declared.ic_step.IcStep.{IcStep}
use Rattle.ic_format.specs.Services.{service_read, service_fixed, service_answer, service_result, service_fits, service_encode, service_codec, ic_model, IsIcAsk}
use Rattle.ic_format.proofs.ServiceLaws.{inband_any, service_any, ask_read, start_waits, start_read, reply_read, served_answers}

module _ (kind : DeviceKind) where
  id_service : (id : ℕ) (a : Want IcStep IcAsk) → id_of (service_encode id a) ≡ id
  id_service id (Step s) = refl
  id_service id (Request ask) = refl

  id_service_fixed : (p : List ℕ) → id_of (service_fixed kind p) ≡ id_of p
  unfolding service_fixed
  id_service_fixed p = refl

  id_service_answer : (p : List ℕ) (r : IcAnswer) → id_of (service_answer p r) ≡ id_of p
  unfolding service_answer
  id_service_answer p r = refl

  service_waits : (id : ℕ) (a : Want IcStep IcAsk) → is_inband (service_encode id a) ≡ is_inband (service_encode 0 a)
  service_waits id (Step s) = inband_any id 0 negotiate_bytes
  service_waits id (Request ask) = inband_any id 0 (ask_bytes ask)

  service_alike : (id : ℕ) (a : Want IcStep IcAsk) → service_read kind (service_encode id a) ≡ service_read kind (service_encode 0 a)
  service_alike id (Step s) = service_any kind id 0 negotiate_bytes
  service_alike id (Request ask) = service_any kind id 0 (ask_bytes ask)

  service_unread : (p : List ℕ) → is_inband p ≡ false → service_read kind p ≡ None
  unfolding service_read
  service_unread p not = rw not refl

  service_reads : (id : ℕ) (a : Want IcStep IcAsk) (q : IcAsk) (r : IcAnswer) → service_read kind (service_encode id a) ≡ Some q → service_fits kind q r ≡ true
      → service_result kind (service_answer (service_encode id a) r) ≡ Some r
  service_reads id (Step s) q r h fits = reply_read kind id 0 negotiate_bytes q r h fits
  service_reads id (Request ask) q r h fits = reply_read kind id 0 (ask_bytes ask) q r h fits

  service_sound : Sound (service_codec kind)
  service_sound = record {
    id_encoded = id_service;
    id_fixed = λ i. id_service_fixed i.packet;
    id_answer = λ i r. id_service_answer i.packet r;
    waits_alike = service_waits;
    read_alike = service_alike;
    unread = λ i not. service_unread i.packet not;
    closes = λ i r. refl;
    closes_fixed = λ i. refl;
    reads = service_reads;
  }

can_read : (kind : DeviceKind) (id : ℕ) (ask : IcAsk) → IsIcAsk kind ask → service_read kind (service_encode id (Request ask)) ≡ Some ask
can_read Beat id (AskBeat seq) can = ask_read id (AskBeat seq) can
can_read Down id (AskDown reason timeout flags) can = ask_read id (AskDown reason timeout flags) can
can_read _ id ask can = absurd can

pub service_kept : (kind : DeviceKind) → KeepsWire (ic_model kind) (IsIcAsk kind)
service_kept kind = codec_kept (service_codec kind) false (λ subs lists. (ic_model kind).steps subs lists) (IsIcAsk kind) (record {
  sound = service_sound kind;
  paged = λ lends. cc;
  ids = λ i. refl;
  few = λ subs lists. omega arith;
  same = λ subs lists others. refl;
  fixed = λ id s. start_read kind id;
  waits = λ s. start_waits 0;
  asked = can_read kind;
})

-- what is written

-- what goes back for a packet, by whether it is in-band, and whether it asks the service
fixed_so : (kind : DeviceKind) (p : List ℕ) (inband asks : Bool) → is_inband p ≡ inband → is_some (service_read kind p) ≡ asks → fixed_back (service_codec kind) (bare_item p) ≡ cond inband (cond asks None (Some (alone (bare_item (service_fixed kind p))))) None
fixed_so kind p false asks inband is = ap (λ b. cond (b && is_none (service_read kind p)) (Some (alone (bare_item (service_fixed kind p)))) None) inband
fixed_so kind p true asks inband is =
    ap (λ b. cond (b && is_none (service_read kind p)) (Some (alone (bare_item (service_fixed kind p)))) None) inband ∙ by_read (service_read kind p) asks is
  where
    by_read : (o : Option IcAsk) (asks : Bool) → is_some o ≡ asks → cond (is_none o) (Some (alone (bare_item (service_fixed kind p)))) None ≡ cond asks None (Some (alone (bare_item (service_fixed kind p))))
    by_read None true is = cc
    by_read None false is = refl
    by_read (Some q) true is = refl
    by_read (Some q) false is = cc

-- nothing goes back for what has no answer, and for what asks the service
pub no_answer : (kind : DeviceKind) (p ws : List ℕ) → is_inband p ≡ false → LaysSome said_item [] [] 0 (answer_in (fixed_back (service_codec kind) (said_item (item_of p ws))))
no_answer kind p ws not = subst (λ o. LaysSome said_item [] [] 0 (answer_in o)) (sym (fixed_so kind p false _ not refl)) refl

pub asks_service : (kind : DeviceKind) (p ws : List ℕ) → is_inband p ≡ true → is_some (service_read kind p) ≡ true → LaysSome said_item [] [] 0 (answer_in (fixed_back (service_codec kind) (said_item (item_of p ws))))
asks_service kind p ws inband asks = subst (λ o. LaysSome said_item [] [] 0 (answer_in o)) (sym (fixed_so kind p true true inband asks)) refl

pub fixed_answer : (kind : DeviceKind) (p out ws : List ℕ) → is_inband p ≡ true → is_some (service_read kind p) ≡ false → out ≡ service_fixed kind p → LaysSome said_item out [] 0 (answer_in (fixed_back (service_codec kind) (said_item (item_of p ws))))
unfolding service_fixed
fixed_answer kind p out ws inband asks written =
    subst (λ o. LaysSome said_item out [] 0 (answer_in o)) (sym (fixed_so kind p true false inband asks))
    (subst (λ x. 0 < length x) (sym written) (omega arith), λ i lays. bare_so out [] 0 i (bare_item (service_fixed kind p)) refl (ap bare_item written) lays)

-- the service's own answer carries its reply
pub answer_is : (kind : DeviceKind) (p : List ℕ) (q : IcAsk) (r : IcAnswer) → service_read kind p ≡ Some q → service_fits kind q r ≡ true → (is_inband p ≡ true) × (service_fixed kind p ≡ service_answer p r)
unfolding service_read
answer_is kind p q r reads fits = (in_band (is_inband p) _ q reads, served_answers kind p q r reads fits)
  where
    in_band : (b : Bool) (o : Option IcAsk) (x : IcAsk) → cond b o None ≡ Some x → b ≡ true
    in_band true o x h = refl
    in_band false o x h = cc
