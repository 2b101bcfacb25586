-- A channel on which one packet answers each request keeps to the laws of a wire format.
use Rattle.std.proofs.Common.{◌≡◌, ℕ, Bool, true, false, Option, Some, None, refl, sym, ap, ◌∙◌}
use Rattle.std.specs.Prelude.{◌≤◌, length, List, map, ◌&&◌, is_some, is_none, if◌then◌else◌}
use Rattle.channel_model.specs.WireFormat.{Keeps, Back, IsBack}
use Rattle.channel_model.specs.Amounts.{HasNoMessages}
use Rattle.page_kept.specs.declared.item.Item.{Item}
use Rattle.pkt_desc.specs.Packets.{id_of}
use Rattle.channel_protocol.specs.Paged.{KeepsPages}
use Rattle.device_wire.specs.declared.buffer_lists.BufferLists.{BufferLists}
use Rattle.device_wire.specs.declared.want.Want.{Want}
use Rattle.device_wire.specs.declared.want.Want.TheVariants.{Step, Request}
use Rattle.device_wire.specs.WireModels.{KeepsWire, codec_model}
use Rattle.device_wire.specs.Codecs.{Codec, alone, fixed_back, asks_device, result_in, format_by}

-- packets that were made for an ask say the same under whatever id, answers have the id of what they answer, and a reply is read in the answer
pub record Sound {P A Q R : Type 0} (x : Codec P A Q R) : Type 0 where
  pub id_encoded : (id : ℕ) (a : A) → x.id (x.encode id a) ≡ id
  pub id_fixed : (p : P) → x.id (x.fixed p) ≡ x.id p
  pub id_answer : (p : P) (r : R) → x.id (x.answer p r) ≡ x.id p
  pub waits_alike : (id : ℕ) (a : A) → x.waits (x.encode id a) ≡ x.waits (x.encode 0 a)
  pub read_alike : (id : ℕ) (a : A) → x.read (x.encode id a) ≡ x.read (x.encode 0 a)
  pub unread : (p : P) → x.waits p ≡ false → x.read p ≡ None
  pub closes : (p : P) (r : R) → x.answers (x.answer p r) ≡ true
  pub closes_fixed : (p : P) → x.answers (x.fixed p) ≡ true
  pub reads : (id : ℕ) (a : A) (q : Q) (r : R) → x.read (x.encode id a) ≡ Some q → x.fits q r ≡ true → x.said (x.answer (x.encode id a) r) ≡ Some r

module _ {P A Q R : Type 0} (x : Codec P A Q R) (sound : Sound x) where
  alone_back : (id : ℕ) (p : P) → x.id p ≡ id → x.answers p ≡ true → IsBack (format_by x) id (alone p)
  alone_back id p same is = record { besides = tt; one = is; other = refl; same = same }

  fixes : (p : P) → x.waits p ≡ true → x.read p ≡ None → (b : Back P) × (fixed_back x p ≡ Some b) × IsBack (format_by x) (x.id p) b
  fixes p waits none = (alone (x.fixed p), rw (waits, none) refl, alone_back (x.id p) (x.fixed p) (sound.id_fixed p) (sound.closes_fixed p))

  silent : (p : P) → x.waits p ≡ false → fixed_back x p ≡ None
  silent p not = rw not refl

  reads : (id : ℕ) (a : A) (q : Q) (r : R) (before : Option P) → x.read (x.encode id a) ≡ Some q → x.fits q r ≡ true → result_in x a before (x.answer (x.encode id a) r) ≡ Some r
  reads id a q r before h fits =
      let device : asks_device x a ≡ true = ap is_some (sym (sound.read_alike id a) ∙ h) in
      rw device (sound.reads id a q r h fits)

  no_result : (id : ℕ) (a : A) (before : Option P) (p : P) → x.read (x.encode id a) ≡ None → result_in x a before p ≡ None
  no_result id a before p h =
      let device : asks_device x a ≡ false = ap is_some (sym (sound.read_alike id a) ∙ h) in
      rw device refl

  pub codec_keeps : Keeps (format_by x)
  codec_keeps = record {
    given = λ p r waits. alone_back (x.id p) (x.answer p r) (sound.id_answer p r) (sound.closes p r);
    fixes = fixes;
    unread = sound.unread;
    silent = silent;
    asks = λ p not. cc;
    encodes = λ id a. refl;
    waits_ask = sound.waits_alike;
    id_kept = λ id a fits waits. sound.id_encoded id a;
    id_own = λ id a none. ap (λ n. x.encode n a) (sound.id_encoded id a);
    reads = λ id a q r h fits own. reads id a q r None h fits;
    no_result = no_result;
    acks = λ p is. cc;
    ack_asks = λ p is. cc;
  }

  -- no message goes back
  alone_if : (b : Bool) (p : P) (back : Back P) → (if b then Some (alone p) else None) ≡ Some back → back.message ≡ None
  alone_if true p back is = let same : alone p ≡ back = cc in ap (λ (b : Back P). b.message) (sym same)
  alone_if false p back is = cc

  pub codec_silent : HasNoMessages (format_by x)
  codec_silent = record { gives = λ p r. refl; fixed = λ p back is. alone_if (x.waits p && is_none (x.read p)) (x.fixed p) back is }

-- what else a kind with such a channel keeps to: its start-up, and what its requests ask
pub record SoundKind {S Q R : Type 0} (x : Codec Item (Want S Q) Q R) (lends : Bool) (steps : ℕ → BufferLists → List S) (Can : Q → Type 0) : Type 0 where
  pub sound : Sound x
  pub paged : lends ≡ true → KeepsPages (format_by x)
  pub ids : (i : Item) → x.id i ≡ id_of i.packet
  pub few : (subs : ℕ) (lists : BufferLists) → length (steps subs lists) ≤ 5
  pub same : (subs : ℕ) (lists others : BufferLists) → map (codec_model x lends steps).answered (steps subs lists) ≡ map (codec_model x lends steps).answered (steps subs others)
  pub fixed : (id : ℕ) (s : S) → x.read (x.encode id (Step s)) ≡ None
  pub waits : (s : S) → x.waits (x.encode 0 (Step s)) ≡ true
  pub asked : (id : ℕ) (q : Q) → Can q → x.read (x.encode id (Request q)) ≡ Some q

pub codec_kept : {S Q R : Type 0} (x : Codec Item (Want S Q) Q R) (lends : Bool) (steps : ℕ → BufferLists → List S) (Can : Q → Type 0) → SoundKind x lends steps Can → KeepsWire (codec_model x lends steps) Can
codec_kept x lends steps Can kind = record {
  keeps = codec_keeps x kind.sound;
  may = codec_silent x kind.sound;
  paged = kind.paged;
  ids = kind.ids;
  few = kind.few;
  same = kind.same;
  fixed = kind.fixed;
  waits = kind.waits;
  asked = kind.asked;
  says = λ q before i can. ap (λ o. if is_some o then x.said i else None) (kind.asked 0 q can);
}
