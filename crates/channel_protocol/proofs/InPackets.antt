-- Packets that items carry without page words, and the laws of their wire format.
use Rattle.std.proofs.Common.{◌≡◌, ℕ, ◌<◌, List, [], ◌∷◌, length, refl, sym, ap, ◌∙◌, subst, arith, Option, Some, None, is_some, Bool, true, false}
use Rattle.page_kept.specs.declared.item.Item.{Item}
use Rattle.page_kept.specs.Items.{item_of}
use Rattle.channel_model.specs.WireFormat.{WireFormat, Back, Keeps, listed, under_own}
use Rattle.channel_model.specs.Lift.{mapped}
use Rattle.channel_model.specs.Carried.{back_by}
use Rattle.channel_model.specs.Amounts.{HasNoMessages, MayHaveMessages}
use Rattle.channel_model.proofs.Carrying.{carries, closes_all}
use Rattle.channel_protocol.specs.Listed.{answer_in, has_message_in, listed_packet, message_in, packet_in}
use Rattle.channel_protocol.specs.Paged.{Lays, LaysSome, bare_item, in_packets, item_in, packet_of}

none_fixed : (o : Option (Back (List ℕ))) → ((b : Back (List ℕ)) → o ≡ Some b → b.message ≡ None) → (b' : Back Item) → mapped (back_by bare_item bare_item) o ≡ Some b' → b'.message ≡ None
none_fixed None h b' e = absurd (cc)
none_fixed (Some b) h b' e =
    let same : back_by bare_item bare_item b ≡ b' = cc in
    ap (λ (x : Back Item). x.message) (sym same) ∙ ap (mapped {Y = ℕ → Item} (λ (m : ℕ → List ℕ) (own : ℕ). bare_item (m own))) (h b refl)

module _ {A Q R : Type 0} (s : WireFormat (List ℕ) A Q R) where
  pub keeps_in_packets : Keeps s → Keeps (in_packets s)
  keeps_in_packets keeps = carries packet_of bare_item bare_item bare_item s keeps (closes_all packet_of bare_item s (λ p. refl))

  none_in_packets : HasNoMessages s → HasNoMessages (in_packets s)
  none_in_packets none = record {
    gives = λ i r. ap (mapped {Y = ℕ → Item} (λ (m : ℕ → List ℕ) (own : ℕ). bare_item (m own))) (none.gives i.packet r);
    fixed = λ i b' e. none_fixed (s.fixed i.packet) (none.fixed i.packet) b' e;
  }

  pub may_in_packets : (besides : Bool) → MayHaveMessages s besides → MayHaveMessages (in_packets s) besides
  may_in_packets false none = none_in_packets none
  may_in_packets true may = tt

abbrev same : Item → Item
same i = i

none_of : (ws : List ℕ) → length ws ≡ 0 → ws ≡ []
none_of [] e = refl
none_of (w ∷ ws) e = absurd (omega (arith, e))

-- what has no page words is its packet
pub lays_item : (p q ws : List ℕ) (n : ℕ) (i : Item) → n ≡ 0 → p ≡ q → Lays p ws n i → i ≡ bare_item q
lays_item p q ws n i none is lays = (λ j. item_of ((lays.packet_is ∙ is) j) (none_of i.words (lays.long ∙ none) j))

one_listed : (p q : List ℕ) → listed_packet p ≡ q ∷ [] → (0 < length p) × (p ≡ q)
one_listed [] q e = absurd (cc)
one_listed (w ∷ ws) q e = (omega arith, cc)

none_listed : (p : List ℕ) → listed_packet p ≡ [] → p ≡ []
none_listed [] e = refl
none_listed (w ∷ ws) e = absurd (cc)

-- a packet that is there, or none
pub lays_some : (p ws : List ℕ) (n : ℕ) (o : Option (List ℕ)) → n ≡ 0 → listed_packet p ≡ listed o → LaysSome same p ws n (mapped bare_item o)
lays_some p ws n None none e = none_listed p e
lays_some p ws n (Some q) none e = let one = one_listed p q e in (one.0, λ i lays. lays_item p q ws n i none one.1 lays)

pub answer_carried : (o : Option (Back (List ℕ))) → answer_in (mapped (back_by bare_item bare_item) o) ≡ mapped bare_item (answer_in o)
answer_carried None = refl
answer_carried (Some b) = refl

own_carried : (own : ℕ) (o : Option (ℕ → List ℕ)) → under_own own (mapped (λ (m : ℕ → List ℕ) (own : ℕ). bare_item (m own)) o) ≡ mapped bare_item (under_own own o)
own_carried own None = refl
own_carried own (Some m) = refl

pub message_carried : (own : ℕ) (o : Option (Back (List ℕ))) → message_in own (mapped (back_by bare_item bare_item) o) ≡ mapped bare_item (message_in own o)
message_carried own None = refl
message_carried own (Some b) = own_carried own b.message

some_carried : (o : Option (ℕ → List ℕ)) → is_some {T = ℕ → Item} (mapped (λ (m : ℕ → List ℕ) (own : ℕ). bare_item (m own)) o) ≡ is_some o
some_carried None = refl
some_carried (Some m) = refl

pub has_carried : (o : Option (Back (List ℕ))) → has_message_in (mapped (back_by bare_item bare_item) o) ≡ has_message_in o
has_carried None = refl
has_carried (Some b) = some_carried b.message

-- of what goes back
pub fixed_answer : (p ws : List ℕ) (n : ℕ) (o : Option (Back (List ℕ))) → n ≡ 0 → listed_packet p ≡ listed (answer_in o) → LaysSome same p ws n (answer_in (mapped (back_by bare_item bare_item) o))
fixed_answer p ws n o none e = subst (LaysSome same p ws n) (sym (answer_carried o)) (lays_some p ws n (answer_in o) none e)

pub fixed_message : (p ws : List ℕ) (n own : ℕ) (o : Option (Back (List ℕ))) → n ≡ 0 → listed_packet p ≡ listed (message_in own o) → LaysSome same p ws n (message_in own (mapped (back_by bare_item bare_item) o))
fixed_message p ws n own o none e = subst (LaysSome same p ws n) (sym (message_carried own o)) (lays_some p ws n (message_in own o) none e)

pub given_message : (p ws : List ℕ) (n own : ℕ) (b : Back (List ℕ)) → n ≡ 0 → listed_packet p ≡ listed (under_own own b.message) → LaysSome same p ws n (under_own own (back_by bare_item bare_item b).message)
given_message p ws n own b none e = subst (LaysSome same p ws n) (sym (own_carried own b.message)) (lays_some p ws n (under_own own b.message) none e)

pub has_given : (b : Back (List ℕ)) → is_some (back_by bare_item bare_item b).message ≡ is_some b.message
has_given b = some_carried b.message

-- what came before, as its packet
pub before_is : (p ws : List ℕ) → mapped packet_of (item_in same p ws) ≡ packet_in p
before_is [] ws = refl
before_is (w ∷ rest) ws = refl
