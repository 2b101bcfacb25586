-- What came just before the last packet.
use Rattle.page_kept.specs.declared.item.Item.{Item}
use Rattle.page_kept.specs.Items.{item_of}
use Rattle.std.proofs.Common.{◌≡◌, ℕ, zero, suc, ◌+◌, ◌<◌, List, [], ◌∷◌, ◌++◌, length, cond, true, false, refl, sym, ap, ◌∙◌, arith, Some, None, length-append}
use Rattle.std.specs.Prelude.{slice_get}
use Rattle.channel_protocol.specs.Paged.{item_in}
use Rattle.ring_machine.specs.States.{IsPacket}
use Rattle.channel_model.specs.WireFormat.{WireFormat}
use Rattle.channel_model.specs.Asker.{since}
use Rattle.channel_model.proofs.Asking.{since_more}

-- the last but one stands last of those before the last
before_last : (before : List Item) (p q : Item) (i : ℕ) → i + 2 ≡ length (before ++ p ∷ []) → slice_get (before ++ p ∷ []) i ≡ Some q → (first : List Item) × (before ≡ first ++ q ∷ [])
before_last [] p q i e at = absurd (omega (arith, e))
before_last (x ∷ []) p q zero e at = let same : Some x ≡ Some q = at in let is : x ≡ q = cc in ([], ap (λ y. y ∷ []) is)
before_last (x ∷ []) p q (suc i) e at = absurd (omega (arith, e))
before_last (x ∷ y ∷ before) p q zero e at = absurd (omega (arith, e, length-append before (p ∷ [])))
before_last (x ∷ y ∷ before) p q (suc i) e at =
    let rest = before_last (y ∷ before) p q i (omega (arith, e)) at in (x ∷ rest.0, ap (λ l. x ∷ l) rest.1)

-- the packet before, as it is read
pub packet_is : (said : Item → Item) (q : List ℕ) (words : List ℕ) → IsPacket q → item_in said q words ≡ Some (said (item_of q words))
packet_is said [] words h = absurd (omega (arith, h.two))
packet_is said (w ∷ ws) words h = refl

module _ {A Q R : Type 0} (s : WireFormat Item A Q R) where
  -- one packet came
  pub none_before : (before : List Item) (p : Item) → length (before ++ p ∷ []) < 2 → since s None before ≡ None
  none_before [] p e = refl
  none_before (x ∷ before) p e = absurd (omega (arith, e, length-append before (p ∷ [])))

  answer_before : (before : List Item) (p q : Item) (i : ℕ) → i + 2 ≡ length (before ++ p ∷ []) → slice_get (before ++ p ∷ []) i ≡ Some q → since s None before ≡ cond (s.is_answer q) None (Some q)
  answer_before before p q i e at =
      let first = before_last before p q i e at in
      ap (since s None) first.1 ∙ since_more s None first.0 q

  -- the one before the last is an answer, or it isn't
  pub answered_before : (got before : List Item) (p q : Item) (i : ℕ) → got ≡ before ++ p ∷ [] → i + 2 ≡ length got → slice_get got i ≡ Some q → s.is_answer q ≡ true → None ≡ since s None before
  answered_before got before p q i is e at answers =
      sym (answer_before before p q i (e ∙ ap length is) (ap (λ l. slice_get l i) (sym is) ∙ at) ∙ ap (λ b. cond b None (Some q)) answers)

  pub other_before : (said : Item → Item) (got before : List Item) (p : Item) (r words : List ℕ) (i : ℕ) → got ≡ before ++ p ∷ [] → i + 2 ≡ length got → slice_get got i ≡ Some (said (item_of r words)) → IsPacket r → s.is_answer (said (item_of r words)) ≡ false
      → item_in said r words ≡ since s None before
  other_before said got before p r words i is e at packet none =
      packet_is said r words packet ∙ sym (answer_before before p (said (item_of r words)) i (e ∙ ap length is) (ap (λ l. slice_get l i) (sym is) ∙ at) ∙ ap (λ b. cond b None (Some (said (item_of r words)))) none)
