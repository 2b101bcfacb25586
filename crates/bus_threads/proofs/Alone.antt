-- An end that asks sends nothing but requests and what acknowledges messages.
use Rattle.std.proofs.Common.{◌≡◌, ◌+◌, ◌≤◌, List, [], ◌∷◌, length, filter, Bool, true, false, refl, ap, arith}
use Rattle.std.specs.Prelude.{◌||◌}
use Rattle.std.specs.List.{AllByRecursion}
use Rattle.page_kept.specs.declared.item.Item.{Item}
use Rattle.channel_model.specs.WireFormat.{WireFormat, Keeps}
use Rattle.channel_model.proofs.Opens.{by_test}
use Rattle.channel_model.proofs.Served.{filter_first, filter_past}

or_right : (b c : Bool) → c ≡ true → (b || c) ≡ true
or_right true c e = refl
or_right false c e = e

module _ {A Q R : Type 0} (s : WireFormat Item A Q R) (keeps : Keeps s) where
  abbrev asks : Item → Bool
  asks i = s.is_request i

  abbrev acks : Item → Bool
  acks i = s.is_ack i

  -- none is both
  few : (is : List Item) → length (filter asks is) + length (filter acks is) ≤ length is
  few [] = omega arith
  few (i ∷ is) =
      by_test (s.is_ack i)
      (λ e. omega (arith, few is, ap length (filter_first acks i is e), ap length (filter_past asks i is (keeps.ack_asks i e))))
      (λ e. by_test (s.is_request i)
      (λ f. omega (arith, few is, ap length (filter_past acks i is e), ap length (filter_first asks i is f)))
      (λ f. omega (arith, few is, ap length (filter_past acks i is e), ap length (filter_past asks i is f))))

  pub alone : (is : List Item) → length is ≤ length (filter asks is) + length (filter acks is) → AllByRecursion (λ (p : Item). (s.is_request p || s.is_ack p) ≡ true) is
  alone [] h = tt
  alone (i ∷ is) h =
      by_test (s.is_ack i)
      (λ e. (or_right (s.is_request i) (s.is_ack i) e, alone is (omega (arith, h, ap length (filter_first acks i is e), ap length (filter_past asks i is (keeps.ack_asks i e))))))
      (λ e. by_test (s.is_request i)
      (λ f. (ap (λ b. b || s.is_ack i) f, alone is (omega (arith, h, ap length (filter_past acks i is e), ap length (filter_first asks i is f)))))
      (λ f. absurd (omega (arith, h, few is, ap length (filter_past acks i is e), ap length (filter_past asks i is f)))))
