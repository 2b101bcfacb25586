-- What the serving worker's steps make of the pages under the ids of its own messages.
use Rattle.std.proofs.Common.{◌≡◌, ℕ, ◌≤◌, ◌==◌, Bool, true, false, cond, List, [], ◌∷◌, ◌++◌, refl, sym, ap, ◌∙◌, subst, inl, inr, arith}
use Rattle.std.specs.Prelude.{◌||◌}
use Rattle.std.proofs.lemmas.Bool.Decides.{nat_tests}
use Rattle.channel_trace.specs.declared.event.Event.{Event}
use Rattle.channel_trace.specs.declared.event.Event.TheVariants.{Sent, Got}
use Rattle.channel_model.specs.WireFormat.{WireFormat}
use Rattle.channel_model.specs.Acks.{AreApart, is_in, own_open, removed}
use Rattle.channel_model.specs.Workers.{OwnKept}
use Rattle.channel_model.proofs.Acking.{in_removed}
use Rattle.channel_model.proofs.Opens.{by_test}
use Rattle.channel_protocol.specs.Paged.{KeepsPages}
use Rattle.page_home_laws.specs.Home.{HasOrLent, closed, opened}
use Rattle.page_kept.specs.declared.item.Item.{Item}
use Rattle.page_kept.specs.declared.owner.Owner.{Owner}
use Rattle.page_kept.specs.Counts.{bit}
use Rattle.pkt_desc.specs.Packets.{id_of, kind_of}
use Rattle.ring_machine.specs.declared.state.EndState.{EndState}
use Rattle.worker_port.specs.Homes.{HasHome}
use Rattle.worker_server.specs.Sheets.{is_own_open}
use Rattle.worker_server.proofs.OwnLaws.{in_append}

-- where more ids are open, the end still has or has lent each page
has_more : (f g : ℕ → Bool) (t : ℕ) (o : Owner) → (f t ≡ true → g t ≡ true) → HasOrLent f t o → HasOrLent g t o
has_more f g t o more (inl h) = inl h
has_more f g t o more (inr h) = inr (more h.0, h.1)

bits : (a b : Bool) → (a ≡ true → b ≡ true) → bit a ≤ bit b
bits true true h = omega arith
bits true false h = absurd (let bad : false ≡ true = h refl in cc)
bits false b h = omega arith

home_more : (f g : ℕ → Bool) (e : EndState) → ((t : ℕ) → f t ≡ true → g t ≡ true) → HasHome f e → HasHome g e
home_more f g e more h some =
    let k = h some in
    record {
      page = λ t q one most at within. has_more f g t _ (more t) (k.page t q one most at within);
      lent = λ q t n is. let z = k.lent q t n is in (z.0, more t z.1);
      completed = λ t one. omega (arith, k.completed t one, bits (f t) (g t) (more t));
    }

closed_if : (b c : Bool) → cond b false c ≡ true → c ≡ true
closed_if true c e = absurd (cc)
closed_if false c e = e

-- the ids of a list, with one more behind, and without one
or_cond : (a b c : Bool) → (a || cond b true c) ≡ cond b true (a || c)
or_cond true true c = refl
or_cond true false c = refl
or_cond false b c = refl

in_last : (os : List ℕ) (id t : ℕ) → is_in t (os ++ id ∷ []) ≡ cond (t == id) true (is_in t os)
in_last [] id t =
    by_test (t == id)
    (λ e. let is : (id == t) ≡ true = grind (arith, nat_tests, e) in ap (λ b. b || false) is ∙ sym (ap (λ b. cond b true false) e))
    (λ e. let is : (id == t) ≡ false = grind (arith, nat_tests, e) in ap (λ b. b || false) is ∙ sym (ap (λ b. cond b true false) e))
in_last (o ∷ os) id t = ap (λ b. (o == t) || b) (in_last os id t) ∙ or_cond (o == t) (t == id) (is_in t os)

or_first : (a b : Bool) → (a || b) ≡ false → a ≡ false
or_first true b e = cc
or_first false b e = refl

apart_first : (os ws : List ℕ) → AreApart (os ++ ws) → AreApart os
apart_first [] ws h = tt
apart_first (o ∷ os) ws h = (or_first (is_in o os) (is_in o ws) (sym (in_append o os ws) ∙ h.0), apart_first os ws h.1)

module _ {A Q R : Type 0} (s : WireFormat Item A Q R) (past : List (Event Item)) where
  -- a message was sent, and anything else
  pub own_told : (p : Item) → s.is_message p ≡ true → opened (is_own_open s past) (s.id_of p) ≡ is_own_open s (Sent p ∷ past)
  own_told p is =
      let os : List ℕ = own_open s past in
      let all : own_open s (Sent p ∷ past) ≡ os ++ s.id_of p ∷ [] = ap (λ b. cond b (os ++ s.id_of p ∷ []) os) is in
      let at : (t : ℕ) → opened (is_own_open s past) (s.id_of p) t ≡ is_own_open s (Sent p ∷ past) t = λ t. sym (in_last os (s.id_of p) t) ∙ ap (is_in t) (sym all) in
      λ i t. at t i

  pub own_said : (p : Item) → s.is_message p ≡ false → is_own_open s past ≡ is_own_open s (Sent p ∷ past)
  own_said p is =
      let os : List ℕ = own_open s past in
      let all : own_open s (Sent p ∷ past) ≡ os = ap (λ b. cond b (os ++ s.id_of p ∷ []) os) is in
      λ i t. is_in t (sym all i)

  -- an acknowledgement was taken, and anything else
  own_acked : (p : Item) → AreApart (own_open s past) → s.is_ack p ≡ true → closed (is_own_open s past) (s.id_of p) ≡ is_own_open s (Got p ∷ past)
  own_acked p apart is =
      let os : List ℕ = own_open s past in
      let all : own_open s (Got p ∷ past) ≡ removed (s.id_of p) os = ap (λ b. cond b (removed (s.id_of p) os) os) is in
      let at : (t : ℕ) → closed (is_own_open s past) (s.id_of p) t ≡ is_own_open s (Got p ∷ past) t = λ t. sym (in_removed os (s.id_of p) t apart) ∙ ap (is_in t) (sym all) in
      λ i t. at t i

  own_came : (p : Item) → s.is_ack p ≡ false → is_own_open s past ≡ is_own_open s (Got p ∷ past)
  own_came p is =
      let os : List ℕ = own_open s past in
      let all : own_open s (Got p ∷ past) ≡ os = ap (λ b. cond b (removed (s.id_of p) os) os) is in
      λ i t. is_in t (sym all i)

  -- a packet was taken: a completion that acknowledges a message closes it, and one that doesn't leaves what is open
  pub home_came : (kp : KeepsPages s) (p : Item) (owed : List Item) (table : ℕ → Bool) (new : EndState) → OwnKept s past owed table
      → HasHome (cond (kind_of p.packet == 11) (closed (is_own_open s past) (id_of p.packet)) (is_own_open s past)) new → HasHome (is_own_open s (Got p ∷ past)) new
  home_came kp p owed table new own h =
      let f = is_own_open s past in
      by_test (s.is_ack p)
      (λ e.
      let done = kp.acks p e in
      let closes : cond (kind_of p.packet == 11) (closed f (id_of p.packet)) f ≡ is_own_open s (Got p ∷ past) =
      ap (λ b. cond b (closed f (id_of p.packet)) f) done ∙ (ap (closed f) (sym (kp.ids p)) ∙ own_acked p (apart_first (own_open s past) _ own.apart) e) in
      subst (λ g. HasHome g new) closes h)
      (λ e. subst (λ g. HasHome g new) (own_came p e)
      (by_test (kind_of p.packet == 11)
      (λ d. home_more (closed f (id_of p.packet)) f new (λ t. closed_if (t == id_of p.packet) (f t)) (subst (λ b. HasHome (cond b (closed f (id_of p.packet)) f) new) d h))
      (λ d. subst (λ b. HasHome (cond b (closed f (id_of p.packet)) f) new) d h)))
