-- Which ids have an open request, by what an end that asks did.
use Rattle.page_kept.specs.declared.item.Item.{Item}
use Rattle.std.proofs.Common.{◌≡◌, ℕ, List, [], ◌∷◌, ◌++◌, length, drop, refl, sym, ap, ◌∙◌, Option, Some, None, Bool, true, false, cond, is_some}
use Rattle.std.specs.Prelude.{◌==◌, if◌then◌else◌}
use Rattle.std.proofs.lemmas.List.{append-nil}
use Rattle.channel_trace.specs.declared.event.Event.{Event}
use Rattle.channel_trace.specs.declared.event.Event.TheVariants.{Sent, Got}
use Rattle.channel_model.specs.WireFormat.{WireFormat}
use Rattle.channel_model.specs.Asker.{opened as opened_by, under, without, open_of, requests_of}
use Rattle.channel_model.specs.Workers.{ask_of, Apart}
use Rattle.channel_model.proofs.Opens.{by_test}
use Rattle.channel_model.proofs.Asking.{under_closed, under_more}
use Rattle.page_home_laws.specs.Home.{closed, opened}
use Rattle.worker_requester.specs.Asking.{is_open_in}

open_ask : {A : Type 0} (o : Option (ℕ × A)) → is_some o ≡ is_some (ask_of o)
open_ask None = refl
open_ask (Some o) = refl

some_if : {A : Type 0} (b : Bool) (a : A) (o : Option A) → is_some (if b then Some a else o) ≡ cond b true (is_some o)
some_if true a o = refl
some_if false a o = refl

none_if : {A : Type 0} (b : Bool) (o : Option A) → is_some (if b then None else o) ≡ cond b false (is_some o)
none_if true o = refl
none_if false o = refl

module _ {A Q R : Type 0} (s : WireFormat Item A Q R) where
  -- those apart in a list are apart in its front
  none_front : (os ws : List (ℕ × A)) (id : ℕ) → under s id (os ++ ws) ≡ None → under s id os ≡ None
  none_front [] ws id e = refl
  none_front (o ∷ os) ws id e =
      by_test {P = under s id (o ∷ os) ≡ None} (o.0 == id)
      (λ f. let bad : Some o ≡ None = sym (ap (λ b. cond b (Some o) (under s id (os ++ ws))) f) ∙ e in absurd (cc))
      (λ f. ap (λ b. cond b (Some o) (under s id os)) f ∙ none_front os ws id (sym (ap (λ b. cond b (Some o) (under s id (os ++ ws))) f) ∙ e))

  pub apart_front : (os ws : List (ℕ × A)) → Apart s (os ++ ws) → Apart s os
  apart_front [] ws h = tt
  apart_front (o ∷ os) ws h = (none_front os ws o.0 h.0, apart_front os ws h.1)

module _ {A Q R : Type 0} (s : WireFormat Item A Q R) (asks : List A) (past : List (Event Item)) where
  abbrev os : List (ℕ × A)
  os = open_of s asks past

  abbrev todo : List A
  todo = drop (length (requests_of s past)) asks

  -- a request that has an answer was sent, under an id that wasn't open
  pub open_sent : (p : Item) (a : A) (more : List A) → s.is_request p ≡ true → s.waits p ≡ true → drop (length (requests_of s past)) asks ≡ a ∷ more → under s (s.id_of p) (open_of s asks past) ≡ None
      → opened (is_open_in s asks past) (s.id_of p) ≡ is_open_in s asks (Sent p ∷ past)
  open_sent p a more asked waits next free =
      let one : opened_by s p todo ≡ (s.id_of p, a) ∷ [] = ap (opened_by s p) next ∙ ap (λ b. cond {A = List (ℕ × A)} b ((s.id_of p, a) ∷ []) []) waits in
      let all : open_of s asks (Sent p ∷ past) ≡ os ++ (s.id_of p, a) ∷ [] = ap (λ b. cond b (os ++ opened_by s p todo) os) asked ∙ ap (λ l. os ++ l) one in
      let at : (t : ℕ) → opened (is_open_in s asks past) (s.id_of p) t ≡ is_open_in s asks (Sent p ∷ past) t =
      λ t. ap (cond (t == s.id_of p) true) (open_ask (under s t os))
      ∙ (sym (some_if (t == s.id_of p) a (ask_of (under s t os)))
      ∙ (ap is_some (sym (under_more s os (s.id_of p, a) t free)) ∙ (sym (open_ask (under s t (os ++ (s.id_of p, a) ∷ []))) ∙ ap (λ l. is_some (under s t l)) (sym all)))) in
      λ i t. at t i

  -- one that has none was sent
  pub open_said : (p : Item) (a : A) (more : List A) → s.is_request p ≡ true → s.waits p ≡ false → drop (length (requests_of s past)) asks ≡ a ∷ more → is_open_in s asks past ≡ is_open_in s asks (Sent p ∷ past)
  open_said p a more asked waits next =
      let one : opened_by s p todo ≡ [] = ap (opened_by s p) next ∙ ap (λ b. cond {A = List (ℕ × A)} b ((s.id_of p, a) ∷ []) []) waits in
      let all : open_of s asks (Sent p ∷ past) ≡ os = ap (λ b. cond b (os ++ opened_by s p todo) os) asked ∙ (ap (λ l. os ++ l) one ∙ append-nil os) in
      λ i t. is_some (under s t (sym all i))

  -- what asks nothing was sent
  pub open_acked : (p : Item) → s.is_request p ≡ false → is_open_in s asks past ≡ is_open_in s asks (Sent p ∷ past)
  open_acked p none =
      let all : open_of s asks (Sent p ∷ past) ≡ os = ap (λ b. cond b (os ++ opened_by s p todo) os) none in
      λ i t. is_some (under s t (sym all i))

  -- a packet was taken, which closes its id where it is an answer
  pub open_got : (p : Item) → Apart s (open_of s asks past) → (b : Bool) → s.is_answer p ≡ b → cond b (closed (is_open_in s asks past) (s.id_of p)) (is_open_in s asks past) ≡ is_open_in s asks (Got p ∷ past)
  open_got p apart true answers =
      let all : open_of s asks (Got p ∷ past) ≡ without s (s.id_of p) os = ap (λ b. cond b (without s (s.id_of p) os) os) answers in
      let at : (t : ℕ) → closed (is_open_in s asks past) (s.id_of p) t ≡ is_open_in s asks (Got p ∷ past) t =
      λ t. sym (none_if (t == s.id_of p) (under s t os)) ∙ (ap is_some (sym (under_closed s os (s.id_of p) t apart)) ∙ ap (λ l. is_some (under s t l)) (sym all)) in
      λ i t. at t i
  open_got p apart false answers =
      let all : open_of s asks (Got p ∷ past) ≡ os = ap (λ b. cond b (without s (s.id_of p) os) os) answers in
      λ i t. is_some (under s t (sym all i))
