-- Each request is settled once.
use Rattle.std.proofs.Common.{◌≡◌, ℕ, ◌+◌, List, [], ◌∷◌, ◌++◌, length, drop, Bool, true, cond, refl, sym, ap, ◌∙◌, arith}
use Rattle.std.specs.Prelude.{◌==◌}
use Rattle.std.specs.List.{count_by}
use Rattle.std.proofs.lemmas.List.Sums.{sum_by-append}
use Rattle.channel_trace.specs.declared.event.Event.{Event}
use Rattle.channel_trace.specs.declared.event.Event.TheVariants.{Sent, Got, Empty, Marked, Saw}
use Rattle.channel_trace.specs.Runs.{sent_of}
use Rattle.channel_model.specs.WireFormat.{WireFormat, listed}
use Rattle.channel_model.specs.Asker.{requests_of, opened, without, under, open_of, closed_of}
use Rattle.channel_model.specs.Settled.{pairs, SettledOnce}
use Rattle.channel_model.proofs.Opens.{by_test, filter_yes, filter_no, pairs_more}

count_by-append : {X : Type 0} (f : X → Bool) (xs ys : List X) → count_by f (xs ++ ys) ≡ count_by f xs + count_by f ys
count_by-append f xs ys = sum_by-append (λ x. cond (f x) 1 0) xs ys

module _ {P A Q R : Type 0} (s : WireFormat P A Q R) where
  -- the first request under an id is taken out
  one_out : (f : ℕ × A → Bool) (id : ℕ) (os : List (ℕ × A)) → count_by f os ≡ count_by f (listed (under s id os)) + count_by f (without s id os)
  one_out f id [] = refl
  one_out f id (o ∷ os) =
      by_test (o.0 == id)
      (λ e. rw e (count_by-append f (o ∷ []) os))
      (λ e. rw e (omega (arith, one_out f id os, count_by-append f (o ∷ []) os, count_by-append f (o ∷ []) (without s id os), count_by-append f (listed (under s id os)) (o ∷ without s id os))))

  sends : (asks : List A) (p : P) (past : List (Event P)) → s.is_request p ≡ true → SettledOnce s asks past → SettledOnce s asks (Sent p ∷ past)
  sends asks p past e ih f =
      let new : List (ℕ × A) = opened s p (drop (length (requests_of s past)) asks) in
      let more : pairs s (requests_of s (Sent p ∷ past)) asks ≡ pairs s (requests_of s past) asks ++ new =
      ap (λ l. pairs s l asks) (filter_yes s.is_request (sent_of past) p e) ∙ pairs_more s (requests_of s past) p asks in
      let opens : open_of s asks (Sent p ∷ past) ≡ open_of s asks past ++ new = ap (λ b. cond b (open_of s asks past ++ new) (open_of s asks past)) e in
      omega (arith, ih f, ap (count_by f) more, ap (count_by f) opens, count_by-append f (pairs s (requests_of s past) asks) new, count_by-append f (open_of s asks past) new)

  gets : (asks : List A) (p : P) (past : List (Event P)) → s.is_answer p ≡ true → SettledOnce s asks past → SettledOnce s asks (Got p ∷ past)
  gets asks p past e ih f =
      let out : List (ℕ × A) = listed (under s (s.id_of p) (open_of s asks past)) in
      let opens : open_of s asks (Got p ∷ past) ≡ without s (s.id_of p) (open_of s asks past) = ap (λ b. cond b (without s (s.id_of p) (open_of s asks past)) (open_of s asks past)) e in
      let closed : closed_of s asks (Got p ∷ past) ≡ closed_of s asks past ++ out = ap (λ b. cond b (closed_of s asks past ++ out) (closed_of s asks past)) e in
      omega (arith, ih f, ap (count_by f) opens, ap (count_by f) closed, count_by-append f (closed_of s asks past) out, one_out f (s.id_of p) (open_of s asks past))

  pub settled_once : (asks : List A) (past : List (Event P)) → SettledOnce s asks past
  settled_once asks [] = λ f. refl
  settled_once asks (Sent p ∷ past) =
      by_test (s.is_request p)
      (λ e. sends asks p past e (settled_once asks past))
      (λ e f. ap (λ l. count_by f (pairs s l asks)) (filter_no s.is_request (sent_of past) p e)
      ∙ (settled_once asks past f ∙ ap (λ b. count_by f (closed_of s asks past) + count_by f (cond b (open_of s asks past ++ opened s p (drop (length (requests_of s past)) asks)) (open_of s asks past))) (sym e)))
  settled_once asks (Got p ∷ past) =
      by_test (s.is_answer p)
      (λ e. gets asks p past e (settled_once asks past))
      (λ e f. settled_once asks past f
      ∙ ap (λ b. count_by f (cond b (closed_of s asks past ++ listed (under s (s.id_of p) (open_of s asks past))) (closed_of s asks past)) + count_by f (cond b (without s (s.id_of p) (open_of s asks past)) (open_of s asks past))) (sym e))
  settled_once asks (Empty ∷ past) = settled_once asks past
  settled_once asks (Marked ∷ past) = settled_once asks past
  settled_once asks (Saw ∷ past) = settled_once asks past
