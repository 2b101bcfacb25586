-- Which requests are open in a run.
use Rattle.std.proofs.Common.{◌≡◌, ℕ, List, [], ◌∷◌, ◌++◌, length, map, drop, Bool, true, false, cond, filter, refl, sym, ap, ◌∙◌, subst, append_assoc, arith, Option, Some, None}
use Rattle.std.proofs.lemmas.List.{append-nil, append_cancel_left, map-append}
use Rattle.std.proofs.lemmas.List.Elements.{filter-append}
use Rattle.std.proofs.lemmas.Bool.Decides.{nat_tests}
use Rattle.channel_trace.specs.declared.event.Event.{Event}
use Rattle.channel_trace.specs.declared.event.Event.TheVariants.{Sent, Got, Empty, Marked, Saw}
use Rattle.channel_trace.specs.Runs.{Turn, Guest, Host, IsFront, sent_of, got_of, guest_of, host_of, IsRun}
use Rattle.channel_model.specs.WireFormat.{WireFormat, listed}
use Rattle.channel_model.specs.Asker.{requests_of, answers_of, Encoded, opened, without, under, open_of, since, said, replies_of}
use Rattle.channel_model.specs.Server.{InOrder}
use Rattle.channel_model.specs.Settled.{pairs, said_all, IsSettled}
use Rattle.channel_trace.proofs.Fronts.{front_map, front_filter, front_trans}
use Rattle.channel_model.proofs.Runs.{host_front}

pub by_test : {P : Type 0} (b : Bool) → (b ≡ true → P) → (b ≡ false → P) → P
by_test true f g = f refl
by_test false f g = g refl

pub filter_yes : {A : Type 0} (f : A → Bool) (xs : List A) (x : A) → f x ≡ true → filter f (xs ++ x ∷ []) ≡ filter f xs ++ x ∷ []
filter_yes f xs x e = filter-append f xs (x ∷ []) ∙ ap (λ b. filter f xs ++ cond b (x ∷ []) []) e

pub filter_no : {A : Type 0} (f : A → Bool) (xs : List A) (x : A) → f x ≡ false → filter f (xs ++ x ∷ []) ≡ filter f xs
filter_no f xs x e = filter-append f xs (x ∷ []) ∙ (ap (λ b. filter f xs ++ cond b (x ∷ []) []) e ∙ append-nil (filter f xs))

module _ {P A Q R : Type 0} (s : WireFormat P A Q R) where
  pub pairs_more : (ps : List P) (p : P) (asks : List A) → pairs s (ps ++ p ∷ []) asks ≡ pairs s ps asks ++ opened s p (drop (length ps) asks)
  pairs_more [] p [] = refl
  pairs_more [] p (a ∷ asks) = refl
  pairs_more (r ∷ ps) p [] = refl
  pairs_more (r ∷ ps) p (a ∷ asks) =
      by_test (s.waits r)
      (λ e. ap (λ b. cond b ((s.id_of r, a) ∷ pairs s (ps ++ p ∷ []) asks) (pairs s (ps ++ p ∷ []) asks)) e
      ∙ (ap (λ (l : List (ℕ × A)). (s.id_of r, a) ∷ l) (pairs_more ps p asks)
      ∙ ap (λ b. cond b ((s.id_of r, a) ∷ pairs s ps asks) (pairs s ps asks) ++ opened s p (drop (length ps) asks)) (sym e)))
      (λ e. ap (λ b. cond b ((s.id_of r, a) ∷ pairs s (ps ++ p ∷ []) asks) (pairs s (ps ++ p ∷ []) asks)) e
      ∙ (pairs_more ps p asks
      ∙ ap (λ b. cond b ((s.id_of r, a) ∷ pairs s ps asks) (pairs s ps asks) ++ opened s p (drop (length ps) asks)) (sym e)))

  pub pairs_ids : (ps : List P) (asks : List A) → Encoded s asks ps → map (λ o. o.0) (pairs s ps asks) ≡ map s.id_of (filter s.waits ps)
  pairs_ids [] asks enc = refl
  pairs_ids (p ∷ ps) [] enc = absurd enc
  pairs_ids (p ∷ ps) (a ∷ asks) enc =
      by_test (s.waits p)
      (λ e. ap (λ b. map (λ o. o.0) (cond b ((s.id_of p, a) ∷ pairs s ps asks) (pairs s ps asks))) e
      ∙ (ap (λ (l : List ℕ). s.id_of p ∷ l) (pairs_ids ps asks enc.1) ∙ ap (λ b. map s.id_of (cond b (p ∷ filter s.waits ps) (filter s.waits ps))) (sym e)))
      (λ e. ap (λ b. map (λ o. o.0) (cond b ((s.id_of p, a) ∷ pairs s ps asks) (pairs s ps asks))) e
      ∙ (pairs_ids ps asks enc.1 ∙ ap (λ b. map s.id_of (cond b (p ∷ filter s.waits ps) (filter s.waits ps))) (sym e)))

  pub encoded_front : (ps : List P) (p : P) (asks : List A) → Encoded s asks (ps ++ p ∷ []) → Encoded s asks ps
  encoded_front [] p asks enc = tt
  encoded_front (r ∷ ps) p [] enc = enc
  encoded_front (r ∷ ps) p (a ∷ asks) enc = (enc.0, encoded_front ps p asks enc.1)

  -- the first open request
  head_open : (os : List (ℕ × A)) (id : ℕ) (rest : List ℕ) → map (λ o. o.0) os ≡ id ∷ rest → (o : ℕ × A) × (more : List (ℕ × A)) × (os ≡ o ∷ more) × (o.0 ≡ id)
  head_open [] id rest e = absurd (cc)
  head_open (o ∷ os) id rest e = (o, os, refl, cc)

  head_closed : (o : ℕ × A) (os : List (ℕ × A)) (id : ℕ) → o.0 ≡ id → without s id (o ∷ os) ≡ os
  head_closed o os id e = grind (arith, nat_tests, e)

  head_under : (o : ℕ × A) (os : List (ℕ × A)) (id : ℕ) → o.0 ≡ id → under s id (o ∷ os) ≡ Some o
  head_under o os id e = grind (arith, nat_tests, e)

  -- one more packet that isn't an answer, and one more answer
  pub said_same : (os : List (ℕ × A)) (before : Option P) (zs : List P) (z : P) → s.is_answer z ≡ false → said_all s os before (zs ++ z ∷ []) ≡ said_all s os before zs
  said_same [] before [] z e = refl
  said_same [] before (y ∷ zs) z e = refl
  said_same (r ∷ os) before [] z e = ap (λ b. cond b (listed (s.result r.1 before z) ++ said_all s os None []) (said_all s (r ∷ os) (Some z) [])) e
  said_same (r ∷ os) before (y ∷ zs) z e =
      by_test (s.is_answer y)
      (λ f. ap (λ b. cond b (listed (s.result r.1 before y) ++ said_all s os None (zs ++ z ∷ [])) (said_all s (r ∷ os) (Some y) (zs ++ z ∷ []))) f
      ∙ (ap (λ (l : List R). listed (s.result r.1 before y) ++ l) (said_same os None zs z e)
      ∙ ap (λ b. cond b (listed (s.result r.1 before y) ++ said_all s os None zs) (said_all s (r ∷ os) (Some y) zs)) (sym f)))
      (λ f. ap (λ b. cond b (listed (s.result r.1 before y) ++ said_all s os None (zs ++ z ∷ [])) (said_all s (r ∷ os) (Some y) (zs ++ z ∷ []))) f
      ∙ (said_same (r ∷ os) (Some y) zs z e
      ∙ ap (λ b. cond b (listed (s.result r.1 before y) ++ said_all s os None zs) (said_all s (r ∷ os) (Some y) zs)) (sym f)))

  said_more : (os : List (ℕ × A)) (before : Option P) (zs : List P) (o : ℕ × A) (z : P) → s.is_answer z ≡ true → map (λ o. o.0) os ≡ map s.id_of (filter s.is_answer zs)
      → said_all s (os ++ o ∷ []) before (zs ++ z ∷ []) ≡ said_all s os before zs ++ listed (s.result o.1 (since s before zs) z)
  said_more [] before [] o z e ids = ap (λ b. cond b (listed (s.result o.1 before z) ++ []) (said_all s (o ∷ []) (Some z) [])) e ∙ append-nil (listed (s.result o.1 before z))
  said_more (r ∷ os) before [] o z e ids = absurd (cc)
  said_more [] before (y ∷ zs) o z e ids =
      by_test (s.is_answer y)
      (λ f. let bad : [] ≡ s.id_of y ∷ map s.id_of (filter s.is_answer zs) = ids ∙ ap (λ b. map s.id_of (cond b (y ∷ filter s.is_answer zs) (filter s.is_answer zs))) f in absurd (cc))
      (λ f. let ids' : [] ≡ map s.id_of (filter s.is_answer zs) = ids ∙ ap (λ b. map s.id_of (cond b (y ∷ filter s.is_answer zs) (filter s.is_answer zs))) f in
      ap (λ b. cond b (listed (s.result o.1 before y) ++ said_all s [] None (zs ++ z ∷ [])) (said_all s (o ∷ []) (Some y) (zs ++ z ∷ []))) f
      ∙ (said_more [] (Some y) zs o z e ids'
      ∙ (none_said (Some y) zs (since s (Some y) zs) o z
      ∙ ap (λ b. listed (s.result o.1 (since s (cond b None (Some y)) zs) z)) (sym f))))
    where
      none_said : (before : Option P) (zs : List P) (last : Option P) (o : ℕ × A) (z : P) → said_all s [] before zs ++ listed (s.result o.1 last z) ≡ listed (s.result o.1 last z)
      none_said before [] last o z = refl
      none_said before (y ∷ zs) last o z = refl
  said_more (r ∷ os) before (y ∷ zs) o z e ids =
      by_test (s.is_answer y)
      (λ f. let ids' : r.0 ∷ map (λ o. o.0) os ≡ s.id_of y ∷ map s.id_of (filter s.is_answer zs) = ids ∙ ap (λ b. map s.id_of (cond b (y ∷ filter s.is_answer zs) (filter s.is_answer zs))) f in
      let rest : map (λ o. o.0) os ≡ map s.id_of (filter s.is_answer zs) = cc in
      ap (λ b. cond b (listed (s.result r.1 before y) ++ said_all s (os ++ o ∷ []) None (zs ++ z ∷ [])) (said_all s (r ∷ os ++ o ∷ []) (Some y) (zs ++ z ∷ []))) f
      ∙ (ap (λ (l : List R). listed (s.result r.1 before y) ++ l) (said_more os None zs o z e rest)
      ∙ (sym (append_assoc (listed (s.result r.1 before y)) (said_all s os None zs) (listed (s.result o.1 (since s None zs) z)))
      ∙ ap (λ b. cond b (listed (s.result r.1 before y) ++ said_all s os None zs) (said_all s (r ∷ os) (Some y) zs) ++ listed (s.result o.1 (since s (cond b None (Some y)) zs) z)) (sym f))))
      (λ f. let ids' : r.0 ∷ map (λ o. o.0) os ≡ map s.id_of (filter s.is_answer zs) = ids ∙ ap (λ b. map s.id_of (cond b (y ∷ filter s.is_answer zs) (filter s.is_answer zs))) f in
      ap (λ b. cond b (listed (s.result r.1 before y) ++ said_all s (os ++ o ∷ []) None (zs ++ z ∷ [])) (said_all s (r ∷ os ++ o ∷ []) (Some y) (zs ++ z ∷ []))) f
      ∙ (said_more (r ∷ os) (Some y) zs o z e ids'
      ∙ ap (λ b. cond b (listed (s.result r.1 before y) ++ said_all s os None zs) (said_all s (r ∷ os) (Some y) zs) ++ listed (s.result o.1 (since s (cond b None (Some y)) zs) z)) (sym f)))

  in_order_now : (past : List (Event P)) → InOrder s past → IsFront (map s.id_of (filter s.is_answer (sent_of past))) (map s.id_of (filter s.waits (filter s.is_request (got_of past))))
  in_order_now [] h = ([], refl)
  in_order_now (e ∷ past) h = h.0

  -- one more request
  sends : (asks : List A) (p : P) (past : List (Event P)) → s.is_request p ≡ true → IsSettled s asks past → IsSettled s asks (Sent p ∷ past)
  sends asks p past e h =
      let more : requests_of s (Sent p ∷ past) ≡ requests_of s past ++ p ∷ [] = filter_yes s.is_request (sent_of past) p e in
      let new : List (ℕ × A) = opened s p (drop (length (requests_of s past)) asks) in
      let opens : open_of s asks (Sent p ∷ past) ≡ open_of s asks past ++ new = ap (λ b. cond b (open_of s asks past ++ new) (open_of s asks past)) e in
      record {
        done = h.done;
        split =
            ap (λ l. pairs s l asks) more ∙ (pairs_more (requests_of s past) p asks
            ∙ (ap (λ l. l ++ new) h.split ∙ (append_assoc h.done (open_of s asks past) new ∙ ap (λ l. h.done ++ l) (sym opens))));
        ids = h.ids;
        said = h.said;
      }

  sends_other : (asks : List A) (p : P) (past : List (Event P)) → s.is_request p ≡ false → IsSettled s asks past → IsSettled s asks (Sent p ∷ past)
  sends_other asks p past e h =
      let same : requests_of s (Sent p ∷ past) ≡ requests_of s past = filter_no s.is_request (sent_of past) p e in
      let new : List (ℕ × A) = opened s p (drop (length (requests_of s past)) asks) in
      let opens : open_of s asks (Sent p ∷ past) ≡ open_of s asks past = ap (λ b. cond b (open_of s asks past ++ new) (open_of s asks past)) e in
      record { done = h.done; split = ap (λ l. pairs s l asks) same ∙ (h.split ∙ ap (λ l. h.done ++ l) (sym opens)); ids = h.ids; said = h.said }

  -- one more answer, to the first open request
  gets : (asks : List A) (p : P) (past : List (Event P)) (rest : List ℕ) → s.is_answer p ≡ true → map (λ o. o.0) (open_of s asks past) ≡ s.id_of p ∷ rest
      → IsSettled s asks past → IsSettled s asks (Got p ∷ past)
  gets asks p past rest e first h =
      let o = head_open (open_of s asks past) (s.id_of p) rest first in
      let before : Option P = since s None (got_of past) in
      let more : answers_of s (Got p ∷ past) ≡ answers_of s past ++ p ∷ [] = filter_yes s.is_answer (got_of past) p e in
      let opens : open_of s asks (Got p ∷ past) ≡ o.1 =
      ap (λ b. cond b (without s (s.id_of p) (open_of s asks past)) (open_of s asks past)) e ∙ (ap (without s (s.id_of p)) o.2 ∙ head_closed o.0 o.1 (s.id_of p) o.3) in
      let says : replies_of s asks (Got p ∷ past) ≡ replies_of s asks past ++ listed (s.result o.0.1 before p) =
      ap (λ b. cond b (replies_of s asks past ++ said s (under s (s.id_of p) (open_of s asks past)) before p) (replies_of s asks past)) e
      ∙ ap (λ u. replies_of s asks past ++ said s u before p) (ap (under s (s.id_of p)) o.2 ∙ head_under o.0 o.1 (s.id_of p) o.3) in
      record {
        done = h.done ++ o.0 ∷ [];
        split = h.split ∙ (ap (λ l. h.done ++ l) o.2 ∙ (sym (append_assoc h.done (o.0 ∷ []) o.1) ∙ ap (λ l. (h.done ++ o.0 ∷ []) ++ l) (sym opens)));
        ids =
            map-append (λ o. o.0) h.done (o.0 ∷ []) ∙ (ap (λ l. l ++ o.0.0 ∷ []) h.ids
            ∙ (ap (λ id. map s.id_of (answers_of s past) ++ id ∷ []) o.3 ∙ (sym (map-append s.id_of (answers_of s past) (p ∷ [])) ∙ ap (map s.id_of) (sym more))));
        said = says ∙ (ap (λ l. l ++ listed (s.result o.0.1 before p)) h.said ∙ sym (said_more h.done None (got_of past) o.0 p e h.ids));
      }

  gets_other : (asks : List A) (p : P) (past : List (Event P)) → s.is_answer p ≡ false → IsSettled s asks past → IsSettled s asks (Got p ∷ past)
  gets_other asks p past e h =
      let same : answers_of s (Got p ∷ past) ≡ answers_of s past = filter_no s.is_answer (got_of past) p e in
      let opens : open_of s asks (Got p ∷ past) ≡ open_of s asks past = ap (λ b. cond b (without s (s.id_of p) (open_of s asks past)) (open_of s asks past)) e in
      let says : replies_of s asks (Got p ∷ past) ≡ replies_of s asks past =
      ap (λ b. cond b (replies_of s asks past ++ said s (under s (s.id_of p) (open_of s asks past)) (since s None (got_of past)) p) (replies_of s asks past)) e in
      record {
        done = h.done;
        split = h.split ∙ ap (λ l. h.done ++ l) (sym opens);
        ids = h.ids ∙ ap (map s.id_of) (sym same);
        said = says ∙ (h.said ∙ sym (said_same h.done None (got_of past) p e));
      }

  -- the next answer is that to the first open request
  next_answer : (asks : List A) (p : P) (past : List (Turn P)) → s.is_answer p ≡ true → IsRun (Guest (Got p) ∷ past) → InOrder s (host_of past)
      → Encoded s asks (requests_of s (guest_of past)) → IsSettled s asks (guest_of past)
      → (rest : List ℕ) × (map (λ o. o.0) (open_of s asks (guest_of past)) ≡ s.id_of p ∷ rest)
  next_answer asks p past e run order enc h =
      let t : List (Event P) = guest_of past in
      let u : List (Event P) = host_of past in
      let here = front_map s.id_of _ _ (front_filter s.is_answer (got_of t ++ p ∷ []) (sent_of u) run.0.1) in
      let there = front_map s.id_of _ _ (front_filter s.waits _ _ (front_filter s.is_request (got_of u) (sent_of t) (host_front past run.1))) in
      let all = front_trans _ _ _ here (front_trans _ _ _ (in_order_now u order) there) in
      let ids : map (λ o. o.0) h.done ++ map (λ o. o.0) (open_of s asks t) ≡ map s.id_of (filter s.waits (requests_of s t)) =
      sym (map-append (λ o. o.0) h.done (open_of s asks t)) ∙ (ap (map (λ o. o.0)) (sym h.split) ∙ pairs_ids (requests_of s t) asks enc) in
      let front : map s.id_of (filter s.is_answer (got_of t ++ p ∷ [])) ≡ map (λ o. o.0) h.done ++ s.id_of p ∷ [] =
      ap (map s.id_of) (filter_yes s.is_answer (got_of t) p e) ∙ (map-append s.id_of (answers_of s t) (p ∷ []) ∙ ap (λ l. l ++ s.id_of p ∷ []) (sym h.ids)) in
      let same : map (λ o. o.0) h.done ++ map (λ o. o.0) (open_of s asks t) ≡ map (λ o. o.0) h.done ++ s.id_of p ∷ all.0 =
      ids ∙ (all.1 ∙ (ap (λ l. l ++ all.0) front ∙ append_assoc (map (λ o. o.0) h.done) (s.id_of p ∷ []) all.0)) in
      (all.0, append_cancel_left (map (λ o. o.0) h.done) _ _ same)

  -- in each run the answers settle the first requests, in order
  pub settled : (asks : List A) (past : List (Turn P)) → IsRun past → InOrder s (host_of past) → Encoded s asks (requests_of s (guest_of past)) → IsSettled s asks (guest_of past)
  settled asks [] run order enc = record { done = []; split = refl; ids = refl; said = refl }
  settled asks (Guest (Sent p) ∷ past) run order enc =
      by_test (s.is_request p)
      (λ e. sends asks p (guest_of past) e (settled asks past run.1 order (encoded_front (requests_of s (guest_of past)) p asks (subst (Encoded s asks) (filter_yes s.is_request (sent_of (guest_of past)) p e) enc))))
      (λ e. sends_other asks p (guest_of past) e (settled asks past run.1 order (subst (Encoded s asks) (filter_no s.is_request (sent_of (guest_of past)) p e) enc)))
  settled asks (Guest (Got p) ∷ past) run order enc =
      let h = settled asks past run.1 order enc in
      by_test (s.is_answer p)
      (λ e. let next = next_answer asks p past e run order enc h in gets asks p (guest_of past) next.0 e next.1 h)
      (λ e. gets_other asks p (guest_of past) e h)
  settled asks (Guest Empty ∷ past) run order enc =
      let h = settled asks past run.1 order enc in
      record { done = h.done; split = h.split; ids = h.ids; said = h.said }
  settled asks (Guest Marked ∷ past) run order enc =
      let h = settled asks past run.1 order enc in
      record { done = h.done; split = h.split; ids = h.ids; said = h.said }
  settled asks (Guest Saw ∷ past) run order enc =
      let h = settled asks past run.1 order enc in
      record { done = h.done; split = h.split; ids = h.ids; said = h.said }
  settled asks (Host e ∷ past) run order enc = settled asks past run.1 order.1 enc
