-- The steps of the asking end.
use Rattle.std.proofs.Common.{◌≡◌, ℕ, List, [], ◌∷◌, ◌++◌, length, drop, Bool, true, false, cond, refl, sym, ap, ◌∙◌, subst, arith, Option, Some, None, inl, inr}
use Rattle.std.specs.Prelude.{◌==◌, ◌<◌, ◌^◌, if◌then◌else◌}
use Rattle.std.proofs.lemmas.List.{append-nil}
use Rattle.std.proofs.lemmas.Bool.Decides.{nat_tests}
use Rattle.channel_trace.specs.declared.event.Event.{Event}
use Rattle.channel_trace.specs.declared.event.Event.TheVariants.{Sent, Got, Empty, Marked, Saw}
use Rattle.channel_trace.specs.Runs.{sent_of, got_of, is_drained}
use Rattle.channel_trace.specs.Laws.{Follows}
use Rattle.channel_model.specs.WireFormat.{WireFormat, Keeps}
use Rattle.channel_model.specs.Asker.{Encoded, opened, without, under, open_of, since, said, replies_of, requests_of}
use Rattle.channel_model.specs.Channel.{RequestPlan, asks_of, AskerEnds, AskerBreaks}
use Rattle.channel_model.specs.Workers.{ask_of, Apart, AskerKept, AcksKept}
use Rattle.channel_model.proofs.Opens.{by_test, filter_yes, filter_no}
use Rattle.channel_model.proofs.Acking.{acks_front, acks_whole}

module _ {P A Q R : Type 0} (s : WireFormat P A Q R) where
  encoded_more : (asks : List A) (ps : List P) (p : P) (a : A) (todo : List A) → Encoded s asks ps → drop (length ps) asks ≡ a ∷ todo → p ≡ s.encode (s.id_of p) a → Encoded s asks (ps ++ p ∷ [])
  encoded_more [] [] p a todo enc e is = absurd (cc)
  encoded_more (b ∷ asks) [] p a todo enc e is = let same : a ≡ b = cc in (is ∙ ap (s.encode (s.id_of p)) same, tt)
  encoded_more [] (r ∷ ps) p a todo enc e is = absurd enc
  encoded_more (b ∷ asks) (r ∷ ps) p a todo enc e is = (enc.0, encoded_more asks ps p a todo enc.1 e is)

  drop_next : (asks : List A) (ps : List P) (p : P) (a : A) (todo : List A) → drop (length ps) asks ≡ a ∷ todo → drop (length (ps ++ p ∷ [])) asks ≡ todo
  drop_next [] [] p a todo e = absurd (cc)
  drop_next (b ∷ asks) [] p a todo e = cc
  drop_next [] (r ∷ ps) p a todo e = absurd (cc)
  drop_next (b ∷ asks) (r ∷ ps) p a todo e = drop_next asks ps p a todo e

  drop_none : (asks : List A) (ps : List P) → Encoded s asks ps → drop (length ps) asks ≡ [] → length ps ≡ length asks
  drop_none [] [] enc e = refl
  drop_none (b ∷ asks) [] enc e = absurd (cc)
  drop_none [] (r ∷ ps) enc e = absurd enc
  drop_none (b ∷ asks) (r ∷ ps) enc e = omega (arith, drop_none asks ps enc.1 e)

  -- what stands under an id
  under_cons : (o : ℕ × A) (os : List (ℕ × A)) (id : ℕ) (b : Bool) → (o.0 == id) ≡ b → under s id (o ∷ os) ≡ (if b then Some o else under s id os)
  under_cons o os id b e = ap (λ t. cond t (Some o) (under s id os)) e

  pub under_more : (os : List (ℕ × A)) (o : ℕ × A) (id : ℕ) → under s o.0 os ≡ None → ask_of (under s id (os ++ o ∷ [])) ≡ (if id == o.0 then Some o.1 else ask_of (under s id os))
  under_more [] o id free =
      by_test (id == o.0)
      (λ e. let f : (o.0 == id) ≡ true = grind (arith, nat_tests, e) in ap ask_of (under_cons o [] id true f) ∙ ap (λ b. if b then Some o.1 else None) (sym e))
      (λ e. let f : (o.0 == id) ≡ false = grind (arith, nat_tests, e) in ap ask_of (under_cons o [] id false f) ∙ ap (λ b. if b then Some o.1 else None) (sym e))
  under_more (x ∷ os) o id free =
      by_test (x.0 == id)
      (λ e. by_test (id == o.0)
      (λ f. let same : (x.0 == o.0) ≡ true = grind (arith, nat_tests, e, f) in let bad : Some x ≡ None = sym (under_cons x os o.0 true same) ∙ free in absurd (cc))
      (λ f. ap ask_of (under_cons x (os ++ o ∷ []) id true e) ∙ (ap ask_of (sym (under_cons x os id true e)) ∙ ap (λ b. if b then Some o.1 else ask_of (under s id (x ∷ os))) (sym f))))
      (λ e. let free' : under s o.0 os ≡ None = by_test (x.0 == o.0)
      (λ f. let bad : Some x ≡ None = sym (under_cons x os o.0 true f) ∙ free in absurd (cc))
      (λ f. sym (under_cons x os o.0 false f) ∙ free) in
      ap ask_of (under_cons x (os ++ o ∷ []) id false e) ∙ (under_more os o id free' ∙ ap (λ u. if id == o.0 then Some o.1 else ask_of u) (sym (under_cons x os id false e))))

  apart_more : (os : List (ℕ × A)) (o : ℕ × A) → Apart s os → under s o.0 os ≡ None → Apart s (os ++ o ∷ [])
  apart_more [] o h free = (refl, tt)
  apart_more (x ∷ os) o h free =
      by_test (x.0 == o.0)
      (λ f. let bad : Some x ≡ None = sym (under_cons x os o.0 true f) ∙ free in absurd (cc))
      (λ f. let free' : under s o.0 os ≡ None = sym (under_cons x os o.0 false f) ∙ free in
      let other : (x.0 == o.0) ≡ false = f in
      (none_more os o x.0 h.0 (grind (arith, nat_tests, f)), apart_more os o h.1 free'))
    where
      none_more : (os : List (ℕ × A)) (o : ℕ × A) (id : ℕ) → under s id os ≡ None → (o.0 == id) ≡ false → under s id (os ++ o ∷ []) ≡ None
      none_more [] o id e f = under_cons o [] id false f
      none_more (y ∷ os) o id e f =
          by_test (y.0 == id)
          (λ g. let bad : Some y ≡ None = sym (under_cons y os id true g) ∙ e in absurd (cc))
          (λ g. under_cons y (os ++ o ∷ []) id false g ∙ none_more os o id (sym (under_cons y os id false g) ∙ e) f)

  without_cons : (o : ℕ × A) (os : List (ℕ × A)) (id : ℕ) (b : Bool) → (o.0 == id) ≡ b → without s id (o ∷ os) ≡ (if b then os else o ∷ without s id os)
  without_cons o os id b e = ap (λ t. cond t os (o ∷ without s id os)) e

  -- closing an id, in a list with no id twice
  pub under_closed : (os : List (ℕ × A)) (id j : ℕ) → Apart s os → under s j (without s id os) ≡ (if j == id then None else under s j os)
  under_closed [] id j h = by_test (j == id) (λ e. ap (λ b. if b then None else None) (sym e)) (λ e. ap (λ b. if b then None else None) (sym e))
  under_closed (o ∷ os) id j h =
      by_test (o.0 == id)
      (λ e. ap (under s j) (without_cons o os id true e) ∙ by_test (j == id)
      (λ f. let same : o.0 ≡ j = grind (arith, nat_tests, e, f) in ap (λ k. under s k os) (sym same) ∙ (h.0 ∙ ap (λ b. if b then None else under s j (o ∷ os)) (sym f)))
      (λ f. let other : (o.0 == j) ≡ false = grind (arith, nat_tests, e, f) in sym (under_cons o os j false other) ∙ ap (λ b. if b then None else under s j (o ∷ os)) (sym f)))
      (λ e. ap (under s j) (without_cons o os id false e) ∙ by_test (o.0 == j)
      (λ f. let other : (j == id) ≡ false = grind (arith, nat_tests, e, f) in
      under_cons o (without s id os) j true f ∙ (sym (under_cons o os j true f) ∙ ap (λ b. if b then None else under s j (o ∷ os)) (sym other)))
      (λ f. under_cons o (without s id os) j false f ∙ (under_closed os id j h.1 ∙ ap (λ u. if j == id then None else u) (sym (under_cons o os j false f)))))

  none_if : (b : Bool) (x : Option (ℕ × A)) → x ≡ None → (if b then None else x) ≡ None
  none_if true x e = refl
  none_if false x e = e

  apart_closed : (os : List (ℕ × A)) (id : ℕ) → Apart s os → Apart s (without s id os)
  apart_closed [] id h = tt
  apart_closed (o ∷ os) id h =
      by_test (o.0 == id)
      (λ e. subst (Apart s) (sym (without_cons o os id true e)) h.1)
      (λ e. subst (Apart s) (sym (without_cons o os id false e)) (under_closed os id o.0 h.1 ∙ none_if (o.0 == id) (under s o.0 os) h.0, apart_closed os id h.1))

  -- an id that doesn't wait is closed among those that are open
  without_front : (os ws : List (ℕ × A)) (id : ℕ) → under s id ws ≡ None → without s id (os ++ ws) ≡ without s id os ++ ws
  without_front [] [] id e = refl
  without_front [] (w ∷ ws) id e =
      by_test (w.0 == id)
      (λ f. let bad : Some w ≡ None = sym (under_cons w ws id true f) ∙ e in absurd (cc))
      (λ f. without_cons w ws id false f ∙ ap (λ (l : List (ℕ × A)). w ∷ l) (without_front [] ws id (sym (under_cons w ws id false f) ∙ e)))
  without_front (o ∷ os) ws id e =
      by_test (o.0 == id)
      (λ f. without_cons o (os ++ ws) id true f ∙ ap (λ l. l ++ ws) (sym (without_cons o os id true f)))
      (λ f. without_cons o (os ++ ws) id false f ∙ (ap (λ (l : List (ℕ × A)). o ∷ l) (without_front os ws id e) ∙ ap (λ l. l ++ ws) (sym (without_cons o os id false f))))

  under_front : (os ws : List (ℕ × A)) (id : ℕ) → under s id ws ≡ None → under s id (os ++ ws) ≡ under s id os
  under_front [] ws id e = e
  under_front (o ∷ os) ws id e =
      by_test (o.0 == id)
      (λ f. under_cons o (os ++ ws) id true f ∙ sym (under_cons o os id true f))
      (λ f. under_cons o (os ++ ws) id false f ∙ (under_front os ws id e ∙ sym (under_cons o os id false f)))

  -- no id is closed that isn't there
  without_none : (os : List (ℕ × A)) (id : ℕ) → under s id os ≡ None → without s id os ≡ os
  without_none [] id e = refl
  without_none (o ∷ os) id e =
      by_test (o.0 == id)
      (λ f. let bad : Some o ≡ None = sym (under_cons o os id true f) ∙ e in absurd (cc))
      (λ f. without_cons o os id false f ∙ ap (λ (l : List (ℕ × A)). o ∷ l) (without_none os id (sym (under_cons o os id false f) ∙ e)))

  -- what has the id of the last one isn't before it
  pub last_apart : (os : List (ℕ × A)) (o : ℕ × A) → Apart s (os ++ o ∷ []) → under s o.0 os ≡ None
  last_apart [] o h = refl
  last_apart (x ∷ os) o h =
      let ih : under s o.0 os ≡ None = last_apart os o h.1 in
      by_test (x.0 == o.0)
      (λ f. let there : ask_of (under s x.0 (os ++ o ∷ [])) ≡ Some o.1 = under_more os o x.0 ih ∙ ap (λ b. if b then Some o.1 else ask_of (under s x.0 os)) f in
      let bad : None ≡ Some o.1 = sym (ap ask_of h.0) ∙ there in absurd (cc))
      (λ f. under_cons x os o.0 false f ∙ ih)

  ask_if : (b : Bool) (x : Option (ℕ × A)) → ask_of (if b then None else x) ≡ (if b then None else ask_of x)
  ask_if true x = refl
  ask_if false x = refl

  -- what came last, once one more came
  pub since_more : (before : Option P) (zs : List P) (z : P) → since s before (zs ++ z ∷ []) ≡ cond (s.is_answer z) None (Some z)
  since_more before [] z = refl
  since_more before (y ∷ zs) z = since_more (cond (s.is_answer y) None (Some y)) zs z

  module _ (asks : List A) where
    pub asker_new : (table : ℕ → Option A) → ((id : ℕ) → table id ≡ None) → AskerKept s asks [] asks [] table []
    asker_new table none = record { encoded = tt; rest = refl; opens = none; apart = tt; says = refl }

    -- a request was accepted under a free id
    pub asker_accepted : (past : List (Event P)) (todo : List A) (table table' : ℕ → Option A) (told : List R) (id : ℕ) (a : A) → table id ≡ None → ((j : ℕ) → table' j ≡ (if j == id then Some a else table j))
        → AskerKept s asks past todo [] table told → AskerKept s asks past todo ((id, a) ∷ []) table' told
    asker_accepted past todo table table' told id a free set h =
        let os : List (ℕ × A) = open_of s asks past in
        let apart : Apart s os = subst (Apart s) (append-nil os) h.apart in
        let free' : under s id os ≡ None = no_ask (under s id os) (sym (sym free ∙ (h.opens id ∙ ap (λ l. ask_of (under s id l)) (append-nil os)))) in
        record {
          encoded = h.encoded;
          rest = h.rest;
          opens = λ j. set j ∙ (ap (λ u. if j == id then Some a else u) (h.opens j ∙ ap (λ l. ask_of (under s j l)) (append-nil os)) ∙ sym (under_more os (id, a) j free'));
          apart = apart_more os (id, a) apart free';
          says = h.says;
        }
      where
        no_ask : (o : Option (ℕ × A)) → ask_of o ≡ None → o ≡ None
        no_ask None e = refl
        no_ask (Some o) e = absurd (cc)

    -- the request was sent
    pub asker_sent : (past : List (Event P)) (a : A) (todo : List A) (waiting : List (ℕ × A)) (table : ℕ → Option A) (told : List R) (p : P) → s.is_request p ≡ true → p ≡ s.encode (s.id_of p) a
        → waiting ≡ opened s p (a ∷ todo) → AskerKept s asks past (a ∷ todo) waiting table told → AskerKept s asks (Sent p ∷ past) todo [] table told
    asker_sent past a todo waiting table told p e is same h =
        let more : requests_of s (Sent p ∷ past) ≡ requests_of s past ++ p ∷ [] = filter_yes s.is_request (sent_of past) p e in
        let os : List (ℕ × A) = open_of s asks past in
        let opens : open_of s asks (Sent p ∷ past) ++ [] ≡ os ++ waiting =
        append-nil (open_of s asks (Sent p ∷ past)) ∙ (ap (λ b. cond b (os ++ opened s p (drop (length (requests_of s past)) asks)) os) e
        ∙ (ap (λ l. os ++ opened s p l) h.rest ∙ ap (λ l. os ++ l) (sym same))) in
        record {
          encoded = subst (Encoded s asks) (sym more) (encoded_more asks (requests_of s past) p a todo h.encoded h.rest is);
          rest = ap (λ l. drop (length l) asks) more ∙ drop_next asks (requests_of s past) p a todo h.rest;
          opens = λ j. h.opens j ∙ ap (λ l. ask_of (under s j l)) (sym opens);
          apart = subst (Apart s) (sym opens) h.apart;
          says = h.says;
        }

    -- an answer came to a request that was sent, or to none
    pub asker_answered : (past : List (Event P)) (todo : List A) (waiting : List (ℕ × A)) (table table' : ℕ → Option A) (told : List R) (p : P) → s.is_answer p ≡ true
        → under s (s.id_of p) waiting ≡ None → ((j : ℕ) → table' j ≡ (if j == s.id_of p then None else table j))
        → AskerKept s asks past todo waiting table told → AskerKept s asks (Got p ∷ past) todo waiting table' (told ++ said s (under s (s.id_of p) (open_of s asks past)) (since s None (got_of past)) p)
    asker_answered past todo waiting table table' told p e other set h =
        let os : List (ℕ × A) = open_of s asks past in
        let opens : open_of s asks (Got p ∷ past) ++ waiting ≡ without s (s.id_of p) (os ++ waiting) =
        ap (λ b. cond b (without s (s.id_of p) os) os ++ waiting) e ∙ sym (without_front os waiting (s.id_of p) other) in
        record {
          encoded = h.encoded;
          rest = h.rest;
          opens = λ j. set j ∙ (ap (λ u. if j == s.id_of p then None else u) (h.opens j) ∙ (sym (ask_if (j == s.id_of p) (under s j (os ++ waiting)))
              ∙ (ap ask_of (sym (under_closed (os ++ waiting) (s.id_of p) j h.apart)) ∙ ap (λ l. ask_of (under s j l)) (sym opens))));
          apart = subst (Apart s) (sym opens) (apart_closed (os ++ waiting) (s.id_of p) h.apart);
          says =
              ap (λ l. l ++ said s (under s (s.id_of p) os) (since s None (got_of past)) p) h.says
              ∙ ap (λ b. cond b (replies_of s asks past ++ said s (under s (s.id_of p) os) (since s None (got_of past)) p) (replies_of s asks past)) (sym e);
        }

    -- what the table has under an id that doesn't wait is open
    -- an answer to no request that was sent is dropped
    pub asker_stray : (past : List (Event P)) (todo : List A) (waiting : List (ℕ × A)) (table : ℕ → Option A) (told : List R) (p : P) → s.is_answer p ≡ true
        → under s (s.id_of p) (open_of s asks past) ≡ None → AskerKept s asks past todo waiting table told → AskerKept s asks (Got p ∷ past) todo waiting table told
    asker_stray past todo waiting table told p e free h =
        let os : List (ℕ × A) = open_of s asks past in
        let same : open_of s asks (Got p ∷ past) ≡ os = ap (λ b. cond b (without s (s.id_of p) os) os) e ∙ without_none os (s.id_of p) free in
        let says : replies_of s asks (Got p ∷ past) ≡ replies_of s asks past =
        ap (λ b. cond b (replies_of s asks past ++ said s (under s (s.id_of p) os) (since s None (got_of past)) p) (replies_of s asks past)) e
        ∙ (ap (λ u. replies_of s asks past ++ said s u (since s None (got_of past)) p) free ∙ append-nil (replies_of s asks past)) in
        record {
          encoded = h.encoded;
          rest = h.rest;
          opens = λ j. h.opens j ∙ ap (λ l. ask_of (under s j (l ++ waiting))) (sym same);
          apart = subst (λ l. Apart s (l ++ waiting)) (sym same) h.apart;
          says = h.says ∙ sym says;
        }

    pub asker_open : (past : List (Event P)) (todo : List A) (waiting : List (ℕ × A)) (table : ℕ → Option A) (told : List R) (id : ℕ) → under s id waiting ≡ None
        → AskerKept s asks past todo waiting table told → table id ≡ ask_of (under s id (open_of s asks past))
    asker_open past todo waiting table told id other h = h.opens id ∙ ap ask_of (under_front (open_of s asks past) waiting id other)

    -- a packet came that isn't an answer
    pub asker_came : (past : List (Event P)) (todo : List A) (waiting : List (ℕ × A)) (table : ℕ → Option A) (told : List R) (p : P) → s.is_answer p ≡ false
        → AskerKept s asks past todo waiting table told → AskerKept s asks (Got p ∷ past) todo waiting table told
    asker_came past todo waiting table told p e h =
        let os : List (ℕ × A) = open_of s asks past in
        let opens : open_of s asks (Got p ∷ past) ++ waiting ≡ os ++ waiting = ap (λ b. cond b (without s (s.id_of p) os) os ++ waiting) e in
        record {
          encoded = h.encoded;
          rest = h.rest;
          opens = λ j. h.opens j ∙ ap (λ l. ask_of (under s j l)) (sym opens);
          apart = subst (Apart s) (sym opens) h.apart;
          says = h.says ∙ ap (λ b. cond b (replies_of s asks past ++ said s (under s (s.id_of p) os) (since s None (got_of past)) p) (replies_of s asks past)) (sym e);
        }

    -- a packet was sent that isn't a request, as an answer to the other end's own
    pub asker_gave : (past : List (Event P)) (todo : List A) (waiting : List (ℕ × A)) (table : ℕ → Option A) (told : List R) (p : P) → s.is_request p ≡ false
        → AskerKept s asks past todo waiting table told → AskerKept s asks (Sent p ∷ past) todo waiting table told
    asker_gave past todo waiting table told p e h =
        let same : requests_of s (Sent p ∷ past) ≡ requests_of s past = filter_no s.is_request (sent_of past) p e in
        let os : List (ℕ × A) = open_of s asks past in
        let opens : open_of s asks (Sent p ∷ past) ++ waiting ≡ os ++ waiting = ap (λ b. cond b (os ++ opened s p (drop (length (requests_of s past)) asks)) os ++ waiting) e in
        record {
          encoded = subst (Encoded s asks) (sym same) h.encoded;
          rest = ap (λ l. drop (length l) asks) same ∙ h.rest;
          opens = λ j. h.opens j ∙ ap (λ l. ask_of (under s j l)) (sym opens);
          apart = subst (Apart s) (sym opens) h.apart;
          says = h.says;
        }

    -- no step of a list
    pub asker_empty : (past : List (Event P)) (todo : List A) (waiting : List (ℕ × A)) (table : ℕ → Option A) (told : List R) → AskerKept s asks past todo waiting table told → AskerKept s asks (Empty ∷ past) todo waiting table told
    asker_empty past todo waiting table told h = record { encoded = h.encoded; rest = h.rest; opens = h.opens; apart = h.apart; says = h.says }

    pub asker_marked : (past : List (Event P)) (todo : List A) (waiting : List (ℕ × A)) (table : ℕ → Option A) (told : List R) → AskerKept s asks past todo waiting table told → AskerKept s asks (Marked ∷ past) todo waiting table told
    asker_marked past todo waiting table told h = record { encoded = h.encoded; rest = h.rest; opens = h.opens; apart = h.apart; says = h.says }

    pub asker_saw : (past : List (Event P)) (todo : List A) (waiting : List (ℕ × A)) (table : ℕ → Option A) (told : List R) → AskerKept s asks past todo waiting table told → AskerKept s asks (Saw ∷ past) todo waiting table told
    asker_saw past todo waiting table told h = record { encoded = h.encoded; rest = h.rest; opens = h.opens; apart = h.apart; says = h.says }

  none_open : (os ws : List (ℕ × A)) → ((id : ℕ) → ask_of (under s id (os ++ ws)) ≡ None) → os ≡ []
  none_open [] ws h = refl
  none_open (o ∷ os) ws h =
      let here : (o.0 == o.0) ≡ true = grind (arith, nat_tests) in
      let bad : Some o.1 ≡ None = sym (ap ask_of (under_cons o (os ++ ws) o.0 true here)) ∙ h o.0 in
      absurd (cc)

  -- the end of the asking end: all is settled, or the other end stopped
  pub asker_settled : (plan : RequestPlan A) (past : List (Event P)) (waiting : List (ℕ × A)) (table : ℕ → Option A) (told : List R) → AskerKept s (asks_of s plan) past [] waiting table told
      → AcksKept s past [] → ((id : ℕ) → table id ≡ None) → AskerEnds s plan past told
  asker_settled plan past waiting table told h acks none =
      record {
        encoded = h.encoded;
        replies = h.says;
        acks = acks_front s past [] acks;
        end = inl (record {
          all = drop_none (asks_of s plan) (requests_of s past) h.encoded h.rest;
          none = none_open (open_of s (asks_of s plan) past) waiting (λ id. sym (h.opens id) ∙ none id);
          acked = acks_whole s past acks;
        });
      }

  pub asker_stopped : (plan : RequestPlan A) (past : List (Event P)) (todo : List A) (waiting : List (ℕ × A)) (table : ℕ → Option A) (told : List R) (rest : List P) → AskerKept s (asks_of s plan) past todo waiting table told
      → AcksKept s past rest → is_drained past ≡ true → Follows past → AskerEnds s plan past told
  asker_stopped plan past todo waiting table told rest h acks drained follows = record { encoded = h.encoded; replies = h.says; acks = acks_front s past rest acks; end = inr (drained, follows) }

  -- it breaks off
  pub asker_breaks : (asks : List A) (past : List (Event P)) (todo : List A) (waiting : List (ℕ × A)) (table : ℕ → Option A) (told : List R) (rest : List P) → AskerKept s asks past todo waiting table told
      → AcksKept s past rest → AskerBreaks s asks past told
  asker_breaks asks past todo waiting table told rest h acks = record { encoded = h.encoded; replies = h.says; acks = acks_front s past rest acks }

module _ {P A Q R : Type 0} (s : WireFormat P A Q R) where
  -- the same requests stand in another table
  pub asker_table : (asks : List A) (past : List (Event P)) (todo : List A) (waiting : List (ℕ × A)) (table table' : ℕ → Option A) (told : List R) → ((j : ℕ) → table' j ≡ table j)
      → AskerKept s asks past todo waiting table told → AskerKept s asks past todo waiting table' told
  asker_table asks past todo waiting table table' told same h = record { encoded = h.encoded; rest = h.rest; opens = λ j. same j ∙ h.opens j; apart = h.apart; says = h.says }

  -- a request that has an answer was accepted and sent; one that has none was sent
  pub asker_asked : (keeps : Keeps s) (asks : List A) (past : List (Event P)) (a : A) (todo : List A) (table table' : ℕ → Option A) (told : List R) (id : ℕ) → id < 2 ^ 64
      → s.has_answer a ≡ true → table id ≡ None → ((j : ℕ) → table' j ≡ (if j == id then Some a else table j))
      → AskerKept s asks past (a ∷ todo) [] table told → AskerKept s asks (Sent (s.encode id a) ∷ past) todo [] table' told
  asker_asked keeps asks past a todo table table' told id fits answers free set h =
      let same : s.id_of (s.encode id a) ≡ id = keeps.id_kept id a fits answers in
      let waits : s.waits (s.encode id a) ≡ true = keeps.waits_ask id a ∙ answers in
      let here : (id, a) ∷ [] ≡ opened s (s.encode id a) (a ∷ todo) =
      ap (λ k. (k, a) ∷ []) (sym same) ∙ ap (λ b. cond b ((s.id_of (s.encode id a), a) ∷ []) []) (sym waits) in
      asker_sent s asks past a todo ((id, a) ∷ []) table' told (s.encode id a) (keeps.encodes id a) (ap (λ k. s.encode k a) (sym same)) here
      (asker_accepted s asks past (a ∷ todo) table table' told id a free set h)

  pub asker_told : (keeps : Keeps s) (asks : List A) (past : List (Event P)) (a : A) (todo : List A) (table : ℕ → Option A) (told : List R) (id : ℕ)
      → s.has_answer a ≡ false → AskerKept s asks past (a ∷ todo) [] table told → AskerKept s asks (Sent (s.encode id a) ∷ past) todo [] table told
  asker_told keeps asks past a todo table told id answers h =
      let waits : s.waits (s.encode id a) ≡ false = keeps.waits_ask id a ∙ answers in
      asker_sent s asks past a todo [] table told (s.encode id a) (keeps.encodes id a) (sym (keeps.id_own id a answers))
      (ap (λ b. cond b ((s.id_of (s.encode id a), a) ∷ []) []) (sym waits)) h

  -- a message was acknowledged
  pub asker_acked : (keeps : Keeps s) (asks : List A) (past : List (Event P)) (todo : List A) (waiting : List (ℕ × A)) (table : ℕ → Option A) (told : List R) (m : P) → s.is_message m ≡ true
      → AskerKept s asks past todo waiting table told → AskerKept s asks (Sent (s.ack m) ∷ past) todo waiting table told
  asker_acked keeps asks past todo waiting table told m e h = asker_gave s asks past todo waiting table told (s.ack m) (keeps.ack_asks (s.ack m) (keeps.acks m e).0) h
