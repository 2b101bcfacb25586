-- The asking end acknowledges the messages, and the serving end keeps its own in a table.
use Rattle.std.proofs.Common.{◌≡◌, ◌≢◌, ℕ, zero, suc, ◌+◌, ◌≤◌, List, [], ◌∷◌, ◌++◌, map, length, Bool, true, false, cond, filter, refl, sym, ap, ◌∙◌, subst, append_assoc, arith, Some, None, inl, inr}
use Rattle.std.specs.Prelude.{◌==◌, ◌||◌, ◌&&◌, ◌<◌, ◌^◌, if◌then◌else◌}
use Rattle.std.specs.List.{count_by}
use Rattle.std.proofs.lemmas.List.{append-nil, map-append}
use Rattle.std.proofs.lemmas.List.Elements.{filter-append}
use Rattle.std.proofs.lemmas.List.Sums.{sum_by-append}
use Rattle.std.proofs.lemmas.Bool.Decides.{nat_tests}
use Rattle.channel_trace.specs.declared.event.Event.{Event}
use Rattle.channel_trace.specs.declared.event.Event.TheVariants.{Sent, Got, Empty, Marked, Saw}
use Rattle.channel_trace.specs.Runs.{IsFront, sent_of, got_of}
use Rattle.channel_model.specs.WireFormat.{WireFormat, Back, listed, under_own, packets_of, IsBesides, IsBack, Keeps}
use Rattle.channel_model.specs.Acks.{is_in, removed, AreApart, acks_for, own_open, own_closed, OwnOnce, OwnFrom}
use Rattle.channel_model.specs.Workers.{AcksKept, OwnKept, Owes}
use Rattle.channel_model.proofs.Opens.{by_test, filter_yes, filter_no}
use Rattle.channel_model.proofs.Served.{filter_first, filter_past}

module _ {P A Q R : Type 0} (s : WireFormat P A Q R) where
  pub acks_new : AcksKept s [] []
  acks_new = record { done = []; got_is = refl; acks = refl }

  -- a packet came
  pub acks_came : (past : List (Event P)) (rest : List P) (p : P) → AcksKept s past rest → AcksKept s (Got p ∷ past) (rest ++ p ∷ [])
  acks_came past rest p h = record { done = h.done; got_is = ap (λ l. l ++ p ∷ []) h.got_is ∙ append_assoc h.done rest (p ∷ []); acks = h.acks }

  -- the first of those that came is no message
  pub acks_passed : (past : List (Event P)) (p : P) (rest : List P) → s.is_message p ≡ false → AcksKept s past (p ∷ rest) → AcksKept s past rest
  acks_passed past p rest e h = record { done = h.done ++ p ∷ []; got_is = h.got_is ∙ sym (append_assoc h.done (p ∷ []) rest); acks = h.acks ∙ ap (map s.ack) (sym (filter_no s.is_message h.done p e)) }

  -- it is one, and was acknowledged
  pub acks_gave : Keeps s → (past : List (Event P)) (p : P) (rest : List P) → s.is_message p ≡ true → AcksKept s past (p ∷ rest) → AcksKept s (Sent (s.ack p) ∷ past) rest
  acks_gave keeps past p rest e h = record {
    done = h.done ++ p ∷ [];
    got_is = h.got_is ∙ sym (append_assoc h.done (p ∷ []) rest);
    acks =
        filter_yes s.is_ack (sent_of past) (s.ack p) (keeps.acks p e).0
        ∙ (ap (λ l. l ++ s.ack p ∷ []) h.acks ∙ (sym (map-append s.ack (filter s.is_message h.done) (p ∷ [])) ∙ ap (map s.ack) (sym (filter_yes s.is_message h.done p e))));
  }

  -- another packet was sent
  pub acks_sent : (past : List (Event P)) (p : P) (rest : List P) → s.is_ack p ≡ false → AcksKept s past rest → AcksKept s (Sent p ∷ past) rest
  acks_sent past p rest e h = record { done = h.done; got_is = h.got_is; acks = filter_no s.is_ack (sent_of past) p e ∙ h.acks }

  request_no_ack : Keeps s → (p : P) → s.is_request p ≡ true → s.is_ack p ≡ false
  request_no_ack keeps p e = by_test (s.is_ack p) (λ f. let bad : true ≡ false = sym e ∙ keeps.ack_asks p f in absurd (cc)) (λ f. f)

  pub acks_asked : Keeps s → (past : List (Event P)) (id : ℕ) (a : A) (rest : List P) → AcksKept s past rest → AcksKept s (Sent (s.encode id a) ∷ past) rest
  acks_asked keeps past id a rest h = acks_sent past (s.encode id a) rest (request_no_ack keeps (s.encode id a) (keeps.encodes id a)) h

  -- nothing was sent or got
  pub acks_quiet : (past : List (Event P)) (e : Event P) (rest : List P) → sent_of (e ∷ past) ≡ sent_of past → got_of (e ∷ past) ≡ got_of past → AcksKept s past rest → AcksKept s (e ∷ past) rest
  acks_quiet past e rest same same' h = record { done = h.done; got_is = same' ∙ h.got_is; acks = ap (filter s.is_ack) same ∙ h.acks }

  pub acks_front : (past : List (Event P)) (rest : List P) → AcksKept s past rest → IsFront (filter s.is_ack (sent_of past)) (acks_for s (got_of past))
  acks_front past rest h = (
    acks_for s rest,
    ap (acks_for s) h.got_is ∙ (ap (map s.ack) (filter-append s.is_message h.done rest) ∙ (map-append s.ack (filter s.is_message h.done) (filter s.is_message rest) ∙ ap (λ l. l ++ acks_for s rest) (sym h.acks))),
  )

  pub acks_whole : (past : List (Event P)) → AcksKept s past [] → filter s.is_ack (sent_of past) ≡ acks_for s (got_of past)
  acks_whole past h = h.acks ∙ ap (acks_for s) (sym (append-nil h.done) ∙ sym h.got_is)

-- ids in a list
or_if : (b c d : Bool) → (c || (if b then true else d)) ≡ (if b then true else c || d)
or_if true true d = refl
or_if true false d = refl
or_if false c d = refl

or_true : (b c : Bool) → b ≡ true → (b || c) ≡ true
or_true b c e = ap (λ t. t || c) e

or_false : (b c : Bool) → b ≡ false → (b || c) ≡ c
or_false b c e = ap (λ t. t || c) e

or_first : (b c : Bool) → (b || c) ≡ false → b ≡ false
or_first true c e = e
or_first false c e = refl

not_true : {X : Type 0} (b : Bool) → b ≡ true → b ≡ false → X
not_true b e f = absurd (cc)

same_test : (o j : ℕ) (b : Bool) → (j == o) ≡ b → (o == j) ≡ b
same_test o j true e = grind (arith, nat_tests, e)
same_test o j false e = grind (arith, nat_tests, e)

pub in_more : (os : List ℕ) (o j : ℕ) → is_in j (os ++ o ∷ []) ≡ (if j == o then true else is_in j os)
in_more [] o j =
    by_test (j == o)
    (λ e. or_true (o == j) false (same_test o j true e) ∙ ap (λ b. if b then true else false) (sym e))
    (λ e. or_false (o == j) false (same_test o j false e) ∙ ap (λ b. if b then true else false) (sym e))
in_more (x ∷ os) o j = ap (λ b. (x == j) || b) (in_more os o j) ∙ or_if (j == o) (x == j) (is_in j os)

pub apart_more : (os : List ℕ) (o : ℕ) → AreApart os → is_in o os ≡ false → AreApart (os ++ o ∷ [])
apart_more [] o h e = (refl, tt)
apart_more (x ∷ os) o h e =
    let other : (x == o) ≡ false = or_first (x == o) (is_in o os) e in
    let rest : is_in o os ≡ false = sym (or_false (x == o) (is_in o os) other) ∙ e in
    (in_more os o x ∙ (ap (λ b. if b then true else is_in x os) other ∙ h.0), apart_more os o h.1 rest)

removed_cons : (o : ℕ) (os : List ℕ) (id : ℕ) (b : Bool) → (o == id) ≡ b → removed id (o ∷ os) ≡ (if b then os else o ∷ removed id os)
removed_cons o os id b e = ap (λ t. cond t os (o ∷ removed id os)) e

pub in_removed : (os : List ℕ) (id j : ℕ) → AreApart os → is_in j (removed id os) ≡ (if j == id then false else is_in j os)
in_removed [] id j h = by_test (j == id) (λ e. ap (λ b. if b then false else false) (sym e)) (λ e. ap (λ b. if b then false else false) (sym e))
in_removed (o ∷ os) id j h =
    by_test (o == id)
    (λ e. ap (is_in j) (removed_cons o os id true e) ∙ by_test (j == id)
    (λ f. let same : o ≡ j = grind (arith, nat_tests, e, f) in ap (λ k. is_in k os) (sym same) ∙ (h.0 ∙ ap (λ b. if b then false else is_in j (o ∷ os)) (sym f)))
    (λ f. let other : (o == j) ≡ false = grind (arith, nat_tests, e, f) in sym (or_false (o == j) (is_in j os) other) ∙ ap (λ b. if b then false else is_in j (o ∷ os)) (sym f)))
    (λ e. ap (is_in j) (removed_cons o os id false e) ∙ by_test (o == j)
    (λ f. let other : (j == id) ≡ false = grind (arith, nat_tests, e, f) in
    or_true (o == j) (is_in j (removed id os)) f ∙ (sym (or_true (o == j) (is_in j os) f) ∙ ap (λ b. if b then false else is_in j (o ∷ os)) (sym other)))
    (λ f. or_false (o == j) (is_in j (removed id os)) f ∙ (in_removed os id j h.1 ∙ ap (λ b. if j == id then false else b) (sym (or_false (o == j) (is_in j os) f)))))

false_if : (b c : Bool) → c ≡ false → (if b then false else c) ≡ false
false_if true c e = refl
false_if false c e = e

apart_removed : (os : List ℕ) (id : ℕ) → AreApart os → AreApart (removed id os)
apart_removed [] id h = tt
apart_removed (o ∷ os) id h =
    by_test (o == id)
    (λ e. subst AreApart (sym (removed_cons o os id true e)) h.1)
    (λ e. subst AreApart (sym (removed_cons o os id false e)) (in_removed os id o h.1 ∙ false_if (o == id) (is_in o os) h.0, apart_removed os id h.1))

removed_none : (os : List ℕ) (id : ℕ) → is_in id os ≡ false → removed id os ≡ os
removed_none [] id e = refl
removed_none (o ∷ os) id e =
    let other : (o == id) ≡ false = or_first (o == id) (is_in id os) e in
    removed_cons o os id false other ∙ ap (λ (l : List ℕ). o ∷ l) (removed_none os id (sym (or_false (o == id) (is_in id os) other) ∙ e))

removed_front : (os ws : List ℕ) (id : ℕ) → is_in id ws ≡ false → removed id (os ++ ws) ≡ removed id os ++ ws
removed_front [] ws id e = removed_none ws id e
removed_front (o ∷ os) ws id e =
    by_test (o == id)
    (λ f. removed_cons o (os ++ ws) id true f ∙ ap (λ l. l ++ ws) (sym (removed_cons o os id true f)))
    (λ f. removed_cons o (os ++ ws) id false f ∙ (ap (λ (l : List ℕ). o ∷ l) (removed_front os ws id e) ∙ ap (λ l. l ++ ws) (sym (removed_cons o os id false f))))

in_behind : (os ws : List ℕ) (id : ℕ) → is_in id ws ≡ true → is_in id (os ++ ws) ≡ true
in_behind [] ws id e = e
in_behind (x ∷ os) ws id e = by_test (x == id) (λ f. or_true (x == id) (is_in id (os ++ ws)) f) (λ f. or_false (x == id) (is_in id (os ++ ws)) f ∙ in_behind os ws id e)

-- what stands behind isn't in front
apart_front : (os ws : List ℕ) (id : ℕ) → AreApart (os ++ ws) → is_in id ws ≡ true → is_in id os ≡ false
apart_front [] ws id h e = refl
apart_front (o ∷ os) ws id h e =
    by_test (o == id)
    (λ f. let same : o ≡ id = grind (arith, nat_tests, f) in not_true (is_in o (os ++ ws)) (in_behind os ws o (ap (λ k. is_in k ws) same ∙ e)) h.0)
    (λ f. or_false (o == id) (is_in id os) f ∙ apart_front os ws id h.1 e)

module _ {P A Q R : Type 0} (s : WireFormat P A Q R) where
  -- the ids of the messages among these packets
  abbrev ids_of : List P → List ℕ
  ids_of ps = map s.id_of (filter s.is_message ps)

  pub own_new : (table : ℕ → Bool) → ((id : ℕ) → table id ≡ false) → OwnKept s [] [] table
  own_new table none = record { opens = none; apart = tt }

  -- the same ids stand in the table
  own_same : (past past' : List (Event P)) (owed owed' : List P) (table table' : ℕ → Bool) → own_open s past' ++ ids_of owed' ≡ own_open s past ++ ids_of owed → ((j : ℕ) → table' j ≡ table j)
      → OwnKept s past owed table → OwnKept s past' owed' table'
  own_same past past' owed owed' table table' is same h = record { opens = λ j. same j ∙ (h.opens j ∙ ap (is_in j) (sym is)); apart = subst AreApart (sym is) h.apart }

  -- what is owed was sent
  pub own_gave : (past : List (Event P)) (p : P) (owed : List P) (table : ℕ → Bool) → OwnKept s past (p ∷ owed) table → OwnKept s (Sent p ∷ past) owed table
  own_gave past p owed table h =
      let os : List ℕ = own_open s past in
      own_same past (Sent p ∷ past) (p ∷ owed) owed table table
      (by_test (s.is_message p)
      (λ e. ap (λ b. cond b (os ++ s.id_of p ∷ []) os ++ ids_of owed) e ∙ (append_assoc os (s.id_of p ∷ []) (ids_of owed) ∙ ap (λ l. os ++ map s.id_of l) (sym (filter_first s.is_message p owed e))))
      (λ e. ap (λ b. cond b (os ++ s.id_of p ∷ []) os ++ ids_of owed) e ∙ ap (λ l. os ++ map s.id_of l) (sym (filter_past s.is_message p owed e))))
      (λ j. refl) h

  -- a packet is served
  pub own_served : (past : List (Event P)) (owed : List P) (table table' : ℕ → Bool) → Owes s owed table table' → OwnKept s past [] table → OwnKept s past owed table'
  own_served past owed table table' (inl o) h = own_same past past [] owed table table' (ap (λ l. own_open s past ++ map s.id_of l) o.none) o.same h
  own_served past owed table table' (inr o) h =
      let os : List ℕ = own_open s past in
      let all : os ++ ids_of owed ≡ os ++ o.own ∷ [] = ap (λ l. os ++ l) o.one in
      let before : (j : ℕ) → table j ≡ is_in j os = λ j. h.opens j ∙ ap (is_in j) (append-nil os) in
      record {
        opens = λ j. o.set j ∙ (ap (λ b. if j == o.own then true else b) (before j) ∙ (sym (in_more os o.own j) ∙ ap (is_in j) (sym all)));
        apart = subst AreApart (sym all) (apart_more os o.own (subst AreApart (append-nil os) h.apart) (sym (before o.own) ∙ o.free));
      }

  -- what goes back for it owes so: nothing, an answer alone, or a message under an id of the table and then the answer
  pub owes_nothing : (table table' : ℕ → Bool) → ((j : ℕ) → table' j ≡ table j) → Owes s [] table table'
  owes_nothing table table' same = inl (record { none = refl; same = same })

  pub owes_answer : (id own : ℕ) (b : Back P) (table table' : ℕ → Bool) → IsBack s id b → b.message ≡ None → ((j : ℕ) → table' j ≡ table j) → Owes s (packets_of own b) table table'
  owes_answer id own b table table' back none same =
      inl (record { none = ap (λ m. filter s.is_message (listed (under_own own m) ++ b.answer ∷ [])) none ∙ filter_past s.is_message b.answer [] back.other; same = same })

  pub owes_message : (id own : ℕ) (b : Back P) (m : ℕ → P) (table table' : ℕ → Bool) → own < 2 ^ 64 → IsBack s id b → b.message ≡ Some m → table own ≡ false
      → ((j : ℕ) → table' j ≡ (if j == own then true else table j)) → Owes s (packets_of own b) table table'
  owes_message id own b m table table' fits back some free set =
      let besides : IsBesides s (Some m) = subst (IsBesides s) some back.besides in
      inr (record {
        own = own;
        one =
            ap (λ o. ids_of (listed (under_own own o) ++ b.answer ∷ [])) some
            ∙ (ap (map s.id_of) (filter_first s.is_message (m own) (b.answer ∷ []) (besides own).message ∙ ap (λ (l : List P). m own ∷ l) (filter_past s.is_message b.answer [] back.other))
            ∙ ap (λ k. k ∷ []) ((besides own).same fits));
        free = free;
        set = set;
      })

  -- an acknowledgement came for a message that was sent, or for none
  pub own_acked : (past : List (Event P)) (p : P) (owed : List P) (table table' : ℕ → Bool) → s.is_ack p ≡ true → is_in (s.id_of p) (ids_of owed) ≡ false
      → ((j : ℕ) → table' j ≡ (if j == s.id_of p then false else table j)) → OwnKept s past owed table → OwnKept s (Got p ∷ past) owed table'
  own_acked past p owed table table' e other set h =
      let os : List ℕ = own_open s past in
      let all : own_open s (Got p ∷ past) ++ ids_of owed ≡ removed (s.id_of p) (os ++ ids_of owed) =
      ap (λ b. cond b (removed (s.id_of p) os) os ++ ids_of owed) e ∙ sym (removed_front os (ids_of owed) (s.id_of p) other) in
      record {
        opens = λ j. set j ∙ (ap (λ b. if j == s.id_of p then false else b) (h.opens j) ∙ (sym (in_removed (os ++ ids_of owed) (s.id_of p) j h.apart) ∙ ap (is_in j) (sym all)));
        apart = subst AreApart (sym all) (apart_removed (os ++ ids_of owed) (s.id_of p) h.apart);
      }

  -- one for a message that isn't sent yet is dropped
  pub own_early : (past : List (Event P)) (p : P) (owed : List P) (table : ℕ → Bool) → s.is_ack p ≡ true → is_in (s.id_of p) (ids_of owed) ≡ true → OwnKept s past owed table → OwnKept s (Got p ∷ past) owed table
  own_early past p owed table e there h =
      let os : List ℕ = own_open s past in
      let none : removed (s.id_of p) os ≡ os = removed_none os (s.id_of p) (apart_front os (ids_of owed) (s.id_of p) h.apart there) in
      own_same past (Got p ∷ past) owed owed table table (ap (λ b. cond b (removed (s.id_of p) os) os ++ ids_of owed) e ∙ ap (λ l. l ++ ids_of owed) none) (λ j. refl) h

  -- another packet came
  pub own_came : (past : List (Event P)) (p : P) (owed : List P) (table : ℕ → Bool) → s.is_ack p ≡ false → OwnKept s past owed table → OwnKept s (Got p ∷ past) owed table
  own_came past p owed table e h =
      let os : List ℕ = own_open s past in
      own_same past (Got p ∷ past) owed owed table table (ap (λ b. cond b (removed (s.id_of p) os) os ++ ids_of owed) e) (λ j. refl) h

  -- nothing was sent or got
  pub own_empty : (past : List (Event P)) (owed : List P) (table : ℕ → Bool) → OwnKept s past owed table → OwnKept s (Empty ∷ past) owed table
  own_empty past owed table h = record { opens = h.opens; apart = h.apart }

  pub own_marked : (past : List (Event P)) (owed : List P) (table : ℕ → Bool) → OwnKept s past owed table → OwnKept s (Marked ∷ past) owed table
  own_marked past owed table h = record { opens = h.opens; apart = h.apart }

  pub own_saw : (past : List (Event P)) (owed : List P) (table : ℕ → Bool) → OwnKept s past owed table → OwnKept s (Saw ∷ past) owed table
  own_saw past owed table h = record { opens = h.opens; apart = h.apart }

-- each message is settled once
count-append : (f : ℕ → Bool) (xs ys : List ℕ) → count_by f (xs ++ ys) ≡ count_by f xs + count_by f ys
count-append f xs ys = sum_by-append (λ x. cond (f x) 1 0) xs ys

one_out : (f : ℕ → Bool) (id : ℕ) (os : List ℕ) → is_in id os ≡ true → count_by f os ≡ count_by f (id ∷ []) + count_by f (removed id os)
one_out f id [] e = absurd (cc)
one_out f id (o ∷ os) e =
    by_test (o == id)
    (λ t. let same : o ≡ id = grind (arith, nat_tests, t) in count-append f (o ∷ []) os ∙ (ap (λ k. count_by f (k ∷ []) + count_by f os) same ∙ ap (λ l. count_by f (id ∷ []) + count_by f l) (sym (removed_cons o os id true t))))
    (λ t. let there : is_in id os ≡ true = sym (or_false (o == id) (is_in id os) t) ∙ e in
    omega (arith, one_out f id os there, count-append f (o ∷ []) os, count-append f (o ∷ []) (removed id os), ap (count_by f) (removed_cons o os id false t)))

module _ {P A Q R : Type 0} (s : WireFormat P A Q R) where
  own_sends : (p : P) (past : List (Event P)) → OwnOnce s past → OwnOnce s (Sent p ∷ past)
  own_sends p past ih f =
      by_test (s.is_message p)
      (λ e. omega (
        arith,
        ih f,
        ap (λ l. count_by f (map s.id_of l)) (filter_yes s.is_message (sent_of past) p e),
        ap (count_by f) (map-append s.id_of (filter s.is_message (sent_of past)) (p ∷ [])),
        count-append f (map s.id_of (filter s.is_message (sent_of past))) (s.id_of p ∷ []),
        count-append f (own_open s past) (s.id_of p ∷ []),
        ap (λ b. count_by f (cond b (own_open s past ++ s.id_of p ∷ []) (own_open s past))) e,
      ))
      (λ e. ap (λ l. count_by f (map s.id_of l)) (filter_no s.is_message (sent_of past) p e)
      ∙ (ih f ∙ ap (λ b. count_by f (own_closed s past) + count_by f (cond b (own_open s past ++ s.id_of p ∷ []) (own_open s past))) (sym e)))

  own_gets : (p : P) (past : List (Event P)) → OwnOnce s past → OwnOnce s (Got p ∷ past)
  own_gets p past ih f =
      by_test (s.is_ack p)
      (λ e. by_test (is_in (s.id_of p) (own_open s past))
      (λ t. omega (
        arith,
        ih f,
        one_out f (s.id_of p) (own_open s past) t,
        count-append f (own_closed s past) (s.id_of p ∷ []),
        ap (λ b. count_by f (cond b (removed (s.id_of p) (own_open s past)) (own_open s past))) e,
        ap (λ b. count_by f (cond (b && is_in (s.id_of p) (own_open s past)) (own_closed s past ++ s.id_of p ∷ []) (own_closed s past))) e,
        ap (λ b. count_by f (cond b (own_closed s past ++ s.id_of p ∷ []) (own_closed s past))) t,
      ))
      (λ t. omega (
        arith,
        ih f,
        ap (count_by f) (removed_none (own_open s past) (s.id_of p) t),
        ap (λ b. count_by f (cond b (removed (s.id_of p) (own_open s past)) (own_open s past))) e,
        ap (λ b. count_by f (cond (b && is_in (s.id_of p) (own_open s past)) (own_closed s past ++ s.id_of p ∷ []) (own_closed s past))) e,
        ap (λ b. count_by f (cond b (own_closed s past ++ s.id_of p ∷ []) (own_closed s past))) t,
      )))
      (λ e. omega (
        arith,
        ih f,
        ap (λ b. count_by f (cond b (removed (s.id_of p) (own_open s past)) (own_open s past))) e,
        ap (λ b. count_by f (cond (b && is_in (s.id_of p) (own_open s past)) (own_closed s past ++ s.id_of p ∷ []) (own_closed s past))) e,
      ))

  pub own_once : (past : List (Event P)) → OwnOnce s past
  own_once [] = λ f. refl
  own_once (Sent p ∷ past) = own_sends p past (own_once past)
  own_once (Got p ∷ past) = own_gets p past (own_once past)
  own_once (Empty ∷ past) = own_once past
  own_once (Marked ∷ past) = own_once past
  own_once (Saw ∷ past) = own_once past

-- distinct ids from 1 to so many are no more than that
length_removed : (os : List ℕ) (id : ℕ) → length os ≤ length (removed id os) + 1
length_removed [] id = omega arith
length_removed (o ∷ os) id =
    by_test (o == id)
    (λ e. omega (arith, ap length (removed_cons o os id true e)))
    (λ e. omega (arith, ap length (removed_cons o os id false e), length_removed os id))

few_apart : (n : ℕ) (os : List ℕ) → AreApart os → ((j : ℕ) → is_in j os ≡ true → (1 ≤ j) × (j ≤ n)) → length os ≤ n
few_apart n [] apart within = omega arith
few_apart zero (o ∷ os) apart within =
    let here : (o == o) ≡ true = grind (arith, nat_tests) in
    let low = within o (or_true (o == o) (is_in o os) here) in
    absurd (omega (arith, low.0, low.1))
few_apart (suc n) (o ∷ os) apart within =
    let all : List ℕ = o ∷ os in
    let rest = few_apart n (removed (suc n) all) (apart_removed all (suc n) apart) (λ j there. below j there (by_if (j == suc n) (is_in j all) (sym (in_removed all (suc n) j apart) ∙ there))) in
    omega (arith, rest, length_removed all (suc n))
  where
    by_if : (b c : Bool) → (if b then false else c) ≡ true → (b ≡ false) × (c ≡ true)
    by_if true c e = absurd (cc)
    by_if false c e = (refl, e)

    below : (j : ℕ) → is_in j (removed (suc n) (o ∷ os)) ≡ true → ((j == suc n) ≡ false) × (is_in j (o ∷ os) ≡ true) → (1 ≤ j) × (j ≤ n)
    below j there e =
        let bounds = within j e.1 in
        let other : j ≢ suc n = grind (arith, nat_tests, e.0) in
        (bounds.0, omega (arith, bounds.1, other))

module _ {P A Q R : Type 0} (s : WireFormat P A Q R) where
  own_apart : (most : ℕ) (past : List (Event P)) → OwnFrom s most past → AreApart (own_open s past) × ((j : ℕ) → is_in j (own_open s past) ≡ true → (1 ≤ j) × (j ≤ most))
  own_apart most [] h = (tt, λ j e. absurd (cc))
  own_apart most (Sent p ∷ past) h =
      let rest = own_apart most past h.1 in
      let os : List ℕ = own_open s past in
      by_test (s.is_message p)
      (λ e. let own = h.0 e in
      let grown : own_open s (Sent p ∷ past) ≡ os ++ s.id_of p ∷ [] = ap (λ b. cond b (os ++ s.id_of p ∷ []) os) e in (
        subst AreApart (sym grown) (apart_more os (s.id_of p) rest.0 own.2),
        λ j there. within_more j os (s.id_of p) (own.0, own.1) rest.1 (sym (in_more os (s.id_of p) j) ∙ (ap (is_in j) (sym grown) ∙ there)),
      ))
      (λ e. let same : own_open s (Sent p ∷ past) ≡ os = ap (λ b. cond b (os ++ s.id_of p ∷ []) os) e in
      (subst AreApart (sym same) rest.0, λ j there. rest.1 j (ap (is_in j) (sym same) ∙ there)))
    where
      within_if : (j o : ℕ) (b c : Bool) → (j == o) ≡ b → (1 ≤ o) × (o ≤ most) → (c ≡ true → (1 ≤ j) × (j ≤ most)) → (if b then true else c) ≡ true → (1 ≤ j) × (j ≤ most)
      within_if j o true c is own old e = let same : j ≡ o = grind (arith, nat_tests, is) in subst (λ k. (1 ≤ k) × (k ≤ most)) (sym same) own
      within_if j o false c is own old e = old e

      within_more : (j : ℕ) (os : List ℕ) (o : ℕ) → (1 ≤ o) × (o ≤ most) → ((k : ℕ) → is_in k os ≡ true → (1 ≤ k) × (k ≤ most)) → (if j == o then true else is_in j os) ≡ true → (1 ≤ j) × (j ≤ most)
      within_more j os o own old e = within_if j o (j == o) (is_in j os) refl own (old j) e
  own_apart most (Got p ∷ past) h =
      let rest = own_apart most past h in
      let os : List ℕ = own_open s past in
      by_test (s.is_ack p)
      (λ e. let less : own_open s (Got p ∷ past) ≡ removed (s.id_of p) os = ap (λ b. cond b (removed (s.id_of p) os) os) e in (
        subst AreApart (sym less) (apart_removed os (s.id_of p) rest.0),
        λ j there. rest.1 j (kept_if (j == s.id_of p) (is_in j os) (sym (in_removed os (s.id_of p) j rest.0) ∙ (ap (is_in j) (sym less) ∙ there))),
      ))
      (λ e. let same : own_open s (Got p ∷ past) ≡ os = ap (λ b. cond b (removed (s.id_of p) os) os) e in
      (subst AreApart (sym same) rest.0, λ j there. rest.1 j (ap (is_in j) (sym same) ∙ there)))
    where
      kept_if : (b c : Bool) → (if b then false else c) ≡ true → c ≡ true
      kept_if true c e = absurd (cc)
      kept_if false c e = e
  own_apart most (Empty ∷ past) h = own_apart most past h
  own_apart most (Marked ∷ past) h = own_apart most past h
  own_apart most (Saw ∷ past) h = own_apart most past h

  -- so no more messages are open than there are ids
  pub few_own : (most : ℕ) (past : List (Event P)) → OwnFrom s most past → length (own_open s past) ≤ most
  few_own most past h = let apart = own_apart most past h in few_apart most (own_open s past) apart.0 apart.1

  -- a packet that was owed was sent under the id that its table gave it
  pub own_from : (most : ℕ) (past : List (Event P)) (p : P) (owed : List P) (table : ℕ → Bool) → ((id : ℕ) → table id ≡ true → (1 ≤ id) × (id ≤ most)) → OwnKept s past (p ∷ owed) table → OwnFrom s most past → OwnFrom s most (Sent p ∷ past)
  own_from most past p owed table places h from = (
    λ e.
        let first : ids_of s (p ∷ owed) ≡ s.id_of p ∷ ids_of s owed = ap (map s.id_of) (filter_first s.is_message p owed e) in
        let here : (s.id_of p == s.id_of p) ≡ true = grind (arith, nat_tests) in
        let there : is_in (s.id_of p) (ids_of s (p ∷ owed)) ≡ true = ap (is_in (s.id_of p)) first ∙ or_true (s.id_of p == s.id_of p) (is_in (s.id_of p) (ids_of s owed)) here in
        let stands = places (s.id_of p) (h.opens (s.id_of p) ∙ in_behind (own_open s past) (ids_of s (p ∷ owed)) (s.id_of p) there) in
        (stands.0, stands.1, apart_front (own_open s past) (ids_of s (p ∷ owed)) (s.id_of p) h.apart there),
    from,
  )
