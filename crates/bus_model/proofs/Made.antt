-- For each plan and for calls that fit it there are lists of a run: no field of a run excludes another one.
use Rattle.std.proofs.Common.{◌≡◌, ℕ, zero, suc, ◌+◌, ◌<◌, ◌≤◌, ◌^◌, Bool, true, false, cond, List, [], ◌∷◌, ◌++◌, map, length, length-append, filter, refl, sym, ap, ◌∙◌, subst, arith, Option, Some, None}
use Rattle.std.specs.Prelude.{◌==◌, ◌&&◌, ◌||◌, count_by, filter_map}
use Rattle.std.specs.List.{AllByRecursion}
use Rattle.std.proofs.lemmas.List.{append-nil}
use Rattle.std.proofs.lemmas.List.Sums.{sum_by-append, sum_by-cons}
use Rattle.std.proofs.lemmas.List.Elements.{filter-append, filter_map-append}
use Rattle.std.proofs.lemmas.Bool.Decides.{nat_tests}
use Rattle.scsi_disk.proofs.RoomLaws.{by_test}
use Rattle.channel_trace.specs.Runs.{IsFront}
use Rattle.hist_lock.specs.Seat.{Call}
use Rattle.channel_model.specs.WireFormat.{WireFormat, Keeps, Back as WireBack, IsBack, IsBesides, listed, under_own, packets_of, packets_in}
use Rattle.channel_model.specs.Acks.{acks_for}
use Rattle.channel_model.proofs.Serving.{serves_idle}
use Rattle.channel_model.specs.Asker.{Encoded}
use Rattle.channel_model.specs.Server.{Serves, ServesAsk, ServesOne, IsCall, answered}
use Rattle.channel_model.specs.Channel.{RequestPlan, count_of, held_of, AllFixed, AllAsk, IsRequestPlan, asks_of, IsProtocolRun}

here : {X : Type 0} (f : X → Bool) (x : X) (xs : List X) → f x ≡ true → count_by f (x ∷ xs) ≡ 1 + count_by f xs
here f x xs e = sum_by-cons (λ y. cond (f y) 1 0) x xs ∙ ap (λ b. cond b 1 0 + count_by f xs) e

past : {X : Type 0} (f : X → Bool) (x : X) (xs : List X) → f x ≡ false → count_by f (x ∷ xs) ≡ count_by f xs
past f x xs e = omega (arith, sum_by-cons (λ y. cond (f y) 1 0) x xs, ap (λ b. cond b 1 0 + count_by f xs) e)

count_by-append : {X : Type 0} (f : X → Bool) (xs ys : List X) → count_by f (xs ++ ys) ≡ count_by f xs + count_by f ys
count_by-append f xs ys = sum_by-append (λ y. cond (f y) 1 0) xs ys

right_off : (a : Bool) → (a && false) ≡ false
right_off true = refl
right_off false = refl

off : (a b : Bool) → (a && (b && false)) ≡ false
off a true = right_off a
off a false = right_off a

second : (a b c : Bool) → (a && (b && c)) ≡ true → b ≡ true
second true true c h = refl
second true false c h = cc
second false b c h = cc

third : (a b c : Bool) → (a && (b && c)) ≡ true → c ≡ true
third true true c h = h
third true false c h = cc
third false b c h = cc

-- these are as they are read
abbrev pub AllSo : {P : Type 0} → (P → P) → List P → Type 0
AllSo said ps = AllByRecursion (λ p. said p ≡ p) ps

so_append : {P : Type 0} (said : P → P) (xs ys : List P) → AllSo said xs → AllSo said ys → AllSo said (xs ++ ys)
so_append said [] ys h k = k
so_append said (x ∷ xs) ys h k = (h.0, so_append said xs ys h.1 k)

pub so_same : {P : Type 0} (said : P → P) (ps : List P) → AllSo said ps → map said ps ≡ ps
so_same said [] h = refl
so_same said (p ∷ ps) h = (λ i. h.0 i ∷ so_same said ps h.1 i)

-- what is written is as it is read: a packet that asks, what goes back with a reply that fits, or is fixed, and what acknowledges a message
pub record ReadsSo {P A Q R : Type 0} (said : P → P) (s : WireFormat P A Q R) : Type 0 where
  pub asks : (id : ℕ) (a : A) → said (s.encode id a) ≡ s.encode id a
  pub given : (p : P) (q : Q) (r : R) (own : ℕ) → s.read p ≡ Some q → s.fits q r ≡ true → AllSo said (packets_of own (s.gives p r))
  pub fixed : (p : P) (own : ℕ) → AllSo said (packets_in own (s.fixed p))
  pub acked : (p : P) → said (s.ack p) ≡ s.ack p

module _ {P A Q R : Type 0} (said : P → P) (s : WireFormat P A Q R) (keeps : Keeps s) (so : ReadsSo said s) where
  -- the packets that ask, under the ids from this one on
  abbrev pub packets : ℕ → List A → List P
  packets id [] = []
  packets id (a ∷ asks) = s.encode id a ∷ packets (id + 1) asks

  length-packets : (id : ℕ) (asks : List A) → length (packets id asks) ≡ length asks
  length-packets id [] = refl
  length-packets id (a ∷ asks) = ap suc (length-packets (id + 1) asks)

  packets_append : (id : ℕ) (start script : List A) → packets id (start ++ script) ≡ packets id start ++ packets (id + length start) script
  packets_append id [] script = ap (λ i. packets i script) (omega arith)
  packets_append id (a ∷ start) script =
      ap (λ (l : List P). s.encode id a ∷ l) (packets_append (id + 1) start script ∙ ap (λ i. packets (id + 1) start ++ packets i script) (omega arith))

  kept : {X : Type 0} (f : X → Bool) (x : X) (xs : List X) → f x ≡ true → filter f (x ∷ xs) ≡ x ∷ filter f xs
  kept f x xs e = grind (arith, e)

  dropped : {X : Type 0} (f : X → Bool) (x : X) (xs : List X) → f x ≡ false → filter f (x ∷ xs) ≡ filter f xs
  dropped f x xs e = grind (arith, e)

  all_ask : (id : ℕ) (asks : List A) → filter s.is_request (packets id asks) ≡ packets id asks
  all_ask id [] = refl
  all_ask id (a ∷ asks) = kept s.is_request (s.encode id a) (packets (id + 1) asks) (keeps.encodes id a) ∙ ap (λ (l : List P). s.encode id a ∷ l) (all_ask (id + 1) asks)

  encoded : (id : ℕ) (asks : List A) → id + length asks ≤ 2 ^ 64 → Encoded s asks (packets id asks)
  encoded id [] low = tt
  encoded id (a ∷ asks) low = (
    by_test (s.has_answer a)
        (λ yes. ap (λ i. s.encode i a) (sym (keeps.id_kept id a (omega (arith, low)) yes)))
        (λ no. sym (keeps.id_own id a no)),
    encoded (id + 1) asks (omega (arith, low)),
  )

  -- no ask acknowledges a message
  no_ack : (id : ℕ) (asks : List A) → filter s.is_ack (packets id asks) ≡ []
  no_ack id [] = refl
  no_ack id (a ∷ asks) =
      by_test (s.is_ack (s.encode id a))
      (λ yes. let bad : true ≡ false = sym (keeps.encodes id a) ∙ keeps.ack_asks (s.encode id a) yes in absurd (cc))
      (λ no. dropped s.is_ack (s.encode id a) (packets (id + 1) asks) no ∙ no_ack (id + 1) asks)

  -- what acknowledges messages does, and asks nothing
  pub record Acknowledges (ps : List P) : Type 0 where
    pub acks : filter s.is_ack ps ≡ ps
    pub asks : filter s.is_request ps ≡ []
    pub reads : filter_map s.read ps ≡ []

  acknowledge : (ps : List P) → Acknowledges (acks_for s ps)
  acknowledge [] = record { acks = refl; asks = refl; reads = refl }
  acknowledge (p ∷ ps) =
      by_test (s.is_message p)
      (λ yes.
      let on = acknowledge ps in
      let ack : s.is_ack (s.ack p) ≡ true = (keeps.acks p yes).0 in
      let silent : s.is_request (s.ack p) ≡ false = keeps.ack_asks (s.ack p) ack in
      let unread : s.read (s.ack p) ≡ None = keeps.unread (s.ack p) (keeps.asks (s.ack p) silent) in
      subst Acknowledges (sym (ap (map s.ack) (kept s.is_message p ps yes))) (record {
        acks = kept s.is_ack (s.ack p) (acks_for s ps) ack ∙ ap (λ (l : List P). s.ack p ∷ l) on.acks;
        asks = dropped s.is_request (s.ack p) (acks_for s ps) silent ∙ on.asks;
        reads = passed (s.ack p) (acks_for s ps) unread ∙ on.reads;
      }))
      (λ no. subst Acknowledges (sym (ap (map s.ack) (dropped s.is_message p ps no))) (acknowledge ps))
    where
      passed : (x : P) (xs : List P) → s.read x ≡ None → filter_map s.read (x ∷ xs) ≡ filter_map s.read xs
      passed x xs e = grind (arith, e)

  -- all that is sent asks or acknowledges
  abbrev pub Alone : List P → Type 0
  Alone ps = AllByRecursion (λ (p : P). (s.is_request p || s.is_ack p) ≡ true) ps

  or_right : (b c : Bool) → c ≡ true → (b || c) ≡ true
  or_right true c e = refl
  or_right false c e = e

  alone_asked : (id : ℕ) (asks : List A) → Alone (packets id asks)
  alone_asked id [] = tt
  alone_asked id (a ∷ asks) = (ap (λ b. b || s.is_ack (s.encode id a)) (keeps.encodes id a), alone_asked (id + 1) asks)

  alone_acked : (ps : List P) → Alone (acks_for s ps)
  alone_acked [] = tt
  alone_acked (p ∷ ps) =
      by_test (s.is_message p)
      (λ yes. subst Alone (sym (ap (map s.ack) (kept s.is_message p ps yes))) (or_right (s.is_request (s.ack p)) (s.is_ack (s.ack p)) (keeps.acks p yes).0, alone_acked ps))
      (λ no. subst Alone (sym (ap (map s.ack) (dropped s.is_message p ps no))) (alone_acked ps))

  alone_both : (ps qs : List P) → Alone ps → Alone qs → Alone (ps ++ qs)
  alone_both [] qs h k = k
  alone_both (p ∷ ps) qs h k = (h.0, alone_both ps qs h.1 k)

  waiting : (id : ℕ) (asks : List A) → length (filter s.waits (packets id asks)) ≡ length (filter s.has_answer asks)
  waiting id [] = refl
  waiting id (a ∷ asks) =
      by_test (s.has_answer a)
      (λ yes. ap length (kept s.waits (s.encode id a) (packets (id + 1) asks) (keeps.waits_ask id a ∙ yes)) ∙ (ap suc (waiting (id + 1) asks) ∙ sym (ap length (kept s.has_answer a asks yes))))
      (λ no. ap length (dropped s.waits (s.encode id a) (packets (id + 1) asks) (keeps.waits_ask id a ∙ no)) ∙ (waiting (id + 1) asks ∙ sym (ap length (dropped s.has_answer a asks no))))

  -- the calls are those of the first n of these, each with a reply that fits
  abbrev pub Fit : ℕ → ℕ → List A → List (Call Q R) → Type 0
  Fit zero id asks calls = calls ≡ []
  Fit (suc n) id [] calls = calls ≡ []
  Fit (suc n) id (a ∷ asks) [] = ⊥
  Fit (suc n) id (a ∷ asks) (c ∷ calls) = (s.read (s.encode id a) ≡ Some c.request) × (s.fits c.request c.reply ≡ true) × Fit n (id + 1) asks calls

  fit_count : (n id : ℕ) (asks : List A) (calls : List (Call Q R)) → n ≤ length asks → Fit n id asks calls → length calls ≡ n
  fit_count zero id asks calls low fit = ap length fit
  fit_count (suc n) id [] calls low fit = absurd (omega (arith, low))
  fit_count (suc n) id (a ∷ asks) [] low fit = absurd fit
  fit_count (suc n) id (a ∷ asks) (c ∷ calls) low fit = ap suc (fit_count n (id + 1) asks calls (omega (arith, low)) fit.2)

  -- a message went under this id
  abbrev pub messages_at : ℕ → P → Bool
  messages_at t p = s.is_message p && (s.id_of p == t)

  -- under each id one of these messages went at most, and none under an id before this one
  record GoApart (id : ℕ) (ps : List P) : Type 0 where
    pub one : (t : ℕ) → count_by (messages_at t) ps ≤ 1
    pub from : (t : ℕ) → t < id → count_by (messages_at t) ps ≡ 0

  apart_none : (id : ℕ) → GoApart id []
  apart_none id = record { one = λ t. omega arith; from = λ t low. refl }

  -- what goes back for a packet has its message under the one id
  answer_none : (t id : ℕ) (b : WireBack P) → IsBack s id b → count_by (messages_at t) (b.answer ∷ []) ≡ 0
  answer_none t id b back = past (messages_at t) b.answer [] (ap (λ m. m && (s.id_of b.answer == t)) back.other)

  message_one : (t own : ℕ) (o : Option (ℕ → P)) (rest : List P) → own < 2 ^ 64 → IsBesides s o → count_by (messages_at t) rest ≡ 0
      → (count_by (messages_at t) (listed (under_own own o) ++ rest) ≤ 1) × ((own == t) ≡ false → count_by (messages_at t) (listed (under_own own o) ++ rest) ≡ 0)
  message_one t own None rest low besides none = (omega (arith, none), λ other. none)
  message_one t own (Some m) rest low besides none =
      let same = (besides own).same low in (
        by_test (messages_at t (m own))
            (λ yes. omega (arith, here (messages_at t) (m own) rest yes, none))
            (λ no. omega (arith, past (messages_at t) (m own) rest no, none)),
        λ other.
            let away : (s.id_of (m own) == t) ≡ false = ap (λ k. k == t) same ∙ other in
            past (messages_at t) (m own) rest (ap (λ b. s.is_message (m own) && b) away ∙ right_off (s.is_message (m own))) ∙ none,
      )

  apart_more : (id own : ℕ) (b : WireBack P) (rest : List P) → own < 2 ^ 64 → IsBack s id b → GoApart (own + 1) rest → GoApart own (packets_of own b ++ rest)
  apart_more id own b rest low back apart =
      let two = λ (t : ℕ). message_one t own b.message (b.answer ∷ []) low back.besides (answer_none t id b back) in
      let count = λ (t : ℕ). count_by-append (messages_at t) (packets_of own b) rest in
      record {
        one = λ t.
            by_test (own == t)
            (λ is. let less : t < own + 1 = grind (arith, nat_tests, is) in omega (arith, count t, (two t).0, apart.from t less))
            (λ other. omega (arith, count t, (two t).1 other, apart.one t));
        from = λ t less.
            let other : (own == t) ≡ false = grind (arith, nat_tests, less) in
            omega (arith, count t, (two t).1 other, apart.from t (omega (arith, less)));
      }

  apart_later : (id : ℕ) (ps : List P) → GoApart (id + 1) ps → GoApart id ps
  apart_later id ps apart = record { one = apart.one; from = λ t less. apart.from t (omega (arith, less)) }

  -- what goes back for the packets from this id on: each message under the id of its request
  record Back (id : ℕ) (held : Bool) (ps : List P) (n : ℕ) (calls : List (Call Q R)) : Type 0 where
    pub sent : List P
    pub serves : Serves s held ps n calls sent
    pub as_read : AllSo said sent
    pub apart : GoApart id sent

  script_back : (held : Bool) (n id : ℕ) (asks : List A) (calls : List (Call Q R)) → id + length asks ≤ 2 ^ 64 → AllAsk s asks → Fit n id asks calls → Back id held (packets id asks) n calls
  script_back held zero id [] calls low ask fit = record { sent = []; serves = (fit, refl); as_read = tt; apart = apart_none id }
  script_back held (suc n) id [] calls low ask fit = record { sent = []; serves = (fit, refl); as_read = tt; apart = apart_none id }
  script_back held zero id (a ∷ asks) calls low ask fit =
      let p = s.encode id a in
      let q = ask.0 id in
      record { sent = []; serves = subst (λ o. ServesOne s held p o zero calls [] (λ m later rest. Serves s held (packets (id + 1) asks) m later rest)) (sym q.1) (fit, refl); as_read = tt; apart = apart_none id }
  script_back held (suc n) id (a ∷ asks) [] low ask fit = absurd fit
  script_back held (suc n) id (a ∷ asks) (c ∷ calls) low ask fit =
      let p = s.encode id a in
      let more = λ (m : ℕ) (later : List (Call Q R)) (rest : List P). Serves s held (packets (id + 1) asks) m later rest in
      let on = script_back held n (id + 1) asks calls (omega (arith, low)) ask.1 fit.2 in
      let call : IsCall s c.request c = record { asked = refl; fits = fit.1 } in
      by_test (held && n == 0)
      (λ last.
      let none : n ≡ 0 = ends held n last in
      record {
        sent = [];
        serves = subst (λ o. ServesOne s held p o (suc n) (c ∷ calls) [] more) (sym fit.0) (call, subst (λ b. ServesAsk s b p n c calls [] more) (sym last) (no_more n id asks calls none fit.2, refl));
        as_read = tt;
        apart = apart_none id;
      })
      (λ no.
      record {
        sent = packets_of id (s.gives p c.reply) ++ on.sent;
        serves = subst (λ o. ServesOne s held p o (suc n) (c ∷ calls) (packets_of id (s.gives p c.reply) ++ on.sent) more) (sym fit.0)
            (call, subst (λ b. ServesAsk s b p n c calls (packets_of id (s.gives p c.reply) ++ on.sent) more) (sym no) (id, on.sent, refl, on.serves));
        as_read = so_append said (packets_of id (s.gives p c.reply)) on.sent (so.given p c.request c.reply id fit.0 fit.1) on.as_read;
        apart = apart_more (s.id_of p) id (s.gives p c.reply) on.sent (omega (arith, low)) (keeps.given p c.reply (reads_wait p c.request fit.0)) on.apart;
      })
    where
      reads_wait : (p : P) (q : Q) → s.read p ≡ Some q → s.waits p ≡ true
      reads_wait p q reads = by_test (s.waits p) (λ yes. yes) (λ no. let none : s.read p ≡ None = keeps.unread p no in absurd (cc))

      ends : (held : Bool) (n : ℕ) → (held && n == 0) ≡ true → n ≡ 0
      ends true n e = grind (arith, nat_tests, e)
      ends false n e = absurd (cc)

      no_more : (n id : ℕ) (asks : List A) (calls : List (Call Q R)) → n ≡ 0 → Fit n (id + 1) asks calls → calls ≡ []
      no_more zero id asks calls e fit = fit
      no_more (suc n) id asks calls e fit = absurd (omega (arith, e))

  -- and before it for the start-up
  start_apart : (p : P) (id : ℕ) (rest : List P) → id < 2 ^ 64 → s.read p ≡ None → GoApart (id + 1) rest → GoApart id (packets_in id (s.fixed p) ++ rest)
  start_apart p id rest low none apart =
      by_test (s.waits p)
      (λ yes.
      let is = keeps.fixes p yes none in
      subst (λ (o : Option (WireBack P)). GoApart id (packets_in id o ++ rest)) (sym is.1) (apart_more (s.id_of p) id is.0 rest low is.2 apart))
      (λ no. subst (λ (o : Option (WireBack P)). GoApart id (packets_in id o ++ rest)) (sym (keeps.silent p no)) (apart_later id rest apart))

  start_back : (held : Bool) (n id : ℕ) (start : List A) (ps : List P) (calls : List (Call Q R)) → id + length start ≤ 2 ^ 64 → AllFixed s start → Back (id + length start) held ps n calls → Back id held (packets id start ++ ps) n calls
  start_back held n id [] ps calls low fixed back = subst (λ i. Back i held ps n calls) (omega arith) back
  start_back held n id (a ∷ start) ps calls low fixed back =
      let p = s.encode id a in
      let on = start_back held n (id + 1) start ps calls (omega (arith, low)) fixed.1 (subst (λ i. Back i held ps n calls) (omega arith) back) in
      record {
        sent = packets_in id (s.fixed p) ++ on.sent;
        serves = subst (λ o. ServesOne s held p o n calls (packets_in id (s.fixed p) ++ on.sent) (λ m later rest. Serves s held (packets (id + 1) start ++ ps) m later rest)) (sym (fixed.0 id)) (id, on.sent, refl, on.serves);
        as_read = so_append said (packets_in id (s.fixed p)) on.sent (so.fixed p id) on.as_read;
        apart = start_apart p id on.sent (omega (arith, low)) (fixed.0 id) on.apart;
      }

  none_read : (id : ℕ) (start : List A) → AllFixed s start → filter_map s.read (packets id start) ≡ []
  none_read id [] fixed = refl
  none_read id (a ∷ start) fixed = let e = fixed.0 id in let on = none_read (id + 1) start fixed.1 in grind (arith, e, on)

  read_first : (n id : ℕ) (asks : List A) (calls : List (Call Q R)) → Fit n id asks calls → IsFront (map (λ c. c.request) calls) (filter_map s.read (packets id asks))
  read_first zero id asks [] fit = (filter_map s.read (packets id asks), refl)
  read_first zero id asks (c ∷ calls) fit = absurd (cc)
  read_first (suc n) id [] [] fit = ([], refl)
  read_first (suc n) id [] (c ∷ calls) fit = absurd (cc)
  read_first (suc n) id (a ∷ asks) [] fit = absurd fit
  read_first (suc n) id (a ∷ asks) (c ∷ calls) fit =
      let on = read_first n (id + 1) asks calls fit.2 in
      (on.0, map_first (s.encode id a) (packets (id + 1) asks) c.request fit.0 ∙ ap (λ (l : List Q). c.request ∷ l) on.1)
    where
      map_first : (x : P) (xs : List P) (y : Q) → s.read x ≡ Some y → filter_map s.read (x ∷ xs) ≡ y ∷ filter_map s.read xs
      map_first x xs y e = grind (arith, e)

  asked_so : (id : ℕ) (asks : List A) → AllSo said (packets id asks)
  asked_so id [] = tt
  asked_so id (a ∷ asks) = (so.asks id a, asked_so (id + 1) asks)

  acked_so : (ps : List P) → AllSo said (acks_for s ps)
  acked_so [] = tt
  acked_so (p ∷ ps) =
      by_test (s.is_message p)
      (λ yes. subst (λ (l : List P). AllSo said (map s.ack l)) (sym (kept s.is_message p ps yes)) (so.acked p, acked_so ps))
      (λ no. subst (λ (l : List P). AllSo said (map s.ack l)) (sym (dropped s.is_message p ps no)) (acked_so ps))

  -- under each id one request at most has an answer
  abbrev pub asks_at : ℕ → P → Bool
  asks_at t p = s.is_request p && (s.waits p && (s.id_of p == t))

  none_below : (t id : ℕ) (asks : List A) → id + length asks ≤ 2 ^ 64 → t < id → count_by (asks_at t) (packets id asks) ≡ 0
  none_below t id [] low less = refl
  none_below t id (a ∷ asks) low less =
      let on = none_below t (id + 1) asks (omega (arith, low)) (omega (arith, less)) in
      by_test (s.has_answer a)
      (λ yes.
      let own : s.id_of (s.encode id a) ≡ id = keeps.id_kept id a (omega (arith, low)) yes in
      let other : (s.id_of (s.encode id a) == t) ≡ false = grind (arith, nat_tests, own, less) in
      let not : asks_at t (s.encode id a) ≡ false = ap (λ b. s.is_request (s.encode id a) && (s.waits (s.encode id a) && b)) other ∙ off (s.is_request (s.encode id a)) (s.waits (s.encode id a)) in
      past (asks_at t) (s.encode id a) (packets (id + 1) asks) not ∙ on)
      (λ no.
      let silent : s.waits (s.encode id a) ≡ false = keeps.waits_ask id a ∙ no in
      let not : asks_at t (s.encode id a) ≡ false = ap (λ b. s.is_request (s.encode id a) && (b && (s.id_of (s.encode id a) == t))) silent ∙ right_off (s.is_request (s.encode id a)) in
      past (asks_at t) (s.encode id a) (packets (id + 1) asks) not ∙ on)

  one_each : (t id : ℕ) (asks : List A) → id + length asks ≤ 2 ^ 64 → count_by (asks_at t) (packets id asks) ≤ 1
  one_each t id [] low = omega arith
  one_each t id (a ∷ asks) low =
      by_test (asks_at t (s.encode id a))
      (λ yes.
      let waits : s.waits (s.encode id a) ≡ true = second (s.is_request (s.encode id a)) (s.waits (s.encode id a)) (s.id_of (s.encode id a) == t) yes in
      let own : s.id_of (s.encode id a) ≡ id = keeps.id_kept id a (omega (arith, low)) (sym (keeps.waits_ask id a) ∙ waits) in
      let same : (s.id_of (s.encode id a) == t) ≡ true = third (s.is_request (s.encode id a)) (s.waits (s.encode id a)) (s.id_of (s.encode id a) == t) yes in
      let is : t ≡ id = grind (arith, nat_tests, own, same) in
      let rest = none_below t (id + 1) asks (omega (arith, low)) (omega (arith, is)) in
      omega (arith, here (asks_at t) (s.encode id a) (packets (id + 1) asks) yes, rest))
      (λ no. omega (arith, past (asks_at t) (s.encode id a) (packets (id + 1) asks) no, one_each t (id + 1) asks (omega (arith, low))))

  -- what acknowledges a message asks nothing
  acks_none : (t : ℕ) (ps : List P) → count_by (asks_at t) (acks_for s ps) ≡ 0
  acks_none t [] = refl
  acks_none t (p ∷ ps) =
      by_test (s.is_message p)
      (λ yes.
      let silent : s.is_request (s.ack p) ≡ false = keeps.ack_asks (s.ack p) (keeps.acks p yes).0 in
      let not : asks_at t (s.ack p) ≡ false = ap (λ b. b && (s.waits (s.ack p) && (s.id_of (s.ack p) == t))) silent in
      subst (λ (l : List P). count_by (asks_at t) (map s.ack l) ≡ 0) (sym (kept s.is_message p ps yes)) (past (asks_at t) (s.ack p) (acks_for s ps) not ∙ acks_none t ps))
      (λ no. subst (λ (l : List P). count_by (asks_at t) (map s.ack l) ≡ 0) (sym (dropped s.is_message p ps no)) (acks_none t ps))

  pub record Made (plan : RequestPlan A) (calls : List (Call Q R)) : Type 0 where
    pub sent : List P
    pub back : List P
    pub alone : Alone sent
    pub turns : (t : ℕ) → count_by (asks_at t) sent ≤ 1
    pub messages : (t : ℕ) → count_by (messages_at t) back ≤ 1
    pub sent_so : AllSo said sent
    pub back_so : AllSo said back
    pub runs : IsProtocolRun s plan sent back back sent calls (map (λ c. c.reply) (answered s (held_of plan.stop (length plan.script)) (count_of plan.stop (length plan.script)) calls))

  pub made : (plan : RequestPlan A) (calls : List (Call Q R)) → IsRequestPlan s plan → 1 + length (asks_of s plan) ≤ 2 ^ 64 → count_of plan.stop (length plan.script) ≤ length plan.script
      → Fit (count_of plan.stop (length plan.script)) (1 + length plan.start) plan.script calls → Made plan calls
  made plan calls is low few fit =
      let n = count_of plan.stop (length plan.script) in
      let held = held_of plan.stop (length plan.script) in
      let asked = packets 1 (asks_of s plan) in
      let two = packets_append 1 plan.start plan.script in
      let all_low : 1 + length plan.start + length plan.script ≤ 2 ^ 64 = omega (arith, low, length-append plan.start plan.script) in
      let back = start_back held n 1 plan.start (packets (1 + length plan.start) plan.script) calls (omega (arith, all_low)) is.fixed (script_back held n (1 + length plan.start) plan.script calls all_low is.asks fit) in
      let first = read_first n (1 + length plan.start) plan.script calls fit in
      let acks = acks_for s back.sent in
      let sent = asked ++ acks in
      let ack = acknowledge back.sent in
      let all : filter s.is_request sent ≡ asked = filter-append s.is_request asked acks ∙ (ap (λ l. l ++ filter s.is_request acks) (all_ask 1 (asks_of s plan)) ∙ (ap (λ l. asked ++ l) ack.asks ∙ append-nil asked)) in
      let acked : filter s.is_ack sent ≡ acks = filter-append s.is_ack asked acks ∙ (ap (λ l. l ++ filter s.is_ack acks) (no_ack 1 (asks_of s plan)) ∙ ack.acks) in
      record {
        sent = sent;
        back = back.sent;
        sent_so = so_append said asked acks (asked_so 1 (asks_of s plan)) (acked_so back.sent);
        back_so = back.as_read;
        messages = back.apart.one;
        turns = λ t. omega (arith, count_by-append (asks_at t) asked acks, one_each t 1 (asks_of s plan) low, acks_none t back.sent);
        alone = alone_both asked acks (alone_asked 1 (asks_of s plan)) (alone_acked back.sent);
        runs = record {
          front = ([], sym (append-nil sent));
          whole_got = λ e. refl;
          answers_got = refl;
          requests = subst (Encoded s (asks_of s plan)) (sym all) (encoded 1 (asks_of s plan) low);
          acks = ([], acks_same acked);
          all_acked = λ e. acked;
          whole = λ e. ap length all ∙ length-packets 1 (asks_of s plan);
          served = serves_idle s keeps held asked acks n calls back.sent (ap (filter s.waits) ack.asks) (subst (λ l. Serves s held l n calls back.sent) (sym two) back.serves);
          started = omega (arith, ap (λ l. length (filter s.waits l)) all, waiting 1 (asks_of s plan), ap length (filter-append s.has_answer plan.start plan.script), length-append (filter s.has_answer plan.start) (filter s.has_answer plan.script));
          asked = (
            first.0,
            filter_map-append s.read asked acks ∙ (ap (λ l. filter_map s.read asked ++ l) ack.reads ∙ append-nil (filter_map s.read asked)) ∙ ap (filter_map s.read) two ∙ (filter_map-append s.read (packets 1 plan.start) (packets (1 + length plan.start) plan.script)
                ∙ (ap (λ l. l ++ filter_map s.read (packets (1 + length plan.start) plan.script)) (none_read 1 plan.start is.fixed) ∙ first.1)),
          );
          count = fit_count n (1 + length plan.start) plan.script calls few fit;
          replies = refl;
        };
      }
    where
      acks_same : {ps qs : List P} → ps ≡ qs → qs ≡ ps ++ []
      acks_same {ps} e = sym e ∙ sym (append-nil ps)
