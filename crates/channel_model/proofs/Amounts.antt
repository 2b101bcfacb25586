-- How many packets of each kind come and go.
use Rattle.std.proofs.Common.{◌≡◌, ℕ, zero, suc, ◌≤◌, ◌+◌, List, [], ◌∷◌, ◌++◌, length, Bool, true, false, cond, map, filter, refl, sym, ap, ◌∙◌, subst, arith, Option, Some, None}
use Rattle.std.specs.Prelude.{◌==◌, ◌&&◌, ◌||◌}
use Rattle.std.proofs.lemmas.List.{length-append, length-map}
use Rattle.std.proofs.lemmas.List.Elements.{filter-append}
use Rattle.channel_trace.specs.declared.event.Event.{Event}
use Rattle.channel_trace.specs.declared.event.Event.TheVariants.{Sent, Got, Empty, Marked, Saw}
use Rattle.channel_trace.specs.Runs.{IsFront, sent_of, got_of, guest_of}
use Rattle.channel_trace.proofs.Fronts.{front_filter}
use Rattle.hist_lock.specs.Seat.{Call}
use Rattle.channel_model.specs.WireFormat.{WireFormat, Back, listed, under_own, packets_of, packets_in, IsBesides, IsBack, Keeps}
use Rattle.channel_model.specs.Asker.{Encoded, requests_of}
use Rattle.channel_model.specs.Server.{ServesOne, ServesAsk, Serves}
use Rattle.channel_model.specs.Amounts.{room_of, besides_of, HasNoMessages, MayHaveMessages, SendsKinds, AsksAtMost, ServesAtMost, NeverOver}
use Rattle.channel_model.specs.Workers.{AskerKept, AcksKept, ServerKept, OwnKept}
use Rattle.channel_model.specs.Acks.{is_in, removed, own_open}
use Rattle.channel_model.proofs.Runs.{guest_front, host_front}
use Rattle.channel_model.proofs.Opens.{by_test, filter_yes, filter_no}
use Rattle.channel_model.proofs.Served.{filter_first, filter_past, passes}
use Rattle.channel_model.proofs.Parts.{waited, waited_one, waited_none, by_parts, in_order}
use Rattle.channel_model.proofs.Counts.{front_le}

filter_le : {A : Type 0} (f : A → Bool) (xs : List A) → length (filter f xs) ≤ length xs
filter_le f [] = omega arith
filter_le f (x ∷ xs) =
    by_test (f x)
    (λ e. omega (arith, ap length (filter_first f x xs e), filter_le f xs))
    (λ e. omega (arith, ap length (filter_past f x xs e), filter_le f xs))

pub besides_more : (besides : Bool) (m n : ℕ) → m ≤ n → besides_of besides m ≤ besides_of besides n
besides_more false m n le = omega arith
besides_more true m n le = le

pub room_by : (besides : Bool) (most requests sent answers messages : ℕ) → requests ≤ most → sent ≤ answers + messages → answers ≤ requests → messages ≤ besides_of besides requests → sent ≤ room_of besides most
room_by false most requests sent answers messages a b c d = omega (arith, a, b, c, d)
room_by true most requests sent answers messages a b c d = omega (arith, a, b, c, d)

module _ {P A Q R : Type 0} (s : WireFormat P A Q R) where
  -- a request was sent, or a message acknowledged
  pub kinds_asked : (past : List (Event P)) (p : P) → s.is_request p ≡ true → SendsKinds s past → SendsKinds s (Sent p ∷ past)
  kinds_asked past p e h =
      let few = filter_grows s.is_ack (sent_of past) p in
      omega (arith, h, few, length-append (sent_of past) (p ∷ []), ap length (filter_yes s.is_request (sent_of past) p e), length-append (filter s.is_request (sent_of past)) (p ∷ []))
    where
      filter_grows : (f : P → Bool) (ps : List P) (p : P) → length (filter f ps) ≤ length (filter f (ps ++ p ∷ []))
      filter_grows f ps p = omega (arith, ap length (filter-append f ps (p ∷ [])), length-append (filter f ps) (filter f (p ∷ [])))

  pub kinds_acked : (past : List (Event P)) (p : P) → s.is_ack p ≡ true → SendsKinds s past → SendsKinds s (Sent p ∷ past)
  kinds_acked past p e h =
      let few = filter_grows s.is_request (sent_of past) p in
      omega (arith, h, few, length-append (sent_of past) (p ∷ []), ap length (filter_yes s.is_ack (sent_of past) p e), length-append (filter s.is_ack (sent_of past)) (p ∷ []))
    where
      filter_grows : (f : P → Bool) (ps : List P) (p : P) → length (filter f ps) ≤ length (filter f (ps ++ p ∷ []))
      filter_grows f ps p = omega (arith, ap length (filter-append f ps (p ∷ [])), length-append (filter f ps) (filter f (p ∷ [])))

  encoded_few : (asks : List A) (ps : List P) → Encoded s asks ps → length ps ≤ length asks
  encoded_few asks [] enc = omega arith
  encoded_few [] (p ∷ ps) enc = absurd enc
  encoded_few (a ∷ asks) (p ∷ ps) enc = omega (arith, encoded_few asks ps enc.1)

  -- the asking end keeps within its asks at each moment
  pub asks_at_most : (asks : List A) (past : List (Event P)) (todo : List A) (waiting : List (ℕ × A)) (table : ℕ → Option A) (told : List R) (rest : List P) → AskerKept s asks past todo waiting table told → AcksKept s past rest
      → SendsKinds s past → AsksAtMost s (length asks) past
  asks_at_most asks past todo waiting table told rest h acks kinds = record {
    kinds = kinds;
    requests = encoded_few asks (requests_of s past) h.encoded;
    acks = omega (
      arith,
      ap length acks.acks,
      length-map (filter s.is_message acks.done) s.ack,
      ap (λ l. length (filter s.is_message l)) acks.got_is,
      ap length (filter-append s.is_message acks.done rest),
      length-append (filter s.is_message acks.done) (filter s.is_message rest),
    );
  }

module _ {P A Q R : Type 0} (s : WireFormat P A Q R) (keeps : Keeps s) where
  -- what goes back for one packet: an answer, and a message at most
  message_kinds : (own : ℕ) (m : Option (ℕ → P)) (z : P) (rest : List P) → IsBesides s m → s.is_message z ≡ false
      → filter s.is_message ((listed (under_own own m) ++ z ∷ []) ++ rest) ≡ listed (under_own own m) ++ filter s.is_message rest
  message_kinds own None z rest besides other = filter_past s.is_message z rest other
  message_kinds own (Some m) z rest besides other =
      filter_first s.is_message (m own) (z ∷ rest) (besides own).message ∙ ap (λ (l : List P). m own ∷ l) (filter_past s.is_message z rest other)

  back_messages : (id own : ℕ) (b : Back P) (rest : List P) → IsBack s id b → filter s.is_message (packets_of own b ++ rest) ≡ listed (under_own own b.message) ++ filter s.is_message rest
  back_messages id own b rest h = message_kinds own b.message b.answer rest h.besides h.other

  listed_le : (o : Option P) → length (listed o) ≤ 1
  listed_le None = omega arith
  listed_le (Some p) = omega arith

  -- messages and answers
  abbrev AreKinds : List P → Type 0
  AreKinds [] = Unit {0}
  AreKinds (p ∷ ps) = ((s.is_answer p || s.is_message p) ≡ true) × AreKinds ps

  kinds_front : (ps qs : List P) → AreKinds (ps ++ qs) → AreKinds ps
  kinds_front [] qs h = tt
  kinds_front (p ∷ ps) qs h = (h.0, kinds_front ps qs h.1)

  kinds_append : (ps qs : List P) → AreKinds ps → AreKinds qs → AreKinds (ps ++ qs)
  kinds_append [] qs h k = k
  kinds_append (p ∷ ps) qs h k = (h.0, kinds_append ps qs h.1 k)

  kinds_le : (ps : List P) → AreKinds ps → length ps ≤ length (filter s.is_answer ps) + length (filter s.is_message ps)
  kinds_le [] h = omega arith
  kinds_le (p ∷ ps) h =
      by_test (s.is_answer p)
      (λ e. omega (arith, kinds_le ps h.1, ap length (filter_first s.is_answer p ps e), grows s.is_message p ps))
      (λ e. omega (arith, kinds_le ps h.1, ap length (filter_first s.is_message p ps (sym (ap (λ b. b || s.is_message p) e) ∙ h.0)), grows s.is_answer p ps))
    where
      grows : (f : P → Bool) (p : P) (ps : List P) → length (filter f ps) ≤ length (filter f (p ∷ ps))
      grows f p ps = by_test (f p) (λ e. omega (arith, ap length (filter_first f p ps e))) (λ e. omega (arith, ap length (filter_past f p ps e)))

  or_right : (b c : Bool) → c ≡ true → (b || c) ≡ true
  or_right true c e = refl
  or_right false c e = e

  or_left : (b c : Bool) → b ≡ true → (b || c) ≡ true
  or_left b c e = ap (λ t. t || c) e

  message_of : (own : ℕ) (m : Option (ℕ → P)) → IsBesides s m → AreKinds (listed (under_own own m))
  message_of own None h = tt
  message_of own (Some m) h = (or_right (s.is_answer (m own)) (s.is_message (m own)) (h own).message, tt)

  -- no more messages than requests, and nothing but messages and answers
  abbrev Few : List P → List P → Type 0
  Few got sent = (length (filter s.is_message sent) ≤ length (waited s got)) × AreKinds sent

  few : (held : Bool) (got : List P) (n : ℕ) (calls : List (Call Q R)) (sent : List P) → Serves s held got n calls sent → Few got sent
  few =
      by_parts s keeps Few (omega arith, tt) (λ p got e. (omega arith, tt))
      (λ p got own b rest e h ih.
      let more = ap length (back_messages (s.id_of p) own b rest h) ∙ length-append (listed (under_own own b.message)) (filter s.is_message rest) in
      let one = listed_le (under_own own b.message) in
      let part = kinds_append (listed (under_own own b.message)) (b.answer ∷ []) (message_of own b.message h.besides) (or_left (s.is_answer b.answer) (s.is_message b.answer) h.one, tt) in
      (omega (arith, ih.0, more, one, ap length (waited_one s keeps p got e)), kinds_append (packets_of own b) rest part ih.1))
      (λ p got sent e ih. (omega (arith, ih.0, ap length (waited_none s keeps p got e)), ih.1))

  -- where there are none, none goes back
  module _ (silent : HasNoMessages s) where
    none_back : (id own : ℕ) (b : Back P) (rest : List P) → IsBack s id b → b.message ≡ None → filter s.is_message rest ≡ [] → filter s.is_message (packets_of own b ++ rest) ≡ []
    none_back id own b rest h none e = back_messages id own b rest h ∙ (ap (λ m. listed (under_own own m) ++ filter s.is_message rest) none ∙ e)

    none_ask : (last : Bool) (p : P) (n : ℕ) (c : Call Q R) (calls : List (Call Q R)) (sent : List P) (next : ℕ → List (Call Q R) → List P → Type 0) → s.waits p ≡ true
        → ((m : ℕ) (later : List (Call Q R)) (rest : List P) → next m later rest → filter s.is_message rest ≡ []) → ServesAsk s last p n c calls sent next → filter s.is_message sent ≡ []
    none_ask true p n c calls sent next e ih h = ap (filter s.is_message) h.1
    none_ask false p n c calls sent next e ih h =
        ap (filter s.is_message) h.2 ∙ none_back (s.id_of p) h.0 (s.gives p c.reply) h.1 (keeps.given p c.reply e) (silent.gives p c.reply) (ih n calls h.1 h.3)

    none_one : (held : Bool) (p : P) (o : Option Q) (n : ℕ) (calls : List (Call Q R)) (sent : List P) (next : ℕ → List (Call Q R) → List P → Type 0) → s.waits p ≡ true → s.read p ≡ o
        → ((m : ℕ) (later : List (Call Q R)) (rest : List P) → next m later rest → filter s.is_message rest ≡ []) → ServesOne s held p o n calls sent next → filter s.is_message sent ≡ []
    none_one held p None n calls sent next e r ih h =
        let back = keeps.fixes p e r in
        ap (filter s.is_message) (h.2 ∙ ap (λ o. packets_in h.0 o ++ h.1) back.1) ∙ none_back (s.id_of p) h.0 back.0 h.1 back.2 (silent.fixed p back.0 back.1) (ih n calls h.1 h.3)
    none_one held p (Some q) zero calls sent next e r ih h = ap (filter s.is_message) h.1
    none_one held p (Some q) (suc n) [] sent next e r ih h = absurd h
    none_one held p (Some q) (suc n) (c ∷ calls) sent next e r ih h = none_ask (held && n == 0) p n c calls sent next e ih h.1

    none_sent : (held : Bool) (got : List P) (n : ℕ) (calls : List (Call Q R)) (sent : List P) → Serves s held got n calls sent → filter s.is_message sent ≡ []
    none_sent held [] n calls sent h = ap (filter s.is_message) h.1
    none_sent held (p ∷ got) n calls sent h =
        by_test (s.waits p)
        (λ e. none_one held p (s.read p) n calls sent _ e refl (λ m later rest some. none_sent held got m later rest some) h)
        (λ e. none_sent held got n calls sent (passes s keeps held p n calls sent _ e h))

    -- so none is open
    own_silent : (past : List (Event P)) → filter s.is_message (sent_of past) ≡ [] → own_open s past ≡ []
    own_silent [] e = refl
    own_silent (Sent p ∷ past) e =
        by_test (s.is_message p)
        (λ f. let bad : filter s.is_message (sent_of past) ++ p ∷ [] ≡ [] = sym (filter_yes s.is_message (sent_of past) p f) ∙ e in nothing_last (filter s.is_message (sent_of past)) p bad)
        (λ f. ap (λ b. cond b (own_open s past ++ s.id_of p ∷ []) (own_open s past)) f ∙ own_silent past (sym (filter_no s.is_message (sent_of past) p f) ∙ e))
      where
        nothing_last : {X : Type 0} (ps : List P) (p : P) → ps ++ p ∷ [] ≡ [] → X
        nothing_last [] p e = absurd (cc)
        nothing_last (q ∷ ps) p e = absurd (cc)
    own_silent (Got p ∷ past) e = let none = own_silent past e in ap (λ os. cond (s.is_ack p) (removed (s.id_of p) os) os) none ∙ cond_same (s.is_ack p)
      where
        cond_same : (b : Bool) → cond {A = List ℕ} b [] [] ≡ []
        cond_same true = refl
        cond_same false = refl
    own_silent (Empty ∷ past) e = own_silent past e
    own_silent (Marked ∷ past) e = own_silent past e
    own_silent (Saw ∷ past) e = own_silent past e

    -- and the serving end's table of its own is empty
    pub own_none : (held : Bool) (n : ℕ) (past : List (Event P)) (calls : List (Call Q R)) (owed : List P) (left : Option ℕ) (rest : List P) (table : ℕ → Bool) → ServerKept s held n past calls owed left rest → OwnKept s past owed table
        → (id : ℕ) → table id ≡ false
    own_none held n past calls owed left rest table h own id =
        let all : filter s.is_message (sent_of past) ++ filter s.is_message owed ≡ [] = sym (filter-append s.is_message (sent_of past) owed) ∙ none_sent held h.served n calls (sent_of past ++ owed) h.serves in
        let parts = both_none (filter s.is_message (sent_of past)) (filter s.is_message owed) all in
        own.opens id ∙ (ap (λ os. is_in id (os ++ map s.id_of (filter s.is_message owed))) (own_silent past parts.0) ∙ ap (λ l. is_in id (map s.id_of l)) parts.1)
      where
        both_none : (ps qs : List P) → ps ++ qs ≡ [] → (ps ≡ []) × (qs ≡ [])
        both_none [] qs e = (refl, e)
        both_none (p ∷ ps) qs e = absurd (cc)

  messages_by : (besides : Bool) (held : Bool) (got : List P) (n : ℕ) (calls : List (Call Q R)) (sent : List P) → MayHaveMessages s besides → Serves s held got n calls sent
      → length (filter s.is_message sent) ≤ besides_of besides (length (filter s.is_request got))
  messages_by false held got n calls sent may h = omega (arith, ap length (none_sent may held got n calls sent h))
  messages_by true held got n calls sent may h = omega (arith, (few held got n calls sent h).0, filter_le s.waits (filter s.is_request got))

  -- what it sent and owes is no more than room was made for, for each request that it got
  pub sent_within : (besides held : Bool) (n : ℕ) (past : List (Event P)) (calls : List (Call Q R)) (owed : List P) (left : Option ℕ) (rest : List P) → MayHaveMessages s besides
      → ServerKept s held n past calls owed left rest → length (sent_of past ++ owed) ≤ room_of besides (length (filter s.is_request (got_of past)))
  sent_within besides held n past calls owed left rest may h =
      let all : List P = sent_of past ++ owed in
      let requests : ℕ = length (filter s.is_request h.served) in
      let served : requests ≤ length (filter s.is_request (got_of past)) =
      omega (arith, ap (λ l. length (filter s.is_request l)) h.got_is, ap length (filter-append s.is_request h.served rest), length-append (filter s.is_request h.served) (filter s.is_request rest)) in
      let order = front_le _ _ (in_order s keeps held h.served n calls all h.serves) in
      let answers : length (filter s.is_answer all) ≤ requests =
      omega (arith, order, length-map (filter s.is_answer all) s.id_of, length-map (waited s h.served) s.id_of, filter_le s.waits (filter s.is_request h.served)) in
      room_by besides (length (filter s.is_request (got_of past))) requests (length all) (length (filter s.is_answer all)) (length (filter s.is_message all)) served
      (kinds_le all (few held h.served n calls all h.serves).1) answers (messages_by besides held h.served n calls all may h.serves)

  -- the serving end keeps within what it got at each moment
  pub serves_at_most : (besides held : Bool) (n : ℕ) (past : List (Event P)) (calls : List (Call Q R)) (owed : List P) (left : Option ℕ) (rest : List P) → MayHaveMessages s besides
      → ServerKept s held n past calls owed left rest → ServesAtMost s besides past
  serves_at_most besides held n past calls owed left rest may h =
      let sent : List P = sent_of past in
      let got : List P = got_of past in
      let served : length (filter s.is_request h.served) ≤ length (filter s.is_request got) =
      omega (arith, ap (λ l. length (filter s.is_request l)) h.got_is, ap length (filter-append s.is_request h.served rest), length-append (filter s.is_request h.served) (filter s.is_request rest)) in
      let cut = ap length (filter-append s.is_message sent owed) ∙ length-append (filter s.is_message sent) (filter s.is_message owed) in
      let cut' = ap length (filter-append s.is_answer sent owed) ∙ length-append (filter s.is_answer sent) (filter s.is_answer owed) in
      let messages = messages_by besides held h.served n calls (sent ++ owed) may h.serves in
      let order = front_le _ _ (in_order s keeps held h.served n calls (sent ++ owed) h.serves) in
      let answers : length (filter s.is_answer (sent ++ owed)) ≤ length (filter s.is_request h.served) =
      omega (arith, order, length-map (filter s.is_answer (sent ++ owed)) s.id_of, length-map (waited s h.served) s.id_of, filter_le s.waits (filter s.is_request h.served)) in
      record {
        kinds = kinds_le sent (kinds_front sent owed (few held h.served n calls (sent ++ owed) h.serves).1);
        answers = omega (arith, answers, cut', served);
        messages = omega (arith, messages, cut, besides_more besides (length (filter s.is_request h.served)) (length (filter s.is_request got)) served);
      }

module _ {P A Q R : Type 0} (s : WireFormat P A Q R) where
  room_back : (besides : Bool) (most sent requests acks messages got : ℕ) → requests ≤ most → sent ≤ requests + acks → acks ≤ messages → messages ≤ besides_of besides got → got ≤ most → sent ≤ room_of besides most
  room_back false most sent requests acks messages got a b c d e = omega (arith, a, b, c, d, e)
  room_back true most sent requests acks messages got a b c d e = omega (arith, a, b, c, d, e)

  pub never_over : (besides : Bool) (most : ℕ) (asker server : List (Event P)) → NeverOver s besides most asker server
  never_over besides most asker server one a b =
      let front : IsFront (got_of server) (sent_of asker) = subst (λ t. IsFront (got_of server) (sent_of t)) one.guest_is (subst (λ u. IsFront (got_of u) (sent_of (guest_of one.turns))) one.host_is (host_front one.turns one.run)) in
      let back : IsFront (got_of asker) (sent_of server) = subst (λ t. IsFront (got_of t) (sent_of server)) one.guest_is (subst (λ u. IsFront (got_of (guest_of one.turns)) (sent_of u)) one.host_is (guest_front one.turns one.run)) in
      let requests : length (filter s.is_request (got_of server)) ≤ most = omega (arith, front_le _ _ (front_filter s.is_request _ _ front), a.requests) in
      let messages : length (filter s.is_message (got_of asker)) ≤ length (filter s.is_message (sent_of server)) = front_le _ _ (front_filter s.is_message _ _ back) in
      let got : ℕ = length (filter s.is_request (got_of server)) in
      let few : length (filter s.is_message (got_of asker)) ≤ besides_of besides got = omega (arith, messages, b.messages) in
      record {
        requests = requests;
        messages = omega (arith, few, besides_more besides got most requests);
        server_got = omega (arith, front_le _ _ front, room_back besides most (length (sent_of asker)) (length (filter s.is_request (sent_of asker))) (length (filter s.is_ack (sent_of asker))) (length (filter s.is_message (got_of asker))) got a.requests a.kinds a.acks few requests);
        asker_got = omega (arith, front_le _ _ back, room_by besides most got (length (sent_of server)) (length (filter s.is_answer (sent_of server))) (length (filter s.is_message (sent_of server))) requests b.kinds b.answers b.messages);
      }
