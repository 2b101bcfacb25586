-- The steps of the serving end.
use Rattle.std.proofs.Common.{◌≡◌, ℕ, zero, suc, List, [], ◌∷◌, ◌++◌, map, length, Bool, true, false, filter, refl, sym, ap, ◌∙◌, subst, append_assoc, Option, Some, None, ◌⊎◌, inl, inr}
use Rattle.std.specs.Prelude.{◌==◌, ◌&&◌, if◌then◌else◌}
use Rattle.std.proofs.lemmas.List.{append-nil, map-append}
use Rattle.std.proofs.lemmas.List.Elements.{filter-append}
use Rattle.channel_trace.specs.declared.event.Event.{Event}
use Rattle.channel_trace.specs.declared.event.Event.TheVariants.{Sent, Got}
use Rattle.channel_trace.specs.Runs.{IsFront, sent_of, got_of, is_drained}
use Rattle.channel_trace.specs.Laws.{Follows}
use Rattle.hist_lock.specs.Seat.{Call}
use Rattle.channel_model.specs.WireFormat.{WireFormat, packets_of, packets_in, Keeps}
use Rattle.channel_model.specs.Server.{ServesOne, ServesAsk, Serves, left_one, left_of}
use Rattle.channel_model.specs.Channel.{RequestPlan, count_of, held_of, ServerStops, ServerEnds, ServerBreaks}
use Rattle.channel_model.specs.Workers.{left_after, ServerKept}
use Rattle.channel_trace.proofs.Fronts.{front_less, front_trans, front_map, front_filter}
use Rattle.channel_model.proofs.Opens.{by_test}
use Rattle.channel_model.proofs.Parts.{in_order, waited, waited_one, waited_none}

some_none : {A : Type 0} (x : A) → Some x ≡ None → ⊥
some_none x e = absurd (cc)

module _ {P A Q R : Type 0} (s : WireFormat P A Q R) where
  abbrev More : Type 1
  More = ℕ → List (Call Q R) → List P → Type 0

  -- what comes after a packet may go on
  extend_ask : (b : Bool) (p : P) (n : ℕ) (c : Call Q R) (calls cs : List (Call Q R)) (sent ps : List P) (more more' : More) (go : ℕ → Option ℕ) (m : ℕ)
      → (if b then None else go n) ≡ Some m → ((k : ℕ) (later : List (Call Q R)) (rest : List P) → go k ≡ Some m → more k later rest → more' k (later ++ cs) (rest ++ ps))
      → ServesAsk s b p n c calls sent more → ServesAsk s b p n c (calls ++ cs) (sent ++ ps) more'
  extend_ask true p n c calls cs sent ps more more' go m e f h = absurd (some_none m (sym e))
  extend_ask false p n c calls cs sent ps more more' go m e f h =
      (h.0, h.1 ++ ps, ap (λ l. l ++ ps) h.2 ∙ append_assoc (packets_of h.0 (s.gives p c.reply)) h.1 ps, f n calls h.1 e h.3)

  extend_one : (held : Bool) (p : P) (o : Option Q) (n : ℕ) (calls cs : List (Call Q R)) (sent ps : List P) (more more' : More) (go : ℕ → Option ℕ) (m : ℕ)
      → left_one s held o n go ≡ Some m → ((k : ℕ) (later : List (Call Q R)) (rest : List P) → go k ≡ Some m → more k later rest → more' k (later ++ cs) (rest ++ ps))
      → ServesOne s held p o n calls sent more → ServesOne s held p o n (calls ++ cs) (sent ++ ps) more'
  extend_one held p None n calls cs sent ps more more' go m e f h = (h.0, h.1 ++ ps, ap (λ l. l ++ ps) h.2 ∙ append_assoc (packets_in h.0 (s.fixed p)) h.1 ps, f n calls h.1 e h.3)
  extend_one held p (Some q) zero calls cs sent ps more more' go m e f h = absurd (some_none m (sym e))
  extend_one held p (Some q) (suc n) [] cs sent ps more more' go m e f h = absurd h
  extend_one held p (Some q) (suc n) (c ∷ calls) cs sent ps more more' go m e f h = (h.0, extend_ask (held && n == 0) p n c calls cs sent ps more more' go m e f h.1)

  -- while packets are answered, the next one is
  pub serves_more : (held : Bool) (got more : List P) (n m : ℕ) (calls cs : List (Call Q R)) (sent ps : List P) → left_of s held got n ≡ Some m → Serves s held more m cs ps
      → Serves s held got n calls sent → Serves s held (got ++ more) n (calls ++ cs) (sent ++ ps)
  serves_more held [] more n m calls cs sent ps e h k =
      let same : n ≡ m = cc in
      rw (k.0, k.1) (subst (λ j. Serves s held more j cs ps) (sym same) h)
  serves_more held (p ∷ got) more n m calls cs sent ps e h k =
      extend_one held p (s.read p) n calls cs sent ps _ (λ j later rest. Serves s held (got ++ more) j later rest) (λ j. left_of s held got j) m e
      (λ j later rest e' k'. serves_more held got more j m later cs rest ps e' h k') k

  -- afterwards none is
  over_ask : (b : Bool) (p : P) (n : ℕ) (c : Call Q R) (calls : List (Call Q R)) (sent : List P) (more more' : More) (go : ℕ → Option ℕ)
      → (if b then None else go n) ≡ None → ((k : ℕ) (later : List (Call Q R)) (rest : List P) → go k ≡ None → more k later rest → more' k later rest)
      → ServesAsk s b p n c calls sent more → ServesAsk s b p n c calls sent more'
  over_ask true p n c calls sent more more' go e f h = h
  over_ask false p n c calls sent more more' go e f h = (h.0, h.1, h.2, f n calls h.1 e h.3)

  over_one : (held : Bool) (p : P) (o : Option Q) (n : ℕ) (calls : List (Call Q R)) (sent : List P) (more more' : More) (go : ℕ → Option ℕ)
      → left_one s held o n go ≡ None → ((k : ℕ) (later : List (Call Q R)) (rest : List P) → go k ≡ None → more k later rest → more' k later rest)
      → ServesOne s held p o n calls sent more → ServesOne s held p o n calls sent more'
  over_one held p None n calls sent more more' go e f h = (h.0, h.1, h.2, f n calls h.1 e h.3)
  over_one held p (Some q) zero calls sent more more' go e f h = h
  over_one held p (Some q) (suc n) [] sent more more' go e f h = absurd h
  over_one held p (Some q) (suc n) (c ∷ calls) sent more more' go e f h = (h.0, over_ask (held && n == 0) p n c calls sent more more' go e f h.1)

  pub serves_over : (held : Bool) (got more : List P) (n : ℕ) (calls : List (Call Q R)) (sent : List P) → left_of s held got n ≡ None → Serves s held got n calls sent → Serves s held (got ++ more) n calls sent
  serves_over held [] more n calls sent e k = absurd (some_none n e)
  serves_over held (p ∷ got) more n calls sent e k =
      over_one held p (s.read p) n calls sent _ (λ j later rest. Serves s held (got ++ more) j later rest) (λ j. left_of s held got j) e
      (λ j later rest e' k'. serves_over held got more j later rest e' k') k

  left_go : (held : Bool) (o : Option Q) (n : ℕ) (go go' : ℕ → Option ℕ) (f : Option ℕ → Option ℕ) → ((k : ℕ) → go' k ≡ f (go k)) → f None ≡ None → left_one s held o n go' ≡ f (left_one s held o n go)
  left_go held None n go go' f e none = e n
  left_go held (Some q) zero go go' f e none = sym none
  left_go held (Some q) (suc n) go go' f e none =
      by_test (held && n == 0)
      (λ b. ap (λ t. if t then None else go' n) b ∙ (sym none ∙ ap (λ t. f (if t then None else go n)) (sym b)))
      (λ b. ap (λ t. if t then None else go' n) b ∙ (e n ∙ ap (λ t. f (if t then None else go n)) (sym b)))

  pub left_more : (held : Bool) (got : List P) (p : P) (n : ℕ) → left_of s held (got ++ p ∷ []) n ≡ left_after s held (s.read p) (left_of s held got n)
  left_more held [] p n = refl
  left_more held (x ∷ got) p n = left_go held (s.read x) n (λ m. left_of s held got m) (λ m. left_of s held (got ++ p ∷ []) m) (left_after s held (s.read p)) (λ k. left_more held got p k) refl

module _ {P A Q R : Type 0} (s : WireFormat P A Q R) (keeps : Keeps s) (held : Bool) where
  -- nothing goes back for packets that have no answer
  idle_none : (more : List P) (m : ℕ) → waited s more ≡ [] → Serves s held more m [] []
  idle_none [] m e = (refl, refl)
  idle_none (p ∷ more) m e =
      by_test (s.waits p)
      (λ f. let bad : p ∷ waited s more ≡ [] = sym (waited_one s keeps p more f) ∙ e in absurd (cc))
      (λ f.
      subst (λ o. ServesOne s held p o m [] [] (λ k later rest. Serves s held more k later rest)) (sym (keeps.unread p f))
      (0, [], sym (ap (λ o. packets_in 0 o ++ []) (keeps.silent p f)), idle_none more m (sym (waited_none s keeps p more f) ∙ e)))

  -- so they may come behind all that was served
  pub serves_idle : (got more : List P) (n : ℕ) (calls : List (Call Q R)) (sent : List P) → waited s more ≡ [] → Serves s held got n calls sent → Serves s held (got ++ more) n calls sent
  serves_idle got more n calls sent e h = by_left (left_of s held got n) refl
    where
      by_left : (o : Option ℕ) → left_of s held got n ≡ o → Serves s held (got ++ more) n calls sent
      by_left None left = serves_over s held got more n calls sent left h
      by_left (Some m) left =
          subst (λ l. Serves s held (got ++ more) n l sent) (append-nil calls)
          (subst (λ l. Serves s held (got ++ more) n (calls ++ []) l) (append-nil sent) (serves_more s held got more n m calls [] sent [] left (idle_none more m e) h))

module _ {P A Q R : Type 0} (s : WireFormat P A Q R) (keeps : Keeps s) (held : Bool) (n : ℕ) where
  -- the requests that have answers
  waits_of : List P → List ℕ
  waits_of ps = map s.id_of (filter s.waits (filter s.is_request ps))

  more_waits : (ps qs : List P) → IsFront (waits_of ps) (waits_of (ps ++ qs))
  unfolding waits_of
  more_waits ps qs = front_map s.id_of _ _ (front_filter s.waits _ _ (front_filter s.is_request ps (ps ++ qs) (qs, refl)))

  -- what was sent so far is in order
  order_now : (past : List (Event P)) (served rest : List P) (calls : List (Call Q R)) (owed : List P) → got_of past ≡ served ++ rest → Serves s held served n calls (sent_of past ++ owed)
      → IsFront (map s.id_of (filter s.is_answer (sent_of past))) (map s.id_of (filter s.waits (filter s.is_request (got_of past))))
  unfolding waits_of
  order_now past served rest calls owed got h =
      let all = in_order s keeps held served n calls (sent_of past ++ owed) h in
      let cut = ap (map s.id_of) (filter-append s.is_answer (sent_of past) owed) ∙ map-append s.id_of (filter s.is_answer (sent_of past)) (filter s.is_answer owed) in
      let first = front_less (map s.id_of (filter s.is_answer (sent_of past))) (map s.id_of (filter s.is_answer owed)) _ (subst (λ l. IsFront l (waits_of served)) cut all) in
      subst (λ l. IsFront (map s.id_of (filter s.is_answer (sent_of past))) (waits_of l)) (sym got) (front_trans _ _ _ first (more_waits served rest))

  pub server_new : ServerKept s held n [] [] [] (Some n) []
  server_new = record { served = []; got_is = refl; serves = (refl, refl); stands = refl; order = tt }

  -- a packet was taken
  pub server_took : (past : List (Event P)) (calls : List (Call Q R)) (owed : List P) (left : Option ℕ) (rest : List P) (p : P) → ServerKept s held n past calls owed left rest
      → ServerKept s held n (Got p ∷ past) calls owed left (rest ++ p ∷ [])
  server_took past calls owed left rest p h =
      let got : got_of (Got p ∷ past) ≡ h.served ++ (rest ++ p ∷ []) = ap (λ l. l ++ p ∷ []) h.got_is ∙ append_assoc h.served rest (p ∷ []) in
      record { served = h.served; got_is = got; serves = h.serves; stands = h.stands; order = (order_now (Got p ∷ past) h.served (rest ++ p ∷ []) calls owed got h.serves, h.order) }

  next_served : (past : List (Event P)) (served rest : List P) (p : P) → got_of past ≡ served ++ p ∷ rest → got_of past ≡ (served ++ p ∷ []) ++ rest
  next_served past served rest p e = e ∙ sym (append_assoc served (p ∷ []) rest)

  -- the first of the packets that were taken is served
  pub server_served : (past : List (Event P)) (calls cs : List (Call Q R)) (owed ps : List P) (m : ℕ) (p : P) (rest : List P) → Serves s held (p ∷ []) m cs ps
      → ServerKept s held n past calls owed (Some m) (p ∷ rest) → ServerKept s held n past (calls ++ cs) (owed ++ ps) (left_after s held (s.read p) (Some m)) rest
  server_served past calls cs owed ps m p rest one h =
      let serves = serves_more s held h.served (p ∷ []) n m calls cs (sent_of past ++ owed) ps h.stands one h.serves in
      record {
        served = h.served ++ p ∷ [];
        got_is = next_served past h.served rest p h.got_is;
        serves = subst (Serves s held (h.served ++ p ∷ []) n (calls ++ cs)) (append_assoc (sent_of past) owed ps) serves;
        stands = left_more s held h.served p n ∙ ap (left_after s held (s.read p)) h.stands;
        order = h.order;
      }

  -- after the stop it is passed over
  pub server_passed : (past : List (Event P)) (calls : List (Call Q R)) (owed : List P) (p : P) (rest : List P) → ServerKept s held n past calls owed None (p ∷ rest) → ServerKept s held n past calls owed None rest
  server_passed past calls owed p rest h =
      record {
        served = h.served ++ p ∷ [];
        got_is = next_served past h.served rest p h.got_is;
        serves = serves_over s held h.served (p ∷ []) n calls (sent_of past ++ owed) h.stands h.serves;
        stands = left_more s held h.served p n ∙ ap (left_after s held (s.read p)) h.stands;
        order = h.order;
      }

  -- what was owed was sent
  pub server_gave : (past : List (Event P)) (calls : List (Call Q R)) (p : P) (owed : List P) (left : Option ℕ) (rest : List P) → ServerKept s held n past calls (p ∷ owed) left rest
      → ServerKept s held n (Sent p ∷ past) calls owed left rest
  server_gave past calls p owed left rest h =
      let serves : Serves s held h.served n calls (sent_of (Sent p ∷ past) ++ owed) = subst (Serves s held h.served n calls) (sym (append_assoc (sent_of past) (p ∷ []) owed)) h.serves in
      record { served = h.served; got_is = h.got_is; serves = serves; stands = h.stands; order = (order_now (Sent p ∷ past) h.served rest calls owed h.got_is serves, h.order) }

  -- nothing was sent or got
  pub server_quiet : (past : List (Event P)) (e : Event P) (calls : List (Call Q R)) (owed : List P) (left : Option ℕ) (rest : List P) → sent_of (e ∷ past) ≡ sent_of past → got_of (e ∷ past) ≡ got_of past
      → ServerKept s held n past calls owed left rest → ServerKept s held n (e ∷ past) calls owed left rest
  server_quiet past e calls owed left rest same same' h =
      let got : got_of (e ∷ past) ≡ h.served ++ rest = same' ∙ h.got_is in
      let serves : Serves s held h.served n calls (sent_of (e ∷ past) ++ owed) = rw same h.serves in
      record { served = h.served; got_is = got; serves = serves; stands = h.stands; order = (order_now (e ∷ past) h.served rest calls owed got serves, h.order) }

module _ {P A Q R : Type 0} (s : WireFormat P A Q R) (plan : RequestPlan A) (past : List (Event P)) (calls : List (Call Q R)) (left : Option ℕ) where
  abbrev Kept : List P → List P → Type 0
  Kept owed rest = ServerKept s (held_of plan.stop (length plan.script)) (count_of plan.stop (length plan.script)) past calls owed left rest

  -- the end of the serving end, which follows the other end's mark whatever it owes
  pub server_follows : (owed rest : List P) → Kept owed rest → is_drained past ≡ true → Follows past → ServerEnds s plan past calls
  server_follows owed rest h drained follows = record { served = h.served; first = (rest, h.got_is); missing = owed; serves = h.serves; order = h.order; end = inr (drained, follows) }

  -- and where all that came is served, and nothing is owed
  pub server_ends : Kept [] [] → ServerStops s plan past calls ⊎ ((is_drained past ≡ true) × Follows past) → ServerEnds s plan past calls
  server_ends h (inl stops) = record { served = h.served; first = ([], h.got_is); missing = []; serves = h.serves; order = h.order; end = inl (stops, sym (append-nil h.served) ∙ sym h.got_is, refl) }
  server_ends h (inr follows) = server_follows [] [] h follows.0 follows.1

-- it breaks off
pub server_breaks : {P A Q R : Type 0} (s : WireFormat P A Q R) (held : Bool) (n : ℕ) (past : List (Event P)) (calls : List (Call Q R)) (owed : List P) (left : Option ℕ) (rest : List P)
    → ServerKept s held n past calls owed left rest → ServerBreaks s held n past calls
server_breaks s held n past calls owed left rest h = record { served = h.served; first = (rest, h.got_is); missing = owed; serves = h.serves; order = h.order }
