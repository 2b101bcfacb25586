-- Both ends together make a run of the channel.
use Rattle.std.proofs.Common.{◌≡◌, ℕ, ◌+◌, ◌≤◌, List, [], ◌∷◌, ◌++◌, map, length, Bool, true, false, cond, filter, refl, sym, ap, ◌∙◌, subst, arith, Option, Some, None}
use Rattle.std.specs.Prelude.{filter_map, ◌⊎◌}
use mathlib.Core.Logic.{inl, inr}
use Rattle.std.proofs.lemmas.List.{append-nil, length-append, length-map}
use Rattle.std.proofs.lemmas.List.Elements.{filter-append}
use Rattle.channel_trace.specs.declared.event.Event.{Event}
use Rattle.channel_trace.specs.Runs.{Turn, IsFront, sent_of, got_of, is_drained, guest_of, host_of, IsRun}
use Rattle.channel_trace.specs.Laws.{Follows}
use Rattle.hist_lock.specs.Seat.{Call}
use Rattle.channel_model.specs.WireFormat.{WireFormat, listed, Keeps}
use Rattle.channel_model.specs.Asker.{Encoded, requests_of, answers_of, open_of}
use Rattle.channel_model.specs.Server.{Serves, answered}
use Rattle.channel_model.specs.Acks.{acks_for}
use Rattle.channel_model.specs.Settled.{pairs, said_all, IsSettled}
use Rattle.channel_model.specs.Channel.{RequestPlan, count_of, held_of, IsRequestPlan, asks_of, AskerSettles, AskerEnds, ServerStops, ServerEnds, IsProtocolRun}
use Rattle.channel_trace.proofs.Fronts.{front_filter, front_trans}
use Rattle.channel_trace.proofs.Pasts.{drained_seen}
use Rattle.channel_model.proofs.Runs.{guest_front, host_front, guest_drained, host_drained, follow_none}
use Rattle.channel_model.proofs.Opens.{by_test, settled, pairs_ids}
use Rattle.channel_model.proofs.Served.{says}
use Rattle.channel_model.proofs.Serving.{serves_idle}
use Rattle.channel_model.proofs.Parts.{Ends, waited, in_order, ends, no_more}
use Rattle.channel_model.proofs.Counts.{front_same, front_le, front_map_of, reads_waited, reads_requests, calls_front, calls_most, all_called, encoded_waits, plan_reads}

no_length : {A : Type 0} (xs : List A) → length xs ≤ 0 → xs ≡ []
no_length [] e = refl
no_length (x ∷ xs) e = absurd (omega (arith, e))

count_most : (stop : Option (ℕ × Bool)) (m : ℕ) → count_of stop m ≤ m
count_most None m = omega arith
count_most (Some k) m = omega arith

module _ {P A Q R : Type 0} (s : WireFormat P A Q R) where
  encoded_part : (ps qs : List P) (asks : List A) → Encoded s asks (ps ++ qs) → Encoded s asks ps
  encoded_part [] qs asks enc = tt
  encoded_part (p ∷ ps) qs [] enc = enc
  encoded_part (p ∷ ps) qs (a ∷ asks) enc = (enc.0, encoded_part ps qs asks enc.1)

  pairs_part : (ps qs : List P) (asks : List A) → IsFront (pairs s ps asks) (pairs s (ps ++ qs) asks)
  pairs_part [] qs asks = (pairs s qs asks, refl)
  pairs_part (p ∷ ps) qs [] = ([], refl)
  pairs_part (p ∷ ps) qs (a ∷ asks) =
      let rest = pairs_part ps qs asks in (
        rest.0,
        ap (λ l. cond (s.waits p) ((s.id_of p, a) ∷ l) l) rest.1
            ∙ by_test (s.waits p)
            (λ e. ap (λ b. cond b ((s.id_of p, a) ∷ (pairs s ps asks ++ rest.0)) (pairs s ps asks ++ rest.0)) e
            ∙ ap (λ b. cond b ((s.id_of p, a) ∷ pairs s ps asks) (pairs s ps asks) ++ rest.0) (sym e))
            (λ e. ap (λ b. cond b ((s.id_of p, a) ∷ (pairs s ps asks ++ rest.0)) (pairs s ps asks ++ rest.0)) e
            ∙ ap (λ b. cond b ((s.id_of p, a) ∷ pairs s ps asks) (pairs s ps asks) ++ rest.0) (sym e)),
      )

  -- requests past the answers say nothing
  said_part : (os more : List (ℕ × A)) (before : Option P) (zs : List P) → length (filter s.is_answer zs) ≤ length os → said_all s (os ++ more) before zs ≡ said_all s os before zs
  said_part os more before [] le = said_end (os ++ more) before ∙ sym (said_end os before)
    where
      said_end : (os : List (ℕ × A)) (before : Option P) → said_all s os before [] ≡ []
      said_end [] before = refl
      said_end (o ∷ os) before = refl
  said_part [] more before (z ∷ zs) le = said_none more before (z ∷ zs) (no_length (filter s.is_answer (z ∷ zs)) le)
    where
      said_none : (os : List (ℕ × A)) (before : Option P) (zs : List P) → filter s.is_answer zs ≡ [] → said_all s os before zs ≡ []
      said_none [] before [] e = refl
      said_none (o ∷ os) before [] e = refl
      said_none [] before (z ∷ zs) e = refl
      said_none (o ∷ os) before (z ∷ zs) e =
          by_test (s.is_answer z)
          (λ f. let bad : z ∷ filter s.is_answer zs ≡ [] = ap (λ b. cond b (z ∷ filter s.is_answer zs) (filter s.is_answer zs)) (sym f) ∙ e in absurd (cc))
          (λ f. let rest : filter s.is_answer zs ≡ [] = ap (λ b. cond b (z ∷ filter s.is_answer zs) (filter s.is_answer zs)) (sym f) ∙ e in
          ap (λ b. cond b (listed (s.result o.1 before z) ++ said_all s os None zs) (said_all s (o ∷ os) (Some z) zs)) f ∙ said_none (o ∷ os) (Some z) zs rest)
  said_part (o ∷ os) more before (z ∷ zs) le =
      by_test (s.is_answer z)
      (λ f. let le' : length (filter s.is_answer zs) ≤ length os = omega (arith, le, ap (λ b. length (cond b (z ∷ filter s.is_answer zs) (filter s.is_answer zs))) f) in
      ap (λ b. cond b (listed (s.result o.1 before z) ++ said_all s (os ++ more) None zs) (said_all s (o ∷ os ++ more) (Some z) zs)) f
      ∙ (ap (λ (l : List R). listed (s.result o.1 before z) ++ l) (said_part os more None zs le')
      ∙ ap (λ b. cond b (listed (s.result o.1 before z) ++ said_all s os None zs) (said_all s (o ∷ os) (Some z) zs)) (sym f)))
      (λ f. let le' : length (filter s.is_answer zs) ≤ length (o ∷ os) = omega (arith, le, ap (λ b. length (cond b (z ∷ filter s.is_answer zs) (filter s.is_answer zs))) f) in
      ap (λ b. cond b (listed (s.result o.1 before z) ++ said_all s (os ++ more) None zs) (said_all s (o ∷ os ++ more) (Some z) zs)) f
      ∙ (said_part (o ∷ os) more (Some z) zs le'
      ∙ ap (λ b. cond b (listed (s.result o.1 before z) ++ said_all s os None zs) (said_all s (o ∷ os) (Some z) zs)) (sym f)))

module _ {P A Q R : Type 0} (s : WireFormat P A Q R) (keeps : Keeps s) (plan : RequestPlan A) (past : List (Turn P)) (told : List R) (calls : List (Call Q R)) where
  abbrev t : List (Event P)
  t = guest_of past

  abbrev u : List (Event P)
  u = host_of past

  abbrev asks : List A
  asks = asks_of s plan

  abbrev m : ℕ
  m = length plan.script

  abbrev n : ℕ
  n = count_of plan.stop m

  abbrev held : Bool
  held = held_of plan.stop m

  abbrev The : Type 0
  The = IsProtocolRun s plan (sent_of t) (got_of t) (sent_of u) (got_of u) calls told

  same_length : {X Y : Type 0} (f : X → ℕ) (g : Y → ℕ) (xs : List X) (ys : List Y) → map f xs ≡ map g ys → length xs ≡ length ys
  same_length f g xs ys e = sym (length-map xs f) ∙ (ap length e ∙ length-map ys g)

  -- what the replies are, where all answers were got
  -- all that the serving end got is served, and all that goes back for it was sent
  abbrev Whole : Type 0
  Whole = Serves s held (got_of u) n calls (sent_of u)

  replies_join : IsRun past → AskerEnds s plan t told → Whole → IsSettled s asks t → got_of t ≡ sent_of u → told ≡ map (λ c. c.reply) (answered s held n calls)
  replies_join run a w ss all =
      let front = host_front past run in
      let cut : sent_of t ≡ got_of u ++ front.0 = front.1 in
      let cut' : requests_of s t ≡ filter s.is_request (got_of u) ++ filter s.is_request front.0 = ap (filter s.is_request) cut ∙ filter-append s.is_request (got_of u) front.0 in
      let enc : Encoded s asks (filter s.is_request (got_of u)) = encoded_part s _ _ asks (subst (Encoded s asks) cut' a.encoded) in
      let part = pairs_part s (filter s.is_request (got_of u)) (filter s.is_request front.0) asks in
      let still : List (ℕ × A) = open_of s asks t in
      let le1 : length (filter s.is_answer (sent_of u)) ≤ length ss.done =
      omega (arith, same_length (λ o. o.0) s.id_of ss.done (answers_of s t) ss.ids, ap (λ l. length (filter s.is_answer l)) all) in
      let inside = front_le _ _ (in_order s keeps held (got_of u) n calls (sent_of u) w) in
      let le2 : length (filter s.is_answer (sent_of u)) ≤ length (pairs s (filter s.is_request (got_of u)) asks) =
      omega (arith, inside, length-map (filter s.is_answer (sent_of u)) s.id_of, length-map (waited s (got_of u)) s.id_of, same_length (λ o. o.0) s.id_of _ _ (pairs_ids s (filter s.is_request (got_of u)) asks enc)) in
      let pieces : ss.done ++ still ≡ pairs s (filter s.is_request (got_of u)) asks ++ part.0 = sym ss.split ∙ (ap (λ l. pairs s l asks) cut' ∙ part.1) in
      a.replies ∙ (ss.said ∙ (ap (said_all s ss.done None) all
      ∙ (sym (said_part s ss.done still None (sent_of u) le1)
      ∙ (ap (λ l. said_all s l None (sent_of u)) pieces
      ∙ (said_part s (pairs s (filter s.is_request (got_of u)) asks) part.0 None (sent_of u) le2
      ∙ says s keeps held asks (got_of u) n calls (sent_of u) enc w)))))

  -- all that is left to show
  finish_run : IsRun past → AskerEnds s plan t told → Whole → IsSettled s asks t → got_of t ≡ sent_of u → (plan.stop ≡ None → got_of u ≡ sent_of t)
      → (plan.stop ≡ None → length (requests_of s t) ≡ length asks) → (plan.stop ≡ None → filter s.is_ack (sent_of t) ≡ acks_for s (got_of t)) → length calls ≡ n → length (filter s.has_answer plan.start) ≤ length (waited s (got_of u)) → The
  finish_run run a w ss all whole_got whole acked count started =
      record {
        front = host_front past run;
        whole_got = whole_got;
        answers_got = all;
        requests = a.encoded;
        whole = whole;
        acks = subst (λ l. IsFront (filter s.is_ack (sent_of t)) (acks_for s l)) all a.acks;
        all_acked = λ e. acked e ∙ ap (acks_for s) all;
        served = w;
        started = started;
        asked = front_trans _ _ _ (calls_front s keeps held (got_of u) n calls (sent_of u) w) (front_map_of s.read (got_of u) (sent_of t) (host_front past run));
        count = count;
        replies = replies_join run a w ss all;
      }

  stop_none : (after : ℕ × Bool) → plan.stop ≡ Some after → plan.stop ≡ None → ⊥
  stop_none after e f = let bad : Some after ≡ None = sym e ∙ f in absurd (cc)

  -- where no request is open, there are as many answers as requests that have some
  all_answered : (a : AskerEnds s plan t told) → (ss : IsSettled s asks t) → open_of s asks t ≡ [] → length (answers_of s t) ≡ length (waited s (sent_of t))
  all_answered a ss none =
      sym (same_length (λ o. o.0) s.id_of ss.done (answers_of s t) ss.ids)
      ∙ (ap length (sym (append-nil ss.done)) ∙ (ap (λ l. length (ss.done ++ l)) (sym none) ∙ (ap length (sym ss.split) ∙ same_length (λ o. o.0) s.id_of _ _ (pairs_ids s (requests_of s t) asks a.encoded))))

  -- a serving end that stopped has served all
  whole_stopped : (b : ServerEnds s plan u calls) → b.served ≡ got_of u → b.missing ≡ [] → Whole
  whole_stopped b same none =
      subst (λ l. Serves s held l n calls (sent_of u)) same
      (subst (λ l. Serves s held b.served n calls l) (ap (λ l. sent_of u ++ l) none ∙ append-nil (sent_of u)) b.serves)

  -- and so has one that followed an end which settled all: there are as many answers as requests, so none is missing, and what isn't served asks for none
  whole_settled : IsRun past → AskerEnds s plan t told → (b : ServerEnds s plan u calls) → IsSettled s asks t → open_of s asks t ≡ [] → Whole
  whole_settled run a b ss none =
      let back = guest_front past run in
      let rest : List P = b.first.0 in
      let ids = all_answered a ss none in
      let more = ap length (ap (filter s.is_answer) back.1 ∙ filter-append s.is_answer (got_of t) back.0) ∙ length-append (answers_of s t) (filter s.is_answer back.0) in
      let inside = front_le _ _ (in_order s keeps held b.served n calls (sent_of u ++ b.missing) b.serves) in
      let inside' : length (filter s.is_answer (sent_of u ++ b.missing)) ≤ length (waited s b.served) =
      omega (arith, inside, length-map (filter s.is_answer (sent_of u ++ b.missing)) s.id_of, length-map (waited s b.served) s.id_of) in
      let cut = ap length (filter-append s.is_answer (sent_of u) b.missing) ∙ length-append (filter s.is_answer (sent_of u)) (filter s.is_answer b.missing) in
      let split : length (waited s (got_of u)) ≡ length (waited s b.served) + length (waited s rest) =
      ap (λ l. length (waited s l)) b.first.1
      ∙ (ap (λ l. length (filter s.waits l)) (filter-append s.is_request b.served rest)
      ∙ (ap length (filter-append s.waits (filter s.is_request b.served) (filter s.is_request rest)) ∙ length-append (waited s b.served) (waited s rest))) in
      let there = front_le _ _ (front_filter s.waits _ _ (front_filter s.is_request (got_of u) (sent_of t) (host_front past run))) in
      let no_missing : b.missing ≡ [] =
      no_more s.is_answer (sent_of u) b.missing (ends s keeps held b.served n calls (sent_of u ++ b.missing) b.serves)
      (no_length (filter s.is_answer b.missing) (omega (arith, ids, more, inside', cut, split, there))) in
      let no_rest : waited s rest ≡ [] = no_length (waited s rest) (omega (arith, ids, more, inside', cut, split, there)) in
      subst (λ l. Serves s held l n calls (sent_of u)) (sym b.first.1)
      (serves_idle s keeps held b.served rest n calls (sent_of u) no_rest
      (subst (λ l. Serves s held b.served n calls l) (ap (λ l. sent_of u ++ l) no_missing ∙ append-nil (sent_of u)) b.serves))

  -- the asking end settled all
  all_settled : IsRequestPlan s plan → IsRun past → AskerEnds s plan t told → Whole → IsSettled s asks t
      → AskerSettles s plan t → (plan.stop ≡ None → got_of u ≡ sent_of t) → The
  all_settled is run a w ss x whole_got =
      let back = guest_front past run in
      let ids = all_answered a ss x.none in
      let more : filter s.is_answer (sent_of u) ≡ answers_of s t ++ filter s.is_answer back.0 = ap (filter s.is_answer) back.1 ∙ filter-append s.is_answer (got_of t) back.0 in
      let served = front_le _ _ (in_order s keeps held (got_of u) n calls (sent_of u) w) in
      let served' : length (filter s.is_answer (sent_of u)) ≤ length (waited s (got_of u)) = omega (arith, served, length-map (filter s.is_answer (sent_of u)) s.id_of, length-map (waited s (got_of u)) s.id_of) in
      let there : IsFront (waited s (got_of u)) (waited s (sent_of t)) = front_filter s.waits _ _ (front_filter s.is_request (got_of u) (sent_of t) (host_front past run)) in
      let there' = front_le _ _ there in
      let sum = ap length more ∙ length-append (answers_of s t) (filter s.is_answer back.0) in
      let rest_none : back.0 ≡ [] =
      no_more s.is_answer (got_of t) back.0 (subst (Ends s.is_answer) back.1 (ends s keeps held (got_of u) n calls (sent_of u) w))
      (no_length (filter s.is_answer back.0) (omega (arith, ids, sum, served', there'))) in
      let all : got_of t ≡ sent_of u = sym (append-nil (got_of t)) ∙ (ap (λ l. got_of t ++ l) (sym rest_none) ∙ sym back.1) in
      let same : waited s (got_of u) ≡ waited s (sent_of t) = front_same _ _ there (omega (arith, ids, sum, served')) in
      let reads : filter_map s.read (got_of u) ≡ filter_map s.read (requests_of s t) =
      reads_waited s keeps (got_of u) ∙ (ap (filter_map s.read) same ∙ (sym (reads_waited s keeps (sent_of t)) ∙ reads_requests s keeps (sent_of t))) in
      let called : length calls ≡ m =
      all_called s keeps held (got_of u) n calls (sent_of u) w (omega (arith, ids, sum, there'))
      ∙ (ap length reads ∙ plan_reads s keeps plan.start plan.script (requests_of s t) is.fixed is.asks a.encoded x.all) in
      let count : length calls ≡ n = omega (arith, called, calls_most s keeps held (got_of u) n calls (sent_of u) w, count_most plan.stop m) in
      let waits = encoded_waits s keeps asks (requests_of s t) a.encoded x.all in
      let split = ap length (filter-append s.has_answer plan.start plan.script) ∙ length-append (filter s.has_answer plan.start) (filter s.has_answer plan.script) in
      finish_run run a w ss all whole_got (λ e. x.all) (λ e. x.acked) count (omega (arith, ap length same, waits, split))

  by_ends : IsRequestPlan s plan → IsRun past → AskerEnds s plan t told → (b : ServerEnds s plan u calls) → IsSettled s asks t
      → AskerSettles s plan t ⊎ ((is_drained t ≡ true) × Follows t)
      → (ServerStops s plan u calls × (b.served ≡ got_of u) × (b.missing ≡ [])) ⊎ ((is_drained u ≡ true) × Follows u) → The
  by_ends is run a b ss (inl x) (inl y) = all_settled is run a (whole_stopped b y.1 y.2) ss x (λ e. absurd (stop_none y.0.after y.0.stop e))
  by_ends is run a b ss (inl x) (inr y) = all_settled is run a (whole_settled run a b ss x.none) ss x (λ e. host_drained past run y.0)
  by_ends is run a b ss (inr x) (inl y) =
      finish_run run a (whole_stopped b y.1 y.2) ss (guest_drained past run x.0) (λ e. absurd (stop_none y.0.after y.0.stop e)) (λ e. absurd (stop_none y.0.after y.0.stop e)) (λ e. absurd (stop_none y.0.after y.0.stop e)) y.0.count y.0.started
  by_ends is run a b ss (inr x) (inr y) =
      let bad : true ≡ false = sym (drained_seen t x.0) ∙ follow_none past run x.1 y.1 in absurd (cc)

  -- what both ends give is a run of the channel
  pub joined : IsRequestPlan s plan → IsRun past → AskerEnds s plan t told → ServerEnds s plan u calls → The
  joined is run a b = by_ends is run a b (settled s asks past run b.order a.encoded) a.end b.end
