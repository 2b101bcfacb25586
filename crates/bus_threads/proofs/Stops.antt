-- An end that asks settles all only where each request was served.
use Rattle.std.proofs.Common.{◌≡◌, ◌≤◌, ◌+◌, ℕ, Bool, true, false, List, [], ◌++◌, map, length, filter, sym, ap, ◌∙◌, arith}
use Rattle.std.specs.Prelude.{◌==◌, ◌&&◌, filter_map}
use Rattle.std.proofs.lemmas.List.{append-nil, length-map}
use Rattle.std.proofs.lemmas.Bool.Decides.{nat_tests}
use Rattle.channel_trace.specs.declared.event.Event.{Event}
use Rattle.channel_trace.specs.Runs.{IsFront, sent_of, got_of}
use Rattle.channel_trace.proofs.Fronts.{front_filter}
use Rattle.hist_lock.specs.Seat.{Call}
use Rattle.channel_model.specs.WireFormat.{WireFormat, Keeps}
use Rattle.channel_model.specs.Asker.{requests_of, answers_of, open_of}
use Rattle.channel_model.specs.Server.{Serves}
use Rattle.channel_model.specs.Settled.{IsSettled}
use Rattle.channel_model.specs.Channel.{RequestPlan, count_of, held_of, IsRequestPlan, asks_of, AskerEnds, AskerSettles, IsProtocolRun}
use Rattle.channel_model.proofs.Opens.{pairs_ids}
use Rattle.channel_model.proofs.Parts.{waited, waited_one, waited_none, back_answers, in_order}
use Rattle.channel_model.proofs.Counts.{front_le, front_same, reads_waited, reads_requests, by_calls, all_called, plan_reads}

same_length : {X Y : Type 0} (f : X → ℕ) (g : Y → ℕ) (xs : List X) (ys : List Y) → map f xs ≡ map g ys → length xs ≡ length ys
same_length f g xs ys e = sym (length-map xs f) ∙ (ap length e ∙ length-map ys g)

module _ {P A Q R : Type 0} (s : WireFormat P A Q R) (keeps : Keeps s) (plan : RequestPlan A) (asker server : List (Event P)) (calls : List (Call Q R)) (told heard : List R) where
  -- where no request is open, there are as many answers as requests that have some
  all_answered : AskerEnds s plan asker told → (done : IsSettled s (asks_of s plan) asker) → open_of s (asks_of s plan) asker ≡ [] → length (answers_of s asker) ≡ length (waited s (sent_of asker))
  all_answered ends done none =
      sym (same_length (λ o. o.0) s.id_of done.done (answers_of s asker) done.ids)
      ∙ (ap length (sym (append-nil done.done))
      ∙ (ap (λ l. length (done.done ++ l)) (sym none)
      ∙ (ap length (sym done.split) ∙ same_length (λ o. o.0) s.id_of _ _ (pairs_ids s (requests_of s asker) (asks_of s plan) ends.encoded))))

  -- and each request that came has its answer
  answers_all : AskerEnds s plan asker told → IsSettled s (asks_of s plan) asker → AskerSettles s plan asker → IsProtocolRun s plan (sent_of asker) (got_of asker) (sent_of server) (got_of server) calls heard
      → length (waited s (sent_of asker)) ≤ length (filter s.is_answer (sent_of server))
  answers_all ends done settles run = omega (arith, all_answered ends done settles.none, ap (λ l. length (filter s.is_answer l)) run.answers_got)

  there : IsProtocolRun s plan (sent_of asker) (got_of asker) (sent_of server) (got_of server) calls heard → IsFront (waited s (got_of server)) (waited s (sent_of asker))
  there run = front_filter s.waits _ _ (front_filter s.is_request (got_of server) (sent_of asker) run.front)

  -- there are as many calls as requests in the script
  pub all_called_for : IsRequestPlan s plan → AskerEnds s plan asker told → IsSettled s (asks_of s plan) asker → AskerSettles s plan asker → IsProtocolRun s plan (sent_of asker) (got_of asker) (sent_of server) (got_of server) calls heard
      → length calls ≡ length plan.script
  all_called_for is ends done settles run =
      let held = held_of plan.stop (length plan.script) in
      let n = count_of plan.stop (length plan.script) in
      let sent = sent_of server in
      let got = got_of server in
      let asked = sent_of asker in
      let all = answers_all ends done settles run in
      let served = front_le _ _ (in_order s keeps held got n calls sent run.served) in
      let few : length (filter s.is_answer sent) ≤ length (waited s got) = omega (arith, served, length-map (filter s.is_answer sent) s.id_of, length-map (waited s got) s.id_of) in
      let most = front_le _ _ (there run) in
      let same : waited s got ≡ waited s asked = front_same _ _ (there run) (omega (arith, all, few)) in
      let reads : filter_map s.read got ≡ filter_map s.read (requests_of s asker) =
      reads_waited s keeps got ∙ (ap (filter_map s.read) same ∙ (sym (reads_waited s keeps asked) ∙ reads_requests s keeps asked)) in
      all_called s keeps held got n calls sent run.served (omega (arith, all, most))
      ∙ (ap length reads ∙ plan_reads s keeps plan.start plan.script (requests_of s asker) is.fixed is.asks ends.encoded settles.all)

  -- where the last answer is held there are fewer calls than are to be served, if each request that came has its answer
  held_short : (held : Bool) → held ≡ true → (got : List P) (n : ℕ) (calls : List (Call Q R)) (sent : List P) → Serves s held got n calls sent → 1 ≤ n → length (waited s got) ≤ length (filter s.is_answer sent) → length calls + 1 ≤ n
  held_short held is =
      by_calls s keeps held (λ got n calls sent. 1 ≤ n → length (waited s got) ≤ length (filter s.is_answer sent) → length calls + 1 ≤ n)
      (λ n some le. some)
      (λ p got q e r some le. absurd (omega (arith, some)))
      (λ p got q n c e r w b some le. absurd (omega (arith, le, ap length (waited_one s keeps p got e))))
      (λ p got q n c calls own back rest e r w b h ih some le.
      let more = ap length (back_answers s keeps (s.id_of p) own back rest h) in
      let last : (n == 0) ≡ false = ap (λ x. x && n == 0) (sym is) ∙ b in
      let left : 1 ≤ n = grind (arith, nat_tests, last) in
      let here = ih left (omega (arith, le, ap length (waited_one s keeps p got e), more)) in
      omega (arith, here))
      (λ p got n calls own back rest e r h ih some le.
      let more = ap length (back_answers s keeps (s.id_of p) own back rest h) in
      ih some (omega (arith, le, ap length (waited_one s keeps p got e), more)))
      (λ p got n calls sent e ih some le. ih some (omega (arith, le, ap length (waited_none s keeps p got e))))

  pub none_held : AskerEnds s plan asker told → IsSettled s (asks_of s plan) asker → AskerSettles s plan asker → IsProtocolRun s plan (sent_of asker) (got_of asker) (sent_of server) (got_of server) calls heard
      → held_of plan.stop (length plan.script) ≡ true → 1 ≤ count_of plan.stop (length plan.script) → ⊥
  none_held ends done settles run held some =
      let n = count_of plan.stop (length plan.script) in
      let most = front_le _ _ (there run) in
      let short = held_short (held_of plan.stop (length plan.script)) held (got_of server) n calls (sent_of server) run.served some (omega (arith, answers_all ends done settles run, most)) in
      omega (arith, short, run.count)
