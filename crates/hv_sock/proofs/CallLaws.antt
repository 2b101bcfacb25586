-- The calls of the end of a channel, as the end of a socket makes them.
use Rattle.std.proofs.Common.{◌≡◌, ◌+◌, ℕ, List, [], ◌∷◌, ◌++◌, Option, Some, None, Result, Ok, Err, OnOk, OnErr, is_ok, Bool, true, false, cond, append-nil, refl, sym, ap, ◌∙◌, subst, arith}
use Rattle.ring_core.specs.declared.told.Told.{Told}
use Rattle.ring_core.specs.Seen.{Seen}
use Rattle.ring_core.specs.Taking.{Takes}
use Rattle.ring_core.specs.Told.{Tale}
use Rattle.ring_machine.specs.declared.last.SendRefusal.{SendRefusal}
use Rattle.ring_machine.specs.declared.last.SendRefusal.TheVariants.{Full as SendFull, BadPeer as SendBadPeer, Stopped as StoppedSend}
use Rattle.ring_machine.specs.declared.last.Signalled.{Signalled}
use Rattle.ring_machine.specs.declared.last.Signalled.TheVariants.{Raised, Quiet}
use Rattle.ring_machine.specs.declared.last.TakeRefusal.{TakeRefusal}
use Rattle.ring_machine.specs.declared.machine.Ending.{Ending}
use Rattle.ring_machine.specs.declared.machine.Ending.TheVariants.{SentQuiet, SentRaised, Full, BadPeer, Took}
use Rattle.ring_machine.specs.declared.machine.Stage.{Stage}
use Rattle.ring_machine.specs.declared.machine.Stage.TheVariants.{Idle, Stopped}
use Rattle.ring_machine.specs.EndCalls.{Send}
use Rattle.ring_machine.specs.Endings.{free_bytes, need_bytes, send_answer, take_refusal, why_of}
use Rattle.ring_machine.specs.Places.{ahead}
use Rattle.ring_machine.specs.Steps.{call_by, is_broken, is_busy_at, is_sent, is_took}
use Rattle.hv_sock.specs.declared.got.Got.{Got}
use Rattle.hv_sock.specs.declared.sock_fault.SockFault.{SockFault}
use Rattle.hv_sock.specs.Packets.{Said, Close, Data, says}
use Rattle.hv_sock.specs.Streams.{IsOpen, breaks_off, bytes_read, closed_by, closes, data_then, fault_by, fault_in, is_closed, stream_of}
use Rattle.hv_sock.specs.Ends.{IsSock, Reads, Sends, TakesAway}
use Rattle.hv_sock.proofs.PacketLaws.{answer_says, bytes_said}
use Rattle.hv_sock.proofs.StreamLaws.{closed_more, fault_more, stream_more}

-- between two calls an end is idle or stopped
by_rest : {A : Type 0} (st : Stage) → is_busy_at st ≡ false → (st ≡ Idle → A) → (st ≡ Stopped → A) → A
by_rest Idle rests f g = f refl
by_rest Stopped rests f g = g refl
by_rest _ rests f g = absurd (cc)

rests_by : (b : Bool) → is_busy_at (cond b Stopped Idle) ≡ false
rests_by true = refl
rests_by false = refl

rests_at : (st : Stage) (b : Bool) → st ≡ cond b Stopped Idle → is_busy_at st ≡ false
rests_at st b is = ap is_busy_at is ∙ rests_by b

pub untook : (took : Bool) (r other : TakeRefusal) → Some r ≡ cond took None (Some other) → (took ≡ false) × (r ≡ other)
untook true r other e = absurd (cc)
untook false r other e = (refl, cc)

pub took_it : (took : Bool) (other : TakeRefusal) → None ≡ cond took None (Some other) → took ≡ true
took_it true other e = refl
took_it false other e = absurd (cc)

whole_take : (how : Ending) → is_took how ≡ true → is_broken how ≡ false
whole_take Took is = refl
whole_take _ is = absurd (cc)

-- the flag of an answer
pub on_ok : {T E : Type 0} (r : Result T E) (b : Bool) → b ≡ is_ok r → OnOk r (b ≡ true)
on_ok (Ok t) b is = is
on_ok (Err e) b is = tt

pub by_option : {A B : Type 0} (o : Option A) → (o ≡ None → B) → ((a : A) × (o ≡ Some a) → B) → B
by_option None f g = f refl
by_option (Some a) f g = g (a, refl)

-- a packet went, and it didn't
abbrev Went : {S : Type 0} → List ℕ → Seen S → Seen S → Result Signalled SendRefusal → Type 0
Went p old new result = (s : Signalled) × (result ≡ Ok s) × (new.state.sent ≡ old.state.sent ++ p ∷ [])

abbrev Stayed : {S : Type 0} → Seen S → Seen S → Result Signalled SendRefusal → Type 0
Stayed old new result = (e : SendRefusal) × (result ≡ Err e) × (new.state.sent ≡ old.state.sent) × (new.spare_sent ≡ old.spare_sent)

module _ {S : Type 0} (told : S → Option Told) (tale : S → Tale) (same : S → S → Type 0) where
  -- a take that was refused leaves what was got
  pub refused_take : (old new : Seen S) (r : TakeRefusal) → is_busy_at old.state.machine.stage ≡ false → Takes S told tale same old new (Some r) → (new.state.got ≡ old.state.got) × (new.spare_got ≡ old.spare_got)
  refused_take old new r rests takes =
      by_rest old.state.machine.stage rests
      (λ h.
      let t = takes.idle h in
      let m = new.state.machine in
      let no = t.refused (untook (is_took m.ended) r (take_refusal m.ended m) t.answer).0 in
      (no.0, no.2))
      (λ h.
      let is = (takes.stopped h).1 in
      (ap (λ (x : Seen S). x.state.got) is, ap (λ (x : Seen S). x.spare_got) is))

  -- one that gave a packet leaves the end between two calls, and not stopped
  pub took_rests : (old new : Seen S) → is_busy_at old.state.machine.stage ≡ false → Takes S told tale same old new None → new.state.machine.stage ≡ Idle
  took_rests old new rests takes =
      by_rest old.state.machine.stage rests
      (λ h.
      let t = takes.idle h in
      let m = new.state.machine in
      t.leaves.stage ∙ ap (λ (b : Bool). cond b Stopped Idle) (whole_take m.ended (took_it (is_took m.ended) (take_refusal m.ended m) t.answer)))
      (λ h. let no = (takes.stopped h).0 in absurd (cc))

  pub refused_away : (old new : Seen S) (r : TakeRefusal) → is_busy_at old.state.machine.stage ≡ false → Takes S told tale same old new (Some r) → TakesAway S told tale same old new (Some r)
  refused_away old new r rests takes = record {
    between = new;
    takes = takes;
    refused = λ q is. let t = refused_take old new r rests takes in (refl, t.0, t.1);
    commits = λ none. absurd (cc);
  }

  -- what the end keeps beside its lists after a send
  pub sent_rests : (p : List ℕ) (old new : Seen S) (result : Result Signalled SendRefusal) → is_busy_at old.state.machine.stage ≡ false → Sends S told tale same p old new result → is_busy_at new.state.machine.stage ≡ false
  sent_rests p old new result rests sends =
      by_rest old.state.machine.stage rests
      (λ h. rests_at new.state.machine.stage (is_broken new.state.machine.ended) (sends.idle h).leaves.stage)
      (λ h. ap (λ (x : Seen S). is_busy_at x.state.machine.stage) (sends.stopped h).1 ∙ rests)

  pub sent_committed : (p : List ℕ) (old new : Seen S) (result : Result Signalled SendRefusal) → is_busy_at old.state.machine.stage ≡ false → Sends S told tale same p old new result → old.state.machine.start ≡ old.state.machine.read → new.state.machine.start ≡ new.state.machine.read
  sent_committed p old new result rests sends committed =
      by_rest old.state.machine.stage rests
      (λ h. let a = (sends.idle h).after in a.start (λ e. cc) ∙ (committed ∙ sym (a.read (λ e. cc))))
      (λ h. ap (λ (x : Seen S). x.state.machine.start) (sends.stopped h).1 ∙ (committed ∙ sym (ap (λ (x : Seen S). x.state.machine.read) (sends.stopped h).1)))

  -- a read of a stream that can go on: what it leaves of the stream, by its answer
  pub read_stream : (old new : Seen S) (result : Result Got SockFault) (out out' : List ℕ) → IsOpen old.state.got → Reads S told tale same old new result out out' → stream_of new.state.got ≡ stream_of old.state.got ++ bytes_read result out'
  read_stream old new result out out' can r =
      by_option r.refusal
      (λ none.
      let g = r.read none in
      ap stream_of g.got
      ∙ (stream_more old.state.got g.packet can
      ∙ ap (λ (l : List ℕ). stream_of old.state.got ++ l) (sym (bytes_said (says g.packet) out) ∙ (λ i. bytes_read (sym g.answer i) (sym g.out_is i)))))
      (λ q.
      ap stream_of (r.takes.refused q.0 q.1).1
      ∙ (sym (append-nil (stream_of old.state.got)) ∙ ap (λ (x : Result Got SockFault). stream_of old.state.got ++ bytes_read x out') (sym (r.refused q.0 q.1).0)))

  pub read_closed : (old new : Seen S) (result : Result Got SockFault) (out out' : List ℕ) → IsOpen old.state.got → Reads S told tale same old new result out out' → is_closed new.state.got ≡ closes result
  read_closed old new result out out' can r =
      by_option r.refusal
      (λ none.
      let g = r.read none in
      ap is_closed g.got ∙ (closed_more old.state.got g.packet can ∙ (sym (answer_says g.packet).0 ∙ ap closes (sym g.answer))))
      (λ q. ap is_closed (r.takes.refused q.0 q.1).1 ∙ (can.unclosed ∙ ap closes (sym (r.refused q.0 q.1).0)))

  pub read_fault : (old new : Seen S) (result : Result Got SockFault) (out out' : List ℕ) → IsOpen old.state.got → Reads S told tale same old new result out out' → fault_in new.state.got ≡ breaks_off result
  read_fault old new result out out' can r =
      by_option r.refusal
      (λ none.
      let g = r.read none in
      ap fault_in g.got ∙ (fault_more old.state.got g.packet can ∙ (sym (answer_says g.packet).1 ∙ ap breaks_off (sym g.answer))))
      (λ q. ap fault_in (r.takes.refused q.0 q.1).1 ∙ (can.whole ∙ ap breaks_off (sym (r.refused q.0 q.1).0)))

  -- and what the end keeps beside its lists
  refused_rests : (old new : Seen S) (q : TakeRefusal) → is_busy_at old.state.machine.stage ≡ false → Takes S told tale same old new (Some q) → old.state.machine.start ≡ old.state.machine.read → (is_busy_at new.state.machine.stage ≡ false) × (new.state.machine.start ≡ new.state.machine.read)
  refused_rests old new q rests takes committed =
      by_rest old.state.machine.stage rests
      (λ h.
      let t = takes.idle h in
      let m = new.state.machine in
      let no = (untook (is_took m.ended) q (take_refusal m.ended m) t.answer).0 in
      let read : m.read ≡ old.state.machine.read = t.leaves.read ∙ ap (λ (b : Bool). cond b (ahead old.state.machine.cells old.state.machine.read (m.len + 1)) old.state.machine.read) no in
      (rests_at m.stage (is_broken m.ended) t.leaves.stage, t.after.start (λ e. cc) ∙ (committed ∙ sym read)))
      (λ h.
      let is = (takes.stopped h).1 in
      (ap (λ (x : Seen S). is_busy_at x.state.machine.stage) is ∙ rests, ap (λ (x : Seen S). x.state.machine.start) is ∙ (committed ∙ sym (ap (λ (x : Seen S). x.state.machine.read) is))))

  pub read_rests : (old new : Seen S) (refusal : Option TakeRefusal) → is_busy_at old.state.machine.stage ≡ false → TakesAway S told tale same old new refusal → old.state.machine.start ≡ old.state.machine.read → (is_busy_at new.state.machine.stage ≡ false) × (new.state.machine.start ≡ new.state.machine.read)
  read_rests old new (Some q) rests away committed =
      let is = (away.refused q refl).0 in
      let b = refused_rests old away.between q rests away.takes committed in
      subst (λ (x : Seen S). (is_busy_at x.state.machine.stage ≡ false) × (x.state.machine.start ≡ x.state.machine.read)) (sym is) b
  read_rests old new None rests away committed =
      let a = (away.commits refl).after in
      (ap is_busy_at (a.idle (λ e. cc) (λ e. cc)), a.committed refl)

  pub read_kept : (old new : Seen S) (refusal : Option TakeRefusal) → TakesAway S told tale same old new refusal → (new.state.sent ≡ old.state.sent) × (new.state.machine.cells ≡ old.state.machine.cells)
  read_kept old new (Some q) away =
      let is = (away.refused q refl).0 in
      let t = away.takes in
      (ap (λ (x : Seen S). x.state.sent) is ∙ t.kept.0, ap (λ (x : Seen S). x.state.machine.cells) is ∙ t.cells)
  read_kept old new None away =
      let a = away.commits refl in
      let t = away.takes in
      (a.kept.sent ∙ t.kept.0, a.leaves.cells ∙ t.cells)

  -- the end of a socket stands over the end of the channel behind a read
  pub read_stands : (old new : Seen S) (result : Result Got SockFault) (out out' : List ℕ) (shut ended : Bool) (fault : Option SockFault) → IsSock old shut ended fault → IsOpen old.state.got → Reads S told tale same old new result out out' → new.state.pages.count ≡ 0
      → IsSock new shut (closes result) (breaks_off result)
  read_stands old new result out out' shut ended fault s can r bare =
      let kept = read_kept old new r.refusal r.takes in
      let rests = read_rests old new r.refusal s.rests r.takes s.committed in record {
        shut_is = s.shut_is ∙ ap is_closed (sym kept.0);
        ended_is = sym (read_closed old new result out out' can r);
        fault_is = sym (read_fault old new result out out' can r);
        whole = ap fault_in kept.0 ∙ s.whole;
        rests = rests.0;
        committed = rests.1;
        size = omega (arith, s.size, kept.1);
        bare = bare;
      }

  -- a packet went, or it didn't
  by_sent : {A : Type 0} (p : List ℕ) (old new : Seen S) (result : Result Signalled SendRefusal) → is_busy_at old.state.machine.stage ≡ false → Sends S told tale same p old new result → (Went p old new result → A) → (Stayed old new result → A) → A
  by_sent {A} p old new result rests sends f g =
      by_rest old.state.machine.stage rests
      (λ h. let t = sends.idle h in by_how new.state.machine.ended refl t.call t.answer t.sent)
      (λ h. let t = sends.stopped h in g (StoppedSend (why_of old.state.machine), t.0, ap (λ (x : Seen S). x.state.sent) t.1, ap (λ (x : Seen S). x.spare_sent) t.1))
    where
      by_how : (how : Ending) → new.state.machine.ended ≡ how → call_by how ≡ Send → result ≡ send_answer how new.state.machine → new.state.sent ≡ cond (is_sent how) (old.state.sent ++ p ∷ []) old.state.sent → A
      by_how SentQuiet at call answer sent = f (Quiet, answer, sent)
      by_how SentRaised at call answer sent = f (Raised, answer, sent)
      by_how Full at call answer sent = g (SendFull (free_bytes new.state.machine) (need_bytes new.state.machine), answer, sent, sends.room.same (ap is_sent at))
      by_how BadPeer at call answer sent = g (SendBadPeer new.state.machine.value, answer, sent, sends.room.same (ap is_sent at))
      by_how _ at call answer sent = absurd (cc)

  pub sent_stands : (p : List ℕ) (old new : Seen S) (result : Result Signalled SendRefusal) (shut shut' ended : Bool) (fault : Option SockFault) → IsSock old shut ended fault → Sends S told tale same p old new result → new.state.pages.count ≡ 0
      → shut' ≡ is_closed new.state.sent → fault_in new.state.sent ≡ None → IsSock new shut' ended fault
  sent_stands p old new result shut shut' ended fault s sends bare closed whole = record {
    shut_is = closed;
    ended_is = s.ended_is ∙ ap is_closed (sym sends.kept.0);
    fault_is = s.fault_is ∙ ap fault_in (sym sends.kept.0);
    whole = whole;
    rests = sent_rests p old new result s.rests sends;
    committed = sent_committed p old new result s.rests sends s.committed;
    size = omega (arith, s.size, sends.cells);
    bare = bare;
  }

  -- what a send of a packet that says so leaves of a stream that wasn't closed
  pub sent_whole : (p : List ℕ) (old new : Seen S) (result : Result Signalled SendRefusal) → is_busy_at old.state.machine.stage ≡ false → Sends S told tale same p old new result → IsOpen old.state.sent → fault_by (says p) None ≡ None → fault_in new.state.sent ≡ None
  sent_whole p old new result rests sends can none =
      by_sent p old new result rests sends
      (λ t. ap fault_in t.2 ∙ (fault_more old.state.sent p can ∙ none))
      (λ t. ap fault_in t.2 ∙ can.whole)

  pub sent_open : (p bytes : List ℕ) (old new : Seen S) (result : Result Signalled SendRefusal) → is_busy_at old.state.machine.stage ≡ false → Sends S told tale same p old new result → IsOpen old.state.sent → says p ≡ Data bytes → is_closed new.state.sent ≡ false
  sent_open p bytes old new result rests sends can is =
      by_sent p old new result rests sends
      (λ t. ap is_closed t.2 ∙ (closed_more old.state.sent p can ∙ ap (λ (s : Said). closed_by s false) is))
      (λ t. ap is_closed t.2 ∙ can.unclosed)

  pub sent_stream : (p bytes : List ℕ) (old new : Seen S) (result : Result Signalled SendRefusal) → is_busy_at old.state.machine.stage ≡ false → Sends S told tale same p old new result → IsOpen old.state.sent → says p ≡ Data bytes → OnOk result (stream_of new.state.sent ≡ stream_of old.state.sent ++ bytes)
  sent_stream p bytes old new result rests sends can is =
      by_sent p old new result rests sends
      (λ t.
      subst (λ (r : Result Signalled SendRefusal). OnOk r (stream_of new.state.sent ≡ stream_of old.state.sent ++ bytes)) (sym t.1)
      (ap stream_of t.2 ∙ (stream_more old.state.sent p can ∙ (ap (λ (s : Said). stream_of old.state.sent ++ data_then s []) is ∙ ap (λ (l : List ℕ). stream_of old.state.sent ++ l) (append-nil bytes)))))
      (λ t. subst (λ (r : Result Signalled SendRefusal). OnOk r (stream_of new.state.sent ≡ stream_of old.state.sent ++ bytes)) (sym t.1) tt)

  -- and of one that ends the direction
  pub ended_stream : (p : List ℕ) (old new : Seen S) (result : Result Signalled SendRefusal) → is_busy_at old.state.machine.stage ≡ false → Sends S told tale same p old new result → IsOpen old.state.sent → says p ≡ Close → stream_of new.state.sent ≡ stream_of old.state.sent
  ended_stream p old new result rests sends can is =
      by_sent p old new result rests sends
      (λ t. ap stream_of t.2 ∙ (stream_more old.state.sent p can ∙ (ap (λ (s : Said). stream_of old.state.sent ++ data_then s []) is ∙ append-nil (stream_of old.state.sent))))
      (λ t. ap stream_of t.2)

  pub ended_closed : (p : List ℕ) (old new : Seen S) (result : Result Signalled SendRefusal) → is_busy_at old.state.machine.stage ≡ false → Sends S told tale same p old new result → IsOpen old.state.sent → says p ≡ Close → is_closed new.state.sent ≡ is_ok result
  ended_closed p old new result rests sends can is =
      by_sent p old new result rests sends
      (λ t. ap is_closed t.2 ∙ (closed_more old.state.sent p can ∙ (ap (λ (s : Said). closed_by s false) is ∙ ap is_ok (sym t.1))))
      (λ t. ap is_closed t.2 ∙ (can.unclosed ∙ ap is_ok (sym t.1)))

  pub sent_ok : (p : List ℕ) (old new : Seen S) (result : Result Signalled SendRefusal) → is_busy_at old.state.machine.stage ≡ false → Sends S told tale same p old new result → OnOk result (new.state.sent ≡ old.state.sent ++ p ∷ [])
  sent_ok p old new result rests sends =
      by_sent p old new result rests sends
      (λ t. subst (λ (r : Result Signalled SendRefusal). OnOk r (new.state.sent ≡ old.state.sent ++ p ∷ [])) (sym t.1) t.2)
      (λ t. subst (λ (r : Result Signalled SendRefusal). OnOk r (new.state.sent ≡ old.state.sent ++ p ∷ [])) (sym t.1) tt)

  pub sent_err : (p : List ℕ) (old new : Seen S) (result : Result Signalled SendRefusal) → is_busy_at old.state.machine.stage ≡ false → Sends S told tale same p old new result → OnErr result ((new.state.sent ≡ old.state.sent) × (new.spare_sent ≡ old.spare_sent))
  sent_err p old new result rests sends =
      by_sent p old new result rests sends
      (λ t. subst (λ (r : Result Signalled SendRefusal). OnErr r ((new.state.sent ≡ old.state.sent) × (new.spare_sent ≡ old.spare_sent))) (sym t.1) tt)
      (λ t. subst (λ (r : Result Signalled SendRefusal). OnErr r ((new.state.sent ≡ old.state.sent) × (new.spare_sent ≡ old.spare_sent))) (sym t.1) (t.2, t.3))
