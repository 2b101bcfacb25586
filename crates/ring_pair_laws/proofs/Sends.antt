-- The steps of a send keep both rings.
use Rattle.std.proofs.Common.{◌≡◌, ◌≢◌, ℕ, ◌+◌, ◌-◌, ◌*◌, ◌%◌, ◌<◌, ◌≤◌, Bool, true, false, cond, ltb, leb, List, [], ◌∷◌, ◌++◌, get_or, refl, sym, ap, ◌∙◌, subst, arith, append_assoc, inl, inr, below_more}
use native.Mathlib.Decide.{dec_lt}
use mathlib.Core.Logic.{dite}
use Rattle.std.proofs.lemmas.List.{get_or_append_left}
use Rattle.std.proofs.lemmas.List.Elements.{All-append, All-cons, All-nil}
use Rattle.std.proofs.Math.Seq.{get_or-append_seam}
use Rattle.std.proofs.lemmas.Bool.Decides.{nat_tests}
use Rattle.channel_trace.specs.declared.event.Event.TheVariants.{Sent}
use Rattle.ring_machine.specs.declared.machine.Stage.TheVariants.{SendRead, SendCell, SendWrite}
use Rattle.ring_machine.specs.declared.machine.EndMachine.{EndMachine}
use Rattle.ring_machine.specs.declared.state.EndState.{EndState}
use Rattle.ring_machine.specs.Places.{ahead, free, trailer, is_index, cell_of}
use Rattle.ring_machine.specs.States.{IsPacket, after}
use Rattle.ring_machine.proofs.Sound.{at_cond}
use Rattle.ring_pair_laws.specs.Ring.{size, stream, Sending, Sending_at, Taking_at}
use Rattle.ring_pair_laws.proofs.Turns.{below, ahead_mod, apart, index_here, cell_here}
use Rattle.ring_pair_laws.proofs.Streams.{size-one, stream_before, stream_in}
use Rattle.ring_pair_laws.proofs.Frame.{Near, Moves, Ready, ring_as, producer_same, consumer_same, taking_more, no_rest, past_of, past_kept, moved_to, marks_of, indices_of, goes_on, at_stage, unmarked, inn_stays, silent, back_got, sent_in, free_is}

module _ (fo fi : ℕ → ℕ) (mark pmark : ℕ) (e p : EndState) where
  -- load read for a send
  pub send_read : Ready fo fi mark pmark (at_stage SendRead e) p → (v : ℕ) → v ≡ fo 1 → Moves e.machine.cells fo fi mark (at_stage SendRead e) p (after (at_stage SendRead e) v)
  send_read r v is = rw (is ∙ r.out.read_word) (by_room (leb (free e.machine.cells p.machine.start e.machine.write) (e.machine.len + 1)) refl)
    where
      small : p.machine.start < e.machine.cells
      small = let b = below e.machine.cells (size r.out.given_back) (omega (arith, r.sound.cells)) in omega (arith, r.out.start)

      inside : is_index e.machine.cells (8 * p.machine.start) ≡ true
      inside = index_here e.machine.cells p.machine.start r.sound.cells.1 small

      cell_is : cell_of (8 * p.machine.start) ≡ p.machine.start
      cell_is = cell_here e.machine.cells p.machine.start r.sound.cells.1 small

      by_room : (b : Bool) → leb (free e.machine.cells p.machine.start e.machine.write) (e.machine.len + 1) ≡ b → Moves e.machine.cells fo fi mark (at_stage SendRead e) p (after (at_stage SendRead e) (8 * p.machine.start))
      by_room true h =
          let most : free e.machine.cells p.machine.start e.machine.write ≤ e.machine.len + 1 = grind (arith, nat_tests) in
          rw (inside, cell_is, h) (record {
            out = producer_same e.machine.cells fo _ _ p r.out refl refl tt;
            inn = consumer_same e.machine.cells fi p _ _ r.inn refl refl refl tt;
            past = past_kept mark _ r.past _ _ _ _ refl;
            told = inl refl;
            rests = record { empty = λ a b. absurd (cc); full = λ a b. (omega (arith, most, r.out.sending.1), refl, sym r.out.sending.1) };
            goes = λ i. cc;
          })
      by_room false h =
          let few : e.machine.len + 1 < free e.machine.cells p.machine.start e.machine.write = grind (arith, nat_tests) in
          let full = free_is e.machine.cells fo (at_stage SendRead e) p r.out in
          let longer = back_got e.machine.cells fo (at_stage SendRead e) p r.out in
          rw (inside, cell_is, h) (silent fo fi mark pmark (at_stage SendRead e) p r fo fi _ _ _ _
          (producer_same e.machine.cells fo _ _ p r.out refl refl (record { packet = r.out.sending.0; whole = r.out.sending.1; known = size r.out.given_back; before = omega arith; seen_is = r.out.start; room = omega (arith, few, full, longer, sent_in e.machine.cells fo (at_stage SendRead e) p r.out); stored = λ j k. absurd (omega arith) }))
          (consumer_same e.machine.cells fi p _ _ r.inn refl refl refl tt) refl refl)

  -- store a cell of the packet, or its trailer
  pub store_cell : Ready fo fi mark pmark (at_stage SendCell e) p → (fo' fi' : ℕ → ℕ) (v : ℕ) → Near e.machine.cells fi fi'
      → fo' (5 + ahead e.machine.cells e.machine.write e.machine.done) ≡ cond (ltb e.machine.done e.machine.len) (get_or e.packet e.machine.done 0) (trailer e.machine.write)
      → ((k : ℕ) → k ≢ 5 + ahead e.machine.cells e.machine.write e.machine.done → fo' k ≡ fo k) → Moves e.machine.cells fo' fi' mark (at_stage SendCell e) p (after (at_stage SendCell e) v)
  store_cell r fo' fi' v near here else = by_kind (ltb e.machine.done e.machine.len) refl
    where
      it : Sending e.machine.cells fo (size e.sent) (size r.out.given_back) e.machine.done e.machine.len e.machine.seen e.packet
      it = r.out.sending

      at : ahead e.machine.cells e.machine.write e.machine.done ≡ (size e.sent + e.machine.done) % e.machine.cells
      at = ap (λ (n : ℕ). ahead e.machine.cells n e.machine.done) r.out.write ∙ ahead_mod e.machine.cells (size e.sent) e.machine.done (omega (arith, r.sound.done, r.sound.len))

      kept : (k : ℕ) → size r.out.given_back ≤ k → k < size e.sent + e.machine.done → fo' (5 + k % e.machine.cells) ≡ fo (5 + k % e.machine.cells)
      kept k lo hi = else (5 + k % e.machine.cells) (λ n. apart e.machine.cells k (size e.sent + e.machine.done) hi (omega (arith, it.room, it.before, r.sound.done)) (omega (arith, at)))

      longer : size r.out.given_back ≤ size e.sent
      longer = omega (arith, back_got e.machine.cells fo (at_stage SendCell e) p r.out, sent_in e.machine.cells fo (at_stage SendCell e) p r.out)

      all : ltb e.machine.done e.machine.len ≡ false → e.machine.done ≡ e.machine.len
      all h = let d = r.sound.done in grind (arith, nat_tests)

      word : cond (ltb e.machine.done e.machine.len) (get_or e.packet e.machine.done 0) (trailer e.machine.write) ≡ get_or (e.packet ++ trailer (size e.sent % e.machine.cells) ∷ []) e.machine.done 0
      word =
          at_cond (λ (w : ℕ). w ≡ get_or (e.packet ++ trailer (size e.sent % e.machine.cells) ∷ []) e.machine.done 0) (ltb e.machine.done e.machine.len) _ _
          (λ t. sym (get_or_append_left e.packet (trailer (size e.sent % e.machine.cells) ∷ []) 0 e.machine.done (let more : e.machine.done < e.machine.len = grind (arith, nat_tests) in omega (arith, it.whole))))
          (λ t. ap trailer r.out.write ∙ sym (ap (λ (n : ℕ). get_or (e.packet ++ trailer (size e.sent % e.machine.cells) ∷ []) n 0) (all t ∙ sym it.whole) ∙ get_or-append_seam e.packet (trailer (size e.sent % e.machine.cells)) [] 0))

      stored : (j : ℕ) → j < e.machine.done + 1 → fo' (5 + (size e.sent + j) % e.machine.cells) ≡ get_or (e.packet ++ trailer (size e.sent % e.machine.cells) ∷ []) j 0
      stored = below_more (λ (j : ℕ). fo' (5 + (size e.sent + j) % e.machine.cells) ≡ get_or (e.packet ++ trailer (size e.sent % e.machine.cells) ∷ []) j 0) e.machine.done
          (λ j h. kept (size e.sent + j) (omega (arith, longer)) (omega arith) ∙ it.stored j h) (ap (λ (n : ℕ). fo' (5 + n)) (sym at) ∙ (here ∙ word))

      leaves : (m : EndMachine) (q : List ℕ) → indices_of m ≡ indices_of e.machine → marks_of m ≡ marks_of (at_stage SendCell e).machine → goes_on m.stage m.ended ≡ true
          → Sending_at m.stage e.machine.cells fo' (size e.sent) (size r.out.given_back) (moved_to e m q [] e.pages) → Taking_at m.stage e.machine.cells (moved_to e m q [] e.pages) r.inn.waiting → Moves e.machine.cells fo' fi' mark (at_stage SendCell e) p (moved_to e m q [] e.pages)
      leaves m q same marks goes sending taking =
          silent fo fi mark pmark (at_stage SendCell e) p r fo' fi' m q [] e.pages
          (ring_as e.machine.cells fo fo' _ _ p p r.out refl (ap (λ (i : ℕ × ℕ × ℕ). i.0) same) refl refl refl (else 0 (λ n. omega arith)) (else 1 (λ n. omega arith)) (λ k lo hi. kept k lo (omega arith)) sending r.out.taking)
          (inn_stays fo fi mark pmark (at_stage SendCell e) p r fi' near _ refl (ap (λ (i : ℕ × ℕ × ℕ). i.1) same) (ap (λ (i : ℕ × ℕ × ℕ). i.2) same) taking) marks goes

      by_kind : (b : Bool) → ltb e.machine.done e.machine.len ≡ b → Moves e.machine.cells fo' fi' mark (at_stage SendCell e) p (after (at_stage SendCell e) v)
      by_kind true h = rw h (leaves _ _ refl refl refl (record { packet = it.packet; whole = it.whole; known = it.known; before = it.before; seen_is = it.seen_is; room = it.room; stored = stored }) tt)
      by_kind false h = rw h (leaves _ _ refl refl refl (record { packet = it.packet; whole = it.whole; known = it.known; before = it.before; seen_is = it.seen_is; room = it.room; stored = λ j k. stored j (omega (arith, all h)) }) tt)

  -- store write: the packet is sent
  pub store_write : Ready fo fi mark pmark (at_stage SendWrite e) p → (fo' fi' : ℕ → ℕ) (v : ℕ) → Near e.machine.cells fi fi'
      → fo' 0 ≡ 8 * ahead e.machine.cells e.machine.write (e.machine.len + 1) → ((k : ℕ) → k ≢ 0 → fo' k ≡ fo k) → Moves e.machine.cells fo' fi' mark (at_stage SendWrite e) p (after (at_stage SendWrite e) v)
  store_write r fo' fi' v near here else = record {
    out = record {
      given_back = r.out.given_back;
      since = r.out.since;
      waiting = r.out.waiting ++ e.packet ∷ [];
      got_is = r.out.got_is;
      sent_is = ap (λ (x : List (List ℕ)). x ++ e.packet ∷ []) r.out.sent_is ∙ append_assoc p.got r.out.waiting (e.packet ∷ []);
      packets = All-append IsPacket e.sent (e.packet ∷ []) r.out.packets (All-cons IsPacket e.packet [] it.packet (All-nil IsPacket));
      room = omega (arith, it.room, it.before, it.whole, size-one e.sent e.packet);
      write = at;
      read = r.out.read;
      start = r.out.start;
      write_word = here;
      read_word = else 1 (λ n. omega arith) ∙ r.out.read_word;
      cells = λ k lo hi. dite (dec_lt k (size e.sent)) (λ h. else (5 + k % e.machine.cells) (λ n. omega arith) ∙ (r.out.cells k lo h ∙ sym (stream_before e.machine.cells e.sent (e.packet ∷ []) k h))) (λ n. last k (omega arith) hi);
      sending = tt;
      taking = taking_more p.machine.stage e.machine.cells p r.out.waiting e.packet r.out.taking;
    };
    inn = inn_stays fo fi mark pmark (at_stage SendWrite e) p r fi' near _ refl refl refl tt;
    past = past_of mark _ (ap (λ (x : List (List ℕ)). x ++ e.packet ∷ []) r.past.sent) r.past.got (λ j. (r.past.marked j, r.past.seen j, r.past.drained j)) r.past.word;
    told = inr (Sent e.packet, refl, unmarked fo fi mark pmark (at_stage SendWrite e) p r refl refl);
    rests = no_rest _ _ p refl;
    goes = λ i. cc;
  }
    where
      it : Sending e.machine.cells fo (size e.sent) (size r.out.given_back) (e.machine.len + 1) e.machine.len e.machine.seen e.packet
      it = r.out.sending

      at : ahead e.machine.cells e.machine.write (e.machine.len + 1) ≡ size (e.sent ++ e.packet ∷ []) % e.machine.cells
      at = ap (λ (n : ℕ). ahead e.machine.cells n (e.machine.len + 1)) r.out.write ∙ (ahead_mod e.machine.cells (size e.sent) (e.machine.len + 1) r.sound.len ∙ ap (λ (n : ℕ). n % e.machine.cells) (omega (arith, size-one e.sent e.packet, it.whole)))

      last : (k : ℕ) → size e.sent ≤ k → k < size (e.sent ++ e.packet ∷ []) → fo' (5 + k % e.machine.cells) ≡ get_or (stream e.machine.cells 0 (e.sent ++ e.packet ∷ [])) k 0
      last k lo hi =
          let j : ℕ = k - size e.sent in
          let is : size e.sent + j ≡ k = omega arith in
          let few : j < e.machine.len + 1 = omega (arith, size-one e.sent e.packet, it.whole) in
          subst (λ (n : ℕ). fo' (5 + n % e.machine.cells) ≡ get_or (stream e.machine.cells 0 (e.sent ++ e.packet ∷ [])) n 0) is
          (else (5 + (size e.sent + j) % e.machine.cells) (λ n. omega arith) ∙ (it.stored j few ∙ sym (stream_in e.machine.cells e.sent e.packet [] j (omega (arith, it.whole)))))
