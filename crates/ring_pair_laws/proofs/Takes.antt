-- The steps of a take, and the store of a commit, keep both rings.
use Rattle.std.proofs.Common.{◌≡◌, ◌≢◌, ℕ, ◌+◌, ◌-◌, ◌*◌, ◌%◌, ◌<◌, ◌≤◌, Bool, true, false, ◌||◌, ◌&&◌, ltb, leb, eqb, List, [], ◌∷◌, ◌++◌, length, get_or, take, refl, sym, ap, ◌∙◌, subst, arith, append_assoc, append-nil, inr, add-zero}
use Rattle.std.specs.List.{All}
use Rattle.std.proofs.lemmas.List.{take_more}
use Rattle.std.proofs.Math.Bool.{or_comm}
use Rattle.std.proofs.Math.Seq.{take-length}
use Rattle.std.proofs.lemmas.Bool.Decides.{nat_tests}
use Rattle.channel_trace.specs.declared.event.Event.TheVariants.{Got, Empty as EmptyEvent}
use Rattle.ring_machine.specs.declared.machine.Stage.TheVariants.{TakeWrite, TakeFirst, TakeCell, CommitRead}
use Rattle.ring_machine.specs.declared.state.EndState.{EndState}
use Rattle.ring_machine.specs.Places.{ahead, used, is_index, cell_of, len8_of, offset8_of}
use Rattle.ring_machine.specs.States.{IsPacket, after}
use Rattle.ring_pair_laws.specs.Ring.{size, stream, Seeing, Copying}
use Rattle.ring_pair_laws.proofs.Turns.{below, ahead_mod, used_mod, index_here, cell_here}
use Rattle.ring_pair_laws.proofs.Streams.{size-append, size-one, word_in}
use Rattle.ring_pair_laws.proofs.Frame.{Near, Moves, Ready, producer_same, consumer_same, sending_more, no_rest, past_of, first_packet, at_stage, wide, unmarked, out_stays, silent, back_got, sent_in}

module _ (fo fi : ℕ → ℕ) (mark pmark : ℕ) (e p : EndState) (r : Ready fo fi mark pmark e p) where
  longer : size r.inn.given_back ≤ size e.got
  longer = back_got e.machine.cells fi p e r.inn

  sent_is : size p.sent ≡ size e.got + size r.inn.waiting
  sent_is = sent_in e.machine.cells fi p e r.inn

  taken : (k : ℕ) → k < e.machine.cells → ahead e.machine.cells e.machine.read k ≡ (size e.got + k) % e.machine.cells
  taken k h = ap (λ (n : ℕ). ahead e.machine.cells n k) r.inn.read ∙ ahead_mod e.machine.cells (size e.got) k h

  -- equal indices mean that nothing is waiting
  empty_is : p.machine.write ≡ e.machine.read → r.inn.waiting ≡ []
  empty_is h = none r.inn.waiting refl
    where
      used_is : used e.machine.cells e.machine.read p.machine.write ≡ size p.sent - size e.got
      used_is = (λ j. used e.machine.cells (r.inn.read j) (r.inn.write j)) ∙ used_mod e.machine.cells (size e.got) (size p.sent) (omega (arith, sent_is)) (omega (arith, r.inn.room, longer))

      used_none : used e.machine.cells e.machine.read p.machine.write ≡ 0
      used_none = ap (used e.machine.cells e.machine.read) h ∙ grind (arith, nat_tests)

      none : (ws : List (List ℕ)) → r.inn.waiting ≡ ws → ws ≡ []
      none [] w = refl
      none (x ∷ xs) w = absurd (omega (arith, used_is, used_none, sent_is, ap size w))

  -- a word of the first waiting packet
  waiting_word : (w : List ℕ) (ws : List (List ℕ)) (j : ℕ) → r.inn.waiting ≡ w ∷ ws → j < length w → fi (5 + (size e.got + j) % e.machine.cells) ≡ get_or w j 0
  waiting_word w ws j is h =
      let sent : p.sent ≡ e.got ++ w ∷ ws = r.inn.sent_is ∙ ap (λ (x : List (List ℕ)). e.got ++ x) is in
      r.inn.cells (size e.got + j) (omega (arith, longer)) (omega (arith, sent_is, ap size is))
      ∙ (ap (λ (x : List (List ℕ)). get_or (stream e.machine.cells 0 x) (size e.got + j) 0) sent ∙ word_in e.machine.cells e.got w ws j h)

module _ (fo fi : ℕ → ℕ) (mark pmark : ℕ) (e p : EndState) where
  -- load write for a take
  pub take_write : Ready fo fi mark pmark (at_stage TakeWrite e) p → (v : ℕ) → v ≡ fi 0 → Moves e.machine.cells fo fi mark (at_stage TakeWrite e) p (after (at_stage TakeWrite e) v)
  take_write r v is = rw (is ∙ r.inn.write_word) (by_end (eqb p.machine.write e.machine.read) refl)
    where
      small : p.machine.write < e.machine.cells
      small = let b = below e.machine.cells (size p.sent) (omega (arith, r.sound.cells)) in omega (arith, r.inn.write)

      inside : is_index e.machine.cells (8 * p.machine.write) ≡ true
      inside = index_here e.machine.cells p.machine.write r.sound.cells.1 small

      cell_is : cell_of (8 * p.machine.write) ≡ p.machine.write
      cell_is = cell_here e.machine.cells p.machine.write r.sound.cells.1 small

      seeing : (ws : List (List ℕ)) → r.inn.waiting ≡ ws → eqb p.machine.write e.machine.read ≡ false → Seeing e.machine.cells (record e { machine = record e.machine { stage = TakeFirst; seen = p.machine.write; done = 0 }; copied = [] }) r.inn.waiting
      seeing [] w h =
          let same : size p.sent ≡ size e.got = omega (arith, sent_is _ _ _ _ _ _ r, ap size w) in
          let here : p.machine.write ≡ e.machine.read = r.inn.write ∙ (ap (λ (n : ℕ). n % e.machine.cells) same ∙ sym r.inn.read) in
          absurd (grind (arith, nat_tests))
      seeing (x ∷ xs) w h = record { first = x; mid = xs; rest = []; waiting_is = w ∙ sym (append-nil (x ∷ xs)); seen = r.inn.write ∙ ap (λ (l : List (List ℕ)). size l % e.machine.cells) (r.inn.sent_is ∙ ap (λ (l : List (List ℕ)). e.got ++ l) w) }

      by_end : (b : Bool) → eqb p.machine.write e.machine.read ≡ b → Moves e.machine.cells fo fi mark (at_stage TakeWrite e) p (after (at_stage TakeWrite e) (8 * p.machine.write))
      by_end true h =
          let here : p.machine.write ≡ e.machine.read = grind (arith, nat_tests) in
          let all : e.got ≡ p.sent = sym (r.inn.sent_is ∙ (ap (λ (l : List (List ℕ)). e.got ++ l) (empty_is _ _ _ _ _ _ r here) ∙ append-nil e.got)) in
          rw (inside, cell_is, h) (record {
            out = producer_same e.machine.cells fo _ _ p r.out refl refl tt;
            inn = consumer_same e.machine.cells fi p _ _ r.inn refl refl refl tt;
            past = past_of mark _ r.past.sent r.past.got (λ j. (r.past.marked j, r.past.seen j, ((λ i. r.past.seen i || r.past.drained i) ∙ or_comm e.machine.peer_marked e.machine.drained) j)) r.past.word;
            told = inr (EmptyEvent, refl, (unmarked _ _ _ _ _ _ r refl refl, r.past.got ∙ (all ∙ sym r.peers.sent)));
            rests = record { empty = λ a b. all; full = λ a b. absurd (cc) };
            goes = λ i. cc;
          })
      by_end false h =
          rw (inside, cell_is, h) (silent _ _ _ _ _ _ r fo fi _ _ _ _ (producer_same e.machine.cells fo _ _ p r.out refl refl tt) (consumer_same e.machine.cells fi p _ _ r.inn refl refl refl (seeing r.inn.waiting refl h)) refl refl)

  -- load the first cell
  pub take_first : Ready fo fi mark pmark (at_stage TakeFirst e) p → (v : ℕ) → v ≡ fi (5 + e.machine.read) → Moves e.machine.cells fo fi mark (at_stage TakeFirst e) p (after (at_stage TakeFirst e) v)
  take_first r v is =
      rw (long, offset) (silent _ _ _ _ _ _ r fo fi _ _ _ _ (producer_same e.machine.cells fo _ _ p r.out refl refl tt)
      (consumer_same e.machine.cells fi p _ _ r.inn refl refl refl (record { first = it.first; mid = it.mid; rest = it.rest; waiting_is = it.waiting_is; seen = it.seen; len = len_is; copied = copied it.first (omega (arith, packet.two)) word })) refl refl)
    where
      it : Seeing e.machine.cells (at_stage TakeFirst e) r.inn.waiting
      it = r.inn.taking

      packet : IsPacket it.first
      packet = first_packet e.got it.first (it.mid ++ it.rest) (subst (All IsPacket) (r.inn.sent_is ∙ ap (λ (x : List (List ℕ)). e.got ++ x) it.waiting_is) r.inn.packets)

      word : v ≡ get_or it.first 0 0
      word = is ∙ (ap (λ (n : ℕ). fi (5 + n)) (r.inn.read ∙ ap (λ (n : ℕ). n % e.machine.cells) (sym (add-zero (size e.got)))) ∙ waiting_word _ _ _ _ _ _ r it.first (it.mid ++ it.rest) 0 it.waiting_is (omega (arith, packet.two)))

      len_is : len8_of v ≡ length it.first
      len_is = ap len8_of word ∙ packet.length_is

      copied : (w : List ℕ) → 0 < length w → v ≡ get_or w 0 0 → v ∷ [] ≡ take 1 w
      copied [] h q = absurd (omega arith)
      copied (x ∷ xs) h q = ap (λ (n : ℕ). n ∷ []) q

      used_is : used e.machine.cells e.machine.read e.machine.seen ≡ length it.first + 1 + size it.mid
      used_is =
          let end = size-append e.got (it.first ∷ it.mid) in
          let all = sent_is _ _ _ _ _ _ r in
          let parts : size r.inn.waiting ≡ length it.first + 1 + (size it.mid + size it.rest) = omega (arith, ap size it.waiting_is, size-append it.mid it.rest) in
          (λ j. used e.machine.cells (r.inn.read j) (it.seen j))
          ∙ (used_mod e.machine.cells (size e.got) (size (e.got ++ it.first ∷ it.mid)) (omega (arith, end)) (omega (arith, end, all, parts, r.inn.room, longer _ _ _ _ _ _ r)) ∙ omega (arith, end))

      long : (leb 2 (len8_of v) && ltb (len8_of v) (used e.machine.cells e.machine.read e.machine.seen)) ≡ true
      long = let two = packet.two in grind (arith, nat_tests, used_is, len_is)

      offset : (leb 2 (offset8_of v) && leb (offset8_of v) (len8_of v)) ≡ true
      offset = let o : offset8_of v ≡ offset8_of (get_or it.first 0 0) = ap offset8_of word in let at = packet.offset in grind (arith, nat_tests, len_is)

  -- load a further cell
  pub take_cell : Ready fo fi mark pmark (at_stage TakeCell e) p → (v : ℕ) → v ≡ fi (5 + ahead e.machine.cells e.machine.read e.machine.done) → Moves e.machine.cells fo fi mark (at_stage TakeCell e) p (after (at_stage TakeCell e) v)
  take_cell r v is = by_end (ltb (e.machine.done + 1) e.machine.len) refl
    where
      it : Copying e.machine.cells (at_stage TakeCell e) r.inn.waiting
      it = r.inn.taking

      busy : e.machine.done < length it.first
      busy = omega (arith, (r.sound.copying refl).1, it.len)

      word : v ≡ get_or it.first e.machine.done 0
      word = is ∙ (ap (λ (n : ℕ). fi (5 + n)) (taken _ _ _ _ _ _ r e.machine.done (omega (arith, r.sound.done, r.sound.len))) ∙ waiting_word _ _ _ _ _ _ r it.first (it.mid ++ it.rest) e.machine.done it.waiting_is busy)

      copied : e.copied ++ v ∷ [] ≡ take (e.machine.done + 1) it.first
      copied = ap (λ (x : List ℕ). x ++ v ∷ []) it.copied ∙ (ap (λ (n : ℕ). take e.machine.done it.first ++ n ∷ []) word ∙ sym (take_more it.first e.machine.done 0 busy))

      by_end : (b : Bool) → ltb (e.machine.done + 1) e.machine.len ≡ b → Moves e.machine.cells fo fi mark (at_stage TakeCell e) p (after (at_stage TakeCell e) v)
      by_end true h =
          rw h (silent _ _ _ _ _ _ r fo fi _ _ _ _ (producer_same e.machine.cells fo _ _ p r.out refl refl tt)
          (consumer_same e.machine.cells fi p _ _ r.inn refl refl refl (record { first = it.first; mid = it.mid; rest = it.rest; waiting_is = it.waiting_is; seen = it.seen; len = it.len; copied = copied })) refl refl)
      by_end false h =
          let all : e.machine.done + 1 ≡ e.machine.len = let b = (r.sound.copying refl).1 in grind (arith, nat_tests) in
          let whole : e.copied ++ v ∷ [] ≡ it.first = copied ∙ (ap (λ (n : ℕ). take n it.first) (all ∙ it.len) ∙ take-length it.first) in
          let sent : p.sent ≡ (e.got ++ it.first ∷ []) ++ (it.mid ++ it.rest) = r.inn.sent_is ∙ (ap (λ (x : List (List ℕ)). e.got ++ x) it.waiting_is ∙ sym (append_assoc e.got (it.first ∷ []) (it.mid ++ it.rest))) in
          rw (h, whole) (record {
            out = producer_same e.machine.cells fo _ _ p r.out refl refl tt;
            inn = record {
              given_back = r.inn.given_back;
              since = r.inn.since ++ it.first ∷ [];
              waiting = it.mid ++ it.rest;
              got_is = ap (λ (x : List (List ℕ)). x ++ it.first ∷ []) r.inn.got_is ∙ append_assoc r.inn.given_back r.inn.since (it.first ∷ []);
              sent_is = sent;
              packets = r.inn.packets;
              room = r.inn.room;
              write = r.inn.write;
              read = taken _ _ _ _ _ _ r (e.machine.len + 1) r.sound.len ∙ ap (λ (n : ℕ). n % e.machine.cells) (omega (arith, size-one e.got it.first, it.len));
              start = r.inn.start;
              write_word = r.inn.write_word;
              read_word = r.inn.read_word;
              cells = r.inn.cells;
              sending = r.inn.sending;
              taking = tt;
            };
            past = past_of mark _ r.past.sent (ap (λ (x : List (List ℕ)). x ++ it.first ∷ []) r.past.got) (λ j. (r.past.marked j, r.past.seen j, r.past.drained j)) r.past.word;
            told = inr (Got it.first, refl, (unmarked _ _ _ _ _ _ r refl refl, (it.mid ++ it.rest, r.peers.sent ∙ (sent ∙ ap (λ (x : List (List ℕ)). (x ++ it.first ∷ []) ++ (it.mid ++ it.rest)) (sym r.past.got)))));
            rests = no_rest _ _ p refl;
            goes = λ i. cc;
          })

  -- store read: the cells are given back
  pub commit_read : Ready fo fi mark pmark (at_stage CommitRead e) p → (fo' fi' : ℕ → ℕ) (v : ℕ) → Near e.machine.cells fo fo' → fi' 1 ≡ 8 * e.machine.read → ((k : ℕ) → k ≢ 1 → fi' k ≡ fi k)
      → Moves e.machine.cells fo' fi' mark (at_stage CommitRead e) p (after (at_stage CommitRead e) v)
  commit_read r fo' fi' v near here else =
      let back = longer _ _ _ _ _ _ r in
      silent _ _ _ _ _ _ r fo' fi' _ _ _ _ (out_stays _ _ _ _ _ _ r fo' near _ refl refl refl)
      (record {
        given_back = e.got;
        since = [];
        waiting = r.inn.waiting;
        got_is = sym (append-nil e.got);
        sent_is = r.inn.sent_is;
        packets = r.inn.packets;
        room = omega (arith, r.inn.room, back);
        write = r.inn.write;
        read = r.inn.read;
        start = r.inn.read;
        write_word = else 0 (λ n. omega arith) ∙ r.inn.write_word;
        read_word = here;
        cells = λ k lo hi. else (5 + k % e.machine.cells) (λ n. omega arith) ∙ r.inn.cells k (omega (arith, back)) hi;
        sending = sending_more p.machine.stage e.machine.cells fi fi' (size p.sent) (size r.inn.given_back) (size e.got) p (wide _ _ _ _ _ _ r) back (λ k h. else (5 + k) (λ n. omega arith)) r.inn.sending;
        taking = tt;
      }) refl refl
