-- The cells of a ring spell the packets that it stands for, also inside a send and a take.
use Rattle.std.proofs.Common.{◌≡◌, ℕ, ◌+◌, ◌-◌, ◌*◌, ◌%◌, ◌<◌, ◌≤◌, List, [], ◌∷◌, ◌++◌, length, get_or, sym, ap, ◌∙◌, subst, arith, append_assoc, append-nil, add-zero}
use Rattle.std.proofs.lemmas.Bool.Decides.{nat_tests}
use Rattle.std.proofs.Math.Seq.{get_or-append_seam}
use Rattle.std.proofs.lemmas.List.{get_or-take}
use Rattle.ring_machine.specs.declared.place.Ring.{Ring}
use Rattle.ring_machine.specs.declared.machine.Stage.{Stage}
use Rattle.ring_machine.specs.declared.machine.Stage.TheVariants.{SendCell, SendWrite, TakeFirst, TakeCell}
use Rattle.ring_machine.specs.declared.state.EndState.{EndState}
use Rattle.ring_machine.specs.Places.{ahead, used, free, trailer, base_of}
use Rattle.ring_pair_laws.specs.Ring.{size, stream, Sending, Sending_at, Seeing, Copying, Taking_at, RingOk, ring_in}
use Rattle.ring_pair_laws.specs.Spelled.{Spells, cell_in, StandsFor, stored_at, HasRoom, HasSeen}
use Rattle.ring_pair_laws.proofs.Turns.{ahead_mod, used_mod, free_mod}
use Rattle.ring_pair_laws.proofs.Streams.{size-append, size-one, stream_in, word_in}
use Rattle.ring_pair_laws.proofs.Frame.{back_got, sent_in, free_is}

ahead_bytes : (n i k : ℕ) → ahead (8 * n) (8 * i) (8 * k) ≡ 8 * ahead n i k
ahead_bytes n i k = grind (arith, nat_tests)

module _ (n : ℕ) (ws : List ℕ) (r : Ring) (some : 0 < n) (producer consumer : EndState) (ok : RingOk n (ring_in n ws r) producer consumer) where
  cell_is : (k : ℕ) → cell_in n ws r (8 * k) ≡ ring_in n ws r (5 + k)
  cell_is k = ap (λ (j : ℕ). get_or ws j 0) (omega arith)

  -- the cell so far behind a packet's begin
  cell_at : (x k : ℕ) → k < n → cell_in n ws r (ahead (8 * n) (8 * (x % n)) (8 * k)) ≡ ring_in n ws r (5 + (x + k) % n)
  cell_at x k h = ap (cell_in n ws r) (ahead_bytes n (x % n) k ∙ ap (λ (j : ℕ). 8 * j) (ahead_mod n x k h)) ∙ cell_is ((x + k) % n)

  spelled : (xs ys zs : List (List ℕ)) → producer.sent ≡ xs ++ (ys ++ zs) → size ok.given_back ≤ size xs → Spells (8 * n) (cell_in n ws r) (8 * (size xs % n)) (8 * (size (xs ++ ys) % n)) ys
  spelled xs [] zs is back = ap (λ (l : List (List ℕ)). 8 * (size l % n)) (sym (append-nil xs))
  spelled xs (p ∷ ys) zs is back =
      let whole : size producer.sent ≡ size xs + (length p + 1 + size (ys ++ zs)) = ap size is ∙ size-append xs (p ∷ (ys ++ zs)) in
      let few : length p + 1 < n = omega (arith, ok.room) in
      let cell_of_sent : (j : ℕ) → j < length p + 1 → ring_in n ws r (5 + (size xs + j) % n) ≡ get_or (p ++ trailer (size xs % n) ∷ []) j 0 =
      λ j h. ok.cells (size xs + j) (omega arith) (omega arith) ∙ (ap (λ (l : List (List ℕ)). get_or (stream n 0 l) (size xs + j) 0) is ∙ stream_in n xs p (ys ++ zs) j h) in
      let moved : ahead (8 * n) (8 * (size xs % n)) (8 * length p + 8) ≡ 8 * (size (xs ++ p ∷ []) % n) =
      ap (ahead (8 * n) (8 * (size xs % n))) (omega arith) ∙ (ahead_bytes n (size xs % n) (length p + 1) ∙ (ap (λ (j : ℕ). 8 * j) (ahead_mod n (size xs) (length p + 1) few) ∙ ap (λ (j : ℕ). 8 * (j % n)) (sym (size-one xs p)))) in
      let rest : Spells (8 * n) (cell_in n ws r) (8 * (size (xs ++ p ∷ []) % n)) (8 * (size ((xs ++ p ∷ []) ++ ys) % n)) ys =
      spelled (xs ++ p ∷ []) ys zs (is ∙ sym (append_assoc xs (p ∷ []) (ys ++ zs))) (omega (arith, size-one xs p)) in (
        (λ j h. cell_at (size xs) j (omega arith) ∙ (ok.cells (size xs + j) (omega arith) (omega arith) ∙ (ap (λ (l : List (List ℕ)). get_or (stream n 0 l) (size xs + j) 0) is ∙ word_in n xs p (ys ++ zs) j h))),
        cell_at (size xs) (length p) (omega arith) ∙ (cell_of_sent (length p) (omega arith) ∙ (get_or-append_seam p (trailer (size xs % n)) [] 0 ∙ omega arith)),
        subst (λ (k : ℕ × ℕ). Spells (8 * n) (cell_in n ws r) k.0 k.1 ys) (λ i. (sym moved i, ap (λ (l : List (List ℕ)). 8 * (size l % n)) (append_assoc xs (p ∷ []) ys) i)) rest,
      )

  write_place : get_or ws (base_of n r) 0 ≡ ring_in n ws r 0
  write_place = ap (λ (k : ℕ). get_or ws k 0) (sym (add-zero (base_of n r)))

  all_is : producer.sent ≡ ok.given_back ++ (ok.since ++ ok.waiting)
  all_is = ok.sent_is ∙ (ap (λ (l : List (List ℕ)). l ++ ok.waiting) ok.got_is ∙ append_assoc ok.given_back ok.since ok.waiting)

  ends_at : (i j i' j' : ℕ) (l : List (List ℕ)) → i ≡ i' → j ≡ j' → Spells (8 * n) (cell_in n ws r) (8 * i') (8 * j') l → Spells (8 * n) (cell_in n ws r) (8 * i) (8 * j) l
  ends_at i j i' j' l a b = subst (λ (k : ℕ × ℕ). Spells (8 * n) (cell_in n ws r) (8 * k.0) (8 * k.1) l) (λ t. (sym a t, sym b t))

  pub stands_for : StandsFor n ws r producer consumer
  stands_for = record {
    before = ok.given_back;
    taken = ok.since;
    waiting = ok.waiting;
    got_is = ok.got_is;
    sent_is = ok.sent_is;
    write = write_place ∙ ok.write_word;
    read = ok.read_word;
    taken_cells = ends_at _ _ _ _ ok.since ok.start (ok.read ∙ ap (λ (l : List (List ℕ)). size l % n) ok.got_is) (spelled ok.given_back ok.since ok.waiting all_is (omega arith));
    waiting_cells = ends_at _ _ _ _ ok.waiting ok.read (ok.write ∙ ap (λ (l : List (List ℕ)). size l % n) ok.sent_is)
        (spelled consumer.got ok.waiting [] (ok.sent_is ∙ ap (λ (l : List (List ℕ)). consumer.got ++ l) (sym (append-nil ok.waiting))) (back_got _ _ _ _ ok));
    filled = ap (λ (k : ℕ). 8 * k) (omega (arith, size_is, used_is));
  }
    where
      size_is : size producer.sent ≡ size ok.given_back + size (ok.since ++ ok.waiting)
      size_is = ap size all_is ∙ size-append ok.given_back (ok.since ++ ok.waiting)

      used_is : used n consumer.machine.start producer.machine.write ≡ size producer.sent + 0 - size ok.given_back
      used_is = (λ j. used n (ok.start j) (ok.write j)) ∙ (used_mod n (size ok.given_back) (size producer.sent) (omega (arith, size_is)) ok.room ∙ omega arith)

  longer : size ok.given_back ≤ size producer.sent
  longer = omega (arith, back_got _ _ _ _ ok, sent_in _ _ _ _ ok)

  -- a send that has stored so many cells
  has_room : stored_at producer.machine.stage producer.machine ≤ producer.machine.len + 1
      → Sending n (ring_in n ws r) (size producer.sent) (size ok.given_back) (stored_at producer.machine.stage producer.machine) producer.machine.len producer.machine.seen producer.packet
      → HasRoom n ws r producer consumer
  has_room few s =
      let seen : free n producer.machine.seen producer.machine.write ≡ n - (size producer.sent - s.known) = (λ j. free n (s.seen_is j) (ok.write j)) ∙ free_mod n s.known (size producer.sent) (omega (arith, s.before, longer)) (omega (arith, s.room)) in
      let now = free_is _ _ _ _ ok in
      record {
        packet = s.packet;
        room = omega (arith, seen, s.room, s.whole, s.before, longer);
        least = omega (arith, seen, now, s.before, longer, s.room);
        stored = λ j h. ap (λ (k : ℕ). cell_in n ws r (ahead (8 * n) (8 * k) (8 * j))) ok.write
            ∙ (cell_at (size producer.sent) j (omega (arith, few, s.room, s.before, longer)) ∙ (s.stored j h ∙ ap (λ (k : ℕ). get_or (producer.packet ++ trailer k ∷ []) j 0) (sym ok.write)));
      }

  pub sends_cell : producer.machine.done ≤ producer.machine.len → producer.machine.stage ≡ SendCell → HasRoom n ws r producer consumer
  sends_cell few i =
      let stored : stored_at producer.machine.stage producer.machine ≡ producer.machine.done = ap (λ (st : Stage). stored_at st producer.machine) i in
      has_room (omega (arith, stored, few)) (subst (λ (k : ℕ). Sending n (ring_in n ws r) (size producer.sent) (size ok.given_back) k producer.machine.len producer.machine.seen producer.packet) (sym stored)
      (subst (λ (st : Stage). Sending_at st n (ring_in n ws r) (size producer.sent) (size ok.given_back) producer) i ok.sending))

  pub sends_write : producer.machine.stage ≡ SendWrite → HasRoom n ws r producer consumer
  sends_write i =
      let stored : stored_at producer.machine.stage producer.machine ≡ producer.machine.len + 1 = ap (λ (st : Stage). stored_at st producer.machine) i in
      has_room (omega (arith, stored)) (subst (λ (k : ℕ). Sending n (ring_in n ws r) (size producer.sent) (size ok.given_back) k producer.machine.len producer.machine.seen producer.packet) (sym stored)
      (subst (λ (st : Stage). Sending_at st n (ring_in n ws r) (size producer.sent) (size ok.given_back) producer) i ok.sending))

  -- the cells up to the write index that a take loaded
  seen_cells : (first : List ℕ) (mid rest : List (List ℕ)) → ok.waiting ≡ (first ∷ mid) ++ rest → consumer.machine.seen ≡ size (consumer.got ++ first ∷ mid) % n
      → Spells (8 * n) (cell_in n ws r) (8 * consumer.machine.read) (8 * consumer.machine.seen) (first ∷ mid)
  seen_cells first mid rest is seen =
      ends_at _ _ _ _ (first ∷ mid) ok.read seen
      (spelled consumer.got (first ∷ mid) rest (ok.sent_is ∙ ap (λ (l : List (List ℕ)). consumer.got ++ l) is) (back_got _ _ _ _ ok))

  pub takes_first : consumer.machine.stage ≡ TakeFirst → HasSeen n ws r producer consumer
  takes_first i =
      let it : Seeing n consumer ok.waiting = subst (λ (st : Stage). Taking_at st n consumer ok.waiting) i ok.taking in
      record {
        seen = it.first ∷ it.mid;
        rest = it.rest;
        sent_is = ok.sent_is ∙ ap (λ (l : List (List ℕ)). consumer.got ++ l) it.waiting_is;
        cells = seen_cells it.first it.mid it.rest it.waiting_is it.seen;
        copied = λ j c. absurd (let z : TakeFirst ≡ TakeCell = sym i ∙ c in cc);
      }

  pub takes_cell : consumer.machine.done ≤ consumer.machine.len → consumer.machine.stage ≡ TakeCell → HasSeen n ws r producer consumer
  takes_cell few i =
      let it : Copying n consumer ok.waiting = subst (λ (st : Stage). Taking_at st n consumer ok.waiting) i ok.taking in
      let cells = seen_cells it.first it.mid it.rest it.waiting_is it.seen in
      record {
        seen = it.first ∷ it.mid;
        rest = it.rest;
        sent_is = ok.sent_is ∙ ap (λ (l : List (List ℕ)). consumer.got ++ l) it.waiting_is;
        cells = cells;
        copied = λ j c h. ap (λ (l : List ℕ). get_or l j 0) it.copied ∙ (get_or-take consumer.machine.done it.first j 0 h ∙ sym (cells.0 j (omega (arith, h, few, it.len))));
      }
