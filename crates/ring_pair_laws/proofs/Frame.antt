-- What a ring doesn't see: each end's part of it survives what touches neither its lists, its indices nor its cells. And what a step leaves of both.
use Rattle.std.proofs.Common.{◌≡◌, ◌≢◌, ℕ, ◌+◌, ◌-◌, ◌*◌, ◌%◌, ◌<◌, ◌≤◌, ◌⊎◌, Bool, true, false, ◌||◌, ◌&&◌, cond, List, [], ◌∷◌, ◌++◌, length, get_or, refl, sym, ap, ◌∙◌, subst, arith, append_assoc, inl}
use Rattle.std.specs.List.{All}
use Rattle.std.proofs.lemmas.List.Elements.{All-head, All-tail}
use Rattle.channel_trace.specs.declared.event.Event.{Event}
use Rattle.channel_trace.specs.Runs.{May, sent_of, got_of, has_marked, has_seen, is_drained}
use Rattle.page_kept.specs.declared.kept.Kept.{Kept as Pages}
use Rattle.ring_machine.specs.declared.machine.Stage.{Stage}
use Rattle.ring_machine.specs.declared.machine.Stage.TheVariants.{Idle, Stopped, SendRead, SendCell, SendWrite, TakeFirst, TakeCell}
use Rattle.ring_machine.specs.declared.machine.Ending.{Ending}
use Rattle.ring_machine.specs.declared.machine.Ending.TheVariants.{Full, Empty}
use Rattle.ring_machine.specs.declared.machine.EndMachine.{EndMachine}
use Rattle.ring_machine.specs.declared.state.EndState.{EndState}
use Rattle.ring_machine.specs.Places.{free}
use Rattle.ring_machine.specs.Steps.{IsSound, is_busy_at}
use Rattle.ring_machine.specs.States.{IsPacket}
use Rattle.ring_machine.proofs.Sound.{and_left, and_right}
use Rattle.ring_pair_laws.specs.Ring.{size, stream, Sending_at, Taking_at, RingOk, PastOk, is_marked, is_marking_at}
use Rattle.ring_pair_laws.proofs.Turns.{below, free_mod}
use Rattle.ring_pair_laws.proofs.Streams.{size-append}

-- how much a ring holds
module _ (n : ℕ) (f : ℕ → ℕ) (p c : EndState) (r : RingOk n f p c) where
  pub back_got : size r.given_back ≤ size c.got
  back_got = omega (arith, ap size r.got_is, size-append r.given_back r.since)

  pub sent_in : size p.sent ≡ size c.got + size r.waiting
  sent_in = ap size r.sent_is ∙ size-append c.got r.waiting

  pub free_is : free n c.machine.start p.machine.write ≡ n - (size p.sent - size r.given_back)
  free_is = (λ j. free n (r.start j) (r.write j)) ∙ free_mod n (size r.given_back) (size p.sent) (omega (arith, back_got, sent_in)) r.room

-- a ring whose ends have the same lists and indices, and whose words are the same where the ends rely on them
pub ring_as : (n : ℕ) (f f' : ℕ → ℕ) (p p' c c' : EndState) (r : RingOk n f p c) → p'.sent ≡ p.sent → p'.machine.write ≡ p.machine.write
    → c'.got ≡ c.got → c'.machine.read ≡ c.machine.read → c'.machine.start ≡ c.machine.start
    → f' 0 ≡ f 0 → f' 1 ≡ f 1 → ((k : ℕ) → size r.given_back ≤ k → k < size p.sent → f' (5 + k % n) ≡ f (5 + k % n))
    → Sending_at p'.machine.stage n f' (size p'.sent) (size r.given_back) p' → Taking_at c'.machine.stage n c' r.waiting → RingOk n f' p' c'
ring_as n f f' p p' c c' r es ew eg er et first second cells sending taking = record {
  given_back = r.given_back;
  since = r.since;
  waiting = r.waiting;
  got_is = eg ∙ r.got_is;
  sent_is = es ∙ (r.sent_is ∙ ap (λ (x : List (List ℕ)). x ++ r.waiting) (sym eg));
  packets = subst (All IsPacket) (sym es) r.packets;
  room = subst (λ (x : List (List ℕ)). size x < size r.given_back + n) (sym es) r.room;
  write = ew ∙ (r.write ∙ ap (λ (x : List (List ℕ)). size x % n) (sym es));
  read = er ∙ (r.read ∙ ap (λ (x : List (List ℕ)). size x % n) (sym eg));
  start = et ∙ r.start;
  write_word = first ∙ (r.write_word ∙ ap (λ (k : ℕ). 8 * k) (sym ew));
  read_word = second ∙ (r.read_word ∙ ap (λ (k : ℕ). 8 * k) (sym et));
  cells = subst (λ (x : List (List ℕ)). (k : ℕ) → size r.given_back ≤ k → k < size x → f' (5 + k % n) ≡ get_or (stream n 0 x) k 0) (sym es) (λ k lo hi. cells k lo hi ∙ r.cells k lo hi);
  sending = sending;
  taking = taking;
}

pub producer_same : (n : ℕ) (f : ℕ → ℕ) (p p' c : EndState) (r : RingOk n f p c) → p'.sent ≡ p.sent → p'.machine.write ≡ p.machine.write
    → Sending_at p'.machine.stage n f (size p'.sent) (size r.given_back) p' → RingOk n f p' c
producer_same n f p p' c r es ew sending = ring_as n f f p p' c c r es ew refl refl refl refl refl (λ k lo hi. refl) sending r.taking

pub consumer_same : (n : ℕ) (f : ℕ → ℕ) (p c c' : EndState) (r : RingOk n f p c) → c'.got ≡ c.got → c'.machine.read ≡ c.machine.read → c'.machine.start ≡ c.machine.start
    → Taking_at c'.machine.stage n c' r.waiting → RingOk n f p c'
consumer_same n f p c c' r eg er es taking = ring_as n f f p p c c' r refl refl eg er es refl refl (λ k lo hi. refl) r.sending taking

-- the words of a ring that its two ends rely on are the same
pub record Near (n : ℕ) (f f' : ℕ → ℕ) : Type 0 where
  pub write : f' 0 ≡ f 0
  pub read : f' 1 ≡ f 1
  pub cells : (k : ℕ) → k < n → f' (5 + k) ≡ f (5 + k)

pub near_refl : (n : ℕ) (f : ℕ → ℕ) → Near n f f
near_refl n f = record { write = refl; read = refl; cells = λ k h. refl }

-- a send goes on where more cells are given back
pub sending_more : (st : Stage) (n : ℕ) (f f' : ℕ → ℕ) (w r r' : ℕ) (e : EndState) → 0 < n → r ≤ r' → ((k : ℕ) → k < n → f' (5 + k) ≡ f (5 + k)) → Sending_at st n f w r e → Sending_at st n f' w r' e
sending_more SendRead n f f' w r r' e wide le same t = t
sending_more SendCell n f f' w r r' e wide le same t = record { packet = t.packet; whole = t.whole; known = t.known; before = omega (arith, t.before); seen_is = t.seen_is; room = t.room; stored = λ j h. same ((w + j) % n) (below n (w + j) wide) ∙ t.stored j h }
sending_more SendWrite n f f' w r r' e wide le same t = record { packet = t.packet; whole = t.whole; known = t.known; before = omega (arith, t.before); seen_is = t.seen_is; room = t.room; stored = λ j h. same ((w + j) % n) (below n (w + j) wide) ∙ t.stored j h }
sending_more _ n f f' w r r' e wide le same t = t

-- a ring is as its words are
pub ring_ext : (n : ℕ) (f f' : ℕ → ℕ) (p c : EndState) → 0 < n → Near n f f' → RingOk n f p c → RingOk n f' p c
ring_ext n f f' p c wide same r =
    ring_as n f f' p p c c r refl refl refl refl refl same.write same.read (λ k lo hi. same.cells (k % n) (below n k wide))
    (sending_more p.machine.stage n f f' (size p.sent) (size r.given_back) (size r.given_back) p wide (omega arith) same.cells r.sending) r.taking

-- a packet that is sent waits behind the others
pub taking_more : (st : Stage) (n : ℕ) (c : EndState) (ws : List (List ℕ)) (x : List ℕ) → Taking_at st n c ws → Taking_at st n c (ws ++ x ∷ [])
taking_more TakeFirst n c ws x t = record { first = t.first; mid = t.mid; rest = t.rest ++ x ∷ []; waiting_is = ap (λ (l : List (List ℕ)). l ++ x ∷ []) t.waiting_is ∙ append_assoc (t.first ∷ t.mid) t.rest (x ∷ []); seen = t.seen }
taking_more TakeCell n c ws x t = record { first = t.first; mid = t.mid; rest = t.rest ++ x ∷ []; waiting_is = ap (λ (l : List (List ℕ)). l ++ x ∷ []) t.waiting_is ∙ append_assoc (t.first ∷ t.mid) t.rest (x ∷ []); seen = t.seen; len = t.len; copied = t.copied }
taking_more _ n c ws x t = t

-- the call stores no packet and copies none
abbrev pub is_calm_at : Stage → Bool
is_calm_at SendRead = false
is_calm_at SendCell = false
is_calm_at SendWrite = false
is_calm_at TakeFirst = false
is_calm_at TakeCell = false
is_calm_at _ = true

pub calm_sending : (st : Stage) (n : ℕ) (f : ℕ → ℕ) (w r : ℕ) (e : EndState) → is_calm_at st ≡ true → Sending_at st n f w r e
calm_sending SendRead n f w r e h = absurd (cc)
calm_sending SendCell n f w r e h = absurd (cc)
calm_sending SendWrite n f w r e h = absurd (cc)
calm_sending _ n f w r e h = tt

pub calm_taking : (st : Stage) (n : ℕ) (e : EndState) (ws : List (List ℕ)) → is_calm_at st ≡ true → Taking_at st n e ws
calm_taking TakeFirst n e ws h = absurd (cc)
calm_taking TakeCell n e ws h = absurd (cc)
calm_taking _ n e ws h = tt

-- the end isn't stopped, and its call has ended with no answer about the ring
abbrev pub goes_on : Stage → Ending → Bool
goes_on Stopped how = false
goes_on Idle Full = false
goes_on Idle Empty = false
goes_on st how = true

-- what a step adds to the end's past, if anything, may be done now
abbrev pub Tells : EndState → EndState → List (Event (List ℕ)) → Type 0
Tells e p past = (past ≡ e.past) ⊎ ((ev : Event (List ℕ)) × (past ≡ ev ∷ e.past) × May ev e.past p.past)

-- where a take ended with Empty the end got all, and where a send of the packet q ended with Full there is no room for it
pub record Rests (q : List ℕ) (e p : EndState) : Type 0 where
  pub empty : e.machine.stage ≡ Idle → e.machine.ended ≡ Empty → e.got ≡ p.sent
  pub full : e.machine.stage ≡ Idle → e.machine.ended ≡ Full → (free e.machine.cells p.machine.start e.machine.write ≤ length q + 1) × (e.machine.room ≡ free e.machine.cells p.machine.start e.machine.write) × (e.machine.words ≡ length q)

-- the two rings of an end after a step, its past, and that it goes on
pub record Moves (n : ℕ) (fo fi : ℕ → ℕ) (mark : ℕ) (e p e' : EndState) : Type 0 where
  pub out : RingOk n fo e' p
  pub inn : RingOk n fi p e'
  pub past : PastOk mark e'
  pub told : Tells e p e'.past
  pub rests : Rests e.packet e' p
  pub goes : e'.machine.stage ≢ Stopped

pub no_rest : (q : List ℕ) (e p : EndState) → goes_on e.machine.stage e.machine.ended ≡ true → Rests q e p
no_rest q e p h = record {
  empty = λ i a. let b : goes_on e.machine.stage e.machine.ended ≡ false = (λ j. goes_on (i j) (a j)) in absurd (cc);
  full = λ i a. let b : goes_on e.machine.stage e.machine.ended ≡ false = (λ j. goes_on (i j) (a j)) in absurd (cc);
}

pub not_stopped : (m : EndMachine) → goes_on m.stage m.ended ≡ true → m.stage ≢ Stopped
not_stopped m h i = let b : goes_on m.stage m.ended ≡ false = ap (λ (st : Stage). goes_on st m.ended) i in cc

-- the marks of a machine, and that a packet was found to be the last one
abbrev pub marks_of : EndMachine → Bool × Bool × Bool
marks_of m = (m.marked || is_marking_at m.stage, m.peer_marked, m.drained)

-- the end with another machine, and the same lists and past
abbrev pub moved_to : EndState → EndMachine → List ℕ → List ℕ → Pages → EndState
moved_to e m q xs k = record { machine = m; packet = q; copied = xs; sent = e.sent; got = e.got; past = e.past; pages = k }

-- a past is as the lists and the marks are
pub past_of : (mark : ℕ) (e : EndState) → sent_of e.past ≡ e.sent → got_of e.past ≡ e.got → (has_marked e.past, has_seen e.past, is_drained e.past) ≡ marks_of e.machine → mark ≡ cond (is_marked e) 1 0 → PastOk mark e
past_of mark e sent got marks word = record {
  sent = sent;
  got = got;
  marked = ap (λ (k : Bool × Bool × Bool). k.0) marks;
  seen = ap (λ (k : Bool × Bool × Bool). k.1) marks;
  drained = ap (λ (k : Bool × Bool × Bool). k.2) marks;
  word = word;
}

pub past_kept : (mark : ℕ) (e : EndState) → PastOk mark e → (m : EndMachine) (q xs : List ℕ) (k : Pages) → marks_of m ≡ marks_of e.machine → PastOk mark (moved_to e m q xs k)
past_kept mark e r m q xs k same =
    past_of mark (moved_to e m q xs k) r.sent r.got ((λ j. (r.marked j, r.seen j, r.drained j)) ∙ sym same) (r.word ∙ ap (λ (k : Bool × Bool × Bool). cond k.0 1 0) (sym same))

pub first_packet : (xs : List (List ℕ)) (p : List ℕ) (ys : List (List ℕ)) → All IsPacket (xs ++ p ∷ ys) → IsPacket p
first_packet [] p ys a = All-head IsPacket p ys a
first_packet (x ∷ xs) p ys a = first_packet xs p ys (All-tail IsPacket x (xs ++ p ∷ ys) a)

-- an end and its peer before a step of the end
pub record Ready (fo fi : ℕ → ℕ) (mark pmark : ℕ) (e p : EndState) : Type 0 where
  pub sound : IsSound e.machine
  pub out : RingOk e.machine.cells fo e p
  pub inn : RingOk e.machine.cells fi p e
  pub past : PastOk mark e
  pub peers : PastOk pmark p

-- the end at this stage
abbrev pub at_stage : Stage → EndState → EndState
at_stage st e = record e { machine = record e.machine { stage = st } }

abbrev pub indices_of : EndMachine → ℕ × ℕ × ℕ
indices_of m = (m.write, m.read, m.start)

-- a machine that only moves its call on
pub record Quiet (m m' : EndMachine) : Type 0 where
  pub indices : indices_of m' ≡ indices_of m
  pub marks : marks_of m' ≡ marks_of m
  pub goes : (is_calm_at m'.stage && goes_on m'.stage m'.ended) ≡ true

module _ (fo fi : ℕ → ℕ) (mark pmark : ℕ) (e p : EndState) (r : Ready fo fi mark pmark e p) where
  pub wide : 0 < e.machine.cells
  wide = omega (arith, r.sound.cells)

  -- an end in a call hasn't marked itself, up to the store of its mark
  pub unmarked : is_busy_at e.machine.stage ≡ true → is_marking_at e.machine.stage ≡ false → has_marked e.past ≡ false
  unmarked busy plain = r.past.marked ∙ (λ j. r.sound.unmarked busy j || plain j)

  -- the incoming ring where the other ring was written, and the outgoing one where the other was
  pub inn_stays : (fi' : ℕ → ℕ) → Near e.machine.cells fi fi' → (t : EndState) → t.got ≡ e.got → t.machine.read ≡ e.machine.read → t.machine.start ≡ e.machine.start → Taking_at t.machine.stage e.machine.cells t r.inn.waiting → RingOk e.machine.cells fi' p t
  inn_stays fi' near t got read start taking = ring_ext e.machine.cells fi fi' p t wide near (consumer_same e.machine.cells fi p e t r.inn got read start taking)

  pub out_stays : (fo' : ℕ → ℕ) → Near e.machine.cells fo fo' → (t : EndState) → t.sent ≡ e.sent → t.machine.write ≡ e.machine.write → is_calm_at t.machine.stage ≡ true → RingOk e.machine.cells fo' t p
  out_stays fo' near t sent write calm = ring_ext e.machine.cells fo fo' t p wide near (producer_same e.machine.cells fo e t p r.out sent write (calm_sending t.machine.stage _ _ _ _ _ calm))

  -- a step that adds nothing to the past
  pub silent : (fo' fi' : ℕ → ℕ) (m : EndMachine) (q xs : List ℕ) (k : Pages) → RingOk e.machine.cells fo' (moved_to e m q xs k) p → RingOk e.machine.cells fi' p (moved_to e m q xs k)
      → marks_of m ≡ marks_of e.machine → goes_on m.stage m.ended ≡ true → Moves e.machine.cells fo' fi' mark e p (moved_to e m q xs k)
  silent fo' fi' m q xs k out inn same goes = record {
    out = out;
    inn = inn;
    past = past_kept mark e r.past m q xs k same;
    told = inl refl;
    rests = no_rest e.packet (moved_to e m q xs k) p goes;
    goes = not_stopped m goes;
  }

  pub quiet : (fo' fi' : ℕ → ℕ) → Near e.machine.cells fo fo' → Near e.machine.cells fi fi' → (m : EndMachine) (q xs : List ℕ) (k : Pages) → Quiet e.machine m → Moves e.machine.cells fo' fi' mark e p (moved_to e m q xs k)
  quiet fo' fi' near_out near_in m q xs k same =
      let t : EndState = moved_to e m q xs k in
      let calm = and_left (is_calm_at m.stage) _ same.goes in
      silent fo' fi' m q xs k (out_stays fo' near_out t refl (ap (λ (i : ℕ × ℕ × ℕ). i.0) same.indices) calm)
      (inn_stays fi' near_in t refl (ap (λ (i : ℕ × ℕ × ℕ). i.1) same.indices) (ap (λ (i : ℕ × ℕ × ℕ). i.2) same.indices) (calm_taking m.stage _ _ _ calm)) same.marks (and_right (is_calm_at m.stage) _ same.goes)
