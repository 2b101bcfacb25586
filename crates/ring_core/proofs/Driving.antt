-- What a driver keeps from step to step, and what it leaves.
use Rattle.std.proofs.Common.{◌≡◌, ◌≢◌, ℕ, suc, zero, ◌+◌, ◌<◌, ◌≤◌, Bool, true, false, cond, List, [], ◌∷◌, ◌++◌, length, take, Option, Some, None, refl, sym, ap, ◌∙◌, subst, inl, arith, length-set}
use Rattle.std.specs.Prelude.{slice_index}
use Rattle.std.proofs.lemmas.List.{length-take-le}
use Rattle.channel_trace.specs.declared.event.Event.{Event}
use Rattle.ring_machine.specs.declared.machine.Stage.{Stage}
use Rattle.ring_machine.specs.declared.machine.Stage.TheVariants.{Idle, Stopped, SendRead, TakeWrite, CommitRead, ArmPending, ArmMask, PollSignal, MarkStore, PeerMark, TakeFirst, TakeCell}
use Rattle.ring_machine.specs.declared.machine.Ending.{Ending}
use Rattle.ring_machine.specs.declared.machine.Ending.TheVariants.{BadPeer, BadIndex, BadLength, BadOffset}
use Rattle.ring_machine.specs.declared.machine.EndMachine.{EndMachine}
use Rattle.ring_machine.specs.declared.state.EndState.{EndState}
use Rattle.ring_machine.specs.declared.place.Op.{Op}
use Rattle.page_kept.specs.declared.kept.Kept.{Kept}
use Rattle.ring_machine.specs.EndCalls.{EndCall, Take}
use Rattle.ring_machine.specs.Places.{ahead, len8_of, offset8_of}
use Rattle.ring_machine.specs.Steps.{IsSound, fed, next_of, is_busy_at, is_copying_at, is_sent, is_took, is_broken, call_at, call_by, made_at}
use Rattle.ring_machine.specs.Loops.{is_polling_at, is_opening_at, Starts}
use Rattle.ring_machine.specs.States.{IsPacket, copied_at, sent_while, past_while, past_by, sent_by, got_by, pages_by, stored, after, afters, entered, resting_with, shown, Continues}
use Rattle.ring_machine.specs.Endings.{Leaves, is_committed, is_dozed, is_marked}
use Rattle.ring_core.specs.Going.{Counts, Going, MayGo, Goes}
use Rattle.ring_core.specs.declared.told.Told.{Told}
use Rattle.ring_core.specs.Told.{HeardJust, Memory, pair, step, step_by, run, memory_after, answer_of, raises_at, wakes_at, raises_of, wakes_of, told_at, told_next, told_by, Ran, Left, Tale}
use Rattle.ring_machine.proofs.Sound.{at_cond, fed_made, no_true}
use Rattle.ring_machine.proofs.PageMoves.{pages_moved, pages_over}
use Rattle.ring_machine.specs.Moves.{Lists, Moves, write_at, read_at, start_at, asleep_at, marked_at, Form, is_formed, pages_at}
use Rattle.ring_machine.proofs.Tables.{copied_by, fed_cells, busy_next, lists_by, moves_by, w_at, r_at, s_at, a_at, k_at, form_by}
use Rattle.ring_machine.specs.declared.end_core.EndCore.{EndCore}
use Rattle.ring_core.specs.Drives.{CanStep, StepLeaves, CanDrive, DriveLeaves}

-- what holds at the first step of a call
record Opens (st : Stage) : Type 0 where
  busy : is_busy_at st ≡ true
  sent : (ps : List (List ℕ)) (p : List ℕ) → sent_while st ps p ≡ ps
  past : (m : EndMachine) (es : List (Event (List ℕ))) (p : List ℕ) → past_while st m es p ≡ es
  write : (how : Ending) (b : EndMachine) (n : ℕ) → write_at st how b n ≡ b.write
  read : (how : Ending) (b : EndMachine) (n : ℕ) → read_at st how b n ≡ b.read
  start : (how : Ending) (b : EndMachine) → start_at st how b ≡ b.start
  asleep : (how : Ending) → asleep_at st how ≡ is_polling_at st
  marked : (how : Ending) → marked_at st how ≡ false
  formed : (how : Ending) → is_formed st how ≡ false
  pages : (m : EndMachine) (k : Kept) (p buf : List ℕ) → pages_at st m k p buf ≡ k

opens : (st : Stage) → is_opening_at st ≡ true → Opens st
opens SendRead h = record { busy = refl; sent = λ ps p. refl; past = λ m es p. refl; write = λ how b n. refl; read = λ how b n. refl; start = λ how b. refl; asleep = λ how. refl; marked = λ how. refl; formed = λ how. refl; pages = λ m k p buf. refl }
opens TakeWrite h = record { busy = refl; sent = λ ps p. refl; past = λ m es p. refl; write = λ how b n. refl; read = λ how b n. refl; start = λ how b. refl; asleep = λ how. refl; marked = λ how. refl; formed = λ how. refl; pages = λ m k p buf. refl }
opens CommitRead h = record { busy = refl; sent = λ ps p. refl; past = λ m es p. refl; write = λ how b n. refl; read = λ how b n. refl; start = λ how b. refl; asleep = λ how. refl; marked = λ how. refl; formed = λ how. refl; pages = λ m k p buf. refl }
opens ArmPending h = record { busy = refl; sent = λ ps p. refl; past = λ m es p. refl; write = λ how b n. refl; read = λ how b n. refl; start = λ how b. refl; asleep = λ how. refl; marked = λ how. refl; formed = λ how. refl; pages = λ m k p buf. refl }
opens ArmMask h = record { busy = refl; sent = λ ps p. refl; past = λ m es p. refl; write = λ how b n. refl; read = λ how b n. refl; start = λ how b. refl; asleep = λ how. refl; marked = λ how. refl; formed = λ how. refl; pages = λ m k p buf. refl }
opens PollSignal h = record { busy = refl; sent = λ ps p. refl; past = λ m es p. refl; write = λ how b n. refl; read = λ how b n. refl; start = λ how b. refl; asleep = λ how. refl; marked = λ how. refl; formed = λ how. refl; pages = λ m k p buf. refl }
opens MarkStore h = record { busy = refl; sent = λ ps p. refl; past = λ m es p. refl; write = λ how b n. refl; read = λ how b n. refl; start = λ how b. refl; asleep = λ how. refl; marked = λ how. refl; formed = λ how. refl; pages = λ m k p buf. refl }
opens PeerMark h = record { busy = refl; sent = λ ps p. refl; past = λ m es p. refl; write = λ how b n. refl; read = λ how b n. refl; start = λ how b. refl; asleep = λ how. refl; marked = λ how. refl; formed = λ how. refl; pages = λ m k p buf. refl }
opens _ h = absurd (cc)

moves_first : (m : EndMachine) → IsSound m → Starts m → Moves m m
moves_first m s h =
    let o = opens m.stage h.opens in
    record {
      cells = refl;
      side = refl;
      write = sym (o.write m.ended m m.len);
      read = sym (o.read m.ended m m.len);
      start = sym (o.start m.ended m);
      asleep = h.asleep ∙ sym (o.asleep m.ended);
      marked = s.unmarked o.busy ∙ sym (o.marked m.ended);
      unseen = h.unseen;
    }

none_some : {A : Type 0} {x : A} → None ≡ Some x → ⊥
none_some e = cc

still : (st : Stage) (xs : List ℕ) → is_busy_at st ≡ false → copied_at st xs ≡ []
still Idle xs n = refl
still Stopped xs n = refl
still _ xs n = absurd (cc)

pub going_first : (told : Option Told) (tale : Tale) (m : EndMachine) (p buf : List ℕ) (sent got : List (List ℕ)) (past : List (Event (List ℕ))) (k : Kept) → length buf ≡ m.cells → IsSound m → Starts m
    → ((u : Told) → told ≡ Some u → Continues u.state m p × (entered u.state m p ≡ shown m p buf sent got past k)) → Going (shown m p buf sent got past k) told told tale tale m p buf
going_first told tale m p buf sent got past k w s h may =
    let o = opens m.stage h.opens in
    record {
      values = [];
      state = shown m p buf sent got past k;
      is_after = refl;
      each = tt;
      few = omega arith;
      machine = refl;
      packet = sym (ap (λ (t : Bool). cond t p []) o.busy);
      copied = refl;
      wide = w;
      pages = sym (o.pages m k p buf);
      lists = record { busy = λ _. (refl, sym (o.sent sent p), refl, sym (o.past m past p)); ended = λ n. absurd (no_true n o.busy) };
      moves = moves_first m s h;
      form = λ f. absurd (no_true (o.formed m.ended) f);
      silent = λ q. q;
      tells = λ u e b. (u, e, (may u e).0, (may u e).1, record { steps = omega arith; raised = omega arith; woke = omega arith });
      ends = λ u e n. absurd (no_true n o.busy);
      runs = λ a e. (a, e, refl);
      hears = λ vs e. e;
    }

module _ (base : EndState) (told told' told'' : Option Told) (tale tale' tale'' : Tale) (m : EndMachine) (p buf : List ℕ) (v : ℕ)
    (s : IsSound m) (b : is_busy_at m.stage ≡ true) (it : Going base told told' tale tale' m p buf)
    (quiet : told' ≡ None → told'' ≡ None)
    (tells : (u : Told) → told' ≡ Some u → (told'' ≡ Some (told_next (told_at u m p) v)) × ((fed m v).stage ≢ Stopped))
    (runs : (k : Memory) (op : Op) → tale'.memory ≡ Some k → next_of m p ≡ Some op → (tale''.memory ≡ Some (memory_after m.cells op k)) × (v ≡ answer_of m.cells op k))
    (hears : HeardJust tale' tale'' (v ∷ [])) where
  -- the state before the step, by the machine and the buffer
  abbrev now : EndState
  now = record { machine = m; packet = p; copied = copied_at m.stage (take m.done buf); sent = sent_while m.stage base.sent p; got = base.got; past = past_while m.stage m base.past p; pages = pages_at m.stage m base.pages p buf }

  is_now : it.state ≡ now
  is_now =
      let packet : it.state.packet ≡ p = it.packet ∙ ap (λ (t : Bool). cond t p []) b in
      let lists = it.lists.busy b in
      (λ i. record { machine = it.machine i; packet = packet i; copied = it.copied i; sent = lists.1 i; got = lists.2 i; past = lists.3 i; pages = it.pages i })

  -- the state after it
  then_is : after it.state v ≡ after now v
  then_is = ap (λ (x : EndState). after x v) is_now

  -- the stage of the step
  stage_is : (afters base it.values).machine.stage ≡ m.stage
  stage_is = ap (λ (x : EndState). x.machine.stage) (sym it.is_after ∙ is_now)

  told_more : (u s : Told) → entered s.state m p ≡ it.state → Counts base it.values u s → told_next (told_at s m p) v ≡ told_by base (v ∷ it.values) (after it.state v) u
  told_more u s same n =
      let raises : raises_at (afters base it.values).machine.stage ≡ raises_at m.stage = ap raises_at stage_is in
      let wakes : wakes_at (afters base it.values).machine.stage v ≡ wakes_at m.stage v = ap (λ (t : Stage). wakes_at t v) stage_is in
      let steps : s.steps + 1 ≡ u.steps + length (v ∷ it.values) = omega (arith, n.steps) in
      let raised : s.raised + raises_at m.stage ≡ u.raised + raises_of base (v ∷ it.values) = omega (arith, n.raised, raises) in
      let woke : s.woke + wakes_at m.stage v ≡ u.woke + wakes_of base (v ∷ it.values) = omega (arith, n.woke, wakes) in
      (λ i. record { state = after (same i) v; steps = steps i; raised = raised i; woke = woke i })

  next_told : (u : Told) → told ≡ Some u → (told'' ≡ Some (told_by base (v ∷ it.values) (after it.state v) u)) × ((fed m v).stage ≢ Stopped)
  next_told u e =
      let t = it.tells u e b in
      let r = tells t.0 t.1 in
      (r.0 ∙ ap (λ (x : Told). Some x) (told_more u t.0 t.3 t.4), r.1)

  next_lists : Lists (call_at base.machine.stage) base.sent base.got base.past p (fed m v) (stored (is_copying_at m.stage) buf m.done v) (after it.state v).sent (after it.state v).got (after it.state v).past
  next_lists =
      let lists : EndCall × EndState → Type 0 = λ x. Lists x.0 base.sent base.got base.past p (fed m v) (stored (is_copying_at m.stage) buf m.done v) x.1.sent x.1.got x.1.past in
      subst lists (λ i. ((it.lists.busy b).0 i, sym then_is i)) (lists_by base.sent base.got base.past p m buf v s it.wide it.moves.unseen m.stage refl b)

  next_wide : length (stored (is_copying_at m.stage) buf m.done v) ≡ (fed m v).cells
  next_wide = at_cond (λ (xs : List ℕ). length xs ≡ (fed m v).cells) (is_copying_at m.stage) _ _
      (λ _. length-set buf m.done v ∙ (it.wide ∙ sym (fed_cells m v m.stage)))
      (λ _. it.wide ∙ sym (fed_cells m v m.stage))

  next_run : (k : Memory) → tale.memory ≡ Some k → (k' : Memory) × (tale''.memory ≡ Some k') × (run (suc (length it.values)) (pair base k) ≡ pair (after it.state v) k')
  next_run k e =
      let r = it.runs k e in
      let o = busy_next m p m.stage b in
      let t = runs r.0 o.0 r.1 o.1 in (
        memory_after m.cells o.0 r.0,
        t.0,
        ap step (r.2 ∙ ap (λ (x : EndState). pair x r.0) is_now)
            ∙ (ap (λ (x : Option Op). step_by x (pair now r.0)) o.1
            ∙ (ap (λ (w : ℕ). pair (after now w) (memory_after m.cells o.0 r.0)) (sym t.1)
            ∙ ap (λ (x : EndState). pair x (memory_after m.cells o.0 r.0)) (sym then_is))),
      )

  pub going_on : Going base told told'' tale tale'' (fed m v) p (stored (is_copying_at m.stage) buf m.done v)
  going_on = record {
    values = v ∷ it.values;
    state = after it.state v;
    is_after = ap (λ (x : EndState). after x v) it.is_after;
    each = (ap is_busy_at stage_is ∙ b, it.each);
    few = (let n = fed_made m v s b in omega (arith, it.few));
    machine = ap (λ (x : EndState). x.machine) then_is;
    packet = ap (λ (x : EndState). x.packet) then_is;
    copied = ap (λ (x : EndState). x.copied) then_is ∙ copied_by m v buf s it.wide m.stage refl;
    wide = next_wide;
    pages = ap (λ (x : EndState). x.pages) then_is ∙ pages_moved m v base.pages p buf s it.wide m.stage refl b;
    lists = next_lists;
    moves = moves_by base.machine m v it.moves m.stage refl b;
    form = form_by m buf v s it.wide it.form m.stage refl b;
    silent = λ h. quiet (it.silent h);
    tells = λ u e b'.
        let packet : p ≡ (after it.state v).packet = sym (ap (λ (x : EndState). x.packet) then_is ∙ ap (λ (t : Bool). cond t p []) b') in
        let machine : fed m v ≡ (after it.state v).machine = ap (λ (x : EndState). x.machine) (sym then_is) in (
          told_by base (v ∷ it.values) (after it.state v) u,
          (next_told u e).0,
          inl (machine, packet),
          λ i. record (after it.state v) { machine = machine i; packet = packet i },
          record { steps = refl; raised = refl; woke = refl },
        );
    ends = λ u e n. next_told u e;
    runs = next_run;
    hears = λ vs e. hears (it.values ++ vs) (it.hears vs e);
  }

-- what the seat asks at the next step
pub going_asks : (base : EndState) (told told' : Option Told) (tale tale' : Tale) (m : EndMachine) (p buf : List ℕ) → Going base told told' tale tale' m p buf → is_busy_at m.stage ≡ true
    → (s : Told) → told' ≡ Some s → Continues s.state m p
going_asks base None told' tale tale' m p buf it b s e = absurd (none_some (sym (it.silent refl) ∙ e))
going_asks base (Some u) told' tale tale' m p buf it b s e =
    let t = it.tells u refl b in
    let same : t.0 ≡ s = cc in
    subst (λ (x : Told). Continues x.state m p) same t.2

rested : (t : EndState) (m : EndMachine) (sent got : List (List ℕ)) (past : List (Event (List ℕ))) (k : Kept) → t.machine ≡ m → t.packet ≡ [] → t.copied ≡ [] → t.sent ≡ sent → t.got ≡ got → t.past ≡ past → t.pages ≡ k → t ≡ resting_with m sent got past k
rested t m sent got past k a b c d e f g = λ i. record { machine = a i; packet = b i; copied = c i; sent = d i; got = e i; past = f i; pages = g i }

left_by : (base : EndState) (told told' : Option Told) (tale tale' : Tale) (m : EndMachine) (sent got : List (List ℕ)) (past : List (Event (List ℕ))) (k : Kept) (t : EndState) → t ≡ resting_with m sent got past k → Ran base t told told' tale tale' → Left base told told' tale tale' m sent got past k
left_by base None told' tale tale' m sent got past k t e r = record {
  ran = subst (λ (x : EndState). Ran base x None told' tale tale') e r;
  told_is = λ s h. absurd (none_some (sym (r.silent refl) ∙ h));
}
left_by base (Some u) told' tale tale' m sent got past k t e r = record {
  ran = subst (λ (x : EndState). Ran base x (Some u) told' tale tale') e r;
  told_is = λ s h. let same : told_by base r.values t u ≡ s = cc ((r.tells u refl).0) in sym (ap (λ (x : Told). x.state) same) ∙ e;
}

-- a broken end did nothing
broken_sent : (how : Ending) → is_broken how ≡ true → (is_sent how ≡ false) × (is_took how ≡ false) × (is_committed how ≡ false) × (is_dozed how ≡ false) × (is_marked how ≡ false)
broken_sent BadPeer h = (refl, refl, refl, refl, refl)
broken_sent BadIndex h = (refl, refl, refl, refl, refl)
broken_sent BadLength h = (refl, refl, refl, refl, refl)
broken_sent BadOffset h = (refl, refl, refl, refl, refl)
broken_sent _ h = absurd (cc)

unbroken : (x : Bool) → (x ≡ true → ⊥) → x ≡ false
unbroken true n = absurd (n refl)
unbroken false n = refl

module _ (b m : EndMachine) (it : Moves b m) (s : IsSound m) where
  leaves_at : (st : Stage) → m.stage ≡ st → is_busy_at st ≡ false → Leaves b m
  leaves_at Idle e n =
      let whole : is_broken m.ended ≡ false = unbroken (is_broken m.ended) (λ h. let z : Idle ≡ Stopped = sym e ∙ s.broken h in cc) in
      record {
        cells = it.cells;
        side = it.side;
        write = w_at b m 0 it Idle e;
        read = r_at b m 0 it Idle e;
        start = s_at b m 0 it Idle e;
        asleep = a_at b m 0 it Idle e;
        marked = k_at b m 0 it Idle e;
        stage = e ∙ sym (ap (λ (x : Bool). cond x Stopped Idle) whole);
      }
  leaves_at Stopped e n =
      let f = broken_sent m.ended (s.stopped e) in
      record {
        cells = it.cells;
        side = it.side;
        write = w_at b m 0 it Stopped e ∙ sym (ap (λ (x : Bool). cond x (ahead b.cells b.write (m.len + 1)) b.write) f.0);
        read = r_at b m 0 it Stopped e ∙ sym (ap (λ (x : Bool). cond x (ahead b.cells b.read (m.len + 1)) b.read) f.1);
        start = s_at b m 0 it Stopped e ∙ sym (ap (λ (x : Bool). cond x b.read b.start) f.2);
        asleep = a_at b m 0 it Stopped e ∙ sym f.3;
        marked = k_at b m 0 it Stopped e ∙ sym f.4;
        stage = e ∙ sym (ap (λ (x : Bool). cond x Stopped Idle) (s.stopped e));
      }
  leaves_at _ e n = absurd (cc)

formed_end : (m : EndMachine) → IsSound m → (st : Stage) → m.stage ≡ st → is_busy_at st ≡ false → is_took m.ended ≡ true → is_formed st m.ended ≡ true
formed_end m s Idle e n h = h
formed_end m s Stopped e n h = absurd (no_true (broken_sent m.ended (s.stopped e)).1 h)
formed_end m s _ e n h = absurd (cc)

first_take : (n : ℕ) (xs : List ℕ) → 0 < n → slice_index (take n xs) 0 ≡ slice_index xs 0
first_take zero xs h = absurd (omega arith)
first_take (suc n) [] h = refl
first_take (suc n) (x ∷ xs) h = refl

-- the words that were taken are a packet
packet_of : (n : ℕ) (buf : List ℕ) → n ≤ length buf → Form n buf → IsPacket (take n buf)
packet_of n buf le f =
    let long : length (take n buf) ≡ n = length-take-le n buf le in
    let same : slice_index (take n buf) 0 ≡ slice_index buf 0 = first_take n buf (omega (arith, f.two)) in
    record {
      two = omega (arith, f.two, long);
      length_is = ap len8_of same ∙ (f.length_is ∙ sym long);
      offset = subst (λ (x : ℕ). (2 ≤ offset8_of x) × (offset8_of x ≤ length (take n buf))) (sym same) (f.offset.0, omega (arith, f.offset.1, long));
    }

module _ (base : EndState) (told told' : Option Told) (tale tale' : Tale) (m : EndMachine) (p buf : List ℕ) (it : Going base told told' tale tale' m p buf) (s : IsSound m) (n : is_busy_at m.stage ≡ false) where
  pub going_calls : call_by m.ended ≡ call_at base.machine.stage
  going_calls = (it.lists.ended n).0

  pub going_leaves : Leaves base.machine m
  going_leaves = leaves_at base.machine m it.moves s m.stage refl n

  pub going_took : is_took m.ended ≡ true → IsPacket (take m.len buf)
  going_took h = packet_of m.len buf (omega (arith, s.len, it.wide)) (it.form (formed_end m s m.stage refl n h))

  pub going_ran : Left base told told' tale tale' m (sent_by m base.sent p) (got_by m base.got buf) (past_by m base.past p buf) (pages_by m base.pages p buf)
  going_ran =
      let same : it.state ≡ resting_with m (sent_by m base.sent p) (got_by m base.got buf) (past_by m base.past p buf) (pages_by m base.pages p buf) =
      rested it.state m _ _ _ _ it.machine (it.packet ∙ ap (λ (t : Bool). cond t p []) n) (it.copied ∙ still m.stage (take m.done buf) n) (it.lists.ended n).1 (it.lists.ended n).2 (it.lists.ended n).3 (it.pages ∙ pages_over m base.pages p buf m.stage n) in
      left_by base told told' tale tale' m _ _ _ _ it.state same
      (record {
        values = it.values;
        state = it.is_after;
        each = it.each;
        few = subst (λ (k : EndMachine). length it.values ≤ made_at k.stage k) (sym it.machine) it.few;
        silent = it.silent;
        tells = λ u e. ((it.ends u e n).0, λ h. (it.ends u e n).1 (sym (ap (λ (k : EndMachine). k.stage) it.machine) ∙ h));
        runs = it.runs;
        hears = it.hears;
      })

pub going_honest : (base : EndState) (told told' : Option Told) (tale tale' : Tale) (m : EndMachine) (p buf : List ℕ) → Going base told told' tale tale' m p buf → is_busy_at m.stage ≡ false
    → (u : Told) → told' ≡ Some u → m.stage ≢ Stopped
going_honest base None told' tale tale' m p buf it n u e = absurd (none_some (sym (it.silent refl) ∙ e))
going_honest base (Some t) told' tale tale' m p buf it n u e = (it.ends t refl n).1

-- only a take copies words into the buffer
uncopied : (st : Stage) → (call_at st ≡ Take → ⊥) → is_copying_at st ≡ false
uncopied TakeFirst n = absurd (n refl)
uncopied TakeCell n = absurd (n refl)
uncopied _ n = refl

module _ {S : Type 0} {cells_of : S → ℕ} {told : S → Option Told} {tale : S → Tale} where
  pub may_first : {s : S} {core : EndCore} {buf p : List ℕ} → CanDrive cells_of told s core buf p → MayGo told tale s core.machine p buf
  may_first {s} {core} {buf} {p} c = record {
    base = shown core.machine p buf c.sent c.got c.past c.kept;
    told_then = told s;
    tale_then = tale s;
    going = going_first (told s) (tale s) core.machine p buf c.sent c.got c.past c.kept c.wide core.sound c.starts c.begins;
  }

  pub can_step : {s : S} {core : EndCore} {buf p : List ℕ} → MayGo told tale s core.machine p buf → cells_of s ≡ core.machine.cells → is_busy_at core.machine.stage ≡ true → CanStep cells_of told s core buf p
  can_step a fits b = record { busy = b; wide = a.going.wide; fits = fits; goes_on = going_asks _ _ _ _ _ _ _ _ a.going b }

module _ {S : Type 0} {cells_of : S → ℕ} {told : S → Option Told} {tale : S → Tale} {IsLater : S → S → Type 0} where
  pub goes_more : ((s t u : S) → IsLater s t → IsLater t u → IsLater s u) → {s t u : S} {m n q : EndMachine} {p x y z : List ℕ}
      → Goes cells_of told tale IsLater s t m n p x y → Goes cells_of told tale IsLater t u n q p y z → Goes cells_of told tale IsLater s u m q p x z
  goes_more trans {s} {t} {u} a b = record {
    going = λ base o k it. let i = a.going base o k it in let j = b.going base o k i.0 in (j.0, λ h. j.1 h ∙ i.1 h);
    same = trans s t u a.same b.same;
    cells = b.cells ∙ a.cells;
    size = b.size ∙ a.size;
  }

  pub goes_as : {s t : S} {m n k : EndMachine} {p x y : List ℕ} → k ≡ n → Goes cells_of told tale IsLater s t m n p x y → Goes cells_of told tale IsLater s t m k p x y
  goes_as {s} {t} {m} {n} {k} {p} {x} {y} e a = subst (λ (z : EndMachine). Goes cells_of told tale IsLater s t m z p x y) (sym e) a

  pub goes_step : {s t : S} {core core' : EndCore} {p x y : List ℕ} {v : ℕ} → is_busy_at core.machine.stage ≡ true → StepLeaves cells_of told tale IsLater s t core core' x y p v
      → Goes cells_of told tale IsLater s t core.machine core'.machine p x y
  goes_step {s} {t} {core} {core'} {p} {x} {y} {v} b it = record {
    going = λ base o k on. (
      rw (it.machine, it.items) (going_on base o (told s) (told t) k (tale s) (tale t) core.machine p x v core.sound b on it.silent it.tells it.runs it.hears),
      λ n. it.items ∙ ap (λ (c : Bool). stored c x core.machine.done v) (uncopied core.machine.stage (λ e. n (sym (on.lists.busy b).0 ∙ e))),
    );
    same = it.same;
    cells = it.cells;
    size = ap (λ (k : EndMachine). k.cells) it.machine ∙ fed_cells core.machine v core.machine.stage;
  }

  pub may_more : {s t : S} {m n : EndMachine} {p x y : List ℕ} → MayGo told tale s m p x → Goes cells_of told tale IsLater s t m n p x y → MayGo told tale t n p y
  may_more a g = record { base = a.base; told_then = a.told_then; tale_then = a.tale_then; going = (g.going a.base a.told_then a.tale_then a.going).0 }

  -- the steps of a call, until it has ended
  pub drive_leaves : {s t : S} {core core' : EndCore} {p x y : List ℕ} → CanDrive cells_of told s core x p → Goes cells_of told tale IsLater s t core.machine core'.machine p x y
      → core'.pages ≡ core.pages → is_busy_at core'.machine.stage ≡ false → DriveLeaves cells_of told tale IsLater s t core core' x y p
  unfolding may_first
  drive_leaves {s} {t} {core} {core'} {p} {x} {y} c g pages idle =
      let first = may_first {tale = tale} c in
      let it = g.going first.base first.told_then first.tale_then first.going in
      record {
        call = going_calls _ _ _ _ _ _ _ _ it.0 core'.sound idle;
        leaves = going_leaves _ _ _ _ _ _ _ _ it.0 core'.sound idle;
        took = going_took _ _ _ _ _ _ _ _ it.0 core'.sound idle;
        left = λ sent got past kept begins.
            let on = g.going _ _ _ (going_first (told s) (tale s) core.machine p x sent got past kept c.wide core.sound c.starts begins) in
            going_ran _ _ _ _ _ _ _ _ on.0 core'.sound idle;
        pages = pages;
        idle = idle;
        words = it.1;
        wide = it.0.wide;
        same = g.same;
        cells = g.cells ∙ (c.fits ∙ sym g.size);
        honest = going_honest _ _ _ _ _ _ _ _ it.0 idle;
      }

-- what is left, by the names that the end has for it
pub left_as : (base : EndState) (o : Option Told) (a : Tale) {t t' : Option Told} {k k' : Tale} {m m' : EndMachine} {sent sent' got got' : List (List ℕ)} {past past' : List (Event (List ℕ))} {q q' : Kept}
    → t' ≡ t → k' ≡ k → m' ≡ m → sent' ≡ sent → got' ≡ got → past' ≡ past → q' ≡ q → Left base o t a k m sent got past q → Left base o t' a k' m' sent' got' past' q'
left_as base o a c d e f g h i left =
    subst (λ (z : Option Told × Tale × EndMachine × List (List ℕ) × List (List ℕ) × List (Event (List ℕ)) × Kept). Left base o z.0 a z.1 z.2 z.3 z.4 z.5 z.6)
    (λ j. (sym c j, sym d j, sym e j, sym f j, sym g j, sym h j, sym i j)) left
