-- An end that sleeps or wakes keeps what its worker knows of it.
use Rattle.std.proofs.Common.{◌≡◌, ◌≢◌, ◌≤◌, ◌+◌, ℕ, zero, suc, List, [], ◌∷◌, ◌++◌, length, Option, Some, None, Bool, true, false, cond, eqb, refl, sym, ap, ◌∙◌, subst, arith, length-append}
use Rattle.std.specs.Prelude.{slice_get, not, Result, is_some}
use Rattle.std.proofs.lemmas.Bool.Decides.{nat_tests}
use Rattle.channel_trace.specs.declared.event.Event.{Event}
use Rattle.channel_trace.specs.Runs.{sent_of, got_of, has_marked}
use Rattle.ring_machine.specs.declared.last.Armed.{Armed}
use Rattle.ring_machine.specs.declared.last.Armed.TheVariants.{Asleep, Work}
use Rattle.ring_machine.specs.declared.machine.Ending.{Ending}
use Rattle.ring_machine.specs.declared.machine.Ending.TheVariants.{FellAsleep, FoundWork, Marked, Full, SentQuiet, SentRaised}
use Rattle.ring_machine.specs.Endings.{Leaves, LeavesBy, is_asleep, is_dozed, want_of, send_answer, is_honest_send}
use Rattle.ring_machine.specs.declared.last.Signalled.{Signalled}
use Rattle.ring_machine.specs.declared.last.SendRefusal.{SendRefusal}
use Rattle.worker_port.specs.declared.found.Tried.{Tried}
use Rattle.worker_port.specs.declared.found.Tried.TheVariants.{Sent as TriedSent, Full as TriedFull, Broken as TriedBroken}
use Rattle.ring_core.specs.Seen.{Kept, Seen}
use Rattle.ring_machine.specs.declared.machine.EndMachine.{EndMachine}
use Rattle.ring_machine.specs.declared.machine.Stage.{Stage}
use Rattle.ring_machine.specs.declared.machine.Stage.TheVariants.{Idle, Stopped, SendRead, SendCell, SendWrite, SendMask, SendLook, SendRaise, ArmPending, ArmMask, ArmWrite, ArmRead, ArmMark, ArmUndoMask, ArmUndoPending, PollSignal, PollMask, PollPending, MarkStore, MarkRaise}
use Rattle.ring_machine.specs.declared.state.EndState.{EndState}
use Rattle.ring_machine.specs.States.{afters, entered, past_of, sent_by}
use Rattle.ring_machine.specs.EndCalls.{EndCall, Arm, Commit, Mark as MarkCall, Poll, Send, Take}
use Rattle.ring_machine.specs.Steps.{is_broken, is_busy_at, is_sent, arm_begun, call_by, fed_at, mark_begun, poll_begun, send_begun}
use Rattle.ring_core.specs.declared.told.Told.{Told}
use Rattle.ring_core.specs.Told.{Ran, Tale}
use Rattle.ring_sleep.specs.Sleeping.{Sleeps}
use Rattle.page_kept.specs.declared.item.Item.{Item}
use Rattle.page_kept.specs.declared.kept.Kept.{Kept as Pages}
use Rattle.page_kept.specs.declared.owner.Owner.{Owner}
use Rattle.page_kept.specs.Items.{packets as packets_of}
use Rattle.page_kept.specs.Kept.{first_owner, lent_words}
use Rattle.page_kept.specs.Layouts.{layout}
use Rattle.page_table.specs.Table.{first_owners}
use Rattle.io_edge.specs.declared.side.Side.{Side}
use Rattle.ring_core.specs.Pages.{IsClear}
use Rattle.worker_port.specs.Line.{AreFew, HasItems, IsLine, Line, Tries, paged_end, tried_of, armed_by, look_of, polled_by, words_at}
use Rattle.page_table.proofs.Moves.{first_long}
use Rattle.worker_port.proofs.PageLaws.{no_words}
use Rattle.worker_port.proofs.SendLaws.{Carried}

-- the items of an end whose lists and pages stay
pub items_on : (old new : EndState) → new.pages ≡ old.pages → new.sent ≡ old.sent → new.got ≡ old.got → HasItems old → HasItems new
items_on old new pages sent got h = record {
  clear = subst IsClear (sym pages) h.clear;
  items = subst (λ (z : Pages × List (List ℕ) × List (List ℕ)). z.0.count ≢ 0 → (packets_of z.0.sent ≡ z.1) × (packets_of z.0.got ≡ z.2)) (λ i. (sym pages i, sym sent i, sym got i)) h.items;
  none = subst (λ (k : Pages). k.count ≡ 0 → (k.sent ≡ []) × (k.got ≡ [])) (sym pages) h.none;
  few = subst (λ (k : Pages). (i : ℕ) → length (words_at k.got i) ≤ 512) (sym pages) h.few;
  held = subst (λ (k : Pages). AreFew k.owners) (sym pages) h.held;
  listed = subst (λ (k : Pages). length k.owners ≡ k.count) (sym pages) h.listed;
}

-- after a call that changes neither list
pub line_on : {S : Type 0} (told : S → Option Told) (old new : Seen S) → new.state.pages ≡ old.state.pages → new.state.sent ≡ old.state.sent → new.state.got ≡ old.state.got → new.state.machine.cells ≡ old.state.machine.cells
    → (is_busy_at new.state.machine.stage ≡ false) × (new.state.machine.asleep ≡ true → new.state.machine.stage ≡ Idle) × (is_some (told new.seat) ≡ true → new.state.machine.stage ≡ Idle) → new.state.machine.start ≡ old.state.machine.start
    → new.state.machine.read ≡ old.state.machine.read → sent_of new.state.past ≡ sent_of old.state.past → got_of new.state.past ≡ got_of old.state.past → new.state.machine.marked ≡ has_marked new.state.past → IsLine told old → IsLine told new
line_on told old new pages sent got cells stage start read past_sent past_got mark h = record {
  rests = stage.0;
  dozes = stage.1;
  honest = stage.2;
  sent = past_sent ∙ (h.sent ∙ sym sent);
  got = past_got ∙ (h.got ∙ sym got);
  packets = λ i p e. h.packets i p (ap (λ l. slice_get l i) (sym got) ∙ e);
  committed = start ∙ (h.committed ∙ sym read);
  mark = mark;
  size = subst (λ n. (512 ≤ n) × (n ≤ 16777216)) (sym cells) h.size;
  pages = items_on old.state new.state pages sent got h.pages;
}

pub slept_line : {S C : Type 0} (channel : S → C) (told : S → Option Told) (old new : Seen S) → Sleeps channel told old new → old.state.machine.marked ≡ false → new.state.machine.marked ≡ false → IsLine told old → IsLine told new
slept_line channel told old new s before after h = line_on told old new s.kept.pages s.kept.sent s.kept.got s.cells (ap is_busy_at s.idle, λ _. s.idle, λ _. s.idle) s.start s.read (ap sent_of s.past) (ap got_of s.past) (cc (after, before, h.mark, s.past)) h

-- a call that neither sends nor takes adds nothing to the lists, and the mark only where it is a mark
quiet_adds : (how : Ending) (saw : Bool) (past : List (Event (List ℕ))) → (call_by how ≡ Send → ⊥) → (call_by how ≡ Take → ⊥) → (sent_of (past_of how saw [] past) ≡ sent_of past) × (got_of (past_of how saw [] past) ≡ got_of past)
quiet_adds FoundWork true past s t = (refl, refl)
quiet_adds FoundWork false past s t = (refl, refl)
quiet_adds _ saw past s t = grind (arith, s, t)

quiet_mark : (how : Ending) (saw marked : Bool) (past : List (Event (List ℕ))) → (call_by how ≡ Send → ⊥) → (call_by how ≡ Take → ⊥) → (call_by how ≡ MarkCall → marked ≡ true) → ((call_by how ≡ MarkCall → ⊥) → marked ≡ false) → has_marked past ≡ false
    → marked ≡ has_marked (past_of how saw [] past)
quiet_mark Marked saw marked past s t on off e = on refl
quiet_mark FoundWork true marked past s t on off e = cc (off (λ i. cc), e)
quiet_mark FoundWork false marked past s t on off e = cc (off (λ i. cc), e)
quiet_mark _ saw marked past s t on off e = grind (arith, s, t, off (λ i. cc), e)

-- after a call that neither sends nor takes
pub quiet_call : {S : Type 0} (told : S → Option Told) (call : EndCall) (old new : Seen S) → (call ≡ Send → ⊥) → (call ≡ Take → ⊥) → (call ≡ Commit → ⊥) → Kept old new → Leaves old.state.machine new.state.machine → LeavesBy call old.state.machine new.state.machine
    → call_by new.state.machine.ended ≡ call → new.state.past ≡ past_of new.state.machine.ended new.state.machine.saw [] old.state.past → old.state.machine.marked ≡ false → IsLine told old → IsLine told new
quiet_call told call old new no_send no_take no_commit kept leaves after is past unmarked h =
    let how = new.state.machine.ended in
    let adds = quiet_adds how new.state.machine.saw old.state.past (λ e. no_send (sym is ∙ e)) (λ e. no_take (sym is ∙ e)) in
    let mark = quiet_mark how new.state.machine.saw new.state.machine.marked old.state.past (λ e. no_send (sym is ∙ e)) (λ e. no_take (sym is ∙ e)) (λ e. after.marked (sym is ∙ e)) (λ no. after.unmarked (λ e. no (is ∙ e))) (sym h.mark ∙ unmarked) in
    let idle = after.idle no_send no_take in
    line_on told old new kept.pages kept.sent kept.got leaves.cells (ap is_busy_at idle, λ _. idle, λ _. idle) (after.start no_commit) (after.read no_take) (cc (past, adds.0)) (cc (past, adds.1)) (cc (past, mark)) h

-- a send adds its packet or nothing, and no mark
sent_adds : (how : Ending) (saw : Bool) (p : List ℕ) (past : List (Event (List ℕ))) → call_by how ≡ Send
    → (got_of (past_of how saw p past) ≡ got_of past) × (has_marked (past_of how saw p past) ≡ has_marked past) × (sent_of (past_of how saw p past) ≡ cond (is_sent how) (sent_of past ++ p ∷ []) (sent_of past))
sent_adds how saw p past e = grind (arith, e)

pub rests_by : (b : Bool) → is_busy_at (cond b Stopped Idle) ≡ false
rests_by true = refl
rests_by false = refl

-- after a send, behind page words that were stored
pub sent_line : {S : Type 0} (told : S → Option Told) (old new : Seen S) (p : List ℕ) → is_some (told new.seat) ≡ is_some (told old.seat) → (is_some (told old.seat) ≡ true → new.state.machine.stage ≡ Idle)
    → Leaves old.state.machine new.state.machine → call_by new.state.machine.ended ≡ Send
    → LeavesBy Send old.state.machine new.state.machine → new.state.past ≡ past_of new.state.machine.ended new.state.machine.saw p old.state.past → new.state.sent ≡ sent_by new.state.machine old.state.sent p → new.state.got ≡ old.state.got → new.state.machine.cells ≡ old.state.machine.cells
    → Carried old.state.pages new.state.pages → (IsClear new.state.pages → new.state.pages.count ≢ 0 → (packets_of new.state.pages.sent ≡ new.state.sent) × (packets_of new.state.pages.got ≡ new.state.got))
    → (new.state.pages.count ≡ 0 → (new.state.pages.sent ≡ []) × (new.state.pages.got ≡ [])) → old.state.machine.marked ≡ false → IsLine told old → IsLine told new
sent_line told old new p tells honest leaves call after past sent got cells pages items none unmarked h =
    let clear : IsClear new.state.pages = λ some. pages.due ∙ h.pages.clear (λ z. some (pages.count ∙ z)) in
    let adds = sent_adds new.state.machine.ended new.state.machine.saw p old.state.past call in
    record {
      rests = ap is_busy_at leaves.stage ∙ rests_by (is_broken new.state.machine.ended);
      dozes = λ e. cc (after.awake (λ e. cc) (λ e. cc), e);
      honest = λ e. honest (sym tells ∙ e);
      sent = cc (past, adds.2, h.sent, sent);
      got = cc (past, adds.0, h.got, got);
      packets = λ i q e. h.packets i q (ap (λ l. slice_get l i) (sym got) ∙ e);
      committed = after.start (λ e. cc) ∙ (h.committed ∙ sym (after.read (λ e. cc)));
      mark = cc (after.unmarked (λ e. cc), unmarked, h.mark, past, adds.1);
      size = subst (λ n. (512 ≤ n) × (n ≤ 16777216)) (sym cells) h.size;
      pages = record { clear = clear; items = items clear; none = none; few = λ i. subst (λ (is : List Item). length (words_at is i) ≤ 512) (sym pages.got) (h.pages.few i); held = pages.held h.pages.held; listed = pages.listed ∙ (h.pages.listed ∙ sym pages.count) };
    }

abbrev tried_stage : Tried → Stage
tried_stage TriedBroken = Stopped
tried_stage _ = Idle

-- how a send ended, by its answer
stage_tried : (how : Ending) (m : EndMachine) (r : Result Signalled SendRefusal) → call_by how ≡ Send → r ≡ send_answer how m → cond (is_broken how) Stopped Idle ≡ tried_stage (tried_of r)
stage_tried SentQuiet m r call is = cc (is)
stage_tried SentRaised m r call is = cc (is)
stage_tried Full m r call is = cc (is)
stage_tried _ m r call is = cc

tries_at : {S : Type 0} (t : Tried) (e : Line S) → e.state.machine.stage ≡ tried_stage t → e.state.machine.asleep ≡ false → e.state.machine.marked ≡ false → Tries t e
tries_at TriedSent e at awake unmarked = record { idle = at; awake = awake; unmarked = unmarked }
tries_at TriedFull e at awake unmarked = record { idle = at; awake = awake; unmarked = unmarked }
tries_at TriedBroken e at awake unmarked = record { stopped = at; awake = awake; unmarked = unmarked }

pub tries : {S : Type 0} (old : EndMachine) (e : Line S) (r : Result Signalled SendRefusal) → Leaves old e.state.machine → call_by e.state.machine.ended ≡ Send → r ≡ send_answer e.state.machine.ended e.state.machine → e.state.machine.asleep ≡ false
    → e.state.machine.marked ≡ false → Tries (tried_of r) e
tries old e r leaves call is awake unmarked = tries_at (tried_of r) e (leaves.stage ∙ stage_tried e.state.machine.ended e.state.machine r call is) awake unmarked

pub was_sent : (how : Ending) (m : EndMachine) (r : Result Signalled SendRefusal) → call_by how ≡ Send → r ≡ send_answer how m → tried_of r ≡ TriedSent → is_sent how ≡ true
was_sent SentQuiet m r call is sent = refl
was_sent SentRaised m r call is sent = refl
was_sent _ m r call is sent = cc

pub not_sent : (how : Ending) (m : EndMachine) (r : Result Signalled SendRefusal) → call_by how ≡ Send → r ≡ send_answer how m → (tried_of r ≡ TriedSent → ⊥) → is_sent how ≡ false
not_sent SentQuiet m r call is none = absurd (none (cc (is)))
not_sent SentRaised m r call is none = absurd (none (cc (is)))
not_sent _ m r call is none = refl

pub full_tried : (how : Ending) (m : EndMachine) (r : Result Signalled SendRefusal) → call_by how ≡ Send → r ≡ send_answer how m → tried_of r ≡ TriedFull → how ≡ Full
full_tried Full m r call is full = refl
full_tried _ m r call is full = cc

pub honest_tried : (r : Result Signalled SendRefusal) → is_honest_send r ≡ true → tried_of r ≡ TriedBroken → ⊥
honest_tried r honest broken = grind (arith, honest, broken)

-- what stands last
pub last_is : {P : Type 0} (xs : List P) (p q : P) (i : ℕ) → i + 1 ≡ length (xs ++ p ∷ []) → slice_get (xs ++ p ∷ []) i ≡ Some q → q ≡ p
last_is [] p q zero e h = cc
last_is [] p q (suc i) e h = absurd (omega (arith, e))
last_is (x ∷ xs) p q zero e h = absurd (omega (arith, e, length-append xs (p ∷ [])))
last_is (x ∷ xs) p q (suc i) e h = last_is xs p q i (omega (arith, e)) h

-- how an arm ended, by what it found
pub arm_ended : (how : Ending) (found : Armed) (saw : Bool) → call_by how ≡ Arm → is_asleep found ≡ is_dozed how → how ≡ armed_by (look_of found saw)
arm_ended FoundWork Work true call is = refl
arm_ended FoundWork Work false call is = refl
arm_ended FellAsleep Asleep saw call is = refl
arm_ended _ found saw call is = grind (arith, call, is)

-- how an exchange of the signal ended, by its answer
pub poll_ended : (how : Ending) (up : Bool) → call_by how ≡ Poll → up ≡ not (is_dozed how) → how ≡ polled_by up
poll_ended how up call is = grind (arith, call, is)

-- an arm under way that waits for n bytes, or one that has ended: where it fell asleep it waits for them still. And an exchange of the signal
abbrev Waits : ℕ → Stage → Bool → ℕ → Type 0
Waits n Idle asleep want = asleep ≡ true → want ≡ n
Waits n ArmPending asleep want = (asleep ≡ false) × (want ≡ n)
Waits n ArmMask asleep want = (asleep ≡ false) × (want ≡ n)
Waits n ArmWrite asleep want = (asleep ≡ false) × (want ≡ n)
Waits n ArmRead asleep want = (asleep ≡ false) × (want ≡ n)
Waits n ArmMark asleep want = (asleep ≡ false) × (want ≡ n)
Waits n ArmUndoMask asleep want = asleep ≡ false
Waits n ArmUndoPending asleep want = asleep ≡ false
Waits n PollSignal asleep want = want ≡ n
Waits n PollMask asleep want = asleep ≡ false
Waits n PollPending asleep want = asleep ≡ false
Waits n _ asleep want = ⊥

step_waits : (m : EndMachine) (v n : ℕ) (st : Stage) → Waits n st m.asleep m.want → let x = fed_at st (record m { stage = st }) v in Waits n x.stage x.asleep x.want
step_waits m v n _ k = grind (arith, nat_tests)

-- what each step of a call keeps of the machine the call keeps
ran_keeps : (P : EndMachine → Type 0) → ((m : EndMachine) (v : ℕ) → P m → P (fed_at m.stage m v)) → (s t : EndState) (told told' : Option Told) (tale tale' : Tale) → Ran s t told told' tale tale' → P s.machine → P t.machine
ran_keeps P step s t told told' tale tale' ran first = subst (λ (u : EndState). P u.machine) (sym ran.state) (on ran.values)
  where
    on : (vs : List ℕ) → P (afters s vs).machine
    on [] = first
    on (v ∷ vs) = step (afters s vs).machine v (on vs)

-- a call that began with this wait leaves it to an end that is asleep
ran_waits : (n : ℕ) (s t : EndState) (told told' : Option Told) (tale tale' : Tale) → Waits n s.machine.stage s.machine.asleep s.machine.want → Ran s t told told' tale tale'
    → t.machine.stage ≡ Idle → t.machine.asleep ≡ true → t.machine.want ≡ n
ran_waits n s t told told' tale tale' waits ran idle =
    subst (λ (st : Stage). Waits n st t.machine.asleep t.machine.want) idle (ran_keeps (λ m. Waits n m.stage m.asleep m.want) (λ m v k. step_waits m v n m.stage k) s t told told' tale tale' ran waits)

-- what an arm waits for, where it fell asleep
pub arm_waits : (want : Option ℕ) (s t : EndState) (told told' : Option Told) (tale tale' : Tale) → s.machine.asleep ≡ false → Ran (entered s (arm_begun s.machine (want_of want)) []) t told told' tale tale'
    → t.machine.stage ≡ Idle → t.machine.asleep ≡ true → t.machine.want ≡ want_of want
arm_waits want s t told told' tale tale' awake ran =
    ran_waits (want_of want) (entered s (arm_begun s.machine (want_of want)) []) t told told' tale tale'
    (by_first (eqb (want_of want) 0) (awake, refl)) ran
  where
    by_first : (b : Bool) → (s.machine.asleep ≡ false) × (want_of want ≡ want_of want) → Waits (want_of want) (cond b ArmMask ArmPending) s.machine.asleep (want_of want)
    by_first true k = k
    by_first false k = k

-- and an end that sleeps on waits for what it waited for
pub poll_waits : (s t : EndState) (told told' : Option Told) (tale tale' : Tale) → Ran (entered s (poll_begun s.machine) []) t told told' tale tale'
    → t.machine.stage ≡ Idle → t.machine.asleep ≡ true → t.machine.want ≡ s.machine.want
poll_waits s t told told' tale tale' ran = ran_waits s.machine.want (entered s (poll_begun s.machine) []) t told told' tale tale' refl ran

-- what a mark under way, or one that has ended, keeps of the last send that had too little room
abbrev Marks : ℕ → ℕ → EndMachine → Type 0
Marks room words m = (m.room ≡ room) × (m.words ≡ words)

abbrev MarksAt : ℕ → ℕ → Stage → EndMachine → Type 0
MarksAt room words Idle m = Marks room words m
MarksAt room words MarkStore m = Marks room words m
MarksAt room words MarkRaise m = Marks room words m
MarksAt room words _ m = ⊥

step_marks : (m : EndMachine) (v room words : ℕ) (st : Stage) → MarksAt room words st m → let x = fed_at st (record m { stage = st }) v in MarksAt room words x.stage x
step_marks m v room words _ k = grind (arith, nat_tests)

pub mark_keeps : (s t : EndState) (told told' : Option Told) (tale tale' : Tale) → Ran (entered s (mark_begun s.machine) []) t told told' tale tale'
    → t.machine.stage ≡ Idle → (t.machine.room ≡ s.machine.room) × (t.machine.words ≡ s.machine.words)
mark_keeps s t told told' tale tale' ran idle =
    let room = s.machine.room in
    let words = s.machine.words in
    subst (λ (st : Stage). MarksAt room words st t.machine) idle (ran_keeps (λ m. MarksAt room words m.stage m) (λ m v k. step_marks m v room words m.stage k) (entered s (mark_begun s.machine) []) t told told' tale tale' ran (refl, refl))

-- what a send of so many words found that had too little room
abbrev Found : ℕ → EndMachine → Type 0
Found n m = m.ended ≡ Full → (m.room ≤ n + 1) × (m.words ≡ n)

abbrev SendsAt : ℕ → Stage → EndMachine → Type 0
SendsAt n Idle m = Found n m
SendsAt n Stopped m = Found n m
SendsAt n SendRead m = m.len ≡ n
SendsAt n SendCell m = Unit {0}
SendsAt n SendWrite m = Unit {0}
SendsAt n SendMask m = Unit {0}
SendsAt n SendLook m = Unit {0}
SendsAt n SendRaise m = Unit {0}
SendsAt n _ m = ⊥

step_sends : (m : EndMachine) (v n : ℕ) (st : Stage) → SendsAt n st m → let x = fed_at st (record m { stage = st }) v in SendsAt n x.stage x
step_sends m v n _ k = grind (arith, nat_tests)

pub send_finds : (n : ℕ) (p : List ℕ) (s t : EndState) (told told' : Option Told) (tale tale' : Tale) → Ran (entered s (send_begun s.machine n) p) t told told' tale tale'
    → t.machine.stage ≡ Idle → t.machine.ended ≡ Full → (t.machine.room ≤ n + 1) × (t.machine.words ≡ n)
send_finds n p s t told told' tale tale' ran idle =
    subst (λ (st : Stage). SendsAt n st t.machine) idle (ran_keeps (λ m. SendsAt n m.stage m) (λ m v k. step_sends m v n m.stage k) (entered s (send_begun s.machine n) p) t told told' tale tale' ran refl)

-- the pages of a new end
few_both : (xs ys : List Owner) → AreFew xs → AreFew ys → AreFew (xs ++ ys)
few_both [] ys h k = k
few_both (x ∷ xs) ys h k = (h.0, few_both xs ys h.1 k)

few_owners : (x : Side) (c : ℕ) → AreFew (first_owners x c)
few_owners x zero = tt
few_owners x (suc c) = few_both (first_owners x c) (first_owner x ((layout 0).home c) ∷ []) (few_owners x c) (few_home x ((layout 0).home c), tt)
  where
    few_home : (x y : Side) → lent_words (first_owner x y) ≤ 512
    few_home x y = grind arith

-- a new end is between two calls
pub new_line : {S : Type 0} (told : S → Option Told) (e : Seen S) → e.state ≡ paged_end e.state.pages.count e.state.machine.cells e.state.machine.side → (512 ≤ e.state.machine.cells) × (e.state.machine.cells ≤ 16777216) → IsLine told e
new_line told e fresh size = record {
  rests = ap (λ s. is_busy_at s.machine.stage) fresh;
  dozes = λ _. ap (λ s. s.machine.stage) fresh;
  honest = λ _. ap (λ s. s.machine.stage) fresh;
  sent = ap (λ s. sent_of s.past) fresh ∙ sym (ap (λ s. s.sent) fresh);
  got = ap (λ s. got_of s.past) fresh ∙ sym (ap (λ s. s.got) fresh);
  packets = λ i p at. let none : None ≡ Some p = ap (λ s. slice_get s.got i) (sym fresh) ∙ at in cc (none);
  committed = ap (λ s. s.machine.start) fresh ∙ sym (ap (λ s. s.machine.read) fresh);
  mark = ap (λ s. s.machine.marked) fresh ∙ sym (ap (λ s. has_marked s.past) fresh);
  size = size;
  pages = record {
    clear = λ _. ap (λ s. s.pages.due) fresh;
    items = λ _. (ap (λ s. packets_of s.pages.sent) fresh ∙ sym (ap (λ s. s.sent) fresh), ap (λ s. packets_of s.pages.got) fresh ∙ sym (ap (λ s. s.got) fresh));
    none = λ _. (ap (λ s. s.pages.sent) fresh, ap (λ s. s.pages.got) fresh);
    few = λ i. omega (arith, ap (λ s. length (words_at s.pages.got i)) fresh, ap length (no_words i));
    held = subst (λ s. AreFew s.pages.owners) (sym fresh) (few_owners e.state.machine.side e.state.pages.count);
    listed = ap (λ s. length s.pages.owners) fresh ∙ first_long e.state.machine.side e.state.pages.count;
  };
}
