-- What the calls answer and leave, in the numbers of the end that the caller keeps.
use Rattle.std.specs.Prelude.{ℕ, ◌+◌, ◌-◌, ◌*◌, ◌%◌, Bool, true, ◌==◌, ◌&&◌, ◌||◌, not, cond, leb, ltb}
use Rattle.ring_machine.specs.Places.{is_index, cell_of, ahead, used, free, trailer, len8_of, offset8_of, raises_on_commit}
use Rattle.ring_call_plan.specs.Answers.{no_call, planned, sent_quiet, sent_raised, full, bad_peer, empty, bad_index, bad_length, bad_offset, committed_quiet, committed_raised, fell_asleep, found_work, found_work_room, no_signal, woke, woke_room}
use Rattle.ring_call_plan.specs.declared.end.PlanEnd.{PlanEnd}
use Rattle.ring_call_plan.specs.declared.end.SendPlan.{SendPlan}
use Rattle.ring_call_plan.specs.declared.end.TakePlan.{TakePlan}

-- the bytes of a ring: whole pages, up to 128 MB
abbrev pub is_size : ℕ → Bool
is_size d = (d % 4096 == 0) && (leb 4096 d && leb d 134217728)

-- the numbers of an end lie in their ranges
abbrev pub is_formed : PlanEnd → Bool
is_formed e = leb e.cells 16777216 && (ltb e.write e.cells && (ltb e.read e.cells && (ltb e.start e.cells && (ltb e.seen e.cells && ltb e.len e.cells))))

-- an end in form is in this state
abbrev pub is_at : ℕ → PlanEnd → Bool
is_at k e = (e.state == k) && is_formed e

-- of a run of k cells from cell i of a ring of n on, those before the ring's end
abbrev pub before_wrap : ℕ → ℕ → ℕ → ℕ
before_wrap n i k = cond (leb k (n - i)) k (n - i)

-- the payload of the packet with this first word lies in it
abbrev pub has_offset : ℕ → Bool
has_offset h = leb 2 (offset8_of h) && leb (offset8_of h) (len8_of h)

-- Sends. A packet of k words fits where it has a descriptor, and its trailer fits too
abbrev pub fits : PlanEnd → ℕ → Bool
fits e k = leb 2 k && ltb (k + 1) e.cells

abbrev pub can_send : PlanEnd → ℕ → Bool
can_send e k = is_at 0 e && fits e k

-- the room that the read index v leaves isn't more than a packet of k words and its trailer need
abbrev pub is_full : PlanEnd → ℕ → ℕ → Bool
is_full e k v = leb (free e.cells (cell_of v) e.write) (k + 1)

abbrev pub send_says : PlanEnd → ℕ → ℕ → ℕ
send_says e k v = cond (can_send e k) (cond (is_index e.cells v) (cond (is_full e k v) full planned) bad_peer) no_call

-- what a send of a packet with the first word h answers
abbrev pub begin_says : PlanEnd → ℕ → ℕ → ℕ
begin_says e h v = cond (has_offset h) (send_says e (len8_of h) v) no_call

abbrev pub send_end : PlanEnd → ℕ → ℕ → PlanEnd
send_end e k v =
    cond (can_send e k)
    (cond (is_index e.cells v) (cond (is_full e k v) (record e { len = k; seen = cell_of v }) (record e { len = k; seen = cell_of v; state = 2 })) (record e { len = k; state = 1 }))
    e

abbrev pub send_plan_of : PlanEnd → ℕ → SendPlan
send_plan_of e k = record {
  at = 8 * e.write;
  first = before_wrap e.cells e.write k;
  second = k - before_wrap e.cells e.write k;
  trailer_at = 8 * ahead e.cells e.write k;
  trailer = trailer e.write;
  write = 8 * ahead e.cells e.write (k + 1);
}

abbrev pub send_planned : PlanEnd → ℕ → ℕ → SendPlan → SendPlan
send_planned e k v q = cond (can_send e k) (cond (is_index e.cells v) (cond (is_full e k v) q (send_plan_of e k)) q) q

-- the end of a send
abbrev pub can_end_send : PlanEnd → Bool
can_end_send e = is_at 2 e && ltb (e.len + 1) e.cells

abbrev pub sent_says : PlanEnd → ℕ → ℕ → ℕ
sent_says e mask v = cond (can_end_send e) (cond (mask == 0) (cond (v == 8 * e.write) sent_raised sent_quiet) sent_quiet) no_call

abbrev pub sent_end : PlanEnd → PlanEnd
sent_end e = cond (can_end_send e) (record e { write = ahead e.cells e.write (e.len + 1); state = 0 }) e

-- Takes
abbrev pub take_says : PlanEnd → ℕ → ℕ
take_says e v = cond (is_at 0 e) (cond (is_index e.cells v) (cond (cell_of v == e.read) empty planned) bad_index) no_call

abbrev pub take_end : PlanEnd → ℕ → PlanEnd
take_end e v =
    cond (is_at 0 e)
    (cond (is_index e.cells v) (cond (cell_of v == e.read) (record e { len = 0 }) (record e { len = 0; seen = cell_of v; state = 3 })) (record e { len = 0; state = 1 }))
    e

abbrev pub take_at : PlanEnd → ℕ → ℕ → ℕ
take_at e v at = cond (is_at 0 e) (cond (is_index e.cells v) (cond (cell_of v == e.read) at (8 * e.read)) at) at

-- the length that a packet's first word names is in form
abbrev pub has_length : PlanEnd → ℕ → Bool
has_length e h = leb 2 (len8_of h) && ltb (len8_of h) (used e.cells e.read e.seen)

abbrev pub head_says : PlanEnd → ℕ → ℕ
head_says e h = cond (is_at 3 e) (cond (has_length e h) (cond (has_offset h) planned bad_offset) bad_length) no_call

abbrev pub head_end : PlanEnd → ℕ → PlanEnd
head_end e h =
    cond (is_at 3 e)
    (cond (has_length e h) (cond (has_offset h) (record e { len = len8_of h; read = ahead e.cells e.read (len8_of h + 1); state = 0 }) (record e { state = 1 })) (record e { state = 1 }))
    e

abbrev pub take_plan_of : PlanEnd → ℕ → TakePlan
take_plan_of e h = record {
  at = 8 * ahead e.cells e.read 1;
  first = before_wrap e.cells (ahead e.cells e.read 1) (len8_of h - 1);
  second = len8_of h - 1 - before_wrap e.cells (ahead e.cells e.read 1) (len8_of h - 1);
  len = len8_of h;
  offset = offset8_of h;
}

abbrev pub head_planned : PlanEnd → ℕ → TakePlan → TakePlan
head_planned e h q = cond (is_at 3 e) (cond (has_length e h) (cond (has_offset h) (take_plan_of e h) q) q) q

-- Commits
abbrev pub commit_says : PlanEnd → ℕ
commit_says e = cond (is_at 0 e) planned no_call

abbrev pub commit_end : PlanEnd → PlanEnd
commit_end e = cond (is_at 0 e) (record e { len = 0; state = 4 }) e

abbrev pub commit_index : PlanEnd → ℕ → ℕ
commit_index e i = cond (is_at 0 e) (8 * e.read) i

-- the commit makes the room that the producer waits for
abbrev pub gives_room : PlanEnd → ℕ → ℕ → Bool
gives_room e pending v = is_index e.cells v && raises_on_commit (8 * e.cells) v (8 * e.start) (8 * e.read) pending

abbrev pub given_says : PlanEnd → ℕ → ℕ → ℕ → ℕ
given_says e feature pending v = cond (is_at 4 e) (cond (feature % 2 == 1) (cond (pending == 0) committed_quiet (cond (gives_room e pending v) committed_raised committed_quiet)) committed_quiet) no_call

abbrev pub given_end : PlanEnd → PlanEnd
given_end e = cond (is_at 4 e) (record e { start = e.read; state = 0 }) e

-- Arms
abbrev pub can_arm : PlanEnd → ℕ → Bool
can_arm e want = is_at 0 e && ((e.start == e.read) && ((want == 0) || (leb 24 want && ltb want (8 * e.cells))))

abbrev pub arm_says : PlanEnd → ℕ → ℕ
arm_says e want = cond (can_arm e want) planned no_call

abbrev pub arm_end : PlanEnd → ℕ → PlanEnd
arm_end e want = cond (can_arm e want) (record e { len = 0; want = want; state = 5 }) e

-- a read index in no form counts as room
abbrev pub has_room : PlanEnd → ℕ → Bool
has_room e r = not (is_index e.cells r) || ltb e.want (8 * free e.cells (cell_of r) e.write)

abbrev pub finds_work : PlanEnd → ℕ → ℕ → ℕ → Bool
finds_work e w r mark = cond (w == 8 * e.read) (cond (e.want == 0) (not (mark == 0)) (has_room e r || not (mark == 0))) true

abbrev pub armed_says : PlanEnd → ℕ → ℕ → ℕ → ℕ
armed_says e w r mark = cond (is_at 5 e) (cond (finds_work e w r mark) (cond (e.want == 0) found_work found_work_room) fell_asleep) no_call

abbrev pub armed_end : PlanEnd → ℕ → ℕ → ℕ → PlanEnd
armed_end e w r mark = cond (is_at 5 e) (cond (finds_work e w r mark) (record e { want = 0; state = 0 }) (record e { state = 6 })) e

-- Polls, and the mark
abbrev pub polled_says : PlanEnd → ℕ → ℕ
polled_says e v = cond (is_at 6 e) (cond (v == 0) no_signal (cond (e.want == 0) woke woke_room)) no_call

abbrev pub polled_end : PlanEnd → ℕ → PlanEnd
polled_end e v = cond (is_at 6 e) (cond (v == 0) (record e { len = 0 }) (record e { len = 0; want = 0; state = 0 })) e

abbrev pub marked_end : PlanEnd → PlanEnd
marked_end e = cond (is_at 0 e) (record e { len = 0; state = 7 }) e
