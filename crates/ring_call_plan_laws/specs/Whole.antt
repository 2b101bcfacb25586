-- Whole calls by plans: what the caller hears, what the calls answer and leave, and the accesses that the caller makes.
use Rattle.std.specs.Prelude.{◌≡◌, ℕ, ◌+◌, ◌*◌, ◌%◌, ◌<◌, ◌^◌, Bool, false, ◌==◌, cond, List, [], ◌∷◌, length, slice_index}
use Rattle.io_edge.specs.declared.side.Side.{Side}
use Rattle.ring_machine.specs.declared.machine.EndMachine.{EndMachine}
use Rattle.ring_machine.specs.declared.place.Place.TheVariants.{Write, Read, Mask, Pending, Feature, Cell, Mark}
use Rattle.ring_machine.specs.declared.place.Op.TheVariants.{Store, Raise, TakeSignal, StoreMark}
use Rattle.ring_machine.specs.declared.state.EndState.{EndState}
use Rattle.ring_machine.specs.Places.{out_of, in_of, peer_of, len8_of}
use Rattle.ring_machine.specs.States.{afters, entered, Begins}
use Rattle.ring_machine.specs.Steps.{is_busy_at, send_begun, take_begun, commit_begun, arm_begun, poll_begun, mark_begun}
use Rattle.ring_call_plan.specs.declared.end.PlanEnd.{PlanEnd}
use Rattle.ring_call_plan.specs.declared.end.SendPlan.{SendPlan}
use Rattle.ring_call_plan.specs.Answers.{no_call, planned, sent_raised, committed_raised, found_work, found_work_room, woke, woke_room, took, marked, number_of_ending}
use Rattle.ring_call_plan.specs.Numbers.{begin_says, send_end, send_plan_of, sent_says, sent_end, take_says, take_end, take_at, head_says, head_end, take_plan_of, commit_says, commit_end, commit_index, given_says, given_end, arm_says, arm_end, has_room, armed_says, armed_end, polled_says, polled_end, marked_end}
use Rattle.ring_call_plan.specs.Shown.{Shows, AtRest}
use Rattle.ring_call_plan_laws.specs.Accesses.{Access, loaded, made, answers, AreStepsFrom, stores_after, loads_after}

pub data PlanCall : Type 0 where
  -- a send of a packet, where the read index is this, then the mask, and the read index again, which counts where mask is 0
  SendCall : List ℕ → ℕ → ℕ → ℕ → PlanCall
  -- a take, where the write index is this, then the first word of the packet, and its other words, the last one first
  TakeCall : ℕ → ℕ → List ℕ → PlanCall
  -- a commit, where the feature bits are these, then pending, and the write index
  CommitCall : ℕ → ℕ → ℕ → PlanCall
  -- an arm that waits for so much room, where the write index is this, then the read index, and the peer's mark
  ArmCall : ℕ → ℕ → ℕ → ℕ → PlanCall
  -- a poll that finds the signal so
  PollCall : ℕ → PlanCall
  MarkCall : PlanCall

-- what the first call of each answers: `no_call` where it is refused
abbrev pub begins_as : PlanEnd → PlanCall → ℕ
begins_as e (SendCall p v x w) = begin_says e (slice_index p 0) v
begins_as e (TakeCall v h ws) = take_says e v
begins_as e (CommitCall f q v) = commit_says e
begins_as e (ArmCall want w r k) = arm_says e want
begins_as e (PollCall v) = polled_says e v
begins_as e MarkCall = commit_says e

-- what the last of its calls answers; a packet is taken where its words are loaded
abbrev pub answer_of : PlanEnd → PlanCall → ℕ
answer_of e (SendCall p v x w) = cond (begin_says e (slice_index p 0) v == planned) (sent_says (send_end e (len8_of (slice_index p 0)) v) x w) (begin_says e (slice_index p 0) v)
answer_of e (TakeCall v h ws) = cond (take_says e v == planned) (cond (head_says (take_end e v) h == planned) took (head_says (take_end e v) h)) (take_says e v)
answer_of e (CommitCall f q v) = given_says (commit_end e) f q v
answer_of e (ArmCall want w r k) = armed_says (arm_end e want) w r k
answer_of e (PollCall v) = polled_says e v
answer_of e MarkCall = cond (commit_says e == planned) marked no_call

-- the end that the calls leave
abbrev pub end_of : PlanEnd → PlanCall → PlanEnd
end_of e (SendCall p v x w) = cond (begin_says e (slice_index p 0) v == planned) (sent_end (send_end e (len8_of (slice_index p 0)) v)) (send_end e (len8_of (slice_index p 0)) v)
end_of e (TakeCall v h ws) = cond (take_says e v == planned) (head_end (take_end e v) h) (take_end e v)
end_of e (CommitCall f q v) = given_end (commit_end e)
end_of e (ArmCall want w r k) = armed_end (arm_end e want) w r k
end_of e (PollCall v) = polled_end e v
end_of e MarkCall = marked_end e

-- what the caller hands on: a packet has the length that its first word says, a header word has 32 bits, and a take that is planned loads all words
abbrev pub IsHeard : PlanEnd → PlanCall → Type 0
IsHeard e (SendCall p v x w) = (length p ≡ len8_of (slice_index p 0)) × (x < 2 ^ 32) × (w < 2 ^ 32)
IsHeard e (TakeCall v h ws) = answer_of e (TakeCall v h ws) ≡ took → length ws + 1 ≡ len8_of h
IsHeard e (CommitCall f q v) = (f < 2 ^ 32) × (q < 2 ^ 32) × (v < 2 ^ 32)
IsHeard e (ArmCall want w r k) = w < 2 ^ 32
IsHeard e (PollCall v) = Unit {0}
IsHeard e MarkCall = Unit {0}

-- the machine that begins the call, and the packet that it sends
abbrev pub begun_by : EndMachine → PlanCall → EndMachine
begun_by m (SendCall p v x w) = send_begun m (length p)
begun_by m (TakeCall v h ws) = take_begun m
begun_by m (CommitCall f q v) = commit_begun m
begun_by m (ArmCall want w r k) = arm_begun m want
begun_by m (PollCall v) = poll_begun m
begun_by m MarkCall = mark_begun m

abbrev pub packet_by : PlanCall → List ℕ
packet_by (SendCall p v x w) = p
packet_by _ = []

-- The accesses that the caller makes, the last one first. A send loads read, stores the packet as planned, the trailer and write, loads mask, and read again where mask is 0, and
-- raises the peer where it is told to
abbrev pub send_stores : Side → SendPlan → List ℕ → ℕ → List Access
send_stores y q p v = made (Store (Write (out_of y)) q.write) ∷ made (Store (Cell (out_of y) q.trailer_at) q.trailer) ∷ stores_after (loaded (Read (out_of y)) v ∷ []) (out_of y) q.at q.first p (length p)

abbrev pub raise_after : Side → Bool → List Access → List Access
raise_after y b before = cond b (made (Raise (peer_of y)) ∷ before) before

abbrev pub send_accesses : Side → PlanEnd → List ℕ → ℕ → ℕ → ℕ → List Access
send_accesses y e p v x w =
    cond (begin_says e (slice_index p 0) v == planned)
    (raise_after y (sent_says (send_end e (len8_of (slice_index p 0)) v) x w == sent_raised)
    (cond (x == 0)
    (loaded (Read (out_of y)) w ∷ loaded (Mask (out_of y)) x ∷ send_stores y (send_plan_of e (len8_of (slice_index p 0))) p v)
    (loaded (Mask (out_of y)) x ∷ send_stores y (send_plan_of e (len8_of (slice_index p 0))) p v)))
    (loaded (Read (out_of y)) v ∷ [])

-- A take loads write, the first cell, and the rest of the packet as planned
abbrev pub take_accesses : Side → PlanEnd → ℕ → ℕ → List ℕ → List Access
take_accesses y e v h ws =
    cond (take_says e v == planned)
    (cond (head_says (take_end e v) h == planned)
    (loads_after (loaded (Cell (in_of y) (take_at e v 0)) h ∷ loaded (Write (in_of y)) v ∷ []) (in_of y) (take_plan_of (take_end e v) h).at (take_plan_of (take_end e v) h).first ws)
    (loaded (Cell (in_of y) (take_at e v 0)) h ∷ loaded (Write (in_of y)) v ∷ []))
    (loaded (Write (in_of y)) v ∷ [])

-- A commit stores read, and loads feature, pending where bit 0 of it is set, and write where pending isn't 0
abbrev pub commit_accesses : Side → PlanEnd → ℕ → ℕ → ℕ → List Access
commit_accesses y e f q v =
    raise_after y (given_says (commit_end e) f q v == committed_raised)
    (cond (f % 2 == 1)
    (cond (q == 0)
    (loaded (Pending (in_of y)) q ∷ loaded (Feature (in_of y)) f ∷ made (Store (Read (in_of y)) (commit_index e 0)) ∷ [])
    (loaded (Write (in_of y)) v ∷ loaded (Pending (in_of y)) q ∷ loaded (Feature (in_of y)) f ∷ made (Store (Read (in_of y)) (commit_index e 0)) ∷ []))
    (loaded (Feature (in_of y)) f ∷ made (Store (Read (in_of y)) (commit_index e 0)) ∷ []))

-- an end that is awake again stores mask 1, and pending 0 where it waited for room
abbrev pub wakes_after : Side → ℕ → ℕ → ℕ → List Access → List Access
wakes_after y plain room a before =
    cond (a == room)
    (made (Store (Pending (out_of y)) 0) ∷ made (Store (Mask (in_of y)) 1) ∷ before)
    (cond (a == plain) (made (Store (Mask (in_of y)) 1) ∷ before) before)

-- An arm stores pending where it wants room, and mask 0, and loads write, read where it wants room and no packet is there, and the peer's mark where neither is
abbrev pub arm_stores : Side → ℕ → List Access
arm_stores y want = cond (want == 0) (made (Store (Mask (in_of y)) 0) ∷ []) (made (Store (Mask (in_of y)) 0) ∷ made (Store (Pending (out_of y)) want) ∷ [])

abbrev pub arm_looks : Side → PlanEnd → ℕ → ℕ → ℕ → List Access → List Access
arm_looks y e w r k before =
    cond (w == 8 * e.read)
    (cond (e.want == 0)
    (loaded (Mark (peer_of y)) k ∷ loaded (Write (in_of y)) w ∷ before)
    (cond (has_room e r)
    (loaded (Read (out_of y)) r ∷ loaded (Write (in_of y)) w ∷ before)
    (loaded (Mark (peer_of y)) k ∷ loaded (Read (out_of y)) r ∷ loaded (Write (in_of y)) w ∷ before)))
    (loaded (Write (in_of y)) w ∷ before)

-- the accesses of each call
abbrev pub accesses : Side → PlanEnd → PlanCall → List Access
accesses y e (SendCall p v x w) = send_accesses y e p v x w
accesses y e (TakeCall v h ws) = take_accesses y e v h ws
accesses y e (CommitCall f q v) = commit_accesses y e f q v
accesses y e (ArmCall want w r k) = wakes_after y found_work found_work_room (armed_says (arm_end e want) w r k) (arm_looks y (arm_end e want) w r k (arm_stores y want))
accesses y e (PollCall v) = wakes_after y woke woke_room (polled_says e v) (record { op = TakeSignal y; gave = v } ∷ [])
accesses y e MarkCall = made (Raise (peer_of y)) ∷ made (StoreMark y) ∷ []

-- the number of an ending that an answer says, whether the end waited for room or not
abbrev pub plain : ℕ → ℕ
plain a = cond (a == found_work_room) found_work (cond (a == woke_room) woke a)

-- The whole call c of an end e that shows the machine of the state s. It begins a call of that state. The caller's accesses are its steps, one by one and in order, and with what
-- they gave they are a run of it. The call is over then; its answer says how it ended, and the end that is left shows the machine of the state where it ended
pub record IsCallOf (s : EndState) (e : PlanEnd) (c : PlanCall) : Type 0 where
  pub begins : Begins s (begun_by s.machine c) (packet_by c)
  pub steps : AreStepsFrom (entered s (begun_by s.machine c) (packet_by c)) (accesses s.machine.side e c)
  pub after : EndState
  pub after_is : after ≡ afters (entered s (begun_by s.machine c) (packet_by c)) (answers (accesses s.machine.side e c))
  pub over : is_busy_at after.machine.stage ≡ false
  pub says : plain (answer_of e c) ≡ number_of_ending after.machine.ended
  pub shows : Shows (end_of e c) after.machine
  pub rests : AtRest after
