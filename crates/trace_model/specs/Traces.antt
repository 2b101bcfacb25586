-- Runs of the two ends of a channel, as lines say them.
use Rattle.std.specs.Prelude.{◌≡◌, ◌≢◌, ℕ, ◌+◌, ◌/◌, ◌<◌, Bool, true, false, List, [], ◌∷◌, ◌++◌, length, Some, count_by}
use Rattle.io_edge.specs.declared.side.Side.{Side}
use Rattle.io_edge.specs.declared.side.Side.TheVariants.{Guest, Host}
use Rattle.ring_machine.specs.declared.place.Op.{Op}
use Rattle.ring_machine.specs.declared.machine.EndMachine.{EndMachine}
use Rattle.ring_machine.specs.declared.machine.Stage.TheVariants.{Idle as IsIdle}
use Rattle.ring_machine.specs.declared.state.EndState.{EndState}
use Rattle.ring_machine.specs.Steps.{machine_new, next_of, is_busy_at, send_begun, take_begun, commit_begun, arm_begun, poll_begun, mark_begun, peer_mark_begun}
use Rattle.ring_machine.specs.States.{IsPacket, IsAwake, resting, entered, after}
use Rattle.ring_machine.specs.Endings.{IsWant, want_of}
use Rattle.ring_core.specs.Told.{opening, written, answer_in}
use Rattle.trace_model.specs.declared.what.TraceCall.{TraceCall}
use Rattle.trace_model.specs.declared.what.TraceCall.TheVariants.{Send, Take, Commit, Arm, Poll, Mark, PeerMark}
use Rattle.trace_model.specs.declared.what.TraceWhat.{TraceWhat}
use Rattle.trace_model.specs.declared.what.TraceWhat.TheVariants.{Call, Step}
use Rattle.trace_model.specs.declared.verdict.WrongWhy.{WrongWhy}
use Rattle.trace_model.specs.declared.verdict.WrongWhy.TheVariants.{Busy, Condition, Idle, Step as WrongStep, Value}
use Rattle.trace_model.specs.declared.verdict.Verdict.{Verdict}
use Rattle.trace_model.specs.declared.verdict.Verdict.TheVariants.{Run, Wrong}

-- a line that says something, and its number
pub record TraceLine : Type 0 where
  pub number : ℕ
  pub what : TraceWhat

-- the words of a channel, and its two ends
pub record Moment : Type 0 where
  pub words : List ℕ
  pub guest : EndState
  pub host : EndState

abbrev pub end_at : Moment → Side → EndState
end_at m Guest = m.guest
end_at m Host = m.host

abbrev pub with_end_at : Side → EndState → Moment → Moment
with_end_at Guest e m = record m { guest = e }
with_end_at Host e m = record m { host = e }

-- a new channel whose rings have d bytes of data, and no data pages
abbrev pub opened_at : ℕ → Moment
opened_at d = record { words = opening (d / 8); guest = resting (machine_new Guest (d / 8)) [] [] []; host = resting (machine_new Host (d / 8)) [] [] [] }

-- the machine once it has begun a call, and the packet of a send
abbrev pub begun_by : TraceCall → EndMachine → EndMachine
begun_by (Send p) m = send_begun m (length p)
begun_by Take m = take_begun m
begun_by Commit m = commit_begun m
begun_by (Arm want) m = arm_begun m (want_of want)
begun_by Poll m = poll_begun m
begun_by Mark m = mark_begun m
begun_by PeerMark m = peer_mark_begun m

abbrev pub packet_by : TraceCall → List ℕ
packet_by (Send p) = p
packet_by Take = []
packet_by Commit = []
packet_by (Arm want) = []
packet_by Poll = []
packet_by Mark = []
packet_by PeerMark = []

-- The call's condition. A poll is for an end that is asleep, all else for one that is awake. A packet fits into its ring with its trailer. An arm comes where
-- all that was taken is committed, and waits for the room of a packet that fits
abbrev pub MayCall : TraceCall → EndState → Type 0
MayCall (Send p) e = IsAwake e × IsPacket p × (length p + 1 < e.machine.cells)
MayCall Take e = IsAwake e
MayCall Commit e = IsAwake e
MayCall (Arm want) e = IsAwake e × (e.machine.start ≡ e.machine.read) × IsWant e.machine.cells want
MayCall Poll e = (e.machine.stage ≡ IsIdle) × (e.machine.asleep ≡ true)
MayCall Mark e = IsAwake e
MayCall PeerMark e = IsAwake e

-- the next step of the end x at this moment is this one, and on the words as they are it answers v
pub record MakesStep (x : Side) (op : Op) (v : ℕ) (m : Moment) : Type 0 where
  pub next : next_of (end_at m x).machine (end_at m x).packet ≡ Some op
  pub answer : answer_in (end_at m x).machine.cells op m.words ≡ v

-- From one moment to the next. An end begins a call whose condition holds, and no word changes; or it makes its next step, which changes the words as it says,
-- and goes on with the answer
abbrev pub LineLeads : TraceWhat → Moment → Moment → Type 0
LineLeads (Call x c) m n = MayCall c (end_at m x) × (n ≡ with_end_at x (entered (end_at m x) (begun_by c (end_at m x).machine) (packet_by c)) m)
LineLeads (Step x op v) m n = MakesStep x op v m × (n ≡ record (with_end_at x (after (end_at m x) v) m) { words = written (end_at m x).machine.cells op m.words })

-- these lines lead from one moment to the other
abbrev pub LinesLead : List TraceLine → Moment → Moment → Type 0
LinesLead [] m n = n ≡ m
LinesLead (l ∷ ls) m n = (k : Moment) × LineLeads l.what m k × LinesLead ls k n

-- the lines are a run of a new channel, which stands so behind them. A call may be under way there
abbrev pub IsTraceRun : ℕ → List TraceLine → Moment → Type 0
IsTraceRun d lines n = LinesLead lines (opened_at d) n

-- a call of the end is under way
abbrev pub is_calling : EndState → Bool
is_calling e = is_busy_at e.machine.stage

-- why a line goes on no run from this moment: the first reason that holds
abbrev pub IsWrong : WrongWhy → TraceWhat → Moment → Type 0
IsWrong Busy (Call x c) m = is_calling (end_at m x) ≡ true
IsWrong Busy (Step x op v) m = ⊥
IsWrong Condition (Call x c) m = (is_calling (end_at m x) ≡ false) × (MayCall c (end_at m x) → ⊥)
IsWrong Condition (Step x op v) m = ⊥
IsWrong Idle (Call x c) m = ⊥
IsWrong Idle (Step x op v) m = is_calling (end_at m x) ≡ false
IsWrong WrongStep (Call x c) m = ⊥
IsWrong WrongStep (Step x op v) m = (is_calling (end_at m x) ≡ true) × (next_of (end_at m x).machine (end_at m x).packet ≢ Some op)
IsWrong Value (Call x c) m = ⊥
IsWrong Value (Step x op v) m = (next_of (end_at m x).machine (end_at m x).packet ≡ Some op) × (answer_in (end_at m x).machine.cells op m.words ≢ v)

-- the lines before it lead from this moment to another, and it goes on from there no more
pub record WrongFrom (m : Moment) (lines : List TraceLine) (line : ℕ) (why : WrongWhy) : Type 0 where
  pub good : List TraceLine
  pub bad : TraceLine
  pub rest : List TraceLine
  pub split : lines ≡ good ++ bad ∷ rest
  pub moment : Moment
  pub run : LinesLead good m moment
  pub number : bad.number ≡ line
  pub wrong : IsWrong why bad.what moment

-- the lines before it are a run, and it goes on none
abbrev pub IsFirstWrong : ℕ → List TraceLine → ℕ → WrongWhy → Type 0
IsFirstWrong d lines line why = WrongFrom (opened_at d) lines line why

abbrev pub is_step_of : TraceWhat → Bool
is_step_of (Call x c) = false
is_step_of (Step x op v) = true

abbrev pub is_step : TraceLine → Bool
is_step l = is_step_of l.what

-- All lines are a run, of so many steps, whose ends stand behind it with lists of these lengths
pub record IsRunOf (d : ℕ) (lines : List TraceLine) (steps guest_sent guest_got host_sent host_got : ℕ) : Type 0 where
  pub moment : Moment
  pub run : IsTraceRun d lines moment
  pub counted : steps ≡ count_by is_step lines
  pub guest_sends : guest_sent ≡ length moment.guest.sent
  pub guest_gets : guest_got ≡ length moment.guest.got
  pub host_sends : host_sent ≡ length moment.host.sent
  pub host_gets : host_got ≡ length moment.host.got

-- the lines are such a run; or this line is the first that is wrong, and why
abbrev pub IsVerdict : ℕ → List TraceLine → Verdict → Type 0
IsVerdict d lines (Run steps guest_sent guest_got host_sent host_got) = IsRunOf d lines steps guest_sent guest_got host_sent host_got
IsVerdict d lines (Wrong line why) = IsFirstWrong d lines line why
