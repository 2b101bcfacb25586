-- The machine of an end: its next step, and what a step's answer makes of it. Source: Linux drivers/hv/ring_buffer.c,
-- hv_ringbuffer_write, hv_signal_on_write, hv_pkt_iter_first, hv_pkt_iter_close. Sleep, signals and marks are this library's own.
use Rattle.std.specs.Prelude.{◌≡◌, ℕ, ◌+◌, ◌-◌, ◌*◌, ◌/◌, ◌%◌, ◌<◌, Bool, true, false, ◌≤◌, ◌^◌, ◌==◌, ◌&&◌, ◌||◌, not, cond, leb, ltb, List, slice_index, Option, Some, None}
use Rattle.ring_machine.specs.declared.machine.Stage.{Stage}
use Rattle.ring_machine.specs.declared.machine.Stage.TheVariants.{Idle, Stopped, SendRead, SendCell, SendWrite, SendMask, SendLook, SendRaise, TakeWrite, TakeFirst, TakeCell, CommitRead, CommitFeature, CommitPending, CommitWrite, CommitRaise, ArmPending, ArmMask, ArmWrite, ArmRead, ArmMark, ArmUndoMask, ArmUndoPending, PollSignal, PollMask, PollPending, MarkStore, MarkRaise, PeerMark}
use Rattle.ring_machine.specs.declared.machine.Ending.{Ending}
use Rattle.ring_machine.specs.declared.machine.Ending.TheVariants.{Fresh, SentQuiet, SentRaised, Full, BadPeer, Took, Empty, BadIndex, BadLength, BadOffset, CommittedQuiet, CommittedRaised, FellAsleep, FoundWork, NoSignal, Woke, Marked, PeerMarkDown, PeerMarkUp}
use Rattle.ring_machine.specs.declared.machine.EndMachine.{EndMachine}
use Rattle.ring_machine.specs.EndCalls.{EndCall, NoCall, Send, Take, Commit, Arm, Poll, Mark as MarkCall, PeerMark as PeerMarkCall}
use Rattle.io_edge.specs.declared.side.Side.{Side}
use Rattle.ring_machine.specs.declared.place.Place.TheVariants.{Write, Read, Mask, Pending, Feature, Cell, Mark}
use Rattle.ring_machine.specs.declared.place.Op.{Op}
use Rattle.ring_machine.specs.declared.place.Op.TheVariants.{Load, Store, Raise, TakeSignal, StoreMark}
use Rattle.ring_machine.specs.Places.{out_of, in_of, peer_of, low, is_index, cell_of, ahead, used, free, trailer, len8_of, offset8_of, raises_on_commit}

-- The next step. A send loads read, stores the packet's cells and its trailer, stores write, loads mask, loads read again, and raises the peer.
-- A take loads write, and then each cell once. A commit stores read, loads feature, pending and write, and raises the peer.
-- An arm stores pending where it wants room, stores mask 0, loads write, loads read where it wants room, and loads the peer's mark; a look that
-- finds something makes it store mask 1, and pending 0. A poll takes the signal, stores mask 1, and pending 0.
abbrev pub next_at : Stage → EndMachine → List ℕ → Option Op
next_at Idle m p = None
next_at Stopped m p = None
next_at SendRead m p = Some (Load (Read (out_of m.side)))
next_at SendCell m p = Some (Store (Cell (out_of m.side) (8 * ahead m.cells m.write m.done)) (cond (ltb m.done m.len) (slice_index p m.done) (trailer m.write)))
next_at SendWrite m p = Some (Store (Write (out_of m.side)) (8 * ahead m.cells m.write (m.len + 1)))
next_at SendMask m p = Some (Load (Mask (out_of m.side)))
next_at SendLook m p = Some (Load (Read (out_of m.side)))
next_at SendRaise m p = Some (Raise (peer_of m.side))
next_at TakeWrite m p = Some (Load (Write (in_of m.side)))
next_at TakeFirst m p = Some (Load (Cell (in_of m.side) (8 * m.read)))
next_at TakeCell m p = Some (Load (Cell (in_of m.side) (8 * ahead m.cells m.read m.done)))
next_at CommitRead m p = Some (Store (Read (in_of m.side)) (8 * m.read))
next_at CommitFeature m p = Some (Load (Feature (in_of m.side)))
next_at CommitPending m p = Some (Load (Pending (in_of m.side)))
next_at CommitWrite m p = Some (Load (Write (in_of m.side)))
next_at CommitRaise m p = Some (Raise (peer_of m.side))
next_at ArmPending m p = Some (Store (Pending (out_of m.side)) m.want)
next_at ArmMask m p = Some (Store (Mask (in_of m.side)) 0)
next_at ArmWrite m p = Some (Load (Write (in_of m.side)))
next_at ArmRead m p = Some (Load (Read (out_of m.side)))
next_at ArmMark m p = Some (Load (Mark (peer_of m.side)))
next_at ArmUndoMask m p = Some (Store (Mask (in_of m.side)) 1)
next_at ArmUndoPending m p = Some (Store (Pending (out_of m.side)) 0)
next_at PollSignal m p = Some (TakeSignal m.side)
next_at PollMask m p = Some (Store (Mask (in_of m.side)) 1)
next_at PollPending m p = Some (Store (Pending (out_of m.side)) 0)
next_at MarkStore m p = Some (StoreMark m.side)
next_at MarkRaise m p = Some (Raise (peer_of m.side))
next_at PeerMark m p = Some (Load (Mark (peer_of m.side)))

abbrev pub next_of : EndMachine → List ℕ → Option Op
next_of m p = next_at m.stage m p

-- a call ended so
abbrev pub ends : EndMachine → Ending → EndMachine
ends m how = record m { stage = Idle; ended = how; done = 0 }

-- the end refused the value v
abbrev pub breaks : EndMachine → Ending → ℕ → EndMachine
breaks m how v = record m { stage = Stopped; ended = how; value = v; done = 0 }

-- what a look that found something goes on with
abbrev pub undoes : EndMachine → EndMachine
undoes m = record m { stage = ArmUndoMask }

-- the consumer's room test on a loaded write index
abbrev pub makes_room : EndMachine → ℕ → Bool
makes_room m v = is_index m.cells v && raises_on_commit (8 * m.cells) (low v) (8 * m.old) (8 * m.read) m.value

-- a loaded read index is none, or leaves more room than is wanted
abbrev pub finds_room : EndMachine → ℕ → Bool
finds_room m v = not (is_index m.cells v) || ltb m.want (8 * free m.cells (cell_of v) m.write)

-- What the answer v of the step makes of the machine
abbrev pub fed_at : Stage → EndMachine → ℕ → EndMachine
fed_at Idle m v = m
fed_at Stopped m v = m
fed_at SendRead m v =
    cond (is_index m.cells v)
    (cond (leb (free m.cells (cell_of v) m.write) (m.len + 1)) (record (ends m Full) { seen = cell_of v; room = free m.cells (cell_of v) m.write; words = m.len }) (record m { stage = SendCell; seen = cell_of v; done = 0 }))
    (breaks m BadPeer (low v))
fed_at SendCell m v = cond (ltb m.done m.len) (record m { done = m.done + 1 }) (record m { stage = SendWrite })
fed_at SendWrite m v = record m { stage = SendMask; old = m.write; write = ahead m.cells m.write (m.len + 1) }
fed_at SendMask m v = cond (low v == 0) (record m { stage = SendLook }) (ends m SentQuiet)
fed_at SendLook m v = cond (low v == 8 * m.old) (record m { stage = SendRaise }) (ends m SentQuiet)
fed_at SendRaise m v = ends m SentRaised
fed_at TakeWrite m v =
    cond (is_index m.cells v)
    (cond (cell_of v == m.read) (record (ends m Empty) { drained = m.drained || m.peer_marked }) (record m { stage = TakeFirst; seen = cell_of v; done = 0 }))
    (breaks m BadIndex (low v))
fed_at TakeFirst m v =
    cond (leb 2 (len8_of v) && ltb (len8_of v) (used m.cells m.read m.seen))
    (cond (leb 2 (offset8_of v) && leb (offset8_of v) (len8_of v)) (record m { stage = TakeCell; len = len8_of v; done = 1 }) (breaks m BadOffset (v / 65536 % 4294967296)))
    (breaks m BadLength (v / 65536 % 4294967296))
fed_at TakeCell m v =
    cond (ltb (m.done + 1) m.len) (record m { done = m.done + 1 }) (record (ends m Took) { read = ahead m.cells m.read (m.len + 1); words = m.len })
fed_at CommitRead m v = record m { stage = CommitFeature; old = m.start; start = m.read }
fed_at CommitFeature m v = cond (low v % 2 == 1) (record m { stage = CommitPending }) (ends m CommittedQuiet)
fed_at CommitPending m v = cond (low v == 0) (ends m CommittedQuiet) (record m { stage = CommitWrite; value = low v })
fed_at CommitWrite m v = cond (makes_room m v) (record m { stage = CommitRaise }) (ends m CommittedQuiet)
fed_at CommitRaise m v = ends m CommittedRaised
fed_at ArmPending m v = record m { stage = ArmMask }
fed_at ArmMask m v = record m { stage = ArmWrite; masked = false }
fed_at ArmWrite m v = cond (low v == 8 * m.read) (cond (m.want == 0) (record m { stage = ArmMark }) (record m { stage = ArmRead })) (undoes m)
fed_at ArmRead m v = cond (finds_room m v) (undoes m) (record m { stage = ArmMark })
fed_at ArmMark m v = cond (v == 0) (record (ends m FellAsleep) { asleep = true }) (record (undoes m) { peer_marked = true; saw = true })
fed_at ArmUndoMask m v = cond (m.want == 0) (record (ends m FoundWork) { masked = true }) (record m { stage = ArmUndoPending; masked = true })
fed_at ArmUndoPending m v = record (ends m FoundWork) { want = 0 }
fed_at PollSignal m v = cond (v == 0) (ends m NoSignal) (record m { stage = PollMask; asleep = false })
fed_at PollMask m v = cond (m.want == 0) (record (ends m Woke) { masked = true }) (record m { stage = PollPending; masked = true })
fed_at PollPending m v = record (ends m Woke) { want = 0 }
fed_at MarkStore m v = record m { stage = MarkRaise }
fed_at MarkRaise m v = record (ends m Marked) { marked = true }
fed_at PeerMark m v = cond (v == 0) (ends m PeerMarkDown) (record (ends m PeerMarkUp) { peer_marked = true })

abbrev pub fed : EndMachine → ℕ → EndMachine
fed m v = fed_at m.stage m v

-- a call is under way
abbrev pub is_busy_at : Stage → Bool
is_busy_at Idle = false
is_busy_at Stopped = false
is_busy_at _ = true

-- the step loads a word of a packet
abbrev pub is_copying_at : Stage → Bool
is_copying_at TakeFirst = true
is_copying_at TakeCell = true
is_copying_at _ = false

-- the steps of an arm after its store of mask, before it knows how it ends
abbrev pub is_looking_at : Stage → Bool
is_looking_at ArmWrite = true
is_looking_at ArmRead = true
is_looking_at ArmMark = true
is_looking_at ArmUndoMask = true
is_looking_at _ = false

-- the steps of an arm
abbrev pub is_arming_at : Stage → Bool
is_arming_at ArmPending = true
is_arming_at ArmMask = true
is_arming_at ArmUndoPending = true
is_arming_at st = is_looking_at st

-- the signal was taken, and mask and pending aren't put back yet: the end is waking
abbrev pub is_waking_at : Stage → Bool
is_waking_at PollMask = true
is_waking_at PollPending = true
is_waking_at _ = false

-- where an end may be asleep
abbrev pub sleeps_at : Stage → Bool
sleeps_at Idle = true
sleeps_at PollSignal = true
sleeps_at _ = false

abbrev pub machine_new : Side → ℕ → EndMachine
machine_new side n = record { cells = n; write = 0; read = 0; start = 0; old = 0; seen = 0; len = 0; done = 0; value = 0; want = 0; room = 0; words = 0; side = side; stage = Idle; ended = Fresh; masked = true; asleep = false; marked = false; peer_marked = false; drained = false; saw = false }

-- the calls
abbrev pub send_begun : EndMachine → ℕ → EndMachine
send_begun m n = record m { stage = SendRead; len = n; done = 0 }

abbrev pub take_begun : EndMachine → EndMachine
take_begun m = record m { stage = TakeWrite; len = 0; done = 0 }

abbrev pub commit_begun : EndMachine → EndMachine
commit_begun m = record m { stage = CommitRead; len = 0; done = 0 }

-- an arm that wants this room in bytes, or none where it is 0
abbrev pub arm_begun : EndMachine → ℕ → EndMachine
arm_begun m want = record m { stage = cond (want == 0) ArmMask ArmPending; len = 0; done = 0; want = want; saw = false }

abbrev pub poll_begun : EndMachine → EndMachine
poll_begun m = record m { stage = PollSignal; len = 0; done = 0 }

abbrev pub mark_begun : EndMachine → EndMachine
mark_begun m = record m { stage = MarkStore; len = 0; done = 0 }

abbrev pub peer_mark_begun : EndMachine → EndMachine
peer_mark_begun m = record m { stage = PeerMark; len = 0; done = 0 }

-- the steps that a call can still make
abbrev pub left_at : Stage → EndMachine → ℕ
left_at Idle m = 0
left_at Stopped m = 0
left_at SendRead m = m.len + 6
left_at SendCell m = m.len - m.done + 5
left_at SendWrite m = 4
left_at SendMask m = 3
left_at SendLook m = 2
left_at SendRaise m = 1
left_at TakeWrite m = m.cells + 1
left_at TakeFirst m = m.cells
left_at TakeCell m = m.len - m.done
left_at CommitRead m = 5
left_at CommitFeature m = 4
left_at CommitPending m = 3
left_at CommitWrite m = 2
left_at CommitRaise m = 1
left_at ArmPending m = 7
left_at ArmMask m = 6
left_at ArmWrite m = 5
left_at ArmRead m = 4
left_at ArmMark m = 3
left_at ArmUndoMask m = 2
left_at ArmUndoPending m = 1
left_at PollSignal m = 3
left_at PollMask m = 2
left_at PollPending m = 1
left_at MarkStore m = 2
left_at MarkRaise m = 1
left_at PeerMark m = 1

abbrev pub steps_left : EndMachine → ℕ
steps_left m = left_at m.stage m

-- The most steps that a call made which ended so: a send of n words makes at most n + 6, a take of n words n + 1, one that refused a packet 2,
-- one that found its index in no form, no room or no packet 1
abbrev pub most_by : Ending → ℕ → ℕ
most_by Fresh n = 0
most_by SentQuiet n = n + 6
most_by SentRaised n = n + 6
most_by Full n = 1
most_by BadPeer n = 1
most_by Took n = n + 1
most_by Empty n = 1
most_by BadIndex n = 1
most_by BadLength n = 2
most_by BadOffset n = 2
most_by CommittedQuiet n = 5
most_by CommittedRaised n = 5
most_by FellAsleep n = 7
most_by FoundWork n = 7
most_by NoSignal n = 3
most_by Woke n = 3
most_by Marked n = 2
most_by PeerMarkDown n = 1
most_by PeerMarkUp n = 1

-- the most steps that a call has made so far, or made in all
abbrev pub made_at : Stage → EndMachine → ℕ
made_at Idle m = most_by m.ended m.len
made_at Stopped m = most_by m.ended m.len
made_at SendRead m = 0
made_at SendCell m = m.done + 1
made_at SendWrite m = m.len + 2
made_at SendMask m = m.len + 3
made_at SendLook m = m.len + 4
made_at SendRaise m = m.len + 5
made_at TakeWrite m = 0
made_at TakeFirst m = 1
made_at TakeCell m = m.done + 1
made_at CommitRead m = 0
made_at CommitFeature m = 1
made_at CommitPending m = 2
made_at CommitWrite m = 3
made_at CommitRaise m = 4
made_at ArmPending m = 0
made_at ArmMask m = 1
made_at ArmWrite m = 2
made_at ArmRead m = 3
made_at ArmMark m = 4
made_at ArmUndoMask m = 5
made_at ArmUndoPending m = 6
made_at PollSignal m = 0
made_at PollMask m = 1
made_at PollPending m = 2
made_at MarkStore m = 0
made_at MarkRaise m = 1
made_at PeerMark m = 0

-- the call that a step belongs to
abbrev pub call_at : Stage → EndCall
call_at Idle = NoCall
call_at Stopped = NoCall
call_at SendRead = Send
call_at SendCell = Send
call_at SendWrite = Send
call_at SendMask = Send
call_at SendLook = Send
call_at SendRaise = Send
call_at TakeWrite = Take
call_at TakeFirst = Take
call_at TakeCell = Take
call_at CommitRead = Commit
call_at CommitFeature = Commit
call_at CommitPending = Commit
call_at CommitWrite = Commit
call_at CommitRaise = Commit
call_at ArmPending = Arm
call_at ArmMask = Arm
call_at ArmWrite = Arm
call_at ArmRead = Arm
call_at ArmMark = Arm
call_at ArmUndoMask = Arm
call_at ArmUndoPending = Arm
call_at PollSignal = Poll
call_at PollMask = Poll
call_at PollPending = Poll
call_at MarkStore = MarkCall
call_at MarkRaise = MarkCall
call_at PeerMark = PeerMarkCall

-- the call that ends so
abbrev pub call_by : Ending → EndCall
call_by Fresh = NoCall
call_by SentQuiet = Send
call_by SentRaised = Send
call_by Full = Send
call_by BadPeer = Send
call_by Took = Take
call_by Empty = Take
call_by BadIndex = Take
call_by BadLength = Take
call_by BadOffset = Take
call_by CommittedQuiet = Commit
call_by CommittedRaised = Commit
call_by FellAsleep = Arm
call_by FoundWork = Arm
call_by NoSignal = Poll
call_by Woke = Poll
call_by Marked = MarkCall
call_by PeerMarkDown = PeerMarkCall
call_by PeerMarkUp = PeerMarkCall

abbrev pub is_sent : Ending → Bool
is_sent SentQuiet = true
is_sent SentRaised = true
is_sent _ = false

abbrev pub is_took : Ending → Bool
is_took Took = true
is_took _ = false

abbrev pub is_broken : Ending → Bool
is_broken BadPeer = true
is_broken BadIndex = true
is_broken BadLength = true
is_broken BadOffset = true
is_broken _ = false

-- What holds of every machine that the code makes
pub record IsSound (m : EndMachine) : Type 0 where
  pub cells : (512 ≤ m.cells) × (m.cells ≤ 16777216)
  pub write : m.write < m.cells
  pub read : m.read < m.cells
  pub start : m.start < m.cells
  pub seen : m.seen < m.cells
  pub old : m.old < m.cells
  pub len : m.len + 1 < m.cells
  pub done : m.done ≤ m.len
  pub value : m.value < 2 ^ 32
  pub want : m.want < 8 * m.cells
  pub room : m.room ≤ m.cells
  pub words : m.words < m.cells
  pub arming : is_arming_at m.stage ≡ true → m.start ≡ m.read
  pub looking : is_looking_at m.stage ≡ true → m.masked ≡ false
  pub asleep : m.asleep ≡ true → (m.masked ≡ false) × (m.start ≡ m.read) × (sleeps_at m.stage ≡ true) × (m.marked ≡ false)
  pub unmarked : is_busy_at m.stage ≡ true → m.marked ≡ false
  pub first : m.stage ≡ TakeFirst → m.done ≡ 0
  pub copying : m.stage ≡ TakeCell → (0 < m.done) × (m.done < m.len)
  pub wanting : (m.stage ≡ ArmPending → 0 < m.want) × (m.stage ≡ ArmRead → 0 < m.want)
  pub broken : is_broken m.ended ≡ true → m.stage ≡ Stopped
  pub stopped : m.stage ≡ Stopped → is_broken m.ended ≡ true
