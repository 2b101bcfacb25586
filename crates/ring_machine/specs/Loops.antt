-- What a driver asks of a machine: one that starts, and what the steps of a call leave of it.
use Rattle.std.specs.Prelude.{◌≡◌, Bool, true, false}
use Rattle.ring_machine.specs.declared.machine.Stage.{Stage}
use Rattle.ring_machine.specs.declared.machine.Stage.TheVariants.{SendRead, TakeWrite, CommitRead, CommitFeature, CommitPending, CommitWrite, CommitRaise, ArmPending, ArmMask, ArmWrite, ArmRead, ArmMark, PollSignal, MarkStore, PeerMark}
use Rattle.ring_machine.specs.declared.machine.EndMachine.{EndMachine}
use Rattle.ring_machine.specs.EndCalls.{EndCall, Send, Take, Commit}

-- the steps of an arm up to its look for the peer's mark
abbrev pub is_unseen_at : Stage → Bool
is_unseen_at ArmPending = true
is_unseen_at ArmMask = true
is_unseen_at ArmWrite = true
is_unseen_at ArmRead = true
is_unseen_at ArmMark = true
is_unseen_at _ = false

-- the step takes the signal of an end that is asleep
abbrev pub is_polling_at : Stage → Bool
is_polling_at PollSignal = true
is_polling_at _ = false

-- the read index is stored already
abbrev pub is_given_at : Stage → Bool
is_given_at CommitFeature = true
is_given_at CommitPending = true
is_given_at CommitWrite = true
is_given_at CommitRaise = true
is_given_at _ = false

-- the first step of a call
abbrev pub is_opening_at : Stage → Bool
is_opening_at SendRead = true
is_opening_at TakeWrite = true
is_opening_at CommitRead = true
is_opening_at ArmPending = true
is_opening_at ArmMask = true
is_opening_at PollSignal = true
is_opening_at MarkStore = true
is_opening_at PeerMark = true
is_opening_at _ = false

-- a machine that has begun a call, and made no step of it: it is asleep exactly for a poll
pub record Starts (m : EndMachine) : Type 0 where
  pub opens : is_opening_at m.stage ≡ true
  pub asleep : m.asleep ≡ is_polling_at m.stage
  pub unseen : is_unseen_at m.stage ≡ true → m.saw ≡ false

-- what the steps of a send leave as it was
pub record SendKeeps (m k : EndMachine) : Type 0 where
  pub cells : m.cells ≡ k.cells
  pub read : m.read ≡ k.read
  pub start : m.start ≡ k.start
  pub len : m.len ≡ k.len
  pub want : m.want ≡ k.want
  pub side : m.side ≡ k.side
  pub masked : m.masked ≡ k.masked
  pub asleep : m.asleep ≡ k.asleep
  pub marked : m.marked ≡ k.marked
  pub peer_marked : m.peer_marked ≡ k.peer_marked
  pub drained : m.drained ≡ k.drained
  pub saw : m.saw ≡ k.saw

-- what the steps of a take leave as it was
pub record TakeKeeps (m k : EndMachine) : Type 0 where
  pub cells : m.cells ≡ k.cells
  pub write : m.write ≡ k.write
  pub start : m.start ≡ k.start
  pub old : m.old ≡ k.old
  pub want : m.want ≡ k.want
  pub room : m.room ≡ k.room
  pub side : m.side ≡ k.side
  pub masked : m.masked ≡ k.masked
  pub asleep : m.asleep ≡ k.asleep
  pub marked : m.marked ≡ k.marked
  pub peer_marked : m.peer_marked ≡ k.peer_marked
  pub saw : m.saw ≡ k.saw

-- what the steps of a commit leave as it was
pub record CommitKeeps (m k : EndMachine) : Type 0 where
  pub cells : m.cells ≡ k.cells
  pub write : m.write ≡ k.write
  pub read : m.read ≡ k.read
  pub seen : m.seen ≡ k.seen
  pub len : m.len ≡ k.len
  pub want : m.want ≡ k.want
  pub room : m.room ≡ k.room
  pub words : m.words ≡ k.words
  pub side : m.side ≡ k.side
  pub masked : m.masked ≡ k.masked
  pub asleep : m.asleep ≡ k.asleep
  pub marked : m.marked ≡ k.marked
  pub peer_marked : m.peer_marked ≡ k.peer_marked
  pub drained : m.drained ≡ k.drained
  pub saw : m.saw ≡ k.saw

-- what the steps of a send, a take and a commit leave as it was
abbrev pub Keeps : EndCall → EndMachine → EndMachine → Type 0
Keeps Send m k = SendKeeps m k
Keeps Take m k = TakeKeeps m k
Keeps Commit m k = CommitKeeps m k
Keeps _ m k = Unit {0}
