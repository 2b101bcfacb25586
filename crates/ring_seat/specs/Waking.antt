-- No lost wake-up: while an end sleeps there is nothing for it, or its signal is up, or its peer is still inside the call that raises it.
use Rattle.std.specs.Prelude.{◌≡◌, ◌≢◌, ◌⊎◌, ℕ, ◌*◌, ◌≤◌, Bool, true, false, ◌||◌, List, slice_index}
use Rattle.io_edge.specs.declared.side.Side.{Side}
use Rattle.ring_machine.specs.declared.machine.Stage.{Stage}
use Rattle.ring_machine.specs.declared.machine.Stage.TheVariants.{SendMask, SendLook, SendRaise, CommitWrite, CommitRaise, ArmRead, ArmMark, MarkRaise}
use Rattle.ring_machine.specs.declared.machine.EndMachine.{EndMachine}
use Rattle.ring_machine.specs.Places.{out_of, in_of, peer_of, signal_of, mark_of, free, cell_of}
use Rattle.ring_machine.specs.Loops.{is_given_at}
use Rattle.ring_pair_laws.specs.Ring.{ring_in}

-- An arm looks for packets, then for room, then for the peer's mark. A look that found nothing is in force until a later one finds something, or
-- until the end takes its signal
abbrev pub packets_looked_at : Stage → Bool
packets_looked_at ArmRead = true
packets_looked_at ArmMark = true
packets_looked_at _ = false

abbrev pub packets_looked : EndMachine → Bool
packets_looked m = packets_looked_at m.stage || m.asleep

abbrev pub room_looked_at : Stage → Bool
room_looked_at ArmMark = true
room_looked_at _ = false

abbrev pub room_looked : EndMachine → Bool
room_looked m = room_looked_at m.stage || m.asleep

-- the signal of this end is up
abbrev pub IsUp : ℕ → List ℕ → Side → Type 0
IsUp n ws x = slice_index ws (signal_of n x) ≢ 0

-- a send is past its store of the write index, and not at its end
abbrev pub is_sent_at : Stage → Bool
is_sent_at SendMask = true
is_sent_at SendLook = true
is_sent_at SendRaise = true
is_sent_at _ = false

-- the send began at this write index
pub record IsSendingFrom (m : EndMachine) (at : ℕ) : Type 0 where
  pub past : is_sent_at m.stage ≡ true
  pub from : m.old ≡ at

-- a commit has loaded how much room its peer wants
abbrev pub is_weighing_at : Stage → Bool
is_weighing_at CommitWrite = true
is_weighing_at CommitRaise = true
is_weighing_at _ = false

-- A commit is past its store of the read index, and not at its end. Before it there was no such room for a peer that wants so much
pub record IsGivingBack (m : EndMachine) (n w want : ℕ) : Type 0 where
  pub past : is_given_at m.stage ≡ true
  pub room : 8 * free n m.old w ≤ want
  pub loaded : is_weighing_at m.stage ≡ true → m.value ≡ want

-- no packet is there, or the signal is up, or the peer is in a send that found the ring empty before
abbrev pub PacketsPending : ℕ → List ℕ → Side → EndMachine → EndMachine → Type 0
PacketsPending n ws x m p = packets_looked m ≡ true → (ring_in n ws (in_of x) 0 ≡ 8 * m.read) ⊎ (IsUp n ws x ⊎ IsSendingFrom p m.read)

-- there is no more room than is wanted, or the signal is up, or the peer is in a commit before which there was none
abbrev pub RoomPending : ℕ → List ℕ → Side → EndMachine → EndMachine → Type 0
RoomPending n ws x m p = room_looked m ≡ true → m.want ≢ 0 → (8 * free n (cell_of (ring_in n ws (out_of x) 1)) m.write ≤ m.want) ⊎ (IsUp n ws x ⊎ IsGivingBack p n m.write m.want)

-- the peer's mark is down, or the signal is up, or the peer has still to raise it
abbrev pub MarkPending : ℕ → List ℕ → Side → EndMachine → EndMachine → Type 0
MarkPending n ws x m p = m.asleep ≡ true → (slice_index ws (mark_of n (peer_of x)) ≡ 0) ⊎ (IsUp n ws x ⊎ (p.stage ≡ MarkRaise))

pub record WakePending (n : ℕ) (ws : List ℕ) (x : Side) (m p : EndMachine) : Type 0 where
  pub packets : PacketsPending n ws x m p
  pub room : RoomPending n ws x m p
  pub mark : MarkPending n ws x m p

-- an end that is asleep: each of its looks has its cause
pub record WakeCause (n : ℕ) (ws : List ℕ) (x : Side) (m p : EndMachine) : Type 0 where
  pub packets : (ring_in n ws (in_of x) 0 ≡ 8 * m.read) ⊎ (IsUp n ws x ⊎ IsSendingFrom p m.read)
  pub room : m.want ≢ 0 → (8 * free n (cell_of (ring_in n ws (out_of x) 1)) m.write ≤ m.want) ⊎ (IsUp n ws x ⊎ IsGivingBack p n m.write m.want)
  pub mark : (slice_index ws (mark_of n (peer_of x)) ≡ 0) ⊎ (IsUp n ws x ⊎ (p.stage ≡ MarkRaise))
