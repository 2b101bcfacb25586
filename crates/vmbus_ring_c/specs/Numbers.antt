-- The machine of an end by the numbers that C keeps of it.
use Rattle.std.specs.Prelude.{ℕ, Bool, ◌==◌, not, cond, List, [], ◌∷◌, slice_index_or}
pub use Rattle.ring_call_plan.specs.Answers.{number_of_ending}
use Rattle.io_edge.specs.declared.side.Side.{Side}
use Rattle.io_edge.specs.declared.side.Side.TheVariants.{Guest, Host}
use Rattle.ring_machine.specs.declared.machine.EndMachine.{EndMachine}
use Rattle.ring_machine.specs.declared.machine.Stage.{Stage}
use Rattle.ring_machine.specs.declared.machine.Stage.TheVariants.{Idle, Stopped, SendRead, SendCell, SendWrite, SendMask, SendLook, SendRaise, TakeWrite, TakeFirst, TakeCell, CommitRead, CommitFeature, CommitPending, CommitWrite, CommitRaise, ArmPending, ArmMask, ArmWrite, ArmRead, ArmMark, ArmUndoMask, ArmUndoPending, PollSignal, PollMask, PollPending, MarkStore, MarkRaise, PeerMark}
use Rattle.ring_machine.specs.declared.machine.Ending.{Ending}
use Rattle.ring_machine.specs.declared.machine.Ending.TheVariants.{Fresh, SentQuiet, SentRaised, Full, BadPeer, Took, Empty, BadIndex, BadLength, BadOffset, CommittedQuiet, CommittedRaised, FellAsleep, FoundWork, NoSignal, Woke, Marked, PeerMarkDown, PeerMarkUp}

-- the sides, the steps and the endings by their numbers, from 0 on
abbrev pub sides : List Side
sides = Guest ∷ Host ∷ []

abbrev pub stages : List Stage
stages = Idle ∷ Stopped ∷ SendRead ∷ SendCell ∷ SendWrite ∷ SendMask ∷ SendLook ∷ SendRaise ∷ TakeWrite ∷ TakeFirst ∷ TakeCell ∷ CommitRead ∷ CommitFeature ∷ CommitPending ∷ CommitWrite ∷ CommitRaise ∷ ArmPending ∷ ArmMask ∷ ArmWrite ∷ ArmRead ∷ ArmMark ∷ ArmUndoMask ∷ ArmUndoPending ∷ PollSignal ∷ PollMask ∷ PollPending ∷ MarkStore ∷ MarkRaise ∷ PeerMark ∷ []

abbrev pub endings : List Ending
endings = Fresh ∷ SentQuiet ∷ SentRaised ∷ Full ∷ BadPeer ∷ Took ∷ Empty ∷ BadIndex ∷ BadLength ∷ BadOffset ∷ CommittedQuiet ∷ CommittedRaised ∷ FellAsleep ∷ FoundWork ∷ NoSignal ∷ Woke ∷ Marked ∷ PeerMarkDown ∷ PeerMarkUp ∷ []

abbrev pub number_of_side : Side → ℕ
number_of_side Guest = 0
number_of_side Host = 1

abbrev pub number_of_stage : Stage → ℕ
number_of_stage Idle = 0
number_of_stage Stopped = 1
number_of_stage SendRead = 2
number_of_stage SendCell = 3
number_of_stage SendWrite = 4
number_of_stage SendMask = 5
number_of_stage SendLook = 6
number_of_stage SendRaise = 7
number_of_stage TakeWrite = 8
number_of_stage TakeFirst = 9
number_of_stage TakeCell = 10
number_of_stage CommitRead = 11
number_of_stage CommitFeature = 12
number_of_stage CommitPending = 13
number_of_stage CommitWrite = 14
number_of_stage CommitRaise = 15
number_of_stage ArmPending = 16
number_of_stage ArmMask = 17
number_of_stage ArmWrite = 18
number_of_stage ArmRead = 19
number_of_stage ArmMark = 20
number_of_stage ArmUndoMask = 21
number_of_stage ArmUndoPending = 22
number_of_stage PollSignal = 23
number_of_stage PollMask = 24
number_of_stage PollPending = 25
number_of_stage MarkStore = 26
number_of_stage MarkRaise = 27
number_of_stage PeerMark = 28

-- a flag counts as set where its number isn't 0
abbrev pub is_set : ℕ → Bool
is_set n = not (n == 0)

abbrev pub number_of_flag : Bool → ℕ
number_of_flag b = cond b 1 0

-- the machine with these numbers
abbrev pub machine_by : ℕ → ℕ → ℕ → ℕ → ℕ → ℕ → ℕ → ℕ → ℕ → ℕ → ℕ → ℕ → ℕ → ℕ → ℕ → Bool → Bool → Bool → Bool → Bool → Bool → EndMachine
machine_by cells write read start before seen len done value want room words side stage ended masked asleep marked peer_marked drained saw = record { cells = cells; write = write; read = read; start = start; old = before; seen = seen; len = len; done = done; value = value; want = want; room = room; words = words; side = slice_index_or sides side Guest; stage = slice_index_or stages stage Idle; ended = slice_index_or endings ended Fresh; masked = masked; asleep = asleep; marked = marked; peer_marked = peer_marked; drained = drained; saw = saw }
