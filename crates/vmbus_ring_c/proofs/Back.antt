-- A machine's numbers give the machine back.
use Rattle.std.proofs.Common.{◌≡◌, Bool, true, false, refl}
use Rattle.std.specs.Prelude.{slice_index_or}
use Rattle.io_edge.specs.declared.side.Side.{Side}
use Rattle.io_edge.specs.declared.side.Side.TheVariants.{Guest, Host}
use Rattle.ring_machine.specs.declared.machine.EndMachine.{EndMachine}
use Rattle.ring_machine.specs.declared.machine.Stage.{Stage}
use Rattle.ring_machine.specs.declared.machine.Stage.TheVariants.{Idle, Stopped, SendRead, SendCell, SendWrite, SendMask, SendLook, SendRaise, TakeWrite, TakeFirst, TakeCell, CommitRead, CommitFeature, CommitPending, CommitWrite, CommitRaise, ArmPending, ArmMask, ArmWrite, ArmRead, ArmMark, ArmUndoMask, ArmUndoPending, PollSignal, PollMask, PollPending, MarkStore, MarkRaise, PeerMark}
use Rattle.ring_machine.specs.declared.machine.Ending.{Ending}
use Rattle.ring_machine.specs.declared.machine.Ending.TheVariants.{Fresh, SentQuiet, SentRaised, Full, BadPeer, Took, Empty, BadIndex, BadLength, BadOffset, CommittedQuiet, CommittedRaised, FellAsleep, FoundWork, NoSignal, Woke, Marked, PeerMarkDown, PeerMarkUp}
use Rattle.vmbus_ring_c.specs.Numbers.{sides, stages, endings, number_of_side, number_of_stage, number_of_ending, number_of_flag, is_set, machine_by}

pub side_back : (x : Side) → slice_index_or sides (number_of_side x) Guest ≡ x
side_back Guest = refl
side_back Host = refl

pub stage_back : (x : Stage) → slice_index_or stages (number_of_stage x) Idle ≡ x
stage_back Idle = refl
stage_back Stopped = refl
stage_back SendRead = refl
stage_back SendCell = refl
stage_back SendWrite = refl
stage_back SendMask = refl
stage_back SendLook = refl
stage_back SendRaise = refl
stage_back TakeWrite = refl
stage_back TakeFirst = refl
stage_back TakeCell = refl
stage_back CommitRead = refl
stage_back CommitFeature = refl
stage_back CommitPending = refl
stage_back CommitWrite = refl
stage_back CommitRaise = refl
stage_back ArmPending = refl
stage_back ArmMask = refl
stage_back ArmWrite = refl
stage_back ArmRead = refl
stage_back ArmMark = refl
stage_back ArmUndoMask = refl
stage_back ArmUndoPending = refl
stage_back PollSignal = refl
stage_back PollMask = refl
stage_back PollPending = refl
stage_back MarkStore = refl
stage_back MarkRaise = refl
stage_back PeerMark = refl

pub ending_back : (x : Ending) → slice_index_or endings (number_of_ending x) Fresh ≡ x
ending_back Fresh = refl
ending_back SentQuiet = refl
ending_back SentRaised = refl
ending_back Full = refl
ending_back BadPeer = refl
ending_back Took = refl
ending_back Empty = refl
ending_back BadIndex = refl
ending_back BadLength = refl
ending_back BadOffset = refl
ending_back CommittedQuiet = refl
ending_back CommittedRaised = refl
ending_back FellAsleep = refl
ending_back FoundWork = refl
ending_back NoSignal = refl
ending_back Woke = refl
ending_back Marked = refl
ending_back PeerMarkDown = refl
ending_back PeerMarkUp = refl

pub flag_back : (b : Bool) → is_set (number_of_flag b) ≡ b
flag_back true = refl
flag_back false = refl

pub machine_back : (m : EndMachine) → machine_by m.cells m.write m.read m.start m.old m.seen m.len m.done m.value m.want m.room m.words (number_of_side m.side) (number_of_stage m.stage) (number_of_ending m.ended) (is_set (number_of_flag m.masked)) (is_set (number_of_flag m.asleep)) (is_set (number_of_flag m.marked)) (is_set (number_of_flag m.peer_marked)) (is_set (number_of_flag m.drained)) (is_set (number_of_flag m.saw)) ≡ m
machine_back m = λ i. record { cells = m.cells; write = m.write; read = m.read; start = m.start; old = m.old; seen = m.seen; len = m.len; done = m.done; value = m.value; want = m.want; room = m.room; words = m.words; side = side_back m.side i; stage = stage_back m.stage i; ended = ending_back m.ended i; masked = flag_back m.masked i; asleep = flag_back m.asleep i; marked = flag_back m.marked i; peer_marked = flag_back m.peer_marked i; drained = flag_back m.drained i; saw = flag_back m.saw i }
