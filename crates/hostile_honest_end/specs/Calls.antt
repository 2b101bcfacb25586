-- What a call of an end comes to, over words that change as a peer likes.
use Rattle.std.specs.Prelude.{◌≡◌, ℕ, ◌+◌, ◌-◌, ◌*◌, ◌^◌, ◌==◌, ◌&&◌, Bool, true, false, not, List, [], ◌∷◌, replicate, codes, if◌then◌else◌}
use Rattle.ring_machine.specs.declared.machine.EndMachine.{EndMachine}
use Rattle.ring_machine.specs.declared.machine.Stage.{Stage}
use Rattle.ring_machine.specs.declared.machine.Stage.TheVariants.{Idle}
use Rattle.ring_machine.specs.declared.state.EndState.{EndState}
use Rattle.ring_machine.specs.Endings.{want_of, last_of}
use Rattle.ring_machine.specs.PageCalls.{newest}
use Rattle.ring_machine.specs.States.{entered, resting_with}
use Rattle.ring_machine.specs.Steps.{is_busy_at, machine_new, send_begun, take_begun, commit_begun, arm_begun, poll_begun}
use Rattle.io_edge.specs.declared.side.Side.TheVariants.{Guest}
use Rattle.ring_core.specs.Pages.{first_kept}
use Rattle.ring_core.specs.Told.{Pair, pair, run}
use Rattle.hostile_lines.specs.declared.command.EndCall.{EndCall}
use Rattle.hostile_lines.specs.declared.command.EndCall.TheVariants.{Send, Take, Commit, Arm, Poll}
use Rattle.hostile_honest_end.specs.Text.{ending_text}

-- an in-band packet of n words, offset 2 and id 0: all of them are 0 behind the first
unfoldable pub in_band : ℕ → List ℕ
in_band n = (6 + 2 * 2 ^ 16 + n * 2 ^ 32) ∷ replicate (n - 1) 0

-- a guest's new end, whose rings have n cells
abbrev pub new_guest : ℕ → EndState
new_guest n = resting_with (machine_new Guest n) [] [] [] (first_kept Guest 0)

-- what a call comes to: its condition doesn't hold; the end stopped before; or the machine begins it, with this packet
pub data Comes : Type 0 where
  Refused : Comes
  Stopped : Comes
  Begins : EndMachine → List ℕ → Comes

abbrev pub is_idle : Stage → Bool
is_idle Idle = true
is_idle _ = false

-- a send and a take of an end that isn't asleep
abbrev pub by_stage : EndMachine → EndMachine → List ℕ → Comes
by_stage m begun packet = if m.asleep then Refused else if is_idle m.stage then Begins begun packet else Stopped

-- the table of calls. A commit and an arm are for an end that is awake and not stopped, an arm where all that was taken is committed, a poll for one that is asleep
abbrev pub comes_of : EndCall → EndMachine → Comes
comes_of (Send n) m = by_stage m (send_begun m n) (in_band n)
comes_of Take m = by_stage m (take_begun m) []
comes_of Commit m = if is_idle m.stage && not m.asleep then Begins (commit_begun m) [] else Refused
comes_of (Arm want) m = if is_idle m.stage && not m.asleep && (m.start == m.read) then Begins (arm_begun m (want_of want)) [] else Refused
comes_of Poll m = if is_idle m.stage && m.asleep then Begins (poll_begun m) [] else Refused

-- the call that this machine has begun made the machine's steps on the memory, until it was over
pub record RunsCall (begun : EndMachine) (packet : List ℕ) (old new : Pair) : Type 0 where
  pub steps : ℕ
  pub runs : run steps (pair (entered old.state begun packet) old.memory) ≡ new
  pub over : is_busy_at new.state.machine.stage ≡ false

-- what it leaves: a call that isn't made changes nothing
abbrev pub Leads : Comes → Pair → Pair → Type 0
Leads Refused old new = new ≡ old
Leads Stopped old new = new ≡ old
Leads (Begins begun packet) old new = RunsCall begun packet old new

-- and its text
abbrev pub said_of : Comes → Pair → List ℕ
said_of Refused new = codes "refused"
said_of Stopped new = codes "stopped"
said_of (Begins begun packet) new = ending_text (last_of new.state.machine) (newest new.state.got)
