-- The steps of a call, and the call that a driver makes of them.
use Rattle.std.specs.Prelude.{◌≡◌, ◌≢◌, ℕ, List, length, take, Option, Some, None, true, false, [], ◌∷◌}
use Rattle.channel_trace.specs.declared.event.Event.{Event}
use Rattle.page_kept.specs.declared.kept.Kept.{Kept}
use Rattle.ring_core.specs.Told.{HeardJust, Left, Memory, answer_of, memory_after, told_at, told_next, Tale}
use Rattle.ring_core.specs.declared.told.Told.{Told}
use Rattle.ring_machine.specs.EndCalls.{Take}
use Rattle.ring_machine.specs.Endings.{Leaves}
use Rattle.ring_machine.specs.Loops.{Starts}
use Rattle.ring_machine.specs.States.{Continues, IsPacket, entered, got_by, pages_by, past_by, sent_by, shown, stored}
use Rattle.ring_machine.specs.Steps.{call_at, call_by, fed, is_busy_at, is_copying_at, is_took, next_of}
use Rattle.ring_machine.specs.declared.end_core.EndCore.{EndCore}
use Rattle.ring_machine.specs.declared.machine.EndMachine.{EndMachine}
use Rattle.ring_machine.specs.declared.machine.Stage.TheVariants.{Stopped}
use Rattle.ring_machine.specs.declared.place.Op.{Op}
use Rattle.ring_machine.specs.declared.state.EndState.{EndState}

-- A call of the rings is under way, and the seat, the machine and the buffer are of one channel. Where the seat tells its end's state, the call goes on, or
-- begins, there
pub record CanStep {S : Type 0} (cells_of : S → ℕ) (told : S → Option Told) (seat : S) (core : EndCore) (buf packet : List ℕ) : Type 0 where
  pub busy : is_busy_at core.machine.stage ≡ true
  pub wide : length buf ≡ core.machine.cells
  pub fits : cells_of seat ≡ core.machine.cells
  pub goes_on : (u : Told) → told seat ≡ Some u → Continues u.state core.machine packet

-- The one step that the machine names was made, and answered v: the machine is fed that, and a word of a packet that was loaded stands in the buffer. Where the
-- seat tells its memory, that made the step; where it tells what it heard, that is v; where it tells its end's state, that is told after it, and the end
-- isn't stopped
pub record StepLeaves {S : Type 0} (cells_of : S → ℕ) (told : S → Option Told) (tale : S → Tale) (IsLater : S → S → Type 0) (seat seat' : S) (core core' : EndCore) (buf buf' packet : List ℕ) (v : ℕ) : Type 0 where
  pub machine : core'.machine ≡ fed core.machine v
  pub items : buf' ≡ stored (is_copying_at core.machine.stage) buf core.machine.done v
  pub len : length buf' ≡ length buf
  pub runs : (m : Memory) (op : Op) → (tale seat).memory ≡ Some m → next_of core.machine packet ≡ Some op → ((tale seat').memory ≡ Some (memory_after core.machine.cells op m)) × (v ≡ answer_of core.machine.cells op m)
  pub hears : HeardJust (tale seat) (tale seat') (v ∷ [])
  pub same : IsLater seat seat'
  pub cells : cells_of seat' ≡ cells_of seat
  pub silent : told seat ≡ None → told seat' ≡ None
  pub tells : (u : Told) → told seat ≡ Some u → (told seat' ≡ Some (told_next (told_at u core.machine packet) v)) × ((fed core.machine v).stage ≢ Stopped)
  pub pages : core'.pages ≡ core.pages

-- where the seat tells its end's state, the call that this machine has begun goes on, or begins, there, and then its end stands at this state
abbrev pub BeginsAt : {S : Type 0} → (S → Option Told) → S → EndMachine → List ℕ → EndState → Type 0
BeginsAt told seat m packet at = (u : Told) → told seat ≡ Some u → Continues u.state m packet × (entered u.state m packet ≡ at)

-- The machine has begun a call, and made no step of it, and the seat, the machine and the buffer are of one channel. Where the seat tells its end's state, the
-- call begins there, with some lists, some past and some pages
pub record CanDrive {S : Type 0} (cells_of : S → ℕ) (told : S → Option Told) (seat : S) (core : EndCore) (buf packet : List ℕ) : Type 0 where
  pub starts : Starts core.machine
  pub wide : length buf ≡ core.machine.cells
  pub fits : cells_of seat ≡ core.machine.cells
  pub sent : List (List ℕ)
  pub got : List (List ℕ)
  pub past : List (Event (List ℕ))
  pub kept : Kept
  pub begins : BeginsAt told seat core.machine packet (shown core.machine packet buf sent got past kept)

-- The steps of the call were made until it ended: the machine, the memory and what is told are as the steps left them, whatever lists, past and pages the call
-- began with; and a packet that was taken stands in the buffer, which else is as it was
pub record DriveLeaves {S : Type 0} (cells_of : S → ℕ) (told : S → Option Told) (tale : S → Tale) (IsLater : S → S → Type 0) (seat seat' : S) (core core' : EndCore) (buf buf' packet : List ℕ) : Type 0 where
  pub call : call_by core'.machine.ended ≡ call_at core.machine.stage
  pub leaves : Leaves core.machine core'.machine
  pub took : is_took core'.machine.ended ≡ true → IsPacket (take core'.machine.len buf')
  pub left : (sent got : List (List ℕ)) (past : List (Event (List ℕ))) (kept : Kept) → BeginsAt told seat core.machine packet (shown core.machine packet buf sent got past kept)
      → Left (shown core.machine packet buf sent got past kept) (told seat) (told seat') (tale seat) (tale seat') core'.machine
      (sent_by core'.machine sent packet) (got_by core'.machine got buf') (past_by core'.machine past packet buf') (pages_by core'.machine kept packet buf')
  pub pages : core'.pages ≡ core.pages
  pub idle : is_busy_at core'.machine.stage ≡ false
  pub words : (call_at core.machine.stage ≡ Take → ⊥) → buf' ≡ buf
  pub wide : length buf' ≡ core'.machine.cells
  pub same : IsLater seat seat'
  pub cells : cells_of seat' ≡ core'.machine.cells
  pub honest : (u : Told) → told seat' ≡ Some u → core'.machine.stage ≢ Stopped
