-- What the end that a caller keeps shows of a machine.
use Rattle.std.specs.Prelude.{◌≡◌, ℕ, ◌==◌, cond, List, [], ◌∷◌}
use Rattle.ring_machine.specs.declared.machine.Stage.{Stage}
use Rattle.ring_machine.specs.declared.machine.Stage.TheVariants.{Idle, Stopped, SendCell, TakeFirst, CommitRead, ArmPending, ArmMask}
use Rattle.ring_machine.specs.declared.machine.EndMachine.{EndMachine}
use Rattle.ring_machine.specs.declared.state.EndState.{EndState}
use Rattle.page_kept.specs.declared.due.Due.TheVariants.{Clear}
use Rattle.page_kept.specs.declared.page_call.PageCall.TheVariants.{Off}
use Rattle.ring_machine.specs.Steps.{fed}
use Rattle.ring_call_plan.specs.declared.end.PlanEnd.{PlanEnd}

-- the state of an end: 0 no call is under way, 1 stopped, 2 a send is planned, 3 a take asks for the first cell, 4 a commit is planned, 5 an arm is
-- planned, 6 asleep, 7 marked. Between these, 8, the caller makes steps that are planned
abbrev pub state_at : Stage → EndMachine → ℕ
state_at Idle m = cond m.marked 7 (cond m.asleep 6 0)
state_at Stopped m = 1
state_at SendCell m = 2
state_at TakeFirst m = 3
state_at CommitRead m = 4
state_at ArmPending m = cond (m.want == 0) 8 5
state_at ArmMask m = cond (m.want == 0) 5 8
state_at _ m = 8

pub record Shows (e : PlanEnd) (m : EndMachine) : Type 0 where
  pub cells : m.cells ≡ e.cells
  pub write : m.write ≡ e.write
  pub read : m.read ≡ e.read
  pub start : m.start ≡ e.start
  pub seen : m.seen ≡ e.seen
  pub len : m.len ≡ e.len
  pub want : m.want ≡ e.want
  pub state : state_at m.stage m ≡ e.state
  pub done : m.done ≡ 0
  pub asleep : m.asleep ≡ (e.state == 6)
  pub marked : m.marked ≡ (e.state == 7)

-- the machine after these answers to its steps, the last one first
abbrev pub feds : EndMachine → List ℕ → EndMachine
feds m [] = m
feds m (v ∷ vs) = fed (feds m vs) v

-- an end of a channel without data pages, between calls
pub record AtRest (s : EndState) : Type 0 where
  pub copied : s.copied ≡ []
  pub count : s.pages.count ≡ 0
  pub call : s.pages.call ≡ Off
  pub due : s.pages.due ≡ Clear
