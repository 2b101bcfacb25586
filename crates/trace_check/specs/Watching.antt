-- What a checker keeps of a run.
use Rattle.std.specs.Prelude.{◌≡◌, ◌≢◌, ℕ, ◌+◌, ◌<◌, ◌^◌, cond, ltb, true, false, List, [], length, Option, Some, IfSome}
use Rattle.ring_machine.specs.declared.place.Op.{Op}
use Rattle.ring_machine.specs.declared.machine.EndMachine.{EndMachine}
use Rattle.ring_machine.specs.declared.machine.Stage.{Stage}
use Rattle.ring_machine.specs.declared.machine.Stage.TheVariants.{SendWrite, TakeCell}
use Rattle.ring_machine.specs.declared.state.EndState.{EndState}
use Rattle.ring_machine.specs.Steps.{next_of}
use Rattle.ring_machine.specs.States.{resting}
use Rattle.ring_core.specs.Told.{answer_in}
use Rattle.trace_model.specs.Traces.{Moment, MayCall, is_calling}
use Rattle.trace_model.specs.declared.what.TraceCall.{TraceCall}
use Rattle.trace_model.specs.declared.what.TraceWhat.{TraceWhat}
use Rattle.trace_model.specs.declared.what.TraceWhat.TheVariants.{Call, Step}
use Rattle.trace_model.specs.declared.verdict.WrongWhy.{WrongWhy}
use Rattle.trace_model.specs.declared.verdict.WrongWhy.TheVariants.{Busy, Condition, Idle, Step as WrongStep, Value}
use Rattle.trace_check.specs.declared.watched.Watched.{Watched}
use Rattle.trace_check.specs.declared.checker.Checker.{Checker}

-- the packets that a step at this stage sends
abbrev pub sends_at : Stage → ℕ
sends_at SendWrite = 1
sends_at _ = 0

-- and those that it gets
abbrev pub gets_at : Stage → EndMachine → ℕ
gets_at TakeCell m = cond (ltb (m.done + 1) m.len) 0 1
gets_at _ m = 0

-- it has the end's machine and packet, and counts its lists
pub record IsEnd (w : Watched) (e : EndState) : Type 0 where
  pub machine : w.core.machine ≡ e.machine
  pub packet : w.packet ≡ e.packet
  pub sent : w.sent ≡ length e.sent
  pub got : w.got ≡ length e.got

-- it has the words of this moment, and its two ends
pub record Stands (c : Checker) (m : Moment) : Type 0 where
  pub words : c.mem.memory.words ≡ m.words
  pub guest : IsEnd c.guest m.guest
  pub host : IsEnd c.host m.host

abbrev pub steps_of : Checker → ℕ
steps_of c = c.guest.steps + c.host.steps

-- the steps that a line says
abbrev pub steps_in : TraceWhat → ℕ
steps_in (Call x c) = 0
steps_in (Step x op v) = 1

-- an end with this machine that did nothing yet: the condition of a call is one on the machine alone
abbrev pub bare_end : EndMachine → EndState
bare_end m = resting m [] [] []

-- why a call can't begin
abbrev pub CallRefused : WrongWhy → TraceCall → EndState → Type 0
CallRefused Busy call e = is_calling e ≡ true
CallRefused Condition call e = (is_calling e ≡ false) × (MayCall call e → ⊥)
CallRefused Idle call e = ⊥
CallRefused WrongStep call e = ⊥
CallRefused Value call e = ⊥

-- why a step isn't made
abbrev pub StepRefused : WrongWhy → Op → ℕ → EndState → List ℕ → Type 0
StepRefused Busy op v e words = ⊥
StepRefused Condition op v e words = ⊥
StepRefused Idle op v e words = is_calling e ≡ false
StepRefused WrongStep op v e words = (is_calling e ≡ true) × (next_of e.machine e.packet ≢ Some op)
StepRefused Value op v e words = (next_of e.machine e.packet ≡ Some op) × (answer_in e.machine.cells op words ≢ v)

-- a want of 32 bits
abbrev pub IsSmall : Option ℕ → Type 0
IsSmall want = IfSome want (λ n. n < 2 ^ 32)
