-- What a recorder keeps.
use Rattle.std.specs.Prelude.{◌≡◌, ℕ, ◌+◌, ◌++◌, Bool, true, false, ◌||◌, nat_lt, List, [], ◌∷◌, length, Option, Some, if◌then◌else◌}
use Rattle.io_edge.specs.declared.side.Side.{Side}
use Rattle.page_kept.specs.declared.page_call.PageCall.{PageCall}
use Rattle.ring_machine.specs.PageCalls.{next_in}
use Rattle.ring_machine.specs.Steps.{is_busy_at}
use Rattle.ring_machine.specs.declared.machine.EndMachine.{EndMachine}
use Rattle.ring_machine.specs.declared.place.Op.{Op}
use Rattle.ring_core.specs.Told.{Memory, memory_after, answer_of, GoesOn, told_step, Tale}
use Rattle.ring_core.specs.declared.told.Told.{Told}
use Rattle.trace_text.specs.Steps.{step_text}

-- a seat, whose end it is, the text of its steps so far, the bytes that it may have, and whether a line didn't fit
pub record Recorded (S : Type 0) : Type 0 where
  pub seat : S
  pub side : Side
  pub text : List ℕ
  pub size : ℕ
  pub full : Bool

-- A line is kept where it fits into so many bytes behind the text so far; once one doesn't, nothing more is. Whether one didn't, and the text
abbrev pub kept_in : Bool → ℕ → List ℕ → List ℕ → Bool × List ℕ
kept_in full size text line = if full || nat_lt size (length text + length line) then (true, text) else (false, text ++ line)

abbrev pub kept : {S : Type 0} → Recorded S → List ℕ → Bool × List ℕ
kept r line = kept_in r.full r.size r.text line

-- a step, and what it answered
pub record Made : Type 0 where
  pub op : Op
  pub answer : ℕ

-- what is kept of the lines of these steps of an end, the first one first
abbrev pub kept_of : ℕ → Side → List Made → Bool × List ℕ → Bool × List ℕ
kept_of size x [] so = so
kept_of size x (s ∷ steps) so = kept_of size x steps (kept_in so.0 size so.1 (step_text x s.op s.answer))

-- these steps, one after the other, make this of a memory, and each answers what it finds there
abbrev pub StepsLead : ℕ → List Made → Memory → Memory → Type 0
StepsLead d [] m n = n ≡ m
StepsLead d (s ∷ steps) m n = (s.answer ≡ answer_of d s.op m) × StepsLead d steps (memory_after d s.op m) n

-- this step is the one that an end names which goes on, or begins a call, where this was told, and that is told once it has answered so
pub record StepTells (s : Made) (u w : Told) : Type 0 where
  pub machine : EndMachine
  pub call : PageCall
  pub packet : List ℕ
  pub goes_on : GoesOn (is_busy_at machine.stage) u.state machine call packet
  pub next : next_in machine call packet ≡ Some s.op
  pub told : w ≡ told_step (is_busy_at machine.stage) u machine call packet s.answer

-- these steps, one after the other, lead from what a seat tells of its end to that: each counts as one
abbrev pub StepsTell : List Made → Told → Told → Type 0
StepsTell [] u w = w ≡ u
StepsTell (s ∷ steps) u w = (v : Told) × StepTells s u v × StepsTell steps v w

-- A later state of a recorder. Its seat made some steps in between: they are what it kept of them, line by line. Where the seat tells its memory, they led
-- from the words that it had to those that it has; where it tells its end's state, they are the steps that it made since, each told once
pub record RecordsOn {S : Type 0} (same : S → S → Type 0) (cells : S → ℕ) (tale : S → Tale) (told : S → Option Told) (r t : Recorded S) : Type 0 where
  pub seat : same r.seat t.seat
  pub fits : cells t.seat ≡ cells r.seat
  pub side : t.side ≡ r.side
  pub size : t.size ≡ r.size
  pub made : List Made
  pub text : (t.full, t.text) ≡ kept_of r.size r.side made (r.full, r.text)
  pub leads : (m : Memory) → (tale r.seat).memory ≡ Some m → (n : Memory) × ((tale t.seat).memory ≡ Some n) × StepsLead (cells r.seat) made m n
  pub tells : (u : Told) → told r.seat ≡ Some u → (w : Told) × (told t.seat ≡ Some w) × StepsTell made u w
