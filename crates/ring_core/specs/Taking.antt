-- What a take leaves.
use Rattle.std.specs.Prelude.{◌≡◌, ◌+◌, ◌≤◌, Bool, true, false, cond, [], Option, Some, None}
use Rattle.ring_machine.specs.declared.last.TakeRefusal.{TakeRefusal}
use Rattle.ring_machine.specs.declared.last.TakeRefusal.TheVariants.{Stopped as StoppedTake}
use Rattle.ring_machine.specs.declared.machine.Stage.TheVariants.{Idle, Stopped}
use Rattle.ring_core.specs.declared.told.Told.{Told}
use Rattle.ring_machine.specs.EndCalls.{Take}
use Rattle.ring_machine.specs.Steps.{is_took, call_by, take_begun}
use Rattle.ring_machine.specs.States.{Gets, past_of}
use Rattle.ring_machine.specs.Endings.{Leaves, LeavesBy, why_of, take_refusal, is_empty_refusal}
use Rattle.ring_core.specs.Told.{MakesSteps, Tale}
use Rattle.page_kept.specs.Kept.{pages_took}
use Rattle.page_kept.specs.Layouts.{layout}
use Rattle.ring_machine.specs.PageCalls.{newest}
use Rattle.ring_machine.specs.declared.state.EndState.{EndState}
use Rattle.ring_core.specs.Seen.{Seen}

-- a refusal that an honest peer can cause, or none
abbrev pub is_honest_take : Option TakeRefusal → Bool
is_honest_take None = true
is_honest_take (Some r) = is_empty_refusal r

-- a take of an end that isn't stopped
pub record TakesIdle (S : Type 0) (told : S → Option Told) (tale : S → Tale) (old new : Seen S) (refusal : Option TakeRefusal) : Type 0 where
  pub ran : MakesSteps told tale (take_begun old.state.machine) [] old new
  pub answer : refusal ≡ cond (is_took new.state.machine.ended) None (Some (take_refusal new.state.machine.ended new.state.machine))
  pub call : call_by new.state.machine.ended ≡ Take
  pub leaves : Leaves old.state.machine new.state.machine
  pub after : LeavesBy Take old.state.machine new.state.machine
  pub took : is_took new.state.machine.ended ≡ true → Gets new.state.machine.len old.state.got new.state.got old.state.past new.state.past
  pub refused : is_took new.state.machine.ended ≡ false → (new.state.got ≡ old.state.got) × (new.state.past ≡ past_of new.state.machine.ended new.state.machine.saw [] old.state.past) × (new.spare_got ≡ old.spare_got)

-- the pages behind a take: where a packet was taken, the page that it lends or brings back, and what is to be loaded; else they stay
pub record TakesPages (old new : EndState) : Type 0 where
  pub count : new.pages.count ≡ old.pages.count
  pub pages : old.machine.stage ≡ Idle → new.pages ≡ cond (is_took new.machine.ended) (pages_took (layout old.pages.count) old.pages (newest new.got)) old.pages

-- What a take leaves: a stopped end refuses, and nothing is changed. Where the seat tells the end's state, the answer is a packet, or that there is none
pub record Takes (S : Type 0) (told : S → Option Told) (tale : S → Tale) (same : S → S → Type 0) (old new : Seen S) (refusal : Option TakeRefusal) : Type 0 where
  pub idle : old.state.machine.stage ≡ Idle → TakesIdle S told tale old new refusal
  pub stopped : old.state.machine.stage ≡ Stopped → (refusal ≡ Some (StoppedTake (why_of old.state.machine))) × (new ≡ old)
  pub honest : (u : Told) → told old.seat ≡ Some u → (old.state.machine.stage ≡ Idle) × (new.state.machine.stage ≡ Idle) × (is_honest_take refusal ≡ true)
  pub same_seat : same old.seat new.seat
  pub cells : new.state.machine.cells ≡ old.state.machine.cells
  pub side : new.state.machine.side ≡ old.state.machine.side
  pub kept : (new.state.sent ≡ old.state.sent) × (new.spare_sent ≡ old.spare_sent)
  pub awake : (new.state.machine.asleep ≡ false) × (new.state.machine.marked ≡ false)
  pub room : (old.spare_got.packets ≤ new.spare_got.packets + 1) × (old.spare_got.words ≤ new.spare_got.words + new.state.machine.len)
