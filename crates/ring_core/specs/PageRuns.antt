-- A call of an end on page words: what its steps make of the end's state, of its memory, and of what its seat tells.
use Rattle.std.specs.Prelude.{◌≡◌, ℕ, zero, suc, ◌+◌, ◌-◌, List, [], ◌∷◌, length, Option, Some, None}
use Rattle.page_kept.specs.declared.page_call.PageCall.{PageCall}
use Rattle.page_kept.specs.declared.page_call.PageCall.TheVariants.{Off, StoreWord, LoadWords}
use Rattle.ring_core.specs.declared.told.Told.{Told}
use Rattle.ring_core.specs.Told.{HeardJust, Memory, Pair, pair, answer_of, memory_after, Tale}
use Rattle.ring_machine.specs.declared.place.Op.{Op}
use Rattle.ring_machine.specs.declared.state.EndState.{EndState}
use Rattle.ring_machine.specs.PageCalls.{after_page, page_op, paged}

-- the state after the steps of the page call c that gave these answers, the last one first, where it began at the state s
abbrev pub page_afters : EndState → PageCall → List ℕ → EndState
page_afters s c [] = paged s c
page_afters s c (v ∷ vs) = after_page (page_afters s c vs) v

-- one step of a page call on its memory; none where no page call is under way
abbrev pub page_step_by : Option Op → Pair → Pair
page_step_by None x = x
page_step_by (Some op) x = record { state = after_page x.state (answer_of x.state.machine.cells op x.memory); memory = memory_after x.state.machine.cells op x.memory }

abbrev pub page_step : Pair → Pair
page_step x = page_step_by (page_op x.state.pages.call) x

abbrev pub page_run : ℕ → Pair → Pair
page_run zero x = x
page_run (suc n) x = page_step (page_run n x)

-- a store makes one step, and a load one for each word
abbrev pub steps_in : PageCall → ℕ
steps_in Off = 0
steps_in (StoreWord q w v) = 1
steps_in (LoadWords q n j) = n - j

-- what is told at the state t, n steps of a page call after u was told: none of them raises a signal or takes one
abbrev pub told_paged : ℕ → EndState → Told → Told
told_paged n t u = record { state = t; steps = u.steps + n; raised = u.raised; woke = u.woke }

-- The page call c that began at the state s ended at the state t: t is the state on what its steps answered, one answer a step. Where the seat tells its
-- memory, the call is the run of its steps on it. Where it tells its end's state, that is t, and the seat counts as many steps as there are answers. Where
-- it tells what it heard, that are just these answers
pub record RanPages (s t : EndState) (c : PageCall) (told told' : Option Told) (tale tale' : Tale) : Type 0 where
  pub values : List ℕ
  pub state : t ≡ page_afters s c values
  pub each : length values ≡ steps_in c
  pub silent : told ≡ None → told' ≡ None
  pub tells : (u : Told) → told ≡ Some u → told' ≡ Some (told_paged (length values) t u)
  pub runs : (m : Memory) → tale.memory ≡ Some m → (m' : Memory) × (tale'.memory ≡ Some m') × (page_run (length values) (pair (paged s c) m) ≡ pair t m')
  pub hears : HeardJust tale tale' values
