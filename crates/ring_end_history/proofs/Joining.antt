-- Calls one after another, and each call of an end.
use Rattle.std.proofs.Common.{◌≡◌, ℕ, ◌-◌, false, List, [], ◌∷◌, ◌++◌, Option, Some, refl, sym, ap, ◌∙◌, subst, append_assoc, arith}
use Rattle.page_kept.specs.declared.due.Due.TheVariants.{Loads}
use Rattle.page_kept.specs.declared.page_call.PageCall.TheVariants.{LoadWords}
use Rattle.ring_machine.specs.declared.machine.Stage.TheVariants.{Idle}
use Rattle.ring_machine.specs.declared.state.EndState.{EndState}
use Rattle.ring_machine.specs.Steps.{is_busy_at}
use Rattle.ring_core.specs.declared.told.Told.{Told}
use Rattle.ring_core.specs.Laying.{RanStores}
use Rattle.ring_core.specs.PageRuns.{RanPages}
use Rattle.ring_core.specs.Seen.{Seen}
use Rattle.ring_core.specs.Told.{HeardJust, MakesSteps, Tale}
use Rattle.ring_end_history.specs.Calls.{Came, CallsLead, WholeCall, PageLoads, PageStores, RingCall, RingSteps, answers, answers_in, begun, packet_in}

-- calls behind others
pub calls_after : (later earlier : List WholeCall) (s t u : EndState) → CallsLead earlier s t → CallsLead later t u → CallsLead (later ++ earlier) s u
calls_after [] earlier s t u a b = subst (CallsLead earlier s) (sym b) a
calls_after (c ∷ later) earlier s t u a b = (b.0, calls_after later earlier s t b.0 a b.1, b.2)

pub answers_after : (later earlier : List WholeCall) → answers_in (later ++ earlier) ≡ answers_in later ++ answers_in earlier
answers_after [] earlier = refl
answers_after (c ∷ later) earlier = ap (λ (vs : List ℕ). answers c ++ vs) (answers_after later earlier) ∙ sym (append_assoc (answers c) (answers_in later) (answers_in earlier))

module _ {S : Type 0} (tale : S → Tale) where
  -- an end that did nothing
  pub came_refl : (e : Seen S) → Came tale e e
  came_refl e = record { calls = []; leads = refl; hears = λ vs h. h }

  -- nor did one whose state and seat are as they were
  pub came_same : (old new : Seen S) → new.state ≡ old.state → new.seat ≡ old.seat → Came tale old new
  came_same old new state seat = record { calls = []; leads = state; hears = λ vs h. ap (λ (s : S). (tale s).heard) seat ∙ h }

  pub came_trans : (a b c : Seen S) → Came tale a b → Came tale b c → Came tale a c
  came_trans a b c x y = record {
    calls = y.calls ++ x.calls;
    leads = calls_after y.calls x.calls a.state b.state c.state x.leads y.leads;
    hears = λ vs h.
        y.hears (answers_in x.calls ++ vs) (x.hears vs h)
        ∙ ap Some (sym (append_assoc (answers_in y.calls) (answers_in x.calls) vs) ∙ ap (λ (us : List ℕ). us ++ vs) (sym (answers_after y.calls x.calls)));
  }

  heard_one : (old new : S) (c : WholeCall) → HeardJust (tale old) (tale new) (answers c) → HeardJust (tale old) (tale new) (answers_in (c ∷ []))
  heard_one old new c h vs e = h vs e ∙ ap Some (sym (append_assoc (answers c) [] vs))

  -- a call of the rings
  pub came_call : (told : S → Option Told) (c : RingCall) (old new : Seen S) → old.state.machine.stage ≡ Idle → MakesSteps told tale (begun c old.state.machine) (packet_in c) old new → is_busy_at new.state.machine.stage ≡ false → Came tale old new
  came_call told c old new idle ran rests = record {
    calls = RingSteps c ran.values ∷ [];
    leads = (old.state, refl, (idle, ran.each, ran.state, rests));
    hears = heard_one old.seat new.seat (RingSteps c ran.values) ran.hears;
  }

  -- a load of the page words that are due
  pub came_loads : (told : S → Option Told) (q n : ℕ) (old new : Seen S) → old.state.machine.stage ≡ Idle → old.state.pages.due ≡ Loads q n 0
      → RanPages old.state new.state (LoadWords q n 0) (told old.seat) (told new.seat) (tale old.seat) (tale new.seat) → Came tale old new
  came_loads told q n old new idle due ran = record {
    calls = PageLoads q n ran.values ∷ [];
    leads = (old.state, refl, (idle, due, ran.each ∙ (let z : n - 0 ≡ n = omega arith in z), ran.state));
    hears = heard_one old.seat new.seat (PageLoads q n ran.values) ran.hears;
  }

  -- stores of words into a page
  pub came_stores : (told : S → Option Told) (q : ℕ) (words : List ℕ) (old new : Seen S) → old.state.machine.stage ≡ Idle
      → RanStores old.state new.state q words (told old.seat) (told new.seat) (tale old.seat) (tale new.seat) → Came tale old new
  came_stores told q words old new idle ran = record {
    calls = PageStores q words ran.values ∷ [];
    leads = (old.state, refl, (idle, ran.each, ran.state));
    hears = heard_one old.seat new.seat (PageStores q words ran.values) ran.hears;
  }
