-- What a seat is asked, and what it tells, of a step of a call of the rings, and of a step of a page call.
use Rattle.std.proofs.Common.{◌≡◌, ℕ, Bool, true, false, ◌||◌, List, Option, Some, refl, sym, ap, ◌∙◌, subst, arith}
use Rattle.page_kept.specs.declared.page_call.PageCall.{PageCall}
use Rattle.page_kept.specs.declared.page_call.PageCall.TheVariants.{Off, StoreWord, LoadWords}
use Rattle.ring_machine.specs.declared.machine.Stage.{Stage}
use Rattle.ring_machine.specs.declared.machine.EndMachine.{EndMachine}
use Rattle.ring_machine.specs.declared.state.EndState.{EndState}
use Rattle.ring_machine.specs.declared.place.Op.{Op}
use Rattle.ring_machine.specs.declared.page_core.PageCore.{PageCore}
use Rattle.ring_machine.specs.PageCalls.{PagesFit, is_paging, is_under_way, is_call_of, or_else, page_op, next_in}
use Rattle.ring_machine.specs.States.{Continues}
use Rattle.ring_machine.specs.Steps.{is_busy_at, next_of}
use Rattle.ring_machine.proofs.Bounds.{rests_none}
use Rattle.ring_machine.proofs.Fitting.{inside_store, inside_load}
use Rattle.ring_core.specs.declared.told.Told.{Told}
use Rattle.ring_core.specs.Told.{GoesOn, told_at, told_next, told_page, told_step}

pub ring_goes : (b : Bool) (s : EndState) (m : EndMachine) (c : PageCall) (p : List ℕ) → b ≡ true → Continues s m p → GoesOn b s m c p
ring_goes b s m c p e h = subst (λ (x : Bool). GoesOn x s m c p) (sym e) h

pub ring_went : (b : Bool) (s : EndState) (m : EndMachine) (c : PageCall) (p : List ℕ) → b ≡ true → GoesOn b s m c p → Continues s m p
ring_went b s m c p e h = subst (λ (x : Bool). GoesOn x s m c p) e h

pub ring_tells : (b : Bool) (u : Told) (m : EndMachine) (c : PageCall) (p : List ℕ) (v : ℕ) → b ≡ true → told_step b u m c p v ≡ told_next (told_at u m p) v
ring_tells b u m c p v e = ap (λ (x : Bool). told_step x u m c p v) e

pub page_tells : (b : Bool) (u : Told) (m : EndMachine) (c : PageCall) (p : List ℕ) (v : ℕ) → b ≡ false → told_step b u m c p v ≡ told_page u c v
page_tells b u m c p v e = ap (λ (x : Bool). told_step x u m c p v) e

-- the next step is that of the call of the rings, where one is under way, and else that of the page call
pub ring_next : (m : EndMachine) (c : PageCall) (p : List ℕ) (op : Op) → next_of m p ≡ Some op → next_in m c p ≡ Some op
ring_next m c p op e = ap (λ (o : Option Op). or_else o (page_op c)) e

pub page_next : (m : EndMachine) (c : PageCall) (p : List ℕ) → is_busy_at m.stage ≡ false → next_in m c p ≡ page_op c
page_next m c p e = ap (λ (o : Option Op). or_else o (page_op c)) (rests_none m p m.stage e)

no_call : (c : PageCall) → is_call_of 0 c ≡ true → is_paging c ≡ true → ⊥
no_call Off h p = absurd (cc)
no_call (StoreWord q w v) h p = let z = inside_store 0 q w v h in absurd (omega (arith, z.0))
no_call (LoadWords q n j) h p = let z = inside_load 0 q n j h in absurd (omega (arith, z.0))

-- a channel without pages makes no page call: what is under way is a call of the rings
pub ringing : (k : PageCore) (st : Stage) → PagesFit k st → (is_paging k.call ≡ true → k.count ≡ 0) → is_under_way st k.call ≡ true → is_busy_at st ≡ true
ringing k st f none h = by_test (is_busy_at st) refl
  where
    by_test : (t : Bool) → is_busy_at st ≡ t → is_busy_at st ≡ true
    by_test true e = e
    by_test false e =
        let paging : is_paging k.call ≡ true = sym (ap (λ (t : Bool). t || is_paging k.call) e) ∙ h in
        absurd (no_call k.call (subst (λ (n : ℕ). is_call_of n k.call ≡ true) (none paging) f.call) paging)
