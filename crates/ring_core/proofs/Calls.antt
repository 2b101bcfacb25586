-- What the calls of a driver's end leave, by how they ended.
use Rattle.std.proofs.Common.{◌≡◌, ◌≤◌, ◌+◌, ℕ, List, [], ◌∷◌, ◌++◌, take, Option, Some, None, Bool, false, cond, leb, refl, sym, ap, ◌∙◌, subst, arith, rules}
use Rattle.std.proofs.lemmas.Bool.Decides.{nat_tests}
use Rattle.channel_trace.specs.Runs.{sent_of, got_of}
use Rattle.channel_trace.specs.declared.event.Event.{Event}
use Rattle.ring_machine.specs.declared.machine.Ending.{Ending}
use Rattle.ring_machine.specs.declared.machine.Ending.TheVariants.{Full, BadPeer, FoundWork}
use Rattle.ring_machine.specs.declared.machine.EndMachine.{EndMachine}
use Rattle.ring_machine.specs.declared.machine.Stage.{Stage}
use Rattle.ring_machine.specs.declared.machine.Stage.TheVariants.{Idle, Stopped, SendRead, SendCell, SendWrite, SendMask, SendLook, SendRaise}
use Rattle.ring_machine.specs.declared.state.EndState.{EndState}
use Rattle.ring_machine.specs.Endings.{send_answer, why_of}
use Rattle.ring_machine.specs.Places.{free, is_index, cell_of}
use Rattle.page_kept.specs.declared.kept.Kept.{Kept}
use Rattle.ring_machine.specs.States.{afters, past_by_ending, resting_with}
use Rattle.ring_machine.specs.Steps.{IsSound, fed_at, is_sent, is_took, is_broken, is_busy_at}
use Rattle.ring_machine.proofs.Sound.{at_cond}
use Rattle.std.specs.Prelude.{Result}
use Rattle.ring_core.specs.declared.told.Told.{Told}
use Rattle.ring_core.specs.Told.{Ran, Tale}
use Rattle.ring_machine.specs.declared.last.Signalled.{Signalled}
use Rattle.ring_machine.specs.declared.last.SendRefusal.{SendRefusal}
use Rattle.ring_core.specs.Driven.{LacksRoom}

-- what a call that ended so adds to the past is what it sent and got
pub notes_sent : (how : Ending) (m : EndMachine) (past : List (Event (List ℕ))) (p buf : List ℕ) → cond (is_sent how) (sent_of past ++ p ∷ []) (sent_of past) ≡ sent_of (past_by_ending how m past p buf)
notes_sent FoundWork m past p buf = at_cond (λ (es : List (Event (List ℕ))). sent_of past ≡ sent_of es) m.saw _ _ (λ _. refl) (λ _. refl)
notes_sent _ m past p buf = refl

pub notes_got : (how : Ending) (m : EndMachine) (past : List (Event (List ℕ))) (p buf : List ℕ) → cond (is_took how) (got_of past ++ take m.len buf ∷ []) (got_of past) ≡ got_of (past_by_ending how m past p buf)
notes_got FoundWork m past p buf = at_cond (λ (es : List (Event (List ℕ))). got_of past ≡ got_of es) m.saw _ _ (λ _. refl) (λ _. refl)
notes_got _ m past p buf = refl

pub sends_lacking : (how : Ending) (m : EndMachine) (n : ℕ) → (how ≡ Full → (m.room ≤ n + 1) × (m.words ≡ n)) → LacksRoom n (send_answer how m)
sends_lacking Full m n found = let f = found refl in (omega (arith, f.1), omega (arith, f.0, f.1))
sends_lacking _ m n found = tt

-- an end that isn't broken is idle
pub idle_is : (m : EndMachine) → IsSound m → is_busy_at m.stage ≡ false → cond (is_broken m.ended) (Some (why_of m)) None ≡ None → m.stage ≡ Idle
idle_is m s n w = by m.stage refl n
  where
    by : (st : Stage) → m.stage ≡ st → is_busy_at st ≡ false → m.stage ≡ Idle
    by Idle e b = e
    by Stopped e b = absurd (let z : Some (why_of m) ≡ None = sym (ap (λ (b : Bool). cond b (Some (why_of m)) None) (s.stopped e)) ∙ w in cc)
    by _ e b = absurd (cc)

-- what a send of so many words found that had too little room
abbrev Found : ℕ → EndMachine → Type 0
Found n m = m.ended ≡ Full → (m.room ≤ n + 1) × (m.words ≡ n)

abbrev SendsAt : ℕ → Stage → EndMachine → Type 0
SendsAt n Idle m = Found n m
SendsAt n Stopped m = Found n m
SendsAt n SendRead m = m.len ≡ n
SendsAt n SendCell m = Unit {0}
SendsAt n SendWrite m = Unit {0}
SendsAt n SendMask m = Unit {0}
SendsAt n SendLook m = Unit {0}
SendsAt n SendRaise m = Unit {0}
SendsAt n _ m = ⊥

step_sends : (m : EndMachine) (v n : ℕ) (st : Stage) → m.stage ≡ st → SendsAt n st m → SendsAt n (fed_at st m v).stage (fed_at st m v)
step_sends m v n Idle i k = subst (λ (s : Stage). SendsAt n s m) (sym i) k
step_sends m v n Stopped i k = subst (λ (s : Stage). SendsAt n s m) (sym i) k
step_sends m v n SendRead i k =
    at_cond (λ (x : EndMachine). SendsAt n x.stage x) (is_index m.cells v) _ _
    (λ t. at_cond (λ (x : EndMachine). SendsAt n x.stage x) (leb (free m.cells (cell_of v) m.write) (m.len + 1)) _ _
    (λ u e. let few : free m.cells (cell_of v) m.write ≤ m.len + 1 = grind (arith, nat_tests, u) in (omega (arith, few, k), k)) (λ u. tt))
    (λ t e. absurd (let z : BadPeer ≡ Full = e in cc))
step_sends m v n _ i k = search rules

steps_send : (b : EndState) (n : ℕ) → SendsAt n b.machine.stage b.machine → (vs : List ℕ) → SendsAt n (afters b vs).machine.stage (afters b vs).machine
steps_send b n k [] = k
steps_send b n k (v ∷ vs) = let e : EndState = afters b vs in step_sends e.machine v n e.machine.stage refl (steps_send b n k vs)

finds_at : (n : ℕ) (m : EndMachine) (st : Stage) → is_busy_at st ≡ false → SendsAt n st m → Found n m
finds_at n m Idle b k = k
finds_at n m Stopped b k = k
finds_at n m _ b k = absurd (cc)

pub send_lacks : (b : EndState) (m : EndMachine) (sent got : List (List ℕ)) (past : List (Event (List ℕ))) (k : Kept) (told told' : Option Told) (tale tale' : Tale) (n : ℕ) (r : Result Signalled SendRefusal)
    → Ran b (resting_with m sent got past k) told told' tale tale' → b.machine.stage ≡ SendRead → b.machine.len ≡ n → is_busy_at m.stage ≡ false → r ≡ send_answer m.ended m → LacksRoom n r
send_lacks b m sent got past k told told' tale tale' n r ran at len idle answer =
    let start : SendsAt n b.machine.stage b.machine = subst (λ (st : Stage). SendsAt n st b.machine) (sym at) len in
    let ended : SendsAt n m.stage m = subst (λ (e : EndState). SendsAt n e.machine.stage e.machine) (sym ran.state) (steps_send b n start ran.values) in
    subst (LacksRoom n) (sym answer) (sends_lacking m.ended m n (finds_at n m m.stage idle ended))
