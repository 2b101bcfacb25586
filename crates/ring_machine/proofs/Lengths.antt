-- A send keeps the length of its packet.
use Rattle.std.proofs.Common.{◌≡◌, ℕ, ◌+◌, ◌*◌, List, [], ◌∷◌, sym, subst, leb, ltb, eqb}
use Rattle.ring_machine.specs.declared.machine.Stage.{Stage}
use Rattle.ring_machine.specs.declared.machine.Stage.TheVariants.{Idle, Stopped, SendRead, SendCell, SendWrite, SendMask, SendLook, SendRaise}
use Rattle.ring_machine.specs.declared.machine.EndMachine.{EndMachine}
use Rattle.ring_machine.specs.declared.state.EndState.{EndState}
use Rattle.ring_machine.specs.Places.{low, is_index, cell_of, free}
use Rattle.ring_machine.specs.Steps.{fed_at}
use Rattle.ring_machine.specs.States.{afters}
use Rattle.ring_machine.proofs.Sound.{at_cond}

-- a send under way, or one that has ended, is of n words
abbrev Sends : ℕ → Stage → ℕ → Type 0
Sends n Idle len = len ≡ n
Sends n Stopped len = len ≡ n
Sends n SendRead len = len ≡ n
Sends n SendCell len = len ≡ n
Sends n SendWrite len = len ≡ n
Sends n SendMask len = len ≡ n
Sends n SendLook len = len ≡ n
Sends n SendRaise len = len ≡ n
Sends n _ len = ⊥

step_sends : (m : EndMachine) (v n : ℕ) (st : Stage) → m.stage ≡ st → Sends n st m.len → Sends n (fed_at st m v).stage (fed_at st m v).len
step_sends m v n Idle i k = subst (λ (s : Stage). Sends n s m.len) (sym i) k
step_sends m v n Stopped i k = subst (λ (s : Stage). Sends n s m.len) (sym i) k
step_sends m v n SendRead i k = at_cond (λ (x : EndMachine). Sends n x.stage x.len) (is_index m.cells v) _ _ (λ t. at_cond (λ (x : EndMachine). Sends n x.stage x.len) (leb (free m.cells (cell_of v) m.write) (m.len + 1)) _ _ (λ u. k) (λ u. k)) (λ t. k)
step_sends m v n SendCell i k = at_cond (λ (x : EndMachine). Sends n x.stage x.len) (ltb m.done m.len) _ _ (λ t. subst (λ (s : Stage). Sends n s m.len) (sym i) k) (λ t. k)
step_sends m v n SendWrite i k = k
step_sends m v n SendMask i k = at_cond (λ (x : EndMachine). Sends n x.stage x.len) (eqb (low v) 0) _ _ (λ t. k) (λ t. k)
step_sends m v n SendLook i k = at_cond (λ (x : EndMachine). Sends n x.stage x.len) (eqb (low v) (8 * m.old)) _ _ (λ t. k) (λ t. k)
step_sends m v n SendRaise i k = k
step_sends m v n _ i k = absurd k

len_is : (n l : ℕ) (st : Stage) → Sends n st l → l ≡ n
len_is n l Idle k = k
len_is n l Stopped k = k
len_is n l SendRead k = k
len_is n l SendCell k = k
len_is n l SendWrite k = k
len_is n l SendMask k = k
len_is n l SendLook k = k
len_is n l SendRaise k = k
len_is n l _ k = absurd k

steps_send : (b : EndState) (n : ℕ) → Sends n b.machine.stage b.machine.len → (vs : List ℕ) → Sends n (afters b vs).machine.stage (afters b vs).machine.len
steps_send b n k [] = k
steps_send b n k (v ∷ vs) = let e : EndState = afters b vs in step_sends e.machine v n e.machine.stage (λ _. e.machine.stage) (steps_send b n k vs)

-- the length of the packet after any answers to the steps of a send
pub send_len : (b : EndState) (vs : List ℕ) → b.machine.stage ≡ SendRead → (afters b vs).machine.len ≡ b.machine.len
send_len b vs i = len_is b.machine.len (afters b vs).machine.len (afters b vs).machine.stage (steps_send b b.machine.len (subst (λ (s : Stage). Sends b.machine.len s b.machine.len) (sym i) (λ _. b.machine.len)) vs)
