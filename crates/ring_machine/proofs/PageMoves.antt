-- What the steps of a call make of an end's pages.
use Rattle.std.proofs.Common.{◌≡◌, ℕ, ◌+◌, ◌*◌, ◌%◌, ◌<◌, Bool, true, false, ◌&&◌, cond, leb, ltb, eqb, List, [], ◌∷◌, ◌++◌, length, take, set, refl, sym, ap, ◌∙◌, arith, add-one}
use Rattle.std.proofs.Math.Seq.{take-suc-set}
use Rattle.std.proofs.lemmas.Bool.Decides.{nat_tests}
use Rattle.page_kept.specs.declared.kept.Kept.{Kept}
use Rattle.page_kept.specs.Kept.{pages_sent, pages_took}
use Rattle.page_kept.specs.Layouts.{layout}
use Rattle.ring_machine.specs.declared.machine.Stage.{Stage}
use Rattle.ring_machine.specs.declared.machine.Stage.TheVariants.{Idle, Stopped, SendRead, SendCell, SendWrite, SendMask, SendLook, SendRaise, TakeWrite, TakeFirst, TakeCell, CommitRead, CommitFeature, CommitPending, CommitWrite, CommitRaise, ArmPending, ArmMask, ArmWrite, ArmRead, ArmMark, ArmUndoMask, ArmUndoPending, PollSignal, PollMask, PollPending, MarkStore, MarkRaise, PeerMark}
use Rattle.ring_machine.specs.declared.machine.Ending.TheVariants.{Took}
use Rattle.ring_machine.specs.declared.machine.EndMachine.{EndMachine}
use Rattle.ring_machine.specs.Places.{ahead, used, free, low, is_index, cell_of, len8_of, offset8_of}
use Rattle.ring_machine.specs.Steps.{IsSound, fed_at, ends, is_busy_at, is_copying_at, makes_room, finds_room}
use Rattle.ring_machine.specs.States.{copied_at, pages_after, pages_while, pages_by_ending, stored}
use Rattle.ring_machine.specs.Moves.{pages_at}
use Rattle.ring_machine.proofs.Sound.{at_cond}

module _ (m : EndMachine) (v : ℕ) (k : Kept) (p buf : List ℕ) (s : IsSound m) (w : length buf ≡ m.cells) where
  abbrev sent : Kept
  sent = pages_sent (layout k.count) k p

  -- a machine with these pages
  abbrev With : Kept → List ℕ → EndMachine → Type 0
  With j b n = j ≡ pages_at n.stage n k p b

  two : (j : Kept) (b : List ℕ) (c : Bool) (x y : EndMachine) → With j b x → With j b y → With j b (cond c x y)
  two j b c x y f g = at_cond (With j b) c x y (λ _. f) (λ _. g)

  -- the stage stays
  stays : (st : Stage) → m.stage ≡ st → k ≡ pages_while st k p → (n : EndMachine) → n.stage ≡ m.stage → pages_at n.stage n k p buf ≡ pages_at st n k p buf
  stays st e q n same = ap (λ (x : Stage). pages_at x n k p buf) (same ∙ e)

  pub pages_moved : (st : Stage) → m.stage ≡ st → is_busy_at st ≡ true → pages_after st m (pages_at st m k p buf) p (copied_at st (take m.done buf)) v ≡ pages_at (fed_at st m v).stage (fed_at st m v) k p (stored (is_copying_at st) buf m.done v)
  pages_moved Idle e b = absurd (cc)
  pages_moved Stopped e b = absurd (cc)
  pages_moved SendRead e b = two k buf (is_index m.cells v) _ _ (two k buf (leb (free m.cells (cell_of v) m.write) (m.len + 1)) _ _ refl refl) refl
  pages_moved SendCell e b = two k buf (ltb m.done m.len) _ _ (sym (stays SendCell e refl (record m { done = m.done + 1 }) refl)) refl
  pages_moved SendMask e b = two sent buf (eqb (low v) 0) _ _ refl refl
  pages_moved SendLook e b = two sent buf (eqb (low v) (8 * m.old)) _ _ refl refl
  pages_moved TakeWrite e b = two k buf (is_index m.cells v) _ _ (two k buf (eqb (cell_of v) m.read) _ _ refl refl) refl
  pages_moved TakeFirst e b = two k (set buf m.done v) (leb 2 (len8_of v) && ltb (len8_of v) (used m.cells m.read m.seen)) _ _ (two k (set buf m.done v) (leb 2 (offset8_of v) && leb (offset8_of v) (len8_of v)) _ _ refl refl) refl
  pages_moved TakeCell e b = took (ltb (m.done + 1) m.len) refl
    where
      took : (t : Bool) → ltb (m.done + 1) m.len ≡ t
          → With (cond t k (pages_took (layout k.count) k (take m.done buf ++ v ∷ []))) (set buf m.done v) (cond t (record m { done = m.done + 1 }) (record (ends m Took) { read = ahead m.cells m.read (m.len + 1); words = m.len }))
      took true h = sym (ap (λ (x : Stage). pages_at x (record m { done = m.done + 1 }) k p (set buf m.done v)) e)
      took false h =
          let room : m.done < length buf = omega (arith, s.len, s.done) in
          let busy : m.done < m.len = (s.copying e).1 in
          let last : m.len ≡ m.done + 1 = grind (arith, nat_tests) in
          let words : take m.done buf ++ v ∷ [] ≡ take m.len (set buf m.done v) = sym (take-suc-set buf m.done v room) ∙ ap (λ (n : ℕ). take n (set buf m.done v)) (sym (last ∙ add-one m.done)) in
          ap (pages_took (layout k.count) k) words
  pages_moved CommitFeature e b = two k buf (eqb (low v % 2) 1) _ _ refl refl
  pages_moved CommitPending e b = two k buf (eqb (low v) 0) _ _ refl refl
  pages_moved CommitWrite e b = two k buf (makes_room m v) _ _ refl refl
  pages_moved ArmWrite e b = two k buf (eqb (low v) (8 * m.read)) _ _ (two k buf (eqb m.want 0) _ _ refl refl) refl
  pages_moved ArmRead e b = two k buf (finds_room m v) _ _ refl refl
  pages_moved ArmMark e b = two k buf (eqb v 0) _ _ refl refl
  pages_moved ArmUndoMask e b = two k buf (eqb m.want 0) _ _ refl refl
  pages_moved PollSignal e b = two k buf (eqb v 0) _ _ refl refl
  pages_moved PollMask e b = two k buf (eqb m.want 0) _ _ refl refl
  pages_moved PeerMark e b = two k buf (eqb v 0) _ _ refl refl
  pages_moved _ e b = refl

-- after a call
pub pages_over : (m : EndMachine) (k : Kept) (p buf : List ℕ) (st : Stage) → is_busy_at st ≡ false → pages_at st m k p buf ≡ pages_by_ending m.ended m k p buf
pages_over m k p buf Idle n = refl
pages_over m k p buf Stopped n = refl
pages_over m k p buf _ n = absurd (cc)
