-- A step that is named is the one of the call under way.
use Rattle.std.proofs.Common.{◌≡◌, ℕ, Bool, true, false, List, Option, Some, None, refl, sym, ◌∙◌}
use Rattle.ring_machine.specs.declared.machine.EndMachine.{EndMachine}
use Rattle.ring_machine.specs.declared.place.Op.{Op}
use Rattle.ring_machine.specs.Steps.{is_busy_at, next_of}
use Rattle.ring_machine.proofs.Bounds.{rests_none}

some_is : (a b : Op) → Some a ≡ Some b → a ≡ b
some_is a b e = cc

pub next_is : (m : EndMachine) (p : List ℕ) (r : Option Op) (a op : Op) → (is_busy_at m.stage ≡ true → r ≡ next_of m p) → r ≡ Some a → next_of m p ≡ Some op → a ≡ op
next_is m p r a op rings is e = by_busy (is_busy_at m.stage) refl
  where
    by_busy : (b : Bool) → is_busy_at m.stage ≡ b → a ≡ op
    by_busy true h = some_is a op (sym is ∙ (rings h ∙ e))
    by_busy false h = let none : None ≡ Some op = sym (rests_none m p m.stage h) ∙ e in absurd (cc)
