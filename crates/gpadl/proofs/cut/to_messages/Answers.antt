use Rattle.std.proofs.Common.{◌≡◌, ◌∙◌, ℕ, ◌+◌, ◌==◌, ◌≤◌, true, false, List, [], ◌∷◌, ◌++◌, length, refl, sym, ap, subst, append_assoc, arith}
use Rattle.std.proofs.lemmas.List.{append-nil}
use Rattle.std.proofs.lemmas.Bool.{eqb-true}
use Rattle.vmbus_msg.specs.declared.msg.Msg.{Msg}
use Rattle.gpadl.specs.Cut.{IsBodyOf, AreBodiesOf, AreMessagesOf}
use Rattle.gpadl.proofs.cut.to_messages.Goals as goal

none_left : (xs : List ℕ) → (length xs == 0) ≡ true → xs ≡ []
none_left [] e = refl
none_left (x ∷ xs) e = absurd (omega (arith, eqb-true (length (x ∷ xs)) 0 e))

some_left : (xs : List ℕ) → (length xs == 0) ≡ false → 1 ≤ length xs
some_left [] e = cc
some_left (x ∷ xs) e = omega arith

pub loop-left-preserved : goal.loop-left-preserved
loop-left-preserved c =
    let parts = c.cut_at-in-loop-left.ensures in
    let m = c.body.result in
    let some = some_left c.loop-left.left.now (sym c.is_empty.ensures ∙ c.loop-left-test.true) in
    record {
      few = omega (arith, c.loop-left.invariant.few, parts.rest, some);
      done = λ (ms : List Msg) rest.
          let here = subst (λ (frames : List ℕ). IsBodyOf c.args.handle c.loop-left.number frames m) parts.front c.body.ensures in
          let later = subst (λ (frames : List ℕ). AreBodiesOf c.args.handle (c.loop-left.number + 1) frames ms) parts.back rest in
          let all = c.loop-left.invariant.done (m ∷ ms) (here, later) in
          let same = ap (λ (xs : List Msg). xs ++ ms) c.in_ok-push-2.ensures.items ∙ append_assoc c.loop-left.messages.items (m ∷ []) ms in
          subst (AreMessagesOf c.args.relid c.args.handle c.args.pages.now) (sym same) all;
    }

pub returns : goal.returns
returns c =
    let none = none_left c.loop-left.left.now (sym c.is_empty.ensures ∙ c.loop-left-test.false) in
    subst (AreMessagesOf c.args.relid c.args.handle c.args.pages.now) (append-nil c.loop-left.messages.items) (c.loop-left.invariant.done [] none)
