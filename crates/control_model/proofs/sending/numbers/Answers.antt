use Rattle.std.proofs.Common.{◌∙◌, ◌++◌, ◌∷◌, [], sym, ap, arith, List, ℕ, ◌+◌}
use Rattle.control_model.proofs.PlanLaws.{range_more}
use Rattle.control_model.proofs.sending.numbers.Goals as goal

pub loop-i-preserved : goal.loop-i-preserved
loop-i-preserved c = record {
  items = c.push_reserved.ensures.items ∙ ap (λ (k : ℕ). c.loop-i.pages.items ++ (c.args.first + k) ∷ []) c.from.ensures ∙ ap (λ (xs : List ℕ). xs ++ (c.args.first + c.loop-i.i) ∷ []) c.loop-i.invariant.items ∙ sym (range_more c.args.first c.loop-i.i);
  len = omega (arith, c.push_reserved.ensures.len, c.loop-i.invariant.len);
  room = omega (arith, c.push_reserved.ensures.capacity, c.loop-i.invariant.room);
}
