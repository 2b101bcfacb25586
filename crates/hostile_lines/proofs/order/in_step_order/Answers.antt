use Rattle.std.proofs.Common.{rules}
use Rattle.std.proofs.lemmas.List.Sorted.{IsNonDecreasingBy-from_sort_by_key, All-permutation, answers_always}
use Rattle.ring_core.specs.declared.told_mem.Change.{Change}
use Rattle.hostile_lines.specs.Ranges.{IsChangeIn}
use Rattle.hostile_lines.proofs.Orders.{each_step, script_of}
use Rattle.hostile_lines.proofs.order.in_step_order.Goals as goal

pub returns-clause-order : goal.returns-clause-order
returns-clause-order c = record {
  rising = IsNonDecreasingBy-from_sort_by_key (λ (x : Change). x.step) _ c.in_ok-sort_by_key.ensures.sorted (λ a r q k. search rules);
  each = each_step _ _ (c.sort_by_key.ensures.stable (λ (x : Change). x.step) (answers_always _ _ _ (λ f a r g h. search rules)));
}

pub returns-clause-script : goal.returns-clause-script
returns-clause-script c = λ d all.
    script_of d _ (All-permutation (IsChangeIn d) _ _ c.sort_by_key.ensures.permutation all)
    (IsNonDecreasingBy-from_sort_by_key (λ (x : Change). x.step) _ c.in_ok-sort_by_key.ensures.sorted (λ a r q k. search rules))
