use Rattle.std.proofs.Common.{Bool, Some, ap, ◌∙◌}
use Rattle.ring_core.specs.declared.told.Told.{Told}
use Rattle.ring_machine.specs.States.{stored}
use Rattle.ring_core.proofs.Performed.{ring_tells, ring_next, ring_goes}
use Rattle.ring_core.proofs.driver.step.Goals as goal

pub perform-v-requires-clause-goes_on : goal.perform-v-requires-clause-goes_on
perform-v-requires-clause-goes_on g c = λ u e. ring_goes _ _ _ _ _ c.requires.busy (c.requires.goes_on u e)

pub returns : goal.returns
returns g c = record {
  machine = c.feed.ensures.next;
  items = c.store_where.ensures.items ∙ ap (λ (b : Bool). stored b c.args.buf.now.items c.args.core.now.machine.done c.perform-v.result) c.is_copying-copies.ensures;
  len = c.store_where.ensures.len;
  runs = λ m op e n. c.perform-v.ensures.runs m op e (ring_next _ _ _ _ n);
  hears = c.perform-v.ensures.hears;
  same = c.perform-v.ensures.same;
  cells = c.perform-v.ensures.cells;
  silent = c.perform-v.ensures.silent;
  tells = λ u e. let t = c.perform-v.ensures.tells u e in (t.0 ∙ ap (λ (x : Told). Some x) (ring_tells _ u _ _ _ _ c.requires.busy), t.1);
  pages = c.feed.ensures.rings c.requires.busy;
}
