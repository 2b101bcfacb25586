use Rattle.std.proofs.Common.{Some, ap, ◌∙◌}
use Rattle.ring_core.specs.declared.told.Told.{Told}
use Rattle.ring_core.proofs.Performed.{page_tells}
use Rattle.ring_core.proofs.driver.page_step.Goals as goal

pub returns-clause-tells : goal.returns-clause-tells
returns-clause-tells g c = λ u e. (c.perform-v.ensures.tells u e).0 ∙ ap (λ (x : Told). Some x) (page_tells _ u _ _ _ _ c.requires.rests)
