use Rattle.control_side.proofs.Steps.{may_put_held}
use Rattle.control_side.proofs.serving.Serving.put.Goals as goal

pub put-requires-clause-may : goal.put-requires-clause-may
put-requires-clause-may g c = may_put_held _ _ _ _ _ _ _ c.requires.held c.requires.stands.serves
