use Rattle.ring_core.proofs.CutLaws.{rises_at}
use Rattle.ring_core.proofs.rows.range_at.Goals as goal

pub returns-clause-fits : goal.returns-clause-fits
returns-clause-fits c = rw c.first.ensures (rises_at 0 c.args.ends.now c.args.last c.args.i c.requires.rises c.requires.there)
