use Rattle.kvp_pool.proofs.TextLaws.{whole_unless}
use Rattle.kvp_pool.proofs.units.is_whole.Goals as goal

pub returns : goal.returns
returns c = whole_unless c.args.units.now c.has_zero.result c.has_zero.ensures
