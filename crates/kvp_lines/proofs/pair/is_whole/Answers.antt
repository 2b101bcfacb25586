use Rattle.kvp_pool.proofs.TextLaws.{whole_unless}
use Rattle.kvp_lines.proofs.pair.is_whole.Goals as goal

pub returns-clause-text : goal.returns-clause-text
returns-clause-text c = whole_unless c.args.word.now c.has_zero.result c.has_zero.ensures
