use Rattle.ring_core.proofs.CutLaws.{cut_at}
use Rattle.ring_core.proofs.rows.part.Goals as goal

pub returns : goal.returns
returns c = rw (c.range_at-from.ensures.from, c.range_at-from.ensures.to) (cut_at 0 c.args.ends.now c.args.words.now c.args.i c.requires.there)
