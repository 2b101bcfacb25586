use Rattle.std.proofs.Common.{rules}
use Rattle.script_generator.proofs.counts.count_done.Goals as goal

pub returns : goal.returns
returns c = search (rules, c.count.ensures.ran, c.count.ensures.runs, c.filter.ensures.runs, c.filter.ensures.source, c.filter.ensures.closure, c.iter.ensures.rest)
