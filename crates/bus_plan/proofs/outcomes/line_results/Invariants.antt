use Rattle.bus_plan.proofs.Telling.{ToldSoFar}
use Rattle.bus_plan.proofs.outcomes.line_results.Given as goal

abbrev pub invariant-loop-line : goal.invariant-loop-line
invariant-loop-line l = ToldSoFar l.version.0 l.ended l.fn.outcomes l.part l.line-index l.fn.results.items l.results.items l.outcomes
