use Rattle.trace_model.proofs.Verdicts.{verdict_same}
use Rattle.trace_model.proofs.laws.one_verdict.Goals as goal

pub returns : goal.returns
returns c d lines a b p q = verdict_same d lines a b p q
