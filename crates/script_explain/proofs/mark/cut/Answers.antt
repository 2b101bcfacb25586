use Rattle.std.proofs.Common.{arith}
use Rattle.script_text.proofs.Cutting.{split_there, split_nowhere}
use Rattle.script_explain.proofs.mark.cut.Goals as goal

pub returns-then-b-eq32-clause-parts : goal.returns-then-b-eq32-clause-parts
returns-then-b-eq32-clause-parts c = split_there c.args.line.now 32 c.loop-i.i (omega arith) c.if-b-eq32.true c.loop-i.invariant

pub returns-clause-parts : goal.returns-clause-parts
returns-clause-parts c = split_nowhere c.args.line.now 32 (λ k le. c.loop-i.invariant k (omega arith))
