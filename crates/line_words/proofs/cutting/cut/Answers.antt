use Rattle.std.proofs.Common.{arith}
use Rattle.script_text.proofs.Cutting.{split_there, split_nowhere}
use Rattle.line_words.proofs.cutting.cut.Goals as goal

pub returns-then-b-at-clause-parts : goal.returns-then-b-at-clause-parts
returns-then-b-at-clause-parts c = split_there c.args.bytes.now c.args.at c.loop-i.i (omega arith) (c.if-b-at.true) c.loop-i.invariant

pub returns-clause-parts : goal.returns-clause-parts
returns-clause-parts c = split_nowhere c.args.bytes.now c.args.at (λ k le. c.loop-i.invariant k (omega arith))
