use Rattle.std.proofs.Common.{rules}
use Rattle.util_ic.specs.Messages.{zeros}
use Rattle.kvp_ic.proofs.text.clear.Goals as goal

pub returns : goal.returns
unfolding zeros
returns c = c.fill.ensures.after (λ y h. search rules)
