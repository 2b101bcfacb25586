use Rattle.std.proofs.Common.{subst}
use Rattle.bus_threads.specs.Pairs.{RunsPair}
use Rattle.bus_threads.proofs.pair.run_pair.Goals as goal

pub returns : goal.returns
returns g c = subst (λ p. RunsPair p c.close.result) c.of-whole.ensures c.close.ensures
