use Rattle.std.proofs.Common.{◌/◌, arith}
use Rattle.ring_pair_laws.proofs.Opening.{new_pair}
use Rattle.ring_pair_laws.proofs.laws.new_ends_are_a_pair.Goals as goal

pub returns : goal.returns
returns c = λ d s size guest host seat at. new_pair s (d / 8) at guest host seat (omega (arith, size.some)) (omega (arith, size.most))
