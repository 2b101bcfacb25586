use Rattle.std.proofs.Common.{arith}
use Rattle.bench_rings.proofs.words.room_of.Goals as goal

pub returns : goal.returns
returns c = λ n h. (omega arith, omega arith)
