use Rattle.std.proofs.Common.{ap}
use Rattle.kvp_ic.specs.Answers.{value_told}
use Rattle.kvp_ic.proofs.answers.read_value.Goals as goal

pub returns-in-Some : goal.returns-in-Some
returns-in-Some c = ap value_told (rw c.value_place.ensures at c.in-Some.ensures)

pub returns-in-None : goal.returns-in-None
returns-in-None c = ap value_told (rw c.value_place.ensures at c.in-None.ensures)
