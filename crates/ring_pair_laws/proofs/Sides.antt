-- A step leaves the side of its end.
use Rattle.std.proofs.Common.{◌≡◌, ℕ, arith}
use Rattle.std.proofs.lemmas.Bool.Decides.{nat_tests}
use Rattle.ring_machine.specs.declared.machine.Stage.{Stage}
use Rattle.ring_machine.specs.declared.machine.Stage.TheVariants.{SendRead}
use Rattle.ring_machine.specs.declared.machine.EndMachine.{EndMachine}
use Rattle.ring_machine.specs.Steps.{fed_at}

pub fed_side : (m : EndMachine) (v : ℕ) (st : Stage) → (fed_at st m v).side ≡ m.side
fed_side m v SendRead = grind (arith, nat_tests)
fed_side m v _ = grind (arith, nat_tests)
