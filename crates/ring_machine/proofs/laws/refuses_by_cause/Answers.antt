use Rattle.std.proofs.Common.{refl}
use Rattle.ring_machine.proofs.Refusing.{caused, refused}
use Rattle.ring_machine.proofs.laws.refuses_by_cause.Goals as goal

pub returns-clause-cause : goal.returns-clause-cause
returns-clause-cause c v b = caused c.args._core.now.machine v c.args._core.now.machine.stage refl b

pub returns-clause-refusal : goal.returns-clause-refusal
returns-clause-refusal c v why = refused c.args._core.now.machine v why
