use Rattle.ring_copy_laws.proofs.Copying.{broke, copied}
use Rattle.ring_copy_laws.proofs.laws.copies_are_checked.Goals as goal

pub returns-clause-got : goal.returns-clause-got
returns-clause-got c = copied

pub returns-clause-stopped : goal.returns-clause-stopped
returns-clause-stopped c = broke
