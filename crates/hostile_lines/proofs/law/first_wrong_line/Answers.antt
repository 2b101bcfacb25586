use Rattle.hostile_lines.proofs.Firsts.{finds_lem, refuses_lem, accepts_lem}
use Rattle.hostile_lines.proofs.law.first_wrong_line.Goals as goal

pub returns-clause-finds : goal.returns-clause-finds
returns-clause-finds c = finds_lem

pub returns-clause-refuses : goal.returns-clause-refuses
returns-clause-refuses c = refuses_lem

pub returns-clause-accepts : goal.returns-clause-accepts
returns-clause-accepts c = accepts_lem
