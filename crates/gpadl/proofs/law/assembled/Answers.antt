use Rattle.gpadl.proofs.Bodies.{cut_made}
use Rattle.gpadl.proofs.law.assembled.Goals as goal

pub returns : goal.returns
returns c relid handle pages live messages some are free = cut_made relid handle pages live messages some are free
