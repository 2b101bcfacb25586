use Rattle.sock_workers.proofs.PieceLaws.{cuts_in_no_others, cuts_in_pieces}
use Rattle.sock_workers.proofs.laws.cuts_in_pieces.Goals as goal

pub returns-clause-pieces : goal.returns-clause-pieces
returns-clause-pieces c = cuts_in_pieces

pub returns-clause-no_others : goal.returns-clause-no_others
returns-clause-no_others c = cuts_in_no_others
