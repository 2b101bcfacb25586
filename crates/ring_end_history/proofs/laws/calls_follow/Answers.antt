use Rattle.ring_end_history.proofs.Joining.{came_same, came_trans}
use Rattle.ring_end_history.proofs.laws.calls_follow.Goals as goal

pub returns-clause-none : goal.returns-clause-none
returns-clause-none g c old new state seat = came_same g.S.Seatlike.tale old new state seat

pub returns-clause-more : goal.returns-clause-more
returns-clause-more g c x y z a b = came_trans g.S.Seatlike.tale x y z a b
