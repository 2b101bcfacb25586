use Rattle.bus_model.proofs.FromLists.{lists_tell_lem}
use Rattle.bus_model.proofs.laws.lists_tell.Goals as goal

pub returns : goal.returns
returns c = lists_tell_lem
