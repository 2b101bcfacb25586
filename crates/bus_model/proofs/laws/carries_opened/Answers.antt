use Rattle.bus_model.proofs.Opened.{carries_opened_lem}
use Rattle.bus_model.proofs.laws.carries_opened.Goals as goal

pub returns : goal.returns
returns c = carries_opened_lem
