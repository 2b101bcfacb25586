use Rattle.script_phases.proofs.Seating.{all_seats_lem}
use Rattle.script_phases.proofs.laws.seats.Goals as goal

pub returns : goal.returns
returns c = all_seats_lem
