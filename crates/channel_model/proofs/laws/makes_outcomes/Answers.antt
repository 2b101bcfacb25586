use Rattle.channel_model.proofs.Outcomes as laws
use Rattle.channel_model.proofs.laws.makes_outcomes.Goals as goal

pub returns : goal.returns
returns g c = laws.lines
