use Rattle.kvp_ic.proofs.RunLaws.{run_new}
use Rattle.kvp_ic.proofs.laws.last_value_stays.Goals as goal

pub returns : goal.returns
returns c qs i key lt = run_new qs i key lt
