use Rattle.std.proofs.Common.{◌≡◌, true}
use Rattle.device_wire.proofs.WireLaws as laws
use Rattle.device_wire.proofs.laws.requests_ask.Goals as goal

pub returns-clause-start : goal.returns-clause-start
returns-clause-start g c m can = laws.start_is_fixed m (λ q. can q ≡ true)

pub returns-clause-script : goal.returns-clause-script
returns-clause-script g c m can = laws.script_asks m (λ q. can q ≡ true)
