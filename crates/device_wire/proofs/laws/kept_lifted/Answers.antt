use Rattle.std.proofs.Common.{◌≡◌, true}
use Rattle.device_wire.proofs.LiftedLaws as laws
use Rattle.device_wire.proofs.laws.kept_lifted.Goals as goal

pub returns : goal.returns
returns g c m k can is kept = laws.kept_lifted k is m (λ q. can q ≡ true) kept
