-- Whether a seat tells its end's state stays so.
use Rattle.std.proofs.Common.{◌≡◌, Option, Some, None, true, refl, ap}
use Rattle.std.specs.Prelude.{is_some}
use Rattle.ring_machine.specs.declared.state.EndState.{EndState}
use Rattle.ring_core.specs.declared.told.Told.{Told}
use Rattle.ring_core.specs.Told.{Ran, Tale}

pub tells_on : (s t : EndState) (told told' : Option Told) (tale tale' : Tale) → Ran s t told told' tale tale' → is_some told' ≡ is_some told
tells_on s t (Some u) told' tale tale' ran = ap is_some (ran.tells u refl).0
tells_on s t None told' tale tale' ran = ap is_some (ran.silent refl)

-- what a seat tells that tells it
pub told_of : (o : Option Told) → is_some o ≡ true → (u : Told) × (o ≡ Some u)
told_of (Some u) e = (u, refl)
told_of None e = absurd (cc)
