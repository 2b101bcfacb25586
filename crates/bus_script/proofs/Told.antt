-- The lines that print.
use Rattle.std.proofs.Common.{◌≡◌, ℕ, zero, suc, ◌<◌, List, [], ◌∷◌, length, sym, subst, arith}
use Rattle.std.specs.Prelude.{slice_index_or}
use Rattle.script_lines.specs.declared.line.Line.{Line}
use Rattle.script_lines.specs.declared.line.What.{What}
use Rattle.script_lines.specs.declared.line.What.TheVariants.{Contact as IsContact, Offer as IsOffer, Bad as IsBad, RingSize as IsRingSize, Window as IsWindow, Ask as IsAsk, Rescind as IsRescind, Shut as IsShut, Modify as IsModify, Phase as IsPhase}
use Rattle.script_lines.specs.declared.line.DeviceSpec.{DeviceSpec}
use Rattle.script_lines.specs.WellFormed.{IsRight, AllRight}
use Rattle.bus_script.specs.Report.{HasVersion}

right_version : (kinds : List DeviceSpec) (what : What) → IsRight kinds what → HasVersion what
right_version kinds (IsContact guest host) right = right.0
right_version kinds (IsOffer name device) right = tt
right_version kinds (IsBad device lba) right = tt
right_version kinds (IsRingSize device pages) right = tt
right_version kinds (IsWindow device size) right = tt
right_version kinds (IsAsk device ask) right = tt
right_version kinds (IsRescind device after held) right = tt
right_version kinds (IsShut device) right = tt
right_version kinds (IsModify device vp) right = tt
right_version kinds IsPhase right = tt

-- the versions of a line are in the list
pub version_at : (kinds : List DeviceSpec) (ls : List Line) (i : ℕ) (l : Line) → AllRight kinds ls → i < length ls → l ≡ slice_index_or ls i l → HasVersion l.what
version_at kinds [] i l all less is = absurd (omega (arith, less))
version_at kinds (k ∷ ks) zero l all less is = subst (λ (m : Line). HasVersion m.what) (sym is) (right_version kinds k.what all.0)
version_at kinds (k ∷ ks) (suc i) l all less is = version_at kinds ks i l all.1 (omega (arith, less)) is
