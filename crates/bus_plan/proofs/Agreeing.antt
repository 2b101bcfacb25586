-- The agreed version is the lower one of both ends'.
use Rattle.std.proofs.Common.{◌≡◌, ℕ, ◌<◌, ◌≤◌, ◌==◌, length, slice_index_or, true, List, [], ◌∷◌, All, nat_le, ap, sym, ◌∙◌, subst, arith}
use Rattle.std.specs.Prelude.{min, ◌||◌}
use Rattle.std.specs.List.{AllByRecursion, list_any}
use Rattle.std.proofs.lemmas.Bool.Decides.{nat_tests}
use Rattle.std.proofs.lemmas.List.Elements.{recursion_from_All}
use Rattle.script_lines.proofs.Phases.{by_test}
use Rattle.contact.specs.Versions.{versions, IsVersion}
use Rattle.contact.specs.declared.version.Version.{Version}
use Rattle.script_lines.specs.declared.line.Line.{Line}
use Rattle.script_lines.specs.declared.line.What.TheVariants.{Contact}
use Rattle.script_lines.specs.declared.line.DeviceSpec.{DeviceSpec}
use Rattle.script_lines.specs.WellFormed.{IsRight, AllRight}
use Rattle.script_phases.specs.Agreed.{guest_by, host_by, agreed_in}

-- what holds of each number of a list holds of one that is in it
of_one : (P : ℕ → Type 0) (xs : List ℕ) (x : ℕ) → AllByRecursion P xs → list_any (λ u. u == x) xs ≡ true → P x
of_one P [] x each there = absurd (cc)
of_one P (y ∷ xs) x each there =
    by_test (y == x)
    (λ same. let is : y ≡ x = grind (arith, nat_tests, same) in subst P is each.0)
    (λ other. of_one P xs x each.1 (sym (ap (λ b. b || list_any (λ u. u == x) xs) other) ∙ there))

lower_one : (guest host v : ℕ) → IsVersion guest → IsVersion host → (v ≤ guest) × (v ≤ host) → All (λ u. u ≤ guest → u ≤ host → u ≤ v) versions → v ≡ min guest host
lower_one guest host v known also within greatest =
    let each = recursion_from_All (λ u. u ≤ guest → u ≤ host → u ≤ v) versions greatest in
    by_test (nat_le guest host)
    (λ low. let less : guest ≤ host = grind (arith, nat_tests, low) in let more = of_one (λ u. u ≤ guest → u ≤ host → u ≤ v) versions guest each known (omega arith) less in omega (arith, within.0, less, more))
    (λ high. let less : host ≤ guest = grind (arith, nat_tests, high) in let more = of_one (λ u. u ≤ guest → u ≤ host → u ≤ v) versions host each also less (omega arith) in omega (arith, within.1, less, more))

-- so it is where the first line says the highest ones
pub agreed_first : (kinds : List DeviceSpec) (lines : List Line) (l : Line) (guest host : Version) (v : ℕ) → AllRight kinds lines → 0 < length lines → l ≡ slice_index_or lines 0 l → l.what ≡ Contact guest host → (v ≤ guest.0) × (v ≤ host.0)
    → All (λ u. u ≤ guest.0 → u ≤ host.0 → u ≤ v) versions → v ≡ agreed_in lines
agreed_first kinds [] l guest host v right some at what within greatest = absurd (omega (arith, some))
agreed_first kinds (k ∷ ks) l guest host v right some at what within greatest =
    let first : k.what ≡ Contact guest host = sym (ap (λ (m : Line). m.what) at) ∙ what in
    let known = subst (IsRight kinds) first right.0 in
    lower_one guest.0 host.0 v known.0 known.1 within greatest ∙ sym (ap (λ w. min (guest_by w).0 (host_by w).0) first)
