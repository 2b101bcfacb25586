-- Each request of a device has an outcome, where its channels have as many outcomes as requests.
use Rattle.std.proofs.Common.{◌≡◌, ℕ, zero, suc, ◌<◌, ◌≤◌, ◌/◌, ◌%◌, true, List, [], ◌∷◌, length, refl, ◌∙◌, arith, slice_index_or, Option, Some, None}
use Rattle.std.specs.Prelude.{slice_get, is_some}
use Rattle.std.proofs.Math.Nat.{mod-lt}
use Rattle.std.proofs.lemmas.Option.{slice_get_within}
use Rattle.script_phases.specs.Shares.{share}
use Rattle.script_phases.proofs.Dealing.{deals_lem}
use Rattle.bus_script.specs.declared.outcome.LineResult.{LineResult}
use Rattle.bus_model.specs.Run.{nth_of}

there : {X : Type 0} (xs : List X) (i : ℕ) → i < length xs → is_some (slice_get xs i) ≡ true
there [] i less = absurd (omega (arith, less))
there (x ∷ xs) zero less = refl
there (x ∷ xs) (suc i) less = there xs i (omega (arith, less))

found : {X : Type 0} (o : Option X) → is_some o ≡ true → (x : X) × (o ≡ Some x)
found None e = absurd (cc)
found (Some x) e = (x, refl)

pub has_nth : {X : Type 0} (xs : List X) (outcomes : List (List LineResult)) → 1 ≤ length outcomes → ((c : ℕ) → c < length outcomes → length (slice_index_or outcomes c []) ≡ length (share (length outcomes) c 0 xs))
    → (n : ℕ) → n < length xs → is_some (nth_of outcomes n) ≡ true
has_nth xs outcomes some long n less =
    let many = length outcomes in
    let c = n % many in
    let within : c < many = mod-lt n (omega (arith, some)) in
    let one = found (slice_get xs n) (there xs n less) in
    let place : n / many < length (share many c 0 xs) = slice_get_within (share many c 0 xs) (n / many) one.0 (deals_lem xs many n some ∙ one.1) in
    there (slice_index_or outcomes c []) (n / many) (omega (arith, place, long c within))
