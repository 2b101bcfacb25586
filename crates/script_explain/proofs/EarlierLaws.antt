-- The last of the earlier lines that a line says again.
use Rattle.std.proofs.Common.{◌≡◌, ℕ, suc, ◌+◌, ◌-◌, ◌<◌, Bool, true, false, List, ◌∷◌, take, refl, sym, ap, ◌∙◌, arith}
use Rattle.std.specs.Prelude.{Option, Some, None, if◌then◌else◌}
use Rattle.std.specs.Option.{option_or}
use Rattle.script_explain.specs.Help.{last_said, says_again}

or_or : (a b d : Option ℕ) → option_or (option_or a b) d ≡ option_or a (option_or b d)
or_or None b d = refl
or_or (Some x) b d = refl

this_or : (s : Bool) (n : ℕ) (found : Option ℕ) → option_or (if s then Some n else None) found ≡ (if s then Some n else found)
this_or true n found = refl
this_or false n found = refl

-- one line further, what was found so far is this line where it is said again
pub goes_on : (line text : List ℕ) (number n : ℕ) (rest after : List (List ℕ)) (found now all : Option ℕ) → rest ≡ text ∷ after → n < number
    → now ≡ (if says_again line text then Some n else found) → option_or (last_said line n (take (number - n) rest)) found ≡ all
    → option_or (last_said line (n + 1) (take (number - (n + 1)) after)) now ≡ all
goes_on line text number n rest after found now all is lt now_is so_far =
    let one : number - n ≡ suc (number - (n + 1)) = omega (arith, lt) in
    let cut : take (number - n) rest ≡ text ∷ take (number - (n + 1)) after = ap (take (number - n)) is ∙ ap (λ (k : ℕ). take k (text ∷ after)) one in
    ap (option_or (last_said line (n + 1) (take (number - (n + 1)) after))) (now_is ∙ sym (this_or (says_again line text) n found))
    ∙ sym (or_or (last_said line (n + 1) (take (number - (n + 1)) after)) (if says_again line text then Some n else None) found)
    ∙ sym (ap (λ (t : List (List ℕ)). option_or (last_said line n t) found) cut) ∙ so_far

-- the same, by what was answered
pub goes_by : (line text : List ℕ) (number n : ℕ) (rest after : List (List ℕ)) (found now all : Option ℕ) (s : Bool) → rest ≡ text ∷ after → n < number
    → s ≡ says_again line text → now ≡ (if s then Some n else found) → option_or (last_said line n (take (number - n) rest)) found ≡ all
    → option_or (last_said line (n + 1) (take (number - (n + 1)) after)) now ≡ all
goes_by line text number n rest after found now all s is lt said now_is so_far =
    goes_on line text number n rest after found now all is lt (now_is ∙ ap (λ (b : Bool). if b then Some n else found) said) so_far
