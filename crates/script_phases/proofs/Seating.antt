-- A device that a phase opens has all its channels there.
use Rattle.std.proofs.Common.{◌≡◌, ℕ, zero, suc, ◌+◌, ◌<◌, Bool, true, false, cond, not, List, [], ◌∷◌, ◌++◌, filter, length, length-append, nat_eq, refl, ap, ◌∙◌, arith, Some}
use Rattle.std.specs.Prelude.{slice_get, if◌then◌else◌}
use Rattle.std.proofs.lemmas.List.Elements.{filter-append}
use Rattle.std.proofs.lemmas.Bool.Decides.{nat_tests}
use Rattle.script_lines.specs.declared.line.DeviceSpec.{DeviceSpec}
use Rattle.script_lines.specs.Parts.{channels_of}
use Rattle.script_phases.specs.Openings.{Opening, subs_of, subs_from, channels_from, opened_from, is_first, firsts, others}
use Rattle.script_phases.specs.Laws.{AllSeats}

abbrev seats : ℕ → List Opening → ℕ
seats d os = length (filter (λ (o : Opening). nat_eq o.device d) os)

abbrev one : ℕ → Opening → ℕ
one d o = cond (nat_eq o.device d) 1 0

if_one : (b : Bool) (o : Opening) (os : List Opening) → length (cond b (o ∷ os) os) ≡ cond b 1 0 + length os
if_one true o os = omega arith
if_one false o os = omega arith

cons : (d : ℕ) (o : Opening) (os : List Opening) → seats d (o ∷ os) ≡ one d o + seats d os
cons d o os = if_one (nat_eq o.device d) o (filter (λ (o : Opening). nat_eq o.device d) os)

append : (d : ℕ) (xs ys : List Opening) → seats d (xs ++ ys) ≡ seats d xs + seats d ys
append d xs ys = ap length (filter-append (λ (o : Opening). nat_eq o.device d) xs ys) ∙ length-append (filter (λ (o : Opening). nat_eq o.device d) xs) _

either_half : (b : Bool) (d : ℕ) (o : Opening) (xs ys : List Opening) → seats d (cond b (o ∷ xs) xs) + seats d (cond (not b) (o ∷ ys) ys) ≡ one d o + (seats d xs + seats d ys)
either_half true d o xs ys = omega (arith, cons d o xs)
either_half false d o xs ys = omega (arith, cons d o ys)

halves : (d : ℕ) (os : List Opening) → seats d (firsts os) + seats d (others os) ≡ seats d os
halves d [] = refl
halves d (o ∷ os) = omega (arith, either_half (is_first o) d o (firsts os) (others os), halves d os, cons d o os)

of_subs : (d device : ℕ) (spec : DeviceSpec) (sub relid n : ℕ) → seats d (subs_from device spec sub relid n) ≡ cond (nat_eq device d) n 0
of_subs d device spec sub relid zero = none (nat_eq device d)
  where
    none : (b : Bool) → length {A = Opening} [] ≡ cond b 0 0
    none true = refl
    none false = refl
of_subs d device spec sub relid (suc n) = cons d _ (subs_from device spec (sub + 1) (relid + 1) n) ∙ (ap (λ k. cond (nat_eq device d) 1 0 + k) (of_subs d device spec (sub + 1) (relid + 1) n) ∙ add (nat_eq device d))
  where
    add : (b : Bool) → cond b 1 0 + cond b n 0 ≡ cond b (suc n) 0
    add true = omega arith
    add false = omega arith

of_device : (d device : ℕ) (spec : DeviceSpec) (next : ℕ) → seats d (channels_from device spec next) ≡ cond (nat_eq device d) (1 + subs_of spec) 0
of_device d device spec next = cons d _ (subs_from device spec 1 next (subs_of spec)) ∙ (ap (λ k. cond (nat_eq device d) 1 0 + k) (of_subs d device spec 1 next (subs_of spec)) ∙ add (nat_eq device d))
  where
    add : (b : Bool) → cond b 1 0 + cond b (subs_of spec) 0 ≡ cond b (1 + subs_of spec) 0
    add true = refl
    add false = omega arith

elsewhere : (b : Bool) (d place next : ℕ) (spec : DeviceSpec) (on off : List Opening) (k : ℕ) → nat_eq place d ≡ false → seats d on ≡ k → seats d off ≡ k → seats d (if b then channels_from place spec next ++ on else off) ≡ k
elsewhere true d place next spec on off k other e f =
    let none : seats d (channels_from place spec next) ≡ 0 = of_device d place spec next ∙ ap (λ b. cond b (1 + subs_of spec) 0) other in
    omega (arith, append d (channels_from place spec next) on, none, e)
elsewhere false d place next spec on off k other e f = f

none_before : (opened : ℕ → Bool) (d place next : ℕ) (specs : List DeviceSpec) → d < place → seats d (opened_from opened place next specs) ≡ 0
none_before opened d place next [] low = refl
none_before opened d place next (spec ∷ specs) low =
    elsewhere (opened place) d place next spec _ _ 0 (grind (arith, nat_tests, low)) (none_before opened d (place + 1) (next + subs_of spec) specs (omega (arith, low))) (none_before opened d (place + 1) next specs (omega (arith, low)))

all_of : (spec : DeviceSpec) → 1 + subs_of spec ≡ channels_of spec
all_of spec = refl

at : (opened : ℕ → Bool) (d i place next : ℕ) (specs : List DeviceSpec) (spec : DeviceSpec) → d ≡ place + i → slice_get specs i ≡ Some spec → opened d ≡ true → seats d (opened_from opened place next specs) ≡ channels_of spec
at opened d i place next [] spec is there on = absurd (cc)
at opened d zero place next (s ∷ specs) spec is there on =
    let same : s ≡ spec = cc in
    let here : place ≡ d = omega (arith, is) in
    let match : nat_eq place d ≡ true = grind (arith, nat_tests, here) in
    let rest = none_before opened d (place + 1) (next + subs_of s) specs (omega (arith, is)) in
    let own : seats d (channels_from place s next) ≡ 1 + subs_of s = of_device d place s next ∙ ap (λ b. cond b (1 + subs_of s) 0) match in
    ap (λ b. seats d (if b then channels_from place s next ++ opened_from opened (place + 1) (next + subs_of s) specs else opened_from opened (place + 1) next specs)) (ap opened here ∙ on)
    ∙ (omega (arith, append d (channels_from place s next) (opened_from opened (place + 1) (next + subs_of s) specs), rest, own, all_of s) ∙ ap channels_of same)
at opened d (suc i) place next (s ∷ specs) spec is there on =
    elsewhere (opened place) d place next s _ _ (channels_of spec) (grind (arith, nat_tests, is)) (at opened d i (place + 1) (next + subs_of s) specs spec (omega (arith, is)) there on) (at opened d i (place + 1) next specs spec (omega (arith, is)) there on)

pub all_seats_lem : AllSeats
all_seats_lem opened next device specs spec there on =
    let os = opened_from opened 0 next specs in
    append device (firsts os) (others os) ∙ (halves device os ∙ at opened device device 0 next specs spec (omega arith) there on)
