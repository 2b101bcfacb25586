-- The channels that a phase opens, one device after the other.
use Rattle.std.proofs.Common.{◌≡◌, ◌∙◌, ℕ, zero, suc, ◌+◌, ◌<◌, ◌≤◌, ◌==◌, not, Bool, true, false, cond, if◌then◌else◌, List, [], ◌∷◌, ◌++◌, length, map, take, get_or, nat_eq, refl, sym, ap, arith, length-append, append_assoc, Some}
use Rattle.std.specs.Prelude.{slice_get}
use Rattle.std.specs.List.{AllByRecursion}
use Rattle.std.proofs.lemmas.List.{append-nil, take_more, length-take, map-append}
use Rattle.std.proofs.lemmas.List.Elements.{filter-append}
use Rattle.std.proofs.lemmas.Bool.Decides.{nat_tests}
use Rattle.script_lines.specs.declared.line.DeviceSpec.{DeviceSpec}
use Rattle.script_lines.specs.declared.line.DeviceSpec.TheVariants.{Beat}
use Rattle.script_phases.specs.Openings.{Opening, subs_of, subs_from, channels_from, opened_from, others}
use Rattle.phase_plan.specs.declared.opening.Opening.{Opening as Place}
use Rattle.phase_plan.specs.Opened.{channels_if, plain}

-- sub-channels are no first channels
not_first : (sub : ℕ) → 1 ≤ sub → nat_eq sub 0 ≡ false
not_first sub some = grind (arith, nat_tests, some)

subs_others : (device sub relid n : ℕ) (spec : DeviceSpec) → 1 ≤ sub → length (others (subs_from device spec sub relid n)) ≡ n
subs_others device sub relid zero spec some = refl
subs_others device sub relid (suc n) spec some =
    let o : Opening = record { relid = relid; device = device; spec = spec; sub = sub } in
    let rest = others (subs_from device spec (sub + 1) (relid + 1) n) in
    ap (λ b. length (cond (not b) (o ∷ rest) rest)) (not_first sub some) ∙ ap (λ k. suc k) (subs_others device (sub + 1) (relid + 1) n spec (omega arith))

pub channels_others : (device relid : ℕ) (spec : DeviceSpec) → length (others (channels_from device spec relid)) ≡ subs_of spec
channels_others device relid spec = subs_others device 1 relid (subs_of spec) spec (omega arith)

pub if_others : (b : Bool) (device relid : ℕ) (spec : DeviceSpec) → length (others (channels_if b device spec relid)) ≡ (if b then subs_of spec else 0)
if_others true device relid spec = channels_others device relid spec
if_others false device relid spec = refl

-- with one device more
pub other_one : (a : ℕ) (xs ys : List Opening) → length (others xs) ≡ a → length (others (xs ++ ys)) ≡ a + length (others ys)
other_one a xs ys is =
    let parts = ap length (filter-append (λ (o : Opening). not (o.sub == 0)) xs ys) in
    let sum = length-append (others xs) (others ys) in
    omega (arith, is, parts, sum)

opened_one : (device next : ℕ) (k : DeviceSpec) (rest more : ℕ → List Opening) (x : ℕ → List Opening) (b : Bool)
    → ((n : ℕ) → more n ≡ rest n ++ x (n + length (others (rest n))))
    → (if b then channels_from device k next ++ more (next + subs_of k) else more next)
    ≡ (if b then channels_from device k next ++ rest (next + subs_of k) else rest next) ++ x (next + length (others (if b then channels_from device k next ++ rest (next + subs_of k) else rest next)))
opened_one device next k rest more x true each =
    let mine = channels_others device next k in
    let count = other_one (subs_of k) (channels_from device k next) (rest (next + subs_of k)) mine in
    let place : (next + subs_of k) + length (others (rest (next + subs_of k))) ≡ next + length (others (channels_from device k next ++ rest (next + subs_of k))) = omega (arith, count) in
    ap (λ ys. channels_from device k next ++ ys) (each (next + subs_of k)) ∙ sym (append_assoc (channels_from device k next) (rest (next + subs_of k)) (x ((next + subs_of k) + length (others (rest (next + subs_of k))))))
    ∙ ap (λ n. (channels_from device k next ++ rest (next + subs_of k)) ++ x n) place
opened_one device next k rest more x false each = each next

opened_more : (p : ℕ → Bool) (device next : ℕ) (specs : List DeviceSpec) (spec : DeviceSpec)
    → opened_from p device next (specs ++ spec ∷ []) ≡ opened_from p device next specs ++ channels_if (p (device + length specs)) (device + length specs) spec (next + length (others (opened_from p device next specs)))
opened_more p device next [] spec =
    let a : device ≡ device + 0 = omega arith in
    let b : next ≡ next + 0 = omega arith in
    one (p device) ∙ (λ i. channels_if (p (a i)) (a i) spec (b i))
  where
    one : (t : Bool) → (if t then channels_from device spec next ++ [] else []) ≡ channels_if t device spec next
    one true = append-nil (channels_from device spec next)
    one false = refl
opened_more p device next (k ∷ specs) spec =
    let place : (device + 1) + length specs ≡ device + suc (length specs) = omega arith in
    let x : ℕ → List Opening = λ n. channels_if (p (device + suc (length specs))) (device + suc (length specs)) spec n in
    opened_one device next k (λ n. opened_from p (device + 1) n specs) (λ n. opened_from p (device + 1) n (specs ++ spec ∷ [])) x (p device)
    (λ n. opened_more p (device + 1) n specs spec ∙ (λ i. opened_from p (device + 1) n specs ++ channels_if (p (place i)) (place i) spec (n + length (others (opened_from p (device + 1) n specs)))))

-- with the device at a place
pub opened_next : (p : ℕ → Bool) (start next i : ℕ) (specs : List DeviceSpec) → i < length specs → next ≡ start + length (others (opened_from p 0 start (take i specs)))
    → opened_from p 0 start (take (i + 1) specs) ≡ opened_from p 0 start (take i specs) ++ channels_if (p i) i (get_or specs i Beat) next
opened_next p start next i specs less is =
    let spec = get_or specs i Beat in
    let xs = opened_from p 0 start (take i specs) in
    let place : 0 + length (take i specs) ≡ i = let l = length-take i specs in omega (arith, l, less) in
    ap (opened_from p 0 start) (take_more specs i Beat less) ∙ opened_more p 0 start (take i specs) spec ∙ (λ j. xs ++ channels_if (p (place j)) (place j) spec (sym is j))

-- one sub-channel more
pub subs_more : (device sub relid i : ℕ) (spec : DeviceSpec) → subs_from device spec sub relid (suc i) ≡ subs_from device spec sub relid i ++ record { relid = relid + i; device = device; spec = spec; sub = sub + i } ∷ []
subs_more device sub relid zero spec =
    let a : relid ≡ relid + 0 = omega arith in
    let b : sub ≡ sub + 0 = omega arith in
    (λ i. record { relid = a i; device = device; spec = spec; sub = b i } ∷ [])
subs_more device sub relid (suc i) spec =
    let first : Opening = record { relid = relid; device = device; spec = spec; sub = sub } in
    let a : (relid + 1) + i ≡ relid + suc i = omega arith in
    let b : (sub + 1) + i ≡ sub + suc i = omega arith in
    ap (λ (cs : List Opening). first ∷ cs) (subs_more device (sub + 1) (relid + 1) i spec)
    ∙ (λ j. first ∷ (subs_from device spec (sub + 1) (relid + 1) i ++ record { relid = a j; device = device; spec = spec; sub = b j } ∷ []))

abbrev pub first_of : ℕ → DeviceSpec → Opening
first_of device spec = record { relid = device + 1; device = device; spec = spec; sub = 0 }

-- and so it stands in the plan
pub sub_opened : (device start i next : ℕ) (spec : DeviceSpec) (old os os' : List Place) → os ≡ old ++ map plain (first_of device spec ∷ subs_from device spec 1 start i) → next ≡ start + i → os' ≡ os ++ record { relid = next; device = device; sub = 1 + i } ∷ []
    → os' ≡ old ++ map plain (first_of device spec ∷ subs_from device spec 1 start (i + 1))
sub_opened device start i next spec old os os' so_far is more =
    let xs : List Opening = first_of device spec ∷ subs_from device spec 1 start i in
    let y : Opening = record { relid = start + i; device = device; spec = spec; sub = 1 + i } in
    let one : suc i ≡ i + 1 = omega arith in
    more ∙ (λ j. so_far j ++ record { relid = is j; device = device; sub = 1 + i } ∷ []) ∙ append_assoc old (map plain xs) (plain y ∷ []) ∙ ap (λ l. old ++ l) (sym (map-append plain xs (y ∷ [])))
    ∙ ap (λ (cs : List Opening). old ++ map plain (first_of device spec ∷ cs)) (sym (subs_more device 1 start i spec)) ∙ ap (λ n. old ++ map plain (first_of device spec ∷ subs_from device spec 1 start n)) one

-- each channel says what its device is
abbrev pub HasItsSpec : List DeviceSpec → Opening → Type 0
HasItsSpec specs o = slice_get specs o.device ≡ Some o.spec

subs_have : (whole : List DeviceSpec) (device sub relid n : ℕ) (spec : DeviceSpec) → slice_get whole device ≡ Some spec → AllByRecursion (HasItsSpec whole) (subs_from device spec sub relid n)
subs_have whole device sub relid zero spec at = tt
subs_have whole device sub relid (suc n) spec at = (at, subs_have whole device (sub + 1) (relid + 1) n spec at)

all_join : {X : Type 0} (P : X → Type 0) (xs ys : List X) → AllByRecursion P xs → AllByRecursion P ys → AllByRecursion P (xs ++ ys)
all_join P [] ys first rest = rest
all_join P (x ∷ xs) ys first rest = (first.0, all_join P xs ys first.1 rest)

have_if : (whole : List DeviceSpec) (device next : ℕ) (spec : DeviceSpec) (on off : List Opening) (b : Bool) → slice_get whole device ≡ Some spec → AllByRecursion (HasItsSpec whole) on → AllByRecursion (HasItsSpec whole) off
    → AllByRecursion (HasItsSpec whole) (if b then channels_from device spec next ++ on else off)
have_if whole device next spec on off true at on_so off_so = (at, all_join (HasItsSpec whole) (subs_from device spec 1 next (subs_of spec)) on (subs_have whole device 1 next (subs_of spec) spec at) on_so)
have_if whole device next spec on off false at on_so off_so = off_so

specs_from : (whole : List DeviceSpec) (p : ℕ → Bool) (device next : ℕ) (specs : List DeviceSpec) → ((j : ℕ) (spec : DeviceSpec) → slice_get specs j ≡ Some spec → slice_get whole (device + j) ≡ Some spec) → AllByRecursion (HasItsSpec whole) (opened_from p device next specs)
specs_from whole p device next [] at = tt
specs_from whole p device next (spec ∷ specs) at =
    let here : device + 0 ≡ device = omega arith in
    let later : (j : ℕ) (s : DeviceSpec) → slice_get specs j ≡ Some s → slice_get whole ((device + 1) + j) ≡ Some s = λ j s e. let place : device + suc j ≡ (device + 1) + j = omega arith in ap (slice_get whole) (sym place) ∙ at (suc j) s e in
    have_if whole device next spec (opened_from p (device + 1) (next + subs_of spec) specs) (opened_from p (device + 1) next specs) (p device) (ap (slice_get whole) (sym here) ∙ at 0 spec refl)
    (specs_from whole p (device + 1) (next + subs_of spec) specs later) (specs_from whole p (device + 1) next specs later)

pub specs_are : (p : ℕ → Bool) (next : ℕ) (specs : List DeviceSpec) → AllByRecursion (HasItsSpec specs) (opened_from p 0 next specs)
specs_are p next specs = specs_from specs p 0 next specs (λ j spec e. ap (slice_get specs) (let place : 0 + j ≡ j = omega arith in place) ∙ e)
