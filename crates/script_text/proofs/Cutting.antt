-- Where lists of bytes are cut.
use Rattle.std.proofs.Common.{◌≡◌, ◌≢◌, ℕ, zero, suc, ◌+◌, ◌<◌, ◌==◌, true, false, List, [], ◌∷◌, length, get_or, take, drop, length-drop, ◌≤◌, ◌-◌, refl, ap, sym, ◌∙◌, arith}
use Rattle.std.specs.List.{slice_split, onto_first}
use Rattle.std.proofs.lemmas.List.Splits.{slice_split-cons_yes, slice_split-cons_no, length-slice_split}
use Rattle.std.proofs.lemmas.Bool.Decides.{nat_tests}
use Rattle.std.proofs.lemmas.List.{take_all}
use Rattle.std.specs.Str.Lines.{lines, lines_of_parts, strip_carriage_return}
use Rattle.std.specs.Prelude.{None}
use Rattle.script_text.specs.Forms.{pair_of}

eq_same : (x at : ℕ) → x ≡ at → (x == at) ≡ true
eq_same x at is = grind (arith, nat_tests)

eq_other : (x at : ℕ) → x ≢ at → (x == at) ≡ false
eq_other x at is = grind (arith, nat_tests)

pub split_nowhere : (xs : List ℕ) (at : ℕ) → ((k : ℕ) → k < length xs → get_or xs k 0 ≡ at → ⊥) → slice_split (λ b. b == at) xs ≡ xs ∷ []
split_nowhere [] at none = refl
split_nowhere (x ∷ xs) at none =
    slice_split-cons_no (λ b. b == at) x xs (eq_other x at (none 0 (omega arith)))
    ∙ ap (onto_first x) (split_nowhere xs at (λ k le. none (suc k) (omega arith)))

pub split_here : (xs : List ℕ) (at i : ℕ) → i < length xs → get_or xs i 0 ≡ at → ((k : ℕ) → k < i → get_or xs k 0 ≡ at → ⊥) → slice_split (λ b. b == at) xs ≡ take i xs ∷ slice_split (λ b. b == at) (drop (i + 1) xs)
split_here [] at i le is none = absurd (omega arith)
split_here (x ∷ xs) at zero le is none = slice_split-cons_yes (λ b. b == at) x xs (eq_same x at is)
split_here (x ∷ xs) at (suc i) le is none =
    slice_split-cons_no (λ b. b == at) x xs (eq_other x at (none 0 (omega arith)))
    ∙ ap (onto_first x) (split_here xs at i (omega arith) is (λ k le. none (suc k) (omega arith)))
    ∙ (let same : suc (i + 1) ≡ suc i + 1 = omega arith in ap (λ (n : ℕ). (x ∷ take i xs) ∷ slice_split (λ b. b == at) (drop n (x ∷ xs))) same)

-- the same, where the rest is cut to its length
pub split_there : (xs : List ℕ) (at i : ℕ) → i < length xs → get_or xs i 0 ≡ at → ((k : ℕ) → k < i → get_or xs k 0 ≡ at → ⊥) → slice_split (λ b. b == at) xs ≡ take i xs ∷ slice_split (λ b. b == at) (take (length xs - (i + 1)) (drop (i + 1) xs))
split_there xs at i le is none =
    let short : length (drop (i + 1) xs) ≤ length xs - (i + 1) = omega (arith, length-drop (i + 1) xs) in
    split_here xs at i le is none ∙ ap (λ (l : List ℕ). take i xs ∷ slice_split (λ b. b == at) l) (sym (take_all (length xs - (i + 1)) (drop (i + 1) xs) short))

-- no list is cut into no parts
pub some_part : (xs : List ℕ) (at : ℕ) → 0 < length (slice_split (λ b. b == at) xs)
some_part xs at = omega (arith, length-slice_split (λ b. b == at) xs)

more_parts : (line : List ℕ) (parts : List (List ℕ)) → 0 < length parts → lines_of_parts (line ∷ parts) ≡ strip_carriage_return line ∷ lines_of_parts parts
more_parts line [] some = absurd (omega arith)
more_parts line (p ∷ parts) some = refl

pub line_here : (bytes line rest : List ℕ) → slice_split (λ b. b == 10) bytes ≡ line ∷ slice_split (λ b. b == 10) rest → lines bytes ≡ strip_carriage_return line ∷ lines rest
line_here bytes line rest cut = ap lines_of_parts cut ∙ more_parts line (slice_split (λ b. b == 10) rest) (some_part rest 10)

-- three parts and more are no pair
pub no_pair : (parts : List (List ℕ)) (a b : List ℕ) (more : List (List ℕ)) → 0 < length more → parts ≡ a ∷ b ∷ more → pair_of parts ≡ None
no_pair parts a b [] less is = absurd (omega (arith, less))
no_pair parts a b (c ∷ more) less is = ap pair_of is
