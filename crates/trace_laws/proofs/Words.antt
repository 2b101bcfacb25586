-- Words between spaces make a line.
use Rattle.std.proofs.Common.{◌≡◌, ℕ, ◌-◌, ◌==◌, ◌&&◌, nat_le, Bool, true, false, List, [], ◌∷◌, ◌++◌, length, take, Some, None, refl, ap, ◌∙◌, arith, append_assoc}
use Rattle.std.specs.Prelude.{filter, slice_index, option_and_then, if◌then◌else◌, codes}
use Rattle.std.specs.List.{list_all, slice_split, onto_first}
use Rattle.std.specs.Str.Lines.{lines, strip_carriage_return}
use Rattle.std.proofs.lemmas.List.Splits.{slice_split-cons_yes, slice_split-cons_no}
use Rattle.std.proofs.lemmas.Bool.Decides.{nat_tests}
use Rattle.script_text.specs.Words.{is_word, words}
use Rattle.script_text.proofs.Cutting.{line_here}
use Rattle.line_words.specs.Lines.{is_printable, said_words}
use Rattle.trace_lines.specs.Rows.{said_by, said_in, says}
use Rattle.trace_lines.specs.Steps.{step_row}

pub both : (a b : Bool) → (a && b) ≡ true → (a ≡ true) × (b ≡ true)
both true true h = (refl, refl)
both true false h = cc
both false b h = cc

pub and_true : (a b : Bool) → a ≡ true → b ≡ true → (a && b) ≡ true
and_true true true h k = refl
and_true true false h k = cc
and_true false b h k = cc

-- a byte that is no space and ends no line
abbrev pub plain : ℕ → Bool
plain c = nat_le 33 c && nat_le c 126

pub record IsGood (w : List ℕ) : Type 0 where
  pub each : list_all plain w ≡ true
  pub some : is_word w ≡ true

no_space : (c : ℕ) → plain c ≡ true → (c == 32) ≡ false
no_space c h = grind (arith, nat_tests, h)

prints : (c : ℕ) → plain c ≡ true → is_printable c ≡ true
prints c h = grind (arith, nat_tests, h)

no_line : (c : ℕ) → is_printable c ≡ true → (c == 10) ≡ false
no_line c h = grind (arith, nat_tests, h)

no_return : (c : ℕ) → is_printable c ≡ true → (c == 13) ≡ false
no_return c h = grind (arith, nat_tests, h)

split_more : (w rest : List ℕ) → list_all plain w ≡ true → slice_split (λ b. b == 32) (w ++ 32 ∷ rest) ≡ w ∷ slice_split (λ b. b == 32) rest
split_more [] rest h = slice_split-cons_yes (λ b. b == 32) 32 rest refl
split_more (c ∷ w) rest h =
    let two = both (plain c) (list_all plain w) h in
    slice_split-cons_no (λ b. b == 32) c (w ++ 32 ∷ rest) (no_space c two.0) ∙ ap (onto_first c) (split_more w rest two.1)

split_last : (w : List ℕ) → list_all plain w ≡ true → slice_split (λ b. b == 32) w ≡ w ∷ []
split_last [] h = refl
split_last (c ∷ w) h =
    let two = both (plain c) (list_all plain w) h in
    slice_split-cons_no (λ b. b == 32) c w (no_space c two.0) ∙ ap (onto_first c) (split_last w two.1)

keeps : (w : List ℕ) (ws : List (List ℕ)) → is_word w ≡ true → filter is_word (w ∷ ws) ≡ w ∷ filter is_word ws
keeps [] ws h = cc
keeps (c ∷ w) ws h = refl

print_more : (w rest : List ℕ) → list_all plain w ≡ true → list_all is_printable rest ≡ true → list_all is_printable (w ++ 32 ∷ rest) ≡ true
print_more [] rest h k = k
print_more (c ∷ w) rest h k = let two = both (plain c) (list_all plain w) h in and_true _ _ (prints c two.0) (print_more w rest two.1 k)

print_last : (w : List ℕ) → list_all plain w ≡ true → list_all is_printable w ≡ true
print_last [] h = refl
print_last (c ∷ w) h = let two = both (plain c) (list_all plain w) h in and_true _ _ (prints c two.0) (print_last w two.1)

-- a line of these words
pub record HasWords (line : List ℕ) (ws : List (List ℕ)) : Type 0 where
  pub prints : list_all is_printable line ≡ true
  pub words_are : words line ≡ ws

pub one_word : (w : List ℕ) → IsGood w → HasWords w (w ∷ [])
one_word w good = record { prints = print_last w good.each; words_are = ap (filter is_word) (split_last w good.each) ∙ keeps w [] good.some }

pub more_words : (w rest : List ℕ) (ws : List (List ℕ)) → IsGood w → HasWords rest ws → HasWords (w ++ 32 ∷ rest) (w ∷ ws)
more_words w rest ws good has = record {
  prints = print_more w rest good.each has.prints;
  words_are = ap (filter is_word) (split_more w rest good.each) ∙ keeps w (slice_split (λ b. b == 32) rest) good.some ∙ ap (λ (vs : List (List ℕ)). w ∷ vs) has.words_are;
}

-- such a line is one where a line feed comes behind it
cut_here : (line rest : List ℕ) → list_all is_printable line ≡ true → slice_split (λ b. b == 10) (line ++ 10 ∷ rest) ≡ line ∷ slice_split (λ b. b == 10) rest
cut_here [] rest h = slice_split-cons_yes (λ b. b == 10) 10 rest refl
cut_here (c ∷ line) rest h =
    let two = both (is_printable c) (list_all is_printable line) h in
    slice_split-cons_no (λ b. b == 10) c (line ++ 10 ∷ rest) (no_line c two.0) ∙ ap (onto_first c) (cut_here line rest two.1)

last_prints : (line : List ℕ) (c : ℕ) → list_all is_printable (c ∷ line) ≡ true → (slice_index (c ∷ line) (length line) == 13) ≡ false
last_prints [] c h = no_return c (both (is_printable c) true h).0
last_prints (e ∷ line) c h = last_prints line e (both (is_printable c) (list_all is_printable (e ∷ line)) h).1

whole : (line : List ℕ) → list_all is_printable line ≡ true → strip_carriage_return line ≡ line
whole [] h = refl
whole (c ∷ line) h =
    let last : length (c ∷ line) - 1 ≡ length line = omega arith in
    ap (λ (n : ℕ). if slice_index (c ∷ line) n == 13 then take n (c ∷ line) else (c ∷ line)) last
    ∙ ap (λ (b : Bool). if b then take (length line) (c ∷ line) else (c ∷ line)) (last_prints line c h)

pub cuts : (line rest : List ℕ) → list_all is_printable line ≡ true → lines ((line ++ 10 ∷ []) ++ rest) ≡ line ∷ lines rest
cuts line rest h =
    ap lines (append_assoc line (10 ∷ []) rest)
    ∙ line_here (line ++ 10 ∷ rest) line rest (cut_here line rest h) ∙ ap (λ (l : List ℕ). l ∷ lines rest) (whole line h)

-- what a line of a step says
pub says_step : (d : ℕ) (line : List ℕ) (ws : List (List ℕ)) → HasWords line (codes "step" ∷ ws) → said_in d line ≡ says (step_row d ws)
says_step d line ws has =
    ap (λ (b : Bool). option_and_then (said_by d) (if b then Some (said_words (words line)) else None)) has.prints
    ∙ ap (λ (vs : List (List ℕ)). option_and_then (said_by d) (Some (said_words vs))) has.words_are
