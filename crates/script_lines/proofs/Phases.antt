-- The phases of a script as lines come.
use Rattle.std.proofs.Common.{◌≡◌, ℕ, ◌+◌, ◌<◌, ◌≤◌, Bool, true, false, cond, List, [], ◌∷◌, ◌++◌, length, refl, sym, ap, ◌∙◌, subst, arith, All}
use Rattle.std.specs.Prelude.{◌||◌, Option, Some, None, if◌then◌else◌, count_by}
use Rattle.std.specs.List.{onto_first, AllByRecursion, list_any}
use Rattle.std.specs.Option.{option_or}
use Rattle.std.proofs.lemmas.List.Splits.{slice_split-cons_yes, slice_split-cons_no, length-slice_split}
use Rattle.std.proofs.lemmas.List.Sums.{sum_by-append, sum_by-cons}
use Rattle.std.proofs.lemmas.List.Elements.{recursion_from_All, All-from_recursion}
use Rattle.script_lines.specs.declared.line.Line.{Line}
use Rattle.script_lines.specs.declared.line.What.{What}
use Rattle.script_lines.specs.Parts.{ends_part, parts, last_of, this_part, phases_over, phase_behind, phase_from}

pub by_test : {P : Type 0} (b : Bool) → (b ≡ true → P) → (b ≡ false → P) → P
by_test true f g = f refl
by_test false f g = g refl

pub neither : (a b : Bool) → (a || b) ≡ false → (a ≡ false) × (b ≡ false)
neither true b is = absurd (cc)
neither false b is = (refl, is)

some_part : (ls : List Line) → 0 < length (parts ls)
some_part ls = omega (arith, length-slice_split ends_part ls)

onto_push : (k : Line) (ps : List (List Line)) (q : List Line) → 0 < length ps → onto_first k (ps ++ q ∷ []) ≡ onto_first k ps ++ q ∷ []
onto_push k [] q less = absurd (omega (arith, less))
onto_push k (p ∷ ps) q less = refl

-- a line more in the last phase
abbrev pub onto_last : List (List Line) → Line → List (List Line)
onto_last [] l = []
onto_last (p ∷ []) l = (p ++ l ∷ []) ∷ []
onto_last (p ∷ q ∷ ps) l = p ∷ onto_last (q ∷ ps) l

last_cons : (p : List Line) (ps : List (List Line)) (l : Line) → 0 < length ps → onto_last (p ∷ ps) l ≡ p ∷ onto_last ps l
last_cons p [] l less = absurd (omega (arith, less))
last_cons p (q ∷ ps) l less = refl

first_last : (k : Line) (ps : List (List Line)) (l : Line) → 0 < length ps → onto_first k (onto_last ps l) ≡ onto_last (onto_first k ps) l
first_last k [] l less = absurd (omega (arith, less))
first_last k (p ∷ []) l less = refl
first_last k (p ∷ q ∷ ps) l less = refl

pub parts_phase : (ls : List Line) (l : Line) → ends_part l ≡ true → parts (ls ++ l ∷ []) ≡ parts ls ++ [] ∷ []
parts_phase [] l ends = slice_split-cons_yes ends_part l [] ends
parts_phase (k ∷ ks) l ends = by_test (ends_part k)
    (λ e. slice_split-cons_yes ends_part k (ks ++ l ∷ []) e ∙ ap (λ ps. [] ∷ ps) (parts_phase ks l ends) ∙ sym (ap (λ ps. ps ++ [] ∷ []) (slice_split-cons_yes ends_part k ks e)))
    (λ e. slice_split-cons_no ends_part k (ks ++ l ∷ []) e ∙ ap (onto_first k) (parts_phase ks l ends) ∙ onto_push k (parts ks) [] (some_part ks)
    ∙ sym (ap (λ ps. ps ++ [] ∷ []) (slice_split-cons_no ends_part k ks e)))

pub parts_other : (ls : List Line) (l : Line) → ends_part l ≡ false → parts (ls ++ l ∷ []) ≡ onto_last (parts ls) l
parts_other [] l other = slice_split-cons_no ends_part l [] other
parts_other (k ∷ ks) l other = by_test (ends_part k)
    (λ e. slice_split-cons_yes ends_part k (ks ++ l ∷ []) e ∙ ap (λ ps. [] ∷ ps) (parts_other ks l other) ∙ sym (last_cons [] (parts ks) l (some_part ks))
    ∙ sym (ap (λ ps. onto_last ps l) (slice_split-cons_yes ends_part k ks e)))
    (λ e. slice_split-cons_no ends_part k (ks ++ l ∷ []) e ∙ ap (onto_first k) (parts_other ks l other) ∙ first_last k (parts ks) l (some_part ks)
    ∙ sym (ap (λ ps. onto_last ps l) (slice_split-cons_no ends_part k ks e)))

last_phase : (ps : List (List Line)) (q : List Line) → last_of (ps ++ q ∷ []) ≡ q
last_phase [] q = refl
last_phase (p ∷ []) q = refl
last_phase (p ∷ r ∷ ps) q = last_phase (r ∷ ps) q

last_other : (ps : List (List Line)) (l : Line) → 0 < length ps → last_of (onto_last ps l) ≡ last_of ps ++ l ∷ []
last_other [] l less = absurd (omega (arith, less))
last_other (p ∷ []) l less = refl
last_other (p ∷ q ∷ []) l less = refl
last_other (p ∷ q ∷ r ∷ ps) l less = last_other (q ∷ r ∷ ps) l (omega arith)

-- a new phase has no lines yet
pub this_phase : (ls : List Line) (l : Line) → ends_part l ≡ true → this_part (ls ++ l ∷ []) ≡ []
this_phase ls l ends = ap last_of (parts_phase ls l ends) ∙ last_phase (parts ls) []

pub this_other : (ls : List Line) (l : Line) → ends_part l ≡ false → this_part (ls ++ l ∷ []) ≡ this_part ls ++ l ∷ []
this_other ls l other = ap last_of (parts_other ls l other) ∙ last_other (parts ls) l (some_part ls)

-- a count of a list and one more
count_more : (p : Line → Bool) (ls : List Line) (l : Line) → count_by p (ls ++ l ∷ []) ≡ count_by p ls + cond (p l) 1 0
count_more p ls l = sum_by-append (λ k. cond (p k) 1 0) ls (l ∷ []) ∙ (let one : count_by p (l ∷ []) ≡ cond (p l) 1 0 = omega (arith, sum_by-cons (λ (k : Line). cond (p k) 1 0) l []) in ap (λ n. count_by p ls + n) one)

pub count_yes : (p : Line → Bool) (ls : List Line) (l : Line) → p l ≡ true → count_by p (ls ++ l ∷ []) ≡ count_by p ls + 1
count_yes p ls l e = count_more p ls l ∙ ap (λ b. count_by p ls + cond b 1 0) e

pub count_no : (p : Line → Bool) (ls : List Line) (l : Line) → p l ≡ false → count_by p (ls ++ l ∷ []) ≡ count_by p ls
count_no p ls l e = let same : count_by p ls + 0 ≡ count_by p ls = omega arith in count_more p ls l ∙ ap (λ b. count_by p ls + cond b 1 0) e ∙ same

-- what holds of each phase goes on with a line that keeps it
module _ (P : List Line → Type 0) where
  with_next : P [] → (ps : List (List Line)) → AllByRecursion P ps → AllByRecursion P (ps ++ [] ∷ [])
  with_next empty [] each = (empty, tt)
  with_next empty (p ∷ ps) each = (each.0, with_next empty ps each.1)

  with_more : (ps : List (List Line)) (l : Line) → AllByRecursion P ps → P (last_of ps ++ l ∷ []) → AllByRecursion P (onto_last ps l)
  with_more [] l each more = each
  with_more (p ∷ []) l each more = (more, tt)
  with_more (p ∷ q ∷ ps) l each more = (each.0, with_more (q ∷ ps) l each.1 more)

  pub each_phase : P [] → (ls : List Line) (l : Line) → ends_part l ≡ true → All P (parts ls) → All P (parts (ls ++ l ∷ []))
  each_phase empty ls l ends each = subst (All P) (sym (parts_phase ls l ends)) (All-from_recursion P (parts ls ++ [] ∷ []) (with_next empty (parts ls) (recursion_from_All P (parts ls) each)))

  pub each_other : (ls : List Line) (l : Line) → ends_part l ≡ false → P (this_part ls ++ l ∷ []) → All P (parts ls) → All P (parts (ls ++ l ∷ []))
  each_other ls l other more each =
      subst (All P) (sym (parts_other ls l other)) (All-from_recursion P (onto_last (parts ls) l) (with_more (parts ls) l (recursion_from_All P (parts ls) each) more))

  last_has : (ps : List (List Line)) → 0 < length ps → AllByRecursion P ps → P (last_of ps)
  last_has [] less each = absurd (omega (arith, less))
  last_has (p ∷ []) less each = each.0
  last_has (p ∷ q ∷ ps) less each = last_has (q ∷ ps) (omega arith) each.1

  pub this_has : (ls : List Line) → All P (parts ls) → P (this_part ls)
  this_has ls each = last_has (parts ls) (some_part ls) (recursion_from_All P (parts ls) each)

-- a test that no line passes, no line of the last phase passes
module _ (p : Line → Bool) where
  none_first : (k : Line) (ps : List (List Line)) → p k ≡ false → list_any p (last_of ps) ≡ false → list_any p (last_of (onto_first k ps)) ≡ false
  none_first k [] one none = ap (λ b. b || false) one
  none_first k (q ∷ []) one none = ap (λ b. b || list_any p q) one ∙ none
  none_first k (q ∷ r ∷ ps) one none = none

  last_behind : (ps : List (List Line)) → 0 < length ps → list_any p (last_of ([] ∷ ps)) ≡ list_any p (last_of ps)
  last_behind [] less = absurd (omega (arith, less))
  last_behind (q ∷ ps) less = refl

  pub none_this : (ls : List Line) → list_any p ls ≡ false → list_any p (this_part ls) ≡ false
  none_this [] none = refl
  none_this (k ∷ ks) none =
      let both = neither (p k) (list_any p ks) none in
      by_test (ends_part k)
      (λ e. ap (λ ps. list_any p (last_of ps)) (slice_split-cons_yes ends_part k ks e) ∙ last_behind (parts ks) (some_part ks) ∙ none_this ks both.1)
      (λ e. ap (λ ps. list_any p (last_of ps)) (slice_split-cons_no ends_part k ks e) ∙ none_first k (parts ks) both.0 (none_this ks both.1))

  -- such lines are none
  pub none_counted : (ls : List Line) → list_any p ls ≡ false → count_by p ls ≡ 0
  none_counted [] none = refl
  none_counted (k ∷ ks) none =
      let both = neither (p k) (list_any p ks) none in
      let zero : cond {A = ℕ} (p k) 1 0 ≡ 0 = ap (λ b. cond {A = ℕ} b 1 0) both.0 in
      omega (arith, sum_by-cons (λ (l : Line). cond (p l) 1 0) k ks, zero, none_counted ks both.1)

pub phase_here : (kind : What → Bool) (phase : ℕ) (l : Line) (ls : List Line) → kind l.what ≡ true → phase_from kind phase (l ∷ ls) ≡ Some phase
phase_here kind phase l ls e = ap (λ b. if b then Some phase else phase_from kind (phase_behind phase l) ls) e

pub phase_on : (kind : What → Bool) (phase : ℕ) (l : Line) (ls : List Line) → kind l.what ≡ false → phase_from kind phase (l ∷ ls) ≡ phase_from kind (phase_behind phase l) ls
phase_on kind phase l ls e = ap (λ b. if b then Some phase else phase_from kind (phase_behind phase l) ls) e

pub behind_count : (phase : ℕ) (l : Line) (ls : List Line) → phase_behind phase l + phases_over ls ≡ phase + phases_over (l ∷ ls)
behind_count phase l ls =
    let more = sum_by-cons (λ (k : Line). cond (ends_part k) 1 0) l ls in
    by_test (ends_part l)
    (λ e. let next : phase_behind phase l ≡ phase + 1 = ap (λ b. if b then phase + 1 else phase) e in
    let one : cond {A = ℕ} (ends_part l) 1 0 ≡ 1 = ap (λ b. cond {A = ℕ} b 1 0) e in omega (arith, more, next, one))
    (λ e. let next : phase_behind phase l ≡ phase = ap (λ b. if b then phase + 1 else phase) e in
    let one : cond {A = ℕ} (ends_part l) 1 0 ≡ 0 = ap (λ b. cond {A = ℕ} b 1 0) e in omega (arith, more, next, one))

-- what a line at the end adds: its phase, where it is of the kind
abbrev pub phase_at : ℕ → Bool → Option ℕ
phase_at phase is = if is then Some phase else None

phase_more_from : (kind : What → Bool) (phase : ℕ) (ls : List Line) (l : Line) → phase_from kind phase (ls ++ l ∷ []) ≡ option_or (phase_from kind phase ls) (phase_at (phase + phases_over ls) (kind l.what))
phase_more_from kind phase [] l = by_test (kind l.what)
    (λ e. let same : phase ≡ phase + 0 = omega arith in phase_here kind phase l [] e ∙ ap Some same ∙ sym (ap (phase_at (phase + 0)) e))
    (λ e. phase_on kind phase l [] e ∙ sym (ap (phase_at (phase + 0)) e))
phase_more_from kind phase (k ∷ ks) l = by_test (kind k.what)
    (λ e. phase_here kind phase k (ks ++ l ∷ []) e ∙ sym (ap (λ o. option_or o (phase_at (phase + phases_over (k ∷ ks)) (kind l.what))) (phase_here kind phase k ks e)))
    (λ e. phase_on kind phase k (ks ++ l ∷ []) e ∙ phase_more_from kind (phase_behind phase k) ks l
    ∙ ap (λ n. option_or (phase_from kind (phase_behind phase k) ks) (phase_at n (kind l.what))) (behind_count phase k ks)
    ∙ sym (ap (λ o. option_or o (phase_at (phase + phases_over (k ∷ ks)) (kind l.what))) (phase_on kind phase k ks e)))

pub phase_more : (kind : What → Bool) (ls : List Line) (l : Line) → phase_from kind 0 (ls ++ l ∷ []) ≡ option_or (phase_from kind 0 ls) (phase_at (phases_over ls) (kind l.what))
phase_more kind ls l =
    let same : 0 + phases_over ls ≡ phases_over ls = omega arith in
    phase_more_from kind 0 ls l ∙ ap (λ n. option_or (phase_from kind 0 ls) (phase_at n (kind l.what))) same

-- no line stands in a phase behind the one that goes on
pub phase_by : (kind : What → Bool) (phase : ℕ) (ls : List Line) (p : ℕ) → phase_from kind phase ls ≡ Some p → p ≤ phase + phases_over ls
phase_by kind phase [] p is = absurd (cc)
phase_by kind phase (l ∷ ls) p is = by_test (kind l.what)
    (λ e. let same : Some phase ≡ Some p = sym (phase_here kind phase l ls e) ∙ is in let at : phase ≡ p = cc (same) in omega (arith, at))
    (λ e. omega (arith, phase_by kind (phase_behind phase l) ls p (sym (phase_on kind phase l ls e) ∙ is), behind_count phase l ls))

-- where there is no such phase, there is no such line
pub none_such : (kind : What → Bool) (phase : ℕ) (ls : List Line) → phase_from kind phase ls ≡ None → count_by (λ l. kind l.what) ls ≡ 0
none_such kind phase [] is = refl
none_such kind phase (l ∷ ls) is =
    let more = sum_by-cons (λ (k : Line). cond (kind k.what) 1 0) l ls in
    by_test (kind l.what)
    (λ e. let same : Some phase ≡ None = sym (phase_here kind phase l ls e) ∙ is in absurd (cc (same)))
    (λ e. let zero : cond {A = ℕ} (kind l.what) 1 0 ≡ 0 = ap (λ b. cond {A = ℕ} b 1 0) e in
    omega (arith, more, zero, none_such kind (phase_behind phase l) ls (sym (phase_on kind phase l ls e) ∙ is)))
