-- The first run of bytes.
use Rattle.std.proofs.Common.{◌≡◌, ℕ, suc, ◌+◌, ◌==◌, Bool, true, false, cond, List, [], ◌∷◌, length, get_or, drop, ◌<◌, ◌≤◌, refl, ap, sym, ◌∙◌, arith}
use Rattle.std.proofs.lemmas.Bool.Decides.{nat_tests}
use Rattle.script_text.specs.declared.run.Run.{Run}
use Rattle.script_text.specs.Runs.{run, onto_runs, runs_of, front_len}

-- a byte in front of the first run, which is of the same byte or of another
onto_step : (b c n : ℕ) (rs : List Run) (t : Bool) → (c == b) ≡ t → onto_runs b (run c n ∷ rs) ≡ cond t (run b (n + 1) ∷ rs) (run b 1 ∷ run c n ∷ rs)
onto_step b c n rs t is = ap (λ (v : Bool). cond v (run b (n + 1) ∷ rs) (run b 1 ∷ run c n ∷ rs)) is

drop_one : (n c : ℕ) (cs : List ℕ) → drop (1 + n) (c ∷ cs) ≡ drop n cs
drop_one n c cs = let same : 1 + n ≡ suc n = omega arith in ap (λ (k : ℕ). drop k (c ∷ cs)) same

-- one byte more in front of a first run
step_on : (b c : ℕ) (cs : List ℕ) (t : Bool) → (c == b) ≡ t → runs_of (c ∷ cs) ≡ run c (front_len c cs + 1) ∷ runs_of (drop (front_len c cs) cs)
    → onto_runs b (runs_of (c ∷ cs)) ≡ run b (cond t (1 + front_len b cs) 0 + 1) ∷ runs_of (drop (cond t (1 + front_len b cs) 0) (c ∷ cs))
step_on b c cs true is on =
    let same : c ≡ b = grind (arith, nat_tests, is) in
    let front : front_len c cs ≡ front_len b cs = ap (λ k. front_len k cs) same in
    let count : front_len c cs + 1 + 1 ≡ 1 + front_len b cs + 1 = omega (arith, front) in
    let rest : drop (front_len c cs) cs ≡ drop (1 + front_len b cs) (c ∷ cs) = ap (λ (k : ℕ). drop k cs) front ∙ sym (drop_one (front_len b cs) c cs) in
    ap (onto_runs b) on
    ∙ onto_step b c (front_len c cs + 1) (runs_of (drop (front_len c cs) cs)) true is
    ∙ ap (λ (n : ℕ). run b n ∷ runs_of (drop (front_len c cs) cs)) count
    ∙ ap (λ (l : List ℕ). run b (1 + front_len b cs + 1) ∷ runs_of l) rest
step_on b c cs false is on =
    ap (onto_runs b) on
    ∙ onto_step b c (front_len c cs + 1) (runs_of (drop (front_len c cs) cs)) false is
    ∙ ap (λ (rs : List Run). run b 1 ∷ rs) (sym on)

-- the first run takes all bytes at the front that are the same
pub run_step : (bs : List ℕ) (b : ℕ) → runs_of (b ∷ bs) ≡ run b (front_len b bs + 1) ∷ runs_of (drop (front_len b bs) bs)
unfolding runs_of
run_step [] b = refl
run_step (c ∷ cs) b = step_on b c cs (c == b) refl (run_step cs c)

-- no bytes have no runs
pub runs_none : (bs : List ℕ) → length bs ≡ 0 → runs_of bs ≡ []
unfolding runs_of
runs_none [] none = refl
runs_none (b ∷ bs) none = absurd (omega arith)

-- the first run of some bytes, and the rest
pub runs_split : (bs : List ℕ) (b : ℕ) → 0 < length bs → get_or bs 0 0 ≡ b → runs_of bs ≡ run b (front_len b (drop 1 bs) + 1) ∷ runs_of (drop (front_len b (drop 1 bs)) (drop 1 bs))
runs_split [] b some is = absurd (omega arith)
runs_split (c ∷ cs) b some is = ap (λ (k : ℕ). runs_of (k ∷ cs)) is ∙ run_step cs b

-- one byte more in front makes one run more at most
onto_few : (b : ℕ) (rs : List Run) → length (onto_runs b rs) ≤ length rs + 1
onto_few b [] = omega arith
onto_few b (r ∷ rs) = few (r.byte == b)
  where
    few : (t : Bool) → length (cond t (run b (r.count + 1) ∷ rs) (run b 1 ∷ r ∷ rs)) ≤ length (r ∷ rs) + 1
    few true = omega arith
    few false = omega arith

-- there are no more runs than bytes
pub runs_few : (bs : List ℕ) → length (runs_of bs) ≤ length bs
unfolding runs_of
runs_few [] = omega arith
runs_few (b ∷ bs) = omega (arith, onto_few b (runs_of bs), runs_few bs)
