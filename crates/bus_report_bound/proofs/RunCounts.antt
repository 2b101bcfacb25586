-- How many runs bytes have.
use Rattle.std.proofs.Common.{◌≡◌, ℕ, zero, suc, ◌+◌, ◌≤◌, Bool, true, false, cond, List, [], ◌∷◌, ◌++◌, length, nat_eq, refl, sym, ap, ◌∙◌, subst, arith}
use Rattle.std.specs.Prelude.{replicate}
use Rattle.std.specs.List.{flat_map, range_with_len}
use Rattle.std.proofs.lemmas.Bool.Decides.{nat_tests}
use Rattle.scsi_disk.proofs.OneByteLaws.{IsOneByte}
use Rattle.script_text.specs.declared.run.Run.{Run}
use Rattle.script_text.specs.Runs.{run, onto_runs, runs_of}

either_length : (c : Bool) (x y r : Run) (rs : List Run) → length (cond c (x ∷ rs) (y ∷ r ∷ rs)) ≤ length rs + 2
either_length true x y r rs = omega arith
either_length false x y r rs = omega arith

-- one byte more begins at most one run
pub onto_most : (b : ℕ) (rs : List Run) → length (onto_runs b rs) ≤ length rs + 1
onto_most b [] = omega arith
onto_most b (r ∷ rs) = omega (arith, either_length (nat_eq r.byte b) (run b (r.count + 1)) (run b 1) r rs)

-- no more runs than bytes
pub runs_most : (bs : List ℕ) → length (runs_of bs) ≤ length bs
unfolding runs_of
runs_most [] = omega arith
runs_most (b ∷ bs) = omega (arith, onto_most b (runs_of bs), runs_most bs)

same_byte : (b : ℕ) → nat_eq b b ≡ true
same_byte b = grind (arith, nat_tests)

-- a run of this byte in front takes one more of it
grown : (b n : ℕ) (rs : List Run) → length (onto_runs b (run b n ∷ rs)) ≡ length rs + 1
grown b n rs = ap (λ c. length (cond c (run b (n + 1) ∷ rs) (run b 1 ∷ run b n ∷ rs))) (same_byte b) ∙ omega arith

again_cond : (b : ℕ) (c : Bool) (n : ℕ) (r : Run) (rs : List Run) → length (onto_runs b (cond c (run b n ∷ rs) (run b 1 ∷ r ∷ rs))) ≡ length (cond c (run b n ∷ rs) (run b 1 ∷ r ∷ rs))
again_cond b true n r rs = omega (arith, grown b n rs)
again_cond b false n r rs = omega (arith, grown b 1 (r ∷ rs))

onto_again : (b : ℕ) (rs : List Run) → length (onto_runs b (onto_runs b rs)) ≡ length (onto_runs b rs)
onto_again b [] = omega (arith, grown b 1 [])
onto_again b (r ∷ rs) = again_cond b (nat_eq r.byte b) (r.count + 1) r rs

front_runs : (n b : ℕ) (bs : List ℕ) → length (runs_of (replicate (suc n) b ++ bs)) ≡ length (onto_runs b (runs_of bs))
unfolding runs_of
front_runs zero b bs = refl
front_runs (suc n) b bs = onto_again b (runs_of (replicate n b ++ bs)) ∙ front_runs n b bs

-- bytes that are all one in front begin at most one run
pub one_more : (n b : ℕ) (bs : List ℕ) → length (runs_of (replicate n b ++ bs)) ≤ length (runs_of bs) + 1
one_more zero b bs = omega arith
one_more (suc n) b bs = omega (arith, front_runs n b bs, onto_most b (runs_of bs))

pub one_block : (block bs : List ℕ) → IsOneByte block → length (runs_of (block ++ bs)) ≤ length (runs_of bs) + 1
one_block block bs one = subst (λ x. length (runs_of (x ++ bs)) ≤ length (runs_of bs) + 1) (sym one.all) (one_more (length block) one.byte bs)

-- no more runs than blocks
pub runs_of_blocks : (f : ℕ → List ℕ) → ((place : ℕ) → IsOneByte (f place)) → (lba n : ℕ) → length (runs_of (flat_map f (range_with_len lba n))) ≤ n
unfolding runs_of
runs_of_blocks f one lba zero = omega arith
runs_of_blocks f one lba (suc n) = omega (arith, one_block (f lba) (flat_map f (range_with_len (lba + 1) n)) (one lba), runs_of_blocks f one (lba + 1) n)
