use Rattle.std.proofs.Common.{rules, ◌≡◌, ℕ, zero, suc, ◌+◌, ◌-◌, ◌*◌, ◌≤◌, ◌∷◌, List, length, set, ap, ◌∙◌, refl, sym, arith}
use Rattle.std.specs.Prelude.{replicate}
use Rattle.hostile_honest_end.specs.Calls.{in_band}
use Rattle.hostile_honest_end.proofs.packet.in_band.Goals as goal

first_set : (n v : ℕ) → 1 ≤ n → set (replicate n 0) 0 v ≡ v ∷ replicate (n - 1) 0
first_set zero v some = absurd (omega (arith, some))
first_set (suc n) v some = ap (λ (k : ℕ). v ∷ replicate k 0) (let z : n ≡ suc n - 1 = omega arith in z)

pub returns-clause-words : goal.returns-clause-words
unfolding in_band
returns-clause-words c =
    let items : c.in_ok-words.words.items ≡ replicate c.args.len 0 = search rules in
    let from : c.from.result ≡ c.args.len = c.from.ensures in
    (λ j. set (items j) 0 (131078 + from j * 4294967296)) ∙ first_set c.args.len (131078 + c.args.len * 4294967296) (let r = c.requires.0 in omega (arith, r))
