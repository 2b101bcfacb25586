-- Objects that are looked up one by one.
use Rattle.std.proofs.Common.{◌≡◌, ◌≢◌, ℕ, ◌+◌, ◌<◌, false, cond, ◌==◌, List, length, get_or, drop, Some, ap, ◌∙◌, arith}
use Rattle.std.proofs.lemmas.Bool.Decides.{nat_tests}
use Rattle.std.proofs.lemmas.List.{drop_more}
use Rattle.net_dev.specs.Objects.{answer_in}
use Rattle.net_dev.specs.declared.objects.Object.{Object}

not_same : (a b : ℕ) → a ≢ b → (a == b) ≡ false
not_same a b ne = grind (arith, nat_tests)

-- an object of another number can be left out
pub answer_step : (os : List Object) (i oid : ℕ) (d : Object) → i < length os → (get_or os i d).oid ≢ oid → answer_in (drop i os) oid ≡ answer_in (drop (i + 1) os) oid
answer_step os i oid d lt other =
    ap (λ xs. answer_in xs oid) (drop_more os i d lt) ∙ ap (λ t. cond t (Some (get_or os i d).answer) (answer_in (drop (i + 1) os) oid)) (not_same (get_or os i d).oid oid other)
