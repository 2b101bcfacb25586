-- What a stable sort by steps leaves.
use Rattle.std.proofs.Common.{Less, Equal, Greater, ◌≡◌, ℕ, zero, suc, ◌/◌, ◌<◌, ◌≤◌, Bool, true, false, not, ◌&&◌, eqb, ltb, List, [], ◌∷◌, length, refl, sym, ap, ◌∙◌, arith}
use Rattle.std.specs.Prelude.{filter}
use Rattle.std.specs.List.{All}
use Rattle.std.specs.List.Sorted.{IsStableByKey, IsNonDecreasingBy, ties}
use Rattle.std.specs.Ordering.{nat_cmp, is_lt}
use Rattle.std.specs.Prelude.{cond}
use Rattle.std.proofs.lemmas.Bool.Decides.{nat_tests}
use Rattle.std.proofs.lemmas.List.Elements.{All-head, All-tail}
use Rattle.ring_core.specs.declared.told_mem.Change.{Change}
use Rattle.ring_core.specs.Told.{IsScript, IsNotAfter}
use Rattle.ring_machine.specs.declared.place.Ring.TheVariants.{ToHost}
use Rattle.ring_machine.specs.declared.place.Place.TheVariants.{Write}
use Rattle.hostile_lines.specs.Ranges.{IsChangeIn}
use Rattle.hostile_lines.specs.StepOrder.{at_step}

by_test : {P : Type 0} (b : Bool) → (b ≡ true → P) → (b ≡ false → P) → P
by_test true t f = t refl
by_test false t f = f refl

filter_same : {X : Type 0} (f g : X → Bool) (xs : List X) → ((x : X) → f x ≡ g x) → filter f xs ≡ filter g xs
filter_same f g [] same = refl
filter_same f g (x ∷ xs) same =
    by_test (f x)
    (λ t. let u : g x ≡ true = sym (same x) ∙ t in let h = filter_same f g xs same in cc (t, u, h))
    (λ t. let u : g x ≡ false = sym (same x) ∙ t in let h = filter_same f g xs same in cc (t, u, h))

nat_cmp-ltb : (x y : ℕ) → is_lt (nat_cmp x y) ≡ ltb x y
nat_cmp-ltb x y =
    by_test (ltb x y)
    (λ t. ap (λ (b : Bool). is_lt (cond b Less (cond (eqb x y) Equal Greater))) t ∙ sym t)
    (λ f. by_test (eqb x y)
    (λ t. (λ j. is_lt (cond (f j) Less (cond (t j) Equal Greater))) ∙ sym f)
    (λ t. (λ j. is_lt (cond (f j) Less (cond (t j) Equal Greater))) ∙ sym f))

-- neither is below the other where they are the same
same_tie : (k s : ℕ) → (not (ltb k s) && not (ltb s k)) ≡ eqb s k
same_tie k s = grind (arith, nat_tests)

tie_is : (k s : ℕ) → (not (is_lt (nat_cmp k s)) && not (is_lt (nat_cmp s k))) ≡ eqb s k
tie_is k s = (λ j. not (nat_cmp-ltb k s j) && not (nat_cmp-ltb s k j)) ∙ same_tie k s

-- a change before this step
abbrev change_at : ℕ → Change
change_at k = record { step = k; place = Write ToHost; value = 0 }

pub each_step : (said sorted : List Change) → IsStableByKey (λ (x : Change). x.step) nat_cmp said sorted → (k : ℕ) → at_step k sorted ≡ at_step k said
each_step said sorted stable k =
    let same : (c : Change) → eqb c.step k ≡ ties (λ (x y : Change). is_lt (nat_cmp x.step y.step)) (change_at k) c = (λ c. sym (tie_is k c.step)) in
    filter_same (λ c. eqb c.step k) (ties (λ (x y : Change). is_lt (nat_cmp x.step y.step)) (change_at k)) sorted same
    ∙ (stable (change_at k) ∙ sym (filter_same (λ c. eqb c.step k) (ties (λ (x y : Change). is_lt (nat_cmp x.step y.step)) (change_at k)) said same))

tail_rises : (x : Change) (xs : List Change) → IsNonDecreasingBy (λ (c : Change). c.step) (x ∷ xs) → IsNonDecreasingBy (λ (c : Change). c.step) xs
tail_rises x xs up i j d a b = up (suc i) (suc j) d (omega (arith, a)) (omega (arith, b))

not_after : (x : Change) (xs : List Change) → IsNonDecreasingBy (λ (c : Change). c.step) (x ∷ xs) → IsNotAfter x.step xs
not_after x [] up = tt
not_after x (y ∷ ys) up = up 0 1 x (omega arith) (omega arith)

pub script_of : (d : ℕ) (xs : List Change) → All (IsChangeIn d) xs → IsNonDecreasingBy (λ (c : Change). c.step) xs → IsScript (d / 8) 0 xs
script_of d [] all up = tt
script_of d (x ∷ xs) all up = ((All-head (IsChangeIn d) x xs all).0, not_after x xs up, script_of d xs (All-tail (IsChangeIn d) x xs all) (tail_rises x xs up))
