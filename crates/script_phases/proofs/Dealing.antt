-- Where a device's requests go: number n to channel n % many, at place n / many.
use Rattle.std.proofs.Common.{◌≡◌, ℕ, zero, suc, ◌+◌, ◌*◌, ◌-◌, ◌≤◌, ◌<◌, ◌/◌, ◌%◌, true, cond, List, [], ◌∷◌, nat_eq, refl, ap, sym, ◌∙◌, arith}
use Rattle.std.specs.Prelude.{slice_get, nat_lt, if◌then◌else◌}
use Rattle.std.proofs.Math.Nat.{mod-lt, div-eq_of_lt, mod-eq_of_lt}
use Rattle.std.proofs.lemmas.Nat.{div-add-mod', mod-mul-add, div-mul-add}
use Rattle.std.proofs.lemmas.Bool.Decides.{nat_tests}
use Rattle.scsi_disk.proofs.RoomLaws.{by_test}
use Rattle.script_phases.specs.Shares.{share}
use Rattle.script_phases.specs.Laws.{Deals}

-- how many of the numbers below n leave k
abbrev passed : ℕ → ℕ → ℕ → ℕ
passed many k zero = 0
passed many k (suc n) = passed many k n + cond (nat_eq (n % many) k) 1 0

abbrev above : ℕ → ℕ → ℕ
above k b = cond (nat_lt k b) 1 0

step_on : (k b : ℕ) → above k b + cond (nat_eq b k) 1 0 ≡ above k (b + 1)
step_on k b = grind (arith, nat_tests)

step_round : (k b many : ℕ) → k < many → b + 1 ≡ many → above k b + cond (nat_eq b k) 1 0 ≡ 1
step_round k b many low is = grind (arith, nat_tests, low, is)

none_above : (k : ℕ) → above k k ≡ 0
none_above k = grind (arith, nat_tests)

next : (many k n : ℕ) → passed many k (n + 1) ≡ passed many k n + cond (nat_eq (n % many) k) 1 0
next many k n = let e : n + 1 ≡ suc n = omega arith in ap (passed many k) e

-- so many whole rounds, and one more where the last round has passed k
closed : (many k n : ℕ) → k < many → passed many k n ≡ n / many + above k (n % many)
closed many k zero low =
    let d : 0 / many ≡ 0 = div-eq_of_lt (omega (arith, low)) in
    let r : 0 % many ≡ 0 = mod-eq_of_lt (omega (arith, low)) in
    let none : above k 0 ≡ 0 = grind (arith, nat_tests) in
    omega (arith, d, ap (above k) r, none)
closed many k (suc n) low =
    let a = n / many in
    let b = n % many in
    let is : a * many + b ≡ n = div-add-mod' n many in
    let small : b < many = mod-lt n (omega (arith, low)) in
    let past = closed many k n low in
    by_test (nat_lt (b + 1) many)
    (λ more.
    let room : b + 1 < many = grind (arith, nat_tests, more) in
    let same : suc n ≡ a * many + (b + 1) = omega (arith, is) in
    let d : suc n / many ≡ a = ap (λ x. x / many) same ∙ div-mul-add a many (b + 1) room in
    let r : suc n % many ≡ b + 1 = ap (λ x. x % many) same ∙ mod-mul-add a many (b + 1) room in
    omega (arith, past, step_on k b, d, ap (above k) r))
    (λ last.
    let full : b + 1 ≡ many = grind (arith, nat_tests, last, small) in
    let same : suc n ≡ (a + 1) * many + 0 = omega (arith, is, full, expand a many) in
    let d : suc n / many ≡ a + 1 = ap (λ x. x / many) same ∙ div-mul-add (a + 1) many 0 (omega (arith, low)) in
    let r : suc n % many ≡ 0 = ap (λ x. x % many) same ∙ mod-mul-add (a + 1) many 0 (omega (arith, low)) in
    let none : above k 0 ≡ 0 = grind (arith, nat_tests) in
    omega (arith, past, step_round k b many low full, d, ap (above k) r, none))
  where
    expand : (a many : ℕ) → (a + 1) * many ≡ a * many + many
    expand a many = grind arith

passed_grows : (many k n i : ℕ) → passed many k n ≤ passed many k (n + i)
passed_grows many k n zero = let e : n + 0 ≡ n = omega arith in omega (arith, ap (passed many k) e)
passed_grows many k n (suc i) = let e : n + suc i ≡ (n + i) + 1 = omega arith in omega (arith, passed_grows many k n i, next many k (n + i), ap (passed many k) e)

module _ {X : Type 0} where
  at : (many k : ℕ) (xs : List X) (s i j t : ℕ) → t ≡ s + i → t % many ≡ k → passed many k t ≡ passed many k s + j → slice_get (share many k s xs) j ≡ slice_get xs i
  at many k [] s i j t is leaves count = refl
  at many k (x ∷ xs) s zero j t is leaves count =
      let same : t ≡ s = omega (arith, is) in
      let yes : nat_eq (s % many) k ≡ true = grind (arith, nat_tests, leaves, same) in
      let none : j ≡ 0 = omega (arith, count, ap (passed many k) same) in
      ap (λ b. slice_get (if b then x ∷ share many k (s + 1) xs else share many k (s + 1) xs) j) yes ∙ ap (slice_get (x ∷ share many k (s + 1) xs)) none
  at many k (x ∷ xs) s (suc i) j t is leaves count =
      let on : t ≡ (s + 1) + i = omega (arith, is) in
      let more = passed_grows many k (s + 1) i in
      let to : passed many k ((s + 1) + i) ≡ passed many k t = ap (passed many k) (sym on) in
      by_test (nat_eq (s % many) k)
      (λ yes.
      let one : passed many k (s + 1) ≡ passed many k s + 1 = next many k s ∙ ap (λ b. passed many k s + cond b 1 0) yes in
      let up : j ≡ suc (j - 1) = omega (arith, one, more, to, count) in
      ap (λ b. slice_get (if b then x ∷ share many k (s + 1) xs else share many k (s + 1) xs) j) yes
      ∙ (ap (slice_get (x ∷ share many k (s + 1) xs)) up ∙ at many k xs (s + 1) i (j - 1) t on leaves (omega (arith, one, more, to, count))))
      (λ no.
      let one : passed many k (s + 1) ≡ passed many k s = next many k s ∙ (ap (λ b. passed many k s + cond b 1 0) no ∙ omega arith) in
      ap (λ b. slice_get (if b then x ∷ share many k (s + 1) xs else share many k (s + 1) xs) j) no ∙ at many k xs (s + 1) i j t on leaves (omega (arith, one, count)))

  pub deals_lem : Deals X
  deals_lem xs many n some =
      let k = n % many in
      let low : k < many = mod-lt n (omega (arith, some)) in
      at many k xs 0 n (n / many) n (omega arith) refl (closed many k n low ∙ omega (arith, none_above k))
