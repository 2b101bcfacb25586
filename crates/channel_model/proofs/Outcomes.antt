-- The two ends' lists give the outcomes of the lines.
use Rattle.std.proofs.Common.{◌≡◌, ℕ, zero, suc, ◌-◌, ◌≤◌, List, [], ◌∷◌, ◌++◌, map, length, take, drop, replicate, Bool, true, false, refl, sym, ap, ◌∙◌, arith, Option, Some, None}
use Rattle.std.specs.Prelude.{◌==◌, if◌then◌else◌, min, nat_le}
use Rattle.std.proofs.lemmas.List.{append-nil, length-map, take_all, drop_all}
use Rattle.std.proofs.lemmas.Bool.Decides.{nat_tests}
use Rattle.hist_lock.specs.Seat.{Call}
use Rattle.channel_model.specs.WireFormat.{WireFormat}
use Rattle.channel_model.specs.Server.{answered}
use Rattle.channel_model.specs.Channel.{count_of, held_of}
use Rattle.channel_model.specs.Outcome.{Outcome, Unserved, done_of, served_of, outcomes_of, lines_done, lines_of, served_at}
use Rattle.channel_model.proofs.Opens.{by_test}

take_none : {A : Type 0} (xs : List A) (k : ℕ) → xs ≡ [] → take k xs ≡ []
take_none [] zero e = refl
take_none [] (suc k) e = refl
take_none (x ∷ xs) k e = absurd (cc)

module _ {Q R : Type 0} where
  done_part : (calls : List (Call Q R)) (d : ℕ) → lines_done (map (λ c. c.serial) calls) (map (λ c. c.reply) (take d calls)) ≡ map done_of (take d calls)
  done_part [] zero = refl
  done_part [] (suc d) = refl
  done_part (c ∷ calls) zero = refl
  done_part (c ∷ calls) (suc d) = ap (λ (l : List (Outcome R)). done_of c ∷ l) (done_part calls d)

  served_part : (calls : List (Call Q R)) (d : ℕ) → map (served_at {R = R}) (drop (length (map (λ c. c.reply) (take d calls))) (map (λ c. c.serial) calls)) ≡ map served_of (drop d calls)
  served_part [] zero = refl
  served_part [] (suc d) = refl
  served_part (c ∷ calls) zero = ap (λ (l : List (Outcome R)). served_of c ∷ l) (served_all calls)
    where
      served_all : (calls : List (Call Q R)) → map (served_at {R = R}) (map (λ c. c.serial) calls) ≡ map served_of calls
      served_all [] = refl
      served_all (c ∷ calls) = ap (λ (l : List (Outcome R)). served_of c ∷ l) (served_all calls)
  served_part (c ∷ calls) (suc d) = served_part calls d

  lines_split : (m d : ℕ) (calls : List (Call Q R)) → lines_of m (map (λ c. c.serial) calls) (map (λ c. c.reply) (take d calls))
      ≡ map done_of (take d calls) ++ (map served_of (drop d calls) ++ replicate (m - length calls) Unserved)
  lines_split m d calls = rw (done_part calls d, served_part calls d, length-map calls (λ c. c.serial)) refl

  lines_done_all : (m : ℕ) (calls : List (Call Q R)) → lines_of m (map (λ c. c.serial) calls) (map (λ c. c.reply) calls) ≡ map done_of calls ++ replicate (m - length calls) Unserved
  lines_done_all m calls =
      ap (λ l. lines_of m (map (λ c. c.serial) calls) (map (λ c. c.reply) l)) (sym (take_all (length calls) calls (omega arith)))
      ∙ (lines_split m (length calls) calls ∙ rw (take_all (length calls) calls (omega arith), drop_all (length calls) calls (omega arith)) refl)

module _ {P A Q R : Type 0} (s : WireFormat P A Q R) where
  answered_all : (n : ℕ) (calls : List (Call Q R)) → length calls ≤ n → answered s false n calls ≡ calls
  answered_all n [] le = refl
  answered_all zero (c ∷ calls) le = absurd (omega (arith, le))
  answered_all (suc n) (c ∷ calls) le = ap (λ (l : List (Call Q R)). c ∷ l) (answered_all n calls (omega (arith, le)))

  answered_held : (n : ℕ) (calls : List (Call Q R)) → length calls ≤ n → answered s true n calls ≡ take (n - 1) calls
  answered_held n [] le = sym (take_none [] (n - 1) refl)
  answered_held zero (c ∷ calls) le = absurd (omega (arith, le))
  answered_held (suc n) (c ∷ calls) le =
      by_test (n == 0)
      (λ e. let none : suc n - 1 ≡ 0 = grind (arith, nat_tests, e) in
      ap (λ b. if b then [] else c ∷ answered s true n calls) e ∙ ap (λ k. take k (c ∷ calls)) (sym none))
      (λ e. let more : suc n - 1 ≡ suc (n - 1) = grind (arith, nat_tests, e) in
      ap (λ b. if b then [] else c ∷ answered s true n calls) e
      ∙ (ap (λ (l : List (Call Q R)). c ∷ l) (answered_held n calls (omega (arith, le))) ∙ ap (λ k. take k (c ∷ calls)) (sym more)))

  -- the outcomes of the lines are told by the serving end's serials and the asking end's replies
  pub lines : (stop : Option (ℕ × Bool)) (m : ℕ) (calls : List (Call Q R)) (told : List R) → length calls ≡ count_of stop m → told ≡ map (λ c. c.reply) (answered s (held_of stop m) (count_of stop m) calls)
      → lines_of m (map (λ c. c.serial) calls) told ≡ outcomes_of stop m calls
  lines None m calls told count is =
      let none : m - length calls ≡ 0 = omega (arith, count) in
      ap (lines_of m (map (λ c. c.serial) calls)) (is ∙ ap (map (λ c. c.reply)) (answered_all m calls (omega (arith, count))))
      ∙ (lines_done_all m calls ∙ (ap (λ k. map done_of calls ++ replicate k Unserved) none ∙ append-nil (map done_of calls)))
  lines (Some (k, false)) m calls told count is =
      ap (lines_of m (map (λ c. c.serial) calls)) (is ∙ ap (map (λ c. c.reply)) (answered_all (min k m) calls (omega (arith, count))))
      ∙ (lines_done_all m calls ∙ ap (λ l. map done_of calls ++ replicate (m - l) Unserved) count)
  lines (Some (k, true)) m calls told count is =
      by_test (nat_le k m)
      (λ e. let all : min k m ≡ k = grind (arith, nat_tests, e) in
      let here : k ≡ length calls = sym all ∙ sym count in
      ap (lines_of m (map (λ c. c.serial) calls))
      (is ∙ ap (map (λ c. c.reply)) (ap (λ b. answered s b (min k m) calls) e ∙ (ap (λ l. answered s true l calls) all ∙ answered_held k calls (omega (arith, here)))))
      ∙ (lines_split m (k - 1) calls
      ∙ (ap (λ l. map done_of (take (k - 1) calls) ++ (map served_of (drop (k - 1) calls) ++ replicate (m - l) Unserved)) (sym here)
      ∙ ap (λ b. if b then map done_of (take (k - 1) calls) ++ (map served_of (drop (k - 1) calls) ++ replicate (m - k) Unserved) else map done_of calls) (sym e))))
      (λ e. let all : length calls ≡ m = grind (arith, nat_tests, e, count) in
      let none : m - length calls ≡ 0 = omega (arith, all) in
      ap (lines_of m (map (λ c. c.serial) calls))
      (is ∙ ap (map (λ c. c.reply)) (ap (λ b. answered s b (min k m) calls) e ∙ answered_all (min k m) calls (omega (arith, count))))
      ∙ (lines_done_all m calls
      ∙ (ap (λ l. map done_of calls ++ replicate l Unserved) none
      ∙ (append-nil (map done_of calls)
      ∙ ap (λ b. if b then map done_of (take (k - 1) calls) ++ (map served_of (drop (k - 1) calls) ++ replicate (m - k) Unserved) else map done_of calls) (sym e)))))
