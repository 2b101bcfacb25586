use Rattle.std.proofs.Common.{◌≡◌, ℕ, zero, suc, List, [], ◌∷◌, ◌++◌, length, take, drop, refl, ap, sym, ◌∙◌, subst, arith}
use Rattle.hist_lock.specs.Seat.{AreAll}
use Rattle.hist_lock.proofs.Rows.{new_all, still_all}
use Rattle.test_devices.proofs.hist_lock_tests.run_on.Goals as goal

whole : {X : Type 0} (xs ys : List X) (n : ℕ) → n ≡ length ys → length xs ≡ length ys → take n (xs ++ drop (length xs) ys) ≡ xs
whole [] [] zero a b = refl
whole [] [] (suc n) a b = absurd (omega arith)
whole [] (y ∷ ys) n a b = absurd (omega arith)
whole (x ∷ xs) [] n a b = absurd (omega arith)
whole (x ∷ xs) (y ∷ ys) zero a b = absurd (omega arith)
whole (x ∷ xs) (y ∷ ys) (suc n) a b = ap (λ l. x ∷ l) (whole xs ys n (omega arith) (omega arith))

pub close-requires : goal.close-requires
close-requires g c =
    let row = c.in_ok-seats.seats in
    let was = c.as_mut_slice.result.now in
    let new = c.use_all_up.new.seats in
    let is : was ≡ row.items = c.as_mut_slice.ensures.value in
    let long : length new ≡ length was = c.use_all_up.auto.seats in
    let all = still_all was new long c.use_all_up.ensures (subst AreAll (sym is) (new_all _ _ c.args.quota.now row.items c.requires.some c.in_ok-seats.ensures)) in
    subst AreAll (sym (whole new row.items row.len row.ok.0 (long ∙ ap length is))) all
