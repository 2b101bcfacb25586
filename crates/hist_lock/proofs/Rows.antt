-- All seats of a lock, side by side: when they are new, and after more calls.
use Rattle.std.proofs.Common.{◌≡◌, ℕ, suc, ◌+◌, ◌<◌, List, [], ◌∷◌, ◌++◌, length, length-append, get_or, refl, sym, ap, ◌∙◌, subst, arith}
use Rattle.hist_lock.specs.declared.history.Entry.{Entry}
use Rattle.hist_lock.specs.Seat.{Lock, Seat, seats_from, AreNew, AreFrom, AreAll, IsSame, IsOnly}

only_one : {X : Type 0} (x : X) (front : List X) (y : X) → x ∷ [] ≡ front ++ y ∷ [] → x ≡ y
only_one x [] y is = cc (is)
only_one x (z ∷ front) y is = absurd (omega (arith, ap length is, length-append front (y ∷ [])))

module _ {S Q A : Type 0} where
  new_from : (lock : Lock S Q A) (n : ℕ) (quotas : List ℕ) → AreFrom lock n (seats_from lock n quotas)
  new_from lock n [] = tt
  new_from lock n (q ∷ quotas) = (refl, refl, new_from lock (n + 1) quotas)

  length-seats_from : (lock : Lock S Q A) (n : ℕ) (quotas : List ℕ) → length (seats_from lock n quotas) ≡ length quotas
  length-seats_from lock n [] = refl
  length-seats_from lock n (q ∷ quotas) = ap suc (length-seats_from lock (n + 1) quotas)

  -- new seats are all of their lock
  pub new_all : (first : S) (past : List (Entry S Q A)) (quotas : List ℕ) (seats : List (Seat S Q A)) → 0 < length quotas → AreNew first past quotas seats → AreAll seats
  new_all first past quotas seats some_quota new =
      let long : length seats ≡ length quotas = ap length new.seats_are ∙ length-seats_from new.lock 0 quotas in
      record { lock = new.lock; some = omega arith; all = long ∙ sym new.count; each = subst (AreFrom new.lock 0) (sym new.seats_are) (new_from new.lock 0 quotas) }

  still_from : (lock : Lock S Q A) (n : ℕ) (old new : List (Seat S Q A)) → length new ≡ length old → AreFrom lock n old → ((k : ℕ) (d : Seat S Q A) → k < length old → IsSame (get_or old k d) (get_or new k d)) → AreFrom lock n new
  still_from lock n [] [] e h same = tt
  still_from lock n [] (y ∷ ys) e h same = absurd (omega arith)
  still_from lock n (x ∷ xs) [] e h same = absurd (omega arith)
  still_from lock n (x ∷ xs) (y ∷ ys) e h same =
      let s = same 0 y (omega arith) in
      (s.lock ∙ h.0, s.number ∙ h.1, still_from lock (n + 1) xs ys (omega arith) h.2 (λ k d lt. same (suc k) d (omega arith)))

  -- and stay so, whatever calls are made
  pub still_all : (old new : List (Seat S Q A)) → length new ≡ length old → ((k : ℕ) (d : Seat S Q A) → k < length old → IsSame (get_or old k d) (get_or new k d)) → AreAll old → AreAll new
  still_all old new long same h = let some_old = h.some in record { lock = h.lock; some = omega arith; all = long ∙ h.all; each = still_from h.lock 0 old new long h.each same }

  -- the only new seat
  pub only_new : (first : S) (past : List (Entry S Q A)) (quota : ℕ) (seats front : List (Seat S Q A)) (s : Seat S Q A) → AreNew first past (quota ∷ []) seats → seats ≡ front ++ s ∷ [] → IsOnly first past quota s
  only_new first past quota seats front s new is =
      let made : Seat S Q A = record { lock = new.lock; number = 0; left = quota; calls = [] } in
      let same : s ≡ made = sym (only_one made front s (sym new.seats_are ∙ is)) in
      record {
        first_is = ap (λ (t : Seat S Q A). t.lock.first) same ∙ new.first_is;
        past_is = ap (λ (t : Seat S Q A). t.lock.past) same ∙ new.past_is;
        seats = ap (λ (t : Seat S Q A). t.lock.seats) same ∙ new.count;
        number = ap (λ (t : Seat S Q A). t.number) same;
        left = ap (λ (t : Seat S Q A). t.left) same;
        calls = ap (λ (t : Seat S Q A). t.calls) same;
      }
