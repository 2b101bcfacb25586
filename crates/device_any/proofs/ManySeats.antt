-- The history of a device that goes on with what all of its seats served.
use Rattle.std.proofs.Common.{◌≡◌, ℕ, zero, suc, ◌+◌, ◌<◌, ◌≤◌, Bool, true, false, cond, nat_eq, List, [], ◌∷◌, ◌++◌, length, Some, refl, ap, sym, ◌∙◌, subst, slice_get, arith}
use Rattle.std.specs.Prelude.{map, All}
use Rattle.std.proofs.lemmas.List.{length-map, map-append}
use Rattle.std.proofs.lemmas.List.Elements.{All-head, All-tail}
use Rattle.std.proofs.lemmas.Bool.Decides.{nat_tests}
use Rattle.scsi_disk.proofs.RoomLaws.{by_test}
use Rattle.device_kinds.specs.Served.{Served}
use Rattle.device_kinds.specs.Logs.{Logged, Grows, EachSeat, total, log_by, served_by}
use Rattle.hist_lock.specs.Seat.{Call, Lock, Seat, AreFrom}
use Rattle.hist_lock.specs.Calls.{IsSeatOf, Closes, calls_from}
use Rattle.hist_lock.specs.declared.history.Entry.{Entry}
use Rattle.device_any.proofs.Histories.{recorded, served_as, log_serves}

-- how many of so many seats, from one on, have a number

abbrev pub hits : ℕ → ℕ → ℕ → ℕ
hits x seat zero = 0
hits x seat (suc len) = cond (nat_eq x seat) 1 0 + hits x (seat + 1) len

no_hit : (x seat len : ℕ) → x < seat → hits x seat len ≡ 0
no_hit x seat zero low = refl
no_hit x seat (suc len) low =
    let other : nat_eq x seat ≡ false = grind (arith, nat_tests, low) in
    omega (arith, ap {B = ℕ} (λ b. cond b 1 0) other, no_hit x (seat + 1) len (omega (arith, low)))

pub few_hits : (x seat len : ℕ) → hits x seat len ≤ 1
few_hits x seat zero = omega arith
few_hits x seat (suc len) =
    by_test (nat_eq x seat)
    (λ yes.
    let same : x ≡ seat = grind (arith, nat_tests, yes) in
    omega (arith, ap {B = ℕ} (λ b. cond b 1 0) yes, no_hit x (seat + 1) len (omega (arith, same))))
    (λ not. omega (arith, ap {B = ℕ} (λ b. cond b 1 0) not, few_hits x (seat + 1) len))

one_hit : (x seat len : ℕ) → seat ≤ x → x < seat + len → hits x seat len ≡ 1
one_hit x seat zero low high = absurd (omega (arith, low, high))
one_hit x seat (suc len) low high =
    by_test (nat_eq x seat)
    (λ yes.
    let same : x ≡ seat = grind (arith, nat_tests, yes) in
    omega (arith, ap {B = ℕ} (λ b. cond b 1 0) yes, no_hit x (seat + 1) len (omega (arith, same))))
    (λ not.
    let above : seat + 1 ≤ x = grind (arith, nat_tests, not, low) in
    omega (arith, ap {B = ℕ} (λ b. cond b 1 0) not, one_hit x (seat + 1) len above (omega (arith, high))))

length_if : {Q A : Type 0} (b : Bool) (c : Call Q A) (cs : List (Call Q A)) → length (cond b (c ∷ cs) cs) ≡ cond b 1 0 + length cs
length_if true c cs = omega arith
length_if false c cs = omega arith

module _ {S Q A : Type 0} where
  -- how many calls so many seats made, from one on
  abbrev sums : ℕ → ℕ → List (Entry S Q A) → ℕ → ℕ
  sums seat n es zero = 0
  sums seat n es (suc len) = length (calls_from seat n es) + sums (seat + 1) n es len

  one_more : (len seat n : ℕ) (e : Entry S Q A) (es : List (Entry S Q A)) → sums seat n (e ∷ es) len ≡ hits e.seat seat len + sums seat (n + 1) es len
  one_more zero seat n e es = refl
  one_more (suc len) seat n e es =
      omega (arith, length_if (nat_eq e.seat seat) (record { serial = n; request = e.request; reply = e.reply }) (calls_from seat (n + 1) es), one_more len (seat + 1) n e es)

none_yet : (S Q A : Type 0) (len seat n : ℕ) → sums {S = S} {Q = Q} {A = A} seat n [] len ≡ 0
none_yet S Q A zero seat n = refl
none_yet S Q A (suc len) seat n = omega (arith, none_yet S Q A len (seat + 1) n)

module _ {S Q A : Type 0} where
  -- each entry is of exactly one of them
  all_counted : (len n : ℕ) (es : List (Entry S Q A)) → All (λ (e : Entry S Q A). e.seat < len) es → sums 0 n es len ≡ length es
  all_counted len n [] below = none_yet S Q A len 0 n
  all_counted len n (e ∷ es) below =
      let here : e.seat < len = All-head (λ (e : Entry S Q A). e.seat < len) e es below in
      let one = one_hit e.seat 0 len (omega arith) (omega (arith, here)) in
      let more = all_counted len (n + 1) es (All-tail (λ (e : Entry S Q A). e.seat < len) e es below) in
      omega (arith, one_more len 0 n e es, one, more)

  -- a seat has the number of its place
  number_at : (lock : Lock S Q A) (n : ℕ) (seats : List (Seat S Q A)) (k : ℕ) (s : Seat S Q A) → AreFrom lock n seats → slice_get seats k ≡ Some s → (s.number ≡ n + k) × (k < length seats)
  number_at lock n [] k s are is = absurd (cc)
  number_at lock n (t ∷ seats) zero s are is = let same : t ≡ s = cc in (sym (ap (λ (x : Seat S Q A). x.number) same) ∙ (are.1 ∙ omega arith), omega arith)
  number_at lock n (t ∷ seats) (suc k) s are is = let more = number_at lock (n + 1) seats k s are.2 is in (omega (arith, more.0), omega (arith, more.1))

  all_below : (lock : Lock S Q A) (seats : List (Seat S Q A)) (es : List (Entry S Q A)) → AreFrom lock 0 seats → All (λ (e : Entry S Q A). IsSeatOf seats e.seat) es → All (λ (e : Entry S Q A). e.seat < length seats) es
  all_below lock seats es are others k d less =
      let of = others k d less in
      let at = number_at lock 0 seats of.0 of.1.0 are of.1.1.0 in
      omega (arith, of.1.1.1, at.0, at.1)

module _ {S Q A : Type 0} (m : Logged Q A) where
  -- what the seats served
  abbrev pub all_served : List (Seat S Q A) → List (List Served)
  all_served seats = map (λ (s : Seat S Q A). served_by m s.calls) seats

  each_seat : (lock : Lock S Q A) (k n : ℕ) (seats : List (Seat S Q A)) (since : List (Entry S Q A)) → AreFrom lock k seats → ((j : ℕ) (s : Seat S Q A) → slice_get seats j ≡ Some s → calls_from s.number n since ≡ s.calls)
      → EachSeat k n (log_by m since) (all_served seats)
  each_seat lock k n [] since are calls = tt
  each_seat lock k n (s ∷ seats) since are calls =
      (log_serves m k n since ∙ (ap (λ j. served_by m (calls_from j n since)) (sym are.1) ∙ ap (served_by m) (calls 0 s refl)), each_seat lock (k + 1) n seats since are.2 (λ j t is. calls (suc j) t is))

  all_total : (lock : Lock S Q A) (k n : ℕ) (seats : List (Seat S Q A)) (since : List (Entry S Q A)) → AreFrom lock k seats → ((j : ℕ) (s : Seat S Q A) → slice_get seats j ≡ Some s → calls_from s.number n since ≡ s.calls)
      → total (all_served seats) ≡ sums k n since (length seats)
  all_total lock k n [] since are calls = refl
  all_total lock k n (s ∷ seats) since are calls =
      let here : length s.calls ≡ length (calls_from k n since) = ap length (sym (calls 0 s refl)) ∙ ap (λ m. length (calls_from m n since)) are.1 in
      omega (arith, length-map s.calls (served_as m), here, all_total lock (k + 1) n seats since are.2 (λ j t is. calls (suc j) t is))

  -- each call stands in the history once, at its place, and nothing else does
  pub grows_all : (after : S → Q → S) (reply_to : S → Q → A) (lock : Lock S Q A) (first : Seat S Q A) (seats : List (Seat S Q A)) (old new : List (Entry S Q A)) → AreFrom lock 0 (first ∷ seats) → lock.past ≡ old → Closes after reply_to (first ∷ seats) new
      → Grows (log_by m old) (log_by m new) (all_served (first ∷ seats))
  grows_all after reply_to lock first seats old new are past closes =
      let all = first ∷ seats in
      let since = closes.since in
      let past_of : (j : ℕ) (s : Seat S Q A) → slice_get all j ≡ Some s → s.lock.past ≡ old = λ j s is. ap (λ (l : Lock S Q A). l.past) (lock_at lock 0 all j s are is) ∙ past in
      let grown : new ≡ old ++ since = closes.begins 0 first refl ∙ ap (λ l. l ++ since) (past_of 0 first refl) in
      let calls : (j : ℕ) (s : Seat S Q A) → slice_get all j ≡ Some s → calls_from s.number (length old) since ≡ s.calls = λ j s is. ap (λ (l : List (Entry S Q A)). calls_from s.number (length l) since) (sym (past_of j s is)) ∙ closes.calls j s is in
      let count = all_counted (length all) (length old) since (all_below lock all since are closes.others) in
      record {
        more = log_by m since;
        after_is = ap (log_by m) grown ∙ map-append (recorded m) old since;
        seats = subst (λ n. EachSeat 0 n (log_by m since) (all_served all)) (sym (length-map old (recorded m))) (each_seat lock 0 (length old) all since are calls);
        all = omega (arith, length-map since (recorded m), count, all_total lock 0 (length old) all since are calls);
      }
    where
      lock_at : (lock : Lock S Q A) (n : ℕ) (seats : List (Seat S Q A)) (k : ℕ) (s : Seat S Q A) → AreFrom lock n seats → slice_get seats k ≡ Some s → s.lock ≡ lock
      lock_at lock n [] k s are is = absurd (cc)
      lock_at lock n (t ∷ seats) zero s are is = let same : t ≡ s = cc in sym (ap (λ (x : Seat S Q A). x.lock) same) ∙ are.0
      lock_at lock n (t ∷ seats) (suc k) s are is = lock_at lock (n + 1) seats k s are.2 is
