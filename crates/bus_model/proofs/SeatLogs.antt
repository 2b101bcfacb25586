-- A history grows by what its seats served, and by nothing else.
use Rattle.std.proofs.Common.{◌≡◌, ℕ, zero, suc, ◌+◌, ◌≤◌, ◌<◌, Bool, true, false, cond, List, [], ◌∷◌, length, Some, None, nat_eq, refl, sym, ap, ◌∙◌, subst, arith}
use Rattle.std.specs.List.{AllByRecursion}
use Rattle.std.specs.Prelude.{slice_get}
use Rattle.std.proofs.lemmas.List.{nil_from_length}
use Rattle.std.proofs.lemmas.Bool.Decides.{nat_tests}
use Rattle.scsi_disk.proofs.RoomLaws.{by_test}
use Rattle.script_lines.specs.declared.line.Ask.{Ask}
use Rattle.device_kinds.specs.Served.{Served}
use Rattle.device_kinds.specs.Logs.{Recorded, served_from, EachSeat, total, Grows}
use Rattle.bus_model.proofs.Lists.{each_append, each_unless}

length_if : (c : Bool) (x : Served) (xs : List Served) → length (cond c (x ∷ xs) xs) ≡ cond c 1 0 + length xs
length_if true x xs = omega arith
length_if false x xs = omega arith

-- how many entries so many seats have from one on
abbrev sums : ℕ → ℕ → List Recorded → ℕ → ℕ
sums seat n more zero = 0
sums seat n more (suc len) = length (served_from seat n more) + sums (seat + 1) n more len

module _ (P : Ask → Type 0) where
  -- those entries have requests with P
  abbrev AsksIn : ℕ → ℕ → List Recorded → ℕ → Type 0
  AsksIn seat n more zero = Unit {0}
  AsksIn seat n more (suc len) = AllByRecursion (λ s. P s.request) (served_from seat n more) × AsksIn (seat + 1) n more len

  asks_in : (seat n : ℕ) (more : List Recorded) (served : List (List Served)) → EachSeat seat n more served → AllByRecursion (AllByRecursion (λ s. P s.request)) served → AsksIn seat n more (length served)
  asks_in seat n more [] each all = tt
  asks_in seat n more (s ∷ served) each all = (subst (AllByRecursion (λ s. P s.request)) (sym each.0) all.0, asks_in (seat + 1) n more served each.1 all.1)

  -- the first entry is of one of these seats, and then of no other one, or of none of them
  record Front (seat n : ℕ) (e : Recorded) (es : List Recorded) (len : ℕ) : Type 0 where
    pub hit : ℕ
    pub sum : sums seat n (e ∷ es) len ≡ hit + sums seat (n + 1) es len
    pub few : hit ≤ 1
    pub below : e.seat < seat → hit ≡ 0
    pub has : 1 ≤ hit → P e.ask
    pub rest : AsksIn seat (n + 1) es len

  front : (len seat n : ℕ) (e : Recorded) (es : List Recorded) → AsksIn seat n (e ∷ es) len → Front seat n e es len
  front zero seat n e es asks = record { hit = 0; sum = refl; few = omega arith; below = λ low. refl; has = λ one. absurd (omega (arith, one)); rest = tt }
  front (suc len) seat n e es asks =
      let x : Served = record { serial = n; request = e.ask; reply = e.reply } in
      let xs = served_from seat (n + 1) es in
      let c = nat_eq e.seat seat in
      let next = front len (seat + 1) n e es asks.1 in
      let here = each_unless (λ (s : Served). P s.request) c x xs asks.0 in
      let long = length_if c x xs in
      by_test c
      (λ is.
      let same : e.seat ≡ seat = grind (arith, nat_tests, is) in
      let none : next.hit ≡ 0 = next.below (omega (arith, same)) in
      let one : length (cond c (x ∷ xs) xs) ≡ 1 + length xs = long ∙ ap (λ b. cond b 1 0 + length xs) is in
      record { hit = 1; sum = omega (arith, one, none, next.sum); few = omega arith; below = λ low. absurd (omega (arith, same, low)); has = λ one. here.0 is; rest = (here.1, next.rest) })
      (λ is.
      let no : length (cond c (x ∷ xs) xs) ≡ length xs = omega (arith, long ∙ ap (λ b. cond b 1 0 + length xs) is) in
      record { hit = next.hit; sum = omega (arith, no, next.sum); few = next.few; below = λ low. next.below (omega (arith, low)); has = next.has; rest = (here.1, next.rest) })

  -- where all entries are of these seats, all have requests with P
  every : (more : List Recorded) (n len : ℕ) → AsksIn 0 n more len → (sums 0 n more len ≤ length more) × (length more ≤ sums 0 n more len → AllByRecursion (λ e. P e.ask) more)
  every [] n len asks = (none len 0, λ all. tt)
    where
      none : (len seat : ℕ) → sums seat n [] len ≤ 0
      none zero seat = omega arith
      none (suc len) seat = omega (arith, none len (seat + 1))
  every (e ∷ es) n len asks =
      let f = front len 0 n e es asks in
      let rest = every es (n + 1) len f.rest in
      (omega (arith, f.sum, f.few, rest.0), λ all. (f.has (omega (arith, f.sum, rest.0, all)), rest.1 (omega (arith, f.sum, f.few, all))))

  total_is : (seat n : ℕ) (more : List Recorded) (served : List (List Served)) → EachSeat seat n more served → total served ≡ sums seat n more (length served)
  total_is seat n more [] each = refl
  total_is seat n more (s ∷ served) each = omega (arith, ap length each.0, total_is (seat + 1) n more served each.1)

  -- a history whose requests have P goes on with requests that have it
  pub grows_with : (before after : List Recorded) (served : List (List Served)) → Grows before after served → AllByRecursion (λ e. P e.ask) before → AllByRecursion (AllByRecursion (λ s. P s.request)) served
      → AllByRecursion (λ e. P e.ask) after
  grows_with before after served grows old all =
      let n = length before in
      let new = every grows.more n (length served) (asks_in 0 n grows.more served grows.seats all) in
      subst (AllByRecursion (λ e. P e.ask)) (sym grows.after_is) (each_append (λ (e : Recorded). P e.ask) before grows.more old (new.1 (omega (arith, grows.all, total_is 0 n grows.more served grows.seats))))

-- the entries of so many seats, and those of a later one
sums_apart : (m len seat n : ℕ) (more : List Recorded) → len ≤ m → sums seat n more len + length (served_from (seat + m) n more) ≤ sums seat n more (suc m)
sums_apart zero zero seat n more le = let here : seat + 0 ≡ seat = omega arith in omega (arith, ap (λ k. length (served_from k n more)) here)
sums_apart zero (suc len) seat n more le = absurd (omega (arith, le))
sums_apart (suc m) zero seat n more le =
    let here : seat + suc m ≡ seat + 1 + m = omega arith in
    omega (arith, ap (λ k. length (served_from k n more)) here, sums_apart m zero (seat + 1) n more (omega arith))
sums_apart (suc m) (suc len) seat n more le =
    let here : seat + suc m ≡ seat + 1 + m = omega arith in
    omega (arith, ap (λ k. length (served_from k n more)) here, sums_apart m len (seat + 1) n more (omega (arith, le)))

any_asks : (seat n : ℕ) (more : List Recorded) (len : ℕ) → AsksIn (λ a. Unit {0}) seat n more len
any_asks seat n more zero = tt
any_asks seat n more (suc len) = (any (served_from seat n more), any_asks (seat + 1) n more len)
  where
    any : (served : List Served) → AllByRecursion (λ s. Unit {0}) served
    any [] = tt
    any (s ∷ served) = (tt, any served)

-- no entry is of a seat past those that served
pub none_besides : (before after : List Recorded) (served : List (List Served)) (grows : Grows before after served) (seat : ℕ) → length served ≤ seat → served_from seat (length before) grows.more ≡ []
none_besides before after served grows seat le =
    let n = length before in
    let whole = (every (λ a. Unit {0}) grows.more n (suc seat) (any_asks 0 n grows.more (suc seat))).0 in
    let here : 0 + seat ≡ seat = omega arith in
    nil_from_length (served_from seat n grows.more)
    (omega (arith, whole, grows.all, total_is (λ a. Unit {0}) 0 n grows.more served grows.seats, sums_apart seat (length served) 0 n grows.more le, ap (λ k. length (served_from k n grows.more)) here))

pub none_some : {X Y : Type 0} (x : X) → None ≡ Some x → Y
none_some x e = absurd (cc)

pub some_same : {X : Type 0} (x y : X) → Some x ≡ Some y → x ≡ y
some_same x y e = cc

-- the entries of each seat are what its channel served
pub seat_entries : (seat n : ℕ) (more : List Recorded) (served : List (List Served)) (i : ℕ) (calls : List Served) → EachSeat seat n more served → slice_get served i ≡ Some calls → served_from (seat + i) n more ≡ calls
seat_entries seat n more [] i calls each at = none_some calls at
seat_entries seat n more (s ∷ served) zero calls each at =
    let here : seat + 0 ≡ seat = omega arith in
    ap (λ k. served_from k n more) here ∙ (each.0 ∙ some_same s calls at)
seat_entries seat n more (s ∷ served) (suc i) calls each at =
    let here : seat + suc i ≡ seat + 1 + i = omega arith in
    ap (λ k. served_from k n more) here ∙ seat_entries (seat + 1) n more served i calls each.1 at
