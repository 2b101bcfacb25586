-- What a rescind leaves of a channel's requests.
use Rattle.std.proofs.Common.{◌≡◌, ℕ, zero, suc, ◌+◌, ◌-◌, ◌<◌, ◌≤◌, ◌==◌, Bool, true, false, cond, List, [], ◌∷◌, ◌++◌, length, length-append, map, take, drop, refl, ap, sym, ◌∙◌, subst, arith, Option, Some, None}
use Rattle.std.specs.Prelude.{min, nat_le, replicate, count_by, slice_get, slice_index_or, if◌then◌else◌}
use Rattle.std.specs.List.{AllByRecursion, flat_map}
use Rattle.std.proofs.lemmas.List.Sums.{sum_by-append, sum_by-cons}
use Rattle.std.proofs.lemmas.Bool.Decides.{nat_tests}
use Rattle.std.proofs.lemmas.List.{append-nil, length-map, length-take, length-drop, length-replicate}
use Rattle.scsi_disk.proofs.RoomLaws.{by_test}
use Rattle.ring_pair_laws.specs.Lists.{Lists}
use Rattle.script_lines.specs.declared.line.Ask.{Ask}
use Rattle.script_phases.specs.Openings.{Phase}
use Rattle.channel_model.specs.Channel.{count_of, held_of}
use Rattle.channel_model.specs.Roles.{side_that_asks}
use Rattle.bus_script.specs.declared.outcome.LineResult.{LineResult}
use Rattle.bus_script.specs.declared.outcome.LineResult.TheVariants.{Unserved}
use Rattle.device_kinds.specs.Served.{Served, done_of}
use Rattle.bus_model.specs.Orders.{Order, order_of}
use Rattle.bus_model.specs.Channel.{IsChannelRun, asked_by, served_count, rescinded_of, outcomes_by, outcomes_of}
use Rattle.device_kinds.specs.Logs.{Recorded, Grows, served_from, total}
use Rattle.bus_model.specs.Run.{Carried, IsCarried, seats_of, EachGrows}
use Rattle.bus_model.specs.Laws.{Rescinds, UnservedNowhere, was_served}
use Rattle.bus_model.proofs.Lists.{IfThere, at_get, each_filter}
use Rattle.bus_model.proofs.SeatLogs.{none_besides, none_some, seat_entries, some_same}
use Rattle.bus_model.proofs.Arriving.{serves_each_lem}

-- each request has exactly one outcome
count_by_stop : (stop : Option (ℕ × Bool)) (m : ℕ) (served : List Served) → length served ≡ count_of stop m → length (outcomes_by stop m served) ≡ m
count_by_stop None m served count = length-map served done_of ∙ count
count_by_stop (Some (k, false)) m served count = omega (arith, length-append (map done_of served) (replicate (m - min k m) Unserved), length-map served done_of, length-replicate (m - min k m) Unserved, count)
count_by_stop (Some (k, true)) m served count =
    by_test (nat_le k m)
    (λ few.
    let low : k ≤ m = grind (arith, nat_tests, few) in
    ap (λ b. length (if b then map done_of (take (k - 1) served) ++ (map rescinded_of (drop (k - 1) served) ++ replicate (m - k) Unserved) else map done_of served)) few
    ∙ omega (
      arith,
      low,
      count,
      length-append (map done_of (take (k - 1) served)) (map rescinded_of (drop (k - 1) served) ++ replicate (m - k) Unserved),
      length-append (map rescinded_of (drop (k - 1) served)) (replicate (m - k) Unserved),
      length-map (take (k - 1) served) done_of,
      length-map (drop (k - 1) served) rescinded_of,
      length-replicate (m - k) Unserved,
      length-take (k - 1) served,
      length-drop (k - 1) served,
    ))
    (λ more.
    let high : m + 1 ≤ k = grind (arith, nat_tests, more) in
    ap (λ b. length (if b then map done_of (take (k - 1) served) ++ (map rescinded_of (drop (k - 1) served) ++ replicate (m - k) Unserved) else map done_of served)) more
    ∙ omega (arith, high, count, length-map served done_of))

pub one_outcome_each : (order : Order) (lists : Lists) (served : List Served) → IsChannelRun order lists served → length (outcomes_of order served) ≡ length order.asks
one_outcome_each order lists served run = count_by_stop order.stop (length order.asks) served (serves_each_lem order lists served run)

-- the done ones, and the one whose answer is held

abbrev done_by : Option (ℕ × Bool) → ℕ → List Served → List Served
done_by None m served = served
done_by (Some (k, false)) m served = served
done_by (Some (k, true)) m served = if nat_le k m then take (k - 1) served else served

abbrev held_by : Option (ℕ × Bool) → ℕ → List Served → List Served
held_by None m served = []
held_by (Some (k, false)) m served = []
held_by (Some (k, true)) m served = if nat_le k m then drop (k - 1) served else []

halves : (n : ℕ) (xs : List Served) → xs ≡ take n xs ++ drop n xs
halves zero [] = refl
halves zero (x ∷ xs) = refl
halves (suc n) [] = refl
halves (suc n) (x ∷ xs) = ap (λ l. x ∷ l) (halves n xs)

both_parts : (stop : Option (ℕ × Bool)) (m : ℕ) (served : List Served) → served ≡ done_by stop m served ++ held_by stop m served
both_parts None m served = sym (append-nil served)
both_parts (Some (k, false)) m served = sym (append-nil served)
both_parts (Some (k, true)) m served = by_flag (nat_le k m)
  where
    by_flag : (b : Bool) → served ≡ (if b then take (k - 1) served else served) ++ (if b then drop (k - 1) served else [])
    by_flag true = halves (k - 1) served
    by_flag false = sym (append-nil served)

none_left : (m : ℕ) (served : List Served) → length served ≡ m → map done_of served ≡ map done_of served ++ replicate (m - length served) Unserved
none_left m served count =
    let none : m - length served ≡ 0 = omega (arith, count) in
    sym (ap (λ n. map done_of served ++ replicate n Unserved) none ∙ append-nil (map done_of served))

parted : (stop : Option (ℕ × Bool)) (m : ℕ) (served : List Served) → length served ≡ count_of stop m
    → outcomes_by stop m served ≡ map done_of (done_by stop m served) ++ (map rescinded_of (held_by stop m served) ++ replicate (m - length served) Unserved)
parted None m served count = none_left m served count
parted (Some (k, false)) m served count = ap (λ n. map done_of served ++ replicate (m - n) Unserved) (sym count)
parted (Some (k, true)) m served count =
    by_test (nat_le k m)
    (λ few.
    let low : k ≤ m = grind (arith, nat_tests, few) in
    let all : length served ≡ k = omega (arith, low, count) in
    ap (λ b. if b then map done_of (take (k - 1) served) ++ (map rescinded_of (drop (k - 1) served) ++ replicate (m - k) Unserved) else map done_of served) few
    ∙ ap (λ n. map done_of (take (k - 1) served) ++ (map rescinded_of (drop (k - 1) served) ++ replicate (m - n) Unserved)) (sym all)
    ∙ sym (ap (λ b. map done_of (if b then take (k - 1) served else served) ++ (map rescinded_of (if b then drop (k - 1) served else []) ++ replicate (m - length served) Unserved)) few))
    (λ more.
    let high : m + 1 ≤ k = grind (arith, nat_tests, more) in
    ap (λ b. if b then map done_of (take (k - 1) served) ++ (map rescinded_of (drop (k - 1) served) ++ replicate (m - k) Unserved) else map done_of served) more
    ∙ none_left m served (omega (arith, high, count))
    ∙ sym (ap (λ b. map done_of (if b then take (k - 1) served else served) ++ (map rescinded_of (if b then drop (k - 1) served else []) ++ replicate (m - length served) Unserved)) more))

not_held : (stop : Option (ℕ × Bool)) (m : ℕ) (served : List Served) → held_of stop m ≡ false → held_by stop m served ≡ []
not_held None m served e = refl
not_held (Some (k, false)) m served e = refl
not_held (Some (k, true)) m served e = ap (λ b. if b then drop (k - 1) served else []) e

last_held : (k m : ℕ) (served : List Served) → 1 ≤ k → k ≤ m → length served ≡ min k m → length (held_by (Some (k, true)) m served) ≡ 1
last_held k m served some few count =
    let yes : nat_le k m ≡ true = grind (arith, nat_tests, few) in
    ap (λ b. length (if b then drop (k - 1) served else [])) yes ∙ omega (arith, some, few, count, length-drop (k - 1) served)

pub rescinds_lem : Rescinds
rescinds_lem order lists served run =
    let m = length order.asks in
    let asks = asked_by (side_that_asks order.kind) order lists in
    let count = serves_each_lem order lists served run in
    record {
      one_each = one_outcome_each order lists served run;
      served_first = (drop (served_count order) asks, rest_of asks (served_count order) ∙ ap (λ l. l ++ drop (served_count order) asks) (sym run.serves));
      done = done_by order.stop m served;
      held = held_by order.stop m served;
      done_first = both_parts order.stop m served;
      outcomes = parted order.stop m served count;
      none_held = not_held order.stop m served;
      one_held = λ k is some few.
          ap (λ s. length (held_by s m served)) is ∙ last_held k m served some few (count ∙ ap (λ s. count_of s m) is);
    }
  where
    rest_of : (xs : List Ask) (n : ℕ) → xs ≡ take n xs ++ drop n xs
    rest_of [] zero = refl
    rest_of (x ∷ xs) zero = refl
    rest_of [] (suc n) = refl
    rest_of (x ∷ xs) (suc n) = ap (λ l. x ∷ l) (rest_of xs n)

-- how many were served

abbrev one : LineResult → ℕ
one r = cond (was_served r) 1 0

abbrev counted : List LineResult → ℕ
counted = count_by was_served

counted_append : (xs ys : List LineResult) → counted (xs ++ ys) ≡ counted xs + counted ys
counted_append xs ys = sum_by-append one xs ys

counted_done : (served : List Served) → counted (map done_of served) ≡ length served
counted_done [] = refl
counted_done (s ∷ served) = omega (arith, sum_by-cons one (done_of s) (map done_of served), counted_done served)

counted_held : (served : List Served) → counted (map rescinded_of served) ≡ length served
counted_held [] = refl
counted_held (s ∷ served) = omega (arith, sum_by-cons one (rescinded_of s) (map rescinded_of served), counted_held served)

counted_none : (n : ℕ) → counted (replicate n Unserved) ≡ 0
counted_none zero = refl
counted_none (suc n) = omega (arith, sum_by-cons one Unserved (replicate n Unserved), counted_none n)

counted_of : (order : Order) (lists : Lists) (served : List Served) → IsChannelRun order lists served → counted (outcomes_of order served) ≡ length served
counted_of order lists served run =
    let r = rescinds_lem order lists served run in
    let rest : List LineResult = replicate (length order.asks - length served) Unserved in
    ap counted r.outcomes
    ∙ omega (
      arith,
      counted_append (map done_of r.done) (map rescinded_of r.held ++ rest),
      counted_append (map rescinded_of r.held) rest,
      counted_done r.done,
      counted_held r.held,
      counted_none (length order.asks - length served),
      ap length r.done_first,
      length-append r.done r.held,
    )

seats_counted : (p : Phase) (channels : List Carried) → AllByRecursion (IsCarried p) channels → counted (flat_map (λ l. l) (map (λ c. outcomes_of (order_of p c.opening) c.served) channels)) ≡ total (map (λ c. c.served) channels)
seats_counted p [] each = refl
seats_counted p (c ∷ channels) each =
    omega (
      arith,
      counted_append (outcomes_of (order_of p c.opening) c.served) (flat_map (λ l. l) (map (λ c. outcomes_of (order_of p c.opening) c.served) channels)),
      counted_of (order_of p c.opening) c.run.settled c.served each.0.carried,
      seats_counted p channels each.1,
    )

grown_at : (d place : ℕ) (channels : List Carried) (before after : List (List Recorded)) → EachGrows place channels before after → d < length before
    → Grows (slice_index_or before d []) (slice_index_or after d []) (map (λ c. c.served) (seats_of (place + d) channels))
grown_at d place channels [] [] each low = absurd (omega (arith, low))
grown_at d place channels [] (a ∷ after) each low = absurd each
grown_at d place channels (b ∷ before) [] each low = absurd each
grown_at zero place channels (b ∷ before) (a ∷ after) each low =
    let here : place ≡ place + 0 = omega arith in
    subst (λ n. Grows b a (map (λ c. c.served) (seats_of n channels))) here each.0
grown_at (suc d) place channels (b ∷ before) (a ∷ after) each low =
    let here : place + 1 + d ≡ place + suc d = omega arith in
    subst (λ n. Grows (slice_index_or before d []) (slice_index_or after d []) (map (λ c. c.served) (seats_of n channels))) here (grown_at d (place + 1) channels before after each.1 (omega (arith, low)))

-- a channel among others, with what it served
served_at : (channels : List Carried) (i : ℕ) (c : Carried) → slice_get channels i ≡ Some c → slice_get (map (λ c. c.served) channels) i ≡ Some c.served
served_at [] i c at = none_some c at
served_at (x ∷ channels) zero c at = ap (λ (c : Carried). Some c.served) (some_same x c at)
served_at (x ∷ channels) (suc i) c at = served_at channels i c at

pub unserved_nowhere_lem : UnservedNowhere
unserved_nowhere_lem p before after runs told run device low =
    let here : 0 + device ≡ device = omega arith in
    let seats = seats_of device run.channels in
    let b = slice_index_or before device [] in
    let a = slice_index_or after device [] in
    let grows : Grows b a (map (λ c. c.served) seats) = subst (λ n. Grows b a (map (λ c. c.served) (seats_of n run.channels))) here (grown_at device 0 run.channels before after run.histories low) in
    let each = each_filter (IsCarried p) (λ c. c.opening.device == device) run.channels run.each in
    let entries = entries_of_seat b a seats grows in
    record {
      more = grows.more;
      after_is = grows.after_is;
      entries = entries;
      first = λ seat c at. ap (map (λ s. s.request)) (entries seat c at) ∙ (subst (IfThere (IsCarried p)) at (at_get (IsCarried p) seats seat each)).carried.serves;
      besides = λ seat le. none_besides b a (map (λ c. c.served) seats) grows seat (omega (arith, le, length-map seats (λ (c : Carried). c.served)));
      count = grows.all ∙ sym (seats_counted p seats each);
    }
  where
    entries_of_seat : (b a : List Recorded) (seats : List Carried) (grows : Grows b a (map (λ c. c.served) seats)) (seat : ℕ) (c : Carried) → slice_get seats seat ≡ Some c → served_from seat (length b) grows.more ≡ c.served
    entries_of_seat b a seats grows seat c at =
        let here : seat ≡ 0 + seat = omega arith in
        ap (λ k. served_from k (length b) grows.more) here ∙ seat_entries 0 (length b) grows.more (map (λ c. c.served) seats) seat c.served grows.seats (served_at seats seat c at)
