-- What the channels of a phase come to, from what was opened, ran and was closed.
use Rattle.vmbus_msg.specs.declared.msg.Msg.{Msg}
use Rattle.std.proofs.Common.{◌≡◌, ℕ, suc, ◌+◌, ◌*◌, ◌<◌, ◌≤◌, ◌==◌, Bool, true, false, cond, List, [], ◌∷◌, ◌++◌, length, length-append, refl, ap, sym, ◌∙◌, subst, arith, Some}
use Rattle.std.specs.Prelude.{map, filter, sum, All}
use Rattle.std.specs.List.{AllByRecursion}
use Rattle.std.proofs.lemmas.List.{append-nil, get_or_default}
use Rattle.std.proofs.lemmas.List.Sums.{sum_by-cons}
use Rattle.std.proofs.lemmas.Simd.{map-map}
use Rattle.script_lines.specs.Parts.{kind_of}
use Rattle.script_phases.specs.Openings.{Opening, Phase, by_relid}
use Rattle.device_kinds.specs.Logs.{Grows, total}
use Rattle.bus_model.specs.Orders.{order_of}
use Rattle.bus_model.specs.Channel.{IsChannelRun, outcomes_of}
use Rattle.bus_model.specs.Run.{Carried, IsCarried, EachGrows, seats_of}
use Rattle.bus_model.proofs.Arriving.{serves_each_lem}
use Rattle.bus_model.specs.declared.channel_run.ChannelRun.{ChannelRun}
use Rattle.bus_script.specs.declared.outcome.LineResult.{LineResult}
use Rattle.device_any.specs.Seats.{kind_at, served_at, IsSameSeat}
use Rattle.device_any.specs.declared.device_seat.DeviceSeat.{DeviceSeat}
use Rattle.bus_threads.specs.Pairs.{EachRuns, Pairing}
use Rattle.bus_threads.specs.declared.pair.PairDone.{PairDone}
use Rattle.bus_plan.specs.Plans.{EachOf, IsOrdered, order_by}
use Rattle.bus_plan.specs.declared.opening.ChannelOrder.{ChannelOrder}
use Rattle.bus_run.specs.Channels.{CanRun, ChannelsRan, IsOf}
use Rattle.bus_run.specs.Closing.{AllBack, AllClosed, AllCome, AreWhole, Closed, IsClosed, RanAt, closed_of, run_of, told_of}
use Rattle.bus_run.specs.Due.{due_of}
use Rattle.bus_run.specs.declared.due.Due.{Due}
use Rattle.bus_run.specs.Devices.{IsReady, box_at, gone}
use Rattle.device_any.specs.Boxes.{AreSeatsFor, ComesBack, EachWith, GoesOn, IsKept, box_log, kind_in, seats_in, setup_of, spec_of}
use Rattle.device_any.specs.declared.device_box.DeviceBox.{DeviceBox}
use Rattle.bus_run.specs.Opening.{AllOpened, AreAway, CanOpen, CanOpenAll, Given, IsAway, IsStill, OpensAt, order_at, orders_of, quotas_of, seats_given}
use Rattle.bus_run.specs.declared.settings.Settings.{Settings}
use Rattle.device_any.proofs.Uniting.{kind_opened}
use Rattle.bus_run.proofs.Opened.{room_here, still_on}
use Rattle.bus_run.proofs.ServedLines.{no_more}

-- the channels ran

each_ran : (posted : List Msg) (settings : List Settings) (old : List DeviceBox) (given : List Given) (pairs : List Pairing) (dones : List PairDone) → EachWith (OpensAt posted settings old) given pairs → EachRuns pairs dones → EachWith (RanAt old) given dones
each_ran posted settings old [] [] [] each runs = tt
each_ran posted settings old [] [] (d ∷ dones) each runs = absurd runs
each_ran posted settings old [] (q ∷ pairs) dones each runs = absurd each
each_ran posted settings old (g ∷ given) [] dones each runs = absurd each
each_ran posted settings old (g ∷ given) (q ∷ pairs) [] each runs = absurd runs
each_ran posted settings old (g ∷ given) (q ∷ pairs) (d ∷ dones) each runs = (runs.0.runs (order_at old g.order) g.seat [] each.0.opens, each_ran posted settings old given pairs dones each.1 runs.1)

all_within : (plan : List ChannelOrder) (old : List DeviceBox) → AllByRecursion (CanOpen old) plan → AllByRecursion (λ x. x.opening.device < length old) plan
all_within [] old can = tt
all_within (x ∷ plan) old can = (can.0.within, all_within plan old can.1)

all_fit : (old before boxes : List DeviceBox) (given : List Given) → ((k : ℕ) → k < length old → kind_in (box_at boxes k) ≡ kind_in (box_at before k)) → AllByRecursion (λ (g : Given). g.order.opening.device < length old) given
    → AllByRecursion (λ (g : Given). kind_in (box_at before g.order.opening.device) ≡ Some (kind_at g.seat)) given → AllByRecursion (λ (g : Given). kind_in (box_at boxes g.order.opening.device) ≡ Some (kind_at g.seat)) given
all_fit old before boxes [] kinds low fits = tt
all_fit old before boxes (g ∷ given) kinds low fits = (kinds g.order.opening.device low.0 ∙ fits.0, all_fit old before boxes given kinds low.1 fits.1)

given_within : (old : List DeviceBox) (given : List Given) → AllByRecursion (λ (x : ChannelOrder). x.opening.device < length old) (map (λ (g : Given). g.order) given) → AllByRecursion (λ (g : Given). g.order.opening.device < length old) given
given_within old [] low = tt
given_within old (g ∷ given) low = (low.0, given_within old given low.1)

dues_given : (given : List Given) → map (λ (g : Given). due_of g.order) given ≡ map due_of (map (λ (g : Given). g.order) given)
dues_given [] = refl
dues_given (g ∷ given) = ap (λ l. due_of g.order ∷ l) (dues_given given)

dues_within : (old : List DeviceBox) (plan : List ChannelOrder) → AllByRecursion (λ (x : ChannelOrder). x.opening.device < length old) plan → AllByRecursion (λ (d : Due). d.opening.device < length old) (map due_of plan)
dues_within old [] low = tt
dues_within old (x ∷ plan) low = (low.0, dues_within old plan low.1)

pub all_come : (posted : List Msg) (settings : List Settings) (plan : List ChannelOrder) (old before boxes : List DeviceBox) (pairs : List Pairing) (dones : List PairDone) → CanOpenAll plan old → AreAway plan old before → (all : AllOpened posted settings plan old before boxes pairs) → EachRuns pairs dones
    → AllCome (map due_of plan) old all.opened.given boxes dones
all_come posted settings plan old before boxes pairs dones can away all runs =
    let opened = all.opened in
    let within = all_within plan old can.each in
    record {
      planned = dues_given opened.given ∙ ap (map due_of) opened.planned;
      within = dues_within old plan within;
      places = opened.places ∙ away.count;
      fits = all_fit old before boxes opened.given (λ k less. (opened.still k (omega (arith, less, away.count))).kind)
          (given_within old opened.given (subst (AllByRecursion (λ (x : ChannelOrder). x.opening.device < length old)) (sym opened.planned) within)) opened.fits;
      ran = each_ran posted settings old opened.given pairs dones opened.opens runs;
      none_here = λ k less. all.none_left k (omega (arith, less, away.count));
    }

-- the seats that came back

same_closed : (old : List DeviceBox) (k : ℕ) (closed : List Closed) → AllByRecursion (IsClosed old) closed → EachWith IsSameSeat (seats_given k (map (λ (c : Closed). c.given) closed)) (map (λ (c : Closed). c.back) (closed_of k closed))
same_closed old k [] all = tt
same_closed old k (c ∷ closed) all = by_flag (c.given.order.opening.device == k) (filter (λ (g : Given). g.order.opening.device == k) (map (λ (c : Closed). c.given) closed)) (closed_of k closed) all.0.same (same_closed old k closed all.1)
  where
    by_flag : (b : Bool) (gs : List Given) (cs : List Closed) → IsSameSeat c.given.seat c.back → EachWith IsSameSeat (map (λ (g : Given). g.seat) gs) (map (λ (c : Closed). c.back) cs)
        → EachWith IsSameSeat (map (λ (g : Given). g.seat) (cond b (c.given ∷ gs) gs)) (map (λ (c : Closed). c.back) (cond b (c ∷ cs) cs))
    by_flag true gs cs one more = (one, more)
    by_flag false gs cs one more = more

comes_back : (old before boxes : DeviceBox) (quotas : List ℕ) (given : List DeviceSeat) → IsKept old → IsAway old quotas before → IsStill before boxes → seats_in before ≡ given → EachWith IsSameSeat given (seats_in boxes) → ComesBack old quotas given boxes
comes_back old before boxes [] given kept away still dealt same = (still.stays away.1 ∙ away.0, kept)
comes_back old before boxes (q ∷ quotas) given kept away still dealt same =
    (kind_opened boxes (kind_of (spec_of old)) (still.kind ∙ away.0), still.subs ∙ away.1, subst (AreSeatsFor old (q ∷ quotas)) dealt away.2, same)

pub all_back : (posted : List Msg) (settings : List Settings) (phase most : ℕ) (plan : List ChannelOrder) (old before between boxes : List DeviceBox) (pairs : List Pairing) (settled settled' : List ChannelRun) (outcomes : List (List (List LineResult))) → All (IsReady (4096 * most)) old
    → AreAway plan old before → (all : AllOpened posted settings plan old before between pairs) → AllClosed phase old all.opened.given between boxes settled settled' outcomes
    → AllBack old (λ k. quotas_of k plan) (λ k. seats_given k all.opened.given) boxes
all_back posted settings phase most plan old before between boxes pairs settled settled' outcomes ready away all closed =
    let opened = all.opened in
    record {
      count = closed.places ∙ (opened.places ∙ away.count);
      each = λ k less.
          let low : k < length before = omega (arith, less, away.count) in
          let mid : k < length between = omega (arith, low, opened.places) in
          let dealt : seats_in (box_at before k) ≡ seats_given k opened.given = opened.dealt k low ∙ (ap (λ l. seats_given k opened.given ++ l) (all.none_left k low) ∙ append-nil (seats_given k opened.given)) in
          let same : EachWith IsSameSeat (seats_given k opened.given) (seats_in (box_at boxes k)) =
          subst (EachWith IsSameSeat (seats_given k opened.given)) (sym (closed.back k mid))
          (subst (λ gs. EachWith IsSameSeat (seats_given k gs) (map (λ (c : Closed). c.back) (closed_of k closed.closed))) closed.given_are (same_closed old k closed.closed closed.each)) in
          comes_back (box_at old k) (box_at before k) (box_at boxes k) (quotas_of k plan) (seats_given k opened.given) (room_here most plan old k ready less).kept (away.each k less)
          (still_on (box_at before k) (box_at between k) (box_at boxes k) (opened.still k low) (closed.still k mid)) dealt same;
    }

-- what each channel carried

module _ (p : Phase) (phase : ℕ) (old : List DeviceBox) where
  abbrev Is : Opening → Closed → Type 0
  Is o c = IsOrdered p o c.given.order

  abbrev carried : List Opening → List Closed → List Carried
  carried [] closed = []
  carried (o ∷ os) [] = []
  carried (o ∷ os) (c ∷ closed) = record { opening = o; run = run_of phase c; served = served_at c.back } ∷ carried os closed

  each_closed : (os : List Opening) (closed : List Closed) → EachOf (IsOrdered p) os (map (λ (c : Closed). c.given.order) closed) → EachOf Is os closed
  each_closed [] [] each = tt
  each_closed [] (c ∷ closed) each = absurd each
  each_closed (o ∷ os) [] each = absurd each
  each_closed (o ∷ os) (c ∷ closed) each = (each.0, each_closed os closed each.1)

  carried_openings : (os : List Opening) (closed : List Closed) → EachOf Is os closed → map (λ (c : Carried). c.opening) (carried os closed) ≡ os
  carried_openings [] [] each = refl
  carried_openings [] (c ∷ closed) each = absurd each
  carried_openings (o ∷ os) [] each = absurd each
  carried_openings (o ∷ os) (c ∷ closed) each = ap (λ l. o ∷ l) (carried_openings os closed each.1)

  carried_runs : (os : List Opening) (closed : List Closed) → EachOf Is os closed → map (λ (c : Carried). c.run) (carried os closed) ≡ map (run_of phase) closed
  carried_runs [] [] each = refl
  carried_runs [] (c ∷ closed) each = absurd each
  carried_runs (o ∷ os) [] each = absurd each
  carried_runs (o ∷ os) (c ∷ closed) each = ap (λ l. run_of phase c ∷ l) (carried_runs os closed each.1)

  -- the order of a channel in the phase
  pub same_order : (o : Opening) (x : ChannelOrder) → IsOrdered p o x → IsOf old o → order_at old x ≡ order_of p o
  same_order o x is of = ap (λ k. order_by x (spec_of (box_at old k))) is.device ∙ (ap (order_by x) (sym of.spec) ∙ is.order)

  carried_each : p.number ≡ phase → (os : List Opening) (closed : List Closed) → EachOf Is os closed → AllByRecursion (IsOf old) os → AllByRecursion (IsClosed old) closed → AllByRecursion (IsCarried p) (carried os closed)
  carried_each number [] [] each of all = tt
  carried_each number [] (c ∷ closed) each of all = absurd each
  carried_each number (o ∷ os) [] each of all = absurd each
  carried_each number (o ∷ os) (c ∷ closed) each of all = (
    record { phase = sym number; relid = each.0.relid; device = each.0.device; carried = subst (λ r. IsChannelRun r c.lists (served_at c.back)) (same_order o c.given.order each.0 of.0) all.0.channel },
    carried_each number os closed each.1 of.1 all.1,
  )

  -- what the channels of a device tell
  carried_of : {Y : Type 0} (f : Carried → Y) (g : Closed → Y) → ((o : Opening) (c : Closed) → Is o c → IsOf old o → f (record { opening = o; run = run_of phase c; served = served_at c.back }) ≡ g c) → (k : ℕ) (os : List Opening) (closed : List Closed)
      → EachOf Is os closed → AllByRecursion (IsOf old) os → map f (seats_of k (carried os closed)) ≡ map g (closed_of k closed)
  carried_of f g same k [] [] each of = refl
  carried_of f g same k [] (c ∷ closed) each of = absurd each
  carried_of f g same k (o ∷ os) [] each of = absurd each
  carried_of {Y} f g same k (o ∷ os) (c ∷ closed) each of =
      let one : Carried = record { opening = o; run = run_of phase c; served = served_at c.back } in
      by_flag (o.device == k) (seats_of k (carried os closed)) (closed_of k closed) (same o c each.0 of.0) (carried_of f g same k os closed each.1 of.1)
      ∙ ap (λ n. map g (cond (n == k) (c ∷ closed_of k closed) (closed_of k closed))) (sym each.0.device)
    where
      by_flag : (b : Bool) (xs : List Carried) (cs : List Closed) → f (record { opening = o; run = run_of phase c; served = served_at c.back }) ≡ g c → map f xs ≡ map g cs
          → map f (cond b (record { opening = o; run = run_of phase c; served = served_at c.back } ∷ xs) xs) ≡ map g (cond b (c ∷ cs) cs)
      by_flag true xs cs here more = ap (λ y. y ∷ map f xs) here ∙ ap (λ l. g c ∷ l) more
      by_flag false xs cs here more = more

-- a device's channels serve no more than they are asked

served_few : (old : List DeviceBox) (k : ℕ) (closed : List Closed) → AllByRecursion (IsClosed old) closed → total (map (λ (c : Closed). served_at c.back) (closed_of k closed)) ≤ sum (quotas_of k (map (λ (c : Closed). c.given.order) closed))
served_few old k [] all = omega arith
served_few old k (c ∷ closed) all =
    let order = order_at old c.given.order in
    let few : length (served_at c.back) ≤ length c.given.order.asks.items = omega (arith, serves_each_lem order c.lists (served_at c.back) all.0.channel, no_more order.stop (length order.asks)) in
    by_flag (c.given.order.opening.device == k) (closed_of k closed) (orders_of k (map (λ (c : Closed). c.given.order) closed)) few (served_few old k closed all.1)
  where
    by_flag : (b : Bool) (cs : List Closed) (xs : List ChannelOrder) → length (served_at c.back) ≤ length c.given.order.asks.items → total (map (λ (c : Closed). served_at c.back) cs) ≤ sum (map (λ (x : ChannelOrder). length x.asks.items) xs)
        → total (map (λ (c : Closed). served_at c.back) (cond b (c ∷ cs) cs)) ≤ sum (map (λ (x : ChannelOrder). length x.asks.items) (cond b (c.given.order ∷ xs) xs))
    by_flag true cs xs few more = omega (arith, few, more, sum_by-cons (λ (n : ℕ). n) (length c.given.order.asks.items) (map (λ (x : ChannelOrder). length x.asks.items) xs))
    by_flag false cs xs few more = more

-- all histories went on

each_grows : (place : ℕ) (channels : List Carried) (old new : List DeviceBox) → length new ≡ length old → ((k : ℕ) → k < length old → GoesOn (box_at old k) (box_at new k) (map (λ c. c.served) (seats_of (place + k) channels)))
    → EachGrows place channels (map box_log old) (map box_log new) × (map spec_of new ≡ map spec_of old) × (map setup_of new ≡ map setup_of old)
each_grows place channels [] [] count goes = (tt, refl, refl)
each_grows place channels [] (n ∷ new) count goes = absurd (omega (arith, count))
each_grows place channels (o ∷ old) [] count goes = absurd (omega (arith, count))
each_grows place channels (o ∷ old) (n ∷ new) count goes =
    let first = goes 0 (omega arith) in
    let here : place + 0 ≡ place = omega arith in
    let more = each_grows (place + 1) channels old new (omega (arith, count))
    (λ k less. let next : place + suc k ≡ (place + 1) + k = omega arith in subst (λ j. GoesOn (box_at old k) (box_at new k) (map (λ (c : Carried). c.served) (seats_of j channels))) next (goes (suc k) (omega (arith, less)))) in (
      (subst (λ j. Grows (box_log o) (box_log n) (map (λ (c : Carried). c.served) (seats_of j channels))) here first.grows, more.0),
      ap (λ s. s ∷ map spec_of new) first.spec ∙ ap (λ l. spec_of o ∷ l) more.1,
      ap (λ s. s ∷ map setup_of new) first.setup ∙ ap (λ l. setup_of o ∷ l) more.2,
    )

module _ (posted : List Msg) (settings : List Settings) (phase : ℕ) (plan : List ChannelOrder) (p : Phase) (old before between boxes new : List DeviceBox) (pairs : List Pairing) (settled settled' : List ChannelRun) (outcomes : List (List (List LineResult)))
    (can : CanRun phase plan old p) (away : AreAway plan old before) (all : AllOpened posted settings plan old before between pairs) (closed : AllClosed phase old all.opened.given between boxes settled settled' outcomes) (whole : AreWhole old boxes new) where
  places : length between ≡ length old
  places = all.opened.places ∙ away.count

  orders : map (λ (c : Closed). c.given.order) closed.closed ≡ plan
  orders = sym (map-map (λ (g : Given). g.order) (λ (c : Closed). c.given) closed.closed) ∙ (ap (map (λ (g : Given). g.order)) closed.given_are ∙ all.opened.planned)

  each : EachOf (Is p phase old) (by_relid p.opened) closed.closed
  each = each_closed p phase old (by_relid p.opened) closed.closed (subst (EachOf (IsOrdered p) (by_relid p.opened)) (sym orders) can.ordered)

  -- what the seats of a device served
  served_there : (k : ℕ) → k < length old → map served_at (seats_in (box_at boxes k)) ≡ map (λ (c : Closed). served_at c.back) (closed_of k closed.closed)
  served_there k less = ap (map served_at) (closed.back k (omega (arith, less, places))) ∙ map-map served_at (λ (c : Closed). c.back) (closed_of k closed.closed)

  goes_on : (k : ℕ) → k < length old → GoesOn (box_at old k) (box_at new k) (map (λ (c : Carried). c.served) (seats_of k (carried p phase old (by_relid p.opened) closed.closed)))
  goes_on k less =
      subst (GoesOn (box_at old k) (box_at new k)) (served_there k less ∙ sym (carried_of p phase old (λ (c : Carried). c.served) (λ (c : Closed). served_at c.back) (λ o c is of. refl) k (by_relid p.opened) closed.closed each can.of)) (whole.each k less)

  pub channels_ran : ChannelsRan p old new settled settled' outcomes
  channels_ran =
      let os = by_relid p.opened in
      let channels = carried p phase old os closed.closed in
      let goes = each_grows 0 channels old new whole.count (λ k less. let same : k ≡ 0 + k = omega arith in subst (λ j. GoesOn (box_at old k) (box_at new k) (map (λ (c : Carried). c.served) (seats_of j channels))) same (goes_on k less)) in
      record {
        channels = channels;
        opened = carried_openings p phase old os closed.closed each;
        each = carried_each p phase old can.number os closed.closed each can.of closed.each;
        settled_are = closed.settled_are ∙ ap (λ l. settled ++ l) (sym (carried_runs p phase old os closed.closed each));
        histories = goes.0;
        kinds = goes.1;
        setups = goes.2;
        long = closed.long ∙ places;
        told = λ k less. closed.told k (omega (arith, less, places))
            ∙ sym (carried_of p phase old (λ (c : Carried). outcomes_of (order_of p c.opening) c.served) (told_of old) (λ o c is of. ap (λ r. outcomes_of r (served_at c.back)) (sym (same_order p phase old o c.given.order is of))) k os closed.closed each can.of);
      }

  pub still_ready : All (IsReady (4096 * phase)) old → All (IsReady (4096 * (phase + 1))) new
  still_ready ready k d less =
      let within : k < length old = omega (arith, less, whole.count) in
      let goes = whole.each k within in
      let was = room_here phase plan old k ready within in
      let few : total (map (λ (c : Closed). served_at c.back) (closed_of k closed.closed)) ≤ sum (quotas_of k plan) = subst (λ xs. total (map (λ (c : Closed). served_at c.back) (closed_of k closed.closed)) ≤ sum (quotas_of k xs)) orders (served_few old k closed.closed closed.each) in
      subst (IsReady (4096 * (phase + 1))) (get_or_default new k gone d less)
      (record { kept = goes.kept; few = omega (arith, was.few, few, can.can.asked k within, ap length goes.grows.after_is, length-append (box_log (box_at old k)) goes.grows.more, goes.grows.all, ap total (served_there k within)) })
