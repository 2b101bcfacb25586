-- A phase: its channels, their plan, and its outcomes.
use Rattle.std.proofs.Common.{◌≡◌, ℕ, zero, suc, ◌+◌, ◌*◌, ◌%◌, ◌<◌, ◌≤◌, ◌==◌, Bool, true, false, cond, List, [], ◌∷◌, ◌++◌, length, length-append, refl, ap, sym, ◌∙◌, subst, arith, slice_get, slice_index_or, Option, Some}
use Rattle.std.specs.Prelude.{map, All, filter, sum, sum_by, ◌&&◌, not, is_some, is_none, if◌then◌else◌}
use Rattle.std.specs.List.{flat_map, AllByRecursion}
use Rattle.std.proofs.lemmas.List.{length-map}
use Rattle.std.proofs.lemmas.List.Sums.{sum_by-cons}
use Rattle.contact.specs.declared.kind.DeviceKind.{DeviceKind}
use Rattle.script_lines.specs.declared.line.Ask.{Ask}
use Rattle.scsi_disk.proofs.RoomLaws.{by_test}
use Rattle.script_lines.specs.declared.line.Line.{Line}
use Rattle.script_lines.specs.declared.line.DeviceSpec.{DeviceSpec}
use Rattle.script_lines.specs.Lines.{Says}
use Rattle.script_lines.specs.Parts.{asks_in, kind_of, channels_of}
use Rattle.script_lines.specs.WellFormed.{AllRight, AllGo}
use Rattle.script_phases.specs.Says.{said_to, asked, asks_of}
use Rattle.script_phases.specs.Openings.{Opening, Phase, subs_of, is_ended, is_opened, subs_from, channels_from, opened_from, is_first, firsts, others, by_relid}
use Rattle.bus_script.specs.declared.outcome.LineResult.{LineResult}
use Rattle.worker_pair.specs.Plans.{AllCarried}
use Rattle.bus_model.specs.Run.{Carried, IsCarried, seats_of, nth_of, told_by, outcomes_in}
use Rattle.bus_model.specs.Channel.{outcomes_of}
use Rattle.bus_model.proofs.Stopping.{one_outcome_each}
use Rattle.script_phases.specs.Shares.{share}
use Rattle.bus_model.specs.Orders.{Order, order_of}
use Rattle.bus_model.proofs.Lists.{each_append, each_filter as each_passing}
use Rattle.bus_model.specs.declared.channel_run.ChannelRun.{ChannelRun}
use Rattle.bus_plan.specs.Plans.{IsOrdered, EachOrdered, opening_at, first_opening}
use Rattle.bus_plan.specs.Outcomes.{HasOutcomes, Tells}
use Rattle.bus_plan.specs.declared.ending.Ending.{Ending}
use Rattle.bus_plan.specs.declared.opening.ChannelOrder.{ChannelOrder}
use Rattle.bus_plan.proofs.Ordering.{all_channels, each_long, sub_count, still_served}
use Rattle.bus_plan.proofs.Devices.{of_device, channels_here}
use Rattle.bus_plan.proofs.Dealt.{has_nth}
use Rattle.bus_run.specs.Devices.{IsReady, Suits, box_at}
use Rattle.device_any.specs.Boxes.{spec_of, subs_in}
use Rattle.device_any.specs.declared.device_box.DeviceBox.{DeviceBox}
use Rattle.bus_run.specs.Opening.{CanOpen, orders_of, quotas_of}
use Rattle.bus_run.specs.Channels.{CanRun, ChannelsRan, IsOf}
use Rattle.bus_run.specs.Whole.{IsThis, PhaseRan, specs_of}
use Rattle.bus_run.proofs.Assembling.{same_order}
use Rattle.device_any.proofs.ManySeats.{hits, few_hits}
use Rattle.bus_run.proofs.Asking.{FitsSays, said_fits, asks_fit, stop_fits, few_all}

-- what is so of each channel of a phase

subs_each : (P : Opening → Type 0) (device : ℕ) (spec : DeviceSpec) (sub relid n : ℕ) → ((at j : ℕ) → j < sub + n → P (opening_at at device spec j)) → AllByRecursion P (subs_from device spec sub relid n)
subs_each P device spec sub relid zero all = tt
subs_each P device spec sub relid (suc n) all = (all relid sub (omega arith), subs_each P device spec (sub + 1) (relid + 1) n (λ at j less. all at j (omega (arith, less))))

each_opened : (P : Opening → Type 0) (f : ℕ → Bool) (place next : ℕ) (specs : List DeviceSpec) → ((j : ℕ) (spec : DeviceSpec) → slice_get specs j ≡ Some spec → (relid sub : ℕ) → sub ≤ subs_of spec → P (opening_at relid (place + j) spec sub))
    → AllByRecursion P (opened_from f place next specs)
each_opened P f place next [] all = tt
each_opened P f place next (s ∷ specs) all =
    let here : place + 0 ≡ place = omega arith in
    let more : (j : ℕ) (spec : DeviceSpec) → slice_get specs j ≡ Some spec → (relid sub : ℕ) → sub ≤ subs_of spec → P (opening_at relid ((place + 1) + j) spec sub) =
    λ j spec is relid sub low. let on : place + suc j ≡ (place + 1) + j = omega arith in subst (λ n. P (opening_at relid n spec sub)) on (all (suc j) spec is relid sub low) in
    let own : (relid sub : ℕ) → sub ≤ subs_of s → P (opening_at relid place s sub) = λ relid sub low. subst (λ n. P (opening_at relid n s sub)) here (all 0 s refl relid sub low) in
    by_flag (f place) (opened_from f (place + 1) (next + subs_of s) specs) (opened_from f (place + 1) next specs)
    (own (place + 1) 0 (omega arith), subs_each P place s 1 next (subs_of s) (λ at j less. own at j (omega (arith, less)))) (each_opened P f (place + 1) (next + subs_of s) specs more) (each_opened P f (place + 1) next specs more)
  where
    by_flag : (b : Bool) (on off : List Opening) → AllByRecursion P (channels_from place s next) → AllByRecursion P on → AllByRecursion P off → AllByRecursion P (if b then channels_from place s next ++ on else off)
    by_flag true on off mine e g = each_append P (channels_from place s next) on mine e
    by_flag false on off mine e g = g

each_by_relid : (P : Opening → Type 0) (os : List Opening) → AllByRecursion P os → AllByRecursion P (by_relid os)
each_by_relid P os all = each_append P (firsts os) (others os) (each_passing P is_first os all) (each_passing P (λ o. not (is_first o)) os all)

-- how many there are

halves : (f : Opening → Bool) (os : List Opening) → length (filter f os) + length (filter (λ o. not (f o)) os) ≡ length os
halves f [] = refl
halves f (o ∷ os) = by_flag (f o) (halves f os)
  where
    by_flag : (b : Bool) → length (filter f os) + length (filter (λ o. not (f o)) os) ≡ length os
        → length (cond b (o ∷ filter f os) (filter f os)) + length (cond (not b) (o ∷ filter (λ o. not (f o)) os) (filter (λ o. not (f o)) os)) ≡ suc (length os)
    by_flag true e = omega (arith, e)
    by_flag false e = omega (arith, e)

opened_few : (f : ℕ → Bool) (place next : ℕ) (specs : List DeviceSpec) → length (opened_from f place next specs) ≤ sum_by channels_of specs
opened_few f place next [] = omega arith
opened_few f place next (s ∷ specs) =
    let sum = sum_by-cons channels_of s specs in
    omega (arith, sum, by_flag (f place) (opened_from f (place + 1) (next + subs_of s) specs) (opened_from f (place + 1) next specs) (opened_few f (place + 1) (next + subs_of s) specs) (opened_few f (place + 1) next specs))
  where
    by_flag : (b : Bool) (on off : List Opening) → length on ≤ sum_by channels_of specs → length off ≤ sum_by channels_of specs → length (if b then channels_from place s next ++ on else off) ≤ channels_of s + sum_by channels_of specs
    by_flag true on off e g = omega (arith, length-append (subs_from place s 1 next (subs_of s)) on, sub_count place s 1 next (subs_of s), all_channels s, e)
    by_flag false on off e g = omega (arith, g)

-- the shares of a device's requests

share_fits : (kind : DeviceKind) (many c n : ℕ) (xs : List Ask) → AllCarried kind xs → AllCarried kind (share many c n xs)
share_fits kind many c n [] all = tt
share_fits kind many c n (x ∷ xs) all = by_flag (n % many == c) (share many c (n + 1) xs) (share_fits kind many c (n + 1) xs all.2)
  where
    by_flag : (b : Bool) (rest : List Ask) → AllCarried kind rest → AllCarried kind (if b then x ∷ rest else rest)
    by_flag true rest more = (all.0, all.1, more)
    by_flag false rest more = more

share_if : (b : Bool) (x : Ask) (xs : List Ask) → length (if b then x ∷ xs else xs) ≡ cond b 1 0 + length xs
share_if true x xs = omega arith
share_if false x xs = omega arith

share_long : (many c n : ℕ) (xs : List Ask) → length (share many c n xs) ≤ length xs
share_long many c n [] = omega arith
share_long many c n (x ∷ xs) = omega (arith, share_if (n % many == c) x (share many c (n + 1) xs), one_at_most (n % many == c), share_long many c (n + 1) xs)
  where
    one_at_most : (b : Bool) → cond b 1 0 ≤ 1
    one_at_most true = omega arith
    one_at_most false = omega arith

-- the requests of so many channels, from one on
abbrev shares : ℕ → ℕ → ℕ → ℕ → List Ask → ℕ
shares many sub zero n xs = 0
shares many sub (suc len) n xs = length (share many sub n xs) + shares many (sub + 1) len n xs

shares_more : (len many sub n : ℕ) (x : Ask) (xs : List Ask) → shares many sub len n (x ∷ xs) ≡ hits (n % many) sub len + shares many sub len (n + 1) xs
shares_more zero many sub n x xs = refl
shares_more (suc len) many sub n x xs = omega (arith, share_if (n % many == sub) x (share many sub (n + 1) xs), shares_more len many (sub + 1) n x xs)

shares_none : (len many sub n : ℕ) → shares many sub len n [] ≡ 0
shares_none zero many sub n = refl
shares_none (suc len) many sub n = omega (arith, shares_none len many (sub + 1) n)

-- a request is in one share at most
shares_few : (len many n : ℕ) (xs : List Ask) → shares many 0 len n xs ≤ length xs
shares_few len many n [] = omega (arith, shares_none len many 0 n)
shares_few len many n (x ∷ xs) = omega (arith, shares_more len many 0 n x xs, few_hits (n % many) 0 len, shares_few len many (n + 1) xs)

abbrev asked_of : Phase → Opening → ℕ
asked_of p o = length (order_of p o).asks

subs_shares : (p : Phase) (k : ℕ) (spec : DeviceSpec) (sub relid n : ℕ) → sum (map (asked_of p) (subs_from k spec sub relid n)) ≡ shares (channels_of spec) sub n 0 (asks_of k p.part)
subs_shares p k spec sub relid zero = refl
subs_shares p k spec sub relid (suc n) =
    sum_by-cons (λ (m : ℕ). m) (asked_of p (opening_at relid k spec sub)) (map (asked_of p) (subs_from k spec (sub + 1) (relid + 1) n)) ∙ ap (λ m. asked_of p (opening_at relid k spec sub) + m) (subs_shares p k spec (sub + 1) (relid + 1) n)

device_few : (p : Phase) (b : Bool) (k : ℕ) (spec : DeviceSpec) (next : ℕ) → sum (map (asked_of p) (if b then channels_from k spec next else [])) ≤ length (asks_of k p.part)
device_few p true k spec next =
    omega (
      arith,
      sum_by-cons (λ (m : ℕ). m) (asked_of p (first_opening k spec)) (map (asked_of p) (subs_from k spec 1 next (subs_of spec))),
      subs_shares p k spec 1 next (subs_of spec),
      shares_few (suc (subs_of spec)) (channels_of spec) 0 (asks_of k p.part),
    )
device_few p false k spec next = omega arith

quotas_planned : (p : Phase) (k : ℕ) (os : List Opening) (plan : List ChannelOrder) → EachOrdered p os plan → quotas_of k plan ≡ map (asked_of p) (of_device k os)
quotas_planned p k [] [] each = refl
quotas_planned p k [] (x ∷ plan) each = absurd each
quotas_planned p k (o ∷ os) [] each = absurd each
quotas_planned p k (o ∷ os) (x ∷ plan) each =
    let asked : length x.asks.items ≡ asked_of p o = ap (λ (r : Order). length r.asks) each.0.order in
    by_flag (x.opening.device == k) (orders_of k plan) (of_device k os) asked (quotas_planned p k os plan each.1) ∙ ap (λ n. map (asked_of p) (cond (n == k) (o ∷ of_device k os) (of_device k os))) each.0.device
  where
    by_flag : (b : Bool) (xs : List ChannelOrder) (rest : List Opening) → length x.asks.items ≡ asked_of p o → map (λ (x : ChannelOrder). length x.asks.items) xs ≡ map (asked_of p) rest
        → map (λ (x : ChannelOrder). length x.asks.items) (cond b (x ∷ xs) xs) ≡ map (asked_of p) (cond b (o ∷ rest) rest)
    by_flag true xs rest one more = ap (λ n. n ∷ map (λ (x : ChannelOrder). length x.asks.items) xs) one ∙ ap (λ l. asked_of p o ∷ l) more
    by_flag false xs rest one more = more

-- how many channels each device has beside the first one

pub known_subs : (boxes : List DeviceBox) → map subs_of (specs_of boxes) ≡ map subs_in boxes
known_subs [] = refl
known_subs (d ∷ boxes) = ap (λ l. subs_in d ∷ l) (known_subs boxes)

pub few_subs : (specs : List DeviceSpec) (subs : List ℕ) → AllByRecursion (λ s. subs_of s ≤ 3) specs → map subs_of specs ≡ subs → All (λ n. n ≤ 3) subs
few_subs specs subs three are = subst (All (λ n. n ≤ 3)) are (from specs three)
  where
    from : (specs : List DeviceSpec) → AllByRecursion (λ s. subs_of s ≤ 3) specs → All (λ n. n ≤ 3) (map subs_of specs)
    from [] three k d less = absurd (omega (arith, less))
    from (s ∷ specs) three zero d less = three.0
    from (s ∷ specs) three (suc k) d less = from specs three.1 k d (omega (arith, less))

-- the channels of a phase can run

box_of_spec : (boxes : List DeviceBox) (k : ℕ) (spec : DeviceSpec) → slice_get (specs_of boxes) k ≡ Some spec → (k < length boxes) × (spec ≡ spec_of (box_at boxes k))
box_of_spec [] k spec is = absurd (cc)
box_of_spec (d ∷ boxes) zero spec is = (omega arith, cc)
box_of_spec (d ∷ boxes) (suc k) spec is = let more = box_of_spec boxes k spec is in (omega (arith, more.0), more.1)

kind_at : (specs : List DeviceSpec) (k : ℕ) (spec : DeviceSpec) → slice_get specs k ≡ Some spec → slice_get (map kind_of specs) k ≡ Some (kind_of spec)
kind_at [] k spec is = absurd (cc)
kind_at (s ∷ specs) zero spec is = cc
kind_at (s ∷ specs) (suc k) spec is = kind_at specs k spec is

spec_there : (specs : List DeviceSpec) (k : ℕ) → k < length specs → (spec : DeviceSpec) × (slice_get specs k ≡ Some spec)
spec_there [] k less = absurd (omega (arith, less))
spec_there (s ∷ specs) zero less = (s, refl)
spec_there (s ∷ specs) (suc k) less = spec_there specs k (omega (arith, less))

-- a channel of a phase, of one of these devices
record IsRight (boxes : List DeviceBox) (p : Phase) (o : Opening) : Type 0 where
  pub of : IsOf boxes o
  pub sub : o.sub ≤ subs_of o.spec
  pub subs : subs_of o.spec ≤ 3
  pub suits : Suits 4096 (order_of p o)

all_of : (boxes : List DeviceBox) (p : Phase) (os : List Opening) → AllByRecursion (IsRight boxes p) os → AllByRecursion (IsOf boxes) os
all_of boxes p [] all = tt
all_of boxes p (o ∷ os) all = (all.0.of, all_of boxes p os all.1)

can_open : (most : ℕ) (boxes : List DeviceBox) (p : Phase) (o : Opening) (x : ChannelOrder) → All (IsReady (4096 * most)) boxes → IsRight boxes p o → IsOrdered p o x → CanOpen boxes x
can_open most boxes p o x ready right is =
    let within : x.opening.device < length boxes = omega (arith, is.device, right.of.within) in
    let sub : x.opening.sub ≡ o.sub = ap (λ (r : Order). r.sub) is.order in
    let spec : o.spec ≡ spec_of (box_at boxes x.opening.device) = right.of.spec ∙ ap (λ k. spec_of (box_at boxes k)) (sym is.device) in
    record {
      within = within;
      sub = omega (arith, sub, right.sub, right.subs);
      subs = omega (arith, ap subs_of spec, right.subs);
      suits = subst (Suits 4096) (sym (same_order p p.number boxes o x is right.of)) right.suits;
    }

all_open : (most : ℕ) (boxes : List DeviceBox) (p : Phase) (os : List Opening) (plan : List ChannelOrder) → All (IsReady (4096 * most)) boxes → AllByRecursion (IsRight boxes p) os → EachOrdered p os plan → AllByRecursion (CanOpen boxes) plan
all_open most boxes p [] [] ready right each = tt
all_open most boxes p [] (x ∷ plan) ready right each = absurd each
all_open most boxes p (o ∷ os) [] ready right each = absurd each
all_open most boxes p (o ∷ os) (x ∷ plan) ready right each = (can_open most boxes p o x ready right.0 each.0, all_open most boxes p os plan ready right.1 each.1)

subs_at : (specs : List DeviceSpec) (k : ℕ) (spec : DeviceSpec) → AllByRecursion (λ s. subs_of s ≤ 3) specs → slice_get specs k ≡ Some spec → subs_of spec ≤ 3
subs_at [] k spec all is = absurd (cc)
subs_at (s ∷ specs) zero spec all is = let same : s ≡ spec = cc in omega (arith, ap subs_of same, all.0)
subs_at (s ∷ specs) (suc k) spec all is = subs_at specs k spec all.1 is

pub can_run : (version phase : ℕ) (part : List Line) (ended : List (Option Ending)) (next : ℕ) (plan : List ChannelOrder) (boxes : List DeviceBox) (p : Phase) → IsThis version phase part ended (specs_of boxes) next p → EachOrdered p (by_relid p.opened) plan
    → All (IsReady (4096 * phase)) boxes → AllRight (specs_of boxes) part → AllGo part → asks_in part ≤ 4096 → AllByRecursion (λ s. subs_of s ≤ 3) (specs_of boxes) → sum_by channels_of (specs_of boxes) ≤ 16 → CanRun phase plan boxes p
can_run version phase part ended next plan boxes p this ordered ready right go few three sixteen =
    let of = this.of in
    let f = is_opened p.earlier p.part in
    let specs = specs_of boxes in
    let fits : (k : ℕ) → AllByRecursion (λ s. FitsSays specs k s) (said_to k p.part) =
    λ k. subst (λ l. AllByRecursion (λ s. FitsSays specs k s) (said_to k l)) (sym of.part_is) (said_fits specs k part right go) in
    let few_of : (k : ℕ) → length (asks_of k p.part) ≤ 4096 = λ k. omega (arith, few_all k p.part, ap asks_in of.part_is, few) in
    let all : AllByRecursion (IsRight boxes p) (by_relid p.opened) =
    subst (λ l. AllByRecursion (IsRight boxes p) (by_relid l)) (sym of.opened)
    (each_by_relid (IsRight boxes p) (opened_from f 0 next specs)
    (each_opened (IsRight boxes p) f 0 next specs
    (λ j spec is relid sub low.
    let here : j ≡ 0 + j = omega arith in
    let box = box_of_spec boxes j spec is in
    let kind = kind_at specs j spec is in
    subst (λ n. IsRight boxes p (opening_at relid n spec sub)) here
    (record {
      of = record { within = box.0; spec = box.1 };
      sub = low;
      subs = subs_at specs j spec three is;
      suits = record {
        asks = share_fits (kind_of spec) (channels_of spec) sub 0 (asks_of j p.part) (asks_fit specs j (kind_of spec) (said_to j p.part) kind (fits j));
        few = omega (arith, share_long (channels_of spec) sub 0 (asks_of j p.part), few_of j);
        stop = stop_fits specs j (kind_of spec) (said_to j p.part) kind (fits j);
      };
    })))) in
    record {
      number = this.number;
      ordered = ordered;
      of = all_of boxes p (by_relid p.opened) all;
      can = record {
        each = all_open phase boxes p (by_relid p.opened) plan ready all ordered;
        few = omega (
          arith,
          each_long (IsOrdered p) (by_relid p.opened) plan ordered,
          length-append (firsts p.opened) (others p.opened),
          halves is_first p.opened,
          ap length of.opened,
          opened_few f 0 next specs,
          sixteen,
        );
        asked = λ k less.
            let spec = spec_there specs k (omega (arith, less, length-map boxes spec_of)) in
            let here = channels_here f k next specs spec.0 spec.1 in
            let mine : quotas_of k plan ≡ map (asked_of p) (if f k then channels_from k spec.0 here.0 else []) =
            quotas_planned p k (by_relid p.opened) plan ordered ∙ ap (map (asked_of p)) (ap (λ l. of_device k (by_relid l)) of.opened ∙ here.1) in
            omega (arith, ap sum mine, device_few p (f k) k spec.0 here.0, few_of k);
      };
    }

-- each request has an outcome

no_asks : (ss : List Says) → is_some (slice_get ss 0) ≡ false → flat_map asked ss ≡ []
no_asks [] e = refl
no_asks (s ∷ ss) e = absurd (cc)

-- the outcomes of a device's channels are as many as its channels, and each channel has as many as its share

share_here : (p : Phase) (c : Carried) (many k n : ℕ) → IsCarried p c → channels_of c.opening.spec ≡ many → c.opening.sub ≡ n → c.opening.device ≡ k → length (outcomes_of (order_of p c.opening) c.served) ≡ length (share many n 0 (asks_of k p.part))
share_here p c many k n carried are sub device =
    one_outcome_each (order_of p c.opening) c.run.settled c.served carried.carried
    ∙ (ap (λ m. length (share m c.opening.sub 0 (asks_of c.opening.device p.part))) are
    ∙ (ap (λ s. length (share many s 0 (asks_of c.opening.device p.part))) sub ∙ ap (λ d. length (share many n 0 (asks_of d p.part))) device))

filter_opened : (k : ℕ) (channels : List Carried) → map (λ (c : Carried). c.opening) (seats_of k channels) ≡ of_device k (map (λ (c : Carried). c.opening) channels)
filter_opened k [] = refl
filter_opened k (c ∷ channels) = by_flag (c.opening.device == k) (filter_opened k channels)
  where
    by_flag : (b : Bool) → map (λ (c : Carried). c.opening) (seats_of k channels) ≡ of_device k (map (λ (c : Carried). c.opening) channels)
        → map (λ (c : Carried). c.opening) (cond b (c ∷ seats_of k channels) (seats_of k channels)) ≡ cond b (c.opening ∷ of_device k (map (λ (c : Carried). c.opening) channels)) (of_device k (map (λ (c : Carried). c.opening) channels))
    by_flag true e = ap (λ l. c.opening ∷ l) e
    by_flag false e = e

each_filter : (p : Phase) (k : ℕ) (channels : List Carried) → AllByRecursion (IsCarried p) channels → AllByRecursion (IsCarried p) (seats_of k channels)
each_filter p k [] each = tt
each_filter p k (c ∷ channels) each = by_flag (c.opening.device == k) each.0 (each_filter p k channels each.1)
  where
    by_flag : (b : Bool) → IsCarried p c → AllByRecursion (IsCarried p) (seats_of k channels) → AllByRecursion (IsCarried p) (cond b (c ∷ seats_of k channels) (seats_of k channels))
    by_flag true one more = (one, more)
    by_flag false one more = more

-- sub-channels from one on
shares_from : (p : Phase) (many k : ℕ) (spec : DeviceSpec) (seats : List Carried) (sub relid n j : ℕ) → channels_of spec ≡ many → AllByRecursion (IsCarried p) seats → map (λ (c : Carried). c.opening) seats ≡ subs_from k spec sub relid n → j < n
    → length (slice_index_or (map (λ (c : Carried). outcomes_of (order_of p c.opening) c.served) seats) j []) ≡ length (share many (sub + j) 0 (asks_of k p.part))
shares_from p many k spec [] sub relid zero j are each is less = absurd (omega (arith, less))
shares_from p many k spec [] sub relid (suc n) j are each is less = absurd (cc)
shares_from p many k spec (c ∷ seats) sub relid zero j are each is less = absurd (omega (arith, less))
shares_from p many k spec (c ∷ seats) sub relid (suc n) zero are each is less =
    let head : c.opening ≡ opening_at relid k spec sub = cc in
    let here : sub ≡ sub + 0 = omega arith in
    share_here p c many k (sub + 0) each.0 (ap (λ (o : Opening). channels_of o.spec) head ∙ are) (ap (λ (o : Opening). o.sub) head ∙ here) (ap (λ (o : Opening). o.device) head)
shares_from p many k spec (c ∷ seats) sub relid (suc n) (suc j) are each is less =
    let tail : map (λ (c : Carried). c.opening) seats ≡ subs_from k spec (sub + 1) (relid + 1) n = cc in
    let next : (sub + 1) + j ≡ sub + suc j = omega arith in
    shares_from p many k spec seats (sub + 1) (relid + 1) n j are each.1 tail (omega (arith, less)) ∙ ap (λ s. length (share many s 0 (asks_of k p.part))) next

-- all channels of a device
shares_all : (p : Phase) (k next : ℕ) (spec : DeviceSpec) (seats : List Carried) (j : ℕ) → AllByRecursion (IsCarried p) seats → map (λ (c : Carried). c.opening) seats ≡ channels_from k spec next → j < channels_of spec
    → length (slice_index_or (map (λ (c : Carried). outcomes_of (order_of p c.opening) c.served) seats) j []) ≡ length (share (channels_of spec) j 0 (asks_of k p.part))
shares_all p k next spec [] j each is less = absurd (cc)
shares_all p k next spec (c ∷ seats) zero each is less =
    let head : c.opening ≡ first_opening k spec = cc in
    share_here p c (channels_of spec) k 0 each.0 (ap (λ (o : Opening). channels_of o.spec) head) (ap (λ (o : Opening). o.sub) head) (ap (λ (o : Opening). o.device) head)
shares_all p k next spec (c ∷ seats) (suc j) each is less =
    let tail : map (λ (c : Carried). c.opening) seats ≡ subs_from k spec 1 next (subs_of spec) = cc in
    let e : 1 + j ≡ suc j = omega arith in
    shares_from p (channels_of spec) k spec seats 1 next (subs_of spec) j refl each.1 tail (omega (arith, less, all_channels spec)) ∙ ap (λ s. length (share (channels_of spec) s 0 (asks_of k p.part))) e

pub have_outcomes : (version phase : ℕ) (part : List Line) (ended : List (Option Ending)) (next : ℕ) (old new : List DeviceBox) (settled settled' : List ChannelRun) (outcomes : List (List (List LineResult))) (p : Phase) → IsThis version phase part ended (specs_of old) next p
    → ChannelsRan p old new settled settled' outcomes → HasOutcomes part ended outcomes
have_outcomes version phase part ended next old new settled settled' outcomes p this ran k less none n asks =
    let of = this.of in
    let f = is_opened p.earlier p.part in
    let within : k < length old = omega (arith, less, of.devices, length-map old spec_of) in
    let spec = spec_there (specs_of old) k (omega (arith, within, length-map old spec_of)) in
    let served : not (is_ended k p.earlier) ≡ true = sym (still_served p.earlier ended k of.ended_are less) ∙ ap is_none none in
    let spoken : f k ≡ is_some (slice_get (said_to k p.part) 0) = ap (λ b. b && is_some (slice_get (said_to k p.part) 0)) served in
    let mine : asks_of k part ≡ asks_of k p.part = ap (asks_of k) (sym of.part_is) in
    by_test (is_some (slice_get (said_to k p.part) 0))
    (λ yes.
    let here = channels_here f k next (specs_of old) spec.0 spec.1 in
    let seats = seats_of k ran.channels in
    let opened : map (λ (c : Carried). c.opening) seats ≡ channels_from k spec.0 here.0 =
    filter_opened k ran.channels ∙ (ap (of_device k) (ran.opened ∙ ap by_relid of.opened) ∙ (here.1 ∙ ap (λ b. if b then channels_from k spec.0 here.0 else []) (spoken ∙ yes))) in
    let each = each_filter p k ran.channels ran.each in
    let told = ran.told k within in
    let count : length (told_by p ran.channels k) ≡ channels_of spec.0 =
    length-map seats (λ (c : Carried). outcomes_of (order_of p c.opening) c.served) ∙ (sym (length-map seats (λ (c : Carried). c.opening)) ∙ (ap length opened ∙ many spec.0 here.0)) in
    subst (λ l. is_some (nth_of l n) ≡ true) (sym told)
    (has_nth (asks_of k part) (told_by p ran.channels k) (omega (arith, count, all_channels spec.0))
    (λ c low. shares_all p k here.0 spec.0 seats c each opened (omega (arith, low, count)) ∙ (ap (λ m. length (share m c 0 (asks_of k p.part))) (sym count) ∙ ap (λ l. length (share (length (told_by p ran.channels k)) c 0 l)) (sym mine))) n asks))
    (λ no. absurd (omega (arith, asks, ap length mine, ap length (no_asks (said_to k p.part) no))))
  where
    many : (spec : DeviceSpec) (n : ℕ) → length (channels_from k spec n) ≡ channels_of spec
    many spec n = omega (arith, sub_count k spec 1 n (subs_of spec), all_channels spec)

pub phase_ran : (p : Phase) (old new : List DeviceBox) (settled settled' : List ChannelRun) (outcomes : List (List (List LineResult))) (results results' : List LineResult) (ran : ChannelsRan p old new settled settled' outcomes) → Tells (outcomes_in p ran.channels) results results'
    → PhaseRan p old new settled settled' results results'
phase_ran p old new settled settled' outcomes results results' ran tells = record {
  runs = map (λ c. c.run) ran.channels;
  told = tells.told;
  phase_runs = record {
    channels = ran.channels;
    opened = ran.opened;
    each = ran.each;
    runs_are = refl;
    histories = ran.histories;
    outcomes = tells.each;
  };
  kinds = ran.kinds;
  setups = ran.setups;
  settled_are = ran.settled_are;
  results_are = tells.more;
}
