-- The seats of a phase's devices while its channels are opened.
use Rattle.vmbus_msg.specs.declared.msg.Msg.{Msg}
use Rattle.std.proofs.Common.{◌≡◌, ℕ, zero, suc, ◌+◌, ◌<◌, ◌≤◌, ◌==◌, ◌*◌, Bool, true, false, cond, List, [], ◌∷◌, ◌++◌, length, length-drop, append_assoc, take, drop, get_or, refl, ap, sym, ◌∙◌, subst, arith, inl, inr, slice_set, slice_index_or, Option, Some, None}
use Rattle.std.specs.Prelude.{map, filter, All}
use Rattle.std.specs.List.{AllByRecursion}
use Rattle.std.proofs.Math.ListN.{length-set}
use Rattle.std.proofs.lemmas.List.Elements.{filter-append}
use Rattle.std.proofs.lemmas.List.{take_more, take_all, drop_all, drop_more, map-append, get_or-set_same, get_or-set_other, get_or_default}
use Rattle.std.proofs.lemmas.Bool.{cases_eq}
use Rattle.std.proofs.lemmas.Bool.Decides.{nat_tests}
use Rattle.bus_model.proofs.Lists.{each_append}
use Rattle.chan_state.specs.declared.stop.Stop.{Stop}
use Rattle.contact.specs.declared.kind.DeviceKind.{DeviceKind}
use Rattle.script_lines.specs.Parts.{kind_of}
use Rattle.script_phases.specs.Openings.{subs_of as subs_beside}
use Rattle.hist_lock.specs.Seat.{Lock, Seat, seats_from}
use Rattle.bus_threads.specs.Pairs.{Pairing}
use Rattle.worker_pair.specs.Plans.{stop_of}
use Rattle.device_any.specs.Seats.{kind_at, served_at, left_at}
use Rattle.device_any.specs.declared.device_seat.DeviceSeat.{DeviceSeat}
use Rattle.phase_plan.specs.Told.{stop_told}
use Rattle.bus_plan.specs.declared.opening.ChannelOrder.{ChannelOrder}
use Rattle.bus_run.specs.Devices.{IsReady, Suits, box_at, gone}
use Rattle.device_any.specs.Boxes.{AreSeatsBy, AreSeatsFor, EachWith, kind_in, opened, seats_in, spec_of, subs_in}
use Rattle.device_any.specs.declared.device_box.DeviceBox.{DeviceBox}
use Rattle.device_any.specs.declared.device_box.DeviceBox.TheVariants.{Beat as BeatBox}
use Rattle.device_any.specs.declared.machine_box.MachineBox.{MachineBox}
use Rattle.device_any.specs.declared.machine_box.MachineBox.TheVariants.{Whole}
use Rattle.device_any.proofs.SeatLaws.{parts, seating}
use Rattle.bus_run.specs.Opening.{IsAway, IsStill, quotas_of, orders_of, order_with, order_at, CanOpen, CanOpenAll, AreAway, IsOpenedWith, Given, seats_given, OpensAt, OpenedSoFar, AllOpened}
use Rattle.bus_run.specs.Settings.{unset}
use Rattle.bus_run.specs.declared.settings.Settings.{Settings}
use Rattle.bus_run.proofs.Items.{At, at, all_at, push_own, push_other, with_push}

-- the quotas of one more channel

quotas_own : (k : ℕ) (x : ChannelOrder) (xs : List ChannelOrder) → (x.opening.device == k) ≡ true → quotas_of k (x ∷ xs) ≡ length x.asks.items ∷ quotas_of k xs
quotas_own k x xs own = ap (λ (b : Bool). map (λ (y : ChannelOrder). length y.asks.items) (cond b (x ∷ orders_of k xs) (orders_of k xs))) own

quotas_other : (k : ℕ) (x : ChannelOrder) (xs : List ChannelOrder) → (x.opening.device == k) ≡ false → quotas_of k (x ∷ xs) ≡ quotas_of k xs
quotas_other k x xs other = ap (λ (b : Bool). map (λ (y : ChannelOrder). length y.asks.items) (cond b (x ∷ orders_of k xs) (orders_of k xs))) other

pub quotas_push : (k : ℕ) (xs : List ChannelOrder) (x : ChannelOrder) → quotas_of k (xs ++ x ∷ []) ≡ quotas_of k xs ++ quotas_of k (x ∷ [])
quotas_push k xs x =
    ap (map (λ (y : ChannelOrder). length y.asks.items)) (filter-append (λ (y : ChannelOrder). y.opening.device == k) xs (x ∷ [])) ∙ map-append (λ (y : ChannelOrder). length y.asks.items) (orders_of k xs) (orders_of k (x ∷ []))

pub quotas_taken : (k i : ℕ) (plan : List ChannelOrder) (x : ChannelOrder) (quotas new : List ℕ) → i < length plan → x ≡ get_or plan i x → quotas ≡ quotas_of k (take i plan) → new ≡ quotas ++ quotas_of k (x ∷ []) → new ≡ quotas_of k (take (i + 1) plan)
quotas_taken k i plan x quotas new less is so_far grown =
    grown ∙ (ap (λ l. l ++ quotas_of k (x ∷ [])) so_far ∙ (sym (quotas_push k (take i plan) x) ∙ ap (quotas_of k) (ap (λ y. take i plan ++ y ∷ []) is ∙ sym (take_more plan i x less))))

pub quota_own : (k : ℕ) (x : ChannelOrder) → x.opening.device ≡ k → quotas_of k (x ∷ []) ≡ length x.asks.items ∷ []
quota_own k x same = quotas_own k x [] (grind (arith, nat_tests, same))

pub quota_other : (k : ℕ) (x : ChannelOrder) → (x.opening.device == k) ≡ false → quotas_of k (x ∷ []) ≡ []
quota_other k x other = quotas_other k x [] other

pub few_quotas : (k : ℕ) (xs : List ChannelOrder) → length (quotas_of k xs) ≤ length xs
few_quotas k [] = omega arith
few_quotas k (x ∷ xs) = by_flag (x.opening.device == k) (few_quotas k xs)
  where
    by_flag : (b : Bool) → length (quotas_of k xs) ≤ length xs → length (map (λ (y : ChannelOrder). length y.asks.items) (cond b (x ∷ orders_of k xs) (orders_of k xs))) ≤ suc (length xs)
    by_flag true few = omega (arith, few)
    by_flag false few = omega (arith, few)

-- the seats that are left for channels with these quotas: new ones, of a device of this kind

abbrev pub AreLeft : Option DeviceKind → List ℕ → List DeviceSeat → Type 0
AreLeft kind [] [] = Unit {0}
AreLeft kind [] (s ∷ seats) = ⊥
AreLeft kind (q ∷ quotas) [] = ⊥
AreLeft kind (q ∷ quotas) (s ∷ seats) = (kind ≡ Some (kind_at s)) × (served_at s ≡ []) × (left_at s ≡ q) × AreLeft kind quotas seats

-- the first of them
pub record First (kind : Option DeviceKind) (q : ℕ) (quotas : List ℕ) (seats : List DeviceSeat) : Type 0 where
  pub seat : DeviceSeat
  pub rest : List DeviceSeat
  pub seats_are : seats ≡ seat ∷ rest
  pub kind_is : kind ≡ Some (kind_at seat)
  pub fresh : served_at seat ≡ []
  pub left : left_at seat ≡ q
  pub more : AreLeft kind quotas rest

first_of : (kind : Option DeviceKind) (q : ℕ) (quotas : List ℕ) (seats : List DeviceSeat) → AreLeft kind (q ∷ quotas) seats → First kind q quotas seats
first_of kind q quotas [] are = absurd are
first_of kind q quotas (s ∷ seats) are = record { seat = s; rest = seats; seats_are = refl; kind_is = are.0; fresh = are.1; left = are.2; more = are.3 }

none_of : (kind : Option DeviceKind) (seats : List DeviceSeat) → AreLeft kind [] seats → seats ≡ []
none_of kind [] are = refl
none_of kind (s ∷ seats) are = absurd are

seat_kind : (box : DeviceBox) (s : Seat (opened box).S (opened box).Q (opened box).A) → kind_at ((opened box).w.seat s) ≡ kind_of (spec_of box)
seat_kind (BeatBox own) s = refl
seat_kind _ s = refl

seat_left : (box : DeviceBox) (s : Seat (opened box).S (opened box).Q (opened box).A) → left_at ((opened box).w.seat s) ≡ s.left
seat_left (BeatBox own) s = refl
seat_left _ s = refl

left_from : (box : DeviceBox) (lock : Lock (opened box).S (opened box).Q (opened box).A) (n : ℕ) (quotas : List ℕ) → AreLeft (Some (kind_of (spec_of box))) quotas (map (opened box).w.seat (seats_from lock n quotas))
left_from box lock n [] = tt
left_from box lock n (q ∷ quotas) =
    let s : Seat (opened box).S (opened box).Q (opened box).A = record { lock = lock; number = n; left = q; calls = [] } in
    (ap (λ k. Some k) (sym (seat_kind box s)), (seating box).served s, seat_left box s, left_from box lock (n + 1) quotas)

left_by : (box : DeviceBox) (own : MachineBox (opened box).S (opened box).Q (opened box).A) (quotas : List ℕ) (seats : List DeviceSeat) → AreSeatsBy (opened box).w own quotas seats → AreLeft (Some (kind_of (spec_of box))) quotas seats
left_by box (Whole state history) quotas seats new = subst (AreLeft (Some (kind_of (spec_of box))) quotas) (sym (new.1 ∙ ap (map (opened box).w.seat) new.2.seats_are)) (left_from box new.2.lock 0 quotas)
left_by box _ quotas seats new = absurd new.2

left_new : (box : DeviceBox) (quotas : List ℕ) (seats : List DeviceSeat) → AreSeatsFor box quotas seats → AreLeft (Some (kind_of (spec_of box))) quotas seats
left_new box quotas seats new = left_by box (opened box).own quotas seats (subst (λ y. y.SeatsFor quotas seats) (parts box) new)

away_left : (old held : DeviceBox) (quotas : List ℕ) → IsAway old quotas held → AreLeft (kind_in held) quotas (seats_in held)
away_left old held [] away = subst (AreLeft (kind_in held) []) (sym away.2) tt
away_left old held (q ∷ quotas) away = subst (λ k. AreLeft k (q ∷ quotas) (seats_in held)) (sym away.0) (left_new old (q ∷ quotas) (seats_in held) away.2)

-- a device whose channels have it, whose seats are of this kind
pub record IsHeld (old held : DeviceBox) (kind : DeviceKind) : Type 0 where
  pub kind_is : kind_of (spec_of old) ≡ kind
  pub subs_are : subs_in held ≡ subs_in old

is_held : (old held : DeviceBox) (quotas : List ℕ) (kind : DeviceKind) → IsAway old quotas held → kind_in held ≡ Some kind → IsHeld old held kind
is_held old held [] kind away is = let both : None ≡ Some kind = sym away.1 ∙ is in absurd (cc)
is_held old held (q ∷ quotas) kind away is = record { kind_is = same_kind (kind_of (spec_of old)) kind (sym away.0 ∙ is); subs_are = away.1 }
  where
    same_kind : (k kind : DeviceKind) → Some k ≡ Some kind → k ≡ kind
    same_kind k kind is = cc

pub told_same : (o : Option Stop) → stop_of o ≡ stop_told o
told_same None = refl
told_same (Some s) = refl

order_held : (old held : DeviceBox) (x : ChannelOrder) (kind : DeviceKind) → IsHeld old held kind → order_with x kind (subs_in held) ≡ record { kind = kind_of (spec_of old); sub = x.opening.sub; subs = subs_beside (spec_of old); asks = x.asks.items; stop = stop_told x.stop }
order_held old held x kind h =
    ap (λ k. order_with x k (subs_in held)) (sym h.kind_is)
    ∙ (ap (order_with x (kind_of (spec_of old))) h.subs_are ∙ ap (λ s. record { kind = kind_of (spec_of old); sub = x.opening.sub; subs = subs_beside (spec_of old); asks = x.asks.items; stop = s }) (told_same x.stop))

-- a device of which seats are taken, or to which they are given back

pub still_same : (box : DeviceBox) → IsStill box box
still_same box = record { kind = refl; subs = refl; stays = λ none. refl }

-- one that its channels have
pub still_open : (old new : DeviceBox) (kind : DeviceKind) → kind_in old ≡ Some kind → kind_in new ≡ kind_in old → subs_in new ≡ subs_in old → IsStill old new
still_open old new kind is kind_is subs_are = record { kind = kind_is; subs = subs_are; stays = λ none. let both : None ≡ Some kind = sym none ∙ is in absurd (cc) }

pub still_on : (old mid new : DeviceBox) → IsStill old mid → IsStill mid new → IsStill old new
still_on old mid new one more = record {
  kind = more.kind ∙ one.kind;
  subs = more.subs ∙ one.subs;
  stays = λ none. let first = one.stays none in more.stays (ap kind_in first ∙ none) ∙ first;
}

-- where one of the devices is set so, all are still the same
pub still_set : (before boxes : List DeviceBox) (k : ℕ) (own new : DeviceBox) → k < length boxes → box_at boxes k ≡ own → IsStill own new → ((j : ℕ) → j < length before → IsStill (box_at before j) (box_at boxes j))
    → (j : ℕ) → j < length before → IsStill (box_at before j) (box_at (slice_set boxes k new) j)
still_set before boxes k own new within own_is still each j less = elim (cases_eq j k) [
  | inl e ↦
      let set : box_at (slice_set boxes k new) j ≡ new = ap (box_at (slice_set boxes k new)) e ∙ get_or-set_same boxes k new gone within in
      subst (IsStill (box_at before j)) (sym set) (still_on (box_at before j) own new (subst (IsStill (box_at before j)) (ap (box_at boxes) e ∙ own_is) (each j less)) still)
  | inr ne ↦ subst (IsStill (box_at before j)) (sym (get_or-set_other boxes k j new gone ne)) (each j less)
]

-- devices shared one by one

pub record SharedSoFar (plan : List ChannelOrder) (i : ℕ) (old boxes : List DeviceBox) : Type 0 where
  pub count : length boxes ≡ length old
  pub each : (k : ℕ) → k < i → IsAway (box_at old k) (quotas_of k plan) (box_at boxes k)
  pub rest : (k : ℕ) → i ≤ k → box_at boxes k ≡ box_at old k

pub shared_start : (plan : List ChannelOrder) (old : List DeviceBox) → SharedSoFar plan 0 old old
shared_start plan old = record { count = refl; each = λ k less. absurd (omega (arith, less)); rest = λ k le. refl }

pub shared_more : (plan : List ChannelOrder) (i : ℕ) (old boxes : List DeviceBox) (new : DeviceBox) → SharedSoFar plan i old boxes → i < length boxes → IsAway (box_at old i) (quotas_of i plan) new → SharedSoFar plan (i + 1) old (slice_set boxes i new)
shared_more plan i old boxes new so_far less away = record {
  count = length-set boxes i new ∙ so_far.count;
  each = λ k low. elim (cases_eq k i) [
    | inl e ↦ subst (λ j. IsAway (box_at old j) (quotas_of j plan) (box_at (slice_set boxes i new) j)) (sym e) (subst (IsAway (box_at old i) (quotas_of i plan)) (sym (get_or-set_same boxes i new gone less)) away)
    | inr ne ↦ subst (IsAway (box_at old k) (quotas_of k plan)) (sym (get_or-set_other boxes i k new gone ne)) (so_far.each k (omega (arith, low, ne)))
  ];
  rest = λ k le. let ne : k ≡ i → ⊥ = λ e. omega (arith, le, e) in get_or-set_other boxes i k new gone ne ∙ so_far.rest k (omega (arith, le));
}

pub shared_end : (plan : List ChannelOrder) (i : ℕ) (old boxes : List DeviceBox) → SharedSoFar plan i old boxes → length old ≤ i → AreAway plan old boxes
shared_end plan i old boxes so_far least = record { count = so_far.count; each = λ k less. so_far.each k (omega (arith, less, least)) }

-- the channel that is opened next, where these are still to come

pub next_less : (plan left rest : List ChannelOrder) (i : ℕ) (x : ChannelOrder) → left ≡ drop i plan → left ≡ x ∷ rest → i < length plan
next_less plan left rest i x is next = omega (arith, length-drop i plan, ap length is, ap length next)

pub next_is : (plan left rest : List ChannelOrder) (i : ℕ) (x : ChannelOrder) → left ≡ drop i plan → left ≡ x ∷ rest → x ≡ get_or plan i x
next_is plan left rest i x is next =
    let both : x ∷ rest ≡ get_or plan i x ∷ drop (i + 1) plan = sym next ∙ (is ∙ drop_more plan i x (next_less plan left rest i x is next)) in
    ap (λ (l : List ChannelOrder). get_or l 0 x) both

pub next_left : (plan left rest : List ChannelOrder) (i : ℕ) (x : ChannelOrder) → left ≡ drop i plan → left ≡ x ∷ rest → rest ≡ drop (i + 1) plan
next_left plan left rest i x is next =
    let both : x ∷ rest ≡ get_or plan i x ∷ drop (i + 1) plan = sym next ∙ (is ∙ drop_more plan i x (next_less plan left rest i x is next)) in
    ap (λ (l : List ChannelOrder). drop 1 l) both

-- channels opened one by one

pub record OpenedNow (posted : List Msg) (settings : List Settings) (plan : List ChannelOrder) (i : ℕ) (old before boxes : List DeviceBox) (pairs : List Pairing) : Type 0 where
  pub so_far : OpenedSoFar posted settings (take i plan) old before boxes pairs
  pub left : (k : ℕ) → k < length before → AreLeft (kind_in (box_at boxes k)) (quotas_of k (drop i plan)) (seats_in (box_at boxes k))

pub opened_start : (posted : List Msg) (settings : List Settings) (plan : List ChannelOrder) (old before : List DeviceBox) → AreAway plan old before → OpenedNow posted settings plan 0 old before before []
opened_start posted settings plan old before away = record {
  so_far = record { given = []; planned = refl; opens = tt; places = refl; still = λ k less. still_same (box_at before k); dealt = λ k less. refl; fits = tt };
  left = λ k less. away_left (box_at old k) (box_at before k) (quotas_of k plan) (away.each k (omega (arith, less, away.count)));
}

-- the device of the channel whose turn it is, and its next seat
pub record Turn (old : List DeviceBox) (plan : List ChannelOrder) (i : ℕ) (x : ChannelOrder) (boxes : List DeviceBox) (own : DeviceBox) : Type 0 where
  pub can : CanOpen old x
  pub next : At plan i
  pub next_is : x ≡ next.item
  pub within : x.opening.device < length boxes
  pub own_is : box_at boxes x.opening.device ≡ own
  pub first : First (kind_in own) (length x.asks.items) (quotas_of x.opening.device (drop (i + 1) plan)) (seats_in own)
  pub held : IsHeld (box_at old x.opening.device) own (kind_at first.seat)
  pub order : order_with x (kind_at first.seat) (subs_in own) ≡ order_at old x

pub turn : (posted : List Msg) (settings : List Settings) (plan : List ChannelOrder) (i : ℕ) (old before boxes : List DeviceBox) (pairs : List Pairing) (x : ChannelOrder) (own : DeviceBox) → CanOpenAll plan old → AreAway plan old before
    → OpenedNow posted settings plan i old before boxes pairs → i < length plan → x ≡ get_or plan i x → own ≡ get_or boxes x.opening.device own → Turn old plan i x boxes own
turn posted settings plan i old before boxes pairs x own can away now less is value =
    let so_far = now.so_far in
    let here : CanOpen old x = subst (CanOpen old) (sym is) (all_at (CanOpen old) plan i x can.each less) in
    let next = at plan i less in
    let k = x.opening.device in
    let next_is : x ≡ next.item = is ∙ next.is x in
    let low : k < length before = omega (arith, here.within, away.count) in
    let within : k < length boxes = omega (arith, low, so_far.places) in
    let own_is : box_at boxes k ≡ own = sym (value ∙ get_or_default boxes k own gone within) in
    let test : (k == k) ≡ true = grind (arith, nat_tests) in
    let quotas : quotas_of k (drop i plan) ≡ length x.asks.items ∷ quotas_of k (drop (i + 1) plan) = ap (quotas_of k) (next.left ∙ ap (λ y. y ∷ drop (i + 1) plan) (sym next_is)) ∙ quotas_own k x (drop (i + 1) plan) test in
    let first = first_of (kind_in own) (length x.asks.items) (quotas_of k (drop (i + 1) plan)) (seats_in own)
    (subst (λ s. AreLeft (kind_in s) (length x.asks.items ∷ quotas_of k (drop (i + 1) plan)) (seats_in s)) own_is (subst (λ q. AreLeft (kind_in (box_at boxes k)) q (seats_in (box_at boxes k))) quotas (now.left k low))) in
    let still = so_far.still k low in
    let kind : kind_in (box_at before k) ≡ Some (kind_at first.seat) = sym still.kind ∙ (ap kind_in own_is ∙ first.kind_is) in
    let held = is_held (box_at old k) (box_at before k) (quotas_of k plan) (kind_at first.seat) (away.each k here.within) kind in
    let held_own : IsHeld (box_at old k) own (kind_at first.seat) = record { kind_is = held.kind_is; subs_are = ap subs_in (sym own_is) ∙ (still.subs ∙ held.subs_are) } in
    record {
      can = here;
      next = next;
      next_is = next_is;
      within = within;
      own_is = own_is;
      first = first;
      held = held_own;
      order = order_held (box_at old k) own x (kind_at first.seat) held_own;
    }

-- the same, where the channels still to come are these
pub turn_next : (posted : List Msg) (settings : List Settings) (plan left rest : List ChannelOrder) (old before boxes : List DeviceBox) (pairs : List Pairing) (x : ChannelOrder) (own : DeviceBox) → CanOpenAll plan old → AreAway plan old before → OpenedNow posted settings plan (length pairs) old before boxes pairs
    → left ≡ drop (length pairs) plan → left ≡ x ∷ rest → own ≡ get_or boxes x.opening.device own → Turn old plan (length pairs) x boxes own
turn_next posted settings plan left rest old before boxes pairs x own can away now is next value =
    turn posted settings plan (length pairs) old before boxes pairs x own can away now (next_less plan left rest (length pairs) x is next) (next_is plan left rest (length pairs) x is next) value

pub within_next : (posted : List Msg) (settings : List Settings) (plan left rest : List ChannelOrder) (old before boxes : List DeviceBox) (pairs : List Pairing) (x : ChannelOrder) → CanOpenAll plan old → AreAway plan old before → OpenedNow posted settings plan (length pairs) old before boxes pairs
    → left ≡ drop (length pairs) plan → left ≡ x ∷ rest → (x.opening.device < length boxes) × (x.opening.device < length before)
within_next posted settings plan left rest old before boxes pairs x can away now is next =
    let less = next_less plan left rest (length pairs) x is next in
    let here : CanOpen old x = subst (CanOpen old) (sym (next_is plan left rest (length pairs) x is next)) (all_at (CanOpen old) plan (length pairs) x can.each less) in
    (omega (arith, here.within, away.count, now.so_far.places), omega (arith, here.within, away.count))

-- the seat that was taken
pub record IsGiven (old : List DeviceBox) (own : DeviceBox) (x : ChannelOrder) (s : DeviceSeat) : Type 0 where
  pub suits : Suits 4096 (order_with x (kind_at s) (subs_in own))
  pub subs : subs_in own ≤ 3
  pub fresh : served_at s ≡ []
  pub left : left_at s ≡ length x.asks.items

pub given_seat : (old : List DeviceBox) (plan : List ChannelOrder) (i : ℕ) (x : ChannelOrder) (boxes : List DeviceBox) (own : DeviceBox) (s : DeviceSeat) (rest : List DeviceSeat) → Turn old plan i x boxes own → seats_in own ≡ s ∷ rest → IsGiven old own x s
given_seat old plan i x boxes own s rest t first =
    let both : s ∷ rest ≡ t.first.seat ∷ t.first.rest = sym first ∙ t.first.seats_are in
    let seat : s ≡ t.first.seat = ap (λ (l : List DeviceSeat). get_or l 0 s) both in
    let order : order_with x (kind_at s) (subs_in own) ≡ order_at old x = ap (λ (y : DeviceSeat). order_with x (kind_at y) (subs_in own)) seat ∙ t.order in
    record {
      suits = subst (Suits 4096) (sym order) t.can.suits;
      subs = omega (arith, t.held.subs_are, t.can.subs);
      fresh = ap served_at seat ∙ t.first.fresh;
      left = ap left_at seat ∙ t.first.left;
    }

pub opened_more : (posted : List Msg) (settings : List Settings) (plan : List ChannelOrder) (i : ℕ) (old before boxes : List DeviceBox) (pairs pairs' : List Pairing) (x : ChannelOrder) (own new : DeviceBox) (s : DeviceSeat) (z : Settings) (pair : Pairing) → AreAway plan old before
    → OpenedNow posted settings plan i old before boxes pairs → Turn old plan i x boxes own → length settings ≡ length before → seats_in own ≡ s ∷ seats_in new → IsStill own new
    → IsOpenedWith posted (slice_index_or settings x.opening.device z) x.opening.relid (order_with x (kind_at s) (subs_in own)) s pair → pairs' ≡ pairs ++ pair ∷ []
    → OpenedNow posted settings plan (i + 1) old before (slice_set boxes x.opening.device new) pairs'
opened_more posted settings plan i old before boxes pairs pairs' x own new s z pair away now t count first still opens grown =
    let so_far = now.so_far in
    let k = x.opening.device in
    let both : s ∷ seats_in new ≡ t.first.seat ∷ t.first.rest = sym first ∙ t.first.seats_are in
    let seat : s ≡ t.first.seat = ap (λ (l : List DeviceSeat). get_or l 0 s) both in
    let order : order_with x (kind_at s) (subs_in own) ≡ order_at old x = ap (λ (y : DeviceSeat). order_with x (kind_at y) (subs_in own)) seat ∙ t.order in
    let within : k < length settings = omega (arith, t.can.within, count, away.count) in
    let set : slice_index_or settings k z ≡ slice_index_or settings k unset = get_or_default settings k z unset within in
    let g : Given = record { order = x; seat = s } in
    let one : OpensAt posted settings old g pair = subst (λ y. IsOpenedWith posted y x.opening.relid (order_at old x) s pair) set (subst (λ o. IsOpenedWith posted (slice_index_or settings k z) x.opening.relid o s pair) order opens) in
    let given = so_far.given in
    let of : ℕ → Given → Bool = λ j g. g.order.opening.device == j in
    let low : k < length before = omega (arith, t.within, so_far.places) in
    record {
      so_far = record {
        given = given ++ g ∷ [];
        planned = map-append (λ (g : Given). g.order) given (g ∷ []) ∙ (ap (λ l. l ++ x ∷ []) so_far.planned ∙ (ap (λ y. take i plan ++ y ∷ []) t.next_is ∙ sym t.next.taken));
        opens = subst (EachWith (OpensAt posted settings old) (given ++ g ∷ [])) (sym grown) (with_push (OpensAt posted settings old) given pairs g pair so_far.opens one);
        places = length-set boxes k new ∙ so_far.places;
        still = λ j less. still_set before boxes k own new t.within t.own_is still so_far.still j less;
        dealt = λ j less. elim (cases_eq j k) [
          | inl e ↦ subst (λ n. seats_in (box_at before n) ≡ seats_given n (given ++ g ∷ []) ++ seats_in (box_at (slice_set boxes k new) n)) (sym e) dealt_here
          | inr ne ↦
              let other : (k == j) ≡ false = grind (arith, nat_tests) in
              so_far.dealt j less
              ∙ (ap (λ l. map (λ (g : Given). g.seat) l ++ seats_in (box_at boxes j)) (sym (push_other (of j) given g other)) ∙ ap (λ y. seats_given j (given ++ g ∷ []) ++ seats_in y) (sym (get_or-set_other boxes k j new gone ne)))
        ];
        fits = each_append (λ (g : Given). kind_in (box_at before g.order.opening.device) ≡ Some (kind_at g.seat)) given (g ∷ []) so_far.fits
            (sym (so_far.still k low).kind ∙ (ap kind_in t.own_is ∙ (t.first.kind_is ∙ ap (λ (y : DeviceSeat). Some (kind_at y)) (sym seat))), tt);
      };
      left = λ j less. elim (cases_eq j k) [
        | inl e ↦ subst (λ n. AreLeft (kind_in (box_at (slice_set boxes k new) n)) (quotas_of n (drop (i + 1) plan)) (seats_in (box_at (slice_set boxes k new) n))) (sym e) left_here
        | inr ne ↦
            let other : (k == j) ≡ false = grind (arith, nat_tests) in
            let left : quotas_of j (drop i plan) ≡ quotas_of j (drop (i + 1) plan) = ap (quotas_of j) (t.next.left ∙ ap (λ y. y ∷ drop (i + 1) plan) (sym t.next_is)) ∙ quotas_other j x (drop (i + 1) plan) other in
            subst (λ y. AreLeft (kind_in y) (quotas_of j (drop (i + 1) plan)) (seats_in y)) (sym (get_or-set_other boxes k j new gone ne)) (subst (λ q. AreLeft (kind_in (box_at boxes j)) q (seats_in (box_at boxes j))) left (now.left j less))
      ];
    }
  where
    dealt_here : seats_in (box_at before x.opening.device) ≡ seats_given x.opening.device (now.so_far.given ++ record { order = x; seat = s } ∷ []) ++ seats_in (box_at (slice_set boxes x.opening.device new) x.opening.device)
    dealt_here =
        let k = x.opening.device in
        let given = now.so_far.given in
        let g : Given = record { order = x; seat = s } in
        let own : (k == k) ≡ true = grind (arith, nat_tests) in
        let pushed : seats_given k (given ++ g ∷ []) ≡ seats_given k given ++ s ∷ [] =
        ap (map (λ (g : Given). g.seat)) (push_own (λ (g : Given). g.order.opening.device == k) given g own) ∙ map-append (λ (g : Given). g.seat) (filter (λ (g : Given). g.order.opening.device == k) given) (g ∷ []) in
        now.so_far.dealt k (omega (arith, t.within, now.so_far.places))
        ∙ (ap (λ y. seats_given k given ++ seats_in y) t.own_is
        ∙ (ap (λ l. seats_given k given ++ l) first
        ∙ (sym (append_assoc (seats_given k given) (s ∷ []) (seats_in new))
        ∙ (ap (λ l. l ++ seats_in new) (sym pushed) ∙ ap (λ y. seats_given k (given ++ g ∷ []) ++ seats_in y) (sym (get_or-set_same boxes k new gone t.within))))))

    left_here : AreLeft (kind_in (box_at (slice_set boxes x.opening.device new) x.opening.device)) (quotas_of x.opening.device (drop (i + 1) plan)) (seats_in (box_at (slice_set boxes x.opening.device new) x.opening.device))
    left_here =
        let k = x.opening.device in
        let both : s ∷ seats_in new ≡ t.first.seat ∷ t.first.rest = sym first ∙ t.first.seats_are in
        let rest : seats_in new ≡ t.first.rest = ap (λ (l : List DeviceSeat). drop 1 l) both in
        subst (λ y. AreLeft (kind_in y) (quotas_of k (drop (i + 1) plan)) (seats_in y)) (sym (get_or-set_same boxes k new gone t.within))
        (subst (λ l. AreLeft (kind_in new) (quotas_of k (drop (i + 1) plan)) l) (sym rest) (subst (λ o. AreLeft o (quotas_of k (drop (i + 1) plan)) t.first.rest) (sym still.kind) t.first.more))

pub opened_end : (posted : List Msg) (settings : List Settings) (plan : List ChannelOrder) (i : ℕ) (old before boxes : List DeviceBox) (pairs : List Pairing) → OpenedNow posted settings plan i old before boxes pairs → length plan ≤ i → AllOpened posted settings plan old before boxes pairs
opened_end posted settings plan i old before boxes pairs now over = record {
  opened = subst (λ l. OpenedSoFar posted settings l old before boxes pairs) (take_all i plan over) now.so_far;
  none_left = λ k less. none_of (kind_in (box_at boxes k)) (seats_in (box_at boxes k)) (subst (λ l. AreLeft (kind_in (box_at boxes k)) (quotas_of k l) (seats_in (box_at boxes k))) (drop_all i plan over) (now.left k less));
}

-- a history has room for the calls of a phase
pub room_here : (most : ℕ) (plan : List ChannelOrder) (old : List DeviceBox) (k : ℕ) → All (IsReady (4096 * most)) old → k < length old → IsReady (4096 * most) (box_at old k)
room_here most plan old k ready less = subst (IsReady (4096 * most)) (get_or_default old k (box_at old k) gone less) (ready k (box_at old k) less)

-- each channel has 4,096 requests at most
pub few_asks : (plan : List ChannelOrder) (old : List DeviceBox) → AllByRecursion (CanOpen old) plan → All (λ (x : ChannelOrder). length x.asks.items ≤ 4096) plan
few_asks [] old all k d less = absurd (omega (arith, less))
few_asks (x ∷ plan) old all zero d less = all.0.suits.few
few_asks (x ∷ plan) old all (suc k) d less = few_asks plan old all.1 k d (omega (arith, less))

-- the device that is opened next
pub this_box : (plan : List ChannelOrder) (i : ℕ) (old boxes : List DeviceBox) (box : DeviceBox) → SharedSoFar plan i old boxes → i < length old → box ≡ get_or boxes i box → box ≡ box_at old i
this_box plan i old boxes box so_far less is = is ∙ (get_or_default boxes i box gone (omega (arith, less, so_far.count)) ∙ so_far.rest i (omega arith))
