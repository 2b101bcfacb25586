-- The channels of a phase, closed one by one.
use Rattle.std.proofs.Common.{◌≡◌, ℕ, ◌+◌, ◌<◌, ◌≤◌, ◌==◌, Bool, true, false, List, [], ◌∷◌, ◌++◌, length, append_assoc, take, drop, get_or, replicate, refl, ap, sym, ◌∙◌, subst, arith, inl, inr, slice_set, slice_index_or, Some}
use Rattle.std.specs.Prelude.{map}
use Rattle.std.proofs.Math.ListN.{length-set}
use Rattle.std.proofs.lemmas.List.{take_all, append-nil, map-append, length-map, get_or-map, get_or-set_same, get_or-set_other, get_or_default, get_or-replicate, length-replicate}
use Rattle.std.proofs.lemmas.Bool.{cases_eq}
use Rattle.std.proofs.lemmas.Bool.Decides.{nat_tests}
use Rattle.bus_model.proofs.Lists.{each_append}
use Rattle.bus_model.specs.declared.channel_run.ChannelRun.{ChannelRun}
use Rattle.bus_script.specs.declared.outcome.LineResult.{LineResult}
use Rattle.device_any.specs.Seats.{kind_at, served_at}
use Rattle.device_any.specs.declared.device_seat.DeviceSeat.{DeviceSeat}
use Rattle.bus_threads.specs.Pairs.{RanPair}
use Rattle.bus_threads.specs.declared.pair.PairDone.{PairDone}
use Rattle.bus_run.specs.Devices.{box_at, gone}
use Rattle.device_any.specs.Boxes.{ComesBack, EachWith, GoesOn, kind_in, seats_in}
use Rattle.device_any.specs.declared.device_box.DeviceBox.{DeviceBox}
use Rattle.bus_run.specs.Due.{due_of}
use Rattle.bus_run.specs.Opening.{Given, order_at}
use Rattle.bus_run.specs.Closing.{AllBack, AllClosed, AllCome, AreWhole, ChannelClosed, Closed, IsClosed, RanAt, closed_of, run_of, told_of}
use Rattle.bus_run.specs.declared.due.Due.{Due}
use Rattle.bus_run.proofs.Opened.{still_same, still_set}
use Rattle.bus_run.proofs.Items.{At, at, all_at, push_own, push_other}

pub record ClosedNow (phase i : ℕ) (old : List DeviceBox) (given : List Given) (before boxes : List DeviceBox) (dones : List PairDone) (settled settled' : List ChannelRun) (outcomes : List (List (List LineResult))) : Type 0 where
  pub so_far : AllClosed phase old (take i given) before boxes settled settled' outcomes
  pub left : EachWith (RanAt old) (drop i given) dones

pub closed_start : (phase : ℕ) (dues : List Due) (old : List DeviceBox) (given : List Given) (before : List DeviceBox) (dones : List PairDone) (settled : List ChannelRun) (outcomes : List (List (List LineResult))) → AllCome dues old given before dones
    → outcomes ≡ replicate (length before) [] → ClosedNow phase 0 old given before before dones settled settled outcomes
closed_start phase dues old given before dones settled outcomes all none = record {
  so_far = record {
    closed = [];
    given_are = refl;
    each = tt;
    settled_are = sym (append-nil settled);
    places = refl;
    still = λ k less. still_same (box_at before k);
    back = λ k less. all.none_here k (omega (arith, less, all.places));
    long = ap length none ∙ length-replicate (length before) [];
    told = λ k less. ap (λ l. slice_index_or l k []) none ∙ get_or-replicate (length before) k [] [] less;
  };
  left = all.ran;
}

-- what is due of the channel at this place
abbrev pub due_at : List Due → ℕ → Due
due_at dues i = get_or dues i (record { opening = record { relid = 0; device = 0; sub = 0 }; count = 0 })

pub due_is : (dues : List Due) (i : ℕ) → i < length dues → due_at dues i ≡ get_or dues i (due_at dues i)
due_is dues i less = sym (get_or_default dues i (due_at dues i) (record { opening = record { relid = 0; device = 0; sub = 0 }; count = 0 }) less)

-- the channel whose turn it is
pub record Next (old : List DeviceBox) (given : List Given) (i : ℕ) (before boxes : List DeviceBox) (own : DeviceBox) (d : Due) (dones : List PairDone) : Type 0 where
  pub next : At given i
  pub due_is : due_of next.item.order ≡ d
  pub place : d.opening.device < length old
  pub within : d.opening.device < length boxes
  pub own_is : box_at boxes d.opening.device ≡ own
  pub kind : kind_in own ≡ Some (kind_at next.item.seat)
  pub done : PairDone
  pub rest : List PairDone
  pub dones_are : dones ≡ done ∷ rest
  pub ran : RanPair (order_at old next.item.order) next.item.seat done
  pub more : EachWith (RanAt old) (drop (i + 1) given) rest

pub next : (phase : ℕ) (dues : List Due) (i : ℕ) (old : List DeviceBox) (given : List Given) (before boxes : List DeviceBox) (own : DeviceBox) (d : Due) (all_dones dones : List PairDone) (settled settled' : List ChannelRun) (outcomes : List (List (List LineResult)))
    → AllCome dues old given before all_dones → ClosedNow phase i old given before boxes dones settled settled' outcomes → i < length dues → d ≡ get_or dues i d → own ≡ get_or boxes d.opening.device own → Next old given i before boxes own d dones
next phase dues i old given before boxes own d all_dones dones settled settled' outcomes all now less is value =
    let so_far = now.so_far in
    let long : length given ≡ length dues = sym (length-map given (λ g. due_of g.order)) ∙ ap length all.planned in
    let here = at given i (omega (arith, less, long)) in
    let g = here.item in
    let due : due_of g.order ≡ d = ap (λ (y : Given). due_of y.order) (sym (here.is g)) ∙ (sym (get_or-map (λ (g : Given). due_of g.order) given i g d (omega (arith, less, long))) ∙ (ap (λ l. get_or l i d) all.planned ∙ sym is)) in
    let k = d.opening.device in
    let place : k < length old = subst (λ (y : Due). y.opening.device < length old) (sym is) (all_at (λ (y : Due). y.opening.device < length old) dues i d all.within less) in
    let low : k < length before = omega (arith, place, all.places) in
    let within : k < length boxes = omega (arith, low, so_far.places) in
    let own_is : box_at boxes k ≡ own = sym (value ∙ get_or_default boxes k own gone within) in
    let fits : kind_in (box_at before g.order.opening.device) ≡ Some (kind_at g.seat) =
    subst (λ (y : Given). kind_in (box_at before y.order.opening.device) ≡ Some (kind_at y.seat)) (here.is g)
    (all_at (λ (y : Given). kind_in (box_at before y.order.opening.device) ≡ Some (kind_at y.seat)) given i g all.fits (omega (arith, less, long))) in
    let kind : kind_in own ≡ Some (kind_at g.seat) = ap kind_in (sym own_is) ∙ ((so_far.still k low).kind ∙ (ap (λ (y : Due). kind_in (box_at before y.opening.device)) (sym due) ∙ fits)) in
    let came = comes dones g (drop (i + 1) given) (subst (λ l. EachWith (RanAt old) l dones) here.left now.left) in
    record {
      next = here;
      due_is = due;
      place = place;
      within = within;
      own_is = own_is;
      kind = kind;
      done = came.0;
      rest = came.1;
      dones_are = came.2;
      ran = came.3;
      more = came.4;
    }
  where
    comes : (ds : List PairDone) (g : Given) (gs : List Given) → EachWith (RanAt old) (g ∷ gs) ds → (done : PairDone) × (rest : List PairDone) × (ds ≡ done ∷ rest) × RanAt old g done × EachWith (RanAt old) gs rest
    comes [] g gs each = absurd each
    comes (d ∷ ds) g gs each = (d, ds, refl, each.0, each.1)

pub here_within : (phase : ℕ) (dues : List Due) (i : ℕ) (old : List DeviceBox) (given : List Given) (before boxes : List DeviceBox) (d : Due) (all_dones dones : List PairDone) (settled settled' : List ChannelRun) (outcomes : List (List (List LineResult)))
    → AllCome dues old given before all_dones → ClosedNow phase i old given before boxes dones settled settled' outcomes → i < length dues → d ≡ get_or dues i d → (d.opening.device < length boxes) × (d.opening.device < length outcomes)
here_within phase dues i old given before boxes d all_dones dones settled settled' outcomes all now less is =
    let place : d.opening.device < length old = subst (λ (y : Due). y.opening.device < length old) (sym is) (all_at (λ (y : Due). y.opening.device < length old) dues i d all.within less) in
    (omega (arith, place, all.places, now.so_far.places), omega (arith, place, all.places, now.so_far.long))

pub closed_more : (phase i : ℕ) (old : List DeviceBox) (given : List Given) (before boxes : List DeviceBox) (own new : DeviceBox) (d : Due) (dones rest : List PairDone) (settled settled' settled'' : List ChannelRun) (outcomes : List (List (List LineResult))) (results : List LineResult)
    → ClosedNow phase i old given before boxes dones settled settled' outcomes → (n : Next old given i before boxes own d dones) → rest ≡ n.rest → ChannelClosed phase d.opening (order_at old n.next.item.order) n.next.item.seat own new settled' settled'' results
    → ClosedNow phase (i + 1) old given before (slice_set boxes d.opening.device new) rest settled settled'' (slice_set outcomes d.opening.device (slice_index_or outcomes d.opening.device [] ++ results ∷ []))
closed_more phase i old given before boxes own new d dones rest settled settled' settled'' outcomes results now n rest_is one =
    let so_far = now.so_far in
    let g = n.next.item in
    let k = d.opening.device in
    let c : Closed = record { given = g; back = one.back; lists = one.lists } in
    let closed = so_far.closed in
    let of : ℕ → Closed → Bool = λ j c. c.given.order.opening.device == j in
    let device : g.order.opening.device ≡ k = ap (λ (y : Due). y.opening.device) n.due_is in
    let low : k < length before = omega (arith, n.within, so_far.places) in
    let self : (g.order.opening.device == k) ≡ true = grind (arith, nat_tests, device) in
    let mine : closed_of k (closed ++ c ∷ []) ≡ closed_of k closed ++ c ∷ [] = push_own (of k) closed c self in
    let outs = slice_index_or outcomes k [] ++ results ∷ [] in
    record {
      so_far = record {
        closed = closed ++ c ∷ [];
        given_are = map-append (λ (c : Closed). c.given) closed (c ∷ []) ∙ (ap (λ l. l ++ g ∷ []) so_far.given_are ∙ sym n.next.taken);
        each = each_append (IsClosed old) closed (c ∷ []) so_far.each (closed_here, tt);
        settled_are = one.settled_are
            ∙ (ap (λ l. l ++ record { phase = phase; relid = d.opening.relid; device = d.opening.device; settled = one.lists } ∷ []) so_far.settled_are
            ∙ (append_assoc settled (map (run_of phase) closed) (record { phase = phase; relid = d.opening.relid; device = d.opening.device; settled = one.lists } ∷ [])
            ∙ (ap (λ (y : Due). settled ++ (map (run_of phase) closed ++ record { phase = phase; relid = y.opening.relid; device = y.opening.device; settled = one.lists } ∷ [])) (sym n.due_is)
            ∙ ap (λ l. settled ++ l) (sym (map-append (run_of phase) closed (c ∷ []))))));
        places = length-set boxes k new ∙ so_far.places;
        still = λ j less. still_set before boxes k own new n.within n.own_is one.still so_far.still j less;
        back = λ j less. elim (cases_eq j k) [
          | inl e ↦ subst (λ m. seats_in (box_at (slice_set boxes k new) m) ≡ map (λ (c : Closed). c.back) (closed_of m (closed ++ c ∷ []))) (sym e)
              (ap seats_in (get_or-set_same boxes k new gone n.within)
              ∙ (one.seats
              ∙ (ap (λ y. seats_in y ++ one.back ∷ []) (sym n.own_is)
              ∙ (ap (λ l. l ++ one.back ∷ []) (so_far.back k low) ∙ (sym (map-append (λ (c : Closed). c.back) (closed_of k closed) (c ∷ [])) ∙ ap (map (λ (c : Closed). c.back)) (sym mine))))))
          | inr ne ↦
              let other : (g.order.opening.device == j) ≡ false = grind (arith, nat_tests, device) in
              ap seats_in (get_or-set_other boxes k j new gone ne) ∙ (so_far.back j less ∙ ap (map (λ (c : Closed). c.back)) (sym (push_other (of j) closed c other)))
        ];
        long = length-set outcomes k outs ∙ so_far.long;
        told = λ j less. elim (cases_eq j k) [
          | inl e ↦ subst (λ m. slice_index_or (slice_set outcomes k outs) m [] ≡ map (told_of old) (closed_of m (closed ++ c ∷ []))) (sym e)
              (get_or-set_same outcomes k outs [] (omega (arith, low, so_far.long))
              ∙ (ap (λ l. l ++ results ∷ []) (so_far.told k low)
              ∙ (ap (λ l. map (told_of old) (closed_of k closed) ++ l ∷ []) told_here ∙ (sym (map-append (told_of old) (closed_of k closed) (c ∷ [])) ∙ ap (map (told_of old)) (sym mine)))))
          | inr ne ↦
              let other : (g.order.opening.device == j) ≡ false = grind (arith, nat_tests, device) in
              get_or-set_other outcomes k j outs [] ne ∙ (so_far.told j less ∙ ap (map (told_of old)) (sym (push_other (of j) closed c other)))
        ];
      };
      left = subst (EachWith (RanAt old) (drop (i + 1) given)) (sym rest_is) n.more;
    }
  where
    closed_here : IsClosed old (record { given = n.next.item; back = one.back; lists = one.lists })
    closed_here = record { channel = one.ended.channel; same = one.ended.same }

    told_here : results ≡ told_of old (record { given = n.next.item; back = one.back; lists = one.lists })
    told_here = one.ended.outcomes

pub closed_end : (phase i : ℕ) (old : List DeviceBox) (given : List Given) (before boxes : List DeviceBox) (dones : List PairDone) (settled settled' : List ChannelRun) (outcomes : List (List (List LineResult))) → ClosedNow phase i old given before boxes dones settled settled' outcomes → length given ≤ i
    → AllClosed phase old given before boxes settled settled' outcomes
closed_end phase i old given before boxes dones settled settled' outcomes now over = subst (λ l. AllClosed phase old l before boxes settled settled' outcomes) (take_all i given over) now.so_far

-- the devices, made whole one by one

pub record WholeSoFar (i : ℕ) (old held boxes : List DeviceBox) : Type 0 where
  pub count : length boxes ≡ length old
  pub each : (k : ℕ) → k < i → k < length old → GoesOn (box_at old k) (box_at boxes k) (map served_at (seats_in (box_at held k)))
  pub left : (k : ℕ) → i ≤ k → box_at boxes k ≡ box_at held k

pub whole_start : (old held : List DeviceBox) (quotas : ℕ → List ℕ) (given : ℕ → List DeviceSeat) → AllBack old quotas given held → WholeSoFar 0 old held held
whole_start old held quotas given back = record { count = back.count; each = λ k less within. absurd (omega (arith, less)); left = λ k le. refl }

-- the next device
pub next_whole : (i : ℕ) (old held boxes : List DeviceBox) (quotas : ℕ → List ℕ) (given : ℕ → List DeviceSeat) (own : DeviceBox) → AllBack old quotas given held → WholeSoFar i old held boxes → i < length boxes → own ≡ get_or boxes i own
    → (own ≡ box_at held i) × ComesBack (box_at old i) (quotas i) (given i) own
next_whole i old held boxes quotas given own back so_far less is =
    let here : own ≡ box_at held i = is ∙ (get_or_default boxes i own gone less ∙ so_far.left i (omega arith)) in
    (here, subst (ComesBack (box_at old i) (quotas i) (given i)) (sym here) (back.each i (omega (arith, less, so_far.count))))

pub whole_more : (i : ℕ) (old held boxes : List DeviceBox) (own new : DeviceBox) → WholeSoFar i old held boxes → i < length boxes → own ≡ box_at held i → GoesOn (box_at old i) new (map served_at (seats_in own)) → WholeSoFar (i + 1) old held (slice_set boxes i new)
whole_more i old held boxes own new so_far less is goes = record {
  count = length-set boxes i new ∙ so_far.count;
  each = λ k low within. elim (cases_eq k i) [
    | inl e ↦ subst (λ j. GoesOn (box_at old j) (box_at (slice_set boxes i new) j) (map served_at (seats_in (box_at held j)))) (sym e)
        (subst (λ d. GoesOn (box_at old i) d (map served_at (seats_in (box_at held i)))) (sym (get_or-set_same boxes i new gone less)) (subst (λ s. GoesOn (box_at old i) new (map served_at (seats_in s))) is goes))
    | inr ne ↦ subst (λ d. GoesOn (box_at old k) d (map served_at (seats_in (box_at held k)))) (sym (get_or-set_other boxes i k new gone ne)) (so_far.each k (omega (arith, low, ne)) within)
  ];
  left = λ k le. let ne : k ≡ i → ⊥ = λ e. omega (arith, le, e) in get_or-set_other boxes i k new gone ne ∙ so_far.left k (omega (arith, le));
}

pub whole_end : (i : ℕ) (old held boxes : List DeviceBox) → WholeSoFar i old held boxes → length old ≤ i → AreWhole old held boxes
whole_end i old held boxes so_far over = record { count = so_far.count; each = λ k less. so_far.each k (omega (arith, less, over)) less }
