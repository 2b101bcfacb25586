-- A device behind the seats that it had in a phase.
use Rattle.std.proofs.Common.{◌≡◌, ℕ, suc, ◌+◌, Bool, true, false, cond, List, [], ◌∷◌, length, Option, Some, None, is_some, ap, sym, ◌∙◌, subst, refl, arith, slice_get}
use Rattle.std.specs.Prelude.{map}
use Rattle.std.proofs.lemmas.List.{append-nil}
use Rattle.contact.specs.declared.kind.DeviceKind.{DeviceKind}
use Rattle.device_kinds.specs.Logs.{Grows, log_by, served_by}
use Rattle.script_lines.specs.Parts.{kind_of}
use Rattle.script_phases.specs.Openings.{subs_of}
use Rattle.hist_lock.specs.Calls.{Closes}
use Rattle.hist_lock.specs.History.{entries_of}
use Rattle.hist_lock.specs.Seat.{Lock, Seat, AreNew, AreFrom, AreAll, IsSame}
use Rattle.hist_lock.specs.declared.history.Entry.{Entry}
use Rattle.hist_lock.proofs.Rows.{new_all}
use Rattle.device_any.specs.Boxes.{subs_in, AreSeatsBy, CanUniteBox, ComesBack, EachWith, GoesOn, IsKept, IsKeptBy, IsOpen, Opened, UnitesBox, UnitesBy, UnitesWith, Working, box_log, is_open, kind_in, opened, opened_by, opened_disk, seats_in, spec_of}
use Rattle.device_any.specs.MachineBoxes.{CanUnite, is_shared, own_seats, past_in, state_in}
use Rattle.device_any.specs.Seats.{IsSameSeat, served_at}
use Rattle.device_any.specs.declared.device_box.DeviceBox.{DeviceBox}
use Rattle.device_any.specs.declared.device_box.DeviceBox.TheVariants.{Beat as BeatBox, Disk as DiskBox}
use Rattle.device_any.specs.declared.device_seat.DeviceSeat.{DeviceSeat}
use Rattle.device_any.specs.declared.machine_box.MachineBox.{MachineBox}
use Rattle.device_any.specs.declared.machine_box.MachineBox.TheVariants.{Whole, Shared, Empty}
use Rattle.device_any.proofs.ManySeats.{grows_all}
use Rattle.device_any.proofs.SeatLaws.{IsSeating, boxed, parts, same_setup, same_spec, seating}

-- seats of one lock, after their calls

each_long : {A B : Type 0} (P : A → B → Type 0) (xs : List A) (ys : List B) → EachWith P xs ys → length ys ≡ length xs
each_long P [] [] each = refl
each_long P (x ∷ xs) (y ∷ ys) each = ap suc (each_long P xs ys each.1)
each_long P _ _ each = absurd each

module _ {S Q A : Type 0} where
  still_from : (lock : Lock S Q A) (n : ℕ) (old new : List (Seat S Q A)) → EachWith IsSame old new → AreFrom lock n old → AreFrom lock n new
  still_from lock n [] [] same h = tt
  still_from lock n (x ∷ xs) (y ∷ ys) same h = (same.0.lock ∙ h.0, same.0.number ∙ h.1, still_from lock (n + 1) xs ys same.1 h.2)
  still_from lock n _ _ same h = absurd same

  -- all seats of a lock that was opened so, after their calls
  record Back (first : S) (past : List (Entry S Q A)) (seats : List (Seat S Q A)) : Type 0 where
    pub all : AreAll seats
    pub head : Seat S Q A
    pub rest : List (Seat S Q A)
    pub seats_are : seats ≡ head ∷ rest
    pub each : AreFrom head.lock 0 (head ∷ rest)
    pub past_is : head.lock.past ≡ past
    pub first_is : head.lock.first ≡ first

  back_of : (first : S) (past : List (Entry S Q A)) (q : ℕ) (quotas : List ℕ) (own seats : List (Seat S Q A)) → AreNew first past (q ∷ quotas) own → EachWith IsSame own seats → Back first past seats
  back_of first past q quotas own [] new same = absurd (omega (arith, each_long IsSame own [] same, ap length new.seats_are))
  back_of first past q quotas own (s ∷ seats) new same =
      let all_new = new_all first past (q ∷ quotas) own (omega arith) new in
      let kept : AreFrom all_new.lock 0 (s ∷ seats) = still_from all_new.lock 0 own (s ∷ seats) same all_new.each in
      let head : IsSame (record { lock = new.lock; number = 0; left = q; calls = [] }) s = (subst (λ l. EachWith IsSame l (s ∷ seats)) new.seats_are same).0 in
      record {
        all = record { lock = all_new.lock; some = omega arith; all = each_long IsSame own (s ∷ seats) same ∙ all_new.all; each = kept };
        head = s;
        rest = seats;
        seats_are = refl;
        each = subst (λ l. AreFrom l 0 (s ∷ seats)) (sym kept.0) kept;
        past_is = ap (λ (l : Lock S Q A). l.past) head.lock ∙ new.past_is;
        first_is = ap (λ (l : Lock S Q A). l.first) head.lock ∙ new.first_is;
      }

-- the machine of one kind, that is whole again behind its seats

module _ {S Q A : Type 0} (w : Working S Q A) (seats_by : IsSeating w) where
  unmap : (own seats : List (Seat S Q A)) → EachWith IsSameSeat (map w.seat own) (map w.seat seats) → EachWith IsSame own seats
  unmap [] [] each = tt
  unmap (s ∷ own) (t ∷ seats) each = (seats_by.same s t each.0, unmap own seats each.1)
  unmap _ _ each = absurd each

  served_map : (seats : List (Seat S Q A)) → map served_at (map w.seat seats) ≡ map (λ (s : Seat S Q A). served_by w.calls s.calls) seats
  served_map [] = refl
  served_map (s ∷ seats) = ap (λ l. l ∷ map served_at (map w.seat seats)) (seats_by.served s) ∙ ap (λ l. served_by w.calls s.calls ∷ l) (served_map seats)

  back_by : (state : S) (past : List (Entry S Q A)) (q : ℕ) (quotas : List ℕ) (given : List DeviceSeat) (seats mine : List (Seat S Q A)) → given ≡ map w.seat mine → AreNew (w.first state) past (q ∷ quotas) mine
      → EachWith IsSameSeat given (map w.seat seats) → Back (w.first state) past seats
  back_by state past q quotas given seats mine is new each = back_of (w.first state) past q quotas mine seats new (unmap mine seats (subst (λ l. EachWith IsSameSeat l (map w.seat seats)) is each))

  none_given : (q : ℕ) (quotas : List ℕ) (given : List DeviceSeat) (old : MachineBox S Q A) (P : Type 0) → AreSeatsBy w old (q ∷ quotas) given → EachWith IsSameSeat given [] → P
  none_given q quotas given (Whole state history) P new each =
      absurd (omega (arith, each_long IsSameSeat given [] each, ap length new.1, ap length (ap (map w.seat) new.2.seats_are)))
  none_given q quotas given (Shared seats) P new each = absurd new.2
  none_given q quotas given Empty P new each = absurd new.2

  -- so all of them can be closed
  pub can_by : (q : ℕ) (quotas : List ℕ) (given : List DeviceSeat) (old held : MachineBox S Q A) → AreSeatsBy w old (q ∷ quotas) given → EachWith IsSameSeat given (map w.seat (own_seats held)) → CanUnite held
  can_by q quotas given (Whole state history) (Shared seats) new each = (back_by state (entries_of history) q quotas given seats.items new.0 new.1 new.2 each).all
  can_by q quotas given _ (Shared seats) new each = absurd new.2
  can_by q quotas given old _ new each = tt

  -- and the machine is whole again: of the same setup, and its history went on
  pub record Again (old new : MachineBox S Q A) (seats : List DeviceSeat) : Type 0 where
    pub was : S
    pub is : S
    pub was_in : state_in old ≡ Some was
    pub is_in : state_in new ≡ Some is
    pub setup : w.first is ≡ w.first was
    pub grows : Grows (log_by w.calls (past_in old)) (log_by w.calls (past_in new)) (map served_at seats)
    pub kept : IsKeptBy w new

  pub again_by : (q : ℕ) (quotas : List ℕ) (given : List DeviceSeat) (old held new : MachineBox S Q A) → AreSeatsBy w old (q ∷ quotas) given → EachWith IsSameSeat given (map w.seat (own_seats held)) → UnitesBy w held new
      → Again old new (map w.seat (own_seats held))
  again_by q quotas given (Whole was past) (Shared seats) (Whole is history) new each unites =
      let back = back_by was (entries_of past) q quotas given seats.items new.0 new.1 new.2 each in
      record {
        was = was;
        is = is;
        was_in = refl;
        is_in = refl;
        setup = unites.first_is 0 back.head (ap (λ l. slice_get l 0) back.seats_are) ∙ back.first_is;
        grows = subst (Grows (log_by w.calls (entries_of past)) (log_by w.calls (entries_of history))) (sym (served_map seats.items ∙ ap (map (λ (s : Seat S Q A). served_by w.calls s.calls)) back.seats_are))
            (grows_all w.calls w.after w.reply_to back.head.lock back.head back.rest (entries_of past) (entries_of history) back.each back.past_is (subst (λ l. Closes w.after w.reply_to l (entries_of history)) back.seats_are unites.closes));
        kept = unites.leaves;
      }
  again_by q quotas given (Whole was past) (Shared seats) (Shared others) new each unites = absurd unites
  again_by q quotas given (Whole was past) (Shared seats) Empty new each unites = absurd unites
  again_by q quotas given (Whole was past) (Whole state history) new' new each unites = none_given q quotas given (Whole was past) _ new each
  again_by q quotas given (Whole was past) Empty new' new each unites = none_given q quotas given (Whole was past) _ new each
  again_by q quotas given (Shared seats) held new' new each unites = absurd new.2
  again_by q quotas given Empty held new' new each unites = absurd new.2

-- a machine that its channels don't have stays

can_whole : {S Q A : Type 0} (w : Working S Q A) (own : MachineBox S Q A) → IsKeptBy w own → CanUnite own
can_whole w (Shared seats) kept = absurd kept
can_whole w _ kept = tt

whole_stays : {S Q A : Type 0} (w : Working S Q A) (own new : MachineBox S Q A) → IsKeptBy w own → UnitesBy w own new → (new ≡ own) × (own_seats own ≡ [])
whole_stays w (Whole state history) new kept unites = (unites, refl)
whole_stays w _ new kept unites = absurd kept

whole_here : {S Q A : Type 0} (w : Working S Q A) (own : MachineBox S Q A) → IsKeptBy w own → (is_shared own ≡ false) × (own_seats own ≡ [])
whole_here w (Whole state history) kept = (refl, refl)
whole_here w _ kept = absurd kept

-- by how its machine works
kept_by : (box : DeviceBox) → IsKept box → IsKeptBy (opened box).w (opened box).own
kept_by box = subst (λ y. y.Kept) (parts box)

-- no seat of it stands here
pub kept_here : (box : DeviceBox) → IsKept box → (kind_in box ≡ None) × (seats_in box ≡ [])
kept_here box kept =
    let here = whole_here (opened box).w (opened box).own (kept_by box kept) in
    (ap (λ b. cond b (Some (kind_of (spec_of box))) None) (ap (λ y. y.is_open) (parts box) ∙ here.0), ap (λ y. y.seats) (parts box) ∙ ap (map (opened box).w.seat) here.1)

pub can_kept : (box : DeviceBox) → IsKept box → CanUniteBox box
can_kept box kept = subst (λ y. y.CanUnite) (sym (parts box)) (can_whole (opened box).w (opened box).own (kept_by box kept))

-- in a device of the same kind the machine of this kind is found; with as many channels it is the device of that machine

-- says nothing where no such machine is found
Tells : (z : Opened) → DeviceBox → Option (MachineBox z.S z.Q z.A) → Type 1
Tells z box None = subs_in box ≡ subs_of z.spec → opened box ≡ opened box
Tells z box (Some own) = subs_in box ≡ subs_of z.spec → opened box ≡ opened_by z.w z.box z.spec_by z.setup_by own

found_is : (old box : DeviceBox) → Tells (opened old) box ((opened old).w.found box)
unfolding Tells
found_is (DiskBox subs old) (DiskBox subs' own) = λ same. ap (λ n. opened_disk n own) same
found_is _ (BeatBox own) = λ same. refl
found_is _ _ = λ same. refl

is_found : (old held : DeviceBox) → kind_of (spec_of held) ≡ kind_of (spec_of old) → is_some ((opened old).w.found held) ≡ false → ⊥
is_found (BeatBox old) (BeatBox held) kinds none = absurd (cc (none))
is_found _ (BeatBox held) kinds none = absurd (cc)
is_found _ _ kinds none = absurd (first_of (cc (kinds), cc (none)))

record Also (z : Opened) (box : DeviceBox) : Type 1 where
  pub own : MachineBox z.S z.Q z.A
  pub is : opened box ≡ opened_by z.w z.box z.spec_by z.setup_by own

also : (old held : DeviceBox) → kind_of (spec_of held) ≡ kind_of (spec_of old) → subs_in held ≡ subs_in old → Also (opened old) held
unfolding Tells
also old held kinds same = by_option ((opened old).w.found held) (is_found old held kinds) (found_is old held)
  where
    by_option : (found : Option (MachineBox (opened old).S (opened old).Q (opened old).A)) → (is_some found ≡ false → ⊥) → Tells (opened old) held found → Also (opened old) held
    by_option (Some own) some tells = record { own = own; is = tells same }
    by_option None some tells = absurd (some refl)

-- the same device, made whole
record Later (z : Opened) (new : DeviceBox) : Type 1 where
  pub own : MachineBox z.S z.Q z.A
  pub is : opened new ≡ opened_by z.w z.box z.spec_by z.setup_by own
  pub unites : UnitesBy z.w z.own own

later : (old new : DeviceBox) → UnitesBox old new → Later (opened old) new
unfolding Tells
later old new unites = by_option ((opened old).w.found new) (subst (λ y. y.Unites new) (parts old) unites.1) (found_is old new)
  where
    by_option : (found : Option (MachineBox (opened old).S (opened old).Q (opened old).A)) → UnitesWith (opened old).w (opened old).own found → Tells (opened old) new found → Later (opened old) new
    by_option (Some own) united tells = record { own = own; is = tells unites.0; unites = united }
    by_option None united tells = absurd united

kept_stays : (old new : DeviceBox) → IsKept old → UnitesBox old new → (new ≡ old) × (seats_in old ≡ [])
kept_stays old new kept unites =
    let z = opened old in
    let l = later old new unites in
    let stays = whole_stays z.w z.own l.own (kept_by old kept) l.unites in
    (sym (boxed new) ∙ (ap (λ y. y.box y.own) l.is ∙ (ap z.box stays.0 ∙ boxed old)), ap (λ y. y.seats) (parts old) ∙ ap (map z.w.seat) stays.1)

-- a device that its channels have

if_open : {X : Type 0} (b : Bool) (x k : X) → cond b (Some x) None ≡ Some k → (x ≡ k) × (b ≡ true)
if_open true x k is = (cc (is), refl)
if_open false x k is = absurd (cc (is))

pub kind_opened : (box : DeviceBox) (kind : DeviceKind) → kind_in box ≡ Some kind → kind_of (spec_of box) ≡ kind
kind_opened box kind is = (if_open (is_open box) (kind_of (spec_of box)) kind is).0

pub is_opened : (box : DeviceBox) (kind : DeviceKind) → kind_in box ≡ Some kind → IsOpen box
is_opened box kind is = (if_open (is_open box) (kind_of (spec_of box)) kind is).1

-- a device whose seats all came back can be made whole
pub can_unite : (old : DeviceBox) (quotas : List ℕ) (given : List DeviceSeat) (held : DeviceBox) → ComesBack old quotas given held → CanUniteBox held
can_unite old [] given held back = subst CanUniteBox (sym back.0) (can_kept old back.1)
can_unite old (q ∷ quotas) given held back =
    let z = opened old in
    let a = also old held back.0 back.1 in
    let new = subst (λ y. y.SeatsFor (q ∷ quotas) given) (parts old) back.2 in
    subst (λ y. y.CanUnite) (sym a.is) (can_by z.w (seating old) q quotas given z.own a.own new (subst (λ y. EachWith IsSameSeat given y.seats) a.is back.3))

-- and its history went on
pub goes_on : (old : DeviceBox) (quotas : List ℕ) (given : List DeviceSeat) (held new : DeviceBox) → ComesBack old quotas given held → UnitesBox held new → GoesOn old new (map served_at (seats_in held))
goes_on old [] given held new back unites =
    let stays = kept_stays old new back.1 (subst (λ d. UnitesBox d new) back.0 unites) in
    subst (λ d. GoesOn old d (map served_at (seats_in held))) (sym stays.0)
    (subst (λ l. GoesOn old old (map served_at l)) (sym (ap seats_in back.0 ∙ stays.1)) (record { grows = record { more = []; after_is = sym (append-nil (box_log old)); seats = tt; all = refl }; spec = refl; setup = refl; kept = back.1 }))
goes_on old (q ∷ quotas) given held new back unites =
    let z = opened old in
    let a = also old held back.0 back.1 in
    let l = subst (λ y. Later y new) a.is (later held new unites) in
    let seats = subst (λ y. y.SeatsFor (q ∷ quotas) given) (parts old) back.2 in
    let again = again_by z.w (seating old) q quotas given z.own a.own l.own seats (subst (λ y. EachWith IsSameSeat given y.seats) a.is back.3) l.unites in
    let before : box_log old ≡ log_by z.w.calls (past_in z.own) = ap (λ y. y.log) (parts old) in
    let after : box_log new ≡ log_by z.w.calls (past_in l.own) = ap (λ y. y.log) l.is in
    let came : seats_in held ≡ map z.w.seat (own_seats a.own) = ap (λ y. y.seats) a.is in
    record {
      grows = rw (before, after, came) again.grows;
      spec = ap (λ y. y.spec) l.is ∙ (ap z.spec_by again.is_in ∙ (same_spec old again.is again.was again.setup ∙ (ap z.spec_by (sym again.was_in) ∙ sym (ap (λ y. y.spec) (parts old)))));
      setup = ap (λ y. y.setup) l.is ∙ (ap z.setup_by again.is_in ∙ (same_setup old again.is again.was again.setup ∙ (ap z.setup_by (sym again.was_in) ∙ sym (ap (λ y. y.setup) (parts old)))));
      kept = subst (λ y. y.Kept) (sym l.is) again.kept;
    }
