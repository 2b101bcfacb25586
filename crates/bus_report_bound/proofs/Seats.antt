-- The channels that carried a device's requests in a phase, in order of their numbers.
use Rattle.std.proofs.Common.{◌≡◌, ℕ, zero, suc, ◌+◌, ◌≤◌, ◌%◌, ◌/◌, ◌==◌, Bool, true, false, cond, List, [], ◌∷◌, length, refl, sym, ap, ◌∙◌, subst, arith, Some}
use Rattle.std.specs.Prelude.{map, slice_get, slice_index_or, if◌then◌else◌}
use Rattle.std.specs.List.{AllByRecursion}
use Rattle.std.proofs.lemmas.List.{length-map}
use Rattle.script_lines.specs.declared.line.Ask.{Ask}
use Rattle.script_lines.specs.declared.line.DeviceSpec.{DeviceSpec}
use Rattle.script_lines.specs.Parts.{channels_of}
use Rattle.script_phases.specs.Says.{asks_of}
use Rattle.script_phases.specs.Openings.{Opening, Phase, subs_of, subs_from, channels_from, is_opened, opened_from, by_relid}
use Rattle.script_phases.specs.Shares.{share}
use Rattle.script_phases.proofs.Dealing.{deals_lem}
use Rattle.bus_model.specs.Orders.{order_of}
use Rattle.bus_model.specs.Channel.{outcomes_of}
use Rattle.bus_model.specs.Run.{Carried, IsCarried, seats_of, nth_of, told_by}
use Rattle.bus_model.proofs.Lists.{IfThere, at_get, each_filter}
use Rattle.bus_plan.specs.Plans.{opening_at}
use Rattle.bus_plan.proofs.Devices.{of_device, channels_here}
use Rattle.bus_plan.proofs.Ordering.{all_channels}
use Rattle.bus_report_bound.specs.Laws.{room_of}
use Rattle.bus_report_bound.proofs.Along.{FewServed, FewFor, outcome_few}

-- the channel at a place of a device's channels has that number

record IsNumber (device : ℕ) (spec : DeviceSpec) (sub : ℕ) (o : Opening) : Type 0 where
  pub device_is : o.device ≡ device
  pub spec_is : o.spec ≡ spec
  pub sub_is : o.sub ≡ sub

number_same : (device : ℕ) (spec : DeviceSpec) (sub sub' : ℕ) (o : Opening) → sub ≡ sub' → IsNumber device spec sub o → IsNumber device spec sub' o
number_same device spec sub sub' o same is = record { device_is = is.device_is; spec_is = is.spec_is; sub_is = is.sub_is ∙ same }

some_same : {X : Type 0} (x y : X) → Some x ≡ Some y → x ≡ y
some_same x y e = cc

sub_at : (device : ℕ) (spec : DeviceSpec) (sub relid n i : ℕ) (o : Opening) → slice_get (subs_from device spec sub relid n) i ≡ Some o → IsNumber device spec (sub + i) o
sub_at device spec sub relid zero i o at = absurd (cc)
sub_at device spec sub relid (suc n) zero o at =
    subst (IsNumber device spec (sub + 0)) (some_same (opening_at relid device spec sub) o at) (record { device_is = refl; spec_is = refl; sub_is = omega arith })
sub_at device spec sub relid (suc n) (suc i) o at = number_same device spec (sub + 1 + i) (sub + suc i) o (omega arith) (sub_at device spec (sub + 1) (relid + 1) n i o at)

channel_at : (device : ℕ) (spec : DeviceSpec) (next i : ℕ) (o : Opening) → slice_get (channels_from device spec next) i ≡ Some o → IsNumber device spec i o
channel_at device spec next zero o at =
    subst (IsNumber device spec 0) (some_same (opening_at (device + 1) device spec 0) o at) (record { device_is = refl; spec_is = refl; sub_is = refl })
channel_at device spec next (suc i) o at = number_same device spec (1 + i) (suc i) o (omega arith) (sub_at device spec 1 next (subs_of spec) i o at)

subs_long : (device : ℕ) (spec : DeviceSpec) (sub relid n : ℕ) → length (subs_from device spec sub relid n) ≡ n
subs_long device spec sub relid zero = refl
subs_long device spec sub relid (suc n) = ap suc (subs_long device spec (sub + 1) (relid + 1) n)

channels_long : (device : ℕ) (spec : DeviceSpec) (next : ℕ) → length (channels_from device spec next) ≡ channels_of spec
channels_long device spec next = omega (arith, subs_long device spec 1 next (subs_of spec), all_channels spec)

-- the carried channels of a device are those that were opened of it

opening_if : (b : Bool) (c : Carried) (cs : List Carried) (os : List Opening) → map (λ c. c.opening) cs ≡ os → map (λ c. c.opening) (cond b (c ∷ cs) cs) ≡ cond b (c.opening ∷ os) os
opening_if true c cs os is = ap (λ l. c.opening ∷ l) is
opening_if false c cs os is = is

seats_opened : (device : ℕ) (channels : List Carried) → map (λ c. c.opening) (seats_of device channels) ≡ of_device device (map (λ c. c.opening) channels)
seats_opened device [] = refl
seats_opened device (c ∷ channels) = opening_if (c.opening.device == device) c (seats_of device channels) _ (seats_opened device channels)

carried_at : (channels : List Carried) (i : ℕ) (c : Carried) → slice_get channels i ≡ Some c → slice_get (map (λ c. c.opening) channels) i ≡ Some c.opening
carried_at [] i c at = absurd (cc)
carried_at (x ∷ channels) zero c at = ap (λ (c : Carried). Some c.opening) (some_same x c at)
carried_at (x ∷ channels) (suc i) c at = carried_at channels i c at

-- an element of one of several lists

of_one : {X : Type 0} (P : X → Type 0) (f : Carried → List X) (channels : List Carried) (j i : ℕ) → ((c : Carried) → slice_get channels j ≡ Some c → IfThere P (slice_get (f c) i)) → IfThere P (slice_get (slice_index_or (map f channels) j []) i)
of_one P f [] j i each = tt
of_one P f (c ∷ channels) zero i each = each c refl
of_one P f (c ∷ channels) (suc j) i each = of_one P f channels j i (λ d at. each d at)

-- the outcome of a device's request with this number brings back no more than the reply to it
module _ (p : Phase) (channels : List Carried) (device : ℕ) (spec : DeviceSpec) (k : ℕ) (ask : Ask) (each : AllByRecursion (IsCarried p) channels) (few : AllByRecursion (λ c. FewServed c.served) channels) (at : slice_get (asks_of device p.part) k ≡ Some ask) where
  of_channel : (next many : ℕ) → many ≡ channels_of spec → map (λ c. c.opening) (seats_of device channels) ≡ channels_from device spec next → (c : Carried) → slice_get (seats_of device channels) (k % many) ≡ Some c
      → IfThere (FewFor (room_of ask)) (slice_get (outcomes_of (order_of p c.opening) c.served) (k / many))
  of_channel next many count are c here =
      let is : IsNumber device spec (k % many) c.opening = channel_at device spec next (k % many) c.opening (sym (ap (λ l. slice_get l (k % many)) are) ∙ carried_at (seats_of device channels) (k % many) c here) in
      let order = order_of p c.opening in
      let some : 1 ≤ many = omega (arith, count, all_channels spec) in
      let shares : order.asks ≡ share many (k % many) 0 (asks_of device p.part) =
      ap (λ s. share (channels_of s) c.opening.sub 0 (asks_of c.opening.device p.part)) is.spec_is
      ∙ (ap (λ n. share n c.opening.sub 0 (asks_of c.opening.device p.part)) (sym count)
      ∙ (ap (λ n. share many n 0 (asks_of c.opening.device p.part)) is.sub_is ∙ ap (λ d. share many (k % many) 0 (asks_of d p.part)) is.device_is)) in
      let asked : slice_get order.asks (k / many) ≡ Some ask = ap (λ l. slice_get l (k / many)) shares ∙ (deals_lem (asks_of device p.part) many k some ∙ at) in
      let carried : IsCarried p c = subst (IfThere (IsCarried p)) here (at_get (IsCarried p) (seats_of device channels) (k % many) (each_filter (IsCarried p) (λ c. c.opening.device == device) channels each)) in
      let mine : FewServed c.served = subst (IfThere (λ (c : Carried). FewServed c.served)) here (at_get (λ (c : Carried). FewServed c.served) (seats_of device channels) (k % many) (each_filter (λ (c : Carried). FewServed c.served) (λ c. c.opening.device == device) channels few)) in
      outcome_few order.stop (length order.asks) _ (k / many) _ order.asks c.served ask carried.carried.serves mine asked

  told_few : (next : ℕ) (b : Bool) → map (λ c. c.opening) (seats_of device channels) ≡ (if b then channels_from device spec next else []) → IfThere (FewFor (room_of ask)) (nth_of (told_by p channels device) k)
  told_few next true are =
      let count : length (told_by p channels device) ≡ channels_of spec =
      length-map (seats_of device channels) (λ (c : Carried). outcomes_of (order_of p c.opening) c.served) ∙ (sym (length-map (seats_of device channels) (λ (c : Carried). c.opening)) ∙ (ap length are ∙ channels_long device spec next)) in
      of_one (FewFor (room_of ask)) (λ (c : Carried). outcomes_of (order_of p c.opening) c.served) (seats_of device channels) (k % length (told_by p channels device)) (k / length (told_by p channels device))
      (of_channel next (length (told_by p channels device)) count are)
  told_few next false are = none (seats_of device channels) are
    where
      none : (seats : List Carried) → map (λ c. c.opening) seats ≡ [] → IfThere (FewFor (room_of ask)) (nth_of (map (λ (c : Carried). outcomes_of (order_of p c.opening) c.served) seats) k)
      none [] is = tt
      none (c ∷ seats) is = absurd (cc)

pub nth_few : (p : Phase) (next : ℕ) (specs : List DeviceSpec) (channels : List Carried) (device : ℕ) (spec : DeviceSpec) (k : ℕ) (ask : Ask) → p.opened ≡ opened_from (is_opened p.earlier p.part) 0 next specs → map (λ c. c.opening) channels ≡ by_relid p.opened
    → AllByRecursion (IsCarried p) channels → AllByRecursion (λ c. FewServed c.served) channels → slice_get specs device ≡ Some spec → slice_get (asks_of device p.part) k ≡ Some ask → IfThere (FewFor (room_of ask)) (nth_of (told_by p channels device) k)
nth_few p next specs channels device spec k ask opened are each few offered at =
    let found = channels_here (is_opened p.earlier p.part) device next specs spec offered in
    let seats : map (λ c. c.opening) (seats_of device channels) ≡ (if is_opened p.earlier p.part device then channels_from device spec found.0 else []) =
    seats_opened device channels ∙ (ap (of_device device) (are ∙ ap by_relid opened) ∙ found.1) in
    told_few p channels device spec k ask each few at found.0 (is_opened p.earlier p.part device) seats
