-- The channels that a phase opens, device by device.
use Rattle.std.proofs.Common.{◌≡◌, ℕ, zero, suc, ◌+◌, ◌<◌, ◌≤◌, Bool, true, false, cond, ◌||◌, not, List, [], ◌∷◌, ◌++◌, length, nat_eq, append_assoc, refl, ap, sym, ◌∙◌, subst, arith, slice_index_or, take, get_or, Option, Some, None}
use Rattle.std.specs.Prelude.{map, filter, All, is_none, is_some, slice_get, if◌then◌else◌}
use Rattle.std.specs.List.{AllByRecursion}
use Rattle.std.proofs.lemmas.Bool.Decides.{nat_tests}
use Rattle.std.proofs.lemmas.List.{take_more, length-map, get_or-map}
use Rattle.std.proofs.lemmas.List.Elements.{filter-append, All-from_recursion}
use Rattle.script_lines.specs.declared.line.Line.{Line}
use Rattle.script_lines.specs.declared.line.DeviceSpec.{DeviceSpec}
use Rattle.script_lines.specs.declared.line.DeviceSpec.TheVariants.{Beat}
use Rattle.script_lines.specs.Parts.{kind_of, channels_of}
use Rattle.script_phases.specs.Says.{said_to, asks_of, stop_of, is_rescinded, is_shut}
use Rattle.script_phases.specs.Openings.{Opening, Phase, subs_of, is_ended, subs_from, opened_from, firsts, others}
use Rattle.script_phases.specs.Shares.{share}
use Rattle.phase_plan.specs.declared.device_lines.DeviceLines.{DeviceLines}
use Rattle.phase_plan.specs.declared.opening.Opening.{Opening as Place}
use Rattle.phase_plan.specs.Told.{IsTold, AreDealt, stop_told}
use Rattle.phase_plan.specs.Opened.{plain, AreEnded as HaveEnded}
use Rattle.phase_plan.proofs.Channels.{HasItsSpec, specs_are}
use Rattle.bus_script.specs.declared.outcome.LineResult.TheVariants.{Gone, Closed}
use Rattle.bus_plan.specs.Endings.{AreEnded, outcome_left}
use Rattle.bus_plan.specs.Plans.{IsOrdered, EachOf, EachOrdered, HasSubs, AreOpened, opening_at}
use Rattle.bus_plan.specs.declared.ending.Ending.{Ending}
use Rattle.bus_plan.specs.declared.ending.Ending.TheVariants.{Rescinded, Closed as EndedClosed}
use Rattle.bus_plan.specs.declared.opening.ChannelOrder.{ChannelOrder}

-- a device that no earlier phase ended

none_left : (o : Option Ending) → is_none o ≡ is_none (outcome_left o)
none_left None = refl
none_left (Some Rescinded) = refl
none_left (Some EndedClosed) = refl

none_if : (r s : Bool) → is_none (if r then Some Gone else if s then Some Closed else None) ≡ not (r || s)
none_if true s = refl
none_if false true = refl
none_if false false = refl

pub still_served : (earlier : List Line) (ended : List (Option Ending)) (k : ℕ) → AreEnded earlier ended → k < length ended → is_none (slice_index_or ended k None) ≡ not (is_ended k earlier)
still_served earlier ended k are less = none_left (slice_index_or ended k None) ∙ (ap is_none (are k less) ∙ none_if (is_rescinded k earlier) (is_shut k earlier))

some_from : (o : Option Ending) (b : Bool) → is_none o ≡ not b → is_some o ≡ b
some_from None true e = absurd (cc)
some_from None false e = refl
some_from (Some x) true e = refl
some_from (Some x) false e = absurd (cc)

pub have_ended : (earlier : List Line) (ended : List (Option Ending)) → AreEnded earlier ended → HaveEnded earlier (map is_some ended)
have_ended earlier ended are k b less =
    let within : k < length ended = omega (arith, less, length-map ended is_some) in
    get_or-map is_some ended k None b within ∙ some_from (slice_index_or ended k None) (is_ended k earlier) (still_served earlier ended k are within)

-- a channel has its share

pub all_channels : (spec : DeviceSpec) → channels_of spec ≡ subs_of spec + 1
all_channels spec = omega arith

pub channel_ordered : (p : Phase) (o : Opening) (subs : List ℕ) (devices : List DeviceLines) (d : DeviceLines) (x : ChannelOrder) → plain o ≡ x.opening → HasSubs subs o → AreDealt p.part devices → x.opening.device < length devices → d ≡ get_or devices x.opening.device d
    → x.asks.items ≡ share (get_or subs x.opening.device 0 + 1) x.opening.sub 0 (map (λ a. a.now) d.asks.items) → x.stop ≡ d.stop → IsOrdered p o x
channel_ordered p o subs devices d x same count dealt below item asks stop =
    let device : o.device ≡ x.opening.device = ap (λ (q : Place). q.device) same in
    let sub : x.opening.sub ≡ o.sub = sym (ap (λ (q : Place). q.sub) same) in
    let own : subs_of o.spec ≡ get_or subs x.opening.device 0 = count ∙ ap (λ k. get_or subs k 0) device in
    let many : get_or subs x.opening.device 0 + 1 ≡ channels_of o.spec = omega (arith, own, all_channels o.spec) in
    let told : IsTold (said_to o.device p.part) d = subst (λ k. IsTold (said_to k p.part) d) (sym device) (subst (IsTold (said_to x.opening.device p.part)) (sym item) (dealt x.opening.device d below)) in
    let mine : x.asks.items ≡ share (channels_of o.spec) o.sub 0 (asks_of o.device p.part) = asks ∙ (λ i. share (many i) (sub i) 0 (told.asks i)) in
    let ends : stop_told x.stop ≡ stop_of o.device p.part = ap stop_told stop ∙ told.stop in
    record {
      relid = sym (ap (λ (q : Place). q.relid) same);
      device = sym device;
      order = (λ i. record { kind = kind_of o.spec; sub = sub i; subs = subs_of o.spec; asks = mine i; stop = ends i });
    }

-- one more channel

module _ {A : Type 0} (P : Opening → A → Type 0) where
  pub each_push : (os : List Opening) (xs : List A) (o : Opening) (x : A) → EachOf P os xs → P o x → EachOf P (os ++ o ∷ []) (xs ++ x ∷ [])
  each_push [] [] o x each one = (one, tt)
  each_push [] (y ∷ xs) o x each one = absurd each
  each_push (q ∷ os) [] o x each one = absurd each
  each_push (q ∷ os) (y ∷ xs) o x each one = (each.0, each_push os xs o x each.1 one)

  pub each_long : (os : List Opening) (xs : List A) → EachOf P os xs → length os ≡ length xs
  each_long [] [] each = refl
  each_long [] (x ∷ xs) each = absurd each
  each_long (o ∷ os) [] each = absurd each
  each_long (o ∷ os) (x ∷ xs) each = ap suc (each_long os xs each.1)

-- the sub-channels of a device

module _ (device : ℕ) (spec : DeviceSpec) where
  pub sub_count : (sub relid n : ℕ) → length (subs_from device spec sub relid n) ≡ n
  sub_count sub relid zero = refl
  sub_count sub relid (suc n) = ap suc (sub_count (sub + 1) (relid + 1) n)

  not_first : (sub : ℕ) → 1 ≤ sub → nat_eq sub 0 ≡ false
  not_first sub some = grind (arith, nat_tests, some)

  pub all_others : (sub relid n : ℕ) → 1 ≤ sub → others (subs_from device spec sub relid n) ≡ subs_from device spec sub relid n
  all_others sub relid zero some = refl
  all_others sub relid (suc n) some =
      let o = opening_at relid device spec sub in
      let rest = subs_from device spec (sub + 1) (relid + 1) n in
      ap (λ b. cond (not b) (o ∷ others rest) (others rest)) (not_first sub some) ∙ ap (λ l. o ∷ l) (all_others (sub + 1) (relid + 1) n (omega arith))

  pub no_firsts : (sub relid n : ℕ) → 1 ≤ sub → firsts (subs_from device spec sub relid n) ≡ []
  no_firsts sub relid zero some = refl
  no_firsts sub relid (suc n) some =
      let o = opening_at relid device spec sub in
      let rest = subs_from device spec (sub + 1) (relid + 1) n in
      ap (λ b. cond b (o ∷ firsts rest) (firsts rest)) (not_first sub some) ∙ no_firsts (sub + 1) (relid + 1) n (omega arith)

-- one more channel that the phase opens

abbrev no_opening : Opening
no_opening = record { relid = 0; device = 0; spec = Beat; sub = 0 }

-- it is one of these, or it isn't
pub ordered_one : (g : Place → Bool) (b : Bool) (p : Phase) (o : Opening) (place : Place) (before : List Opening) (ys : List ChannelOrder) → plain o ≡ place → g place ≡ b → EachOrdered p (before ++ cond b (o ∷ []) []) ys → EachOrdered p (before ++ filter (λ o. g (plain o)) (o ∷ [])) ys
ordered_one g b p o place before ys same e each = subst (λ (t : Bool). EachOrdered p (before ++ cond t (o ∷ []) []) ys) (sym (ap g same ∙ e)) each

-- with the channel at a place
pub ordered_next : (g : Place → Bool) (p : Phase) (os before : List Opening) (openings : List Place) (subs : List ℕ) (devices : List DeviceLines) (i : ℕ) (d : Place) (xs ys : List ChannelOrder) → AreOpened p os openings subs devices → i < length openings
    → ((q : Phase) (o : Opening) (front : List Opening) → plain o ≡ get_or openings i d → HasSubs subs o → AreDealt q.part devices → EachOrdered q front xs → EachOrdered q (front ++ filter (λ o. g (plain o)) (o ∷ [])) ys)
    → EachOrdered p (before ++ filter (λ o. g (plain o)) (take i os)) xs → EachOrdered p (before ++ filter (λ o. g (plain o)) (take (i + 1) os)) ys
ordered_next g p os before openings subs devices i d xs ys are less on each =
    let within : i < length os = let long = length-map os plain in omega (arith, less, ap length are.same, long) in
    let o = get_or os i no_opening in
    let f : Opening → Bool = λ o. g (plain o) in
    let here : plain o ≡ get_or openings i d = sym (get_or-map plain os i no_opening d within) ∙ ap (λ l. get_or l i d) are.same in
    let joined : (before ++ filter f (take i os)) ++ filter f (o ∷ []) ≡ before ++ filter f (take (i + 1) os) =
    append_assoc before (filter f (take i os)) (filter f (o ∷ [])) ∙ ap (λ l. before ++ l) (sym (filter-append f (take i os) (o ∷ [])) ∙ ap (filter f) (sym (take_more os i no_opening within))) in
    subst (λ l. EachOrdered p l ys) joined (on p o (before ++ filter f (take i os)) here (are.subs_are i no_opening within) are.dealt each)

-- the devices of the channels that a phase opens have the sub-channels that the plan says

map_at : {X : Type 0} (f : X → ℕ) (xs : List X) (k : ℕ) (x : X) → slice_get xs k ≡ Some x → f x ≡ get_or (map f xs) k 0
map_at f [] k x at = absurd (cc)
map_at f (y ∷ xs) zero x at = let same : y ≡ x = cc in ap f (sym same)
map_at f (y ∷ xs) (suc k) x at = map_at f xs k x at

have_subs : (specs : List DeviceSpec) (subs : List ℕ) (os : List Opening) → map subs_of specs ≡ subs → AllByRecursion (HasItsSpec specs) os → AllByRecursion (HasSubs subs) os
have_subs specs subs [] are each = tt
have_subs specs subs (o ∷ os) are each = (map_at subs_of specs o.device o.spec each.0 ∙ ap (λ l. get_or l o.device 0) are, have_subs specs subs os are each.1)

pub subs_have : (p : ℕ → Bool) (next : ℕ) (specs : List DeviceSpec) (subs : List ℕ) → map subs_of specs ≡ subs → All (HasSubs subs) (opened_from p 0 next specs)
subs_have p next specs subs are = All-from_recursion (HasSubs subs) (opened_from p 0 next specs) (have_subs specs subs (opened_from p 0 next specs) are (specs_are p next specs))
