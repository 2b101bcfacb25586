-- The channels of one device among those that a phase opens.
use Rattle.std.proofs.Common.{◌≡◌, ℕ, zero, suc, ◌+◌, ◌<◌, ◌==◌, Bool, true, false, cond, not, List, [], ◌∷◌, ◌++◌, filter, refl, ap, sym, ◌∙◌, arith, Some}
use Rattle.std.specs.Prelude.{slice_get, if◌then◌else◌}
use Rattle.std.proofs.lemmas.List.{append-nil}
use Rattle.std.proofs.lemmas.List.Elements.{filter-append}
use Rattle.std.proofs.lemmas.Bool.Decides.{nat_tests}
use Rattle.script_lines.specs.declared.line.DeviceSpec.{DeviceSpec}
use Rattle.script_phases.specs.Openings.{Opening, subs_of, subs_from, channels_from, opened_from, is_first, firsts, others, by_relid}
use Rattle.bus_plan.specs.Plans.{opening_at, first_opening}
use Rattle.bus_plan.proofs.Ordering.{no_firsts, all_others}

-- the channels of a device
abbrev pub of_device : ℕ → List Opening → List Opening
of_device k os = filter (λ o. o.device == k) os

-- two filters in either order
module _ {X : Type 0} (f g : X → Bool) where
  one_filtered : (b c : Bool) (x : X) (xs ys : List X) → f x ≡ b → g x ≡ c → filter f ys ≡ filter g xs → filter f (cond c (x ∷ ys) ys) ≡ filter g (cond b (x ∷ xs) xs)
  one_filtered true true x xs ys e h rest = ap (λ b. cond b (x ∷ filter f ys) (filter f ys)) e ∙ ap (λ l. x ∷ l) rest ∙ sym (ap (λ c. cond c (x ∷ filter g xs) (filter g xs)) h)
  one_filtered true false x xs ys e h rest = rest ∙ sym (ap (λ c. cond c (x ∷ filter g xs) (filter g xs)) h)
  one_filtered false true x xs ys e h rest = ap (λ b. cond b (x ∷ filter f ys) (filter f ys)) e ∙ rest
  one_filtered false false x xs ys e h rest = rest

  both_filters : (xs : List X) → filter f (filter g xs) ≡ filter g (filter f xs)
  both_filters [] = refl
  both_filters (x ∷ xs) = one_filtered (f x) (g x) x (filter f xs) (filter g xs) refl refl (both_filters xs)

-- those of another device, and its own

subs_other : (k place : ℕ) (spec : DeviceSpec) (sub relid n : ℕ) → (place == k) ≡ false → of_device k (subs_from place spec sub relid n) ≡ []
subs_other k place spec sub relid zero other = refl
subs_other k place spec sub relid (suc n) other =
    let o = opening_at relid place spec sub in
    let rest = of_device k (subs_from place spec (sub + 1) (relid + 1) n) in
    ap (λ b. cond b (o ∷ rest) rest) other ∙ subs_other k place spec (sub + 1) (relid + 1) n other

subs_own : (k place : ℕ) (spec : DeviceSpec) (sub relid n : ℕ) → (place == k) ≡ true → of_device k (subs_from place spec sub relid n) ≡ subs_from place spec sub relid n
subs_own k place spec sub relid zero own = refl
subs_own k place spec sub relid (suc n) own =
    let o = opening_at relid place spec sub in
    let rest = of_device k (subs_from place spec (sub + 1) (relid + 1) n) in
    ap (λ b. cond b (o ∷ rest) rest) own ∙ ap (λ l. o ∷ l) (subs_own k place spec (sub + 1) (relid + 1) n own)

channels_other : (k place next : ℕ) (spec : DeviceSpec) (on : List Opening) → (place == k) ≡ false → of_device k (channels_from place spec next ++ on) ≡ of_device k on
channels_other k place next spec on other =
    let subs = subs_from place spec 1 next (subs_of spec) in
    ap (λ b. cond b (first_opening place spec ∷ of_device k (subs ++ on)) (of_device k (subs ++ on))) other ∙ filter-append (λ (o : Opening). o.device == k) subs on
    ∙ ap (λ l. l ++ of_device k on) (subs_other k place spec 1 next (subs_of spec) other)

channels_own : (k place next : ℕ) (spec : DeviceSpec) (on : List Opening) → (place == k) ≡ true → of_device k on ≡ [] → of_device k (channels_from place spec next ++ on) ≡ channels_from place spec next
channels_own k place next spec on own none =
    let subs = subs_from place spec 1 next (subs_of spec) in
    ap (λ b. cond b (first_opening place spec ∷ of_device k (subs ++ on)) (of_device k (subs ++ on))) own
    ∙ ap (λ l. first_opening place spec ∷ l) (filter-append (λ (o : Opening). o.device == k) subs on ∙ ap (λ l. of_device k subs ++ l) none ∙ append-nil (of_device k subs) ∙ subs_own k place spec 1 next (subs_of spec) own)

-- in order of their numbers they stand as they were opened
in_order : (k next : ℕ) (spec : DeviceSpec) (b : Bool) → by_relid (if b then channels_from k spec next else []) ≡ (if b then channels_from k spec next else [])
in_order k next spec true =
    let subs = subs_from k spec 1 next (subs_of spec) in
    ap (λ l. first_opening k spec ∷ (l ++ others subs)) (no_firsts k spec 1 next (subs_of spec) (omega arith)) ∙ ap (λ l. first_opening k spec ∷ l) (all_others k spec 1 next (subs_of spec) (omega arith))
in_order k next spec false = refl

-- of those behind another device
behind : (b : Bool) (k place next : ℕ) (s : DeviceSpec) (on off : List Opening) (rest : ℕ → List Opening) → (place == k) ≡ false → (n : ℕ) × (of_device k on ≡ rest n) → (n : ℕ) × (of_device k off ≡ rest n)
    → (n : ℕ) × (of_device k (if b then channels_from place s next ++ on else off) ≡ rest n)
behind true k place next s on off rest other on_so off_so = (on_so.0, channels_other k place next s on other ∙ on_so.1)
behind false k place next s on off rest other on_so off_so = off_so

module _ (f : ℕ → Bool) (k : ℕ) where
  none_behind : (place next : ℕ) (specs : List DeviceSpec) → k < place → (n : ℕ) × (of_device k (opened_from f place next specs) ≡ [])
  none_behind place next [] less = (0, refl)
  none_behind place next (s ∷ specs) less =
      behind (f place) k place next s (opened_from f (place + 1) (next + subs_of s) specs) (opened_from f (place + 1) next specs) (λ n. []) (grind (arith, nat_tests, less))
      (none_behind (place + 1) (next + subs_of s) specs (omega (arith, less))) (none_behind (place + 1) next specs (omega (arith, less)))

  -- all of them, where the phase opens the device, and none where it doesn't
  own_channels : (place next j : ℕ) (specs : List DeviceSpec) (spec : DeviceSpec) → k ≡ place + j → slice_get specs j ≡ Some spec → (n : ℕ) × (of_device k (opened_from f place next specs) ≡ (if f k then channels_from k spec n else []))
  own_channels place next j [] spec is at = absurd (cc)
  own_channels place next zero (s ∷ specs) spec is at = (next, by_flag (f place) refl)
    where
      here : place ≡ k
      here = omega (arith, is)

      same : s ≡ spec
      same = cc

      by_flag : (b : Bool) → f place ≡ b
          → of_device k (if b then channels_from place s next ++ opened_from f (place + 1) (next + subs_of s) specs else opened_from f (place + 1) next specs) ≡ (if f k then channels_from k spec next else [])
      by_flag true on =
          channels_own k place next s (opened_from f (place + 1) (next + subs_of s) specs) (grind (arith, nat_tests, here)) (none_behind (place + 1) (next + subs_of s) specs (omega (arith, is))).1
          ∙ (λ i. channels_from (here i) (same i) next) ∙ sym (ap (λ b. if b then channels_from k spec next else []) (ap f (sym here) ∙ on))
      by_flag false off = (none_behind (place + 1) next specs (omega (arith, is))).1 ∙ sym (ap (λ b. if b then channels_from k spec next else []) (ap f (sym here) ∙ off))
  own_channels place next (suc j) (s ∷ specs) spec is at =
      behind (f place) k place next s (opened_from f (place + 1) (next + subs_of s) specs) (opened_from f (place + 1) next specs) (λ n. if f k then channels_from k spec n else []) (grind (arith, nat_tests, is))
      (own_channels (place + 1) (next + subs_of s) j specs spec (omega (arith, is)) at) (own_channels (place + 1) next j specs spec (omega (arith, is)) at)

  -- so it is in order of their relids
  pub channels_here : (next : ℕ) (specs : List DeviceSpec) (spec : DeviceSpec) → slice_get specs k ≡ Some spec → (n : ℕ) × (of_device k (by_relid (opened_from f 0 next specs)) ≡ (if f k then channels_from k spec n else []))
  channels_here next specs spec at =
      let os = opened_from f 0 next specs in
      let mine : Opening → Bool = λ o. o.device == k in
      let own = own_channels 0 next k specs spec (omega arith) at in (
        own.0,
        filter-append mine (firsts os) (others os) ∙ (λ i. both_filters mine is_first os i ++ both_filters mine (λ (o : Opening). not (is_first o)) os i) ∙ ap by_relid own.1 ∙ in_order k own.0 spec (f k),
      )
