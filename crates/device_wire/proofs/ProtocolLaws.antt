-- What a channel's protocol asks, one by one.
use Rattle.std.proofs.Common.{◌≡◌, ℕ, ◌+◌, ◌-◌, ◌<◌, ◌≤◌, Bool, true, length, Option, Some, None, slice_get, length-append, sym, ap, subst, ◌∙◌, arith}
use Rattle.std.specs.Prelude.{map}
use Rattle.std.specs.List.{AllByRecursion}
use Rattle.std.proofs.lemmas.List.{length-map}
use Rattle.page_kept.specs.declared.item.Item.{Item}
use Rattle.device_wire.specs.declared.want.Want.{Want}
use Rattle.device_wire.specs.declared.want.Want.TheVariants.{Step, Request}
use Rattle.device_wire.specs.WireModels.{WireModel, KeepsWire, startup_in}
use Rattle.device_wire.specs.EndScripts.{EndScript, asks_in}
use Rattle.device_wire.proofs.WireLaws.{at_start, found, behind, all_at, script_waits}

-- the kind of a channel
abbrev pub kind_in : {K Q : Type 0} → EndScript K Q → K
kind_in t = t.kind

module _ {S Q R K : Type 0} (m : K → WireModel S Q R) (Can : K → Q → Type 0) (kept : (k : K) → KeepsWire (m k) (Can k)) (t v : EndScript K Q) (seen : t ≡ v) (k starts : ℕ) (a : Want S Q) where
  abbrev Counts : EndScript K Q → Type 0
  Counts x = starts ≡ length (startup_in (m x.kind) x.sub x.subs x.lists)

  abbrev At : EndScript K Q → Type 0
  At x = slice_get (asks_in (m x.kind) x) k ≡ Some a

  counts : Counts v → Counts t
  counts is = subst Counts (sym seen) is

  at : At v → At t
  at h = subst At (sym seen) h

  -- a step
  pub first_is : Counts v → k < starts → At v → (step : S) → slice_get ((m t.kind).steps t.subs t.lists) k ≡ Some step → a ≡ Step step
  first_is is lt h step there =
      let one = at_start (m t.kind) t.sub t.subs t.lists (map Request t.asks) k a (omega (arith, lt, counts is)) (at h) in
      let found_so : Some one.0 ≡ Some step = sym one.1 ∙ there in
      let same : one.0 ≡ step = cc in one.2 ∙ ap Step same

  pub first_waits : Counts v → k < starts → At v → (step : S) → slice_get ((m t.kind).steps t.subs t.lists) k ≡ Some step → (m t.kind).answered step ≡ (m v.kind).format.has_answer a
  first_waits is lt h step there =
      sym ((kept t.kind).waits step) ∙ (ap (m t.kind).format.has_answer (sym (first_is is lt h step there)) ∙ ap (λ x. (m x.kind).format.has_answer a) seen)

  pub first_says : Counts v → k < starts → At v → (before : Option Item) (i : Item) → (m v.kind).format.result a before i ≡ None
  first_says is lt h before i =
      let one = at_start (m t.kind) t.sub t.subs t.lists (map Request t.asks) k a (omega (arith, lt, counts is)) (at h) in
      ap (λ x. (m x.kind).format.result a before i) (sym seen) ∙ (ap (λ x. (m t.kind).format.result x before i) one.2 ∙ (kept t.kind).keeps.no_result 0 (Step one.0) before i ((kept t.kind).fixed 0 one.0))

  pub first_encoded : Counts v → k < starts → At v → (id : ℕ) (step : S) → slice_get ((m t.kind).steps t.subs t.lists) k ≡ Some step → (m t.kind).format.encode id (Step step) ≡ (m v.kind).format.encode id a
  first_encoded is lt h id step there = ap ((m t.kind).format.encode id) (sym (first_is is lt h step there)) ∙ ap (λ x. (m x.kind).format.encode id a) seen

  -- a request
  then_is : Counts v → starts ≤ k → At v → (q : Q) × (slice_get t.asks (k - starts) ≡ Some q) × (a ≡ Request q)
  then_is is le h =
      let steps = startup_in (m t.kind) t.sub t.subs t.lists in
      let place : length steps + (k - starts) ≡ k = omega (arith, le, counts is) in
      found t.asks (k - starts) a (sym (behind steps (map Request t.asks) (k - starts)) ∙ (ap (slice_get (asks_in (m t.kind) t)) place ∙ at h))

  pub then_waits : AllByRecursion (Can t.kind) t.asks → Counts v → starts ≤ k → At v → true ≡ (m v.kind).format.has_answer a
  then_waits all is le h =
      let one = then_is is le h in
      sym (ap (m t.kind).format.has_answer one.2 ∙ script_waits (m t.kind) (Can t.kind) (kept t.kind) one.0 (all_at (Can t.kind) t.asks (k - starts) one.0 all one.1)) ∙ ap (λ x. (m x.kind).format.has_answer a) seen

  pub then_says : AllByRecursion (Can t.kind) t.asks → Counts v → starts ≤ k → At v → (before : Option Item) (i : Item) → (m t.kind).reply_in before i ≡ (m v.kind).format.result a before i
  then_says all is le h before i =
      let one = then_is is le h in
      sym (ap (λ x. (m t.kind).format.result x before i) one.2 ∙ (kept t.kind).says one.0 before i (all_at (Can t.kind) t.asks (k - starts) one.0 all one.1)) ∙ ap (λ x. (m x.kind).format.result a before i) seen

  pub then_encoded : Counts v → starts ≤ k → At v → (id : ℕ) (q : Q) → slice_get t.asks (k - starts) ≡ Some q → (m t.kind).format.encode id (Request q) ≡ (m v.kind).format.encode id a
  then_encoded is le h id q there =
      let one = then_is is le h in
      let found_so : Some q ≡ Some one.0 = sym there ∙ one.1 in
      let same : q ≡ one.0 = cc in
      ap ((m t.kind).format.encode id) (ap Request same ∙ sym one.2) ∙ ap (λ x. (m x.kind).format.encode id a) seen

  pub then_can : AllByRecursion (Can t.kind) t.asks → (q : Q) → slice_get t.asks (k - starts) ≡ Some q → Can t.kind q
  then_can all q there = all_at (Can t.kind) t.asks (k - starts) q all there

  pub then_within : Counts v → starts ≤ k → k < length (asks_in (m v.kind) v) → k - starts < length t.asks
  then_within is le lt =
      let request : Q → Want S Q = Request in
      let own : k < length (asks_in (m t.kind) t) = subst (λ x. k < length (asks_in (m x.kind) x)) (sym seen) lt in
      omega (arith, le, counts is, own, length-append (startup_in (m t.kind) t.sub t.subs t.lists) (map Request t.asks), length-map t.asks request)
