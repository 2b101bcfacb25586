-- Which of the guest's channels set up a page list, and what each channel before a phase can do.
use Rattle.std.proofs.Common.{◌≡◌, ◌≢◌, ◌∙◌, ℕ, zero, suc, ◌+◌, ◌-◌, ◌<◌, ◌≤◌, ◌==◌, Bool, true, false, List, [], ◌∷◌, length, get_or, slice_get, Some, None, cond, nat_lt, Ok, refl, sym, ap, subst, arith}
use Rattle.std.specs.List.{AllByRecursion, position_or_len}
use Rattle.std.proofs.lemmas.Bool.Decides.{nat_tests}
use Rattle.std.proofs.lemmas.List.Sums.{position_or_len_is}
use Rattle.std.proofs.lemmas.Option.{get_or_from_slice_get}
use Rattle.control_laws.proofs.Words.{GuestSide, HostSide, Opened, Closing, WantOpen, OpenSeen, SendResult, ChanState, Opening, Channel}
use Rattle.chan_state.specs.declared.state.State.TheVariants.{Opening as IsOpening}
use Rattle.control_model.specs.Plan.{BusPlan, phase_of}
use Rattle.control_model.specs.Channels.{lived, row_of, is_handle, place_of_list}
use Rattle.control_model.specs.Said.{ends_given_back}
use Rattle.control_model.specs.Guest.{offered_channel}
use Rattle.control_model.specs.Host.{offered_life}
use Rattle.control_model.specs.Stand.{marked, before_phase, end_state, guest_is, host_is, guest_ends, host_ends, guest_before, host_before, Stand}
use Rattle.control_laws.proofs.Marks.{differ, at_relid, marked_has, marked_at, marked_there}
use Rattle.control_laws.proofs.Plans.{Facts}
use Rattle.control_laws.proofs.Cutting.{all_weaker}

-- what holds of an offered channel, and of those of its openings, holds before a phase
before_has : {X : Type 0} (plan : BusPlan) (ended : Opening → X) (offered : X) (P : X → Type 0) (relid : ℕ) → P offered → (phase : ℕ) → ((j : ℕ) → j < phase → AllByRecursion (λ q. q.relid ≡ relid → P (ended q)) (phase_of plan j))
    → P (before_phase plan ended offered phase relid)
before_has plan ended offered P relid first zero each = first
before_has plan ended offered P relid first (suc phase) each =
    marked_at ended P (phase_of plan phase) (before_phase plan ended offered phase) relid (each phase (omega arith)) (before_has plan ended offered P relid first phase (λ j less. each j (omega (arith, less))))

-- a channel that is opened wasn't given back at the end of an earlier phase
abbrev pub NotBefore : BusPlan → ℕ → ℕ → Type 0
NotBefore plan phase relid = (j : ℕ) → j < phase → AllByRecursion (λ q. q.relid ≡ relid → ends_given_back q ≡ false) (phase_of plan j)

closed_each : {X : Type 0} (plan : BusPlan) (phase relid : ℕ) (ended : Bool → Opening → X) (P : X → Type 0) → NotBefore plan phase relid → ((o : Opening) → P (ended false o)) → (j : ℕ) → j < phase → AllByRecursion (λ q. q.relid ≡ relid → P (ended (ends_given_back q) q)) (phase_of plan j)
closed_each plan phase relid ended P none then j less =
    all_weaker (λ q. q.relid ≡ relid → ends_given_back q ≡ false) (λ q. q.relid ≡ relid → P (ended (ends_given_back q) q)) (λ q f e. subst (λ b. P (ended b q)) (sym (f e)) (then q)) (phase_of plan j) (none j less)

-- a guest may open it
abbrev Opens : Channel → Type 0
Opens c = lived c WantOpen ≡ Ok (record { life = record { side = GuestSide; state = IsOpening; vp = c.life.vp }; gpadl = c.gpadl })

pub can_open : (plan : BusPlan) (vps : ℕ → ℕ) (phase relid : ℕ) → NotBefore plan phase relid
    → lived (guest_before vps plan phase relid) WantOpen ≡ Ok (record { life = record { side = GuestSide; state = IsOpening; vp = (guest_before vps plan phase relid).life.vp }; gpadl = (guest_before vps plan phase relid).gpadl })
can_open plan vps phase relid none =
    before_has plan (guest_ends vps) offered_channel Opens relid refl phase (closed_each plan phase relid (λ b o. guest_is vps (end_state b) o) Opens none (λ o. refl))

-- a host may open it
pub record HostOpens (life : ChanState) : Type 0 where
  pub row : row_of life OpenSeen ≡ Some (Opened, SendResult)
  pub side : life.side ≡ HostSide

pub can_open_host : (plan : BusPlan) (vps : ℕ → ℕ) (phase relid : ℕ) → NotBefore plan phase relid → HostOpens (host_before vps plan phase relid)
can_open_host plan vps phase relid none =
    before_has plan (host_ends vps) offered_life (λ (life : ChanState). HostOpens life) relid (record { row = refl; side = refl }) phase
    (closed_each plan phase relid (λ b o. host_is vps (end_state b) o) (λ (life : ChanState). HostOpens life) none (λ o. record { row = refl; side = refl }))

-- the channel that set up a list, where no other one has its handle
pub find_list : (guests : List Channel) (count : ℕ) (stands : ℕ → Channel) (relid gpadl : ℕ) → Stand guests count stands → 1 ≤ relid → relid ≤ count → is_handle gpadl (stands relid).gpadl ≡ true → ((q : ℕ) → q ≢ relid → is_handle gpadl (stands q).gpadl ≡ false)
    → place_of_list guests gpadl ≡ Some (relid - 1)
find_list guests count stands relid gpadl stand one few here there =
    let many = stand.many in
    let test : Channel → Bool = λ channel. is_handle gpadl channel.gpadl in
    let read : (k : ℕ) (d : Channel) → k < length guests → get_or guests k d ≡ stands (k + 1) = λ k d less.
    let step : (k + 1) - 1 ≡ k = omega arith in
    get_or_from_slice_get guests k (stands (k + 1)) d (ap (slice_get guests) (sym step) ∙ sym (at_relid guests (k + 1) (omega arith)) ∙ stand.each (k + 1) (omega arith) (omega (arith, less, many))) in
    let back : (relid - 1) + 1 ≡ relid = omega (arith, one) in
    let first : position_or_len test guests ≡ relid - 1 = position_or_len_is test guests (relid - 1) offered_channel (omega (arith, many, few))
    (λ k less. ap test (read k offered_channel (omega (arith, less, many, few))) ∙ there (k + 1) (λ e. absurd (omega (arith, e, less))))
    (λ less. ap test (read (relid - 1) offered_channel less) ∙ ap (λ q. test (stands q)) back ∙ here) in
    let fits : nat_lt (relid - 1) (length guests) ≡ true = grind (arith, nat_tests, many, few, one) in
    ap (λ n. cond (nat_lt n (length guests)) (Some n) None) first ∙ (rw fits refl)

-- while the channel of an opening is being closed, no other one has its handle
pub closing_handle : (plan : BusPlan) (vps : ℕ → ℕ) (phase : ℕ) (done : List Opening) (o : Opening) (left : List Opening) → Facts plan phase done o left
    → (q : ℕ) → q ≢ o.relid → is_handle o.gpadl (marked (guest_ends vps) done (marked (guest_is vps Closing) (o ∷ []) (marked (guest_is vps Opened) left (guest_before vps plan phase))) q).gpadl ≡ false
closing_handle plan vps phase done o left fact q off =
    let P : Channel → Type 0 = λ c. is_handle o.gpadl c.gpadl ≡ false in
    let behind : P (marked (guest_is vps Opened) left (guest_before vps plan phase) q) = marked_has (guest_is vps Opened) P left (guest_before vps plan phase) q (others left fact.left_handles) (fact.before_handles vps q) in
    let here : P (marked (guest_is vps Closing) (o ∷ []) (marked (guest_is vps Opened) left (guest_before vps plan phase)) q) = subst P (sym (marked_there (guest_is vps Closing) o [] (marked (guest_is vps Opened) left (guest_before vps plan phase)) q off)) behind in
    marked_has (guest_ends vps) P done (marked (guest_is vps Closing) (o ∷ []) (marked (guest_is vps Opened) left (guest_before vps plan phase))) q (others done fact.done_handles) here
  where
    others : (os : List Opening) → AllByRecursion (λ p. p.gpadl ≢ o.gpadl) os → AllByRecursion (λ p. (p.gpadl == o.gpadl) ≡ false) os
    others [] all = tt
    others (p ∷ os) all = (differ p.gpadl o.gpadl all.0, others os all.1)
