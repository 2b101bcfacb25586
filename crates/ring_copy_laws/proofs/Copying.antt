-- What each call adds to the packets that an end got, and where an end stops.
use Rattle.std.proofs.Common.{◌≡◌, ◌≢◌, ◌⊎◌, ℕ, ◌==◌, Bool, true, false, List, [], ◌∷◌, ◌++◌, refl, sym, ap, ◌∙◌, subst, arith, inl, inr, append_assoc, append-nil}
use Rattle.std.proofs.lemmas.Bool.Decides.{nat_tests}
use Rattle.page_kept.specs.declared.page_call.PageCall.TheVariants.{LoadWords}
use Rattle.ring_machine.specs.declared.machine.EndMachine.{EndMachine}
use Rattle.ring_machine.specs.declared.machine.Stage.{Stage}
use Rattle.ring_machine.specs.declared.machine.Stage.TheVariants.{Idle, Stopped, TakeWrite, TakeFirst, TakeCell}
use Rattle.ring_machine.specs.declared.state.EndState.{EndState}
use Rattle.ring_machine.specs.Endings.{why_of}
use Rattle.ring_machine.specs.States.{afters, entered, got_after}
use Rattle.ring_machine.specs.Steps.{fed_at, is_busy_at}
use Rattle.ring_machine.proofs.Sound.{at_cond}
use Rattle.ring_core.specs.Refused.{BreaksIn}
use Rattle.ring_core.specs.Told.{AreSteps}
use Rattle.ring_core.proofs.Loading.{only_pages}
use Rattle.ring_core.proofs.Refused.{caused_in}
use Rattle.ring_end_history.specs.Calls.{ArmCall, CallsLead, Leads, PageLoads, PageStores, RingCall, RingSteps, TakeCall, WholeCall, begun, packet_in}
use Rattle.ring_copy_laws.specs.Copies.{AreLoaded, BrokeLast, Copied, IsCopy}
use Rattle.ring_copy_laws.proofs.Taking.{Took, first_state, spot_of, taken}

-- a step of a take
abbrev is_taking : Stage → Bool
is_taking TakeWrite = true
is_taking TakeFirst = true
is_taking TakeCell = true
is_taking _ = false

abbrev Away : EndMachine → Type 0
Away m = is_taking m.stage ≡ false

-- no other call comes to one
stays_away : (m : EndMachine) (v : ℕ) (st : Stage) → m.stage ≡ st → is_busy_at st ≡ true → is_taking st ≡ false → Away (fed_at st m v)
stays_away m v TakeWrite e b h = absurd (cc)
stays_away m v TakeFirst e b h = absurd (cc)
stays_away m v TakeCell e b h = absurd (cc)
stays_away m v _ e b h = grind (arith, nat_tests)

-- and no other step gets a packet
got_stays : (st : Stage) (m : EndMachine) (g : List (List ℕ)) (xs : List ℕ) (v : ℕ) → is_taking st ≡ false → got_after st m g xs v ≡ g
got_stays TakeCell m g xs v h = absurd (cc)
got_stays _ m g xs v h = refl

gets_none : (s : EndState) (vs : List ℕ) → AreSteps s vs → is_taking s.machine.stage ≡ false → Away (afters s vs).machine × ((afters s vs).got ≡ s.got)
gets_none s [] h away = (away, refl)
gets_none s (v ∷ vs) h away =
    let it = gets_none s vs h.1 away in
    let x : EndState = afters s vs in
    (stays_away x.machine v x.machine.stage refl h.0 it.0, got_stays x.machine.stage x.machine x.got x.copied v it.0 ∙ it.1)

away_call : (c : RingCall) (m : EndMachine) → c ≢ TakeCall → Away (begun c m)
away_call TakeCall m n = absurd (n refl)
away_call (ArmCall want) m n = at_cond (λ (st : Stage). is_taking st ≡ false) (want == 0) _ _ (λ _. refl) (λ _. refl)
away_call _ m n = refl

busy_call : (c : RingCall) (m : EndMachine) → is_busy_at (begun c m).stage ≡ true
busy_call (ArmCall want) m = at_cond (λ (st : Stage). is_busy_at st ≡ true) (want == 0) _ _ (λ _. refl) (λ _. refl)
busy_call _ m = refl

abbrev Gets : EndState → WholeCall → EndState → Type 0
Gets u c t = (t.got ≡ u.got) ⊎ ((p : List ℕ) × (t.got ≡ u.got ++ p ∷ []) × IsCopy u c p)

take_gets : (u : EndState) (vs : List ℕ) (t : EndState) → Leads (RingSteps TakeCall vs) u t → Gets u (RingSteps TakeCall vs) t
take_gets u vs t l = let it = taken u vs l.1 (sym (ap (λ (x : EndState). is_busy_at x.machine.stage) l.2) ∙ l.3) in by it.1 it.0
  where
    by : AreLoaded u.machine (first_state u) vs → ((afters (first_state u) vs).got ≡ u.got) ⊎ Took u (spot_of (afters (first_state u) vs)) vs → Gets u (RingSteps TakeCall vs) t
    by loaded (inl e) = inl (ap (λ (x : EndState). x.got) l.2 ∙ e)
    by loaded (inr k) = inr (
      k.words,
      ap (λ (x : EndState). x.got) l.2 ∙ k.got,
      record { index = k.index; call = ap (λ (ws : List ℕ). RingSteps TakeCall ws) k.all; loaded = subst (AreLoaded u.machine (first_state u)) k.all loaded; packet = k.packet; fits = k.fits },
    )

other_gets : (c : RingCall) (u : EndState) (vs : List ℕ) (t : EndState) → c ≢ TakeCall → Leads (RingSteps c vs) u t → Gets u (RingSteps c vs) t
other_gets c u vs t n l = inl (ap (λ (x : EndState). x.got) l.2 ∙ (gets_none (entered u (begun c u.machine) (packet_in c)) vs l.1 (away_call c u.machine n)).1)

gets : (c : WholeCall) (u t : EndState) → Leads c u t → Gets u c t
gets (RingSteps TakeCall vs) u t l = take_gets u vs t l
gets (RingSteps c vs) u t l = other_gets c u vs t (λ e. cc) l
gets (PageLoads q n vs) u t l = inl (ap (λ (x : EndState). x.got) l.3 ∙ ap (λ (x : EndState). x.got) (only_pages u (LoadWords q n 0) vs))
gets (PageStores q words vs) u t l = inl (ap (λ (x : EndState). x.got) l.2)

-- the packets that an end got are the copies of its takes
pub copied : (cs : List WholeCall) (s t : EndState) → CallsLead cs s t → (ps : List (List ℕ)) × (t.got ≡ s.got ++ ps) × Copied cs s t ps
copied [] s t e = ([], ap (λ (x : EndState). x.got) e ∙ sym (append-nil s.got), (e, refl))
copied (c ∷ cs) s t l = let it = copied cs s l.0 l.1 in by it.0 it.1 it.2 (gets c l.0 t l.2)
  where
    by : (qs : List (List ℕ)) → l.0.got ≡ s.got ++ qs → Copied cs s l.0 qs → Gets l.0 c t → (ps : List (List ℕ)) × (t.got ≡ s.got ++ ps) × Copied (c ∷ cs) s t ps
    by qs is all (inl e) = (qs, e ∙ is, (l.0, qs, all, l.2, inl refl))
    by qs is all (inr k) = (qs ++ k.0 ∷ [], k.1 ∙ (ap (λ (xs : List (List ℕ)). xs ++ k.0 ∷ []) is ∙ append_assoc s.got qs (k.0 ∷ [])), (l.0, qs, all, l.2, inr (k.0, refl, k.2)))

-- an end stops in a call that loads a value that breaks a rule, and makes none behind it
pub broke : (cs : List WholeCall) (s t : EndState) → CallsLead cs s t → s.machine.stage ≢ Stopped → t.machine.stage ≡ Stopped → BrokeLast cs s t (why_of t.machine)
broke [] s t e on off = absurd (on (sym (ap (λ (x : EndState). x.machine.stage) e) ∙ off))
broke (RingSteps c vs ∷ cs) s t l on off =
    let u : EndState = l.0 in
    let base : EndState = entered u (begun c u.machine) (packet_in c) in
    let is : t ≡ afters base vs = l.2.2 in
    let stops : (afters base vs).machine.stage ≡ Stopped = sym (ap (λ (x : EndState). x.machine.stage) is) ∙ off in
    (u, l.1, l.2, subst (λ (x : EndState). BreaksIn base vs (why_of x.machine)) (sym is) (caused_in base (busy_call c u.machine) vs stops))
broke (PageLoads q n vs ∷ cs) s t l on off =
    absurd (let z : Idle ≡ Stopped = sym l.2.0 ∙ (sym (ap (λ (x : EndState). x.machine.stage) (l.2.3 ∙ only_pages l.0 (LoadWords q n 0) vs)) ∙ off) in cc)
broke (PageStores q words vs ∷ cs) s t l on off = absurd (let z : Idle ≡ Stopped = sym l.2.0 ∙ (sym (ap (λ (x : EndState). x.machine.stage) l.2.2) ∙ off) in cc)
