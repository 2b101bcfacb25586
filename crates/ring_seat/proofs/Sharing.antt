-- The table at the start, its view cut in two, two views put together, and what the whole view tells.
use Rattle.std.proofs.Common.{rules, ◌≡◌, ◌≢◌, ℕ, true, zero, suc, ◌+◌, ◌*◌, ◌≤◌, ◌⊎◌, List, [], ◌∷◌, ◌++◌, length, take, get_or, set, replicate, refl, sym, ap, ◌∙◌, subst, arith, inl, inr, ⊎_elim, length-set}
use Rattle.std.proofs.Math.Seq.{take-append_seam}
use Rattle.std.proofs.lemmas.List.{set-get_or, get_or-set_same, get_or-set_other, get_or-append_right, length-append, length-replicate}
use mathlib.Core.Option.{some, some-injective, some-ne-none}
use lib.ListN.{get_elem?}
use Rattle.atomic_table.specs.Table.{State, Me, keeps, opening, Allows, Splits, Joins}
use Rattle.atomic_table.proofs.Lists.{at_set, set_again}
use Rattle.io_edge.specs.declared.side.Side.{Side}
use Rattle.io_edge.specs.declared.side.Side.TheVariants.{Guest, Host}
use Rattle.ring_core.specs.declared.told.Told.{Told}
use Rattle.ring_machine.specs.declared.state.EndState.{EndState}
use Rattle.ring_machine.specs.Places.{words_of, peer_of}
use Rattle.ring_machine.specs.Steps.{machine_new}
use Rattle.ring_core.specs.Told.{opening as opening_words, opening_with}
use Rattle.ring_pair_laws.specs.Ring.{ChannelOk}
use Rattle.ring_pair_laws.proofs.Opening.{still, opening_length, new_channel}
use Rattle.ring_pair_laws.proofs.Settling.{guest_front, host_front, one_run, guest_drained, host_drained}
use Rattle.ring_seat.specs.declared.view.View.{View}
use Rattle.ring_seat.specs.declared.view.View.TheVariants.{Both, One, Spent}
use Rattle.ring_seat.specs.Rule.{OwnWords, ChannelInvariant}
use Rattle.ring_seat.specs.Seats.{Knows, Holds, SignalsRaised, states, new_end, new_told, told_in, looked, is_one, guest_in, host_in, joined}
use Rattle.ring_seat.specs.Settling.{AreSettled, SignalsTaken, PagesSettled, IsSettled}
use Rattle.ring_seat.specs.PageRule.{ring_words}
use Rattle.ring_seat.specs.Whole.{WholeRule, new_paged}
use Rattle.ring_seat.proofs.PointLaws.{new_point}
use Rattle.ring_seat.proofs.Allowed.{holds_with}
use Rattle.ring_seat.proofs.Known.{Known, known_of}
use Rattle.ring_seat.proofs.WholeLaws.{zeros_at, new_keeps, end_tells, front_tells}
use Rattle.page_kept.specs.Stepped.{word_in}

at_end : {A : Type 0} (l : List A) (a b : A) (j : ℕ) → get_elem? (l ++ a ∷ []) j ≡ some b → (get_elem? l j ≡ some b) ⊎ ((j ≡ length l) × (a ≡ b))
at_end [] a b zero e = inr (refl, some-injective a b e)
at_end [] a b (suc j) e = absurd (some-ne-none b (sym e))
at_end (x ∷ xs) a b zero e = inl e
at_end (x ∷ xs) a b (suc j) e = ⊎_elim (λ h. inl h) (λ h. inr (ap suc h.0, h.1)) (at_end xs a b j e)

two_seats : ℕ → ℕ → Side → ℕ
two_seats g h Guest = g
two_seats g h Host = h

of_two : (P : Side → Type 0) → P Guest → P Host → (x : Side) → P x
of_two P a b Guest = a
of_two P a b Host = b

-- the words of a new channel
module _ (n : ℕ) where
  new_words : (x : Side) → OwnWords n (opening_words n) x (machine_new x n)
  new_words Guest = search (rules, still n, get_or-set_other, get_or-set_same, length-replicate)
  new_words Host = search (rules, still n, get_or-set_other, get_or-set_same, length-replicate)

  new_invariant : 512 ≤ n → n ≤ 16777216 → ChannelInvariant n (opening_words n) (new_end n)
  new_invariant a b = record {
    channel = (new_channel n a b).channel;
    own = λ x. record { goes = λ e. cc; point = new_point n x; committed = λ h. absurd (cc); words = new_words x };
    wakes = λ x. record { packets = λ h. absurd (cc); room = λ h. absurd (cc); mark = λ h. absurd (cc) };
  }

  -- no signal is up
  new_signals : (c : ℕ) (x : Side) → SignalsRaised n (opening_words n) x (new_told n c x) (new_told n c (peer_of x))
  new_signals c Guest = search (rules, still n)
  new_signals c Host = search (rules, still n)

  -- the words of the rings, and those of the pages behind them
  new_rings : (c : ℕ) → ring_words n (opening_with n c) ≡ opening_words n
  new_rings c = ap (λ (k : ℕ). take k (opening_with n c)) (sym (opening_length n)) ∙ take-append_seam (opening_words n) (replicate (512 * c) 0)

  zero_word : (c i : ℕ) → words_of n ≤ i → get_or (opening_with n c) i 0 ≡ 0
  zero_word c i far = get_or-append_right (opening_words n) (replicate (512 * c) 0) (words_of n) i 0 (opening_length n) far ∙ zeros_at (512 * c) _

  new_word : (c q w : ℕ) → word_in (words_of n) (opening_with n c) q w ≡ 0
  new_word c q w = search (rules, zero_word c (words_of n + (512 * q + w)) (omega arith))

  new_rule : (c : ℕ) → 512 ≤ n → n ≤ 16777216 → WholeRule n c (opening_with n c) (new_paged n c)
  new_rule c a b =
      new_keeps n c (opening_with n c) a b (let l = length-append (opening_words n) (replicate (512 * c) 0) in let m = length-replicate {A = ℕ} (512 * c) 0 in let o = opening_length n in omega (arith, l, m, o))
      (subst (λ (z : List ℕ). ChannelInvariant n z (new_end n)) (sym (new_rings c)) (new_invariant a b)) (new_word c)

pub opens : (n c : ℕ) (words : List ℕ) → 512 ≤ n → n ≤ 16777216 → words ≡ opening_with n c → Holds n c (opening words [] (Both (new_told n c Guest) (new_told n c Host)))
opens n c words a b is = subst (λ (l : List ℕ). Holds n c (opening l [] (Both (new_told n c Guest) (new_told n c Host)))) (sym is) (record {
  ends = new_told n c;
  seat = λ x. 0;
  seats = alone;
  channel = new_rule n c a b;
  counts = λ x. refl;
  loads = λ some x. tt;
  signals = λ x. subst (λ (z : List ℕ). SignalsRaised n z x (new_told n c x) (new_told n c (peer_of x))) (sym (new_rings n c)) (new_signals n c x);
})
  where
    alone : (id : ℕ) (v : View) → get_elem? (Both (new_told n c Guest) (new_told n c Host) ∷ []) id ≡ some v → Knows (new_told n c) (λ x. 0) id v
    alone zero v e = subst (Knows (new_told n c) (λ x. 0) 0) (some-injective _ _ e) (refl, refl, refl, refl)
    alone (suc id) v e = absurd (some-ne-none v (sym e))

splits : (n c id : ℕ) (g h : Told) → Splits (Holds n c) id (Both g h) (One g) (One h)
unfolding two_seats
splits n c id g h s it at = record {
  ends = it.ends;
  seat = two_seats id (length s.views);
  seats = λ j v k. ⊎_elim (λ t. ⊎_elim (λ u. subst (Knows it.ends (two_seats id (length s.views)) j) u.1 (mine j u.0)) (λ u. others j v u.0 (it.seats j v u.1)) (at_set s.views id j (One g) v t))
      (λ t. subst (Knows it.ends (two_seats id (length s.views)) j) t.1 (theirs j (t.0 ∙ length-set s.views id (One g)))) (at_end (set s.views id (One g)) (One h) v j k);
  channel = it.channel;
  counts = it.counts;
  loads = it.loads;
  signals = it.signals;
}
  where
    knows : (g ≡ it.ends Guest) × (h ≡ it.ends Host) × (id ≡ it.seat Guest) × (id ≡ it.seat Host)
    knows = it.seats id (Both g h) at

    guest : Guest ≡ g.state.machine.side
    guest = sym (ap (λ (u : Told). u.state.machine.side) knows.0 ∙ it.channel.rings.channel.guest_fits.side)

    host : Host ≡ h.state.machine.side
    host = sym (ap (λ (u : Told). u.state.machine.side) knows.1 ∙ it.channel.rings.channel.host_fits.side)

    mine : (j : ℕ) → j ≡ id → Knows it.ends (two_seats id (length s.views)) j (One g)
    mine j e = (knows.0 ∙ ap it.ends guest, e ∙ ap (two_seats id (length s.views)) guest)

    theirs : (j : ℕ) → j ≡ length s.views → Knows it.ends (two_seats id (length s.views)) j (One h)
    theirs j e = (knows.1 ∙ ap it.ends host, e ∙ ap (two_seats id (length s.views)) host)

    seat_is : (x : Side) → it.seat x ≡ id
    seat_is = of_two (λ x. it.seat x ≡ id) (sym knows.2) (sym knows.3)

    others : (j : ℕ) (v : View) → j ≢ id → Knows it.ends it.seat j v → Knows it.ends (two_seats id (length s.views)) j v
    others j (Both a b) ne k = absurd (ne (k.2 ∙ seat_is Guest))
    others j (One a) ne k = absurd (ne (k.1 ∙ seat_is a.state.machine.side))
    others j Spent ne k = k

joins : (n c id away : ℕ) (g h : Told) → g.state.machine.side ≡ Guest → h.state.machine.side ≡ Host → Joins (Holds n c) id (One g) away (One h) (Both g h) Spent
joins n c id away g h guest host s it at apart there = record {
  ends = it.ends;
  seat = λ x. id;
  seats = λ j v k. ⊎_elim (λ t. subst (Knows it.ends (λ x. id) j) t.1 tt) (λ t. ⊎_elim (λ u. subst (Knows it.ends (λ x. id) j) u.1 (whole j u.0)) (λ u. others j v t.0 u.0 (it.seats j v u.1)) (at_set s.views id j (Both g h) v t.1)) (at_set (set s.views id (Both g h)) away j Spent v k);
  channel = it.channel;
  counts = it.counts;
  loads = it.loads;
  signals = it.signals;
}
  where
    mine : (g ≡ it.ends g.state.machine.side) × (id ≡ it.seat g.state.machine.side)
    mine = it.seats id (One g) at

    theirs : (h ≡ it.ends h.state.machine.side) × (away ≡ it.seat h.state.machine.side)
    theirs = ⊎_elim (λ t. absurd (apart t.0)) (λ t. it.seats away (One h) t.1) (at_set s.views id away (Both g h) (One h) there)

    whole : (j : ℕ) → j ≡ id → Knows it.ends (λ x. id) j (Both g h)
    whole j e = (mine.0 ∙ ap it.ends guest, theirs.0 ∙ ap it.ends host, e, e)

    taken : (x : Side) → (it.seat x ≡ id) ⊎ (it.seat x ≡ away)
    taken = of_two (λ x. (it.seat x ≡ id) ⊎ (it.seat x ≡ away)) (inl (ap it.seat (sym guest) ∙ sym mine.1)) (inr (ap it.seat (sym host) ∙ sym theirs.1))

    none_left : (j : ℕ) (x : Side) → j ≢ away → j ≢ id → j ≡ it.seat x → ⊥
    none_left j x ne m e = ⊎_elim (λ t. m (e ∙ t)) (λ t. ne (e ∙ t)) (taken x)

    others : (j : ℕ) (v : View) → j ≢ away → j ≢ id → Knows it.ends it.seat j v → Knows it.ends (λ x. id) j v
    others j (Both a b) ne m k = absurd (none_left j Guest ne m k.2)
    others j (One a) ne m k = absurd (none_left j a.state.machine.side ne m k.1)
    others j Spent ne m k = k

settled : (n : ℕ) (ws : List ℕ) (g h : EndState) → ChannelOk n ws g h → AreSettled g h
settled n ws g h c = record {
  guest_front = guest_front n ws g h c;
  host_front = host_front n ws g h c;
  guest_drained = guest_drained n ws g h c;
  host_drained = host_drained n ws g h c;
  run = one_run n ws g h c;
  guest_past = (c.guest_past.sent, c.guest_past.got);
  host_past = (c.host_past.sent, c.host_past.got);
}

-- no end took more signals than were raised
taken_of : (n : ℕ) (ws : List ℕ) (ends : Side → Told) → ((x : Side) → SignalsRaised n ws x (ends x) (ends (peer_of x))) → SignalsTaken (ends Guest) (ends Host)
taken_of n ws ends s =
    let g = s Guest in
    let h = s Host in
    record { guest = omega (arith, g); host = omega (arith, h) }

-- what the pages' rule tells of both ends
paged_of : (n c : ℕ) (ws : List ℕ) (ends : Side → Told) → WholeRule n c ws (states ends) → ((x : Side) → (ends x).state.pages.count ≡ c) → PagesSettled (ends Guest).state (ends Host).state
paged_of n c ws ends r count = record {
  guest_front = λ some. front_tells n c Guest ws (states ends) (λ z. some (count Guest ∙ z)) r;
  host_front = λ some. front_tells n c Host ws (states ends) (λ z. some (count Host ∙ z)) r;
  guest = λ some clear. end_tells n c Guest ws (states ends) (λ z. some (count Guest ∙ z)) r clear;
  host = λ some clear. end_tells n c Host ws (states ends) (λ z. some (count Host ∙ z)) r clear;
}

settled_of : (n c id : ℕ) (s : State (Unit {0}) View) (it : Holds n c s) (v : View) → get_elem? s.views id ≡ some v → IsSettled v
settled_of n c id s it (Both g h) at =
    let k = it.seats id (Both g h) at in
    subst (λ (z : Told × Told). AreSettled z.0.state z.1.state × SignalsTaken z.0 z.1 × PagesSettled z.0.state z.1.state) (λ i. (sym k.0 i, sym k.1 i))
    (settled n (ring_words n s.words) (it.ends Guest).state (it.ends Host).state it.channel.rings.channel, taken_of n (ring_words n s.words) it.ends it.signals, paged_of n c s.words it.ends it.channel it.counts)
settled_of n c id s it (One u) at = tt
settled_of n c id s it Spent at = tt

-- a look of one end changes no word, and counts
look_holds : (n c id : ℕ) (s : State (Unit {0}) View) (u : Told) → Holds n c s → get_elem? s.views id ≡ some (One u)
    → Holds n c record { words = s.words; homes = s.homes; views = set s.views id (One (record u { steps = u.steps + 1 })) }
look_holds n c id s u it at =
    let x : Side = u.state.machine.side in
    let more : Told = record u { steps = u.steps + 1 } in
    let k : Known n c x s.words u (it.ends (peer_of x)) = known_of n c id s u it at in
    let new : Known n c x s.words more (it.ends (peer_of x)) = record { rings = record { sided = k.rings.sided; mine = k.rings.mine; peers = k.rings.peers }; pages = k.pages; count = k.count; loads = k.loads } in
    holds_with n c id s x more s.words it (it.seats id (One u) at).1 new

looks_at : (n c slots id i : ℕ) (v : View) (held : List (ℕ × Unit {0})) → Allows (Holds n c) slots id (v, held) i (λ k. k) (λ f now. (now ≡ (looked v, held)) × IsSettled v)
looks_at n c slots id i (One u) held s it deep at small = (
  looked (One u),
  keeps,
  tt,
  subst (λ (z : List ℕ). Holds n c record { words = z; homes = s.homes; views = set s.views id (looked (One u)) }) (sym (set-get_or s.words i 0)) (look_holds n c id s u it at),
  (refl, tt),
)
looks_at n c slots id i (Both g h) held s it deep at small = (
  Both g h,
  keeps,
  tt,
  subst (λ (z : List ℕ × List View). Holds n c record { words = z.0; homes = s.homes; views = z.1 }) (λ k. (sym (set-get_or s.words i 0) k, sym (set_again s.views id (Both g h) at) k)) it,
  (refl, settled_of n c id s it (Both g h) at),
)
looks_at n c slots id i Spent held s it deep at small = (
  Spent,
  keeps,
  tt,
  subst (λ (z : List ℕ × List View). Holds n c record { words = z.0; homes = s.homes; views = z.1 }) (λ k. (sym (set-get_or s.words i 0) k, sym (set_again s.views id Spent at) k)) it,
  (refl, tt),
)

pub learns : (n c slots id i : ℕ) (me : Me (Unit {0}) View) → Allows (Holds n c) slots id me i (λ k. k) (λ v now. (now ≡ (looked me.0, me.1)) × IsSettled me.0)
learns n c slots id i me = looks_at n c slots id i me.0 me.1

pub split_asks : (n c id : ℕ) (v : View) (g h : Told) → v ≡ Both g h → Splits (Holds n c) id v (guest_in v) (host_in v)
split_asks n c id v g h is = subst (λ (w : View). Splits (Holds n c) id w (guest_in w) (host_in w)) (sym is) (splits n c id g h)

pub join_asks : (n c id away : ℕ) (v w : View) (g h : Told) → v ≡ One g → w ≡ One h → g.state.machine.side ≡ Guest → h.state.machine.side ≡ Host → Joins (Holds n c) id v away w (joined v w) Spent
join_asks n c id away v w g h a b guest host = subst (λ (z : View × View). Joins (Holds n c) id z.0 away z.1 (joined z.0 z.1) Spent) (λ i. (sym a i, sym b i)) (joins n c id away g h guest host)

pub one_is : (v : View) → is_one v ≡ true → v ≡ One (told_in v)
one_is (Both g h) e = absurd (cc)
one_is (One u) i = refl
one_is Spent e = absurd (cc)
