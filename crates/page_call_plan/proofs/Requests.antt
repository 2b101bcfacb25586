-- One request more or less of an id.
use Rattle.std.proofs.Common.{◌≡◌, ◌≢◌, ◌⊎◌, ℕ, zero, suc, ◌+◌, ◌-◌, ◌<◌, ◌≤◌, ◌==◌, Bool, true, false, cond, List, [], ◌∷◌, length, get_or, set, Option, Some, None, is_some, refl, sym, ap, ◌∙◌, subst, arith, ⊎_elim, inl, inr}
use Rattle.std.proofs.lemmas.Bool.Decides.{nat_tests}
use Rattle.std.specs.List.{position, position_from}
use Rattle.std.proofs.lemmas.Iterator.Adapters.{position_from-zero}
use Rattle.std.proofs.lemmas.List.Quantifiers.{position-Some}
use Rattle.page_kept.specs.Counts.{bit}
use Rattle.page_call_plan.specs.Ids.{IdSlot, free, of_id, ids_in, adds, counts, is_free, first_else, room_for, has_id, has_room, more_at, less_at, with_id, without_id}

-- a slot is changed
ids_set : (t : ℕ) (ss : List IdSlot) (i : ℕ) (x : IdSlot) → i < length ss → ids_in t (set ss i x) + of_id t (get_or ss i free) ≡ ids_in t ss + of_id t x
ids_set t [] i x h = absurd (omega (arith, h))
ids_set t (s ∷ ss) zero x h = omega arith
ids_set t (s ∷ ss) (suc i) x h = omega (arith, ids_set t ss i x (omega (arith, h)))

pub by_test : {P : Type 0} (b : Bool) → (b ≡ true → P) → (b ≡ false → P) → P
by_test true f g = f refl
by_test false f g = g refl

no_more : (t : ℕ) (s : IdSlot) → counts t s ≡ false → of_id t s ≡ 0
no_more t s h = by_test (s.tid == t)
    (λ same. ap (λ (b : Bool). cond b s.count 0) same ∙ (let z : s.count ≡ 0 = grind (arith, nat_tests, h, same) in z))
    (λ other. ap (λ (b : Bool). cond b s.count 0) other)

none_from : (t i : ℕ) (ss : List IdSlot) → position_from (counts t) i ss ≡ None → ids_in t ss ≡ 0
none_from t i [] e = refl
none_from t i (s ∷ ss) e = by_test (counts t s)
    (λ yes. absurd (let z : Some i ≡ None = sym (ap (λ (b : Bool). cond b (Some i) (position_from (counts t) (i + 1) ss)) yes) ∙ e in (cc)))
    (λ no. omega (arith, no_more t s no, none_from t (i + 1) ss (sym (ap (λ (b : Bool). cond b (Some i) (position_from (counts t) (i + 1) ss)) no) ∙ e)))

-- no slot has requests of the id
pub none_of : (t : ℕ) (ss : List IdSlot) → position (counts t) ss ≡ None → ids_in t ss ≡ 0
none_of t ss e = none_from t 0 ss (sym (position_from-zero (counts t) ss) ∙ e)

of_here : (t : ℕ) (s : IdSlot) → counts t s ≡ true → (s.tid ≡ t) × (0 < s.count)
of_here t s h = ((let z : s.tid ≡ t = grind (arith, nat_tests, h) in z), (let z : 0 < s.count = grind (arith, nat_tests, h) in z))

of_same : (u : ℕ) (s : IdSlot) → s.tid ≡ u → of_id u s ≡ s.count
of_same u s e = ap (λ (b : Bool). cond b s.count 0) (let z : (s.tid == u) ≡ true = grind (arith, nat_tests, e) in z)

of_other : (u : ℕ) (s : IdSlot) → s.tid ≢ u → of_id u s ≡ 0
of_other u s e = ap (λ (b : Bool). cond b s.count 0) (let z : (s.tid == u) ≡ false = grind (arith, nat_tests, e) in z)

same_bit : (t u : ℕ) → t ≡ u → bit (t == u) ≡ 1
same_bit t u e = ap bit (let z : (t == u) ≡ true = grind (arith, nat_tests, e) in z)

other_bit : (t u : ℕ) → t ≢ u → bit (t == u) ≡ 0
other_bit t u e = ap bit (let z : (t == u) ≡ false = grind (arith, nat_tests, e) in z)

either_id : {P : Type 0} (t u : ℕ) → (t ≡ u → P) → (t ≢ u → P) → P
either_id t u f g = by_test (t == u) (λ h. f (let z : t ≡ u = grind (arith, nat_tests, h) in z)) (λ h. g (let z : t ≢ u = grind (arith, nat_tests, h) in z))

-- a slot with n requests of t, in the place of one with requests of t, or of none
changed : (t u n : ℕ) (s : IdSlot) → (s.count ≡ 0) ⊎ (s.tid ≡ t) → (of_id u record { tid = t; count = n } ≡ cond (t == u) n 0) × (of_id u s ≡ cond (t == u) s.count 0)
changed t u n s h = (
  refl,
  either_id t u
      (λ e. either_id s.tid u
      (λ a. of_same u s a ∙ sym (ap (λ (b : Bool). cond b s.count 0) (let z : (t == u) ≡ true = grind (arith, nat_tests, e) in z)))
      (λ a. of_other u s a ∙ sym (ap (λ (b : Bool). cond b s.count 0) (let z : (t == u) ≡ true = grind (arith, nat_tests, e) in z) ∙ ⊎_elim (λ (z : s.count ≡ 0). z) (λ (z : s.tid ≡ t). absurd (a (z ∙ e))) h)))
      (λ e. either_id s.tid u
      (λ a. of_same u s a ∙ (⊎_elim (λ (z : s.count ≡ 0). z) (λ (z : s.tid ≡ t). absurd (e (sym z ∙ a))) h ∙ sym (ap (λ (b : Bool). cond b s.count 0) (let z : (t == u) ≡ false = grind (arith, nat_tests, e) in z))))
      (λ a. of_other u s a ∙ sym (ap (λ (b : Bool). cond b s.count 0) (let z : (t == u) ≡ false = grind (arith, nat_tests, e) in z)))),
)

-- where a slot is found that takes one more request of t, it is one of the list, free or with requests of t, and has room
pub record IsRoom (t i : ℕ) (ss : List IdSlot) : Type 0 where
  pub within : i < length ss
  pub here : ((get_or ss i free).count ≡ 0) ⊎ ((get_or ss i free).tid ≡ t)
  pub small : (get_or ss i free).count < 18446744073709551615

same_place : (i j : ℕ) → Some i ≡ Some j → i ≡ j
same_place i j h = cc

none_place : (i : ℕ) → None ≡ Some i → ⊥
none_place i h = cc

adds_here : (t : ℕ) (s : IdSlot) → adds t s ≡ true → (s.tid ≡ t) × (s.count < 18446744073709551615)
adds_here t s h = ((let z : s.tid ≡ t = grind (arith, nat_tests, h) in z), (let z : s.count < 18446744073709551615 = grind (arith, nat_tests, h) in z))

free_here : (s : IdSlot) → is_free s ≡ true → s.count ≡ 0
free_here s h = grind (arith, nat_tests, h)

room_at : (t i : ℕ) (ss : List IdSlot) (a f : Option ℕ) → position (adds t) ss ≡ a → position is_free ss ≡ f → first_else a f ≡ Some i → IsRoom t i ss
room_at t i ss None None ea ef h = absurd (none_place i h)
room_at t i ss None (Some j) ea ef h = subst (λ (n : ℕ). IsRoom t n ss) (same_place j i h) (
    let p = position-Some is_free ss j free ef in
    let z = free_here (get_or ss j free) p.1 in
    record { within = p.0; here = inl z; small = omega (arith, z) })
room_at t i ss (Some j) f ea ef h = subst (λ (n : ℕ). IsRoom t n ss) (same_place j i h) (
    let p = position-Some (adds t) ss j free ea in
    let z = adds_here t (get_or ss j free) p.1 in
    record { within = p.0; here = inr z.0; small = z.1 })

pub is_room : (t i : ℕ) (ss : List IdSlot) → room_for t ss ≡ Some i → IsRoom t i ss
is_room t i ss h = room_at t i ss (position (adds t) ss) (position is_free ss) refl refl h

more_is : (t u : ℕ) (ss : List IdSlot) (o : Option ℕ) → room_for t ss ≡ o → is_some o ≡ true → ids_in u (more_at t ss o) ≡ ids_in u ss + bit (t == u)
more_is t u ss None e h = absurd (cc)
more_is t u ss (Some i) e h =
    let f = is_room t i ss e in
    let s : IdSlot = get_or ss i free in
    let c = changed t u (s.count + 1) s f.here in
    let k = ids_set u ss i record { tid = t; count = s.count + 1 } f.within in
    by_test (t == u)
    (λ y. omega (arith, k, c.0 ∙ ap (λ (b : Bool). cond b (s.count + 1) 0) y, c.1 ∙ ap (λ (b : Bool). cond b s.count 0) y, ap bit y))
    (λ n. omega (arith, k, c.0 ∙ ap (λ (b : Bool). cond b (s.count + 1) 0) n, c.1 ∙ ap (λ (b : Bool). cond b s.count 0) n, ap bit n))

-- one more request of t
pub with_is : (t u : ℕ) (ss : List IdSlot) → has_room t ss ≡ true → ids_in u (with_id t ss) ≡ ids_in u ss + bit (t == u)
with_is t u ss h = more_is t u ss (room_for t ss) refl h

less_is : (t u : ℕ) (ss : List IdSlot) (o : Option ℕ) → position (counts t) ss ≡ o → is_some o ≡ true → ids_in u (less_at t ss o) + bit (t == u) ≡ ids_in u ss
less_is t u ss None e h = absurd (cc)
less_is t u ss (Some i) e h =
    let f = position-Some (counts t) ss i free e in
    let s = get_or ss i free in
    let w = of_here t s f.1 in
    let c = changed t u (s.count - 1) s (inr w.0) in
    let k = ids_set u ss i record { tid = t; count = s.count - 1 } f.0 in
    by_test (t == u)
    (λ y. omega (arith, k, w.1, c.0 ∙ ap (λ (b : Bool). cond b (s.count - 1) 0) y, c.1 ∙ ap (λ (b : Bool). cond b s.count 0) y, ap bit y))
    (λ n. omega (arith, k, w.1, c.0 ∙ ap (λ (b : Bool). cond b (s.count - 1) 0) n, c.1 ∙ ap (λ (b : Bool). cond b s.count 0) n, ap bit n))

-- one request of t less
pub without_is : (t u : ℕ) (ss : List IdSlot) → has_id t ss ≡ true → ids_in u (without_id t ss) + bit (t == u) ≡ ids_in u ss
without_is t u ss h = less_is t u ss (position (counts t) ss) refl h

less_most : (t u : ℕ) (ss : List IdSlot) (o : Option ℕ) → position (counts t) ss ≡ o → ids_in u ss ≤ ids_in u (less_at t ss o) + bit (t == u)
less_most t u ss None e = omega arith
less_most t u ss (Some i) e = omega (arith, less_is t u ss (Some i) e refl)

-- one less, where there is one
pub without_most : (t u : ℕ) (ss : List IdSlot) → ids_in u ss ≤ ids_in u (without_id t ss) + bit (t == u)
without_most t u ss = less_most t u ss (position (counts t) ss) refl

lacks_at : (t : ℕ) (ss : List IdSlot) (o : Option ℕ) → position (counts t) ss ≡ o → is_some o ≡ false → ids_in t ss ≡ 0
lacks_at t ss None e h = none_of t ss e
lacks_at t ss (Some i) e h = absurd (cc)

pub lacks : (t : ℕ) (ss : List IdSlot) → has_id t ss ≡ false → ids_in t ss ≡ 0
lacks t ss h = lacks_at t ss (position (counts t) ss) refl h

pub some_of : (t : ℕ) (ss : List IdSlot) → has_id t ss ≡ true → 0 < ids_in t ss
some_of t ss h = omega (arith, without_is t t ss h, same_bit t t refl)
