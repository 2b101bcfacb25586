-- The processors of the channels, and the openings whose channels a phase moves to others.
use Rattle.std.proofs.Common.{◌≡◌, ◌≢◌, ◌∙◌, ◌⊎◌, inl, inr, ⊎_elim, ℕ, zero, suc, ◌+◌, ◌==◌, Bool, true, false, cond, List, [], ◌∷◌, ◌++◌, length, map, drop, filter, Some, None, if◌then◌else◌, is_some, refl, sym, ap, arith}
use Rattle.std.specs.List.{AllByRecursion, position_from}
use Rattle.std.proofs.lemmas.Bool.{eq-eqb, eqb-true}
use Rattle.control_laws.proofs.Words.{Version, PhaseStart, has_modify, answers_modify, GuestSide, HostSide, State, Msg, Opening}
use Rattle.control_model.specs.Plan.{BusPlan, IsPlan, phase_of, movers, movers_in, vp_for}
use Rattle.control_model.specs.Messages.{modify, modified}
use Rattle.control_model.specs.Said.{agreed, moved, guest_moves, host_moves}
use Rattle.control_model.specs.Stand.{marked, vps_before, before_phase, guest_is, host_is, Agreed}
use Rattle.control_laws.proofs.Marks.{by_place, by_test, differ, marked_apart, marked_here, marked_there}
use Rattle.control_laws.proofs.Closing.{Distinct}
use Rattle.control_laws.proofs.Tried.{agreed_is}
use Rattle.control_laws.proofs.Cutting.{both}

-- marks that say the same of a channel
pub marked_alike : {X : Type 0} (a b : Opening → X) (os : List Opening) (x y : ℕ → X) (q : ℕ) → ((o : Opening) → o.relid ≡ q → a o ≡ b o) → x q ≡ y q → marked a os x q ≡ marked b os y q
marked_alike a b [] x y q so rest = rest
marked_alike a b (o ∷ os) x y q so rest = by_test {P = marked a (o ∷ os) x q ≡ marked b (o ∷ os) y q} (o.relid == q)
    (λ e. rw e (so o (eqb-true o.relid q e)))
    (λ e. rw e (marked_alike a b os x y q so rest))

pub before_alike : {X : Type 0} (plan : BusPlan) (a b : Opening → X) (offered : X) (phase q : ℕ) → ((o : Opening) → o.relid ≡ q → a o ≡ b o) → before_phase plan a offered phase q ≡ before_phase plan b offered phase q
before_alike plan a b offered zero q so = refl
before_alike plan a b offered (suc phase) q so = marked_alike a b (phase_of plan phase) (before_phase plan a offered phase) (before_phase plan b offered phase) q so (before_alike plan a b offered phase q so)

-- a channel stands alike by processors that are the same for it
vp_alike : (vps ups : ℕ → ℕ) (q r : ℕ) → vps q ≡ ups q → r ≡ q → vps r ≡ ups r
vp_alike vps ups q r same is = ap vps is ∙ same ∙ sym (ap ups is)

pub guest_alike : (vps ups : ℕ → ℕ) (state : State) (q : ℕ) → vps q ≡ ups q → (o : Opening) → o.relid ≡ q → guest_is vps state o ≡ guest_is ups state o
guest_alike vps ups state q same o is = let e = vp_alike vps ups q o.relid same is in (λ i. record { life = record { side = GuestSide; state = state; vp = e i }; gpadl = Some o.gpadl })

pub host_alike : (vps ups : ℕ → ℕ) (state : State) (q : ℕ) → vps q ≡ ups q → (o : Opening) → o.relid ≡ q → host_is vps state o ≡ host_is ups state o
host_alike vps ups state q same o is = let e = vp_alike vps ups q o.relid same is in (λ i. record { side = HostSide; state = state; vp = e i })

-- those of some openings
pub filter_all : (P : Opening → Type 0) (test : Opening → Bool) (os : List Opening) → AllByRecursion P os → AllByRecursion P (filter test os)
filter_all P test [] all = tt
filter_all P test (o ∷ os) all = one (test o) (filter_all P test os all.1)
  where
    one : (b : Bool) → AllByRecursion P (filter test os) → AllByRecursion P (cond b (o ∷ filter test os) (filter test os))
    one true rest = (all.0, rest)
    one false rest = rest

distinct_filter : (f : Opening → ℕ) (test : Opening → Bool) (os : List Opening) → Distinct f os → Distinct f (filter test os)
distinct_filter f test [] apart = tt
distinct_filter f test (o ∷ os) apart = one (test o) (distinct_filter f test os apart.1)
  where
    one : (b : Bool) → Distinct f (filter test os) → Distinct f (cond b (o ∷ filter test os) (filter test os))
    one true rest = (filter_all (λ p. f p ≢ f o) test os apart.0, rest)
    one false rest = rest

-- what holds of all openings holds of those that are moved
pub moved_all : (P : Opening → Type 0) (plan : BusPlan) (os : List Opening) → AllByRecursion P os → AllByRecursion P (moved plan os)
moved_all P plan os all = one (has_modify (agreed plan))
  where
    one : (b : Bool) → AllByRecursion P (if b then movers os else [])
    one true = filter_all P (λ o. is_some o.vp) os all
    one false = tt

pub moved_distinct : (f : Opening → ℕ) (plan : BusPlan) (os : List Opening) → Distinct f os → Distinct f (moved plan os)
moved_distinct f plan os apart = one (has_modify (agreed plan))
  where
    one : (b : Bool) → Distinct f (if b then movers os else [])
    one true = distinct_filter f (λ o. is_some o.vp) os apart
    one false = tt

-- what the version says of them
pub movers_are : (plan : BusPlan) (v : Version) (phase : ℕ) → IsPlan plan → Agreed plan v → movers_in plan (Some (PhaseStart phase)) (has_modify v.0) ≡ moved plan (phase_of plan phase)
movers_are plan v phase planned is = ap (λ n. movers_in plan (Some (PhaseStart phase)) (has_modify n)) (agreed_is plan v planned is) ∙ by_bool (has_modify (agreed plan))
  where
    by_bool : (b : Bool) → movers_in plan (Some (PhaseStart phase)) b ≡ (if b then movers (phase_of plan phase) else [])
    by_bool true = refl
    by_bool false = refl

pub answers_are : (plan : BusPlan) (v : Version) → IsPlan plan → Agreed plan v → answers_modify (agreed plan) ≡ answers_modify v.0
answers_are plan v planned is = ap answers_modify (sym (agreed_is plan v planned is))

-- openings no two of which have one relid: each mark is read again
pub own_marked : {X : Type 0} (so : Opening → X) (os : List Opening) (base : ℕ → X) → Distinct (λ o. o.relid) os → AllByRecursion (λ o. marked so os base o.relid ≡ so o) os
own_marked so [] base apart = tt
own_marked so (o ∷ os) base apart = (
  marked_here so o os base,
  both (λ p. p.relid ≢ o.relid) (λ p. marked so os base p.relid ≡ so p) (λ p. marked so (o ∷ os) base p.relid ≡ so p) (λ p off is. marked_there so o os base p.relid off ∙ is) os apart.0 (own_marked so os base apart.1),
)

-- marks that were there before change nothing
pub marked_again : {X : Type 0} (so : Opening → X) (os : List Opening) (base : ℕ → X) (q : ℕ) → AllByRecursion (λ o. base o.relid ≡ so o) os → marked so os base q ≡ base q
marked_again so [] base q all = refl
marked_again so (o ∷ os) base q all = by_test {P = marked so (o ∷ os) base q ≡ base q} (o.relid == q)
    (λ e. rw e (sym all.0 ∙ ap base (eqb-true o.relid q e)))
    (λ e. rw e (marked_again so os base q all.1))

-- the same marks over channels that stand alike but for those
pub marked_over : {X : Type 0} (a b : Opening → X) (os : List Opening) (x y : ℕ → X) (q : ℕ) → AllByRecursion (λ o. a o ≡ b o) os → (AllByRecursion (λ o. o.relid ≢ q) os → x q ≡ y q) → marked a os x q ≡ marked b os y q
marked_over a b [] x y q all rest = rest tt
marked_over a b (o ∷ os) x y q all rest = by_place {P = marked a (o ∷ os) x q ≡ marked b (o ∷ os) y q} o.relid q
    (λ e. rw (eq-eqb o.relid q e) all.0)
    (λ off. rw (differ o.relid q off) (marked_over a b os x y q all.1 (λ apart. rest (off, apart))))

-- those before a place have other relids than those behind it
pub distinct_front : (f : Opening → ℕ) (xs ys : List Opening) → Distinct f (xs ++ ys) → AllByRecursion (λ x. AllByRecursion (λ y. f y ≢ f x) ys) xs
distinct_front f [] ys apart = tt
distinct_front f (x ∷ xs) ys apart = (behind xs apart.0, distinct_front f xs ys apart.1)
  where
    behind : (zs : List Opening) → AllByRecursion (λ y. f y ≢ f x) (zs ++ ys) → AllByRecursion (λ y. f y ≢ f x) ys
    behind [] all = all
    behind (z ∷ zs) all = behind zs all.1

-- a channel that was opened has its processor, and one that wasn't has none
module _ {X : Type 0} (plan : BusPlan) (vp : X → ℕ) (ended : Opening → X) (vps : ℕ → ℕ) (so : (o : Opening) → vp (ended o) ≡ vps o.relid) where
  one_marked : (os : List Opening) (before : ℕ → X) (q : ℕ) → (vp (marked ended os before q) ≡ vps q) ⊎ (AllByRecursion (λ o. o.relid ≢ q) os × (marked ended os before q ≡ before q))
  one_marked [] before q = inr (tt, refl)
  one_marked (o ∷ os) before q = by_place {P = (vp (marked ended (o ∷ os) before q) ≡ vps q) ⊎ (AllByRecursion (λ o. o.relid ≢ q) (o ∷ os) × (marked ended (o ∷ os) before q ≡ before q))} o.relid q
      (λ is. inl (ap (λ b. vp (if b then ended o else marked ended os before q)) (eq-eqb o.relid q is) ∙ so o ∙ ap vps is))
      (λ off. let there : marked ended (o ∷ os) before q ≡ marked ended os before q = ap (λ b. if b then ended o else marked ended os before q) (differ o.relid q off) in
      ⊎_elim (λ e. inl (ap vp there ∙ e)) (λ (r : AllByRecursion (λ o. o.relid ≢ q) os × (marked ended os before q ≡ before q)). inr ((off, r.0), there ∙ r.1)) (one_marked os before q))

  known : (offered : X) → vp offered ≡ 0 → (phase q : ℕ) → (vp (before_phase plan ended offered phase q) ≡ vps q) ⊎ ((vp (before_phase plan ended offered phase q) ≡ 0) × (vps_before plan phase q ≡ 0))
  known offered none zero q = inr (none, refl)
  known offered none (suc phase) q =
      let before : ℕ → X = before_phase plan ended offered phase in
      ⊎_elim (λ e. inl e) (λ (r : AllByRecursion (λ o. o.relid ≢ q) (phase_of plan phase) × (marked ended (phase_of plan phase) before q ≡ before q)).
      ⊎_elim (λ e. inl (ap vp r.1 ∙ e)) (λ (s : (vp (before q) ≡ 0) × (vps_before plan phase q ≡ 0)). inr (ap vp r.1 ∙ s.0, marked_apart vp_for (moved plan (phase_of plan phase)) (vps_before plan phase) q (moved_all (λ o. o.relid ≢ q) plan (phase_of plan phase) r.0) ∙ s.1))
      (known offered none phase q)) (one_marked (phase_of plan phase) before q)

pub vp_known : {X : Type 0} (plan : BusPlan) (vp : X → ℕ) (ended : Opening → X) (offered : X) (phase q : ℕ) → ((o : Opening) → vp (ended o) ≡ vps_before plan phase o.relid) → vp offered ≡ 0 → vp (before_phase plan ended offered phase q) ≡ vps_before plan phase q
vp_known plan vp ended offered phase q so none =
    ⊎_elim (λ e. e) (λ (s : (vp (before_phase plan ended offered phase q) ≡ 0) × (vps_before plan phase q ≡ 0)). s.0 ∙ sym s.1) (known plan vp ended (vps_before plan phase) so offered none phase q)

-- the first opening that passes
pub position_at : (test : Opening → Bool) (i : ℕ) (done : List Opening) (o : Opening) (left : List Opening) → AllByRecursion (λ p. test p ≡ false) done → test o ≡ true → position_from test i (done ++ o ∷ left) ≡ Some (i + length done)
position_at test i [] o left none passes = let here : i ≡ i + 0 = omega arith in ap (λ b. cond b (Some i) (position_from test (i + 1) left)) passes ∙ ap (λ n. Some n) here
position_at test i (p ∷ done) o left none passes =
    let next : (i + 1) + length done ≡ i + suc (length done) = omega arith in
    ap (λ b. cond b (Some i) (position_from test (i + 1) (done ++ o ∷ left))) none.0 ∙ position_at test (i + 1) done o left none.1 passes ∙ ap (λ n. Some n) next

pub position_none : (test : Opening → Bool) (i : ℕ) (os : List Opening) → AllByRecursion (λ p. test p ≡ false) os → position_from test i os ≡ None
position_none test i [] none = refl
position_none test i (o ∷ os) none = ap (λ b. cond b (Some i) (position_from test (i + 1) os)) none.0 ∙ position_none test (i + 1) os none.1

-- the messages behind those of some openings
pub drop_mapped : (f : Opening → Msg) (done left : List Opening) → drop (length done) (map f (done ++ left)) ≡ map f left
drop_mapped f [] left = refl
drop_mapped f (o ∷ done) left = drop_mapped f done left

drop_none : (done : List Opening) → drop (length done) (let none : List Msg = [] in none) ≡ []
drop_none [] = refl
drop_none (o ∷ done) = refl

-- what the guest says of openings whose channels are moved, and the host
abbrev pub guest_says : List Opening → List Msg
guest_says os = map (λ o. modify o.relid (vp_for o)) os

abbrev pub host_says : BusPlan → List Opening → List Msg
host_says plan os = if answers_modify (agreed plan) then map (λ o. modified o.relid) os else []

pub guest_rest : (plan : BusPlan) (os done left : List Opening) → moved plan os ≡ done ++ left → drop (length done) (guest_moves plan os) ≡ guest_says left
guest_rest plan os done left is = ap (λ ms. drop (length done) (guest_says ms)) is ∙ drop_mapped (λ o. modify o.relid (vp_for o)) done left

pub host_rest : (plan : BusPlan) (os done left : List Opening) → moved plan os ≡ done ++ left → drop (length done) (host_moves plan os) ≡ host_says plan left
host_rest plan os done left is = ap (λ ms. drop (length done) (host_says plan ms)) is ∙ one (answers_modify (agreed plan))
  where
    one : (b : Bool) → drop (length done) (if b then map (λ o. modified o.relid) (done ++ left) else []) ≡ (if b then map (λ o. modified o.relid) left else [])
    one true = drop_mapped (λ o. modified o.relid) done left
    one false = drop_none done

pub host_says_none : (plan : BusPlan) → host_says plan [] ≡ []
host_says_none plan = one (answers_modify (agreed plan))
  where
    one : (b : Bool) → (if b then map (λ (o : Opening). modified o.relid) [] else []) ≡ []
    one true = refl
    one false = refl
