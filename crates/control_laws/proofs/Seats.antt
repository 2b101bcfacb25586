-- Where the sub-channels of a device stand in their phase: right behind its first channel, numbered from 1.
use Rattle.std.proofs.Common.{◌≡◌, ◌∙◌, ℕ, suc, ◌+◌, ◌-◌, ◌<◌, ◌≤◌, ◌==◌, ◌&&◌, not, Bool, true, false, cond, if◌then◌else◌, List, [], ◌∷◌, ◌++◌, length, drop, slice_get, refl, sym, ap, subst, append_assoc, length-append, arith}
use Rattle.std.specs.List.{AllByRecursion, range_with_len}
use Rattle.std.proofs.lemmas.Bool.{eqb-true}
use Rattle.std.proofs.lemmas.List.Elements.{All-get_or, filter-append}
use Rattle.control_laws.proofs.Words.{Opening}
use Rattle.control_model.specs.Plan.{BusPlan, IsPlan, Seated, is_sub, is_later, is_of_sub, first_subs, subs_next, laters, phase_of}
use Rattle.control_model.specs.GuestAt.{from_first_sub}
use Rattle.control_model.specs.Stand.{At, offered_before, offered_by}
use Rattle.control_laws.proofs.Marks.{by_test}
use Rattle.control_laws.proofs.Cutting.{all_weaker, all_front, all_snoc}
use Rattle.control_laws.proofs.Relids.{sub_later, relids, phase_relids, sub_place}
use Rattle.control_laws.proofs.Plans.{offered_here}
use Rattle.control_laws.proofs.Counts.{done_known, dialed_few}
use Rattle.control_laws.proofs.Saying.{left_at}

abbrev pub AreSubs : List Opening → Type 0
AreSubs os = AllByRecursion (λ p. is_sub p ≡ true) os

not_false : (b : Bool) → not b ≡ false → b ≡ true
not_false true e = refl
not_false false e = absurd (cc)

first_zero : (o : Opening) → is_sub o ≡ false → o.sub ≡ 0
first_zero o e = eqb-true o.sub 0 (not_false (o.sub == 0) e)

-- a phase begins with a first channel
pub starts_first : (os : List Opening) → Seated 0 os → first_subs os ≡ []
starts_first [] seated = refl
starts_first (o ∷ os) seated = by_test {P = first_subs (o ∷ os) ≡ []} (is_sub o)
    (λ e.
    let wrong : true ≡ false = sym e ∙ ap (λ n. not (n == 0)) (seated.0 e) in
    absurd (cc))
    (λ e. ap (λ b. if b then o ∷ first_subs os else []) e)

seated_behind : (n : ℕ) (xs : List Opening) (first : Opening) (ys : List Opening) → Seated n (xs ++ first ∷ ys) → Seated (first.sub + 1) ys
seated_behind n [] first ys seated = seated.1
seated_behind n (x ∷ xs) first ys seated = seated_behind (x.sub + 1) xs first ys seated.1

seated_run : (n : ℕ) (offered : List Opening) (o : Opening) (left : List Opening) → Seated n (offered ++ o ∷ left) → AreSubs (offered ++ o ∷ []) → o.sub ≡ n + length offered
seated_run n [] o left seated subs = let is = seated.0 subs.0 in omega (arith, is)
seated_run n (p ∷ offered) o left seated subs =
    omega (arith, seated.0 subs.0, seated_run (p.sub + 1) offered o left seated.1 subs.1)

pub phase_seated : (plan : BusPlan) (phase : ℕ) → IsPlan plan → phase < length plan.phases → Seated 0 (phase_of plan phase)
phase_seated plan phase planned less = All-get_or (λ os. Seated 0 os) plan.phases phase [] less planned.seated

-- the sub-channels that openings begin with
pub first_run : (xs ys : List Opening) → AreSubs xs → first_subs (xs ++ ys) ≡ xs ++ first_subs ys
first_run [] ys all = refl
first_run (x ∷ xs) ys all = ap (λ b. if b then x ∷ first_subs (xs ++ ys) else []) all.0 ∙ ap (λ zs. x ∷ zs) (first_run xs ys all.1)

pub no_first : (left : List Opening) → is_of_sub (slice_get left 0) ≡ false → first_subs left ≡ []
no_first [] none = refl
no_first (p ∷ left) none = ap (λ b. if b then p ∷ first_subs left else []) none

pub no_subs_next : (o : Opening) (left : List Opening) → (not (is_sub o) && is_of_sub (slice_get left 0)) ≡ false → subs_next (o ∷ left) ≡ []
no_subs_next o left none = by_test {P = subs_next (o ∷ left) ≡ []} (is_sub o)
    (λ e. ap (λ b. if b then [] else first_subs left) e)
    (λ e. ap (λ b. if b then [] else first_subs left) e ∙ no_first left (sym (ap (λ b. not b && is_of_sub (slice_get left 0)) e) ∙ none))

all_subs : (os : List Opening) → AreSubs os → length (laters os) ≡ length os
all_subs [] all = refl
all_subs (o ∷ os) all = ap (λ b. length (cond b (o ∷ laters os) (laters os))) (sub_later o all.0) ∙ ap (λ n. suc n) (all_subs os all.1)

-- a sub-channel of a device whose first channel is open, where some of the device's others were offered before it
pub record SubAt (plan : BusPlan) (phase place : ℕ) (done : List Opening) (first : Opening) (offered : List Opening) (o : Opening) (left : List Opening) : Type 0 where
  pub split : phase_of plan phase ≡ (done ++ first ∷ []) ++ (offered ++ o ∷ left)
  pub back : place + 1 - o.sub ≡ length (done ++ first ∷ [])
  pub here : drop place (phase_of plan phase) ≡ o ∷ left
  pub from_first : from_first_sub (phase_of plan phase) place (drop place (phase_of plan phase)) ≡ offered ++ o ∷ left
  pub relid_is : o.relid ≡ (offered_by plan phase (done ++ first ∷ []) [] + length offered) + 1
  pub known : AllByRecursion (λ p. p.relid ≤ offered_by plan phase (done ++ first ∷ []) []) (done ++ first ∷ [])

pub sub_at : (plan : BusPlan) (phase place : ℕ) (done : List Opening) (first : Opening) (offered : List Opening) (o : Opening) (left : List Opening) → IsPlan plan → At plan phase place (done ++ first ∷ offered) o left → is_sub first ≡ false → AreSubs (offered ++ o ∷ [])
    → SubAt plan phase place done first offered o left
sub_at plan phase place done first offered o left planned at is_first subs =
    let os : List Opening = phase_of plan phase in
    let behind : List Opening = offered ++ o ∷ left in
    let whole : os ≡ done ++ first ∷ behind = at.phase_is ∙ append_assoc done (first ∷ offered) (o ∷ left) in
    let split : os ≡ (done ++ first ∷ []) ++ behind = whole ∙ sym (append_assoc done (first ∷ []) behind) in
    let run = seated_run (first.sub + 1) offered o left (seated_behind 0 done first behind (subst (Seated 0) whole (phase_seated plan phase planned at.in_plan))) subs in
    let place_is = at.place_is in
    let back : place + 1 - o.sub ≡ length (done ++ first ∷ []) = omega (arith, place_is, length-append done (first ∷ offered), length-append done (first ∷ []), run, first_zero first is_first) in
    let here : drop place os ≡ o ∷ left = left_at plan phase place (done ++ first ∷ offered) (o ∷ left) at.phase_is place_is in
    let P : List Opening → Type 0 = λ xs. relids (laters xs) ≡ range_with_len (offered_before plan phase + 1) (length (laters xs)) in
    let apart = all_front (λ p. is_sub p ≡ true) offered (o ∷ []) subs in
    let spot = sub_place (offered_before plan phase + 1) (done ++ first ∷ offered) o left (sub_later o apart.1.0) (subst P at.phase_is (phase_relids plan phase planned at.in_plan).subs_are) in
    let more = length-append (laters (done ++ first ∷ [])) (laters offered) in
    let all = all_subs offered apart.0 in
    let ahead = ap length (filter-append is_later done (first ∷ [])) in
    let halves = length-append (laters done) (laters (first ∷ [])) in
    let not_subs : length (first_subs (first ∷ behind)) ≡ 0 = ap (λ b. length (if b then first ∷ first_subs behind else [])) is_first in
    let there : At plan phase (length done) done first behind = record { in_plan = at.in_plan; phase_is = whole; place_is = refl } in
    let known = all_snoc (λ p. p.relid ≤ offered_by plan phase (done ++ first ∷ []) []) done first
    (all_weaker (λ p. p.relid ≤ offered_by plan phase done (first ∷ behind)) (λ p. p.relid ≤ offered_by plan phase (done ++ first ∷ []) []) (λ p l. omega (arith, l, ahead, halves, not_subs)) done (done_known plan phase (length done) done first behind planned there))
    (omega (arith, offered_here plan phase (length done) done first behind planned there, ahead, halves, dialed_few first first.dialed refl, not_subs)) in
    record {
      split = split;
      back = back;
      here = here;
      from_first = ap (from_first_sub os place) here ∙ ap (λ n. drop n os) back ∙ left_at plan phase (length (done ++ first ∷ [])) (done ++ first ∷ []) behind split refl;
      relid_is = omega (arith, spot, (ap (λ xs. length (laters xs)) (append_assoc done (first ∷ []) offered)), ap length (filter-append is_later (done ++ first ∷ []) offered), more, all);
      known = known;
    }
