-- What a plan says of an opening at its place.
use Rattle.std.proofs.Common.{◌≡◌, ◌≢◌, ◌∙◌, ℕ, zero, suc, ◌+◌, ◌<◌, ◌≤◌, ◌==◌, ◌&&◌, ◌||◌, is_some, Bool, true, false, if◌then◌else◌, List, [], ◌∷◌, ◌++◌, length, map, take, drop, get_or, slice_get, slice_index_or, Option, Some, None, All, refl, sym, ap, subst, append_assoc, length-append, arith}
use Rattle.std.specs.List.{AllByRecursion, range_with_len}
use Rattle.std.proofs.lemmas.List.Elements.{All-get_or}
use Rattle.std.proofs.lemmas.Bool.{eqb-true}
use Rattle.control_laws.proofs.Words.{Opening, Channel}
use Rattle.control_model.specs.Plan.{BusPlan, is_sub, is_later, first_subs, subs_next, Bare, firsts, laters, in_closing_order, opening_at, closing_of, closing_at, IsOpening, Rising, Follows, RescindsEnd, all_openings, first_gpadl, is_buffer, lists_with, lists_of, pages_of, IsPlan, phase_of}
use Rattle.control_model.specs.Channels.{is_handle}
use Rattle.control_model.specs.Said.{ends_given_back}
use Rattle.control_model.specs.Stand.{At, EndsAt, offered_before, offered_for, count_dialed, guest_ends, guest_before, has_list}
use Rattle.control_laws.proofs.Marks.{by_test, differ, marked_has}
use Rattle.control_laws.proofs.Closing.{all_closing, Distinct, distinct_closing, distinct_mid}
use Rattle.control_laws.proofs.Cutting.{all_weaker, mid_all, openings_more, openings_cut, by_all, both, all_front}
use Rattle.control_laws.proofs.Relids.{later_is, sub_later, phase_relids, subs_before, sub_place}

-- the first of what follows
pub get_from : {X : Type 0} (xs ys : List X) → slice_get (xs ++ ys) (length xs) ≡ slice_get ys 0
get_from [] ys = refl
get_from (x ∷ xs) ys = get_from xs ys

pub opening_from : (plan : BusPlan) (phase place : ℕ) (done left : List Opening) → phase_of plan phase ≡ done ++ left → place ≡ length done → opening_at plan phase place ≡ slice_get left 0
opening_from plan phase place done left is at = ap (λ os. slice_get os place) is ∙ ap (λ n. slice_get (done ++ left) n) at ∙ get_from done left

pub opening_here : (plan : BusPlan) (phase place : ℕ) (done : List Opening) (o : Opening) (left : List Opening) → At plan phase place done o left → opening_at plan phase place ≡ Some o
opening_here plan phase place done o left at = opening_from plan phase place done (o ∷ left) at.phase_is at.place_is

-- one more is done
pub done_more : (plan : BusPlan) (phase place : ℕ) (done : List Opening) (o : Opening) (left : List Opening) → At plan phase place done o left → phase_of plan phase ≡ (done ++ o ∷ []) ++ left
done_more plan phase place done o left at = at.phase_is ∙ sym (append_assoc done (o ∷ []) left)

pub place_more : (plan : BusPlan) (phase place : ℕ) (done : List Opening) (o : Opening) (left : List Opening) → At plan phase place done o left → place + 1 ≡ length (done ++ o ∷ [])
place_more plan phase place done o left at = omega (arith, at.place_is, length-append done (o ∷ []))

-- how many page lists openings have
abbrev pub lists_in : List Opening → ℕ
lists_in [] = 0
lists_in (o ∷ os) = lists_of o + lists_in os

lists_more : (xs ys : List Opening) → lists_in (xs ++ ys) ≡ lists_in xs + lists_in ys
lists_more [] ys = omega arith
lists_more (x ∷ xs) ys = let rest = lists_more xs ys in omega (arith, rest)

some_lists : (b : Bool) → 1 ≤ lists_with b
some_lists true = omega arith
some_lists false = omega arith

-- handles follow each other
pub record FollowsBehind (gpadl : ℕ) (os : List Opening) : Type 0 where
  pub page : ℕ
  pub follows : Follows gpadl page os

behind : (gpadl page : ℕ) (xs ys : List Opening) → Follows gpadl page (xs ++ ys) → FollowsBehind (gpadl + lists_in xs) ys
behind gpadl page [] ys follows = record { page = page; follows = subst (λ g. Follows g page ys) (omega arith) follows }
behind gpadl page (x ∷ xs) ys follows =
    let rest = behind (gpadl + lists_of x) (page + pages_of x) xs ys follows.2 in
    record { page = rest.page; follows = subst (λ g. Follows g rest.page ys) (omega arith) rest.follows }

ahead : (gpadl page : ℕ) (xs ys : List Opening) → Follows gpadl page (xs ++ ys) → Follows gpadl page xs
ahead gpadl page [] ys follows = tt
ahead gpadl page (x ∷ xs) ys follows = (follows.0, follows.1, ahead (gpadl + lists_of x) (page + pages_of x) xs ys follows.2)

within : (low high gpadl page : ℕ) (xs : List Opening) → low ≤ gpadl → gpadl + lists_in xs ≤ high → Follows gpadl page xs → AllByRecursion (λ p. (low ≤ p.gpadl) × (p.gpadl + lists_of p ≤ high)) xs
within low high gpadl page [] less most follows = tt
within low high gpadl page (x ∷ xs) less most follows =
    let e = follows.0 in
    ((omega (arith, e, less), omega (arith, e, most)), within low high (gpadl + lists_of x) (page + pages_of x) xs (omega (arith, less)) (omega (arith, most)) follows.2)

-- an opening that a plan has, with those before and behind it
pub record CutAt (plan : BusPlan) (phase place : ℕ) (o : Opening) : Type 0 where
  pub before : List Opening
  pub done : List Opening
  pub left : List Opening
  pub after : List Opening
  pub at : At plan phase place done o left
  pub whole : all_openings plan.phases ≡ before ++ ((done ++ o ∷ left) ++ after)
  pub before_is : before ≡ all_openings (take phase plan.phases)
  pub after_is : after ≡ all_openings (drop (suc phase) plan.phases)

record CutList (place : ℕ) (o : Opening) (os : List Opening) : Type 0 where
  done : List Opening
  left : List Opening
  is : os ≡ done ++ o ∷ left
  place_is : place ≡ length done

cut_list : (os : List Opening) (place : ℕ) (o : Opening) → slice_get os place ≡ Some o → CutList place o os
cut_list [] place o is = absurd (cc)
cut_list (p ∷ os) zero o is = let this : p ≡ o = cc in record { done = []; left = os; is = ap (λ x. x ∷ os) this; place_is = refl }
cut_list (p ∷ os) (suc place) o is = let rest = cut_list os place o is in record { done = p ∷ rest.done; left = rest.left; is = ap (λ xs. p ∷ xs) rest.is; place_is = ap (λ n. suc n) rest.place_is }

some_phase : (phases : List (List Opening)) (phase place : ℕ) (o : Opening) → slice_get (slice_index_or phases phase []) place ≡ Some o → phase < length phases
some_phase [] phase place o is = absurd (cc)
some_phase (os ∷ phases) zero place o is = omega arith
some_phase (os ∷ phases) (suc phase) place o is = let rest = some_phase phases phase place o is in omega (arith, rest)

pub cut_at : (plan : BusPlan) (phase place : ℕ) (o : Opening) → opening_at plan phase place ≡ Some o → CutAt plan phase place o
cut_at plan phase place o is =
    let cut = cut_list (phase_of plan phase) place o is in
    let less = some_phase plan.phases phase place o is in
    let behind : List Opening = all_openings (drop (suc phase) plan.phases) in
    let front : List Opening = all_openings (take phase plan.phases) in
    record {
      before = front;
      done = cut.done;
      left = cut.left;
      after = behind;
      at = record { in_plan = less; phase_is = cut.is; place_is = cut.place_is };
      whole = openings_cut plan.phases phase less ∙ ap (λ os. front ++ (os ++ behind)) cut.is;
      before_is = refl;
      after_is = refl;
    }

-- the first handle of a phase
abbrev first_of : BusPlan → ℕ → ℕ
first_of plan k = first_gpadl + lists_in (all_openings (take k plan.phases))

first_more : (plan : BusPlan) (k : ℕ) → k < length plan.phases → first_of plan (suc k) ≡ first_of plan k + lists_in (phase_of plan k)
first_more plan k less =
    omega (arith, ap lists_in (openings_more plan.phases k less) ∙ lists_more (all_openings (take k plan.phases)) (phase_of plan k))

phase_follows : (plan : BusPlan) (k : ℕ) → IsPlan plan → k < length plan.phases → FollowsBehind (first_of plan k) (phase_of plan k)
phase_follows plan k planned less =
    let all : Follows first_gpadl 0 (all_openings (take k plan.phases) ++ (phase_of plan k ++ all_openings (drop (suc k) plan.phases))) = subst (Follows first_gpadl 0) (openings_cut plan.phases k less) planned.follow in
    let rest = behind first_gpadl 0 (all_openings (take k plan.phases)) (phase_of plan k ++ all_openings (drop (suc k) plan.phases)) all in
    record { page = rest.page; follows = ahead (first_of plan k) rest.page (phase_of plan k) (all_openings (drop (suc k) plan.phases)) rest.follows }

-- the page lists of earlier phases have lower handles
abbrev IsLow : ℕ → Option ℕ → Type 0
IsLow n None = Unit {0}
IsLow n (Some h) = h < n

low_more : (n m : ℕ) (h : Option ℕ) → n ≤ m → IsLow n h → IsLow m h
low_more n m None less low = tt
low_more n m (Some h) less low = omega (arith, less, low)

lows : (plan : BusPlan) (vps : ℕ → ℕ) (k : ℕ) (relid : ℕ) → IsPlan plan → k ≤ length plan.phases → IsLow (first_of plan k) (guest_before vps plan k relid).gpadl
lows plan vps zero relid planned few = tt
lows plan vps (suc k) relid planned few =
    let less : k < length plan.phases = omega (arith, few) in
    let more = first_more plan k less in
    let here = phase_follows plan k planned less in
    let mine = within (first_of plan k) (first_of plan (suc k)) (first_of plan k) here.page (phase_of plan k) (omega arith) (omega (arith, more)) here.follows in
    marked_has (guest_ends vps) (λ (c : Channel). IsLow (first_of plan (suc k)) c.gpadl) (phase_of plan k) (guest_before vps plan k) relid
    (all_weaker (λ p. (first_of plan k ≤ p.gpadl) × (p.gpadl + lists_of p ≤ first_of plan (suc k))) (λ p. p.gpadl < first_of plan (suc k)) (λ p b. let most = b.1 in let some = some_lists p.buffers in omega (arith, most, some)) (phase_of plan k) mine)
    (low_more (first_of plan k) (first_of plan (suc k)) (guest_before vps plan k relid).gpadl (omega (arith, more)) (lows plan vps k relid planned (omega (arith, less))))

not_low : (n m : ℕ) (h : Option ℕ) → n ≤ m → IsLow n h → is_handle m h ≡ false
not_low n m None less low = refl
not_low n m (Some h) less low = differ h m (λ e. absurd (omega (arith, e, less, low)))

-- an opening of an earlier phase with the relid of a later one wasn't rescinded
earlier_all : (phases : List (List Opening)) (j k : ℕ) → RescindsEnd phases → j < k → k < length phases → All (λ q. All (λ p. p.relid ≡ q.relid → q.rescinded ≡ false) (slice_index_or phases k [])) (slice_index_or phases j [])
earlier_all [] j k ends less few = absurd (omega (arith, few))
earlier_all (os ∷ later) j zero ends less few = absurd (omega (arith, less))
earlier_all (os ∷ later) zero (suc k) ends less few = λ i q in_os. All-get_or (λ ps. All (λ p. p.relid ≡ (get_or os i q).relid → (get_or os i q).rescinded ≡ false) ps) later k [] (omega (arith, few)) (ends.0 i q in_os)
earlier_all (os ∷ later) (suc j) (suc k) ends less few = earlier_all later j k ends.1 (omega (arith, less)) (omega (arith, few))

pub earlier_ends : (plan : BusPlan) (j k : ℕ) → IsPlan plan → j < k → k < length plan.phases → AllByRecursion (λ q. AllByRecursion (λ p. p.relid ≡ q.relid → q.rescinded ≡ false) (phase_of plan k)) (phase_of plan j)
earlier_ends plan j k planned less few =
    all_weaker (λ q. All (λ p. p.relid ≡ q.relid → q.rescinded ≡ false) (phase_of plan k)) (λ q. AllByRecursion (λ p. p.relid ≡ q.relid → q.rescinded ≡ false) (phase_of plan k))
    (λ q all. by_all (λ p. p.relid ≡ q.relid → q.rescinded ≡ false) (phase_of plan k) all)
    (phase_of plan j) (by_all (λ q. All (λ p. p.relid ≡ q.relid → q.rescinded ≡ false) (phase_of plan k)) (phase_of plan j) (earlier_all plan.phases j k planned.ends less few))

pub phase_rises : (plan : BusPlan) (k : ℕ) → IsPlan plan → k < length plan.phases → Rising 1 (firsts (phase_of plan k))
phase_rises plan k planned less = All-get_or (λ os. Rising 1 (firsts os)) plan.phases k [] less planned.rising

-- handles of a phase are no two the same
handles_distinct : (gpadl page : ℕ) (os : List Opening) → Follows gpadl page os → Distinct (λ o. o.gpadl) os
handles_distinct gpadl page [] follows = tt
handles_distinct gpadl page (o ∷ os) follows =
    let mine = follows.0 in
    let some = some_lists o.buffers in
    let from : ℕ = gpadl + lists_of o in
    let rest = within from (from + lists_in os) from (page + pages_of o) os (omega arith) (omega arith) follows.2 in
    (all_weaker (λ p. (from ≤ p.gpadl) × (p.gpadl + lists_of p ≤ from + lists_in os)) (λ p. p.gpadl ≢ o.gpadl) (λ p b e. let low = b.0 in absurd (omega (arith, low, e, mine, some))) os rest, handles_distinct from (page + pages_of o) os follows.2)

-- no list of one opening is one of the other's
abbrev pub Apart : Opening → Opening → Type 0
Apart o p = (h : ℕ) → has_list o h ≡ true → has_list p h ≡ false

either : (a b : Bool) → (a || b) ≡ true → (a ≡ false) → b ≡ true
either true b e off = absurd (let wrong : true ≡ false = off in cc)
either false b e off = e

in_list : (o : Opening) (h : ℕ) → has_list o h ≡ true → (o.gpadl ≤ h) × (h < o.gpadl + lists_of o)
in_list o h is = by_test {P = (o.gpadl ≤ h) × (h < o.gpadl + lists_of o)} (o.gpadl == h)
    (λ e. let here = eqb-true o.gpadl h e in let some = some_lists o.buffers in (omega (arith, here), omega (arith, here, some)))
    (λ e. in_buffers o.buffers refl (either (o.gpadl == h) (is_buffer o h) is e))
  where
    in_buffers : (b : Bool) → o.buffers ≡ b → is_buffer o h ≡ true → (o.gpadl ≤ h) × (h < o.gpadl + lists_of o)
    in_buffers false none is = absurd (let wrong : true ≡ false = sym is ∙ ap (λ c. c && ((o.gpadl + 1 == h) || (o.gpadl + 2 == h))) none in cc)
    in_buffers true has is =
        let three : lists_of o ≡ 3 = ap lists_with has in
        by_test {P = (o.gpadl ≤ h) × (h < o.gpadl + lists_of o)} (o.gpadl + 1 == h)
        (λ e. let here = eqb-true (o.gpadl + 1) h e in (omega (arith, here), omega (arith, here, three)))
        (λ e. let here = eqb-true (o.gpadl + 2) h (either (o.gpadl + 1 == h) (o.gpadl + 2 == h) (sym (ap (λ c. c && ((o.gpadl + 1 == h) || (o.gpadl + 2 == h))) has) ∙ is) e) in (omega (arith, here), omega (arith, here, three)))

off_buffers : (o : Opening) (h : ℕ) (b : Bool) → o.buffers ≡ b → ((o.gpadl ≤ h) → (h < o.gpadl + lists_of o) → ⊥) → is_buffer o h ≡ false
off_buffers o h false none off = ap (λ c. c && ((o.gpadl + 1 == h) || (o.gpadl + 2 == h))) none
off_buffers o h true has off =
    let three : lists_of o ≡ 3 = ap lists_with has in
    (λ i. has i && ((differ (o.gpadl + 1) h (λ e. off (omega (arith, e)) (omega (arith, e, three)))) i || (differ (o.gpadl + 2) h (λ e. off (omega (arith, e)) (omega (arith, e, three)))) i))

off_list : (o : Opening) (h : ℕ) → ((o.gpadl ≤ h) → (h < o.gpadl + lists_of o) → ⊥) → has_list o h ≡ false
off_list o h off =
    (λ i. (differ o.gpadl h (λ e. off (omega (arith, e)) (omega (arith, e, some_lists o.buffers)))) i || (off_buffers o h o.buffers refl off) i)

apart_by : (o p : Opening) → o.gpadl + lists_of o ≤ p.gpadl → Apart o p
apart_by o p less h is = let here = in_list o h is in off_list p h (λ low high. absurd (omega (arith, here.1, less, low)))

apart_back : (o p : Opening) → o.gpadl + lists_of o ≤ p.gpadl → Apart p o
apart_back o p less h is = let here = in_list p h is in off_list o h (λ low high. absurd (omega (arith, here.0, less, high)))

abbrev Spaced : List Opening → Type 0
Spaced os = AllByRecursion (λ p. AllByRecursion (λ q. q.gpadl ≢ p.gpadl → Apart p q) os) os

spaced : (gpadl page : ℕ) (os : List Opening) → Follows gpadl page os → Spaced os
spaced gpadl page [] follows = tt
spaced gpadl page (o ∷ os) follows =
    let mine = follows.0 in
    let from : ℕ = gpadl + lists_of o in
    let ahead = within from (from + lists_in os) from (page + pages_of o) os (omega arith) (omega arith) follows.2 in
    let rest = spaced from (page + pages_of o) os follows.2 in
    let In : Opening → Type 0 = λ p. (from ≤ p.gpadl) × (p.gpadl + lists_of p ≤ from + lists_in os) in (
      ((λ off. absurd (off refl)), all_weaker In (λ q. q.gpadl ≢ o.gpadl → Apart o q) (λ q b off. let low = b.0 in apart_by o q (omega (arith, low, mine))) os ahead),
      both In (λ p. AllByRecursion (λ q. q.gpadl ≢ p.gpadl → Apart p q) os) (λ p. AllByRecursion (λ q. q.gpadl ≢ p.gpadl → Apart p q) (o ∷ os)) (λ p b all. ((λ off. let low = b.0 in apart_back o p (omega (arith, low, mine))), all)) os ahead rest,
    )

-- what a plan says of all openings of a phase, in some order
pub record PhaseHas (plan : BusPlan) (phase : ℕ) (os : List Opening) : Type 0 where
  pub fits : AllByRecursion IsOpening os
  pub known : AllByRecursion (λ p. p.relid ≤ offered_before plan (suc phase)) os
  pub relids : Distinct (λ p. p.relid) os
  pub handles : Distinct (λ p. p.gpadl) os
  pub lists : AllByRecursion (λ p. AllByRecursion (λ q. q.gpadl ≢ p.gpadl → Apart p q) os) os
  pub not_before : (j : ℕ) → j < phase → AllByRecursion (λ q. AllByRecursion (λ p. p.relid ≡ q.relid → ends_given_back q ≡ false) os) (phase_of plan j)
  pub before_handles : AllByRecursion (λ p. (vps : ℕ → ℕ) (relid : ℕ) → is_handle p.gpadl (guest_before vps plan phase relid).gpadl ≡ false) os

-- a sub-channel's relid isn't that of an opening of a later phase
or_false : (a b : Bool) → a ≡ false → b ≡ false → (a || b) ≡ false
or_false true b e f = absurd (cc)
or_false false b e f = f

pub not_given_back : (plan : BusPlan) (j k : ℕ) → IsPlan plan → j < k → k < length plan.phases → AllByRecursion (λ q. AllByRecursion (λ p. p.relid ≡ q.relid → ends_given_back q ≡ false) (phase_of plan k)) (phase_of plan j)
not_given_back plan j k planned less few =
    let ps : List Opening = phase_of plan k in
    both (λ q. AllByRecursion (λ p. p.relid ≡ q.relid → q.rescinded ≡ false) ps) (λ q. is_later q ≡ true → (length plan.kinds < q.relid) × (q.relid ≤ offered_before plan k)) (λ q. AllByRecursion (λ p. p.relid ≡ q.relid → ends_given_back q ≡ false) ps)
    (λ q all sub. both (λ p. p.relid ≡ q.relid → q.rescinded ≡ false) (λ p. (is_later p ≡ false → p.relid ≤ length plan.kinds) × (is_later p ≡ true → offered_before plan k < p.relid)) (λ p. p.relid ≡ q.relid → ends_given_back q ≡ false)
    (λ p gone fresh e. or_false q.rescinded (is_sub q) (gone e) (by_test {P = is_sub q ≡ false} (is_sub q)
    (λ t. let bounds = sub (sub_later q t) in let above = bounds.0 in let below = bounds.1 in by_test {P = is_sub q ≡ false} (is_later p)
    (λ it. let far = fresh.1 it in absurd (omega (arith, far, below, e)))
    (λ it. let near = fresh.0 it in absurd (omega (arith, near, above, e))))
    (λ t. t))) ps all ((phase_relids plan k planned few).fresh)) (phase_of plan j) (earlier_ends plan j k planned less few) (subs_before plan j k planned less (omega (arith, few)))

pub phase_has : (plan : BusPlan) (phase : ℕ) → IsPlan plan → phase < length plan.phases → PhaseHas plan phase (phase_of plan phase)
phase_has plan phase planned less =
    let here = phase_follows plan phase planned less in
    let ids = phase_relids plan phase planned less in
    let mine = within (first_of plan phase) (first_of plan phase + lists_in (phase_of plan phase)) (first_of plan phase) here.page (phase_of plan phase) (omega arith) (omega arith) here.follows in
    record {
      fits = by_all IsOpening (phase_of plan phase) (All-get_or (λ os. All (λ p. IsOpening p) os) plan.phases phase [] less planned.fits);
      known = ids.known;
      relids = ids.distinct;
      handles = handles_distinct (first_of plan phase) here.page (phase_of plan phase) here.follows;
      lists = spaced (first_of plan phase) here.page (phase_of plan phase) here.follows;
      not_before = λ j before. not_given_back plan j phase planned before less;
      before_handles = all_weaker (λ p. (first_of plan phase ≤ p.gpadl) × (p.gpadl + lists_of p ≤ first_of plan phase + lists_in (phase_of plan phase))) (λ p. (vps : ℕ → ℕ) (relid : ℕ) → is_handle p.gpadl (guest_before vps plan phase relid).gpadl ≡ false)
          (λ p b vps relid. let low = b.0 in not_low (first_of plan phase) p.gpadl (guest_before vps plan phase relid).gpadl (omega (arith, low)) (lows plan vps phase relid planned (omega (arith, less)))) (phase_of plan phase) mine;
    }

pub closing_has : (plan : BusPlan) (phase : ℕ) → IsPlan plan → phase < length plan.phases → PhaseHas plan phase (closing_of plan phase)
closing_has plan phase planned less =
    let os : List Opening = phase_of plan phase in
    let has = phase_has plan phase planned less in
    record {
      fits = all_closing IsOpening os has.fits;
      known = all_closing (λ p. p.relid ≤ offered_before plan (suc phase)) os has.known;
      relids = distinct_closing (λ p. p.relid) os has.relids;
      handles = distinct_closing (λ p. p.gpadl) os has.handles;
      lists = all_weaker (λ p. AllByRecursion (λ q. q.gpadl ≢ p.gpadl → Apart p q) os) (λ p. AllByRecursion (λ q. q.gpadl ≢ p.gpadl → Apart p q) (in_closing_order os)) (λ p all. all_closing (λ q. q.gpadl ≢ p.gpadl → Apart p q) os all) (in_closing_order os) (all_closing (λ p. AllByRecursion (λ q. q.gpadl ≢ p.gpadl → Apart p q) os) os has.lists);
      not_before = λ j before. all_weaker (λ q. AllByRecursion (λ p. p.relid ≡ q.relid → ends_given_back q ≡ false) os) (λ q. AllByRecursion (λ p. p.relid ≡ q.relid → ends_given_back q ≡ false) (in_closing_order os)) (λ q all. all_closing (λ p. p.relid ≡ q.relid → ends_given_back q ≡ false) os all) (phase_of plan j) (has.not_before j before);
      before_handles = all_closing (λ p. (vps : ℕ → ℕ) (relid : ℕ) → is_handle p.gpadl (guest_before vps plan phase relid).gpadl ≡ false) os has.before_handles;
    }

-- all that a plan says of an opening
pub record Facts (plan : BusPlan) (phase : ℕ) (done : List Opening) (o : Opening) (left : List Opening) : Type 0 where
  pub fits : IsOpening o
  pub known : o.relid ≤ offered_before plan (suc phase)
  pub done_apart : AllByRecursion (λ p. p.relid ≢ o.relid) done
  pub left_apart : AllByRecursion (λ p. p.relid ≢ o.relid) left
  pub done_handles : AllByRecursion (λ p. p.gpadl ≢ o.gpadl) done
  pub left_handles : AllByRecursion (λ p. p.gpadl ≢ o.gpadl) left
  pub done_lists : AllByRecursion (λ p. Apart o p) done
  pub left_lists : AllByRecursion (λ p. Apart o p) left
  pub not_before : (j : ℕ) → j < phase → AllByRecursion (λ q. q.relid ≡ o.relid → ends_given_back q ≡ false) (phase_of plan j)
  pub before_handles : (vps : ℕ → ℕ) (relid : ℕ) → is_handle o.gpadl (guest_before vps plan phase relid).gpadl ≡ false

facts_in : (plan : BusPlan) (phase : ℕ) (done : List Opening) (o : Opening) (left : List Opening) → PhaseHas plan phase (done ++ o ∷ left) → Facts plan phase done o left
facts_in plan phase done o left has =
    let apart = distinct_mid (λ p. p.relid) done o left has.relids in
    let other = distinct_mid (λ p. p.gpadl) done o left has.handles in
    let parts = all_front (λ q. q.gpadl ≢ o.gpadl → Apart o q) done (o ∷ left) (mid_all (λ p. AllByRecursion (λ q. q.gpadl ≢ p.gpadl → Apart p q) (done ++ o ∷ left)) done o left has.lists) in
    record {
      fits = mid_all IsOpening done o left has.fits;
      known = mid_all (λ p. p.relid ≤ offered_before plan (suc phase)) done o left has.known;
      done_apart = apart.0;
      left_apart = apart.1;
      done_handles = other.0;
      left_handles = other.1;
      done_lists = both (λ q. q.gpadl ≢ o.gpadl) (λ q. q.gpadl ≢ o.gpadl → Apart o q) (λ q. Apart o q) (λ q off apart. apart off) done other.0 parts.0;
      left_lists = both (λ q. q.gpadl ≢ o.gpadl) (λ q. q.gpadl ≢ o.gpadl → Apart o q) (λ q. Apart o q) (λ q off apart. apart off) left other.1 parts.1.1;
      not_before = λ j less. all_weaker (λ q. AllByRecursion (λ p. p.relid ≡ q.relid → ends_given_back q ≡ false) (done ++ o ∷ left)) (λ q. q.relid ≡ o.relid → ends_given_back q ≡ false) (λ q all e. mid_all (λ p. p.relid ≡ q.relid → ends_given_back q ≡ false) done o left all (sym e)) (phase_of plan j) (has.not_before j less);
      before_handles = mid_all (λ p. (vps : ℕ → ℕ) (relid : ℕ) → is_handle p.gpadl (guest_before vps plan phase relid).gpadl ≡ false) done o left has.before_handles;
    }

pub facts : (plan : BusPlan) (phase place : ℕ) (done : List Opening) (o : Opening) (left : List Opening) → IsPlan plan → At plan phase place done o left → Facts plan phase done o left
facts plan phase place done o left planned at = facts_in plan phase done o left (subst (PhaseHas plan phase) at.phase_is (phase_has plan phase planned at.in_plan))

-- the same of one in closing order
pub end_facts : (plan : BusPlan) (phase place : ℕ) (done : List Opening) (o : Opening) (left : List Opening) → IsPlan plan → EndsAt plan phase place done o left → Facts plan phase done o left
end_facts plan phase place done o left planned at = facts_in plan phase done o left (subst (PhaseHas plan phase) at.closing_is (closing_has plan phase planned at.in_plan))

-- places in closing order
pub closing_from : (plan : BusPlan) (phase place : ℕ) (done left : List Opening) → closing_of plan phase ≡ done ++ left → place ≡ length done → closing_at plan phase place ≡ slice_get left 0
closing_from plan phase place done left is at = ap (λ os. slice_get os place) is ∙ ap (λ n. slice_get (done ++ left) n) at ∙ get_from done left

pub closing_here : (plan : BusPlan) (phase place : ℕ) (done : List Opening) (o : Opening) (left : List Opening) → EndsAt plan phase place done o left → closing_at plan phase place ≡ Some o
closing_here plan phase place done o left at = closing_from plan phase place done (o ∷ left) at.closing_is at.place_is

pub ends_more : (plan : BusPlan) (phase place : ℕ) (done : List Opening) (o : Opening) (left : List Opening) → EndsAt plan phase place done o left → closing_of plan phase ≡ (done ++ o ∷ []) ++ left
ends_more plan phase place done o left at = at.closing_is ∙ sym (append_assoc done (o ∷ []) left)

pub ends_place : (plan : BusPlan) (phase place : ℕ) (done : List Opening) (o : Opening) (left : List Opening) → EndsAt plan phase place done o left → place + 1 ≡ length (done ++ o ∷ [])
ends_place plan phase place done o left at = omega (arith, at.place_is, length-append done (o ∷ []))

-- the channel of an opening that is left was offered, while its phase starts
later_of_first : (o : Opening) (left : List Opening) (dialed : Option ℕ) (b : Bool) → o.dialed ≡ dialed → is_sub o ≡ b → is_later o ≡ true → 1 ≤ length (first_subs (o ∷ left)) + count_dialed o.dialed
later_of_first o left (Some port) b d e later = let n = ap count_dialed d in omega (arith, n)
later_of_first o left None true d e later = let here = ap (λ b. length (if b then o ∷ first_subs left else [])) e in omega (arith, here)
later_of_first o left None false d e later = absurd (let wrong : true ≡ false = sym later ∙ later_is o ∙ (λ i. is_some (d i) || e i) in cc)

pub offered_here : (plan : BusPlan) (phase place : ℕ) (done : List Opening) (o : Opening) (left : List Opening) → IsPlan plan → At plan phase place done o left → o.relid ≤ offered_for plan phase done o left
offered_here plan phase place done o left planned at =
    let P : List Opening → Type 0 = λ os. map (λ p. p.relid) (laters os) ≡ range_with_len (offered_before plan phase + 1) (length (laters os)) in
    let ids = phase_relids plan phase planned at.in_plan in
    let mine : P (done ++ o ∷ left) = subst P at.phase_is ids.subs_are in
    let few : AllByRecursion (λ p. is_later p ≡ false → p.relid ≤ length plan.kinds) (done ++ o ∷ left) = subst (AllByRecursion (λ p. is_later p ≡ false → p.relid ≤ length plan.kinds)) at.phase_is (all_weaker (λ p. (is_later p ≡ false → p.relid ≤ length plan.kinds) × (is_later p ≡ true → offered_before plan phase < p.relid)) (λ p. is_later p ≡ false → p.relid ≤ length plan.kinds) (λ p f. f.0) (phase_of plan phase) ids.fresh) in
    by_test {P = o.relid ≤ offered_for plan phase done o left} (is_later o)
    (λ e. let spot = sub_place (offered_before plan phase + 1) done o left e mine in let more = later_of_first o left o.dialed (is_sub o) refl refl e in omega (arith, spot, more))
    (λ e. let low = mid_all (λ p. is_later p ≡ false → p.relid ≤ length plan.kinds) done o left few e in omega (arith, low))

-- behind a channel with buffers no sub-channels stand
bare_at : (done : List Opening) (o : Opening) (left : List Opening) → Bare (done ++ o ∷ left) → o.buffers ≡ true → first_subs left ≡ []
bare_at [] o left bare = bare.0
bare_at (p ∷ done) o left bare = bare_at done o left bare.1

pub none_first : (plan : BusPlan) (phase place : ℕ) (done : List Opening) (o : Opening) (left : List Opening) → IsPlan plan → At plan phase place done o left → o.buffers ≡ true → first_subs left ≡ []
none_first plan phase place done o left planned at has = bare_at done o left (subst Bare at.phase_is (All-get_or (λ os. Bare os) plan.phases phase [] at.in_plan planned.bare)) has

pub none_behind : (plan : BusPlan) (phase place : ℕ) (done : List Opening) (o : Opening) (left : List Opening) → IsPlan plan → At plan phase place done o left → o.buffers ≡ true → subs_next (o ∷ left) ≡ []
none_behind plan phase place done o left planned at has = by_sub (is_sub o)
  where
    by_sub : (b : Bool) → (if b then [] else first_subs left) ≡ []
    by_sub true = refl
    by_sub false = none_first plan phase place done o left planned at has
