-- A channel that is given back at the end of a phase is taken back once, and given back once; one that is offered later is offered once.
use Rattle.std.proofs.Common.{◌≡◌, ◌≢◌, ◌∙◌, ℕ, zero, suc, ◌+◌, ◌<◌, ◌≤◌, ◌==◌, ◌&&◌, ◌||◌, nat_lt, Bool, true, false, cond, List, [], ◌∷◌, ◌++◌, filter, length, map, slice_index_or, Option, Some, None, is_some, if◌then◌else◌, refl, sym, ap, subst, arith}
use Rattle.std.specs.List.{AllByRecursion, flat_map}
use Rattle.std.proofs.lemmas.Bool.{eqb-true}
use Rattle.std.proofs.lemmas.Bool.Decides.{nat_tests}
use Rattle.std.proofs.lemmas.Grind.{flat_map-append}
use Rattle.std.proofs.lemmas.List.{append-nil, map-append}
use Rattle.std.proofs.lemmas.List.Concat.{flat_map-cons}
use Rattle.std.proofs.lemmas.List.Elements.{filter-append}
use Rattle.control_laws.proofs.Words.{Kind, offers_from, Msg, Receive, Send, Opening}
use Rattle.control_model.specs.Plan.{BusPlan, buffer_list, IsOpening, is_sub, is_later, first_subs, subs_next, laters, in_closing_order, opening_at, IsPlan, phase_of, closing_of}
use Rattle.control_model.specs.Messages.{created, opened, offer_sub, offer_service, close, teardown, teardown_buffer, torndown, rescind, release, farewell, farewell_taken}
use Rattle.control_model.specs.Said.{guest_moves, host_moves, guest_contacts, host_contacts, dial_offers, host_buffers, guest_opens, host_opens, host_opens_all, guest_closes, host_closes, guest_in_phase, host_in_phase, from_3_0, ends_given_back}
use Rattle.control_model.specs.Stand.{offered_before, EndsAt}
use Rattle.control_laws.specs.Laws.{is_rescind_of, is_release_of, is_offer_of, RescindedOnce, SubsOnce, ServicesOnce}
use Rattle.control_laws.proofs.Marks.{by_test, same, differ, and_none, or_true}
use Rattle.control_laws.proofs.Never.{only_if, all_offers, host_contact, host_starts, host_moving, host_ends, guest_contact, guest_starts, guest_moving}
use Rattle.control_laws.proofs.Closing.{all_closing, closing_mid}
use Rattle.control_laws.proofs.Cutting.{all_weaker, mid_all}
use Rattle.control_laws.proofs.Relids.{later_is, sub_later, dialed_later, phase_relids, offered_grows, subs_before}
use Rattle.control_laws.proofs.Plans.{cut_at, phase_has, facts, end_facts, not_given_back}
use Rattle.control_laws.proofs.Seats.{starts_first, phase_seated}

-- messages of which none passes
none_pass : (p : Msg → Bool) (ms : List Msg) → AllByRecursion (λ m. p m ≡ false) ms → filter p ms ≡ []
none_pass p [] off = refl
none_pass p (m ∷ ms) off = rw off.0 (none_pass p ms off.1)

-- of all phases one has messages that pass
phases_none : (p : Msg → Bool) (says : List Opening → List Msg) (phases : List (List Opening)) → ((j : ℕ) → j < length phases → filter p (says (slice_index_or phases j [])) ≡ []) → filter p (flat_map says phases) ≡ []
phases_none p says [] none = refl
phases_none p says (os ∷ phases) none =
    let rest = phases_none p says phases (λ j less. none (suc j) (omega (arith, less))) in
    ap (filter p) (flat_map-cons says os phases) ∙ filter-append p (says os) (flat_map says phases) ∙ (λ i. (none 0 (omega arith)) i ++ rest i)

phases_once : (p : Msg → Bool) (says : List Opening → List Msg) (whole : List Msg) (phases : List (List Opening)) (k : ℕ) → k < length phases
    → ((j : ℕ) → j < length phases → j ≢ k → filter p (says (slice_index_or phases j [])) ≡ []) → filter p (says (slice_index_or phases k [])) ≡ whole → filter p (flat_map says phases) ≡ whole
phases_once p says whole [] k less none once = absurd (omega (arith, less))
phases_once p says whole (os ∷ phases) zero less none once =
    let rest = phases_none p says phases (λ j few. none (suc j) (omega (arith, few)) (λ e. absurd (omega (arith, e)))) in
    ap (filter p) (flat_map-cons says os phases) ∙ filter-append p (says os) (flat_map says phases) ∙ (λ i. once i ++ rest i) ∙ append-nil whole
phases_once p says whole (os ∷ phases) (suc k) less none once =
    let rest = phases_once p says whole phases k (omega (arith, less)) (λ j few off. none (suc j) (omega (arith, few)) (λ e. off (omega (arith, e)))) once in
    ap (filter p) (flat_map-cons says os phases) ∙ filter-append p (says os) (flat_map says phases) ∙ (λ i. (none 0 (omega arith) (λ e. absurd (omega (arith, e)))) i ++ rest i)

-- a channel is given back at this opening's end
abbrev Gives : ℕ → Opening → Bool
Gives relid o = (o.relid == relid) && ends_given_back o

-- a side whose closings say one message of a channel that is given back, and of no other one
module _ (relid : ℕ) (p : Msg → Bool) (ends : Opening → List Msg) (taken : Msg) (passes : (o : Opening) → filter p (ends o) ≡ cond (Gives relid o) (taken ∷ []) []) where
  none_ends : (os : List Opening) → AllByRecursion (λ o. Gives relid o ≡ false) os → filter p (flat_map ends os) ≡ []
  none_ends [] all = refl
  none_ends (o ∷ os) all =
      ap (filter p) (flat_map-cons ends o os) ∙ filter-append p (ends o) (flat_map ends os) ∙ (λ i. (passes o ∙ ap (λ b. cond b (taken ∷ []) []) all.0) i ++ (none_ends os all.1) i)

  one_end : (done : List Opening) (o : Opening) (left : List Opening) → AllByRecursion (λ o. Gives relid o ≡ false) done → AllByRecursion (λ o. Gives relid o ≡ false) left → Gives relid o ≡ true → filter p (flat_map ends (done ++ o ∷ left)) ≡ taken ∷ []
  one_end done o left before behind here =
      let c = none_ends left behind in
      ap (filter p) (flat_map-append ends done (o ∷ left)) ∙ filter-append p (flat_map ends done) (flat_map ends (o ∷ left)) ∙ ap (λ xs. filter p (flat_map ends done) ++ filter p xs) (flat_map-cons ends o left)
      ∙ ap (λ xs. filter p (flat_map ends done) ++ xs) (filter-append p (ends o) (flat_map ends left)) ∙ (λ i. (none_ends done before) i ++ ((passes o ∙ ap (λ b. cond b (taken ∷ []) []) here) i ++ c i))

-- no other opening gives it back
other_gives : (plan : BusPlan) (phase place j : ℕ) (done : List Opening) (o : Opening) (left : List Opening) → IsPlan plan → phase_of plan phase ≡ done ++ o ∷ left → phase < length plan.phases → ends_given_back o ≡ true → j < length plan.phases → j ≢ phase
    → AllByRecursion (λ q. Gives o.relid q ≡ false) (phase_of plan j)
other_gives plan phase place j done o left planned is in_plan gone few off =
    by_test {P = AllByRecursion (λ q. Gives o.relid q ≡ false) (phase_of plan j)} (nat_lt j phase)
    (λ e.
    let less : j < phase = grind (arith, nat_tests, e) in
    all_weaker (λ q. AllByRecursion (λ p. p.relid ≡ q.relid → ends_given_back q ≡ false) (phase_of plan phase)) (λ q. Gives o.relid q ≡ false)
    (λ q all. by_test {P = Gives o.relid q ≡ false} (q.relid == o.relid)
    (λ f. let none = mid_all (λ p. p.relid ≡ q.relid → ends_given_back q ≡ false) done o left (subst (AllByRecursion (λ p. p.relid ≡ q.relid → ends_given_back q ≡ false)) is all) (sym (eqb-true q.relid o.relid f)) in ap (λ b. (q.relid == o.relid) && b) none ∙ and_none (q.relid == o.relid))
    (λ f. ap (λ b. b && ends_given_back q) f)) (phase_of plan j) (not_given_back plan j phase planned less in_plan))
    (λ e.
    let more : phase < j = grind (arith, nat_tests, e, off) in
    let all = mid_all (λ q. AllByRecursion (λ p. p.relid ≡ q.relid → ends_given_back q ≡ false) (phase_of plan j)) done o left (subst (AllByRecursion (λ q. AllByRecursion (λ p. p.relid ≡ q.relid → ends_given_back q ≡ false) (phase_of plan j))) is (not_given_back plan phase j planned more few)) in
    all_weaker (λ p. p.relid ≡ o.relid → ends_given_back o ≡ false) (λ q. Gives o.relid q ≡ false)
    (λ q none. by_test {P = Gives o.relid q ≡ false} (q.relid == o.relid)
    (λ f. let wrong : true ≡ false = sym gone ∙ none (eqb-true q.relid o.relid f) in absurd (cc))
    (λ f. ap (λ b. b && ends_given_back q) f)) (phase_of plan j) all)

apart_gives : (relid : ℕ) (os : List Opening) → AllByRecursion (λ p. p.relid ≢ relid) os → AllByRecursion (λ q. Gives relid q ≡ false) os
apart_gives relid os apart = all_weaker (λ p. p.relid ≢ relid) (λ q. Gives relid q ≡ false) (λ q off. ap (λ b. b && ends_given_back q) (differ q.relid relid off)) os apart

given_once : (plan : BusPlan) (phase place : ℕ) (o : Opening) (p : Msg → Bool) (starts moves : List Opening → List Msg) (ends : Opening → List Msg) (taken : Msg) → IsPlan plan → opening_at plan phase place ≡ Some o → ends_given_back o ≡ true
    → ((os : List Opening) → filter p (starts os) ≡ []) → ((os : List Opening) → filter p (moves os) ≡ []) → ((q : Opening) → filter p (ends q) ≡ cond (Gives o.relid q) (taken ∷ []) [])
    → filter p (flat_map (λ os. starts os ++ (moves os ++ flat_map ends (in_closing_order os))) plan.phases) ≡ taken ∷ []
given_once plan phase place o p starts moves ends taken planned is gone none_starts none_moves passes =
    let cut = cut_at plan phase place o is in
    let says : List Opening → List Msg = λ os. starts os ++ (moves os ++ flat_map ends (in_closing_order os)) in
    let in_plan = cut.at.in_plan in
    let mid = closing_mid cut.done o cut.left in
    let closing : closing_of plan phase ≡ mid.done ++ o ∷ mid.left = ap in_closing_order cut.at.phase_is ∙ mid.is in
    let there : EndsAt plan phase (length mid.done) mid.done o mid.left = record { in_plan = in_plan; closing_is = closing; place_is = refl } in
    let fact = end_facts plan phase (length mid.done) mid.done o mid.left planned there in
    let here : Gives o.relid o ≡ true = ap (λ b. b && ends_given_back o) (same o.relid) ∙ gone in
    let one = one_end o.relid p ends taken passes mid.done o mid.left (apart_gives o.relid mid.done fact.done_apart) (apart_gives o.relid mid.left fact.left_apart) here in
    let parts : (os : List Opening) → filter p (says os) ≡ filter p (flat_map ends (in_closing_order os)) = λ os.
    let none = none_starts os in
    filter-append p (starts os) (moves os ++ flat_map ends (in_closing_order os)) ∙ ap (λ xs. xs ++ filter p (moves os ++ flat_map ends (in_closing_order os))) none ∙ filter-append p (moves os) (flat_map ends (in_closing_order os))
    ∙ ap (λ xs. xs ++ filter p (flat_map ends (in_closing_order os))) (none_moves os) in
    phases_once p says (taken ∷ []) plan.phases phase in_plan
    (λ j few off. parts (phase_of plan j) ∙ none_ends o.relid p ends taken passes (closing_of plan j) (all_closing (λ q. Gives o.relid q ≡ false) (phase_of plan j) (other_gives plan phase place j cut.done o cut.left planned cut.at.phase_is in_plan gone few off)))
    (parts (phase_of plan phase) ∙ ap (λ os. filter p (flat_map ends os)) closing ∙ one)

-- between the contact and the farewell
between : (p : Msg → Bool) (front mid back whole : List Msg) → filter p front ≡ [] → filter p back ≡ [] → filter p mid ≡ whole → filter p (front ++ (mid ++ back)) ≡ whole ++ []
between p front mid back whole none_front none_back is =
    filter-append p front (mid ++ back) ∙ ap (λ xs. xs ++ filter p (mid ++ back)) none_front ∙ filter-append p mid back ∙ (λ i. is i ++ none_back i)

-- of one channel
it_passes : (r relid : ℕ) (m : ℕ → Msg) → cond (r == relid) (m r ∷ []) [] ≡ cond ((r == relid) && true) (m relid ∷ []) []
it_passes r relid m = by_test {P = cond (r == relid) (m r ∷ []) [] ≡ cond ((r == relid) && true) (m relid ∷ []) []} (r == relid)
    (λ e. ap (λ b. cond b (m r ∷ []) []) e ∙ ap (λ q. m q ∷ []) (eqb-true r relid e) ∙ sym (ap (λ b. cond (b && true) (m relid ∷ []) []) e))
    (λ e. ap (λ b. cond b (m r ∷ []) []) e ∙ sym (ap (λ b. cond (b && true) (m relid ∷ []) []) e))

none_passes : (r relid : ℕ) (m : Msg) → [] ≡ cond ((r == relid) && false) (m ∷ []) []
none_passes r relid m = sym (ap (λ b. cond b (m ∷ []) []) (and_none (r == relid)))

host_passes : (relid : ℕ) (o : Opening) (b e c : Bool) → filter (is_rescind_of relid) (if b then rescind o.relid ∷ [] else (if e then torndown (buffer_list o Send) ∷ torndown (buffer_list o Receive) ∷ [] else []) ++ (torndown o.gpadl ∷ (if c then rescind o.relid ∷ [] else []))) ≡ cond ((o.relid == relid) && (b || c)) (rescind relid ∷ []) []
host_passes relid o true e c = it_passes o.relid relid rescind
host_passes relid o false true true = it_passes o.relid relid rescind
host_passes relid o false false true = it_passes o.relid relid rescind
host_passes relid o false true false = none_passes o.relid relid (rescind relid)
host_passes relid o false false false = none_passes o.relid relid (rescind relid)

guest_passes : (relid : ℕ) (o : Opening) (b e c : Bool) → filter (is_release_of relid) (if b then release o.relid ∷ [] else (if e then teardown_buffer o Send ∷ teardown_buffer o Receive ∷ [] else []) ++ (close o.relid ∷ teardown o ∷ (if c then release o.relid ∷ [] else []))) ≡ cond ((o.relid == relid) && (b || c)) (release relid ∷ []) []
guest_passes relid o true e c = it_passes o.relid relid release
guest_passes relid o false true true = it_passes o.relid relid release
guest_passes relid o false false true = it_passes o.relid relid release
guest_passes relid o false true false = none_passes o.relid relid (release relid)
guest_passes relid o false false false = none_passes o.relid relid (release relid)

host_once : (plan : BusPlan) (phase place : ℕ) (o : Opening) → IsPlan plan → opening_at plan phase place ≡ Some o → ends_given_back o ≡ true → filter (is_rescind_of o.relid) (flat_map (host_in_phase plan) plan.phases) ≡ rescind o.relid ∷ []
host_once plan phase place o planned is gone = given_once plan phase place o (is_rescind_of o.relid) host_opens_all (host_moves plan) host_closes (rescind o.relid) planned is gone
    (λ os. none_pass (is_rescind_of o.relid) (host_opens_all os) (host_starts (λ m. is_rescind_of o.relid m ≡ false) (λ k r s. refl) (λ r h. refl) (λ r. refl) os))
    (λ os. none_pass (is_rescind_of o.relid) (host_moves plan os) (host_moving (λ m. is_rescind_of o.relid m ≡ false) plan os (λ r. refl))) (λ q. host_passes o.relid q q.rescinded q.buffers (is_sub q))

guest_once : (plan : BusPlan) (phase place : ℕ) (o : Opening) → IsPlan plan → opening_at plan phase place ≡ Some o → ends_given_back o ≡ true → filter (is_release_of o.relid) (flat_map (guest_in_phase plan) plan.phases) ≡ release o.relid ∷ []
guest_once plan phase place o planned is gone =
    given_once plan phase place o (is_release_of o.relid) (flat_map guest_opens) (guest_moves plan) guest_closes (release o.relid) planned is gone
    (λ os. none_pass (is_release_of o.relid) (flat_map guest_opens os) (guest_starts (λ m. is_release_of o.relid m ≡ false) (λ p. refl) (λ h. refl) (λ b. refl) (λ q. refl) os))
    (λ os. none_pass (is_release_of o.relid) (guest_moves plan os) (guest_moving (λ m. is_release_of o.relid m ≡ false) plan os (λ r v. refl))) (λ q. guest_passes o.relid q q.rescinded q.buffers (is_sub q))

host_said_once : (plan : BusPlan) (phase place : ℕ) (o : Opening) (posted : List Msg) → IsPlan plan → opening_at plan phase place ≡ Some o → ends_given_back o ≡ true → posted ≡ host_contacts plan ++ (flat_map (host_in_phase plan) plan.phases ++ from_3_0 plan (farewell_taken ∷ []))
    → filter (is_rescind_of o.relid) posted ≡ rescind o.relid ∷ []
host_said_once plan phase place o posted planned is gone said =
    ap (filter (is_rescind_of o.relid)) said ∙ between (is_rescind_of o.relid) (host_contacts plan) (flat_map (host_in_phase plan) plan.phases) (from_3_0 plan (farewell_taken ∷ [])) (rescind o.relid ∷ [])
    (none_pass (is_rescind_of o.relid) (host_contacts plan) (host_contact (λ m. is_rescind_of o.relid m ≡ false) plan (λ n. refl) (all_offers (λ m. is_rescind_of o.relid m ≡ false) (λ k r. refl) 1 plan.kinds) refl))
    (none_pass (is_rescind_of o.relid) (from_3_0 plan (farewell_taken ∷ [])) (only_if (λ m. is_rescind_of o.relid m ≡ false) _ (farewell_taken ∷ []) (refl, tt))) (host_once plan phase place o planned is gone)

guest_said_once : (plan : BusPlan) (phase place : ℕ) (o : Opening) (posted : List Msg) → IsPlan plan → opening_at plan phase place ≡ Some o → ends_given_back o ≡ true → posted ≡ guest_contacts plan ++ (flat_map (guest_in_phase plan) plan.phases ++ from_3_0 plan (farewell ∷ []))
    → filter (is_release_of o.relid) posted ≡ release o.relid ∷ []
guest_said_once plan phase place o posted planned is gone said =
    ap (filter (is_release_of o.relid)) said ∙ between (is_release_of o.relid) (guest_contacts plan) (flat_map (guest_in_phase plan) plan.phases) (from_3_0 plan (farewell ∷ [])) (release o.relid ∷ [])
    (none_pass (is_release_of o.relid) (guest_contacts plan) (guest_contact (λ m. is_release_of o.relid m ≡ false) plan (λ v. refl) refl))
    (none_pass (is_release_of o.relid) (from_3_0 plan (farewell ∷ [])) (only_if (λ m. is_release_of o.relid m ≡ false) _ (farewell ∷ []) (refl, tt))) (guest_once plan phase place o planned is gone)

pub once_law : RescindedOnce
once_law plan g h phase place o planned over is gone =
    let given : ends_given_back o ≡ true = ap (λ b. b || is_sub o) gone in
    (host_said_once plan phase place o h.posted planned is given over.host_said, guest_said_once plan phase place o g.posted planned is given over.guest_said)

-- the host offers a channel later: of all that it says only the offers of such channels count
none_before : (relid r : ℕ) (kinds : List Kind) → r + length kinds ≤ relid → AllByRecursion (λ m. is_offer_of relid m ≡ false) (offers_from r kinds)
none_before relid r [] few = tt
none_before relid r (kind ∷ kinds) few = (differ r relid (λ e. absurd (omega (arith, e, few))), none_before relid (r + 1) kinds (omega (arith, few)))

join : (t : Bool) (m : Msg) (xs ys zs : List Msg) → xs ++ ys ≡ zs → cond t (m ∷ xs) xs ++ ys ≡ cond t (m ∷ zs) zs
join true m xs ys zs e = ap (λ ns. m ∷ ns) e
join false m xs ys zs e = e

join_one : (t : Bool) (m : Msg) (xs ys : List Msg) → xs ≡ ys → cond t (m ∷ []) [] ++ xs ≡ cond t (m ∷ ys) ys
join_one true m xs ys e = ap (λ ns. m ∷ ns) e
join_one false m xs ys e = e

-- the offer of a channel that is offered later
abbrev offer_by : Opening → Option ℕ → Msg
offer_by o None = offer_sub o
offer_by o (Some port) = offer_service port o.relid

abbrev offer_of : Opening → Msg
offer_of o = offer_by o o.dialed

abbrev Alone : Opening → Type 0
Alone o = is_some o.dialed ≡ true → is_sub o ≡ false

module _ (relid : ℕ) where
  abbrev offers_in : List Opening → List Msg
  offers_in os = filter (is_offer_of relid) (map offer_of os)

  abbrev offers_subs : List Opening → List Msg
  offers_subs os = filter (is_offer_of relid) (map offer_sub os)

  abbrev offers_all : List Opening → List Msg
  offers_all os = filter (is_offer_of relid) (host_opens_all os)

  abbrev dialed_in : Opening → List Msg
  dialed_in o = filter (is_offer_of relid) (dial_offers o.relid o.dialed)

  by_relid : (o : Opening) (dialed : Option ℕ) → is_offer_of relid (offer_by o dialed) ≡ (o.relid == relid)
  by_relid o None = refl
  by_relid o (Some port) = refl

  more_in : (o : Opening) (os : List Opening) (m : Msg) → offer_of o ≡ m → is_later o ≡ true → offers_in (laters (o ∷ os)) ≡ cond (o.relid == relid) (m ∷ offers_in (laters os)) (offers_in (laters os))
  more_in o os m is later =
      ap (λ b. offers_in (cond b (o ∷ laters os) (laters os))) later ∙ ap (λ t. cond t (offer_of o ∷ offers_in (laters os)) (offers_in (laters os))) (by_relid o o.dialed)
      ∙ ap (λ n. cond (o.relid == relid) (n ∷ offers_in (laters os)) (offers_in (laters os))) is

  offers_one : (o : Opening) (os : List Opening) (dialed : Option ℕ) (b : Bool) → o.dialed ≡ dialed → is_sub o ≡ b → Alone o → offers_subs (first_subs os) ++ offers_all os ≡ offers_in (laters os)
      → offers_subs (first_subs (o ∷ os)) ++ (dialed_in o ++ (offers_subs (subs_next (o ∷ os)) ++ offers_all os)) ≡ offers_in (laters (o ∷ os))
  offers_one o os (Some port) true is e alone rest = absurd (let wrong : true ≡ false = sym e ∙ alone (ap is_some is) in cc)
  offers_one o os None true is e alone rest =
      let a = ap (λ b. offers_subs (if b then o ∷ first_subs os else [])) e in
      let none = ap (λ d. filter (is_offer_of relid) (dial_offers o.relid d)) is in
      let c = ap (λ b. offers_subs (if b then [] else first_subs os)) e in
      (λ i. a i ++ (none i ++ (c i ++ offers_all os))) ∙ join (o.relid == relid) (offer_sub o) (offers_subs (first_subs os)) (offers_all os) (offers_in (laters os)) rest ∙ sym (more_in o os (offer_sub o) (ap (offer_by o) is) (sub_later o e))
  offers_one o os (Some port) false is e alone rest =
      let a = ap (λ b. offers_subs (if b then o ∷ first_subs os else [])) e in
      let one = ap (λ d. filter (is_offer_of relid) (dial_offers o.relid d)) is in
      let c = ap (λ b. offers_subs (if b then [] else first_subs os)) e in
      (λ i. a i ++ (one i ++ (c i ++ offers_all os))) ∙ join_one (o.relid == relid) (offer_service port o.relid) (offers_subs (first_subs os) ++ offers_all os) (offers_in (laters os)) rest
      ∙ sym (more_in o os (offer_service port o.relid) (ap (offer_by o) is) (dialed_later o (ap is_some is)))
  offers_one o os None false is e alone rest =
      let none = ap (λ d. filter (is_offer_of relid) (dial_offers o.relid d)) is in
      let c = ap (λ b. offers_subs (if b then [] else first_subs os)) e in
      let now : is_later o ≡ false = later_is o ∙ (λ i. is_some (is i) || e i) in
      (λ i. (ap (λ b. offers_subs (if b then o ∷ first_subs os else [])) e) i ++ (none i ++ (c i ++ offers_all os))) ∙ rest ∙ sym (ap (λ b. offers_in (cond b (o ∷ laters os) (laters os))) now)

  opens_so : (o : Opening) → filter (is_offer_of relid) (host_opens o) ≡ dialed_in o
  opens_so o = filter-append (is_offer_of relid) (dial_offers o.relid o.dialed) (created o.relid o.gpadl ∷ opened o.relid o.relid ∷ host_buffers o) ∙ ap (λ xs. dialed_in o ++ xs) (none_pass (is_offer_of relid) (host_buffers o) (only_if (λ m. is_offer_of relid m ≡ false) o.buffers _ (refl, (refl, tt)))) ∙ append-nil (dialed_in o)

  offers_so : (os : List Opening) → AllByRecursion Alone os → offers_subs (first_subs os) ++ offers_all os ≡ offers_in (laters os)
  offers_so [] all = refl
  offers_so (o ∷ os) all =
      let rest : List Msg = map offer_sub (subs_next (o ∷ os)) ++ host_opens_all os in
      let one = opens_so o in
      let more = filter-append (is_offer_of relid) (map offer_sub (subs_next (o ∷ os))) (host_opens_all os) in
      ap (λ xs. offers_subs (first_subs (o ∷ os)) ++ xs) (filter-append (is_offer_of relid) (host_opens o) rest ∙ (λ i. one i ++ more i)) ∙ offers_one o os o.dialed (is_sub o) refl refl all.0 (offers_so os all.1)

  none_one : (o : Opening) (os : List Opening) (b : Bool) → (b ≡ true → o.relid ≢ relid) → offers_in (laters os) ≡ [] → offers_in (cond b (o ∷ laters os) (laters os)) ≡ []
  none_one o os true off rest = ap (λ t. cond t (offer_of o ∷ offers_in (laters os)) (offers_in (laters os))) (by_relid o o.dialed ∙ differ o.relid relid (off refl)) ∙ rest
  none_one o os false off rest = rest

  none_later : (os : List Opening) → AllByRecursion (λ q. is_later q ≡ true → q.relid ≢ relid) os → offers_in (laters os) ≡ []
  none_later [] all = refl
  none_later (o ∷ os) all = none_one o os (is_later o) all.0 (none_later os all.1)

  one_later : (done : List Opening) (o : Opening) (left : List Opening) → o.relid ≡ relid → is_later o ≡ true → AllByRecursion (λ q. is_later q ≡ true → q.relid ≢ relid) done → AllByRecursion (λ q. is_later q ≡ true → q.relid ≢ relid) left
      → offers_in (laters (done ++ o ∷ left)) ≡ offer_of o ∷ []
  one_later done o left is later before behind =
      let here : (o.relid == relid) ≡ true = ap (λ r. o.relid == r) (sym is) ∙ same o.relid in
      ap offers_in (filter-append is_later done (o ∷ left)) ∙ ap (filter (is_offer_of relid)) (map-append offer_of (laters done) (laters (o ∷ left))) ∙ filter-append (is_offer_of relid) (map offer_of (laters done)) (map offer_of (laters (o ∷ left)))
      ∙ ap (λ xs. offers_in (laters done) ++ xs) (more_in o left (offer_of o) refl later) ∙ ap (λ t. offers_in (laters done) ++ cond t (offer_of o ∷ offers_in (laters left)) (offers_in (laters left))) here
      ∙ (λ i. (none_later done before) i ++ (offer_of o ∷ (none_later left behind) i))

  phase_offers : (plan : BusPlan) (j : ℕ) → IsPlan plan → j < length plan.phases → filter (is_offer_of relid) (host_in_phase plan (phase_of plan j)) ≡ offers_in (laters (phase_of plan j)) ++ []
  phase_offers plan j planned few =
      let os : List Opening = phase_of plan j in
      let alone = all_weaker IsOpening Alone (λ q fits. fits.alone) os (phase_has plan j planned few).fits in
      let ends = none_pass (is_offer_of relid) (flat_map host_closes (closing_of plan j)) (host_ends (λ m. is_offer_of relid m ≡ false) (λ h. refl) (λ r. refl) (closing_of plan j)) in
      let moves = none_pass (is_offer_of relid) (host_moves plan os) (host_moving (λ m. is_offer_of relid m ≡ false) plan os (λ r. refl)) in
      filter-append (is_offer_of relid) (host_opens_all os) (host_moves plan os ++ flat_map host_closes (closing_of plan j)) ∙ ap (λ xs. filter (is_offer_of relid) (host_opens_all os) ++ xs) (filter-append (is_offer_of relid) (host_moves plan os) (flat_map host_closes (closing_of plan j)))
      ∙ (λ i. (sym (ap (λ xs. offers_subs xs ++ offers_all os) (starts_first os (phase_seated plan j planned few))) ∙ offers_so os alone) i ++ (moves i ++ ends i))

-- no other one has its relid
other_relids : (plan : BusPlan) (phase j : ℕ) (o : Opening) → IsPlan plan → phase < length plan.phases → offered_before plan phase < o.relid → o.relid ≤ offered_before plan (suc phase) → j < length plan.phases → j ≢ phase
    → AllByRecursion (λ q. is_later q ≡ true → q.relid ≢ o.relid) (phase_of plan j)
other_relids plan phase j o planned in_plan low high few off =
    by_test {P = AllByRecursion (λ q. is_later q ≡ true → q.relid ≢ o.relid) (phase_of plan j)} (nat_lt j phase)
    (λ e.
    let less : j < phase = grind (arith, nat_tests, e) in
    all_weaker (λ q. is_later q ≡ true → (length plan.kinds < q.relid) × (q.relid ≤ offered_before plan phase)) (λ q. is_later q ≡ true → q.relid ≢ o.relid)
    (λ q bounds sub is. let most = (bounds sub).1 in absurd (omega (arith, most, low, is))) (phase_of plan j) (subs_before plan j phase planned less (omega (arith, in_plan))))
    (λ e.
    let more : phase < j = grind (arith, nat_tests, e, off) in
    let up = offered_grows plan (suc phase) j more (omega (arith, few)) in
    all_weaker (λ p. (is_later p ≡ false → p.relid ≤ length plan.kinds) × (is_later p ≡ true → offered_before plan j < p.relid)) (λ q. is_later q ≡ true → q.relid ≢ o.relid)
    (λ q fresh sub is. let far = fresh.1 sub in absurd (omega (arith, far, up, high, is))) (phase_of plan j) (phase_relids plan j planned few).fresh)

offered_once : (plan : BusPlan) (phase place : ℕ) (o : Opening) → IsPlan plan → opening_at plan phase place ≡ Some o → is_later o ≡ true → (length plan.kinds < o.relid) × (filter (is_offer_of o.relid) (flat_map (host_in_phase plan) plan.phases) ≡ offer_of o ∷ [])
offered_once plan phase place o planned is sub =
    let cut = cut_at plan phase place o is in
    let in_plan = cut.at.in_plan in
    let fact = facts plan phase place cut.done o cut.left planned cut.at in
    let fresh : AllByRecursion (λ p. (is_later p ≡ false → p.relid ≤ length plan.kinds) × (is_later p ≡ true → offered_before plan phase < p.relid)) (cut.done ++ o ∷ cut.left) =
    subst (AllByRecursion (λ p. (is_later p ≡ false → p.relid ≤ length plan.kinds) × (is_later p ≡ true → offered_before plan phase < p.relid))) cut.at.phase_is (phase_relids plan phase planned in_plan).fresh in
    let low = (mid_all (λ p. (is_later p ≡ false → p.relid ≤ length plan.kinds) × (is_later p ≡ true → offered_before plan phase < p.relid)) cut.done o cut.left fresh).1 sub in
    let apart : (os : List Opening) → AllByRecursion (λ p. p.relid ≢ o.relid) os → AllByRecursion (λ q. is_later q ≡ true → q.relid ≢ o.relid) os = λ os all. all_weaker (λ p. p.relid ≢ o.relid) (λ q. is_later q ≡ true → q.relid ≢ o.relid) (λ q off it. off) os all in
    let one = one_later o.relid cut.done o cut.left refl sub (apart cut.done fact.done_apart) (apart cut.left fact.left_apart) in (
      omega (arith, low),
      phases_once (is_offer_of o.relid) (host_in_phase plan) (offer_of o ∷ []) plan.phases phase in_plan
          (λ j few off.
          phase_offers o.relid plan j planned few ∙ (λ i. (none_later o.relid (phase_of plan j) (other_relids plan phase j o planned in_plan low fact.known few off)) i ++ []))
          (phase_offers o.relid plan phase planned in_plan ∙ ap (λ os. offers_in o.relid (laters os) ++ []) cut.at.phase_is ∙ (λ i. one i ++ [])),
    )

-- so the filtered list is that of one offer
said_offer_once : (plan : BusPlan) (phase place : ℕ) (o : Opening) (posted : List Msg) → IsPlan plan → opening_at plan phase place ≡ Some o → is_later o ≡ true → posted ≡ host_contacts plan ++ (flat_map (host_in_phase plan) plan.phases ++ from_3_0 plan (farewell_taken ∷ []))
    → filter (is_offer_of o.relid) posted ≡ offer_of o ∷ []
said_offer_once plan phase place o posted planned is later said =
    let offers = offered_once plan phase place o planned is later in
    ap (filter (is_offer_of o.relid)) said ∙ between (is_offer_of o.relid) (host_contacts plan) (flat_map (host_in_phase plan) plan.phases) (from_3_0 plan (farewell_taken ∷ [])) (offer_of o ∷ [])
    (none_pass (is_offer_of o.relid) (host_contacts plan) (host_contact (λ m. is_offer_of o.relid m ≡ false) plan (λ n. refl) (none_before o.relid 1 plan.kinds (let above = offers.0 in omega (arith, above))) refl))
    (none_pass (is_offer_of o.relid) (from_3_0 plan (farewell_taken ∷ [])) (only_if (λ m. is_offer_of o.relid m ≡ false) _ (farewell_taken ∷ []) (refl, tt))) offers.1

no_service : (o : Opening) (dialed : Option ℕ) → o.dialed ≡ dialed → Alone o → is_sub o ≡ true → offer_of o ≡ offer_sub o
no_service o None is alone sub = ap (offer_by o) is
no_service o (Some port) is alone sub = absurd (let wrong : true ≡ false = sym sub ∙ alone (ap is_some is) in cc)

pub subs_once_law : SubsOnce
subs_once_law plan g h phase place o planned over is sub =
    let given : ends_given_back o ≡ true = ap (λ b. o.rescinded || b) sub ∙ or_true o.rescinded in
    let cut = cut_at plan phase place o is in
    let fact = facts plan phase place cut.done o cut.left planned cut.at in (
      said_offer_once plan phase place o h.posted planned is (sub_later o sub) over.host_said ∙ ap (λ m. m ∷ []) (no_service o o.dialed refl fact.fits.alone sub),
      host_said_once plan phase place o h.posted planned is given over.host_said,
      guest_said_once plan phase place o g.posted planned is given over.guest_said,
    )

pub services_once_law : ServicesOnce
services_once_law plan g h phase place o port planned over is asked =
    said_offer_once plan phase place o h.posted planned is (dialed_later o (ap is_some asked)) over.host_said ∙ ap (λ d. offer_by o d ∷ []) asked
