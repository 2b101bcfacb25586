-- A guest takes the next message that its host says.
use Rattle.std.proofs.Common.{◌≡◌, ◌≢◌, ◌∙◌, ℕ, zero, suc, ◌+◌, ◌-◌, ◌<◌, ◌≤◌, ◌==◌, ◌&&◌, ◌||◌, not, true, false, Bool, nat_le, if◌then◌else◌, List, [], ◌∷◌, ◌++◌, length, map, drop, replicate, slice_get, slice_set, Option, Some, None, is_some, Ok, All, get_or, ◌^◌, refl, sym, ap, subst, append_assoc, length-append, arith}
use Rattle.std.specs.Option.{option_to_list}
use Rattle.std.specs.List.{AllByRecursion, flat_map, position_from}
use Rattle.std.proofs.lemmas.Bool.{eq-eqb}
use Rattle.std.proofs.lemmas.Bool.Decides.{nat_tests}
use Rattle.std.proofs.lemmas.List.{append-nil, length-replicate}
use Rattle.std.proofs.lemmas.List.Elements.{All-get_or}
use Rattle.control_laws.proofs.Words.{Version, Kind, Disk, Sock, versions_tried, answers_modify, Part, Contact, PhaseStart, PhaseEnd, Unload, class_id, offer, offers_from, GuestSide, State, Opened, Modifying, Closing, Closed, Released, WantOpen, Msg, Opening, Buffer, Receive, Send, Channel, Change, Same, Now, One, GuestWait, Response, Offers, SubOffer, ServiceOffer, Created, AwaitsOpened, Listed, Modified, Unlisted, Torn, Rescinded, Unloaded, GuestTurn}
use Rattle.chan_state.specs.declared.state.State.TheVariants.{Opening as IsOpening}
use Rattle.control_model.specs.declared.change.Change.TheVariants.{Offered}
use Rattle.control_model.specs.declared.guest_wait.GuestWait.TheVariants.{Nothing}
use Rattle.control_model.specs.Plan.{BusPlan, buffer_list, is_sub, is_of_sub, first_subs, subs_next, opening_at, closing_at, IsPlan, IsPort, HasPort, phase_of, closing_of}
use Rattle.control_model.specs.Channels.{by_relid, lived, changed, is_handle, place_of_list}
use Rattle.control_model.specs.Messages.{propose, respond, request, delivered, created, open_on, opened, modified, offer_sub, offer_service, pages_from, buffer_pages, close, teardown, teardown_buffer, torndown, rescind, release, farewell_taken, Sends}
use Rattle.control_model.specs.Guest.{GuestSeen, idle, is_service, is_service_offer, service_offered, lists as lists_turn, offered_channel, proposal, proposes, answered, device_offered, is_sub_offer, goes_behind, sub_offered, on_offer, opens, created_for, on_created, fills as fills_turn, filled_for, opens_next, opens_with, opened_for, on_result, is_modifying, in_state, then_in, waits_answer, on_modified, torn_at, torn_then, torn_for, ended_for, torn_rings, empties, empties_list, emptied_at, closes_one, on_rescind, lists_next, closes_next, guest_hears, waits_for_nothing}
use Rattle.control_model.specs.Said.{agreed, answer_to, moved, guest_moves, host_moves, dial_offers, guest_buffer, host_buffer, host_buffers, guest_opens, host_opens_all, guest_closes, host_closes, ends_given_back}
use Rattle.control_model.specs.GuestAt.{guest_from, host_from, lists_dialed, opens_listed, answers_list, answers_open, fills_opened, fills_listed, answers_fill, from_first_sub, empties_left, emptied_left, torn_left, gives_sub, gives_one, takes_one, end_to_say, end_to_hear, moves_to_say, start_to_say, to_say, to_hear, GuestStands}
use Rattle.control_model.specs.GuestAt.GuestStands.{proposes as IsProposing, asks, contacted, offers as IsOffering, dials, lists, opens as IsOpened, fills as IsFilling, moves, empties as IsEmptying, closes as IsClosing, gives_back, gives_sub_back, leaves, is_over}
use Rattle.gpadl.proofs.Cutting.{cuts_so}
use Rattle.control_model.proofs.KindLaws.{kind_of_class}
use Rattle.control_model.specs.Stand.{At, EndsAt, offered_before, offered_by, offered_for, count_dialed, marked, end_state, guest_is, guest_ends, guest_before, Stand, Tries, Agreed, Meet, vps_before}
use Rattle.control_laws.proofs.NextOne.{guest_next_awaits, guest_next_stands, guest_next_sends}
use Rattle.control_laws.proofs.Logs.{Logs, a_guest}
use Rattle.control_laws.proofs.Marks.{by_test, same, at_relid, marked_append, marked_apart, marked_here, marked_there, stand_now, stand_add, stand_mark, stand_join, stand_at}
use Rattle.control_laws.proofs.Closing.{Distinct, distinct_mid}
use Rattle.control_laws.proofs.Cutting.{all_weaker, mid_all, all_front, all_snoc}
use Rattle.control_laws.proofs.Counts.{count_next, done_known, unopened, service_at}
use Rattle.control_laws.proofs.Plans.{phase_has, Facts, facts, opening_from, opening_here, offered_here, done_more, place_more, end_facts, closing_here, ends_more, ends_place, none_first, none_behind}
use Rattle.control_laws.proofs.Lower.{lower_one}
use Rattle.control_laws.proofs.Offering.{kind_same, one_more, all_alike}
use Rattle.control_laws.proofs.Handles.{can_open, find_list, closing_handle}
use Rattle.control_laws.proofs.Next.{Turned, heard_so}
use Rattle.control_laws.proofs.Vps.{vp_known, moved_all, moved_distinct, movers_are, answers_are, own_marked, host_rest}
use Rattle.control_laws.proofs.Moving.{Known, phase_known, guest_opened, then_now, next_list, answers_left}
use Rattle.control_laws.proofs.NextEnd.{NextIs, next_is, heard_with, GuestEnds, guest_open, guest_goes, guest_stands_so, guest_next}
use Rattle.control_laws.proofs.Tried.{one_tried, next_tried, first_tried}
use Rattle.control_laws.proofs.Saying.{guest_onward, host_onward, guest_then, host_then, lists_more, answers_more, drop_all, left_at, ends_left, ends_said, ends_heard}
use Rattle.control_laws.proofs.Seats.{AreSubs, first_run, no_first, no_subs_next, sub_at}

-- a message is taken, and the guest goes on
pub record GuestStep (plan : BusPlan) (g : GuestSeen) (m : Msg) : Type 0 where
  pub turn : GuestTurn
  pub hears : guest_hears g m ≡ Ok turn
  pub goes : Turned plan g.part g.channels turn
  pub says : (sent : List Msg) → Sends plan turn.burst sent → to_say plan g.part g.awaits ≡ sent ++ to_say plan g.part turn.awaits
  pub heard : to_hear plan g.part g.awaits (length g.channels) ≡ m ∷ to_hear plan g.part turn.awaits (length (changed (changed g.channels turn.heard) turn.wished))

-- VERSION_RESPONSE
pub step_accepts : (plan : BusPlan) (logs : Logs) (v : Version) → IsPlan plan → Agreed plan v
    → GuestStep plan (a_guest plan logs (Some Contact) (Response v) None []) (respond 1)
step_accepts plan logs v planned agreed =
    let turn : GuestTurn = answered (a_guest plan logs (Some Contact) (Response v) None []) v 1 in
    let one = one_tried plan v agreed in
    let has : nat_le v.0 plan.host.0 ≡ true = grind (arith, nat_tests, agreed.within_host) in
    record {
      turn = turn;
      hears = refl;
      goes = asks v 0 agreed (omega arith);
      says = λ sent e. ap (λ vs. (map propose (drop 1 vs) ++ request ∷ []) ++ guest_from plan 0) one ∙ ap (λ s. s ++ guest_from plan 0) (sym e);
      heard = ap (λ vs. (map (answer_to plan) vs ++ (offers_from 1 plan.kinds ++ delivered ∷ [])) ++ host_from plan 0) one ∙ ap (λ b. respond (if b then 1 else 0) ∷ ((offers_from 1 plan.kinds ++ delivered ∷ []) ++ host_from plan 0)) has;
    }

pub step_refuses : (plan : BusPlan) (logs : Logs) (v : Version) → IsPlan plan → Tries plan v → plan.host.0 < v.0
    → GuestStep plan (a_guest plan logs (Some Contact) (Response v) None []) (respond 0)
step_refuses plan logs v planned tries above =
    let g : GuestSeen = a_guest plan logs (Some Contact) (Response v) None [] in
    let low = lower_one plan v planned tries above in
    let turn : GuestTurn = proposal g low.lower in
    let next = next_tried plan v planned tries above low in
    let first = first_tried plan low.lower planned low.tries in
    let lacks : nat_le v.0 plan.host.0 ≡ false = grind (arith, nat_tests, above) in
    record {
      turn = turn;
      hears = ap (λ x. Ok (proposes g x)) low.is;
      goes = IsProposing low.lower low.tries;
      says = λ sent e. ap (λ vs. (map propose (drop 1 vs) ++ request ∷ []) ++ guest_from plan 0) next ∙ ap (λ vs. (map propose vs ++ request ∷ []) ++ guest_from plan 0) first
          ∙ ap (λ s. s ++ ((map propose (drop 1 (versions_tried low.lower.0 plan.host.0)) ++ request ∷ []) ++ guest_from plan 0)) (sym e);
      heard = ap (λ vs. (map (answer_to plan) vs ++ (offers_from 1 plan.kinds ++ delivered ∷ [])) ++ host_from plan 0) next
          ∙ ap (λ b. respond (if b then 1 else 0) ∷ ((map (answer_to plan) (versions_tried low.lower.0 plan.host.0) ++ (offers_from 1 plan.kinds ++ delivered ∷ [])) ++ host_from plan 0)) lacks;
    }

-- what is left of the devices behind some of them
left_of : (kinds : List Kind) (n : ℕ) (kind : Kind) (left : List Kind) → drop n kinds ≡ kind ∷ left → (slice_get kinds n ≡ Some kind) × (drop (suc n) kinds ≡ left) × (suc n ≤ length kinds)
left_of [] zero kind left is = absurd (cc)
left_of [] (suc n) kind left is = absurd (cc)
left_of (k ∷ kinds) zero kind left is = let first : k ≡ kind = cc in let rest : kinds ≡ left = cc in (ap Some first, rest, omega arith)
left_of (k ∷ kinds) (suc n) kind left is = let rest = left_of kinds n kind left is in (rest.0, rest.1, omega (arith, rest.2))

some_get : (kinds : List Kind) (n : ℕ) (kind : Kind) → slice_get kinds n ≡ Some kind → get_or kinds n kind ≡ kind
some_get [] n kind is = refl
some_get (k ∷ kinds) zero kind is = cc
some_get (k ∷ kinds) (suc n) kind is = some_get kinds n kind is

none_left : (kinds : List Kind) (n : ℕ) → n ≤ length kinds → drop n kinds ≡ [] → n ≡ length kinds
none_left [] zero few is = refl
none_left [] (suc n) few is = absurd (omega (arith, few))
none_left (k ∷ kinds) zero few is = absurd (cc)
none_left (k ∷ kinds) (suc n) few is = ap (λ m. suc m) (none_left kinds n (omega (arith, few)) is)

-- OFFERCHANNEL
step_offering : (plan : BusPlan) (logs : Logs) (v : Version) (n : ℕ) (kind : Kind) (left : List Kind) → HasPort kind → Agreed plan v → drop n plan.kinds ≡ kind ∷ left → GuestStep plan (a_guest plan logs (Some Contact) Offers (Some v) (replicate n offered_channel)) (offer kind (n + 1) 0)
step_offering plan logs v n kind left fits agreed is =
    let guests : List Channel = replicate n offered_channel in
    let g : GuestSeen = a_guest plan logs (Some Contact) Offers (Some v) guests in
    let turn : GuestTurn = record (idle g) { heard = Offered offered_channel } in
    let m : Msg = offer kind (n + 1) 0 in
    let many : length guests ≡ n = length-replicate n offered_channel in
    let next : suc n ≡ n + 1 = omega arith in
    let there = left_of plan.kinds n kind left is in
    let takes : device_offered g kind 0 (n + 1) ≡ turn = rw (many, same (n + 1), there.0, kind_same kind) refl in
    let long : length (guests ++ offered_channel ∷ []) ≡ n + 1 = omega (arith, many, length-append guests (offered_channel ∷ [])) in
    let these : drop (length guests) plan.kinds ≡ kind ∷ left = ap (λ k. drop k plan.kinds) many ∙ is in
    let those : drop (length (guests ++ offered_channel ∷ [])) plan.kinds ≡ left = ap (λ k. drop k plan.kinds) (long ∙ sym next) ∙ there.1 in
    record {
      turn = turn;
      hears = ap (on_offer g (class_id kind) 0 (n + 1)) (kind_of_class kind (class_id kind) fits refl) ∙ ap (λ t. Ok t) takes;
      goes = subst (GuestStands plan (Some Contact) Offers (Some v)) (sym (one_more n offered_channel)) (asks v (suc n) agreed there.2);
      says = λ sent e. ap (λ s. s ++ guest_from plan 0) (sym e);
      heard = (λ i. (offers_from (many i + 1) (these i) ++ delivered ∷ []) ++ host_from plan 0) ∙ ap (λ xs. m ∷ ((xs ++ delivered ∷ []) ++ host_from plan 0)) (sym (λ i. offers_from (long i + 1) (those i)));
    }

-- ALLOFFERS_DELIVERED
step_offered : (plan : BusPlan) (logs : Logs) (v : Version) (n : ℕ) → Agreed plan v → n ≤ length plan.kinds → drop n plan.kinds ≡ [] → GuestStep plan (a_guest plan logs (Some Contact) Offers (Some v) (replicate n offered_channel)) delivered
step_offered plan logs v n agreed few is =
    let guests : List Channel = replicate n offered_channel in
    let all = none_left plan.kinds n few is in
    let many : length guests ≡ length plan.kinds = length-replicate n offered_channel ∙ all in
    record {
      turn = record (idle (a_guest plan logs (Some Contact) Offers (Some v) guests)) { awaits = Nothing };
      hears = rw (eq-eqb (length guests) (length plan.kinds) many) refl;
      goes = contacted v guests (record { agreed = agreed; stand = all_alike plan n offered_channel all });
      says = λ sent e. ap (λ s. s ++ guest_from plan 0) (sym e);
      heard = ap (λ ks. (offers_from (length guests + 1) ks ++ delivered ∷ []) ++ host_from plan 0) (ap (λ k. drop k plan.kinds) many ∙ drop_all plan.kinds);
    }

-- OFFERCHANNEL of a service that was asked for: its page list is sent
port_kind : (port : ℕ) (dialed : Option ℕ) → dialed ≡ Some port → IsPort dialed → HasPort (Sock port)
port_kind port None e fits = absurd (cc)
port_kind port (Some p) e fits = let is : p ≡ port = cc in subst (λ n. n < 2 ^ 32) is fits

and_both : (a b : Bool) → (not a && b) ≡ true → (a ≡ false) × (b ≡ true)
and_both true b e = absurd (cc)
and_both false b e = (refl, e)

no_sub_first : (left : List Opening) → first_subs left ≡ [] → is_of_sub (slice_get left 0) ≡ false
no_sub_first [] none = refl
no_sub_first (p ∷ left) none = by_sub (is_sub p) none
  where
    by_sub : (b : Bool) → (if b then p ∷ first_subs left else []) ≡ [] → b ≡ false
    by_sub true wrong = absurd (cc)
    by_sub false e = refl

and_false : (a b : Bool) → b ≡ false → (not a && b) ≡ false
and_false true b e = refl
and_false false b e = e

-- at the start of a phase
module _ (plan : BusPlan) (logs : Logs) (v : Version) (guests : List Channel) (phase place : ℕ) (done : List Opening) (o : Opening) (left : List Opening) (planned : IsPlan plan) (at : At plan phase place done o left) where
  abbrev os : List Opening
  os = phase_of plan phase

  abbrev so : State → Opening → Channel
  so = guest_is (vps_before plan phase)

  abbrev base : ℕ → Channel
  base = guest_before (vps_before plan phase) plan phase

  abbrev waiting : GuestWait → GuestSeen
  waiting awaits = a_guest plan logs (Some (PhaseStart phase)) awaits (Some v) guests

  fact : Facts plan phase done o left
  fact = facts plan phase place done o left planned at

  mine : o.relid ≤ offered_for plan phase done o left
  mine = offered_here plan phase place done o left planned at

  here : drop place os ≡ o ∷ left
  here = left_at plan phase place done (o ∷ left) at.phase_is at.place_is

  back : o ∷ left ≡ drop place os
  back = sym here

  step_dialed : (port : ℕ) → o.dialed ≡ Some port → Meet plan v guests (offered_by plan phase done (o ∷ left)) (marked (so Opened) done base) → GuestStep plan (waiting (ServiceOffer place)) (offer_service port o.relid)
  step_dialed port is meet =
      let g : GuestSeen = waiting (ServiceOffer place) in
      let m : Msg = offer_service port o.relid in
      let turn : GuestTurn = lists_turn (heard_so (ServiceOffer place) v (Offered offered_channel)) place o in
      let stands : ℕ → Channel = marked (so Opened) done base in
      let count : ℕ = offered_by plan phase done (o ∷ left) in
      let alone = fact.fits.alone (ap is_some is) in
      let next_one : o.relid ≡ length guests + 1 = omega (arith, service_at plan phase place done o left planned at (ap is_some is), meet.stand.many) in
      let mine : is_service (Sock port) o.dialed ≡ true = ap (is_service (Sock port)) is ∙ kind_same (Sock port) in
      let is_it : is_service_offer g o (Sock port) 0 o.relid ≡ true = ap (λ n. (((o.relid == n) && (o.relid == o.relid)) && true) && is_service (Sock port) o.dialed) (sym next_one) ∙ (λ i. ((same o.relid i && same o.relid i) && true) && mine i) in
      let takes : service_offered g place (Sock port) 0 o.relid (Some o) ≡ turn = ap (λ b. if b then turn else idle g) is_it in
      let more : count + 1 ≡ offered_for plan phase done o left = omega (arith, ap count_dialed is) in
      let fresh : (q : ℕ) → count < q → q ≤ count + 1 → stands q ≡ offered_channel = λ q above few.
      marked_apart (so Opened) done base q (all_weaker (λ p. p.relid ≤ count) (λ p. p.relid ≢ q) (λ p l e. absurd (omega (arith, l, e, above))) done (done_known plan phase place done o left planned at))
      ∙ unopened plan (guest_ends (vps_before plan phase)) offered_channel phase q planned (omega (arith, at.in_plan)) (omega (arith, above)) in
      let after = subst (λ n. Stand (guests ++ offered_channel ∷ []) n stands) more (stand_add guests count 1 stands offered_channel meet.stand fresh) in
      let fits = port_kind port o.dialed is fact.fits.port in
      record {
        turn = turn;
        hears = ap (on_offer g (class_id (Sock port)) 0 o.relid) (kind_of_class (Sock port) (class_id (Sock port)) fits refl) ∙ ap (λ x. Ok (service_offered g place (Sock port) 0 o.relid x)) (opening_here plan phase place done o left at) ∙ ap (λ t. Ok t) takes;
        goes = lists v (guests ++ offered_channel ∷ []) phase place done o left at (record { agreed = meet.agreed; stand = after });
        says = λ sent sends.
            let later : List Msg = guest_then plan phase in
            ap (λ xs. lists_dialed xs ++ later) here ∙ lists_more o left later ∙ (λ i. (sym (cuts_so o.relid o.gpadl (pages_from o) sent sends)) i ++ (opens_listed (back i) ++ later));
        heard =
            let later : List Msg = host_then plan phase in
            ap (λ xs. host_opens_all xs ++ later) here ∙ answers_more o left later ∙ ap (λ d. dial_offers o.relid d ++ (answers_list (o ∷ left) ++ later)) is ∙ ap (λ xs. m ∷ (answers_list xs ++ later)) back;
      }

  -- GPADL_CREATED
  pub step_listed : Meet plan v guests (offered_for plan phase done o left) (marked (so Opened) done base) → GuestStep plan (waiting (Created place)) (created o.relid o.gpadl)
  step_listed meet =
      let g : GuestSeen = waiting (Created place) in
      let count : ℕ = offered_for plan phase done o left in
      let c : Channel = base o.relid in
      let turn_with : ℕ → GuestTurn = λ vp. record (idle g) { awaits = AwaitsOpened place; wished = Now o.relid (record { life = record { side = GuestSide; state = IsOpening; vp = vp }; gpadl = Some o.gpadl }); burst = One (open_on o) } in
      let turn : GuestTurn = turn_with (vps_before plan phase o.relid) in
      let vp_is : c.life.vp ≡ vps_before plan phase o.relid = vp_known plan (λ (c : Channel). c.life.vp) (guest_ends (vps_before plan phase)) offered_channel phase o.relid (λ p. refl) refl in
      let known : by_relid guests o.relid ≡ Some c = stand_at guests count (so Opened) done o base c meet.stand fact.fits.named mine fact.done_apart refl in
      let asked : created_for g place o.relid o.gpadl 0 c (Some o) ≡ opens g place o (lived c WantOpen) = rw (same o.relid, same o.gpadl) refl in
      let after : Stand (slice_set guests (o.relid - 1) (so IsOpening o)) count (marked (so Opened) done (marked (so IsOpening) (o ∷ []) base)) =
      stand_mark guests count (so Opened) (so IsOpening) done o base base meet.stand fact.fits.named mine fact.done_apart (λ q off. refl) in
      record {
        turn = turn;
        hears = ap (on_created g o.relid o.gpadl 0) known ∙ ap (λ x. Ok (created_for g place o.relid o.gpadl 0 c x)) (opening_here plan phase place done o left at) ∙ ap (λ t. Ok t) (asked ∙ ap (opens g place o) (can_open plan (vps_before plan phase) phase o.relid fact.not_before) ∙ ap turn_with vp_is);
        goes = IsOpened v (slice_set guests (o.relid - 1) (so IsOpening o)) phase place done o left at (record { agreed = meet.agreed; stand = after });
        says = λ sent e.
            let later : List Msg = guest_then plan phase in
            ap (λ os. opens_listed os ++ later) here ∙ ap (λ os. open_on o ∷ (fills_opened os ++ later)) back ∙ ap (λ xs. xs ++ (fills_opened (drop place os) ++ later)) (sym e);
        heard = ap (λ os. answers_list os ++ host_then plan phase) here ∙ ap (λ os. (created o.relid o.gpadl) ∷ (answers_open os ++ host_then plan phase)) back;
      }

  -- OPENCHANNEL_RESULT: the channel is open
  record IsOpen : Type 0 where
    known : by_relid guests o.relid ≡ Some (so IsOpening o)
    stand : Stand (slice_set guests (o.relid - 1) (so Opened o)) (offered_for plan phase done o left) (marked (so Opened) (done ++ o ∷ []) base)
    next : opening_at plan phase (place + 1) ≡ slice_get left 0
    answers : (later : List Msg) → answers_open (drop place os) ++ later ≡ opened o.relid o.relid ∷ ((host_buffers o ++ (map offer_sub (subs_next (o ∷ left)) ++ host_opens_all left)) ++ later)

  is_open : Meet plan v guests (offered_for plan phase done o left) (marked (so Opened) done (marked (so IsOpening) (o ∷ []) base)) → IsOpen
  is_open meet =
      let count : ℕ = offered_for plan phase done o left in
      record {
        known = stand_at guests count (so Opened) done o (marked (so IsOpening) (o ∷ []) base) (so IsOpening o) meet.stand fact.fits.named mine fact.done_apart (marked_here (so IsOpening) o [] base);
        stand = stand_join guests count (so Opened) done o (marked (so IsOpening) (o ∷ []) base) base meet.stand fact.fits.named mine fact.done_apart (λ q off. sym (marked_there (so IsOpening) o [] base q off));
        next = opening_from plan phase (place + 1) (done ++ o ∷ []) left (done_more plan phase place done o left at) (place_more plan phase place done o left at);
        answers = λ later. ap (λ os. answers_open os ++ later) here;
      }

  abbrev now_open : GuestTurn
  now_open = heard_so (AwaitsOpened place) v (Now o.relid (so Opened o))

  sent_on : opened_for (waiting (AwaitsOpened place)) now_open place o.relid 0 (Some o) ≡ opens_with (waiting (AwaitsOpened place)) now_open place o o.buffers
  sent_on = rw (same o.relid) refl

  -- the guest goes on with the next opening
  step_open_one : Meet plan v guests (offered_for plan phase done o left) (marked (so Opened) done (marked (so IsOpening) (o ∷ []) base)) → o.buffers ≡ false → (not (is_sub o) && is_of_sub (opening_at plan phase (place + 1))) ≡ false → GuestStep plan (waiting (AwaitsOpened place)) (opened o.relid o.relid)
  step_open_one meet bare none =
      let g : GuestSeen = waiting (AwaitsOpened place) in
      let m : Msg = opened o.relid o.relid in
      let opened_so = is_open meet in
      let turn : GuestTurn = lists_next g (Some (PhaseStart phase)) now_open (place + 1) (opening_at plan phase (place + 1)) in
      let asked : opened_for g now_open place o.relid 0 (Some o) ≡ opens_next g now_open place o (opening_at plan phase (place + 1)) = sent_on ∙ ap (opens_with g now_open place o) bare in
      let on : opens_next g now_open place o (opening_at plan phase (place + 1)) ≡ turn = ap (λ b. if b then record now_open { awaits = SubOffer (place + 1) } else turn) none in
      let no_subs = no_subs_next o left (sym (ap (λ x. not (is_sub o) && is_of_sub x) opened_so.next) ∙ none) in
      let same_count : offered_for plan phase done o left ≡ offered_by plan phase (done ++ o ∷ []) left = omega (arith, count_next plan phase done o left fact.fits.alone, ap length no_subs) in
      let after = subst (λ n. Stand (slice_set guests (o.relid - 1) (so Opened o)) n (marked (so Opened) (done ++ o ∷ []) base)) same_count opened_so.stand in
      let onward = next_list plan logs (Some (PhaseStart phase)) v guests phase (place + 1) (done ++ o ∷ []) left (AwaitsOpened place) (AwaitsOpened place) (Now o.relid (so Opened o)) planned at.in_plan (done_more plan phase place done o left at) (place_more plan phase place done o left at) (record { agreed = meet.agreed; stand = after })
      (λ none relid some. then_now g o.relid relid (so Opened o) fact.fits.named (let many = meet.stand.many in let few = mine in omega (arith, many, few)) some) in
      record {
        turn = turn;
        hears = ap (on_result g o.relid 0) opened_so.known ∙ ap (λ x. Ok (opened_for g now_open place o.relid 0 x)) (opening_here plan phase place done o left at) ∙ ap (λ t. Ok t) (asked ∙ on);
        goes = onward.goes;
        says = λ sent sends.
            let later : List Msg = guest_onward plan phase in
            ap (λ xs. fills_opened xs ++ (guest_moves plan os ++ later)) here ∙ ap (λ b. ((if b then guest_buffer o Receive ++ guest_buffer o Send else []) ++ flat_map guest_opens left) ++ (guest_moves plan os ++ later)) bare ∙ onward.says sent later sends;
        heard =
            let later : List Msg = host_onward plan phase in
            let moves : List Msg = host_moves plan os in
            opened_so.answers (moves ++ later) ∙ ap (λ b. m ∷ (((if b then host_buffer o Receive ∷ host_buffer o Send ∷ [] else []) ++ (map offer_sub (subs_next (o ∷ left)) ++ host_opens_all left)) ++ (moves ++ later))) bare
            ∙ ap (λ os. m ∷ ((map offer_sub os ++ host_opens_all left) ++ (moves ++ later))) no_subs ∙ ap (λ xs. m ∷ xs) (onward.heard later);
      }

  -- the page lists of its buffers are sent, where it has some
  step_open_fills : Meet plan v guests (offered_for plan phase done o left) (marked (so Opened) done (marked (so IsOpening) (o ∷ []) base)) → o.buffers ≡ true → GuestStep plan (waiting (AwaitsOpened place)) (opened o.relid o.relid)
  step_open_fills meet has =
      let g : GuestSeen = waiting (AwaitsOpened place) in
      let m : Msg = opened o.relid o.relid in
      let opened_so = is_open meet in
      let turn : GuestTurn = fills_turn now_open place o Receive in
      record {
        turn = turn;
        hears = ap (on_result g o.relid 0) opened_so.known ∙ ap (λ x. Ok (opened_for g now_open place o.relid 0 x)) (opening_here plan phase place done o left at) ∙ ap (λ t. Ok t) (sent_on ∙ ap (opens_with g now_open place o) has);
        goes = IsFilling v (slice_set guests (o.relid - 1) (so Opened o)) phase place done o left Receive at has (record { agreed = meet.agreed; stand = opened_so.stand });
        says = λ sent sends.
            let opens : List Msg = flat_map guest_opens left in
            let first : List Msg = guest_buffer o Receive in
            let second : List Msg = guest_buffer o Send in
            ap (λ xs. fills_opened xs ++ guest_then plan phase) here ∙ ap (λ b. ((if b then first ++ second else []) ++ opens) ++ guest_then plan phase) has
            ∙ append_assoc (first ++ second) opens (guest_then plan phase) ∙ append_assoc first second (opens ++ guest_then plan phase) ∙ ap (λ xs. first ++ xs) (sym (append_assoc second opens (guest_then plan phase)))
            ∙ (λ i. (sym (cuts_so o.relid (buffer_list o Receive) (buffer_pages o Receive) sent sends)) i ++ (fills_listed Receive (back i) ++ guest_then plan phase));
        heard =
            let later : List Msg = host_then plan phase in
            opened_so.answers later ∙ ap (λ b. m ∷ (((if b then host_buffer o Receive ∷ host_buffer o Send ∷ [] else []) ++ (map offer_sub (subs_next (o ∷ left)) ++ host_opens_all left)) ++ later)) has
            ∙ ap (λ xs. m ∷ (answers_fill Receive xs ++ later)) back;
      }

  -- GPADL_CREATED, for the page list of a buffer: behind that of the receive buffer that of the send buffer is sent
  fill_known : Meet plan v guests (offered_for plan phase done o left) (marked (so Opened) (done ++ o ∷ []) base) → by_relid guests o.relid ≡ Some (so Opened o)
  fill_known meet =
      meet.stand.each o.relid fact.fits.named mine
      ∙ ap (λ c. Some c) (marked_append (so Opened) done (o ∷ []) base o.relid ∙ marked_apart (so Opened) done (marked (so Opened) (o ∷ []) base) o.relid fact.done_apart ∙ marked_here (so Opened) o [] base)

  step_filled_receive : o.buffers ≡ true → Meet plan v guests (offered_for plan phase done o left) (marked (so Opened) (done ++ o ∷ []) base) → GuestStep plan (waiting (Listed place Receive)) (host_buffer o Receive)
  step_filled_receive has meet =
      let g : GuestSeen = waiting (Listed place Receive) in
      let handle : ℕ = buffer_list o Receive in
      let turn : GuestTurn = fills_turn (idle g) place o Send in
      let asked : filled_for g place Receive o.relid handle 0 (Some o) ≡ turn = rw (same o.relid, same handle) refl in
      record {
        turn = turn;
        hears = ap (on_created g o.relid handle 0) (fill_known meet) ∙ ap (λ x. Ok (filled_for g place Receive o.relid handle 0 x)) (opening_here plan phase place done o left at) ∙ ap (λ t. Ok t) asked;
        goes = IsFilling v guests phase place done o left Send at has meet;
        says = λ sent sends.
            let second : List Msg = guest_buffer o Send in
            let whole : second ≡ sent = sym (cuts_so o.relid (buffer_list o Send) (buffer_pages o Send) sent sends) in
            ap (λ xs. fills_listed Receive xs ++ guest_then plan phase) here ∙ append_assoc second (flat_map guest_opens left) (guest_then plan phase) ∙ (λ i. whole i ++ (fills_listed Send (back i) ++ guest_then plan phase));
        heard = ap (λ xs. answers_fill Receive xs ++ host_then plan phase) here ∙ ap (λ xs. host_buffer o Receive ∷ (answers_fill Send xs ++ host_then plan phase)) back;
      }

  step_filled_send : o.buffers ≡ true → Meet plan v guests (offered_for plan phase done o left) (marked (so Opened) (done ++ o ∷ []) base) → GuestStep plan (waiting (Listed place Send)) (host_buffer o Send)
  step_filled_send has meet =
      let g : GuestSeen = waiting (Listed place Send) in
      let m : Msg = host_buffer o Send in
      let handle : ℕ = buffer_list o Send in
      let heard : GuestTurn = heard_so (Listed place Send) v Same in
      let turn : GuestTurn = lists_next g (Some (PhaseStart phase)) heard (place + 1) (opening_at plan phase (place + 1)) in
      let asked : filled_for g place Send o.relid handle 0 (Some o) ≡ opens_next g heard place o (opening_at plan phase (place + 1)) = rw (same o.relid, same handle) refl in
      let next : opening_at plan phase (place + 1) ≡ slice_get left 0 = opening_from plan phase (place + 1) (done ++ o ∷ []) left (done_more plan phase place done o left at) (place_more plan phase place done o left at) in
      let no_first_sub = ap is_of_sub next ∙ no_sub_first left (none_first plan phase place done o left planned at has) in
      let on : opens_next g heard place o (opening_at plan phase (place + 1)) ≡ turn = ap (λ b. if b then record heard { awaits = SubOffer (place + 1) } else turn) (and_false (is_sub o) (is_of_sub (opening_at plan phase (place + 1))) no_first_sub) in
      let no_subs = none_behind plan phase place done o left planned at has in
      let same_count : offered_for plan phase done o left ≡ offered_by plan phase (done ++ o ∷ []) left = omega (arith, count_next plan phase done o left fact.fits.alone, ap length no_subs) in
      let after = subst (λ n. Meet plan v guests n (marked (so Opened) (done ++ o ∷ []) base)) same_count meet in
      let onward = next_list plan logs (Some (PhaseStart phase)) v guests phase (place + 1) (done ++ o ∷ []) left (Listed place Send) (Listed place Send) Same planned at.in_plan (done_more plan phase place done o left at) (place_more plan phase place done o left at) after
      (λ none relid some. refl) in
      record {
        turn = turn;
        hears = ap (on_created g o.relid handle 0) (fill_known meet) ∙ ap (λ x. Ok (filled_for g place Send o.relid handle 0 x)) (opening_here plan phase place done o left at) ∙ ap (λ t. Ok t) (asked ∙ on);
        goes = onward.goes;
        says = λ sent sends. ap (λ xs. fills_listed Send xs ++ (guest_moves plan os ++ guest_onward plan phase)) here ∙ onward.says sent (guest_onward plan phase) sends;
        heard =
            let later : List Msg = host_onward plan phase in
            let moves : List Msg = host_moves plan os in
            ap (λ xs. answers_fill Send xs ++ (moves ++ later)) here ∙ ap (λ ps. m ∷ ((map offer_sub ps ++ host_opens_all left) ++ (moves ++ later))) no_subs ∙ ap (λ xs. m ∷ xs) (onward.heard later);
      }

  step_filled : (k : Buffer) → o.buffers ≡ true → Meet plan v guests (offered_for plan phase done o left) (marked (so Opened) (done ++ o ∷ []) base) → GuestStep plan (waiting (Listed place k)) (host_buffer o k)
  step_filled Receive has meet = step_filled_receive has meet
  step_filled Send has meet = step_filled_send has meet

-- the offers of the device's sub-channels come before
step_open_subs : (plan : BusPlan) (logs : Logs) (v : Version) (guests : List Channel) (phase place : ℕ) (done : List Opening) (o : Opening) (left : List Opening) → IsPlan plan
    → At plan phase place done o left → Meet plan v guests (offered_for plan phase done o left) (marked (guest_is (vps_before plan phase) Opened) done (marked (guest_is (vps_before plan phase) IsOpening) (o ∷ []) (guest_before (vps_before plan phase) plan phase)))
    → o.buffers ≡ false → is_sub o ≡ false → is_of_sub (slice_get left 0) ≡ true → GuestStep plan (a_guest plan logs (Some (PhaseStart phase)) (AwaitsOpened place) (Some v) guests) (opened o.relid o.relid)
step_open_subs plan logs v guests phase place done o [] planned at meet bare is_first is_next = absurd (cc)
step_open_subs plan logs v guests phase place done o (p ∷ left) planned at meet bare is_first is_next =
    let g : GuestSeen = a_guest plan logs (Some (PhaseStart phase)) (AwaitsOpened place) (Some v) guests in
    let m : Msg = opened o.relid o.relid in
    let opened_so = is_open plan logs v guests phase place done o (p ∷ left) planned at meet in
    let now : Channel = guest_is (vps_before plan phase) Opened o in
    let heard : GuestTurn = heard_so (AwaitsOpened place) v (Now o.relid now) in
    let turn : GuestTurn = record heard { awaits = SubOffer (place + 1) } in
    let one : Option Opening → GuestTurn = λ x. lists_next g (Some (PhaseStart phase)) heard (place + 1) x in
    let sent_on : opened_for g heard place o.relid 0 (Some o) ≡ opens_with g heard place o o.buffers = rw (same o.relid) refl in
    let asked : opened_for g heard place o.relid 0 (Some o) ≡ opens_next g heard place o (opening_at plan phase (place + 1)) = sent_on ∙ ap (opens_with g heard place o) bare in
    let on : opens_next g heard place o (opening_at plan phase (place + 1)) ≡ turn =
    ap (opens_next g heard place o) opened_so.next ∙ ap (λ b. if not b && is_sub p then turn else one (Some p)) is_first ∙ ap (λ b. if b then turn else one (Some p)) is_next in
    let there : At plan phase (place + 1) (done ++ o ∷ []) p left = record { in_plan = at.in_plan; phase_is = done_more plan phase place done o (p ∷ left) at; place_is = place_more plan phase place done o (p ∷ left) at } in
    let subs : AreSubs (p ∷ []) = (is_next, tt) in
    let spot = sub_at plan phase (place + 1) done o [] p left planned there is_first subs in
    let counts = count_next plan phase done o (p ∷ left) (facts plan phase place done o (p ∷ left) planned at).fits.alone in
    let behind : length (subs_next (o ∷ (p ∷ left))) ≡ length (first_subs (p ∷ left)) = ap (λ b. length (if b then [] else first_subs (p ∷ left))) is_first in
    let same_count : offered_for plan phase done o (p ∷ left) ≡ offered_by plan phase (done ++ o ∷ []) [] + 0 = omega (arith, counts, behind) in
    let after = subst (λ n. Stand (slice_set guests (o.relid - 1) now) n (marked (guest_is (vps_before plan phase) Opened) (done ++ o ∷ []) (guest_before (vps_before plan phase) plan phase))) same_count opened_so.stand in
    record {
      turn = turn;
      hears = ap (on_result g o.relid 0) opened_so.known ∙ ap (λ x. Ok (opened_for g heard place o.relid 0 x)) (opening_here plan phase place done o (p ∷ left) at) ∙ ap (λ t. Ok t) (asked ∙ on);
      goes = IsOffering v (slice_set guests (o.relid - 1) now) phase (place + 1) done o [] p left there is_first subs (record { agreed = meet.agreed; stand = after });
      says = λ sent e.
          let later : List Msg = guest_then plan phase in
          ap (λ os. fills_opened os ++ later) (left_at plan phase place done (o ∷ (p ∷ left)) at.phase_is at.place_is) ∙ ap (λ b. ((if b then guest_buffer o Receive ++ guest_buffer o Send else []) ++ flat_map guest_opens (p ∷ left)) ++ later) bare
          ∙ ap (λ os. flat_map guest_opens os ++ later) (sym spot.from_first)
          ∙ ap (λ s. s ++ (flat_map guest_opens (from_first_sub (phase_of plan phase) (place + 1) (drop (place + 1) (phase_of plan phase))) ++ later)) (sym e);
      heard =
          let later : List Msg = host_then plan phase in
          opened_so.answers later ∙ ap (λ b. m ∷ (((if b then host_buffer o Receive ∷ host_buffer o Send ∷ [] else []) ++ (map offer_sub (subs_next (o ∷ (p ∷ left))) ++ host_opens_all (p ∷ left))) ++ later)) bare
          ∙ ap (λ b. m ∷ ((map offer_sub (if b then [] else first_subs (p ∷ left)) ++ host_opens_all (p ∷ left)) ++ later)) is_first
          ∙ (λ i. m ∷ ((map offer_sub (first_subs ((sym spot.here) i)) ++ host_opens_all ((sym spot.from_first) i)) ++ later));
    }

step_open_bare : (plan : BusPlan) (logs : Logs) (v : Version) (guests : List Channel) (phase place : ℕ) (done : List Opening) (o : Opening) (left : List Opening) → IsPlan plan
    → At plan phase place done o left → Meet plan v guests (offered_for plan phase done o left) (marked (guest_is (vps_before plan phase) Opened) done (marked (guest_is (vps_before plan phase) IsOpening) (o ∷ []) (guest_before (vps_before plan phase) plan phase)))
    → o.buffers ≡ false → GuestStep plan (a_guest plan logs (Some (PhaseStart phase)) (AwaitsOpened place) (Some v) guests) (opened o.relid o.relid)
step_open_bare plan logs v guests phase place done o left planned at meet bare =
    let next : opening_at plan phase (place + 1) ≡ slice_get left 0 = opening_from plan phase (place + 1) (done ++ o ∷ []) left (done_more plan phase place done o left at) (place_more plan phase place done o left at) in
    by_test {P = GuestStep plan (a_guest plan logs (Some (PhaseStart phase)) (AwaitsOpened place) (Some v) guests) (opened o.relid o.relid)} (not (is_sub o) && is_of_sub (opening_at plan phase (place + 1)))
    (λ e. let both = and_both (is_sub o) (is_of_sub (opening_at plan phase (place + 1))) e in step_open_subs plan logs v guests phase place done o left planned at meet bare both.0 (sym (ap is_of_sub next) ∙ both.1))
    (λ e. step_open_one plan logs v guests phase place done o left planned at meet bare e)

pub step_open : (plan : BusPlan) (logs : Logs) (v : Version) (guests : List Channel) (phase place : ℕ) (done : List Opening) (o : Opening) (left : List Opening) → IsPlan plan
    → At plan phase place done o left → Meet plan v guests (offered_for plan phase done o left) (marked (guest_is (vps_before plan phase) Opened) done (marked (guest_is (vps_before plan phase) IsOpening) (o ∷ []) (guest_before (vps_before plan phase) plan phase)))
    → GuestStep plan (a_guest plan logs (Some (PhaseStart phase)) (AwaitsOpened place) (Some v) guests) (opened o.relid o.relid)
step_open plan logs v guests phase place done o left planned at meet =
    by_test {P = GuestStep plan (a_guest plan logs (Some (PhaseStart phase)) (AwaitsOpened place) (Some v) guests) (opened o.relid o.relid)} o.buffers
    (λ e. step_open_fills plan logs v guests phase place done o left planned at meet e)
    (λ e. step_open_bare plan logs v guests phase place done o left planned at meet e)

-- OFFERCHANNEL of a sub-channel: the channel is offered
record IsOffered (plan : BusPlan) (logs : Logs) (v : Version) (guests : List Channel) (phase place : ℕ) (done : List Opening) (first : Opening) (offered : List Opening) (o : Opening) (left : List Opening) : Type 0 where
  hears : guest_hears (a_guest plan logs (Some (PhaseStart phase)) (SubOffer place) (Some v) guests) (offer_sub o)
      ≡ Ok (goes_behind (a_guest plan logs (Some (PhaseStart phase)) (SubOffer place) (Some v) guests) (heard_so (SubOffer place) v (Offered offered_channel)) place o)
  stand : Stand (guests ++ offered_channel ∷ []) ((offered_by plan phase (done ++ first ∷ []) [] + length offered) + 1) (marked (guest_is (vps_before plan phase) Opened) (done ++ first ∷ []) (guest_before (vps_before plan phase) plan phase))
  next : opening_at plan phase (place + 1) ≡ slice_get left 0

is_offered : (plan : BusPlan) (logs : Logs) (v : Version) (guests : List Channel) (phase place : ℕ) (done : List Opening) (first : Opening) (offered : List Opening) (o : Opening) (left : List Opening) → IsPlan plan
    → At plan phase place (done ++ first ∷ offered) o left → is_sub first ≡ false → AreSubs (offered ++ o ∷ [])
    → Meet plan v guests (offered_by plan phase (done ++ first ∷ []) [] + length offered) (marked (guest_is (vps_before plan phase) Opened) (done ++ first ∷ []) (guest_before (vps_before plan phase) plan phase))
    → IsOffered plan logs v guests phase place done first offered o left
is_offered plan logs v guests phase place done first offered o left planned at is_first subs meet =
    let g : GuestSeen = a_guest plan logs (Some (PhaseStart phase)) (SubOffer place) (Some v) guests in
    let front : List Opening = done ++ first ∷ offered in
    let spot = sub_at plan phase place done first offered o left planned at is_first subs in
    let count : ℕ = offered_by plan phase (done ++ first ∷ []) [] + length offered in
    let base : ℕ → Channel = guest_before (vps_before plan phase) plan phase in
    let heard : GuestTurn = heard_so (SubOffer place) v (Offered offered_channel) in
    let next_one : o.relid ≡ length guests + 1 = omega (arith, spot.relid_is, meet.stand.many) in
    let is_it : is_sub_offer g o Disk o.sub o.relid ≡ true = ap (λ n. (((o.relid == n) && (o.relid == o.relid)) && (o.sub == o.sub)) && true) (sym next_one) ∙ (λ i. ((same o.relid i && same o.relid i) && same o.sub i) && true) in
    let takes : sub_offered g place Disk o.sub o.relid (Some o) ≡ goes_behind g heard place o = ap (λ b. if b then goes_behind g heard place o else idle g) is_it in
    let fresh : (q : ℕ) → count < q → q ≤ count + 1 → marked (guest_is (vps_before plan phase) Opened) (done ++ first ∷ []) base q ≡ offered_channel = λ q above few.
    marked_apart (guest_is (vps_before plan phase) Opened) (done ++ first ∷ []) base q (all_weaker (λ p. p.relid ≤ offered_by plan phase (done ++ first ∷ []) []) (λ p. p.relid ≢ q) (λ p l e. absurd (omega (arith, l, e, above))) (done ++ first ∷ []) spot.known)
    ∙ unopened plan (guest_ends (vps_before plan phase)) offered_channel phase q planned (omega (arith, at.in_plan)) (omega (arith, above)) in
    record {
      hears = ap (on_offer g (class_id Disk) o.sub o.relid) (kind_of_class Disk (class_id Disk) tt refl) ∙ ap (λ x. Ok (sub_offered g place Disk o.sub o.relid x)) (opening_here plan phase place front o left at) ∙ ap (λ t. Ok t) takes;
      stand = stand_add guests count 1 (marked (guest_is (vps_before plan phase) Opened) (done ++ first ∷ []) base) offered_channel meet.stand fresh;
      next = opening_from plan phase (place + 1) (front ++ o ∷ []) left (done_more plan phase place front o left at) (place_more plan phase place front o left at);
    }

-- one more of them is offered
step_offer_more : (plan : BusPlan) (logs : Logs) (v : Version) (guests : List Channel) (phase place : ℕ) (done : List Opening) (first : Opening) (offered : List Opening) (o : Opening) (left : List Opening) → IsPlan plan
    → At plan phase place (done ++ first ∷ offered) o left → is_sub first ≡ false → AreSubs (offered ++ o ∷ [])
    → Meet plan v guests (offered_by plan phase (done ++ first ∷ []) [] + length offered) (marked (guest_is (vps_before plan phase) Opened) (done ++ first ∷ []) (guest_before (vps_before plan phase) plan phase)) → is_of_sub (slice_get left 0) ≡ true
    → GuestStep plan (a_guest plan logs (Some (PhaseStart phase)) (SubOffer place) (Some v) guests) (offer_sub o)
step_offer_more plan logs v guests phase place done first offered o [] planned at is_first subs meet is_next = absurd (cc)
step_offer_more plan logs v guests phase place done first offered o (p ∷ left) planned at is_first subs meet is_next =
    let g : GuestSeen = a_guest plan logs (Some (PhaseStart phase)) (SubOffer place) (Some v) guests in
    let os : List Opening = phase_of plan phase in
    let front : List Opening = done ++ first ∷ offered in
    let on = is_offered plan logs v guests phase place done first offered o (p ∷ left) planned at is_first subs meet in
    let spot = sub_at plan phase place done first offered o (p ∷ left) planned at is_first subs in
    let heard : GuestTurn = heard_so (SubOffer place) v (Offered offered_channel) in
    let turn : GuestTurn = record heard { awaits = SubOffer (place + 1) } in
    let there : At plan phase (place + 1) (done ++ first ∷ (offered ++ o ∷ [])) p left = subst (λ xs. At plan phase (place + 1) xs p left) (append_assoc done (first ∷ offered) (o ∷ []))
    (record { in_plan = at.in_plan; phase_is = done_more plan phase place front o (p ∷ left) at; place_is = place_more plan phase place front o (p ∷ left) at }) in
    let more : AreSubs ((offered ++ o ∷ []) ++ p ∷ []) = all_snoc (λ q. is_sub q ≡ true) (offered ++ o ∷ []) p subs is_next in
    let spot2 = sub_at plan phase (place + 1) done first (offered ++ o ∷ []) p left planned there is_first more in
    let sum = length-append offered (o ∷ []) in
    let count : (offered_by plan phase (done ++ first ∷ []) [] + length offered) + 1 ≡ offered_by plan phase (done ++ first ∷ []) [] + length (offered ++ o ∷ []) = omega (arith, sum) in
    let after = subst (λ n. Stand (guests ++ offered_channel ∷ []) n (marked (guest_is (vps_before plan phase) Opened) (done ++ first ∷ []) (guest_before (vps_before plan phase) plan phase))) count on.stand in
    let same_front : from_first_sub os place (drop place os) ≡ from_first_sub os (place + 1) (drop (place + 1) os) = spot.from_first ∙ sym (append_assoc offered (o ∷ []) (p ∷ left)) ∙ sym spot2.from_first in
    let one = (all_front (λ q. is_sub q ≡ true) offered (o ∷ []) subs).1.0 in
    record {
      turn = turn;
      hears = on.hears ∙ ap (λ b. Ok (if b then turn else (lists_next g (Some (PhaseStart phase)) heard (place + 1 - o.sub) (opening_at plan phase (place + 1 - o.sub))))) (ap is_of_sub on.next ∙ is_next);
      goes = IsOffering v (guests ++ offered_channel ∷ []) phase (place + 1) done first (offered ++ o ∷ []) p left there is_first more (record { agreed = meet.agreed; stand = after });
      says = λ sent e. ap (λ xs. flat_map guest_opens xs ++ guest_then plan phase) same_front ∙ ap (λ s. s ++ (flat_map guest_opens (from_first_sub os (place + 1) (drop (place + 1) os)) ++ guest_then plan phase)) (sym e);
      heard =
          (λ i. (map offer_sub (first_subs (spot.here i)) ++ host_opens_all (same_front i)) ++ host_then plan phase)
          ∙ ap (λ b. (map offer_sub (if b then o ∷ first_subs (p ∷ left) else []) ++ host_opens_all (from_first_sub os (place + 1) (drop (place + 1) os))) ++ host_then plan phase) one
          ∙ ap (λ xs. (offer_sub o) ∷ ((map offer_sub (first_subs xs) ++ host_opens_all (from_first_sub os (place + 1) (drop (place + 1) os))) ++ host_then plan phase)) (sym spot2.here);
    }

-- all of them are, and the first one's page list is sent
step_offer_last : (plan : BusPlan) (logs : Logs) (v : Version) (guests : List Channel) (phase place : ℕ) (done : List Opening) (first : Opening) (offered : List Opening) (o : Opening) (left : List Opening) → IsPlan plan
    → At plan phase place (done ++ first ∷ offered) o left → is_sub first ≡ false → AreSubs (offered ++ o ∷ [])
    → Meet plan v guests (offered_by plan phase (done ++ first ∷ []) [] + length offered) (marked (guest_is (vps_before plan phase) Opened) (done ++ first ∷ []) (guest_before (vps_before plan phase) plan phase)) → is_of_sub (slice_get left 0) ≡ false
    → GuestStep plan (a_guest plan logs (Some (PhaseStart phase)) (SubOffer place) (Some v) guests) (offer_sub o)
step_offer_last plan logs v guests phase place done first offered o left planned at is_first subs meet last =
    let m : Msg = offer_sub o in
    let os : List Opening = phase_of plan phase in
    let on = is_offered plan logs v guests phase place done first offered o left planned at is_first subs meet in
    let spot = sub_at plan phase place done first offered o left planned at is_first subs in
    let behind : List Opening = offered ++ o ∷ left in
    let front : List Opening = done ++ first ∷ [] in
    let back : ℕ = place + 1 - o.sub in
    let heard : GuestTurn = heard_so (SubOffer place) v (Offered offered_channel) in
    let turn : GuestTurn = lists_next (a_guest plan logs (Some (PhaseStart phase)) (SubOffer place) (Some v) guests) (Some (PhaseStart phase)) heard back (opening_at plan phase back) in
    let other : GuestTurn = record heard { awaits = SubOffer (place + 1) } in
    let none = no_first left last in
    let all : first_subs behind ≡ offered ++ o ∷ [] = ap first_subs (sym (append_assoc offered (o ∷ []) left)) ∙ first_run (offered ++ o ∷ []) left subs ∙ ap (λ xs. (offered ++ o ∷ []) ++ xs) none ∙ append-nil (offered ++ o ∷ []) in
    let count : (offered_by plan phase (done ++ first ∷ []) [] + length offered) + 1 ≡ offered_by plan phase front behind = omega (arith, ap length all, length-append offered (o ∷ [])) in
    let after = subst (λ n. Stand (guests ++ offered_channel ∷ []) n (marked (guest_is (vps_before plan phase) Opened) front (guest_before (vps_before plan phase) plan phase))) count on.stand in
    let from = spot.from_first in
    let onward = next_list plan logs (Some (PhaseStart phase)) v guests phase back front behind (SubOffer place) (SubOffer place) (Offered offered_channel) planned at.in_plan spot.split spot.back (record { agreed = meet.agreed; stand = after })
    (λ none. let some = ap length none in let both = length-append offered (o ∷ left) in absurd (omega (arith, some, both))) in
    record {
      turn = turn;
      hears = on.hears ∙ ap (λ b. Ok (if b then other else turn)) (ap is_of_sub on.next ∙ last);
      goes = onward.goes;
      says = λ sent sends. ap (λ xs. flat_map guest_opens xs ++ (guest_moves plan (phase_of plan phase) ++ guest_onward plan phase)) from ∙ onward.says sent (guest_onward plan phase) sends;
      heard =
          let moves : List Msg = host_moves plan (phase_of plan phase) in
          (λ i. (map offer_sub (first_subs (spot.here i)) ++ host_opens_all (from i)) ++ (moves ++ host_onward plan phase))
          ∙ ap (λ b. (map offer_sub (if b then o ∷ first_subs left else []) ++ host_opens_all behind) ++ (moves ++ host_onward plan phase)) ((all_front (λ q. is_sub q ≡ true) offered (o ∷ []) subs).1.0)
          ∙ ap (λ xs. m ∷ ((map offer_sub xs ++ host_opens_all behind) ++ (moves ++ host_onward plan phase))) none
          ∙ ap (λ xs. m ∷ xs) (onward.heard (host_onward plan phase));
    }

pub step_sub_offered : (plan : BusPlan) (logs : Logs) (v : Version) (guests : List Channel) (phase place : ℕ) (done : List Opening) (first : Opening) (offered : List Opening) (o : Opening) (left : List Opening) → IsPlan plan
    → At plan phase place (done ++ first ∷ offered) o left → is_sub first ≡ false → AreSubs (offered ++ o ∷ [])
    → Meet plan v guests (offered_by plan phase (done ++ first ∷ []) [] + length offered) (marked (guest_is (vps_before plan phase) Opened) (done ++ first ∷ []) (guest_before (vps_before plan phase) plan phase))
    → GuestStep plan (a_guest plan logs (Some (PhaseStart phase)) (SubOffer place) (Some v) guests) (offer_sub o)
step_sub_offered plan logs v guests phase place done first offered o left planned at is_first subs meet =
    by_test {P = GuestStep plan (a_guest plan logs (Some (PhaseStart phase)) (SubOffer place) (Some v) guests) (offer_sub o)} (is_of_sub (slice_get left 0))
    (λ e. step_offer_more plan logs v guests phase place done first offered o left planned at is_first subs meet e)
    (λ e. step_offer_last plan logs v guests phase place done first offered o left planned at is_first subs meet e)

-- MODIFYCHANNEL_RESPONSE: the channel is open again, and the guest waits for the answers that are left
step_modified : (plan : BusPlan) (logs : Logs) (v : Version) (guests : List Channel) (phase place : ℕ) (done : List Opening) (o : Opening) (left : List Opening) → IsPlan plan
    → phase < length plan.phases → moved plan (phase_of plan phase) ≡ done ++ o ∷ left → place ≡ length done → answers_modify v.0 ≡ true
    → Meet plan v guests (offered_before plan (suc phase)) (marked (guest_is (vps_before plan (suc phase)) Modifying) (o ∷ left) (guest_opened plan phase))
    → GuestStep plan (a_guest plan logs (Some (PhaseStart phase)) (Modified place) (Some v) guests) (modified o.relid)
step_modified plan logs v guests phase place done o left planned in_plan is at answers meet =
    let os : List Opening = phase_of plan phase in
    let g : GuestSeen = a_guest plan logs (Some (PhaseStart phase)) (Modified place) (Some v) guests in
    let m : Msg = modified o.relid in
    let count : ℕ = offered_before plan (suc phase) in
    let so : Opening → Channel = guest_is (vps_before plan (suc phase)) Opened in
    let asked : Opening → Channel = guest_is (vps_before plan (suc phase)) Modifying in
    let base : ℕ → Channel = guest_opened plan phase in
    let Own : Opening → Type 0 = λ q. base q.relid ≡ so q in
    let has = phase_has plan phase planned in_plan in
    let known = mid_all (Known count) done o left (subst (AllByRecursion (Known count)) is (moved_all (Known count) plan os (phase_known plan phase planned in_plan))) in
    let own = mid_all Own done o left (subst (AllByRecursion Own) is (moved_all Own plan os (own_marked so os (guest_before (vps_before plan (suc phase)) plan phase) has.relids))) in
    let apart = (distinct_mid (λ q. q.relid) done o left (subst (Distinct (λ q. q.relid)) is (moved_distinct (λ q. q.relid) plan os has.relids))).1 in
    let channels : List Channel = slice_set guests (o.relid - 1) (so o) in
    let here : by_relid guests o.relid ≡ Some (asked o) = meet.stand.each o.relid known.0 known.1 ∙ ap (λ c. Some c) (marked_here asked o left base) in
    let after : Stand channels count (marked asked left base) =
    stand_now guests count (marked asked (o ∷ left) base) (marked asked left base) o.relid (so o) meet.stand known.0 known.1 (marked_apart asked left base o.relid apart ∙ own) (λ q off. sym (marked_there asked o left base q off)) in
    let there : moved plan os ≡ (done ++ o ∷ []) ++ left = is ∙ sym (append_assoc done (o ∷ []) left) in
    let heard : Change = Now o.relid (so o) in
    let test : Opening → Bool = then_in g heard is_modifying in
    let tests : (q : Opening) → 1 ≤ q.relid → test q ≡ in_state is_modifying (by_relid channels q.relid) = λ q some. ap (in_state is_modifying) (then_now g o.relid q.relid (so o) known.0 (let many = meet.stand.many in let few = known.1 in omega (arith, many, few)) some) in
    let onward = answers_left plan v channels phase (done ++ o ∷ []) left test planned in_plan there tests answers (record { agreed = meet.agreed; stand = after }) in
    let turn_with : List Opening → GuestTurn = λ ms. record (heard_so (Modified place) v heard) { awaits = waits_answer (position_from test 0 ms) } in
    let yes_it_answers : answers_modify (agreed plan) ≡ true = answers_are plan v planned meet.agreed ∙ answers in
    record {
      turn = turn_with (moved plan os);
      hears = ap (on_modified g o.relid) here ∙ ap (λ ms. Ok (turn_with ms)) (movers_are plan v phase planned meet.agreed);
      goes = onward.goes;
      says = λ sent e.
          let waits : GuestWait = (turn_with (moved plan os)).awaits in
          onward.says (guest_onward plan phase) ∙ ap (λ s. s ++ (start_to_say os waits ++ (moves_to_say plan os waits ++ guest_onward plan phase))) (sym e);
      heard =
          let later : List Msg = host_onward plan phase in
          let says : List Opening → List Msg = λ ps. map (λ p. modified p.relid) ps in
          ap (λ n. drop n (host_moves plan os) ++ later) at ∙ ap (λ xs. xs ++ later) (host_rest plan os done (o ∷ left) is) ∙ ap (λ b. (if b then says (o ∷ left) else []) ++ later) yes_it_answers
          ∙ ap (λ b. m ∷ ((if b then says left else []) ++ later)) (sym yes_it_answers) ∙ ap (λ xs. m ∷ xs) (onward.heard later);
    }

-- GPADL_TORNDOWN and RESCIND_CHANNELOFFER: the channel of an opening is done with, and the guest goes on
abbrev heard_end : BusPlan → ℕ → GuestWait → Version → Opening → Option Msg → GuestTurn
heard_end plan phase waits v o first = heard_with waits v (Now o.relid (guest_ends (vps_before plan (suc phase)) o)) first

abbrev turn_end : BusPlan → List Channel → ℕ → ℕ → GuestTurn → GuestTurn
turn_end plan guests phase place heard = closes_next heard guests (place + 1) (closing_at plan phase (place + 1))

record GoesOn (plan : BusPlan) (v : Version) (guests : List Channel) (phase place : ℕ) (left : List Opening) (turn : GuestTurn) (first : Option Msg) (stands : ℕ → Channel) : Type 0 where
  ends : GuestEnds plan phase v guests turn (guest_next_awaits (place + 1) left) stands (option_to_list first ++ guest_next_sends left)
  says : (sent : List Msg) → Sends plan turn.burst sent → option_to_list first ++ (flat_map guest_closes left ++ guest_from plan (suc phase)) ≡ sent ++ (end_to_say (closing_of plan phase) turn.awaits ++ guest_from plan (suc phase))
  heard : flat_map host_closes left ≡ end_to_hear (closing_of plan phase) turn.awaits

goes_so : (plan : BusPlan) (v : Version) (guests : List Channel) (phase place : ℕ) (done : List Opening) (o : Opening) (left : List Opening) (waits : GuestWait) (first : Option Msg) → IsPlan plan → EndsAt plan phase place done o left
    → Stand (changed guests (Now o.relid (guest_ends (vps_before plan (suc phase)) o))) (offered_before plan (suc phase)) (marked (guest_ends (vps_before plan (suc phase))) (done ++ o ∷ []) (marked (guest_is (vps_before plan (suc phase)) Opened) left (guest_before (vps_before plan (suc phase)) plan phase))) → NextIs (guest_is (vps_before plan (suc phase)) Opened) guests left
    → GoesOn plan v guests phase place left (turn_end plan guests phase place (heard_end plan phase waits v o first)) first (marked (guest_ends (vps_before plan (suc phase))) (done ++ o ∷ []) (guest_next_stands (vps_before plan (suc phase)) left (guest_before (vps_before plan (suc phase)) plan phase)))
goes_so plan v guests phase place done o left waits first planned at stand next =
    let os : List Opening = closing_of plan phase in
    let turn : GuestTurn = turn_end plan guests phase place (heard_end plan phase waits v o first) in
    let more = ends_more plan phase place done o left at in
    let behind = ends_place plan phase place done o left at in
    let ends = guest_goes plan v guests phase (place + 1) (done ++ o ∷ []) left waits (Now o.relid (guest_ends (vps_before plan (suc phase)) o)) first planned at.in_plan more behind stand next in
    record {
      ends = ends;
      says = λ sent sends.
          ap (λ xs. option_to_list first ++ (xs ++ guest_from plan (suc phase))) (ends_said plan phase (place + 1) (done ++ o ∷ []) left at.in_plan more behind)
          ∙ ap (λ xs. option_to_list first ++ xs) (append_assoc (guest_next_sends left) (end_to_say os (guest_next_awaits (place + 1) left)) (guest_from plan (suc phase)))
          ∙ sym (append_assoc (option_to_list first) (guest_next_sends left) (end_to_say os (guest_next_awaits (place + 1) left) ++ guest_from plan (suc phase)))
          ∙ ap (λ xs. xs ++ (end_to_say os (guest_next_awaits (place + 1) left) ++ guest_from plan (suc phase))) (sym (ends.said sent sends))
          ∙ ap (λ w. sent ++ (end_to_say os w ++ guest_from plan (suc phase))) (sym ends.awaits);
      heard = ends_heard plan phase (place + 1) (done ++ o ∷ []) left more behind ∙ ap (end_to_hear os) (sym ends.awaits);
    }

-- what the guest heard, as it goes on
abbrev closed_turn : BusPlan → ℕ → Version → ℕ → Opening → GuestTurn
closed_turn plan phase v place o = heard_with (Torn place) v (Now o.relid (guest_is (vps_before plan (suc phase)) Closed o)) None

abbrev rescinded_so : Version → ℕ → Opening → Channel → GuestTurn
rescinded_so v place o now = heard_with (Rescinded place) v (Now o.relid now) (Some (release o.relid))

-- at the end of a phase
module _ (plan : BusPlan) (logs : Logs) (v : Version) (guests : List Channel) (phase place : ℕ) (done : List Opening) (o : Opening) (left : List Opening) (planned : IsPlan plan) (at : EndsAt plan phase place done o left) where
  abbrev end_so : State → Opening → Channel
  end_so = guest_is (vps_before plan (suc phase))

  abbrev as_left : Opening → Channel
  as_left = guest_ends (vps_before plan (suc phase))

  abbrev not_yet : ℕ → Channel
  not_yet = marked (end_so Opened) left (guest_before (vps_before plan (suc phase)) plan phase)

  abbrev ending : GuestWait → GuestSeen
  ending awaits = a_guest plan logs (Some (PhaseEnd phase)) awaits (Some v) guests

  end_fact : Facts plan phase done o left
  end_fact = end_facts plan phase place done o left planned at

  end_here : drop place (closing_of plan phase) ≡ o ∷ left
  end_here = ends_left plan phase place done (o ∷ left) at.closing_is at.place_is

  end_back : o ∷ left ≡ drop place (closing_of plan phase)
  end_back = sym end_here

  -- GPADL_TORNDOWN, for the page list of a buffer: behind that of the send buffer that of the receive buffer is torn down, and behind both the channel is closed
  step_emptied : (k : Buffer) → o.rescinded ≡ false → o.buffers ≡ true → Meet plan v guests (offered_before plan (suc phase)) (marked as_left done (marked (end_so Opened) (o ∷ left) (guest_before (vps_before plan (suc phase)) plan phase))) → GuestStep plan (ending (Unlisted place k)) (torndown (buffer_list o k))
  step_emptied Send closed has meet =
      let g : GuestSeen = ending (Unlisted place Send) in
      let here_is = closing_here plan phase place done o left at in
      let handle : ℕ = buffer_list o Send in
      let mine : empties_list Send handle (closing_at plan phase place) ≡ true = ap (empties_list Send handle) here_is ∙ same handle in
      record {
        turn = empties (idle g) place o Receive;
        hears = ap (λ b. if b then Ok (emptied_at g place Send (closing_at plan phase place)) else (torn_rings g handle (place_of_list guests handle))) mine ∙ ap (λ x. Ok (emptied_at g place Send x)) here_is;
        goes = IsEmptying v guests phase place done o left Receive at closed has meet;
        says = λ sent e.
            let later : List Msg = guest_from plan (suc phase) in
            ap (λ os. empties_left Send os ++ later) end_here ∙ ap (λ os. teardown_buffer o Receive ∷ (empties_left Receive os ++ later)) end_back ∙ ap (λ s. s ++ (empties_left Receive (drop place (closing_of plan phase)) ++ later)) (sym e);
        heard = ap (λ os. emptied_left Send os ++ host_from plan (suc phase)) end_here ∙ ap (λ os. torndown handle ∷ (emptied_left Receive os ++ host_from plan (suc phase))) end_back;
      }
  step_emptied Receive closed has meet =
      let g : GuestSeen = ending (Unlisted place Receive) in
      let here_is = closing_here plan phase place done o left at in
      let handle : ℕ = buffer_list o Receive in
      let base : ℕ → Channel = guest_before (vps_before plan (suc phase)) plan phase in
      let so : Opening → Channel = guest_is (vps_before plan (suc phase)) Opened in
      let mine : empties_list Receive handle (closing_at plan phase place) ≡ true = ap (empties_list Receive handle) here_is ∙ same handle in
      let other = torn_rings g handle (place_of_list guests handle) in
      let known : by_relid guests o.relid ≡ Some (so o) = stand_at guests (offered_before plan (suc phase)) as_left done o (marked so (o ∷ left) base) (so o) meet.stand end_fact.fits.named end_fact.known end_fact.done_apart (marked_here so o left base) in
      let ends = guest_open plan v guests phase place done o left (Unlisted place Receive) Same None false planned at meet.stand known in
      let turn : GuestTurn = closes_one (idle g) guests place o in
      let stands : ℕ → Channel = marked as_left done (marked (end_so Closing) (o ∷ []) (marked so left base)) in
      record {
        turn = turn;
        hears = ap (λ b. if b then Ok (emptied_at g place Receive (closing_at plan phase place)) else other) mine ∙ ap (λ x. Ok (emptied_at g place Receive x)) here_is;
        goes = guest_stands_so plan phase v (Some (PhaseEnd phase)) guests turn (Torn place) stands (close o.relid ∷ teardown o ∷ []) ends
            (IsClosing v (changed (changed guests turn.heard) turn.wished) phase place done o left at closed (record { agreed = meet.agreed; stand = ends.guest }));
        says = λ sent sends.
            let later : List Msg = guest_from plan (suc phase) in
            let said = sym (ends.said sent sends) in
            let waits = sym ends.awaits in
            ap (λ os. empties_left Receive os ++ later) end_here ∙ ap (λ os. close o.relid ∷ teardown o ∷ (gives_sub os ++ later)) end_back ∙ (λ i. said i ++ (end_to_say (closing_of plan phase) (waits i) ++ later));
        heard =
            let later : List Msg = host_from plan (suc phase) in
            let waits = sym ends.awaits in
            ap (λ os. emptied_left Receive os ++ later) end_here ∙ ap (λ os. torndown handle ∷ (torn_left os ++ later)) end_back ∙ (λ i. torndown handle ∷ (end_to_hear (closing_of plan phase) (waits i) ++ later));
      }

  -- GPADL_TORNDOWN: the channel of an opening is closed
  on_torn : Meet plan v guests (offered_before plan (suc phase)) (marked as_left done (marked (end_so Closing) (o ∷ []) not_yet)) → guest_hears (ending (Torn place)) (torndown o.gpadl) ≡ Ok (torn_then (ending (Torn place)) (closed_turn plan phase v place o) place o.relid o)
  on_torn meet =
      let g : GuestSeen = ending (Torn place) in
      let stands : ℕ → Channel = marked as_left done (marked (end_so Closing) (o ∷ []) not_yet) in
      let heard : ℕ → GuestTurn = λ relid. heard_with (Torn place) v (Now relid (end_so Closed o)) None in
      let closing : stands o.relid ≡ end_so Closing o = marked_apart as_left done (marked (end_so Closing) (o ∷ []) not_yet) o.relid end_fact.done_apart ∙ marked_here (end_so Closing) o [] not_yet in
      let known : slice_get guests (o.relid - 1) ≡ Some (end_so Closing o) = sym (at_relid guests o.relid end_fact.fits.named) ∙ meet.stand.each o.relid end_fact.fits.named end_fact.known ∙ ap (λ c. Some c) closing in
      let mine : is_handle o.gpadl (stands o.relid).gpadl ≡ true = ap (λ c. is_handle o.gpadl c.gpadl) closing ∙ same o.gpadl in
      let found : place_of_list guests o.gpadl ≡ Some (o.relid - 1) = find_list guests (offered_before plan (suc phase)) stands o.relid o.gpadl meet.stand end_fact.fits.named end_fact.known mine (closing_handle plan (vps_before plan (suc phase)) phase done o left end_fact) in
      let again : o.relid - 1 + 1 ≡ o.relid = omega (arith, end_fact.fits.named) in
      ap (torn_rings g o.gpadl) found ∙ ap (torn_at g o.gpadl (o.relid - 1)) known ∙ ap (λ r. Ok (torn_for g (heard r) place r (closing_at plan phase place))) again
      ∙ ap (λ x. Ok (torn_for g (heard o.relid) place o.relid x)) (closing_here plan phase place done o left at)

  -- a first channel is done with then
  step_torn_first : o.rescinded ≡ false → is_sub o ≡ false → Meet plan v guests (offered_before plan (suc phase)) (marked as_left done (marked (end_so Closing) (o ∷ []) not_yet)) → GuestStep plan (ending (Torn place)) (torndown o.gpadl)
  step_torn_first closed is_first meet =
      let g : GuestSeen = ending (Torn place) in
      let m : Msg = torndown o.gpadl in
      let count : ℕ = offered_before plan (suc phase) in
      let kept : ends_given_back o ≡ false = ap (λ b. b || is_sub o) closed ∙ is_first in
      let so : as_left o ≡ end_so Closed o = ap (λ b. end_so (end_state b) o) kept in
      let turn : GuestTurn = turn_end plan guests phase place (heard_end plan phase (Torn place) v o None) in
      let heard : Channel → GuestTurn = λ now. heard_with (Torn place) v (Now o.relid now) None in
      let taken : GuestTurn = record (closed_turn plan phase v place o) { awaits = Rescinded place } in
      let asked : torn_then g (closed_turn plan phase v place o) place o.relid o ≡ turn_end plan guests phase place (closed_turn plan phase v place o) =
      ap (λ b. if b && is_sub o then taken else (if b then turn_end plan guests phase place (closed_turn plan phase v place o) else closed_turn plan phase v place o)) (same o.relid)
      ∙ ap (λ b. if b then taken else turn_end plan guests phase place (closed_turn plan phase v place o)) is_first in
      let after : Stand (slice_set guests (o.relid - 1) (as_left o)) count (marked as_left (done ++ o ∷ []) not_yet) =
      stand_join guests count as_left done o (marked (end_so Closing) (o ∷ []) not_yet) not_yet meet.stand end_fact.fits.named end_fact.known end_fact.done_apart (λ q off. sym (marked_there (end_so Closing) o [] not_yet q off)) in
      let next = next_is plan guests phase place as_left (end_so Closing) (end_so Opened) done o left (guest_before (vps_before plan (suc phase)) plan phase) planned at meet.stand in
      let on = goes_so plan v guests phase place done o left (Torn place) None planned at after next in
      record {
        turn = turn;
        hears = on_torn meet ∙ ap (λ t. Ok t) asked ∙ ap (λ c. Ok (turn_end plan guests phase place (heard c))) (sym so);
        goes = guest_stands_so plan phase v (Some (PhaseEnd phase)) guests turn (guest_next_awaits (place + 1) left) (marked as_left (done ++ o ∷ []) (guest_next_stands (vps_before plan (suc phase)) left (guest_before (vps_before plan (suc phase)) plan phase))) (option_to_list None ++ guest_next_sends left) on.ends
            (guest_next plan v (changed (changed guests turn.heard) turn.wished) phase (place + 1) (done ++ o ∷ []) left planned at.in_plan (ends_more plan phase place done o left at) (ends_place plan phase place done o left at) (record { agreed = meet.agreed; stand = on.ends.guest }));
        says = λ sent sends.
            ap (λ os. gives_sub os ++ guest_from plan (suc phase)) end_here ∙ ap (λ b. ((if b then release o.relid ∷ [] else []) ++ flat_map guest_closes left) ++ guest_from plan (suc phase)) is_first ∙ on.says sent sends;
        heard =
            ap (λ os. torn_left os ++ host_from plan (suc phase)) end_here
            ∙ ap (λ b. m ∷ (((if b then rescind o.relid ∷ [] else []) ++ flat_map host_closes left) ++ host_from plan (suc phase))) is_first ∙ ap (λ xs. m ∷ (xs ++ host_from plan (suc phase))) on.heard;
      }

  -- a sub-channel is to be rescinded then
  step_torn_sub : o.rescinded ≡ false → is_sub o ≡ true → Meet plan v guests (offered_before plan (suc phase)) (marked as_left done (marked (end_so Closing) (o ∷ []) not_yet)) → GuestStep plan (ending (Torn place)) (torndown o.gpadl)
  step_torn_sub closed sub meet =
      let m : Msg = torndown o.gpadl in
      let count : ℕ = offered_before plan (suc phase) in
      let turn : GuestTurn = record (closed_turn plan phase v place o) { awaits = Rescinded place } in
      let asked : torn_then (ending (Torn place)) (closed_turn plan phase v place o) place o.relid o ≡ turn =
      ap (λ b. if b && is_sub o then turn else (if b then turn_end plan guests phase place (closed_turn plan phase v place o) else closed_turn plan phase v place o)) (same o.relid)
      ∙ ap (λ b. if b then turn else turn_end plan guests phase place (closed_turn plan phase v place o)) sub in
      let after : Stand (slice_set guests (o.relid - 1) (end_so Closed o)) count (marked as_left done (marked (end_so Closed) (o ∷ []) not_yet)) =
      stand_mark guests count as_left (end_so Closed) done o (marked (end_so Closing) (o ∷ []) not_yet) not_yet meet.stand end_fact.fits.named end_fact.known end_fact.done_apart (λ q off. sym (marked_there (end_so Closing) o [] not_yet q off)) in
      record {
        turn = turn;
        hears = on_torn meet ∙ ap (λ t. Ok t) asked;
        goes = gives_sub_back v (slice_set guests (o.relid - 1) (end_so Closed o)) phase place done o left at closed sub (record { agreed = meet.agreed; stand = after });
        says = λ sent e.
            let later : List Msg = guest_from plan (suc phase) in
            ap (λ os. gives_sub os ++ later) end_here ∙ ap (λ b. ((if b then release o.relid ∷ [] else []) ++ flat_map guest_closes left) ++ later) sub ∙ ap (λ os. gives_one os ++ later) end_back
            ∙ ap (λ s. s ++ (gives_one (drop place (closing_of plan phase)) ++ later)) (sym e);
        heard =
            ap (λ os. torn_left os ++ host_from plan (suc phase)) end_here
            ∙ ap (λ b. m ∷ (((if b then rescind o.relid ∷ [] else []) ++ flat_map host_closes left) ++ host_from plan (suc phase))) sub ∙ ap (λ os. m ∷ (takes_one os ++ host_from plan (suc phase))) end_back;
      }

  pub step_torn : o.rescinded ≡ false → Meet plan v guests (offered_before plan (suc phase)) (marked as_left done (marked (end_so Closing) (o ∷ []) not_yet)) → GuestStep plan (ending (Torn place)) (torndown o.gpadl)
  step_torn closed meet =
      by_test {P = GuestStep plan (ending (Torn place)) (torndown o.gpadl)} (is_sub o)
      (λ e. step_torn_sub closed e meet)
      (λ e. step_torn_first closed e meet)

  -- RESCIND_CHANNELOFFER: the channel is open, or it is a sub-channel that was closed
  step_rescinds : (state : State) → ends_given_back o ≡ true → on_rescind (ending (Rescinded place)) o.relid (Some (end_so state o)) ≡ Ok (ended_for (ending (Rescinded place)) (rescinded_so v place o (end_so Released o)) place o.relid (closing_at plan phase place))
      → Meet plan v guests (offered_before plan (suc phase)) (marked as_left done (marked (end_so state) (o ∷ []) not_yet)) → GuestStep plan (ending (Rescinded place)) (rescind o.relid)
  step_rescinds state gone takes meet =
      let g : GuestSeen = ending (Rescinded place) in
      let first : Option Msg = Some (release o.relid) in
      let count : ℕ = offered_before plan (suc phase) in
      let turn : GuestTurn = turn_end plan guests phase place (heard_end plan phase (Rescinded place) v o first) in
      let known : by_relid guests o.relid ≡ Some (end_so state o) = stand_at guests count as_left done o (marked (end_so state) (o ∷ []) not_yet) (end_so state o) meet.stand end_fact.fits.named end_fact.known end_fact.done_apart (marked_here (end_so state) o [] not_yet) in
      let asked : ended_for g (rescinded_so v place o (as_left o)) place o.relid (Some o) ≡ turn = ap (λ b. if b then turn else rescinded_so v place o (as_left o)) (same o.relid) in
      let after : Stand (slice_set guests (o.relid - 1) (as_left o)) count (marked as_left (done ++ o ∷ []) not_yet) =
      stand_join guests count as_left done o (marked (end_so state) (o ∷ []) not_yet) not_yet meet.stand end_fact.fits.named end_fact.known end_fact.done_apart (λ q off. sym (marked_there (end_so state) o [] not_yet q off)) in
      let next = next_is plan guests phase place as_left (end_so state) (end_so Opened) done o left (guest_before (vps_before plan (suc phase)) plan phase) planned at meet.stand in
      let on = goes_so plan v guests phase place done o left (Rescinded place) first planned at after next in
      record {
        turn = turn;
        hears = ap (on_rescind g o.relid) known ∙ takes
            ∙ ap (λ c. Ok (ended_for g (rescinded_so v place o c) place o.relid (closing_at plan phase place))) (sym (ap (λ b. end_so (end_state b) o) gone))
            ∙ ap (λ x. Ok (ended_for g (rescinded_so v place o (as_left o)) place o.relid x)) (closing_here plan phase place done o left at) ∙ ap (λ t. Ok t) asked;
        goes = guest_stands_so plan phase v (Some (PhaseEnd phase)) guests turn (guest_next_awaits (place + 1) left) (marked as_left (done ++ o ∷ []) (guest_next_stands (vps_before plan (suc phase)) left (guest_before (vps_before plan (suc phase)) plan phase))) (option_to_list first ++ guest_next_sends left) on.ends
            (guest_next plan v (changed (changed guests turn.heard) turn.wished) phase (place + 1) (done ++ o ∷ []) left planned at.in_plan (ends_more plan phase place done o left at) (ends_place plan phase place done o left at) (record { agreed = meet.agreed; stand = on.ends.guest }));
        says = λ sent sends. ap (λ os. gives_one os ++ guest_from plan (suc phase)) end_here ∙ on.says sent sends;
        heard = ap (λ os. takes_one os ++ host_from plan (suc phase)) end_here ∙ ap (λ xs. (rescind o.relid) ∷ (xs ++ host_from plan (suc phase))) on.heard;
      }

  pub step_gives : o.rescinded ≡ true → Meet plan v guests (offered_before plan (suc phase)) (marked as_left done (marked (end_so Opened) (o ∷ left) (guest_before (vps_before plan (suc phase)) plan phase))) → GuestStep plan (ending (Rescinded place)) (rescind o.relid)
  step_gives gone meet =
      step_rescinds Opened (ap (λ b. b || is_sub o) gone) refl (record { agreed = meet.agreed; stand = meet.stand })

  pub step_gives_sub : o.rescinded ≡ false → is_sub o ≡ true → Meet plan v guests (offered_before plan (suc phase)) (marked as_left done (marked (end_so Closed) (o ∷ []) not_yet)) → GuestStep plan (ending (Rescinded place)) (rescind o.relid)
  step_gives_sub closed sub meet =
      step_rescinds Closed (ap (λ b. b || is_sub o) closed ∙ sub) refl meet

-- UNLOAD_RESPONSE
step_left : (plan : BusPlan) (logs : Logs) (v : Version) (guests : List Channel) → Meet plan v guests (offered_before plan (length plan.phases)) (guest_before (vps_before plan (length plan.phases)) plan (length plan.phases)) → GuestStep plan (a_guest plan logs (Some Unload) Unloaded (Some v) guests) farewell_taken
step_left plan logs v guests meet =
    record {
      turn = record (idle (a_guest plan logs (Some Unload) Unloaded (Some v) guests)) { awaits = Nothing };
      hears = refl;
      goes = is_over v guests meet;
      says = λ sent e. ap (λ s. s ++ []) (sym e);
      heard = refl;
    }

-- the message that a guest takes where it stands
pub record GuestGoes (plan : BusPlan) (g : GuestSeen) : Type 0 where
  pub next : Msg
  pub step : GuestStep plan g next

step_response : (plan : BusPlan) (logs : Logs) (v : Version) → IsPlan plan → Tries plan v → GuestGoes plan (a_guest plan logs (Some Contact) (Response v) None [])
step_response plan logs v planned tries = by_test {P = GuestGoes plan (a_guest plan logs (Some Contact) (Response v) None [])} (nat_le v.0 plan.host.0)
    (λ e. let within : v.0 ≤ plan.host.0 = grind (arith, nat_tests, e) in record { next = respond 1; step = step_accepts plan logs v planned (record { tried = tries; within_host = within }) })
    (λ e. let above : plan.host.0 < v.0 = grind (arith, nat_tests, e) in record { next = respond 0; step = step_refuses plan logs v planned tries above })

port_at : (kinds : List Kind) (n : ℕ) (kind : Kind) (left : List Kind) → All HasPort kinds → drop n kinds ≡ kind ∷ left → HasPort kind
port_at kinds n kind left all is =
    let here = left_of kinds n kind left is in
    subst HasPort (some_get kinds n kind here.0) (All-get_or HasPort kinds n kind (omega (arith, here.2)) all)

step_offers : (plan : BusPlan) (logs : Logs) (v : Version) (n : ℕ) (left : List Kind) → IsPlan plan → Agreed plan v → n ≤ length plan.kinds → drop n plan.kinds ≡ left → GuestGoes plan (a_guest plan logs (Some Contact) Offers (Some v) (replicate n offered_channel))
step_offers plan logs v n [] planned agreed few is = record { next = delivered; step = step_offered plan logs v n agreed few is }
step_offers plan logs v n (kind ∷ left) planned agreed few is = record { next = offer kind (n + 1) 0; step = step_offering plan logs v n kind left (port_at plan.kinds n kind left planned.ports is) agreed is }

step_service : (plan : BusPlan) (logs : Logs) (v : Version) (guests : List Channel) (phase place : ℕ) (done : List Opening) (o : Opening) (left : List Opening) (dialed : Option ℕ) → IsPlan plan → At plan phase place done o left → o.dialed ≡ dialed → is_some o.dialed ≡ true
    → Meet plan v guests (offered_by plan phase done (o ∷ left)) (marked (guest_is (vps_before plan phase) Opened) done (guest_before (vps_before plan phase) plan phase))
    → GuestGoes plan (a_guest plan logs (Some (PhaseStart phase)) (ServiceOffer place) (Some v) guests)
step_service plan logs v guests phase place done o left None planned at is asked meet = absurd (let wrong : true ≡ false = sym asked ∙ ap is_some is in cc)
step_service plan logs v guests phase place done o left (Some port) planned at is asked meet = record { next = offer_service port o.relid; step = step_dialed plan logs v guests phase place done o left planned at port is meet }

-- each row in which a guest waits for a message
pub guest_step : (plan : BusPlan) (logs : Logs) (part : Option Part) (awaits : GuestWait) (version : Option Version) (channels : List Channel) → IsPlan plan → GuestStands plan part awaits version channels → waits_for_nothing awaits ≡ false
    → GuestGoes plan (a_guest plan logs part awaits version channels)
guest_step plan logs part awaits version channels planned (IsProposing v tries) waits = step_response plan logs v planned tries
guest_step plan logs part awaits version channels planned (asks v n agreed few) waits = step_offers plan logs v n (drop n plan.kinds) planned agreed few refl
guest_step plan logs part awaits version channels planned (IsOffering v cs phase place done first offered o left at is_first subs meet) waits = record { next = offer_sub o; step = step_sub_offered plan logs v cs phase place done first offered o left planned at is_first subs meet }
guest_step plan logs part awaits version channels planned (dials v cs phase place done o left at asked meet) waits = step_service plan logs v cs phase place done o left o.dialed planned at refl asked meet
guest_step plan logs part awaits version channels planned (lists v cs phase place done o left at meet) waits = record { next = created o.relid o.gpadl; step = step_listed plan logs v cs phase place done o left planned at meet }
guest_step plan logs part awaits version channels planned (IsOpened v cs phase place done o left at meet) waits = record { next = opened o.relid o.relid; step = step_open plan logs v cs phase place done o left planned at meet }
guest_step plan logs part awaits version channels planned (IsFilling v cs phase place done o left k at has meet) waits = record { next = host_buffer o k; step = step_filled plan logs v cs phase place done o left planned at k has meet }
guest_step plan logs part awaits version channels planned (moves v cs phase place done o left in_plan is at answers meet) waits = record { next = modified o.relid; step = step_modified plan logs v cs phase place done o left planned in_plan is at answers meet }
guest_step plan logs part awaits version channels planned (IsEmptying v cs phase place done o left k at closed has meet) waits = record { next = torndown (buffer_list o k); step = step_emptied plan logs v cs phase place done o left planned at k closed has meet }
guest_step plan logs part awaits version channels planned (IsClosing v cs phase place done o left at closed meet) waits = record { next = torndown o.gpadl; step = step_torn plan logs v cs phase place done o left planned at closed meet }
guest_step plan logs part awaits version channels planned (gives_back v cs phase place done o left at gone meet) waits = record { next = rescind o.relid; step = step_gives plan logs v cs phase place done o left planned at gone meet }
guest_step plan logs part awaits version channels planned (gives_sub_back v cs phase place done o left at closed sub meet) waits = record { next = rescind o.relid; step = step_gives_sub plan logs v cs phase place done o left planned at closed sub meet }
guest_step plan logs part awaits version channels planned (leaves v cs meet) waits = record { next = farewell_taken; step = step_left plan logs v cs meet }
guest_step plan logs part awaits version channels planned _ waits = absurd (cc)
