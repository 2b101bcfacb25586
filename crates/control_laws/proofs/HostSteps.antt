-- A host takes the next message that its guest says.
use Rattle.std.proofs.Common.{◌≡◌, ◌≢◌, ◌∙◌, ℕ, suc, ◌+◌, ◌-◌, ◌<◌, ◌≤◌, ◌&&◌, ◌||◌, nat_le, Bool, true, false, List, [], ◌∷◌, ◌++◌, length, map, drop, slice_get, slice_set, Option, Some, None, Ok, Err, if◌then◌else◌, refl, sym, ap, subst, append_assoc, length-append, arith}
use Rattle.std.specs.Option.{option_to_list}
use Rattle.std.specs.List.{AllByRecursion, flat_map}
use Rattle.std.proofs.lemmas.Bool.Decides.{nat_tests}
use Rattle.std.proofs.lemmas.Grind.{flat_map-append}
use Rattle.std.proofs.lemmas.List.{append-nil}
use Rattle.std.proofs.lemmas.List.FromFn.{length-range_with_len}
use Rattle.std.proofs.lemmas.Slice.Eq.{bytes_eq-Decides}
use Rattle.std.specs.Str.{bytes_eq}
use Rattle.control_laws.proofs.Words.{State, Version, Kind, Part, versions_tried, has_modify, answers_modify, Contact, PhaseStart, PhaseEnd, Unload, offers_from, Opened, Closing, Closed, IsRescinded, SendModified, ModifySeen, TeardownSeen, ChanState, Assembly, Msg, Opening, Buffer, Receive, Send, One, Two, Opens, HostWait, AwaitsContact, Request, AwaitsConnect, AwaitsList, AwaitsOpen, AwaitsFill, AwaitsModify, AwaitsEmpty, AwaitsClose, AwaitsTeardown, AwaitsRelease, AwaitsUnload, HostNext}
use Rattle.contact.specs.Services.{service_id}
use Rattle.gpadl.specs.Cut.{cut}
use Rattle.chan_state.specs.declared.action.Action.TheVariants.{Nothing}
use Rattle.control_model.specs.declared.burst.Burst.TheVariants.{Empty}
use Rattle.control_model.specs.declared.fault.ControlFault.TheVariants.{Gpadl}
use Rattle.gpadl.specs.declared.fault.GpadlFault.TheVariants.{Handle}
use Rattle.control_model.specs.Plan.{BusPlan, buffer_list, buffer_begins, buffer_size, is_sub, subs_next, subs_behind, opening_at, closing_at, IsPlan, phase_of, closing_of, movers_in, vp_for, list_pages}
use Rattle.control_model.specs.Channels.{by_relid, row_of, stands, goes_by}
use Rattle.control_model.specs.Messages.{propose, respond, request, delivered, connect, pages_from, buffer_pages, open_on, opened, modify, modified, offer_sub, close, teardown, teardown_buffer, torndown, rescind, release, farewell, Sends}
use Rattle.control_model.specs.Host.{HostSeen, HostTurn, at_rest, connects, connects_to, offers_service, on_request, offered_life, with_offers, subs_offered, with_subs, has_buffers_at, waits_behind, opened_then, open_by, on_open, on_close, torn_for, teardown_by, is_list_of, emptied_next, empties_one, tears_live, on_teardown, on_release, is_of, waits_list, waits_move, modify_by, moved_then, on_modify, stays, next_end, without, without_buffers, wants_rescind, rescinded_among, and_rescind, goes_next, on_unload, host_hears}
use Rattle.control_model.specs.Stand.{At, EndsAt, offered_before, offered_by, offered_for, count_dialed, marked, end_state, host_is, host_ends, host_before, Stand, Tries, Agreed, Meet, handles_of, handles, vps_before}
use Rattle.control_model.specs.Guest.{is_answered}
use Rattle.control_model.specs.Said.{answer_to, dials, dial_offers, moved, guest_moves, host_moves, guest_buffer, host_buffer, guest_opens, host_opens_all, host_closes, guest_closes, ends_given_back}
use Rattle.control_model.specs.GuestAt.{guest_from, host_from, lists_dialed, opens_listed, answers_list, answers_open, fills_listed, answers_fill, emptied_left, torn_left, gives_one}
use Rattle.control_model.specs.HostAt.{host_start_to_say, host_moves_to_say, tears_down, closes_left, tears_left, host_end_to_say, host_end_to_hear, host_to_say, host_to_hear, live_ones, lists_but, lists_beside, HostStands}
use Rattle.control_model.specs.HostAt.HostStands.{answers, accepts as IsAccepting, contacted, lists, fills, empties, closes, tears, takes_back, is_over}
use Rattle.control_laws.proofs.NextOne.{host_next_awaits, host_next_stands, host_next_done, host_next_sends}
use Rattle.control_laws.proofs.Logs.{Logs, a_host}
use Rattle.control_laws.proofs.Vps.{marked_alike, before_alike, host_alike, vp_known, moved_all, moved_distinct, movers_are, answers_are, own_marked, host_says, guest_rest, host_rest}
use Rattle.control_laws.proofs.Next.{pieces_of, HasFirst, cut_first}
use Rattle.control_laws.proofs.Moving.{Known, phase_known, next_wait, host_moving, moves_left}
use Rattle.control_laws.proofs.Tried.{one_tried, next_tried}
use Rattle.control_laws.proofs.Saying.{guest_onward, host_onward, guest_then, host_then, left_at, lists_more, dials_more, answers_more, ends_left, ends_behind, host_ends_said, host_ends_heard}
use Rattle.control_laws.proofs.Marks.{by_test, same, marked_apart, marked_like, marked_append, marked_here, marked_there, stand_now, stand_mark, stand_join, stand_add, stand_at}
use Rattle.control_laws.proofs.Closing.{Distinct, distinct_mid}
use Rattle.control_laws.proofs.Cutting.{all_weaker, mid_all, all_snoc}
use Rattle.control_laws.proofs.Counts.{count_next, done_known, unopened}
use Rattle.control_laws.proofs.Plans.{Facts, get_from, phase_has, facts, opening_here, offered_here, done_more, place_more, end_facts, closing_here, ends_more, ends_place, none_behind}
use Rattle.control_laws.proofs.NextEnd.{next_is, HostEnds, host_goes, host_stands_so, host_next}
use Rattle.control_laws.proofs.Lower.{lower_one, accepts_it, refuses_it}
use Rattle.control_laws.proofs.Offering.{all_mapped}
use Rattle.control_laws.proofs.Handles.{can_open_host}
use Rattle.control_laws.proofs.Live.{let_go, let_go_again, still_live, buffer_live, buffer_known, rings_known}

-- a message is taken, and the host goes on
pub record HostStep (plan : BusPlan) (h : HostSeen) (tried : List ℕ) (m : Msg) (pieces : List Msg) : Type 0 where
  pub turn : HostTurn
  pub hears : host_hears h m ≡ Ok turn
  pub tried_then : List ℕ
  pub pieces_then : List Msg
  pub goes : HostStands plan h.part turn.awaits turn.version turn.channels turn.lists tried_then pieces_then
  pub says : (sent : List Msg) → Sends plan turn.burst sent → host_to_say plan h.part h.awaits tried ≡ sent ++ host_to_say plan h.part turn.awaits tried_then
  pub heard : host_to_hear plan h.part h.awaits tried pieces ≡ m ∷ host_to_hear plan h.part turn.awaits tried_then pieces_then

-- INITIATE_CONTACT
step_accepts : (plan : BusPlan) (logs : Logs) (v : Version) → Agreed plan v → HostStep plan (a_host plan logs (Some Contact) AwaitsContact None [] (live_ones [])) (versions_tried v.0 plan.host.0) (propose v.0) []
step_accepts plan logs v agreed =
    let within = agreed.within_host in
    let one = one_tried plan v agreed in
    let has : nat_le v.0 plan.host.0 ≡ true = grind (arith, nat_tests, within) in
    record {
      turn = record (at_rest (a_host plan logs (Some Contact) AwaitsContact None [] (live_ones []))) { awaits = Request; version = Some v; burst = One (respond 1) };
      hears = rw (accepts_it plan v agreed.tried within) refl;
      tried_then = [];
      pieces_then = [];
      goes = IsAccepting v agreed;
      says = λ sent e. ap (λ vs. (map (answer_to plan) vs ++ (offers_from 1 plan.kinds ++ delivered ∷ [])) ++ host_from plan 0) one ∙ ap (λ b. respond (if b then 1 else 0) ∷ ((offers_from 1 plan.kinds ++ delivered ∷ []) ++ host_from plan 0)) has
          ∙ ap (λ s. s ++ ((offers_from 1 plan.kinds ++ delivered ∷ []) ++ host_from plan 0)) (sym e);
      heard = ap (λ vs. (map propose vs ++ request ∷ []) ++ guest_from plan 0) one;
    }

step_refuses : (plan : BusPlan) (logs : Logs) (v : Version) → IsPlan plan → Tries plan v → plan.host.0 < v.0 → HostStep plan (a_host plan logs (Some Contact) AwaitsContact None [] (live_ones [])) (versions_tried v.0 plan.host.0) (propose v.0) []
step_refuses plan logs v planned tries above =
    let low = lower_one plan v planned tries above in
    let next = next_tried plan v planned tries above low in
    let lacks : nat_le v.0 plan.host.0 ≡ false = grind (arith, nat_tests, above) in
    let later : List ℕ = versions_tried low.lower.0 plan.host.0 in
    record {
      turn = record (at_rest (a_host plan logs (Some Contact) AwaitsContact None [] (live_ones []))) { burst = One (respond 0) };
      hears = rw (refuses_it plan v above) refl;
      tried_then = later;
      pieces_then = [];
      goes = answers low.lower low.tries;
      says = λ sent e. ap (λ vs. (map (answer_to plan) vs ++ (offers_from 1 plan.kinds ++ delivered ∷ [])) ++ host_from plan 0) next
          ∙ ap (λ b. respond (if b then 1 else 0) ∷ ((map (answer_to plan) later ++ (offers_from 1 plan.kinds ++ delivered ∷ [])) ++ host_from plan 0)) lacks
          ∙ ap (λ s. s ++ ((map (answer_to plan) later ++ (offers_from 1 plan.kinds ++ delivered ∷ [])) ++ host_from plan 0)) (sym e);
      heard = ap (λ vs. (map propose vs ++ request ∷ []) ++ guest_from plan 0) next;
    }

pub step_proposes : (plan : BusPlan) (logs : Logs) (v : Version) → IsPlan plan → Tries plan v → HostStep plan (a_host plan logs (Some Contact) AwaitsContact None [] (live_ones [])) (versions_tried v.0 plan.host.0) (propose v.0) []
step_proposes plan logs v planned tries =
    by_test {P = HostStep plan (a_host plan logs (Some Contact) AwaitsContact None [] (live_ones [])) (versions_tried v.0 plan.host.0) (propose v.0) []} (nat_le v.0 plan.host.0)
    (λ e. let within : v.0 ≤ plan.host.0 = grind (arith, nat_tests, e) in step_accepts plan logs v (record { tried = tries; within_host = within }))
    (λ e. let above : plan.host.0 < v.0 = grind (arith, nat_tests, e) in step_refuses plan logs v planned tries above)

-- REQUESTOFFERS
pub step_asks : (plan : BusPlan) (logs : Logs) (v : Version) → Agreed plan v → HostStep plan (a_host plan logs (Some Contact) Request (Some v) [] (live_ones [])) [] request []
step_asks plan logs v agreed =
    let life : ChanState = offered_life in
    record {
      turn = on_request (a_host plan logs (Some Contact) Request (Some v) [] (live_ones [])) Request;
      hears = refl;
      tried_then = [];
      pieces_then = [];
      goes = contacted v (map (λ (kind : Kind). life) plan.kinds) (record { agreed = agreed; stand = all_mapped plan life });
      says = λ sent e. ap (λ s. s ++ host_from plan 0) (sym e);
      heard = refl;
    }

-- TL_CONNECT_REQUEST: the channel of the service is offered
pub step_connects : (plan : BusPlan) (logs : Logs) (v : Version) (hosts : List ChanState) (phase place : ℕ) (done : List Opening) (o : Opening) (left : List Opening) (port : ℕ) → IsPlan plan
    → At plan phase place done o left → o.dialed ≡ Some port → Meet plan v hosts (offered_by plan phase done (o ∷ left)) (marked (host_is (vps_before plan phase) Opened) done (host_before (vps_before plan phase) plan phase))
    → HostStep plan (a_host plan logs (Some (PhaseStart phase)) (AwaitsConnect place) (Some v) hosts (live_ones (handles done))) [] (connect port) []
step_connects plan logs v hosts phase place done o left port planned at is meet =
    let h : HostSeen = a_host plan logs (Some (PhaseStart phase)) (AwaitsConnect place) (Some v) hosts (live_ones (handles done)) in
    let os : List Opening = phase_of plan phase in
    let few = (facts plan phase place done o left planned at).fits.some_pages in
    let list : List Msg = cut o.relid o.gpadl (pages_from o) in
    let whole : HasFirst list = cut_first o.relid o.gpadl (pages_from o) (omega (arith, few, length-range_with_len o.first_page (list_pages o.ring_pages))) in
    let turn : HostTurn = offers_service h place port o.relid in
    let service : List ℕ = service_id port in
    let stands : ℕ → ChanState = marked (host_is (vps_before plan phase) Opened) done (host_before (vps_before plan phase) plan phase) in
    let count : ℕ = offered_by plan phase done (o ∷ left) in
    let mine : bytes_eq service service ≡ true = (bytes_eq-Decides service service).1 refl in
    let more : count + 1 ≡ offered_for plan phase done o left = omega (arith, ap count_dialed is) in
    let fresh : (q : ℕ) → count < q → q ≤ count + 1 → stands q ≡ offered_life = λ q above few.
    marked_apart (host_is (vps_before plan phase) Opened) done (host_before (vps_before plan phase) plan phase) q (all_weaker (λ p. p.relid ≤ count) (λ p. p.relid ≢ q) (λ p l e. absurd (omega (arith, l, e, above))) done (done_known plan phase place done o left planned at))
    ∙ unopened plan (host_ends (vps_before plan phase)) offered_life phase q planned (omega (arith, at.in_plan)) (omega (arith, above)) in
    let after = subst (λ n. Stand (hosts ++ offered_life ∷ []) n stands) more (stand_add hosts count 1 stands offered_life meet.stand fresh) in
    let here = left_at plan phase place done (o ∷ left) at.phase_is at.place_is in
    let back = sym here in
    record {
      turn = turn;
      hears = ap (λ x. Ok (connects h place service x)) (opening_here plan phase place done o left at) ∙ ap (λ d. Ok (connects_to h place o service d)) is ∙ ap (λ b. Ok (if b then turn else at_rest h)) mine;
      tried_then = [];
      pieces_then = list;
      goes = subst (HostStands plan (Some (PhaseStart phase)) (AwaitsList place) (Some v) (hosts ++ offered_life ∷ []) (live_ones (handles done)) []) (sym whole.is)
          (lists v (hosts ++ offered_life ∷ []) phase place done o left (live_ones (handles done)) whole.first whole.rest at (record { agreed = meet.agreed; stand = after }) (record { came = []; whole = whole.is; lists_are = refl }));
      says = λ sent e. ap (λ xs. host_opens_all xs ++ host_then plan phase) here ∙ answers_more o left (host_then plan phase) ∙ (λ i. (ap (dial_offers o.relid) is ∙ sym e) i ++ (answers_list (back i) ++ host_then plan phase));
      heard =
          let later : List Msg = guest_then plan phase in
          ap (λ xs. flat_map guest_opens xs ++ later) here ∙ dials_more o left later ∙ ap (λ d. dials d ++ (lists_dialed (o ∷ left) ++ later)) is
          ∙ ap (λ xs. (connect port) ∷ xs) (lists_more o left later ∙ sym (append_assoc list (opens_listed (o ∷ left)) later) ∙ ap (λ xs. (list ++ opens_listed xs) ++ later) back);
    }

-- OPENCHANNEL: behind a device's first channel its sub-channels are offered
step_opens_bare : (plan : BusPlan) (logs : Logs) (v : Version) (hosts : List ChanState) (phase place : ℕ) (done : List Opening) (o : Opening) (left : List Opening) → IsPlan plan
    → At plan phase place done o left → Meet plan v hosts (offered_for plan phase done o left) (marked (host_is (vps_before plan phase) Opened) done (host_before (vps_before plan phase) plan phase))
    → o.buffers ≡ false → HostStep plan (a_host plan logs (Some (PhaseStart phase)) (AwaitsOpen place) (Some v) hosts (live_ones (handles done ++ o.gpadl ∷ []))) [] (open_on o) []
step_opens_bare plan logs v hosts phase place done o left planned at meet bare =
    let h : HostSeen = a_host plan logs (Some (PhaseStart phase)) (AwaitsOpen place) (Some v) hosts (live_ones (handles done ++ o.gpadl ∷ [])) in
    let part : Option Part = Some (PhaseStart phase) in
    let m : Msg = open_on o in
    let answer : Msg = opened o.relid o.relid in
    let subs : List Opening = subs_next (o ∷ left) in
    let count : ℕ = offered_for plan phase done o left in
    let fact = facts plan phase place done o left planned at in
    let mine_known = offered_here plan phase place done o left planned at in
    let life : ChanState = host_before (vps_before plan phase) plan phase o.relid in
    let can = can_open_host plan (vps_before plan phase) phase o.relid fact.not_before in
    let vp_is : life.vp ≡ vps_before plan phase o.relid = vp_known plan (λ (l : ChanState). l.vp) (host_ends (vps_before plan phase)) offered_life phase o.relid (λ p. refl) refl in
    let now : ChanState = host_is (vps_before plan phase) Opened o in
    let later : HostWait = waits_list h part (place + 1) (opening_at plan phase (place + 1)) in
    let here : drop place (phase_of plan phase) ≡ o ∷ left = left_at plan phase place done (o ∷ left) at.phase_is at.place_is in
    let open_now : List ChanState = slice_set hosts (o.relid - 1) now in
    let turn : HostTurn = record (at_rest h) { awaits = later; channels = with_subs open_now subs; lists = live_ones (handles done ++ o.gpadl ∷ []); burst = Opens answer part place } in
    let known : by_relid hosts o.relid ≡ Some life = stand_at hosts count (host_is (vps_before plan phase) Opened) done o (host_before (vps_before plan phase) plan phase) life meet.stand fact.fits.named mine_known fact.done_apart refl in
    let mine : is_of o.relid (opening_at plan phase place) ≡ true = ap (is_of o.relid) (opening_here plan phase place done o left at) ∙ same o.relid in
    let buffers_at : has_buffers_at (opening_at plan phase place) ≡ false = ap has_buffers_at (opening_here plan phase place done o left at) ∙ bare in
    let waits : opened_then h (AwaitsOpen place) o.relid ≡ later = ap (λ b. if b then waits_behind h place else AwaitsOpen place) mine ∙ ap (λ b. if b then AwaitsFill place Receive else later) buffers_at in
    let live : handles done ++ o.gpadl ∷ [] ≡ handles (done ++ o ∷ []) = ap (λ b. handles done ++ (o.gpadl ∷ (if b then buffer_list o Receive ∷ buffer_list o Send ∷ [] else []))) (sym bare) ∙ ap (λ xs. handles done ++ xs) (sym (append-nil (handles_of o))) ∙ sym (flat_map-append handles_of done (o ∷ [])) in
    let stood : stands life Opened ≡ now = (λ i. record { side = can.side i; state = Opened; vp = vp_is i }) in
    let offers : subs_offered h (AwaitsOpen place) o.relid ≡ subs = ap (λ b. if b then subs_behind plan part place else []) mine ∙ ap subs_next here in
    let sends : with_offers h (AwaitsOpen place) o.relid answer ≡ Opens answer part place = ap (λ b. if b then Opens answer part place else One answer) mine in
    let joined : Stand open_now count (marked (host_is (vps_before plan phase) Opened) (done ++ o ∷ []) (host_before (vps_before plan phase) plan phase)) =
    stand_join hosts count (host_is (vps_before plan phase) Opened) done o (host_before (vps_before plan phase) plan phase) (host_before (vps_before plan phase) plan phase) meet.stand fact.fits.named mine_known fact.done_apart (λ q off. refl) in
    let all_known = all_snoc (λ p. p.relid ≤ count) done o (all_weaker (λ p. p.relid ≤ offered_by plan phase done (o ∷ left)) (λ p. p.relid ≤ count) (λ p l. omega (arith, l)) done (done_known plan phase place done o left planned at)) mine_known in
    let fresh : (q : ℕ) → count < q → q ≤ count + length subs → marked (host_is (vps_before plan phase) Opened) (done ++ o ∷ []) (host_before (vps_before plan phase) plan phase) q ≡ offered_life = λ q above few.
    marked_apart (host_is (vps_before plan phase) Opened) (done ++ o ∷ []) (host_before (vps_before plan phase) plan phase) q (all_weaker (λ p. p.relid ≤ count) (λ p. p.relid ≢ q) (λ p l e. absurd (omega (arith, l, e, above))) (done ++ o ∷ []) all_known)
    ∙ unopened plan (host_ends (vps_before plan phase)) offered_life phase q planned (let less = at.in_plan in omega (arith, less)) (omega (arith, above)) in
    let more : Stand (with_subs open_now subs) (offered_by plan phase (done ++ o ∷ []) left) (marked (host_is (vps_before plan phase) Opened) (done ++ o ∷ []) (host_before (vps_before plan phase) plan phase)) =
    subst (λ n. Stand (with_subs open_now subs) n (marked (host_is (vps_before plan phase) Opened) (done ++ o ∷ []) (host_before (vps_before plan phase) plan phase))) (count_next plan phase done o left fact.fits.alone) (stand_add open_now count (length subs) (marked (host_is (vps_before plan phase) Opened) (done ++ o ∷ []) (host_before (vps_before plan phase) plan phase)) offered_life joined fresh) in
    let onward = next_wait plan logs part v hosts (with_subs open_now subs) (live_ones (handles done ++ o.gpadl ∷ [])) phase (place + 1) (done ++ o ∷ []) left (AwaitsOpen place) planned at.in_plan (done_more plan phase place done o left at) (place_more plan phase place done o left at) (record { agreed = meet.agreed; stand = more }) in
    record {
      turn = turn;
      hears = ap (on_open h o.relid o.relid) known ∙ ap (open_by h o.relid o.relid life) can.row
          ∙ (λ i. Ok (record (at_rest h) { awaits = waits i; channels = with_subs (slice_set hosts (o.relid - 1) (stood i)) (offers i); burst = sends i }));
      tried_then = [];
      pieces_then = pieces_of (opening_at plan phase (place + 1));
      goes = subst (λ hs. HostStands plan part later (Some v) (with_subs open_now subs) (live_ones hs) [] (pieces_of (opening_at plan phase (place + 1)))) (sym live) onward.goes;
      says = λ sent e.
          let rest : List Msg = host_onward plan phase in
          let moves : List Msg = host_moves plan (phase_of plan phase) in
          ap (λ os. answers_open os ++ (moves ++ rest)) here ∙ ap (λ b. answer ∷ (((if b then host_buffer o Receive ∷ host_buffer o Send ∷ [] else []) ++ (map offer_sub subs ++ host_opens_all left)) ++ (moves ++ rest))) bare ∙ append_assoc (answer ∷ map offer_sub subs) (host_opens_all left) (moves ++ rest) ∙ ap (λ xs. (answer ∷ map offer_sub subs) ++ xs) (onward.says rest)
          ∙ ap (λ xs. xs ++ (host_start_to_say (phase_of plan phase) later ++ (host_moves_to_say plan (phase_of plan phase) later ++ rest))) (sym (e ∙ ap (λ os. answer ∷ map offer_sub (subs_next os)) here));
      heard =
          let rest : List Msg = guest_onward plan phase in
          ap (λ os. opens_listed os ++ (guest_moves plan (phase_of plan phase) ++ rest)) here ∙ ap (λ b. m ∷ (((if b then guest_buffer o Receive ++ guest_buffer o Send else []) ++ flat_map guest_opens left) ++ (guest_moves plan (phase_of plan phase) ++ rest))) bare ∙ ap (λ xs. m ∷ xs) (onward.hears rest);
    }

-- the page lists of its buffers come then, where it has some
step_opens_fills : (plan : BusPlan) (logs : Logs) (v : Version) (hosts : List ChanState) (phase place : ℕ) (done : List Opening) (o : Opening) (left : List Opening) → IsPlan plan
    → At plan phase place done o left → Meet plan v hosts (offered_for plan phase done o left) (marked (host_is (vps_before plan phase) Opened) done (host_before (vps_before plan phase) plan phase))
    → o.buffers ≡ true → HostStep plan (a_host plan logs (Some (PhaseStart phase)) (AwaitsOpen place) (Some v) hosts (live_ones (handles done ++ o.gpadl ∷ []))) [] (open_on o) []
step_opens_fills plan logs v hosts phase place done o left planned at meet has =
    let h : HostSeen = a_host plan logs (Some (PhaseStart phase)) (AwaitsOpen place) (Some v) hosts (live_ones (handles done ++ o.gpadl ∷ [])) in
    let part : Option Part = Some (PhaseStart phase) in
    let m : Msg = open_on o in
    let answer : Msg = opened o.relid o.relid in
    let count : ℕ = offered_for plan phase done o left in
    let base : ℕ → ChanState = host_before (vps_before plan phase) plan phase in
    let so : Opening → ChanState = host_is (vps_before plan phase) Opened in
    let fact = facts plan phase place done o left planned at in
    let mine_known = offered_here plan phase place done o left planned at in
    let life : ChanState = base o.relid in
    let can = can_open_host plan (vps_before plan phase) phase o.relid fact.not_before in
    let vp_is : life.vp ≡ vps_before plan phase o.relid = vp_known plan (λ (l : ChanState). l.vp) (host_ends (vps_before plan phase)) offered_life phase o.relid (λ p. refl) refl in
    let now : ChanState = so o in
    let here : drop place (phase_of plan phase) ≡ o ∷ left = left_at plan phase place done (o ∷ left) at.phase_is at.place_is in
    let back = sym here in
    let none = none_behind plan phase place done o left planned at has in
    let open_now : List ChanState = slice_set hosts (o.relid - 1) now in
    let turn : HostTurn = record (at_rest h) { awaits = AwaitsFill place Receive; channels = open_now; burst = Opens answer part place } in
    let mine : is_of o.relid (opening_at plan phase place) ≡ true = ap (is_of o.relid) (opening_here plan phase place done o left at) ∙ same o.relid in
    let buffers_at : has_buffers_at (opening_at plan phase place) ≡ true = ap has_buffers_at (opening_here plan phase place done o left at) ∙ has in
    let later : HostWait = waits_list h part (place + 1) (opening_at plan phase (place + 1)) in
    let waits : opened_then h (AwaitsOpen place) o.relid ≡ AwaitsFill place Receive = ap (λ b. if b then waits_behind h place else AwaitsOpen place) mine ∙ ap (λ b. if b then AwaitsFill place Receive else later) buffers_at in
    let stood : stands life Opened ≡ now = (λ i. record { side = can.side i; state = Opened; vp = vp_is i }) in
    let offers : subs_offered h (AwaitsOpen place) o.relid ≡ [] = ap (λ b. if b then subs_behind plan part place else []) mine ∙ ap subs_next here ∙ none in
    let sends : with_offers h (AwaitsOpen place) o.relid answer ≡ Opens answer part place = ap (λ b. if b then Opens answer part place else One answer) mine in
    let joined : Stand open_now count (marked so (done ++ o ∷ []) base) = stand_join hosts count so done o base base meet.stand fact.fits.named mine_known fact.done_apart (λ q off. refl) in
    let list : List Msg = guest_buffer o Receive in
    let whole : HasFirst list = cut_first o.relid (buffer_list o Receive) (buffer_pages o Receive) (omega (arith, length-range_with_len (buffer_begins o Receive) buffer_size)) in
    record {
      turn = turn;
      hears = ap (on_open h o.relid o.relid) (stand_at hosts count so done o base life meet.stand fact.fits.named mine_known fact.done_apart refl) ∙ ap (open_by h o.relid o.relid life) can.row
          ∙ (λ i. Ok (record (at_rest h) { awaits = waits i; channels = with_subs (slice_set hosts (o.relid - 1) (stood i)) (offers i); burst = sends i }))
          ∙ ap (λ cs. Ok (record (at_rest h) { awaits = AwaitsFill place Receive; channels = cs; burst = Opens answer part place })) (append-nil open_now);
      tried_then = [];
      pieces_then = list;
      goes = subst (HostStands plan part (AwaitsFill place Receive) (Some v) open_now (live_ones (handles done ++ o.gpadl ∷ [])) []) (sym whole.is)
          (fills v open_now phase place done o left Receive (live_ones (handles done ++ o.gpadl ∷ [])) whole.first whole.rest at has (record { agreed = meet.agreed; stand = joined }) (record { came = []; whole = whole.is; lists_are = refl }));
      says = λ sent e.
          let rest : List Msg = host_then plan phase in
          ap (λ xs. answers_open xs ++ rest) here ∙ ap (λ b. answer ∷ (((if b then host_buffer o Receive ∷ host_buffer o Send ∷ [] else []) ++ (map offer_sub (subs_next (o ∷ left)) ++ host_opens_all left)) ++ rest)) has
          ∙ (λ i. (ap (λ ps. answer ∷ map offer_sub ps) (sym (ap subs_next here ∙ none)) ∙ sym e) i ++ (answers_fill Receive (back i) ++ rest));
      heard =
          let second : List Msg = guest_buffer o Send in
          let opens : List Msg = flat_map guest_opens left in
          ap (λ xs. opens_listed xs ++ guest_then plan phase) here ∙ ap (λ b. m ∷ (((if b then list ++ second else []) ++ opens) ++ guest_then plan phase)) has
          ∙ ap (λ xs. m ∷ (xs ++ guest_then plan phase)) (append_assoc list second opens) ∙ ap (λ xs. m ∷ ((list ++ fills_listed Receive xs) ++ guest_then plan phase)) back;
    }

pub step_opens : (plan : BusPlan) (logs : Logs) (v : Version) (hosts : List ChanState) (phase place : ℕ) (done : List Opening) (o : Opening) (left : List Opening) → IsPlan plan
    → At plan phase place done o left → Meet plan v hosts (offered_for plan phase done o left) (marked (host_is (vps_before plan phase) Opened) done (host_before (vps_before plan phase) plan phase))
    → HostStep plan (a_host plan logs (Some (PhaseStart phase)) (AwaitsOpen place) (Some v) hosts (live_ones (handles done ++ o.gpadl ∷ []))) [] (open_on o) []
step_opens plan logs v hosts phase place done o left planned at meet =
    by_test {P = HostStep plan (a_host plan logs (Some (PhaseStart phase)) (AwaitsOpen place) (Some v) hosts (live_ones (handles done ++ o.gpadl ∷ []))) [] (open_on o) []} o.buffers
    (λ e. step_opens_fills plan logs v hosts phase place done o left planned at meet e)
    (λ e. step_opens_bare plan logs v hosts phase place done o left planned at meet e)

-- MODIFYCHANNEL: the channel is moved, and the host waits for the next one that is
takes_move : (h : HostSeen) (relid vp : ℕ) (life : ChanState) (answered : Bool) → modify_by h relid vp life (if answered then Some (Opened, SendModified) else Some (Opened, Nothing))
    ≡ Ok (record (at_rest h) { awaits = moved_then h h.awaits relid; channels = slice_set h.channels (relid - 1) (goes_by life (ModifySeen vp (is_answered h.version)) Opened); burst = if answered then One (modified relid) else Empty })
takes_move h relid vp life true = refl
takes_move h relid vp life false = refl

says_move : (plan : BusPlan) (o : Opening) (left : List Opening) (sent : List Msg) (answered : Bool) → Sends plan (if answered then One (modified o.relid) else Empty) sent
    → (if answered then map (λ (p : Opening). modified p.relid) (o ∷ left) else []) ≡ sent ++ (if answered then map (λ (p : Opening). modified p.relid) left else [])
says_move plan o left sent true e = ap (λ s. s ++ map (λ (p : Opening). modified p.relid) left) (sym e)
says_move plan o left sent false e = ap (λ s. s ++ []) (sym e)

pub step_moves : (plan : BusPlan) (logs : Logs) (v : Version) (hosts : List ChanState) (phase place : ℕ) (done : List Opening) (o : Opening) (left : List Opening) → IsPlan plan
    → phase < length plan.phases → moved plan (phase_of plan phase) ≡ done ++ o ∷ left → place ≡ length done → Meet plan v hosts (offered_before plan (suc phase)) (host_moving plan phase done)
    → HostStep plan (a_host plan logs (Some (PhaseStart phase)) (AwaitsModify place) (Some v) hosts (live_ones (handles (phase_of plan phase)))) [] (modify o.relid (vp_for o)) []
step_moves plan logs v hosts phase place done o left planned in_plan is at meet =
    let os : List Opening = phase_of plan phase in
    let h : HostSeen = a_host plan logs (Some (PhaseStart phase)) (AwaitsModify place) (Some v) hosts (live_ones (handles os)) in
    let more : List Opening = done ++ o ∷ [] in
    let count : ℕ = offered_before plan (suc phase) in
    let old : ℕ → ℕ = vps_before plan phase in
    let vps : ℕ → ℕ = marked vp_for done old in
    let ups : ℕ → ℕ = marked vp_for more old in
    let now : ChanState = host_is (λ relid. vp_for o) Opened o in
    let has = phase_has plan phase planned in_plan in
    let apart = (distinct_mid (λ q. q.relid) done o left (subst (Distinct (λ q. q.relid)) is (moved_distinct (λ q. q.relid) plan os has.relids))).0 in
    let known = mid_all (Known count) done o left (subst (AllByRecursion (Known count)) is (moved_all (Known count) plan os (phase_known plan phase planned in_plan))) in
    let own_by : (ds : List Opening) → host_moving plan phase ds o.relid ≡ host_is (marked vp_for ds old) Opened o = λ ds.
    let so : Opening → ChanState = host_is (marked vp_for ds old) Opened in
    let Own : Opening → Type 0 = λ q. host_moving plan phase ds q.relid ≡ so q in
    mid_all Own done o left (subst (AllByRecursion Own) is (moved_all Own plan os (own_marked so os (host_before (marked vp_for ds old) plan phase) has.relids))) in
    let here : by_relid hosts o.relid ≡ Some (host_is vps Opened o) = meet.stand.each o.relid known.0 known.1 ∙ ap (λ c. Some c) (own_by done) in
    let channels : List ChanState = slice_set hosts (o.relid - 1) now in
    let vp_is : ups o.relid ≡ vp_for o = marked_append vp_for done (o ∷ []) old o.relid ∙ marked_apart vp_for done (marked vp_for (o ∷ []) old) o.relid apart ∙ marked_here vp_for o [] old in
    let moved_so : host_moving plan phase more o.relid ≡ now = own_by more ∙ host_alike ups (λ relid. vp_for o) Opened o.relid vp_is o refl in
    let others : (q : ℕ) → q ≢ o.relid → host_moving plan phase more q ≡ host_moving plan phase done q = λ q off.
    let same_vp : ups q ≡ vps q = marked_append vp_for done (o ∷ []) old q ∙ marked_like vp_for done (marked vp_for (o ∷ []) old) old q (marked_there vp_for o [] old q off) in
    marked_alike (host_is ups Opened) (host_is vps Opened) os (host_before ups plan phase) (host_before vps plan phase) q (host_alike ups vps Opened q same_vp)
    (before_alike plan (host_ends ups) (host_ends vps) offered_life phase q (λ p e. host_alike ups vps (end_state (ends_given_back p)) q same_vp p e)) in
    let after : Stand channels count (host_moving plan phase more) = stand_now hosts count (host_moving plan phase done) (host_moving plan phase more) o.relid now meet.stand known.0 known.1 moved_so others in
    let there : moved plan os ≡ more ++ left = is ∙ sym (append_assoc done (o ∷ []) left) in
    let next_place : place + 1 ≡ length more = omega (arith, at, length-append done (o ∷ [])) in
    let onward = moves_left plan v channels phase (place + 1) more left in_plan there next_place (record { agreed = meet.agreed; stand = after }) in
    let first : slice_get (moved plan os) place ≡ Some o = (λ i. slice_get (is i) (at i)) ∙ get_from done (o ∷ left) in
    let second : slice_get (moved plan os) (place + 1) ≡ slice_get left 0 = (λ i. slice_get (there i) (next_place i)) ∙ get_from more left in
    let waits_with : List Opening → HostWait = λ ms. if is_of o.relid (slice_get ms place) then waits_move (place + 1) (slice_get ms (place + 1)) else AwaitsModify place in
    let later : HostWait = waits_move (place + 1) (slice_get left 0) in
    let waits : waits_with (movers_in plan (Some (PhaseStart phase)) (has_modify v.0)) ≡ later =
    ap waits_with (movers_are plan v phase planned meet.agreed) ∙ (λ i. if is_of o.relid (first i) then waits_move (place + 1) (second i) else AwaitsModify place) ∙ ap (λ b. if b then later else AwaitsModify place) (same o.relid) in
    let turn_with : HostWait → HostTurn = λ w. record (at_rest h) { awaits = w; channels = channels; burst = if answers_modify v.0 then One (modified o.relid) else Empty } in
    record {
      turn = turn_with later;
      hears = ap (on_modify h o.relid (vp_for o)) here ∙ takes_move h o.relid (vp_for o) (host_is vps Opened o) (answers_modify v.0) ∙ ap (λ w. Ok (turn_with w)) waits;
      tried_then = [];
      pieces_then = [];
      goes = onward.goes;
      says = λ sent sends.
          let rest : List Msg = host_onward plan phase in
          let says : List Opening → List Msg = λ ps. map (λ (p : Opening). modified p.relid) ps in
          let answers = answers_are plan v planned meet.agreed in
          ap (λ n. drop n (host_moves plan os) ++ rest) at ∙ ap (λ xs. xs ++ rest) (host_rest plan os done (o ∷ left) is ∙ ap (λ b. if b then says (o ∷ left) else []) answers ∙ says_move plan o left sent (answers_modify v.0) sends)
          ∙ ap (λ b. (sent ++ (if b then says left else [])) ++ rest) (sym answers) ∙ append_assoc sent (host_says plan left) rest ∙ ap (λ xs. sent ++ xs) (onward.says rest);
      heard =
          let rest : List Msg = guest_onward plan phase in
          ap (λ n. drop n (guest_moves plan os) ++ rest) at ∙ ap (λ xs. xs ++ rest) (guest_rest plan os done (o ∷ left) is) ∙ ap (λ xs. (modify o.relid (vp_for o)) ∷ xs) (onward.hears rest);
    }

-- what is left to say and to hear behind a channel that is done with
record EndsSo (plan : BusPlan) (phase : ℕ) (left : List Opening) (next : HostNext) : Type 0 where
  says : (answer : Option Msg) (sent : List Msg) → Sends plan (and_rescind answer next.rescinds) sent
      → option_to_list answer ++ (flat_map host_closes left ++ host_from plan (suc phase)) ≡ sent ++ (host_end_to_say (closing_of plan phase) next.awaits ++ host_from plan (suc phase))
  heard : flat_map guest_closes left ≡ host_end_to_hear (closing_of plan phase) next.awaits

ends_so : (plan : BusPlan) (v : Version) (hosts : List ChanState) (phase place : ℕ) (done left : List Opening) (next : HostNext) → phase < length plan.phases → closing_of plan phase ≡ done ++ left → place ≡ length done
    → HostEnds plan phase hosts (lists_but done (phase_of plan phase)) next (host_next_awaits place left) (marked (host_ends (vps_before plan (suc phase))) done (host_next_stands (vps_before plan (suc phase)) left (host_before (vps_before plan (suc phase)) plan phase))) (lists_but (host_next_done done left) (phase_of plan phase)) (host_next_sends left) → EndsSo plan phase left next
ends_so plan v hosts phase place done left next in_plan is at ends =
    let os : List Opening = closing_of plan phase in
    record {
      says = λ answer sent sends.
          ap (λ xs. option_to_list answer ++ (xs ++ host_from plan (suc phase))) (host_ends_said plan phase place done left in_plan is at)
          ∙ ap (λ xs. option_to_list answer ++ xs) (append_assoc (host_next_sends left) (host_end_to_say os (host_next_awaits place left)) (host_from plan (suc phase)))
          ∙ sym (append_assoc (option_to_list answer) (host_next_sends left) (host_end_to_say os (host_next_awaits place left) ++ host_from plan (suc phase)))
          ∙ ap (λ xs. xs ++ (host_end_to_say os (host_next_awaits place left) ++ host_from plan (suc phase))) (sym (ends.said answer sent sends))
          ∙ ap (λ w. sent ++ (host_end_to_say os w ++ host_from plan (suc phase))) (sym ends.awaits);
      heard = host_ends_heard plan phase place done left is at ∙ ap (host_end_to_hear os) (sym ends.awaits);
    }

-- at the end of a phase
module _ (plan : BusPlan) (logs : Logs) (v : Version) (hosts : List ChanState) (phase place : ℕ) (done : List Opening) (o : Opening) (left : List Opening) (planned : IsPlan plan) (at : EndsAt plan phase place done o left) where
  abbrev so : State → Opening → ChanState
  so = host_is (vps_before plan (suc phase))

  abbrev as_left : Opening → ChanState
  as_left = host_ends (vps_before plan (suc phase))

  abbrev before : ℕ → ChanState
  before = host_before (vps_before plan (suc phase)) plan phase

  abbrev base : ℕ → ChanState
  base = marked (so Opened) left before

  abbrev ending : HostWait → Assembly → HostSeen
  ending awaits live = a_host plan logs (Some (PhaseEnd phase)) awaits (Some v) hosts live

  abbrev all : Assembly
  all = lists_but done (phase_of plan phase)

  fact : Facts plan phase done o left
  fact = end_facts plan phase place done o left planned at

  here : drop place (closing_of plan phase) ≡ o ∷ left
  here = ends_left plan phase place done (o ∷ left) at.closing_is at.place_is

  -- CLOSECHANNEL
  pub step_closes : o.rescinded ≡ false → Meet plan v hosts (offered_before plan (suc phase)) (marked as_left done (marked (so Opened) (o ∷ left) before)) → HostStep plan (ending (AwaitsClose place) (without_buffers all o)) [] (close o.relid) []
  step_closes closed meet =
      let h : HostSeen = ending (AwaitsClose place) (without_buffers all o) in
      let now : ChanState = so Closing o in
      let turn : HostTurn = record (at_rest h) { awaits = AwaitsTeardown place; channels = slice_set hosts (o.relid - 1) now } in
      let known : by_relid hosts o.relid ≡ Some (so Opened o) = stand_at hosts (offered_before plan (suc phase)) as_left done o (marked (so Opened) (o ∷ left) before) (so Opened o) meet.stand fact.fits.named fact.known fact.done_apart (marked_here (so Opened) o left before) in
      let mine : is_of o.relid (closing_at plan phase place) ≡ true = ap (is_of o.relid) (closing_here plan phase place done o left at) ∙ same o.relid in
      let next : Stand (slice_set hosts (o.relid - 1) now) (offered_before plan (suc phase)) (marked as_left done (marked (so Closing) (o ∷ []) base)) =
      stand_mark hosts (offered_before plan (suc phase)) as_left (so Closing) done o (marked (so Opened) (o ∷ left) before) base meet.stand fact.fits.named fact.known fact.done_apart (λ q off. sym (marked_there (so Opened) o left before q off)) in
      record {
        turn = turn;
        hears = ap (on_close h o.relid) known ∙ ap (λ b. Ok (record (at_rest h) { awaits = if b then AwaitsTeardown place else AwaitsClose place; channels = slice_set hosts (o.relid - 1) now })) mine;
        tried_then = [];
        pieces_then = [];
        goes = tears v (slice_set hosts (o.relid - 1) now) phase place done o left at closed (record { agreed = meet.agreed; stand = next });
        says = λ sent e. ap (λ s. s ++ (torn_left (drop place (closing_of plan phase)) ++ host_from plan (suc phase))) (sym e);
        heard =
            ap (λ os. closes_left os ++ guest_from plan (suc phase)) here ∙ ap (λ os. (close o.relid) ∷ (tears_down os ++ guest_from plan (suc phase))) (sym here);
      }

  -- GPADL_TEARDOWN, for the page list of a buffer: behind that of the send buffer that of the receive buffer is to be torn down, and behind both the channel to be closed
  record Emptied (k : Buffer) : Type 0 where
    hears : host_hears (ending (AwaitsEmpty place k) (lists_beside all o k)) (teardown_buffer o k)
        ≡ Ok (record (at_rest (ending (AwaitsEmpty place k) (lists_beside all o k))) { awaits = emptied_next place k; lists = without (lists_beside all o k) (buffer_list o k); burst = One (torndown (buffer_list o k)) })

  emptied_so : (k : Buffer) → o.buffers ≡ true → Meet plan v hosts (offered_before plan (suc phase)) (marked as_left done (marked (so Opened) (o ∷ left) before)) → Emptied k
  emptied_so k has meet =
      let lists : Assembly = lists_beside all o k in
      let h : HostSeen = ending (AwaitsEmpty place k) lists in
      let handle : ℕ = buffer_list o k in
      let known : by_relid hosts o.relid ≡ Some (so Opened o) = stand_at hosts (offered_before plan (suc phase)) as_left done o (marked (so Opened) (o ∷ left) before) (so Opened o) meet.stand fact.fits.named fact.known fact.done_apart (marked_here (so Opened) o left before) in
      let mine : is_list_of k o.relid handle (closing_at plan phase place) ≡ true = ap (is_list_of k o.relid handle) (closing_here plan phase place done o left at) ∙ (λ i. same o.relid i && same handle i) in
      let with_wait : HostWait → HostTurn = λ w. record (at_rest h) { awaits = w; lists = without lists handle; burst = One (torndown handle) } in
      record {
        hears = ap (on_teardown h o.relid handle) known
            ∙ ap (λ b. if b then tears_live h o.relid handle (so Opened o) else Err (Gpadl (Handle handle))) (buffer_live plan phase place done o left k planned at has)
            ∙ ap (λ b. if b then Ok (empties_one h o.relid handle) else teardown_by h o.relid handle (so Opened o) (row_of (so Opened o) TeardownSeen)) (buffer_known plan phase place done o left k at has)
            ∙ ap (λ b. Ok (with_wait (if b then emptied_next place k else AwaitsEmpty place k))) mine;
      }

  pub step_empties : (k : Buffer) → o.rescinded ≡ false → o.buffers ≡ true → Meet plan v hosts (offered_before plan (suc phase)) (marked as_left done (marked (so Opened) (o ∷ left) before)) → HostStep plan (ending (AwaitsEmpty place k) (lists_beside all o k)) [] (teardown_buffer o k) []
  step_empties Send closed has meet =
      let h : HostSeen = ending (AwaitsEmpty place Send) all in
      let answer : Msg = torndown (buffer_list o Send) in
      let back = sym here in
      record {
        turn = record (at_rest h) { awaits = AwaitsEmpty place Receive; lists = (without all (buffer_list o Send)); burst = One answer };
        hears = (emptied_so Send has meet).hears;
        tried_then = [];
        pieces_then = [];
        goes = empties v hosts phase place done o left Receive at closed has meet;
        says = λ sent e.
            let later : List Msg = host_from plan (suc phase) in
            ap (λ os. emptied_left Send os ++ later) here ∙ ap (λ os. answer ∷ (emptied_left Receive os ++ later)) back ∙ ap (λ s. s ++ (emptied_left Receive (drop place (closing_of plan phase)) ++ later)) (sym e);
        heard = ap (λ os. tears_left Send os ++ guest_from plan (suc phase)) here ∙ ap (λ os. (teardown_buffer o Send) ∷ (tears_left Receive os ++ guest_from plan (suc phase))) back;
      }
  step_empties Receive closed has meet =
      let h : HostSeen = ending (AwaitsEmpty place Receive) (without all (buffer_list o Send)) in
      let gone : Assembly = without (without all (buffer_list o Send)) (buffer_list o Receive) in
      let both : gone ≡ without_buffers all o = ap (λ b. if b then gone else all) (sym has) in
      let answer : Msg = torndown (buffer_list o Receive) in
      let back = sym here in
      record {
        turn = record (at_rest h) { awaits = AwaitsClose place; lists = gone; burst = One answer };
        hears = (emptied_so Receive has meet).hears;
        tried_then = [];
        pieces_then = [];
        goes = subst (λ l. HostStands plan (Some (PhaseEnd phase)) (AwaitsClose place) (Some v) hosts l [] []) (sym both) (closes v hosts phase place done o left at closed meet);
        says = λ sent e.
            let later : List Msg = host_from plan (suc phase) in
            ap (λ os. emptied_left Receive os ++ later) here ∙ ap (λ os. answer ∷ (torn_left os ++ later)) back ∙ ap (λ s. s ++ (torn_left (drop place (closing_of plan phase)) ++ later)) (sym e);
        heard = ap (λ os. tears_left Receive os ++ guest_from plan (suc phase)) here ∙ ap (λ os. (teardown_buffer o Receive) ∷ (closes_left os ++ guest_from plan (suc phase))) back;
      }

  -- GPADL_TEARDOWN: a first channel is done with then
  step_tears_first : o.rescinded ≡ false → is_sub o ≡ false → Meet plan v hosts (offered_before plan (suc phase)) (marked as_left done (marked (so Closing) (o ∷ []) base)) → HostStep plan (ending (AwaitsTeardown place) (without_buffers all o)) [] (teardown o) []
  step_tears_first closed is_first meet =
      let os : List Opening = phase_of plan phase in
      let lists : Assembly = without_buffers (lists_but done os) o in
      let h : HostSeen = ending (AwaitsTeardown place) lists in
      let m : Msg = teardown o in
      let count : ℕ = offered_before plan (suc phase) in
      let later : HostNext = next_end hosts (place + 1) (closing_at plan phase (place + 1)) in
      let after : List ChanState = slice_set hosts (o.relid - 1) (as_left o) in
      let turn_with : ChanState → Assembly → HostNext → HostTurn = λ now lists next. goes_next (record (at_rest h) { channels = slice_set hosts (o.relid - 1) now; lists = lists }) (Some (torndown o.gpadl)) next in
      let turn : HostTurn = turn_with (as_left o) (lists_but (done ++ o ∷ []) os) later in
      let known : by_relid hosts o.relid ≡ Some (so Closing o) = stand_at hosts count as_left done o (marked (so Closing) (o ∷ []) base) (so Closing o) meet.stand fact.fits.named fact.known fact.done_apart (marked_here (so Closing) o [] base) in
      let here_is = closing_here plan phase place done o left at in
      let taken : HostNext = record { awaits = AwaitsRelease place; rescinds = wants_rescind o (Some (so Closed o)) } in
      let goes : torn_for h place o.relid (so Closed o) (closing_at plan phase place) ≡ later =
      ap (torn_for h place o.relid (so Closed o)) here_is
      ∙ ap (λ b. if b && is_sub o then taken else (if is_of o.relid (closing_at plan phase place) then later else stays h)) (same o.relid)
      ∙ ap (λ b. if b then taken else (if is_of o.relid (closing_at plan phase place) then later else stays h)) is_first
      ∙ ap (λ b. if b then later else stays h) (ap (is_of o.relid) here_is ∙ same o.relid) in
      let rings = rings_known plan phase place done o left planned at in
      let stood : Stand after count (marked as_left (done ++ o ∷ []) base) =
      stand_join hosts count as_left done o (marked (so Closing) (o ∷ []) base) base meet.stand fact.fits.named fact.known fact.done_apart (λ q off. sym (marked_there (so Closing) o [] base q off)) in
      let next = next_is plan hosts phase place as_left (so Closing) (so Opened) done o left before planned at meet.stand in
      let ends = host_goes plan after hosts phase (place + 1) (done ++ o ∷ []) left planned at.in_plan (ends_more plan phase place done o left at) (ends_place plan phase place done o left at) stood next in
      let on = ends_so plan v after phase (place + 1) (done ++ o ∷ []) left later at.in_plan (ends_more plan phase place done o left at) (ends_place plan phase place done o left at) ends in
      record {
        turn = turn;
        hears = ap (on_teardown h o.relid o.gpadl) known
            ∙ ap (λ b. if b then tears_live h o.relid o.gpadl (so Closing o) else Err (Gpadl (Handle o.gpadl))) (still_live plan phase place done o left planned at)
            ∙ ap (λ b. if b then Ok (empties_one h o.relid o.gpadl) else Ok (turn_with (so Closed o) (without lists o.gpadl) (torn_for h place o.relid (so Closed o) (closing_at plan phase place)))) rings
            ∙ (λ i. Ok (turn_with ((sym (ap (λ b. so (end_state b) o) (ap (λ b. b || is_sub o) closed ∙ is_first))) i) ((let_go done o os) i) (goes i)));
        tried_then = [];
        pieces_then = [];
        goes = host_stands_so plan phase v (Some (PhaseEnd phase)) after (lists_but (done ++ o ∷ []) os) later (host_next_awaits (place + 1) left) (marked as_left (done ++ o ∷ []) (host_next_stands (vps_before plan (suc phase)) left before)) (lists_but (host_next_done (done ++ o ∷ []) left) os) (host_next_sends left) ends
            (host_next plan v (rescinded_among after later.rescinds) phase (place + 1) (done ++ o ∷ []) left planned at.in_plan (ends_more plan phase place done o left at) (ends_place plan phase place done o left at) (record { agreed = meet.agreed; stand = ends.host }));
        says = λ sent sends.
            ap (λ os. torn_left os ++ host_from plan (suc phase)) here
            ∙ ap (λ b. torndown o.gpadl ∷ (((if b then rescind o.relid ∷ [] else []) ++ flat_map host_closes left) ++ host_from plan (suc phase))) is_first ∙ on.says (Some (torndown o.gpadl)) sent sends;
        heard =
            let rest : List Msg = guest_from plan (suc phase) in
            ap (λ os. tears_down os ++ rest) here ∙ ap (λ b. m ∷ (((if b then release o.relid ∷ [] else []) ++ flat_map guest_closes left) ++ rest)) is_first ∙ ap (λ xs. m ∷ (xs ++ rest)) on.heard;
      }

  -- a sub-channel is rescinded then
  step_tears_sub : o.rescinded ≡ false → is_sub o ≡ true → Meet plan v hosts (offered_before plan (suc phase)) (marked as_left done (marked (so Closing) (o ∷ []) base)) → HostStep plan (ending (AwaitsTeardown place) (without_buffers all o)) [] (teardown o) []
  step_tears_sub closed sub meet =
      let os : List Opening = phase_of plan phase in
      let lists : Assembly = without_buffers (lists_but done os) o in
      let h : HostSeen = ending (AwaitsTeardown place) lists in
      let m : Msg = teardown o in
      let count : ℕ = offered_before plan (suc phase) in
      let taken : HostNext = record { awaits = AwaitsRelease place; rescinds = wants_rescind o (Some (so Closed o)) } in
      let once : List ChanState = slice_set hosts (o.relid - 1) (so Closed o) in
      let after : List ChanState = slice_set once (o.relid - 1) (so IsRescinded o) in
      let turn_with : Assembly → HostNext → HostTurn = λ lists next. goes_next (record (at_rest h) { channels = once; lists = lists }) (Some (torndown o.gpadl)) next in
      let whole : Assembly → HostTurn = λ lists. record { awaits = AwaitsRelease place; version = Some v; channels = after; lists = lists; burst = Two (torndown o.gpadl) (rescind o.relid) } in
      let turn : HostTurn = whole (lists_but (done ++ o ∷ []) os) in
      let known : by_relid hosts o.relid ≡ Some (so Closing o) = stand_at hosts count as_left done o (marked (so Closing) (o ∷ []) base) (so Closing o) meet.stand fact.fits.named fact.known fact.done_apart (marked_here (so Closing) o [] base) in
      let later : HostNext = next_end hosts (place + 1) (closing_at plan phase (place + 1)) in
      let goes : torn_for h place o.relid (so Closed o) (closing_at plan phase place) ≡ taken =
      ap (torn_for h place o.relid (so Closed o)) (closing_here plan phase place done o left at)
      ∙ ap (λ b. if b && is_sub o then taken else (if is_of o.relid (closing_at plan phase place) then later else stays h)) (same o.relid)
      ∙ ap (λ b. if b then taken else (if is_of o.relid (closing_at plan phase place) then later else stays h)) sub in
      let rings = rings_known plan phase place done o left planned at in
      let closed_so : Stand once count (marked as_left done (marked (so Closed) (o ∷ []) base)) =
      stand_mark hosts count as_left (so Closed) done o (marked (so Closing) (o ∷ []) base) base meet.stand fact.fits.named fact.known fact.done_apart (λ q off. sym (marked_there (so Closing) o [] base q off)) in
      let stood : Stand after count (marked as_left done (marked (so IsRescinded) (o ∷ []) base)) =
      stand_mark once count as_left (so IsRescinded) done o (marked (so Closed) (o ∷ []) base) base closed_so fact.fits.named fact.known fact.done_apart (λ q off. sym (marked_there (so Closed) o [] base q off)) in
      record {
        turn = turn;
        hears = ap (on_teardown h o.relid o.gpadl) known
            ∙ ap (λ b. if b then tears_live h o.relid o.gpadl (so Closing o) else Err (Gpadl (Handle o.gpadl))) (still_live plan phase place done o left planned at)
            ∙ ap (λ b. if b then Ok (empties_one h o.relid o.gpadl) else Ok (turn_with (without lists o.gpadl) (torn_for h place o.relid (so Closed o) (closing_at plan phase place)))) rings
            ∙ ap (λ n. Ok (turn_with (without lists o.gpadl) n)) goes ∙ ap (λ l. Ok (whole l)) (let_go_again done o os);
        tried_then = [];
        pieces_then = [];
        goes = takes_back v after phase place done o left at (ap (λ b. b || is_sub o) closed ∙ sub) (record { agreed = meet.agreed; stand = stood });
        says = λ sent e.
            ap (λ os. torn_left os ++ host_from plan (suc phase)) here
            ∙ ap (λ b. torndown o.gpadl ∷ (((if b then rescind o.relid ∷ [] else []) ++ flat_map host_closes left) ++ host_from plan (suc phase))) sub
            ∙ ap (λ os. torndown o.gpadl ∷ rescind o.relid ∷ (flat_map host_closes os ++ host_from plan (suc phase))) (sym (ends_behind plan phase place done o left at))
            ∙ ap (λ s. s ++ (flat_map host_closes (drop (suc place) (closing_of plan phase)) ++ host_from plan (suc phase))) (sym e);
        heard =
            let rest : List Msg = guest_from plan (suc phase) in
            ap (λ os. tears_down os ++ rest) here ∙ ap (λ b. m ∷ (((if b then release o.relid ∷ [] else []) ++ flat_map guest_closes left) ++ rest)) sub ∙ ap (λ os. m ∷ (gives_one os ++ rest)) (sym here);
      }

  pub step_tears : o.rescinded ≡ false → Meet plan v hosts (offered_before plan (suc phase)) (marked as_left done (marked (so Closing) (o ∷ []) base)) → HostStep plan (ending (AwaitsTeardown place) (without_buffers all o)) [] (teardown o) []
  step_tears closed meet =
      by_test {P = HostStep plan (ending (AwaitsTeardown place) (without_buffers all o)) [] (teardown o) []} (is_sub o)
      (λ e. step_tears_sub closed e meet)
      (λ e. step_tears_first closed e meet)

  -- RELID_RELEASED
  pub step_releases : ends_given_back o ≡ true → Meet plan v hosts (offered_before plan (suc phase)) (marked as_left done (marked (so IsRescinded) (o ∷ []) base)) → HostStep plan (ending (AwaitsRelease place) (lists_but (done ++ o ∷ []) (phase_of plan phase))) [] (release o.relid) []
  step_releases gone meet =
      let h : HostSeen = ending (AwaitsRelease place) (lists_but (done ++ o ∷ []) (phase_of plan phase)) in
      let later : HostNext = next_end hosts (place + 1) (closing_at plan phase (place + 1)) in
      let after : List ChanState = slice_set hosts (o.relid - 1) (as_left o) in
      let turn_with : ChanState → HostNext → HostTurn = λ now next. goes_next (record (at_rest h) { channels = slice_set hosts (o.relid - 1) now }) None next in
      let turn : HostTurn = turn_with (as_left o) later in
      let known : by_relid hosts o.relid ≡ Some (so IsRescinded o) = stand_at hosts (offered_before plan (suc phase)) as_left done o (marked (so IsRescinded) (o ∷ []) base) (so IsRescinded o) meet.stand fact.fits.named fact.known fact.done_apart (marked_here (so IsRescinded) o [] base) in
      let mine : is_of o.relid (closing_at plan phase place) ≡ true = ap (is_of o.relid) (closing_here plan phase place done o left at) ∙ same o.relid in
      let stood : Stand after (offered_before plan (suc phase)) (marked as_left (done ++ o ∷ []) base) =
      stand_join hosts (offered_before plan (suc phase)) as_left done o (marked (so IsRescinded) (o ∷ []) base) base meet.stand fact.fits.named fact.known fact.done_apart (λ q off. sym (marked_there (so IsRescinded) o [] base q off)) in
      let next = next_is plan hosts phase place as_left (so IsRescinded) (so Opened) done o left before planned at meet.stand in
      let ends = host_goes plan after hosts phase (place + 1) (done ++ o ∷ []) left planned at.in_plan (ends_more plan phase place done o left at) (ends_place plan phase place done o left at) stood next in
      let on = ends_so plan v after phase (place + 1) (done ++ o ∷ []) left later at.in_plan (ends_more plan phase place done o left at) (ends_place plan phase place done o left at) ends in
      record {
        turn = turn;
        hears = ap (on_release h o.relid) known ∙ (λ i. Ok (turn_with ((sym (ap (λ b. so (end_state b) o) gone)) i) (if mine i then later else stays h)));
        tried_then = [];
        pieces_then = [];
        goes = host_stands_so plan phase v (Some (PhaseEnd phase)) after (lists_but (done ++ o ∷ []) (phase_of plan phase)) later (host_next_awaits (place + 1) left) (marked as_left (done ++ o ∷ []) (host_next_stands (vps_before plan (suc phase)) left before)) (lists_but (host_next_done (done ++ o ∷ []) left) (phase_of plan phase)) (host_next_sends left) ends
            (host_next plan v (rescinded_among after later.rescinds) phase (place + 1) (done ++ o ∷ []) left planned at.in_plan (ends_more plan phase place done o left at) (ends_place plan phase place done o left at) (record { agreed = meet.agreed; stand = ends.host }));
        says = λ sent sends. ap (λ os. flat_map host_closes os ++ (host_from plan (suc phase))) (ends_behind plan phase place done o left at) ∙ on.says None sent sends;
        heard = ap (λ os. gives_one os ++ guest_from plan (suc phase)) (ends_left plan phase place done (o ∷ left) at.closing_is at.place_is) ∙ ap (λ xs. (release o.relid) ∷ (xs ++ guest_from plan (suc phase))) on.heard;
      }

-- UNLOAD
pub step_leaves : (plan : BusPlan) (logs : Logs) (v : Version) (hosts : List ChanState) → Meet plan v hosts (offered_before plan (length plan.phases)) (host_before (vps_before plan (length plan.phases)) plan (length plan.phases)) → HostStep plan (a_host plan logs (Some Unload) AwaitsUnload (Some v) hosts (live_ones [])) [] farewell []
step_leaves plan logs v hosts meet =
    record {
      turn = on_unload (a_host plan logs (Some Unload) AwaitsUnload (Some v) hosts (live_ones [])) AwaitsUnload;
      hears = refl;
      tried_then = [];
      pieces_then = [];
      goes = is_over v hosts meet;
      says = λ sent e. ap (λ s. s ++ []) (sym e);
      heard = refl;
    }
