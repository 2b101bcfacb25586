-- Once all channels of a phase are open, the guest moves those to other processors that the phase moves, and the host answers; and how a side goes on with the
-- opening at a place of a phase that starts, or with that.
use Rattle.std.proofs.Common.{◌≡◌, ◌≢◌, ◌∙◌, ℕ, suc, ◌+◌, ◌-◌, ◌<◌, ◌≤◌, Bool, true, false, List, [], ◌∷◌, ◌++◌, length, map, drop, filter, slice_get, slice_set, Option, Some, None, is_some, cond, if◌then◌else◌, Ok, refl, sym, ap, subst, append_assoc, arith}
use Rattle.std.specs.List.{AllByRecursion, flat_map, position_from}
use Rattle.std.proofs.lemmas.Bool.{eq-eqb}
use Rattle.std.proofs.lemmas.List.{append-nil}
use Rattle.std.proofs.lemmas.List.FromFn.{length-range_with_len}
use Rattle.control_laws.proofs.Words.{Version, Part, PhaseStart, answers_modify, State, Opened, Modifying, WantModify, ChanState, Assembly, Msg, Opening, Channel, Change, Now, GuestWait, Modified, HostWait, AwaitsList, GuestTurn}
use Rattle.gpadl.specs.Cut.{cut}
use Rattle.gpadl.proofs.Cutting.{cuts_so}
use Rattle.control_model.specs.Plan.{BusPlan, IsOpening, IsPlan, opening_at, list_pages, phase_of, vp_for}
use Rattle.control_model.specs.Channels.{by_relid, lived, put_moved, move_at, move_all, changed}
use Rattle.control_model.specs.Messages.{modify, modified, modify_one, pages_from, Sends}
use Rattle.control_model.specs.Said.{dials, moved, guest_opens, host_opens_all, guest_moves, host_moves}
use Rattle.control_model.specs.Guest.{GuestSeen, is_opened, is_modifying, in_state, channel_then, then_in, waits_answer, move_of, moves_with, offered_channel, dials_one, lists_next}
use Rattle.control_model.specs.Host.{waits_move, waits_one, waits_list}
use Rattle.control_model.specs.Stand.{At, offered_before, offered_by, offered_for, count_dialed, marked, vps_before, guest_is, host_is, guest_ends, guest_before, host_before, Stand, Agreed, Meet, handles}
use Rattle.control_model.specs.GuestAt.{lists_dialed, opens_listed, answers_list, start_to_say, start_to_hear, moves_to_say, moves_to_hear, GuestStands}
use Rattle.control_model.specs.GuestAt.GuestStands.{dials as GuestDials, lists as GuestLists, moves as GuestMoves, started as GuestStarted}
use Rattle.control_model.specs.HostAt.{host_start_to_say, host_start_to_hear, host_moves_to_say, host_moves_to_hear, live_ones, HostStands}
use Rattle.control_model.specs.HostAt.HostStands.{connects as HostConnects, lists as HostLists, moves as HostMoves, started as HostStarted}
use Rattle.control_laws.proofs.Logs.{Logs, a_guest, a_host}
use Rattle.control_laws.proofs.Marks.{by_place, differ, get_set, get_set_other, at_relid, marked_apart, marked_like, marked_here, marked_there, stand_now, stand_like}
use Rattle.control_laws.proofs.Closing.{Distinct}
use Rattle.control_laws.proofs.Plans.{phase_has, facts, opening_from}
use Rattle.control_laws.proofs.Vps.{marked_alike, before_alike, guest_alike, moved_all, moved_distinct, movers_are, answers_are, own_marked, marked_again, marked_over, distinct_front, position_at, position_none, guest_says, host_says, guest_rest, host_rest, host_says_none}
use Rattle.control_laws.proofs.Next.{all_open, Turned, heard_so, pieces_by, pieces_of, HasFirst, cut_first}
use Rattle.control_laws.proofs.Saying.{left_at, dials_more, opens_more, answers_plain}
use Rattle.control_laws.proofs.Cutting.{both, all_front}

-- the state of a channel that the guest has moved
abbrev moving : Bool → State
moving true = Modifying
moving false = Opened

-- it stands so then
abbrev moves_to : Bool → Opening → Channel
moves_to answered o = guest_is (λ relid. vp_for o) (moving answered) o

wants : (vps : ℕ → ℕ) (o : Opening) (answered : Bool) → lived (guest_is vps Opened o) (WantModify (vp_for o) answered) ≡ Ok (moves_to answered o)
wants vps o true = refl
wants vps o false = refl

-- channels that were offered to a side
abbrev pub Known : ℕ → Opening → Type 0
Known count o = (1 ≤ o.relid) × (o.relid ≤ count)

-- each of them is moved
all_moved : (channels : List Channel) (count : ℕ) (stands : ℕ → Channel) (vps : ℕ → ℕ) (answered : Bool) (os : List Opening) → Stand channels count stands → AllByRecursion (λ o. stands o.relid ≡ guest_is vps Opened o) os → AllByRecursion (Known count) os → Distinct (λ o. o.relid) os
    → Stand (move_all channels answered (map move_of os)) count (marked (moves_to answered) os stands)
all_moved channels count stands vps answered [] stand opened known apart = stand
all_moved channels count stands vps answered (o ∷ os) stand opened known apart =
    let to : Opening → Channel = moves_to answered in
    let one : ℕ → Channel = marked to (o ∷ []) stands in
    let after : List Channel = slice_set channels (o.relid - 1) (to o) in
    let here : by_relid channels o.relid ≡ Some (guest_is vps Opened o) = stand.each o.relid known.0.0 known.0.1 ∙ ap Some opened.0 in
    let step : move_at channels answered (move_of o) (by_relid channels o.relid) ≡ after = ap (move_at channels answered (move_of o)) here ∙ ap (put_moved channels o.relid) (wants vps o answered) in
    let first : Stand after count one = stand_now channels count stands one o.relid (to o) stand known.0.0 known.0.1 (marked_here to o [] stands) (λ q off. marked_there to o [] stands q off) in
    let others : AllByRecursion (λ p. one p.relid ≡ guest_is vps Opened p) os = both (λ p. p.relid ≢ o.relid) (λ p. stands p.relid ≡ guest_is vps Opened p) (λ p. one p.relid ≡ guest_is vps Opened p) (λ p off is. marked_there to o [] stands p.relid off ∙ is) os apart.0 opened.1 in
    let rest = all_moved after count one vps answered os first others known.1 apart.1 in
    let joined : (q : ℕ) → marked to (o ∷ os) stands q ≡ marked to os one q = λ q. by_place {P = marked to (o ∷ os) stands q ≡ marked to os one q} q o.relid
    (λ is. subst (λ r. marked to (o ∷ os) stands r ≡ marked to os one r) (sym is) (marked_here to o os stands ∙ sym (marked_apart to os one o.relid apart.0 ∙ marked_here to o [] stands)))
    (λ off. marked_there to o os stands q off ∙ marked_like to os stands one q (sym (marked_there to o [] stands q off))) in
    subst (λ cs. Stand (move_all cs answered (map move_of os)) count (marked to (o ∷ os) stands)) (sym step) (stand_like (move_all after answered (map move_of os)) count (marked to os one) (marked to (o ∷ os) stands) rest joined)

-- all openings of a phase are known then
pub phase_known : (plan : BusPlan) (phase : ℕ) → IsPlan plan → phase < length plan.phases → AllByRecursion (Known (offered_before plan (suc phase))) (phase_of plan phase)
phase_known plan phase planned in_plan =
    let has = phase_has plan phase planned in_plan in
    both IsOpening (λ p. p.relid ≤ offered_before plan (suc phase)) (Known (offered_before plan (suc phase))) (λ p fits most. (fits.named, most)) (phase_of plan phase) has.fits has.known

-- a phase's channels that are moved have the processors that it moves them to
own_vps : (plan : BusPlan) (phase : ℕ) → IsPlan plan → phase < length plan.phases → AllByRecursion (λ o. vps_before plan (suc phase) o.relid ≡ vp_for o) (moved plan (phase_of plan phase))
own_vps plan phase planned in_plan = own_marked vp_for (moved plan (phase_of plan phase)) (vps_before plan phase) (moved_distinct (λ o. o.relid) plan (phase_of plan phase) (phase_has plan phase planned in_plan).relids)

-- all channels of a phase are open, and the guest has moved those that it moves
abbrev pub guest_opened : BusPlan → ℕ → ℕ → Channel
guest_opened plan phase = marked (guest_is (vps_before plan (suc phase)) Opened) (phase_of plan phase) (guest_before (vps_before plan (suc phase)) plan phase)

guest_moved : (plan : BusPlan) (guests : List Channel) (phase : ℕ) (answered : Bool) → IsPlan plan → phase < length plan.phases
    → Stand guests (offered_before plan (suc phase)) (marked (guest_is (vps_before plan phase) Opened) (phase_of plan phase) (guest_before (vps_before plan phase) plan phase))
    → Stand (move_all guests answered (map move_of (moved plan (phase_of plan phase)))) (offered_before plan (suc phase)) (marked (guest_is (vps_before plan (suc phase)) (moving answered)) (moved plan (phase_of plan phase)) (guest_opened plan phase))
guest_moved plan guests phase answered planned in_plan stand =
    let os : List Opening = phase_of plan phase in
    let ms : List Opening = moved plan os in
    let vps : ℕ → ℕ = vps_before plan phase in
    let ups : ℕ → ℕ = vps_before plan (suc phase) in
    let count : ℕ = offered_before plan (suc phase) in
    let has = phase_has plan phase planned in_plan in
    let stands : ℕ → Channel = marked (guest_is vps Opened) os (guest_before vps plan phase) in
    let opened : AllByRecursion (λ o. stands o.relid ≡ guest_is vps Opened o) ms = moved_all (λ o. stands o.relid ≡ guest_is vps Opened o) plan os (own_marked (guest_is vps Opened) os (guest_before vps plan phase) has.relids) in
    let after = all_moved guests count stands vps answered ms stand opened (moved_all (Known count) plan os (phase_known plan phase planned in_plan)) (moved_distinct (λ o. o.relid) plan os has.relids) in
    let to_is : (ps : List Opening) → AllByRecursion (λ o. ups o.relid ≡ vp_for o) ps → AllByRecursion (λ o. guest_is ups (moving answered) o ≡ moves_to answered o) ps = λ ps all.
    both (λ o. ups o.relid ≡ vp_for o) (λ o. ups o.relid ≡ vp_for o) (λ o. guest_is ups (moving answered) o ≡ moves_to answered o) (λ o e f. guest_alike ups (λ relid. vp_for o) (moving answered) o.relid e o refl) ps all all in
    let alike : (q : ℕ) → marked (guest_is ups (moving answered)) ms (guest_opened plan phase) q ≡ marked (moves_to answered) ms stands q = λ q.
    marked_over (guest_is ups (moving answered)) (moves_to answered) ms (guest_opened plan phase) stands q (to_is ms (own_vps plan phase planned in_plan))
    (λ off. let same : ups q ≡ vps q = marked_apart vp_for ms vps q off in
    marked_alike (guest_is ups Opened) (guest_is vps Opened) os (guest_before ups plan phase) (guest_before vps plan phase) q (guest_alike ups vps Opened q same)
    (before_alike plan (guest_ends ups) (guest_ends vps) offered_channel phase q (ends_alike ups vps q same))) in
    stand_like (move_all guests answered (map move_of ms)) count (marked (moves_to answered) ms stands) (marked (guest_is ups (moving answered)) ms (guest_opened plan phase)) after alike
  where
    ends_alike : (ups vps : ℕ → ℕ) (q : ℕ) → ups q ≡ vps q → (o : Opening) → o.relid ≡ q → guest_ends ups o ≡ guest_ends vps o
    ends_alike ups vps q same o is = guest_alike ups vps _ q same o is

-- where the host doesn't answer, they stay open
guest_stays : (plan : BusPlan) (guests : List Channel) (phase : ℕ) → IsPlan plan → phase < length plan.phases
    → Stand guests (offered_before plan (suc phase)) (marked (guest_is (vps_before plan (suc phase)) Opened) (moved plan (phase_of plan phase)) (guest_opened plan phase)) → Stand guests (offered_before plan (suc phase)) (guest_opened plan phase)
guest_stays plan guests phase planned in_plan stand =
    let os : List Opening = phase_of plan phase in
    let ms : List Opening = moved plan os in
    let so : Opening → Channel = guest_is (vps_before plan (suc phase)) Opened in
    let own = moved_all (λ o. guest_opened plan phase o.relid ≡ so o) plan os (own_marked so os (guest_before (vps_before plan (suc phase)) plan phase) (phase_has plan phase planned in_plan).relids) in
    stand_like guests (offered_before plan (suc phase)) (marked so ms (guest_opened plan phase)) (guest_opened plan phase) stand (λ q. sym (marked_again so ms (guest_opened plan phase) q own))

-- what a guest's turn comes to that goes on with the start of a phase, where these openings are left
pub record ListsOn (plan : BusPlan) (guests : List Channel) (phase : ℕ) (left : List Opening) (turn : GuestTurn) : Type 0 where
  pub goes : Turned plan (Some (PhaseStart phase)) guests turn
  pub says : (sent later : List Msg) → Sends plan turn.burst sent
      → flat_map guest_opens left ++ (guest_moves plan (phase_of plan phase) ++ later) ≡ sent ++ (start_to_say (phase_of plan phase) turn.awaits ++ (moves_to_say plan (phase_of plan phase) turn.awaits ++ later))
  pub heard : (later : List Msg) → host_opens_all left ++ (host_moves plan (phase_of plan phase) ++ later) ≡ start_to_hear (phase_of plan phase) turn.awaits ++ (moves_to_hear plan (phase_of plan phase) turn.awaits ++ later)

twice : (os : List Opening) → map modify_one (map move_of os) ≡ guest_says os
twice [] = refl
twice (o ∷ os) = ap (λ (ms : List Msg). modify o.relid (vp_for o) ∷ ms) (twice os)

pass : (test : Opening → Bool) (os : List Opening) → AllByRecursion (λ o. test o ≡ true) os → filter test os ≡ os
pass test [] all = refl
pass test (o ∷ os) all = ap (λ b. cond b (o ∷ filter test os) (filter test os)) all.0 ∙ ap (λ (xs : List Opening). o ∷ xs) (pass test os all.1)

-- the channels that a guest looks at are those that the message leaves
abbrev ThenIs : List Channel → GuestSeen → Change → Type 0
ThenIs channels g heard = (relid : ℕ) → 1 ≤ relid → channel_then g heard relid ≡ by_relid channels relid

pub then_now : (g : GuestSeen) (n relid : ℕ) (c : Channel) → 1 ≤ n → n ≤ length g.channels → 1 ≤ relid → channel_then g (Now n c) relid ≡ by_relid (slice_set g.channels (n - 1) c) relid
then_now g n relid c named known some =
    let after : List Channel = slice_set g.channels (n - 1) c in
    by_place {P = channel_then g (Now n c) relid ≡ by_relid after relid} n relid
    (λ e. ap (λ b. if b then Some c else by_relid g.channels relid) (eq-eqb n relid e)
    ∙ sym (ap (by_relid after) (sym e) ∙ at_relid after n named ∙ get_set g.channels (n - 1) c (omega (arith, named, known))))
    (λ off. let apart : relid - 1 ≢ n - 1 = λ e. off (omega (arith, e, named, some)) in
    ap (λ b. if b then Some c else by_relid g.channels relid) (differ n relid off) ∙ at_relid g.channels relid some
    ∙ sym (get_set_other g.channels (n - 1) (relid - 1) c apart) ∙ sym (at_relid after relid some))

-- the guest waits for the first answer, if there is one
moves_on : (plan : BusPlan) (v : Version) (guests : List Channel) (phase : ℕ) (awaits : GuestWait) (heard : Change) (answered : Bool) (ms : List Opening) → IsPlan plan → phase < length plan.phases → Agreed plan v
    → Stand (changed guests heard) (offered_before plan (suc phase)) (marked (guest_is (vps_before plan phase) Opened) (phase_of plan phase) (guest_before (vps_before plan phase) plan phase))
    → moved plan (phase_of plan phase) ≡ ms → answers_modify v.0 ≡ answered → ListsOn plan guests phase [] (moves_with (heard_so awaits v heard) answered (map move_of ms))
moves_on plan v guests phase awaits heard false ms planned in_plan agreed stand is answers =
    let os : List Opening = phase_of plan phase in
    let after = subst (λ ns. Stand (move_all (changed guests heard) false (map move_of ns)) (offered_before plan (suc phase)) (guest_opened plan phase)) is
    (guest_stays plan (move_all (changed guests heard) false (map move_of (moved plan os))) phase planned in_plan (guest_moved plan (changed guests heard) phase false planned in_plan stand)) in
    record {
      goes = GuestStarted v (move_all (changed guests heard) false (map move_of ms)) phase in_plan (record { agreed = agreed; stand = after });
      says = λ sent later e. ap (λ ns. guest_says ns ++ later) is ∙ ap (λ xs. xs ++ later) (sym (twice ms)) ∙ ap (λ s. s ++ later) (sym e);
      heard = λ later. ap (λ xs. xs ++ later) (ap (λ b. if b then map (λ (p : Opening). modified p.relid) (moved plan os) else []) (answers_are plan v planned agreed ∙ answers));
    }
moves_on plan v guests phase awaits heard true [] planned in_plan agreed stand is answers =
    let after = subst (λ ns. Stand (move_all (changed guests heard) true (map move_of ns)) (offered_before plan (suc phase)) (marked (guest_is (vps_before plan (suc phase)) Modifying) ns (guest_opened plan phase))) is
    (guest_moved plan (changed guests heard) phase true planned in_plan stand) in
    record {
      goes = GuestStarted v (changed guests heard) phase in_plan (record { agreed = agreed; stand = after });
      says = λ sent later e. ap (λ ns. guest_says ns ++ later) is ∙ ap (λ s. s ++ later) (sym e);
      heard = λ later. ap (λ xs. xs ++ later) (ap (host_says plan) is ∙ host_says_none plan);
    }
moves_on plan v guests phase awaits heard true (o ∷ ms) planned in_plan agreed stand is answers =
    let os : List Opening = phase_of plan phase in
    let after = subst (λ ns. Stand (move_all (changed guests heard) true (map move_of ns)) (offered_before plan (suc phase)) (marked (guest_is (vps_before plan (suc phase)) Modifying) ns (guest_opened plan phase))) is
    (guest_moved plan (changed guests heard) phase true planned in_plan stand) in
    record {
      goes = GuestMoves v (move_all (changed guests heard) true (map move_of (o ∷ ms))) phase 0 [] o ms in_plan is refl answers (record { agreed = agreed; stand = after });
      says = λ sent later e. ap (λ ns. guest_says ns ++ later) is ∙ ap (λ xs. xs ++ later) (sym (twice (o ∷ ms))) ∙ ap (λ s. s ++ later) (sym e);
      heard = λ later. refl;
    }

-- the guest sends the next page list; but where it is that of a service's channel, the guest asks for that first
lists_one : (plan : BusPlan) (v : Version) (guests : List Channel) (phase place : ℕ) (done : List Opening) (o : Opening) (left : List Opening) (awaits : GuestWait) (heard : Change) (dialed : Option ℕ) → At plan phase place done o left → o.dialed ≡ dialed
    → Meet plan v (changed guests heard) (offered_by plan phase done (o ∷ left)) (marked (guest_is (vps_before plan phase) Opened) done (guest_before (vps_before plan phase) plan phase))
    → ListsOn plan guests phase (o ∷ left) (dials_one (heard_so awaits v heard) place o dialed)
lists_one plan v guests phase place done o left awaits heard None at d meet =
    let os : List Opening = phase_of plan phase in
    let back = sym (left_at plan phase place done (o ∷ left) at.phase_is at.place_is) in
    let count : offered_by plan phase done (o ∷ left) ≡ offered_for plan phase done o left = omega (arith, ap count_dialed d) in
    record {
      goes = GuestLists v (changed guests heard) phase place done o left at (subst (λ n. Meet plan v (changed guests heard) n (marked (guest_is (vps_before plan phase) Opened) done (guest_before (vps_before plan phase) plan phase))) count meet);
      says = λ sent later sends. opens_more o left (guest_moves plan os ++ later) d ∙ (λ i. (sym (cuts_so o.relid o.gpadl (pages_from o) sent sends)) i ++ (opens_listed (back i) ++ (guest_moves plan os ++ later)));
      heard = λ later. answers_plain o left (host_moves plan os ++ later) d ∙ ap (λ xs. answers_list xs ++ (host_moves plan os ++ later)) back;
    }
lists_one plan v guests phase place done o left awaits heard (Some port) at d meet =
    let os : List Opening = phase_of plan phase in
    let back = sym (left_at plan phase place done (o ∷ left) at.phase_is at.place_is) in
    record {
      goes = GuestDials v (changed guests heard) phase place done o left at (ap is_some d) meet;
      says = λ sent later sends. dials_more o left (guest_moves plan os ++ later) ∙ (λ i. (ap dials d ∙ sym sends) i ++ (lists_dialed (back i) ++ (guest_moves plan os ++ later)));
      heard = λ later. ap (λ xs. host_opens_all xs ++ (host_moves plan os ++ later)) back;
    }

-- the guest goes on
lists_from : (plan : BusPlan) (logs : Logs) (before : Option Part) (v : Version) (guests : List Channel) (phase place : ℕ) (done left : List Opening) (waited awaits : GuestWait) (heard : Change) → IsPlan plan → phase < length plan.phases
    → phase_of plan phase ≡ done ++ left → place ≡ length done → Meet plan v (changed guests heard) (offered_by plan phase done left) (marked (guest_is (vps_before plan phase) Opened) done (guest_before (vps_before plan phase) plan phase))
    → (left ≡ [] → ThenIs (changed guests heard) (a_guest plan logs before waited (Some v) guests) heard)
    → ListsOn plan guests phase left (lists_next (a_guest plan logs before waited (Some v) guests) (Some (PhaseStart phase)) (heard_so awaits v heard) place (slice_get left 0))
lists_from plan logs before v guests phase place done [] waited awaits heard planned in_plan is at meet looks =
    let os : List Opening = phase_of plan phase in
    let g : GuestSeen = a_guest plan logs before waited (Some v) guests in
    let channels : List Channel = changed guests heard in
    let count : ℕ = offered_before plan (suc phase) in
    let vps : ℕ → ℕ = vps_before plan phase in
    let stands : ℕ → Channel = marked (guest_is vps Opened) os (guest_before vps plan phase) in
    let stand : Stand channels count stands = all_open plan channels (guest_is vps Opened) phase done (guest_before vps plan phase) in_plan (is ∙ append-nil done) meet.stand in
    let own = own_marked (guest_is vps Opened) os (guest_before vps plan phase) (phase_has plan phase planned in_plan).relids in
    let each : AllByRecursion (λ o. then_in g heard is_opened o ≡ true) os = both (λ o. stands o.relid ≡ guest_is vps Opened o) (Known count) (λ o. then_in g heard is_opened o ≡ true)
    (λ o so known. ap (in_state is_opened) (looks refl o.relid known.0 ∙ stand.each o.relid known.0 known.1 ∙ ap (λ c. Some c) so)) os own (phase_known plan phase planned in_plan) in
    let turn : List Opening → GuestTurn = λ ms. moves_with (heard_so awaits v heard) (answers_modify v.0) (map move_of ms) in
    subst (λ ms. ListsOn plan guests phase [] (turn (filter (then_in g heard is_opened) ms))) (sym (movers_are plan v phase planned meet.agreed))
    (subst (λ ms. ListsOn plan guests phase [] (turn ms)) (sym (pass (then_in g heard is_opened) (moved plan os) (moved_all (λ o. then_in g heard is_opened o ≡ true) plan os each)))
    (moves_on plan v guests phase awaits heard (answers_modify v.0) (moved plan os) planned in_plan meet.agreed stand refl refl))
lists_from plan logs before v guests phase place done (o ∷ left) waited awaits heard planned in_plan is at meet looks =
    lists_one plan v guests phase place done o left awaits heard o.dialed (record { in_plan = in_plan; phase_is = is; place_is = at }) refl meet

pub next_list : (plan : BusPlan) (logs : Logs) (before : Option Part) (v : Version) (guests : List Channel) (phase place : ℕ) (done left : List Opening) (waited awaits : GuestWait) (heard : Change) → IsPlan plan → phase < length plan.phases
    → phase_of plan phase ≡ done ++ left → place ≡ length done → Meet plan v (changed guests heard) (offered_by plan phase done left) (marked (guest_is (vps_before plan phase) Opened) done (guest_before (vps_before plan phase) plan phase))
    → (left ≡ [] → ThenIs (changed guests heard) (a_guest plan logs before waited (Some v) guests) heard)
    → ListsOn plan guests phase left (lists_next (a_guest plan logs before waited (Some v) guests) (Some (PhaseStart phase)) (heard_so awaits v heard) place (opening_at plan phase place))
next_list plan logs before v guests phase place done left waited awaits heard planned in_plan is at meet looks =
    subst (λ x. ListsOn plan guests phase left (lists_next (a_guest plan logs before waited (Some v) guests) (Some (PhaseStart phase)) (heard_so awaits v heard) place x)) (sym (opening_from plan phase place done left is at))
    (lists_from plan logs before v guests phase place done left waited awaits heard planned in_plan is at meet looks)

-- all channels of a phase are open at the host, and some of those that the phase moves are moved
abbrev pub host_moving : BusPlan → ℕ → List Opening → ℕ → ChanState
host_moving plan phase done = marked (host_is (marked vp_for done (vps_before plan phase)) Opened) (phase_of plan phase) (host_before (marked vp_for done (vps_before plan phase)) plan phase)

-- what a host waits for then, and what is left
pub record MovesLeft (plan : BusPlan) (v : Version) (hosts : List ChanState) (phase : ℕ) (left : List Opening) (waits : HostWait) : Type 0 where
  pub goes : HostStands plan (Some (PhaseStart phase)) waits (Some v) hosts (live_ones (handles (phase_of plan phase))) [] []
  pub says : (later : List Msg) → host_says plan left ++ later ≡ host_start_to_say (phase_of plan phase) waits ++ (host_moves_to_say plan (phase_of plan phase) waits ++ later)
  pub hears : (later : List Msg) → guest_says left ++ later ≡ host_start_to_hear (phase_of plan phase) waits [] ++ (host_moves_to_hear plan (phase_of plan phase) waits ++ later)

pub moves_left : (plan : BusPlan) (v : Version) (hosts : List ChanState) (phase place : ℕ) (done left : List Opening) → phase < length plan.phases → moved plan (phase_of plan phase) ≡ done ++ left → place ≡ length done
    → Meet plan v hosts (offered_before plan (suc phase)) (host_moving plan phase done) → MovesLeft plan v hosts phase left (waits_move place (slice_get left 0))
moves_left plan v hosts phase place done [] in_plan is at meet =
    record {
      goes = HostStarted v hosts phase in_plan (subst (λ ms. Meet plan v hosts (offered_before plan (suc phase)) (host_moving plan phase ms)) (sym (is ∙ append-nil done)) meet);
      says = λ later. ap (λ xs. xs ++ later) (host_says_none plan);
      hears = λ later. refl;
    }
moves_left plan v hosts phase place done (o ∷ left) in_plan is at meet =
    let os : List Opening = phase_of plan phase in
    record {
      goes = HostMoves v hosts phase place done o left in_plan is at meet;
      says = λ later. ap (λ xs. xs ++ later) (sym (ap (λ n. drop n (host_moves plan os)) at ∙ host_rest plan os done (o ∷ left) is));
      hears = λ later. ap (λ xs. xs ++ later) (sym (ap (λ n. drop n (guest_moves plan os)) at ∙ guest_rest plan os done (o ∷ left) is));
    }

-- what a host waits for that goes on with the start of a phase, where these openings are left
pub record WaitsOn (plan : BusPlan) (v : Version) (hosts : List ChanState) (phase : ℕ) (done left : List Opening) (waits : HostWait) (pieces : List Msg) : Type 0 where
  pub goes : HostStands plan (Some (PhaseStart phase)) waits (Some v) hosts (live_ones (handles done)) [] pieces
  pub says : (later : List Msg) → host_opens_all left ++ (host_moves plan (phase_of plan phase) ++ later) ≡ host_start_to_say (phase_of plan phase) waits ++ (host_moves_to_say plan (phase_of plan phase) waits ++ later)
  pub hears : (later : List Msg) → flat_map guest_opens left ++ (guest_moves plan (phase_of plan phase) ++ later) ≡ host_start_to_hear (phase_of plan phase) waits pieces ++ (host_moves_to_hear plan (phase_of plan phase) waits ++ later)

-- it waits for the next page list; but where that is of a service's channel, for the guest to ask for it
waits_at : (plan : BusPlan) (v : Version) (hosts : List ChanState) (phase place : ℕ) (done : List Opening) (o : Opening) (left : List Opening) (dialed : Option ℕ) → IsPlan plan → At plan phase place done o left → o.dialed ≡ dialed
    → Meet plan v hosts (offered_by plan phase done (o ∷ left)) (marked (host_is (vps_before plan phase) Opened) done (host_before (vps_before plan phase) plan phase)) → WaitsOn plan v hosts phase done (o ∷ left) (waits_one place dialed) (pieces_by o dialed)
waits_at plan v hosts phase place done o left None planned at d meet =
    let os : List Opening = phase_of plan phase in
    let long = length-range_with_len o.first_page (list_pages o.ring_pages) in
    let list : List Msg = cut o.relid o.gpadl (pages_from o) in
    let whole : HasFirst list = cut_first o.relid o.gpadl (pages_from o) (omega (arith, (facts plan phase place done o left planned at).fits.some_pages, long)) in
    let back = sym (left_at plan phase place done (o ∷ left) at.phase_is at.place_is) in
    let count : offered_by plan phase done (o ∷ left) ≡ offered_for plan phase done o left = omega (arith, ap count_dialed d) in
    record {
      goes = subst (HostStands plan (Some (PhaseStart phase)) (AwaitsList place) (Some v) hosts (live_ones (handles done)) []) (sym whole.is)
          (HostLists v hosts phase place done o left (live_ones (handles done)) whole.first whole.rest at
          (subst (λ n. Meet plan v hosts n (marked (host_is (vps_before plan phase) Opened) done (host_before (vps_before plan phase) plan phase))) count meet) (record { came = []; whole = whole.is; lists_are = refl }));
      says = λ later. answers_plain o left (host_moves plan os ++ later) d ∙ ap (λ xs. answers_list xs ++ (host_moves plan os ++ later)) back;
      hears = λ later. opens_more o left (guest_moves plan os ++ later) d ∙ sym (append_assoc list (opens_listed (o ∷ left)) (guest_moves plan os ++ later)) ∙ ap (λ xs. (list ++ opens_listed xs) ++ (guest_moves plan os ++ later)) back;
    }
waits_at plan v hosts phase place done o left (Some port) planned at d meet =
    let os : List Opening = phase_of plan phase in
    let back = sym (left_at plan phase place done (o ∷ left) at.phase_is at.place_is) in
    record {
      goes = HostConnects v hosts phase place done o left at (ap is_some d) meet;
      says = λ later. ap (λ xs. host_opens_all xs ++ (host_moves plan os ++ later)) back;
      hears = λ later. ap (λ xs. flat_map guest_opens xs ++ (guest_moves plan os ++ later)) back;
    }

waits_from : (plan : BusPlan) (logs : Logs) (before : Option Part) (v : Version) (known hosts : List ChanState) (lists : Assembly) (phase place : ℕ) (done left : List Opening) (waited : HostWait) → IsPlan plan → phase < length plan.phases
    → phase_of plan phase ≡ done ++ left → place ≡ length done → Meet plan v hosts (offered_by plan phase done left) (marked (host_is (vps_before plan phase) Opened) done (host_before (vps_before plan phase) plan phase))
    → WaitsOn plan v hosts phase done left (waits_list (a_host plan logs before waited (Some v) known lists) (Some (PhaseStart phase)) place (slice_get left 0)) (pieces_of (slice_get left 0))
waits_from plan logs before v known hosts lists phase place done [] waited planned in_plan is at meet =
    let os : List Opening = phase_of plan phase in
    let full : os ≡ done = is ∙ append-nil done in
    let vps : ℕ → ℕ = vps_before plan phase in
    let stand = all_open plan hosts (host_is vps Opened) phase done (host_before vps plan phase) in_plan full meet.stand in
    let there = moves_left plan v hosts phase 0 [] (moved plan os) in_plan refl refl (record { agreed = meet.agreed; stand = stand }) in
    subst (λ ms. WaitsOn plan v hosts phase done [] (waits_move 0 (slice_get ms 0)) []) (sym (movers_are plan v phase planned meet.agreed)) (record {
      goes = subst (λ ps. HostStands plan (Some (PhaseStart phase)) (waits_move 0 (slice_get (moved plan os) 0)) (Some v) hosts (live_ones (handles ps)) [] []) full there.goes;
      says = there.says;
      hears = there.hears;
    })
waits_from plan logs before v known hosts lists phase place done (o ∷ left) waited planned in_plan is at meet =
    waits_at plan v hosts phase place done o left o.dialed planned (record { in_plan = in_plan; phase_is = is; place_is = at }) refl meet

pub next_wait : (plan : BusPlan) (logs : Logs) (before : Option Part) (v : Version) (known hosts : List ChanState) (lists : Assembly) (phase place : ℕ) (done left : List Opening) (waited : HostWait) → IsPlan plan → phase < length plan.phases
    → phase_of plan phase ≡ done ++ left → place ≡ length done → Meet plan v hosts (offered_by plan phase done left) (marked (host_is (vps_before plan phase) Opened) done (host_before (vps_before plan phase) plan phase))
    → WaitsOn plan v hosts phase done left (waits_list (a_host plan logs before waited (Some v) known lists) (Some (PhaseStart phase)) place (opening_at plan phase place)) (pieces_of (opening_at plan phase place))
next_wait plan logs before v known hosts lists phase place done left waited planned in_plan is at meet =
    subst (λ x. WaitsOn plan v hosts phase done left (waits_list (a_host plan logs before waited (Some v) known lists) (Some (PhaseStart phase)) place x) (pieces_of x)) (sym (opening_from plan phase place done left is at))
    (waits_from plan logs before v known hosts lists phase place done left waited planned in_plan is at meet)

-- the answers that a guest waits for, where it has moved the channels of a phase and these were not answered
pub record AnswersLeft (plan : BusPlan) (v : Version) (guests : List Channel) (phase : ℕ) (left : List Opening) (waits : GuestWait) : Type 0 where
  pub goes : GuestStands plan (Some (PhaseStart phase)) waits (Some v) guests
  pub says : (later : List Msg) → later ≡ start_to_say (phase_of plan phase) waits ++ (moves_to_say plan (phase_of plan phase) waits ++ later)
  pub heard : (later : List Msg) → host_says plan left ++ later ≡ start_to_hear (phase_of plan phase) waits ++ (moves_to_hear plan (phase_of plan phase) waits ++ later)

-- a test of the channels of openings
abbrev Tests : List Channel → (Opening → Bool) → Type 0
Tests guests test = (q : Opening) → 1 ≤ q.relid → test q ≡ in_state is_modifying (by_relid guests q.relid)

-- of those that were answered none is waited for
answered_so : (plan : BusPlan) (guests : List Channel) (phase : ℕ) (done left : List Opening) (test : Opening → Bool) → IsPlan plan → phase < length plan.phases → moved plan (phase_of plan phase) ≡ done ++ left → Tests guests test
    → Stand guests (offered_before plan (suc phase)) (marked (guest_is (vps_before plan (suc phase)) Modifying) left (guest_opened plan phase)) → AllByRecursion (λ q. test q ≡ false) done
answered_so plan guests phase done left test planned in_plan is tests stand =
    let os : List Opening = phase_of plan phase in
    let count : ℕ = offered_before plan (suc phase) in
    let so : Opening → Channel = guest_is (vps_before plan (suc phase)) Opened in
    let asked : Opening → Channel = guest_is (vps_before plan (suc phase)) Modifying in
    let base : ℕ → Channel = guest_opened plan phase in
    let Own : Opening → Type 0 = λ q. base q.relid ≡ so q in
    let Apart : Opening → Type 0 = λ q. AllByRecursion (λ p. p.relid ≢ q.relid) left in
    let has = phase_has plan phase planned in_plan in
    let known = (all_front (Known count) done left (subst (AllByRecursion (Known count)) is (moved_all (Known count) plan os (phase_known plan phase planned in_plan)))).0 in
    let own = (all_front Own done left (subst (AllByRecursion Own) is (moved_all Own plan os (own_marked so os (guest_before (vps_before plan (suc phase)) plan phase) has.relids)))).0 in
    let apart = distinct_front (λ q. q.relid) done left (subst (Distinct (λ q. q.relid)) is (moved_distinct (λ q. q.relid) plan os has.relids)) in
    let open_so : AllByRecursion (λ q. Own q × Apart q) done = both Own Apart (λ q. Own q × Apart q) (λ q e off. (e, off)) done own apart in
    both (λ q. Own q × Apart q) (Known count) (λ q. test q ≡ false)
    (λ q here known. tests q known.0 ∙ ap (in_state is_modifying) (stand.each q.relid known.0 known.1 ∙ ap (λ c. Some c) (marked_apart asked left base q.relid here.1 ∙ here.0))) done open_so known

pub answers_left : (plan : BusPlan) (v : Version) (guests : List Channel) (phase : ℕ) (done left : List Opening) (test : Opening → Bool) → IsPlan plan → phase < length plan.phases → moved plan (phase_of plan phase) ≡ done ++ left → Tests guests test
    → answers_modify v.0 ≡ true → Meet plan v guests (offered_before plan (suc phase)) (marked (guest_is (vps_before plan (suc phase)) Modifying) left (guest_opened plan phase))
    → AnswersLeft plan v guests phase left (waits_answer (position_from test 0 (moved plan (phase_of plan phase))))
answers_left plan v guests phase done [] test planned in_plan is tests answers meet =
    let none = answered_so plan guests phase done [] test planned in_plan is tests meet.stand in
    subst (AnswersLeft plan v guests phase []) (sym (ap (λ ms. waits_answer (position_from test 0 ms)) (is ∙ append-nil done) ∙ ap waits_answer (position_none test 0 done none))) (record {
      goes = GuestStarted v guests phase in_plan meet;
      says = λ later. refl;
      heard = λ later. ap (λ xs. xs ++ later) (host_says_none plan);
    })
answers_left plan v guests phase done (o ∷ left) test planned in_plan is tests answers meet =
    let os : List Opening = phase_of plan phase in
    let count : ℕ = offered_before plan (suc phase) in
    let asked : Opening → Channel = guest_is (vps_before plan (suc phase)) Modifying in
    let none = answered_so plan guests phase done (o ∷ left) test planned in_plan is tests meet.stand in
    let known = (all_front (Known count) done (o ∷ left) (subst (AllByRecursion (Known count)) is (moved_all (Known count) plan os (phase_known plan phase planned in_plan)))).1.0 in
    let next : test o ≡ true = tests o known.0 ∙ ap (in_state is_modifying) (meet.stand.each o.relid known.0 known.1 ∙ ap (λ c. Some c) (marked_here asked o left (guest_opened plan phase))) in
    let here : 0 + length done ≡ length done = omega arith in
    let waits : waits_answer (position_from test 0 (moved plan os)) ≡ Modified (length done) = ap (λ ms. waits_answer (position_from test 0 ms)) is ∙ ap waits_answer (position_at test 0 done o left none next) ∙ ap (λ n. Modified n) here in
    subst (AnswersLeft plan v guests phase (o ∷ left)) (sym waits) (record {
      goes = GuestMoves v guests phase (length done) done o left in_plan is refl answers meet;
      says = λ later. refl;
      heard = λ later. ap (λ xs. xs ++ later) (sym (host_rest plan os done (o ∷ left) is));
    })
