-- What a side has still to say and to hear, as it goes on.
use Rattle.std.proofs.Common.{◌≡◌, ◌∙◌, ℕ, zero, suc, ◌<◌, Bool, true, false, if◌then◌else◌, List, [], ◌∷◌, ◌++◌, length, drop, map, slice_index_or, None, refl, sym, ap, append_assoc, length-append, arith}
use Rattle.std.specs.List.{flat_map}
use Rattle.std.proofs.lemmas.List.Concat.{flat_map-cons}
use Rattle.control_laws.proofs.Words.{Msg, Opening, Receive, Send}
use Rattle.gpadl.specs.Cut.{cut}
use Rattle.control_model.specs.Plan.{BusPlan, buffer_list, subs_next, in_closing_order, phase_of, closing_of}
use Rattle.control_model.specs.Messages.{pages_from, created, open_on, opened, offer_sub, close, teardown, teardown_buffer, torndown, rescind, release, farewell, farewell_taken}
use Rattle.control_model.specs.Said.{dials, dial_offers, guest_lists, guest_buffers, host_buffers, guest_opens, host_opens_all, guest_closes, host_closes, guest_moves, host_moves, guest_in_phase, host_in_phase, from_3_0}
use Rattle.control_model.specs.GuestAt.{guest_from, host_from, lists_dialed, opens_listed, answers_list, closes_rings, torn_rings, empties_left, emptied_left, torn_left, gives_sub, gives_one, takes_one, end_to_say, end_to_hear}
use Rattle.control_model.specs.HostAt.{closes_left, tears_left, host_end_to_say, host_end_to_hear}
use Rattle.control_model.specs.Stand.{At, EndsAt}
use Rattle.control_laws.proofs.NextOne.{guest_waits, guest_next_awaits, guest_sends, guest_next_sends, host_waits, host_next_awaits, host_sends, host_next_sends}
use Rattle.control_laws.proofs.Plans.{done_more, ends_more}

-- what follows on the start of a phase, and on its openings
abbrev pub guest_onward : BusPlan → ℕ → List Msg
guest_onward plan phase = flat_map guest_closes (closing_of plan phase) ++ guest_from plan (suc phase)

abbrev pub host_onward : BusPlan → ℕ → List Msg
host_onward plan phase = flat_map host_closes (closing_of plan phase) ++ host_from plan (suc phase)

abbrev pub guest_then : BusPlan → ℕ → List Msg
guest_then plan phase = guest_moves plan (phase_of plan phase) ++ guest_onward plan phase

abbrev pub host_then : BusPlan → ℕ → List Msg
host_then plan phase = host_moves plan (phase_of plan phase) ++ host_onward plan phase

-- behind those that are done, the others are left
pub drop_done : {X : Type 0} (xs ys : List X) → drop (length xs) (xs ++ ys) ≡ ys
drop_done [] ys = refl
drop_done (x ∷ xs) ys = drop_done xs ys

pub drop_all : {X : Type 0} (xs : List X) → drop (length xs) xs ≡ []
drop_all [] = refl
drop_all (x ∷ xs) = drop_all xs

pub drop_one : {X : Type 0} (xs : List X) (i : ℕ) (d : X) → i < length xs → drop i xs ≡ slice_index_or xs i d ∷ drop (suc i) xs
drop_one [] i d less = absurd (omega (arith, less))
drop_one (x ∷ xs) zero d less = refl
drop_one (x ∷ xs) (suc i) d less = drop_one xs i d (omega (arith, less))

pub left_at : (plan : BusPlan) (phase place : ℕ) (done left : List Opening) → phase_of plan phase ≡ done ++ left → place ≡ length done → drop place (phase_of plan phase) ≡ left
left_at plan phase place done left is at = ap (drop place) is ∙ ap (λ n. drop n (done ++ left)) at ∙ drop_done done left

pub left_behind : (plan : BusPlan) (phase place : ℕ) (done : List Opening) (o : Opening) (left : List Opening) → At plan phase place done o left → drop (suc place) (phase_of plan phase) ≡ left
left_behind plan phase place done o left at =
    left_at plan phase (suc place) (done ++ o ∷ []) left (done_more plan phase place done o left at) (omega (arith, at.place_is, length-append done (o ∷ [])))

-- a guest lists the pages of the next channel, if there is one
pub lists_more : (o : Opening) (os : List Opening) (later : List Msg) → lists_dialed (o ∷ os) ++ later ≡ cut o.relid o.gpadl (pages_from o) ++ (opens_listed (o ∷ os) ++ later)
lists_more o os later =
    let list : List Msg = cut o.relid o.gpadl (pages_from o) in
    let open_all : List Msg = open_on o ∷ guest_buffers o in
    append_assoc (list ++ open_all) (flat_map guest_opens os) later ∙ append_assoc list open_all (flat_map guest_opens os ++ later) ∙ ap (λ xs. list ++ xs) (sym (append_assoc open_all (flat_map guest_opens os) later))

pub dials_more : (o : Opening) (os : List Opening) (later : List Msg) → flat_map guest_opens (o ∷ os) ++ later ≡ dials o.dialed ++ (lists_dialed (o ∷ os) ++ later)
dials_more o os later =
    ap (λ xs. xs ++ later) (flat_map-cons guest_opens o os) ∙ append_assoc (dials o.dialed ++ guest_lists o) (flat_map guest_opens os) later ∙ append_assoc (dials o.dialed) (guest_lists o) (flat_map guest_opens os ++ later)
    ∙ ap (λ xs. dials o.dialed ++ xs) (sym (append_assoc (guest_lists o) (flat_map guest_opens os) later))

pub opens_more : (o : Opening) (os : List Opening) (later : List Msg) → o.dialed ≡ None → flat_map guest_opens (o ∷ os) ++ later ≡ cut o.relid o.gpadl (pages_from o) ++ (opens_listed (o ∷ os) ++ later)
opens_more o os later none = dials_more o os later ∙ ap (λ d. dials d ++ (lists_dialed (o ∷ os) ++ later)) none ∙ lists_more o os later

-- the host offers the channel of a service first
pub answers_more : (o : Opening) (os : List Opening) (later : List Msg) → host_opens_all (o ∷ os) ++ later ≡ dial_offers o.relid o.dialed ++ (answers_list (o ∷ os) ++ later)
answers_more o os later =
    let both : List Msg = created o.relid o.gpadl ∷ opened o.relid o.relid ∷ host_buffers o in
    let rest : List Msg = map offer_sub (subs_next (o ∷ os)) ++ host_opens_all os in
    append_assoc (dial_offers o.relid o.dialed ++ both) rest later ∙ append_assoc (dial_offers o.relid o.dialed) both (rest ++ later) ∙ ap (λ xs. dial_offers o.relid o.dialed ++ xs) (sym (append_assoc both rest later))

pub answers_plain : (o : Opening) (os : List Opening) (later : List Msg) → o.dialed ≡ None → host_opens_all (o ∷ os) ++ later ≡ answers_list (o ∷ os) ++ later
answers_plain o os later none = answers_more o os later ∙ ap (λ d. dial_offers o.relid d ++ (answers_list (o ∷ os) ++ later)) none

-- in the order in which the channels are closed
pub ends_left : (plan : BusPlan) (phase place : ℕ) (done left : List Opening) → closing_of plan phase ≡ done ++ left → place ≡ length done → drop place (closing_of plan phase) ≡ left
ends_left plan phase place done left is at = ap (drop place) is ∙ ap (λ n. drop n (done ++ left)) at ∙ drop_done done left

pub ends_behind : (plan : BusPlan) (phase place : ℕ) (done : List Opening) (o : Opening) (left : List Opening) → EndsAt plan phase place done o left → drop (suc place) (closing_of plan phase) ≡ left
ends_behind plan phase place done o left at =
    ends_left plan phase (suc place) (done ++ o ∷ []) left (ends_more plan phase place done o left at) (omega (arith, at.place_is, length-append done (o ∷ [])))

-- what a side says of an opening at the end of its phase, where it is rescinded, and where it has buffers
abbrev guest_closes_by : Opening → Bool → Bool → List Msg
guest_closes_by o gone buffers = if gone then release o.relid ∷ [] else (if buffers then teardown_buffer o Send ∷ teardown_buffer o Receive ∷ [] else []) ++ closes_rings o

abbrev host_closes_by : Opening → Bool → Bool → List Msg
host_closes_by o gone buffers = if gone then rescind o.relid ∷ [] else (if buffers then torndown (buffer_list o Send) ∷ torndown (buffer_list o Receive) ∷ [] else []) ++ torn_rings o

guest_left : (o : Opening) (left : List Opening) (b c : Bool) → o.rescinded ≡ b → o.buffers ≡ c → flat_map guest_closes (o ∷ left) ≡ guest_closes_by o b c ++ flat_map guest_closes left
guest_left o left b c gone has = flat_map-cons guest_closes o left ∙ (λ i. guest_closes_by o (gone i) (has i) ++ flat_map guest_closes left)

host_left : (o : Opening) (left : List Opening) (b c : Bool) → o.rescinded ≡ b → o.buffers ≡ c → flat_map host_closes (o ∷ left) ≡ host_closes_by o b c ++ flat_map host_closes left
host_left o left b c gone has = flat_map-cons host_closes o left ∙ (λ i. host_closes_by o (gone i) (has i) ++ flat_map host_closes left)

-- a host goes on with the end of a phase
host_said_one : (plan : BusPlan) (phase place : ℕ) (done : List Opening) (o : Opening) (left : List Opening) (b c : Bool) → o.rescinded ≡ b → o.buffers ≡ c → EndsAt plan phase place done o left → flat_map host_closes (o ∷ left) ≡ host_sends o b ++ host_end_to_say (closing_of plan phase) (host_waits place b c)
host_said_one plan phase place done o left true c is has at = host_left o left true c is has ∙ ap (λ os. rescind o.relid ∷ flat_map host_closes os) (sym (ends_behind plan phase place done o left at))
host_said_one plan phase place done o left false true is has at = host_left o left false true is has ∙ ap (emptied_left Send) (sym (ends_left plan phase place done (o ∷ left) at.closing_is at.place_is))
host_said_one plan phase place done o left false false is has at = host_left o left false false is has ∙ ap torn_left (sym (ends_left plan phase place done (o ∷ left) at.closing_is at.place_is))

pub host_ends_said : (plan : BusPlan) (phase place : ℕ) (done left : List Opening) → phase < length plan.phases → closing_of plan phase ≡ done ++ left → place ≡ length done → flat_map host_closes left ≡ host_next_sends left ++ host_end_to_say (closing_of plan phase) (host_next_awaits place left)
host_ends_said plan phase place done [] in_plan is at = refl
host_ends_said plan phase place done (o ∷ left) in_plan is at = host_said_one plan phase place done o left o.rescinded o.buffers refl refl (record { in_plan = in_plan; closing_is = is; place_is = at })

host_heard_one : (plan : BusPlan) (phase place : ℕ) (done : List Opening) (o : Opening) (left : List Opening) (b c : Bool) → o.rescinded ≡ b → o.buffers ≡ c → closing_of plan phase ≡ done ++ o ∷ left → place ≡ length done → flat_map guest_closes (o ∷ left) ≡ host_end_to_hear (closing_of plan phase) (host_waits place b c)
host_heard_one plan phase place done o left true c gone has is at = guest_left o left true c gone has ∙ ap gives_one (sym (ends_left plan phase place done (o ∷ left) is at))
host_heard_one plan phase place done o left false true closed has is at = guest_left o left false true closed has ∙ ap (tears_left Send) (sym (ends_left plan phase place done (o ∷ left) is at))
host_heard_one plan phase place done o left false false closed has is at = guest_left o left false false closed has ∙ ap closes_left (sym (ends_left plan phase place done (o ∷ left) is at))

pub host_ends_heard : (plan : BusPlan) (phase place : ℕ) (done left : List Opening) → closing_of plan phase ≡ done ++ left → place ≡ length done → flat_map guest_closes left ≡ host_end_to_hear (closing_of plan phase) (host_next_awaits place left)
host_ends_heard plan phase place done [] is at = refl
host_ends_heard plan phase place done (o ∷ left) is at = host_heard_one plan phase place done o left o.rescinded o.buffers refl refl is at

-- a guest goes on with the end of a phase
said_one : (plan : BusPlan) (phase place : ℕ) (done : List Opening) (o : Opening) (left : List Opening) (b c : Bool) → o.rescinded ≡ b → o.buffers ≡ c → EndsAt plan phase place done o left → flat_map guest_closes (o ∷ left) ≡ guest_sends o b c ++ end_to_say (closing_of plan phase) (guest_waits place b c)
said_one plan phase place done o left true c is has at = guest_left o left true c is has ∙ ap gives_one (sym (ends_left plan phase place done (o ∷ left) at.closing_is at.place_is))
said_one plan phase place done o left false true is has at = guest_left o left false true is has ∙ ap (λ os. teardown_buffer o Send ∷ empties_left Send os) (sym (ends_left plan phase place done (o ∷ left) at.closing_is at.place_is))
said_one plan phase place done o left false false is has at = guest_left o left false false is has ∙ ap (λ os. close o.relid ∷ teardown o ∷ gives_sub os) (sym (ends_left plan phase place done (o ∷ left) at.closing_is at.place_is))

pub ends_said : (plan : BusPlan) (phase place : ℕ) (done left : List Opening) → phase < length plan.phases → closing_of plan phase ≡ done ++ left → place ≡ length done → flat_map guest_closes left ≡ guest_next_sends left ++ end_to_say (closing_of plan phase) (guest_next_awaits place left)
ends_said plan phase place done [] in_plan is at = refl
ends_said plan phase place done (o ∷ left) in_plan is at = said_one plan phase place done o left o.rescinded o.buffers refl refl (record { in_plan = in_plan; closing_is = is; place_is = at })

heard_one : (plan : BusPlan) (phase place : ℕ) (done : List Opening) (o : Opening) (left : List Opening) (b c : Bool) → o.rescinded ≡ b → o.buffers ≡ c → closing_of plan phase ≡ done ++ o ∷ left → place ≡ length done → flat_map host_closes (o ∷ left) ≡ end_to_hear (closing_of plan phase) (guest_waits place b c)
heard_one plan phase place done o left true c gone has is at = host_left o left true c gone has ∙ ap takes_one (sym (ends_left plan phase place done (o ∷ left) is at))
heard_one plan phase place done o left false true closed has is at = host_left o left false true closed has ∙ ap (emptied_left Send) (sym (ends_left plan phase place done (o ∷ left) is at))
heard_one plan phase place done o left false false closed has is at = host_left o left false false closed has ∙ ap torn_left (sym (ends_left plan phase place done (o ∷ left) is at))

pub ends_heard : (plan : BusPlan) (phase place : ℕ) (done left : List Opening) → closing_of plan phase ≡ done ++ left → place ≡ length done → flat_map host_closes left ≡ end_to_hear (closing_of plan phase) (guest_next_awaits place left)
ends_heard plan phase place done [] is at = refl
ends_heard plan phase place done (o ∷ left) is at = heard_one plan phase place done o left o.rescinded o.buffers refl refl is at

-- what is said and heard from a phase on
pub guest_from_phase : (plan : BusPlan) (phase : ℕ) → phase < length plan.phases
    → guest_from plan phase ≡ flat_map guest_opens (phase_of plan phase) ++ (guest_moves plan (phase_of plan phase) ++ (flat_map guest_closes (closing_of plan phase) ++ guest_from plan (suc phase)))
guest_from_phase plan phase less =
    let os : List Opening = phase_of plan phase in
    let last : List Msg = from_3_0 plan (farewell ∷ []) in
    let says : List Opening → List Msg = guest_in_phase plan in
    let rest : List Msg = flat_map says (drop (suc phase) plan.phases) in
    let moves : List Msg = guest_moves plan os in
    let closes : List Msg = flat_map guest_closes (in_closing_order os) in
    ap (λ ps. flat_map says ps ++ last) (drop_one plan.phases phase [] less) ∙ ap (λ xs. xs ++ last) (flat_map-cons says os (drop (suc phase) plan.phases))
    ∙ append_assoc (says os) rest last ∙ append_assoc (flat_map guest_opens os) (moves ++ closes) (rest ++ last) ∙ ap (λ xs. flat_map guest_opens os ++ xs) (append_assoc moves closes (rest ++ last))

pub host_from_phase : (plan : BusPlan) (phase : ℕ) → phase < length plan.phases
    → host_from plan phase ≡ host_opens_all (phase_of plan phase) ++ (host_moves plan (phase_of plan phase) ++ (flat_map host_closes (closing_of plan phase) ++ host_from plan (suc phase)))
host_from_phase plan phase less =
    let os : List Opening = phase_of plan phase in
    let last : List Msg = from_3_0 plan (farewell_taken ∷ []) in
    let says : List Opening → List Msg = host_in_phase plan in
    let rest : List Msg = flat_map says (drop (suc phase) plan.phases) in
    let moves : List Msg = host_moves plan os in
    let closes : List Msg = flat_map host_closes (in_closing_order os) in
    ap (λ ps. flat_map says ps ++ last) (drop_one plan.phases phase [] less) ∙ ap (λ xs. xs ++ last) (flat_map-cons says os (drop (suc phase) plan.phases))
    ∙ append_assoc (says os) rest last ∙ append_assoc (host_opens_all os) (moves ++ closes) (rest ++ last) ∙ ap (λ xs. host_opens_all os ++ xs) (append_assoc moves closes (rest ++ last))

-- behind the last phase only the farewell is left
pub guest_at_last : (plan : BusPlan) → guest_from plan (length plan.phases) ≡ from_3_0 plan (farewell ∷ [])
guest_at_last plan = ap (λ ps. flat_map (guest_in_phase plan) ps ++ from_3_0 plan (farewell ∷ [])) (drop_all plan.phases)

pub host_at_last : (plan : BusPlan) → host_from plan (length plan.phases) ≡ from_3_0 plan (farewell_taken ∷ [])
host_at_last plan = ap (λ ps. flat_map (host_in_phase plan) ps ++ from_3_0 plan (farewell_taken ∷ [])) (drop_all plan.phases)
