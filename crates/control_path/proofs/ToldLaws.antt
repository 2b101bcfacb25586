-- What a guest has told its host once the channels of a phase are open: of each channel with buffers, their page lists last.
use Rattle.std.proofs.Common.{◌≡◌, ◌≢◌, ◌∙◌, ℕ, zero, suc, ◌+◌, ◌<◌, ◌≤◌, ◌&&◌, Bool, true, false, if◌then◌else◌, List, [], ◌∷◌, ◌++◌, length, map, take, drop, Option, Some, None, refl, sym, ap, subst, append_assoc, arith}
use Rattle.std.specs.List.{AllByRecursion, flat_map, range_with_len}
use Rattle.std.proofs.lemmas.List.{append_cancel_right, take-append-drop}
use Rattle.std.proofs.lemmas.List.Concat.{flat_map-cons}
use Rattle.std.proofs.lemmas.Grind.{flat_map-append}
use Rattle.gpadl.specs.Cut.{bodies, cut}
use Rattle.vmbus_msg.specs.declared.msg.Msg.{Msg}
use Rattle.control_model.specs.declared.opening.Opening.{Opening}
use Rattle.control_model.specs.declared.buffer.Buffer.TheVariants.{Receive, Send}
use Rattle.control_model.specs.declared.guest_wait.GuestWait.{GuestWait}
use Rattle.control_model.specs.declared.guest_wait.GuestWait.TheVariants.{Nothing, Response, Offers, SubOffer, ServiceOffer, Created, Opened, Listed, Modified, Unlisted, Torn, Rescinded, Unloaded}
use Rattle.control_model.specs.Plan.{BusPlan, buffer_begins, buffer_list, closing_of, phase_of, vp_for}
use Rattle.control_model.specs.Messages.{modify, open_on, pages_from, buffer_pages, farewell}
use Rattle.control_model.specs.Said.{dials, guest_buffer, guest_buffers, guest_closes, guest_contacts, guest_in_phase, guest_lists, guest_moves, guest_opens, from_3_0, moved, said_by_guest}
use Rattle.control_model.specs.Guest.{waits_for_nothing}
use Rattle.control_model.specs.GuestAt.{guest_from, to_say}
use Rattle.control_laws.proofs.Closing.{distinct_mid, Distinct}
use Rattle.control_laws.proofs.Marks.{same, differ}
use Rattle.control_laws.proofs.Plans.{cut_at}
use Rattle.control_laws.proofs.Relids.{phase_relids}
use Rattle.control_laws.proofs.Saying.{guest_from_phase}
use Rattle.guest_end.specs.Told.{lists_told, told_by}
use Rattle.control_path.specs.Told.{BuffersAreTold, IsSaidToStart, StartIsSaid}

told_append : (relid : ℕ) (told : ℕ × ℕ) (xs ys : List Msg) → lists_told relid told (xs ++ ys) ≡ lists_told relid (lists_told relid told xs) ys
told_append relid told [] ys = refl
told_append relid told (x ∷ xs) ys = told_append relid (told_by relid told x) xs ys

-- messages that tell no page list of this channel
abbrev TellsNone : ℕ → List Msg → Type 0
TellsNone relid ms = (told : ℕ × ℕ) → lists_told relid told ms ≡ told

both : (relid : ℕ) (xs ys : List Msg) → TellsNone relid xs → TellsNone relid ys → TellsNone relid (xs ++ ys)
both relid xs ys a b told = told_append relid told xs ys ∙ (b (lists_told relid told xs) ∙ a told)

only_if : (relid : ℕ) (b : Bool) (xs : List Msg) → TellsNone relid xs → TellsNone relid (if b then xs else [])
only_if relid true xs a = a
only_if relid false xs a = λ told. refl

no_body : (relid most handle number : ℕ) (frames : List ℕ) → TellsNone relid (bodies most handle number frames)
no_body relid zero handle number frames told = refl
no_body relid (suc most) handle number [] told = refl
no_body relid (suc most) handle number (frame ∷ frames) told = no_body relid most handle (number + 1) (drop 28 (frame ∷ frames)) told

no_cut : (relid r handle : ℕ) (pages : List ℕ) → r ≢ relid → TellsNone relid (cut r handle pages)
no_cut relid r handle [] off told = refl
no_cut relid r handle (page ∷ pages) off told =
    ap (λ b. lists_told relid (if b then (told.1, handle) else told) (bodies (length pages) handle 0 (drop 26 (page ∷ pages)))) (differ r relid off) ∙ no_body relid (length pages) handle 0 (drop 26 (page ∷ pages)) told

no_dial : (relid : ℕ) (dialed : Option ℕ) → TellsNone relid (dials dialed)
no_dial relid None told = refl
no_dial relid (Some port) told = refl

-- another channel is opened
no_open : (relid : ℕ) (p : Opening) → p.relid ≢ relid → TellsNone relid (guest_opens p)
no_open relid p off =
    let fills : TellsNone relid (guest_buffers p) = only_if relid p.buffers (guest_buffer p Receive ++ guest_buffer p Send)
    (both relid (guest_buffer p Receive) (guest_buffer p Send) (no_cut relid p.relid (buffer_list p Receive) (buffer_pages p Receive) off) (no_cut relid p.relid (buffer_list p Send) (buffer_pages p Send) off)) in
    both relid (dials p.dialed) (guest_lists p) (no_dial relid p.dialed) (both relid (cut p.relid p.gpadl (pages_from p)) (open_on p ∷ guest_buffers p) (no_cut relid p.relid p.gpadl (pages_from p) off) (λ told. fills told))

no_opens : (relid : ℕ) (os : List Opening) → AllByRecursion (λ p. p.relid ≢ relid) os → TellsNone relid (flat_map guest_opens os)
no_opens relid [] off = λ told. refl
no_opens relid (p ∷ os) off = subst (TellsNone relid) (sym (flat_map-cons guest_opens p os)) (both relid (guest_opens p) (flat_map guest_opens os) (no_open relid p off.0) (no_opens relid os off.1))

no_move : (relid : ℕ) (os : List Opening) → TellsNone relid (map (λ (o : Opening). modify o.relid (vp_for o)) os)
no_move relid [] told = refl
no_move relid (o ∷ os) told = no_move relid os told

-- a page list of this channel is told
one_cut : (relid handle : ℕ) (pages : List ℕ) (told : ℕ × ℕ) → 1 ≤ length pages → lists_told relid told (cut relid handle pages) ≡ (told.1, handle)
one_cut relid handle [] told some = absurd (omega (arith, some))
one_cut relid handle (page ∷ pages) told some =
    ap (λ b. lists_told relid (if b then (told.1, handle) else told) (bodies (length pages) handle 0 (drop 26 (page ∷ pages)))) (same relid) ∙ no_body relid (length pages) handle 0 (drop 26 (page ∷ pages)) (told.1, handle)

some_pages : (first more : ℕ) → 1 ≤ length (range_with_len first (suc more))
some_pages first more = omega arith

-- a channel with buffers is opened: their page lists are the last ones that are told for it
its_open : (o : Opening) (told : ℕ × ℕ) → o.buffers ≡ true → lists_told o.relid told (guest_opens o) ≡ (buffer_list o Receive, buffer_list o Send)
its_open o told has =
    let relid = o.relid in
    let receive : List Msg = guest_buffer o Receive in
    let send : List Msg = guest_buffer o Send in
    let before : List Msg = cut relid o.gpadl (pages_from o) in
    let t : ℕ × ℕ = lists_told relid (lists_told relid told (dials o.dialed)) before in
    let u : ℕ × ℕ = lists_told relid t receive in
    let first : u ≡ (t.1, buffer_list o Receive) = one_cut relid (buffer_list o Receive) (buffer_pages o Receive) t (some_pages (buffer_begins o Receive) 63) in
    let second : lists_told relid u send ≡ (u.1, buffer_list o Send) = one_cut relid (buffer_list o Send) (buffer_pages o Send) u (some_pages (buffer_begins o Send) 63) in
    told_append relid told (dials o.dialed) (guest_lists o)
    ∙ (told_append relid (lists_told relid told (dials o.dialed)) before (open_on o ∷ guest_buffers o)
    ∙ (ap (λ b. lists_told relid t (if b then receive ++ send else [])) has
    ∙ (told_append relid t receive send ∙ (second ∙ ap (λ (v : ℕ × ℕ). (v.1, buffer_list o Send)) first))))

-- so at the end of a phase's start, where no other channel of the phase has its relid
its_start : (o : Opening) (before moves : List Msg) (done left os : List Opening) → os ≡ done ++ o ∷ left → o.buffers ≡ true → AllByRecursion (λ p. p.relid ≢ o.relid) left → TellsNone o.relid moves
    → lists_told o.relid (0, 0) (before ++ (flat_map guest_opens os ++ moves)) ≡ (buffer_list o Receive, buffer_list o Send)
its_start o before moves done left os is has off still =
    let relid = o.relid in
    let behind : List Msg = flat_map guest_opens left in
    let front : List Msg = flat_map guest_opens done in
    let opens : flat_map guest_opens os ≡ front ++ (guest_opens o ++ behind) =
    ap (flat_map guest_opens) is ∙ (flat_map-append guest_opens done (o ∷ left) ∙ ap (λ xs. front ++ xs) (flat_map-cons guest_opens o left)) in
    let t : ℕ × ℕ = lists_told relid (lists_told relid (0, 0) before) front in
    told_append relid (0, 0) before (flat_map guest_opens os ++ moves)
    ∙ (told_append relid (lists_told relid (0, 0) before) (flat_map guest_opens os) moves
    ∙ (still (lists_told relid (lists_told relid (0, 0) before) (flat_map guest_opens os))
    ∙ (ap (lists_told relid (lists_told relid (0, 0) before)) opens
    ∙ (told_append relid (lists_told relid (0, 0) before) front (guest_opens o ++ behind)
    ∙ (told_append relid t (guest_opens o) behind ∙ (no_opens relid left off (lists_told relid t (guest_opens o)) ∙ its_open o t has))))))

-- what is posted up to the end of a phase's start
abbrev before_phase : BusPlan → ℕ → List Msg
before_phase plan phase = guest_contacts plan ++ flat_map (guest_in_phase plan) (take phase plan.phases)

posted_is : (plan : BusPlan) (phase : ℕ) (posted : List Msg) → phase < length plan.phases → IsSaidToStart plan phase posted → posted ≡ before_phase plan phase ++ (flat_map guest_opens (phase_of plan phase) ++ guest_moves plan (phase_of plan phase))
posted_is plan phase posted less said =
    let says : List Opening → List Msg = guest_in_phase plan in
    let last : List Msg = from_3_0 plan (farewell ∷ []) in
    let early : List Msg = flat_map says (take phase plan.phases) in
    let late : List Msg = flat_map says (drop phase plan.phases) in
    let contacts : List Msg = guest_contacts plan in
    let opens : List Msg = flat_map guest_opens (phase_of plan phase) in
    let moves : List Msg = guest_moves plan (phase_of plan phase) in
    let rest : List Msg = flat_map guest_closes (closing_of plan phase) ++ guest_from plan (suc phase) in
    let whole : flat_map says plan.phases ≡ early ++ late = ap (flat_map says) (sym (take-append-drop phase plan.phases)) ∙ flat_map-append says (take phase plan.phases) (drop phase plan.phases) in
    let all : said_by_guest plan ≡ before_phase plan phase ++ guest_from plan phase =
    ap (λ xs. contacts ++ (xs ++ last)) whole ∙ (ap (λ xs. contacts ++ xs) (append_assoc early late last) ∙ sym (append_assoc contacts early (late ++ last))) in
    let parts : before_phase plan phase ++ guest_from plan phase ≡ (before_phase plan phase ++ (opens ++ moves)) ++ rest =
    ap (λ xs. before_phase plan phase ++ xs) (guest_from_phase plan phase less)
    ∙ (ap (λ xs. before_phase plan phase ++ xs) (sym (append_assoc opens moves rest)) ∙ sym (append_assoc (before_phase plan phase) (opens ++ moves) rest)) in
    append_cancel_right posted (before_phase plan phase ++ (opens ++ moves)) rest (sym said ∙ (all ∙ parts))

no_moves : (relid : ℕ) (plan : BusPlan) (os : List Opening) → TellsNone relid (guest_moves plan os)
no_moves relid plan os = no_move relid (moved plan os)

pub told_law : BuffersAreTold
told_law plan posted phase place o planned said is has =
    let cut = cut_at plan phase place o is in
    let less = cut.at.in_plan in
    let apart = (phase_relids plan phase planned less).distinct in
    let off = (distinct_mid (λ o. o.relid) cut.done o cut.left (subst (Distinct (λ o. o.relid)) cut.at.phase_is apart)).1 in
    ap (lists_told o.relid (0, 0)) (posted_is plan phase posted less said)
    ∙ its_start o (before_phase plan phase) (guest_moves plan (phase_of plan phase)) cut.done cut.left (phase_of plan phase) cut.at.phase_is has off (no_moves o.relid plan (phase_of plan phase))

-- a guest that is done waits for nothing
second : (a b : Bool) → (a && b) ≡ true → b ≡ true
second true b e = e
second false b e = absurd (cc e)

nothing : (awaits : GuestWait) → waits_for_nothing awaits ≡ true → awaits ≡ Nothing
nothing Nothing e = refl
nothing (Response v) e = absurd (cc e)
nothing Offers e = absurd (cc e)
nothing (SubOffer place) e = absurd (cc e)
nothing (ServiceOffer place) e = absurd (cc e)
nothing (Created place) e = absurd (cc e)
nothing (Opened place) e = absurd (cc e)
nothing (Listed place k) e = absurd (cc e)
nothing (Modified place) e = absurd (cc e)
nothing (Unlisted place k) e = absurd (cc e)
nothing (Torn place) e = absurd (cc e)
nothing (Rescinded place) e = absurd (cc e)
nothing Unloaded e = absurd (cc e)

pub start_law : StartIsSaid
start_law plan g phase at part done =
    let waits = nothing g.awaits (second _ (waits_for_nothing g.awaits) done) in
    at.said ∙ (λ i. g.posted ++ to_say plan (part i) (waits i))
