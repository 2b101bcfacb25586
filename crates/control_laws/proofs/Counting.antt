-- How many messages can be on their way, by where both sides stand: what one has still to hear is what is on its way to it, and what the other has still to say.
use Rattle.std.proofs.Common.{◌≡◌, ◌∙◌, ℕ, suc, ◌+◌, ◌-◌, ◌<◌, ◌≤◌, ◌&&◌, Bool, true, false, List, [], ◌∷◌, ◌++◌, cond, filter, is_some, length, map, drop, replicate, Option, if◌then◌else◌, refl, ap, length-append, length-drop, arith}
use Rattle.std.proofs.lemmas.List.{length-map}
use Rattle.control_laws.proofs.Words.{Version, Part, versions_tried, has_modify, answers_modify, offers_from, ChanState, Assembly, Msg, Opening, Channel, GuestWait, HostWait}
use Rattle.control_model.specs.Plan.{BusPlan, buffer_list, movers, vp_for, IsPlan, phase_of, closing_of}
use Rattle.control_model.specs.Messages.{propose, request, delivered, pages_from, buffer_pages, modify, modified}
use Rattle.control_model.specs.Said.{agreed, answer_to, moved, guest_moves, host_moves}
use Rattle.control_model.specs.Guest.{offered_channel, waits_for_nothing}
use Rattle.control_model.specs.Host.{host_waits_for_nothing}
use Rattle.control_model.specs.Stand.{Tries, Agreed, handles}
use Rattle.control_model.specs.GuestAt.{guest_from, host_from, contact_to_say, contact_to_hear, start_to_say, start_to_hear, moves_to_say, moves_to_hear, end_to_say, end_to_hear, to_say, to_hear, GuestStands}
use Rattle.control_model.specs.GuestAt.GuestStands.{fresh, proposes, asks, contacted, offers, dials as asks_for, lists, opens, fills, moves, started, empties, closes, gives_back, gives_sub_back, ended, leaves, is_over}
use Rattle.control_model.specs.HostAt.{host_contact_to_say, host_contact_to_hear, host_start_to_say, host_start_to_hear, host_moves_to_say, host_moves_to_hear, host_end_to_say, host_end_to_hear, host_to_say, host_to_hear, lists_before, HostStands}
use Rattle.control_model.specs.HostAt.HostStands.{fresh as IsFresh, answers as IsAnswering, accepts as IsAccepting, contacted as IsContacted, connects as IsConnecting, lists as IsListing, listed as IsListed, fills as IsFilling, moves as IsMoving, started as IsStarted, empties as IsEmptying, closes as IsClosing, tears as IsTearing, takes_back as IsTakingBack, ended as IsEnded, leaves as IsLeaving, is_over as IsDone}
use Rattle.control_model.proofs.PlanLaws.{offers_length}
use Rattle.control_laws.proofs.Tried.{first_tried}
use Rattle.control_laws.proofs.Vps.{answers_are}
use Rattle.control_laws.proofs.Rounds.{Talk, GuestIn, HostIn, OnWay, on_way, last_heard, last_asked}
use Rattle.control_laws.proofs.Starts.{starts, starts_talk, some_answer, phase_small, pieces_few, guest_offers_in, guest_dials_in, guest_lists_in, guest_opens_in, guest_fills_in, host_dials_in, host_lists_in, host_opens_in, host_fills_in}
use Rattle.control_laws.proofs.Ends.{ends, ends_talk, guest_empties_in, guest_closes_in, guest_gives_in, guest_gives_sub_in, host_empties_in, host_closes_in, host_tears_in, host_takes_in}
use Rattle.control_laws.proofs.Saying.{guest_onward, host_onward, guest_then, host_then}

-- few messages are on their way: none where both are over, one at least where one isn't, and none to a side that is over
pub record Near (to_host to_guest : ℕ) (guest_over host_over : Bool) : Type 0 where
  pub few_to_host : to_host ≤ 32
  pub few_to_guest : to_guest ≤ 32
  pub host_waits : 1 ≤ to_host → host_over ≡ false
  pub guest_waits : 1 ≤ to_guest → guest_over ≡ false
  pub some : (guest_over && host_over) ≡ false → 1 ≤ to_host + to_guest

neither : (a b : ℕ) → (a ≤ 32) × (b ≤ 32) × (1 ≤ a + b) → Near a b false false
neither a b h = record { few_to_host = h.0; few_to_guest = h.1; host_waits = λ e. refl; guest_waits = λ e. refl; some = λ e. h.2 }

host_over : (a b : ℕ) → (a ≡ 0) × (1 ≤ b) × (b ≤ 32) → Near a b false true
host_over a b h = let none = h.0 in let one = h.1 in record { few_to_host = omega (arith, none); few_to_guest = h.2; host_waits = λ e. absurd (omega (arith, none, e)); guest_waits = λ e. refl; some = λ e. omega (arith, one) }

guest_over : (a b : ℕ) → (b ≡ 0) × (1 ≤ a) × (a ≤ 32) → Near a b true false
guest_over a b h = let none = h.0 in let one = h.1 in record { few_to_host = h.2; few_to_guest = omega (arith, none); host_waits = λ e. refl; guest_waits = λ e. absurd (omega (arith, none, e)); some = λ e. omega (arith, one) }

both_over : (a b : ℕ) → (a ≡ 0) × (b ≡ 0) → Near a b true true
both_over a b h = let none = h.0 in let empty = h.1 in record { few_to_host = omega (arith, none); few_to_guest = omega (arith, empty); host_waits = λ e. absurd (omega (arith, none, e)); guest_waits = λ e. absurd (omega (arith, empty, e)); some = λ e. absurd (cc) }

-- what both lists end with is as long
cancel : (xs ys zs : List Msg) (n : ℕ) → length (xs ++ zs) ≡ n + length (ys ++ zs) → length xs ≡ n + length ys
cancel xs ys zs n e = let first = length-append xs zs in let second = length-append ys zs in omega (arith, e, first, second)

-- of what both lists end with before that, too
cancel_both : (xs ms ys ns zs : List Msg) (n : ℕ) → length (xs ++ (ms ++ zs)) ≡ n + length (ys ++ (ns ++ zs)) → length xs + length ms ≡ n + (length ys + length ns)
cancel_both xs ms ys ns zs n e =
    omega (arith, e, length-append xs (ms ++ zs), length-append ms zs, length-append ys (ns ++ zs), length-append ns zs)

-- how many channels a phase moves: the guest says as many messages, and the host as many where it answers, and none otherwise
filter_few : (test : Opening → Bool) (os : List Opening) → length (filter test os) ≤ length os
filter_few test [] = omega arith
filter_few test (o ∷ os) = one (test o) (filter_few test os)
  where
    one : (b : Bool) → length (filter test os) ≤ length os → length (cond b (o ∷ filter test os) (filter test os)) ≤ suc (length os)
    one true few = omega (arith, few)
    one false few = omega (arith, few)

moved_few : (plan : BusPlan) (os : List Opening) → length (moved plan os) ≤ length os
moved_few plan os = one (has_modify (agreed plan))
  where
    one : (b : Bool) → length (if b then movers os else []) ≤ length os
    one true = filter_few (λ o. is_some o.vp) os
    one false = omega arith

record MovesAt (plan : BusPlan) (os : List Opening) : Type 0 where
  asked : length (guest_moves plan os) ≡ length (moved plan os)
  answered : length (host_moves plan os) ≤ length (moved plan os)
  few : length (moved plan os) ≤ 16

moves_at : (plan : BusPlan) (phase : ℕ) → IsPlan plan → phase < length plan.phases → MovesAt plan (phase_of plan phase)
moves_at plan phase planned less =
    let os : List Opening = phase_of plan phase in
    record {
      asked = length-map (moved plan os) (λ o. modify o.relid (vp_for o));
      answered = one (moved plan os) (answers_modify (agreed plan));
      few = omega (arith, phase_small plan phase planned less, moved_few plan os);
    }
  where
    one : (ms : List Opening) (b : Bool) → length (if b then map (λ o. modified o.relid) ms else []) ≤ length ms
    one ms true = let e = length-map ms (λ o. modified o.relid) in omega (arith, e)
    one ms false = omega arith

-- of them some are left from a place on: as many messages of the guest's, and where the host answers as many of its own
record LeftAt (plan : BusPlan) (os : List Opening) (place : ℕ) : Type 0 where
  less : place < length (moved plan os)
  asked : length (drop place (guest_moves plan os)) + place ≡ length (moved plan os)
  answered : length (drop place (host_moves plan os)) ≤ length (host_moves plan os) - place

left_from : (plan : BusPlan) (os done : List Opening) (o : Opening) (left : List Opening) (place : ℕ) → moved plan os ≡ done ++ o ∷ left → place ≡ length done → LeftAt plan os place
left_from plan os done o left place is at =
    let whole = ap length is in
    let both = length-append done (o ∷ left) in
    record {
      less = omega (arith, whole, both, at);
      asked = omega (arith, whole, both, at, (length-map (moved plan os) (λ o. modify o.relid (vp_for o))), length-drop place (guest_moves plan os));
      answered = omega (arith, length-drop place (host_moves plan os));
    }

-- where the host answers, it has as many answers left as there are channels
all_answered : (plan : BusPlan) (v : Version) (os : List Opening) (place : ℕ) → IsPlan plan → Agreed plan v → answers_modify v.0 ≡ true → LeftAt plan os place → length (drop place (host_moves plan os)) + place ≡ length (moved plan os)
all_answered plan v os place planned is answers here =
    let so : host_moves plan os ≡ map (λ (o : Opening). modified o.relid) (moved plan os) = ap (λ b. if b then map (λ (o : Opening). modified o.relid) (moved plan os) else []) (answers_are plan v planned is ∙ answers) in
    omega (arith, (ap length so ∙ length-map (moved plan os) (λ o. modified o.relid)), length-drop place (host_moves plan os), here.less)

-- both sides wait
both_wait : (a b : ℕ) → OnWay a b → Near a b false false
both_wait a b way = neither a b (way.few_to_host, way.few_to_guest, way.some)

-- at the start of a phase one side is done with its openings, or with all of it
module _ (os : List Opening) (a b : ℕ) (talk : Talk (starts os)) where
  asked_started : (plan : BusPlan) (s t : ℕ) → MovesAt plan os → GuestIn (starts os) s t → 0 ≡ a + (s + length (guest_moves plan os)) → t + length (host_moves plan os) ≡ b + 0 → Near a b false true
  asked_started plan s t has here e f =
      let last = last_heard (starts os) s t talk here (omega (arith, e)) in
      host_over a b (omega (arith, e), omega (arith, f, last.0), omega (arith, e, f, last.1, has.asked, has.answered))

  asked_moving : (plan : BusPlan) (j s t : ℕ) → MovesAt plan os → GuestIn (starts os) s t → LeftAt plan os j → 0 + length (drop j (guest_moves plan os)) ≡ a + (s + length (guest_moves plan os)) → t + length (host_moves plan os) ≡ b + (0 + length (drop j (host_moves plan os))) → Near a b false false
  asked_moving plan j s t has here there e f =
      let last = last_heard (starts os) s t talk here (omega (arith, e, there.asked, has.asked)) in
      let first : j ≡ 0 = omega (arith, e, there.asked, has.asked) in
      let whole : length (drop j (host_moves plan os)) ≡ length (host_moves plan os) = ap (λ n. length (drop n (host_moves plan os))) first in
      neither a b (omega (arith, e, there.asked, has.asked), omega (arith, f, whole, last.1), omega (arith, f, whole, last.0))

  moved_asked : (plan : BusPlan) (k s t : ℕ) → LeftAt plan os k → HostIn (starts os) s t → 0 + length (drop k (host_moves plan os)) ≡ b + (s + length (host_moves plan os)) → Near a b false false
  moved_asked plan k s t here there f = let some = some_answer os s t there in absurd (omega (arith, f, some, here.answered))

  started_asked : (said s t : ℕ) → HostIn (starts os) s t → 0 ≡ b + (s + said) → Near a b true false
  started_asked said s t there f = let some = some_answer os s t there in absurd (omega (arith, f, some))

  moved_moving : (plan : BusPlan) (k j : ℕ) → MovesAt plan os → LeftAt plan os k → LeftAt plan os j → 0 + length (drop j (guest_moves plan os)) ≡ a + 0 → 0 + length (drop k (host_moves plan os)) ≡ b + (0 + length (drop j (host_moves plan os))) → Near a b false false
  moved_moving plan k j has here there e f =
      neither a b (omega (arith, e, there.asked, has.few), omega (arith, f, here.answered, has.answered, has.few), omega (arith, e, there.asked, there.less))

  moved_started : (plan : BusPlan) (k : ℕ) → MovesAt plan os → LeftAt plan os k → 0 ≡ a + 0 → length (drop k (host_moves plan os)) + k ≡ length (moved plan os) → 0 + length (drop k (host_moves plan os)) ≡ b + 0 → Near a b false true
  moved_started plan k has here e all_answer f = host_over a b (omega (arith, e), omega (arith, f, all_answer, here.less), omega (arith, f, all_answer, has.few))

  started_moving : (plan : BusPlan) (j : ℕ) → MovesAt plan os → LeftAt plan os j → 0 + length (drop j (guest_moves plan os)) ≡ a + 0 → 0 ≡ b + (0 + length (drop j (host_moves plan os))) → Near a b true false
  started_moving plan j has there e f = guest_over a b (omega (arith, f), omega (arith, e, there.asked, there.less), omega (arith, e, there.asked, has.few))

-- at the end of a phase one side is done with all of it
in_ended : (os : List Opening) (a b s t : ℕ) → GuestIn (ends os) s t → 0 ≡ a + s → t ≡ b + 0 → Near a b false true
in_ended os a b s t here e f =
    let last = last_heard (ends os) s t (ends_talk os) here (omega (arith, e)) in
    host_over a b (omega (arith, e), omega (arith, f, last.0), omega (arith, f, last.1))

ended_in : (os : List Opening) (a b s t : ℕ) → HostIn (ends os) s t → t ≡ a + 0 → 0 ≡ b + s → Near a b true false
ended_in os a b s t there e f =
    let last = last_asked (ends os) s t (ends_talk os) there (omega (arith, f)) in
    guest_over a b (omega (arith, f), omega (arith, e, last.0), omega (arith, e, last.1))

-- the contact: as many versions are still to be tried as both know
record Lengths (plan : BusPlan) (tried : List ℕ) : Type 0 where
  guest_says : length (map propose (drop 1 tried) ++ request ∷ []) ≡ (length tried - 1) + 1
  host_says : length (map (answer_to plan) tried ++ (offers_from 1 plan.kinds ++ delivered ∷ [])) ≡ length tried + (length plan.kinds + 1)
  host_hears : length (map propose tried ++ request ∷ []) ≡ length tried + 1
  all : length (offers_from 1 plan.kinds ++ delivered ∷ []) ≡ length plan.kinds + 1

lengths : (plan : BusPlan) (tried : List ℕ) → Lengths plan tried
lengths plan tried =
    let a = length-append (map propose (drop 1 tried)) (request ∷ []) in
    let d = length-append (map (answer_to plan) tried) (offers_from 1 plan.kinds ++ delivered ∷ []) in
    let f = length-map tried (answer_to plan) in
    let g = length-append (offers_from 1 plan.kinds) (delivered ∷ []) in
    let h = offers_length 1 plan.kinds in
    let i = length-append (map propose tried) (request ∷ []) in
    let j = length-map tried propose in
    record { guest_says = omega (arith, a, length-map (drop 1 tried) propose, length-drop 1 tried); host_says = omega (arith, d, f, g, h); host_hears = omega (arith, i, j); all = omega (arith, g, h) }

offers_left : (plan : BusPlan) (n : ℕ) → length (offers_from (n + 1) (drop n plan.kinds) ++ delivered ∷ []) ≡ (length plan.kinds - n) + 1
offers_left plan n =
    omega (arith, length-append (offers_from (n + 1) (drop n plan.kinds)) (delivered ∷ []), offers_length (n + 1) (drop n plan.kinds), length-drop n plan.kinds)

some_tried : (plan : BusPlan) (v : Version) → IsPlan plan → Tries plan v → 1 ≤ length (versions_tried v.0 plan.host.0)
some_tried plan v planned tries = let first = ap length (first_tried plan v planned tries) in omega (arith, first)

module _ (plan : BusPlan) (planned : IsPlan plan) (a b : ℕ) where
  response_contact : (v u : Version) → Tries plan v → Tries plan u → length (map propose (versions_tried u.0 plan.host.0) ++ request ∷ []) ≡ a + length (map propose (drop 1 (versions_tried v.0 plan.host.0)) ++ request ∷ []) → length (map (answer_to plan) (versions_tried v.0 plan.host.0) ++ (offers_from 1 plan.kinds ++ delivered ∷ [])) ≡ b + length (map (answer_to plan) (versions_tried u.0 plan.host.0) ++ (offers_from 1 plan.kinds ++ delivered ∷ [])) → Near a b false false
  response_contact v u tries others e f =
      let here = lengths plan (versions_tried v.0 plan.host.0) in
      let some = some_tried plan v planned tries in
      let there = lengths plan (versions_tried u.0 plan.host.0) in
      let more = some_tried plan u planned others in
      neither a b (omega (arith, e, f, some, more, here.guest_says, here.host_says, here.host_hears, here.all, there.guest_says, there.host_says, there.host_hears, there.all), omega (arith, e, f, some, more, here.guest_says, here.host_says, here.host_hears, here.all, there.guest_says, there.host_says, there.host_hears, there.all), omega (arith, e, f, some, more, here.guest_says, here.host_says, here.host_hears, here.all, there.guest_says, there.host_says, there.host_hears, there.all))

  response_request : (v : Version) → Tries plan v → 1 ≡ a + length (map propose (drop 1 (versions_tried v.0 plan.host.0)) ++ request ∷ []) → length (map (answer_to plan) (versions_tried v.0 plan.host.0) ++ (offers_from 1 plan.kinds ++ delivered ∷ [])) ≡ b + length (offers_from 1 plan.kinds ++ delivered ∷ []) → Near a b false false
  response_request v tries e f =
      let here = lengths plan (versions_tried v.0 plan.host.0) in
      let some = some_tried plan v planned tries in
      neither a b (omega (arith, e, f, some, here.guest_says, here.host_says, here.host_hears, here.all), omega (arith, e, f, some, here.guest_says, here.host_says, here.host_hears, here.all), omega (arith, e, f, some, here.guest_says, here.host_says, here.host_hears, here.all))

  response_over : (v : Version) → Tries plan v → 0 ≡ a + length (map propose (drop 1 (versions_tried v.0 plan.host.0)) ++ request ∷ []) → length (map (answer_to plan) (versions_tried v.0 plan.host.0) ++ (offers_from 1 plan.kinds ++ delivered ∷ [])) ≡ b + 0 → Near a b false true
  response_over v tries e f =
      let here = lengths plan (versions_tried v.0 plan.host.0) in
      absurd (omega (arith, e, some_tried plan v planned tries, here.guest_says, here.host_says, here.host_hears, here.all))

  offers_contact : (n : ℕ) (u : Version) → Tries plan u → length (map propose (versions_tried u.0 plan.host.0) ++ request ∷ []) ≡ a + 0 → length (offers_from (n + 1) (drop n plan.kinds) ++ delivered ∷ []) ≡ b + length (map (answer_to plan) (versions_tried u.0 plan.host.0) ++ (offers_from 1 plan.kinds ++ delivered ∷ [])) → Near a b false false
  offers_contact n u others e f =
      let there = lengths plan (versions_tried u.0 plan.host.0) in
      absurd (omega (arith, e, f, some_tried plan u planned others, offers_left plan n, there.guest_says, there.host_says, there.host_hears, there.all))

  offers_request : (n : ℕ) → 1 ≡ a + 0 → length (offers_from (n + 1) (drop n plan.kinds) ++ delivered ∷ []) ≡ b + length (offers_from 1 plan.kinds ++ delivered ∷ []) → Near a b false false
  offers_request n e f =
      let left = offers_left plan n in
      let all = (lengths plan []).all in
      neither a b (omega (arith, e, f, left, all), omega (arith, e, f, left, all), omega (arith, e, f, left, all))

  offers_over : (n : ℕ) → 0 ≡ a + 0 → length (offers_from (n + 1) (drop n plan.kinds) ++ delivered ∷ []) ≡ b + 0 → Near a b false true
  offers_over n e f =
      let left = offers_left plan n in
      let few = planned.few in
      host_over a b (omega (arith, e, f, left, few), omega (arith, e, f, left, few), omega (arith, e, f, left, few))

  over_contact : (u : Version) → Tries plan u → length (map propose (versions_tried u.0 plan.host.0) ++ request ∷ []) ≡ a + 0 → 0 ≡ b + length (map (answer_to plan) (versions_tried u.0 plan.host.0) ++ (offers_from 1 plan.kinds ++ delivered ∷ [])) → Near a b true false
  over_contact u others e f =
      let there = lengths plan (versions_tried u.0 plan.host.0) in
      absurd (omega (arith, f, some_tried plan u planned others, there.guest_says, there.host_says, there.host_hears, there.all))

  over_request : (u : Version) → 1 ≡ a + 0 → 0 ≡ b + length (offers_from 1 plan.kinds ++ delivered ∷ []) → Near a b true false
  over_request u e f =
      absurd (omega (arith, f, (lengths plan []).all))

over_over : (a b n m : ℕ) → n ≡ a + n → m ≡ b + m → Near a b true true
over_over a b n m e f = both_over a b (omega (arith, e), omega (arith, f))

pub near : (plan : BusPlan) (part : Option Part) (awaits : GuestWait) (version : Option Version) (channels : List Channel) (waits : HostWait) (agreed : Option Version) (lives : List ChanState) (assembly : Assembly) (tried : List ℕ) (pieces : List Msg) (a b : ℕ) → IsPlan plan
    → GuestStands plan part awaits version channels → HostStands plan part waits agreed lives assembly tried pieces
    → length (host_to_hear plan part waits tried pieces) ≡ a + length (to_say plan part awaits) → length (to_hear plan part awaits (length channels)) ≡ b + length (host_to_say plan part waits tried)
    → Near a b (waits_for_nothing awaits) (host_waits_for_nothing waits)
near plan part awaits version channels waits agreed lives assembly tried pieces a b planned fresh IsFresh e f = over_over a b _ _ e f
near plan part awaits version channels waits agreed lives assembly tried pieces a b planned (proposes v tries) (IsAnswering u others) e f = response_contact plan planned a b v u tries others (cancel (host_contact_to_hear waits tried) (contact_to_say plan awaits) (guest_from plan 0) a e) (cancel (contact_to_hear plan awaits (length channels)) (host_contact_to_say plan waits tried) (host_from plan 0) b f)
near plan part awaits version channels waits agreed lives assembly tried pieces a b planned (proposes v tries) (IsAccepting u ours) e f = response_request plan planned a b v tries (cancel (host_contact_to_hear waits tried) (contact_to_say plan awaits) (guest_from plan 0) a e) (cancel (contact_to_hear plan awaits (length channels)) (host_contact_to_say plan waits tried) (host_from plan 0) b f)
near plan part awaits version channels waits agreed lives assembly tried pieces a b planned (proposes v tries) (IsContacted u ls ours) e f = response_over plan planned a b v tries (cancel (host_contact_to_hear waits tried) (contact_to_say plan awaits) (guest_from plan 0) a e) (cancel (contact_to_hear plan awaits (length channels)) (host_contact_to_say plan waits tried) (host_from plan 0) b f)
near plan part awaits version channels waits agreed lives assembly tried pieces a b planned (asks v n same few) (IsAnswering u others) e f = offers_contact plan planned a b (length (replicate n offered_channel)) u others (cancel (host_contact_to_hear waits tried) (contact_to_say plan awaits) (guest_from plan 0) a e) (cancel (contact_to_hear plan awaits (length channels)) (host_contact_to_say plan waits tried) (host_from plan 0) b f)
near plan part awaits version channels waits agreed lives assembly tried pieces a b planned (asks v n same few) (IsAccepting u ours) e f = offers_request plan planned a b (length (replicate n offered_channel)) (cancel (host_contact_to_hear waits tried) (contact_to_say plan awaits) (guest_from plan 0) a e) (cancel (contact_to_hear plan awaits (length channels)) (host_contact_to_say plan waits tried) (host_from plan 0) b f)
near plan part awaits version channels waits agreed lives assembly tried pieces a b planned (asks v n same few) (IsContacted u ls ours) e f = offers_over plan planned a b (length (replicate n offered_channel)) (cancel (host_contact_to_hear waits tried) (contact_to_say plan awaits) (guest_from plan 0) a e) (cancel (contact_to_hear plan awaits (length channels)) (host_contact_to_say plan waits tried) (host_from plan 0) b f)
near plan part awaits version channels waits agreed lives assembly tried pieces a b planned (contacted v cs meet) (IsAnswering u others) e f = over_contact plan planned a b u others (cancel (host_contact_to_hear waits tried) (contact_to_say plan awaits) (guest_from plan 0) a e) (cancel (contact_to_hear plan awaits (length channels)) (host_contact_to_say plan waits tried) (host_from plan 0) b f)
near plan part awaits version channels waits agreed lives assembly tried pieces a b planned (contacted v cs meet) (IsAccepting u ours) e f = over_request plan planned a b u (cancel (host_contact_to_hear waits tried) (contact_to_say plan awaits) (guest_from plan 0) a e) (cancel (contact_to_hear plan awaits (length channels)) (host_contact_to_say plan waits tried) (host_from plan 0) b f)
near plan part awaits version channels waits agreed lives assembly tried pieces a b planned (contacted v cs meet) (IsContacted u ls ours) e f = over_over a b _ _ e f
near plan part awaits version channels waits agreed lives assembly tried pieces a b planned (offers v cs phase k done first offered o left at is_first subs meet) (IsConnecting u ls phase2 j before p behind there asked2 ours) e f = both_wait a b (on_way (starts (phase_of plan phase)) a b _ _ _ _ (starts_talk plan phase planned at.in_plan) (guest_offers_in plan phase k done first offered o left planned at is_first subs) (host_dials_in plan phase j before p behind there asked2) (cancel (host_start_to_hear (phase_of plan phase) waits pieces) (start_to_say (phase_of plan phase) awaits) (guest_then plan phase) a e) (cancel (start_to_hear (phase_of plan phase) awaits) (host_start_to_say (phase_of plan phase) waits) (host_then plan phase) b f))
near plan part awaits version channels waits agreed lives assembly tried pieces a b planned (offers v cs phase k done first offered o left at is_first subs meet) (IsListing u ls phase2 j before p behind s m ms there ours list) e f = both_wait a b (on_way (starts (phase_of plan phase)) a b _ _ _ _ (starts_talk plan phase planned at.in_plan) (guest_offers_in plan phase k done first offered o left planned at is_first subs) (host_lists_in plan phase j before p behind there (m ∷ ms) (omega arith) (pieces_few (handles before) p.relid p.gpadl (pages_from p) s m ms list)) (cancel (host_start_to_hear (phase_of plan phase) waits pieces) (start_to_say (phase_of plan phase) awaits) (guest_then plan phase) a e) (cancel (start_to_hear (phase_of plan phase) awaits) (host_start_to_say (phase_of plan phase) waits) (host_then plan phase) b f))
near plan part awaits version channels waits agreed lives assembly tried pieces a b planned (offers v cs phase k done first offered o left at is_first subs meet) (IsListed u ls phase2 j before p behind there ours) e f = both_wait a b (on_way (starts (phase_of plan phase)) a b _ _ _ _ (starts_talk plan phase planned at.in_plan) (guest_offers_in plan phase k done first offered o left planned at is_first subs) (host_opens_in plan phase j before p behind there) (cancel (host_start_to_hear (phase_of plan phase) waits pieces) (start_to_say (phase_of plan phase) awaits) (guest_then plan phase) a e) (cancel (start_to_hear (phase_of plan phase) awaits) (host_start_to_say (phase_of plan phase) waits) (host_then plan phase) b f))
near plan part awaits version channels waits agreed lives assembly tried pieces a b planned (offers v cs phase k done first offered o left at is_first subs meet) (IsFilling u ls phase2 j before p behind h s m ms there has2 ours list) e f = both_wait a b (on_way (starts (phase_of plan phase)) a b _ _ _ _ (starts_talk plan phase planned at.in_plan) (guest_offers_in plan phase k done first offered o left planned at is_first subs) (host_fills_in plan phase j before p behind there h (m ∷ ms) planned has2 (omega arith) (pieces_few (handles before ++ lists_before p h) p.relid (buffer_list p h) (buffer_pages p h) s m ms list)) (cancel (host_start_to_hear (phase_of plan phase) waits pieces) (start_to_say (phase_of plan phase) awaits) (guest_then plan phase) a e) (cancel (start_to_hear (phase_of plan phase) awaits) (host_start_to_say (phase_of plan phase) waits) (host_then plan phase) b f))
near plan part awaits version channels waits agreed lives assembly tried pieces a b planned (offers v cs phase k done first offered o left at is_first subs meet) (IsMoving u ls phase2 j before p behind in_plan2 ms there ours) e f = asked_moving (phase_of plan phase) a b (starts_talk plan phase planned at.in_plan) plan j _ _ (moves_at plan phase planned at.in_plan) (guest_offers_in plan phase k done first offered o left planned at is_first subs) (left_from plan (phase_of plan phase) before p behind j ms there) (cancel_both (host_start_to_hear (phase_of plan phase) waits pieces) (host_moves_to_hear plan (phase_of plan phase) waits) (start_to_say (phase_of plan phase) awaits) (moves_to_say plan (phase_of plan phase) awaits) (guest_onward plan phase) a e) (cancel_both (start_to_hear (phase_of plan phase) awaits) (moves_to_hear plan (phase_of plan phase) awaits) (host_start_to_say (phase_of plan phase) waits) (host_moves_to_say plan (phase_of plan phase) waits) (host_onward plan phase) b f)
near plan part awaits version channels waits agreed lives assembly tried pieces a b planned (offers v cs phase k done first offered o left at is_first subs meet) (IsStarted u ls phase2 in_plan2 ours) e f = asked_started (phase_of plan phase) a b (starts_talk plan phase planned at.in_plan) plan _ _ (moves_at plan phase planned at.in_plan) (guest_offers_in plan phase k done first offered o left planned at is_first subs) (cancel_both (host_start_to_hear (phase_of plan phase) waits pieces) (host_moves_to_hear plan (phase_of plan phase) waits) (start_to_say (phase_of plan phase) awaits) (moves_to_say plan (phase_of plan phase) awaits) (guest_onward plan phase) a e) (cancel_both (start_to_hear (phase_of plan phase) awaits) (moves_to_hear plan (phase_of plan phase) awaits) (host_start_to_say (phase_of plan phase) waits) (host_moves_to_say plan (phase_of plan phase) waits) (host_onward plan phase) b f)
near plan part awaits version channels waits agreed lives assembly tried pieces a b planned (asks_for v cs phase k done o left at asked meet) (IsConnecting u ls phase2 j before p behind there asked2 ours) e f = both_wait a b (on_way (starts (phase_of plan phase)) a b _ _ _ _ (starts_talk plan phase planned at.in_plan) (guest_dials_in plan phase k done o left at asked) (host_dials_in plan phase j before p behind there asked2) (cancel (host_start_to_hear (phase_of plan phase) waits pieces) (start_to_say (phase_of plan phase) awaits) (guest_then plan phase) a e) (cancel (start_to_hear (phase_of plan phase) awaits) (host_start_to_say (phase_of plan phase) waits) (host_then plan phase) b f))
near plan part awaits version channels waits agreed lives assembly tried pieces a b planned (asks_for v cs phase k done o left at asked meet) (IsListing u ls phase2 j before p behind s m ms there ours list) e f = both_wait a b (on_way (starts (phase_of plan phase)) a b _ _ _ _ (starts_talk plan phase planned at.in_plan) (guest_dials_in plan phase k done o left at asked) (host_lists_in plan phase j before p behind there (m ∷ ms) (omega arith) (pieces_few (handles before) p.relid p.gpadl (pages_from p) s m ms list)) (cancel (host_start_to_hear (phase_of plan phase) waits pieces) (start_to_say (phase_of plan phase) awaits) (guest_then plan phase) a e) (cancel (start_to_hear (phase_of plan phase) awaits) (host_start_to_say (phase_of plan phase) waits) (host_then plan phase) b f))
near plan part awaits version channels waits agreed lives assembly tried pieces a b planned (asks_for v cs phase k done o left at asked meet) (IsListed u ls phase2 j before p behind there ours) e f = both_wait a b (on_way (starts (phase_of plan phase)) a b _ _ _ _ (starts_talk plan phase planned at.in_plan) (guest_dials_in plan phase k done o left at asked) (host_opens_in plan phase j before p behind there) (cancel (host_start_to_hear (phase_of plan phase) waits pieces) (start_to_say (phase_of plan phase) awaits) (guest_then plan phase) a e) (cancel (start_to_hear (phase_of plan phase) awaits) (host_start_to_say (phase_of plan phase) waits) (host_then plan phase) b f))
near plan part awaits version channels waits agreed lives assembly tried pieces a b planned (asks_for v cs phase k done o left at asked meet) (IsFilling u ls phase2 j before p behind h s m ms there has2 ours list) e f = both_wait a b (on_way (starts (phase_of plan phase)) a b _ _ _ _ (starts_talk plan phase planned at.in_plan) (guest_dials_in plan phase k done o left at asked) (host_fills_in plan phase j before p behind there h (m ∷ ms) planned has2 (omega arith) (pieces_few (handles before ++ lists_before p h) p.relid (buffer_list p h) (buffer_pages p h) s m ms list)) (cancel (host_start_to_hear (phase_of plan phase) waits pieces) (start_to_say (phase_of plan phase) awaits) (guest_then plan phase) a e) (cancel (start_to_hear (phase_of plan phase) awaits) (host_start_to_say (phase_of plan phase) waits) (host_then plan phase) b f))
near plan part awaits version channels waits agreed lives assembly tried pieces a b planned (asks_for v cs phase k done o left at asked meet) (IsMoving u ls phase2 j before p behind in_plan2 ms there ours) e f = asked_moving (phase_of plan phase) a b (starts_talk plan phase planned at.in_plan) plan j _ _ (moves_at plan phase planned at.in_plan) (guest_dials_in plan phase k done o left at asked) (left_from plan (phase_of plan phase) before p behind j ms there) (cancel_both (host_start_to_hear (phase_of plan phase) waits pieces) (host_moves_to_hear plan (phase_of plan phase) waits) (start_to_say (phase_of plan phase) awaits) (moves_to_say plan (phase_of plan phase) awaits) (guest_onward plan phase) a e) (cancel_both (start_to_hear (phase_of plan phase) awaits) (moves_to_hear plan (phase_of plan phase) awaits) (host_start_to_say (phase_of plan phase) waits) (host_moves_to_say plan (phase_of plan phase) waits) (host_onward plan phase) b f)
near plan part awaits version channels waits agreed lives assembly tried pieces a b planned (asks_for v cs phase k done o left at asked meet) (IsStarted u ls phase2 in_plan2 ours) e f = asked_started (phase_of plan phase) a b (starts_talk plan phase planned at.in_plan) plan _ _ (moves_at plan phase planned at.in_plan) (guest_dials_in plan phase k done o left at asked) (cancel_both (host_start_to_hear (phase_of plan phase) waits pieces) (host_moves_to_hear plan (phase_of plan phase) waits) (start_to_say (phase_of plan phase) awaits) (moves_to_say plan (phase_of plan phase) awaits) (guest_onward plan phase) a e) (cancel_both (start_to_hear (phase_of plan phase) awaits) (moves_to_hear plan (phase_of plan phase) awaits) (host_start_to_say (phase_of plan phase) waits) (host_moves_to_say plan (phase_of plan phase) waits) (host_onward plan phase) b f)
near plan part awaits version channels waits agreed lives assembly tried pieces a b planned (lists v cs phase k done o left at meet) (IsConnecting u ls phase2 j before p behind there asked2 ours) e f = both_wait a b (on_way (starts (phase_of plan phase)) a b _ _ _ _ (starts_talk plan phase planned at.in_plan) (guest_lists_in plan phase k done o left at) (host_dials_in plan phase j before p behind there asked2) (cancel (host_start_to_hear (phase_of plan phase) waits pieces) (start_to_say (phase_of plan phase) awaits) (guest_then plan phase) a e) (cancel (start_to_hear (phase_of plan phase) awaits) (host_start_to_say (phase_of plan phase) waits) (host_then plan phase) b f))
near plan part awaits version channels waits agreed lives assembly tried pieces a b planned (lists v cs phase k done o left at meet) (IsListing u ls phase2 j before p behind s m ms there ours list) e f = both_wait a b (on_way (starts (phase_of plan phase)) a b _ _ _ _ (starts_talk plan phase planned at.in_plan) (guest_lists_in plan phase k done o left at) (host_lists_in plan phase j before p behind there (m ∷ ms) (omega arith) (pieces_few (handles before) p.relid p.gpadl (pages_from p) s m ms list)) (cancel (host_start_to_hear (phase_of plan phase) waits pieces) (start_to_say (phase_of plan phase) awaits) (guest_then plan phase) a e) (cancel (start_to_hear (phase_of plan phase) awaits) (host_start_to_say (phase_of plan phase) waits) (host_then plan phase) b f))
near plan part awaits version channels waits agreed lives assembly tried pieces a b planned (lists v cs phase k done o left at meet) (IsListed u ls phase2 j before p behind there ours) e f = both_wait a b (on_way (starts (phase_of plan phase)) a b _ _ _ _ (starts_talk plan phase planned at.in_plan) (guest_lists_in plan phase k done o left at) (host_opens_in plan phase j before p behind there) (cancel (host_start_to_hear (phase_of plan phase) waits pieces) (start_to_say (phase_of plan phase) awaits) (guest_then plan phase) a e) (cancel (start_to_hear (phase_of plan phase) awaits) (host_start_to_say (phase_of plan phase) waits) (host_then plan phase) b f))
near plan part awaits version channels waits agreed lives assembly tried pieces a b planned (lists v cs phase k done o left at meet) (IsFilling u ls phase2 j before p behind h s m ms there has2 ours list) e f = both_wait a b (on_way (starts (phase_of plan phase)) a b _ _ _ _ (starts_talk plan phase planned at.in_plan) (guest_lists_in plan phase k done o left at) (host_fills_in plan phase j before p behind there h (m ∷ ms) planned has2 (omega arith) (pieces_few (handles before ++ lists_before p h) p.relid (buffer_list p h) (buffer_pages p h) s m ms list)) (cancel (host_start_to_hear (phase_of plan phase) waits pieces) (start_to_say (phase_of plan phase) awaits) (guest_then plan phase) a e) (cancel (start_to_hear (phase_of plan phase) awaits) (host_start_to_say (phase_of plan phase) waits) (host_then plan phase) b f))
near plan part awaits version channels waits agreed lives assembly tried pieces a b planned (lists v cs phase k done o left at meet) (IsMoving u ls phase2 j before p behind in_plan2 ms there ours) e f = asked_moving (phase_of plan phase) a b (starts_talk plan phase planned at.in_plan) plan j _ _ (moves_at plan phase planned at.in_plan) (guest_lists_in plan phase k done o left at) (left_from plan (phase_of plan phase) before p behind j ms there) (cancel_both (host_start_to_hear (phase_of plan phase) waits pieces) (host_moves_to_hear plan (phase_of plan phase) waits) (start_to_say (phase_of plan phase) awaits) (moves_to_say plan (phase_of plan phase) awaits) (guest_onward plan phase) a e) (cancel_both (start_to_hear (phase_of plan phase) awaits) (moves_to_hear plan (phase_of plan phase) awaits) (host_start_to_say (phase_of plan phase) waits) (host_moves_to_say plan (phase_of plan phase) waits) (host_onward plan phase) b f)
near plan part awaits version channels waits agreed lives assembly tried pieces a b planned (lists v cs phase k done o left at meet) (IsStarted u ls phase2 in_plan2 ours) e f = asked_started (phase_of plan phase) a b (starts_talk plan phase planned at.in_plan) plan _ _ (moves_at plan phase planned at.in_plan) (guest_lists_in plan phase k done o left at) (cancel_both (host_start_to_hear (phase_of plan phase) waits pieces) (host_moves_to_hear plan (phase_of plan phase) waits) (start_to_say (phase_of plan phase) awaits) (moves_to_say plan (phase_of plan phase) awaits) (guest_onward plan phase) a e) (cancel_both (start_to_hear (phase_of plan phase) awaits) (moves_to_hear plan (phase_of plan phase) awaits) (host_start_to_say (phase_of plan phase) waits) (host_moves_to_say plan (phase_of plan phase) waits) (host_onward plan phase) b f)
near plan part awaits version channels waits agreed lives assembly tried pieces a b planned (opens v cs phase k done o left at meet) (IsConnecting u ls phase2 j before p behind there asked2 ours) e f = both_wait a b (on_way (starts (phase_of plan phase)) a b _ _ _ _ (starts_talk plan phase planned at.in_plan) (guest_opens_in plan phase k done o left at) (host_dials_in plan phase j before p behind there asked2) (cancel (host_start_to_hear (phase_of plan phase) waits pieces) (start_to_say (phase_of plan phase) awaits) (guest_then plan phase) a e) (cancel (start_to_hear (phase_of plan phase) awaits) (host_start_to_say (phase_of plan phase) waits) (host_then plan phase) b f))
near plan part awaits version channels waits agreed lives assembly tried pieces a b planned (opens v cs phase k done o left at meet) (IsListing u ls phase2 j before p behind s m ms there ours list) e f = both_wait a b (on_way (starts (phase_of plan phase)) a b _ _ _ _ (starts_talk plan phase planned at.in_plan) (guest_opens_in plan phase k done o left at) (host_lists_in plan phase j before p behind there (m ∷ ms) (omega arith) (pieces_few (handles before) p.relid p.gpadl (pages_from p) s m ms list)) (cancel (host_start_to_hear (phase_of plan phase) waits pieces) (start_to_say (phase_of plan phase) awaits) (guest_then plan phase) a e) (cancel (start_to_hear (phase_of plan phase) awaits) (host_start_to_say (phase_of plan phase) waits) (host_then plan phase) b f))
near plan part awaits version channels waits agreed lives assembly tried pieces a b planned (opens v cs phase k done o left at meet) (IsListed u ls phase2 j before p behind there ours) e f = both_wait a b (on_way (starts (phase_of plan phase)) a b _ _ _ _ (starts_talk plan phase planned at.in_plan) (guest_opens_in plan phase k done o left at) (host_opens_in plan phase j before p behind there) (cancel (host_start_to_hear (phase_of plan phase) waits pieces) (start_to_say (phase_of plan phase) awaits) (guest_then plan phase) a e) (cancel (start_to_hear (phase_of plan phase) awaits) (host_start_to_say (phase_of plan phase) waits) (host_then plan phase) b f))
near plan part awaits version channels waits agreed lives assembly tried pieces a b planned (opens v cs phase k done o left at meet) (IsFilling u ls phase2 j before p behind h s m ms there has2 ours list) e f = both_wait a b (on_way (starts (phase_of plan phase)) a b _ _ _ _ (starts_talk plan phase planned at.in_plan) (guest_opens_in plan phase k done o left at) (host_fills_in plan phase j before p behind there h (m ∷ ms) planned has2 (omega arith) (pieces_few (handles before ++ lists_before p h) p.relid (buffer_list p h) (buffer_pages p h) s m ms list)) (cancel (host_start_to_hear (phase_of plan phase) waits pieces) (start_to_say (phase_of plan phase) awaits) (guest_then plan phase) a e) (cancel (start_to_hear (phase_of plan phase) awaits) (host_start_to_say (phase_of plan phase) waits) (host_then plan phase) b f))
near plan part awaits version channels waits agreed lives assembly tried pieces a b planned (opens v cs phase k done o left at meet) (IsMoving u ls phase2 j before p behind in_plan2 ms there ours) e f = asked_moving (phase_of plan phase) a b (starts_talk plan phase planned at.in_plan) plan j _ _ (moves_at plan phase planned at.in_plan) (guest_opens_in plan phase k done o left at) (left_from plan (phase_of plan phase) before p behind j ms there) (cancel_both (host_start_to_hear (phase_of plan phase) waits pieces) (host_moves_to_hear plan (phase_of plan phase) waits) (start_to_say (phase_of plan phase) awaits) (moves_to_say plan (phase_of plan phase) awaits) (guest_onward plan phase) a e) (cancel_both (start_to_hear (phase_of plan phase) awaits) (moves_to_hear plan (phase_of plan phase) awaits) (host_start_to_say (phase_of plan phase) waits) (host_moves_to_say plan (phase_of plan phase) waits) (host_onward plan phase) b f)
near plan part awaits version channels waits agreed lives assembly tried pieces a b planned (opens v cs phase k done o left at meet) (IsStarted u ls phase2 in_plan2 ours) e f = asked_started (phase_of plan phase) a b (starts_talk plan phase planned at.in_plan) plan _ _ (moves_at plan phase planned at.in_plan) (guest_opens_in plan phase k done o left at) (cancel_both (host_start_to_hear (phase_of plan phase) waits pieces) (host_moves_to_hear plan (phase_of plan phase) waits) (start_to_say (phase_of plan phase) awaits) (moves_to_say plan (phase_of plan phase) awaits) (guest_onward plan phase) a e) (cancel_both (start_to_hear (phase_of plan phase) awaits) (moves_to_hear plan (phase_of plan phase) awaits) (host_start_to_say (phase_of plan phase) waits) (host_moves_to_say plan (phase_of plan phase) waits) (host_onward plan phase) b f)
near plan part awaits version channels waits agreed lives assembly tried pieces a b planned (fills v cs phase k done o left l at has meet) (IsConnecting u ls phase2 j before p behind there asked2 ours) e f = both_wait a b (on_way (starts (phase_of plan phase)) a b _ _ _ _ (starts_talk plan phase planned at.in_plan) (guest_fills_in plan phase k done o left at l planned has) (host_dials_in plan phase j before p behind there asked2) (cancel (host_start_to_hear (phase_of plan phase) waits pieces) (start_to_say (phase_of plan phase) awaits) (guest_then plan phase) a e) (cancel (start_to_hear (phase_of plan phase) awaits) (host_start_to_say (phase_of plan phase) waits) (host_then plan phase) b f))
near plan part awaits version channels waits agreed lives assembly tried pieces a b planned (fills v cs phase k done o left l at has meet) (IsListing u ls phase2 j before p behind s m ms there ours list) e f = both_wait a b (on_way (starts (phase_of plan phase)) a b _ _ _ _ (starts_talk plan phase planned at.in_plan) (guest_fills_in plan phase k done o left at l planned has) (host_lists_in plan phase j before p behind there (m ∷ ms) (omega arith) (pieces_few (handles before) p.relid p.gpadl (pages_from p) s m ms list)) (cancel (host_start_to_hear (phase_of plan phase) waits pieces) (start_to_say (phase_of plan phase) awaits) (guest_then plan phase) a e) (cancel (start_to_hear (phase_of plan phase) awaits) (host_start_to_say (phase_of plan phase) waits) (host_then plan phase) b f))
near plan part awaits version channels waits agreed lives assembly tried pieces a b planned (fills v cs phase k done o left l at has meet) (IsListed u ls phase2 j before p behind there ours) e f = both_wait a b (on_way (starts (phase_of plan phase)) a b _ _ _ _ (starts_talk plan phase planned at.in_plan) (guest_fills_in plan phase k done o left at l planned has) (host_opens_in plan phase j before p behind there) (cancel (host_start_to_hear (phase_of plan phase) waits pieces) (start_to_say (phase_of plan phase) awaits) (guest_then plan phase) a e) (cancel (start_to_hear (phase_of plan phase) awaits) (host_start_to_say (phase_of plan phase) waits) (host_then plan phase) b f))
near plan part awaits version channels waits agreed lives assembly tried pieces a b planned (fills v cs phase k done o left l at has meet) (IsFilling u ls phase2 j before p behind h s m ms there has2 ours list) e f = both_wait a b (on_way (starts (phase_of plan phase)) a b _ _ _ _ (starts_talk plan phase planned at.in_plan) (guest_fills_in plan phase k done o left at l planned has) (host_fills_in plan phase j before p behind there h (m ∷ ms) planned has2 (omega arith) (pieces_few (handles before ++ lists_before p h) p.relid (buffer_list p h) (buffer_pages p h) s m ms list)) (cancel (host_start_to_hear (phase_of plan phase) waits pieces) (start_to_say (phase_of plan phase) awaits) (guest_then plan phase) a e) (cancel (start_to_hear (phase_of plan phase) awaits) (host_start_to_say (phase_of plan phase) waits) (host_then plan phase) b f))
near plan part awaits version channels waits agreed lives assembly tried pieces a b planned (fills v cs phase k done o left l at has meet) (IsMoving u ls phase2 j before p behind in_plan2 ms there ours) e f = asked_moving (phase_of plan phase) a b (starts_talk plan phase planned at.in_plan) plan j _ _ (moves_at plan phase planned at.in_plan) (guest_fills_in plan phase k done o left at l planned has) (left_from plan (phase_of plan phase) before p behind j ms there) (cancel_both (host_start_to_hear (phase_of plan phase) waits pieces) (host_moves_to_hear plan (phase_of plan phase) waits) (start_to_say (phase_of plan phase) awaits) (moves_to_say plan (phase_of plan phase) awaits) (guest_onward plan phase) a e) (cancel_both (start_to_hear (phase_of plan phase) awaits) (moves_to_hear plan (phase_of plan phase) awaits) (host_start_to_say (phase_of plan phase) waits) (host_moves_to_say plan (phase_of plan phase) waits) (host_onward plan phase) b f)
near plan part awaits version channels waits agreed lives assembly tried pieces a b planned (fills v cs phase k done o left l at has meet) (IsStarted u ls phase2 in_plan2 ours) e f = asked_started (phase_of plan phase) a b (starts_talk plan phase planned at.in_plan) plan _ _ (moves_at plan phase planned at.in_plan) (guest_fills_in plan phase k done o left at l planned has) (cancel_both (host_start_to_hear (phase_of plan phase) waits pieces) (host_moves_to_hear plan (phase_of plan phase) waits) (start_to_say (phase_of plan phase) awaits) (moves_to_say plan (phase_of plan phase) awaits) (guest_onward plan phase) a e) (cancel_both (start_to_hear (phase_of plan phase) awaits) (moves_to_hear plan (phase_of plan phase) awaits) (host_start_to_say (phase_of plan phase) waits) (host_moves_to_say plan (phase_of plan phase) waits) (host_onward plan phase) b f)
near plan part awaits version channels waits agreed lives assembly tried pieces a b planned (moves v cs phase k done o left in_plan is at answers meet) (IsConnecting u ls phase2 j before p behind there asked2 ours) e f = moved_asked (phase_of plan phase) a b (starts_talk plan phase planned in_plan) plan k _ _ (left_from plan (phase_of plan phase) done o left k is at) (host_dials_in plan phase j before p behind there asked2) (cancel_both (start_to_hear (phase_of plan phase) awaits) (moves_to_hear plan (phase_of plan phase) awaits) (host_start_to_say (phase_of plan phase) waits) (host_moves_to_say plan (phase_of plan phase) waits) (host_onward plan phase) b f)
near plan part awaits version channels waits agreed lives assembly tried pieces a b planned (moves v cs phase k done o left in_plan is at answers meet) (IsListing u ls phase2 j before p behind s m ms there ours list) e f = moved_asked (phase_of plan phase) a b (starts_talk plan phase planned in_plan) plan k _ _ (left_from plan (phase_of plan phase) done o left k is at) (host_lists_in plan phase j before p behind there (m ∷ ms) (omega arith) (pieces_few (handles before) p.relid p.gpadl (pages_from p) s m ms list)) (cancel_both (start_to_hear (phase_of plan phase) awaits) (moves_to_hear plan (phase_of plan phase) awaits) (host_start_to_say (phase_of plan phase) waits) (host_moves_to_say plan (phase_of plan phase) waits) (host_onward plan phase) b f)
near plan part awaits version channels waits agreed lives assembly tried pieces a b planned (moves v cs phase k done o left in_plan is at answers meet) (IsListed u ls phase2 j before p behind there ours) e f = moved_asked (phase_of plan phase) a b (starts_talk plan phase planned in_plan) plan k _ _ (left_from plan (phase_of plan phase) done o left k is at) (host_opens_in plan phase j before p behind there) (cancel_both (start_to_hear (phase_of plan phase) awaits) (moves_to_hear plan (phase_of plan phase) awaits) (host_start_to_say (phase_of plan phase) waits) (host_moves_to_say plan (phase_of plan phase) waits) (host_onward plan phase) b f)
near plan part awaits version channels waits agreed lives assembly tried pieces a b planned (moves v cs phase k done o left in_plan is at answers meet) (IsFilling u ls phase2 j before p behind h s m ms there has2 ours list) e f = moved_asked (phase_of plan phase) a b (starts_talk plan phase planned in_plan) plan k _ _ (left_from plan (phase_of plan phase) done o left k is at) (host_fills_in plan phase j before p behind there h (m ∷ ms) planned has2 (omega arith) (pieces_few (handles before ++ lists_before p h) p.relid (buffer_list p h) (buffer_pages p h) s m ms list)) (cancel_both (start_to_hear (phase_of plan phase) awaits) (moves_to_hear plan (phase_of plan phase) awaits) (host_start_to_say (phase_of plan phase) waits) (host_moves_to_say plan (phase_of plan phase) waits) (host_onward plan phase) b f)
near plan part awaits version channels waits agreed lives assembly tried pieces a b planned (moves v cs phase k done o left in_plan is at answers meet) (IsMoving u ls phase2 j before p behind in_plan2 ms there ours) e f = moved_moving (phase_of plan phase) a b (starts_talk plan phase planned in_plan) plan k j (moves_at plan phase planned in_plan) (left_from plan (phase_of plan phase) done o left k is at) (left_from plan (phase_of plan phase) before p behind j ms there) (cancel_both (host_start_to_hear (phase_of plan phase) waits pieces) (host_moves_to_hear plan (phase_of plan phase) waits) (start_to_say (phase_of plan phase) awaits) (moves_to_say plan (phase_of plan phase) awaits) (guest_onward plan phase) a e) (cancel_both (start_to_hear (phase_of plan phase) awaits) (moves_to_hear plan (phase_of plan phase) awaits) (host_start_to_say (phase_of plan phase) waits) (host_moves_to_say plan (phase_of plan phase) waits) (host_onward plan phase) b f)
near plan part awaits version channels waits agreed lives assembly tried pieces a b planned (moves v cs phase k done o left in_plan is at answers meet) (IsStarted u ls phase2 in_plan2 ours) e f = moved_started (phase_of plan phase) a b (starts_talk plan phase planned in_plan) plan k (moves_at plan phase planned in_plan) (left_from plan (phase_of plan phase) done o left k is at) (cancel_both (host_start_to_hear (phase_of plan phase) waits pieces) (host_moves_to_hear plan (phase_of plan phase) waits) (start_to_say (phase_of plan phase) awaits) (moves_to_say plan (phase_of plan phase) awaits) (guest_onward plan phase) a e) (all_answered plan v (phase_of plan phase) k planned meet.agreed answers (left_from plan (phase_of plan phase) done o left k is at)) (cancel_both (start_to_hear (phase_of plan phase) awaits) (moves_to_hear plan (phase_of plan phase) awaits) (host_start_to_say (phase_of plan phase) waits) (host_moves_to_say plan (phase_of plan phase) waits) (host_onward plan phase) b f)
near plan part awaits version channels waits agreed lives assembly tried pieces a b planned (started v cs phase in_plan meet) (IsConnecting u ls phase2 j before p behind there asked2 ours) e f = started_asked (phase_of plan phase) a b (starts_talk plan phase planned in_plan) _ _ _ (host_dials_in plan phase j before p behind there asked2) (cancel_both (start_to_hear (phase_of plan phase) awaits) (moves_to_hear plan (phase_of plan phase) awaits) (host_start_to_say (phase_of plan phase) waits) (host_moves_to_say plan (phase_of plan phase) waits) (host_onward plan phase) b f)
near plan part awaits version channels waits agreed lives assembly tried pieces a b planned (started v cs phase in_plan meet) (IsListing u ls phase2 j before p behind s m ms there ours list) e f = started_asked (phase_of plan phase) a b (starts_talk plan phase planned in_plan) _ _ _ (host_lists_in plan phase j before p behind there (m ∷ ms) (omega arith) (pieces_few (handles before) p.relid p.gpadl (pages_from p) s m ms list)) (cancel_both (start_to_hear (phase_of plan phase) awaits) (moves_to_hear plan (phase_of plan phase) awaits) (host_start_to_say (phase_of plan phase) waits) (host_moves_to_say plan (phase_of plan phase) waits) (host_onward plan phase) b f)
near plan part awaits version channels waits agreed lives assembly tried pieces a b planned (started v cs phase in_plan meet) (IsListed u ls phase2 j before p behind there ours) e f = started_asked (phase_of plan phase) a b (starts_talk plan phase planned in_plan) _ _ _ (host_opens_in plan phase j before p behind there) (cancel_both (start_to_hear (phase_of plan phase) awaits) (moves_to_hear plan (phase_of plan phase) awaits) (host_start_to_say (phase_of plan phase) waits) (host_moves_to_say plan (phase_of plan phase) waits) (host_onward plan phase) b f)
near plan part awaits version channels waits agreed lives assembly tried pieces a b planned (started v cs phase in_plan meet) (IsFilling u ls phase2 j before p behind h s m ms there has2 ours list) e f = started_asked (phase_of plan phase) a b (starts_talk plan phase planned in_plan) _ _ _ (host_fills_in plan phase j before p behind there h (m ∷ ms) planned has2 (omega arith) (pieces_few (handles before ++ lists_before p h) p.relid (buffer_list p h) (buffer_pages p h) s m ms list)) (cancel_both (start_to_hear (phase_of plan phase) awaits) (moves_to_hear plan (phase_of plan phase) awaits) (host_start_to_say (phase_of plan phase) waits) (host_moves_to_say plan (phase_of plan phase) waits) (host_onward plan phase) b f)
near plan part awaits version channels waits agreed lives assembly tried pieces a b planned (started v cs phase in_plan meet) (IsMoving u ls phase2 j before p behind in_plan2 ms there ours) e f = started_moving (phase_of plan phase) a b (starts_talk plan phase planned in_plan) plan j (moves_at plan phase planned in_plan) (left_from plan (phase_of plan phase) before p behind j ms there) (cancel_both (host_start_to_hear (phase_of plan phase) waits pieces) (host_moves_to_hear plan (phase_of plan phase) waits) (start_to_say (phase_of plan phase) awaits) (moves_to_say plan (phase_of plan phase) awaits) (guest_onward plan phase) a e) (cancel_both (start_to_hear (phase_of plan phase) awaits) (moves_to_hear plan (phase_of plan phase) awaits) (host_start_to_say (phase_of plan phase) waits) (host_moves_to_say plan (phase_of plan phase) waits) (host_onward plan phase) b f)
near plan part awaits version channels waits agreed lives assembly tried pieces a b planned (started v cs phase in_plan meet) (IsStarted u ls phase2 in_plan2 ours) e f = over_over a b _ _ e f
near plan part awaits version channels waits agreed lives assembly tried pieces a b planned (empties v cs phase k done o left l at closed has meet) (IsEmptying u ls phase2 j before p behind h there other has2 ours) e f = both_wait a b (on_way (ends (closing_of plan phase)) a b _ _ _ _ (ends_talk (closing_of plan phase)) (guest_empties_in plan phase k done o left at l closed has) (host_empties_in plan phase j before p behind there h other has2) (cancel (host_end_to_hear (closing_of plan phase) waits) (end_to_say (closing_of plan phase) awaits) (guest_from plan (suc phase)) a e) (cancel (end_to_hear (closing_of plan phase) awaits) (host_end_to_say (closing_of plan phase) waits) (host_from plan (suc phase)) b f))
near plan part awaits version channels waits agreed lives assembly tried pieces a b planned (empties v cs phase k done o left l at closed has meet) (IsClosing u ls phase2 j before p behind there other ours) e f = both_wait a b (on_way (ends (closing_of plan phase)) a b _ _ _ _ (ends_talk (closing_of plan phase)) (guest_empties_in plan phase k done o left at l closed has) (host_closes_in plan phase j before p behind there other) (cancel (host_end_to_hear (closing_of plan phase) waits) (end_to_say (closing_of plan phase) awaits) (guest_from plan (suc phase)) a e) (cancel (end_to_hear (closing_of plan phase) awaits) (host_end_to_say (closing_of plan phase) waits) (host_from plan (suc phase)) b f))
near plan part awaits version channels waits agreed lives assembly tried pieces a b planned (empties v cs phase k done o left l at closed has meet) (IsTearing u ls phase2 j before p behind there other ours) e f = both_wait a b (on_way (ends (closing_of plan phase)) a b _ _ _ _ (ends_talk (closing_of plan phase)) (guest_empties_in plan phase k done o left at l closed has) (host_tears_in plan phase j before p behind there other) (cancel (host_end_to_hear (closing_of plan phase) waits) (end_to_say (closing_of plan phase) awaits) (guest_from plan (suc phase)) a e) (cancel (end_to_hear (closing_of plan phase) awaits) (host_end_to_say (closing_of plan phase) waits) (host_from plan (suc phase)) b f))
near plan part awaits version channels waits agreed lives assembly tried pieces a b planned (empties v cs phase k done o left l at closed has meet) (IsTakingBack u ls phase2 j before p behind there given ours) e f = both_wait a b (on_way (ends (closing_of plan phase)) a b _ _ _ _ (ends_talk (closing_of plan phase)) (guest_empties_in plan phase k done o left at l closed has) (host_takes_in plan phase j before p behind there given) (cancel (host_end_to_hear (closing_of plan phase) waits) (end_to_say (closing_of plan phase) awaits) (guest_from plan (suc phase)) a e) (cancel (end_to_hear (closing_of plan phase) awaits) (host_end_to_say (closing_of plan phase) waits) (host_from plan (suc phase)) b f))
near plan part awaits version channels waits agreed lives assembly tried pieces a b planned (empties v cs phase k done o left l at closed has meet) (IsEnded u ls phase2 in_plan2 ours) e f = in_ended (closing_of plan phase) a b _ _ (guest_empties_in plan phase k done o left at l closed has) (cancel (host_end_to_hear (closing_of plan phase) waits) (end_to_say (closing_of plan phase) awaits) (guest_from plan (suc phase)) a e) (cancel (end_to_hear (closing_of plan phase) awaits) (host_end_to_say (closing_of plan phase) waits) (host_from plan (suc phase)) b f)
near plan part awaits version channels waits agreed lives assembly tried pieces a b planned (closes v cs phase k done o left at closed meet) (IsEmptying u ls phase2 j before p behind h there other has2 ours) e f = both_wait a b (on_way (ends (closing_of plan phase)) a b _ _ _ _ (ends_talk (closing_of plan phase)) (guest_closes_in plan phase k done o left at closed) (host_empties_in plan phase j before p behind there h other has2) (cancel (host_end_to_hear (closing_of plan phase) waits) (end_to_say (closing_of plan phase) awaits) (guest_from plan (suc phase)) a e) (cancel (end_to_hear (closing_of plan phase) awaits) (host_end_to_say (closing_of plan phase) waits) (host_from plan (suc phase)) b f))
near plan part awaits version channels waits agreed lives assembly tried pieces a b planned (closes v cs phase k done o left at closed meet) (IsClosing u ls phase2 j before p behind there other ours) e f = both_wait a b (on_way (ends (closing_of plan phase)) a b _ _ _ _ (ends_talk (closing_of plan phase)) (guest_closes_in plan phase k done o left at closed) (host_closes_in plan phase j before p behind there other) (cancel (host_end_to_hear (closing_of plan phase) waits) (end_to_say (closing_of plan phase) awaits) (guest_from plan (suc phase)) a e) (cancel (end_to_hear (closing_of plan phase) awaits) (host_end_to_say (closing_of plan phase) waits) (host_from plan (suc phase)) b f))
near plan part awaits version channels waits agreed lives assembly tried pieces a b planned (closes v cs phase k done o left at closed meet) (IsTearing u ls phase2 j before p behind there other ours) e f = both_wait a b (on_way (ends (closing_of plan phase)) a b _ _ _ _ (ends_talk (closing_of plan phase)) (guest_closes_in plan phase k done o left at closed) (host_tears_in plan phase j before p behind there other) (cancel (host_end_to_hear (closing_of plan phase) waits) (end_to_say (closing_of plan phase) awaits) (guest_from plan (suc phase)) a e) (cancel (end_to_hear (closing_of plan phase) awaits) (host_end_to_say (closing_of plan phase) waits) (host_from plan (suc phase)) b f))
near plan part awaits version channels waits agreed lives assembly tried pieces a b planned (closes v cs phase k done o left at closed meet) (IsTakingBack u ls phase2 j before p behind there given ours) e f = both_wait a b (on_way (ends (closing_of plan phase)) a b _ _ _ _ (ends_talk (closing_of plan phase)) (guest_closes_in plan phase k done o left at closed) (host_takes_in plan phase j before p behind there given) (cancel (host_end_to_hear (closing_of plan phase) waits) (end_to_say (closing_of plan phase) awaits) (guest_from plan (suc phase)) a e) (cancel (end_to_hear (closing_of plan phase) awaits) (host_end_to_say (closing_of plan phase) waits) (host_from plan (suc phase)) b f))
near plan part awaits version channels waits agreed lives assembly tried pieces a b planned (closes v cs phase k done o left at closed meet) (IsEnded u ls phase2 in_plan2 ours) e f = in_ended (closing_of plan phase) a b _ _ (guest_closes_in plan phase k done o left at closed) (cancel (host_end_to_hear (closing_of plan phase) waits) (end_to_say (closing_of plan phase) awaits) (guest_from plan (suc phase)) a e) (cancel (end_to_hear (closing_of plan phase) awaits) (host_end_to_say (closing_of plan phase) waits) (host_from plan (suc phase)) b f)
near plan part awaits version channels waits agreed lives assembly tried pieces a b planned (gives_back v cs phase k done o left at gone meet) (IsEmptying u ls phase2 j before p behind h there other has2 ours) e f = both_wait a b (on_way (ends (closing_of plan phase)) a b _ _ _ _ (ends_talk (closing_of plan phase)) (guest_gives_in plan phase k done o left at gone) (host_empties_in plan phase j before p behind there h other has2) (cancel (host_end_to_hear (closing_of plan phase) waits) (end_to_say (closing_of plan phase) awaits) (guest_from plan (suc phase)) a e) (cancel (end_to_hear (closing_of plan phase) awaits) (host_end_to_say (closing_of plan phase) waits) (host_from plan (suc phase)) b f))
near plan part awaits version channels waits agreed lives assembly tried pieces a b planned (gives_back v cs phase k done o left at gone meet) (IsClosing u ls phase2 j before p behind there other ours) e f = both_wait a b (on_way (ends (closing_of plan phase)) a b _ _ _ _ (ends_talk (closing_of plan phase)) (guest_gives_in plan phase k done o left at gone) (host_closes_in plan phase j before p behind there other) (cancel (host_end_to_hear (closing_of plan phase) waits) (end_to_say (closing_of plan phase) awaits) (guest_from plan (suc phase)) a e) (cancel (end_to_hear (closing_of plan phase) awaits) (host_end_to_say (closing_of plan phase) waits) (host_from plan (suc phase)) b f))
near plan part awaits version channels waits agreed lives assembly tried pieces a b planned (gives_back v cs phase k done o left at gone meet) (IsTearing u ls phase2 j before p behind there other ours) e f = both_wait a b (on_way (ends (closing_of plan phase)) a b _ _ _ _ (ends_talk (closing_of plan phase)) (guest_gives_in plan phase k done o left at gone) (host_tears_in plan phase j before p behind there other) (cancel (host_end_to_hear (closing_of plan phase) waits) (end_to_say (closing_of plan phase) awaits) (guest_from plan (suc phase)) a e) (cancel (end_to_hear (closing_of plan phase) awaits) (host_end_to_say (closing_of plan phase) waits) (host_from plan (suc phase)) b f))
near plan part awaits version channels waits agreed lives assembly tried pieces a b planned (gives_back v cs phase k done o left at gone meet) (IsTakingBack u ls phase2 j before p behind there given ours) e f = both_wait a b (on_way (ends (closing_of plan phase)) a b _ _ _ _ (ends_talk (closing_of plan phase)) (guest_gives_in plan phase k done o left at gone) (host_takes_in plan phase j before p behind there given) (cancel (host_end_to_hear (closing_of plan phase) waits) (end_to_say (closing_of plan phase) awaits) (guest_from plan (suc phase)) a e) (cancel (end_to_hear (closing_of plan phase) awaits) (host_end_to_say (closing_of plan phase) waits) (host_from plan (suc phase)) b f))
near plan part awaits version channels waits agreed lives assembly tried pieces a b planned (gives_back v cs phase k done o left at gone meet) (IsEnded u ls phase2 in_plan2 ours) e f = in_ended (closing_of plan phase) a b _ _ (guest_gives_in plan phase k done o left at gone) (cancel (host_end_to_hear (closing_of plan phase) waits) (end_to_say (closing_of plan phase) awaits) (guest_from plan (suc phase)) a e) (cancel (end_to_hear (closing_of plan phase) awaits) (host_end_to_say (closing_of plan phase) waits) (host_from plan (suc phase)) b f)
near plan part awaits version channels waits agreed lives assembly tried pieces a b planned (gives_sub_back v cs phase k done o left at closed sub meet) (IsEmptying u ls phase2 j before p behind h there other has2 ours) e f = both_wait a b (on_way (ends (closing_of plan phase)) a b _ _ _ _ (ends_talk (closing_of plan phase)) (guest_gives_sub_in plan phase k done o left at closed sub) (host_empties_in plan phase j before p behind there h other has2) (cancel (host_end_to_hear (closing_of plan phase) waits) (end_to_say (closing_of plan phase) awaits) (guest_from plan (suc phase)) a e) (cancel (end_to_hear (closing_of plan phase) awaits) (host_end_to_say (closing_of plan phase) waits) (host_from plan (suc phase)) b f))
near plan part awaits version channels waits agreed lives assembly tried pieces a b planned (gives_sub_back v cs phase k done o left at closed sub meet) (IsClosing u ls phase2 j before p behind there other ours) e f = both_wait a b (on_way (ends (closing_of plan phase)) a b _ _ _ _ (ends_talk (closing_of plan phase)) (guest_gives_sub_in plan phase k done o left at closed sub) (host_closes_in plan phase j before p behind there other) (cancel (host_end_to_hear (closing_of plan phase) waits) (end_to_say (closing_of plan phase) awaits) (guest_from plan (suc phase)) a e) (cancel (end_to_hear (closing_of plan phase) awaits) (host_end_to_say (closing_of plan phase) waits) (host_from plan (suc phase)) b f))
near plan part awaits version channels waits agreed lives assembly tried pieces a b planned (gives_sub_back v cs phase k done o left at closed sub meet) (IsTearing u ls phase2 j before p behind there other ours) e f = both_wait a b (on_way (ends (closing_of plan phase)) a b _ _ _ _ (ends_talk (closing_of plan phase)) (guest_gives_sub_in plan phase k done o left at closed sub) (host_tears_in plan phase j before p behind there other) (cancel (host_end_to_hear (closing_of plan phase) waits) (end_to_say (closing_of plan phase) awaits) (guest_from plan (suc phase)) a e) (cancel (end_to_hear (closing_of plan phase) awaits) (host_end_to_say (closing_of plan phase) waits) (host_from plan (suc phase)) b f))
near plan part awaits version channels waits agreed lives assembly tried pieces a b planned (gives_sub_back v cs phase k done o left at closed sub meet) (IsTakingBack u ls phase2 j before p behind there given ours) e f = both_wait a b (on_way (ends (closing_of plan phase)) a b _ _ _ _ (ends_talk (closing_of plan phase)) (guest_gives_sub_in plan phase k done o left at closed sub) (host_takes_in plan phase j before p behind there given) (cancel (host_end_to_hear (closing_of plan phase) waits) (end_to_say (closing_of plan phase) awaits) (guest_from plan (suc phase)) a e) (cancel (end_to_hear (closing_of plan phase) awaits) (host_end_to_say (closing_of plan phase) waits) (host_from plan (suc phase)) b f))
near plan part awaits version channels waits agreed lives assembly tried pieces a b planned (gives_sub_back v cs phase k done o left at closed sub meet) (IsEnded u ls phase2 in_plan2 ours) e f = in_ended (closing_of plan phase) a b _ _ (guest_gives_sub_in plan phase k done o left at closed sub) (cancel (host_end_to_hear (closing_of plan phase) waits) (end_to_say (closing_of plan phase) awaits) (guest_from plan (suc phase)) a e) (cancel (end_to_hear (closing_of plan phase) awaits) (host_end_to_say (closing_of plan phase) waits) (host_from plan (suc phase)) b f)
near plan part awaits version channels waits agreed lives assembly tried pieces a b planned (ended v cs phase in_plan meet) (IsEmptying u ls phase2 j before p behind h there other has2 ours) e f = ended_in (closing_of plan phase) a b _ _ (host_empties_in plan phase j before p behind there h other has2) (cancel (host_end_to_hear (closing_of plan phase) waits) (end_to_say (closing_of plan phase) awaits) (guest_from plan (suc phase)) a e) (cancel (end_to_hear (closing_of plan phase) awaits) (host_end_to_say (closing_of plan phase) waits) (host_from plan (suc phase)) b f)
near plan part awaits version channels waits agreed lives assembly tried pieces a b planned (ended v cs phase in_plan meet) (IsClosing u ls phase2 j before p behind there other ours) e f = ended_in (closing_of plan phase) a b _ _ (host_closes_in plan phase j before p behind there other) (cancel (host_end_to_hear (closing_of plan phase) waits) (end_to_say (closing_of plan phase) awaits) (guest_from plan (suc phase)) a e) (cancel (end_to_hear (closing_of plan phase) awaits) (host_end_to_say (closing_of plan phase) waits) (host_from plan (suc phase)) b f)
near plan part awaits version channels waits agreed lives assembly tried pieces a b planned (ended v cs phase in_plan meet) (IsTearing u ls phase2 j before p behind there other ours) e f = ended_in (closing_of plan phase) a b _ _ (host_tears_in plan phase j before p behind there other) (cancel (host_end_to_hear (closing_of plan phase) waits) (end_to_say (closing_of plan phase) awaits) (guest_from plan (suc phase)) a e) (cancel (end_to_hear (closing_of plan phase) awaits) (host_end_to_say (closing_of plan phase) waits) (host_from plan (suc phase)) b f)
near plan part awaits version channels waits agreed lives assembly tried pieces a b planned (ended v cs phase in_plan meet) (IsTakingBack u ls phase2 j before p behind there given ours) e f = ended_in (closing_of plan phase) a b _ _ (host_takes_in plan phase j before p behind there given) (cancel (host_end_to_hear (closing_of plan phase) waits) (end_to_say (closing_of plan phase) awaits) (guest_from plan (suc phase)) a e) (cancel (end_to_hear (closing_of plan phase) awaits) (host_end_to_say (closing_of plan phase) waits) (host_from plan (suc phase)) b f)
near plan part awaits version channels waits agreed lives assembly tried pieces a b planned (ended v cs phase in_plan meet) (IsEnded u ls phase2 in_plan2 ours) e f = over_over a b _ _ e f
near plan part awaits version channels waits agreed lives assembly tried pieces a b planned (leaves v cs meet) (IsLeaving u ls ours) e f = neither a b (omega (arith, e), omega (arith, f), omega (arith, e, f))
near plan part awaits version channels waits agreed lives assembly tried pieces a b planned (leaves v cs meet) (IsDone u ls ours) e f = host_over a b (omega (arith, e), omega (arith, f), omega (arith, f))
near plan part awaits version channels waits agreed lives assembly tried pieces a b planned (is_over v cs meet) (IsLeaving u ls ours) e f = absurd (omega (arith, f))
near plan part awaits version channels waits agreed lives assembly tried pieces a b planned (is_over v cs meet) (IsDone u ls ours) e f = over_over a b _ _ e f
