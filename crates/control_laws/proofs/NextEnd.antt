-- At the end of a phase each side goes on with the opening at a place, if there is one.
use Rattle.std.proofs.Common.{◌≡◌, ◌≢◌, ◌∙◌, ℕ, suc, ◌+◌, ◌-◌, ◌<◌, ◌||◌, Bool, true, false, List, [], ◌∷◌, ◌++◌, length, slice_get, slice_set, if◌then◌else◌, Option, Some, None, refl, sym, ap, subst}
use Rattle.std.specs.Option.{option_to_list}
use Rattle.std.proofs.lemmas.List.{append-nil}
use Rattle.control_laws.proofs.Words.{Version, Part, PhaseEnd, Opened, Closing, IsRescinded, ChanState, Assembly, Msg, Opening, Buffer, Receive, Send, Channel, Change, Same, One, GuestWait, Torn, GuestTurn, HostWait, AwaitsClose, AwaitsRelease, HostNext}
use Rattle.control_model.specs.declared.burst.Burst.{Burst}
use Rattle.control_model.specs.declared.burst.Burst.TheVariants.{Empty}
use Rattle.control_model.specs.declared.host_next.Rescind.{Rescind}
use Rattle.control_model.specs.Plan.{BusPlan, buffer_list, is_sub, closing_of, closing_at, IsPlan, phase_of}
use Rattle.control_model.specs.Channels.{by_relid, changed}
use Rattle.control_model.specs.Messages.{close, teardown, teardown_buffer, rescind, Sends}
use Rattle.control_model.specs.Guest.{and_empty, and_close, closes, ends_open, ends_one, closes_next}
use Rattle.control_model.specs.Host.{wants_rescind, waits_end, one_next, next_end, without, without_buffers, rescinded_among, without_its, and_rescind}
use Rattle.control_model.specs.Stand.{EndsAt, offered_before, marked, guest_is, host_is, guest_ends, host_ends, guest_before, host_before, Stand, Meet, vps_before}
use Rattle.control_model.specs.GuestAt.{GuestStands}
use Rattle.control_model.specs.GuestAt.GuestStands.{empties as GuestEmpties, closes as GuestCloses, gives_back, ended as GuestEnded}
use Rattle.control_model.specs.HostAt.{HostStands, lists_but}
use Rattle.control_model.specs.HostAt.HostStands.{empties as HostEmpties, closes as HostCloses, takes_back, ended as HostEnded}
use Rattle.control_laws.proofs.NextOne.{guest_waits, guest_next_awaits, guest_marks, guest_next_stands, guest_sends, guest_next_sends, host_waits, host_next_awaits, host_marks, host_next_stands, host_done, host_next_done, host_sends, host_next_sends}
use Rattle.control_laws.proofs.Marks.{stand_like, stand_mark, stand_at, marked_here, marked_there}
use Rattle.control_laws.proofs.Closing.{marked_closing}
use Rattle.control_laws.proofs.Relids.{phase_relids}
use Rattle.control_laws.proofs.Plans.{end_facts, ends_more, ends_place, closing_from}
use Rattle.control_laws.proofs.Live.{let_go, none_live}
use Rattle.control_laws.proofs.Next.{Turned}
use Rattle.control_laws.proofs.Cutting.{all_front}

-- where all channels of a phase are done with, they stand as they do before the next one
all_done : {X : Type 0} (plan : BusPlan) (channels : List X) (so : Opening → X) (phase : ℕ) (done : List Opening) (base : ℕ → X) → IsPlan plan → phase < length plan.phases → closing_of plan phase ≡ done
    → Stand channels (offered_before plan (suc phase)) (marked so done base) → Stand channels (offered_before plan (suc phase)) (marked so (phase_of plan phase) base)
all_done plan channels so phase done base planned in_plan full stand =
    stand_like channels (offered_before plan (suc phase)) (marked so done base) (marked so (phase_of plan phase) base) stand
    (λ q. sym (marked_closing so base q (phase_of plan phase) (phase_relids plan phase planned in_plan).distinct) ∙ ap (λ os. marked so os base q) full)

-- the next channel that is done with was open when the turn began
abbrev pub NextIs : {X : Type 0} → (Opening → X) → List X → List Opening → Type 0
NextIs so channels [] = Unit {0}
NextIs so channels (o ∷ left) = by_relid channels o.relid ≡ Some (so o)

pub next_is : {X : Type 0} (plan : BusPlan) (channels : List X) (phase place : ℕ) (a b c : Opening → X) (done : List Opening) (o : Opening) (left : List Opening) (base : ℕ → X) → IsPlan plan
    → EndsAt plan phase place done o left → Stand channels (offered_before plan (suc phase)) (marked a done (marked b (o ∷ []) (marked c left base))) → NextIs c channels left
next_is plan channels phase place a b c done o [] base planned at stand = tt
next_is plan channels phase place a b c done o (p ∷ left) base planned at stand =
    let there : EndsAt plan phase (place + 1) (done ++ o ∷ []) p left = record { in_plan = at.in_plan; closing_is = ends_more plan phase place done o (p ∷ left) at; place_is = ends_place plan phase place done o (p ∷ left) at } in
    let fact = end_facts plan phase (place + 1) (done ++ o ∷ []) p left planned there in
    let apart = all_front (λ q. q.relid ≢ p.relid) done (o ∷ []) fact.done_apart in
    stand_at channels (offered_before plan (suc phase)) a done p (marked b (o ∷ []) (marked c (p ∷ left) base)) (c p) stand fact.fits.named fact.known apart.0
    (marked_there b o [] (marked c (p ∷ left) base) p.relid (λ e. apart.1.0 (sym e)) ∙ marked_here c p left base)

-- a guest's turn before it goes on, in which it answers
abbrev pub answer_of : Option Msg → Burst
answer_of None = Empty
answer_of (Some m) = One m

abbrev pub heard_with : GuestWait → Version → Change → Option Msg → GuestTurn
heard_with awaits v heard first = record { awaits = awaits; version = Some v; heard = heard; wished = Same; burst = answer_of first }

-- how a guest stands after a turn
pub record GuestEnds (plan : BusPlan) (phase : ℕ) (v : Version) (guests : List Channel) (turn : GuestTurn) (waits : GuestWait) (stands : ℕ → Channel) (says : List Msg) : Type 0 where
  pub awaits : turn.awaits ≡ waits
  pub version : turn.version ≡ Some v
  pub guest : Stand (changed (changed guests turn.heard) turn.wished) (offered_before plan (suc phase)) stands
  pub said : (sent : List Msg) → Sends plan turn.burst sent → sent ≡ says

answers : (plan : BusPlan) (first : Option Msg) (sent : List Msg) → Sends plan (answer_of first) sent → sent ≡ option_to_list first ++ []
answers plan None sent e = e
answers plan (Some m) sent e = e

answers_close : (plan : BusPlan) (first : Option Msg) (o : Opening) (sent : List Msg) → Sends plan (and_close (answer_of first) o) sent → sent ≡ option_to_list first ++ (close o.relid ∷ teardown o ∷ [])
answers_close plan None o sent e = e
answers_close plan (Some m) o sent e = e

answers_empty : (plan : BusPlan) (first : Option Msg) (o : Opening) (k : Buffer) (sent : List Msg) → Sends plan (and_empty (answer_of first) o k) sent → sent ≡ option_to_list first ++ (teardown_buffer o k ∷ [])
answers_empty plan None o k sent e = e
answers_empty plan (Some m) o k sent e = e

-- the channel is open at the guest: it is closed, once the page lists of its buffers are torn down
pub guest_open : (plan : BusPlan) (v : Version) (guests : List Channel) (phase place : ℕ) (done : List Opening) (o : Opening) (left : List Opening) (awaits : GuestWait) (heard : Change) (first : Option Msg) (c : Bool) → IsPlan plan → EndsAt plan phase place done o left
    → Stand (changed guests heard) (offered_before plan (suc phase)) (marked (guest_ends (vps_before plan (suc phase))) done (marked (guest_is (vps_before plan (suc phase)) Opened) (o ∷ left) (guest_before (vps_before plan (suc phase)) plan phase))) → by_relid guests o.relid ≡ Some (guest_is (vps_before plan (suc phase)) Opened o)
    → GuestEnds plan phase v guests (ends_open (heard_with awaits v heard first) guests place o c) (guest_waits place false c) (marked (guest_ends (vps_before plan (suc phase))) done (guest_marks (vps_before plan (suc phase)) o left (guest_before (vps_before plan (suc phase)) plan phase) false c)) (option_to_list first ++ guest_sends o false c)
guest_open plan v guests phase place done o left awaits heard first true planned at stand next = record { awaits = refl; version = refl; guest = stand; said = answers_empty plan first o Send }
guest_open plan v guests phase place done o left awaits heard first false planned at stand next =
    let fact = end_facts plan phase place done o left planned at in
    let before : ℕ → Channel = guest_before (vps_before plan (suc phase)) plan phase in
    let turn : Option Channel → GuestTurn = λ c. closes (record (heard_with awaits v heard first) { awaits = Torn place }) o c in
    let marks : ℕ → Channel = marked (guest_ends (vps_before plan (suc phase))) done (marked (guest_is (vps_before plan (suc phase)) Closing) (o ∷ []) (marked (guest_is (vps_before plan (suc phase)) Opened) left before)) in
    let there : Stand (slice_set (changed guests heard) (o.relid - 1) (guest_is (vps_before plan (suc phase)) Closing o)) (offered_before plan (suc phase)) marks =
    stand_mark (changed guests heard) (offered_before plan (suc phase)) (guest_ends (vps_before plan (suc phase))) (guest_is (vps_before plan (suc phase)) Closing) done o (marked (guest_is (vps_before plan (suc phase)) Opened) (o ∷ left) before) (marked (guest_is (vps_before plan (suc phase)) Opened) left before) stand fact.fits.named fact.known fact.done_apart
    (λ q off. sym (marked_there (guest_is (vps_before plan (suc phase)) Opened) o left before q off)) in
    subst (λ c. GuestEnds plan phase v guests (turn c) (Torn place) marks (option_to_list first ++ (close o.relid ∷ teardown o ∷ []))) (sym next)
    (record { awaits = refl; version = refl; guest = there; said = answers_close plan first o })

guest_one : (plan : BusPlan) (v : Version) (guests : List Channel) (phase place : ℕ) (done : List Opening) (o : Opening) (left : List Opening) (awaits : GuestWait) (heard : Change) (first : Option Msg) (b : Bool) → IsPlan plan → EndsAt plan phase place done o left
    → Stand (changed guests heard) (offered_before plan (suc phase)) (marked (guest_ends (vps_before plan (suc phase))) done (marked (guest_is (vps_before plan (suc phase)) Opened) (o ∷ left) (guest_before (vps_before plan (suc phase)) plan phase))) → by_relid guests o.relid ≡ Some (guest_is (vps_before plan (suc phase)) Opened o)
    → GuestEnds plan phase v guests (ends_one (heard_with awaits v heard first) guests place o b) (guest_waits place b o.buffers) (marked (guest_ends (vps_before plan (suc phase))) done (guest_marks (vps_before plan (suc phase)) o left (guest_before (vps_before plan (suc phase)) plan phase) b o.buffers)) (option_to_list first ++ guest_sends o b o.buffers)
guest_one plan v guests phase place done o left awaits heard first true planned at stand next = record { awaits = refl; version = refl; guest = stand; said = answers plan first }
guest_one plan v guests phase place done o left awaits heard first false planned at stand next = guest_open plan v guests phase place done o left awaits heard first o.buffers planned at stand next

guest_from_left : (plan : BusPlan) (v : Version) (guests : List Channel) (phase place : ℕ) (done left : List Opening) (awaits : GuestWait) (heard : Change) (first : Option Msg) → IsPlan plan → phase < length plan.phases → closing_of plan phase ≡ done ++ left → place ≡ length done
    → Stand (changed guests heard) (offered_before plan (suc phase)) (marked (guest_ends (vps_before plan (suc phase))) done (marked (guest_is (vps_before plan (suc phase)) Opened) left (guest_before (vps_before plan (suc phase)) plan phase))) → NextIs (guest_is (vps_before plan (suc phase)) Opened) guests left
    → GuestEnds plan phase v guests (closes_next (heard_with awaits v heard first) guests place (slice_get left 0)) (guest_next_awaits place left) (marked (guest_ends (vps_before plan (suc phase))) done (guest_next_stands (vps_before plan (suc phase)) left (guest_before (vps_before plan (suc phase)) plan phase))) (option_to_list first ++ guest_next_sends left)
guest_from_left plan v guests phase place done [] awaits heard first planned in_plan is at stand next = record { awaits = refl; version = refl; guest = stand; said = answers plan first }
guest_from_left plan v guests phase place done (o ∷ left) awaits heard first planned in_plan is at stand next =
    guest_one plan v guests phase place done o left awaits heard first o.rescinded planned (record { in_plan = in_plan; closing_is = is; place_is = at }) stand next

-- a guest goes on
pub guest_goes : (plan : BusPlan) (v : Version) (guests : List Channel) (phase place : ℕ) (done left : List Opening) (awaits : GuestWait) (heard : Change) (first : Option Msg) → IsPlan plan → phase < length plan.phases → closing_of plan phase ≡ done ++ left → place ≡ length done
    → Stand (changed guests heard) (offered_before plan (suc phase)) (marked (guest_ends (vps_before plan (suc phase))) done (marked (guest_is (vps_before plan (suc phase)) Opened) left (guest_before (vps_before plan (suc phase)) plan phase))) → NextIs (guest_is (vps_before plan (suc phase)) Opened) guests left
    → GuestEnds plan phase v guests (closes_next (heard_with awaits v heard first) guests place (closing_at plan phase place)) (guest_next_awaits place left) (marked (guest_ends (vps_before plan (suc phase))) done (guest_next_stands (vps_before plan (suc phase)) left (guest_before (vps_before plan (suc phase)) plan phase))) (option_to_list first ++ guest_next_sends left)
guest_goes plan v guests phase place done left awaits heard first planned in_plan is at stand next =
    subst (λ x. GuestEnds plan phase v guests (closes_next (heard_with awaits v heard first) guests place x) (guest_next_awaits place left) (marked (guest_ends (vps_before plan (suc phase))) done (guest_next_stands (vps_before plan (suc phase)) left (guest_before (vps_before plan (suc phase)) plan phase))) (option_to_list first ++ guest_next_sends left))
    (sym (closing_from plan phase place done left is at)) (guest_from_left plan v guests phase place done left awaits heard first planned in_plan is at stand next)

-- and stands so
pub guest_stands_so : (plan : BusPlan) (phase : ℕ) (v : Version) (part : Option Part) (guests : List Channel) (turn : GuestTurn) (waits : GuestWait) (stands : ℕ → Channel) (says : List Msg) → GuestEnds plan phase v guests turn waits stands says
    → GuestStands plan part waits (Some v) (changed (changed guests turn.heard) turn.wished) → Turned plan part guests turn
guest_stands_so plan phase v part guests turn waits stands says ends there =
    let channels : List Channel = changed (changed guests turn.heard) turn.wished in
    subst (λ w. GuestStands plan part w turn.version channels) (sym ends.awaits) (subst (λ u. GuestStands plan part waits u channels) (sym ends.version) there)

guest_next_one : (plan : BusPlan) (v : Version) (guests : List Channel) (phase place : ℕ) (done : List Opening) (o : Opening) (left : List Opening) (b c : Bool) → o.rescinded ≡ b → o.buffers ≡ c → EndsAt plan phase place done o left
    → Meet plan v guests (offered_before plan (suc phase)) (marked (guest_ends (vps_before plan (suc phase))) done (guest_marks (vps_before plan (suc phase)) o left (guest_before (vps_before plan (suc phase)) plan phase) b c)) → GuestStands plan (Some (PhaseEnd phase)) (guest_waits place b c) (Some v) guests
guest_next_one plan v guests phase place done o left true c is has at meet = gives_back v guests phase place done o left at is meet
guest_next_one plan v guests phase place done o left false true is has at meet = GuestEmpties v guests phase place done o left Send at is has meet
guest_next_one plan v guests phase place done o left false false is has at meet = GuestCloses v guests phase place done o left at is meet

pub guest_next : (plan : BusPlan) (v : Version) (guests : List Channel) (phase place : ℕ) (done left : List Opening) → IsPlan plan → phase < length plan.phases → closing_of plan phase ≡ done ++ left → place ≡ length done
    → Meet plan v guests (offered_before plan (suc phase)) (marked (guest_ends (vps_before plan (suc phase))) done (guest_next_stands (vps_before plan (suc phase)) left (guest_before (vps_before plan (suc phase)) plan phase))) → GuestStands plan (Some (PhaseEnd phase)) (guest_next_awaits place left) (Some v) guests
guest_next plan v guests phase place done [] planned in_plan is at meet =
    let full : closing_of plan phase ≡ done = is ∙ append-nil done in
    GuestEnded v guests phase in_plan (record { agreed = meet.agreed; stand = all_done plan guests (guest_ends (vps_before plan (suc phase))) phase done (guest_before (vps_before plan (suc phase)) plan phase) planned in_plan full meet.stand })
guest_next plan v guests phase place done (o ∷ left) planned in_plan is at meet = guest_next_one plan v guests phase place done o left o.rescinded o.buffers refl refl (record { in_plan = in_plan; closing_is = is; place_is = at }) meet

-- how a host stands that goes on so
pub record HostEnds (plan : BusPlan) (phase : ℕ) (hosts : List ChanState) (live : Assembly) (next : HostNext) (waits : HostWait) (stands : ℕ → ChanState) (lists : Assembly) (says : List Msg) : Type 0 where
  pub awaits : next.awaits ≡ waits
  pub host : Stand (rescinded_among hosts next.rescinds) (offered_before plan (suc phase)) stands
  pub lists_are : without_its live next.rescinds ≡ lists
  pub said : (answer : Option Msg) (sent : List Msg) → Sends plan (and_rescind answer next.rescinds) sent → sent ≡ option_to_list answer ++ says

host_answers : (plan : BusPlan) (answer : Option Msg) (sent : List Msg) → Sends plan (and_rescind answer None) sent → sent ≡ option_to_list answer ++ []
host_answers plan None sent e = e
host_answers plan (Some m) sent e = e

host_answers_too : (plan : BusPlan) (r : Rescind) (answer : Option Msg) (sent : List Msg) → Sends plan (and_rescind answer (Some r)) sent → sent ≡ option_to_list answer ++ (rescind r.opening.relid ∷ [])
host_answers_too plan r None sent e = e
host_answers_too plan r (Some m) sent e = e

waits_so : (place : ℕ) (c : Bool) → waits_end place c ≡ host_waits place false c
waits_so place true = refl
waits_so place false = refl

host_one : (plan : BusPlan) (hosts channels : List ChanState) (phase place : ℕ) (done : List Opening) (o : Opening) (left : List Opening) (b : Bool) → IsPlan plan → EndsAt plan phase place done o left
    → Stand hosts (offered_before plan (suc phase)) (marked (host_ends (vps_before plan (suc phase))) done (marked (host_is (vps_before plan (suc phase)) Opened) (o ∷ left) (host_before (vps_before plan (suc phase)) plan phase))) → by_relid channels o.relid ≡ Some (host_is (vps_before plan (suc phase)) Opened o)
    → HostEnds plan phase hosts (lists_but done (phase_of plan phase)) (one_next channels place o b) (host_waits place b o.buffers) (marked (host_ends (vps_before plan (suc phase))) done (host_marks (vps_before plan (suc phase)) o left (host_before (vps_before plan (suc phase)) plan phase) b)) (lists_but (host_done done o b) (phase_of plan phase)) (host_sends o b)
host_one plan hosts channels phase place done o left false planned at stand next = record { awaits = waits_so place o.buffers; host = stand; lists_are = refl; said = host_answers plan }
host_one plan hosts channels phase place done o left true planned at stand next =
    let fact = end_facts plan phase place done o left planned at in
    let before : ℕ → ChanState = host_before (vps_before plan (suc phase)) plan phase in
    let r : Rescind = record { opening = o; life = host_is (vps_before plan (suc phase)) IsRescinded o } in
    let marks : ℕ → ChanState = marked (host_ends (vps_before plan (suc phase))) done (marked (host_is (vps_before plan (suc phase)) IsRescinded) (o ∷ []) (marked (host_is (vps_before plan (suc phase)) Opened) left before)) in
    let there : Stand (slice_set hosts (o.relid - 1) (host_is (vps_before plan (suc phase)) IsRescinded o)) (offered_before plan (suc phase)) marks =
    stand_mark hosts (offered_before plan (suc phase)) (host_ends (vps_before plan (suc phase))) (host_is (vps_before plan (suc phase)) IsRescinded) done o (marked (host_is (vps_before plan (suc phase)) Opened) (o ∷ left) before) (marked (host_is (vps_before plan (suc phase)) Opened) left before) stand fact.fits.named fact.known fact.done_apart
    (λ q off. sym (marked_there (host_is (vps_before plan (suc phase)) Opened) o left before q off)) in
    let way : Option ChanState → HostNext = λ c. record { awaits = AwaitsRelease place; rescinds = wants_rescind o c } in
    subst (λ c. HostEnds plan phase hosts (lists_but done (phase_of plan phase)) (way c) (AwaitsRelease place) marks (lists_but (done ++ o ∷ []) (phase_of plan phase)) (rescind o.relid ∷ [])) (sym next)
    (record { awaits = refl; host = there; lists_are = let_go done o (phase_of plan phase); said = host_answers_too plan r })

host_from_left : (plan : BusPlan) (hosts channels : List ChanState) (phase place : ℕ) (done left : List Opening) → IsPlan plan → phase < length plan.phases → closing_of plan phase ≡ done ++ left → place ≡ length done
    → Stand hosts (offered_before plan (suc phase)) (marked (host_ends (vps_before plan (suc phase))) done (marked (host_is (vps_before plan (suc phase)) Opened) left (host_before (vps_before plan (suc phase)) plan phase))) → NextIs (host_is (vps_before plan (suc phase)) Opened) channels left
    → HostEnds plan phase hosts (lists_but done (phase_of plan phase)) (next_end channels place (slice_get left 0)) (host_next_awaits place left) (marked (host_ends (vps_before plan (suc phase))) done (host_next_stands (vps_before plan (suc phase)) left (host_before (vps_before plan (suc phase)) plan phase))) (lists_but (host_next_done done left) (phase_of plan phase)) (host_next_sends left)
host_from_left plan hosts channels phase place done [] planned in_plan is at stand next = record { awaits = refl; host = stand; lists_are = refl; said = host_answers plan }
host_from_left plan hosts channels phase place done (o ∷ left) planned in_plan is at stand next =
    host_one plan hosts channels phase place done o left o.rescinded planned (record { in_plan = in_plan; closing_is = is; place_is = at }) stand next

-- a host goes on
pub host_goes : (plan : BusPlan) (hosts channels : List ChanState) (phase place : ℕ) (done left : List Opening) → IsPlan plan → phase < length plan.phases → closing_of plan phase ≡ done ++ left → place ≡ length done
    → Stand hosts (offered_before plan (suc phase)) (marked (host_ends (vps_before plan (suc phase))) done (marked (host_is (vps_before plan (suc phase)) Opened) left (host_before (vps_before plan (suc phase)) plan phase))) → NextIs (host_is (vps_before plan (suc phase)) Opened) channels left
    → HostEnds plan phase hosts (lists_but done (phase_of plan phase)) (next_end channels place (closing_at plan phase place)) (host_next_awaits place left) (marked (host_ends (vps_before plan (suc phase))) done (host_next_stands (vps_before plan (suc phase)) left (host_before (vps_before plan (suc phase)) plan phase))) (lists_but (host_next_done done left) (phase_of plan phase)) (host_next_sends left)
host_goes plan hosts channels phase place done left planned in_plan is at stand next =
    subst (λ x. HostEnds plan phase hosts (lists_but done (phase_of plan phase)) (next_end channels place x) (host_next_awaits place left) (marked (host_ends (vps_before plan (suc phase))) done (host_next_stands (vps_before plan (suc phase)) left (host_before (vps_before plan (suc phase)) plan phase))) (lists_but (host_next_done done left) (phase_of plan phase)) (host_next_sends left))
    (sym (closing_from plan phase place done left is at)) (host_from_left plan hosts channels phase place done left planned in_plan is at stand next)

-- and stands so
pub host_stands_so : (plan : BusPlan) (phase : ℕ) (v : Version) (part : Option Part) (hosts : List ChanState) (live : Assembly) (next : HostNext) (waits : HostWait) (stands : ℕ → ChanState) (lists : Assembly) (says : List Msg) → HostEnds plan phase hosts live next waits stands lists says
    → HostStands plan part waits (Some v) (rescinded_among hosts next.rescinds) lists [] [] → HostStands plan part next.awaits (Some v) (rescinded_among hosts next.rescinds) (without_its live next.rescinds) [] []
host_stands_so plan phase v part hosts live next waits stands lists says ends there =
    let channels : List ChanState = rescinded_among hosts next.rescinds in
    subst (λ w. HostStands plan part w (Some v) channels (without_its live next.rescinds) [] []) (sym ends.awaits) (subst (λ l. HostStands plan part waits (Some v) channels l [] []) (sym ends.lists_are) there)

host_next_one : (plan : BusPlan) (v : Version) (hosts : List ChanState) (phase place : ℕ) (done : List Opening) (o : Opening) (left : List Opening) (b c : Bool) → o.rescinded ≡ b → o.buffers ≡ c → EndsAt plan phase place done o left
    → Meet plan v hosts (offered_before plan (suc phase)) (marked (host_ends (vps_before plan (suc phase))) done (host_marks (vps_before plan (suc phase)) o left (host_before (vps_before plan (suc phase)) plan phase) b)) → HostStands plan (Some (PhaseEnd phase)) (host_waits place b c) (Some v) hosts (lists_but (host_done done o b) (phase_of plan phase)) [] []
host_next_one plan v hosts phase place done o left true c is has at meet = takes_back v hosts phase place done o left at (ap (λ b. b || is_sub o) is) meet
host_next_one plan v hosts phase place done o left false true is has at meet = HostEmpties v hosts phase place done o left Send at is has meet
host_next_one plan v hosts phase place done o left false false is has at meet =
    let lists : Assembly = lists_but done (phase_of plan phase) in
    let none : without_buffers lists o ≡ lists = ap (λ b. if b then without (without lists (buffer_list o Send)) (buffer_list o Receive) else lists) has in
    subst (λ l. HostStands plan (Some (PhaseEnd phase)) (AwaitsClose place) (Some v) hosts l [] []) none (HostCloses v hosts phase place done o left at is meet)

pub host_next : (plan : BusPlan) (v : Version) (hosts : List ChanState) (phase place : ℕ) (done left : List Opening) → IsPlan plan → phase < length plan.phases → closing_of plan phase ≡ done ++ left → place ≡ length done
    → Meet plan v hosts (offered_before plan (suc phase)) (marked (host_ends (vps_before plan (suc phase))) done (host_next_stands (vps_before plan (suc phase)) left (host_before (vps_before plan (suc phase)) plan phase))) → HostStands plan (Some (PhaseEnd phase)) (host_next_awaits place left) (Some v) hosts (lists_but (host_next_done done left) (phase_of plan phase)) [] []
host_next plan v hosts phase place done [] planned in_plan is at meet =
    let full : closing_of plan phase ≡ done = is ∙ append-nil done in
    subst (λ l. HostStands plan (Some (PhaseEnd phase)) (host_next_awaits place []) (Some v) hosts l [] []) (sym (none_live plan phase done is))
    (HostEnded v hosts phase in_plan (record { agreed = meet.agreed; stand = all_done plan hosts (host_ends (vps_before plan (suc phase))) phase done (host_before (vps_before plan (suc phase)) plan phase) planned in_plan full meet.stand }))
host_next plan v hosts phase place done (o ∷ left) planned in_plan is at meet = host_next_one plan v hosts phase place done o left o.rescinded o.buffers refl refl (record { in_plan = in_plan; closing_is = is; place_is = at }) meet
