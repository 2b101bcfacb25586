-- A side begins the part that comes next.
use Rattle.std.proofs.Common.{◌≡◌, ◌∙◌, ℕ, suc, ◌+◌, ◌<◌, nat_le, nat_lt, Bool, true, List, [], ◌∷◌, ◌++◌, length, map, drop, Option, Some, None, if◌then◌else◌, refl, sym, ap, subst, append_assoc, arith}
use Rattle.std.proofs.lemmas.Bool.Decides.{nat_tests}
use Rattle.control_laws.proofs.Words.{Version, Part, Contact, PhaseStart, PhaseEnd, Unload, version, versions_tried, Opened, ChanState, Assembly, Msg, Opening, Channel, Same, One, GuestWait, Unloaded, GuestTurn, HostWait, HostNothing, AwaitsUnload, HostNext}
use Rattle.control_model.specs.declared.guest_wait.GuestWait.TheVariants.{Nothing}
use Rattle.control_model.specs.Plan.{BusPlan, part_after, opening_at, closing_at, IsPlan, phase_of, closing_of}
use Rattle.control_model.specs.Channels.{changed}
use Rattle.control_model.specs.Messages.{propose, request, farewell, farewell_taken, Sends}
use Rattle.control_model.specs.Said.{agreed, from_3_0}
use Rattle.control_model.specs.Guest.{GuestSeen, can_begin, idle, guest_begins}
use Rattle.control_model.specs.Host.{HostSeen, host_can_begin, next_end, rescinded_among, without_its, host_begins}
use Rattle.control_model.specs.Stand.{EndsAt, offered_before, offered_by, marked, guest_is, host_is, guest_before, host_before, Stand, Agreed, Meet, handles, vps_before}
use Rattle.control_model.specs.GuestAt.{guest_from, host_from, end_to_say, end_to_hear, to_say, to_hear, GuestStands}
use Rattle.control_model.specs.GuestAt.GuestStands.{fresh, proposes, contacted, started, ended, leaves, is_over}
use Rattle.control_model.specs.HostAt.{host_end_to_say, host_end_to_hear, host_to_say, host_to_hear, live_ones, lists_but, HostStands}
use Rattle.control_model.specs.HostAt.HostStands.{fresh as IsFresh, answers as IsAnswering, contacted as IsContacted, started as IsStarted, ended as IsEnded, leaves as IsLeaving, is_over as IsDone}
use Rattle.control_laws.proofs.NextOne.{guest_next_awaits, guest_next_stands, guest_next_sends, host_next_awaits, host_next_stands, host_next_done, host_next_sends}
use Rattle.control_laws.proofs.Logs.{Logs, a_guest, a_host}
use Rattle.control_laws.proofs.Marks.{by_test, marked_here, stand_like}
use Rattle.control_laws.proofs.Plans.{end_facts}
use Rattle.control_laws.proofs.Closing.{marked_closing}
use Rattle.control_laws.proofs.Relids.{phase_relids}
use Rattle.control_laws.proofs.Live.{all_live}
use Rattle.control_laws.proofs.Seats.{starts_first, phase_seated}
use Rattle.control_laws.proofs.Lower.{tries_first}
use Rattle.control_laws.proofs.Next.{Turned, pieces_of}
use Rattle.control_laws.proofs.Moving.{next_list, next_wait}
use Rattle.control_laws.proofs.NextEnd.{NextIs, guest_goes, guest_stands_so, guest_next, host_goes, host_stands_so, host_next}
use Rattle.control_laws.proofs.Tried.{first_tried, agreed_is}
use Rattle.control_laws.proofs.Saying.{guest_onward, host_onward, ends_said, ends_heard, host_ends_said, host_ends_heard, guest_from_phase, host_from_phase, guest_at_last, host_at_last}

-- a guest that began a part
pub record GuestBegun (plan : BusPlan) (g : GuestSeen) (part : Part) : Type 0 where
  pub goes : Turned plan (Some part) g.channels (guest_begins g part)
  pub says : (sent : List Msg) → Sends plan (guest_begins g part).burst sent → to_say plan g.part g.awaits ≡ sent ++ to_say plan (Some part) (guest_begins g part).awaits
  pub hears : to_hear plan g.part g.awaits (length g.channels) ≡ to_hear plan (Some part) (guest_begins g part).awaits (length (changed (changed g.channels (guest_begins g part).heard) (guest_begins g part).wished))

-- a host that began a part
pub record HostBegun (plan : BusPlan) (h : HostSeen) (part : Part) : Type 0 where
  pub tried : List ℕ
  pub pieces : List Msg
  pub goes : HostStands plan (Some part) (host_begins h part).awaits (host_begins h part).version (host_begins h part).channels (host_begins h part).lists tried pieces
  pub says : (sent : List Msg) → Sends plan (host_begins h part).burst sent → host_to_say plan h.part h.awaits [] ≡ sent ++ host_to_say plan (Some part) (host_begins h part).awaits tried
  pub hears : host_to_hear plan h.part h.awaits [] [] ≡ host_to_hear plan (Some part) (host_begins h part).awaits tried pieces

guest_contact : (plan : BusPlan) (logs : Logs) → IsPlan plan → GuestBegun plan (a_guest plan logs None Nothing None []) Contact
guest_contact plan logs planned =
    let tries = tries_first plan planned in
    record {
      goes = proposes plan.guest tries;
      says = λ sent e. ap (λ vs. (map propose vs ++ request ∷ []) ++ guest_from plan 0) (first_tried plan plan.guest planned tries)
          ∙ ap (λ s. s ++ ((map propose (drop 1 (versions_tried plan.guest.0 plan.host.0)) ++ request ∷ []) ++ guest_from plan 0)) (sym e);
      hears = refl;
    }

host_contact : (plan : BusPlan) (logs : Logs) → IsPlan plan → HostBegun plan (a_host plan logs None HostNothing None [] (live_ones [])) Contact
host_contact plan logs planned = record {
  tried = versions_tried plan.guest.0 plan.host.0;
  pieces = [];
  goes = IsAnswering plan.guest (tries_first plan planned);
  says = λ sent e. ap (λ s. s ++ host_to_say plan None HostNothing []) (sym e);
  hears = refl;
}

-- at the start of a phase no sub-channel of it is offered
at_start : {X : Type 0} (plan : BusPlan) (v : Version) (channels : List X) (phase : ℕ) (stands : ℕ → X) → IsPlan plan → phase < length plan.phases → Meet plan v channels (offered_before plan phase) stands → Meet plan v channels (offered_by plan phase [] (phase_of plan phase)) stands
at_start plan v channels phase stands planned in_plan meet =
    let count : offered_before plan phase ≡ offered_by plan phase [] (phase_of plan phase) = omega (arith, ap length (starts_first (phase_of plan phase) (phase_seated plan phase planned in_plan))) in
    subst (λ n. Meet plan v channels n stands) count meet

guest_phase : (plan : BusPlan) (logs : Logs) (part : Option Part) (v : Version) (guests : List Channel) (phase : ℕ) → IsPlan plan → phase < length plan.phases → Meet plan v guests (offered_before plan phase) (guest_before (vps_before plan phase) plan phase)
    → to_say plan part Nothing ≡ guest_from plan phase → to_hear plan part Nothing (length guests) ≡ host_from plan phase → GuestBegun plan (a_guest plan logs part Nothing (Some v) guests) (PhaseStart phase)
guest_phase plan logs part v guests phase planned in_plan meet left to_come =
    let onward = next_list plan logs part v guests phase 0 [] (phase_of plan phase) Nothing Nothing Same planned in_plan refl refl (at_start plan v guests phase (guest_before (vps_before plan phase) plan phase) planned in_plan meet) (λ none relid some. refl) in
    record {
      goes = onward.goes;
      says = λ sent sends. left ∙ guest_from_phase plan phase in_plan ∙ onward.says sent (guest_onward plan phase) sends;
      hears = to_come ∙ host_from_phase plan phase in_plan ∙ onward.heard (host_onward plan phase);
    }

host_phase : (plan : BusPlan) (logs : Logs) (part : Option Part) (v : Version) (hosts : List ChanState) (phase : ℕ) → IsPlan plan → phase < length plan.phases → Meet plan v hosts (offered_before plan phase) (host_before (vps_before plan phase) plan phase)
    → host_to_say plan part HostNothing [] ≡ host_from plan phase → host_to_hear plan part HostNothing [] [] ≡ guest_from plan phase → HostBegun plan (a_host plan logs part HostNothing (Some v) hosts (live_ones [])) (PhaseStart phase)
host_phase plan logs part v hosts phase planned in_plan meet left to_come =
    let onward = next_wait plan logs part v hosts hosts (live_ones []) phase 0 [] (phase_of plan phase) HostNothing planned in_plan refl refl (at_start plan v hosts phase (host_before (vps_before plan phase) plan phase) planned in_plan meet) in
    record {
      tried = [];
      pieces = pieces_of (opening_at plan phase 0);
      goes = onward.goes;
      says = λ sent e. ap (λ s. s ++ host_to_say plan part HostNothing []) (sym e)
          ∙ ap (λ xs. sent ++ xs) (left ∙ host_from_phase plan phase in_plan ∙ onward.says (host_onward plan phase));
      hears = to_come ∙ guest_from_phase plan phase in_plan ∙ onward.hears (guest_onward plan phase);
    }

-- the first channel that is done with is open, and the channels of the phase stand alike in the order in which they are closed
first_is : {X : Type 0} (plan : BusPlan) (channels : List X) (so : Opening → X) (base : ℕ → X) (phase : ℕ) (os : List Opening) → IsPlan plan → phase < length plan.phases → closing_of plan phase ≡ os
    → Stand channels (offered_before plan (suc phase)) (marked so os base) → NextIs so channels os
first_is plan channels so base phase [] planned in_plan is stand = tt
first_is plan channels so base phase (o ∷ left) planned in_plan is stand =
    let at : EndsAt plan phase 0 [] o left = record { in_plan = in_plan; closing_is = is; place_is = refl } in
    let fact = end_facts plan phase 0 [] o left planned at in
    stand.each o.relid fact.fits.named fact.known ∙ ap (λ c. Some c) (marked_here so o left base)

in_closing : {X : Type 0} (plan : BusPlan) (channels : List X) (so : Opening → X) (base : ℕ → X) (phase : ℕ) → IsPlan plan → phase < length plan.phases
    → Stand channels (offered_before plan (suc phase)) (marked so (phase_of plan phase) base) → Stand channels (offered_before plan (suc phase)) (marked so (closing_of plan phase) base)
in_closing plan channels so base phase planned in_plan stand =
    stand_like channels (offered_before plan (suc phase)) (marked so (phase_of plan phase) base) (marked so (closing_of plan phase) base) stand
    (λ q. marked_closing so base q (phase_of plan phase) (phase_relids plan phase planned in_plan).distinct)

guest_end : (plan : BusPlan) (logs : Logs) (v : Version) (guests : List Channel) (phase : ℕ) → IsPlan plan → phase < length plan.phases → Meet plan v guests (offered_before plan (suc phase)) (marked (guest_is (vps_before plan (suc phase)) Opened) (phase_of plan phase) (guest_before (vps_before plan (suc phase)) plan phase))
    → GuestBegun plan (a_guest plan logs (Some (PhaseStart phase)) Nothing (Some v) guests) (PhaseEnd phase)
guest_end plan logs v guests phase planned in_plan meet =
    let os : List Opening = closing_of plan phase in
    let turn : GuestTurn = guest_begins (a_guest plan logs (Some (PhaseStart phase)) Nothing (Some v) guests) (PhaseEnd phase) in
    let stand = in_closing plan guests (guest_is (vps_before plan (suc phase)) Opened) (guest_before (vps_before plan (suc phase)) plan phase) phase planned in_plan meet.stand in
    let ends = guest_goes plan v guests phase 0 [] os Nothing Same None planned in_plan refl refl stand (first_is plan guests (guest_is (vps_before plan (suc phase)) Opened) (guest_before (vps_before plan (suc phase)) plan phase) phase os planned in_plan refl stand) in
    record {
      goes = guest_stands_so plan phase v (Some (PhaseEnd phase)) guests turn (guest_next_awaits 0 os) (guest_next_stands (vps_before plan (suc phase)) os (guest_before (vps_before plan (suc phase)) plan phase)) (guest_next_sends os) ends
          (guest_next plan v (changed (changed guests turn.heard) turn.wished) phase 0 [] os planned in_plan refl refl (record { agreed = meet.agreed; stand = ends.guest }));
      says = λ sent sends.
          ap (λ xs. xs ++ guest_from plan (suc phase)) (ends_said plan phase 0 [] os in_plan refl refl) ∙ append_assoc (guest_next_sends os) (end_to_say os (guest_next_awaits 0 os)) (guest_from plan (suc phase))
          ∙ ap (λ xs. xs ++ (end_to_say os (guest_next_awaits 0 os) ++ guest_from plan (suc phase))) (sym (ends.said sent sends)) ∙ ap (λ w. sent ++ (end_to_say os w ++ guest_from plan (suc phase))) (sym ends.awaits);
      hears = ap (λ xs. xs ++ host_from plan (suc phase)) (ends_heard plan phase 0 [] os refl refl) ∙ ap (λ w. end_to_hear os w ++ host_from plan (suc phase)) (sym ends.awaits);
    }

host_end : (plan : BusPlan) (logs : Logs) (v : Version) (hosts : List ChanState) (phase : ℕ) → IsPlan plan → phase < length plan.phases → Meet plan v hosts (offered_before plan (suc phase)) (marked (host_is (vps_before plan (suc phase)) Opened) (phase_of plan phase) (host_before (vps_before plan (suc phase)) plan phase))
    → HostBegun plan (a_host plan logs (Some (PhaseStart phase)) HostNothing (Some v) hosts (live_ones (handles (phase_of plan phase)))) (PhaseEnd phase)
host_end plan logs v hosts phase planned in_plan meet =
    let os : List Opening = closing_of plan phase in
    let later : HostNext = next_end hosts 0 (closing_at plan phase 0) in
    let stand = in_closing plan hosts (host_is (vps_before plan (suc phase)) Opened) (host_before (vps_before plan (suc phase)) plan phase) phase planned in_plan meet.stand in
    let ends = host_goes plan hosts hosts phase 0 [] os planned in_plan refl refl stand (first_is plan hosts (host_is (vps_before plan (suc phase)) Opened) (host_before (vps_before plan (suc phase)) plan phase) phase os planned in_plan refl stand) in
    record {
      tried = [];
      pieces = [];
      goes = subst (λ l. HostStands plan (Some (PhaseEnd phase)) later.awaits (Some v) (rescinded_among hosts later.rescinds) (without_its l later.rescinds) [] []) (all_live (phase_of plan phase))
          (host_stands_so plan phase v (Some (PhaseEnd phase)) hosts (lists_but [] (phase_of plan phase)) later (host_next_awaits 0 os) (host_next_stands (vps_before plan (suc phase)) os (host_before (vps_before plan (suc phase)) plan phase)) (lists_but (host_next_done [] os) (phase_of plan phase)) (host_next_sends os) ends
          (host_next plan v (rescinded_among hosts later.rescinds) phase 0 [] os planned in_plan refl refl (record { agreed = meet.agreed; stand = ends.host })));
      says = λ sent sends.
          ap (λ xs. xs ++ host_from plan (suc phase)) (host_ends_said plan phase 0 [] os in_plan refl refl) ∙ append_assoc (host_next_sends os) (host_end_to_say os (host_next_awaits 0 os)) (host_from plan (suc phase))
          ∙ ap (λ xs. xs ++ (host_end_to_say os (host_next_awaits 0 os) ++ host_from plan (suc phase))) (sym (ends.said None sent sends)) ∙ ap (λ w. sent ++ (host_end_to_say os w ++ host_from plan (suc phase))) (sym ends.awaits);
      hears = ap (λ xs. xs ++ guest_from plan (suc phase)) (host_ends_heard plan phase 0 [] os refl refl) ∙ ap (λ w. host_end_to_hear os w ++ guest_from plan (suc phase)) (sym ends.awaits);
    }

late : (plan : BusPlan) (v : Version) → IsPlan plan → Agreed plan v → nat_le (version 3 0) (agreed plan) ≡ nat_le (version 3 0) v.0
late plan v planned is = ap (nat_le (version 3 0)) (sym (agreed_is plan v planned is))

-- a guest or a host that knows by its version whether the farewell is said
record GuestLeaves (plan : BusPlan) (guests : List Channel) (turn : GuestTurn) : Type 0 where
  goes : Turned plan (Some Unload) guests turn
  says : (sent : List Msg) → Sends plan turn.burst sent → from_3_0 plan (farewell ∷ []) ≡ sent ++ to_say plan (Some Unload) turn.awaits
  hears : from_3_0 plan (farewell_taken ∷ []) ≡ to_hear plan (Some Unload) turn.awaits (length guests)

record HostLeaves (plan : BusPlan) (v : Version) (hosts : List ChanState) (awaits : HostWait) : Type 0 where
  goes : HostStands plan (Some Unload) awaits (Some v) hosts (live_ones []) [] []
  says : from_3_0 plan (farewell_taken ∷ []) ≡ host_to_say plan (Some Unload) awaits []
  hears : from_3_0 plan (farewell ∷ []) ≡ host_to_hear plan (Some Unload) awaits [] []

guest_unload : (plan : BusPlan) (logs : Logs) (part : Option Part) (v : Version) (guests : List Channel) → IsPlan plan → Meet plan v guests (offered_before plan (length plan.phases)) (guest_before (vps_before plan (length plan.phases)) plan (length plan.phases))
    → to_say plan part Nothing ≡ from_3_0 plan (farewell ∷ []) → to_hear plan part Nothing (length guests) ≡ from_3_0 plan (farewell_taken ∷ []) → GuestBegun plan (a_guest plan logs part Nothing (Some v) guests) Unload
guest_unload plan logs part v guests planned meet left to_come =
    let g : GuestSeen = a_guest plan logs part Nothing (Some v) guests in
    let turn : Bool → GuestTurn = λ b. if b then record (idle g) { awaits = Unloaded; burst = One farewell } else record (idle g) { awaits = Nothing } in
    let P : Bool → Type 0 = λ b. (nat_le (version 3 0) (agreed plan) ≡ b) → GuestLeaves plan guests (turn b) in
    let both : P (nat_le (version 3 0) v.0) = by_test {P = P (nat_le (version 3 0) v.0)} (nat_le (version 3 0) v.0)
    (λ e. subst P (sym e) (λ f. record { goes = leaves v guests meet; says = λ sent s. ap (λ b. if b then farewell ∷ [] else []) f ∙ ap (λ s. s ++ []) (sym s); hears = ap (λ b. if b then farewell_taken ∷ [] else []) f }))
    (λ e. subst P (sym e) (λ f. record { goes = is_over v guests meet; says = λ sent s. ap (λ b. if b then farewell ∷ [] else []) f ∙ ap (λ s. s ++ []) (sym s); hears = ap (λ b. if b then farewell_taken ∷ [] else []) f })) in
    let there = both (late plan v planned meet.agreed) in
    record { goes = there.goes; says = λ sent sends. left ∙ there.says sent sends; hears = to_come ∙ there.hears }

host_unload : (plan : BusPlan) (logs : Logs) (part : Option Part) (v : Version) (hosts : List ChanState) → IsPlan plan → Meet plan v hosts (offered_before plan (length plan.phases)) (host_before (vps_before plan (length plan.phases)) plan (length plan.phases))
    → host_to_say plan part HostNothing [] ≡ from_3_0 plan (farewell_taken ∷ []) → host_to_hear plan part HostNothing [] [] ≡ from_3_0 plan (farewell ∷ []) → HostBegun plan (a_host plan logs part HostNothing (Some v) hosts (live_ones [])) Unload
host_unload plan logs part v hosts planned meet left to_come =
    let P : Bool → Type 0 = λ b. (nat_le (version 3 0) (agreed plan) ≡ b) → HostLeaves plan v hosts (if b then AwaitsUnload else HostNothing) in
    let both : P (nat_le (version 3 0) v.0) = by_test {P = P (nat_le (version 3 0) v.0)} (nat_le (version 3 0) v.0)
    (λ e. subst P (sym e) (λ f. record { goes = IsLeaving v hosts meet; says = ap (λ b. if b then farewell_taken ∷ [] else []) f; hears = ap (λ b. if b then farewell ∷ [] else []) f }))
    (λ e. subst P (sym e) (λ f. record { goes = IsDone v hosts meet; says = ap (λ b. if b then farewell_taken ∷ [] else []) f; hears = ap (λ b. if b then farewell ∷ [] else []) f })) in
    let there = both (late plan v planned meet.agreed) in
    record {
      tried = [];
      pieces = [];
      goes = there.goes;
      says = λ sent e. ap (λ s. s ++ host_to_say plan part HostNothing []) (sym e) ∙ ap (λ xs. sent ++ xs) (left ∙ there.says);
      hears = to_come ∙ there.hears;
    }

-- behind a phase comes the next one, or the farewell
behind : (plan : BusPlan) (phase : ℕ) (part : Part) (P : Part → Type 0) → phase < length plan.phases → part_after plan (Some (PhaseEnd phase)) ≡ Some part
    → (suc phase < length plan.phases → P (PhaseStart (suc phase))) → (suc phase ≡ length plan.phases → P Unload) → P part
behind plan phase part P in_plan is next last =
    let one : suc phase ≡ phase + 1 = omega arith in
    by_test {P = P part} (nat_lt (phase + 1) (length plan.phases))
    (λ e.
    let less : suc phase < length plan.phases = grind (arith, nat_tests, e) in
    let so : Some (PhaseStart (phase + 1)) ≡ Some part = sym (ap (λ b. if b then Some (PhaseStart (phase + 1)) else Some Unload) e) ∙ is in
    let same_part : PhaseStart (phase + 1) ≡ part = cc in
    subst P (ap (λ n. PhaseStart n) one ∙ same_part) (next less))
    (λ e.
    let over : suc phase ≡ length plan.phases = grind (arith, nat_tests, e, in_plan) in
    let so : Some Unload ≡ Some part = sym (ap (λ b. if b then Some (PhaseStart (phase + 1)) else Some Unload) e) ∙ is in
    let same_part : Unload ≡ part = cc in
    subst P same_part (last over))

pub guest_begins_so : (plan : BusPlan) (logs : Logs) (before : Option Part) (awaits : GuestWait) (version : Option Version) (channels : List Channel) (part : Part) → IsPlan plan → GuestStands plan before awaits version channels
    → can_begin (a_guest plan logs before awaits version channels) ≡ true → part_after plan before ≡ Some part → GuestBegun plan (a_guest plan logs before awaits version channels) part
guest_begins_so plan logs before awaits version channels part planned fresh can is = let same_part : Contact ≡ part = cc in subst (GuestBegun plan (a_guest plan logs None Nothing None [])) same_part (guest_contact plan logs planned)
guest_begins_so plan logs before awaits version channels part planned (contacted v cs meet) can is =
    let same_part : PhaseStart 0 ≡ part = cc in
    subst (GuestBegun plan (a_guest plan logs (Some Contact) Nothing (Some v) cs)) same_part (guest_phase plan logs (Some Contact) v cs 0 planned (omega (arith, planned.some)) meet refl refl)
guest_begins_so plan logs before awaits version channels part planned (started v cs phase in_plan meet) can is =
    let same_part : PhaseEnd phase ≡ part = cc in
    subst (GuestBegun plan (a_guest plan logs (Some (PhaseStart phase)) Nothing (Some v) cs)) same_part (guest_end plan logs v cs phase planned in_plan meet)
guest_begins_so plan logs before awaits version channels part planned (ended v cs phase in_plan meet) can is =
    behind plan phase part (GuestBegun plan (a_guest plan logs (Some (PhaseEnd phase)) Nothing (Some v) cs)) in_plan is
    (λ less. guest_phase plan logs (Some (PhaseEnd phase)) v cs (suc phase) planned less meet refl refl)
    (λ last. guest_unload plan logs (Some (PhaseEnd phase)) v cs planned (subst (λ n. Meet plan v cs (offered_before plan n) (guest_before (vps_before plan n) plan n)) last meet) (ap (guest_from plan) last ∙ guest_at_last plan) (ap (host_from plan) last ∙ host_at_last plan))
guest_begins_so plan logs before awaits version channels part planned _ can is = absurd (cc)

-- while a host waits for nothing, no version is still to be tried, and no piece is to come
pub record HostBeginsSo (plan : BusPlan) (h : HostSeen) (tried : List ℕ) (pieces : List Msg) (part : Part) : Type 0 where
  pub no_tries : tried ≡ []
  pub no_pieces : pieces ≡ []
  pub begun : HostBegun plan h part

so : (plan : BusPlan) (h : HostSeen) (part : Part) → HostBegun plan h part → HostBeginsSo plan h [] [] part
so plan h part begun = record { no_tries = refl; no_pieces = refl; begun = begun }

pub host_begins_so : (plan : BusPlan) (logs : Logs) (before : Option Part) (awaits : HostWait) (version : Option Version) (channels : List ChanState) (assembly : Assembly) (tried : List ℕ) (pieces : List Msg) (part : Part) → IsPlan plan
    → HostStands plan before awaits version channels assembly tried pieces → host_can_begin (a_host plan logs before awaits version channels assembly) ≡ true → part_after plan before ≡ Some part
    → HostBeginsSo plan (a_host plan logs before awaits version channels assembly) tried pieces part
host_begins_so plan logs before awaits version channels assembly tried pieces part planned IsFresh can is =
    let h : HostSeen = a_host plan logs None HostNothing None [] (live_ones []) in
    let same_part : Contact ≡ part = cc in
    so plan h part (subst (HostBegun plan h) same_part (host_contact plan logs planned))
host_begins_so plan logs before awaits version channels assembly tried pieces part planned (IsContacted v cs meet) can is =
    let h : HostSeen = a_host plan logs (Some Contact) HostNothing (Some v) cs (live_ones []) in
    let same_part : PhaseStart 0 ≡ part = cc in
    so plan h part (subst (HostBegun plan h) same_part (host_phase plan logs (Some Contact) v cs 0 planned (omega (arith, planned.some)) meet refl refl))
host_begins_so plan logs before awaits version channels assembly tried pieces part planned (IsStarted v cs phase in_plan meet) can is =
    let h : HostSeen = a_host plan logs (Some (PhaseStart phase)) HostNothing (Some v) cs (live_ones (handles (phase_of plan phase))) in
    let same_part : PhaseEnd phase ≡ part = cc in
    so plan h part (subst (HostBegun plan h) same_part (host_end plan logs v cs phase planned in_plan meet))
host_begins_so plan logs before awaits version channels assembly tried pieces part planned (IsEnded v cs phase in_plan meet) can is =
    let h : HostSeen = a_host plan logs (Some (PhaseEnd phase)) HostNothing (Some v) cs (live_ones []) in
    so plan h part (behind plan phase part (HostBegun plan h) in_plan is
    (λ less. host_phase plan logs (Some (PhaseEnd phase)) v cs (suc phase) planned less meet refl refl)
    (λ last. host_unload plan logs (Some (PhaseEnd phase)) v cs planned (subst (λ n. Meet plan v cs (offered_before plan n) (host_before (vps_before plan n) plan n)) last meet) (ap (host_from plan) last ∙ host_at_last plan) (ap (guest_from plan) last ∙ guest_at_last plan)))
host_begins_so plan logs before awaits version channels assembly tried pieces part planned _ can is = absurd (cc)
