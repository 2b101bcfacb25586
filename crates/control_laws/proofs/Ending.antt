-- How both stand at the end.
use Rattle.std.proofs.Common.{◌≡◌, ◌∙◌, ℕ, zero, suc, ◌<◌, ◌≢◌, ◌≤◌, ◌==◌, ◌&&◌, ◌||◌, Bool, true, false, List, [], ◌∷◌, ◌++◌, length, map, take, Option, Some, is_some, if◌then◌else◌, refl, sym, ap, subst, arith}
use Rattle.std.specs.List.{AllByRecursion, list_any}
use Rattle.std.proofs.lemmas.Bool.{eqb-true}
use Rattle.std.proofs.lemmas.List.{take_all, append-nil}
use Rattle.std.proofs.lemmas.List.Folds.{list_any-append}
use Rattle.control_laws.proofs.Words.{Version, Part, Unload, State, Closed, Released, ChanState, Assembly, Msg, Opening, Channel, GuestWait, HostWait}
use Rattle.chan_state.specs.declared.state.State.TheVariants.{Offered}
use Rattle.control_model.specs.Plan.{BusPlan, all_openings, IsPlan, phase_of}
use Rattle.control_model.specs.Guest.{offered_channel, waits_for_nothing}
use Rattle.control_model.specs.Host.{offered_life, host_waits_for_nothing}
use Rattle.control_model.specs.Said.{channel_count, ends_given_back, said_by_guest, said_by_host, last_state, at_end}
use Rattle.control_model.specs.Stand.{marked, vps_before, before_phase, end_state, guest_ends, host_ends, Stand, Agreed}
use Rattle.control_model.specs.GuestAt.{to_say, to_hear, GuestStands}
use Rattle.control_model.specs.GuestAt.GuestStands.{is_over}
use Rattle.control_model.specs.HostAt.{host_to_say, host_to_hear, HostStands}
use Rattle.control_model.specs.HostAt.HostStands.{is_over as IsDone}
use Rattle.control_laws.specs.Over.{vps_at_end}
use Rattle.control_laws.specs.Sides.{BothOver}
use Rattle.control_laws.proofs.Marks.{by_test, differ, or_false, or_true}
use Rattle.control_laws.proofs.Plans.{not_given_back}
use Rattle.control_laws.proofs.Relids.{phase_relids, all_offered}
use Rattle.control_laws.proofs.Closing.{Distinct}
use Rattle.control_laws.proofs.Cutting.{all_weaker, openings_more}
use Rattle.control_laws.proofs.States.{all_stand}
use Rattle.control_laws.proofs.Vps.{vp_known}
use Rattle.control_laws.proofs.Tried.{agreed_is}

-- openings of a channel, and those of them behind which it is given back
abbrev pub opens_it : ℕ → List Opening → Bool
opens_it relid os = list_any (λ o. o.relid == relid) os

abbrev pub rescinds_it : ℕ → List Opening → Bool
rescinds_it relid os = list_any (λ o. (o.relid == relid) && ends_given_back o) os

none_opens : (relid : ℕ) (os : List Opening) → AllByRecursion (λ p. p.relid ≢ relid) os → opens_it relid os ≡ false
none_opens relid [] apart = refl
none_opens relid (o ∷ os) apart = rw (differ o.relid relid apart.0) (none_opens relid os apart.1)

pub not_opened : (relid : ℕ) (os : List Opening) → opens_it relid os ≡ false → rescinds_it relid os ≡ false
not_opened relid [] none = refl
not_opened relid (o ∷ os) none = by_test {P = rescinds_it relid (o ∷ os) ≡ false} (o.relid == relid)
    (λ e. let wrong : true ≡ false = rw e at none in absurd (cc))
    (λ e. let rest : opens_it relid os ≡ false = rw e at none in rw e (not_opened relid os rest))

-- at the end of a phase a channel that it opened stands as it left it
marked_state : {X : Type 0} (state : X → State) (as_left : Opening → X) (os : List Opening) (before : ℕ → X) (relid : ℕ) → ((o : Opening) → state (as_left o) ≡ end_state (ends_given_back o)) → Distinct (λ o. o.relid) os
    → state (marked as_left os before relid) ≡ (if opens_it relid os then end_state (rescinds_it relid os) else state (before relid))
marked_state state as_left [] before relid is apart = refl
marked_state {X} state as_left (o ∷ os) before relid is apart = by_test {P = state (marked as_left (o ∷ os) before relid) ≡ (if opens_it relid (o ∷ os) then end_state (rescinds_it relid (o ∷ os)) else state (before relid))} (o.relid == relid)
    (λ e.
    let this : o.relid ≡ relid = eqb-true o.relid relid e in
    let none : rescinds_it relid os ≡ false = not_opened relid os (none_opens relid os (all_weaker (λ p. p.relid ≢ o.relid) (λ p. p.relid ≢ relid) (λ p off e. off (e ∙ sym this)) os apart.0)) in
    rw (e, none) (is o ∙ ap end_state (sym (or_false (ends_given_back o)))))
    (λ e. rw e (marked_state state as_left os before relid is apart.1))

-- the state of a channel, by what earlier phases did and what this one does
abbrev stands_so : Bool → Bool → State
stands_so gone opened = if gone then Released else if opened then Closed else Offered

both_phases : (gone opened here_gone here : Bool) → (here ≡ true → gone ≡ false) → (here ≡ false → here_gone ≡ false) → (if here then end_state here_gone else stands_so gone opened) ≡ stands_so (gone || here_gone) (opened || here)
both_phases gone opened here_gone false once none = ap (λ b. stands_so b opened) (sym (or_none gone here_gone (none refl))) ∙ ap (stands_so (gone || here_gone)) (sym (or_none opened false refl))
  where
    or_none : (a b : Bool) → b ≡ false → (a || b) ≡ a
    or_none true b e = refl
    or_none false b e = e
both_phases gone opened here_gone true once none = here_so here_gone ∙ ap (λ b. stands_so (b || here_gone) (opened || true)) (sym (once refl))
  where
    here_so : (b : Bool) → end_state b ≡ stands_so (false || b) (opened || true)
    here_so true = refl
    here_so false = ap (λ o. stands_so false o) (sym (or_true opened))

-- where a phase opens a channel, no earlier one rescinded it
matches : (relid : ℕ) (q : Opening) (os : List Opening) → opens_it relid os ≡ true → AllByRecursion (λ p. p.relid ≡ q.relid → ends_given_back q ≡ false) os → q.relid ≡ relid → ends_given_back q ≡ false
matches relid q [] some all is = absurd (let wrong : false ≡ true = some in cc)
matches relid q (o ∷ os) some all is = by_test {P = ends_given_back q ≡ false} (o.relid == relid)
    (λ e. all.0 (eqb-true o.relid relid e ∙ sym is))
    (λ e. let rest : opens_it relid os ≡ true = rw e at some in matches relid q os rest all.1 is)

none_rescinded : (relid : ℕ) (qs : List Opening) → AllByRecursion (λ q. q.relid ≡ relid → ends_given_back q ≡ false) qs → rescinds_it relid qs ≡ false
none_rescinded relid [] all = refl
none_rescinded relid (q ∷ qs) all = by_test {P = rescinds_it relid (q ∷ qs) ≡ false} (q.relid == relid)
    (λ e. let off = all.0 (eqb-true q.relid relid e) in rw (e, off) (none_rescinded relid qs all.1))
    (λ e. rw e (none_rescinded relid qs all.1))

pub earlier_not : (plan : BusPlan) (relid phase k : ℕ) → IsPlan plan → phase < length plan.phases → k ≤ phase → opens_it relid (phase_of plan phase) ≡ true → rescinds_it relid (all_openings (take k plan.phases)) ≡ false
earlier_not plan relid phase zero planned less few here = refl
earlier_not plan relid phase (suc k) planned less few here =
    let os : List Opening = phase_of plan phase in
    let test : Opening → Bool = λ o. (o.relid == relid) && ends_given_back o in
    let all = not_given_back plan k phase planned (omega (arith, few)) less in
    let each = all_weaker (λ q. AllByRecursion (λ p. p.relid ≡ q.relid → ends_given_back q ≡ false) os) (λ q. q.relid ≡ relid → ends_given_back q ≡ false) (λ q a is. matches relid q os here a is) (phase_of plan k) all in
    ap (list_any test) (openings_more plan.phases k (omega (arith, few, less))) ∙ list_any-append test (all_openings (take k plan.phases)) (phase_of plan k)
    ∙ ap (λ b. b || rescinds_it relid (phase_of plan k)) (earlier_not plan relid phase k planned less (omega (arith, few)) here) ∙ none_rescinded relid (phase_of plan k) each

-- the state of a channel before a phase
before_state : {X : Type 0} (plan : BusPlan) (state : X → State) (as_left : Opening → X) (unopened : X) (phase relid : ℕ) → IsPlan plan → state unopened ≡ Offered → ((o : Opening) → state (as_left o) ≡ end_state (ends_given_back o)) → phase ≤ length plan.phases
    → state (before_phase plan as_left unopened phase relid) ≡ stands_so (rescinds_it relid (all_openings (take phase plan.phases))) (opens_it relid (all_openings (take phase plan.phases)))
before_state plan state as_left unopened zero relid planned first is few = first
before_state plan state as_left unopened (suc phase) relid planned first is few =
    let less : phase < length plan.phases = omega (arith, few) in
    let os : List Opening = phase_of plan phase in
    let old : List Opening = all_openings (take phase plan.phases) in
    let more : all_openings (take (suc phase) plan.phases) ≡ old ++ os = openings_more plan.phases phase less in
    let opened : opens_it relid (all_openings (take (suc phase) plan.phases)) ≡ (opens_it relid old || opens_it relid os) = ap (opens_it relid) more ∙ list_any-append (λ o. o.relid == relid) old os in
    marked_state state as_left os (before_phase plan as_left unopened phase) relid is (phase_relids plan phase planned less).distinct
    ∙ ap (λ s. if opens_it relid os then end_state (rescinds_it relid os) else s) (before_state plan state as_left unopened phase relid planned first is (omega (arith, few)))
    ∙ both_phases (rescinds_it relid old) (opens_it relid old) (rescinds_it relid os) (opens_it relid os) (λ here. earlier_not plan relid phase phase planned less (omega arith) here) (not_opened relid os)
    ∙ sym (λ i. stands_so ((ap (rescinds_it relid) more ∙ list_any-append (λ o. (o.relid == relid) && ends_given_back o) old os) i) (opened i))

at_last : {X : Type 0} (plan : BusPlan) (state : X → State) (as_left : Opening → X) (unopened : X) (relid : ℕ) → IsPlan plan → state unopened ≡ Offered → ((o : Opening) → state (as_left o) ≡ end_state (ends_given_back o))
    → state (before_phase plan as_left unopened (length plan.phases) relid) ≡ last_state plan relid
at_last plan state as_left unopened relid planned first is =
    before_state plan state as_left unopened (length plan.phases) relid planned first is (omega arith)
    ∙ ap (λ phases. stands_so (rescinds_it relid (all_openings phases)) (opens_it relid (all_openings phases))) (take_all (length plan.phases) plan.phases (omega arith))

-- a side that is done with the farewell
record AllOver {X : Type 0} (plan : BusPlan) (version : Option Version) (channels : List X) (state : X → State) (vp : X → ℕ) (say hear : List Msg) : Type 0 where
  last : Version
  agreed : Agreed plan last
  version_is : version ≡ Some last
  stands : map state channels ≡ at_end plan
  vps : map vp channels ≡ vps_at_end plan
  no_say : say ≡ []
  no_hear : hear ≡ []

guest_ended : (plan : BusPlan) (part : Option Part) (awaits : GuestWait) (version : Option Version) (channels : List Channel) → IsPlan plan → GuestStands plan part awaits version channels → part ≡ Some Unload → (is_some part && waits_for_nothing awaits) ≡ true
    → AllOver plan version channels (λ c. c.life.state) (λ c. c.life.vp) (to_say plan part awaits) (to_hear plan part awaits (length channels))
guest_ended plan part awaits version channels planned (is_over v cs meet) last over =
    let n : ℕ = length plan.phases in
    let vps : ℕ → ℕ = vps_before plan n in
    let stands : ℕ → Channel = before_phase plan (guest_ends vps) offered_channel n in
    let stand : Stand cs (channel_count plan) stands = subst (λ k. Stand cs k stands) (all_offered plan) meet.stand in
    record {
      last = v;
      agreed = meet.agreed;
      version_is = refl;
      stands = all_stand (λ (c : Channel). c.life.state) (last_state plan) cs plan stands stand (λ relid. at_last plan (λ (c : Channel). c.life.state) (guest_ends vps) offered_channel relid planned refl (λ o. refl));
      vps = all_stand (λ (c : Channel). c.life.vp) vps cs plan stands stand (λ relid. vp_known plan (λ (c : Channel). c.life.vp) (guest_ends vps) offered_channel n relid (λ o. refl) refl);
      no_say = refl;
      no_hear = refl;
    }
guest_ended plan part awaits version channels planned _ last over = absurd (cc)

host_ended : (plan : BusPlan) (part : Option Part) (awaits : HostWait) (version : Option Version) (channels : List ChanState) (assembly : Assembly) (tried : List ℕ) (pieces : List Msg) → IsPlan plan → HostStands plan part awaits version channels assembly tried pieces
    → part ≡ Some Unload → (is_some part && host_waits_for_nothing awaits) ≡ true → AllOver plan version channels (λ c. c.state) (λ c. c.vp) (host_to_say plan part awaits tried) (host_to_hear plan part awaits tried pieces)
host_ended plan part awaits version channels assembly tried pieces planned (IsDone v cs meet) last over =
    let n : ℕ = length plan.phases in
    let vps : ℕ → ℕ = vps_before plan n in
    let stands : ℕ → ChanState = before_phase plan (host_ends vps) offered_life n in
    let stand : Stand cs (channel_count plan) stands = subst (λ k. Stand cs k stands) (all_offered plan) meet.stand in
    record {
      last = v;
      agreed = meet.agreed;
      version_is = refl;
      stands = all_stand (λ (c : ChanState). c.state) (last_state plan) cs plan stands stand (λ relid. at_last plan (λ (c : ChanState). c.state) (host_ends vps) offered_life relid planned refl (λ o. refl));
      vps = all_stand (λ (c : ChanState). c.vp) vps cs plan stands stand (λ relid. vp_known plan (λ (c : ChanState). c.vp) (host_ends vps) offered_life n relid (λ o. refl) refl);
      no_say = refl;
      no_hear = refl;
    }
host_ended plan part awaits version channels assembly tried pieces planned _ last over = absurd (cc)

-- how both stand at the end
pub over_law : BothOver
over_law plan g h planned guest host guest_part host_part guest_over host_over =
    let here = guest_ended plan g.part g.awaits g.version g.channels planned guest.stands guest_part guest_over in
    let there = host_ended plan h.part h.awaits h.version h.channels h.lists host.tried host.pieces planned host.stands host_part host_over in
    let guest_said : g.posted ≡ said_by_guest plan = sym (guest.said ∙ ap (λ xs. g.posted ++ xs) here.no_say ∙ append-nil g.posted) in
    let guest_fed : g.fed ≡ said_by_host plan = sym (guest.heard ∙ ap (λ xs. g.fed ++ xs) here.no_hear ∙ append-nil g.fed) in
    let host_said : h.posted ≡ said_by_host plan = sym (host.said ∙ ap (λ xs. h.posted ++ xs) there.no_say ∙ append-nil h.posted) in
    let host_fed : h.fed ≡ said_by_guest plan = sym (host.heard ∙ ap (λ xs. h.fed ++ xs) there.no_hear ∙ append-nil h.fed) in
    record {
      guest_part = guest_part;
      host_part = host_part;
      guest_done = guest_over;
      host_done = host_over;
      version = here.last;
      agreed = here.agreed;
      at_guest = here.version_is;
      at_host = there.version_is ∙ (λ i. Some (record { 0 = (agreed_is plan there.last planned there.agreed ∙ sym (agreed_is plan here.last planned here.agreed)) i }));
      guest_stands = here.stands;
      host_stands = there.stands;
      guest_vps = here.vps;
      host_vps = there.vps;
      guest_said = guest_said;
      host_said = host_said;
      guest_fed = guest_fed ∙ sym host_said;
      host_fed = host_fed ∙ sym guest_said;
    }
