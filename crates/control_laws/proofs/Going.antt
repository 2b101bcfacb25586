-- The laws of each side, and of both.
use Rattle.std.proofs.Common.{◌≡◌, ◌∙◌, ℕ, ◌&&◌, ◌||◌, not, Bool, true, false, List, [], ◌∷◌, ◌++◌, length, Option, Some, is_some, Ok, refl, sym, ap, subst, append_assoc, length-append, arith}
use Rattle.std.proofs.lemmas.List.{append-nil}
use Rattle.control_laws.proofs.Words.{Part, Msg, GuestTurn}
use Rattle.control_model.specs.Plan.{BusPlan, part_after}
use Rattle.control_model.specs.Channels.{changed}
use Rattle.control_model.specs.Messages.{Sends}
use Rattle.control_model.specs.Said.{said_by_guest, said_by_host}
use Rattle.control_model.specs.Guest.{GuestSeen, can_begin, waits_for_nothing, guest_begins, guest_hears, guest_after, GuestBegins, GuestTakes}
use Rattle.control_model.specs.Host.{HostSeen, HostTurn, host_can_begin, host_waits_for_nothing, host_begins, host_hears, host_after, HostBegins, HostTakes}
use Rattle.control_model.specs.GuestAt.{to_say, to_hear, GuestAt}
use Rattle.control_model.specs.GuestAt.GuestStands.{fresh as GuestFresh}
use Rattle.control_model.specs.HostAt.{host_to_say, host_to_hear, HostStands, HostAt}
use Rattle.control_model.specs.HostAt.HostStands.{fresh as HostFresh}
use Rattle.control_laws.specs.Sides.{IsFront, NewOnesStand, GuestStarts, HostStarts, GuestHears, HostHears, GuestFronts, HostFronts}
use Rattle.control_laws.specs.Laws.{Agrees, NewOnesAgree, BothBegin, HostGoesOn, GuestGoesOn, BothDone, FewOnTheirWay, EndsWell}
use Rattle.control_laws.proofs.Logs.{Logs, a_guest, a_host}
use Rattle.control_laws.proofs.Next.{Turned}
use Rattle.control_laws.proofs.GuestSteps.{guest_step}
use Rattle.control_laws.proofs.HostLists.{host_step}
use Rattle.control_laws.proofs.Beginning.{guest_begins_so, host_begins_so}
use Rattle.control_laws.proofs.Counting.{Near, near}
use Rattle.control_laws.proofs.Ending.{over_law}
use Rattle.control_laws.proofs.Marks.{or_true}

pub new_ones_stand : NewOnesStand
new_ones_stand plan = (record { plan_is = refl; stands = GuestFresh; said = refl; heard = refl }, record { plan_is = refl; tried = []; pieces = []; stands = HostFresh; said = refl; heard = refl })

pub guest_fronts : GuestFronts
guest_fronts plan g at = ((to_say plan g.part g.awaits, at.said), (to_hear plan g.part g.awaits (length g.channels), at.heard))

pub host_fronts : HostFronts
host_fronts plan h at = ((host_to_say plan h.part h.awaits at.tried, at.said), (host_to_hear plan h.part h.awaits at.tried at.pieces, at.heard))

-- a side by its plan
abbrev guest_logs : GuestSeen → Logs
guest_logs g = record { posted = g.posted; fed = g.fed }

abbrev guest_of : BusPlan → GuestSeen → GuestSeen
guest_of plan g = a_guest plan (guest_logs g) g.part g.awaits g.version g.channels

same_guest : (plan : BusPlan) (g : GuestSeen) → g.plan ≡ plan → g ≡ guest_of plan g
same_guest plan g is = (λ i. guest_of (is i) g)

abbrev host_logs : HostSeen → Logs
host_logs h = record { posted = h.posted; fed = h.fed }

abbrev host_of : BusPlan → HostSeen → HostSeen
host_of plan h = a_host plan (host_logs h) h.part h.awaits h.version h.channels h.lists

same_host : (plan : BusPlan) (h : HostSeen) → h.plan ≡ plan → h ≡ host_of plan h
same_host plan h is = (λ i. host_of (is i) h)

-- a side after a turn
guest_at_after : (plan : BusPlan) (g : GuestSeen) (part : Option Part) (turn : GuestTurn) (sent fed : List Msg) → GuestAt plan g → Turned plan part g.channels turn → to_say plan g.part g.awaits ≡ sent ++ to_say plan part turn.awaits
    → to_hear plan g.part g.awaits (length g.channels) ≡ fed ++ to_hear plan part turn.awaits (length (changed (changed g.channels turn.heard) turn.wished)) → GuestAt plan (guest_after (guest_of plan g) part turn sent fed)
guest_at_after plan g part turn sent fed at goes says hears = record {
  plan_is = refl;
  stands = goes;
  said = at.said ∙ ap (λ xs. g.posted ++ xs) says ∙ sym (append_assoc g.posted sent (to_say plan part turn.awaits));
  heard = at.heard ∙ ap (λ xs. g.fed ++ xs) hears ∙ sym (append_assoc g.fed fed (to_hear plan part turn.awaits (length (changed (changed g.channels turn.heard) turn.wished))));
}

host_at_after : (plan : BusPlan) (h : HostSeen) (part : Option Part) (turn : HostTurn) (sent fed : List Msg) (say hear : List Msg) (tried : List ℕ) (pieces : List Msg) → said_by_host plan ≡ h.posted ++ say → said_by_guest plan ≡ h.fed ++ hear
    → HostStands plan part turn.awaits turn.version turn.channels turn.lists tried pieces → say ≡ sent ++ host_to_say plan part turn.awaits tried → hear ≡ fed ++ host_to_hear plan part turn.awaits tried pieces → HostAt plan (host_after (host_of plan h) part turn sent fed)
host_at_after plan h part turn sent fed say hear tried pieces said heard goes says hears = record {
  plan_is = refl;
  tried = tried;
  pieces = pieces;
  stands = goes;
  said = said ∙ ap (λ xs. h.posted ++ xs) says ∙ sym (append_assoc h.posted sent (host_to_say plan part turn.awaits tried));
  heard = heard ∙ ap (λ xs. h.fed ++ xs) hears ∙ sym (append_assoc h.fed fed (host_to_hear plan part turn.awaits tried pieces));
}

pub guest_starts : GuestStarts
guest_starts plan g g' part sent planned at can is begins =
    let begun = guest_begins_so plan (guest_logs g) g.part g.awaits g.version g.channels part planned at.stands can is in
    let here : GuestBegins (guest_of plan g) part sent g' = subst (λ (k : GuestSeen). GuestBegins k part sent g') (same_guest plan g at.plan_is) begins in
    subst (GuestAt plan) (sym here.now) (guest_at_after plan g (Some part) (guest_begins (guest_of plan g) part) sent [] at begun.goes (begun.says sent here.sends) begun.hears)

pub host_starts : HostStarts
host_starts plan h h' part sent planned at can is begins =
    let so = host_begins_so plan (host_logs h) h.part h.awaits h.version h.channels h.lists at.tried at.pieces part planned at.stands can is in
    let begun = so.begun in
    let here : HostBegins (host_of plan h) part sent h' = subst (λ (k : HostSeen). HostBegins k part sent h') (same_host plan h at.plan_is) begins in
    let said : said_by_host plan ≡ h.posted ++ host_to_say plan h.part h.awaits [] = at.said ∙ ap (λ t. h.posted ++ host_to_say plan h.part h.awaits t) so.no_tries in
    let heard : said_by_guest plan ≡ h.fed ++ host_to_hear plan h.part h.awaits [] [] = at.heard ∙ (λ i. h.fed ++ host_to_hear plan h.part h.awaits (so.no_tries i) (so.no_pieces i)) in
    subst (HostAt plan) (sym here.now) (host_at_after plan h (Some part) (host_begins (host_of plan h) part) sent [] (host_to_say plan h.part h.awaits []) (host_to_hear plan h.part h.awaits [] []) begun.tried begun.pieces said heard begun.goes (begun.says sent here.sends) begun.hears)

-- the next one of a list is one message
same_left : (xs ys zs : List Msg) → xs ++ ys ≡ xs ++ zs → ys ≡ zs
same_left [] ys zs e = e
same_left (x ∷ xs) ys zs e = let rest : xs ++ ys ≡ xs ++ zs = cc in same_left xs ys zs rest

next_one : (all fed later rest : List Msg) (m n : Msg) → all ≡ fed ++ n ∷ later → all ≡ (fed ++ m ∷ []) ++ rest → n ≡ m
next_one all fed later rest m n here there =
    let both : n ∷ later ≡ m ∷ rest = same_left fed (n ∷ later) (m ∷ rest) (sym here ∙ there ∙ append_assoc fed (m ∷ []) rest) in
    cc

pub guest_takes : GuestHears
guest_takes plan g m planned at waits front =
    let goes = guest_step plan (guest_logs g) g.part g.awaits g.version g.channels planned at.stands waits in
    let step = goes.step in
    let hears = step.heard in
    let is : goes.next ≡ m = next_one (said_by_host plan) g.fed (to_hear plan g.part step.turn.awaits (length (changed (changed g.channels step.turn.heard) step.turn.wished))) front.0 m goes.next (at.heard ∙ ap (λ xs. g.fed ++ xs) hears) front.1 in
    let same = same_guest plan g at.plan_is in (
      (step.turn, (λ i. guest_hears (same i) (sym is i)) ∙ step.hears),
      λ sent g' takes.
          let here : GuestTakes (guest_of plan g) goes.next sent g' = subst (λ (k : GuestSeen). GuestTakes k goes.next sent g') same (subst (λ n. GuestTakes g n sent g') (sym is) takes) in
          let both : Ok step.turn ≡ Ok here.turn = sym step.hears ∙ here.hears in
          let turn : here.turn ≡ step.turn = cc in
          let now : g' ≡ guest_after (guest_of plan g) g.part step.turn sent (goes.next ∷ []) = here.now ∙ ap (λ t. guest_after (guest_of plan g) g.part t sent (goes.next ∷ [])) turn in
          subst (GuestAt plan) (sym now) (guest_at_after plan g g.part step.turn sent (goes.next ∷ []) at step.goes (step.says sent (subst (λ (t : GuestTurn). Sends plan t.burst sent) turn here.sends)) hears),
    )

pub host_takes : HostHears
host_takes plan h m planned at waits front =
    let goes = host_step plan (host_logs h) h.part h.awaits h.version h.channels h.lists at.tried at.pieces planned at.stands waits in
    let step = goes.step in
    let hears = step.heard in
    let is : goes.next ≡ m = next_one (said_by_guest plan) h.fed (host_to_hear plan h.part step.turn.awaits step.tried_then step.pieces_then) front.0 m goes.next (at.heard ∙ ap (λ xs. h.fed ++ xs) hears) front.1 in
    let same = same_host plan h at.plan_is in (
      (step.turn, (λ i. host_hears (same i) (sym is i)) ∙ step.hears),
      λ sent h' takes.
          let here : HostTakes (host_of plan h) goes.next sent h' = subst (λ (k : HostSeen). HostTakes k goes.next sent h') same (subst (λ n. HostTakes h n sent h') (sym is) takes) in
          let both : Ok step.turn ≡ Ok here.turn = sym step.hears ∙ here.hears in
          let turn : here.turn ≡ step.turn = cc in
          let sends : Sends plan step.turn.burst sent = subst (λ (t : HostTurn). Sends plan t.burst sent) turn here.sends in
          let now : h' ≡ host_after (host_of plan h) h.part step.turn sent (goes.next ∷ []) = here.now ∙ ap (λ t. host_after (host_of plan h) h.part t sent (goes.next ∷ [])) turn in
          subst (HostAt plan) (sym now) (host_at_after plan h h.part step.turn sent (goes.next ∷ []) (host_to_say plan h.part h.awaits at.tried) (host_to_hear plan h.part h.awaits at.tried at.pieces) step.tried_then step.pieces_then at.said at.heard step.goes (step.says sent sends) hears),
    )

-- both
pub new_ones_law : NewOnesAgree
new_ones_law plan planned = let both = new_ones_stand plan in record { planned = planned; guest_at = both.0; host_at = both.1; part = refl; guest_sent = refl; host_sent = refl }

pub near_by : (plan : BusPlan) (g : GuestSeen) (h : HostSeen) (to_host to_guest : List Msg) → Agrees plan g h to_host to_guest → Near (length to_host) (length to_guest) (waits_for_nothing g.awaits) (host_waits_for_nothing h.awaits)
near_by plan g h to_host to_guest agrees =
    let guest = agrees.guest_at in
    let host = agrees.host_at in
    let stands : HostStands plan g.part h.awaits h.version h.channels h.lists host.tried host.pieces = subst (λ p. HostStands plan p h.awaits h.version h.channels h.lists host.tried host.pieces) agrees.part host.stands in
    let a1 = ap length (subst (λ p. said_by_guest plan ≡ h.fed ++ host_to_hear plan p h.awaits host.tried host.pieces) agrees.part host.heard) in
    let a2 = length-append h.fed (host_to_hear plan g.part h.awaits host.tried host.pieces) in
    let a3 = ap length guest.said in
    let a4 = length-append g.posted (to_say plan g.part g.awaits) in
    let a5 = ap length agrees.guest_sent in
    let a6 = length-append h.fed to_host in
    let b1 = ap length guest.heard in
    let b2 = length-append g.fed (to_hear plan g.part g.awaits (length g.channels)) in
    let b3 = ap length (subst (λ p. said_by_host plan ≡ h.posted ++ host_to_say plan p h.awaits host.tried) agrees.part host.said) in
    let b4 = length-append h.posted (host_to_say plan g.part h.awaits host.tried) in
    let b5 = ap length agrees.host_sent in
    let b6 = length-append g.fed to_guest in
    near plan g.part g.awaits g.version g.channels h.awaits h.version h.channels h.lists host.tried host.pieces (length to_host) (length to_guest) agrees.planned guest.stands stands (omega (arith, a1, a2, a3, a4, a5, a6)) (omega (arith, b1, b2, b3, b4, b5, b6))

-- where no message is on its way, both wait for nothing
both_wait : (a b : Bool) → Near 0 0 a b → (a ≡ true) × (b ≡ true)
both_wait true true n = (refl, refl)
both_wait true false n = let one = n.some refl in absurd (omega (arith, one))
both_wait false b n = let one = n.some refl in absurd (omega (arith, one))

pub both_can_begin : (plan : BusPlan) (g : GuestSeen) (h : HostSeen) → Agrees plan g h [] [] → (can_begin g ≡ true) × (host_can_begin h ≡ true)
both_can_begin plan g h agrees =
    let both = both_wait (waits_for_nothing g.awaits) (host_waits_for_nothing h.awaits) (near_by plan g h [] [] agrees) in
    (ap (λ b. not (is_some g.part) || b) both.0 ∙ or_true (not (is_some g.part)), ap (λ b. not (is_some h.part) || b) both.1 ∙ or_true (not (is_some h.part)))

pub begin_law : BothBegin
begin_law plan g g' h h' part sent back agrees is guest host =
    let can = both_can_begin plan g h agrees in
    record {
      planned = agrees.planned;
      guest_at = guest_starts plan g g' part sent agrees.planned agrees.guest_at can.0 is guest;
      host_at = host_starts plan h h' part back agrees.planned agrees.host_at can.1 (ap (part_after plan) agrees.part ∙ is) host;
      part = ap (λ (k : HostSeen). k.part) host.now ∙ sym (ap (λ (k : GuestSeen). k.part) guest.now);
      guest_sent = ap (λ (k : GuestSeen). k.posted) guest.now ∙ ap (λ xs. xs ++ sent) (agrees.guest_sent ∙ append-nil h.fed) ∙ ap (λ xs. xs ++ sent) (sym (append-nil h.fed)) ∙ ap (λ xs. xs ++ sent) (sym (ap (λ (k : HostSeen). k.fed) host.now));
      host_sent = ap (λ (k : HostSeen). k.posted) host.now ∙ ap (λ xs. xs ++ back) (agrees.host_sent ∙ append-nil g.fed) ∙ ap (λ xs. xs ++ back) (sym (append-nil g.fed)) ∙ ap (λ xs. xs ++ back) (sym (ap (λ (k : GuestSeen). k.fed) guest.now));
    }

-- what comes next is in the front of all
fits_in : (all posted fed box say : List Msg) (m : Msg) → all ≡ posted ++ say → posted ≡ fed ++ (m ∷ box) → IsFront (fed ++ m ∷ []) all
fits_in all posted fed box say m said sent = (box ++ say, said ∙ ap (λ xs. xs ++ say) sent ∙ append_assoc fed (m ∷ box) say ∙ sym (append_assoc fed (m ∷ []) (box ++ say)))

pub host_law : HostGoesOn
host_law plan g h m to_host to_guest agrees =
    let guest = agrees.guest_at in
    let waits = (near_by plan g h (m ∷ to_host) to_guest agrees).host_waits (omega arith) in
    let goes = host_takes plan h m agrees.planned agrees.host_at waits (fits_in (said_by_guest plan) g.posted h.fed to_host (to_say plan g.part g.awaits) m guest.said agrees.guest_sent) in (
      goes.0,
      λ sent h' takes.
          let there = goes.1 sent h' takes in
          let fed : h'.fed ≡ h.fed ++ m ∷ [] = ap (λ (k : HostSeen). k.fed) takes.now in
          let all = ap (λ p. length (said_by_guest p)) guest.plan_is in (
            record {
              planned = agrees.planned;
              guest_at = guest;
              host_at = there;
              part = ap (λ (k : HostSeen). k.part) takes.now ∙ agrees.part;
              guest_sent = agrees.guest_sent ∙ sym (append_assoc h.fed (m ∷ []) to_host) ∙ ap (λ xs. xs ++ to_host) (sym fed);
              host_sent = (ap (λ (k : HostSeen). k.posted) takes.now) ∙ ap (λ xs. xs ++ sent) agrees.host_sent ∙ append_assoc g.fed to_guest sent;
            },
            omega (arith, ap length there.heard, length-append h'.fed (host_to_hear plan h'.part h'.awaits there.tried there.pieces), ap length fed, length-append h.fed (m ∷ []), all),
          ),
    )

pub guest_law : GuestGoesOn
guest_law plan g h m to_host to_guest agrees =
    let guest = agrees.guest_at in
    let host = agrees.host_at in
    let waits = (near_by plan g h to_host (m ∷ to_guest) agrees).guest_waits (omega arith) in
    let goes = guest_takes plan g m agrees.planned guest waits (fits_in (said_by_host plan) h.posted g.fed to_guest (host_to_say plan h.part h.awaits host.tried) m host.said agrees.host_sent) in (
      goes.0,
      λ sent g' takes.
          let there = goes.1 sent g' takes in
          let fed : g'.fed ≡ g.fed ++ m ∷ [] = ap (λ (k : GuestSeen). k.fed) takes.now in
          let all = ap (λ p. length (said_by_host p)) guest.plan_is in
          let now = ap (λ p. length (said_by_host p)) there.plan_is in
          let same = ap (λ p. length (said_by_guest p)) (there.plan_is ∙ sym guest.plan_is) in (
            record {
              planned = agrees.planned;
              guest_at = there;
              host_at = host;
              part = agrees.part ∙ sym (ap (λ (k : GuestSeen). k.part) takes.now);
              guest_sent = (ap (λ (k : GuestSeen). k.posted) takes.now) ∙ ap (λ xs. xs ++ sent) agrees.guest_sent ∙ append_assoc h.fed to_host sent;
              host_sent = agrees.host_sent ∙ sym (append_assoc g.fed (m ∷ []) to_guest) ∙ ap (λ xs. xs ++ to_guest) (sym fed);
            },
            omega (arith, ap length there.heard, length-append g'.fed (to_hear plan g'.part g'.awaits (length g'.channels)), ap length fed, length-append g.fed (m ∷ []), all, now, same),
          ),
    )

pub done_law : BothDone
done_law plan g h agrees some =
    let both = both_wait (waits_for_nothing g.awaits) (host_waits_for_nothing h.awaits) (near_by plan g h [] [] agrees) in
    ((λ i. some i && both.0 i), (λ i. (ap is_some agrees.part ∙ some) i && both.1 i), agrees.part)

pub few_law : FewOnTheirWay
few_law plan g h to_host to_guest agrees = let n = near_by plan g h to_host to_guest agrees in (n.few_to_host, n.few_to_guest)

pub ends_law : EndsWell
ends_law plan g h agrees last =
    let over = done_law plan g h agrees (ap is_some last) in
    over_law plan g h agrees.planned agrees.guest_at agrees.host_at last (agrees.part ∙ last) over.0 over.1
