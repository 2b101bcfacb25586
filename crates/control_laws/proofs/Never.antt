-- What holds of each kind of message that a side says holds of all that it says; so what a side never says, and the other one never takes.
use Rattle.std.proofs.Common.{◌≢◌, ℕ, zero, suc, ◌+◌, Bool, true, false, List, [], ◌∷◌, ◌++◌, length, map, drop, Option, Some, None, if◌then◌else◌, refl, sym, subst}
use Rattle.std.specs.List.{AllByRecursion, flat_map}
use Rattle.std.proofs.lemmas.List.Concat.{flat_map-cons}
use Rattle.control_laws.proofs.Words.{Kind, Disk, Sock, versions_tried, answers_modify, offer, offers_from, bodies, Msg, GpadlHeader, GpadlBody, GpadlTeardown, Body, Opening, Buffer, Receive, Send}
use Rattle.gpadl.specs.Cut.{cut}
use Rattle.vmbus_msg.specs.declared.gpadl_header.GpadlHeader.{GpadlHeader as Header}
use Rattle.control_model.specs.Messages.{propose, respond, delivered, request, connect, pages_from, buffer_pages, created, opened, offer_sub, open_on, modify, modified, close, teardown, torndown, rescind, release, farewell, farewell_taken}
use Rattle.control_model.specs.Plan.{BusPlan, buffer_list, is_sub, subs_next, in_closing_order, vp_for}
use Rattle.control_model.specs.Said.{agreed, answer_to, moved, guest_contacts, host_contacts, guest_moves, host_moves, dials, dial_offers, guest_lists, guest_buffer, guest_buffers, host_buffers, guest_empties, host_empties, guest_opens, host_opens, host_opens_all, guest_closes, host_closes, only_sub, guest_in_phase, host_in_phase, from_3_0}
use Rattle.control_laws.specs.Sides.{GuestIsCut, HostIsCut}

module _ (P : Msg → Type 0) where
  both : (xs ys : List Msg) → AllByRecursion P xs → AllByRecursion P ys → AllByRecursion P (xs ++ ys)
  both [] ys a b = b
  both (x ∷ xs) ys a b = (a.0, both xs ys a.1 b)

  mapped : {X : Type 0} (f : X → Msg) (vs : List X) → ((v : X) → P (f v)) → AllByRecursion P (map f vs)
  mapped f [] all = tt
  mapped f (v ∷ vs) all = (all v, mapped f vs all)

  in_each : {X : Type 0} (f : X → List Msg) (xs : List X) → ((x : X) → AllByRecursion P (f x)) → AllByRecursion P (flat_map f xs)
  in_each f [] all = tt
  in_each f (x ∷ xs) all = subst (AllByRecursion P) (sym (flat_map-cons f x xs)) (both (f x) (flat_map f xs) (all x) (in_each f xs all))

  either : (b : Bool) (xs ys : List Msg) → AllByRecursion P xs → AllByRecursion P ys → AllByRecursion P (if b then xs else ys)
  either true xs ys a c = a
  either false xs ys a c = c

  pub only_if : (b : Bool) (xs : List Msg) → AllByRecursion P xs → AllByRecursion P (if b then xs else [])
  only_if b xs all = either b xs [] all tt

  -- of a host
  pub all_offers : ((kind : Kind) (relid : ℕ) → P (offer kind relid 0)) → (relid : ℕ) (kinds : List Kind) → AllByRecursion P (offers_from relid kinds)
  all_offers offered relid [] = tt
  all_offers offered relid (kind ∷ kinds) = (offered kind relid, all_offers offered (relid + 1) kinds)

  pub host_contact : (plan : BusPlan) → ((n : ℕ) → P (respond n)) → AllByRecursion P (offers_from 1 plan.kinds) → P delivered → AllByRecursion P (host_contacts plan)
  host_contact plan responds offered delivers =
      let tried : List ℕ = versions_tried plan.guest.0 plan.host.0 in
      both (map (answer_to plan) tried) (offers_from 1 plan.kinds ++ delivered ∷ []) (mapped (answer_to plan) tried (λ v. responds _)) (both (offers_from 1 plan.kinds) (delivered ∷ []) offered (delivers, tt))

  host_opening : ((kind : Kind) (relid : ℕ) → P (offer kind relid 0)) → ((relid handle : ℕ) → P (created relid handle)) → ((relid : ℕ) → P (opened relid relid)) → (o : Opening) → AllByRecursion P (host_opens o)
  host_opening offered creates opens o =
      both (dial_offers o.relid o.dialed) (created o.relid o.gpadl ∷ opened o.relid o.relid ∷ host_buffers o) (dialed o.dialed) (creates _ _, (opens _, only_if o.buffers _ (creates _ _, (creates _ _, tt))))
    where
      dialed : (port : Option ℕ) → AllByRecursion P (dial_offers o.relid port)
      dialed None = tt
      dialed (Some port) = (offered (Sock port) o.relid, tt)

  pub host_starts : ((kind : Kind) (relid sub : ℕ) → P (offer kind relid sub)) → ((relid handle : ℕ) → P (created relid handle)) → ((relid : ℕ) → P (opened relid relid)) → (os : List Opening) → AllByRecursion P (host_opens_all os)
  host_starts offered creates opens [] = tt
  host_starts offered creates opens (o ∷ os) =
      let subs : List Msg = map offer_sub (subs_next (o ∷ os)) in
      both (host_opens o) (subs ++ host_opens_all os) (host_opening (λ kind relid. offered kind relid 0) creates opens o)
      (both subs (host_opens_all os) (mapped offer_sub (subs_next (o ∷ os)) (λ p. offered Disk p.relid p.sub)) (host_starts offered creates opens os))

  pub host_moving : (plan : BusPlan) (os : List Opening) → ((relid : ℕ) → P (modified relid)) → AllByRecursion P (host_moves plan os)
  host_moving plan os moves = only_if (answers_modify (agreed plan)) (map (λ o. modified o.relid) (moved plan os)) (mapped (λ (o : Opening). modified o.relid) (moved plan os) (λ o. moves o.relid))

  pub host_ends : ((handle : ℕ) → P (torndown handle)) → ((relid : ℕ) → P (rescind relid)) → (os : List Opening) → AllByRecursion P (flat_map host_closes os)
  host_ends tears takes os = in_each host_closes os (λ o.
      let rings : List Msg = torndown o.gpadl ∷ only_sub o (rescind o.relid) in
      either o.rescinded (rescind o.relid ∷ []) (host_empties o ++ rings) (takes _, tt)
      (both (host_empties o) rings (only_if o.buffers _ (tears _, (tears _, tt))) (tears _, only_if (is_sub o) _ (takes _, tt))))

  -- of a guest
  pub guest_contact : (plan : BusPlan) → ((v : ℕ) → P (propose v)) → P request → AllByRecursion P (guest_contacts plan)
  guest_contact plan proposes asks = let tried : List ℕ = versions_tried plan.guest.0 plan.host.0 in both (map propose tried) (request ∷ []) (mapped propose tried proposes) (asks, tt)

  in_bodies : ((b : Body) → P (GpadlBody b)) → (most handle number : ℕ) (frames : List ℕ) → AllByRecursion P (bodies most handle number frames)
  in_bodies pieces zero handle number frames = tt
  in_bodies pieces (suc most) handle number [] = tt
  in_bodies pieces (suc most) handle number (frame ∷ frames) = (pieces _, in_bodies pieces most handle (number + 1) (drop 28 (frame ∷ frames)))

  in_cut : ((h : Header) → P (GpadlHeader h)) → ((b : Body) → P (GpadlBody b)) → (relid handle : ℕ) (pages : List ℕ) → AllByRecursion P (cut relid handle pages)
  in_cut heads pieces relid handle [] = tt
  in_cut heads pieces relid handle (page ∷ pages) = (heads _, in_bodies pieces (length pages) handle 0 (drop 26 (page ∷ pages)))

  pub guest_starts : ((port : ℕ) → P (connect port)) → ((h : Header) → P (GpadlHeader h)) → ((b : Body) → P (GpadlBody b)) → ((o : Opening) → P (open_on o)) → (os : List Opening) → AllByRecursion P (flat_map guest_opens os)
  guest_starts connects heads pieces opens os = in_each guest_opens os (λ o.
      let fill = λ (k : Buffer). in_cut heads pieces o.relid (buffer_list o k) (buffer_pages o k) in
      both (dials o.dialed) (guest_lists o) (dialed o.dialed)
      (both (cut o.relid o.gpadl (pages_from o)) (open_on o ∷ guest_buffers o) (in_cut heads pieces o.relid o.gpadl (pages_from o)) (opens o, only_if o.buffers _ (both (guest_buffer o Receive) (guest_buffer o Send) (fill Receive) (fill Send)))))
    where
      dialed : (port : Option ℕ) → AllByRecursion P (dials port)
      dialed None = tt
      dialed (Some port) = (connects port, tt)

  pub guest_moving : (plan : BusPlan) (os : List Opening) → ((relid vp : ℕ) → P (modify relid vp)) → AllByRecursion P (guest_moves plan os)
  guest_moving plan os moves = mapped (λ (o : Opening). modify o.relid (vp_for o)) (moved plan os) (λ o. moves o.relid (vp_for o))

  guest_ends : ((relid : ℕ) → P (close relid)) → ((relid handle : ℕ) → P (GpadlTeardown 0 relid handle)) → ((relid : ℕ) → P (release relid)) → (os : List Opening) → AllByRecursion P (flat_map guest_closes os)
  guest_ends closes tears gives os = in_each guest_closes os (λ o.
      let rings : List Msg = close o.relid ∷ teardown o ∷ only_sub o (release o.relid) in
      either o.rescinded (release o.relid ∷ []) (guest_empties o ++ rings) (gives _, tt)
      (both (guest_empties o) rings (only_if o.buffers _ (tears _ _, (tears _ _, tt))) (closes _, (tears _ _, only_if (is_sub o) _ (gives _, tt)))))

-- a host never says the farewell
pub guest_is_cut : GuestIsCut
guest_is_cut = (
  λ plan.
      let P : Msg → Type 0 = λ m. m ≢ farewell in
      let ends : (os : List Opening) → AllByRecursion P (flat_map host_closes os) = host_ends P (λ h e. absurd (cc)) (λ r e. absurd (cc)) in
      both P (host_contacts plan) (flat_map (host_in_phase plan) plan.phases ++ from_3_0 plan (farewell_taken ∷ [])) (host_contact P plan (λ n e. absurd (cc)) (all_offers P (λ k r e. absurd (cc)) 1 plan.kinds) (λ e. absurd (cc)))
      (both P (flat_map (host_in_phase plan) plan.phases) (from_3_0 plan (farewell_taken ∷ []))
      (in_each P (host_in_phase plan) plan.phases (λ os. both P (host_opens_all os) (host_moves plan os ++ flat_map host_closes (in_closing_order os)) (host_starts P (λ k r s e. absurd (cc)) (λ r h e. absurd (cc)) (λ r e. absurd (cc)) os)
      (both P (host_moves plan os) (flat_map host_closes (in_closing_order os)) (host_moving P plan os (λ r e. absurd (cc))) (ends (in_closing_order os)))))
      (only_if P _ (farewell_taken ∷ []) ((λ e. absurd (cc)), tt))),
  λ g. refl,
)

-- a guest never says the answer to it
pub host_is_cut : HostIsCut
host_is_cut = (
  λ plan.
      let P : Msg → Type 0 = λ m. m ≢ farewell_taken in
      let starts : (os : List Opening) → AllByRecursion P (flat_map guest_opens os) = guest_starts P (λ p e. absurd (cc)) (λ h e. absurd (cc)) (λ b e. absurd (cc)) (λ o e. absurd (cc)) in
      let ends : (os : List Opening) → AllByRecursion P (flat_map guest_closes os) = guest_ends P (λ r e. absurd (cc)) (λ r h e. absurd (cc)) (λ r e. absurd (cc)) in
      both P (guest_contacts plan) (flat_map (guest_in_phase plan) plan.phases ++ from_3_0 plan (farewell ∷ [])) (guest_contact P plan (λ v e. absurd (cc)) (λ e. absurd (cc)))
      (both P (flat_map (guest_in_phase plan) plan.phases) (from_3_0 plan (farewell ∷ []))
      (in_each P (guest_in_phase plan) plan.phases (λ os. both P (flat_map guest_opens os) (guest_moves plan os ++ flat_map guest_closes (in_closing_order os)) (starts os)
      (both P (guest_moves plan os) (flat_map guest_closes (in_closing_order os)) (guest_moving P plan os (λ r v e. absurd (cc))) (ends (in_closing_order os)))))
      (only_if P _ (farewell ∷ []) ((λ e. absurd (cc)), tt))),
  λ h. refl,
)
