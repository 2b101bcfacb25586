-- Plans without sub-channels.
use Rattle.std.proofs.Common.{◌≡◌, ◌∙◌, false, cond, List, [], ◌∷◌, ◌++◌, length, map, if◌then◌else◌, refl, sym, ap, arith}
use Rattle.std.specs.List.{flat_map}
use Rattle.std.proofs.lemmas.List.Concat.{flat_map-cons}
use Rattle.control_laws.proofs.Words.{Opening}
use Rattle.control_model.specs.Plan.{is_sub, first_subs, subs_next, laters, behind_subs, in_closing_order, all_openings}
use Rattle.control_model.specs.Messages.{offer_sub, close, teardown, torndown, rescind, release}
use Rattle.control_model.specs.Said.{guest_empties, host_empties, guest_opens, host_opens, host_opens_all, guest_closes, host_closes, guest_moves, host_moves}
use Rattle.control_laws.specs.Plain.{NoSubs, NoLater, guest_closes_one, host_closes_one, PlainGuest, PlainHost, PlainCount}

-- they are closed in the order in which they were opened
behind_none : (first : Opening) (os : List Opening) → NoSubs os → behind_subs first os ≡ first ∷ os
behind_none first [] none = refl
behind_none first (o ∷ os) none = ap (λ b. if b then o ∷ behind_subs first os else first ∷ behind_subs o os) none.0 ∙ ap (λ (xs : List Opening). first ∷ xs) (behind_none o os none.1)

pub same_order : (os : List Opening) → NoSubs os → in_closing_order os ≡ os
same_order [] none = refl
same_order (o ∷ os) none = behind_none o os none.1

first_none : (os : List Opening) → NoSubs os → first_subs os ≡ []
first_none [] none = refl
first_none (o ∷ os) none = ap (λ b. if b then o ∷ first_subs os else []) none.0

next_none : (o : Opening) (os : List Opening) → NoSubs (o ∷ os) → subs_next (o ∷ os) ≡ []
next_none o os none = ap (λ b. if b then [] else first_subs os) none.0 ∙ first_none os none.1

pub opens_plain : (os : List Opening) → NoSubs os → host_opens_all os ≡ flat_map host_opens os
opens_plain [] none = refl
opens_plain (o ∷ os) none =
    (λ i. host_opens o ++ (map offer_sub ((next_none o os none) i) ++ (opens_plain os none.1) i)) ∙ sym (flat_map-cons host_opens o os)

guest_one : (o : Opening) → is_sub o ≡ false → guest_closes o ≡ guest_closes_one o
guest_one o none = ap (λ b. if o.rescinded then release o.relid ∷ [] else guest_empties o ++ (close o.relid ∷ teardown o ∷ (if b then release o.relid ∷ [] else []))) none

host_one : (o : Opening) → is_sub o ≡ false → host_closes o ≡ host_closes_one o
host_one o none = ap (λ b. if o.rescinded then rescind o.relid ∷ [] else host_empties o ++ (torndown o.gpadl ∷ (if b then rescind o.relid ∷ [] else []))) none

guest_all : (os : List Opening) → NoSubs os → flat_map guest_closes os ≡ flat_map guest_closes_one os
guest_all [] none = refl
guest_all (o ∷ os) none =
    flat_map-cons guest_closes o os ∙ (λ i. (guest_one o none.0) i ++ (guest_all os none.1) i) ∙ sym (flat_map-cons guest_closes_one o os)

host_all : (os : List Opening) → NoSubs os → flat_map host_closes os ≡ flat_map host_closes_one os
host_all [] none = refl
host_all (o ∷ os) none =
    flat_map-cons host_closes o os ∙ (λ i. (host_one o none.0) i ++ (host_all os none.1) i) ∙ sym (flat_map-cons host_closes_one o os)

pub plain_guest : PlainGuest
plain_guest plan os none = ap (λ xs. flat_map guest_opens os ++ (guest_moves plan os ++ flat_map guest_closes xs)) (same_order os none) ∙ ap (λ xs. flat_map guest_opens os ++ (guest_moves plan os ++ xs)) (guest_all os none)

pub plain_host : PlainHost
plain_host plan os none =
    (λ i. (opens_plain os none) i ++ (host_moves plan os ++ (ap (flat_map host_closes) (same_order os none) ∙ host_all os none) i))

none_in : (os : List Opening) → NoLater os → laters os ≡ []
none_in [] none = refl
none_in (o ∷ os) none = ap (λ b. cond b (o ∷ laters os) (laters os)) none.0 ∙ none_in os none.1

pub plain_count : PlainCount
plain_count plan none = let e = ap length (none_in (all_openings plan.phases) none) in omega (arith, e)
