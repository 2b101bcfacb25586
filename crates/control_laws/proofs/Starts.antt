-- The start of a phase in rounds: how the openings of a phase are told by both sides, and where each side stands in that.
use Rattle.std.proofs.Common.{◌≡◌, ◌∙◌, ℕ, zero, suc, ◌+◌, ◌<◌, ◌≤◌, Bool, true, false, List, [], ◌∷◌, ◌++◌, is_some, length, map, drop, Option, Some, None, All, if◌then◌else◌, refl, sym, ap, subst, append_assoc, length-append, arith}
use Rattle.std.specs.List.{AllByRecursion, flat_map}
use Rattle.std.proofs.lemmas.List.{length-map}
use Rattle.std.proofs.lemmas.List.Concat.{flat_map-cons}
use Rattle.std.proofs.lemmas.List.Elements.{All-get_or}
use Rattle.std.proofs.lemmas.List.FromFn.{length-range_with_len}
use Rattle.control_laws.proofs.Words.{Assembly, Msg, Opening, Buffer, Receive, Send, SubOffer}
use Rattle.gpadl.specs.Cut.{cut}
use Rattle.gpadl.proofs.Cutting.{cuts_well}
use Rattle.control_model.specs.Plan.{BusPlan, buffer_list, buffer_begins, buffer_size, is_sub, first_subs, subs_next, IsOpening, list_pages, IsPlan, phase_of}
use Rattle.control_model.specs.Messages.{pages_from, buffer_pages, created, open_on, opened, offer_sub}
use Rattle.control_model.specs.Said.{dials, dial_offers, guest_lists, guest_buffer, guest_buffers, host_buffer, host_buffers, guest_opens, host_opens_all}
use Rattle.control_model.specs.Stand.{At}
use Rattle.control_model.specs.GuestAt.{lists_dialed, opens_listed, fills_opened, answers_list, answers_open, fills_listed, answers_fill, from_first_sub, start_to_say, start_to_hear}
use Rattle.control_model.specs.HostAt.{ListComes}
use Rattle.control_model.proofs.PlanLaws.{messages_few, messages_three}
use Rattle.control_laws.proofs.Plans.{none_first, none_behind}
use Rattle.control_laws.proofs.Cutting.{by_all, all_front}
use Rattle.control_laws.proofs.Saying.{left_at}
use Rattle.control_laws.proofs.Seats.{AreSubs, first_run, sub_at}
use Rattle.control_laws.proofs.Rounds.{Round, round, asks, answers, Pair, Talk, Leads, first_by, GuestIn, HostIn, guest_in, host_in}

-- a page list has one to three messages
abbrev pub list_long : Opening → ℕ
list_long o = length (cut o.relid o.gpadl (pages_from o))

abbrev pub buffer_long : Opening → Buffer → ℕ
buffer_long o k = length (guest_buffer o k)

cut_some : (relid handle : ℕ) (pages : List ℕ) → 1 ≤ length pages → 1 ≤ length (cut relid handle pages)
cut_some relid handle [] some = absurd (omega (arith, some))
cut_some relid handle (page ∷ pages) some = omega arith

cut_few : (o : Opening) → IsOpening o → (1 ≤ list_long o) × (list_long o ≤ 3)
cut_few o fits =
    let some = fits.some_pages in
    let many = length-range_with_len o.first_page (list_pages o.ring_pages) in
    let are = cuts_well o.relid o.gpadl (pages_from o) (omega (arith, some, many)) in
    let most = messages_few o.relid o.gpadl (pages_from o) (cut o.relid o.gpadl (pages_from o)) (omega (arith, fits.few_pages, many)) are in
    (cut_some o.relid o.gpadl (pages_from o) (omega (arith, some, many)), omega (arith, most))

fill_few : (o : Opening) (k : Buffer) → (1 ≤ buffer_long o k) × (buffer_long o k ≤ 3)
fill_few o k =
    let many = length-range_with_len (buffer_begins o k) buffer_size in
    let are = cuts_well o.relid (buffer_list o k) (buffer_pages o k) (omega (arith, many)) in
    (cut_some o.relid (buffer_list o k) (buffer_pages o k) (omega (arith, many)), messages_three o.relid (buffer_list o k) (buffer_pages o k) (guest_buffer o k) (omega (arith, many)) are)

-- its rounds: a service is asked for, its channel offered; the page list is sent, and created; the channel is opened, and behind that of a device's first channel its sub-channels are offered; each buffer's page list is sent, and created
abbrev dial_rounds : Option ℕ → List Round
dial_rounds None = []
dial_rounds (Some port) = round 1 1 ∷ []

abbrev fill_rounds : Opening → Bool → List Round
fill_rounds o buffers = if buffers then round (buffer_long o Receive) 1 ∷ round (buffer_long o Send) 1 ∷ [] else []

abbrev open_round : Opening → List Opening → Round
open_round o os = round 1 (1 + length (subs_next (o ∷ os)))

abbrev behind_dial : Opening → List Opening → List Round → List Round
behind_dial o os rest = round (list_long o) 1 ∷ open_round o os ∷ (fill_rounds o o.buffers ++ rest)

abbrev pub starts : List Opening → List Round
starts [] = []
starts (o ∷ os) = dial_rounds o.dialed ++ behind_dial o os (starts os)

-- as many messages are said of an opening, in front of what is behind it
asked_fills : (o : Opening) (b : Bool) (xs : List Msg) (rs : List Round) → asks rs ≡ length xs → asks (fill_rounds o b ++ rs) ≡ length ((if b then guest_buffer o Receive ++ guest_buffer o Send else []) ++ xs)
asked_fills o true xs rs e = omega (arith, e, length-append (guest_buffer o Receive ++ guest_buffer o Send) xs, length-append (guest_buffer o Receive) (guest_buffer o Send))
asked_fills o false xs rs e = e

answered_fills : (o : Opening) (b : Bool) (n : ℕ) (xs : List Msg) (rs : List Round) → n + answers rs ≡ length xs → n + answers (fill_rounds o b ++ rs) ≡ length ((if b then host_buffer o Receive ∷ host_buffer o Send ∷ [] else []) ++ xs)
answered_fills o true n xs rs e = omega (arith, e)
answered_fills o false n xs rs e = e

asked_dial : (dialed : Option ℕ) (rs : List Round) → asks (dial_rounds dialed ++ rs) ≡ length (dials dialed) + asks rs
asked_dial None rs = omega arith
asked_dial (Some port) rs = refl

answered_dial : (relid : ℕ) (dialed : Option ℕ) (rs : List Round) → answers (dial_rounds dialed ++ rs) ≡ length (dial_offers relid dialed) + answers rs
answered_dial relid None rs = omega arith
answered_dial relid (Some port) rs = refl

record Sums (os : List Opening) : Type 0 where
  asked : asks (starts os) ≡ length (flat_map guest_opens os)
  answered : answers (starts os) ≡ length (host_opens_all os)

-- how many messages are left from an opening on
abbrev tail : Opening → List Opening → List Round
tail o os = fill_rounds o o.buffers ++ starts os

record Sizes (o : Opening) (os : List Opening) : Type 0 where
  asked : asks (starts os) ≡ length (flat_map guest_opens os)
  answered : answers (starts os) ≡ length (host_opens_all os)
  fills : asks (tail o os) ≡ length (guest_buffers o ++ flat_map guest_opens os)
  filled : length (subs_next (o ∷ os)) + answers (tail o os) ≡ length (host_buffers o ++ (map offer_sub (subs_next (o ∷ os)) ++ host_opens_all os))
  lists : list_long o + (1 + asks (tail o os)) ≡ length (guest_lists o ++ flat_map guest_opens os)
  opens : asks (starts (o ∷ os)) ≡ length (flat_map guest_opens (o ∷ os))
  opened_all : answers (starts (o ∷ os)) ≡ length (host_opens_all (o ∷ os))

sizes_by : (o : Opening) (os : List Opening) → Sums os → Sizes o os
sizes_by o os rest =
    let opens : List Msg = flat_map guest_opens os in
    let offers : List Msg = map offer_sub (subs_next (o ∷ os)) in
    let answers_left : List Msg = offers ++ host_opens_all os in
    let pair : List Msg = created o.relid o.gpadl ∷ opened o.relid o.relid ∷ host_buffers o in
    let fills = asked_fills o o.buffers opens (starts os) rest.asked in
    let filled = answered_fills o o.buffers (length (subs_next (o ∷ os))) answers_left (starts os) (omega (arith, rest.answered, length-append offers (host_opens_all os), length-map (subs_next (o ∷ os)) offer_sub)) in
    let long = length-append (guest_lists o) opens in
    let list = length-append (cut o.relid o.gpadl (pages_from o)) (open_on o ∷ guest_buffers o) in
    let buffers = length-append (guest_buffers o) opens in
    record {
      asked = rest.asked;
      answered = rest.answered;
      fills = fills;
      filled = filled;
      lists = omega (arith, fills, long, list, buffers);
      opens = omega (arith, asked_dial o.dialed (behind_dial o os (starts os)), fills, long, list, buffers, ap length (flat_map-cons guest_opens o os), length-append (dials o.dialed ++ guest_lists o) opens, length-append (dials o.dialed) (guest_lists o));
      opened_all = omega (arith, answered_dial o.relid o.dialed (behind_dial o os (starts os)), filled, length-append (dial_offers o.relid o.dialed ++ pair) answers_left, length-append (dial_offers o.relid o.dialed) pair, length-append (host_buffers o) answers_left);
    }

sums : (os : List Opening) → Sums os
sums [] = record { asked = refl; answered = refl }
sums (o ∷ os) = let all = sizes_by o os (sums os) in record { asked = all.opens; answered = all.opened_all }

sizes : (o : Opening) (os : List Opening) → Sizes o os
sizes o os = sizes_by o os (sums os)

-- the rounds of openings, from one of them on
record CutRounds (done left : List Opening) : Type 0 where
  front : List Round
  is : starts (done ++ left) ≡ front ++ starts left

cut_rounds : (done left : List Opening) → CutRounds done left
cut_rounds [] left = record { front = []; is = refl }
cut_rounds (o ∷ done) left =
    let rest = cut_rounds done left in
    let mine : List Round = round (list_long o) 1 ∷ open_round o (done ++ left) ∷ fill_rounds o o.buffers in
    record {
      front = dial_rounds o.dialed ++ (mine ++ rest.front);
      is = ap (λ rs. dial_rounds o.dialed ++ (mine ++ rs)) rest.is ∙ ap (λ rs. dial_rounds o.dialed ++ rs) (sym (append_assoc mine rest.front (starts left))) ∙ sym (append_assoc (dial_rounds o.dialed) (mine ++ rest.front) (starts left));
    }

-- they are such ones
abbrev Asked : Round → Type 0
Asked r = (1 ≤ r.asked) × (r.asked ≤ 3) × (r.answered ≡ 1)

pair_asked : (r s : Round) → 1 ≤ r.asked → r.asked ≤ 3 → 1 ≤ r.answered → r.answered ≤ 17 → Asked s → Pair r s
pair_asked r s a b c d is =
    let least = is.0 in
    record { some_asked = omega (arith, a); some_answered = omega (arith, c); few_asked = omega (arith, b, is.1); few_answered = omega (arith, d, is.2) }

talk_one : (r : Round) (rs : List Round) → Asked r → Leads Asked rs → Talk rs → Talk (r ∷ rs)
talk_one r rs is leads talk =
    let most = is.1 in
    let one = is.2 in
    (first_by Asked r rs (omega (arith, most)) (omega (arith, one)) (λ s there. pair_asked r s is.0 most (omega (arith, one)) (omega (arith, one)) there) leads, talk)

talk_fills : (o : Opening) (b : Bool) (rs : List Round) → Leads Asked rs → Talk rs → Talk (fill_rounds o b ++ rs) × Leads Asked (fill_rounds o b ++ rs)
talk_fills o true rs leads talk =
    let first = fill_few o Receive in
    let second = fill_few o Send in
    let b : Asked (round (buffer_long o Send) 1) = (second.0, second.1, refl) in
    let a : Asked (round (buffer_long o Receive) 1) = (first.0, first.1, refl) in
    (talk_one (round (buffer_long o Receive) 1) (round (buffer_long o Send) 1 ∷ rs) a b (talk_one (round (buffer_long o Send) 1) rs b leads talk), a)
talk_fills o false rs leads talk = (talk, leads)

talk_dial : (dialed : Option ℕ) (rs : List Round) → Leads Asked rs → Talk rs → Talk (dial_rounds dialed ++ rs) × Leads Asked (dial_rounds dialed ++ rs)
talk_dial None rs leads talk = (talk, leads)
talk_dial (Some port) rs leads talk = let a : Asked (round 1 1) = (omega arith, omega arith, refl) in (talk_one (round 1 1) rs a leads talk, a)

first_one : (o : Opening) (os : List Opening) (b : Bool) → length (first_subs os) ≤ length os → length (if b then o ∷ first_subs os else []) ≤ suc (length os)
first_one o os true few = omega (arith, few)
first_one o os false few = omega arith

pub first_few : (os : List Opening) → length (first_subs os) ≤ length os
first_few [] = omega arith
first_few (o ∷ os) = first_one o os (is_sub o) (first_few os)

next_one : (os : List Opening) (b : Bool) → length (if b then [] else first_subs os) ≤ length os
next_one os true = omega arith
next_one os false = first_few os

talks : (os : List Opening) → AllByRecursion IsOpening os → length os ≤ 16 → Talk (starts os) × Leads Asked (starts os)
talks [] fits small = (tt, tt)
talks (o ∷ os) fits small =
    let rest = talks os fits.1 (omega (arith, small)) in
    let few = cut_few o fits.0 in
    let subs = next_one os (is_sub o) in
    let fills = talk_fills o o.buffers (starts os) rest.1 rest.0 in
    let here_round : Round = open_round o os in
    let second : Talk (here_round ∷ (fill_rounds o o.buffers ++ starts os)) =
    (first_by Asked here_round (fill_rounds o o.buffers ++ starts os) (omega arith) (omega (arith, subs, small)) (λ s there. pair_asked here_round s (omega arith) (omega arith) (omega arith) (omega (arith, subs, small)) there) fills.1, fills.0) in
    talk_dial o.dialed (behind_dial o os (starts os)) (few.0, few.1, refl) (record { some_asked = omega arith; some_answered = omega arith; few_asked = omega (arith, few.1); few_answered = omega (arith, subs, small) }, second)

-- in each the host answers
some_fills : (o : Opening) (b : Bool) (rs : List Round) → AllByRecursion (λ r. 1 ≤ r.answered) rs → AllByRecursion (λ r. 1 ≤ r.answered) (fill_rounds o b ++ rs)
some_fills o true rs all = (omega arith, (omega arith, all))
some_fills o false rs all = all

some_dial : (dialed : Option ℕ) (rs : List Round) → AllByRecursion (λ r. 1 ≤ r.answered) rs → AllByRecursion (λ r. 1 ≤ r.answered) (dial_rounds dialed ++ rs)
some_dial None rs all = all
some_dial (Some port) rs all = (omega arith, all)

some_each : (os : List Opening) → AllByRecursion (λ r. 1 ≤ r.answered) (starts os)
some_each [] = tt
some_each (o ∷ os) = some_dial o.dialed (behind_dial o os (starts os)) (omega arith, (omega arith, some_fills o o.buffers (starts os) (some_each os)))

some_left : (R : List Round) (n : ℕ) → AllByRecursion (λ r. 1 ≤ r.answered) R → n < length R → 1 ≤ answers (drop n R)
some_left [] n all less = absurd (omega (arith, less))
some_left (r ∷ R) zero all less = let one = all.0 in omega (arith, one)
some_left (r ∷ R) (suc n) all less = some_left R n all.1 (omega (arith, less))

pub some_answer : (os : List Opening) (s t : ℕ) → HostIn (starts os) s t → 1 ≤ s
some_answer os s t there = let some = some_left (starts os) there.at (some_each os) there.less in omega (arith, some, there.said)

phase_fits : (plan : BusPlan) (phase : ℕ) → IsPlan plan → phase < length plan.phases → AllByRecursion IsOpening (phase_of plan phase)
phase_fits plan phase planned less = by_all IsOpening (phase_of plan phase) (All-get_or (λ os. All (λ o. IsOpening o) os) plan.phases phase [] less planned.fits)

pub phase_small : (plan : BusPlan) (phase : ℕ) → IsPlan plan → phase < length plan.phases → length (phase_of plan phase) ≤ 16
phase_small plan phase planned less = All-get_or (λ os. length os ≤ 16) plan.phases phase [] less planned.small

pub starts_talk : (plan : BusPlan) (phase : ℕ) → IsPlan plan → phase < length plan.phases → Talk (starts (phase_of plan phase))
starts_talk plan phase planned less = (talks (phase_of plan phase) (phase_fits plan phase planned less) (phase_small plan phase planned less)).0

-- behind a round
one_behind : (front : List Round) (r : Round) (rest R : List Round) → R ≡ front ++ r ∷ rest → R ≡ (front ++ r ∷ []) ++ rest
one_behind front r rest R is = is ∙ sym (append_assoc front (r ∷ []) rest)

-- where a side stands
module _ (plan : BusPlan) (phase place : ℕ) (done : List Opening) (o : Opening) (left : List Opening) (at : At plan phase place done o left) where
  abbrev R : List Round
  R = starts (phase_of plan phase)

  abbrev front : List Round
  front = (cut_rounds done (o ∷ left)).front

  abbrev behind : List Round
  behind = round (list_long o) 1 ∷ open_round o left ∷ tail o left

  back : o ∷ left ≡ drop place (phase_of plan phase)
  back = sym (left_at plan phase place done (o ∷ left) at.phase_is at.place_is)

  opening_is : R ≡ front ++ (dial_rounds o.dialed ++ behind)
  opening_is = ap starts at.phase_is ∙ (cut_rounds done (o ∷ left)).is

  abbrev listed_front : List Round
  listed_front = front ++ dial_rounds o.dialed

  list_is : R ≡ listed_front ++ behind
  list_is = opening_is ∙ sym (append_assoc front (dial_rounds o.dialed) behind)

  abbrev opened_front : List Round
  opened_front = listed_front ++ round (list_long o) 1 ∷ []

  open_is : R ≡ opened_front ++ (open_round o left ∷ tail o left)
  open_is = one_behind listed_front (round (list_long o) 1) (open_round o left ∷ tail o left) R list_is

  abbrev filled_front : List Round
  filled_front = opened_front ++ open_round o left ∷ []

  pub guest_lists_in : GuestIn R (length (opens_listed (drop place (phase_of plan phase)))) (length (answers_list (drop place (phase_of plan phase))))
  guest_lists_in =
      let s = sizes o left in
      subst (λ os. GuestIn R (length (opens_listed os)) (length (answers_list os))) back (guest_in R listed_front (round (list_long o) 1) (open_round o left ∷ tail o left) _ _ list_is (omega arith) (omega arith) (omega arith))

  pub guest_opens_in : GuestIn R (length (fills_opened (drop place (phase_of plan phase)))) (length (answers_open (drop place (phase_of plan phase))))
  guest_opens_in =
      let s = sizes o left in
      subst (λ os. GuestIn R (length (fills_opened os)) (length (answers_open os))) back (guest_in R opened_front (open_round o left) (tail o left) _ _ open_is (omega arith) (omega arith) (omega arith))

  pub host_lists_in : (ms : List Msg) → 1 ≤ length ms → length ms ≤ list_long o → HostIn R (length (answers_list (drop place (phase_of plan phase)))) (length (ms ++ opens_listed (drop place (phase_of plan phase))))
  host_lists_in ms some few =
      let s = sizes o left in
      let both = length-append ms (opens_listed (o ∷ left)) in
      subst (λ os. HostIn R (length (answers_list os)) (length (ms ++ opens_listed os))) back (host_in R listed_front (round (list_long o) 1) (open_round o left ∷ tail o left) _ _ list_is (omega arith) (omega arith) (omega arith))

  pub host_opens_in : HostIn R (length (answers_open (drop place (phase_of plan phase)))) (length (opens_listed (drop place (phase_of plan phase))))
  host_opens_in =
      let s = sizes o left in
      subst (λ os. HostIn R (length (answers_open os)) (length (opens_listed os))) back (host_in R opened_front (open_round o left) (tail o left) _ _ open_is (omega arith) (omega arith) (omega arith))

  -- a service was asked for, or is to be
  dial_is : (dialed : Option ℕ) → is_some dialed ≡ true → dial_rounds dialed ≡ round 1 1 ∷ []
  dial_is None asked = absurd (cc)
  dial_is (Some port) asked = refl

  asked_is : is_some o.dialed ≡ true → R ≡ front ++ (round 1 1 ∷ behind)
  asked_is asked = opening_is ∙ ap (λ rs. front ++ (rs ++ behind)) (dial_is o.dialed asked)

  pub guest_dials_in : is_some o.dialed ≡ true → GuestIn R (length (lists_dialed (drop place (phase_of plan phase)))) (length (host_opens_all (drop place (phase_of plan phase))))
  guest_dials_in asked =
      let s = sizes o left in
      let one = ap (λ rs. answers (rs ++ behind)) (dial_is o.dialed asked) in
      subst (λ os. GuestIn R (length (lists_dialed os)) (length (host_opens_all os))) back (guest_in R front (round 1 1) behind _ _ (asked_is asked) (omega arith) (omega arith) (omega arith))

  pub host_dials_in : is_some o.dialed ≡ true → HostIn R (length (host_opens_all (drop place (phase_of plan phase)))) (length (flat_map guest_opens (drop place (phase_of plan phase))))
  host_dials_in asked =
      let s = sizes o left in
      let one = ap (λ rs. asks (rs ++ behind)) (dial_is o.dialed asked) in
      let two = ap (λ rs. answers (rs ++ behind)) (dial_is o.dialed asked) in
      subst (λ os. HostIn R (length (host_opens_all os)) (length (flat_map guest_opens os))) back (host_in R front (round 1 1) behind _ _ (asked_is asked) (omega arith) (omega arith) (omega arith))

  -- the page list of a buffer was sent, or comes
  receive_is : o.buffers ≡ true → R ≡ filled_front ++ (round (buffer_long o Receive) 1 ∷ round (buffer_long o Send) 1 ∷ starts left)
  receive_is has = one_behind opened_front (open_round o left) (tail o left) R open_is ∙ ap (λ b. filled_front ++ (fill_rounds o b ++ starts left)) has

  send_is : o.buffers ≡ true → R ≡ (filled_front ++ round (buffer_long o Receive) 1 ∷ []) ++ (round (buffer_long o Send) 1 ∷ starts left)
  send_is has = one_behind filled_front (round (buffer_long o Receive) 1) (round (buffer_long o Send) 1 ∷ starts left) R (receive_is has)

  no_subs : IsPlan plan → o.buffers ≡ true → length (map offer_sub (subs_next (o ∷ left)) ++ host_opens_all left) ≡ length (host_opens_all left)
  no_subs planned has = ap (λ os. length (map offer_sub os ++ host_opens_all left)) (none_behind plan phase place done o left planned at has)

  pub guest_fills_in : (k : Buffer) → IsPlan plan → o.buffers ≡ true → GuestIn R (length (fills_listed k (drop place (phase_of plan phase)))) (length (answers_fill k (drop place (phase_of plan phase))))
  guest_fills_in Receive planned has =
      let s = sizes o left in
      let none = no_subs planned has in
      let a = length-append (guest_buffer o Send) (flat_map guest_opens left) in
      subst (λ os. GuestIn R (length (fills_listed Receive os)) (length (answers_fill Receive os))) back
      (guest_in R filled_front (round (buffer_long o Receive) 1) (round (buffer_long o Send) 1 ∷ starts left) _ _ (receive_is has) (omega arith) (omega arith) (omega arith))
  guest_fills_in Send planned has =
      let s = sizes o left in
      let none = no_subs planned has in
      subst (λ os. GuestIn R (length (fills_listed Send os)) (length (answers_fill Send os))) back
      (guest_in R (filled_front ++ round (buffer_long o Receive) 1 ∷ []) (round (buffer_long o Send) 1) (starts left) _ _ (send_is has) (omega arith) (omega arith) (omega arith))

  pub host_fills_in : (k : Buffer) (ms : List Msg) → IsPlan plan → o.buffers ≡ true → 1 ≤ length ms → length ms ≤ buffer_long o k → HostIn R (length (answers_fill k (drop place (phase_of plan phase)))) (length (ms ++ fills_listed k (drop place (phase_of plan phase))))
  host_fills_in Receive ms planned has some few =
      let s = sizes o left in
      let none = no_subs planned has in
      let both = length-append ms (fills_listed Receive (o ∷ left)) in
      let a = length-append (guest_buffer o Send) (flat_map guest_opens left) in
      subst (λ os. HostIn R (length (answers_fill Receive os)) (length (ms ++ fills_listed Receive os))) back
      (host_in R filled_front (round (buffer_long o Receive) 1) (round (buffer_long o Send) 1 ∷ starts left) _ _ (receive_is has) (omega arith) (omega arith) (omega arith))
  host_fills_in Send ms planned has some few =
      let s = sizes o left in
      let none = no_subs planned has in
      let both = length-append ms (fills_listed Send (o ∷ left)) in
      subst (λ os. HostIn R (length (answers_fill Send os)) (length (ms ++ fills_listed Send os))) back
      (host_in R (filled_front ++ round (buffer_long o Receive) 1 ∷ []) (round (buffer_long o Send) 1) (starts left) _ _ (send_is has) (omega arith) (omega arith) (omega arith))

-- the messages of a page list that are still to come are no more than it has
pub pieces_few : (live : List ℕ) (relid handle : ℕ) (pages : List ℕ) (s : Assembly) (m : Msg) (ms : List Msg) → ListComes live relid handle pages s (m ∷ ms) → suc (length ms) ≤ length (cut relid handle pages)
pieces_few live relid handle pages s m ms list =
    omega (arith, ap length list.whole, length-append list.came (m ∷ ms))

-- a guest to which the sub-channels of a device are offered: the device's first channel is open
pub guest_offers_in : (plan : BusPlan) (phase place : ℕ) (done : List Opening) (first : Opening) (offered : List Opening) (o : Opening) (left : List Opening) → IsPlan plan → At plan phase place (done ++ first ∷ offered) o left → is_sub first ≡ false → AreSubs (offered ++ o ∷ [])
    → GuestIn (starts (phase_of plan phase)) (length (start_to_say (phase_of plan phase) (SubOffer place))) (length (start_to_hear (phase_of plan phase) (SubOffer place)))
guest_offers_in plan phase place done first offered o left planned at is_first subs =
    let os : List Opening = phase_of plan phase in
    let behind : List Opening = offered ++ o ∷ left in
    let spot = sub_at plan phase place done first offered o left planned at is_first subs in
    let there : At plan phase (length done) done first behind = record { in_plan = at.in_plan; phase_is = spot.split ∙ append_assoc done (first ∷ []) behind; place_is = refl } in
    let parts = all_front (λ p. is_sub p ≡ true) offered (o ∷ []) subs in
    let run = ap length (first_run offered (o ∷ left) parts.0) in
    let run_parts = length-append offered (first_subs (o ∷ left)) in
    let run_mine : length (first_subs (o ∷ left)) ≡ suc (length (first_subs left)) = ap (λ b. length (if b then o ∷ first_subs left else [])) parts.1.0 in
    let first_is : length (first_subs (drop place os)) ≡ suc (length (first_subs left)) = ap (λ xs. length (first_subs xs)) spot.here ∙ run_mine in
    let next : length (subs_next (first ∷ behind)) ≡ length (first_subs behind) = ap (λ b. length (if b then [] else first_subs behind)) is_first in
    let hears = length-append (map offer_sub (first_subs (drop place os))) (host_opens_all (from_first_sub os place (drop place os))) in
    let each = length-map (first_subs (drop place os)) offer_sub in
    let says = ap (λ xs. length (flat_map guest_opens xs)) spot.from_first in
    let answers_are = ap (λ xs. length (host_opens_all xs)) spot.from_first in
    let rest = sums behind in
    let bare : first.buffers ≡ false = no_fills first.buffers (λ has. let none = ap length (none_first plan phase (length done) done first behind planned there has) in omega (arith, none, run, run_parts, run_mine)) in
    let a = ap (λ b. asks (fill_rounds first b ++ starts behind)) bare in
    let b = ap (λ b. answers (fill_rounds first b ++ starts behind)) bare in
    guest_in (starts os) (opened_front plan phase (length done) done first behind there) (open_round first behind) (tail first behind) _ _ (open_is plan phase (length done) done first behind there) (omega arith) (omega arith) (omega arith)
  where
    no_fills : (b : Bool) → (b ≡ true → ⊥) → b ≡ false
    no_fills true off = absurd (off refl)
    no_fills false off = refl
