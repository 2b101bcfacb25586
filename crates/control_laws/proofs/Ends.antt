-- The end of a phase in rounds: how its channels are closed and rescinded by both sides, and where each side stands in that.
use Rattle.std.proofs.Common.{◌≡◌, ◌∙◌, ℕ, suc, ◌+◌, ◌≤◌, ◌||◌, Bool, true, false, List, [], ◌∷◌, ◌++◌, length, drop, if◌then◌else◌, refl, sym, ap, subst, append_assoc, arith}
use Rattle.std.specs.List.{flat_map}
use Rattle.std.proofs.lemmas.List.Concat.{flat_map-cons}
use Rattle.control_laws.proofs.Words.{Msg, Opening, Buffer, Receive, Send}
use Rattle.control_model.specs.Plan.{BusPlan, buffer_list, is_sub, closing_of}
use Rattle.control_model.specs.Messages.{close, teardown, teardown_buffer, torndown, rescind, release}
use Rattle.control_model.specs.Said.{guest_closes, host_closes, only_sub, ends_given_back}
use Rattle.control_model.specs.Stand.{EndsAt}
use Rattle.control_model.specs.GuestAt.{empties_left, emptied_left, torn_left, gives_sub, gives_one, takes_one}
use Rattle.control_model.specs.HostAt.{tears_down, closes_left, tears_left}
use Rattle.control_laws.proofs.Saying.{ends_left, ends_behind}
use Rattle.control_laws.proofs.Rounds.{Round, round, asks, answers, Pair, Talk, Leads, first_by, GuestIn, HostIn, guest_in, host_in}

-- the rounds of an opening: a channel that is rescinded is taken back, and then given back; the page lists of buffers are torn down, each is answered; a channel is closed, which is answered, and a sub-channel is taken back with that, and then given back
abbrev first_answers : Bool → ℕ
first_answers sub = if sub then 2 else 1

abbrev last_rounds : Bool → List Round
last_rounds sub = if sub then round 1 0 ∷ [] else []

abbrev sub_rounds : Bool → List Round
sub_rounds sub = round 2 (first_answers sub) ∷ last_rounds sub

abbrev buffer_rounds : Bool → List Round
buffer_rounds buffers = if buffers then round 1 1 ∷ round 1 1 ∷ [] else []

abbrev end_one : Bool → Bool → Bool → List Round
end_one gone buffers sub = if gone then round 0 1 ∷ round 1 0 ∷ [] else buffer_rounds buffers ++ sub_rounds sub

abbrev pub ends : List Opening → List Round
ends [] = []
ends (o ∷ os) = end_one o.rescinded o.buffers (is_sub o) ++ ends os

-- as many messages an opening has, in front of what is behind it
asked_one : (m n k c t : Msg) (gone buffers sub : Bool) (xs : List Msg) (rs : List Round) → asks rs ≡ length xs
    → asks (end_one gone buffers sub ++ rs) ≡ length ((if gone then m ∷ [] else (if buffers then n ∷ k ∷ [] else []) ++ (c ∷ t ∷ (if sub then m ∷ [] else []))) ++ xs)
asked_one m n k c t true buffers sub xs rs e = omega (arith, e)
asked_one m n k c t false true true xs rs e = omega (arith, e)
asked_one m n k c t false true false xs rs e = omega (arith, e)
asked_one m n k c t false false true xs rs e = omega (arith, e)
asked_one m n k c t false false false xs rs e = omega (arith, e)

answered_one : (m n k t : Msg) (gone buffers sub : Bool) (xs : List Msg) (rs : List Round) → answers rs ≡ length xs
    → answers (end_one gone buffers sub ++ rs) ≡ length ((if gone then m ∷ [] else (if buffers then n ∷ k ∷ [] else []) ++ (t ∷ (if sub then m ∷ [] else []))) ++ xs)
answered_one m n k t true buffers sub xs rs e = omega (arith, e)
answered_one m n k t false true true xs rs e = omega (arith, e)
answered_one m n k t false true false xs rs e = omega (arith, e)
answered_one m n k t false false true xs rs e = omega (arith, e)
answered_one m n k t false false false xs rs e = omega (arith, e)

record Sums (os : List Opening) : Type 0 where
  asked : asks (ends os) ≡ length (flat_map guest_closes os)
  answered : answers (ends os) ≡ length (flat_map host_closes os)

sums : (os : List Opening) → Sums os
sums [] = record { asked = refl; answered = refl }
sums (o ∷ os) =
    let rest = sums os in
    record {
      asked = asked_one (release o.relid) (teardown_buffer o Send) (teardown_buffer o Receive) (close o.relid) (teardown o) o.rescinded o.buffers (is_sub o) (flat_map guest_closes os) (ends os) rest.asked ∙ sym (ap length (flat_map-cons guest_closes o os));
      answered = answered_one (rescind o.relid) (torndown (buffer_list o Send)) (torndown (buffer_list o Receive)) (torndown o.gpadl) o.rescinded o.buffers (is_sub o) (flat_map host_closes os) (ends os) rest.answered ∙ sym (ap length (flat_map-cons host_closes o os));
    }

-- of the last round of a channel that is closed
last_asked : (m : Msg) (sub : Bool) (xs : List Msg) (rs : List Round) → asks rs ≡ length xs → asks (last_rounds sub ++ rs) ≡ length ((if sub then m ∷ [] else []) ++ xs)
last_asked m true xs rs e = omega (arith, e)
last_asked m false xs rs e = e

last_answered : (sub : Bool) (rs : List Round) → answers (last_rounds sub ++ rs) ≡ answers rs
last_answered true rs = omega arith
last_answered false rs = refl

first_answered : (m : Msg) (sub : Bool) (xs : List Msg) → first_answers sub + length xs ≡ 1 + length ((if sub then m ∷ [] else []) ++ xs)
first_answered m true xs = omega arith
first_answered m false xs = refl

some_answers : (sub : Bool) → 1 ≤ first_answers sub
some_answers true = omega arith
some_answers false = omega arith

-- they are such ones
abbrev Answered : Round → Type 0
Answered r = (1 ≤ r.answered) × (r.answered ≤ 2) × (r.asked ≤ 2)

pair_answered : (r s : Round) → 1 ≤ r.asked → r.asked ≤ 2 → r.answered ≤ 2 → Answered s → Pair r s
pair_answered r s a b c is =
    record { some_asked = omega (arith, a); some_answered = omega (arith, is.0); few_asked = omega (arith, b, is.2); few_answered = omega (arith, c, is.1) }

talk_one : (r : Round) (rs : List Round) → 1 ≤ r.asked → r.asked ≤ 2 → r.answered ≤ 2 → Leads Answered rs → Talk rs → Talk (r ∷ rs)
talk_one r rs a b c leads talk = (first_by Answered r rs (omega (arith, b)) (omega (arith, c)) (λ s there. pair_answered r s a b c there) leads, talk)

abbrev Led : List Round → Type 0
Led rs = Talk rs × Leads Answered rs

talk_sub : (b : Bool) (rs : List Round) → Led rs → Led (sub_rounds b ++ rs)
talk_sub true rs led = (
  (record { some_asked = omega arith; some_answered = omega arith; few_asked = omega arith; few_answered = omega arith }, talk_one (round 1 0) rs (omega arith) (omega arith) (omega arith) led.1 led.0),
  (omega arith, omega arith, omega arith),
)
talk_sub false rs led = (talk_one (round 2 1) rs (omega arith) (omega arith) (omega arith) led.1 led.0, (omega arith, omega arith, omega arith))

talk_buffers : (b : Bool) (rs : List Round) → Led rs → Led (buffer_rounds b ++ rs)
talk_buffers true rs led =
    let here : Answered (round 1 1) = (omega arith, omega arith, omega arith) in
    (talk_one (round 1 1) (round 1 1 ∷ rs) (omega arith) (omega arith) (omega arith) here (talk_one (round 1 1) rs (omega arith) (omega arith) (omega arith) led.1 led.0), here)
talk_buffers false rs led = led

talk_end : (gone buffers sub : Bool) (rs : List Round) → Led rs → Led (end_one gone buffers sub ++ rs)
talk_end true buffers sub rs led = (
  (record { some_asked = omega arith; some_answered = omega arith; few_asked = omega arith; few_answered = omega arith }, talk_one (round 1 0) rs (omega arith) (omega arith) (omega arith) led.1 led.0),
  (omega arith, omega arith, omega arith),
)
talk_end false true sub rs led = talk_buffers true (sub_rounds sub ++ rs) (talk_sub sub rs led)
talk_end false false sub rs led = talk_sub sub rs led

talks : (os : List Opening) → Led (ends os)
talks [] = (tt, tt)
talks (o ∷ os) = talk_end o.rescinded o.buffers (is_sub o) (ends os) (talks os)

pub ends_talk : (os : List Opening) → Talk (ends os)
ends_talk os = (talks os).0

-- the rounds of a phase's end, from an opening on
ends_join : (done left : List Opening) → ends (done ++ left) ≡ ends done ++ ends left
ends_join [] left = refl
ends_join (o ∷ done) left = let mine : List Round = end_one o.rescinded o.buffers (is_sub o) in ap (λ rs. mine ++ rs) (ends_join done left) ∙ sym (append_assoc mine (ends done) (ends left))

one_behind : (front : List Round) (r : Round) (rest R : List Round) → R ≡ front ++ r ∷ rest → R ≡ (front ++ r ∷ []) ++ rest
one_behind front r rest R is = is ∙ sym (append_assoc front (r ∷ []) rest)

-- where the rings are closed: with buffers behind their part
record AtRings (plan : BusPlan) (phase : ℕ) (o : Opening) (left : List Opening) : Type 0 where
  front : List Round
  is : ends (closing_of plan phase) ≡ front ++ (sub_rounds (is_sub o) ++ ends left)

-- where a side stands
module _ (plan : BusPlan) (phase place : ℕ) (done : List Opening) (o : Opening) (left : List Opening) (at : EndsAt plan phase place done o left) where
  abbrev R : List Round
  R = ends (closing_of plan phase)

  abbrev rest : List Round
  rest = last_rounds (is_sub o) ++ ends left

  whole_is : (b c : Bool) → o.rescinded ≡ b → o.buffers ≡ c → R ≡ ends done ++ (end_one b c (is_sub o) ++ ends left)
  whole_is b c gone has = ap ends at.closing_is ∙ ends_join done (o ∷ left) ∙ (λ i. ends done ++ (end_one (gone i) (has i) (is_sub o) ++ ends left))

  back : o ∷ left ≡ drop place (closing_of plan phase)
  back = sym (ends_left plan phase place done (o ∷ left) at.closing_is at.place_is)

  -- how many messages are left then
  record Sizes : Type 0 where
    asked : asks (ends left) ≡ length (flat_map guest_closes left)
    answered : answers (ends left) ≡ length (flat_map host_closes left)
    last_asks : asks rest ≡ length (only_sub o (release o.relid) ++ flat_map guest_closes left)
    last_answers : answers rest ≡ answers (ends left)
    some : 1 ≤ first_answers (is_sub o)
    first : first_answers (is_sub o) + length (flat_map host_closes left) ≡ 1 + length (only_sub o (rescind o.relid) ++ flat_map host_closes left)

  sizes : Sizes
  sizes =
      let both = sums left in
      record {
        asked = both.asked;
        answered = both.answered;
        last_asks = last_asked (release o.relid) (is_sub o) (flat_map guest_closes left) (ends left) both.asked;
        last_answers = last_answered (is_sub o) (ends left);
        some = some_answers (is_sub o);
        first = first_answered (rescind o.relid) (is_sub o) (flat_map host_closes left);
      }

  -- the page list of a buffer is being torn down
  receive_is : o.rescinded ≡ false → o.buffers ≡ true → R ≡ (ends done ++ round 1 1 ∷ []) ++ (round 1 1 ∷ (sub_rounds (is_sub o) ++ ends left))
  receive_is closed has = one_behind (ends done) (round 1 1) (round 1 1 ∷ (sub_rounds (is_sub o) ++ ends left)) R (whole_is false true closed has)

  rings_is : (c : Bool) → o.rescinded ≡ false → o.buffers ≡ c → AtRings plan phase o left
  rings_is true closed has = record { front = (ends done ++ round 1 1 ∷ []) ++ round 1 1 ∷ []; is = one_behind (ends done ++ round 1 1 ∷ []) (round 1 1) (sub_rounds (is_sub o) ++ ends left) R (receive_is closed has) }
  rings_is false closed has = record { front = ends done; is = whole_is false false closed has }

  pub guest_empties_in : (k : Buffer) → o.rescinded ≡ false → o.buffers ≡ true → GuestIn R (length (empties_left k (drop place (closing_of plan phase)))) (length (emptied_left k (drop place (closing_of plan phase))))
  guest_empties_in Send closed has =
      let s = sizes in
      subst (λ os. GuestIn R (length (empties_left Send os)) (length (emptied_left Send os))) back
      (guest_in R (ends done) (round 1 1) (round 1 1 ∷ (sub_rounds (is_sub o) ++ ends left)) _ _ (whole_is false true closed has) (omega arith) (omega arith) (omega arith))
  guest_empties_in Receive closed has =
      let s = sizes in
      subst (λ os. GuestIn R (length (empties_left Receive os)) (length (emptied_left Receive os))) back
      (guest_in R (ends done ++ round 1 1 ∷ []) (round 1 1) (sub_rounds (is_sub o) ++ ends left) _ _ (receive_is closed has) (omega arith) (omega arith) (omega arith))

  pub host_empties_in : (k : Buffer) → o.rescinded ≡ false → o.buffers ≡ true → HostIn R (length (emptied_left k (drop place (closing_of plan phase)))) (length (tears_left k (drop place (closing_of plan phase))))
  host_empties_in Send closed has =
      let s = sizes in
      subst (λ os. HostIn R (length (emptied_left Send os)) (length (tears_left Send os))) back
      (host_in R (ends done) (round 1 1) (round 1 1 ∷ (sub_rounds (is_sub o) ++ ends left)) _ _ (whole_is false true closed has) (omega arith) (omega arith) (omega arith))
  host_empties_in Receive closed has =
      let s = sizes in
      subst (λ os. HostIn R (length (emptied_left Receive os)) (length (tears_left Receive os))) back
      (host_in R (ends done ++ round 1 1 ∷ []) (round 1 1) (sub_rounds (is_sub o) ++ ends left) _ _ (receive_is closed has) (omega arith) (omega arith) (omega arith))

  -- the channel is being closed, and a sub-channel is to be rescinded then
  pub guest_closes_in : o.rescinded ≡ false → GuestIn R (length (gives_sub (drop place (closing_of plan phase)))) (length (torn_left (drop place (closing_of plan phase))))
  guest_closes_in closed =
      let s = sizes in
      let there = rings_is o.buffers closed refl in
      subst (λ os. GuestIn R (length (gives_sub os)) (length (torn_left os))) back (guest_in R there.front (round 2 (first_answers (is_sub o))) rest _ _ there.is (omega arith) (omega arith) (omega arith))

  sub_is : (front : List Round) → R ≡ front ++ (sub_rounds (is_sub o) ++ ends left) → is_sub o ≡ true → R ≡ front ++ (round 2 2 ∷ round 1 0 ∷ ends left)
  sub_is front is sub = is ∙ ap (λ b. front ++ (sub_rounds b ++ ends left)) sub

  pub guest_gives_sub_in : o.rescinded ≡ false → is_sub o ≡ true → GuestIn R (length (gives_one (drop place (closing_of plan phase)))) (length (takes_one (drop place (closing_of plan phase))))
  guest_gives_sub_in closed sub =
      let s = sizes in
      let there = rings_is o.buffers closed refl in
      subst (λ os. GuestIn R (length (gives_one os)) (length (takes_one os))) back (guest_in R there.front (round 2 2) (round 1 0 ∷ ends left) _ _ (sub_is there.front there.is sub) (omega arith) (omega arith) (omega arith))

  pub guest_gives_in : o.rescinded ≡ true → GuestIn R (length (gives_one (drop place (closing_of plan phase)))) (length (takes_one (drop place (closing_of plan phase))))
  guest_gives_in gone =
      let s = sizes in
      subst (λ os. GuestIn R (length (gives_one os)) (length (takes_one os))) back (guest_in R (ends done) (round 0 1) (round 1 0 ∷ ends left) _ _ (whole_is true o.buffers gone refl) (omega arith) (omega arith) (omega arith))

  pub host_closes_in : o.rescinded ≡ false → HostIn R (length (torn_left (drop place (closing_of plan phase)))) (length (closes_left (drop place (closing_of plan phase))))
  host_closes_in closed =
      let s = sizes in
      let there = rings_is o.buffers closed refl in
      subst (λ os. HostIn R (length (torn_left os)) (length (closes_left os))) back (host_in R there.front (round 2 (first_answers (is_sub o))) rest _ _ there.is (omega arith) (omega arith) (omega arith))

  pub host_tears_in : o.rescinded ≡ false → HostIn R (length (torn_left (drop place (closing_of plan phase)))) (length (tears_down (drop place (closing_of plan phase))))
  host_tears_in closed =
      let s = sizes in
      let there = rings_is o.buffers closed refl in
      subst (λ os. HostIn R (length (torn_left os)) (length (tears_down os))) back (host_in R there.front (round 2 (first_answers (is_sub o))) rest _ _ there.is (omega arith) (omega arith) (omega arith))

  -- the channel is taken back, and is to be given back
  record LastRound : Type 0 where
    front : List Round
    is : R ≡ front ++ round 1 0 ∷ ends left

  last_round : (b s : Bool) → o.rescinded ≡ b → is_sub o ≡ s → (b || s) ≡ true → LastRound
  last_round true s gone sub given = record { front = ends done ++ round 0 1 ∷ []; is = one_behind (ends done) (round 0 1) (round 1 0 ∷ ends left) R (whole_is true o.buffers gone refl) }
  last_round false true closed sub given =
      let there = rings_is o.buffers closed refl in
      record { front = there.front ++ round 2 2 ∷ []; is = one_behind there.front (round 2 2) (round 1 0 ∷ ends left) R (sub_is there.front there.is sub) }
  last_round false false closed sub given = absurd (cc)

  pub host_takes_in : ends_given_back o ≡ true → HostIn R (length (flat_map host_closes (drop (suc place) (closing_of plan phase)))) (length (gives_one (drop place (closing_of plan phase))))
  host_takes_in given =
      let s = sizes in
      let last = last_round o.rescinded (is_sub o) refl refl given in
      let says = ap (λ os. length (flat_map host_closes os)) (ends_behind plan phase place done o left at) in
      subst (λ os. HostIn R (length (flat_map host_closes (drop (suc place) (closing_of plan phase)))) (length (gives_one os))) back (host_in R last.front (round 1 0) (ends left) _ _ last.is (omega arith) (omega arith) (omega arith))
