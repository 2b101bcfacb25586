-- Two sides that speak in turns: what a guest says, and what its host answers once all of that came.
use Rattle.std.proofs.Common.{◌≡◌, ◌∙◌, ℕ, zero, suc, ◌+◌, ◌<◌, ◌≤◌, List, [], ◌∷◌, ◌++◌, length, drop, nat_le, refl, sym, ap, length-append, arith}
use Rattle.std.proofs.lemmas.Bool.Decides.{nat_tests}
use Rattle.control_laws.proofs.Marks.{by_place, by_test}
use Rattle.control_laws.proofs.Saying.{drop_done}

-- in a round the guest says so many messages, and the host so many then
pub record Round : Type 0 where
  pub asked : ℕ
  pub answered : ℕ

abbrev pub round : ℕ → ℕ → Round
round asked answered = record { asked = asked; answered = answered }

abbrev pub total : (Round → ℕ) → List Round → ℕ
total f [] = 0
total f (r ∷ rs) = f r + total f rs

abbrev pub asks : List Round → ℕ
asks = total (λ r. r.asked)

abbrev pub answers : List Round → ℕ
answers = total (λ r. r.answered)

-- in two rounds, one behind the other, each side says one message at least, and 32 at most
pub record Pair (r s : Round) : Type 0 where
  pub some_asked : 1 ≤ r.asked + s.asked
  pub some_answered : 1 ≤ r.answered + s.answered
  pub few_asked : r.asked + s.asked ≤ 32
  pub few_answered : r.answered + s.answered ≤ 32

abbrev pub First : Round → List Round → Type 0
First r [] = (r.asked ≤ 32) × (r.answered ≤ 32)
First r (s ∷ rs) = Pair r s

abbrev pub Talk : List Round → Type 0
Talk [] = Unit {0}
Talk (r ∷ rs) = First r rs × Talk rs

-- the first round of what follows is such a one, if there is one
abbrev pub Leads : (Round → Type 0) → List Round → Type 0
Leads P [] = Unit {0}
Leads P (r ∷ rs) = P r

pub first_by : (P : Round → Type 0) (r : Round) (rs : List Round) → r.asked ≤ 32 → r.answered ≤ 32 → ((s : Round) → P s → Pair r s) → Leads P rs → First r rs
first_by P r [] a b pairs leads = (a, b)
first_by P r (s ∷ rs) a b pairs leads = pairs s leads

-- what is left from a round on
total_drop : (f : Round → ℕ) (R : List Round) (n : ℕ) → total f (drop n R) ≤ total f R
total_drop f R zero = omega arith
total_drop f [] (suc n) = omega arith
total_drop f (r ∷ R) (suc n) = omega (arith, total_drop f R n)

total_down : (f : Round → ℕ) (R : List Round) (m n : ℕ) → m ≤ n → total f (drop n R) ≤ total f (drop m R)
total_down f R zero n less = total_drop f R n
total_down f R (suc m) zero less = absurd (omega (arith, less))
total_down f [] (suc m) (suc n) less = omega arith
total_down f (r ∷ R) (suc m) (suc n) less = total_down f R m n (omega (arith, less))

asks_down : (R : List Round) (m n : ℕ) → m ≤ n → asks (drop n R) ≤ asks (drop m R)
asks_down = total_down (λ r. r.asked)

answers_down : (R : List Round) (m n : ℕ) → m ≤ n → answers (drop n R) ≤ answers (drop m R)
answers_down = total_down (λ r. r.answered)

-- two rounds later each side has less to say, but not much less
pub record Later (R : List Round) (m : ℕ) : Type 0 where
  pub less_asked : asks (drop (suc (suc m)) R) + 1 ≤ asks (drop m R)
  pub less_answered : answers (drop (suc (suc m)) R) + 1 ≤ answers (drop m R)

two_later : (R : List Round) (m : ℕ) → Talk R → suc (suc m) ≤ length R → Later R m
two_later [] m talk less = absurd (omega (arith, less))
two_later (r ∷ []) m talk less = absurd (omega (arith, less))
two_later (r ∷ (s ∷ R)) zero talk less = let a = talk.0.some_asked in let b = talk.0.some_answered in record { less_asked = omega (arith, a); less_answered = omega (arith, b) }
two_later (r ∷ (s ∷ R)) (suc m) talk less = let rest = two_later (s ∷ R) m talk.1 (omega (arith, less)) in record { less_asked = rest.less_asked; less_answered = rest.less_answered }

pub record Near1 (R : List Round) (m : ℕ) : Type 0 where
  pub one_asked : asks (drop m R) ≤ asks (drop (suc m) R) + 32
  pub one_answered : answers (drop m R) ≤ answers (drop (suc m) R) + 32
  pub two_asked : asks (drop m R) ≤ asks (drop (suc (suc m)) R) + 32
  pub two_answered : answers (drop m R) ≤ answers (drop (suc (suc m)) R) + 32

nearly : (R : List Round) (m : ℕ) → Talk R → Near1 R m
nearly [] zero talk = record { one_asked = omega arith; one_answered = omega arith; two_asked = omega arith; two_answered = omega arith }
nearly [] (suc m) talk = record { one_asked = omega arith; one_answered = omega arith; two_asked = omega arith; two_answered = omega arith }
nearly (r ∷ []) zero talk = let a = talk.0.0 in let b = talk.0.1 in record { one_asked = omega (arith, a); one_answered = omega (arith, b); two_asked = omega (arith, a); two_answered = omega (arith, b) }
nearly (r ∷ (s ∷ R)) zero talk = let a = talk.0.few_asked in let b = talk.0.few_answered in record { one_asked = omega (arith, a); one_answered = omega (arith, b); two_asked = omega (arith, a); two_answered = omega (arith, b) }
nearly (r ∷ R) (suc m) talk = let rest = nearly R m talk.1 in record { one_asked = rest.one_asked; one_answered = rest.one_answered; two_asked = rest.two_asked; two_answered = rest.two_answered }

none_left : (R : List Round) → (asks (drop (length R) R) ≡ 0) × (answers (drop (length R) R) ≡ 0)
none_left [] = (refl, refl)
none_left (r ∷ R) = none_left R

-- a guest that was answered in a round, but for some messages of the answer: it has said what it says before and in that round
pub record GuestIn (R : List Round) (says hears : ℕ) : Type 0 where
  pub at : ℕ
  pub less : at < length R
  pub said : says ≡ asks (drop (suc at) R)
  pub more : answers (drop (suc at) R) < hears
  pub most : hears ≤ answers (drop at R)

-- a host that was asked in a round, but for some messages of that: it has said what it says before
pub record HostIn (R : List Round) (says hears : ℕ) : Type 0 where
  pub at : ℕ
  pub less : at < length R
  pub said : says ≡ answers (drop at R)
  pub more : asks (drop (suc at) R) < hears
  pub most : hears ≤ asks (drop at R)

behind : (front : List Round) (r : Round) (rest : List Round) → drop (suc (length front)) (front ++ r ∷ rest) ≡ rest
behind [] r rest = refl
behind (f ∷ front) r rest = behind front r rest

pub guest_in : (R front : List Round) (r : Round) (rest : List Round) (says hears : ℕ) → R ≡ front ++ r ∷ rest → says ≡ asks rest → answers rest < hears → hears ≤ r.answered + answers rest → GuestIn R says hears
guest_in R front r rest says hears is said more most =
    let next : drop (suc (length front)) R ≡ rest = ap (drop (suc (length front))) is ∙ behind front r rest in
    let b = ap answers next in
    let c = ap answers (ap (drop (length front)) is ∙ drop_done front (r ∷ rest)) in
    record { at = length front; less = omega (arith, ap length is, length-append front (r ∷ rest)); said = omega (arith, said, ap asks next); more = omega (arith, more, b); most = omega (arith, most, c) }

pub host_in : (R front : List Round) (r : Round) (rest : List Round) (says hears : ℕ) → R ≡ front ++ r ∷ rest → says ≡ r.answered + answers rest → asks rest < hears → hears ≤ r.asked + asks rest → HostIn R says hears
host_in R front r rest says hears is said more most =
    let here : drop (length front) R ≡ r ∷ rest = ap (drop (length front)) is ∙ drop_done front (r ∷ rest) in
    let a = ap asks (ap (drop (suc (length front))) is ∙ behind front r rest) in
    let c = ap answers here in
    record { at = length front; less = omega (arith, ap length is, length-append front (r ∷ rest)); said = omega (arith, said, c); more = omega (arith, more, a); most = omega (arith, most, ap asks here) }

-- so many messages are on their way then
pub record OnWay (a b : ℕ) : Type 0 where
  pub few_to_host : a ≤ 32
  pub few_to_guest : b ≤ 32
  pub some : 1 ≤ a + b

-- the guest waits: all that it said came
guest_waits : (R : List Round) (a b s t s' t' : ℕ) (g : GuestIn R s t) (h : HostIn R s' t') → Talk R → t' ≡ a + s → t ≡ b + s' → suc g.at ≤ h.at → OnWay a b
guest_waits R a b s t s' t' g h talk e f ahead =
    let p : ℕ = g.at in
    let q : ℕ = h.at in
    let none : a ≡ 0 = omega (arith, e, asks_down R (suc p) q ahead, g.said, h.most) in
    let some : 1 ≤ b = omega (arith, f, answers_down R (suc p) q ahead, g.more, h.said) in
    let near = nearly R p talk in
    by_place q (suc p)
    (λ at. let one = ap (λ n. answers (drop n R)) at in let few = near.one_answered in record { few_to_host = omega (arith, none); few_to_guest = omega (arith, f, one, few, g.most, h.said); some = omega (arith, some) })
    (λ off. by_place q (suc (suc p))
    (λ at. let one = ap (λ n. answers (drop n R)) at in let few = near.two_answered in record { few_to_host = omega (arith, none); few_to_guest = omega (arith, f, one, few, g.most, h.said); some = omega (arith, some) })
    (λ far.
    absurd (omega (arith, e, (two_later R (suc p) talk (omega (arith, ahead, off, far, h.less))).less_asked, asks_down R (suc (suc (suc p))) q (omega (arith, ahead, off, far)), g.said, h.most))))

-- the host waits: all that it said came
host_waits : (R : List Round) (a b s t s' t' : ℕ) (g : GuestIn R s t) (h : HostIn R s' t') → Talk R → t' ≡ a + s → t ≡ b + s' → h.at ≤ g.at → OnWay a b
host_waits R a b s t s' t' g h talk e f back =
    let p : ℕ = g.at in
    let q : ℕ = h.at in
    let none : b ≡ 0 = omega (arith, f, answers_down R q p back, g.most, h.said) in
    let some : 1 ≤ a = omega (arith, e, asks_down R (suc q) (suc p) (omega (arith, back)), g.said, h.more) in
    let near = nearly R q talk in
    by_place p q
    (λ at. let one = ap (λ n. asks (drop (suc n) R)) at in let few = near.one_asked in record { few_to_host = omega (arith, e, one, few, g.said, h.most); few_to_guest = omega (arith, none); some = omega (arith, some) })
    (λ off. by_place p (suc q)
    (λ at. let one = ap (λ n. asks (drop (suc n) R)) at in let few = near.two_asked in record { few_to_host = omega (arith, e, one, few, g.said, h.most); few_to_guest = omega (arith, none); some = omega (arith, some) })
    (λ far.
    absurd (omega (arith, f, (two_later R q talk (omega (arith, back, off, far, g.less))).less_answered, answers_down R (suc (suc q)) p (omega (arith, back, off, far)), g.most, h.said))))

pub on_way : (R : List Round) (a b s t s' t' : ℕ) → Talk R → GuestIn R s t → HostIn R s' t' → t' ≡ a + s → t ≡ b + s' → OnWay a b
on_way R a b s t s' t' talk g h e f = by_test {P = OnWay a b} (nat_le (suc g.at) h.at)
    (λ yes. let ahead : suc g.at ≤ h.at = grind (arith, nat_tests, yes) in guest_waits R a b s t s' t' g h talk e f ahead)
    (λ no. let back : h.at < suc g.at = grind (arith, nat_tests, no) in host_waits R a b s t s' t' g h talk e f (omega (arith, back)))

-- a guest that has said all, and a host that has: few are still to be heard
pub last_heard : (R : List Round) (s t : ℕ) → Talk R → GuestIn R s t → s ≡ 0 → (1 ≤ t) × (t ≤ 32)
last_heard R s t talk g none =
    let p : ℕ = g.at in
    let near = nearly R p talk in
    let end = none_left R in
    by_test {P = (1 ≤ t) × (t ≤ 32)} (nat_le (suc (suc (suc p))) (length R))
    (λ yes.
    let less : suc (suc (suc p)) ≤ length R = grind (arith, nat_tests, yes) in
    absurd (omega (arith, (two_later R (suc p) talk less).less_asked, none, g.said)))
    (λ no.
    let few : length R < suc (suc (suc p)) = grind (arith, nat_tests, no) in
    by_place (length R) (suc p)
    (λ at. let one = ap (λ n. answers (drop n R)) (sym at) in let most = near.one_answered in (omega (arith, g.more), omega (arith, one, end.1, most, g.most)))
    (λ off.
    let at : suc (suc p) ≡ length R = omega (arith, off, few, g.less) in
    let one = ap (λ n. answers (drop n R)) at in let most = near.two_answered in (omega (arith, g.more), omega (arith, one, end.1, most, g.most))))

pub last_asked : (R : List Round) (s t : ℕ) → Talk R → HostIn R s t → s ≡ 0 → (1 ≤ t) × (t ≤ 32)
last_asked R s t talk h none =
    let q : ℕ = h.at in
    by_test {P = (1 ≤ t) × (t ≤ 32)} (nat_le (suc (suc q)) (length R))
    (λ yes.
    let less : suc (suc q) ≤ length R = grind (arith, nat_tests, yes) in
    absurd (omega (arith, (two_later R q talk less).less_answered, none, h.said)))
    (λ no.
    let few : length R < suc (suc q) = grind (arith, nat_tests, no) in
    let at : suc q ≡ length R = omega (arith, few, h.less) in
    (omega (arith, h.more), omega (arith, (ap (λ n. asks (drop n R)) at), (none_left R).0, (nearly R q talk).one_asked, h.most)))
