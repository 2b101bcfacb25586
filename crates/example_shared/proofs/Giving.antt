-- The history that two seats of a giver of numbers leave.
use Rattle.std.proofs.Common.{◌≡◌, ◌<◌, ℕ, zero, suc, List, [], ◌∷◌, ◌++◌, All, refl, ap, sym, subst, ◌∙◌, arith, length}
use Rattle.std.specs.Prelude.{Some, slice_get}
use Rattle.std.proofs.lemmas.List.Elements.{All-weaker}
use Rattle.hist_lock.specs.declared.history.Entry.{Entry}
use Rattle.hist_lock.specs.Legal.{IsLegal}
use Rattle.hist_lock.specs.Seat.{Lock, Seat, AreNew, IsSame, seats_from}
use Rattle.hist_lock.specs.Calls.{IsSeatOf, Closes, calls_from}
use Rattle.example_shared.specs.declared.numbers.Numbers.{Numbers}
use Rattle.example_shared.specs.Given.{GivenTo, InTurn, asked, behind}

abbrev S : Type 0
S = Seat Numbers ℕ ℕ

abbrev E : Type 0
E = Entry Numbers ℕ ℕ

abbrev numbers : ℕ → Numbers
numbers n = record { next = n }

abbrev after : Numbers → ℕ → Numbers
after s q = numbers (behind s.next q)

abbrev reply_to : Numbers → ℕ → ℕ
reply_to s q = s.next

-- in a legal history each got its numbers in turn
in_turn : (n : ℕ) (es : List E) → IsLegal after reply_to (numbers n) es → InTurn n es
in_turn n [] legal = tt
in_turn n (e ∷ es) legal = (legal.0, in_turn (behind n e.request) es legal.1)

-- what was taken from behind a list of two
cut : (p : List S) (a b x y : S) → (p ++ a ∷ []) ++ b ∷ [] ≡ x ∷ y ∷ [] → (p ≡ []) × (a ≡ x) × (b ≡ y)
cut [] a b x y e = (refl, cc, cc)
cut (s ∷ []) a b x y e = absurd cc
cut (s ∷ t ∷ []) a b x y e = absurd cc
cut (s ∷ t ∷ u ∷ p) a b x y e = absurd cc

-- the numbers of two seats
below_at : (k : ℕ) (a b s : S) (n : ℕ) → a.number ≡ 0 → b.number ≡ 1 → slice_get (a ∷ b ∷ []) k ≡ Some s → s.number ≡ n → n < 2
below_at zero a b s n an bn is num = let same : a ≡ s = cc in let z : n ≡ 0 = cc in omega arith
below_at (suc zero) a b s n an bn is num = let same : b ≡ s = cc in let z : n ≡ 1 = cc in omega arith
below_at (suc (suc k)) a b s n an bn is num = absurd cc

-- two seats of one lock, when they are closed
settled : (one other : List ℕ) (lock : Lock Numbers ℕ ℕ) (a b : S) (es : List E) → lock.first ≡ numbers 0 → lock.past ≡ []
    → a.lock ≡ lock → a.number ≡ 0 → asked a.calls ≡ one → b.lock ≡ lock → b.number ≡ 1 → asked b.calls ≡ other
    → Closes after reply_to (a ∷ b ∷ []) es → GivenTo one other es
settled one other lock a b es first past al an aa bl bn ab closed =
    let first_a : a.lock.first ≡ numbers 0 = ap (λ (l : Lock Numbers ℕ ℕ). l.first) al ∙ first in
    let past_a : a.lock.past ≡ [] = ap (λ (l : Lock Numbers ℕ ℕ). l.past) al ∙ past in
    let past_b : b.lock.past ≡ [] = ap (λ (l : Lock Numbers ℕ ℕ). l.past) bl ∙ past in
    let same : es ≡ closed.since = closed.begins 0 a refl ∙ ap (λ l. l ++ closed.since) past_a in
    let none_a : length a.lock.past ≡ 0 = ap length past_a in
    let none_b : length b.lock.past ≡ 0 = ap length past_b in
    let calls_a : calls_from 0 0 es ≡ a.calls = let g = closed.calls 0 a refl in cc in
    let calls_b : calls_from 1 0 es ≡ b.calls = let g = closed.calls 1 b refl in cc in
    record {
      turns = in_turn 0 es (subst (λ s. IsLegal after reply_to s es) first_a (closed.legal 0 a refl));
      first = ap asked calls_a ∙ aa;
      second = ap asked calls_b ∙ ab;
      both = subst (λ l. All (λ (e : E). e.seat < 2) l) (sym same)
          (All-weaker (λ (e : E). IsSeatOf (a ∷ b ∷ []) e.seat) (λ (e : E). e.seat < 2) (λ e k. below_at k.0 a b k.1.0 e.seat an bn k.1.1.0 k.1.1.1) closed.since closed.others);
    }

-- two seats, as they were made and as they were closed
pub given : (start : Numbers) (one other quotas : List ℕ) (n m : ℕ) (items p p' q q' : List S) (a b a' b' : S) (es : List E)
    → start ≡ numbers 0 → quotas ≡ n ∷ m ∷ [] → AreNew start [] quotas items → items ≡ p' ++ b ∷ [] → p' ≡ p ++ a ∷ []
    → IsSame a a' → asked a'.calls ≡ asked a.calls ++ one → IsSame b b' → asked b'.calls ≡ asked b.calls ++ other
    → q' ≡ p ++ a' ∷ [] → q ≡ q' ++ b' ∷ [] → Closes after reply_to q es → GivenTo one other es
given start one other quotas n m items p p' q q' a b a' b' es new qs made popped popped' sa aa sb ab pushed pushed' closed =
    let x : S = record { lock = made.lock; number = 0; left = n; calls = [] } in
    let y : S = record { lock = made.lock; number = 1; left = m; calls = [] } in
    let two : items ≡ x ∷ y ∷ [] = made.seats_are ∙ ap (λ l. seats_from made.lock 0 l) qs in
    let c = cut p a b x y (sym (popped ∙ ap (λ l. l ++ b ∷ []) popped') ∙ two) in
    let all : q ≡ a' ∷ b' ∷ [] = pushed' ∙ ap (λ l. l ++ b' ∷ []) (pushed ∙ ap (λ l. l ++ a' ∷ []) c.0) in
    settled one other made.lock a' b' es (made.first_is ∙ new) made.past_is
    (sa.lock ∙ ap (λ (s : S). s.lock) c.1) (sa.number ∙ ap (λ (s : S). s.number) c.1) (aa ∙ ap (λ (s : S). asked s.calls ++ one) c.1)
    (sb.lock ∙ ap (λ (s : S). s.lock) c.2) (sb.number ∙ ap (λ (s : S). s.number) c.2) (ab ∙ ap (λ (s : S). asked s.calls ++ other) c.2)
    (subst (λ l. Closes after reply_to l es) all closed)
