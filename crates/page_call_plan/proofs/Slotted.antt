-- The slots of an end as the owners of its pages, and what a send and a take make of them.
use Rattle.std.proofs.Common.{◌≡◌, ◌≢◌, ℕ, zero, suc, ◌+◌, ◌<◌, ◌==◌, Bool, true, false, cond, List, [], ◌∷◌, ◌++◌, length, get_or, set, Option, Some, None, refl, sym, ap, ◌∙◌, arith, length-set}
use Rattle.std.proofs.lemmas.Bool.Decides.{nat_tests}
use Rattle.std.specs.List.{position, position_from}
use Rattle.std.proofs.lemmas.Iterator.Adapters.{position_from-zero}
use Rattle.std.proofs.lemmas.List.Quantifiers.{position-Some}
use Rattle.pkt_desc.specs.Packets.{kind_of, id_of}
use Rattle.page_kept.specs.declared.kept.Kept.{Kept}
use Rattle.page_kept.specs.declared.owner.Owner.{Owner}
use Rattle.page_kept.specs.declared.owner.Owner.TheVariants.{Has, Lent, Held, Away}
use Rattle.page_kept.specs.Items.{item_of, values}
use Rattle.page_kept.specs.Kept.{is_held, is_lent, first_page, lent_words, may_hold, copy_in, with_sent, with_took, with_due, gives_back, lends_out, has_back, holds_now, pages_sent, pages_took}
use Rattle.page_kept.specs.Layouts.{Loan, layout}
use Rattle.page_kept.proofs.Loans.{fits}
use Rattle.page_call_plan.specs.Slots.{PageSlot, owner_at, owner_of, owners_of, away, has, lent, held, slot_at, named_in, held_under, lent_under, given_back, lent_out, slots_sent, held_now, slots_took, back_part, held_part, part_took}
use Rattle.page_call_plan.specs.Slots.{has_back as back_slots}

by_test : {P : Type 0} (b : Bool) → (b ≡ true → P) → (b ≡ false → P) → P
by_test true f g = f refl
by_test false f g = g refl

pub owners_long : (ss : List PageSlot) → length (owners_of ss) ≡ length ss
owners_long [] = refl
owners_long (s ∷ ss) = ap suc (owners_long ss)

pub owner_is : (ss : List PageSlot) (q : ℕ) → get_or (owners_of ss) q Away ≡ owner_of (get_or ss q away)
owner_is [] q = refl
owner_is (s ∷ ss) zero = refl
owner_is (s ∷ ss) (suc q) = owner_is ss q

pub owner_in_is : (ss : List PageSlot) (q : ℕ) (d : Owner) → q < length ss → get_or (owners_of ss) q d ≡ owner_of (get_or ss q away)
owner_in_is [] q d h = absurd (omega (arith, h))
owner_in_is (s ∷ ss) zero d h = refl
owner_in_is (s ∷ ss) (suc q) d h = owner_in_is ss q d (omega (arith, h))

owner_set : (ss : List PageSlot) (q : ℕ) (x : PageSlot) → set (owners_of ss) q (owner_of x) ≡ owners_of (set ss q x)
owner_set [] q x = refl
owner_set (s ∷ ss) zero x = refl
owner_set (s ∷ ss) (suc q) x = ap (λ (os : List Owner). owner_of s ∷ os) (owner_set ss q x)

first_from : (f : Owner → Bool) (q : ℕ) (ss : List PageSlot) → first_page f q (owners_of ss) ≡ position_from (λ s. f (owner_of s)) q ss
first_from f q [] = refl
first_from f q (s ∷ ss) = ap (λ (r : Option ℕ). cond (f (owner_of s)) (Some q) r) (first_from f (suc q) ss ∙ ap (λ (n : ℕ). position_from (λ s. f (owner_of s)) n ss) (let z : suc q ≡ q + 1 = omega arith in z))

-- the first page that passes, by either count
first_is : (f : Owner → Bool) (ss : List PageSlot) → first_page f 0 (owners_of ss) ≡ position (λ s. f (owner_of s)) ss
first_is f ss = first_from f 0 ss ∙ sym (position_from-zero (λ s. f (owner_of s)) ss)

lent_at : (t o u n : ℕ) → is_lent t (owner_at o u n) ≡ true → lent_words (owner_at o u n) ≡ n
lent_at t o u n h = by_test (o == 1)
    (λ a. absurd (let z : false ≡ true = sym (ap (λ (b : Bool). is_lent t (cond b Has (cond (o == 2) (Lent u n) (cond (o == 3) (Held u n) Away)))) a) ∙ h in (cc)))
    (λ a. ap (λ (b : Bool). lent_words (cond b Has (cond (o == 2) (Lent u n) (cond (o == 3) (Held u n) Away)))) a ∙ by_test (o == 2)
    (λ b. ap (λ (c : Bool). lent_words (cond c (Lent u n) (cond (o == 3) (Held u n) Away))) b)
    (λ b. absurd (lacks b (sym (ap (λ (c : Bool). is_lent t (cond c Has (cond (o == 2) (Lent u n) (cond (o == 3) (Held u n) Away)))) a) ∙ h))))
  where
    last : (x : Bool) → is_lent t (cond x (Held u n) Away) ≡ false
    last true = refl
    last false = refl

    lacks : (o == 2) ≡ false → is_lent t (cond (o == 2) (Lent u n) (cond (o == 3) (Held u n) Away)) ≡ true → ⊥
    lacks b g = (let z : false ≡ true = sym (last (o == 3)) ∙ (sym (ap (λ (c : Bool). is_lent t (cond c (Lent u n) (cond (o == 3) (Held u n) Away))) b) ∙ g) in (cc))

some_pages : (n : ℕ) → n ≢ 0 → (n == 0) ≡ false
some_pages n h = grind (arith, nat_tests, h)

-- a send and a take leave as many slots as there were
given_long : (ss : List PageSlot) (o : Option ℕ) → length (given_back ss o) ≡ length ss
given_long ss None = refl
given_long ss (Some q) = length-set ss q away

lent_long : (ss : List PageSlot) (t : ℕ) (o : Option Loan) → length (lent_out ss t o) ≡ length ss
lent_long ss t None = refl
lent_long ss t (Some a) = length-set ss a.page (lent t a.words)

pub sent_long : (ss : List PageSlot) (p : List ℕ) → length (slots_sent ss p) ≡ length ss
sent_long ss p = by_test (kind_of p == 11)
    (λ h. ap (λ (b : Bool). length (cond b (given_back ss (held_under (id_of p) ss)) (lent_out ss (id_of p) (named_in ss p)))) h ∙ given_long ss (held_under (id_of p) ss))
    (λ h. ap (λ (b : Bool). length (cond b (given_back ss (held_under (id_of p) ss)) (lent_out ss (id_of p) (named_in ss p)))) h ∙ lent_long ss (id_of p) (named_in ss p))

back_long : (ss : List PageSlot) (o : Option ℕ) → length (back_slots ss o) ≡ length ss
back_long ss None = refl
back_long ss (Some q) = length-set ss q has

held_if : (ss : List PageSlot) (q : ℕ) (x : PageSlot) (b : Bool) → length (cond b (set ss q x) ss) ≡ length ss
held_if ss q x true = length-set ss q x
held_if ss q x false = refl

held_long : (ss : List PageSlot) (t : ℕ) (o : Option Loan) → length (held_now ss t o) ≡ length ss
held_long ss t None = refl
held_long ss t (Some a) = held_if ss a.page (held t a.words) (may_hold t (owner_of (slot_at ss a.page)))

pub took_long : (ss : List PageSlot) (p : List ℕ) → length (slots_took ss p) ≡ length ss
took_long ss p = by_test (kind_of p == 11)
    (λ h. ap (λ (b : Bool). length (cond b (back_slots ss (lent_under (id_of p) ss)) (held_now ss (id_of p) (named_in ss p)))) h ∙ back_long ss (lent_under (id_of p) ss))
    (λ h. ap (λ (b : Bool). length (cond b (back_slots ss (lent_under (id_of p) ss)) (held_now ss (id_of p) (named_in ss p)))) h ∙ held_long ss (id_of p) (named_in ss p))

-- the packet was sent with some page words, and the owners are these
abbrev pub Sent : Kept → List ℕ → List Owner → Kept → Type 0
Sent k p os k' = (ws : List ℕ) × (k' ≡ with_sent k p ws os)

-- the packet was taken, the owners are these, and this part of a page is to be loaded
abbrev pub took_as : Kept → List ℕ → List Owner → Option Loan → Kept
took_as k p os None = record { count = k.count; sent = k.sent; got = k.got ++ item_of p [] ∷ []; owners = os; copy = k.copy; due = k.due; call = k.call }
took_as k p os (Some a) = with_due k os a.page a.words

gave : (k : Kept) (ss : List PageSlot) (p : List ℕ) → k.owners ≡ owners_of ss → (o : Option ℕ) → Sent k p (owners_of (given_back ss o)) (gives_back k p o)
gave k ss p owners None = ([], ap (with_sent k p []) owners)
gave k ss p owners (Some q) = (_, ap (with_sent k p (values (lent_words (get_or k.owners q Away)) (copy_in k q))) (ap (λ (os : List Owner). set os q Away) owners ∙ owner_set ss q away))

lends : (k : Kept) (ss : List PageSlot) (p : List ℕ) → k.owners ≡ owners_of ss → (o : Option Loan) → Sent k p (owners_of (lent_out ss (id_of p) o)) (lends_out k p o)
lends k ss p owners None = ([], ap (with_sent k p []) owners)
lends k ss p owners (Some a) = (_, ap (with_sent k p (values a.words (copy_in k a.page))) (ap (λ (os : List Owner). set os a.page (Lent (id_of p) a.words)) owners ∙ owner_set ss a.page (lent (id_of p) a.words)))

sent_by : (k : Kept) (ss : List PageSlot) (p : List ℕ) → k.owners ≡ owners_of ss → (b : Bool) (o : Option ℕ) (a : Option Loan) → Sent k p (owners_of (cond b (given_back ss o) (lent_out ss (id_of p) a))) (cond b (gives_back k p o) (lends_out k p a))
sent_by k ss p owners true o a = gave k ss p owners o
sent_by k ss p owners false o a = lends k ss p owners a

first_in : (k : Kept) (ss : List PageSlot) (f : Owner → Bool) → k.owners ≡ owners_of ss → first_page f 0 k.owners ≡ position (λ s. f (owner_of s)) ss
first_in k ss f owners = ap (first_page f 0) owners ∙ first_is f ss

pub sent_is : (k : Kept) (ss : List PageSlot) (p : List ℕ) → k.count ≡ length ss → k.count ≢ 0 → k.owners ≡ owners_of ss → Sent k p (owners_of (slots_sent ss p)) (pages_sent (layout k.count) k p)
sent_is k ss p count some owners =
    let s = sent_by k ss p owners (kind_of p == 11) (held_under (id_of p) ss) (named_in ss p) in (
      s.0,
      ap (λ (b : Bool). cond b k (cond (kind_of p == 11) (gives_back k p (first_page (is_held (id_of p)) 0 k.owners)) (lends_out k p ((layout k.count).lends p)))) (some_pages k.count some)
          ∙ ((λ i. cond (kind_of p == 11) (gives_back k p (first_in k ss (is_held (id_of p)) owners i)) (lends_out k p ((layout (count i)).lends p))) ∙ s.1),
    )

back : (k : Kept) (ss : List PageSlot) (p : List ℕ) → k.owners ≡ owners_of ss → (o : Option ℕ) → lent_under (id_of p) ss ≡ o → has_back k p o ≡ took_as k p (owners_of (back_slots ss o)) (back_part ss o)
back k ss p owners None e = (λ i. took_as k p (owners i) None)
back k ss p owners (Some q) e =
    let f = position-Some (λ s. is_lent (id_of p) (owner_of s)) ss q away e in
    let s : PageSlot = get_or ss q away in
    let words : lent_words (get_or k.owners q Away) ≡ s.words = ap (λ (os : List Owner). lent_words (get_or os q Away)) owners ∙ (ap lent_words (owner_is ss q) ∙ lent_at (id_of p) s.owner s.tid s.words f.1) in
    (λ i. with_due k ((ap (λ (os : List Owner). set os q Has) owners ∙ owner_set ss q has) i) q (words i))

hold : (k : Kept) (ss : List PageSlot) (p : List ℕ) → k.owners ≡ owners_of ss → (a : Loan) (b : Bool)
    → cond b (with_due k (set k.owners a.page (Held (id_of p) a.words)) a.page a.words) (with_took k p) ≡ took_as k p (owners_of (cond b (set ss a.page (held (id_of p) a.words)) ss)) (cond b (Some a) None)
hold k ss p owners a true = (λ i. with_due k ((ap (λ (os : List Owner). set os a.page (Held (id_of p) a.words)) owners ∙ owner_set ss a.page (held (id_of p) a.words)) i) a.page a.words)
hold k ss p owners a false = (λ i. took_as k p (owners i) None)

holds : (k : Kept) (ss : List PageSlot) (p : List ℕ) → k.owners ≡ owners_of ss → (o : Option Loan) → named_in ss p ≡ o → holds_now k p o ≡ took_as k p (owners_of (held_now ss (id_of p) o)) (held_part ss (id_of p) o)
holds k ss p owners None e = (λ i. took_as k p (owners i) None)
holds k ss p owners (Some a) e =
    let inside = fits (length ss) p a e in
    ap (λ (b : Bool). cond b (with_due k (set k.owners a.page (Held (id_of p) a.words)) a.page a.words) (with_took k p))
    (ap (λ (os : List Owner). may_hold (id_of p) (get_or os a.page Has)) owners ∙ ap (may_hold (id_of p)) (owner_in_is ss a.page Has inside.0))
    ∙ hold k ss p owners a (may_hold (id_of p) (owner_of (slot_at ss a.page)))

took_by : (k : Kept) (ss : List PageSlot) (p : List ℕ) → k.owners ≡ owners_of ss → (b : Bool) → cond b (has_back k p (lent_under (id_of p) ss)) (holds_now k p (named_in ss p))
    ≡ took_as k p (owners_of (cond b (back_slots ss (lent_under (id_of p) ss)) (held_now ss (id_of p) (named_in ss p)))) (cond b (back_part ss (lent_under (id_of p) ss)) (held_part ss (id_of p) (named_in ss p)))
took_by k ss p owners true = back k ss p owners (lent_under (id_of p) ss) refl
took_by k ss p owners false = holds k ss p owners (named_in ss p) refl

pub took_is : (k : Kept) (ss : List PageSlot) (p : List ℕ) → k.count ≡ length ss → k.count ≢ 0 → k.owners ≡ owners_of ss → pages_took (layout k.count) k p ≡ took_as k p (owners_of (slots_took ss p)) (part_took ss p)
took_is k ss p count some owners =
    ap (λ (b : Bool). cond b k (cond (kind_of p == 11) (has_back k p (first_page (is_lent (id_of p)) 0 k.owners)) (holds_now k p ((layout k.count).lends p)))) (some_pages k.count some)
    ∙ ((λ i. cond (kind_of p == 11) (has_back k p (first_in k ss (is_lent (id_of p)) owners i)) (holds_now k p ((layout (count i)).lends p))) ∙ took_by k ss p owners (kind_of p == 11))
