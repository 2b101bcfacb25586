-- The words that are lent or held are 1 to 512, whatever is sent and taken.
use Rattle.std.proofs.Common.{◌≡◌, ℕ, zero, suc, ◌-◌, ◌<◌, ◌≤◌, ◌==◌, Bool, true, false, cond, min, List, [], ◌∷◌, ◌++◌, length, get_or, set, replicate, Option, Some, None, refl, subst}
use Rattle.std.proofs.lemmas.List.Quantifiers.{position-Some}
use Rattle.pkt_desc.specs.Packets.{kind_of, id_of}
use Rattle.page_kept.specs.declared.owner.Owner.TheVariants.{Has, Lent, Held, Away}
use Rattle.page_kept.specs.Kept.{is_lent, may_hold}
use Rattle.page_kept.specs.Layouts.{Loan}
use Rattle.page_kept.proofs.Loans.{fits}
use Rattle.page_call_plan.specs.Causes.{AllFit}
use Rattle.page_call_plan.specs.Ends.{new_slots}
use Rattle.page_call_plan.specs.Slots.{PageSlot, Fits, owner_at, owner_of, away, has, lent, held, slot_at, named_in, held_under, lent_under, given_back, lent_out, slots_sent, has_back, held_now, slots_took, back_part, held_part, part_took}

all_set : (ss : List PageSlot) (q : ℕ) (x : PageSlot) → AllFit ss → Fits (owner_of x) → AllFit (set ss q x)
all_set [] q x h f = tt
all_set (s ∷ ss) zero x h f = (f, h.1)
all_set (s ∷ ss) (suc q) x h f = (h.0, all_set ss q x h.1 f)

all_at : (ss : List PageSlot) (q : ℕ) → AllFit ss → Fits (owner_of (get_or ss q away))
all_at [] q h = tt
all_at (s ∷ ss) zero h = h.0
all_at (s ∷ ss) (suc q) h = all_at ss q h.1

all_more : (ss rs : List PageSlot) → AllFit ss → AllFit rs → AllFit (ss ++ rs)
all_more [] rs h f = f
all_more (s ∷ ss) rs h f = (h.0, all_more ss rs h.1 f)

all_same : (n : ℕ) (x : PageSlot) → Fits (owner_of x) → AllFit (replicate n x)
all_same zero x f = tt
all_same (suc n) x f = (f, all_same n x f)

either_home : (b : Bool) (x y : PageSlot) → Fits (owner_of x) → Fits (owner_of y) → Fits (owner_of (cond b x y))
either_home true x y f g = f
either_home false x y f g = g

pub new_fit : (host : Bool) (n : ℕ) → AllFit (new_slots host n)
new_fit host n =
    all_more (replicate (min 64 n) (cond host away has)) (replicate (n - min 64 n) (cond host has away)) (all_same (min 64 n) (cond host away has) (either_home host away has tt tt)) (all_same (n - min 64 n) (cond host has away) (either_home host has away tt tt))

-- what a packet names
named_fit : (ss : List PageSlot) (p : List ℕ) (a : Loan) → named_in ss p ≡ Some a → (0 < a.words) × (a.words ≤ 512)
named_fit ss p a e = let f = fits (length ss) p a e in (f.1, f.2)

either_fit : (b : Bool) (xs ys : List PageSlot) → AllFit xs → AllFit ys → AllFit (cond b xs ys)
either_fit true xs ys f g = f
either_fit false xs ys f g = g

given_fit : (ss : List PageSlot) (o : Option ℕ) → AllFit ss → AllFit (given_back ss o)
given_fit ss None h = h
given_fit ss (Some q) h = all_set ss q away h tt

lent_fit : (ss : List PageSlot) (p : List ℕ) (o : Option Loan) → named_in ss p ≡ o → AllFit ss → AllFit (lent_out ss (id_of p) o)
lent_fit ss p None e h = h
lent_fit ss p (Some a) e h = all_set ss a.page (lent (id_of p) a.words) h (named_fit ss p a e)

pub sent_fit : (ss : List PageSlot) (p : List ℕ) → AllFit ss → AllFit (slots_sent ss p)
sent_fit ss p h = either_fit (kind_of p == 11) (given_back ss (held_under (id_of p) ss)) (lent_out ss (id_of p) (named_in ss p)) (given_fit ss (held_under (id_of p) ss) h) (lent_fit ss p (named_in ss p) refl h)

back_fit : (ss : List PageSlot) (o : Option ℕ) → AllFit ss → AllFit (has_back ss o)
back_fit ss None h = h
back_fit ss (Some q) h = all_set ss q has h tt

held_fit : (ss : List PageSlot) (p : List ℕ) (o : Option Loan) → named_in ss p ≡ o → AllFit ss → AllFit (held_now ss (id_of p) o)
held_fit ss p None e h = h
held_fit ss p (Some a) e h = either_fit (may_hold (id_of p) (owner_of (slot_at ss a.page))) (set ss a.page (held (id_of p) a.words)) ss (all_set ss a.page (held (id_of p) a.words) h (named_fit ss p a e)) h

pub took_fit : (ss : List PageSlot) (p : List ℕ) → AllFit ss → AllFit (slots_took ss p)
took_fit ss p h = either_fit (kind_of p == 11) (has_back ss (lent_under (id_of p) ss)) (held_now ss (id_of p) (named_in ss p)) (back_fit ss (lent_under (id_of p) ss) h) (held_fit ss p (named_in ss p) refl h)

-- the words of a page that is lent
lent_words_fit : (u o t n : ℕ) → Fits (owner_at o t n) → is_lent u (owner_at o t n) ≡ true → (0 < n) × (n ≤ 512)
lent_words_fit u o t n f h = by_cases (o == 1) (o == 2) (o == 3) f h
  where
    by_cases : (a b c : Bool) → Fits (cond a Has (cond b (Lent t n) (cond c (Held t n) Away))) → is_lent u (cond a Has (cond b (Lent t n) (cond c (Held t n) Away))) ≡ true → (0 < n) × (n ≤ 512)
    by_cases true b c g i = absurd (cc)
    by_cases false true c g i = g
    by_cases false false true g i = absurd (cc)
    by_cases false false false g i = absurd (cc)

-- the part of a page that comes with a packet is one of the channel
pub record PartFits (ss : List PageSlot) (a : Loan) : Type 0 where
  pub page : a.page < length ss
  pub some : 0 < a.words
  pub most : a.words ≤ 512

none_loan : (a : Loan) → None ≡ Some a → ⊥
none_loan a h = cc

same_loan : (a b : Loan) → Some a ≡ Some b → a ≡ b
same_loan a b h = cc

back_inside : (ss : List PageSlot) (t : ℕ) (o : Option ℕ) → lent_under t ss ≡ o → (a : Loan) → back_part ss o ≡ Some a → a.page < length ss
back_inside ss t None e a h = absurd (none_loan a h)
back_inside ss t (Some q) e a h = subst (λ (b : Loan). b.page < length ss) (same_loan (record { page = q; words = (slot_at ss q).words }) a h) (position-Some (λ s. is_lent t (owner_of s)) ss q away e).0

back_words : (ss : List PageSlot) (t : ℕ) (o : Option ℕ) → lent_under t ss ≡ o → AllFit ss → (a : Loan) → back_part ss o ≡ Some a → (0 < a.words) × (a.words ≤ 512)
back_words ss t None e all a h = absurd (none_loan a h)
back_words ss t (Some q) e all a h =
    let f = position-Some (λ s. is_lent t (owner_of s)) ss q away e in
    let x : PageSlot = get_or ss q away in
    subst (λ (b : Loan). (0 < b.words) × (b.words ≤ 512)) (same_loan (record { page = q; words = (slot_at ss q).words }) a h) (lent_words_fit t x.owner x.tid x.words (all_at ss q all) f.1)

held_inside : (ss : List PageSlot) (p : List ℕ) (o : Option Loan) → named_in ss p ≡ o → (a : Loan) → held_part ss (id_of p) o ≡ Some a → PartFits ss a
held_inside ss p None e a h = absurd (none_loan a h)
held_inside ss p (Some b) e a h = by_owner (may_hold (id_of p) (owner_of (slot_at ss b.page))) h
  where
    by_owner : (c : Bool) → cond c (Some b) None ≡ Some a → PartFits ss a
    by_owner true i = let f = fits (length ss) p b e in subst (PartFits ss) (same_loan b a i) record { page = f.0; some = f.1; most = f.2 }
    by_owner false i = absurd (none_loan a i)

pub part_inside : (ss : List PageSlot) (p : List ℕ) (a : Loan) → part_took ss p ≡ Some a → a.page < length ss
part_inside ss p a h = by_kind (kind_of p == 11) h
  where
    by_kind : (b : Bool) → cond b (back_part ss (lent_under (id_of p) ss)) (held_part ss (id_of p) (named_in ss p)) ≡ Some a → a.page < length ss
    by_kind true i = back_inside ss (id_of p) (lent_under (id_of p) ss) refl a i
    by_kind false i = (held_inside ss p (named_in ss p) refl a i).page

pub part_fits : (ss : List PageSlot) (p : List ℕ) (a : Loan) → AllFit ss → part_took ss p ≡ Some a → PartFits ss a
part_fits ss p a all h = by_kind (kind_of p == 11) h
  where
    by_kind : (b : Bool) → cond b (back_part ss (lent_under (id_of p) ss)) (held_part ss (id_of p) (named_in ss p)) ≡ Some a → PartFits ss a
    by_kind true i =
        let w = back_words ss (id_of p) (lent_under (id_of p) ss) refl all a i in
        record { page = back_inside ss (id_of p) (lent_under (id_of p) ss) refl a i; some = w.0; most = w.1 }
    by_kind false i = held_inside ss p (named_in ss p) refl a i
