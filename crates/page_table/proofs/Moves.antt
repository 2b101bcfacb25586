-- What a packet makes of the pages of an end, by the page that it names or brings back.
use Rattle.std.proofs.Common.{◌≡◌, ◌≢◌, ℕ, zero, suc, ◌+◌, ◌*◌, ◌<◌, ◌≤◌, ◌==◌, Bool, true, false, cond, List, [], ◌∷◌, ◌++◌, length, get_or, set, Option, Some, None, refl, sym, ap, ◌∙◌, subst, arith, ⊎_elim, length-append}
use Rattle.std.proofs.lemmas.Bool.Decides.{nat_tests}
use Rattle.std.specs.Prelude.{MatchOption}
use Rattle.std.specs.List.{position, position_from}
use Rattle.std.proofs.lemmas.Iterator.Adapters.{position_from-zero}
use Rattle.std.proofs.lemmas.List.Quantifiers.{position-Some}
use Rattle.page_kept.specs.declared.kept.Kept.{Kept}
use Rattle.page_kept.specs.declared.owner.Owner.{Owner}
use Rattle.page_kept.specs.declared.owner.Owner.TheVariants.{Has, Lent, Held, Away}
use Rattle.page_kept.specs.Items.{values}
use Rattle.io_edge.specs.declared.side.Side.{Side}
use Rattle.io_edge.specs.declared.side.Side.TheVariants.{Guest, Host}
use Rattle.page_kept.specs.Kept.{first_owner, is_held, is_lent, first_page, lent_words, may_hold, copy_in, with_sent, with_took, with_due, gives_back, lends_out, has_back, holds_now, pages_sent, pages_took}
use Rattle.page_kept.specs.Layouts.{layout}
use Rattle.pkt_desc.specs.Packets.{kind_of, id_of}
use Rattle.page_table.specs.declared.loan.Loan.{Loan as Part}
use Rattle.page_table.specs.Table.{Table, IsTable, Fits, KeepsPages, GoesBack, Lends, Holds, named_in, loan_of, loans, held_part, part_in, IsHeldPart, sent_by, took_by, first_owners}

-- the first page that passes, by either count
from_is : (f : Owner → Bool) (q : ℕ) (os : List Owner) → first_page f q os ≡ position_from f q os
from_is f q [] = refl
from_is f q (o ∷ os) = ap (λ (r : Option ℕ). cond (f o) (Some q) r) (from_is f (suc q) os ∙ ap (λ (n : ℕ). position_from f n os) (let z : suc q ≡ q + 1 = omega arith in z))

first_is : (f : Owner → Bool) (os : List Owner) → first_page f 0 os ≡ position f os
first_is f os = from_is f 0 os ∙ sym (position_from-zero f os)

some_pages : (n : ℕ) → n ≢ 0 → (n == 0) ≡ false
some_pages n h = grind (arith, nat_tests, h)

module _ (k : Kept) (t : Table) (p : List ℕ) (keeps : KeepsPages k t) where
  -- what a completion makes of the pages of its sender, and what another packet does
  completion_sent : (kind_of p == 11) ≡ true → pages_sent (layout k.count) k p ≡ gives_back k p (first_page (is_held (id_of p)) 0 k.owners)
  completion_sent h =
      ap (λ (b : Bool). cond b k (cond (kind_of p == 11) (gives_back k p (first_page (is_held (id_of p)) 0 k.owners)) (lends_out k p ((layout k.count).lends p)))) (some_pages k.count keeps.some)
      ∙ ap (λ (b : Bool). cond b (gives_back k p (first_page (is_held (id_of p)) 0 k.owners)) (lends_out k p ((layout k.count).lends p))) h

  request_sent : (kind_of p == 11) ≡ false → pages_sent (layout k.count) k p ≡ lends_out k p ((layout k.count).lends p)
  request_sent h =
      ap (λ (b : Bool). cond b k (cond (kind_of p == 11) (gives_back k p (first_page (is_held (id_of p)) 0 k.owners)) (lends_out k p ((layout k.count).lends p)))) (some_pages k.count keeps.some)
      ∙ ap (λ (b : Bool). cond b (gives_back k p (first_page (is_held (id_of p)) 0 k.owners)) (lends_out k p ((layout k.count).lends p))) h

  completion_took : (kind_of p == 11) ≡ true → pages_took (layout k.count) k p ≡ has_back k p (first_page (is_lent (id_of p)) 0 k.owners)
  completion_took h =
      ap (λ (b : Bool). cond b k (cond (kind_of p == 11) (has_back k p (first_page (is_lent (id_of p)) 0 k.owners)) (holds_now k p ((layout k.count).lends p)))) (some_pages k.count keeps.some)
      ∙ ap (λ (b : Bool). cond b (has_back k p (first_page (is_lent (id_of p)) 0 k.owners)) (holds_now k p ((layout k.count).lends p))) h

  request_took : (kind_of p == 11) ≡ false → pages_took (layout k.count) k p ≡ holds_now k p ((layout k.count).lends p)
  request_took h =
      ap (λ (b : Bool). cond b k (cond (kind_of p == 11) (has_back k p (first_page (is_lent (id_of p)) 0 k.owners)) (holds_now k p ((layout k.count).lends p)))) (some_pages k.count keeps.some)
      ∙ ap (λ (b : Bool). cond b (has_back k p (first_page (is_lent (id_of p)) 0 k.owners)) (holds_now k p ((layout k.count).lends p))) h

  first_in : (f : Owner → Bool) → first_page f 0 k.owners ≡ position f t.owners
  first_in f = first_is f k.owners ∙ ap (position f) keeps.owners

  named_is : (layout k.count).lends p ≡ named_in t.owners p
  named_is = ap (λ (n : ℕ). (layout n).lends p) keeps.count

  gave : (os : List Owner) (o : Option Part) → GoesBack (is_held (id_of p)) Away t.owners os o → gives_back k p (first_page (is_held (id_of p)) 0 k.owners) ≡ sent_by k p os o
  gave os None g = ap (gives_back k p) (first_in (is_held (id_of p)) ∙ g.0) ∙ ap (with_sent k p []) (keeps.owners ∙ sym g.1)
  gave os (Some a) g =
      ap (gives_back k p) (first_in (is_held (id_of p)) ∙ g.0)
      ∙ (λ i. with_sent k p (values ((ap (λ (l : List Owner). lent_words (get_or l a.page Away)) keeps.owners ∙ sym g.1) i) (copy_in k a.page)) ((ap (λ (l : List Owner). set l a.page Away) keeps.owners ∙ sym g.2) i))

  lent : (os : List Owner) (o : Option Part) → Lends (id_of p) p t.owners os o → lends_out k p ((layout k.count).lends p) ≡ sent_by k p os o
  lent os None g = ap (lends_out k p) (named_is ∙ g.0) ∙ ap (with_sent k p []) (keeps.owners ∙ sym g.1)
  lent os (Some a) g =
      ap (lends_out k p) (named_is ∙ g.0)
      ∙ ap (with_sent k p (values a.words (copy_in k a.page))) (ap (λ (l : List Owner). set l a.page (Lent (id_of p) a.words)) keeps.owners ∙ sym g.1)

  had : (os : List Owner) (o : Option Part) → GoesBack (is_lent (id_of p)) Has t.owners os o → has_back k p (first_page (is_lent (id_of p)) 0 k.owners) ≡ took_by k p os o
  had os None g = ap (has_back k p) (first_in (is_lent (id_of p)) ∙ g.0) ∙ (λ i. took_by k p ((keeps.owners ∙ sym g.1) i) None)
  had os (Some a) g =
      ap (has_back k p) (first_in (is_lent (id_of p)) ∙ g.0)
      ∙ (λ i. with_due k ((ap (λ (l : List Owner). set l a.page Has) keeps.owners ∙ sym g.2) i) a.page ((ap (λ (l : List Owner). lent_words (get_or l a.page Away)) keeps.owners ∙ sym g.1) i))

  -- what a packet lends, where this end may hold it, and where it may not
  hold_at : (a : Part) (b : Bool) → may_hold (id_of p) (get_or t.owners a.page Has) ≡ b
      → holds_now k p (Some (loan_of a)) ≡ cond b (with_due k (set k.owners a.page (Held (id_of p) a.words)) a.page a.words) (with_took k p)
  hold_at a b h = ap (λ (x : Bool). cond x (with_due k (set k.owners a.page (Held (id_of p) a.words)) a.page a.words) (with_took k p)) (ap (λ (l : List Owner). may_hold (id_of p) (get_or l a.page Has)) keeps.owners ∙ h)

  held : (os : List Owner) (o : Option Part) → Holds (id_of p) p t.owners os o → holds_now k p ((layout k.count).lends p) ≡ took_by k p os o
  held os None g =
      ⊎_elim (λ (none : named_in t.owners p ≡ None). ap (holds_now k p) (named_is ∙ none))
      (λ (some : (a : Part) × (named_in t.owners p ≡ Some (loan_of a)) × (may_hold (id_of p) (get_or t.owners a.page Has) ≡ false)). ap (holds_now k p) (named_is ∙ some.1) ∙ hold_at some.0 false some.2) g.0
      ∙ (λ i. took_by k p ((keeps.owners ∙ sym g.1) i) None)
  held os (Some a) g =
      ap (holds_now k p) (named_is ∙ g.0)
      ∙ (hold_at a true g.1 ∙ (λ i. with_due k ((ap (λ (l : List Owner). set l a.page (Held (id_of p) a.words)) keeps.owners ∙ sym g.2) i) a.page a.words))

  pub gives : (os : List Owner) (o : Option Part) → kind_of p ≡ 11 → GoesBack (is_held (id_of p)) Away t.owners os o → pages_sent (layout k.count) k p ≡ sent_by k p os o
  gives os o kind g = completion_sent (ap (λ (n : ℕ). n == 11) kind) ∙ gave os o g

  pub lends : (os : List Owner) (o : Option Part) → kind_of p ≢ 11 → Lends (id_of p) p t.owners os o → pages_sent (layout k.count) k p ≡ sent_by k p os o
  lends os o kind g = request_sent (let z : (kind_of p == 11) ≡ false = grind (arith, nat_tests, kind) in z) ∙ lent os o g

  pub brings : (os : List Owner) (o : Option Part) → kind_of p ≡ 11 → GoesBack (is_lent (id_of p)) Has t.owners os o → pages_took (layout k.count) k p ≡ took_by k p os o
  brings os o kind g = completion_took (ap (λ (n : ℕ). n == 11) kind) ∙ had os o g

  pub holds : (os : List Owner) (o : Option Part) → kind_of p ≢ 11 → Holds (id_of p) p t.owners os o → pages_took (layout k.count) k p ≡ took_by k p os o
  holds os o kind g = request_took (let z : (kind_of p == 11) ≡ false = grind (arith, nat_tests, kind) in z) ∙ held os o g

held_whole : (t : ℕ) (o : Owner) → is_held t o ≡ true → o ≡ Held t (lent_words o)
held_whole t Has e = absurd (cc)
held_whole t (Lent u n) e = absurd (cc)
held_whole t (Held u n) e = (let z : u ≡ t = grind (arith, nat_tests, e) in ap (λ (k : ℕ). Held k n) z)
held_whole t Away e = absurd (cc)

-- the page that was found is held under the id
pub found_owner : (t q : ℕ) (os : List Owner) → position (is_held t) os ≡ Some q → get_or os q Away ≡ Held t (lent_words (get_or os q Away))
found_owner t q os e = held_whole t (get_or os q Away) (position-Some (is_held t) os q Away e).1

-- the part that goes along with a completion, and with another packet
held_loans : (t : ℕ) (os : List Owner) (o : Option Part) → IsHeldPart t os o → loans o ≡ held_part os (position (is_held t) os)
held_loans t os None h = sym (ap (held_part os) h)
held_loans t os (Some a) h = (λ i. Some (record { page = a.page; words = h.1 i })) ∙ sym (ap (held_part os) h.0)

named_loans : (os : List Owner) (p : List ℕ) (o : Option Part) → MatchOption o (named_in os p ≡ None) (λ a. named_in os p ≡ Some (loan_of a)) → loans o ≡ named_in os p
named_loans os p None h = sym h
named_loans os p (Some a) h = sym h

pub part_done : (os : List Owner) (p : List ℕ) (o : Option Part) → kind_of p ≡ 11 → IsHeldPart (id_of p) os o → loans o ≡ part_in os p
part_done os p o kind h =
    held_loans (id_of p) os o h
    ∙ (ap (held_part os) (sym (first_is (is_held (id_of p)) os)) ∙ sym (ap (λ (b : Bool). cond b (held_part os (first_page (is_held (id_of p)) 0 os)) (named_in os p)) (ap (λ (n : ℕ). n == 11) kind)))

pub part_ask : (os : List Owner) (p : List ℕ) (o : Option Part) → kind_of p ≢ 11 → MatchOption o (named_in os p ≡ None) (λ a. named_in os p ≡ Some (loan_of a)) → loans o ≡ part_in os p
part_ask os p o kind h =
    named_loans os p o h
    ∙ sym (ap (λ (b : Bool). cond b (held_part os (first_page (is_held (id_of p)) 0 os)) (named_in os p)) (let z : (kind_of p == 11) ≡ false = grind (arith, nat_tests, kind) in z))

-- an owner that fits, put in place of another one
pub fit_set : (os : List Owner) (q : ℕ) (o : Owner) → ((i : ℕ) → Fits (get_or os i Away)) → Fits o → (i : ℕ) → Fits (get_or (set os q o) i Away)
fit_set [] q o f g i = f i
fit_set (x ∷ xs) zero o f g zero = g
fit_set (x ∷ xs) zero o f g (suc i) = f (suc i)
fit_set (x ∷ xs) (suc q) o f g zero = f zero
fit_set (x ∷ xs) (suc q) o f g (suc i) = fit_set xs q o (λ j. f (suc j)) g i

pub fit_push : (os : List Owner) (o : Owner) → ((i : ℕ) → Fits (get_or os i Away)) → Fits o → (i : ℕ) → Fits (get_or (os ++ o ∷ []) i Away)
fit_push [] o f g zero = g
fit_push [] o f g (suc i) = tt
fit_push (x ∷ xs) o f g zero = f zero
fit_push (x ∷ xs) o f g (suc i) = fit_push xs o (λ j. f (suc j)) g i

-- a page that passes a test of lent or held pages has 1 to 512 words
pub fit_held : (t : ℕ) (o : Owner) → Fits o → is_held t o ≡ true → (0 < lent_words o) × (lent_words o ≤ 512)
fit_held t Has f h = absurd (cc)
fit_held t (Lent u n) f h = absurd (cc)
fit_held t (Held u n) f h = f
fit_held t Away f h = absurd (cc)

pub fit_lent : (t : ℕ) (o : Owner) → Fits o → is_lent t o ≡ true → (0 < lent_words o) × (lent_words o ≤ 512)
fit_lent t Has f h = absurd (cc)
fit_lent t (Lent u n) f h = f
fit_lent t (Held u n) f h = absurd (cc)
fit_lent t Away f h = absurd (cc)

same_at : (os : List Owner) (q : ℕ) (d e : Owner) → q < length os → get_or os q d ≡ get_or os q e
same_at [] q d e h = absurd (omega (arith, h))
same_at (x ∷ xs) zero d e h = refl
same_at (x ∷ xs) (suc q) d e h = same_at xs q d e (omega (arith, h))

-- the page that was found is one of the channel's, and 1 to 512 words of it are held, or lent
pub found_held : (t q : ℕ) (os : List Owner) (copy : List ℕ) (d : Owner) → IsTable os copy → position (λ o. is_held t o) os ≡ Some q → (q < length os) × (0 < lent_words (get_or os q d)) × (lent_words (get_or os q d) ≤ 512)
found_held t q os copy d ok e =
    let s = position-Some (is_held t) os q Away e in
    let w = subst (λ (o : Owner). (0 < lent_words o) × (lent_words o ≤ 512)) (same_at os q Away d s.0) (fit_held t (get_or os q Away) (ok.fit q) s.1) in
    (s.0, w.0, w.1)

pub found_lent : (t q : ℕ) (os : List Owner) (copy : List ℕ) (d : Owner) → IsTable os copy → position (λ o. is_lent t o) os ≡ Some q → (q < length os) × (0 < lent_words (get_or os q d)) × (lent_words (get_or os q d) ≤ 512)
found_lent t q os copy d ok e =
    let s = position-Some (is_lent t) os q Away e in
    let w = subst (λ (o : Owner). (0 < lent_words o) × (lent_words o ≤ 512)) (same_at os q Away d s.0) (fit_lent t (get_or os q Away) (ok.fit q) s.1) in
    (s.0, w.0, w.1)

-- the pages of a new end
first_fits : (x : Side) (o : Side) → Fits (first_owner x o)
first_fits Guest Guest = tt
first_fits Guest Host = tt
first_fits Host Guest = tt
first_fits Host Host = tt

pub first_long : (x : Side) (c : ℕ) → length (first_owners x c) ≡ c
first_long x zero = refl
first_long x (suc c) = omega (arith, first_long x c, length-append (first_owners x c) (first_owner x ((layout 0).home c) ∷ []))

first_all : (x : Side) (c i : ℕ) → Fits (get_or (first_owners x c) i Away)
first_all x zero i = tt
first_all x (suc c) i = fit_push (first_owners x c) (first_owner x ((layout 0).home c)) (first_all x c) (first_fits x ((layout 0).home c)) i

pub new_table : (x : Side) (c : ℕ) (copy : List ℕ) → c ≤ 128 → length copy ≡ 512 * c → IsTable (first_owners x c) copy
new_table x c copy most long = record { most = omega (arith, most, first_long x c); copied = omega (arith, long, first_long x c); fit = first_all x c }
