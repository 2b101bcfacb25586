-- What the first fault of a layout says.
use Rattle.std.proofs.Common.{◌≡◌, ℕ, zero, suc, ◌+◌, ◌<◌, ◌≤◌, Bool, true, false, cond, ◌&&◌, nat_lt, List, [], ◌∷◌, length, Option, Some, None, inl, inr, refl, sym, ap, ◌∙◌, subst, arith}
use Rattle.std.specs.Prelude.{◌⊎◌}
use Rattle.std.specs.List.{list_all}
use Rattle.std.proofs.lemmas.Bool.Decides.{nat_tests}
use Rattle.wire_table.specs.declared.field.Field.{Field}
use Rattle.wire_table.specs.declared.field.LayoutFault.{LayoutFault}
use Rattle.wire_table.specs.declared.field.LayoutFault.TheVariants.{Overlap, PastEnd}
use Rattle.wire_table.specs.Tables.{is_width, EachWidth, share, shared_by, as_overlap, overlap_of, past_end_of, field_of, width_of, end_of, SharesByte, IsApart, IsLeastOverlap, IsFirstPastEnd, IsFaultOf, IsSound}
use Rattle.wire_table.proofs.PutLaws.{by_test, none_share, none_shared}
use Rattle.wire_table.proofs.TableLemmas.{within_size}

some_width : (w : ℕ) → is_width w ≡ true → 1 ≤ w
some_width zero h = cc
some_width (suc w) h = omega arith

both_true : (a b : Bool) → (a && b) ≡ true → (a ≡ true) × (b ≡ true)
both_true true b h = (refl, h)
both_true false b h = cc

width_some : (fs : List Field) (i : ℕ) → EachWidth fs → i < length fs → 1 ≤ width_of fs i
width_some [] i h lt = absurd (omega arith)
width_some (f ∷ fs) zero h lt = some_width f.width (both_true (is_width f.width) (list_all (λ g. is_width g.width) fs) h).0
width_some (f ∷ fs) (suc i) h lt = width_some fs i (both_true (is_width f.width) (list_all (λ g. is_width g.width) fs) h).1 (omega arith)

-- the test finds a shared byte
shared_byte : (f g : Field) → 1 ≤ f.width → 1 ≤ g.width → share f g ≡ true → SharesByte f g
shared_byte f g wf wg h =
    let both = both_true (nat_lt f.at (g.at + g.width)) (nat_lt g.at (f.at + f.width)) h in
    let p : f.at < g.at + g.width = grind (arith, nat_tests, both.0) in
    let q : g.at < f.at + f.width = grind (arith, nat_tests, both.1) in
    by_test (nat_lt f.at g.at)
    (λ t. let lt : f.at < g.at = grind (arith, nat_tests, t) in record { byte = g.at; first = (omega arith, q); second = (omega arith, omega arith) })
    (λ t. let le : g.at ≤ f.at = grind (arith, nat_tests, t) in record { byte = f.at; first = (omega arith, omega arith); second = (le, p) })

-- and no shared byte is missed
no_byte : (f g : Field) → share f g ≡ false → ¬ SharesByte f g
no_byte f g h = λ s.
    let p : nat_lt f.at (g.at + g.width) ≡ true = grind (arith, nat_tests, s.first, s.second) in
    let q : nat_lt g.at (f.at + f.width) ≡ true = grind (arith, nat_tests, s.first, s.second) in
    let bad : true ≡ false = rw (p, q) at h in cc

share_again : (f g : Field) → SharesByte f g → share f g ≡ true
share_again f g s = by_test (share f g) (λ t. t) (λ t. absurd (no_byte f g t s))

apart : (fs : List Field) → overlap_of 0 fs ≡ None → IsApart fs
apart fs h a b lt len = no_byte (field_of fs a) (field_of fs b) (none_share 0 fs a b h lt len)

-- a first field of these that shares a byte with f
record FirstShared (f : Field) (k : ℕ) (gs : List Field) (m : ℕ) : Type 0 where
  place : ℕ
  is : m ≡ k + place
  within : place < length gs
  shared : share f (field_of gs place) ≡ true
  before : (i : ℕ) → i < place → share f (field_of gs i) ≡ false

some_same : (a b : ℕ) → Some a ≡ Some b → a ≡ b
some_same a b h = cc

later : (b : Bool) (x : ℕ) (y : Option ℕ) (m : ℕ) → b ≡ false → cond b (Some x) y ≡ Some m → y ≡ Some m
later true x y m e h = cc
later false x y m e h = h

now : (b : Bool) (x : ℕ) (y : Option ℕ) (m : ℕ) → b ≡ true → cond b (Some x) y ≡ Some m → m ≡ x
now true x y m e h = cc
now false x y m e h = cc

first_shared : (f : Field) (k : ℕ) (gs : List Field) (m : ℕ) → shared_by f k gs ≡ Some m → FirstShared f k gs m
first_shared f k [] m h = cc
first_shared f k (g ∷ gs) m h = by_test (share f g)
    (λ t. let is : m ≡ k = now (share f g) k (shared_by f (k + 1) gs) m t h in
    record { place = 0; is = is ∙ omega arith; within = omega arith; shared = t; before = λ i lt. absurd (omega arith) })
    (λ t. let r = first_shared f (k + 1) gs m (later (share f g) k (shared_by f (k + 1) gs) m t h) in
    record {
      place = suc r.place;
      is = omega (arith, r.is);
      within = omega (arith, r.within);
      shared = r.shared;
      before = λ i lt. elim i as (λ n. n < suc r.place → share f (field_of (g ∷ gs) n) ≡ false) [ zero ↦ λ _. t | suc n ↦ λ l. r.before n (omega arith) ] lt;
    })

-- the least pair of these fields that share a byte
record LeastPair (k : ℕ) (fs : List Field) (e : LayoutFault) : Type 0 where
  one : ℕ
  two : ℕ
  is : e ≡ Overlap (k + one) (k + two)
  order : one < two
  within : two < length fs
  shared : share (field_of fs one) (field_of fs two) ≡ true
  least : (a b : ℕ) → a < b → b < length fs → share (field_of fs a) (field_of fs b) ≡ true → (one < a) ⊎ ((one ≡ a) × (two ≤ b))

suc_pair : (x a y b : ℕ) → (x < a) ⊎ ((x ≡ a) × (y ≤ b)) → (suc x < suc a) ⊎ ((suc x ≡ suc a) × (suc y ≤ suc b))
suc_pair x a y b (inl h) = inl (omega arith)
suc_pair x a y b (inr h) = inr (ap suc h.0, omega (arith, h.1))

-- field 0 against the others
from_first : (f : Field) (fs : List Field) (place : ℕ) → ((i : ℕ) → i < place → share f (field_of fs i) ≡ false)
    → (a b : ℕ) → a < b → b < suc (length fs) → share (field_of (f ∷ fs) a) (field_of (f ∷ fs) b) ≡ true → (0 < a) ⊎ ((0 ≡ a) × (suc place ≤ b))
from_first f fs place before a zero lt len t = absurd (omega arith)
from_first f fs place before zero (suc n) lt len t =
    by_test (nat_lt n place) (λ u. let early : n < place = grind (arith, nat_tests, u) in let no = before n early in cc) (λ u. let le : place ≤ n = grind (arith, nat_tests, u) in inr (refl, omega arith))
from_first f fs place before (suc m) (suc n) lt len t = inl (omega arith)

from_rest : (f : Field) (fs : List Field) (one two : ℕ) → ((i : ℕ) → i < length fs → share f (field_of fs i) ≡ false)
    → ((a b : ℕ) → a < b → b < length fs → share (field_of fs a) (field_of fs b) ≡ true → (one < a) ⊎ ((one ≡ a) × (two ≤ b)))
    → (a b : ℕ) → a < b → b < suc (length fs) → share (field_of (f ∷ fs) a) (field_of (f ∷ fs) b) ≡ true → (suc one < a) ⊎ ((suc one ≡ a) × (suc two ≤ b))
from_rest f fs one two none least a zero lt len t = absurd (omega arith)
from_rest f fs one two none least zero (suc n) lt len t = let no = none n (omega arith) in cc
from_rest f fs one two none least (suc m) (suc n) lt len t = suc_pair one m two n (least m n (omega arith) (omega arith) t)

some_fault : (a b : LayoutFault) → Some a ≡ Some b → b ≡ a
some_fault a b h = cc

pair_from : (k : ℕ) (f : Field) (fs : List Field) (e : LayoutFault) → (overlap_of (k + 1) fs ≡ Some e → LeastPair (k + 1) fs e)
    → (o : Option ℕ) → shared_by f (k + 1) fs ≡ o → as_overlap k o (overlap_of (k + 1) fs) ≡ Some e → LeastPair k (f ∷ fs) e
pair_from k f fs e rest (Some m) is h =
    let r = first_shared f (k + 1) fs m is in
    let place : m ≡ k + suc r.place = r.is ∙ omega arith in
    let zero_is : k ≡ k + 0 = omega arith in
    record {
      one = 0;
      two = suc r.place;
      is = some_fault (Overlap k m) e h ∙ (ap (λ n. Overlap n m) zero_is ∙ ap (Overlap (k + 0)) place);
      order = omega arith;
      within = omega (arith, r.within);
      shared = r.shared;
      least = from_first f fs r.place r.before;
    }
pair_from k f fs e rest None is h =
    let r = rest h in
    let first : k + 1 + r.one ≡ k + suc r.one = omega arith in
    let second : k + 1 + r.two ≡ k + suc r.two = omega arith in
    record {
      one = suc r.one;
      two = suc r.two;
      is = r.is ∙ (ap (λ n. Overlap n (k + 1 + r.two)) first ∙ ap (Overlap (k + suc r.one)) second);
      order = omega (arith, r.order);
      within = omega (arith, r.within);
      shared = r.shared;
      least = from_rest f fs r.one r.two (λ i lt. none_shared f (k + 1) fs i is lt) r.least;
    }

least_pair : (k : ℕ) (fs : List Field) (e : LayoutFault) → overlap_of k fs ≡ Some e → LeastPair k fs e
least_pair k [] e h = cc
least_pair k (f ∷ fs) e h = pair_from k f fs e (least_pair (k + 1) fs e) (shared_by f (k + 1) fs) refl h

-- the first of these fields that ends past the size
record FirstPast (size k : ℕ) (fs : List Field) (e : LayoutFault) : Type 0 where
  place : ℕ
  is : e ≡ PastEnd (k + place)
  within : place < length fs
  past : size < end_of fs place
  before : (a : ℕ) → a < place → end_of fs a ≤ size

past_from : (size k : ℕ) (f : Field) (fs : List Field) (e : LayoutFault) → (past_end_of size (k + 1) fs ≡ Some e → FirstPast size (k + 1) fs e)
    → (b : Bool) → nat_lt size (f.at + f.width) ≡ b → cond b (Some (PastEnd k)) (past_end_of size (k + 1) fs) ≡ Some e → FirstPast size k (f ∷ fs) e
past_from size k f fs e rest true is h =
    let zero_is : k ≡ k + 0 = omega arith in
    record { place = 0; is = some_fault (PastEnd k) e h ∙ ap PastEnd zero_is; within = omega arith; past = grind (arith, nat_tests, is); before = λ a lt. absurd (omega arith) }
past_from size k f fs e rest false is h =
    let r = rest h in
    let le : f.at + f.width ≤ size = grind (arith, nat_tests, is) in
    let place : k + 1 + r.place ≡ k + suc r.place = omega arith in
    record {
      place = suc r.place;
      is = r.is ∙ ap PastEnd place;
      within = omega (arith, r.within);
      past = r.past;
      before = λ a lt. elim a as (λ n. n < suc r.place → end_of (f ∷ fs) n ≤ size) [ zero ↦ λ _. le | suc n ↦ λ l. r.before n (omega arith) ] lt;
    }

first_past : (size k : ℕ) (fs : List Field) (e : LayoutFault) → past_end_of size k fs ≡ Some e → FirstPast size k fs e
first_past size k [] e h = cc
first_past size k (f ∷ fs) e h = past_from size k f fs e (first_past size (k + 1) fs e) (nat_lt size (f.at + f.width)) refl h

widths : (fs : List Field) → EachWidth fs → (i : ℕ) → i < length fs → 1 ≤ width_of fs i
widths fs each i lt = width_some fs i each lt

-- an overlap is the least pair that shares a byte
pub overlap_is : (size : ℕ) (fs : List Field) (e : LayoutFault) → EachWidth fs → overlap_of 0 fs ≡ Some e → IsFaultOf size fs e
overlap_is size fs e each h =
    let r = least_pair 0 fs e h in
    let is : Overlap r.one r.two ≡ e = sym (r.is ∙ (ap (λ n. Overlap n (0 + r.two)) (omega arith) ∙ ap (Overlap r.one) (omega arith))) in
    let found : IsLeastOverlap fs r.one r.two = record {
      order = r.order;
      within = r.within;
      shares = shared_byte (field_of fs r.one) (field_of fs r.two) (widths fs each r.one (omega (arith, r.order, r.within))) (widths fs each r.two r.within) r.shared;
      least = λ a b lt len s. r.least a b lt len (share_again (field_of fs a) (field_of fs b) s);
    } in
    subst (IsFaultOf size fs) is found

-- a field past the end is the first one, where no two share a byte
pub past_is : (size : ℕ) (fs : List Field) (e : LayoutFault) → overlap_of 0 fs ≡ None → past_end_of size 0 fs ≡ Some e → IsFaultOf size fs e
past_is size fs e none h =
    let r = first_past size 0 fs e h in
    let is : PastEnd r.place ≡ e = sym (r.is ∙ ap PastEnd (omega arith)) in
    let found : IsFirstPastEnd size fs r.place = record { apart = apart fs none; within = r.within; past = r.past; first = r.before } in
    subst (IsFaultOf size fs) is found

-- with no fault a layout is sound
pub sound_is : (size : ℕ) (fs : List Field) → overlap_of 0 fs ≡ None → past_end_of size 0 fs ≡ None → IsSound size fs
sound_is size fs none past = record { apart = apart fs none; within = λ i lt. within_size size 0 fs i past lt }
