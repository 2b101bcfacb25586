-- Texts in messages: their units are read and written one by one.
use Rattle.std.proofs.Common.{◌≡◌, ℕ, zero, suc, ◌+◌, ◌-◌, ◌*◌, ◌/◌, ◌%◌, ◌^◌, ◌<◌, ◌≤◌, ◌==◌, ◌&&◌, Bool, true, false, cond, not, nat_le, List, [], ◌∷◌, ◌++◌, length, get_or, set, take, drop, Option, Some, None, append_assoc, length-append, refl, sym, ap, ◌∙◌, arith}
use Rattle.std.specs.Prelude.{option_map}
use Rattle.std.specs.List.{flat_map, AllByRecursion}
use Rattle.std.proofs.lemmas.Bool.Decides.{nat_tests}
use Rattle.std.proofs.lemmas.List.{take_all, take_more, take_more_set, take_at, drop_at, drop_more, drop-drop, append-nil}
use Rattle.std.proofs.lemmas.Grind.{flat_map-append}
use Rattle.wire_table.specs.Little.{number_of, bytes_of}
use Rattle.wire_table.specs.Rows.{numbers_in}
use Rattle.wire_table.proofs.RowLaws.{IsBytes, drop_bytes}
use Rattle.wire_table.proofs.LittleLemmas.{length-bytes_of, number_of-bytes_of}
use Rattle.wire_table.proofs.NumberLaws.{numbers_more, numbers_all, length-numbers_in}
use Rattle.util_ic.specs.Messages.{number_at, zeros}
use Rattle.util_ic.proofs.ByteLaws.{length-zeros}
use Rattle.kvp_ic.specs.declared.text.TextPlace.{TextPlace}
use Rattle.kvp_ic.specs.Texts.{text_size, field_of, size_at, is_size, units_at, text_at, is_right, wrong_unit, Holds}

-- ---- tests

pub both_true : (a b : Bool) → (a && b) ≡ true → (a ≡ true) × (b ≡ true)
both_true true b h = (refl, h)
both_true false b h = cc

flipped : (b : Bool) → not b ≡ true → b ≡ false
flipped true h = cc
flipped false h = refl

-- a size that is right: twice a number of units from the least to the most, with a last one
pub sized : (min max size : ℕ) → is_size min max size ≡ true → (size ≡ 2 * (size / 2)) × (min + 1 ≤ size / 2) × (size / 2 ≤ max + 1)
sized min max size h =
    let ends = both_true ((size % 2 == 0) && nat_le (text_size min) size) (nat_le size (text_size max)) h in
    let even = both_true (size % 2 == 0) (nat_le (text_size min) size) ends.0 in
    let e : size % 2 ≡ 0 = grind (arith, nat_tests, even.0) in
    let least : 2 * (min + 1) ≤ size = grind (arith, nat_tests, even.1) in
    let most : size ≤ 2 * (max + 1) = grind (arith, nat_tests, ends.1) in
    (omega (arith, e), omega (arith, least), omega (arith, most))

pub size_right : (min max n size : ℕ) → size ≡ text_size n → min ≤ n → n ≤ max → is_size min max size ≡ true
size_right min max n size is least most =
    let rest : size % 2 ≡ 0 = omega (arith, is) in
    let even : (size % 2 == 0) ≡ true = grind (arith, nat_tests, rest) in
    let low : 2 * (min + 1) ≤ size = omega (arith, is) in
    let high : size ≤ 2 * (max + 1) = omega (arith, is) in
    let a : nat_le (text_size min) size ≡ true = grind (arith, nat_tests, low) in
    let b : nat_le size (text_size max) ≡ true = grind (arith, nat_tests, high) in
    rw (even, a, b) refl

-- ---- units one by one

pub two_bytes : (at : ℕ) (b : List ℕ) → at + 2 ≤ length b → number_at at 2 b ≡ get_or b at 0 + 256 * get_or b (at + 1) 0
unfolding number_of
two_bytes at b le =
    let width : at + 2 - at ≡ 2 = omega arith in
    let one : drop at b ≡ get_or b at 0 ∷ drop (at + 1) b = drop_more b at 0 (omega arith) in
    let two : drop (at + 1) b ≡ get_or b (at + 1) 0 ∷ drop (at + 1 + 1) b = drop_more b (at + 1) 0 (omega arith) in
    ap (λ k. number_of (take k (drop at b))) width ∙ (ap (λ d. number_of (take 2 d)) (one ∙ ap (λ (l : List ℕ). get_or b at 0 ∷ l) two) ∙ omega arith)

-- the first unit of those that are left
pub units_step : (n i at : ℕ) (b : List ℕ) → i < n → numbers_in 2 (n - i) (drop (at + 2 * i) b) ≡ number_at (at + 2 * i) 2 b ∷ numbers_in 2 (n - (i + 1)) (drop (at + 2 * (i + 1)) b)
unfolding numbers_in
units_step n i at b lt =
    let one : n - i ≡ suc (n - (i + 1)) = omega arith in
    let step : at + 2 * (i + 1) ≡ at + 2 * i + 2 = omega arith in
    let next : drop (at + 2 * (i + 1)) b ≡ drop 2 (drop (at + 2 * i) b) = ap (λ k. drop k b) step ∙ sym (drop-drop 2 (at + 2 * i) b) in
    let width : at + 2 * i + 2 - (at + 2 * i) ≡ 2 = omega arith in
    rw (one, next, width) refl

went_on : (b : Bool) (x y all : Option ℕ) → b ≡ true → cond b x y ≡ all → x ≡ all
went_on true x y all e h = h
went_on false x y all e h = cc

stopped : (b : Bool) (x y all : Option ℕ) → b ≡ false → cond b x y ≡ all → y ≡ all
stopped true x y all e h = cc
stopped false x y all e h = h

module _ (n i at : ℕ) (b : List ℕ) (u : ℕ) (right : Bool) (all : Option ℕ) (lt : i < n) (is : u ≡ number_at (at + 2 * i) 2 b) (test : right ≡ is_right u (n - 1 - i)) (h : wrong_unit i (numbers_in 2 (n - i) (drop (at + 2 * i) b)) ≡ all) where
  abbrev rest : List ℕ
  rest = numbers_in 2 (n - (i + 1)) (drop (at + 2 * (i + 1)) b)

  tested : is_right (number_at (at + 2 * i) 2 b) (length rest) ≡ right
  tested =
      let left : length rest ≡ n - 1 - i = length-numbers_in 2 (n - (i + 1)) (drop (at + 2 * (i + 1)) b) ∙ omega arith in
      ap (λ k. is_right (number_at (at + 2 * i) 2 b) k) left ∙ (ap (λ v. is_right v (n - 1 - i)) (sym is) ∙ sym test)

  split : wrong_unit i (number_at (at + 2 * i) 2 b ∷ rest) ≡ all
  split = ap (wrong_unit i) (sym (units_step n i at b lt)) ∙ h

  pub right_step : right ≡ true → wrong_unit (i + 1) rest ≡ all
  right_step is_one = went_on (is_right (number_at (at + 2 * i) 2 b) (length rest)) (wrong_unit (i + 1) rest) (Some i) all (tested ∙ is_one) split

  pub wrong_step : right ≡ false → Some i ≡ all
  wrong_step not_one = stopped (is_right (number_at (at + 2 * i) 2 b) (length rest)) (wrong_unit (i + 1) rest) (Some i) all (tested ∙ not_one) split

pub none_wrong : (n i : ℕ) (d : List ℕ) (all : Option ℕ) → n ≤ i → wrong_unit i (numbers_in 2 (n - i) d) ≡ all → None ≡ all
unfolding numbers_in
none_wrong n i d all le h = let none : n - i ≡ 0 = omega arith in rw none at h

-- one more unit is read
pub unit_read : (n i at u : ℕ) (b us all : List ℕ) → i < n → length us ≡ n → u ≡ number_at (at + 2 * i) 2 b
    → take i us ++ numbers_in 2 (n - i) (drop (2 * i) (drop at b)) ≡ all → take (i + 1) (set us i u) ++ numbers_in 2 (n - (i + 1)) (drop (2 * (i + 1)) (drop at b)) ≡ all
unit_read n i at u b us all lt len is h =
    let width : at + 2 * i + 2 - (at + 2 * i) ≡ 2 = omega arith in
    let here : number_at (at + 2 * i) 2 b ≡ number_of (take 2 (drop (2 * i) (drop at b))) = ap (λ k. number_of (take k (drop (at + 2 * i) b))) width ∙ ap (λ (d : List ℕ). number_of (take 2 d)) (sym (drop-drop (2 * i) at b)) in
    let within : i < length us = omega arith in
    rw (take_more_set us i u within, is ∙ here) (numbers_more 2 n i (drop at b) (take i us) all lt h)

pub units_read : (n i : ℕ) (us d all : List ℕ) → n ≤ i → length us ≡ n → take i us ++ numbers_in 2 (n - i) (drop (2 * i) d) ≡ all → us ≡ all
units_read n i us d all le len h = sym (take_all i us (omega arith)) ∙ numbers_all 2 n i d (take i us) all le h

-- one more unit is written
pub unit_written : (i u : ℕ) (us old new : List ℕ) → i < length us → u ≡ get_or us i 0 → take (2 * i) old ≡ flat_map (bytes_of 2) (take i us) → take (2 * i + 2) new ≡ take (2 * i) old ++ bytes_of 2 u
    → take (2 * (i + 1)) new ≡ flat_map (bytes_of 2) (take (i + 1) us)
unit_written i u us old new lt is so_far front =
    let count : 2 * (i + 1) ≡ 2 * i + 2 = omega arith in
    ap (λ k. take k new) count
    ∙ (front
    ∙ (ap (λ l. l ++ bytes_of 2 u) so_far
    ∙ (ap (λ l. flat_map (bytes_of 2) (take i us) ++ l) (sym (append-nil (bytes_of 2 u)))
    ∙ (sym (flat_map-append (bytes_of 2) (take i us) (u ∷ []))
    ∙ ap (flat_map (bytes_of 2)) (ap (λ v. take i us ++ v ∷ []) is ∙ sym (take_more us i 0 lt))))))

-- ---- a text and its last unit

kept : (b : Bool) (k : ℕ) (x : Option ℕ) → cond b x (Some k) ≡ None → (b ≡ true) × (x ≡ None)
kept true k x h = (refl, h)
kept false k x h = cc

kept_in : (b : Bool) (k : ℕ) (x : Option ℕ) → b ≡ true → x ≡ None → cond b x (Some k) ≡ None
kept_in true k x e h = h
kept_in false k x e h = cc

last_zero : (u : ℕ) → is_right u 0 ≡ true → u ≡ 0
last_zero u h =
    let e : (0 == 0) ≡ true = grind (arith, nat_tests) in
    let t : (u == 0) ≡ true = rw e at h in
    grind (arith, nat_tests, t)

some_before : (u left : ℕ) → 0 < left → is_right u left ≡ true → 0 < u
some_before u left lt h =
    let e : (left == 0) ≡ false = grind (arith, nat_tests, lt) in
    let t : not (u == 0) ≡ true = rw e at h in
    let f : (u == 0) ≡ false = flipped (u == 0) t in
    grind (arith, nat_tests, f)

right_before : (u left : ℕ) → 0 < left → 0 < u → is_right u left ≡ true
right_before u left lt some =
    let e : (left == 0) ≡ false = grind (arith, nat_tests, lt) in
    let f : (u == 0) ≡ false = grind (arith, nat_tests, some) in
    rw (e, f) refl

-- units that are right are a text and a last unit of 0
pub right_units : (n k : ℕ) (d : List ℕ) → wrong_unit k (numbers_in 2 (suc n) d) ≡ None → AllByRecursion (λ u. 0 < u) (numbers_in 2 n d) × (numbers_in 2 (suc n) d ≡ numbers_in 2 n d ++ 0 ∷ [])
unfolding numbers_in
right_units zero k d h = (tt, ap (λ u. u ∷ []) (last_zero (number_of (take 2 d)) (kept (is_right (number_of (take 2 d)) 0) k None h).0))
right_units (suc n) k d h =
    let u = number_of (take 2 d) in
    let rest = numbers_in 2 (suc n) (drop 2 d) in
    let both = kept (is_right u (length rest)) k (wrong_unit (k + 1) rest) h in
    let later = right_units n (k + 1) (drop 2 d) both.1 in
    let more : 0 < length rest = omega (arith, length-numbers_in 2 (suc n) (drop 2 d)) in
    ((some_before u (length rest) more both.0, later.0), ap (λ (us : List ℕ). u ∷ us) later.1)

-- and a text with its last unit is right
pub text_right : (us : List ℕ) (k : ℕ) → AllByRecursion (λ u. 0 < u) us → wrong_unit k (us ++ 0 ∷ []) ≡ None
text_right [] k h = kept_in (is_right 0 0) k None (let e : (0 == 0) ≡ true = grind (arith, nat_tests) in rw e refl) refl
text_right (u ∷ us) k h =
    let more : 0 < length (us ++ 0 ∷ []) = omega (arith, length-append us (0 ∷ [])) in
    kept_in (is_right u (length (us ++ 0 ∷ []))) k (wrong_unit (k + 1) (us ++ 0 ∷ [])) (right_before u (length (us ++ 0 ∷ [])) more h.0) (text_right us (k + 1) h.1)

-- units without the last
pub units_before : (n : ℕ) (d : List ℕ) → take n (numbers_in 2 (n + 1) d) ≡ numbers_in 2 n d
unfolding numbers_in
units_before zero d = refl
units_before (suc n) d =
    let e : suc n + 1 ≡ suc (n + 1) = omega arith in
    rw e (ap (λ (us : List ℕ). number_of (take 2 d) ∷ us) (units_before n (drop 2 d)))

unit_below : (d : List ℕ) → IsBytes d → number_of (take 2 d) < 2 ^ 16
unfolding number_of
unit_below [] h = omega arith
unit_below (x ∷ []) h = omega (arith, h 0)
unit_below (x ∷ (y ∷ d)) h = omega (arith, h 0, h 1)

-- units are below 65,536
pub units_fit : (n : ℕ) (d : List ℕ) → IsBytes d → AllByRecursion (λ u. u < 2 ^ 16) (numbers_in 2 n d)
unfolding numbers_in
units_fit zero d h = tt
units_fit (suc n) d h = (unit_below d h, units_fit n (drop 2 d) (drop_bytes 2 d h))

-- ---- fields

field_again : (us tail : List ℕ) → AllByRecursion (λ u. u < 2 ^ 16) us → numbers_in 2 (length us + 1) (flat_map (bytes_of 2) us ++ 0 ∷ 0 ∷ tail) ≡ us ++ 0 ∷ []
unfolding numbers_in number_of
field_again [] tail h = refl
field_again (u ∷ us) tail h =
    let behind = flat_map (bytes_of 2) us ++ 0 ∷ 0 ∷ tail in
    let e : length (u ∷ us) + 1 ≡ suc (length us + 1) = omega arith in
    let cut : flat_map (bytes_of 2) (u ∷ us) ++ 0 ∷ 0 ∷ tail ≡ bytes_of 2 u ++ behind = append_assoc (bytes_of 2 u) (flat_map (bytes_of 2) us) (0 ∷ 0 ∷ tail) in
    let front : take 2 (bytes_of 2 u ++ behind) ≡ bytes_of 2 u = take_at (bytes_of 2 u) behind 2 (length-bytes_of 2 u) in
    let back : drop 2 (bytes_of 2 u ++ behind) ≡ behind = drop_at (bytes_of 2 u) behind 2 (length-bytes_of 2 u) in
    let first : number_of (take 2 (bytes_of 2 u ++ behind)) ≡ u = ap number_of front ∙ number_of-bytes_of 2 u (omega (arith, h.0)) in
    let others : numbers_in 2 (length us + 1) (drop 2 (bytes_of 2 u ++ behind)) ≡ us ++ 0 ∷ [] = ap (numbers_in 2 (length us + 1)) back ∙ field_again us tail h.1 in
    ap (λ k. numbers_in 2 k (flat_map (bytes_of 2) (u ∷ us) ++ 0 ∷ 0 ∷ tail)) e
    ∙ (ap (numbers_in 2 (suc (length us + 1))) cut
    ∙ (ap (λ v. v ∷ numbers_in 2 (length us + 1) (drop 2 (bytes_of 2 u ++ behind))) first
    ∙ ap (λ (vs : List ℕ). u ∷ vs) others))

two_zeros : (n : ℕ) → 2 ≤ n → zeros n ≡ 0 ∷ 0 ∷ zeros (n - 2)
unfolding zeros
two_zeros n le = let e : n ≡ suc (suc (n - 2)) = omega arith in ap zeros e

-- a text is read again from its field, with its last unit, whatever follows
pub field_read : (room : ℕ) (us more : List ℕ) → AllByRecursion (λ u. u < 2 ^ 16) us → text_size (length us) ≤ room → numbers_in 2 (length us + 1) (field_of room us ++ more) ≡ us ++ 0 ∷ []
field_read room us more h le =
    let left = room - 2 * length us in
    let two : zeros left ≡ 0 ∷ 0 ∷ zeros (left - 2) = two_zeros left (omega arith) in
    let cut : field_of room us ++ more ≡ flat_map (bytes_of 2) us ++ 0 ∷ 0 ∷ (zeros (left - 2) ++ more) = append_assoc (flat_map (bytes_of 2) us) (zeros left) more ∙ ap (λ z. flat_map (bytes_of 2) us ++ (z ++ more)) two in
    ap (numbers_in 2 (length us + 1)) cut ∙ field_again us (zeros (left - 2) ++ more) h

units_bytes : (us : List ℕ) → length (flat_map (bytes_of 2) us) ≡ 2 * length us
units_bytes [] = omega arith
units_bytes (u ∷ us) = omega (arith, length-append (bytes_of 2 u) (flat_map (bytes_of 2) us), length-bytes_of 2 u, units_bytes us)

pub length-field_of : (room : ℕ) (us : List ℕ) → 2 * length us ≤ room → length (field_of room us) ≡ room
length-field_of room us le = omega (arith, length-append (flat_map (bytes_of 2) us) (zeros (room - 2 * length us)), units_bytes us, length-zeros (room - 2 * length us))

-- ---- texts that stand in a message

unmapped : {A B : Type 0} (f : A → B) (o : Option A) → option_map f o ≡ None → o ≡ None
unmapped f None h = refl
unmapped f (Some x) h = cc

module _ (min max : ℕ) (place : TextPlace) (b : List ℕ) where
  -- a right size and right units are a text
  pub text_held : IsBytes b → is_size min max (size_at place b) ≡ true → wrong_unit 0 (units_at place b) ≡ None → Holds min max place (text_at place b) b
  text_held bytes size right =
      let s = sized min max (size_at place b) size in
      let n = size_at place b / 2 - 1 in
      let d = drop place.at b in
      let count : size_at place b / 2 ≡ suc n = omega (arith, s.1) in
      let units = right_units n 0 d (ap (λ k. wrong_unit 0 (numbers_in 2 k d)) (sym count) ∙ right) in
      let len : length (numbers_in 2 n d) ≡ n = length-numbers_in 2 n d in
      let next : length (numbers_in 2 n d) + 1 ≡ suc n = omega (arith, len) in
      record {
        text = record { least = omega (arith, len, s.1); most = omega (arith, len, s.2); each = units.0; fits = units_fit n d (drop_bytes place.at b bytes) };
        size = s.0 ∙ omega (arith, len, s.1);
        here = ap (λ k. numbers_in 2 k d) next ∙ units.1;
      }

  module _ (units : List ℕ) (holds : Holds min max place units b) where
    half : size_at place b / 2 ≡ length units + 1
    half = omega (arith, holds.size)

    -- and a text has a right size and right units
    pub held_size : is_size min max (size_at place b) ≡ true
    held_size = size_right min max (length units) (size_at place b) holds.size holds.text.least holds.text.most

    pub held_right : wrong_unit 0 (units_at place b) ≡ None
    held_right = ap (λ k. wrong_unit 0 (numbers_in 2 k (drop place.at b))) half ∙ (ap (wrong_unit 0) holds.here ∙ text_right units 0 holds.text.each)

    pub held_text : text_at place b ≡ units
    held_text =
        let count : size_at place b / 2 - 1 ≡ length units = omega (arith, half) in
        ap (λ k. numbers_in 2 k (drop place.at b)) count
        ∙ (sym (units_before (length units) (drop place.at b))
        ∙ (ap (take (length units)) holds.here ∙ take_at units (0 ∷ []) (length units) refl))
