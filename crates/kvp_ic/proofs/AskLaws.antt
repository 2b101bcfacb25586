-- Which bytes ask something: exactly those that have no fault, and they ask one thing.
use Rattle.std.proofs.Common.{◌≡◌, ℕ, zero, suc, ◌+◌, ◌*◌, ◌≤◌, ◌==◌, ◌&&◌, Bool, true, false, cond, nat_lt, List, length, Option, Some, None, refl, sym, ap, subst, ◌∙◌, arith}
use Rattle.std.specs.Prelude.{option_map, Result, Ok, Err, MatchResult, IfOk}
use Rattle.std.proofs.lemmas.Bool.Decides.{nat_tests}
use Rattle.wire_table.proofs.RowLaws.{IsBytes}
use Rattle.wire_table.proofs.PutLaws.{by_test}
use Rattle.kvp_ic.specs.declared.message.Kvp.{Kvp}
use Rattle.kvp_ic.specs.declared.message.Kvp.TheVariants.{Get, Set, Delete, Enum}
use Rattle.kvp_ic.specs.declared.text.TextPlace.{TextPlace}
use Rattle.kvp_ic.specs.declared.fault.KvpFault.{KvpFault}
use Rattle.kvp_ic.specs.declared.fault.KvpFault.TheVariants.{Short, Operation, Pool, Size, Text}
use Rattle.kvp_ic.specs.Texts.{size_at, is_size, units_at, text_at, wrong_unit, Holds}
use Rattle.kvp_ic.specs.Messages.{operation_of, pool_in, record_at, key_place, value_place, Asks}
use Rattle.kvp_ic.specs.Faults.{or_else, short_fault, operation_fault, pool_fault, size_fault, text_fault, frame_fault, key_fault, pair_fault, texts_fault, fault_of, asked_by, message_in}
use Rattle.kvp_ic.proofs.TextLaws.{text_held, held_size, held_right, held_text}

first_none : (a b : Option KvpFault) → or_else a b ≡ None → (a ≡ None) × (b ≡ None)
first_none None b h = (refl, h)
first_none (Some e) b h = cc

pub both_none : (a b : Option KvpFault) → a ≡ None → b ≡ None → or_else a b ≡ None
both_none None b h k = k
both_none (Some e) b h k = cc

-- the first fault is told, and a later one behind none
pub told_first : (a b : Option KvpFault) (e : KvpFault) → Some e ≡ a → or_else a b ≡ Some e
told_first a b e h = ap (λ x. or_else x b) (sym h)

pub told_later : (a b : Option KvpFault) (e : KvpFault) → a ≡ None → b ≡ Some e → or_else a b ≡ Some e
told_later a b e none h = ap (λ x. or_else x b) none ∙ h

-- which fault of a key and a value is told
module _ (kp vp : TextPlace) (b : List ℕ) where
  abbrev texts : Option KvpFault
  texts = or_else (text_fault 0 kp b) (text_fault 512 vp b)

  pub value_size_told : (e : KvpFault) → size_fault 1 255 kp b ≡ None → Some e ≡ size_fault 0 1023 vp b → pair_fault kp vp b ≡ Some e
  value_size_told e ks vs = told_later (size_fault 1 255 kp b) (or_else (size_fault 0 1023 vp b) texts) e ks (told_first (size_fault 0 1023 vp b) texts e vs)

  pub texts_told : (o : Option KvpFault) → size_fault 1 255 kp b ≡ None → size_fault 0 1023 vp b ≡ None → texts ≡ o → pair_fault kp vp b ≡ o
  texts_told o ks vs h = ap (λ x. or_else x (or_else (size_fault 0 1023 vp b) texts)) ks ∙ (ap (λ x. or_else x texts) vs ∙ h)

not_told : (t : Bool) (e : KvpFault) (y : Option KvpFault) → cond t (Some e) y ≡ None → (t ≡ false) × (y ≡ None)
not_told true e y h = cc
not_told false e y h = (refl, h)

size_told : (t : Bool) (e : KvpFault) → cond t None (Some e) ≡ None → t ≡ true
size_told true e h = refl
size_told false e h = cc

unmapped : {A B : Type 0} (f : A → B) (o : Option A) → option_map f o ≡ None → o ≡ None
unmapped f None h = refl
unmapped f (Some x) h = cc

-- ---- bytes with no fault ask something

held_if : (min max before : ℕ) (place : TextPlace) (b : List ℕ) → IsBytes b → size_fault min max place b ≡ None → text_fault before place b ≡ None → Holds min max place (text_at place b) b
held_if min max before place b bytes size text =
    text_held min max place b bytes (size_told (is_size min max (size_at place b)) (Size (size_at place b)) size) (unmapped (λ k. Text (before + 2 * k)) (wrong_unit 0 (units_at place b)) text)

head_if : (b : List ℕ) → frame_fault b ≡ None → (2604 ≤ length b) × (operation_of b ≡ 3 → 2608 ≤ length b) × (operation_of b ≤ 3) × (pool_in b ≤ 4)
head_if b h =
    let short = first_none (short_fault b) (or_else (operation_fault b) (pool_fault b)) h in
    let later = first_none (operation_fault b) (pool_fault b) short.1 in
    let few = not_told (nat_lt (length b) 2604) (Short (length b) 2604) (cond ((operation_of b == 3) && nat_lt (length b) 2608) (Some (Short (length b) 2608)) None) short.0 in
    let placed = not_told ((operation_of b == 3) && nat_lt (length b) 2608) (Short (length b) 2608) None few.1 in
    let op = not_told (nat_lt 3 (operation_of b)) (Operation (operation_of b)) None later.0 in
    let pool = not_told (nat_lt 4 (pool_in b)) (Pool (pool_in b)) None later.1 in
    let long : 2604 ≤ length b = grind (arith, nat_tests, few.0) in (
      long,
      λ is.
          let three : (operation_of b == 3) ≡ true = grind (arith, nat_tests, is) in
          let t : nat_lt (length b) 2608 ≡ false = rw three at placed.0 in
          grind (arith, nat_tests, t),
      grind (arith, nat_tests, op.0),
      grind (arith, nat_tests, pool.0),
    )

module _ (b : List ℕ) (bytes : IsBytes b) (long : 2604 ≤ length b) (placed : operation_of b ≡ 3 → 2608 ≤ length b) (five : pool_in b ≤ 4) where
  asks_by : (op : ℕ) → operation_of b ≡ op → op ≤ 3 → texts_fault op b ≡ None → Asks (asked_by op b) b
  asks_by zero is le h =
      let both = first_none (size_fault 1 255 (key_place 0) b) (text_fault 0 (key_place 0) b) h in
      (record { long = long; is_operation = is; is_pool = refl; five = five }, held_if 1 255 0 (key_place 0) b bytes both.0 both.1)
  asks_by (suc zero) is le h =
      let k = first_none (size_fault 1 255 (key_place 1) b) (or_else (size_fault 0 1023 (value_place 1) b) (or_else (text_fault 0 (key_place 1) b) (text_fault 512 (value_place 1) b))) h in
      let v = first_none (size_fault 0 1023 (value_place 1) b) (or_else (text_fault 0 (key_place 1) b) (text_fault 512 (value_place 1) b)) k.1 in
      let t = first_none (text_fault 0 (key_place 1) b) (text_fault 512 (value_place 1) b) v.1 in
      (record { long = long; is_operation = is; is_pool = refl; five = five }, held_if 1 255 0 (key_place 1) b bytes k.0 t.0, held_if 0 1023 512 (value_place 1) b bytes v.0 t.1)
  asks_by (suc (suc zero)) is le h =
      let both = first_none (size_fault 1 255 (key_place 0) b) (text_fault 0 (key_place 0) b) h in
      (record { long = long; is_operation = is; is_pool = refl; five = five }, held_if 1 255 0 (key_place 2) b bytes both.0 both.1)
  asks_by (suc (suc (suc zero))) is le h = (record { long = placed is; is_operation = is; is_pool = refl; five = five }, refl)
  asks_by (suc (suc (suc (suc n)))) is le h = absurd (omega (arith, le))

pub asks_if : (b : List ℕ) → IsBytes b → fault_of b ≡ None → Asks (message_in b) b
asks_if b bytes h =
    let both = first_none (frame_fault b) (texts_fault (operation_of b) b) h in
    let head = head_if b both.0 in
    asks_by b bytes head.0 head.1 head.3 (operation_of b) refl head.2 both.1

-- ---- bytes that ask something have no fault, and ask that alone

head_right : (b : List ℕ) (op : ℕ) → operation_of b ≡ op → 2604 ≤ length b → (op ≡ 3 → 2608 ≤ length b) → op ≤ 3 → pool_in b ≤ 4 → frame_fault b ≡ None
head_right b op is long placed three five =
    let few : nat_lt (length b) 2604 ≡ false = grind (arith, nat_tests, long) in
    let short : ((operation_of b == 3) && nat_lt (length b) 2608) ≡ false =
    by_test (operation_of b == 3)
    (λ t. let e : operation_of b ≡ 3 = grind (arith, nat_tests, t) in let l : 2608 ≤ length b = placed (sym is ∙ e) in let n : nat_lt (length b) 2608 ≡ false = grind (arith, nat_tests, l) in rw (t, n) refl)
    (λ f. rw f refl) in
    let op_le : operation_of b ≤ 3 = omega (arith, is, three) in
    let o : nat_lt 3 (operation_of b) ≡ false = grind (arith, nat_tests, op_le) in
    let p : nat_lt 4 (pool_in b) ≡ false = grind (arith, nat_tests, five) in
    both_none (short_fault b) (or_else (operation_fault b) (pool_fault b)) (rw (few, short) refl) (both_none (operation_fault b) (pool_fault b) (rw o refl) (rw p refl))

size_held : (min max : ℕ) (place : TextPlace) (units b : List ℕ) → Holds min max place units b → size_fault min max place b ≡ None
size_held min max place units b h = ap (λ t. cond t None (Some (Size (size_at place b)))) (held_size min max place b units h)

text_none : (min max before : ℕ) (place : TextPlace) (units b : List ℕ) → Holds min max place units b → text_fault before place b ≡ None
text_none min max before place units b h = ap (option_map (λ k. Text (before + 2 * k))) (held_right min max place b units h)

key_none : (place : TextPlace) (key b : List ℕ) → Holds 1 255 place key b → key_fault place b ≡ None
key_none place key b h = both_none (size_fault 1 255 place b) (text_fault 0 place b) (size_held 1 255 place key b h) (text_none 1 255 0 place key b h)

pair_none : (kp vp : TextPlace) (key value b : List ℕ) → Holds 1 255 kp key b → Holds 0 1023 vp value b → pair_fault kp vp b ≡ None
pair_none kp vp key value b k v =
    both_none (size_fault 1 255 kp b) (or_else (size_fault 0 1023 vp b) (or_else (text_fault 0 kp b) (text_fault 512 vp b))) (size_held 1 255 kp key b k)
    (both_none (size_fault 0 1023 vp b) (or_else (text_fault 0 kp b) (text_fault 512 vp b)) (size_held 0 1023 vp value b v)
    (both_none (text_fault 0 kp b) (text_fault 512 vp b) (text_none 1 255 0 kp key b k) (text_none 0 1023 512 vp value b v)))

-- what is asked has no fault, and is what the bytes say
pub record Said (m : Kvp) (b : List ℕ) : Type 0 where
  pub right : fault_of b ≡ None
  pub same : m ≡ message_in b

said_by : (m : Kvp) (b : List ℕ) (op : ℕ) → operation_of b ≡ op → frame_fault b ≡ None → texts_fault op b ≡ None → m ≡ asked_by op b → Said m b
said_by m b op is frame texts same =
    record {
      right = both_none (frame_fault b) (texts_fault (operation_of b) b) frame (ap (λ o. texts_fault o b) is ∙ texts);
      same = same ∙ ap (λ o. asked_by o b) (sym is);
    }

pub asked_is : (m : Kvp) (b : List ℕ) → Asks m b → Said m b
asked_is (Get pool key) b h =
    let frame = head_right b 0 h.0.is_operation h.0.long (λ e. absurd (omega (arith, e))) (omega arith) (omega (arith, h.0.is_pool, h.0.five)) in
    said_by (Get pool key) b 0 h.0.is_operation frame (key_none (key_place 0) key b h.1)
    (ap (λ p. Get p key) (sym h.0.is_pool) ∙ ap (Get (pool_in b)) (sym (held_text 1 255 (key_place 0) b key h.1)))
asked_is (Set pool key value) b h =
    let frame = head_right b 1 h.0.is_operation h.0.long (λ e. absurd (omega (arith, e))) (omega arith) (omega (arith, h.0.is_pool, h.0.five)) in
    said_by (Set pool key value) b 1 h.0.is_operation frame (pair_none (key_place 1) (value_place 1) key value b h.1 h.2)
    (ap (λ p. Set p key value) (sym h.0.is_pool)
    ∙ (ap (λ k. Set (pool_in b) k value) (sym (held_text 1 255 (key_place 1) b key h.1))
    ∙ ap (Set (pool_in b) (text_at (key_place 1) b)) (sym (held_text 0 1023 (value_place 1) b value h.2))))
asked_is (Delete pool key) b h =
    let frame = head_right b 2 h.0.is_operation h.0.long (λ e. absurd (omega (arith, e))) (omega arith) (omega (arith, h.0.is_pool, h.0.five)) in
    said_by (Delete pool key) b 2 h.0.is_operation frame (key_none (key_place 2) key b h.1)
    (ap (λ p. Delete p key) (sym h.0.is_pool) ∙ ap (Delete (pool_in b)) (sym (held_text 1 255 (key_place 2) b key h.1)))
asked_is (Enum pool index) b h =
    let long : 2604 ≤ length b = omega (arith, h.0.long) in
    let frame = head_right b 3 h.0.is_operation long (λ e. h.0.long) (omega arith) (omega (arith, h.0.is_pool, h.0.five)) in
    said_by (Enum pool index) b 3 h.0.is_operation frame refl (ap (λ p. Enum p index) (sym h.0.is_pool) ∙ ap (Enum (pool_in b)) (sym h.1))

-- ---- what is read

abbrev Reads : List ℕ → Result Kvp KvpFault → Type 0
Reads b r = MatchResult r (λ m. (fault_of b ≡ None) × (m ≡ message_in b)) (λ e. fault_of b ≡ Some e)

pub read_asks : (b : List ℕ) (r : Result Kvp KvpFault) → IsBytes b → Reads b r → IfOk r (λ m. Asks m b)
read_asks b (Ok m) bytes h = subst (λ n. Asks n b) (sym h.1) (asks_if b bytes h.0)
read_asks b (Err e) bytes h = tt

pub read_only : (b : List ℕ) (r : Result Kvp KvpFault) (m : Kvp) → Reads b r → Asks m b → r ≡ Ok m
read_only b (Ok n) m h asks = ap Ok (h.1 ∙ sym (asked_is m b asks).same)
read_only b (Err e) m h asks = let none = (asked_is m b asks).right in cc

-- a message that isn't refused has its whole record
pub record_within : (b : List ℕ) → fault_of b ≡ None → record_at (operation_of b) + 2572 ≤ length b
record_within b h =
    let head = head_if b (first_none (frame_fault b) (texts_fault (operation_of b) b) h).0 in
    by_test (operation_of b == 3)
    (λ t. let e : operation_of b ≡ 3 = grind (arith, nat_tests, t) in let long : 2608 ≤ length b = head.1 e in rw t (omega arith))
    (λ f. let long : 2604 ≤ length b = head.0 in rw f (omega arith))
