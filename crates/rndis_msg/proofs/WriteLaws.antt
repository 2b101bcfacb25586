-- What is written of a message are its bytes, and what follows them isn't looked at.
use Rattle.std.proofs.Common.{◌≡◌, ℕ, zero, suc, ◌+◌, ◌-◌, ◌^◌, ◌<◌, ◌≤◌, false, ◌==◌, List, [], ◌∷◌, ◌++◌, length, take, drop, slice_range, Ok, refl, sym, ap, ◌∙◌, subst, arith, length-append}
use Rattle.std.specs.List.{AllByRecursion}
use Rattle.std.proofs.lemmas.Bool.Decides.{nat_tests}
use Rattle.std.proofs.lemmas.List.{append-nil, take_at, take_all}
use Rattle.wire_table.specs.Rows.{Row, Kind, nums, spelled_after, total, AllHave, rows_at, nth_number}
use Rattle.wire_table.proofs.RowLaws.{front_again}
use Rattle.rndis_msg.specs.Types.{number_of_type, fixed_part, kept_places, buffer_place}
use Rattle.rndis_msg.specs.Messages.{type_of, values_of, body_of}
use Rattle.rndis_msg.specs.Grammar.{number_at, numbers_at, IsBuffer, Holds, IsRndis, BeginsWith, front_of, InForm, length_of, offset_of, words_of, rows_of, rndis_bytes}
use Rattle.rndis_msg.specs.declared.message_type.BufferPlace.{BufferPlace}
use Rattle.rndis_msg.specs.declared.rndis.Rndis.{Rndis}
use Rattle.rndis_msg.specs.declared.rndis.Rndis.TheVariants.{Packet, Initialize, InitializeComplete, Halt, Query, QueryComplete, Set, SetComplete, Reset, ResetComplete, Keepalive, KeepaliveComplete}
use Rattle.rndis_msg.specs.Reading.{message_in}
use Rattle.rndis_msg.proofs.PartLaws.{some_fixed, padded_number}
use Rattle.rndis_msg.proofs.ReadLaws.{begins_told}

-- a message's bytes are its fixed part and its buffer
bytes_are : (m : Rndis) → rndis_bytes m ≡ spelled_after [] (rows_of (words_of m)) ++ body_of m
unfolding rndis_bytes
bytes_are (Packet body) = refl
bytes_are (Query request_id oid body) = refl
bytes_are (QueryComplete request_id status body) = refl
bytes_are (Set request_id oid body) = refl
bytes_are m = sym (append-nil (spelled_after [] (rows_of (words_of m))))

abbrev kinds : List ℕ → List Kind
kinds [] = []
kinds (w ∷ ws) = nums 4 ∷ kinds ws

all_have : (ws : List ℕ) → AllByRecursion (λ v. v < 256 ^ 4) ws → AllHave (kinds ws) (rows_of ws)
all_have [] h = tt
all_have (w ∷ ws) h = ((refl, h.0), all_have ws h.1)

-- the offset of a buffer that isn't empty
offset_some : (at b : ℕ) (bs : List ℕ) → offset_of at (b ∷ bs) ≡ at
offset_some at b bs = let t : (length (b ∷ bs) == 0) ≡ false = grind (arith, nat_tests) in rw t refl

offset_fits : (at : ℕ) (body : List ℕ) → at ≤ 1000 → offset_of at body ≤ 1000
offset_fits at [] h = omega arith
offset_fits at (b ∷ bs) h = omega (arith, offset_some at b bs, h)

below : (v : ℕ) → v ≤ 1000 → v < 256 ^ 4
below v h = omega (arith, h)

-- each number of the fixed part fits
words_fit : (m : Rndis) → InForm m → AllByRecursion (λ v. v < 256 ^ 4) (words_of m)
words_fit (Packet body) h = let few = h.few in (omega arith, (omega (arith, few), (omega arith, (omega (arith, few), (omega arith, (omega arith, (omega arith, (omega arith, (omega arith, (omega arith, (omega arith, tt)))))))))))
words_fit (Initialize request_id major minor max_transfer) h = (omega arith, (omega arith, h.fields))
words_fit (InitializeComplete request_id status major minor device_flags medium max_packets max_transfer alignment) h =
    let f = h.fields in
    (omega arith, (omega arith, (f.0, (f.1.0, (f.1.1.0, (f.1.1.1.0, (f.1.1.1.1.0, (f.1.1.1.1.1.0, (f.1.1.1.1.1.1.0, (f.1.1.1.1.1.1.1.0, (f.1.1.1.1.1.1.1.1.0, (omega arith, (omega arith, tt)))))))))))))
words_fit (Halt request_id) h = (omega arith, (omega arith, h.fields))
words_fit (Query request_id oid body) h = let few = h.few in (omega arith, (omega (arith, few), (h.fields.0, (h.fields.1.0, (omega (arith, few), (below (offset_of 20 body) (offset_fits 20 body (omega arith)), (omega arith, tt)))))))
words_fit (QueryComplete request_id status body) h = let few = h.few in (omega arith, (omega (arith, few), (h.fields.0, (h.fields.1.0, (omega (arith, few), (below (offset_of 16 body) (offset_fits 16 body (omega arith)), tt))))))
words_fit (Set request_id oid body) h = let few = h.few in (omega arith, (omega (arith, few), (h.fields.0, (h.fields.1.0, (omega (arith, few), (below (offset_of 20 body) (offset_fits 20 body (omega arith)), (omega arith, tt)))))))
words_fit (SetComplete request_id status) h = (omega arith, (omega arith, h.fields))
words_fit Reset h = (omega arith, (omega arith, (omega arith, tt)))
words_fit (ResetComplete status addressing_reset) h = (omega arith, (omega arith, h.fields))
words_fit (Keepalive request_id) h = (omega arith, (omega arith, h.fields))
words_fit (KeepaliveComplete request_id status) h = (omega arith, (omega arith, h.fields))

-- so many numbers of rows, from row i on
abbrev numbers_from : ℕ → ℕ → List Row → List ℕ
numbers_from i zero rs = []
numbers_from i (suc k) rs = nth_number i rs ∷ numbers_from (i + 1) k rs

-- bytes have the numbers of the fixed part at their places, then the buffer
record Worded (m : Rndis) (b : List ℕ) : Type 0 where
  rows : rows_at (kinds (words_of m)) 0 b ≡ rows_of (words_of m)
  behind : drop (total (kinds (words_of m))) b ≡ body_of m
  size : length b ≡ total (kinds (words_of m)) + length (body_of m)

worded : (m : Rndis) → InForm m → Worded m (rndis_bytes m)
worded m form =
    let ws = words_of m in
    let again = front_again (kinds ws) (rows_of ws) (body_of m) (all_have ws (words_fit m form)) in
    rw (bytes_are m) (record { rows = again.0; behind = again.1; size = again.2 })

fixed_total : (m : Rndis) → total (kinds (words_of m)) ≡ fixed_part (type_of m)
fixed_total (Packet body) = refl
fixed_total m = refl

kind_again : (m : Rndis) (b : List ℕ) → Worded m b → number_at 0 b ≡ number_of_type (type_of m)
kind_again m b w = ap (nth_number 0) w.rows

size_again : (m : Rndis) (b : List ℕ) → Worded m b → number_at 4 b ≡ length_of m
size_again m b w = ap (nth_number 1) w.rows

kept_again : (m : Rndis) (b : List ℕ) → Worded m b → values_of m ≡ numbers_at (kept_places (type_of m)) b
kept_again (Packet body) b w = refl
kept_again m b w = sym (ap (numbers_from 2 (length (values_of m))) w.rows)

none_is : (body : List ℕ) → length body ≤ 0 → body ≡ []
none_is [] h = refl
none_is (b ∷ bs) h = absurd (omega (arith, h))

take_none : (xs : List ℕ) → take 0 xs ≡ []
take_none xs = refl

-- a buffer right behind the fixed part, or an empty one
buffer_bytes : (fixed off : ℕ) (body b : List ℕ) → drop fixed b ≡ body → (0 < length body → off + 8 ≡ fixed) → body ≡ slice_range b (off + 8) (off + 8 + length body)
buffer_bytes fixed off [] b behind here = let len : off + 8 + 0 - (off + 8) ≡ 0 = omega arith in rw len refl
buffer_bytes fixed off (x ∷ xs) b behind here =
    let len : off + 8 + length (x ∷ xs) - (off + 8) ≡ length (x ∷ xs) = omega arith in
    let at : off + 8 ≡ fixed = here (omega arith) in
    rw len (sym (ap (λ k. take (length (x ∷ xs)) (drop k b)) at ∙ (ap (take (length (x ∷ xs))) behind ∙ take_all (length (x ∷ xs)) (x ∷ xs) (omega arith))))

buffer_again : (place : BufferPlace) (fixed off : ℕ) (body b : List ℕ) → number_at place.length b ≡ length body → number_at place.offset b ≡ off → length body ≤ 1514
    → drop fixed b ≡ body → length b ≡ fixed + length body → off + 8 ≤ fixed → (0 < length body → off + 8 ≡ fixed) → IsBuffer place fixed body b
buffer_again place fixed off body b count at few behind size low here =
    record {
      count = count;
      few = few;
      begins = λ some. omega (arith, here some, at);
      ends = omega (arith, at, size, low);
      bytes = buffer_bytes fixed (number_at place.offset b) body b behind (λ some. omega (arith, here some, at));
    }

-- the offset of an empty buffer is 0
offset_low : (at fixed : ℕ) (body : List ℕ) → at + 8 ≡ fixed → offset_of at body + 8 ≤ fixed
offset_low at fixed [] h = omega (arith, h)
offset_low at fixed (b ∷ bs) h = omega (arith, offset_some at b bs, h)

offset_here : (at fixed : ℕ) (body : List ℕ) → at + 8 ≡ fixed → 0 < length body → offset_of at body + 8 ≡ fixed
offset_here at fixed [] h some = absurd (omega (arith, some))
offset_here at fixed (b ∷ bs) h some = omega (arith, offset_some at b bs, h)

holds_again : (m : Rndis) (b : List ℕ) → InForm m → Worded m b → Holds (buffer_place (type_of m)) (fixed_part (type_of m)) (body_of m) b
holds_again (Packet body) b form w =
    buffer_again (record { offset = 8; length = 12 }) 44 36 body b (ap (nth_number 3) w.rows) (ap (nth_number 2) w.rows) form.few w.behind w.size (omega arith) (λ some. refl)
holds_again (Query request_id oid body) b form w =
    buffer_again (record { offset = 20; length = 16 }) 28 (offset_of 20 body) body b (ap (nth_number 4) w.rows) (ap (nth_number 5) w.rows) form.few w.behind w.size (offset_low 20 28 body refl) (offset_here 20 28 body refl)
holds_again (QueryComplete request_id status body) b form w =
    buffer_again (record { offset = 20; length = 16 }) 24 (offset_of 16 body) body b (ap (nth_number 4) w.rows) (ap (nth_number 5) w.rows) form.few w.behind w.size (offset_low 16 24 body refl) (offset_here 16 24 body refl)
holds_again (Set request_id oid body) b form w =
    buffer_again (record { offset = 20; length = 16 }) 28 (offset_of 20 body) body b (ap (nth_number 4) w.rows) (ap (nth_number 5) w.rows) form.few w.behind w.size (offset_low 20 28 body refl) (offset_here 20 28 body refl)
holds_again m b form w = w.size

-- how many bytes are written
pub length-written : (m : Rndis) → InForm m → length (rndis_bytes m) ≡ length_of m
length-written m form = let w = worded m form in w.size ∙ ap (λ n. n + length (body_of m)) (fixed_total m)

-- the bytes that are written are the message's
pub written : (m : Rndis) → InForm m → IsRndis m (rndis_bytes m)
written m form =
    let w = worded m form in
    let b = rndis_bytes m in
    let size : length b ≡ length_of m = w.size ∙ ap (λ n. n + length (body_of m)) (fixed_total m) in
    record {
      kind = kind_again m b w;
      size = size_again m b w ∙ sym size;
      fixed = omega (arith, size);
      fields = kept_again m b w;
      buffer = holds_again m b form w;
    }

-- a message with more behind it
pub padded : (m : Rndis) (b more : List ℕ) → IsRndis m b → BeginsWith m (b ++ more)
padded m b more is =
    let some = some_fixed (type_of m) in
    let fixed = is.fixed in
    let n : number_at 4 (b ++ more) ≡ length b = padded_number b more 4 (omega (arith, some, fixed)) ∙ is.size in
    let front : front_of (b ++ more) ≡ b = ap (λ k. take k (b ++ more)) n ∙ take_at b more (length b) refl in
    record { within = omega (arith, n, length-append b more); front = subst (IsRndis m) (sym front) is }

-- the part of a buffer that was written
pub written_front : (m : Rndis) (w rest : List ℕ) (n : ℕ) → length w ≡ n → n ≡ length_of m → take (length_of m) w ≡ rndis_bytes m → take n (w ++ rest) ≡ rndis_bytes m
written_front m w rest n len is bytes = take_at w rest n len ∙ (sym (take_all (length_of m) w (omega (arith, len, is))) ∙ bytes)

-- a whole message begins its bytes
pub whole_begins : (m : Rndis) (b : List ℕ) → IsRndis m b → BeginsWith m b
whole_begins m b is = subst (BeginsWith m) (append-nil b) (padded m b [] is)

-- what was written is read again
pub read_again : (m : Rndis) (more : List ℕ) → InForm m → message_in (rndis_bytes m ++ more) ≡ Ok m
read_again m more form = begins_told m (rndis_bytes m ++ more) (padded m (rndis_bytes m) more (written m form))
