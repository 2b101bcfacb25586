-- A front of a message's bytes is too short, or a body with fewer frames.
use Rattle.std.proofs.Common.{◌≡◌, ℕ, zero, suc, ◌+◌, ◌-◌, ◌*◌, ◌/◌, ◌%◌, ◌^◌, ◌<◌, ◌≤◌, List, [], ◌∷◌, ◌++◌, length, take, true, false, nat_lt, ◌==◌, if◌then◌else◌, Some, None, refl, sym, ap, ◌∙◌, arith, append_assoc, length-append}
use Rattle.std.specs.List.{flat_map, AllByRecursion}
use Rattle.std.proofs.lemmas.Bool.Decides.{nat_tests}
use Rattle.std.proofs.lemmas.List.{append-nil, take_at, drop_at, take-take, length-take-le}
use Rattle.std.proofs.Math.Seq.{take-add}
use Rattle.wire_table.specs.Little.{number_of, bytes_of}
use Rattle.wire_table.specs.Rows.{Row, num, raw, Kind, nums, raws, bytes_in, spelled_after, size_of, total, nth_number}
use Rattle.wire_table.proofs.LittleLemmas.{length-bytes_of, number_of-bytes_of}
use Rattle.wire_table.proofs.RowLaws.{front_again, spelled, spelled_after_is}
use Rattle.vmbus_msg.specs.declared.fault.MsgFault.TheVariants.{Short}
use Rattle.vmbus_msg.specs.declared.msg.Msg.{Msg}
use Rattle.vmbus_msg.specs.declared.msg.Msg.TheVariants.{GpadlHeader, GpadlBody}
use Rattle.vmbus_msg.specs.declared.gpadl_header.GpadlHeader.{GpadlHeader as Header}
use Rattle.vmbus_msg.specs.declared.gpadl_body.GpadlBody.{GpadlBody as Body}
use Rattle.vmbus_msg.specs.Pages.{header_frames}
use Rattle.vmbus_msg.specs.Grammar.{Fits, AllFit, type_of, fields_of, kinds_of, frames_of, rows_of, bytes_of_message, length_of, IsMessage}
use Rattle.vmbus_msg.specs.Faults.{first_of, told, short, long, fixed, body, header, header_fields, fault_for, fault_of, value_at}
use Rattle.vmbus_msg.proofs.SizeLaws.{by_test, none_short, here_fault, then_fault, header_len_fault}
use Rattle.vmbus_msg_truncated.specs.Fronts.{needed_behind_type, needed, ends_between_frames, frames_before, HasFirstFrames}

-- a message's bytes are those of its type and fields, and then those of its frames
bytes_are : (m : Msg) → bytes_of_message m ≡ spelled_after [] (rows_of m) ++ flat_map (bytes_of 8) (frames_of m)
unfolding bytes_of_message
bytes_are (GpadlHeader h) = refl
bytes_are (GpadlBody h) = refl
bytes_are m = sym (append-nil (spelled_after [] (rows_of m)))

row_size : (k : Kind) (r : Row) → Fits k r → length (bytes_in r) ≡ size_of k
row_size (nums w) (num x v) h = length-bytes_of x v ∙ h.0
row_size (nums w) (raw bs) h = absurd h
row_size (raws n) (num x v) h = absurd h
row_size (raws n) (raw bs) h = h

rows_size : (ks : List Kind) (rs : List Row) → AllFit ks rs → length (spelled rs) ≡ total ks
rows_size [] [] h = refl
rows_size [] (r ∷ rs) h = absurd h
rows_size (k ∷ ks) [] h = absurd h
rows_size (k ∷ ks) (r ∷ rs) h = omega (arith, length-append (bytes_in r) (spelled rs), row_size k r h.0, rows_size ks rs h.1)

frames_size : (fs : List ℕ) → length (flat_map (bytes_of 8) fs) ≡ 8 * length fs
frames_size [] = refl
frames_size (f ∷ fs) = omega (arith, length-append (bytes_of 8 f) (flat_map (bytes_of 8) fs), length-bytes_of 8 f, frames_size fs)

-- what is taken past a front
past : (xs ys : List ℕ) (k n : ℕ) → n ≡ length xs + k → take n (xs ++ ys) ≡ xs ++ take k ys
past xs ys k n is = ap (λ j. take j (xs ++ ys)) is ∙ (take-add (length xs) k (xs ++ ys) ∙ rw (take_at xs ys (length xs) refl, drop_at xs ys (length xs) refl) refl)

take_none : (n : ℕ) → take {A = ℕ} n [] ≡ []
take_none zero = refl
take_none (suc n) = refl

-- the first frames of a list have the first bytes
first_frames : (g : ℕ) (fs : List ℕ) → take (8 * g) (flat_map (bytes_of 8) fs) ≡ flat_map (bytes_of 8) (take g fs)
first_frames zero fs = refl
first_frames (suc g) [] = take_none (8 * suc g)
first_frames (suc g) (f ∷ fs) =
    past (bytes_of 8 f) (flat_map (bytes_of 8) fs) (8 * g) (8 * suc g) (omega (arith, length-bytes_of 8 f)) ∙ ap (λ (xs : List ℕ). bytes_of 8 f ++ xs) (first_frames g fs)

first_fit : (g : ℕ) (fs : List ℕ) → AllByRecursion (λ f. f < 256 ^ 8) fs → AllByRecursion (λ f. f < 256 ^ 8) (take g fs)
first_fit zero fs h = tt
first_fit (suc g) [] h = tt
first_fit (suc g) (f ∷ fs) h = (h.0, first_fit g fs h.1)

type_fits : (m : Msg) → type_of m < 256 ^ 4
type_fits (GpadlHeader h) = omega arith
type_fits m = omega arith

-- bytes of a message as the type, the fields and the frames
whole : (m : Msg) (b : List ℕ) → IsMessage m b → b ≡ bytes_of 4 (type_of m) ++ (spelled (fields_of m) ++ flat_map (bytes_of 8) (frames_of m))
whole m b is = is.spelled ∙ (bytes_are m ∙ (ap (λ (xs : List ℕ). xs ++ flat_map (bytes_of 8) (frames_of m)) (spelled_after_is [] (rows_of m)) ∙ append_assoc (bytes_of 4 (type_of m)) (spelled (fields_of m)) (flat_map (bytes_of 8) (frames_of m))))

size_is : (m : Msg) (b : List ℕ) → IsMessage m b → length b ≡ length_of m
size_is m b is =
    let fs = flat_map (bytes_of 8) (frames_of m) in
    let all : length b ≡ length (bytes_of 4 (type_of m) ++ (spelled (fields_of m) ++ fs)) = ap length (whole m b is) in
    omega (arith, all, length-append (bytes_of 4 (type_of m)) (spelled (fields_of m) ++ fs), length-append (spelled (fields_of m)) fs, length-bytes_of 4 (type_of m), rows_size (kinds_of (type_of m)) (fields_of m) is.form.fields, frames_size (frames_of m))

-- a front with the type in it has the message's type
type_is : (m : Msg) (b : List ℕ) (n : ℕ) → IsMessage m b → 4 ≤ n → value_at (take n b) 0 4 ≡ type_of m
type_is m b n is some =
    let k = type_of m in
    let rest = spelled (fields_of m) ++ flat_map (bytes_of 8) (frames_of m) in
    let front : take 4 (take n b) ≡ bytes_of 4 k = take-take 4 n b some ∙ (ap (take 4) (whole m b is) ∙ take_at (bytes_of 4 k) rest 4 (length-bytes_of 4 k)) in
    ap number_of front ∙ number_of-bytes_of 4 k (type_fits m)

-- no message has more bytes
few_bytes : (m : Msg) → length_of m ≤ 240
few_bytes (GpadlHeader h) = omega (arith, h.in_form.3)
few_bytes (GpadlBody h) = omega (arith, h.in_form.1)
few_bytes m = omega arith

-- a front with all fields in it
fields_front : (m : Msg) (b : List ℕ) (n k : ℕ) → IsMessage m b → n ≡ 4 + total (kinds_of (type_of m)) + k → take n b ≡ spelled_after [] (rows_of m) ++ take k (flat_map (bytes_of 8) (frames_of m))
fields_front m b n k is count =
    let rows = spelled_after [] (rows_of m) in
    let size : length rows ≡ 4 + total (kinds_of (type_of m)) = ap length (spelled_after_is [] (rows_of m)) ∙ rows_size (nums 4 ∷ kinds_of (type_of m)) (rows_of m) ((refl, type_fits m), is.form.fields) in
    ap (take n) (is.spelled ∙ bytes_are m) ∙ past rows (flat_map (bytes_of 8) (frames_of m)) k n (omega (arith, size, count))

-- the bytes of a page list as a front of its header tells them
range_is : (h : Header) (b : List ℕ) (n : ℕ) → IsMessage (GpadlHeader h) b → 28 ≤ n → value_at (take n b) 16 18 ≡ h.range_buflen
range_is h b n is some =
    let m = GpadlHeader h in
    let rest = take (n - 28) (flat_map (bytes_of 8) h.frames) in
    let front : take n b ≡ spelled_after [] (rows_of m) ++ rest = fields_front m b n (n - 28) is (omega arith) in
    let again = front_again (nums 4 ∷ kinds_of 8) (rows_of m) rest ((refl, type_fits m), is.form.fields) in
    ap (λ c. value_at c 16 18) front ∙ ap (nth_number 4) again.0

-- bytes that are too few
short_is : (need have : ℕ) → have < need → have ≤ 4294967295 → short need have ≡ Some (Short have need)
short_is need have low few = let t : nat_lt have need ≡ true = grind (arith, nat_tests) in let k : told have ≡ have = omega arith in rw (t, k) refl

none_long : (most have : ℕ) → have ≤ most → long most have ≡ None
none_long most have h = grind (arith, nat_tests)

fixed_short : (need have : ℕ) → have < need → have ≤ 4294967295 → fixed need have ≡ Some (Short have need)
fixed_short need have low few = here_fault (short need have) (long need have) (Short have need) (short_is need have low few)

header_short : (h : Header) (b : List ℕ) (n : ℕ) → IsMessage (GpadlHeader h) b → n < length b → n ≤ 240 → length (take n b) ≡ n → header (take n b) ≡ Some (Short n (needed_behind_type (GpadlHeader h) n))
header_short h b n is low few len =
    let c = take n b in
    let need = 28 + 8 * header_frames (value_at c 16 18) in
    by_test (nat_lt n 28)
    (λ t. let s : short 28 (length c) ≡ Some (Short n 28) = ap (short 28) len ∙ short_is 28 n (grind (arith, nat_tests, t)) (omega arith) in
    rw t (here_fault (short 28 (length c)) (first_of (fixed need (length c)) (header_fields (value_at c 16 18) (value_at c 18 20))) (Short n 28) s))
    (λ t. let some : 28 ≤ n = grind (arith, nat_tests, t) in
    let held : length h.frames ≡ header_frames h.range_buflen = h.in_form.3 in
    let all : need ≡ 28 + 8 * length h.frames = ap (λ x. 28 + 8 * header_frames x) (range_is h b n is some) ∙ ap (λ j. 28 + 8 * j) (sym held) in
    let s : fixed need (length c) ≡ Some (Short n (28 + 8 * length h.frames)) = ap (fixed need) len ∙ (ap (λ j. fixed j n) all ∙ fixed_short (28 + 8 * length h.frames) n (omega (arith, size_is (GpadlHeader h) b is)) (omega arith)) in
    rw t (header_len_fault c (Short n (28 + 8 * length h.frames)) (none_short 28 (length c) (omega arith)) s))

body_short : (h : Body) (n : ℕ) → n ≤ 240 → ends_between_frames (GpadlBody h) n ≡ false → body n ≡ Some (Short n (needed_behind_type (GpadlBody h) n))
body_short h n few ends =
    let rest = if n % 8 == 0 then None else Some (Short (told n) (n / 8 * 8 + 8)) in
    by_test (nat_lt n 24)
    (λ t. let s : short 24 n ≡ Some (Short n 24) = short_is 24 n (grind (arith, nat_tests, t)) (omega arith) in
    let need : needed_behind_type (GpadlBody h) n ≡ 24 = rw t refl in
    here_fault (short 24 n) (first_of (long 240 n) rest) (Short n 24) s ∙ ap (λ j. Some (Short n j)) (sym need))
    (λ t. let some : 24 ≤ n = grind (arith, nat_tests, t) in
    let half : (n % 8 == 0) ≡ false = rw t at ends in
    let k : told n ≡ n = omega arith in
    let left : rest ≡ Some (Short n (n / 8 * 8 + 8)) = rw (half, k) refl in
    let need : needed_behind_type (GpadlBody h) n ≡ n / 8 * 8 + 8 = rw t refl in
    then_fault (short 24 n) (first_of (long 240 n) rest) (Some (Short n (n / 8 * 8 + 8))) (none_short 24 n some) (then_fault (long 240 n) rest (Some (Short n (n / 8 * 8 + 8))) (none_long 240 n few) left) ∙ ap (λ j. Some (Short n j)) (sym need))

kind_short : (m : Msg) (b : List ℕ) (n : ℕ) → IsMessage m b → n < length b → n ≤ 240 → length (take n b) ≡ n → ends_between_frames m n ≡ false
    → fault_for (type_of m) (take n b) ≡ Some (Short n (needed_behind_type m n))
kind_short (GpadlHeader h) b n is low few len ends = header_short h b n is low few len
kind_short (GpadlBody h) b n is low few len ends = ap body len ∙ body_short h n few ends
kind_short m b n is low few len ends = ap (fixed (length_of m)) len ∙ fixed_short (length_of m) n (omega (arith, size_is m b is)) (omega arith)

pub front_short : (m : Msg) (b : List ℕ) (n : ℕ) → IsMessage m b → n < length b → ends_between_frames m n ≡ false → fault_of (take n b) ≡ Some (Short n (needed m n))
unfolding fault_of
front_short m b n is low ends =
    let c = take n b in
    let len : length c ≡ n = length-take-le n b (omega arith) in
    let few : n ≤ 240 = omega (arith, size_is m b is, few_bytes m) in
    by_test (nat_lt n 8)
    (λ t. let s : short 8 (length c) ≡ Some (Short n 8) = ap (short 8) len ∙ short_is 8 n (grind (arith, nat_tests, t)) (omega arith) in
    rw t (here_fault (short 8 (length c)) (fault_for (value_at c 0 4) c) (Short n 8) s))
    (λ t. let some : 8 ≤ n = grind (arith, nat_tests, t) in
    let k : fault_for (value_at c 0 4) c ≡ Some (Short n (needed_behind_type m n)) = ap (λ j. fault_for j c) (type_is m b n is (omega arith)) ∙ kind_short m b n is low few len ends in
    rw t (then_fault (short 8 (length c)) (fault_for (value_at c 0 4) c) (Some (Short n (needed_behind_type m n))) (none_short 8 (length c) (omega arith)) k))

body_frames : (h : Body) (b : List ℕ) (n g : ℕ) → IsMessage (GpadlBody h) b → n < length b → 24 ≤ n → n ≡ 16 + 8 * g → (r : Msg) × HasFirstFrames g (GpadlBody h) r × IsMessage r (take n b)
body_frames h b n g is low some count =
    let m = GpadlBody h in
    let size : length b ≡ 16 + 8 * length h.frames = size_is m b is in
    let len : length (take g h.frames) ≡ g = length-take-le g h.frames (omega arith) in
    let most : length h.frames ≤ 28 = h.in_form.1 in
    let r : Msg = GpadlBody (record { padding = h.padding; msgnumber = h.msgnumber; gpadl = h.gpadl; frames = take g h.frames; in_form = (omega arith, omega arith) }) in (
      r,
      record { kind = refl; fields = refl; frames = refl },
      record {
        form = record { fields = is.form.fields; frames = first_fit g h.frames is.form.frames };
        spelled = fields_front m b n (8 * g) is count ∙ (ap (λ (xs : List ℕ). spelled_after [] (rows_of m) ++ xs) (first_frames g h.frames) ∙ sym (bytes_are r));
      },
    )

-- where a front ends between frames there are whole ones in it
ends_behind : (h : Body) (n : ℕ) → ends_between_frames (GpadlBody h) n ≡ true → (24 ≤ n) × (n % 8 ≡ 0)
ends_behind h n ends = by_test (nat_lt n 24) (λ t. let no : false ≡ true = rw t at ends in cc)
    (λ t. let whole_frames : (n % 8 == 0) ≡ true = rw t at ends in (grind (arith, nat_tests, t), grind (arith, nat_tests, whole_frames)))

pub front_frames : (m : Msg) (b : List ℕ) (n : ℕ) → IsMessage m b → n < length b → ends_between_frames m n ≡ true → (r : Msg) × HasFirstFrames (frames_before n) m r × IsMessage r (take n b)
front_frames (GpadlBody h) b n is low ends =
    let e = ends_behind h n ends in
    body_frames h b n (frames_before n) is low e.0 (omega (arith, e.0, e.1))
front_frames m b n is low ends = cc
