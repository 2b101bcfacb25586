-- Laws of rows of numbers and raw bytes, for all messages at once.
use Rattle.std.proofs.Common.{◌≡◌, ℕ, zero, suc, ◌+◌, ◌^◌, ◌<◌, ◌≤◌, List, [], ◌∷◌, ◌++◌, length, get_or, take, drop, slice_range, refl, sym, ap, ◌∙◌, arith, append_assoc, length-append, length-drop}
use Rattle.std.specs.List.{AllByRecursion}
use Rattle.std.proofs.lemmas.List.{take_at, drop_at, append-nil, get_or-drop, length-take-le, take_all, drop-drop, take-append-drop}
use Rattle.std.proofs.Math.Seq.{take-add}
use Rattle.wire_table.specs.Little.{number_of, bytes_of}
use Rattle.wire_table.proofs.LittleLemmas.{length-bytes_of, number_of-bytes_of, bytes_of-number_of, number_of_below}
use Rattle.wire_table.specs.Rows.{Row, num, raw, Kind, nums, raws, bytes_in, spelled_after, size_of, total, Has, AllHave, row_at, rows_at}

-- each element is a byte
abbrev pub IsBytes : List ℕ → Type 0
IsBytes bs = (i : ℕ) → get_or bs i 0 < 256

pub drop_bytes : (n : ℕ) (bs : List ℕ) → IsBytes bs → IsBytes (drop n bs)
drop_bytes n bs h i = rw (get_or-drop n bs i 0) (h (n + i))

pub take_bytes : (n : ℕ) (bs : List ℕ) → IsBytes bs → IsBytes (take n bs)
take_bytes zero bs h = λ i. omega arith
take_bytes (suc n) [] h = λ i. omega arith
take_bytes (suc n) (b ∷ bs) h = λ i. elim i as (λ k. get_or (b ∷ take n bs) k 0 < 256) [ zero ↦ h 0 | suc k ↦ take_bytes n bs (λ j. h (suc j)) k ]

pub all_bytes : (bs : List ℕ) → IsBytes bs → AllByRecursion (λ b. b < 256) bs
all_bytes [] h = tt
all_bytes (b ∷ bs) h = (h 0, all_bytes bs (λ j. h (suc j)))

-- the row at the front of bytes
abbrev pub read : Kind → List ℕ → Row
read (nums w) b = num w (number_of (take w b))
read (raws n) b = raw (take n b)

-- the rows from the front of bytes on
abbrev pub rows_in : List Kind → List ℕ → List Row
rows_in [] b = []
rows_in (k ∷ ks) b = read k b ∷ rows_in ks (drop (size_of k) b)

-- the bytes of rows, from the right
abbrev pub spelled : List Row → List ℕ
spelled [] = []
spelled (r ∷ rs) = bytes_in r ++ spelled rs

pub spelled_after_is : (front : List ℕ) (rs : List Row) → spelled_after front rs ≡ front ++ spelled rs
spelled_after_is front [] = sym (append-nil front)
spelled_after_is front (r ∷ rs) = spelled_after_is (front ++ bytes_in r) rs ∙ append_assoc front (bytes_in r) (spelled rs)

-- a part of a list, by its length
part_is : (b : List ℕ) (at w : ℕ) → slice_range b at (at + w) ≡ take w (drop at b)
part_is b at w = ap (λ n. take n (drop at b)) (omega arith)

row_is : (k : Kind) (at : ℕ) (b : List ℕ) → row_at k at b ≡ read k (drop at b)
row_is (nums w) at b = ap (λ xs. num w (number_of xs)) (part_is b at w)
row_is (raws n) at b = ap raw (part_is b at n)

-- rows from a place on are those at the front of what is left there
pub rows_is : (ks : List Kind) (at : ℕ) (b : List ℕ) → rows_at ks at b ≡ rows_in ks (drop at b)
rows_is [] at b = refl
rows_is (k ∷ ks) at b =
    let back : drop (at + size_of k) b ≡ drop (size_of k) (drop at b) = ap (λ n. drop n b) (omega arith) ∙ sym (drop-drop (size_of k) at b) in
    rw (row_is k at b, rows_is ks (at + size_of k) b, back) refl

row_len : (k : Kind) (r : Row) → Has k r → length (bytes_in r) ≡ size_of k
row_len (nums w) (num x v) h = length-bytes_of x v ∙ h.0
row_len (nums w) (raw bs) h = absurd h
row_len (raws n) (num x v) h = absurd h
row_len (raws n) (raw bs) h = h.0

row_again : (k : Kind) (r : Row) (rest : List ℕ) → Has k r → read k (bytes_in r ++ rest) ≡ r
row_again (nums w) (num x v) rest h =
    let front : take w (bytes_of x v ++ rest) ≡ bytes_of x v = take_at (bytes_of x v) rest w (length-bytes_of x v ∙ h.0) in
    let fits : v < 256 ^ x = rw h.0 h.1 in
    let value : number_of (take w (bytes_of x v ++ rest)) ≡ v = ap number_of front ∙ number_of-bytes_of x v fits in
    ap (num w) value ∙ ap (λ k. num k v) (sym h.0)
row_again (nums w) (raw bs) rest h = absurd h
row_again (raws n) (num x v) rest h = absurd h
row_again (raws n) (raw bs) rest h = ap raw (take_at bs rest n h.0)

-- what is spelled is read again
pub rows_again : (ks : List Kind) (rs : List Row) (rest : List ℕ) → AllHave ks rs → rows_in ks (spelled rs ++ rest) ≡ rs
rows_again [] [] rest h = refl
rows_again [] (r ∷ rs) rest h = absurd h
rows_again (k ∷ ks) [] rest h = absurd h
rows_again (k ∷ ks) (r ∷ rs) rest h =
    let one : read k (bytes_in r ++ (spelled rs ++ rest)) ≡ r = row_again k r (spelled rs ++ rest) h.0 in
    let back : drop (size_of k) (bytes_in r ++ (spelled rs ++ rest)) ≡ spelled rs ++ rest = drop_at (bytes_in r) (spelled rs ++ rest) (size_of k) (row_len k r h.0) in
    rw (append_assoc (bytes_in r) (spelled rs) rest, one, back) (ap (λ (qs : List Row). r ∷ qs) (rows_again ks rs rest h.1))

row_found : (k : Kind) (b : List ℕ) → IsBytes b → size_of k ≤ length b → (bytes_in (read k b) ≡ take (size_of k) b) × Has k (read k b)
row_found (nums w) b h le =
    let len : length (take w b) ≡ w = length-take-le w b le in
    let low : number_of (take w b) < 256 ^ length (take w b) = number_of_below (take w b) (take_bytes w b h) in
    (ap (λ n. bytes_of n (number_of (take w b))) (sym len) ∙ bytes_of-number_of (take w b) (take_bytes w b h), (refl, rw len at low))
row_found (raws n) b h le = (refl, (length-take-le n b le, all_bytes (take n b) (take_bytes n b h)))

-- what is read spells the bytes
pub rows_found : (ks : List Kind) (b : List ℕ) → IsBytes b → total ks ≤ length b → (spelled (rows_in ks b) ≡ take (total ks) b) × AllHave ks (rows_in ks b)
rows_found [] b h le = (refl, tt)
rows_found (k ∷ ks) b h le =
    let one = row_found k b h (omega arith) in
    let others = rows_found ks (drop (size_of k) b) (drop_bytes (size_of k) b h) (omega (arith, length-drop (size_of k) b)) in
    (rw (one.0, others.0) (sym (take-add (size_of k) (total ks) b)), (one.1, others.1))

length-spelled : (ks : List Kind) (rs : List Row) → AllHave ks rs → length (spelled rs) ≡ total ks
length-spelled [] [] h = refl
length-spelled [] (r ∷ rs) h = absurd h
length-spelled (k ∷ ks) [] h = absurd h
length-spelled (k ∷ ks) (r ∷ rs) h = omega (arith, length-append (bytes_in r) (spelled rs), row_len k r h.0, length-spelled ks rs h.1)

-- rows of these kinds have as many bytes
pub length-spelled_after : (ks : List Kind) (rs : List Row) → AllHave ks rs → length (spelled_after [] rs) ≡ total ks
length-spelled_after ks rs h = ap length (spelled_after_is [] rs) ∙ length-spelled ks rs h

-- bytes begin with the rows that are read from them, each of its kind, and what is left follows
pub front_found : (ks : List Kind) (b : List ℕ) → IsBytes b → total ks ≤ length b
    → AllHave ks (rows_at ks 0 b) × (b ≡ spelled_after [] (rows_at ks 0 b) ++ drop (total ks) b)
front_found ks b h le =
    let found = rows_found ks b h le in
    let front : spelled_after [] (rows_in ks b) ≡ take (total ks) b = spelled_after_is [] (rows_in ks b) ∙ found.0 in
    rw (rows_is ks 0 b, front) (found.1, sym (take-append-drop (total ks) b))

-- the rows are read again from their bytes, whatever follows
pub front_again : (ks : List Kind) (rs : List Row) (rest : List ℕ) → AllHave ks rs
    → (rows_at ks 0 (spelled_after [] rs ++ rest) ≡ rs) × (drop (total ks) (spelled_after [] rs ++ rest) ≡ rest) × (length (spelled_after [] rs ++ rest) ≡ total ks + length rest)
front_again ks rs rest h =
    let plain : spelled_after [] rs ≡ spelled rs = spelled_after_is [] rs in
    let len : length (spelled rs) ≡ total ks = length-spelled ks rs h in
    rw (rows_is ks 0 (spelled_after [] rs ++ rest), plain) (rows_again ks rs rest h, drop_at (spelled rs) rest (total ks) len, length-append (spelled rs) rest ∙ ap (λ n. n + length rest) len)

-- bytes of the right number are those of the rows that are read from them
pub fixed_found : (ks : List Kind) (b : List ℕ) → IsBytes b → length b ≡ total ks → AllHave ks (rows_at ks 0 b) × (b ≡ spelled_after [] (rows_at ks 0 b))
fixed_found ks b h len =
    let found = rows_found ks b h (omega (arith, len)) in
    let front : spelled_after [] (rows_in ks b) ≡ take (total ks) b = spelled_after_is [] (rows_in ks b) ∙ found.0 in
    rw (rows_is ks 0 b, front) (found.1, sym (take_all (total ks) b (omega (arith, len))))

-- the rows are read again from their bytes
pub fixed_again : (ks : List Kind) (rs : List Row) (b : List ℕ) → AllHave ks rs → b ≡ spelled_after [] rs → (rows_at ks 0 b ≡ rs) × (length b ≡ total ks)
fixed_again ks rs b h is =
    let plain : b ≡ spelled rs = is ∙ spelled_after_is [] rs in
    (rows_is ks 0 b ∙ (ap (rows_in ks) (plain ∙ sym (append-nil (spelled rs))) ∙ rows_again ks rs [] h), ap length plain ∙ length-spelled ks rs h)
