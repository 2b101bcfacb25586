-- Laws of the words of bytes.
use Rattle.std.proofs.Common.{◌≡◌, ℕ, zero, suc, ◌+◌, ◌-◌, ◌*◌, ◌/◌, ◌%◌, ◌^◌, ◌<◌, ◌≤◌, List, [], ◌∷◌, ◌++◌, length, get_or, take, drop, replicate, append_assoc, length-append, length-drop, ⊎_elim, refl, sym, ap, ◌∙◌, arith}
use Rattle.std.specs.Int.{w64, from_le_bytes, to_le_bytes}
use Rattle.std.proofs.Math.Seq.{take-add}
use Rattle.std.proofs.Math.Nat.{pow-suc}
use Rattle.std.proofs.lemmas.List.{take_at, drop_at, take-append-le, drop-drop, drop_more, take_all, drop_all, append-nil, get_or-drop, replicate-append-replicate, length-take, length-take-le, take-append-drop}
use Rattle.std.proofs.lemmas.Nat.{shr-shr}
use Rattle.std.proofs.lemmas.Bool.{cases_lt}
use Rattle.std.proofs.lemmas.Slice.{take-put_mid}
use borrow.Rule.Slice.PartMut.{put_mid}
use Rattle.vm_page.specs.Words.{number_of, low_bytes, words_from, bytes_in}

-- zeros past the end add nothing
pub number_of_zeros : (bs : List ℕ) (k : ℕ) → number_of (bs ++ replicate k 0) ≡ number_of bs
unfolding number_of
number_of_zeros [] zero = refl
number_of_zeros [] (suc k) = omega (arith, number_of_zeros [] k)
number_of_zeros (b ∷ bs) k = ap (λ n. b + 256 * n) (number_of_zeros bs k)

-- std's eight bytes
pub eight_number : (bs : List ℕ) → length bs ≡ 8 → from_le_bytes w64 bs ≡ number_of bs
unfolding number_of
eight_number (a ∷ b ∷ c ∷ d ∷ e ∷ f ∷ g ∷ h ∷ []) is = omega arith
eight_number (a ∷ b ∷ c ∷ d ∷ e ∷ f ∷ g ∷ h ∷ i ∷ rest) is = absurd (omega arith)
eight_number (a ∷ b ∷ c ∷ d ∷ e ∷ f ∷ g ∷ []) is = absurd (omega arith)
eight_number (a ∷ b ∷ c ∷ d ∷ e ∷ f ∷ []) is = absurd (omega arith)
eight_number (a ∷ b ∷ c ∷ d ∷ e ∷ []) is = absurd (omega arith)
eight_number (a ∷ b ∷ c ∷ d ∷ []) is = absurd (omega arith)
eight_number (a ∷ b ∷ c ∷ []) is = absurd (omega arith)
eight_number (a ∷ b ∷ []) is = absurd (omega arith)
eight_number (a ∷ []) is = absurd (omega arith)
eight_number [] is = absurd (omega arith)

pub eight_bytes : (v : ℕ) → to_le_bytes w64 v ≡ low_bytes 8 v
unfolding low_bytes
eight_bytes v =
    let e2 : v / 256 / 256 ≡ v / 65536 = shr-shr v 8 8 in
    let e3 : v / 65536 / 256 ≡ v / 16777216 = shr-shr v 16 8 in
    let e4 : v / 16777216 / 256 ≡ v / 4294967296 = shr-shr v 24 8 in
    let e5 : v / 4294967296 / 256 ≡ v / 1099511627776 = shr-shr v 32 8 in
    let e6 : v / 1099511627776 / 256 ≡ v / 281474976710656 = shr-shr v 40 8 in
    let e7 : v / 281474976710656 / 256 ≡ v / 72057594037927936 = shr-shr v 48 8 in
    rw (e2, e3, e4, e5, e6, e7) refl

pub length-low_bytes : (n v : ℕ) → length (low_bytes n v) ≡ n
unfolding low_bytes
length-low_bytes zero v = refl
length-low_bytes (suc n) v = ap suc (length-low_bytes n (v / 256))

pub length-bytes_in : (ws : List ℕ) → length (bytes_in ws) ≡ 8 * length ws
length-bytes_in [] = refl
length-bytes_in (w ∷ ws) = omega (arith, length-append (low_bytes 8 w) (bytes_in ws), length-low_bytes 8 w, length-bytes_in ws)

-- words that are left out leave out eight bytes each
pub drop-bytes_in : (ws : List ℕ) (i : ℕ) → drop (8 * i) (bytes_in ws) ≡ bytes_in (drop i ws)
drop-bytes_in ws zero = refl
drop-bytes_in [] (suc i) = drop_all (8 * suc i) [] (omega arith)
drop-bytes_in (w ∷ ws) (suc i) =
    let e : 8 * suc i ≡ 8 + 8 * i = omega arith in
    rw e (sym (drop-drop (8 * i) 8 (low_bytes 8 w ++ bytes_in ws)) ∙ (ap (drop (8 * i)) (drop_at (low_bytes 8 w) (bytes_in ws) 8 (length-low_bytes 8 w)) ∙ drop-bytes_in ws i))

-- the first bytes of word i stand after those of the words before it
pub front_at : (ws : List ℕ) (i k : ℕ) → i < length ws → k ≤ 8 → take (8 * i + k) (bytes_in ws) ≡ take (8 * i) (bytes_in ws) ++ take k (low_bytes 8 (get_or ws i 0))
front_at ws i k lt le =
    let word = get_or ws i 0 in
    let later = bytes_in (drop (i + 1) ws) in
    let rest : drop (8 * i) (bytes_in ws) ≡ low_bytes 8 word ++ later = drop-bytes_in ws i ∙ ap bytes_in (drop_more ws i 0 lt) in
    let cut : take k (low_bytes 8 word ++ later) ≡ take k (low_bytes 8 word) = take-append-le k (low_bytes 8 word) later (omega (arith, length-low_bytes 8 word)) in
    take-add (8 * i) k (bytes_in ws) ∙ ap (λ l. take (8 * i) (bytes_in ws) ++ l) (ap (take k) rest ∙ cut)

-- the first bytes of a word are written after those of the words before it
pub put_front : (ws out part : List ℕ) (i k m n : ℕ) → i < length ws → k ≤ 8 → m ≡ k → n ≡ 8 * i + k → n ≤ length out → take (8 * i) out ≡ take (8 * i) (bytes_in ws) → part ≡ take k (low_bytes 8 (get_or ws i 0))
    → take n (put_mid (8 * i) m out part) ≡ take n (bytes_in ws)
put_front ws out part i k m n lt le km is fits before new =
    let few : length part ≡ k = ap length new ∙ length-take-le k (low_bytes 8 (get_or ws i 0)) (omega (arith, length-low_bytes 8 (get_or ws i 0))) in
    let put : take n (put_mid (8 * i) m out part) ≡ take (8 * i) out ++ part = take-put_mid (8 * i) m out part n (omega arith) (omega arith) in
    put ∙ (rw (before, new) (sym (front_at ws i k lt le)) ∙ ap (λ j. take j (bytes_in ws)) (sym is))

pub length-put_front : (out part : List ℕ) (at m : ℕ) → length part ≡ m → at + m ≡ length out → length (put_mid at m out part) ≡ length out
length-put_front out part at m is all = simp (length-append, length-take, length-drop) (omega arith)

nothing : (n : ℕ) → low_bytes n 0 ≡ replicate n 0
unfolding low_bytes
nothing zero = refl
nothing (suc n) = ap (λ (l : List ℕ). 0 ∷ l) (nothing n)

-- the bytes of the number of at most so many bytes are those, with zeros after them
pub low_bytes-number_of : (n : ℕ) (bs : List ℕ) → ((i : ℕ) → get_or bs i 0 < 256) → length bs ≤ n → low_bytes n (number_of bs) ≡ bs ++ replicate (n - length bs) 0
unfolding number_of low_bytes
low_bytes-number_of n [] h le = let e : n - 0 ≡ n = omega arith in rw e (nothing n)
low_bytes-number_of zero (b ∷ bs) h le = absurd (omega arith)
low_bytes-number_of (suc n) (b ∷ bs) h le =
    let low : b < 256 = h 0 in
    let r : (b + 256 * number_of bs) % 256 ≡ b = omega arith in
    let q : (b + 256 * number_of bs) / 256 ≡ number_of bs = omega arith in
    let k : suc n - suc (length bs) ≡ n - length bs = omega arith in
    rw (r, q, k) (ap (λ (l : List ℕ). b ∷ l) (low_bytes-number_of n bs (λ i. h (suc i)) (omega arith)))

-- a number that fits is the number of its bytes
pub number_of-low_bytes : (n v : ℕ) → v < 256 ^ n → number_of (low_bytes n v) ≡ v
unfolding number_of low_bytes
number_of-low_bytes zero v h = omega arith
number_of-low_bytes (suc n) v h =
    let p = pow-suc 256 n in
    let e : number_of (low_bytes n (v / 256)) ≡ v / 256 = number_of-low_bytes n (v / 256) (omega (arith, p)) in
    omega (arith, e)

pub length-words_from : (n : ℕ) (bs : List ℕ) → length (words_from n bs) ≡ n
unfolding words_from
length-words_from zero bs = refl
length-words_from (suc n) bs = ap suc (length-words_from n (drop 8 bs))

byte_of_front : (n : ℕ) (bs : List ℕ) (i : ℕ) → ((i : ℕ) → get_or bs i 0 < 256) → get_or (take n bs) i 0 < 256
byte_of_front zero bs i h = omega arith
byte_of_front (suc n) [] i h = omega arith
byte_of_front (suc n) (b ∷ bs) zero h = h 0
byte_of_front (suc n) (b ∷ bs) (suc i) h = byte_of_front n bs i (λ i. h (suc i))

joined : (n : ℕ) (bs : List ℕ) → length bs ≤ 8 * suc n
    → (take 8 bs ++ replicate (8 - length (take 8 bs)) 0) ++ (drop 8 bs ++ replicate (8 * n - length (drop 8 bs)) 0) ≡ bs ++ replicate (8 * suc n - length bs) 0
joined n bs le = ⊎_elim short long (cases_lt (length bs) 8)
  where
    short : length bs < 8 → (take 8 bs ++ replicate (8 - length (take 8 bs)) 0) ++ (drop 8 bs ++ replicate (8 * n - length (drop 8 bs)) 0) ≡ bs ++ replicate (8 * suc n - length bs) 0
    short lt =
        let front : take 8 bs ≡ bs = take_all 8 bs (omega arith) in
        let none : drop 8 bs ≡ [] = drop_all 8 bs (omega arith) in
        let both : replicate (8 - length bs) 0 ++ replicate (8 * n - 0) 0 ≡ replicate {A = ℕ} (8 - length bs + (8 * n - 0)) 0 = replicate-append-replicate (8 - length bs) (8 * n - 0) 0 in
        let k : 8 - length bs + (8 * n - 0) ≡ 8 * suc n - length bs = omega arith in
        rw (front, none) (append_assoc bs (replicate (8 - length bs) 0) (replicate (8 * n - 0) 0) ∙ ap (λ l. bs ++ l) (both ∙ ap (λ j. replicate j 0) k))

    long : 8 ≤ length bs → (take 8 bs ++ replicate (8 - length (take 8 bs)) 0) ++ (drop 8 bs ++ replicate (8 * n - length (drop 8 bs)) 0) ≡ bs ++ replicate (8 * suc n - length bs) 0
    long ge =
        let z : 8 - length (take 8 bs) ≡ 0 = omega (arith, length-take-le 8 bs ge) in
        let k : 8 * n - length (drop 8 bs) ≡ 8 * suc n - length bs = omega (arith, length-drop 8 bs) in
        rw (z, k, append-nil (take 8 bs)) (sym (append_assoc (take 8 bs) (drop 8 bs) (replicate (8 * suc n - length bs) 0)) ∙ ap (λ l. l ++ replicate (8 * suc n - length bs) 0) (take-append-drop 8 bs))

-- bytes as words have these bytes again, with zeros after them
pub bytes_in-words_from : (n : ℕ) (bs : List ℕ) → ((i : ℕ) → get_or bs i 0 < 256) → length bs ≤ 8 * n → bytes_in (words_from n bs) ≡ bs ++ replicate (8 * n - length bs) 0
unfolding words_from
bytes_in-words_from zero [] h le = refl
bytes_in-words_from zero (b ∷ bs) h le = absurd (omega arith)
bytes_in-words_from (suc n) bs h le =
    let first = low_bytes-number_of 8 (take 8 bs) (λ i. byte_of_front 8 bs i h) (omega (arith, length-take 8 bs)) in
    let later = bytes_in-words_from n (drop 8 bs) (λ i. rw (get_or-drop 8 bs i 0) (h (8 + i))) (omega (arith, length-drop 8 bs)) in
    rw (first, later) (joined n bs le)

-- the bytes of words are those words again
pub words_from-bytes_in : (ws : List ℕ) → ((i : ℕ) → get_or ws i 0 < 2 ^ 64) → words_from (length ws) (bytes_in ws) ≡ ws
unfolding words_from
words_from-bytes_in [] h = refl
words_from-bytes_in (w ∷ ws) h =
    let front = take_at (low_bytes 8 w) (bytes_in ws) 8 (length-low_bytes 8 w) in
    let rest = drop_at (low_bytes 8 w) (bytes_in ws) 8 (length-low_bytes 8 w) in
    let low : w < 2 ^ 64 = h 0 in
    rw (front, rest, number_of-low_bytes 8 w low) (ap (λ (l : List ℕ). w ∷ l) (words_from-bytes_in ws (λ i. h (suc i))))
