-- Packets one behind the other.
use Rattle.std.proofs.Common.{◌≡◌, ℕ, ◌+◌, ◌%◌, ◌<◌, List, [], ◌∷◌, ◌++◌, length, get_or, refl, sym, ap, ◌∙◌, arith, length-append, append_assoc}
use Rattle.std.proofs.lemmas.List.{get_or-append-add, get_or_append_left}
use Rattle.ring_machine.specs.Places.{trailer}
use Rattle.ring_pair_laws.specs.Ring.{size, stream}

pub size-append : (xs ys : List (List ℕ)) → size (xs ++ ys) ≡ size xs + size ys
size-append [] ys = omega arith
size-append (x ∷ xs) ys = omega (arith, size-append xs ys)

pub size-one : (xs : List (List ℕ)) (p : List ℕ) → size (xs ++ p ∷ []) ≡ size xs + (length p + 1)
size-one xs p = omega (arith, size-append xs (p ∷ []))

pub length-stream : (n at : ℕ) (ps : List (List ℕ)) → length (stream n at ps) ≡ size ps
length-stream n at [] = refl
length-stream n at (p ∷ ps) = omega (arith, length-append p (trailer (at % n) ∷ stream n (at + (length p + 1)) ps), length-stream n (at + (length p + 1)) ps)

pub stream-append : (n at : ℕ) (xs ys : List (List ℕ)) → stream n at (xs ++ ys) ≡ stream n at xs ++ stream n (at + size xs) ys
stream-append n at [] ys = ap (λ (m : ℕ). stream n m ys) (omega arith)
stream-append n at (x ∷ xs) ys =
    let m : at + (length x + 1) + size xs ≡ at + (length x + 1 + size xs) = omega arith in
    ap (λ (l : List ℕ). x ++ trailer (at % n) ∷ l) (stream-append n (at + (length x + 1)) xs ys ∙ ap (λ (k : ℕ). stream n (at + (length x + 1)) xs ++ stream n k ys) m)
    ∙ sym (append_assoc x (trailer (at % n) ∷ stream n (at + (length x + 1)) xs) (stream n (at + (length x + 1 + size xs)) ys))

-- a word that stands before the last packets
pub stream_before : (n : ℕ) (xs ys : List (List ℕ)) (k : ℕ) → k < size xs → get_or (stream n 0 (xs ++ ys)) k 0 ≡ get_or (stream n 0 xs) k 0
stream_before n xs ys k h =
    ap (λ (l : List ℕ). get_or l k 0) (stream-append n 0 xs ys) ∙ get_or_append_left (stream n 0 xs) (stream n (0 + size xs) ys) 0 k (omega (arith, length-stream n 0 xs))

-- a word of a packet, or of its trailer
pub stream_in : (n : ℕ) (xs : List (List ℕ)) (p : List ℕ) (ys : List (List ℕ)) (j : ℕ) → j < length p + 1
    → get_or (stream n 0 (xs ++ p ∷ ys)) (size xs + j) 0 ≡ get_or (p ++ trailer (size xs % n) ∷ []) j 0
stream_in n xs p ys j h =
    let t : List ℕ = trailer (size xs % n) ∷ [] in
    let r : List ℕ = stream n (size xs + (length p + 1)) ys in
    let zero_add : 0 + size xs ≡ size xs = omega arith in
    let cut : stream n (0 + size xs) (p ∷ ys) ≡ (p ++ t) ++ r = ap (λ (m : ℕ). stream n m (p ∷ ys)) zero_add ∙ sym (append_assoc p t r) in
    ap (λ (l : List ℕ). get_or l (size xs + j) 0) (stream-append n 0 xs (p ∷ ys))
    ∙ (ap (λ (m : ℕ). get_or (stream n 0 xs ++ stream n (0 + size xs) (p ∷ ys)) (m + j) 0) (sym (length-stream n 0 xs))
    ∙ (get_or-append-add (stream n 0 xs) (stream n (0 + size xs) (p ∷ ys)) j 0
    ∙ (ap (λ (l : List ℕ). get_or l j 0) cut
    ∙ get_or_append_left (p ++ t) r 0 j (omega (arith, length-append p t)))))

pub word_in : (n : ℕ) (xs : List (List ℕ)) (p : List ℕ) (ys : List (List ℕ)) (j : ℕ) → j < length p → get_or (stream n 0 (xs ++ p ∷ ys)) (size xs + j) 0 ≡ get_or p j 0
word_in n xs p ys j h = stream_in n xs p ys j (omega arith) ∙ get_or_append_left p (trailer (size xs % n) ∷ []) 0 j h
