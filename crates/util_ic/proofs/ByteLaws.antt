-- Bytes of messages: zeros, numbers that are put, and fronts that are written.
use Rattle.std.proofs.Common.{◌≡◌, ℕ, zero, suc, ◌+◌, ◌-◌, ◌^◌, ◌<◌, ◌≤◌, ◌⊎◌, List, [], ◌++◌, length, take, drop, append_assoc, length-append, length-drop, refl, sym, ap, ◌∙◌, arith}
use Rattle.std.specs.List.{AllByRecursion}
use Rattle.std.proofs.Math.Seq.{take-add}
use Rattle.std.proofs.lemmas.List.{take_all, drop-drop, take_at, drop_at, drop_all, append-nil, length-replicate, length-take-le, drop-append-le, take-append-le, take-append-drop}
use borrow.Rule.Slice.PartMut.{put_mid}
use Rattle.wire_table.specs.Little.{number_of, bytes_of}
use Rattle.wire_table.specs.Rows.{Row, spelled_after}
use Rattle.wire_table.proofs.RowLaws.{spelled, spelled_after_is}
use Rattle.wire_table.proofs.LittleLemmas.{length-bytes_of}
use Rattle.wire_table.proofs.PutLaws.{put_value, put_other}
use Rattle.util_ic.specs.Messages.{number_at, put, zeros}

pub length-zeros : (n : ℕ) → length (zeros n) ≡ n
unfolding zeros
length-zeros n = length-replicate n 0

pub zeros_all : (n : ℕ) → AllByRecursion (λ b. b < 256) (zeros n)
unfolding zeros
zeros_all zero = tt
zeros_all (suc n) = (omega arith, zeros_all n)

-- the end of a message is written
pub end_written : (old new bytes : List ℕ) (at k : ℕ) → length old ≤ at + k → new ≡ bytes → put_mid at k old new ≡ take at old ++ bytes
end_written old new bytes at k le is =
    let past : drop k (drop at old) ≡ [] = drop_all k (drop at old) (omega (arith, length-drop at old)) in
    ap (λ l. take at old ++ l) (rw past (append-nil new ∙ is))

-- the content of a message is written behind its headers
pub content_written : (headers content : List Row) (old new : List ℕ) (at k : ℕ) → length old ≤ at + k → take at old ≡ spelled_after [] headers → new ≡ spelled_after [] content
    → put_mid at k old new ≡ spelled_after (spelled_after [] headers) content
content_written headers content old new at k le front is =
    end_written old new (spelled content) at k le (is ∙ spelled_after_is [] content) ∙ (ap (λ l. l ++ spelled content) front ∙ sym (spelled_after_is (spelled_after [] headers) content))

-- a number is put behind a place
pub put_behind : (start at w v k : ℕ) (b new : List ℕ) → length b ≤ start + k → take (at + w) new ≡ take at (take k (drop start b)) ++ bytes_of w v → drop (at + w) new ≡ drop (at + w) (take k (drop start b))
    → put_mid start k b new ≡ put (start + at) w v b
put_behind start at w v k b new le front rest =
    let part = drop start b in
    let all : take k part ≡ part = take_all k part (omega (arith, length-drop start b)) in
    let is : new ≡ put at w v part = sym (take-append-drop (at + w) new) ∙ (ap (λ l. l ++ drop (at + w) new) front ∙ (ap (λ l. (take at (take k part) ++ bytes_of w v) ++ l) rest ∙ ap (λ p. put at w v p) all)) in
    let before : take start b ++ take at part ≡ take (start + at) b = sym (take-add start at b) in
    let after : drop (at + w) part ≡ drop (start + at + w) b = drop-drop (at + w) start b ∙ ap (λ n. drop n b) (omega arith) in
    end_written b new (put at w v part) start k le is
    ∙ (sym (append_assoc (take start b) (take at part ++ bytes_of w v) (drop (at + w) part))
    ∙ (ap (λ l. l ++ drop (at + w) part) (sym (append_assoc (take start b) (take at part) (bytes_of w v)))
    ∙ rw (before, after) refl))

-- the front of a buffer is written
pub front_written : (out new bytes : List ℕ) (n : ℕ) → n ≤ length out → length new ≡ length (take n out) → new ≡ bytes → (n ≡ length bytes) × (take n (new ++ drop n out) ≡ bytes) × (drop n (new ++ drop n out) ≡ drop n out)
front_written out new bytes n le same is =
    let len : length new ≡ n = same ∙ length-take-le n out le in
    (sym len ∙ ap length is, take_at new (drop n out) n len ∙ is, drop_at new (drop n out) n len)

front_of_put : (at w v : ℕ) (b : List ℕ) → at + w ≤ length b → length (take at b ++ bytes_of w v) ≡ at + w
front_of_put at w v b le = omega (arith, length-append (take at b) (bytes_of w v), length-take-le at b (omega arith), length-bytes_of w v)

pub length-put : (at w v : ℕ) (b : List ℕ) → at + w ≤ length b → length (put at w v b) ≡ length b
length-put at w v b le = omega (arith, length-append (take at b ++ bytes_of w v) (drop (at + w) b), front_of_put at w v b le, length-drop (at + w) b)

-- the number that is put is read
pub put_same : (at w v : ℕ) (b : List ℕ) → at + w ≤ length b → v < 256 ^ w → number_at at w (put at w v b) ≡ v
put_same at w v b le fits = put_value b (put at w v b) at w v (omega arith) fits (take_at (take at b ++ bytes_of w v) (drop (at + w) b) (at + w) (front_of_put at w v b le))

-- a number elsewhere is as before
pub put_apart : (at w v c x : ℕ) (b : List ℕ) → at + w ≤ length b → (c + x ≤ at) ⊎ (at + w ≤ c) → number_at c x (put at w v b) ≡ number_at c x b
put_apart at w v c x b le apart =
    let cut = front_of_put at w v b le in
    ap number_of (put_other b (put at w v b) at w v c x (omega arith) (take_at (take at b ++ bytes_of w v) (drop (at + w) b) (at + w) cut) (drop_at (take at b ++ bytes_of w v) (drop (at + w) b) (at + w) cut) apart)

-- a number in the front is read, whatever follows
pub number_in_front : (at w : ℕ) (b more : List ℕ) → at + w ≤ length b → number_at at w (b ++ more) ≡ number_at at w b
number_in_front at w b more le =
    let k : at + w - at ≡ w = omega arith in
    let past : drop at (b ++ more) ≡ drop at b ++ more = drop-append-le at b more (omega arith) in
    rw (k, past) (ap number_of (take-append-le w (drop at b) more (omega (arith, length-drop at b))))
