-- The text of bytes in which a message was read.
use Rattle.std.proofs.Common.{◌≡◌, ℕ, ◌+◌, ◌≤◌, List, [], ◌∷◌, ◌++◌, length, ◌==◌, Ok, None, refl, ap, sym, ◌∙◌, append_assoc, append-nil, arith, true, ◌||◌, codes, cond, Bool, false}
use Rattle.std.proofs.lemmas.Bool.Decides.{nat_tests}
use Rattle.wire_table.specs.Rows.{Kind, rows_at, total}
use Rattle.vmbus_msg.specs.declared.msg.Msg.{Msg}
use Rattle.vmbus_msg.specs.Grammar.{frames_of, kinds_of}
use Rattle.vmbus_msg.specs.Faults.{fault_of, fault_for, plain, short, body, header, value_at}
use Rattle.vmbus_msg.specs.Reading.{Parses}
use Rattle.vmbus_msg.proofs.SizeLaws.{by_test, both_none, fixed_len, body_sizes, header_size}
use Rattle.vmbus_msg_text.specs.Digits.{numbers_text}
use Rattle.vmbus_msg_text.specs.Names.{name_of, shows_of}
use Rattle.vmbus_msg_text.specs.Pieces.{joined, named_text}
use Rattle.vmbus_msg_text.specs.Text.{field_pieces, frame_pieces, told_text, text_or, bytes_text}

joined-append : (xs ys : List (List ℕ)) → joined (xs ++ ys) ≡ joined xs ++ joined ys
joined-append [] ys = refl
joined-append (x ∷ xs) ys = ap (λ (t : List ℕ). x ++ t) (joined-append xs ys) ∙ sym (append_assoc x (joined xs) (joined ys))

-- the name and the fields of a type in bytes
abbrev fields_from : ℕ → List ℕ → List ℕ
fields_from k b = name_of k ++ joined (field_pieces (shows_of k) (rows_at (kinds_of k) 4 b))

named_frames : (ns : List ℕ) → joined (named_text (codes "frames") (numbers_text ns) ∷ []) ≡ (32 ∷ (codes "frames" ++ (32 ∷ []))) ++ numbers_text ns
unfolding named_text
named_frames ns = append-nil (named_text (codes "frames") (numbers_text ns))

-- what was read of bytes has their text, the frames last
found_text : (b : List ℕ) (m : Msg) → Parses b (Ok m) → bytes_text b ≡ fields_from (value_at b 0 4) b ++ joined (frame_pieces (value_at b 0 4) (frames_of m))
unfolding Parses
found_text b m is =
    let k = value_at b 0 4 in
    let fields = field_pieces (shows_of k) (rows_at (kinds_of k) 4 b) in
    ap (text_or b) is.0
    ∙ ap (λ (fs : List ℕ). told_text k (rows_at (kinds_of k) 4 b) fs) (sym is.1.2)
    ∙ ap (λ (t : List ℕ). name_of k ++ t) (joined-append fields (frame_pieces k (frames_of m)))
    ∙ sym (append_assoc (name_of k) (joined fields) (joined (frame_pieces k (frames_of m))))

third : {A : Type 0} (p q : Bool) (a b c d : A) → p ≡ false → q ≡ false → cond p a (cond q b c) ≡ d → c ≡ d
third p q a b c d f g h = rw (f, g) at h

plain_size : (k : ℕ) (ks : List Kind) (n : ℕ) → plain k ks n ≡ None → 4 + total ks ≤ n
plain_size k [] n h = cc
plain_size k (x ∷ xs) n h = let size = fixed_len (4 + total (x ∷ xs)) n h in omega (arith, size)

-- bytes without a fault hold the fields of their type
fields_within : (b : List ℕ) → fault_of b ≡ None → 4 + total (kinds_of (value_at b 0 4)) ≤ length b
unfolding fault_of
fields_within b h =
    let k = value_at b 0 4 in
    let none = (both_none (short 8 (length b)) (fault_for k b) h).1 in
    by_test (k == 8)
    (λ is. let head : header b ≡ None = rw is at none in
    let size = header_size b head in
    let same : k ≡ 8 = grind (arith, nat_tests, is) in
    rw same (omega (arith, size)))
    (λ other. by_test (k == 9)
    (λ is. let rest : body (length b) ≡ None = rw (other, is) at none in
    let size = (body_sizes (length b) rest).0 in
    let same : k ≡ 9 = grind (arith, nat_tests, is) in
    rw same (omega (arith, size)))
    (λ none_of. plain_size k (kinds_of k) (length b) (third (k == 8) (k == 9) (header b) (body (length b)) (plain k (kinds_of k) (length b)) None other none_of none)))

-- what was read of bytes holds the fields of its type
pub read_within : (b : List ℕ) (m : Msg) → Parses b (Ok m) → 4 + total (kinds_of (value_at b 0 4)) ≤ length b
unfolding Parses
read_within b m is = fields_within b is.0

-- a name and fields, and nothing behind them
pub plain_told : (b : List ℕ) (m : Msg) (k : ℕ) (t t1 : List ℕ) → Parses b (Ok m) → k ≡ value_at b 0 4 → (k == 8 || k == 9) ≡ false
    → t1 ≡ t ++ (name_of k ++ joined (field_pieces (shows_of k) (rows_at (kinds_of k) 4 b))) → t1 ≡ t ++ bytes_text b
plain_told b m k t t1 is same other h =
    let all = found_text b m is in
    let none : joined (frame_pieces k (frames_of m)) ≡ [] = rw other refl in
    h ∙ ap (λ (x : List ℕ). t ++ x)
    (sym (append-nil (fields_from k b)) ∙ ap (λ (x : List ℕ). fields_from k b ++ x) (sym none) ∙ ap (λ (j : ℕ). fields_from j b ++ joined (frame_pieces j (frames_of m))) same ∙ sym all)

-- a name and fields, and frames behind them
pub framed_told : (b : List ℕ) (m : Msg) (k : ℕ) (t t1 t2 t3 : List ℕ) → Parses b (Ok m) → k ≡ value_at b 0 4 → (k == 8 || k == 9) ≡ true
    → t1 ≡ t ++ (name_of k ++ joined (field_pieces (shows_of k) (rows_at (kinds_of k) 4 b))) → t2 ≡ t1 ++ (32 ∷ (codes "frames" ++ (32 ∷ []))) → t3 ≡ t2 ++ numbers_text (frames_of m) → t3 ≡ t ++ bytes_text b
framed_told b m k t t1 t2 t3 is same framed h1 h2 h3 =
    let all = found_text b m is in
    let last : joined (frame_pieces k (frames_of m)) ≡ (32 ∷ (codes "frames" ++ (32 ∷ []))) ++ numbers_text (frames_of m) = rw framed (named_frames (frames_of m)) in
    h3 ∙ ap (λ (x : List ℕ). x ++ numbers_text (frames_of m)) (h2 ∙ ap (λ (x : List ℕ). x ++ (32 ∷ (codes "frames" ++ (32 ∷ [])))) h1)
    ∙ append_assoc (t ++ fields_from k b) (32 ∷ (codes "frames" ++ (32 ∷ []))) (numbers_text (frames_of m))
    ∙ append_assoc t (fields_from k b) ((32 ∷ (codes "frames" ++ (32 ∷ []))) ++ numbers_text (frames_of m))
    ∙ ap (λ (x : List ℕ). t ++ x) (ap (λ (x : List ℕ). fields_from k b ++ x) (sym last) ∙ ap (λ (j : ℕ). fields_from j b ++ joined (frame_pieces j (frames_of m))) same ∙ sym all)
