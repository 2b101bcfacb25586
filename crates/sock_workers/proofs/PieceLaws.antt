-- The packets of streams, and what goes back for them.
use Rattle.std.proofs.Common.{◌≡◌, ℕ, zero, suc, ◌+◌, ◌*◌, ◌<◌, false, List, [], ◌∷◌, ◌++◌, map, length, take, drop, None, append-nil, length-append, length-drop, length-take, refl, sym, ap, ◌∙◌, subst, arith}
use Rattle.std.proofs.Math.Seq.{take-append_seam, drop-append_seam}
use Rattle.std.proofs.lemmas.List.{drop-drop, take-append-drop, take_all, drop_all}
use Rattle.std.specs.Fork.{slice_chunk}
use Rattle.std.specs.List.{flat_map, range_with_len}
use Rattle.hv_sock.specs.Packets.{Said, Data, Close, Fault, says, sock_packet}
use Rattle.hv_sock.specs.Streams.{IsOpen, closed_by, fault_by, fault_in, is_closed}
use Rattle.sock_workers.specs.Pieces.{AreFull, ArePiecesOf, CutsInNoOthers, CutsInPieces, closing, echo_then, echoed, packets_of, pieces, pieces_for}

echo_step : (s : Said) (ps : List (List ℕ)) (p : List ℕ) → (IsOpen ps → echoed (ps ++ p ∷ []) ≡ echoed ps ++ echo_then (says p) []) → closed_by s (is_closed ps) ≡ false → fault_by s (fault_in ps) ≡ None
    → echo_then s (echoed (ps ++ p ∷ [])) ≡ echo_then s (echoed ps) ++ echo_then (says p) []
echo_step (Data bytes) ps p more closed fault = ap (λ (l : List (List ℕ)). sock_packet bytes ∷ l) (more (record { unclosed = closed; whole = fault }))
echo_step Close ps p more closed fault = absurd (cc)
echo_step (Fault f) ps p more closed fault = absurd (cc)

-- what goes back for one packet more of a stream that can go on
pub echo_more : (ps : List (List ℕ)) (p : List ℕ) → IsOpen ps → echoed (ps ++ p ∷ []) ≡ echoed ps ++ echo_then (says p) []
echo_more [] p is = refl
echo_more (q ∷ ps) p is = echo_step (says q) ps p (echo_more ps p) is.unclosed is.whole

-- so many pieces of bytes, one behind the other
abbrev pub cut : ℕ → List ℕ → List (List ℕ)
cut zero bytes = []
cut (suc n) bytes = take 2048 bytes ∷ cut n (drop 2048 bytes)

cut_from : (n k : ℕ) (bytes : List ℕ) → map (slice_chunk bytes 2048) (range_with_len k n) ≡ cut n (drop (k * 2048) bytes)
cut_from zero k bytes = refl
cut_from (suc n) k bytes =
    let next : drop ((k + 1) * 2048) bytes ≡ drop 2048 (drop (k * 2048) bytes) = ap (λ (m : ℕ). drop m bytes) (omega arith) ∙ sym (drop-drop 2048 (k * 2048) bytes) in
    ap (λ (l : List (List ℕ)). take 2048 (drop (k * 2048) bytes) ∷ l) (cut_from n (k + 1) bytes ∙ ap (cut n) next)

-- the chunks of bytes are their pieces, one behind the other
pub pieces_cut : (bytes : List ℕ) → pieces bytes ≡ cut (pieces_for (length bytes)) bytes
unfolding pieces
pieces_cut bytes = cut_from (pieces_for (length bytes)) 0 bytes

-- the first piece, and those of the bytes behind it
pub pieces_first : (bytes : List ℕ) → 0 < length bytes → pieces bytes ≡ take 2048 bytes ∷ pieces (drop 2048 bytes)
pieces_first bytes some =
    let count : pieces_for (length bytes) ≡ suc (pieces_for (length (drop 2048 bytes))) = omega (arith, some, length-drop 2048 bytes) in
    pieces_cut bytes ∙ (ap (λ (n : ℕ). cut n bytes) count ∙ ap (λ (l : List (List ℕ)). take 2048 bytes ∷ l) (sym (pieces_cut (drop 2048 bytes))))

pub pieces_none : pieces [] ≡ []
unfolding pieces
pieces_none = refl

cut_full : (n : ℕ) (bytes : List ℕ) → n ≡ pieces_for (length bytes) → AreFull (cut n bytes)
cut_full zero bytes is = tt
cut_full (suc zero) bytes is = (omega (arith, is, length-take 2048 bytes), omega (arith, length-take 2048 bytes))
cut_full (suc (suc n)) bytes is =
    (omega (arith, is, length-take 2048 bytes), cut_full (suc n) (drop 2048 bytes) (omega (arith, is, length-drop 2048 bytes)))

cut_joined : (n : ℕ) (bytes : List ℕ) → n ≡ pieces_for (length bytes) → flat_map (λ d. d) (cut n bytes) ≡ bytes
cut_joined zero [] is = refl
cut_joined zero (b ∷ bytes) is = absurd (omega (arith, is))
cut_joined (suc n) bytes is = ap (λ (l : List ℕ). take 2048 bytes ++ l) (cut_joined n (drop 2048 bytes) (omega (arith, is, length-drop 2048 bytes))) ∙ take-append-drop 2048 bytes

pub cuts_in_pieces : CutsInPieces
cuts_in_pieces bytes =
    let n = pieces_for (length bytes) in
    let is = pieces_cut bytes in
    subst (ArePiecesOf bytes) (sym is) (record { joined = cut_joined n bytes refl; full = cut_full n bytes refl })

-- a piece in front of others is cut off first
cut_off : (d rest : List ℕ) → length d ≡ 2048 → pieces (d ++ rest) ≡ d ∷ pieces rest
cut_off d rest is =
    let some : 0 < length (d ++ rest) = omega (arith, is, length-append d rest) in
    let front : take 2048 (d ++ rest) ≡ d = ap (λ (n : ℕ). take n (d ++ rest)) (sym is) ∙ take-append_seam d rest in
    let back : drop 2048 (d ++ rest) ≡ rest = ap (λ (n : ℕ). drop n (d ++ rest)) (sym is) ∙ drop-append_seam d rest in
    pieces_first (d ++ rest) some ∙ (ap (λ (l : List ℕ). l ∷ pieces (drop 2048 (d ++ rest))) front ∙ ap (λ (l : List ℕ). d ∷ pieces l) back)

full_pieces : (ds : List (List ℕ)) → AreFull ds → ds ≡ pieces (flat_map (λ d. d) ds)
full_pieces [] full = sym pieces_none
full_pieces (d ∷ []) full =
    let front : take 2048 d ≡ d = take_all 2048 d full.1 in
    let back : drop 2048 d ≡ [] = drop_all 2048 d full.1 in
    sym (ap pieces (append-nil d) ∙ (pieces_first d (omega (arith, full.0)) ∙ (ap (λ (l : List ℕ). l ∷ pieces (drop 2048 d)) front ∙ (ap (λ (l : List ℕ). d ∷ pieces l) back ∙ ap (λ (l : List (List ℕ)). d ∷ l) pieces_none))))
full_pieces (d ∷ e ∷ ds) full = sym (cut_off d (flat_map (λ d. d) (e ∷ ds)) full.0 ∙ ap (λ (l : List (List ℕ)). d ∷ l) (sym (full_pieces (e ∷ ds) full.1)))

pub cuts_in_no_others : CutsInNoOthers
cuts_in_no_others bytes ds are = full_pieces ds are.full ∙ ap pieces are.joined

pub packets_first : (bytes : List ℕ) → 0 < length bytes → packets_of bytes ≡ sock_packet (take 2048 bytes) ∷ packets_of (drop 2048 bytes)
unfolding packets_of
packets_first bytes some = ap closing (pieces_first bytes some)

pub packets_none : packets_of [] ≡ sock_packet [] ∷ []
unfolding packets_of pieces
packets_none = refl
