-- The packets of a stream of bytes, and fronts of them.
use Rattle.std.proofs.Common.{◌≡◌, ℕ, zero, suc, ◌+◌, ◌*◌, ◌≤◌, ◌<◌, ◌⊎◌, inl, inr, ⊎_elim, Bool, true, false, List, [], ◌∷◌, ◌++◌, map, length, take, drop, get_or, None, length-drop, length-take, refl, sym, ap, ◌∙◌, subst, arith}
use Rattle.std.proofs.lemmas.Bool.Decides.{nat_tests}
use Rattle.std.proofs.lemmas.List.{get_or-drop, get_or-take, get_or_past, take-append-drop}
use Rattle.std.specs.Prelude.{ltb}
use Rattle.channel_trace.specs.Runs.{IsFront}
use Rattle.hv_sock.specs.Packets.{Said, Data, sock_packet}
use Rattle.hv_sock.specs.Streams.{closed_by, data_then, fault_by, fault_in, is_closed, stream_of}
use Rattle.hv_sock.proofs.PacketLaws.{says_data, says_end, sock_length}
use Rattle.sock_workers.proofs.PieceLaws.{cut, pieces_cut}
use Rattle.sock_workers.specs.Pieces.{closing, echo_then, echoed, packets_for, packets_of, pieces_for}
use Rattle.sock_workers.specs.Ports.{words_in}

abbrev pub AreBytes : List ℕ → Type 0
AreBytes xs = (i : ℕ) → get_or xs i 0 < 256

-- a piece of 1 to 2,048 bytes
pub record IsPiece (d : List ℕ) : Type 0 where
  pub some : 1 ≤ length d
  pub few : length d ≤ 2048
  pub bytes : AreBytes d

abbrev pub ArePieces : List (List ℕ) → Type 0
ArePieces [] = Unit {0}
ArePieces (d ∷ ds) = IsPiece d × ArePieces ds

bytes_drop : (n : ℕ) (xs : List ℕ) → AreBytes xs → AreBytes (drop n xs)
bytes_drop n xs h i = subst (λ (k : ℕ). k < 256) (sym (get_or-drop n xs i 0)) (h (n + i))

bytes_take : (n : ℕ) (xs : List ℕ) → AreBytes xs → AreBytes (take n xs)
bytes_take n xs h i = by_less (ltb i n) refl
  where
    by_less : (b : Bool) → ltb i n ≡ b → get_or (take n xs) i 0 < 256
    by_less true lt = subst (λ (k : ℕ). k < 256) (sym (get_or-take n xs i 0 (grind (arith, nat_tests, lt)))) (h i)
    by_less false ge =
        let le : n ≤ i = grind (arith, nat_tests, ge) in
        subst (λ (k : ℕ). k < 256) (sym (get_or_past (take n xs) i 0 (omega (arith, le, length-take n xs)))) (omega arith)

cut_are : (n : ℕ) (bytes : List ℕ) → n ≤ pieces_for (length bytes) → AreBytes bytes → ArePieces (cut n bytes)
cut_are zero bytes le h = tt
cut_are (suc n) bytes le h = (
  record { some = omega (arith, le, length-take 2048 bytes); few = omega (arith, length-take 2048 bytes); bytes = bytes_take 2048 bytes h },
  cut_are n (drop 2048 bytes) (omega (arith, le, length-drop 2048 bytes)) (bytes_drop 2048 bytes h),
)

cut_count : (n : ℕ) (bytes : List ℕ) → length (cut n bytes) ≡ n
cut_count zero bytes = refl
cut_count (suc n) bytes = ap suc (cut_count n (drop 2048 bytes))

stream_by : (s : Said) (d rest : List ℕ) → s ≡ Data d → data_then s rest ≡ d ++ rest
stream_by s d rest is = ap (λ (x : Said). data_then x rest) is

cut_stream : (n : ℕ) (bytes : List ℕ) → n ≡ pieces_for (length bytes) → AreBytes bytes → stream_of (closing (cut n bytes)) ≡ bytes
cut_stream zero [] is h = ap (λ (s : Said). data_then s []) says_end
cut_stream zero (b ∷ bytes) is h = absurd (omega (arith, is))
cut_stream (suc n) bytes is h =
    let d = take 2048 bytes in
    let said = says_data d (omega (arith, is, length-take 2048 bytes)) (omega (arith, length-take 2048 bytes)) (bytes_take 2048 bytes h) in
    let rest = cut_stream n (drop 2048 bytes) (omega (arith, is, length-drop 2048 bytes)) (bytes_drop 2048 bytes h) in
    ap (λ (s : Said). data_then s (stream_of (closing (cut n (drop 2048 bytes))))) said ∙ (ap (λ (l : List ℕ). d ++ l) rest ∙ take-append-drop 2048 bytes)

-- a front of the packets of pieces that isn't all of them
pub record IsPart (count : ℕ) (ps : List (List ℕ)) : Type 0 where
  pub unclosed : is_closed ps ≡ false
  pub whole : fault_in ps ≡ None
  pub echo : echoed ps ≡ ps
  pub few : length ps ≤ count
  pub words : words_in ps ≤ 259 * length ps

part_none : (count : ℕ) → IsPart count []
part_none count = record { unclosed = refl; whole = refl; echo = refl; few = omega arith; words = omega arith }

part_more : (count : ℕ) (d : List ℕ) (ps : List (List ℕ)) → IsPiece d → IsPart count ps → IsPart (suc count) (sock_packet d ∷ ps)
part_more count d ps piece part =
    let is = says_data d piece.some piece.few piece.bytes in record {
      unclosed = ap (λ (s : Said). closed_by s (is_closed ps)) is ∙ part.unclosed;
      whole = ap (λ (s : Said). fault_by s (fault_in ps)) is ∙ part.whole;
      echo = ap (λ (s : Said). echo_then s (echoed ps)) is ∙ ap (λ (l : List (List ℕ)). sock_packet d ∷ l) part.echo;
      few = omega (arith, part.few);
      words = omega (arith, part.words, sock_length d piece.few, piece.few);
    }

-- a front of them is all of them, or a part
pub front_of : (ds ps : List (List ℕ)) → ArePieces ds → IsFront ps (closing ds) → (ps ≡ closing ds) ⊎ IsPart (length ds) ps
front_of ds [] are f = inr (part_none (length ds))
front_of [] (q ∷ []) are f = let h = f.1 in inl (cc)
front_of [] (q ∷ r ∷ ps) are f = let h = f.1 in absurd (cc)
front_of (d ∷ ds) (q ∷ ps) are f =
    let h = f.1 in
    let first : q ≡ sock_packet d = cc in
    let rest : closing ds ≡ ps ++ f.0 = cc in
    ⊎_elim (λ all. inl (λ i. first i ∷ all i)) (λ part. inr (subst (λ (p : List ℕ). IsPart (suc (length ds)) (p ∷ ps)) (sym first) (part_more (length ds) d ps are.0 part))) (front_of ds ps are.1 (f.0, rest))

closing_closed : (ds : List (List ℕ)) → ArePieces ds → is_closed (closing ds) ≡ true
closing_closed [] are = ap (λ (s : Said). closed_by s false) says_end
closing_closed (d ∷ ds) are = ap (λ (s : Said). closed_by s (is_closed (closing ds))) (says_data d are.0.some are.0.few are.0.bytes) ∙ closing_closed ds are.1

closing_echo : (ds : List (List ℕ)) → ArePieces ds → echoed (closing ds) ≡ map sock_packet ds
closing_echo [] are = ap (λ (s : Said). echo_then s []) says_end
closing_echo (d ∷ ds) are = ap (λ (s : Said). echo_then s (echoed (closing ds))) (says_data d are.0.some are.0.few are.0.bytes) ∙ ap (λ (l : List (List ℕ)). sock_packet d ∷ l) (closing_echo ds are.1)

-- what holds of the packets of a stream
pub record ArePackets (bytes : List ℕ) (ps : List (List ℕ)) : Type 0 where
  pub stream : stream_of ps ≡ bytes
  pub closed : is_closed ps ≡ true
  pub echo : echoed ps ++ sock_packet [] ∷ [] ≡ ps
  pub front : (qs : List (List ℕ)) → IsFront qs ps → (qs ≡ ps) ⊎ ((n : ℕ) × (n + 1 ≤ packets_for (length bytes)) × IsPart n qs)

cut_packets : (bytes : List ℕ) → packets_of bytes ≡ closing (cut (pieces_for (length bytes)) bytes)
unfolding packets_of
cut_packets bytes = ap closing (pieces_cut bytes)

pub packets_are : (bytes : List ℕ) → AreBytes bytes → ArePackets bytes (packets_of bytes)
packets_are bytes h =
    let n = pieces_for (length bytes) in
    let ds = cut n bytes in
    let are = cut_are n bytes (omega arith) h in
    subst (ArePackets bytes) (sym (cut_packets bytes)) (record {
      stream = cut_stream n bytes refl h;
      closed = closing_closed ds are;
      echo = ap (λ (l : List (List ℕ)). l ++ sock_packet [] ∷ []) (closing_echo ds are);
      front = λ qs f. ⊎_elim (λ all. inl all) (λ part. inr (length ds, omega (arith, cut_count n bytes), part)) (front_of ds qs are f);
    })
