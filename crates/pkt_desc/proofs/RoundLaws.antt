-- Packets written round the words of their ranges.
use Rattle.std.proofs.Common.{◌≡◌, ℕ, suc, ◌+◌, ◌-◌, ◌^◌, ◌<◌, ◌≤◌, List, [], ◌∷◌, ◌++◌, length, get_or, take, drop, set, append-nil, refl, sym, ap, ◌∙◌, arith}
use Rattle.std.proofs.Math.Seq.{take-add}
use Rattle.std.proofs.lemmas.List.{take-append-le, take_at, drop_at, drop-drop, drop_all, take_all, length-drop, drop-set-lt, length-take-le, length-append}
use borrow.Rule.Slice.PartMut.{put_mid, post_of}
use Rattle.vm_page.specs.Words.{words_for, words_of, bytes_in}
use Rattle.vm_page.proofs.WordLaws.{length-words_from, bytes_in-words_from}
use Rattle.pkt_desc.specs.Packets.{payload_of}
use Rattle.pkt_desc.specs.Ranges.{ranges_end}
use Rattle.pkt_desc.specs.Built.{ranged_packet, CarriesRanges}
use Rattle.pkt_desc.proofs.PacketLaws.{head_fields}

-- so many words, of which the first were there before
joined : (old new rest words : List ℕ) (r n : ℕ) → r ≤ length old → n ≤ length new → take n new ≡ words → take (r + n) (take r old ++ (new ++ rest)) ≡ take r old ++ words
joined old new rest words r n le fits is =
    let front : length (take r old) ≡ r = length-take-le r old le in
    let before : take r (take r old ++ (new ++ rest)) ≡ take r old = take_at (take r old) (new ++ rest) r front in
    let behind : drop r (take r old ++ (new ++ rest)) ≡ new ++ rest = drop_at (take r old) (new ++ rest) r front in
    take-add r n (take r old ++ (new ++ rest)) ∙ (ap (λ l. l ++ take n (drop r (take r old ++ (new ++ rest)))) before ∙ ap (λ l. take r old ++ l) (ap (take n) behind ∙ (take-append-le n new rest fits ∙ is)))

-- three words, the words that stand behind them, and others
pub three_then : (old new words : List ℕ) (first second third r n k : ℕ) → 3 + r + n ≤ length old → n ≤ length new → take n new ≡ words
    → take (3 + r + n) (put_mid (3 + r) k (set (set (set old 0 first) 1 second) 2 third) new) ≡ first ∷ second ∷ third ∷ (take r (drop 3 old) ++ words)
three_then [] new words first second third r n k room fits is = absurd (omega arith)
three_then (a ∷ []) new words first second third r n k room fits is = absurd (omega arith)
three_then (a ∷ b ∷ []) new words first second third r n k room fits is = absurd (omega arith)
three_then (a ∷ b ∷ c ∷ old) new words first second third r n k room fits is =
    let e : 3 + r ≡ suc (suc (suc r)) = omega arith in
    let f : 3 + r + n ≡ suc (suc (suc (r + n))) = omega arith in
    let all = first ∷ second ∷ third ∷ old in
    let cut : put_mid (3 + r) k all new ≡ first ∷ second ∷ third ∷ (take r old ++ (new ++ post_of (3 + r) k all)) = ap (λ j. take j all ++ (new ++ post_of (3 + r) k all)) e in
    ap (λ l. take (3 + r + n) l) cut
    ∙ (ap (λ j. take j (first ∷ second ∷ third ∷ (take r old ++ (new ++ post_of (3 + r) k all)))) f
    ∙ ap (λ (l : List ℕ). first ∷ second ∷ third ∷ l) (joined old new (post_of (3 + r) k all) words r n (omega arith) fits is))

-- what was written behind the first three words stands there
pub behind_three : (out new : List ℕ) (k n : ℕ) → 3 ≤ length out → n ≤ length new → take n (drop 3 (put_mid 3 k out new)) ≡ take n new
behind_three out new k n room fits = ap (take n) (drop_at (take 3 out) (new ++ post_of 3 k out) 3 (length-take-le 3 out room)) ∙ take-append-le n new (post_of 3 k out) fits

-- what is behind the words that were written to the end of a list stays
pub end_kept : (out new : List ℕ) (a k j m : ℕ) → a ≤ length out → length new ≡ k → a + k ≡ length out → j ≤ m → drop j new ≡ drop j (take k (drop a out)) → drop (a + m) (put_mid a k out new) ≡ drop (a + m) out
end_kept out new a k j m within long end le same =
    let none : post_of a k out ≡ [] = drop-drop k a out ∙ drop_all (a + k) out (omega arith) in
    let behind : drop a (put_mid a k out new) ≡ new ++ post_of a k out = drop_at (take a out) (new ++ post_of a k out) a (length-take-le a out within) in
    let left : j + (m - j) ≡ m = omega arith in
    let whole : take k (drop a out) ≡ drop a out = take_all k (drop a out) (omega (arith, length-drop a out)) in
    let later : drop m new ≡ drop m (drop a out) = ap (λ i. drop i new) (sym left) ∙ (sym (drop-drop (m - j) j new) ∙ (ap (drop (m - j)) (same ∙ ap (drop j) whole) ∙ (drop-drop (m - j) j (drop a out) ∙ ap (λ i. drop i (drop a out)) left))) in
    sym (drop-drop m a (put_mid a k out new)) ∙ (ap (drop m) (behind ∙ (ap (λ l. new ++ l) none ∙ append-nil new)) ∙ (later ∙ drop-drop m a out))

-- the same, where three words in front were written before
pub three_kept : (old : List ℕ) (first second third n : ℕ) → 3 ≤ n → drop n (set (set (set old 0 first) 1 second) 2 third) ≡ drop n old
three_kept old first second third n le =
    drop-set-lt n (set (set old 0 first) 1 second) 2 third (omega arith) ∙ (drop-set-lt n (set old 0 first) 1 second (omega arith) ∙ drop-set-lt n old 0 first (omega arith))

-- such a packet is one, where its ranges fill what is before its payload
pub ranged_carries : (kind tid third : ℕ) (ranges payload : List ℕ) → kind < 2 ^ 16 → 3 + length ranges + words_for (length payload) ≤ 384 → ((i : ℕ) → get_or payload i 0 < 256)
    → ranges_end kind (ranged_packet kind tid third ranges payload) ≡ 3 + length ranges → CarriesRanges (ranged_packet kind tid third ranges payload) kind tid payload
ranged_carries kind tid third ranges payload k few bytes fill =
    let n = words_for (length payload) in
    let offset8 = 3 + length ranges in
    let fields = head_fields kind offset8 (offset8 + n) 1 k (omega arith) (omega arith) (omega arith) in
    let words = words_of payload in
    let long : length words ≡ n = length-words_from n payload in
    let both : length (ranges ++ words) ≡ length ranges + n = length-append ranges words ∙ ap (λ j. length ranges + j) long in
    let at : offset8 ≡ suc (suc (suc (length ranges))) = omega arith in
    let part : payload_of (ranged_packet kind tid third ranges payload) ≡ words =
    ap (λ j. drop j (ranged_packet kind tid third ranges payload)) (fields.1 ∙ at) ∙ drop_at ranges words (length ranges) refl in
    record {
      is_packet = record {
        two_words = omega arith;
        length_is = fields.2 ∙ omega (arith, both);
        past_descriptor = rw fields.1 (omega arith);
        within = rw fields.1 (omega (arith, both));
      };
      kind_is = fields.0;
      id_is = refl;
      flags_are = fields.3;
      ranges_fill = fill ∙ sym fields.1;
      words_are = part;
      bytes_are = ap bytes_in part ∙ bytes_in-words_from n payload bytes (omega arith);
    }
