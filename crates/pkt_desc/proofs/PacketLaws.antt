-- Packets whose payload follows the descriptor.
use Rattle.std.proofs.Common.{◌≡◌, ℕ, suc, ◌+◌, ◌^◌, ◌<◌, ◌≤◌, List, [], ◌∷◌, length, take, drop, set, get_or, refl, ap, ◌∙◌, arith}
use Rattle.std.proofs.lemmas.List.{take-append-le}
use borrow.Rule.Slice.PartMut.{put_mid, post_of}
use Rattle.vm_page.specs.Words.{words_for, words_of, bytes_in}
use Rattle.vm_page.proofs.WordLaws.{length-words_from, bytes_in-words_from}
use Rattle.pkt_desc.specs.Packets.{kind_in, offset8_of, len8_of, flags_in, head, plain_packet, payload_of, Carries}

-- two words and then others, at the front of a list
pub two_then : (old new words : List ℕ) (first second n k : ℕ) → 2 + n ≤ length old → n ≤ length new → take n new ≡ words → take (2 + n) (put_mid 2 k (set (set old 0 first) 1 second) new) ≡ first ∷ second ∷ words
two_then [] new words first second n k room fits is = absurd (omega arith)
two_then (a ∷ []) new words first second n k room fits is = absurd (omega arith)
two_then (a ∷ b ∷ old) new words first second n k room fits is =
    let e : 2 + n ≡ suc (suc n) = omega arith in
    let cut = take-append-le n new (post_of 2 k (first ∷ second ∷ old)) fits in
    rw e (ap (λ (l : List ℕ). first ∷ second ∷ l) (cut ∙ is))

-- the fields of a first word
pub head_fields : (kind offset8 len8 flags : ℕ) → kind < 2 ^ 16 → offset8 < 2 ^ 16 → len8 < 2 ^ 16 → flags < 2 ^ 16
    → (kind_in (head kind offset8 len8 flags) ≡ kind) × (offset8_of (head kind offset8 len8 flags) ≡ offset8) × (len8_of (head kind offset8 len8 flags) ≡ len8) × (flags_in (head kind offset8 len8 flags) ≡ flags)
head_fields kind offset8 len8 flags k o l f = (omega arith, omega arith, omega arith, omega arith)

-- such a packet is one, with what it was made of
pub plain_carries : (kind tid flags : ℕ) (payload : List ℕ) → kind < 2 ^ 16 → flags < 2 ^ 16 → 2 + words_for (length payload) ≤ 384 → ((i : ℕ) → get_or payload i 0 < 256) → Carries (plain_packet kind tid flags payload) kind tid flags payload
plain_carries kind tid flags payload k f few bytes =
    let n = words_for (length payload) in
    let fields = head_fields kind 2 (2 + n) flags k (omega arith) (omega arith) f in
    let words = words_of payload in
    let long : length words ≡ n = length-words_from n payload in
    let part : payload_of (plain_packet kind tid flags payload) ≡ words = ap (λ j. drop j (plain_packet kind tid flags payload)) fields.1 in
    record {
      is_packet = record {
        two_words = omega arith;
        length_is = fields.2 ∙ omega (arith, long);
        past_descriptor = rw fields.1 (omega arith);
        within = rw fields.1 (omega arith);
      };
      kind_is = fields.0;
      id_is = refl;
      flags_are = fields.3;
      words_are = part;
      bytes_are = ap bytes_in part ∙ bytes_in-words_from n payload bytes (omega arith);
    }
