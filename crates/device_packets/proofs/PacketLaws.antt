-- Packets whose payload follows the descriptor: what is read of them.
use Rattle.std.proofs.Common.{◌≡◌, ℕ, ◌+◌, ◌*◌, ◌^◌, ◌<◌, ◌≤◌, Bool, true, false, cond, ◌&&◌, ◌==◌, List, length, drop, Option, Some, None, refl, ap, ◌∙◌, arith}
use Rattle.std.specs.Prelude.{nat_le}
use Rattle.std.proofs.lemmas.Bool.Decides.{nat_tests}
use Rattle.wire_table.proofs.RowLaws.{IsBytes}
use Rattle.vm_page.specs.Words.{words_for, words_of, bytes_in, padded}
use Rattle.vm_page.proofs.WordLaws.{length-words_from, length-bytes_in, bytes_in-words_from}
use Rattle.pkt_desc.specs.Packets.{kind_in, offset8_of, head, kind_of, payload_of, plain_packet}
use Rattle.device_packets.specs.Packets.{is_of, content_of}
use Rattle.device_packets.proofs.ByteLaws.{words_bytes}

offset_two : (kind len8 flags : ℕ) → kind < 2 ^ 16 → offset8_of (head kind 2 len8 flags) ≡ 2
offset_two kind len8 flags small = omega arith

kind_kept : (kind len8 flags : ℕ) → kind < 2 ^ 16 → kind_in (head kind 2 len8 flags) ≡ kind
kind_kept kind len8 flags small = omega arith

pub kind_plain : (kind id flags : ℕ) (bs : List ℕ) → kind < 2 ^ 16 → kind_of (plain_packet kind id flags bs) ≡ kind
kind_plain kind id flags bs small = kind_kept kind (2 + words_for (length bs)) flags small

pub payload_kept : (kind id flags : ℕ) (bs : List ℕ) → kind < 2 ^ 16 → payload_of (plain_packet kind id flags bs) ≡ words_of bs
payload_kept kind id flags bs small = ap (λ j. drop j (plain_packet kind id flags bs)) (offset_two kind (2 + words_for (length bs)) flags small)

pub length-plain : (kind id flags : ℕ) (bs : List ℕ) → length (plain_packet kind id flags bs) ≡ 2 + words_for (length bs)
length-plain kind id flags bs = omega (arith, length-words_from (words_for (length bs)) bs)

-- the payload's bytes do not depend on the id
pub content_any : (kind id flags : ℕ) (bs : List ℕ) → kind < 2 ^ 16 → content_of (plain_packet kind id flags bs) ≡ bytes_in (words_of bs)
unfolding content_of
content_any kind id flags bs small = ap bytes_in (payload_kept kind id flags bs small)

-- they are the bytes that were put in, with zeros after them
pub content_kept : (kind id flags : ℕ) (bs : List ℕ) → kind < 2 ^ 16 → IsBytes bs → content_of (plain_packet kind id flags bs) ≡ padded bs
content_kept kind id flags bs small bytes = content_any kind id flags bs small ∙ bytes_in-words_from (words_for (length bs)) bs bytes (omega arith)

pub length-content : (kind id flags : ℕ) (bs : List ℕ) → kind < 2 ^ 16 → length (content_of (plain_packet kind id flags bs)) ≡ 8 * words_for (length bs)
length-content kind id flags bs small = ap length (content_any kind id flags bs small) ∙ (length-bytes_in (words_of bs) ∙ ap (λ n. 8 * n) (length-words_from (words_for (length bs)) bs))

pub content_bytes : (p : List ℕ) → IsBytes (content_of p)
unfolding content_of
content_bytes p = words_bytes (payload_of p)

-- short ones are of their type
pub is_of_kept : (kind id flags : ℕ) (bs : List ℕ) → kind < 2 ^ 16 → 2 + words_for (length bs) ≤ 384 → is_of kind (plain_packet kind id flags bs) ≡ true
is_of_kept kind id flags bs small few =
    let same : (kind_of (plain_packet kind id flags bs) == kind) ≡ true = grind (arith, nat_tests, kind_kept kind (2 + words_for (length bs)) flags small) in
    let short : nat_le (length (plain_packet kind id flags bs)) 384 ≡ true = grind (arith, nat_tests, length-plain kind id flags bs, few) in
    rw (same, short) refl

pub right : (a b : Bool) → (a && b) ≡ true → b ≡ true
right true b h = h
right false b h = cc

-- and one of its type is short
pub short_of : (kind id flags : ℕ) (bs : List ℕ) → is_of kind (plain_packet kind id flags bs) ≡ true → 2 + words_for (length bs) ≤ 384
short_of kind id flags bs h =
    let le : nat_le (length (plain_packet kind id flags bs)) 384 ≡ true = right (kind_of (plain_packet kind id flags bs) == kind) (nat_le (length (plain_packet kind id flags bs)) 384) h in
    grind (arith, nat_tests, length-plain kind id flags bs, le)

-- tests

pub by_test : {P : Type 0} (b : Bool) → (b ≡ true → P) → (b ≡ false → P) → P
by_test true f g = f refl
by_test false f g = g refl

pub cond_some : {X : Type 0} (b : Bool) (x : Option X) (q : X) → cond b x None ≡ Some q → (b ≡ true) × (x ≡ Some q)
cond_some true x q h = (refl, h)
cond_some false x q h = cc
