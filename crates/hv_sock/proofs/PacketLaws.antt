-- The packets of a socket: their words, and what they say.
use Rattle.std.proofs.Common.{rules, ◌≡◌, ℕ, zero, suc, ◌+◌, ◌-◌, ◌*◌, ◌/◌, ◌%◌, ◌^◌, ◌<◌, ◌≤◌, Bool, true, false, cond, ◌==◌, ltb, leb, List, [], ◌∷◌, ◌++◌, length, get_or, take, drop, set, replicate, Option, Some, None, Err, length-append, length-drop, length-take-le, refl, sym, ap, ◌∙◌, subst, arith}
use Rattle.std.proofs.lemmas.Bool.{and_from, and_parts, eq-eqb, eqb-true, le-leb, le-ltb, leb-true, ltb-false, ne_eqb}
use Rattle.std.proofs.lemmas.List.{append-nil, length-replicate, take-append-le, take_at}
use Rattle.std.proofs.lemmas.Nat.{shr-shr}
use borrow.Rule.Slice.PartMut.{put_mid, post_of}
use Rattle.vm_page.specs.Words.{bytes_in, low_bytes, number_of, padded, words_for, words_from, words_of}
use Rattle.vm_page.proofs.WordLaws.{length-bytes_in, length-words_from}
use Rattle.pkt_desc.specs.Packets.{Carries, head, payload_of}
use Rattle.pkt_desc.proofs.PacketLaws.{plain_carries}
use Rattle.ring_machine.specs.States.{IsPacket}
use Rattle.hv_sock.specs.declared.sock_fault.SockFault.{SockFault}
use Rattle.hv_sock.specs.declared.sock_fault.SockFault.TheVariants.{Short, Kind, Size}
use Rattle.hv_sock.specs.Packets.{Said, Data, Close, Fault, answer_of, content_fault, data_in, header_fault, is_size, left_in, said_by, says, size_in, sock_packet, sock_payload, type_in}
use Rattle.hv_sock.specs.Streams.{breaks_off, bytes_read, closed_by, closes, data_then, fault_by, fault_in, is_closed}

pub payload_length : (bytes : List ℕ) → length (sock_payload bytes) ≡ 8 + length bytes
unfolding low_bytes
payload_length bytes = omega arith

-- the words of a packet of these bytes
pub sock_words : (bytes : List ℕ) → length bytes ≤ 2048 → sock_packet bytes ≡ head 6 2 (3 + words_for (length bytes)) 0 ∷ 0 ∷ (1 + length bytes * 2 ^ 32) ∷ words_of bytes
unfolding number_of low_bytes words_from
sock_words bytes few =
    let n = length bytes in
    let long : words_for (length (sock_payload bytes)) ≡ suc (words_for n) = omega (arith, payload_length bytes) in
    let size : 2 + suc (words_for n) ≡ 3 + words_for n = omega arith in
    let number : number_of (take 8 (sock_payload bytes)) ≡ 1 + n * 2 ^ 32 = omega arith in
    (λ i. head 6 2 (2 + long i) 0 ∷ 0 ∷ words_from (long i) (sock_payload bytes)) ∙ (λ i. head 6 2 (size i) 0 ∷ 0 ∷ number i ∷ words_from (words_for n) bytes)

-- three words and then others, at the front of a list
pub three_then : (old new words : List ℕ) (first second third n k : ℕ) → 3 + n ≤ length old → n ≤ length new → take n new ≡ words
    → take (3 + n) (put_mid 3 k (set (set (set old 0 first) 1 second) 2 third) new) ≡ first ∷ second ∷ third ∷ words
three_then [] new words first second third n k room fits is = absurd (omega arith)
three_then (a ∷ []) new words first second third n k room fits is = absurd (omega arith)
three_then (a ∷ b ∷ []) new words first second third n k room fits is = absurd (omega arith)
three_then (a ∷ b ∷ c ∷ old) new words first second third n k room fits is =
    let e : 3 + n ≡ suc (suc (suc n)) = omega arith in
    let cut = take-append-le n new (post_of 3 k (first ∷ second ∷ third ∷ old)) fits in
    rw e (ap (λ (l : List ℕ). first ∷ second ∷ third ∷ l) (cut ∙ is))

-- the type and the number of bytes in a payload's first word
pub type_of_words : (ws : List ℕ) → 0 < length ws → type_in (bytes_in ws) ≡ get_or ws 0 0 % 2 ^ 32
unfolding number_of low_bytes
type_of_words [] some = absurd (omega arith)
type_of_words (v ∷ ws) some =
    let e2 : v / 256 / 256 ≡ v / 65536 = shr-shr v 8 8 in
    let e3 : v / 65536 / 256 ≡ v / 16777216 = shr-shr v 16 8 in
    rw (e2, e3) (omega arith)

pub size_of_words : (ws : List ℕ) → 0 < length ws → get_or ws 0 0 < 2 ^ 64 → size_in (bytes_in ws) ≡ get_or ws 0 0 / 2 ^ 32
unfolding number_of low_bytes
size_of_words [] some word = absurd (omega arith)
size_of_words (v ∷ ws) some word =
    let e2 : v / 256 / 256 ≡ v / 65536 = shr-shr v 8 8 in
    let e3 : v / 65536 / 256 ≡ v / 16777216 = shr-shr v 16 8 in
    let e4 : v / 16777216 / 256 ≡ v / 4294967296 = shr-shr v 24 8 in
    let e5 : v / 4294967296 / 256 ≡ v / 1099511627776 = shr-shr v 32 8 in
    let e6 : v / 1099511627776 / 256 ≡ v / 281474976710656 = shr-shr v 40 8 in
    let e7 : v / 281474976710656 / 256 ≡ v / 72057594037927936 = shr-shr v 48 8 in
    rw (e2, e3, e4, e5, e6, e7) (omega arith)

-- the data are the bytes of the other words
pub data_of_words : (ws : List ℕ) → 0 < length ws → data_in (bytes_in ws) ≡ take (size_in (bytes_in ws)) (bytes_in (drop 1 ws))
unfolding low_bytes
data_of_words [] some = absurd (omega arith)
data_of_words (v ∷ ws) some = refl

pub past_short : (c : List ℕ) → 8 ≤ length c → content_fault c ≡ header_fault (type_in c) (size_in c) (length c)
past_short c long = ap (λ (b : Bool). cond b (Some (Short (length c))) (header_fault (type_in c) (size_in c) (length c))) (le-ltb (length c) 8 long)

pub words_fault : (ws : List ℕ) → 0 < length ws → get_or ws 0 0 < 2 ^ 64 → content_fault (bytes_in ws) ≡ header_fault (get_or ws 0 0 % 2 ^ 32) (get_or ws 0 0 / 2 ^ 32) (8 * length ws)
words_fault ws some word =
    past_short (bytes_in ws) (omega (arith, length-bytes_in ws))
    ∙ (λ i. header_fault (type_of_words ws some i) (size_of_words ws some word i) (length-bytes_in ws i))

pub another_kind : (k s h : ℕ) → (k ≡ 1 → ⊥) → header_fault k s h ≡ Some (Kind k)
another_kind k s h not = ap (λ (b : Bool). cond b (cond (is_size s h) None (Some (Size s h))) (Some (Kind k))) (ne_eqb k 1 not)

pub sized : (k s h : ℕ) (b : Bool) → k ≡ 1 → is_size s h ≡ b → header_fault k s h ≡ cond b None (Some (Size s h))
sized k s h b one is =
    ap (λ (x : Bool). cond x (cond (is_size s h) None (Some (Size s h))) (Some (Kind k))) (eq-eqb k 1 one)
    ∙ ap (λ (x : Bool). cond x None (Some (Size s h))) is

-- a fault is none of a read's own
abbrev pub Own : Option SockFault → Type 0
Own None = Unit {0}
Own (Some f) = (closes (Err f) ≡ false) × (breaks_off (Err f) ≡ Some f)

own : (c : List ℕ) → Own (content_fault c)
own c = search rules

answer_by : (o : Option SockFault) (c : List ℕ) → Own o → (closes (answer_of (said_by o c)) ≡ closed_by (said_by o c) false) × (breaks_off (answer_of (said_by o c)) ≡ fault_by (said_by o c) None)
answer_by (Some f) c h = h
answer_by None c h = search rules

-- what the answer to a packet says of the stream that it ends
pub answer_says : (p : List ℕ) → (closes (answer_of (says p)) ≡ closed_by (says p) false) × (breaks_off (answer_of (says p)) ≡ fault_by (says p) None)
answer_says p = answer_by (content_fault (bytes_in (payload_of p))) (bytes_in (payload_of p)) (own (bytes_in (payload_of p)))

pub bytes_said : (s : Said) (out : List ℕ) → bytes_read (answer_of s) (left_in s out) ≡ data_then s []
bytes_said (Data bytes) out = take_at bytes (drop (length bytes) out) (length bytes) refl ∙ sym (append-nil bytes)
bytes_said Close out = refl
bytes_said (Fault f) out = refl

abbrev SaidOwn : Said → Type 0
SaidOwn (Data bytes) = Unit {0}
SaidOwn Close = Unit {0}
SaidOwn (Fault f) = Own (Some f)

said_own : (o : Option SockFault) (c : List ℕ) → Own o → SaidOwn (said_by o c)
said_own (Some f) c h = h
said_own None c h = search rules

broken_by : (s : Said) (x : Bool) (o : Option SockFault) (f : SockFault) → SaidOwn s → (o ≡ Some f → (x ≡ false) × Own (Some f)) → fault_by s o ≡ Some f → (closed_by s x ≡ false) × Own (Some f)
broken_by (Data bytes) x o f own rest is = rest is
broken_by Close x o f own rest is = absurd (cc)
broken_by (Fault e) x o f own rest is = (refl, subst Own is own)

-- a stream that is broken off isn't closed, and its fault is none of a read's own
pub broken : (ps : List (List ℕ)) (f : SockFault) → fault_in ps ≡ Some f → (is_closed ps ≡ false) × Own (Some f)
broken [] f is = absurd (cc)
broken (p ∷ ps) f is =
    let c = bytes_in (payload_of p) in
    broken_by (says p) (is_closed ps) (fault_in ps) f (said_own (content_fault c) c (own c)) (broken ps f) is

payload_bytes : (bytes : List ℕ) → ((i : ℕ) → get_or bytes i 0 < 256) → (i : ℕ) → get_or (sock_payload bytes) i 0 < 256
unfolding low_bytes
payload_bytes bytes h zero = omega arith
payload_bytes bytes h (suc zero) = omega arith
payload_bytes bytes h (suc (suc zero)) = omega arith
payload_bytes bytes h (suc (suc (suc zero))) = omega arith
payload_bytes bytes h (suc (suc (suc (suc zero)))) = omega arith
payload_bytes bytes h (suc (suc (suc (suc (suc zero))))) = omega arith
payload_bytes bytes h (suc (suc (suc (suc (suc (suc zero)))))) = omega arith
payload_bytes bytes h (suc (suc (suc (suc (suc (suc (suc zero))))))) = omega arith
payload_bytes bytes h (suc (suc (suc (suc (suc (suc (suc (suc i)))))))) = h i

pub carried : (bytes : List ℕ) → length bytes ≤ 2048 → ((i : ℕ) → get_or bytes i 0 < 256) → Carries (sock_packet bytes) 6 0 0 (sock_payload bytes)
carried bytes few h = plain_carries 6 0 0 (sock_payload bytes) (omega arith) (omega arith) (omega (arith, payload_length bytes)) (payload_bytes bytes h)

pub sock_is_packet : (bytes : List ℕ) → length bytes ≤ 2048 → ((i : ℕ) → get_or bytes i 0 < 256) → IsPacket (sock_packet bytes)
sock_is_packet bytes few h =
    let d = (carried bytes few h).is_packet in
    record { two = omega (arith, d.two_words); length_is = d.length_is; offset = (d.past_descriptor, d.within) }

pub sock_length : (bytes : List ℕ) → length bytes ≤ 2048 → length (sock_packet bytes) ≡ 3 + words_for (length bytes)
sock_length bytes few = ap length (sock_words bytes few) ∙ omega (arith, length-words_from (words_for (length bytes)) bytes)

padded_type : (bytes : List ℕ) → type_in (padded (sock_payload bytes)) ≡ 1
unfolding number_of low_bytes
padded_type bytes = omega arith

padded_size : (bytes : List ℕ) → length bytes ≤ 2048 → size_in (padded (sock_payload bytes)) ≡ length bytes
unfolding number_of low_bytes
padded_size bytes few = omega arith

padded_rest : (bytes : List ℕ) (k : ℕ) → drop 8 (sock_payload bytes ++ replicate k 0) ≡ bytes ++ replicate k 0
unfolding low_bytes
padded_rest bytes k = refl

padded_length : (bytes : List ℕ) → length (padded (sock_payload bytes)) ≡ 8 * words_for (8 + length bytes)
padded_length bytes =
    let long = payload_length bytes in
    let k : 8 * words_for (length (sock_payload bytes)) ≡ 8 * words_for (8 + length bytes) = ap (λ (n : ℕ). 8 * words_for n) long in
    omega (arith, long, k, length-append (sock_payload bytes) (replicate (8 * words_for (length (sock_payload bytes)) - length (sock_payload bytes)) 0), length-replicate {A = ℕ} (8 * words_for (length (sock_payload bytes)) - length (sock_payload bytes)) 0)

padded_data : (bytes : List ℕ) → length bytes ≤ 2048 → data_in (padded (sock_payload bytes)) ≡ bytes
padded_data bytes few =
    let k = 8 * words_for (length (sock_payload bytes)) - length (sock_payload bytes) in
    (λ i. take (padded_size bytes few i) (padded_rest bytes k i)) ∙ take_at bytes (replicate k 0) (length bytes) refl

padded_fault : (bytes : List ℕ) → length bytes ≤ 2048 → content_fault (padded (sock_payload bytes)) ≡ None
padded_fault bytes few =
    let n = length bytes in
    let h = 8 * words_for (8 + n) in
    past_short (padded (sock_payload bytes)) (omega (arith, padded_length bytes))
    ∙ ((λ i. header_fault (padded_type bytes i) (padded_size bytes few i) (padded_length bytes i))
    ∙ sized 1 n h true refl (and_from (leb n 2048) (h == 8 * words_for (8 + n)) (le-leb n 2048 few) (eq-eqb h h refl)))

-- what the packet of these bytes says
said_sock : (bytes : List ℕ) → length bytes ≤ 2048 → ((i : ℕ) → get_or bytes i 0 < 256) → says (sock_packet bytes) ≡ cond (length bytes == 0) Close (Data bytes)
said_sock bytes few h =
    let c = padded (sock_payload bytes) in
    ap (λ (x : List ℕ). said_by (content_fault x) x) (carried bytes few h).bytes_are
    ∙ (ap (λ (o : Option SockFault). said_by o c) (padded_fault bytes few)
    ∙ (λ i. cond (padded_size bytes few i == 0) Close (Data (padded_data bytes few i))))

pub says_data : (bytes : List ℕ) → 1 ≤ length bytes → length bytes ≤ 2048 → ((i : ℕ) → get_or bytes i 0 < 256) → says (sock_packet bytes) ≡ Data bytes
says_data bytes some few h = said_sock bytes few h ∙ ap (λ (b : Bool). cond b Close (Data bytes)) (ne_eqb (length bytes) 0 (λ e. absurd (omega (arith, e))))

pub says_end : says (sock_packet []) ≡ Close
says_end = said_sock [] (omega arith) (λ i. omega arith)

-- the words of the end packet
pub end_words : 12885032966 ∷ 0 ∷ 1 ∷ [] ≡ sock_packet []
unfolding words_from
end_words = sym (sock_words [] (omega arith))

none_short : (b : Bool) (x : SockFault) (y : Option SockFault) → cond b (Some x) y ≡ None → (b ≡ false) × (y ≡ None)
none_short true x y is = absurd (cc)
none_short false x y is = (refl, is)

none_kind : (b : Bool) (x : Option SockFault) (y : SockFault) → cond b x (Some y) ≡ None → (b ≡ true) × (x ≡ None)
none_kind true x y is = (refl, is)
none_kind false x y is = absurd (cc)

none_size : (b : Bool) (x : SockFault) → cond b None (Some x) ≡ None → b ≡ true
none_size true x is = refl
none_size false x is = absurd (cc)

-- a payload of a socket
pub allowed : (c : List ℕ) → content_fault c ≡ None → (8 ≤ length c) × (size_in c ≤ 2048) × (length c ≡ 8 * words_for (8 + size_in c))
allowed c none =
    let a = none_short (ltb (length c) 8) (Short (length c)) (header_fault (type_in c) (size_in c) (length c)) none in
    let b = none_kind (type_in c == 1) (cond (is_size (size_in c) (length c)) None (Some (Size (size_in c) (length c)))) (Kind (type_in c)) a.1 in
    let s = none_size (is_size (size_in c) (length c)) (Size (size_in c) (length c)) b.1 in
    let p = and_parts (leb (size_in c) 2048) (length c == 8 * words_for (8 + size_in c)) s in
    (ltb-false (length c) 8 a.0, leb-true (size_in c) 2048 p.0, eqb-true (length c) (8 * words_for (8 + size_in c)) p.1)

-- a packet with data, and what a read of it leaves of a buffer
pub read_out : (p ws out new : List ℕ) (size : ℕ) → ws ≡ payload_of p → content_fault (bytes_in ws) ≡ None → size ≡ size_in (bytes_in ws) → (size ≡ 0 → ⊥) → new ≡ take size (bytes_in (drop 1 ws)) → new ++ drop size out ≡ left_in (says p) out
read_out p ws out new size is none size_is some new_is =
    let c = bytes_in ws in
    let a = allowed c none in
    let more : 0 < length ws = omega (arith, a.0, length-bytes_in ws) in
    let same : new ≡ data_in c = new_is ∙ (ap (λ (k : ℕ). take k (bytes_in (drop 1 ws))) size_is ∙ sym (data_of_words ws more)) in
    let long : length (data_in c) ≡ size = ap length (sym same ∙ new_is) ∙ length-take-le size (bytes_in (drop 1 ws)) (omega (arith, a.2, size_is, length-bytes_in ws, length-bytes_in (drop 1 ws), length-drop 1 ws)) in
    let said : says p ≡ Data (data_in c) = ap (λ (x : List ℕ). said_by (content_fault (bytes_in x)) (bytes_in x)) (sym is)
    ∙ (ap (λ (o : Option SockFault). said_by o c) none ∙ ap (λ (b : Bool). cond b Close (Data (data_in c))) (ne_eqb (size_in c) 0 (λ e. some (size_is ∙ e)))) in
    (λ i. same i ++ drop (sym long i) out) ∙ ap (λ (s : Said). left_in s out) (sym said)

closed_whole_by : (s : Said) (x : Bool) (o : Option SockFault) → (x ≡ true → o ≡ None) → closed_by s x ≡ true → fault_by s o ≡ None
closed_whole_by (Data bytes) x o h closed = h closed
closed_whole_by Close x o h closed = refl
closed_whole_by (Fault f) x o h closed = absurd (cc)

-- a closed stream isn't broken off
pub closed_whole : (ps : List (List ℕ)) → is_closed ps ≡ true → fault_in ps ≡ None
closed_whole [] closed = refl
closed_whole (p ∷ ps) closed = closed_whole_by (says p) (is_closed ps) (fault_in ps) (closed_whole ps) closed

-- two lists with the same front differ in their last packets alone
pub last_is : (ps : List (List ℕ)) (p q : List ℕ) → ps ++ p ∷ [] ≡ ps ++ q ∷ [] → p ≡ q
last_is [] p q is = cc
last_is (r ∷ ps) p q is = last_is ps p q (cc)
