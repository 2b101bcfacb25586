-- The packets of a utility channel are packets, and carry the messages that they are made of.
use Rattle.std.proofs.Common.{◌≡◌, ℕ, zero, suc, ◌/◌, ◌<◌, ◌≤◌, List, [], ◌∷◌, ◌++◌, length, get_or, take, refl, sym, arith}
use Rattle.std.specs.List.{AllByRecursion}
use Rattle.contact.specs.declared.kind.DeviceKind.{DeviceKind}
use Rattle.wire_table.specs.Little.{bytes_of}
use Rattle.wire_table.specs.Rows.{Row, num, raw, Kind as RowKind, nums, raws, AllHave, spelled_after, total}
use Rattle.wire_table.proofs.RowLaws.{length-spelled_after, take_bytes}
use Rattle.pkt_desc.specs.Packets.{inband_packet, Carries}
use Rattle.pkt_desc.proofs.PacketLaws.{plain_carries}
use Rattle.util_ic.specs.declared.ic.IcAsk.{IcAsk}
use Rattle.util_ic.specs.declared.ic.IcAsk.TheVariants.{Beat, Down}
use Rattle.util_ic.specs.Messages.{ask_bytes, negotiate_bytes, request_rows, offer_content}
use Rattle.util_ic.specs.Answers.{utility_answer}
use Rattle.util_ic.specs.Packets.{ask_packet, negotiate_packet, served_packet}
use Rattle.util_ic.proofs.AskLaws.{FitsAsk, beat_kinds, beat_rows, beat_has, down_kinds, down_rows, down_has}

abbrev pub BytesOnly : List ℕ → Type 0
BytesOnly xs = AllByRecursion (λ b. b < 256) xs

of_number : (n v : ℕ) → BytesOnly (bytes_of n v)
unfolding bytes_of
of_number zero v = tt
of_number (suc n) v = (omega arith, of_number n (v / 256))

pub of_both : (xs ys : List ℕ) → BytesOnly xs → BytesOnly ys → BytesOnly (xs ++ ys)
of_both [] ys h k = k
of_both (x ∷ xs) ys h k = (h.0, of_both xs ys h.1 k)

-- the bytes that rows spell
pub of_rows : (ks : List RowKind) (rs : List Row) (front : List ℕ) → AllHave ks rs → BytesOnly front → BytesOnly (spelled_after front rs)
of_rows [] [] front h k = k
of_rows [] (r ∷ rs) front h k = absurd h
of_rows (l ∷ ks) [] front h k = absurd h
of_rows (nums w ∷ ks) (num x v ∷ rs) front h k = of_rows ks rs (front ++ bytes_of x v) h.1 (of_both front (bytes_of x v) k (of_number x v))
of_rows (nums w ∷ ks) (raw bs ∷ rs) front h k = absurd h.0
of_rows (raws n ∷ ks) (num x v ∷ rs) front h k = absurd h.0
of_rows (raws n ∷ ks) (raw bs ∷ rs) front h k = of_rows ks rs (front ++ bs) h.1 (of_both front bs k h.0.1)

by_index : (xs : List ℕ) → BytesOnly xs → (i : ℕ) → get_or xs i 0 < 256
by_index [] h i = omega arith
by_index (x ∷ xs) h zero = h.0
by_index (x ∷ xs) h (suc i) = by_index xs h.1 i

rows_carry : (id : ℕ) (ks : List RowKind) (rs : List Row) → AllHave ks rs → total ks ≤ 3056 → Carries (inband_packet id 0 (spelled_after [] rs)) 6 id 0 (spelled_after [] rs)
rows_carry id ks rs h few =
    let size : length (spelled_after [] rs) ≡ total ks = length-spelled_after ks rs h in
    plain_carries 6 id 0 (spelled_after [] rs) (omega arith) (omega arith) (omega (arith, size)) (by_index (spelled_after [] rs) (of_rows ks rs [] h tt))

-- a request
pub ask_carries : (id : ℕ) (ask : IcAsk) → FitsAsk ask → Carries (ask_packet id ask) 6 id 0 (ask_bytes ask)
ask_carries id (Beat seq) fits = rows_carry id beat_kinds (beat_rows seq) (beat_has seq fits) (omega arith)
ask_carries id (Down reason timeout flags) fits = rows_carry id down_kinds (down_rows reason timeout flags) (down_has reason timeout flags fits.0 fits.1 fits.2) (omega arith)

abbrev offer_kinds : List RowKind
offer_kinds = nums 4 ∷ nums 4 ∷ nums 2 ∷ nums 2 ∷ nums 2 ∷ nums 2 ∷ nums 2 ∷ nums 2 ∷ nums 4 ∷ nums 1 ∷ nums 1 ∷ nums 2 ∷ nums 2 ∷ nums 2 ∷ nums 4 ∷ nums 2 ∷ nums 2 ∷ nums 2 ∷ nums 2 ∷ nums 2 ∷ nums 2 ∷ nums 2 ∷ nums 2 ∷ []

abbrev offer_rows : List Row
offer_rows = request_rows 0 0 24 offer_content

offers_have : AllHave offer_kinds offer_rows
offers_have = ((refl, omega arith), ((refl, omega arith), ((refl, omega arith), ((refl, omega arith), ((refl, omega arith), ((refl, omega arith), ((refl, omega arith), ((refl, omega arith), ((refl, omega arith), ((refl, omega arith), ((refl, omega arith), ((refl, omega arith), ((refl, omega arith), ((refl, omega arith), ((refl, omega arith), ((refl, omega arith), ((refl, omega arith), ((refl, omega arith), ((refl, omega arith), ((refl, omega arith), ((refl, omega arith), ((refl, omega arith), ((refl, omega arith), tt)))))))))))))))))))))))

-- the negotiate message
pub negotiate_carries : (id : ℕ) → Carries (negotiate_packet id) 6 id 0 negotiate_bytes
negotiate_carries id = rows_carry id offer_kinds offer_rows offers_have (omega arith)

-- an answer
pub served_carries : (id : ℕ) (kind : DeviceKind) (request reply : List ℕ) (n : ℕ) → take n reply ≡ utility_answer kind request → ((i : ℕ) → get_or reply i 0 < 256) → length (utility_answer kind request) ≤ 3056
    → Carries (served_packet id kind request) 6 id 0 (utility_answer kind request)
served_carries id kind request reply n is bytes few =
    let only : (i : ℕ) → get_or (utility_answer kind request) i 0 < 256 = λ i. rw (sym is) (take_bytes n reply bytes i) in
    plain_carries 6 id 0 (utility_answer kind request) (omega arith) (omega arith) (omega arith) only
