-- Requests are read back from their bytes.
use Rattle.std.proofs.Common.{◌≡◌, ℕ, ◌^◌, ◌<◌, ◌≤◌, true, false, nat_lt, nat_le, List, [], ◌∷◌, ◌++◌, length, Some, refl, ap, ◌∙◌, arith}
use Rattle.std.proofs.lemmas.Bool.Decides.{nat_tests}
use Rattle.wire_table.specs.Rows.{Row, Kind, nums, raws, AllHave, nth_number}
use Rattle.wire_table.proofs.RowLaws.{front_again}
use Rattle.contact.specs.declared.kind.DeviceKind.TheVariants.{Beat as KindBeat, Down as KindDown}
use Rattle.util_ic.specs.declared.ic.IcAsk.{IcAsk}
use Rattle.util_ic.specs.declared.ic.IcAsk.TheVariants.{Beat, Down}
use Rattle.util_ic.specs.declared.row.AnswerRow.TheVariants.{Heartbeat, Shutdown}
use Rattle.util_ic.specs.Messages.{request_rows, beat_content, down_content, beat_bytes, down_bytes, ask_bytes, type_of, seq_of, reason_of, timeout_of, down_flags_of}
use Rattle.util_ic.specs.Answers.{row_of}
use Rattle.util_ic.specs.Asks.{ask_of, asked_by, kind_for}
use Rattle.util_ic.proofs.ByteLaws.{length-zeros, zeros_all}

-- each number of a request fits
abbrev pub FitsAsk : IcAsk → Type 0
FitsAsk (Beat seq) = seq < 2 ^ 64
FitsAsk (Down reason timeout flags) = (reason < 2 ^ 32) × (timeout < 2 ^ 32) × (flags < 2 ^ 32)

-- the kinds of a request's rows
abbrev pub header_kinds : List Kind → List Kind
header_kinds content = nums 4 ∷ nums 4 ∷ nums 2 ∷ nums 2 ∷ nums 2 ∷ nums 2 ∷ nums 2 ∷ nums 2 ∷ nums 4 ∷ nums 1 ∷ nums 1 ∷ nums 2 ∷ content

abbrev pub beat_kinds : List Kind
beat_kinds = header_kinds (nums 8 ∷ raws 32 ∷ [])

abbrev pub down_kinds : List Kind
down_kinds = header_kinds (nums 4 ∷ nums 4 ∷ nums 4 ∷ raws 2048 ∷ [])

abbrev pub beat_rows : ℕ → List Row
beat_rows seq = request_rows 3 1 40 (beat_content seq)

abbrev pub down_rows : ℕ → ℕ → ℕ → List Row
down_rows reason timeout flags = request_rows 3 3 2060 (down_content reason timeout flags)

pub heads : (type size : ℕ) (kinds : List Kind) (rows : List Row) → type < 65536 → size < 65536 → AllHave kinds rows → AllHave (header_kinds kinds) (request_rows 3 type size rows)
heads type size kinds rows t s h =
    ((refl, omega arith), ((refl, omega arith), ((refl, omega arith), ((refl, omega arith), ((refl, omega arith), ((refl, omega arith), ((refl, omega arith), ((refl, omega arith), ((refl, omega arith), ((refl, omega arith), ((refl, omega arith), ((refl, omega arith), h))))))))))))

pub beat_has : (seq : ℕ) → seq < 2 ^ 64 → AllHave beat_kinds (beat_rows seq)
beat_has seq fits = heads 1 40 (nums 8 ∷ raws 32 ∷ []) (beat_content seq) (omega arith) (omega arith) ((refl, fits), ((length-zeros 32, zeros_all 32), tt))

pub down_has : (reason timeout flags : ℕ) → reason < 2 ^ 32 → timeout < 2 ^ 32 → flags < 2 ^ 32 → AllHave down_kinds (down_rows reason timeout flags)
down_has reason timeout flags r t f =
    heads 3 2060 (nums 4 ∷ nums 4 ∷ nums 4 ∷ raws 2048 ∷ []) (down_content reason timeout flags) (omega arith) (omega arith)
    ((refl, r), ((refl, t), ((refl, f), ((length-zeros 2048, zeros_all 2048), tt))))

-- a heartbeat of 36 bytes or more on a heartbeat channel
heartbeat_row : (b : List ℕ) → type_of b ≡ 1 → 36 ≤ length b → row_of KindBeat b ≡ Heartbeat
heartbeat_row b type long =
    let long_head : nat_lt (length b) 28 ≡ false = grind (arith, nat_tests) in
    let long_all : nat_le 36 (length b) ≡ true = grind (arith, nat_tests) in
    rw (long_head, type, long_all) refl

-- a shutdown of 40 bytes or more on a shutdown channel
shutdown_row : (b : List ℕ) → type_of b ≡ 3 → 40 ≤ length b → row_of KindDown b ≡ Shutdown
shutdown_row b type long =
    let long_head : nat_lt (length b) 28 ≡ false = grind (arith, nat_tests) in
    let long_all : nat_le 40 (length b) ≡ true = grind (arith, nat_tests) in
    rw (long_head, type, long_all) refl

beat_back : (seq : ℕ) (more : List ℕ) → seq < 2 ^ 64 → ask_of KindBeat (beat_bytes seq ++ more) ≡ Some (Beat seq)
beat_back seq more fits =
    let again = front_again beat_kinds (beat_rows seq) more (beat_has seq fits) in
    let b = beat_bytes seq ++ more in
    let type : type_of b ≡ 1 = ap (nth_number 4) again.0 in
    let same : seq_of b ≡ seq = ap (nth_number 12) again.0 in
    ap (λ r. asked_by r b) (heartbeat_row b type (omega (arith, again.2))) ∙ ap (λ n. Some (Beat n)) same

down_back : (reason timeout flags : ℕ) (more : List ℕ) → reason < 2 ^ 32 → timeout < 2 ^ 32 → flags < 2 ^ 32 → ask_of KindDown (down_bytes reason timeout flags ++ more) ≡ Some (Down reason timeout flags)
down_back reason timeout flags more r t f =
    let again = front_again down_kinds (down_rows reason timeout flags) more (down_has reason timeout flags r t f) in
    let b = down_bytes reason timeout flags ++ more in
    let type : type_of b ≡ 3 = ap (nth_number 4) again.0 in
    let same_reason : reason_of b ≡ reason = ap (nth_number 12) again.0 in
    let same_timeout : timeout_of b ≡ timeout = ap (nth_number 13) again.0 in
    let same_flags : down_flags_of b ≡ flags = ap (nth_number 14) again.0 in
    ap (λ w. asked_by w b) (shutdown_row b type (omega (arith, again.2))) ∙ rw (same_reason, same_timeout, same_flags) refl

-- what was asked is read, whatever follows
pub read_back : (ask : IcAsk) (more : List ℕ) → FitsAsk ask → ask_of (kind_for ask) (ask_bytes ask ++ more) ≡ Some ask
read_back (Beat seq) more fits = beat_back seq more fits
read_back (Down reason timeout flags) more fits = down_back reason timeout flags more fits.0 fits.1 fits.2
