-- The rows of the table of answers, by their tests.
use Rattle.std.proofs.Common.{◌≡◌, ℕ, ◌+◌, ◌*◌, ◌<◌, ◌≤◌, ◌==◌, true, false, ◌&&◌, nat_lt, nat_le, List, length, drop, Option, refl, sym, arith}
use Rattle.std.proofs.lemmas.Bool.Decides.{nat_tests}
use Rattle.contact.specs.declared.kind.DeviceKind.{DeviceKind}
use Rattle.util_ic.specs.declared.version.Version.{Version}
use Rattle.util_ic.specs.declared.row.AnswerRow.TheVariants.{Heartbeat, Shutdown, Other}
use Rattle.util_ic.specs.Messages.{on_beat, on_down, type_of, frame_count_of, message_count_of}
use Rattle.util_ic.specs.Versions.{versions_in, greatest_known}
use Rattle.util_ic.specs.Answers.{row_of, negotiation_of, agreed_row, utility_answer, short_answer}

pub negotiation_is : (b : List ℕ) (fs ms : ℕ) (f m : Option Version) → fs ≡ frame_count_of b → ms ≡ message_count_of b → 36 ≤ length b → 36 + 4 * (fs + ms) ≤ length b
    → f ≡ greatest_known (versions_in fs (drop 36 b)) → m ≡ greatest_known (versions_in ms (drop (4 * fs) (drop 36 b))) → agreed_row f m ≡ negotiation_of b
negotiation_is b fs ms f m frames messages long whole frame message =
    let head : nat_lt (length b) 36 ≡ false = grind (arith, nat_tests, long) in
    let all : nat_lt (length b) (36 + 4 * (fs + ms)) ≡ false = grind (arith, nat_tests, whole) in
    rw (sym frames, sym messages, head, all, frame, message) refl

pub type_zero : (kind : DeviceKind) (b : List ℕ) → 28 ≤ length b → type_of b ≡ 0 → negotiation_of b ≡ row_of kind b
type_zero kind b long type =
    let head : nat_lt (length b) 28 ≡ false = grind (arith, nat_tests, long) in
    rw (head, type) refl

pub on_heartbeat : (kind : DeviceKind) (b : List ℕ) (type : ℕ) → type ≡ type_of b → 28 ≤ length b → (type ≡ 0 → ⊥) → ((type == 1) && on_beat kind && nat_le 36 (length b)) ≡ true → Heartbeat ≡ row_of kind b
on_heartbeat kind b type is long some beats =
    let head : nat_lt (length b) 28 ≡ false = grind (arith, nat_tests, long) in
    let zero : (type == 0) ≡ false = grind (arith, nat_tests, some) in
    rw (sym is, head, zero, beats) refl

pub on_shutdown : (kind : DeviceKind) (b : List ℕ) (type : ℕ) → type ≡ type_of b → 28 ≤ length b → (type ≡ 0 → ⊥) → ((type == 1) && on_beat kind && nat_le 36 (length b)) ≡ false → ((type == 3) && on_down kind && nat_le 40 (length b)) ≡ true → Shutdown ≡ row_of kind b
on_shutdown kind b type is long some beats downs =
    let head : nat_lt (length b) 28 ≡ false = grind (arith, nat_tests, long) in
    let zero : (type == 0) ≡ false = grind (arith, nat_tests, some) in
    rw (sym is, head, zero, beats, downs) refl

pub on_other : (kind : DeviceKind) (b : List ℕ) (type : ℕ) → type ≡ type_of b → 28 ≤ length b → (type ≡ 0 → ⊥) → ((type == 1) && on_beat kind && nat_le 36 (length b)) ≡ false → ((type == 3) && on_down kind && nat_le 40 (length b)) ≡ false → Other ≡ row_of kind b
on_other kind b type is long some beats downs =
    let head : nat_lt (length b) 28 ≡ false = grind (arith, nat_tests, long) in
    let zero : (type == 0) ≡ false = grind (arith, nat_tests, some) in
    rw (sym is, head, zero, beats, downs) refl

pub short_served : (kind : DeviceKind) (b : List ℕ) → length b < 28 → utility_answer kind b ≡ short_answer
short_served kind b few =
    let short : nat_lt (length b) 28 ≡ true = grind (arith, nat_tests, few) in
    rw short refl
