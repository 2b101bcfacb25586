-- Answers carry the machines' replies, and are read as such.
use Rattle.std.proofs.Common.{◌≡◌, ℕ, ◌+◌, ◌%◌, ◌^◌, ◌<◌, ◌≤◌, ◌==◌, Bool, true, false, cond, ◌&&◌, nat_lt, nat_le, List, ◌++◌, length, Option, Some, None, length-append, ◌||◌, ⊎_elim, inl, inr, refl, subst, ◌∙◌, arith}
use Rattle.std.specs.Prelude.{◌⊎◌}
use Rattle.std.proofs.lemmas.Bool.Decides.{nat_tests}
use Rattle.contact.specs.declared.kind.DeviceKind.{DeviceKind}
use Rattle.contact.specs.declared.kind.DeviceKind.TheVariants.{Down as KindDown}
use Rattle.util_ic.specs.declared.ic.IcAsk.{IcAsk}
use Rattle.util_ic.specs.declared.ic.IcAsk.TheVariants.{Beat, Down}
use Rattle.util_ic.specs.declared.version.Version.{Version}
use Rattle.util_ic.specs.declared.row.AnswerRow.{AnswerRow}
use Rattle.util_ic.specs.declared.row.AnswerRow.TheVariants.{Short, Cut, Agreed, Unknown, Heartbeat, Shutdown, Other}
use Rattle.util_ic.specs.Messages.{on_beat, on_down, number_at, put, type_of, seq_of, reason_of, timeout_of, down_flags_of, with_result, with_seq_risen}
use Rattle.util_ic.specs.Versions.{greatest_known}
use Rattle.util_ic.specs.Answers.{row_of, negotiation_of, agreed_row, frames_in, messages_in, versions_end, answer_by, HasRoom}
use Rattle.util_ic.specs.Machines.{fail, down_status}
use Rattle.util_ic.specs.Asks.{asked_by, ask_of, whole_or_zero, Answered}
use Rattle.util_ic.proofs.ByteLaws.{length-put, put_same, put_apart, number_in_front}

length-result : (s : ℕ) (b : List ℕ) → 28 ≤ length b → length (with_result s b) ≡ length b
length-result s b long = let inner = length-put 20 4 s b (omega arith) in length-put 25 1 5 (put 20 4 s b) (omega (arith, inner)) ∙ inner

status_of_result : (s : ℕ) (b : List ℕ) → 28 ≤ length b → s < 2 ^ 32 → number_at 20 4 (with_result s b) ≡ s
status_of_result s b long fits =
    let inner = length-put 20 4 s b (omega arith) in
    put_apart 25 1 5 20 4 (put 20 4 s b) (omega (arith, inner)) (inl (omega arith)) ∙ put_same 20 4 s b (omega arith) (omega arith)

seq_of_result : (s : ℕ) (b : List ℕ) → 28 ≤ length b → number_at 28 8 (with_result s b) ≡ number_at 28 8 b
seq_of_result s b long =
    let inner = length-put 20 4 s b (omega arith) in
    put_apart 25 1 5 28 8 (put 20 4 s b) (omega (arith, inner)) (inr (omega arith)) ∙ put_apart 20 4 s 28 8 b (omega arith) (inr (omega arith))

whole_in_front : (at w : ℕ) (b more : List ℕ) → at + w ≤ length b → whole_or_zero at w (b ++ more) ≡ number_at at w b
whole_in_front at w b more le =
    let long = length-append b more in
    let whole : nat_le (at + w) (length (b ++ more)) ≡ true = grind (arith, nat_tests, long) in
    rw whole (number_in_front at w b more le)

-- which rows ask nothing
heartbeat_if : (short negotiates beats downs : Bool) (n : AnswerRow) → cond short Short (cond negotiates n (cond beats Heartbeat (cond downs Shutdown Other))) ≡ Heartbeat → (n ≡ Heartbeat) ⊎ (beats ≡ true)
heartbeat_if true negotiates beats downs n h = cc
heartbeat_if false true beats downs n h = inl h
heartbeat_if false false true downs n h = inr refl
heartbeat_if false false false true n h = cc
heartbeat_if false false false false n h = cc

shutdown_if : (short negotiates beats downs : Bool) (n : AnswerRow) → cond short Short (cond negotiates n (cond beats Heartbeat (cond downs Shutdown Other))) ≡ Shutdown → (n ≡ Shutdown) ⊎ (downs ≡ true)
shutdown_if true negotiates beats downs n h = cc
shutdown_if false true beats downs n h = inl h
shutdown_if false false true downs n h = cc
shutdown_if false false false true n h = inr refl
shutdown_if false false false false n h = cc

not_heartbeat : (cut : Bool) (f m : Option Version) → cond cut Cut (agreed_row f m) ≡ Heartbeat → ⊥
not_heartbeat true f m h = cc
not_heartbeat false (Some f) (Some m) h = cc
not_heartbeat false (Some f) None h = cc
not_heartbeat false None m h = cc

not_shutdown : (cut : Bool) (f m : Option Version) → cond cut Cut (agreed_row f m) ≡ Shutdown → ⊥
not_shutdown true f m h = cc
not_shutdown false (Some f) (Some m) h = cc
not_shutdown false (Some f) None h = cc
not_shutdown false None m h = cc

all_three : (a b d : Bool) → (a && b && d) ≡ true → (a ≡ true) × (b ≡ true)
all_three true true d h = (refl, refl)
all_three true false d h = cc
all_three false b d h = cc

beats_in : (kind : DeviceKind) (b : List ℕ) → row_of kind b ≡ Heartbeat → ((type_of b == 1) ≡ true) × (on_beat kind ≡ true)
beats_in kind b is =
    ⊎_elim (λ n. absurd (not_heartbeat (nat_lt (length b) 36 || nat_lt (length b) (versions_end b)) (greatest_known (frames_in b)) (greatest_known (messages_in b)) n))
    (λ t. all_three (type_of b == 1) (on_beat kind) (nat_le 36 (length b)) t)
    (heartbeat_if (nat_lt (length b) 28) (type_of b == 0) ((type_of b == 1) && on_beat kind && nat_le 36 (length b)) ((type_of b == 3) && on_down kind && nat_le 40 (length b)) (negotiation_of b) is)

downs_in : (kind : DeviceKind) (b : List ℕ) → row_of kind b ≡ Shutdown → ((type_of b == 3) ≡ true) × (on_down kind ≡ true)
downs_in kind b is =
    ⊎_elim (λ n. absurd (not_shutdown (nat_lt (length b) 36 || nat_lt (length b) (versions_end b)) (greatest_known (frames_in b)) (greatest_known (messages_in b)) n))
    (λ t. all_three (type_of b == 3) (on_down kind) (nat_le 40 (length b)) t)
    (shutdown_if (nat_lt (length b) 28) (type_of b == 0) ((type_of b == 1) && on_beat kind && nat_le 36 (length b)) ((type_of b == 3) && on_down kind && nat_le 40 (length b)) (negotiation_of b) is)

down_only : (kind : DeviceKind) → on_down kind ≡ true → on_beat kind ≡ false
down_only KindDown h = refl
down_only _ h = cc

status_fits : (small : Bool) → cond small 0 fail < 2 ^ 32
status_fits true = omega arith
status_fits false = omega arith

heartbeat_answered : (kind : DeviceKind) (b : List ℕ) → row_of kind b ≡ Heartbeat → 36 ≤ length b → Answered kind (Beat (seq_of b)) b (with_result 0 (with_seq_risen b))
heartbeat_answered kind b is long =
    let tests = beats_in kind b is in
    let risen = (seq_of b + 1) % 2 ^ 64 in
    let size : length (with_seq_risen b) ≡ length b = length-put 28 8 risen b (omega arith) in
    let answer = with_result 0 (with_seq_risen b) in
    let whole : length answer ≡ length b = length-result 0 (with_seq_risen b) (omega (arith, size)) ∙ size in
    record {
      carries = rw (tests.1, tests.0) refl;
      says = λ more.
          let status : whole_or_zero 20 4 (answer ++ more) ≡ 0 = whole_in_front 20 4 answer more (omega (arith, whole)) ∙ status_of_result 0 (with_seq_risen b) (omega (arith, size)) (omega arith) in
          let seq : whole_or_zero 28 8 (answer ++ more) ≡ risen = whole_in_front 28 8 answer more (omega (arith, whole)) ∙ (seq_of_result 0 (with_seq_risen b) (omega (arith, size)) ∙ put_same 28 8 risen b (omega arith) (omega arith)) in
          rw (tests.1, status, seq) refl;
    }

shutdown_answered : (kind : DeviceKind) (b : List ℕ) → row_of kind b ≡ Shutdown → 40 ≤ length b → Answered kind (Down (reason_of b) (timeout_of b) (down_flags_of b)) b (with_result (down_status (down_flags_of b)) b)
shutdown_answered kind b is long =
    let tests = downs_in kind b is in
    let beats : on_beat kind ≡ false = down_only kind tests.1 in
    let s = down_status (down_flags_of b) in
    let type : (type_of b == 1) ≡ false = grind (arith, nat_tests, tests.0) in
    let answer = with_result s b in
    let whole : length answer ≡ length b = length-result s b (omega arith) in
    record {
      carries = rw (beats, type) refl;
      says = λ more.
          let status : whole_or_zero 20 4 (answer ++ more) ≡ s = whole_in_front 20 4 answer more (omega (arith, whole)) ∙ status_of_result s b (omega arith) (status_fits (nat_lt (down_flags_of b) 4)) in
          rw (beats, status) refl;
    }

-- the answer to what was asked carries the machine's reply
pub answered : (r : AnswerRow) (kind : DeviceKind) (b : List ℕ) (ask : IcAsk) → row_of kind b ≡ r → HasRoom r (length b) → asked_by r b ≡ Some ask → Answered kind ask b (answer_by r b)
answered Short kind b ask is room asked = cc
answered Cut kind b ask is room asked = cc
answered (Agreed f m) kind b ask is room asked = cc
answered Unknown kind b ask is room asked = cc
answered Heartbeat kind b ask is room asked =
    let same : Beat (seq_of b) ≡ ask = cc in
    subst (λ a. Answered kind a b (answer_by Heartbeat b)) same (heartbeat_answered kind b is room)
answered Shutdown kind b ask is room asked =
    let same : Down (reason_of b) (timeout_of b) (down_flags_of b) ≡ ask = cc in
    subst (λ a. Answered kind a b (answer_by Shutdown b)) same (shutdown_answered kind b is room)
answered Other kind b ask is room asked = cc

-- what is shorter than a message asks nothing
pub short_asks_nothing : (kind : DeviceKind) (b : List ℕ) (ask : IcAsk) → length b < 28 → ask_of kind b ≡ Some ask → ⊥
short_asks_nothing kind b ask few asked =
    let short : nat_lt (length b) 28 ≡ true = grind (arith, nat_tests) in
    let none : None ≡ Some ask = rw short at asked in
    cc
