-- The guest's answers, by the first row that applies.
use Rattle.std.specs.Prelude.{ℕ, ◌+◌, ◌*◌, ◌<◌, ◌≤◌, ◌==◌, ◌&&◌, ◌||◌, nat_lt, nat_le, List, length, drop, Option, Some, None, if◌then◌else◌}
use Rattle.contact.specs.declared.kind.DeviceKind.{DeviceKind}
use Rattle.util_ic.specs.declared.version.Version.{Version}
use Rattle.util_ic.specs.declared.row.AnswerRow.{AnswerRow}
use Rattle.util_ic.specs.declared.row.AnswerRow.TheVariants.{Short, Cut, Agreed, Unknown, Heartbeat, Shutdown, Other}
use Rattle.util_ic.specs.Messages.{on_beat, on_down, put, type_of, frame_count_of, message_count_of, down_flags_of, with_result, with_seq_risen, zeros}
use Rattle.util_ic.specs.Versions.{versions_in, greatest_known}
use Rattle.util_ic.specs.Machines.{fail, down_status}

-- the frame versions of a negotiate message, and the message versions after them
abbrev pub frames_in : List ℕ → List Version
frames_in b = versions_in (frame_count_of b) (drop 36 b)

abbrev pub messages_in : List ℕ → List Version
messages_in b = versions_in (message_count_of b) (drop (4 * frame_count_of b) (drop 36 b))

-- where the counted versions end
abbrev pub versions_end : List ℕ → ℕ
versions_end b = 36 + 4 * (frame_count_of b + message_count_of b)

abbrev pub agreed_row : Option Version → Option Version → AnswerRow
agreed_row (Some frame) (Some message) = Agreed frame message
agreed_row (Some frame) None = Unknown
agreed_row None message = Unknown

-- the row of a message of type 0
abbrev pub negotiation_of : List ℕ → AnswerRow
negotiation_of b =
    if nat_lt (length b) 36 || nat_lt (length b) (versions_end b) then Cut
    else agreed_row (greatest_known (frames_in b)) (greatest_known (messages_in b))

-- the first row that applies to a request
abbrev pub row_of : DeviceKind → List ℕ → AnswerRow
row_of kind b =
    if nat_lt (length b) 28 then Short
    else (if type_of b == 0 then negotiation_of b
    else (if (type_of b == 1) && on_beat kind && nat_le 36 (length b) then Heartbeat
    else (if (type_of b == 3) && on_down kind && nat_le 40 (length b) then Shutdown
    else Other)))

-- 28 bytes, all 0 but status and flags
abbrev pub short_answer : List ℕ
short_answer = with_result fail (zeros 28)

-- both counts
abbrev pub with_counts : ℕ → List ℕ → List ℕ
with_counts n b = put 30 2 n (put 28 2 n b)

-- a version at a place
abbrev pub with_version : ℕ → Version → List ℕ → List ℕ
with_version at v b = put (at + 2) 2 v.minor (put at 2 v.major b)

-- the first two versions
abbrev pub with_agreed : Version → Version → List ℕ → List ℕ
with_agreed frame message b = with_version 40 message (with_version 36 frame b)

-- the answer of a row
abbrev pub answer_by : AnswerRow → List ℕ → List ℕ
answer_by Short b = short_answer
answer_by Cut b = with_result fail b
answer_by (Agreed frame message) b = with_result 0 (with_agreed frame message (with_counts 1 b))
answer_by Unknown b = with_result 0 (with_counts 0 b)
answer_by Heartbeat b = with_result 0 (with_seq_risen b)
answer_by Shutdown b = with_result (down_status (down_flags_of b)) b
answer_by Other b = with_result fail b

-- the answer to a request
abbrev pub utility_answer : DeviceKind → List ℕ → List ℕ
utility_answer kind b = answer_by (row_of kind b) b

-- what the row that applies says of the number of bytes
abbrev pub HasRoom : AnswerRow → ℕ → Type 0
HasRoom Short n = n < 28
HasRoom Cut n = 28 ≤ n
HasRoom (Agreed frame message) n = 44 ≤ n
HasRoom Unknown n = 36 ≤ n
HasRoom Heartbeat n = 36 ≤ n
HasRoom Shutdown n = 40 ≤ n
HasRoom Other n = 28 ≤ n
