-- What requests ask, and what answers say.
use Rattle.std.specs.Prelude.{◌≡◌, ℕ, ◌+◌, nat_le, ◌==◌, List, ◌++◌, length, Option, Some, None, if◌then◌else◌}
use Rattle.contact.specs.declared.kind.DeviceKind.{DeviceKind}
use Rattle.contact.specs.declared.kind.DeviceKind.TheVariants.{Beat as KindBeat, Down as KindDown}
use Rattle.util_ic.specs.declared.ic.IcAsk.{IcAsk}
use Rattle.util_ic.specs.declared.ic.IcAsk.TheVariants.{Beat, Down}
use Rattle.util_ic.specs.declared.ic.IcAnswer.{IcAnswer}
use Rattle.util_ic.specs.declared.row.AnswerRow.{AnswerRow}
use Rattle.util_ic.specs.declared.row.AnswerRow.TheVariants.{Short, Cut, Agreed, Unknown, Heartbeat, Shutdown, Other}
use Rattle.util_ic.specs.Messages.{on_beat, number_at, type_of, seq_of, reason_of, timeout_of, down_flags_of, with_result, with_seq}
use Rattle.util_ic.specs.Answers.{row_of}
use Rattle.util_ic.specs.Machines.{beat_reply, down_reply}

-- what a request to which a row applies asks of the service
abbrev pub asked_by : AnswerRow → List ℕ → Option IcAsk
asked_by Short b = None
asked_by Cut b = None
asked_by (Agreed frame message) b = None
asked_by Unknown b = None
asked_by Heartbeat b = Some (Beat (seq_of b))
asked_by Shutdown b = Some (Down (reason_of b) (timeout_of b) (down_flags_of b))
asked_by Other b = None

-- what a request asks of the service
abbrev pub ask_of : DeviceKind → List ℕ → Option IcAsk
ask_of kind b = asked_by (row_of kind b) b

-- the kind of channel on which a request is asked
abbrev pub kind_for : IcAsk → DeviceKind
kind_for (Beat seq) = KindBeat
kind_for (Down reason timeout flags) = KindDown

-- the reply of a channel's machine
abbrev pub reply_of : DeviceKind → IcAsk → IcAnswer
reply_of kind ask = if on_beat kind then beat_reply ask else down_reply ask

-- a field of an answer, or 0 where it isn't whole
abbrev pub whole_or_zero : ℕ → ℕ → List ℕ → ℕ
whole_or_zero at width b = if nat_le (at + width) (length b) then number_at at width b else 0

-- what an answer says
abbrev pub answer_of : DeviceKind → List ℕ → IcAnswer
answer_of kind b = record { status = whole_or_zero 20 4 b; seq = if on_beat kind then whole_or_zero 28 8 b else 0 }

-- the answer to a request that carries a machine's reply
abbrev pub answer_bytes : List ℕ → IcAnswer → List ℕ
answer_bytes request answer = with_result answer.status (if type_of request == 1 then with_seq answer.seq request else request)

-- an answer carries the machine's reply to what was asked, and says it, whatever follows
pub record Answered (kind : DeviceKind) (ask : IcAsk) (request answer : List ℕ) : Type 0 where
  pub carries : answer ≡ answer_bytes request (reply_of kind ask)
  pub says : (more : List ℕ) → answer_of kind (answer ++ more) ≡ reply_of kind ask
