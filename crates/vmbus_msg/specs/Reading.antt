-- What is read of bytes of a type.
use Rattle.std.specs.Prelude.{◌≡◌, ℕ, ◌-◌, ◌/◌, List, [], length, drop, Result, None, Some, MatchResult, ◌==◌, if◌then◌else◌}
use Rattle.wire_table.specs.Rows.{rows_at, numbers_in}
use Rattle.vmbus_msg.specs.Grammar.{type_of, fields_of, kinds_of, frames_of}
use Rattle.vmbus_msg.specs.Faults.{fault_for, fault_of, value_at}
use Rattle.vmbus_msg.specs.declared.fault.MsgFault.{MsgFault}
use Rattle.vmbus_msg.specs.declared.msg.Msg.{Msg}

-- the frames behind the fields
abbrev pub frames_at : ℕ → List ℕ → List ℕ
frames_at kind b =
    if kind == 8 then numbers_in 8 ((length b - 28) / 8) (drop 28 b) else
    if kind == 9 then numbers_in 8 ((length b - 16) / 8) (drop 16 b) else
    []

-- the message is of this type, with the fields and the frames that stand in the bytes
abbrev pub ReadsAs : ℕ → Msg → List ℕ → Type 0
ReadsAs kind m b = (type_of m ≡ kind) × (fields_of m ≡ rows_at (kinds_of kind) 4 b) × (frames_of m ≡ frames_at kind b)

-- the message that was read, where there is no fault, or the first fault
unfoldable pub Reads : ℕ → List ℕ → Result Msg MsgFault → Type 0
Reads kind b r = MatchResult r (λ m. (fault_for kind b ≡ None) × ReadsAs kind m b) (λ e. fault_for kind b ≡ Some e)

-- the same of bytes whose type is the first number in them
unfoldable pub Parses : List ℕ → Result Msg MsgFault → Type 0
Parses b r = MatchResult r (λ m. (fault_of b ≡ None) × ReadsAs (value_at b 0 4) m b) (λ e. fault_of b ≡ Some e)
