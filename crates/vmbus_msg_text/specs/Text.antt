-- The text of a message, and of bytes that are none.
use Rattle.std.specs.Prelude.{ℕ, ◌==◌, ◌||◌, List, [], ◌∷◌, ◌++◌, codes, Option, Some, None, if◌then◌else◌}
use Rattle.std.specs.Fmt.{decimal}
use Rattle.wire_table.specs.Rows.{Row, rows_at, number_in, raw_in}
use Rattle.vmbus_msg.specs.declared.fault.MsgFault.{MsgFault}
use Rattle.vmbus_msg.specs.declared.fault.MsgFault.TheVariants.{Short, Unknown, Long, Field}
use Rattle.vmbus_msg.specs.declared.field_name.FieldName.{FieldName}
use Rattle.vmbus_msg.specs.declared.field_name.FieldName.TheVariants.{RangeBuflen, Rangecount}
use Rattle.vmbus_msg.specs.Grammar.{kinds_of}
use Rattle.vmbus_msg.specs.Faults.{fault_of, value_at}
use Rattle.vmbus_msg.specs.Reading.{frames_at}
use Rattle.vmbus_msg_text.specs.Pieces.{named_text, joined}
use Rattle.script_text.specs.Runs.{runs_text}
use Rattle.vmbus_msg_text.specs.Digits.{digits_text, numbers_text}
use Rattle.vmbus_msg_text.specs.Names.{Show, hidden, number, digits, runs, name_of, shows_of}

-- the pieces of the fields that are printed, in order
abbrev pub field_pieces : List Show → List Row → List (List ℕ)
field_pieces [] rows = []
field_pieces (s ∷ ss) [] = []
field_pieces (hidden ∷ ss) (r ∷ rs) = field_pieces ss rs
field_pieces (number name ∷ ss) (r ∷ rs) = named_text name (decimal (number_in r)) ∷ field_pieces ss rs
field_pieces (digits name ∷ ss) (r ∷ rs) = named_text name (digits_text (raw_in r)) ∷ field_pieces ss rs
field_pieces (runs name ∷ ss) (r ∷ rs) = named_text name (runs_text (raw_in r)) ∷ field_pieces ss rs

-- a page list's header or body prints its frames last
abbrev pub frame_pieces : ℕ → List ℕ → List (List ℕ)
frame_pieces k frames = if k == 8 || k == 9 then named_text (codes "frames") (numbers_text frames) ∷ [] else []

-- what is printed of a message of a type, with these fields and frames
abbrev pub told_text : ℕ → List Row → List ℕ → List ℕ
told_text k rows frames = name_of k ++ joined (field_pieces (shows_of k) rows ++ frame_pieces k frames)

-- a checked field's name
abbrev pub checked_name : FieldName → List ℕ
checked_name RangeBuflen = codes "range_buflen"
checked_name Rangecount = codes "rangecount"

-- the text of a fault
abbrev pub fault_text : MsgFault → List ℕ
fault_text (Short have need) = codes "short " ++ (decimal have ++ (codes " need " ++ decimal need))
fault_text (Unknown kind) = codes "unknown " ++ decimal kind
fault_text (Long have) = codes "long " ++ decimal have
fault_text (Field name value) = codes "field " ++ (checked_name name ++ (codes " " ++ decimal value))

-- the text of the fault, or of the message that bytes without one are
abbrev pub text_or : List ℕ → Option MsgFault → List ℕ
text_or b (Some fault) = fault_text fault
text_or b None = told_text (value_at b 0 4) (rows_at (kinds_of (value_at b 0 4)) 4 b) (frames_at (value_at b 0 4) b)

-- the text of bytes
abbrev pub bytes_text : List ℕ → List ℕ
bytes_text b = text_or b (fault_of b)
