-- Laws of the reports of runs.
use Rattle.std.specs.Prelude.{ℕ, ◌≡◌, ◌≤◌, ◌+◌, ◌*◌, List, [], ◌∷◌, length, Ok}
use Rattle.std.specs.Option.{option_map_or}
use Rattle.rndis_msg.specs.Messages.{body_of}
use Rattle.script_lines.specs.Lines.{Says, Asks, said}
use Rattle.script_lines.specs.Grammar.{script_of}
use Rattle.script_lines.specs.WellFormed.{IsScript}
use Rattle.script_lines.specs.declared.line.Line.{Line}
use Rattle.script_lines.specs.declared.line.What.{What}
use Rattle.script_lines.specs.declared.line.Ask.{Ask}
use Rattle.script_lines.specs.declared.line.Ask.TheVariants.{Ic as AskIc, Disk as AskDisk, Net as AskNet, Kvp as AskKvp}
use Rattle.bus_script.specs.declared.outcome.LineResult.{LineResult}
use Rattle.bus_script.specs.Report.{room_back}
use Rattle.bus_model.specs.Run.{IsBusRun}
use Rattle.bus_model.specs.declared.channel_run.ChannelRun.{ChannelRun}
use Rattle.device_kinds.specs.declared.history.DeviceHistory.{DeviceHistory}

-- how many bytes the buffer of a message for an adapter has
abbrev pub data_of : Ask → ℕ
data_of (AskNet message) = length (body_of message)
data_of _ = 0

-- and those of what lines ask
abbrev pub data_said : Says → ℕ
data_said (Asks ask) = data_of ask
data_said _ = 0

abbrev pub data_in : What → ℕ
data_in what = option_map_or (λ s. data_said s.1) (said what) 0

abbrev pub data_by : List Line → ℕ
data_by [] = 0
data_by (l ∷ lines) = data_in l.what + data_by lines

-- how many bytes of text the reply to a request has beside 31 at most, 24 for each run of what comes back: each block of a disk is of one byte, a frame comes back as long as it was, and
-- no other message is longer than 40 bytes. Of a key-value service they are those of a key of 255 units and a value of 1,023
abbrev pub room_of : Ask → ℕ
room_of (AskIc ask) = 0
room_of (AskDisk request) = 24 * 36
room_of (AskNet message) = 24 * (40 + length (body_of message))
room_of (AskKvp request) = 255 + 1023

-- and those to what lines ask
abbrev pub room_said : Says → ℕ
room_said (Asks ask) = room_of ask
room_said _ = 0

abbrev pub room_in : What → ℕ
room_in what = option_map_or (λ s. room_said s.1) (said what) 0

abbrev pub room_by : List Line → ℕ
room_by [] = 0
room_by (l ∷ lines) = room_in l.what + room_by lines

-- Few runs come back: each write of a script fills whole blocks with one byte, and a new disk is all zero, so each block of a disk is a run of one byte
abbrev pub FewRunsBack : Type 0
FewRunsBack = (bytes : List ℕ) (lines : List Line) (settled : List ChannelRun) (histories : List DeviceHistory) (results : List LineResult) → script_of bytes ≡ Ok lines → IsScript lines → IsBusRun lines settled histories results
    → room_back results ≤ room_by lines

-- the buffers stand in the script, as two digits for each byte
abbrev pub DataStands : Type 0
DataStands = (bytes : List ℕ) (lines : List Line) → script_of bytes ≡ Ok lines → 2 * data_by lines ≤ length bytes

-- so the report of a run has room in 64 megabytes, where the script has at most one
abbrev pub ReportFits : Type 0
ReportFits = (bytes : List ℕ) (lines : List Line) (settled : List ChannelRun) (histories : List DeviceHistory) (results : List LineResult) → script_of bytes ≡ Ok lines → length bytes ≤ 1048576 → IsScript lines → IsBusRun lines settled histories results
    → 12000000 + room_back results ≤ 67108864
