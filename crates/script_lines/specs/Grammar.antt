-- The script that bytes are.
use Rattle.std.specs.Prelude.{ℕ, ◌+◌, List, [], ◌∷◌, ◌++◌, Option, Some, None, Result, Ok, Err, unwrap_or}
use Rattle.std.specs.Str.Lines.{lines}
use Rattle.contact.specs.declared.version.Version.{Version}
use Rattle.util_ic.specs.declared.ic.IcAsk.TheVariants.{Beat as AskBeat, Down as AskDown}
use Rattle.script_text.specs.declared.fault.Why6.{Why6}
use Rattle.script_text.specs.declared.fault.ScriptFault.{ScriptFault}
use Rattle.script_lines.specs.declared.line.Line.{Line}
use Rattle.script_lines.specs.declared.line.What.{What}
use Rattle.script_lines.specs.declared.line.What.TheVariants.{Contact as IsContact, Offer as IsOffer, Bad as IsBad, RingSize as IsRingSize, Window as IsWindow, Ask as IsAsk, Rescind as IsRescind, Shut as IsShut, Modify as IsModify, Phase as IsPhase}
use Rattle.script_lines.specs.declared.line.Ask.{Ask}
use Rattle.script_lines.specs.declared.line.Ask.TheVariants.{Ic, Disk as AskDisk, Net as AskNet, Kvp as AskKvp}
use Rattle.script_lines.specs.declared.line.DeviceSpec.{DeviceSpec}
use Rattle.script_lines.specs.declared.line.DeviceSpec.TheVariants.{Disk as IsDisk}
use Rattle.script_lines.specs.declared.asked.Asked.{Asked}
use Rattle.script_lines.specs.declared.asked.Asked.TheVariants.{Beat, Down, Command, Message, Pair}
use Rattle.rndis_msg.specs.declared.rndis.Rndis.TheVariants.{Reset}
use Rattle.kvp_ic.specs.declared.message.Kvp.TheVariants.{Enum}
use Rattle.script_lines.specs.declared.offering.Offering.{Offering}
use Rattle.script_lines.specs.declared.offering.Offering.TheVariants.{Disk as OfDisk, Plain}
use Rattle.script_lines.specs.declared.said.Said.{Said}
use Rattle.script_lines.specs.declared.said.Said.TheVariants.{Nothing, Contact, Offer, Bad, Ring, Window, Request, Rescind, Close, Modify, Phase}
use Rattle.script_text.specs.Forms.{within}
use Rattle.script_lines.specs.Requests.{request_of}
use Rattle.script_lines.specs.Rows.{said_in}
use Rattle.script_lines.specs.Faults.{device_said, fault_at}

-- a version, or 0 where there is none
abbrev pub or_zero : Option Version → Version
or_zero version = unwrap_or version (record { 0 = 0 })

-- the device that is offered, or 0 where a number is out of range
abbrev pub spec_of : Offering → DeviceSpec
spec_of (OfDisk blocks subs) = IsDisk (unwrap_or blocks 0) (unwrap_or (within 0 3 subs) 0)
spec_of (Plain spec) = spec

-- the request that a line makes, with 0 where a number is out of range, a reset where a message is, and the first pair of pool 0 where a request about pairs is
abbrev pub ask_of : Asked → Ask
ask_of (Beat seq) = Ic (AskBeat (unwrap_or seq 0))
ask_of (Down flags) = Ic (AskDown 0 0 (unwrap_or flags 0))
ask_of (Command ask) = AskDisk (request_of ask)
ask_of (Message message) = AskNet (unwrap_or message Reset)
ask_of (Pair request) = AskKvp (unwrap_or request (Enum 0 0))

-- what a line that speaks of this device becomes; one that is passed over becomes none
abbrev pub what_of : Option ℕ → Said → Option What
what_of device Nothing = None
what_of device (Contact guest host) = Some (IsContact (or_zero guest) (or_zero host))
what_of device (Offer name offering) = Some (IsOffer name (spec_of offering))
what_of device (Bad name lba) = Some (IsBad (unwrap_or device 0) (unwrap_or lba 0))
what_of device (Ring name pages) = Some (IsRingSize (unwrap_or device 0) (unwrap_or pages 0))
what_of device (Window name size) = Some (IsWindow (unwrap_or device 0) (unwrap_or size 0))
what_of device (Request name asked) = Some (IsAsk (unwrap_or device 0) (ask_of asked))
what_of device (Rescind name after held) = Some (IsRescind (unwrap_or device 0) (unwrap_or after 0) held)
what_of device (Close name) = Some (IsShut (unwrap_or device 0))
what_of device (Modify name vp) = Some (IsModify (unwrap_or device 0) (unwrap_or vp 0))
what_of device Phase = Some IsPhase

-- a line with its number, or none
abbrev pub numbered : ℕ → Option What → List Line
numbered number None = []
numbered number (Some what) = record { number = number; what = what } ∷ []

-- the line that this is behind the lines before, or none
abbrev pub said_lines : ℕ → List Line → Option Said → List Line
said_lines number before None = []
said_lines number before (Some said) = numbered number (what_of (device_said before said) said)

-- the line that these bytes are, or none
abbrev pub lines_at : ℕ → List Line → List ℕ → List Line
lines_at number before line = said_lines number before (said_in line)

-- the fault of this line, or what the rest gives
abbrev pub or_fault : Option Why6 → ℕ → Result (List Line) ScriptFault → Result (List Line) ScriptFault
or_fault (Some why) number rest = Err (record { line = number; why = why })
or_fault None number rest = rest

-- each line stands after the lines before it; the first that is refused is the script's fault
abbrev pub read_from : ℕ → List Line → List (List ℕ) → Result (List Line) ScriptFault
read_from number before [] = Ok before
read_from number before (line ∷ rest) = or_fault (fault_at number before line) number (read_from (number + 1) (before ++ lines_at number before line) rest)

-- the lines of a script, or its first wrong line
abbrev pub script_of : List ℕ → Result (List Line) ScriptFault
script_of bytes = read_from 1 [] (lines bytes)
