-- Each write of a script has data that are all the same byte.
use Rattle.std.proofs.Common.{◌≡◌, ℕ, ◌+◌, ◌*◌, List, [], ◌∷◌, ◌++◌, refl, subst}
use Rattle.std.specs.Prelude.{Option, Some, None, Result, Ok, Err, IfSome, unwrap_or}
use Rattle.std.specs.List.{AllByRecursion}
use Rattle.std.specs.Str.Lines.{lines}
use Rattle.scsi_disk.proofs.OneByteLaws.{IsOneByte, one_byte}
use Rattle.script_text.specs.declared.fault.Why6.{Why6}
use Rattle.script_text.specs.declared.fault.ScriptFault.{ScriptFault}
use Rattle.script_lines.specs.declared.line.Line.{Line}
use Rattle.script_lines.specs.declared.line.What.{What}
use Rattle.script_lines.specs.declared.line.Ask.{Ask}
use Rattle.script_lines.specs.declared.line.Ask.TheVariants.{Disk as AskDisk}
use Rattle.script_lines.specs.declared.asked.Asked.{Asked}
use Rattle.script_lines.specs.declared.asked.Asked.TheVariants.{Command}
use Rattle.script_lines.specs.declared.disk_ask.DiskAsk.{DiskAsk}
use Rattle.script_lines.specs.declared.disk_ask.DiskAsk.TheVariants.{Ready, Inquiry, Capacity, LongCapacity, Flush, Read, Write}
use Rattle.script_lines.specs.declared.said.Said.{Said}
use Rattle.script_lines.specs.declared.said.Said.TheVariants.{Nothing, Contact, Offer, Bad, Ring, Window, Request, Rescind, Close, Modify, Phase}
use Rattle.script_lines.specs.Lines.{Says, Asks, Rescinds, Shuts, Modifies, said}
use Rattle.script_lines.specs.Requests.{request_of}
use Rattle.script_lines.specs.Rows.{said_in}
use Rattle.script_lines.specs.Faults.{device_said, fault_at}
use Rattle.script_lines.specs.Grammar.{ask_of, what_of, numbered, said_lines, lines_at, or_fault, read_from, script_of}

-- the data of a request are all the same byte
abbrev pub PlainAsk : Ask → Type 0
PlainAsk (AskDisk request) = IsOneByte request.out
PlainAsk _ = Unit {0}

abbrev pub PlainSays : Says → Type 0
PlainSays (Asks ask) = PlainAsk ask
PlainSays (Rescinds after held) = Unit {0}
PlainSays Shuts = Unit {0}
PlainSays (Modifies vp) = Unit {0}

abbrev pub PlainWhat : What → Type 0
PlainWhat what = IfSome (said what) (λ s. PlainSays s.1)

abbrev pub PlainLine : Line → Type 0
PlainLine line = PlainWhat line.what

abbrev PlainSome : Option What → Type 0
PlainSome None = Unit {0}
PlainSome (Some what) = PlainWhat what

no_data : IsOneByte []
no_data = record { byte = 0; all = refl }

request_plain : (ask : DiskAsk) → IsOneByte (request_of ask).out
request_plain Ready = no_data
request_plain Inquiry = no_data
request_plain Capacity = no_data
request_plain LongCapacity = no_data
request_plain Flush = no_data
request_plain (Read lba count) = no_data
request_plain (Write lba count byte) = one_byte (512 * unwrap_or count 0) byte

asked_plain : (asked : Asked) → PlainAsk (ask_of asked)
asked_plain (Command ask) = request_plain ask
asked_plain _ = tt

what_plain : (device : Option ℕ) (said : Said) → PlainSome (what_of device said)
what_plain device Nothing = tt
what_plain device (Contact guest host) = tt
what_plain device (Offer name offering) = tt
what_plain device (Bad name lba) = tt
what_plain device (Ring name pages) = tt
what_plain device (Window name size) = tt
what_plain device (Request name asked) = asked_plain asked
what_plain device (Rescind name after held) = tt
what_plain device (Close name) = tt
what_plain device (Modify name vp) = tt
what_plain device Phase = tt

numbered_plain : (number : ℕ) (o : Option What) → PlainSome o → AllByRecursion PlainLine (numbered number o)
numbered_plain number None plain = tt
numbered_plain number (Some what) plain = (plain, tt)

said_plain : (number : ℕ) (before : List Line) (o : Option Said) → AllByRecursion PlainLine (said_lines number before o)
said_plain number before None = tt
said_plain number before (Some said) = numbered_plain number (what_of (device_said before said) said) (what_plain (device_said before said) said)

both : (xs ys : List Line) → AllByRecursion PlainLine xs → AllByRecursion PlainLine ys → AllByRecursion PlainLine (xs ++ ys)
both [] ys first second = second
both (x ∷ xs) ys first second = (first.0, both xs ys first.1 second)

-- the lines that were read, if they were
abbrev PlainRead : Result (List Line) ScriptFault → Type 0
PlainRead (Ok said) = AllByRecursion PlainLine said
PlainRead (Err fault) = Unit {0}

or_fault_plain : (o : Option Why6) (number : ℕ) (rest : Result (List Line) ScriptFault) → PlainRead rest → PlainRead (or_fault o number rest)
or_fault_plain None number rest plain = plain
or_fault_plain (Some why) number rest plain = tt

read_plain : (rest : List (List ℕ)) (number : ℕ) (before : List Line) → AllByRecursion PlainLine before → PlainRead (read_from number before rest)
read_plain [] number before plain = plain
read_plain (line ∷ rest) number before plain =
    or_fault_plain (fault_at number before line) number (read_from (number + 1) (before ++ lines_at number before line) rest)
    (read_plain rest (number + 1) (before ++ lines_at number before line) (both before (lines_at number before line) plain (said_plain number before (said_in line))))

-- each line of a script is so
pub script_plain : (bytes : List ℕ) (said : List Line) → script_of bytes ≡ Ok said → AllByRecursion PlainLine said
script_plain bytes said is = subst PlainRead is (read_plain (lines bytes) 1 [] tt)
