-- A run of an end beside a peer that writes anything.
use Rattle.std.specs.Prelude.{◌≡◌, ℕ, ◌/◌, ◌++◌, List, [], ◌∷◌, codes, None, slice_index, slice_set, Vec, Result, Ok, Err}
use Rattle.std.specs.Fmt.{decimal}
use Rattle.std.specs.declared.alloc.Global.{Global}
use Rattle.script_text.specs.declared.fault.ScriptFault.{ScriptFault}
use Rattle.script_text.specs.declared.fault.ParseFault.{ParseFault}
use Rattle.script_text.specs.declared.fault.ParseFault.TheVariants.{Script as IsScript, Memory}
use Rattle.line_words.specs.Values.{hex_16}
use Rattle.ring_core.specs.declared.told_mem.Change.{Change}
use Rattle.ring_core.specs.Told.{Pair, pair, opening_with}
use Rattle.ring_machine.specs.Places.{index_of}
use Rattle.ring_machine.specs.declared.place.Place.TheVariants.{Cell}
use Rattle.hostile_lines.specs.declared.command.Command.{Command}
use Rattle.hostile_lines.specs.declared.command.Command.TheVariants.{Call, Show, Table, Accept, Complete, Gpadl, Packet, Vstor}
use Rattle.hostile_lines.specs.declared.command.CommandLine.{CommandLine}
use Rattle.hostile_lines.specs.declared.command.Put.{Put}
use Rattle.hostile_lines.specs.Inputs.{Input, size_of, hostile_of}
use Rattle.hostile_lines.specs.StepOrder.{IsInStepOrder}
use Rattle.hostile_honest_end.specs.Calls.{new_guest, comes_of, Leads, said_of}
use Rattle.hostile_decoders.specs.Parts.{Held, Says}

-- where an input stands between two of its lines: the end with its memory, and the parts beside it
pub record Stand : Type 0 where
  pub at : Pair
  pub parts : Held

-- a line that asks a part, and leaves the end
pub record SaysPart (number : ℕ) (command : Command) (s t : Stand) (said : List ℕ) : Type 0 where
  pub same : t.at ≡ s.at
  pub says : Says number command s.parts t.parts said

-- What a line asks, what it leaves, and what is said. A call of the end is the machine's run on the words, in which the peer's changes fall due; a cell is shown as it
-- stands, without a step
abbrev pub SaysCommand : ℕ → Command → Stand → Stand → List ℕ → Type 0
SaysCommand number (Call c) s t said = Leads (comes_of c s.at.state.machine) s.at t.at × (t.parts ≡ s.parts) × (said ≡ said_of (comes_of c s.at.state.machine) t.at)
SaysCommand number (Show r at) s t said = (t ≡ s) × (said ≡ codes "word " ++ hex_16 (slice_index s.at.memory.words (index_of s.at.state.machine.cells (Cell r at))))
SaysCommand number (Table n) s t said = SaysPart number (Table n) s t said
SaysCommand number Accept s t said = SaysPart number Accept s t said
SaysCommand number (Complete id) s t said = SaysPart number (Complete id) s t said
SaysCommand number (Gpadl b) s t said = SaysPart number (Gpadl b) s t said
SaysCommand number (Packet b) s t said = SaysPart number (Packet b) s t said
SaysCommand number (Vstor b) s t said = SaysPart number (Vstor b) s t said

-- a line's number, and what is said
abbrev pub line_text : ℕ → List ℕ → List ℕ
line_text number said = decimal number ++ (codes " " ++ (said ++ codes "\n"))

-- each line in order
abbrev pub SaysLines : List CommandLine → Stand → Stand → List ℕ → Type 0
SaysLines [] s t text = (t ≡ s) × (text ≡ [])
SaysLines (l ∷ ls) s t text = (mid : Stand) × (said : List ℕ) × (rest : List ℕ) × SaysCommand l.number l.command s mid said × (text ≡ line_text l.number said ++ rest) × SaysLines ls mid t rest

-- the last line: how many steps were made
abbrev pub end_text : ℕ → List ℕ
end_text steps = codes "end steps " ++ (decimal steps ++ codes "\n")

-- the words of a channel with these set, in order
abbrev pub put_all : ℕ → List Put → List ℕ → List ℕ
put_all n [] ws = ws
put_all n (p ∷ ps) ws = put_all n ps (slice_set ws (index_of n p.place) p.value)

-- A guest's new end, over the words of a new channel with those of the input set, and with these changes of the peer to come; a table of one id, and no page list
abbrev pub opening_stand : Input → List Change → Stand
opening_stand i due = record {
  at = pair (new_guest (size_of i / 8)) (record { words = put_all (size_of i / 8) i.puts (opening_with (size_of i / 8) 0); steps = 0; due = due });
  parts = record { table = None ∷ []; lists = record { building = None; live = [] } };
}

-- the text is that of a run of the input
pub record HostileRun (i : Input) (text : List ℕ) : Type 0 where
  pub due : List Change
  pub order : IsInStepOrder i.changes due
  pub last : Stand
  pub said : List ℕ
  pub says : SaysLines i.asked (opening_stand i due) last said
  pub text_is : text ≡ said ++ end_text last.at.memory.steps

-- the bytes are such an input, and the text is that of a run of it
pub record IsHostileOutput (bytes text : List ℕ) : Type 0 where
  pub input : Input
  pub reads : hostile_of bytes ≡ Ok input
  pub run : HostileRun input text

-- the text; the fault of the bytes; or memory was short
abbrev pub Outputs : List ℕ → Result (Vec ℕ Global) ParseFault → Type 0
Outputs bytes (Ok text) = IsHostileOutput bytes text.items
Outputs bytes (Err (IsScript fault)) = hostile_of bytes ≡ Err fault
Outputs bytes (Err Memory) = Unit {0}
