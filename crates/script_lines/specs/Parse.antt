-- What reading a script gives.
use Rattle.std.specs.Prelude.{ℕ, ◌≡◌, List, Some, Result, Ok, Err}
use Rattle.script_text.specs.declared.fault.ScriptFault.{ScriptFault}
use Rattle.script_lines.specs.declared.line.Line.{Line}
use Rattle.script_lines.specs.declared.script.Script.{Script}
use Rattle.script_text.specs.declared.fault.ParseFault.{ParseFault}
use Rattle.script_text.specs.declared.fault.ParseFault.TheVariants.{Script as IsScript, Memory}
use Rattle.script_lines.specs.Faults.{fault_at}

-- the script, or its fault; or memory was short
abbrev pub Parses : Result (List Line) ScriptFault → Result Script ParseFault → Type 0
Parses wanted (Ok script) = wanted ≡ Ok script
Parses wanted (Err (IsScript fault)) = wanted ≡ Err fault
Parses wanted (Err Memory) = Unit {0}

-- this is the reason against the line; or memory was short
abbrev pub WrongAt : ℕ → List Line → List ℕ → ParseFault → Type 0
WrongAt number before line (IsScript fault) = (fault.line ≡ number) × (fault_at number before line ≡ Some fault.why)
WrongAt number before line Memory = Unit {0}
