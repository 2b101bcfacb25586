-- What printing an input gives.
use Rattle.std.specs.Prelude.{ℕ, ◌≡◌, List, Result, Ok, Err, Vec}
use Rattle.std.specs.declared.alloc.Global.{Global}
use Rattle.hex.specs.declared.error.FromHexError.{FromHexError}
use Rattle.script_text.specs.declared.fault.Why6.TheVariants.{Form}
use Rattle.script_text.specs.declared.fault.ScriptFault.{ScriptFault}
use Rattle.script_text.specs.declared.fault.ParseFault.{ParseFault}
use Rattle.script_text.specs.declared.fault.ParseFault.TheVariants.{Script as IsScript, Memory}

-- the text, or the fault of the input; or memory was short
abbrev pub Prints : Result (List ℕ) ScriptFault → Result (Vec ℕ Global) ParseFault → Type 0
Prints wanted (Ok text) = wanted ≡ Ok text.items
Prints wanted (Err (IsScript fault)) = wanted ≡ Err fault
Prints wanted (Err Memory) = Unit {0}

-- the bytes of a line, or that it is not in form; or memory was short
abbrev pub ReadsLine : ℕ → Result (List ℕ) FromHexError → Result (Vec ℕ Global) ParseFault → Type 0
ReadsLine number read (Ok bytes) = read ≡ Ok bytes.items
ReadsLine number read (Err (IsScript fault)) = (fault ≡ record { line = number; why = Form }) × ((e : FromHexError) × (read ≡ Err e))
ReadsLine number read (Err Memory) = Unit {0}
