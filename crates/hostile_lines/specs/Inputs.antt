-- What bytes say of a peer, and of the calls of an end beside it.
use Rattle.std.specs.Prelude.{ℕ, ◌+◌, Bool, true, false, nat_le, List, [], ◌∷◌, ◌++◌, length, Option, Some, None, option_to_list, Result, Ok, Err, if◌then◌else◌}
use Rattle.std.specs.Option.{option_map}
use Rattle.std.specs.Str.Lines.{lines}
use Rattle.ring_core.specs.declared.told_mem.Change.{Change}
use Rattle.script_text.specs.declared.fault.Why6.{Why6}
use Rattle.script_text.specs.declared.fault.Why6.TheVariants.{Limit}
use Rattle.script_text.specs.declared.fault.ScriptFault.{ScriptFault}
use Rattle.hostile_lines.specs.declared.command.Command.{Command}
use Rattle.hostile_lines.specs.declared.command.CommandLine.{CommandLine}
use Rattle.hostile_lines.specs.declared.command.Put.{Put}
use Rattle.hostile_lines.specs.declared.said.Said.{Said}
use Rattle.hostile_lines.specs.declared.said.Said.TheVariants.{Nothing, Ring as Rings, Set, Before, Long, Asks}
use Rattle.hostile_lines.specs.Rows.{said_in}
use Rattle.hostile_lines.specs.Faults.{data_of, fault_of}

-- the pages of each ring, where a line says them; the words that are set before all steps, and those that change just before one, each in the order of the lines;
-- and what is asked
pub record Input : Type 0 where
  pub ring : Option ℕ
  pub puts : List Put
  pub changes : List Change
  pub asked : List CommandLine

-- no line with words stands before
abbrev pub is_bare : Option ℕ → List Put → List Change → List CommandLine → Bool
is_bare None [] [] [] = true
is_bare ring puts changes asked = false

abbrev pub starts : Input → Bool
starts i = is_bare i.ring i.puts i.changes i.asked

-- the bytes of data of each of its rings
abbrev pub size_of : Input → ℕ
size_of i = data_of i.ring

-- what a line says by itself, behind these lines
abbrev pub said_at : Input → List ℕ → Option Said
said_at before line = said_in (size_of before) line

-- the first reason against a line
abbrev pub fault_at : ℕ → Input → List ℕ → Option Why6
fault_at number before line = fault_of number (starts before) (length before.asked) (said_at before line)

-- a line that asks something, with its number
abbrev pub numbered : ℕ → Command → CommandLine
numbered number command = record { number = number; command = command }

-- these lines, and behind them one that says this
abbrev pub with_said : ℕ → Input → Option Said → Input
with_said number before None = before
with_said number before (Some Nothing) = before
with_said number before (Some (Rings pages)) = record before { ring = pages }
with_said number before (Some (Set put)) = record before { puts = before.puts ++ option_to_list put }
with_said number before (Some (Before change)) = record before { changes = before.changes ++ option_to_list change }
with_said number before (Some Long) = before
with_said number before (Some (Asks command)) = record before { asked = before.asked ++ option_to_list (option_map (numbered number) command) }

abbrev pub with_line : ℕ → Input → List ℕ → Input
with_line number before line = with_said number before (said_at before line)

-- the fault of this line, or what the rest gives
abbrev pub or_fault : Option Why6 → ℕ → Result Input ScriptFault → Result Input ScriptFault
or_fault (Some why) number rest = Err (record { line = number; why = why })
or_fault None number rest = rest

-- each line stands after the lines before it; the first that is refused is the input's fault
abbrev pub read_from : ℕ → Input → List (List ℕ) → Result Input ScriptFault
read_from number before [] = Ok before
read_from number before (line ∷ rest) = or_fault (fault_at number before line) number (read_from (number + 1) (with_line number before line) rest)

abbrev pub no_input : Input
no_input = record { ring = None; puts = []; changes = []; asked = [] }

-- Limit, of line 0: an input has no more than a mebibyte
abbrev pub is_short : List ℕ → Bool
is_short bytes = nat_le (length bytes) 1048576

-- what bytes say, or their fault
abbrev pub hostile_of : List ℕ → Result Input ScriptFault
hostile_of bytes = if is_short bytes then read_from 1 no_input (lines bytes) else Err (record { line = 0; why = Limit })
