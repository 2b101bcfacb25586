-- What answering an input gives.
use Rattle.std.specs.Prelude.{ℕ, ◌≤◌, List, length, Result, Ok, Err}
use Rattle.script_text.specs.declared.fault.ParseFault.{ParseFault}
use Rattle.script_text.specs.declared.fault.ParseFault.TheVariants.{Script as IsScript, Memory}
use Rattle.vmbus_main.specs.declared.answer.Answer.{Answer}
use Rattle.vmbus_main.specs.declared.command.InputCommand.{InputCommand}
use Rattle.vmbus_main.specs.Answer.{IsAnswer, IsFault}

-- the answer, which fits the room of a sink; or the input's fault; or memory was short
abbrev pub IsAnswered : InputCommand → List ℕ → Result Answer ParseFault → Type 0
IsAnswered command input (Ok answer) = IsAnswer command input answer.controls answer.settled.items answer.histories.items answer.text.items × (length answer.text.items ≤ 67108864)
IsAnswered command input (Err (IsScript fault)) = IsFault command input fault
IsAnswered command input (Err Memory) = Unit {0}
