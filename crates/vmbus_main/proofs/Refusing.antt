-- An input that has an answer is not refused.
use Rattle.std.proofs.Common.{◌≡◌, ◌∙◌, ◌≤◌, ℕ, List, length, Option, Some, None, Ok, Err, inl, inr, ap, sym, subst, arith}
use Rattle.script_text.specs.declared.fault.ScriptFault.{ScriptFault}
use Rattle.io_edge.specs.Edge.{HoldsWhole}
use Rattle.bus_model.specs.declared.channel_run.ChannelRun.{ChannelRun}
use Rattle.device_kinds.specs.declared.history.DeviceHistory.{DeviceHistory}
use Rattle.vmbus_main.specs.declared.command.Command.TheVariants.{Input}
use Rattle.vmbus_main.specs.declared.command.InputCommand.{InputCommand}
use Rattle.vmbus_main.specs.declared.command.InputCommand.TheVariants.{Run, Decode, Trace, Hostile, Sock}
use Rattle.vmbus_main.specs.declared.outcome.Controls.{Controls}
use Rattle.vmbus_main.specs.Answer.{IsAnswer, IsFault}
use Rattle.vmbus_main.specs.Call.{TellsRefused, most_bytes}

no_fault : (command : InputCommand) (input : List ℕ) (controls : Option Controls) (settled : List ChannelRun) (histories : List DeviceHistory) (output : List ℕ) (fault : ScriptFault) → IsAnswer command input controls settled histories output → IsFault command input fault → ⊥
no_fault Run input controls settled histories output fault answer faulty =
    let both : Ok answer.lines ≡ Err fault = sym answer.script ∙ faulty in
    cc (both)
no_fault Decode input controls settled histories output fault answer faulty =
    let both : Ok output ≡ Err fault = sym answer.0 ∙ faulty in
    cc (both)
no_fault Trace input controls settled histories output fault answer faulty =
    let both : Ok answer.0.trace ≡ Err fault = sym answer.0.reads ∙ faulty in
    cc (both)
no_fault Hostile input controls settled histories output fault answer faulty =
    let both : Ok answer.0.input ≡ Err fault = sym answer.0.reads ∙ faulty in
    cc (both)
no_fault (Sock port) input controls settled histories output fault answer faulty = faulty

pub told : (command : InputCommand) (left : Option (List ℕ)) (input : List ℕ) (controls : Option Controls) (settled : List ChannelRun) (histories : List DeviceHistory) (output : List ℕ) → HoldsWhole left input → length input ≤ most_bytes → IsAnswer command input controls settled histories output → TellsRefused (Some (Input command)) left → ⊥
told command None input controls settled histories output whole short answer refused = refused
told command (Some bytes) input controls settled histories output whole short answer refused = elim refused [
  | inl long ↦ let same : length input ≡ length bytes = ap length whole in absurd (omega (arith, long, short, same))
  | inr faulty ↦ no_fault command input controls settled histories output faulty.0 answer (subst (λ b. IsFault command b faulty.0) (sym whole) faulty.1)
]
