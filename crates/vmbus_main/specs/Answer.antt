-- What the output of a command is on an input, and what a wrong input is.
use Rattle.std.specs.Prelude.{ℕ, ◌≡◌, List, [], ◌∷◌, Option, None, Ok, Err}
use Rattle.script_text.specs.declared.fault.ScriptFault.{ScriptFault}
use Rattle.script_lines.specs.declared.line.Line.{Line}
use Rattle.bus_script.specs.declared.outcome.LineResult.{LineResult}
use Rattle.script_lines.specs.Grammar.{script_of}
use Rattle.bus_script.specs.Report.{report_of}
use Rattle.vmbus_msg_text.specs.Output.{decode_output}
use Rattle.trace_lines.specs.Traces.{trace_of}
use Rattle.hostile_lines.specs.Inputs.{hostile_of}
use Rattle.hostile_run.specs.Run.{IsHostileOutput}
use Rattle.script_generator.specs.Load.{load_lines}
use Rattle.script_generator.specs.Counts.{load_output}
use Rattle.bus_model.specs.declared.channel_run.ChannelRun.{ChannelRun}
use Rattle.device_kinds.specs.declared.history.DeviceHistory.{DeviceHistory}
use Rattle.bus_model.specs.Run.{IsBusRun}
use Rattle.vmbus_main.specs.declared.command.InputCommand.{InputCommand}
use Rattle.vmbus_main.specs.declared.outcome.Controls.{Controls}
use Rattle.sock_run.specs.Runs.{IsSockRun}
use Rattle.vmbus_main.specs.Controls.{HasControls, HasSockControls}
use Rattle.vmbus_main.specs.Verdict.{IsTraceAnswer}
use Rattle.vmbus_main.specs.declared.command.InputCommand.TheVariants.{Run, Decode, Trace, Hostile, Sock}

-- the input is a script, and the output is the report of a run of it with these packets and histories; these controls went by the script
pub record IsRunAnswer (input : List ℕ) (controls : Option Controls) (settled : List ChannelRun) (histories : List DeviceHistory) (output : List ℕ) : Type 0 where
  pub lines : List Line
  pub script : script_of input ≡ Ok lines
  pub controls_are : HasControls lines controls
  pub results : List LineResult
  pub run : IsBusRun lines settled histories results
  pub report : output ≡ report_of lines results

-- the output is the line of a run of the load script with these packets and histories; these controls went by it
pub record IsLoadAnswer (seed count : ℕ) (controls : Option Controls) (settled : List ChannelRun) (histories : List DeviceHistory) (output : List ℕ) : Type 0 where
  pub controls_are : HasControls (load_lines seed count) controls
  pub results : List LineResult
  pub run : IsBusRun (load_lines seed count) settled histories results
  pub line : output ≡ load_output count results

-- one channel carried the input to the service and back, each direction whole and ended, and the output is what the guest read; these controls went by the plan of
-- the port's socket, and no device served
pub record IsSockAnswer (port : ℕ) (input : List ℕ) (controls : Option Controls) (settled : List ChannelRun) (histories : List DeviceHistory) (output : List ℕ) : Type 0 where
  pub controls_are : HasSockControls port controls
  pub run : ChannelRun
  pub one : settled ≡ run ∷ []
  pub place : (run.phase ≡ 0) × (run.relid ≡ 1) × (run.device ≡ 0)
  pub carried : IsSockRun input output run.settled
  pub none : histories ≡ []

-- a command's output on an input
abbrev pub IsAnswer : InputCommand → List ℕ → Option Controls → List ChannelRun → List DeviceHistory → List ℕ → Type 0
IsAnswer Run input controls settled histories output = IsRunAnswer input controls settled histories output
IsAnswer Decode input controls settled histories output = (decode_output input ≡ Ok output) × (controls ≡ None) × (settled ≡ []) × (histories ≡ [])
IsAnswer Trace input controls settled histories output = IsTraceAnswer input output × (controls ≡ None) × (settled ≡ []) × (histories ≡ [])
IsAnswer Hostile input controls settled histories output = IsHostileOutput input output × (controls ≡ None) × (settled ≡ []) × (histories ≡ [])
IsAnswer (Sock port) input controls settled histories output = IsSockAnswer port input controls settled histories output

-- the first wrong line of a command's input: to a socket each input is right
abbrev pub IsFault : InputCommand → List ℕ → ScriptFault → Type 0
IsFault Run input fault = script_of input ≡ Err fault
IsFault Decode input fault = decode_output input ≡ Err fault
IsFault Trace input fault = trace_of input ≡ Err fault
IsFault Hostile input fault = hostile_of input ≡ Err fault
IsFault (Sock port) input fault = ⊥
