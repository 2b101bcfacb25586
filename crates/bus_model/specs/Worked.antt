-- Worked runs: a disk with a sub-channel, a close, and a rescind in both forms, for any requests that the disk can be asked and replies that it may give.
use Rattle.std.specs.Prelude.{ℕ, ◌≡◌, Bool, true, false, List, [], ◌∷◌, map, Some}
use Rattle.contact.specs.declared.kind.DeviceKind.TheVariants.{Disk as DiskKind}
use Rattle.script_lines.specs.declared.line.Line.{Line}
use Rattle.script_lines.specs.declared.line.What.{What}
use Rattle.script_lines.specs.declared.line.What.TheVariants.{Offer as IsOffer, Ask as IsAsk, Shut as IsShut, Phase as IsPhase}
use Rattle.script_lines.specs.declared.line.Ask.{Ask}
use Rattle.script_lines.specs.declared.line.DeviceSpec.TheVariants.{Disk}
use Rattle.script_phases.specs.Openings.{phases}
use Rattle.bus_script.specs.declared.outcome.LineResult.{LineResult}
use Rattle.bus_script.specs.declared.outcome.LineResult.TheVariants.{Done, RescindedServed, Unserved, Closed}
use Rattle.bus_script.specs.declared.outcome.Reply.{Reply}
use Rattle.device_kinds.specs.Kinds.{IsAskable}
use Rattle.device_kinds.specs.Formats.{fits_on}
use Rattle.ring_pair_laws.specs.Lists.{Lists}
use Rattle.device_kinds.specs.Served.{Served}
use Rattle.bus_model.specs.Orders.{Order}
use Rattle.bus_model.specs.Channel.{IsChannelRun, outcomes_of}
use Rattle.device_kinds.specs.Logs.{Recorded}
use Rattle.bus_model.specs.Run.{RunsOf}
use Rattle.bus_model.specs.Laws.{carried_at}
use Rattle.bus_model.specs.declared.channel_run.ChannelRun.{ChannelRun}

-- a request that a disk can be asked, with a reply that it may give
pub record Exchange : Type 0 where
  pub ask : Ask
  pub reply : Reply
  pub can : IsAskable DiskKind ask
  pub fits : fits_on DiskKind ask reply ≡ true

abbrev pub line : ℕ → What → Line
line number what = record { number = number; what = what }

abbrev pub entry : ℕ → Exchange → Recorded
entry seat e = record { seat = seat; ask = e.ask; reply = e.reply }

-- a run of the phases of lines with one device: its channels in order, its history, and the outcomes
pub record WorkedRun (lines : List Line) (channels : List (ℕ × ℕ × ℕ)) (log : List Recorded) (results : List LineResult) : Type 0 where
  pub settled : List ChannelRun
  pub runs : RunsOf (phases lines) ([] ∷ []) settled (log ∷ []) results
  pub channels_are : map carried_at settled ≡ channels

-- a disk with a sub-channel, asked once, and then twice: the sub-channel has a new relid in each phase
abbrev pub sharing : Exchange → Exchange → Exchange → List Line
sharing a b c = line 1 (IsOffer [] (Disk 64 1)) ∷ line 2 (IsAsk 0 a.ask) ∷ line 3 IsPhase ∷ line 4 (IsAsk 0 b.ask) ∷ line 5 (IsAsk 0 c.ask) ∷ []

abbrev pub Shares : Type 0
Shares = (a b c : Exchange)
    → WorkedRun (sharing a b c) ((0, 1, 0) ∷ (0, 2, 0) ∷ (1, 1, 0) ∷ (1, 3, 0) ∷ []) (entry 0 a ∷ entry 0 b ∷ entry 1 c ∷ []) (Done 0 a.reply ∷ Done 1 b.reply ∷ Done 2 c.reply ∷ [])

-- or the sub-channel's request was served first
abbrev pub SharesOtherwise : Type 0
SharesOtherwise = (a b c : Exchange)
    → WorkedRun (sharing a b c) ((0, 1, 0) ∷ (0, 2, 0) ∷ (1, 1, 0) ∷ (1, 3, 0) ∷ []) (entry 0 a ∷ entry 1 c ∷ entry 0 b ∷ []) (Done 0 a.reply ∷ Done 2 b.reply ∷ Done 1 c.reply ∷ [])

-- a disk is asked and closed, and asked again in the next phase, which opens nothing
abbrev pub closing : Exchange → Exchange → List Line
closing a b = line 1 (IsOffer [] (Disk 64 0)) ∷ line 2 (IsAsk 0 a.ask) ∷ line 3 (IsShut 0) ∷ line 4 IsPhase ∷ line 5 (IsAsk 0 b.ask) ∷ []

abbrev pub Closes : Type 0
Closes = (a b : Exchange) → WorkedRun (closing a b) ((0, 1, 0) ∷ []) (entry 0 a ∷ []) (Done 0 a.reply ∷ Closed ∷ [])

-- a disk is asked four times, and rescinded after two
abbrev pub rescinding : Bool → Exchange → Exchange → Exchange → Exchange → Order
rescinding held a b c d = record { kind = DiskKind; sub = 0; subs = 0; asks = a.ask ∷ b.ask ∷ c.ask ∷ d.ask ∷ []; stop = Some (2, held) }

-- a run of an order, in which it served this, with these outcomes
pub record OrderRan (order : Order) (served : List Served) (results : List LineResult) : Type 0 where
  pub lists : Lists
  pub run : IsChannelRun order lists served
  pub outcomes : outcomes_of order served ≡ results

abbrev pub call : ℕ → Exchange → Served
call serial e = record { serial = serial; request = e.ask; reply = e.reply }

abbrev pub Rescinded : Type 0
Rescinded = (a b c d : Exchange) → OrderRan (rescinding false a b c d) (call 0 a ∷ call 1 b ∷ []) (Done 0 a.reply ∷ Done 1 b.reply ∷ Unserved ∷ Unserved ∷ [])

-- the answer to the second one is held
abbrev pub Held : Type 0
Held = (a b c d : Exchange) → OrderRan (rescinding true a b c d) (call 0 a ∷ call 1 b ∷ []) (Done 0 a.reply ∷ RescindedServed 1 ∷ Unserved ∷ Unserved ∷ [])
