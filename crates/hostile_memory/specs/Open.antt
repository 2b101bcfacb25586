-- Open memory: each word may have any value at each moment. An end's seat knows what its own steps answered, and nothing else.
use Rattle.std.specs.Prelude.{◌≡◌, ℕ, List, [], ◌∷◌}
use Rattle.atomic_table.specs.Table.{Me, Step}
use Rattle.io_edge.specs.declared.side.Side.TheVariants.{Guest}
use Rattle.page_kept.specs.declared.page_call.PageCall.{PageCall}
use Rattle.page_kept.specs.declared.page_call.PageCall.TheVariants.{Off}
use Rattle.ring_machine.specs.declared.machine.EndMachine.{EndMachine}
use Rattle.ring_machine.specs.PageCalls.{next_in}
use Rattle.ring_machine.specs.Steps.{machine_new}
use Rattle.ring_seat.specs.Seats.{IsOp}
use Rattle.hostile_memory.specs.declared.rule.OpenView.{OpenView}
use Rattle.hostile_memory.specs.declared.rule.OpenView.TheVariants.{Hears, Scribbles}

-- what a seat heard: the answers of its steps, the last one first
abbrev pub heard_in : OpenView → List ℕ
heard_in (Hears vs) = vs
heard_in Scribbles = []

-- An end that makes a step: its machine, page call and packet
pub record Making : Type 0 where
  pub machine : EndMachine
  pub call : PageCall
  pub packet : List ℕ

-- the step that was made is the one that the machine names
abbrev pub IsNamed : Making → Step (Unit {0}) → Type 0
IsNamed k s = IsOp k.machine.cells (next_in k.machine k.call k.packet) s

-- a step whose answer is v: the seat hears it, before all that it heard
abbrev pub IsHeard : ℕ → Me (Unit {0}) OpenView → Me (Unit {0}) OpenView → Type 0
IsHeard v before now = now ≡ (Hears (v ∷ heard_in before.0), [])

-- no end, for a step that nobody makes
abbrev pub nobody : Making
nobody = record { machine = machine_new Guest 0; call = Off; packet = [] }
