-- A guest's end over told words, between two of its calls.
use Rattle.std.specs.Prelude.{◌≡◌, ◌≤◌, ℕ, true, false}
use Rattle.ring_machine.specs.declared.machine.Stage.TheVariants.{Idle}
use Rattle.ring_machine.specs.Steps.{is_busy_at}
use Rattle.ring_core.specs.Seen.{Seen}
use Rattle.ring_core.specs.Told.{Held}

-- it isn't marked, and its channel has no data pages
pub record IsTested (e : Seen Held) : Type 0 where
  pub dozes : e.state.machine.asleep ≡ true → e.state.machine.stage ≡ Idle
  pub rests : is_busy_at e.state.machine.stage ≡ false
  pub unmarked : e.state.machine.marked ≡ false
  pub bare : e.state.pages.count ≡ 0
  pub size : (512 ≤ e.state.machine.cells) × (e.state.machine.cells ≤ 8192)
