-- What an end keeps while it sleeps.
use Rattle.std.specs.Prelude.{◌≡◌, Option, is_some}
use Rattle.ring_machine.specs.declared.machine.Stage.TheVariants.{Idle}
use Rattle.ring_core.specs.Seen.{Seen, Kept}
use Rattle.ring_core.specs.declared.told.Told.{Told}

-- It is the same end, between two calls, with the same indices and lists, and it did nothing that its peer sees. Its seat is of the same channel, and tells its
-- state or doesn't as before
pub record Sleeps {S C : Type 0} (channel : S → C) (told : S → Option Told) (old new : Seen S) : Type 0 where
  pub idle : new.state.machine.stage ≡ Idle
  pub seat : channel new.seat ≡ channel old.seat
  pub tells : is_some (told new.seat) ≡ is_some (told old.seat)
  pub side : new.state.machine.side ≡ old.state.machine.side
  pub cells : new.state.machine.cells ≡ old.state.machine.cells
  pub write : new.state.machine.write ≡ old.state.machine.write
  pub read : new.state.machine.read ≡ old.state.machine.read
  pub start : new.state.machine.start ≡ old.state.machine.start
  pub past : new.state.past ≡ old.state.past
  pub kept : Kept old new
