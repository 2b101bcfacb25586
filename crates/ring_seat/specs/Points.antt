-- The mask and the wanted room that an end last stored, by the point where it is.
use Rattle.std.specs.Prelude.{◌≡◌, ℕ, Bool, true, false, ◌||◌, not}
use Rattle.ring_machine.specs.declared.machine.Stage.{Stage}
use Rattle.ring_machine.specs.declared.machine.Stage.TheVariants.{ArmPending, PollSignal, PollMask}
use Rattle.ring_machine.specs.declared.machine.EndMachine.{EndMachine}
use Rattle.ring_machine.specs.Steps.{is_arming_at, is_looking_at, is_waking_at}

-- mask 0 is stored, and mask 1 isn't stored since
abbrev pub is_unmasked_at : Stage → Bool
is_unmasked_at PollMask = true
is_unmasked_at st = is_looking_at st

abbrev pub is_unmasked : EndMachine → Bool
is_unmasked m = is_unmasked_at m.stage || m.asleep

-- an arm or a wake is under way, or the end is asleep: it may want room
abbrev pub is_wanting : EndMachine → Bool
is_wanting m = is_arming_at m.stage || (is_waking_at m.stage || m.asleep)

-- the wanted room that was last stored
abbrev pub pending_at : Stage → ℕ → ℕ
pending_at ArmPending want = 0
pending_at _ want = want

abbrev pub pending_of : EndMachine → ℕ
pending_of m = pending_at m.stage m.want

-- The mask is 0 from its store in an arm until the end is awake again, and 1 at each other point. An end that is awake wants no room.
-- Only an end that is asleep takes its signal
pub record AtPoint (m : EndMachine) : Type 0 where
  pub masked : m.masked ≡ not (is_unmasked m)
  pub want : is_wanting m ≡ false → m.want ≡ 0
  pub polls : m.stage ≡ PollSignal → m.asleep ≡ true
