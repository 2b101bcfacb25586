-- The lines of an end's steps.
use Rattle.std.specs.Prelude.{◌≡◌, ℕ, List, ◌++◌, drop, length, Some}
use Rattle.ring_machine.specs.declared.place.Op.{Op}
use Rattle.ring_machine.specs.Steps.{next_of}
use Rattle.trace_text.specs.Steps.{step_text}
use Rattle.vmbus_ring_c.specs.declared.end.VmbusEnd.{VmbusEnd}
use Rattle.vmbus_ring_c.specs.Ends.{IsEnd, machine_of}

-- the end's next step is this one, and its line, where it answers v, stands at the front of the bytes, in so many of them. Those behind stay
pub record Writes (e : VmbusEnd) (packet : List ℕ) (v : ℕ) (old new : List ℕ) (len : ℕ) : Type 0 where
  pub op : Op
  pub is_end : IsEnd e
  pub next : next_of (machine_of e) packet ≡ Some op
  pub line : new ≡ step_text (machine_of e).side op v ++ drop len old
  pub is_len : len ≡ length (step_text (machine_of e).side op v)
