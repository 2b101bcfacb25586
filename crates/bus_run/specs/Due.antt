-- What is due at the end of a phase.
use Rattle.std.specs.Prelude.{length}
use Rattle.bus_plan.specs.declared.opening.ChannelOrder.{ChannelOrder}
use Rattle.bus_run.specs.declared.due.Due.{Due}

-- one outcome for each request that is ordered of a channel
abbrev pub due_of : ChannelOrder → Due
due_of x = record { opening = x.opening; count = length x.asks.items }
