-- A machine's numbers, tested.
use Rattle.std.specs.Prelude.{◌+◌, ◌*◌, Bool, true, false, ◌==◌, ◌&&◌, ◌||◌, not, leb, ltb}
use Rattle.ring_machine.specs.declared.machine.EndMachine.{EndMachine}
use Rattle.ring_machine.specs.declared.machine.Stage.{Stage}
use Rattle.ring_machine.specs.declared.machine.Stage.TheVariants.{Stopped, TakeFirst, TakeCell, ArmPending, ArmRead}
use Rattle.ring_machine.specs.Steps.{is_arming_at, is_broken, is_busy_at, is_looking_at, sleeps_at}

-- indices and lengths lie in the ring
abbrev pub fits_ring : EndMachine → Bool
fits_ring m = leb 512 m.cells && (leb m.cells 16777216 && (ltb m.write m.cells && (ltb m.read m.cells && (ltb m.start m.cells && (ltb m.seen m.cells && (ltb m.old m.cells && (ltb m.len m.cells && (ltb (m.len + 1) m.cells && (leb m.done m.len && (ltb m.want (8 * m.cells) && (leb m.room m.cells && ltb m.words m.cells)))))))))))

abbrev pub is_stopped_at : Stage → Bool
is_stopped_at Stopped = true
is_stopped_at _ = false

-- the step loads the first cell of a packet
abbrev pub is_first_at : Stage → Bool
is_first_at TakeFirst = true
is_first_at _ = false

-- the step loads a cell after a packet's first
abbrev pub is_loading_at : Stage → Bool
is_loading_at TakeCell = true
is_loading_at _ = false

-- a step of an arm that waits for room
abbrev pub is_wanting_at : Stage → Bool
is_wanting_at ArmPending = true
is_wanting_at ArmRead = true
is_wanting_at _ = false

-- the flags and counts fit the step
abbrev pub flags_fit : EndMachine → Bool
flags_fit m = (not (is_arming_at m.stage) || (m.start == m.read)) && ((not (is_looking_at m.stage) || not m.masked) && (not (is_busy_at m.stage) || not m.marked))

abbrev pub rests : EndMachine → Bool
rests m = not m.masked && ((m.start == m.read) && (sleeps_at m.stage && not m.marked))

abbrev pub counts_fit : EndMachine → Bool
counts_fit m = (not (is_first_at m.stage) || (m.done == 0)) && ((not (is_loading_at m.stage) || (ltb 0 m.done && ltb m.done m.len)) && (not (is_wanting_at m.stage) || ltb 0 m.want))

abbrev pub stops_fit : EndMachine → Bool
stops_fit m = (not (is_broken m.ended) || is_stopped_at m.stage) && (not (is_stopped_at m.stage) || is_broken m.ended)

abbrev pub fits_stage : EndMachine → Bool
fits_stage m = flags_fit m && ((not m.asleep || rests m) && (counts_fit m && stops_fit m))
