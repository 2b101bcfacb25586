-- What a worker's end knows of its channel, and what its device is asked, whatever its peer wrote.
use Rattle.std.specs.Prelude.{◌≡◌, List, Option, map, filter_map}
use Rattle.channel_trace.specs.Runs.{IsFront, got_of}
use Rattle.hist_lock.specs.Seat.{Call}
use Rattle.page_kept.specs.declared.item.Item.{Item}
use Rattle.page_kept.specs.Items.{packets}
use Rattle.ring_machine.specs.declared.machine.Stage.TheVariants.{Stopped}
use Rattle.ring_machine.specs.Endings.{why_of}
use Rattle.ring_core.specs.Seen.{Seen}
use Rattle.ring_core.specs.Told.{Tale}
use Rattle.ring_end_history.specs.Calls.{Came}
use Rattle.ring_copy_laws.specs.Copies.{BrokeLast, Copied}
use Rattle.worker_port.specs.Line.{paged_end, past_as, whole}

-- what an end got, as items that are read so
abbrev pub read_as : {S : Type 0} → (Item → Item) → Seen S → List Item
read_as f e = map f (whole e.state.got e.state.pages.got)

-- The end came from a new one by whole calls, whose steps gave all that its seat heard since. The packets that it got are the copies that the takes among these calls
-- made, in order; the items that it is said to have got are those of these packets; and where it broke, its last call loaded a value that breaks the rule that it names
pub record KnowsCopies {S : Type 0} (f : Item → Item) (tale : S → Tale) (e : Seen S) : Type 0 where
  pub first : Seen S
  pub new : first.state ≡ paged_end first.state.pages.count first.state.machine.cells first.state.machine.side
  pub came : Came tale first e
  pub copied : Copied came.calls first.state e.state e.state.got
  pub packets_are : packets (whole e.state.got e.state.pages.got) ≡ e.state.got
  pub read : got_of (past_as f e.state) ≡ read_as f e
  pub broke : e.state.machine.stage ≡ Stopped → BrokeLast came.calls first.state e.state (why_of e.state.machine)

-- and these calls of its device ask what the first of these items ask, in order, and nothing else
pub record ServesCopies {S Q A : Type 0} (read : Item → Option Q) (f : Item → Item) (tale : S → Tale) (e : Seen S) (calls : List (Call Q A)) : Type 0 where
  pub knows : KnowsCopies f tale e
  pub asked : IsFront (map (λ c. c.request) calls) (filter_map read (read_as f e))
