-- The two workers of a channel are made.
use Rattle.std.proofs.Common.{◌≡◌, ℕ, length, [], Some, None, refl, ap, sym, subst, ◌∙◌}
use Rattle.script_lines.specs.declared.line.Ask.{Ask}
use Rattle.bus_script.specs.declared.outcome.Reply.{Reply}
use Rattle.device_kinds.specs.Formats.{ChannelScript}
use Rattle.device_wire.specs.declared.buffer_lists.BufferLists.{BufferLists}
use Rattle.bus_model.specs.Orders.{Order}
use Rattle.io_edge.specs.declared.side.Side.{Side}
use Rattle.io_edge.specs.declared.side.Side.TheVariants.{Guest, Host}
use Rattle.worker_requester.specs.Asking.{Asking}
use Rattle.ring_core.specs.Seen.{Seen}
use Rattle.ring_machine.specs.declared.state.EndState.{EndState}
use Rattle.ring_seat.specs.Whole.{new_paged}
use Rattle.ring_seat.specs.declared.table_seat.TableSeat.{TableSeat}
use Rattle.worker_server.specs.Serving.{Serving}
use Rattle.channel_model.specs.Channel.{count_of, held_of}
use Rattle.channel_model.specs.Roles.{side_that_asks}
use Rattle.worker_pair.specs.Pairs.{AreMadeAt}
use Rattle.worker_pair.specs.Plans.{AsksFor, IsMade, Planned, ServesFor}
use Rattle.device_any.specs.Seats.{served_at}
use Rattle.worker_pair.specs.Workers.{end_at, relid_at, HasWindow}
use Rattle.device_any.specs.declared.device_seat.DeviceSeat.{DeviceSeat}
use Rattle.worker_pair.specs.declared.worker.Worker.{Worker}
use Rattle.worker_pair.specs.declared.worker.Worker.TheVariants.{Asks, Serves}
use Rattle.bus_threads.specs.Pairs.{Pairing, AreOnChannel, MadeFor, Opens, OpensAt, lists_of, told_lists}

-- what a plan orders of a channel
abbrev pub ordered : Planned → Order
ordered p = record { kind = p.kind; sub = p.sub; subs = p.subs; asks = p.asks; stop = p.stop }

-- workers that were made for it were made for that order
made_for : (p : Planned) (seat : DeviceSeat) (a : Asking ChannelScript TableSeat Reply) (s : Serving ChannelScript DeviceSeat TableSeat Ask Reply) → p.count ≡ length p.asks → served_at seat ≡ [] → AsksFor p a → ServesFor p seat s → MadeFor (ordered p) seat [] a s
made_for p seat a s count fresh asked served = record {
  can = asked.can;
  protocol = asked.protocol ∙ ap (λ (l : BufferLists). record { kind = p.kind; sub = p.sub; subs = p.subs; lists = l; asks = p.asks }) (sym (ap (λ (t : ChannelScript). t.lists) asked.protocol));
  answers = served.answers;
  seat_is = served.seat_is;
  before = served.before ∙ fresh;
  serve = served.serve ∙ ap (count_of p.stop) count;
  held = served.held ∙ ap (held_of p.stop) count;
  stops = served.stops;
  starts = served.starts;
}

opens_at : (side : Side) (p : Planned) (seat : DeviceSeat) (guest host : Worker) → side_that_asks p.kind ≡ side → p.count ≡ length p.asks → served_at seat ≡ [] → AreMadeAt side p seat guest host → OpensAt (ordered p) seat [] guest host
opens_at Guest p seat (Asks a) (Asks b) is count fresh made = absurd made.1
opens_at Guest p seat (Asks a) (Serves s) is count fresh made = (is, made_for p seat a s count fresh made.0 made.1)
opens_at Guest p seat (Serves s) host is count fresh made = absurd made.0
opens_at Host p seat (Asks a) host is count fresh made = absurd made.0
opens_at Host p seat (Serves s) (Asks a) is count fresh made = (is, made_for p seat a s count fresh made.1 made.0)
opens_at Host p seat (Serves s) (Serves t) is count fresh made = absurd made.1

pub opens : (p : Planned) (seat : DeviceSeat) (pair : Pairing) → p.count ≡ length p.asks → served_at seat ≡ [] → AreMadeAt (side_that_asks p.kind) p seat pair.guest pair.host → Opens (ordered p) seat pair
opens p seat pair count fresh made = opens_at (side_that_asks p.kind) p seat pair.guest pair.host refl count fresh made

-- and tell its page lists
told_at_side : (side : Side) (p : Planned) (seat : DeviceSeat) (guest host : Worker) → AreMadeAt side p seat guest host → told_lists guest host ≡ p.lists
told_at_side Guest p seat (Asks a) (Asks b) made = absurd made.1
told_at_side Guest p seat (Asks a) (Serves s) made = ap (λ (t : ChannelScript). t.lists) made.0.protocol
told_at_side Guest p seat (Serves s) host made = absurd made.0
told_at_side Host p seat (Asks a) host made = absurd made.0
told_at_side Host p seat (Serves s) (Asks a) made = ap (λ (t : ChannelScript). t.lists) made.1.protocol
told_at_side Host p seat (Serves s) (Serves t) made = absurd made.1

pub told_on : (p : Planned) (seat : DeviceSeat) (pair : Pairing) → AreMadeAt (side_that_asks p.kind) p seat pair.guest pair.host → lists_of pair ≡ p.lists
told_on p seat pair made = told_at_side (side_that_asks p.kind) p seat pair.guest pair.host made

-- in their pair they were made for it too
pub made_as : (p : Planned) (seat : DeviceSeat) (guest host : Worker) (pair : Pairing) → (pair.guest ≡ guest) × (pair.host ≡ host) → AreMadeAt (side_that_asks p.kind) p seat guest host → AreMadeAt (side_that_asks p.kind) p seat pair.guest pair.host
made_as p seat guest host pair is made = subst (λ w. AreMadeAt (side_that_asks p.kind) p seat w pair.host) (sym is.0) (subst (AreMadeAt (side_that_asks p.kind) p seat guest) (sym is.1) made)

-- a worker has the relid of its plan, and its window
has_relid : (p : Planned) (seat : DeviceSeat) (asks serves : Worker) → IsMade p None asks → IsMade p (Some seat) serves → (relid_at asks ≡ p.relid) × (relid_at serves ≡ p.relid)
has_relid p seat (Asks a) (Asks b) asked served = absurd served
has_relid p seat (Asks a) (Serves s) asked served = (asked.relid, served.relid)
has_relid p seat (Serves s) serves asked served = absurd asked

has_window : (p : Planned) (seat : DeviceSeat) (asks serves : Worker) → IsMade p None asks → IsMade p (Some seat) serves → HasWindow p.window asks × HasWindow p.window serves
has_window p seat (Asks a) (Asks b) asked served = absurd served
has_window p seat (Asks a) (Serves s) asked served = (asked.window, tt)
has_window p seat (Serves s) serves asked served = absurd asked

-- the rings have as many cells as the new ends
cells_are : (e : Seen TableSeat) (cells pages : ℕ) (side : Side) (w : Worker) → e.state ≡ new_paged cells pages side → (end_at w).state ≡ e.state → (end_at w).state.machine.cells ≡ cells
cells_are e cells pages side w new at = ap (λ (s : EndState). s.machine.cells) (at ∙ new)

pages_are : (e : Seen TableSeat) (cells pages : ℕ) (side : Side) (w : Worker) → e.state ≡ new_paged cells pages side → (end_at w).state ≡ e.state → (end_at w).state.pages.count ≡ pages
pages_are e cells pages side w new at = ap (λ (s : EndState). s.pages.count) (at ∙ new)

on_channel_at : (side : Side) (p : Planned) (seat : DeviceSeat) (cells pages : ℕ) (g h : Seen TableSeat) (pair : Pairing) → g.state ≡ new_paged cells pages Guest → h.state ≡ new_paged cells pages Host
    → ((end_at pair.guest).state ≡ g.state) × ((end_at pair.host).state ≡ h.state) → AreMadeAt side p seat pair.guest pair.host → AreOnChannel p.relid cells pages p.window pair
on_channel_at Guest p seat cells pages g h pair g_new h_new at made =
    let relids = has_relid p seat pair.guest pair.host made.0 made.1 in
    let windows = has_window p seat pair.guest pair.host made.0 made.1 in
    record {
      guest_relid = relids.0;
      host_relid = relids.1;
      guest_cells = cells_are g cells pages Guest pair.guest g_new at.0;
      host_cells = cells_are h cells pages Host pair.host h_new at.1;
      guest_pages = pages_are g cells pages Guest pair.guest g_new at.0;
      host_pages = pages_are h cells pages Host pair.host h_new at.1;
      guest_window = windows.0;
      host_window = windows.1;
    }
on_channel_at Host p seat cells pages g h pair g_new h_new at made =
    let relids = has_relid p seat pair.host pair.guest made.1 made.0 in
    let windows = has_window p seat pair.host pair.guest made.1 made.0 in
    record {
      guest_relid = relids.1;
      host_relid = relids.0;
      guest_cells = cells_are g cells pages Guest pair.guest g_new at.0;
      host_cells = cells_are h cells pages Host pair.host h_new at.1;
      guest_pages = pages_are g cells pages Guest pair.guest g_new at.0;
      host_pages = pages_are h cells pages Host pair.host h_new at.1;
      guest_window = windows.1;
      host_window = windows.0;
    }

pub on_channel : (p : Planned) (seat : DeviceSeat) (cells pages : ℕ) (g h : Seen TableSeat) (pair : Pairing) → g.state ≡ new_paged cells pages Guest → h.state ≡ new_paged cells pages Host
    → ((end_at pair.guest).state ≡ g.state) × ((end_at pair.host).state ≡ h.state) → AreMadeAt (side_that_asks p.kind) p seat pair.guest pair.host → AreOnChannel p.relid cells pages p.window pair
on_channel p seat cells pages g h pair g_new h_new at made = on_channel_at (side_that_asks p.kind) p seat cells pages g h pair g_new h_new at made
