-- What the joined view of both ends tells.
use Rattle.std.specs.Prelude.{◌≡◌, ◌≢◌, ◌≤◌, true}
use Rattle.channel_trace.specs.Laws.{AreOfOneRun}
use Rattle.channel_trace.specs.Runs.{IsFront, sent_of, got_of}
use Rattle.io_edge.specs.declared.side.Side.TheVariants.{Guest, Host}
use Rattle.page_kept.specs.declared.due.Due.TheVariants.{Clear}
use Rattle.ring_machine.specs.declared.state.EndState.{EndState}
use Rattle.ring_core.specs.Seen.{Seen}
use Rattle.ring_core.specs.declared.told.Told.{Told}
use Rattle.ring_seat.specs.declared.table_seat.TableSeat.{TableSeat}
use Rattle.ring_seat.specs.Whole.{GotItems}
use Rattle.ring_seat.specs.declared.view.View.{View}
use Rattle.ring_seat.specs.declared.view.View.TheVariants.{Both, One, Spent}

-- Each end got the front of what the other one sent, and all of it where it is drained. What the two ends did is one run, and the lists are read off it
pub record AreSettled (g h : EndState) : Type 0 where
  pub guest_front : IsFront g.got h.sent
  pub host_front : IsFront h.got g.sent
  pub guest_drained : g.machine.drained ≡ true → g.got ≡ h.sent
  pub host_drained : h.machine.drained ≡ true → h.got ≡ g.sent
  pub run : AreOfOneRun g.past h.past
  pub guest_past : (sent_of g.past ≡ g.sent) × (got_of g.past ≡ g.got)
  pub host_past : (sent_of h.past ≡ h.sent) × (got_of h.past ≡ h.got)

-- each end took its signal at most as often as the other one raised it
pub record SignalsTaken (g h : Told) : Type 0 where
  pub guest : g.woke ≤ h.raised
  pub host : h.woke ≤ g.raised

-- In a channel with data pages, what an end got with its page words is the front of what the other one sent with theirs; and where it has nothing to load,
-- all that it got is among that, and all that was sent where it is drained
pub record PagesSettled (g h : EndState) : Type 0 where
  pub guest_front : g.pages.count ≢ 0 → IsFront g.pages.got h.pages.sent
  pub host_front : h.pages.count ≢ 0 → IsFront h.pages.got g.pages.sent
  pub guest : g.pages.count ≢ 0 → g.pages.due ≡ Clear → GotItems g h
  pub host : h.pages.count ≢ 0 → h.pages.due ≡ Clear → GotItems h g

abbrev pub IsSettled : View → Type 0
IsSettled (Both g h) = AreSettled g.state h.state × SignalsTaken g h × PagesSettled g.state h.state
IsSettled (One u) = Unit {0}
IsSettled Spent = Unit {0}

-- the guest's end and the host's end of one channel
pub record AreOfOneChannel (g h : Seen TableSeat) : Type 0 where
  pub same : g.seat.seat.table_id ≡ h.seat.seat.table_id
  pub guest : g.state.machine.side ≡ Guest
  pub host : h.state.machine.side ≡ Host

-- a later state of one and the same end
pub record IsSameEnd (old new : Seen TableSeat) : Type 0 where
  pub seat : new.seat.seat.table_id ≡ old.seat.seat.table_id
  pub side : new.state.machine.side ≡ old.state.machine.side
