-- The two workers of a channel.
use Rattle.std.specs.Prelude.{ℕ, ◌≡◌, ◌≤◌, ◌+◌, false, List, [], length, Option, None, Some}
use Rattle.io_edge.specs.declared.side.Side.{Side}
use Rattle.io_edge.specs.declared.side.Side.TheVariants.{Guest, Host}
use Rattle.ring_core.specs.Seen.{Seen}
use Rattle.worker_port.specs.Line.{paged_end}
use Rattle.contact.specs.declared.kind.DeviceKind.{DeviceKind}
use Rattle.contact.specs.declared.kind.DeviceKind.TheVariants.{Disk, Net}
use Rattle.ring_seat.specs.declared.table_seat.TableSeat.{TableSeat}
use Rattle.script_lines.specs.declared.line.Ask.{Ask}
use Rattle.bus_script.specs.declared.outcome.Reply.{Reply}
use Rattle.device_kinds.specs.Formats.{ChannelScript, asks_of}
use Rattle.ring_seat.specs.Settling.{AreOfOneChannel}
use Rattle.worker_requester.specs.Asking.{Asking}
use Rattle.worker_server.specs.Serving.{Serving}
use Rattle.worker_pair.specs.Plans.{Planned, IsMade}
use Rattle.worker_pair.specs.Workers.{end_at, IsLive}
use Rattle.device_any.specs.declared.device_seat.DeviceSeat.{DeviceSeat}
use Rattle.worker_pair.specs.declared.worker.Worker.{Worker}
use Rattle.worker_pair.specs.declared.worker.Worker.TheVariants.{Asks, Serves}

-- what the one asks is what the other one made room for, and has calls for, unless it stops before: they are of one kind of device
pub record PlansAgree (a : Asking ChannelScript TableSeat Reply) (s : Serving ChannelScript DeviceSeat TableSeat Ask Reply) : Type 0 where
  pub kind : a.protocol.kind ≡ s.responder.protocol.kind
  pub room : length (asks_of a.protocol) ≤ s.starts + s.come
  pub calls : s.stops ≡ false → length a.protocol.asks ≤ s.serve

-- one asks and the other serves
abbrev pub AreRoles : Worker → Worker → Type 0
AreRoles (Asks a) (Asks b) = ⊥
AreRoles (Asks a) (Serves s) = PlansAgree a s
AreRoles (Serves s) (Asks a) = PlansAgree a s
AreRoles (Serves s) (Serves t) = ⊥

-- the guest's worker and the host's worker of one channel: they have its two ends, of as many data pages, neither has ended, and their plans agree
pub record ArePair (guest host : Worker) : Type 0 where
  pub ends : AreOfOneChannel (end_at guest) (end_at host)
  pub pages : (end_at guest).state.pages.count ≡ (end_at host).state.pages.count
  pub guest_live : IsLive guest
  pub host_live : IsLive host
  pub roles : AreRoles guest host

-- both were made for one plan: the one at the side that asks, and the other one with this seat
abbrev pub AreMadeAt : Side → Planned → DeviceSeat → Worker → Worker → Type 0
AreMadeAt Guest p seat guest host = IsMade p None guest × IsMade p (Some seat) host
AreMadeAt Host p seat guest host = IsMade p (Some seat) guest × IsMade p None host

-- what the worker of a side is made with, where this other side asks: the requests where it is the same, and else the seat
abbrev pub dealt : Side → Side → DeviceSeat → List Ask → Option DeviceSeat × List Ask
dealt Guest Guest seat asks = (None, asks)
dealt Guest Host seat asks = (Some seat, [])
dealt Host Guest seat asks = (Some seat, [])
dealt Host Host seat asks = (None, asks)

-- how many data pages a channel has on which so many requests can be open: a disk's has one for each, and a network's all 128, the guest's 64 before the host's. A service's has none
abbrev pub pages_on : DeviceKind → ℕ → ℕ
pages_on Disk window = window
pages_on Net window = 128
pages_on _ window = 0

-- a new end of this side, of rings of 1 to 16 pages and of so many data pages
abbrev pub IsNewEnd : Side → ℕ → Seen TableSeat → Type 0
IsNewEnd side pages e = (cells : ℕ) × (512 ≤ cells) × (cells ≤ 16777216) × (e.state ≡ paged_end pages cells side)
