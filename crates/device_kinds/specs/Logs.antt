-- Histories of all kinds of devices, as lists of one type.
use Rattle.std.specs.Prelude.{ℕ, ◌≡◌, ◌+◌, ◌==◌, List, [], ◌∷◌, ◌++◌, length, map, Result, if◌then◌else◌}
use Rattle.script_lines.specs.declared.line.Ask.{Ask}
use Rattle.script_lines.specs.declared.line.Line.{Line}
use Rattle.bus_script.specs.declared.outcome.Reply.{Reply}
use Rattle.bus_script.specs.declared.outcome.Reply.TheVariants.{Net as ReplyNet}
use Rattle.script_lines.specs.declared.line.DeviceSpec.{DeviceSpec}
use Rattle.script_lines.specs.declared.line.DeviceSpec.TheVariants.{Beat, Down, Disk, Net, Kvp}
use Rattle.script_lines.specs.Parts.{bads_of}
use Rattle.hist_lock.specs.declared.history.Entry.{Entry}
use Rattle.hist_lock.specs.Seat.{Call}
use Rattle.hist_lock.specs.Legal.{IsLegal}
use Rattle.hist_lock.specs.History.{entries_of}
use Rattle.scsi_disk.specs.DiskModel.{new_disk, disk_reply, disk_after}
use Rattle.util_ic.specs.Machines.{beat_start, beat_reply, down_start, down_reply}
use Rattle.kvp_ic.specs.Machine.{new_pools, pools_reply, pools_after}
use Rattle.rndis_msg.specs.declared.rndis.Rndis.{Rndis}
use Rattle.rndis_msg.specs.declared.fault.RndisFault.{RndisFault}
use Rattle.net_dev.specs.declared.reply.NetReply.{NetReply}
use Rattle.net_dev.specs.declared.station.Station.{Station}
use Rattle.net_dev.specs.Station.{station_reply, station_after}
use Rattle.device_wire.specs.Lifted.{Case}
use Rattle.device_kinds.specs.declared.device_step.DeviceStep.{DeviceStep}
use Rattle.device_kinds.specs.Kinds.{services, disks, pairs}
use Rattle.device_kinds.specs.Served.{Served, message_asked}
use Rattle.device_kinds.specs.declared.history.DeviceHistory.{DeviceHistory}
use Rattle.device_kinds.specs.declared.history.DeviceHistory.TheVariants.{Beat as BeatHistory, Down as DownHistory, Disk as DiskHistory, Net as NetHistory, Kvp as KvpHistory}

-- an entry of any device's history
pub record Recorded : Type 0 where
  pub seat : ℕ
  pub ask : Ask
  pub reply : Reply

-- how the calls of one kind's machine stand among those of all
pub record Logged (Q A : Type 0) : Type 0 where
  pub asked : Q → Ask
  pub told : A → Reply

-- as the requests and replies of its kind do
abbrev pub calls_of : {S Q R : Type 0} → Case S Q R DeviceStep Ask Reply → Logged Q R
calls_of c = record { asked = c.request; told = c.reply }

-- an adapter's machine is called with what is read of a message, which may be a fault
abbrev pub net_calls : Logged (Result Rndis RndisFault) NetReply
net_calls = record { asked = message_asked; told = λ r. ReplyNet r.status r.back }

-- entries of one kind's history, and the calls of a seat of its, as those of any device
abbrev pub log_by : {S Q A : Type 0} → Logged Q A → List (Entry S Q A) → List Recorded
log_by m entries = map (λ e. record { seat = e.seat; ask = m.asked e.request; reply = m.told e.reply }) entries

abbrev pub served_by : {Q A : Type 0} → Logged Q A → List (Call Q A) → List Served
served_by m calls = map (λ c. record { serial = c.serial; request = m.asked c.request; reply = m.told c.reply }) calls

abbrev pub log_of : DeviceHistory → List Recorded
log_of (BeatHistory h) = log_by (calls_of services) (entries_of h)
log_of (DownHistory h) = log_by (calls_of services) (entries_of h)
log_of (DiskHistory h) = log_by (calls_of disks) (entries_of h)
log_of (NetHistory h) = log_by net_calls (entries_of h)
log_of (KvpHistory h) = log_by (calls_of pairs) (entries_of h)

-- what a seat served, where the first entry has this place
abbrev pub served_from : ℕ → ℕ → List Recorded → List Served
served_from seat n [] = []
served_from seat n (e ∷ es) = if e.seat == seat then record { serial = n; request = e.ask; reply = e.reply } ∷ served_from seat (n + 1) es else served_from seat (n + 1) es

-- the seats from one on served these, where the first entry has this place
abbrev pub EachSeat : ℕ → ℕ → List Recorded → List (List Served) → Type 0
EachSeat seat n more [] = Unit {0}
EachSeat seat n more (s ∷ served) = (served_from seat n more ≡ s) × EachSeat (seat + 1) n more served

-- how many requests were served in all
abbrev pub total : List (List Served) → ℕ
total [] = 0
total (s ∷ served) = length s + total served

-- a history goes on with what the device's seats served, and with nothing else
pub record Grows (before after : List Recorded) (served : List (List Served)) : Type 0 where
  pub more : List Recorded
  pub after_is : after ≡ before ++ more
  pub seats : EachSeat 0 (length before) more served
  pub all : length more ≡ total served

-- an adapter with its address and the station's, and packet filter 0
abbrev pub new_station : List ℕ → List ℕ → Station
new_station mac station = record { mac = mac; station = station; filter = 0 }

-- The history is legal for the device's machine, from its first state: a disk's blocks are zero, and these places are bad, and no pool of a key-value service has a pair. A
-- disk's states are those of its model, all of its blocks.
abbrev pub IsHistory : DeviceSpec → List ℕ → DeviceHistory → Type 0
IsHistory Beat bad (BeatHistory h) = IsLegal (λ s q. s) (λ s q. beat_reply q) beat_start (entries_of h)
IsHistory Down bad (DownHistory h) = IsLegal (λ s q. s) (λ s q. down_reply q) down_start (entries_of h)
IsHistory (Disk blocks subs) bad (DiskHistory h) = IsLegal disk_after disk_reply (new_disk blocks bad) (entries_of h)
IsHistory (Net mac station) bad (NetHistory h) = IsLegal station_after station_reply (new_station mac station) (entries_of h)
IsHistory Kvp bad (KvpHistory h) = IsLegal pools_after pools_reply new_pools (entries_of h)
IsHistory _ bad _ = ⊥

-- one for each device from one on, in order of offer
abbrev pub EachHistory : List Line → ℕ → List DeviceSpec → List DeviceHistory → Type 0
EachHistory lines device [] [] = Unit {0}
EachHistory lines device [] (h ∷ histories) = ⊥
EachHistory lines device (k ∷ kinds) [] = ⊥
EachHistory lines device (k ∷ kinds) (h ∷ histories) = IsHistory k (bads_of device lines) h × EachHistory lines (device + 1) kinds histories
