-- The seat of a device at its channel.
use Rattle.std.specs.Prelude.{ℕ, ◌≡◌, List, []}
use Rattle.device_kinds.specs.Served.{Served}
use Rattle.device_kinds.specs.Kinds.{services, disks, pairs}
use Rattle.device_kinds.specs.Logs.{Logged, calls_of, net_calls, served_by}
use Rattle.contact.specs.declared.kind.DeviceKind.{DeviceKind}
use Rattle.contact.specs.declared.kind.DeviceKind.TheVariants.{Beat as KindBeat, Down as KindDown, Disk as KindDisk, Net as KindNet, Kvp as KindKvp}
use Rattle.hist_lock.specs.Seat.{Seat}
use Rattle.device_any.specs.declared.device_seat.DeviceSeat.{DeviceSeat}
use Rattle.device_any.specs.declared.device_seat.DeviceSeat.TheVariants.{Beat, Down, Disk, Net, Kvp}

-- where a seat is: its lock and its number, before any call and with none left. A seat keeps it whatever it is called with
abbrev pub place_of : {S Q A : Type 0} → Seat S Q A → Seat S Q A
place_of s = record { lock = s.lock; number = s.number; left = 0; calls = [] }

-- what is told of a seat: the kind of its device, its place, what it served, and how many calls it may still make
pub record Sitting : Type 0 where
  pub kind : DeviceKind
  pub place : DeviceSeat
  pub served : List Served
  pub left : ℕ

abbrev pub sitting_by : {S Q A : Type 0} → DeviceKind → (Seat S Q A → DeviceSeat) → Logged Q A → Seat S Q A → Sitting
sitting_by kind seat calls s = record { kind = kind; place = seat (place_of s); served = served_by calls s.calls; left = s.left }

abbrev pub sitting : DeviceSeat → Sitting
sitting (Beat s) = sitting_by KindBeat Beat (calls_of services) s
sitting (Down s) = sitting_by KindDown Down (calls_of services) s
sitting (Disk s) = sitting_by KindDisk Disk (calls_of disks) s
sitting (Net s) = sitting_by KindNet Net net_calls s
sitting (Kvp s) = sitting_by KindKvp Kvp (calls_of pairs) s

abbrev pub kind_at : DeviceSeat → DeviceKind
kind_at s = (sitting s).kind

abbrev pub device_place : DeviceSeat → DeviceSeat
device_place s = (sitting s).place

abbrev pub served_at : DeviceSeat → List Served
served_at s = (sitting s).served

abbrev pub left_at : DeviceSeat → ℕ
left_at s = (sitting s).left

-- a later state of the same seat
abbrev pub IsSameSeat : DeviceSeat → DeviceSeat → Type 0
IsSameSeat s t = device_place t ≡ device_place s
