-- The side of a device's seat, and the seats at a guest's and a host's end.
use Rattle.std.specs.Prelude.{◌≡◌, Option, Some, None}
use Rattle.device_any.specs.Seats.{device_place}
use Rattle.device_any.specs.declared.device_seat.DeviceSeat.{DeviceSeat}
use Rattle.device_any.specs.declared.device_seat.DeviceSeat.TheVariants.{Beat, Down, Disk, Net, Kvp}
use Rattle.worker_pair.specs.declared.guest_seat.GuestSeat.{GuestSeat}
use Rattle.worker_pair.specs.declared.guest_seat.GuestSeat.TheVariants.{None as NoGuest, Beat as GuestBeat, Down as GuestDown, Kvp as GuestKvp}
use Rattle.worker_pair.specs.declared.host_seat.HostSeat.{HostSeat}
use Rattle.worker_pair.specs.declared.host_seat.HostSeat.TheVariants.{None as NoHost, Disk as HostDisk, Net as HostNet}
use Rattle.io_edge.specs.declared.side.Side.{Side}
use Rattle.io_edge.specs.declared.side.Side.TheVariants.{Guest, Host}

-- the side whose device it is: the services are the guest's, and the disks and the adapters are the host's
abbrev pub side_in : DeviceSeat → Side
side_in (Disk p) = Host
side_in (Net p) = Host
side_in _ = Guest

-- no seat, or one of a device of this side
abbrev pub IsAt : Side → Option DeviceSeat → Type 0
IsAt side None = Unit {0}
IsAt side (Some s) = side_in (device_place s) ≡ side

-- a guest's seat as one of any device
abbrev pub at_guest : GuestSeat → Option DeviceSeat
at_guest NoGuest = None
at_guest (GuestBeat s) = Some (Beat s)
at_guest (GuestDown s) = Some (Down s)
at_guest (GuestKvp s) = Some (Kvp s)

-- and a host's
abbrev pub at_host : HostSeat → Option DeviceSeat
at_host NoHost = None
at_host (HostDisk s) = Some (Disk s)
at_host (HostNet s) = Some (Net s)
