-- A device between the phases of a script, and in one.
use Rattle.std.specs.Prelude.{ℕ, ◌≡◌, List, [], ◌∷◌, map, Bool, true, Option, Some, None, Result, if◌then◌else◌}
use Rattle.std.specs.Option.{option_map, option_map_or}
use Rattle.contact.specs.declared.kind.DeviceKind.{DeviceKind}
use Rattle.device_kinds.specs.Served.{Served}
use Rattle.device_kinds.specs.Kinds.{services, disks as disk_case, pairs as pair_case}
use Rattle.device_kinds.specs.Logs.{Recorded, Logged, Grows, calls_of, net_calls, log_by}
use Rattle.script_lines.specs.Parts.{kind_of}
use Rattle.script_phases.specs.Openings.{subs_of}
use Rattle.script_lines.specs.declared.line.DeviceSpec.{DeviceSpec}
use Rattle.script_lines.specs.declared.line.DeviceSpec.TheVariants.{Beat, Down, Disk, Net, Kvp}
use Rattle.hist_lock.specs.Seat.{Seat}
use Rattle.scsi_disk.specs.DiskModel.{DiskState, new_disk, disk_reply}
use Rattle.scsi_disk.specs.FiniteMap.{Kept, unwritten, kept_after, stands_for}
use Rattle.scsi_disk.specs.declared.request.DiskRequest.{DiskRequest}
use Rattle.scsi_disk.specs.declared.reply.DiskReply.{DiskReply}
use Rattle.util_ic.specs.Machines.{beat_start, beat_reply, down_start, down_reply}
use Rattle.util_ic.specs.declared.beat.BeatMachine.{BeatMachine}
use Rattle.util_ic.specs.declared.down.DownMachine.{DownMachine}
use Rattle.util_ic.specs.declared.ic.IcAsk.{IcAsk}
use Rattle.util_ic.specs.declared.ic.IcAnswer.{IcAnswer}
use Rattle.kvp_pool.specs.Pools.{Pairs}
use Rattle.kvp_ic.specs.declared.message.Kvp.{Kvp as Message}
use Rattle.kvp_ic.specs.declared.message.KvpReply.{KvpReply}
use Rattle.kvp_ic.specs.Machine.{new_pools, pools_after, pools_reply}
use Rattle.rndis_msg.specs.declared.rndis.Rndis.{Rndis}
use Rattle.rndis_msg.specs.declared.fault.RndisFault.{RndisFault}
use Rattle.net_dev.specs.declared.reply.NetReply.{NetReply}
use Rattle.net_dev.specs.declared.station.Station.{Station}
use Rattle.net_dev.specs.Station.{unfiltered, station_after, station_reply}
use Rattle.device_any.specs.MachineBoxes.{AreSeatsOf, CanUnite, IsWhole, Unites, is_shared, own_seats, past_in, state_in}
use Rattle.device_any.specs.Seats.{IsSameSeat}
use Rattle.device_any.specs.declared.device_seat.DeviceSeat.{DeviceSeat}
use Rattle.device_any.specs.declared.device_seat.DeviceSeat.TheVariants.{Beat as BeatSeat, Down as DownSeat, Disk as DiskSeat, Net as NetSeat, Kvp as KvpSeat}
use Rattle.device_any.specs.declared.device_box.DeviceBox.{DeviceBox}
use Rattle.device_any.specs.declared.device_box.DeviceBox.TheVariants.{Beat as BeatBox, Down as DownBox, Disk as DiskBox, Net as NetBox, Kvp as KvpBox}
use Rattle.device_any.specs.declared.machine_box.MachineBox.{MachineBox}

-- how the machine of a kind works, its seats and its calls among those of all, and the machine of this kind that is found in a device
pub record Working (S Q A : Type 0) : Type 0 where
  pub first : S → S
  pub after : S → Q → S
  pub reply_to : S → Q → A
  pub calls : Logged Q A
  pub seat : Seat S Q A → DeviceSeat
  pub found : DeviceBox → Option (MachineBox S Q A)

abbrev pub beats : Working BeatMachine IcAsk IcAnswer
beats = record { first = λ s. beat_start; after = λ s q. s; reply_to = λ s q. beat_reply q; calls = calls_of services; seat = BeatSeat; found = elim [ BeatBox own ↦ Some own | _ ↦ None ] }

abbrev pub downs : Working DownMachine IcAsk IcAnswer
downs = record { first = λ s. down_start; after = λ s q. s; reply_to = λ s q. down_reply q; calls = calls_of services; seat = DownSeat; found = elim [ DownBox own ↦ Some own | _ ↦ None ] }

abbrev pub disks : Working Kept DiskRequest DiskReply
disks = record { first = unwritten; after = kept_after; reply_to = λ s q. disk_reply (stands_for s) q; calls = calls_of disk_case; seat = DiskSeat; found = elim [ DiskBox subs own ↦ Some own | _ ↦ None ] }

abbrev pub nets : Working Station (Result Rndis RndisFault) NetReply
nets = record { first = unfiltered; after = station_after; reply_to = station_reply; calls = net_calls; seat = NetSeat; found = elim [ NetBox own ↦ Some own | _ ↦ None ] }

abbrev pub pairs : Working (List Pairs) Message KvpReply
pairs = record { first = λ s. new_pools; after = pools_after; reply_to = pools_reply; calls = calls_of pair_case; seat = KvpSeat; found = elim [ KvpBox own ↦ Some own | _ ↦ None ] }

-- its machine stands here whole: its history is legal, and leaves its state
abbrev pub IsKeptBy : {S Q A : Type 0} → Working S Q A → MachineBox S Q A → Type 0
IsKeptBy w own = IsWhole w.first w.after w.reply_to own

-- new seats of its machine's history, one for each of these quotas
abbrev pub AreSeatsBy : {S Q A : Type 0} → Working S Q A → MachineBox S Q A → List ℕ → List DeviceSeat → Type 0
AreSeatsBy {S} {Q} {A} w own quotas seats = (mine : List (Seat S Q A)) × (seats ≡ map w.seat mine) × AreSeatsOf w.first own quotas mine

-- its machine is whole again, where it was open, and else as it was
abbrev pub UnitesBy : {S Q A : Type 0} → Working S Q A → MachineBox S Q A → MachineBox S Q A → Type 0
UnitesBy w old new = Unites w.first w.after w.reply_to old new

-- so is the machine that is found
abbrev pub UnitesWith : {S Q A : Type 0} → Working S Q A → MachineBox S Q A → Option (MachineBox S Q A) → Type 0
UnitesWith w old None = ⊥
UnitesWith w old (Some new) = UnitesBy w old new

-- A device by its machine: how this works, the device of a machine like it, and what the device is and which disk it was at first, by the machine where it stands here; and what is told of the device
pub record Opened : Type 1 where
  pub S : Type 0
  pub Q : Type 0
  pub A : Type 0
  pub w : Working S Q A
  pub box : MachineBox S Q A → DeviceBox
  pub spec_by : Option S → DeviceSpec
  pub setup_by : Option S → Option DiskState
  pub own : MachineBox S Q A
  pub spec : DeviceSpec
  pub setup : Option DiskState
  pub is_open : Bool
  pub log : List Recorded
  pub seats : List DeviceSeat
  pub Kept : Type 0
  pub SeatsFor : List ℕ → List DeviceSeat → Type 0
  pub CanUnite : Type 0
  pub Unites : DeviceBox → Type 0

abbrev pub opened_by : {S Q A : Type 0} → Working S Q A → (MachineBox S Q A → DeviceBox) → (Option S → DeviceSpec) → (Option S → Option DiskState) → MachineBox S Q A → Opened
opened_by {S} {Q} {A} w box spec_by setup_by own = record {
  S = S;
  Q = Q;
  A = A;
  w = w;
  box = box;
  spec_by = spec_by;
  setup_by = setup_by;
  own = own;
  spec = spec_by (state_in own);
  setup = setup_by (state_in own);
  is_open = is_shared own;
  log = log_by w.calls (past_in own);
  seats = map w.seat (own_seats own);
  Kept = IsKeptBy w own;
  SeatsFor = AreSeatsBy w own;
  CanUnite = CanUnite own;
  Unites = λ new. UnitesWith w own (w.found new);
}

abbrev pub opened_disk : ℕ → MachineBox Kept DiskRequest DiskReply → Opened
opened_disk subs own = opened_by disks (DiskBox subs) (λ s. Disk (option_map_or (λ k. k.blocks) s 0) subs) (option_map (λ k. stands_for (unwritten k))) own

abbrev pub opened : DeviceBox → Opened
opened (BeatBox own) = opened_by beats BeatBox (λ s. Beat) (λ s. None) own
opened (DownBox own) = opened_by downs DownBox (λ s. Down) (λ s. None) own
opened (DiskBox subs own) = opened_disk subs own
opened (NetBox own) = opened_by nets NetBox (λ s. Net (option_map_or (λ a. a.mac) s []) (option_map_or (λ a. a.station) s [])) (λ s. None) own
opened (KvpBox own) = opened_by pairs KvpBox (λ s. Kvp) (λ s. None) own

-- what the device is, where it stands here whole; of its kind and of its channels all is known, wherever it is
abbrev pub spec_of : DeviceBox → DeviceSpec
spec_of box = (opened box).spec

-- how many channels it has beside the first one
abbrev pub subs_in : DeviceBox → ℕ
subs_in box = subs_of (spec_of box)

-- its channels have it
abbrev pub is_open : DeviceBox → Bool
is_open box = (opened box).is_open

abbrev pub IsOpen : DeviceBox → Type 0
IsOpen box = is_open box ≡ true

-- its kind, while its channels have it
abbrev pub kind_in : DeviceBox → Option DeviceKind
kind_in box = if is_open box then Some (kind_of (spec_of box)) else None

-- what it served
abbrev pub box_log : DeviceBox → List Recorded
box_log box = (opened box).log

-- the seats that stand here, in order
abbrev pub seats_in : DeviceBox → List DeviceSeat
seats_in box = (opened box).seats

-- the disk that it was at first, if it is one
abbrev pub setup_of : DeviceBox → Option DiskState
setup_of box = (opened box).setup

-- the disk that a device is at first: all zero, with these bad places
abbrev pub setup_for : DeviceSpec → List ℕ → Option DiskState
setup_for (Disk blocks subs) bad = Some (new_disk blocks bad)
setup_for _ bad = None

-- it stands here whole
abbrev pub IsKept : DeviceBox → Type 0
IsKept box = (opened box).Kept

-- a device like this, with these bad places, that has served nothing
pub record IsFresh (spec : DeviceSpec) (bad : List ℕ) (box : DeviceBox) : Type 0 where
  pub spec_is : spec_of box ≡ spec
  pub setup : setup_of box ≡ setup_for spec bad
  pub log : box_log box ≡ []
  pub kept : IsKept box

-- new seats of this device's history, one for each of these quotas
abbrev pub AreSeatsFor : DeviceBox → List ℕ → List DeviceSeat → Type 0
AreSeatsFor box = (opened box).SeatsFor

-- none of its seats stands here, or all do
abbrev pub CanUniteBox : DeviceBox → Type 0
CanUniteBox box = (opened box).CanUnite

-- it is whole again, where it was open, and else as it was
abbrev pub UnitesBox : DeviceBox → DeviceBox → Type 0
UnitesBox old new = (subs_in new ≡ subs_in old) × (opened old).Unites new

-- P of the items of two lists, one by one
abbrev pub EachWith : {A B : Type 0} → (A → B → Type 0) → List A → List B → Type 0
EachWith P [] [] = Unit {0}
EachWith P (x ∷ xs) (y ∷ ys) = P x y × EachWith P xs ys
EachWith P _ _ = ⊥

-- a device whose channels gave their seats back, all of them after their calls: it had these quotas, and gave these seats. Where it had no channel it stays
abbrev pub ComesBack : DeviceBox → List ℕ → List DeviceSeat → DeviceBox → Type 0
ComesBack old [] given held = (held ≡ old) × IsKept old
ComesBack old (q ∷ quotas) given held =
    (kind_of (spec_of held) ≡ kind_of (spec_of old)) × (subs_in held ≡ subs_in old) × AreSeatsFor old (q ∷ quotas) given × EachWith IsSameSeat given (seats_in held)

-- the same device later: its history went on with what its seats served
pub record GoesOn (old new : DeviceBox) (seats : List (List Served)) : Type 0 where
  pub grows : Grows (box_log old) (box_log new) seats
  pub spec : spec_of new ≡ spec_of old
  pub setup : setup_of new ≡ setup_of old
  pub kept : IsKept new
