-- Seats of devices, and devices by how their machines work.
use Rattle.std.proofs.Common.{◌≡◌, true, Some, refl, ap, sym, ◌∙◌, subst}
use Rattle.hist_lock.specs.Seat.{Seat, IsSame}
use Rattle.contact.specs.declared.kind.DeviceKind.{DeviceKind}
use Rattle.script_lines.specs.declared.line.Ask.{Ask}
use Rattle.script_lines.specs.declared.line.DeviceSpec.TheVariants.{Disk as IsDisk, Net as IsNet}
use Rattle.bus_script.specs.declared.outcome.Reply.{Reply}
use Rattle.scsi_disk.specs.FiniteMap.{Kept, stands_for}
use Rattle.net_dev.specs.declared.station.Station.{Station}
use Rattle.device_kinds.specs.Formats.{fits_on}
use Rattle.device_kinds.specs.Logs.{served_by}
use Rattle.device_any.specs.Boxes.{Working, opened, opened_by}
use Rattle.device_any.specs.Seats.{IsSameSeat, device_place, kind_at, place_of, served_at}
use Rattle.device_any.specs.declared.device_box.DeviceBox.{DeviceBox}
use Rattle.device_any.specs.declared.device_box.DeviceBox.TheVariants.{Beat as BeatBox, Disk as DiskBox, Net as NetBox}
use Rattle.device_any.specs.declared.device_seat.DeviceSeat.{DeviceSeat}
use Rattle.device_any.specs.declared.device_seat.DeviceSeat.TheVariants.{Beat}

-- a seat that keeps its place is the same one, of the same kind
same : {S Q A : Type 0} (s t : Seat S Q A) → place_of t ≡ place_of s → IsSame s t
same s t is = record { lock = ap (λ p. p.lock) is; number = ap (λ p. p.number) is }

placed : (s : DeviceSeat) → kind_at (device_place s) ≡ kind_at s
placed (Beat s) = refl
placed _ = refl

pub same_kind : (s t : DeviceSeat) → IsSameSeat s t → kind_at t ≡ kind_at s
same_kind s t is = sym (placed t) ∙ (ap kind_at is ∙ placed s)

-- what a seat replies fits, where its device is of the kind of the protocol
pub fits_at : {s own : DeviceSeat} {kind : DeviceKind} {q ask : Ask} (r : Reply) → s ≡ own → kind_at s ≡ kind → q ≡ ask → fits_on (kind_at own) ask r ≡ true → fits_on kind q r ≡ true
fits_at {s} {own} {kind} {q} {ask} r is serves asked fits = subst (λ k. fits_on k q r ≡ true) (sym (ap kind_at is) ∙ serves) (subst (λ x. fits_on (kind_at own) x r ≡ true) (sym asked) fits)

-- what is known of a device is known so of each kind

pub boxed : (box : DeviceBox) → (opened box).box (opened box).own ≡ box
boxed (BeatBox own) = refl
boxed _ = refl

pub parts : (box : DeviceBox) → opened box ≡ (let z = opened box in opened_by z.w z.box z.spec_by z.setup_by z.own)
parts (BeatBox own) = refl
parts _ = refl

-- a seat of a kind is told by its place, and what it served stands among what all seats did
pub record IsSeating {S Q A : Type 0} (w : Working S Q A) : Type 0 where
  pub same : (s t : Seat S Q A) → IsSameSeat (w.seat s) (w.seat t) → IsSame s t
  pub served : (s : Seat S Q A) → served_at (w.seat s) ≡ served_by w.calls s.calls

pub seating : (box : DeviceBox) → IsSeating (opened box).w
seating (BeatBox own) = record { same = λ s t is. same s t cc; served = λ s. refl }
seating _ = record { same = λ s t is. same s t cc; served = λ s. refl }

-- no request changes how many blocks a disk has and which of its places are bad, nor an adapter's addresses: a device is known by the first state of its machine

pub same_spec : (box : DeviceBox) (s t : (opened box).S) → (opened box).w.first s ≡ (opened box).w.first t → (opened box).spec_by (Some s) ≡ (opened box).spec_by (Some t)
same_spec (DiskBox subs own) s t is = ap (λ (k : Kept). IsDisk k.blocks subs) is
same_spec (NetBox own) s t is = ap (λ (a : Station). IsNet a.mac a.station) is
same_spec _ s t is = refl

pub same_setup : (box : DeviceBox) (s t : (opened box).S) → (opened box).w.first s ≡ (opened box).w.first t → (opened box).setup_by (Some s) ≡ (opened box).setup_by (Some t)
same_setup (DiskBox subs own) s t is = ap (λ k. Some (stands_for k)) is
same_setup _ s t is = refl
