-- A new end, by the side and the data pages that it has.
use Rattle.std.proofs.Common.{◌≡◌, ◌≢◌, ◌≤◌, ℕ, true, false, Some, refl, ap, sym, subst, ◌∙◌, arith}
use Rattle.io_edge.specs.declared.side.Side.{Side}
use Rattle.io_edge.specs.declared.side.Side.TheVariants.{Guest, Host}
use Rattle.contact.specs.declared.kind.DeviceKind.{DeviceKind}
use Rattle.contact.specs.declared.kind.DeviceKind.TheVariants.{Disk, Net}
use Rattle.channel_model.specs.Roles.{side_that_asks}
use Rattle.device_any.specs.Seats.{device_place, kind_at}
use Rattle.device_any.specs.declared.device_seat.DeviceSeat.{DeviceSeat}
use Rattle.device_any.specs.declared.device_seat.DeviceSeat.TheVariants.{Disk as DiskSeat, Net as NetSeat}
use Rattle.device_kinds.specs.Formats.{besides_on, lends_on}
use Rattle.ring_core.specs.Seen.{Seen}
use Rattle.ring_core.specs.declared.told.Told.{Told}
use Rattle.ring_seat.specs.Lawful.{Lawfully}
use Rattle.ring_seat.specs.Seats.{told_in}
use Rattle.ring_seat.specs.declared.table_seat.TableSeat.{TableSeat}
use Rattle.worker_port.specs.Line.{paged_end}
use Rattle.worker_requester.specs.Asking.{FitsPages}
use Rattle.worker_server.specs.Sheets.{TellsLawful}
use Rattle.worker_pair.specs.Pairs.{IsNewEnd, pages_on}
use Rattle.worker_pair.specs.Seats.{side_in}

-- an end of some rings
module _ (e : Seen TableSeat) (side : Side) (n : ℕ) (new : IsNewEnd side n e) where
  pub fresh : e.state ≡ paged_end n e.state.machine.cells side
  fresh = new.3 ∙ ap (λ s. paged_end n s.machine.cells side) (sym new.3)

  pub its_size : (512 ≤ e.state.machine.cells) × (e.state.machine.cells ≤ 16777216)
  its_size =
      let cells : e.state.machine.cells ≡ new.0 = ap (λ s. s.machine.cells) new.3 in
      (omega (arith, cells, new.1), omega (arith, cells, new.2))

-- the pages of a channel, by its kind
none_on : (kind : DeviceKind) (window : ℕ) → lends_on kind ≡ false → pages_on kind window ≡ 0
none_on Disk window none = absurd (cc)
none_on Net window none = absurd (cc)
none_on _ window none = refl

-- there is one for each request that can be open
each_on : (kind : DeviceKind) (window : ℕ) → window ≤ 64 → lends_on kind ≡ true → window ≤ pages_on kind window
each_on Disk window few lends = omega arith
each_on Net window few lends = omega (arith, few)
each_on _ window few lends = absurd (cc)

-- and the host's 64 behind the guest's, where it sends messages
all_on : (kind : DeviceKind) (window : ℕ) → besides_on kind ≡ true → 128 ≤ pages_on kind window
all_on Net window besides = omega arith
all_on _ window besides = absurd (cc)

-- a device stands at the side that doesn't ask on its channels
host_place : (s : DeviceSeat) → side_that_asks (kind_at s) ≡ Guest → side_in (device_place s) ≡ Host
host_place (DiskSeat s) asks = refl
host_place (NetSeat s) asks = refl
host_place _ asks = absurd (cc)

guest_place : (s : DeviceSeat) → side_that_asks (kind_at s) ≡ Host → side_in (device_place s) ≡ Guest
guest_place (DiskSeat s) asks = absurd (cc)
guest_place (NetSeat s) asks = absurd (cc)
guest_place _ asks = refl

pub host_has : (s : DeviceSeat) (kind : DeviceKind) → kind_at s ≡ kind → side_that_asks kind ≡ Guest → side_in (device_place s) ≡ Host
host_has s kind is asks = host_place s (ap side_that_asks is ∙ asks)

pub guest_has : (s : DeviceSeat) (kind : DeviceKind) → kind_at s ≡ kind → side_that_asks kind ≡ Host → side_in (device_place s) ≡ Guest
guest_has s kind is asks = guest_place s (ap side_that_asks is ∙ asks)

-- a guest asks where packets lend pages, and a host serves
guest_lends : (kind : DeviceKind) → lends_on kind ≡ true → side_that_asks kind ≡ Guest
guest_lends Disk lends = refl
guest_lends Net lends = refl
guest_lends _ lends = absurd (cc)

-- an end of so many pages, by the side that it is at
module _ (e : Seen TableSeat) (kind : DeviceKind) (window : ℕ) (side : Side) (some : (1 ≤ window) × (window ≤ 64)) (is : e.state ≡ paged_end (pages_on kind window) e.state.machine.cells side) where
  pub side_of : side ≡ e.state.machine.side
  side_of = sym (ap (λ s. s.machine.side) is)

  pub count_of : e.state.pages.count ≡ pages_on kind window
  count_of = ap (λ s. s.pages.count) is

  pub is_paged : e.state ≡ paged_end e.state.pages.count e.state.machine.cells e.state.machine.side
  is_paged = is ∙ ap (λ (p : ℕ × Side). paged_end p.0 e.state.machine.cells p.1) (λ i. (sym count_of i, side_of i))

  pub no_pages : lends_on kind ≡ false → e.state.pages.count ≡ 0
  no_pages none = count_of ∙ none_on kind window none

  pub some_pages : lends_on kind ≡ true → e.state.pages.count ≢ 0
  some_pages lends zero = omega (arith, some.0, count_of, each_on kind window some.1 lends, zero)

  pub all_pages : besides_on kind ≡ true → 128 ≤ e.state.pages.count
  all_pages besides = omega (arith, count_of, all_on kind window besides)

  pub fits : side ≡ side_that_asks kind → FitsPages (lends_on kind) window e.state
  fits at = record {
    bare = no_pages;
    enough = λ lends. omega (arith, count_of, each_on kind window some.1 lends);
    guest = λ lends. sym side_of ∙ (at ∙ guest_lends kind lends);
  }

  pub host_serves : (s : DeviceSeat) → kind_at s ≡ kind → side_in (device_place s) ≡ side → lends_on kind ≡ true → e.state.machine.side ≡ Host
  host_serves s of at lends = sym side_of ∙ (sym at ∙ host_has s kind of (guest_lends kind lends))

-- a seat of a channel's table tells of its end by the rule of the pages
told_is : (s t : Told) → Some s ≡ Some t → s ≡ t
told_is s t h = cc

pub lawful_seats : TellsLawful (λ (s : TableSeat). Some (told_in s.seat.me.0))
lawful_seats s u tells = subst (λ (x : Told). Lawfully x.state) (told_is (told_in s.seat.me.0) u tells) s.lawful
