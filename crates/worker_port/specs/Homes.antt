-- The pages of an end under the ids of its requests, of which some are open; and what its calls make of them.
use Rattle.std.specs.Prelude.{ℕ, ◌≡◌, ◌≢◌, ◌==◌, Bool, true, false, cond, List, [], ◌∷◌, ◌++◌, None}
use Rattle.pkt_desc.specs.Packets.{kind_of, id_of}
use Rattle.page_kept.specs.declared.item.Item.{Item}
use Rattle.page_kept.specs.Keepers.{keeper}
use Rattle.page_kept.specs.Layouts.{layout}
use Rattle.page_home_laws.specs.Home.{HomeKept, LendsItsOwn, closed, opened}
use Rattle.ring_machine.specs.declared.state.EndState.{EndState}
use Rattle.worker_port.specs.declared.found.Found.{Found}
use Rattle.worker_port.specs.declared.found.Found.TheVariants.{Packet as FoundPacket, Nothing as FoundNothing, Broken as FoundBroken}
use Rattle.worker_port.specs.declared.found.Tried.{Tried}
use Rattle.worker_port.specs.declared.found.Tried.TheVariants.{Sent as TriedSent, Full as TriedFull, Broken as TriedBroken}
use Rattle.worker_port.specs.Line.{Line}

-- of each id the end has the page, or has lent it under that id, which is open; nothing is asked of a channel without data pages
abbrev pub HasHome : (ℕ → Bool) → EndState → Type 0
HasHome is_open e = e.pages.count ≢ 0 → HomeKept e.machine.side e.pages.count is_open (keeper (layout e.pages.count) e.machine.side e.got e.pages)

-- a call that sends and takes nothing
abbrev pub KeepsHome : EndState → EndState → Type 0
KeepsHome old new = (is_open : ℕ → Bool) → HasHome is_open old → HasHome is_open new

-- the ids that are open behind a try to send a request of this id
abbrev pub open_tried : Tried → (ℕ → Bool) → ℕ → ℕ → Bool
open_tried TriedSent is_open t = opened is_open t
open_tried TriedFull is_open t = is_open
open_tried TriedBroken is_open t = is_open

-- A try to send this packet: a request under an id that isn't open, which lends the page of its id or none, opens that id where it went; a packet with id 0 that lends
-- none opens no id, nor does a completion
pub record SendsHome (how : Tried) (p : List ℕ) (old new : EndState) : Type 0 where
  pub asks : (is_open : ℕ → Bool) → (kind_of p == 11) ≡ false → is_open (id_of p) ≡ false → LendsItsOwn (layout old.pages.count) old.machine.side p → HasHome is_open old → HasHome (open_tried how is_open (id_of p)) new
  pub says : (is_open : ℕ → Bool) → (kind_of p == 11) ≡ false → id_of p ≡ 0 → (layout old.pages.count).lends p ≡ None → HasHome is_open old → HasHome is_open new
  pub ends : (is_open : ℕ → Bool) → (kind_of p == 11) ≡ true → HasHome is_open old → HasHome is_open new

-- A completion that was taken closes its id, and no other packet does
abbrev pub TakesHome : {S : Type 0} → Found → Line S → Line S → Type 0
TakesHome FoundPacket old new = (is_open : ℕ → Bool) (i : Item) → new.state.got ≡ old.state.got ++ i ∷ [] → HasHome is_open old.end.state → HasHome (cond (kind_of i.packet == 11) (closed is_open (id_of i.packet)) is_open) new.end.state
TakesHome FoundNothing old new = KeepsHome old.end.state new.end.state
TakesHome FoundBroken old new = KeepsHome old.end.state new.end.state
