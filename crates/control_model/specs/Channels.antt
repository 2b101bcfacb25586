-- The channels of one side, and what the tables say of versions and classes.
use Rattle.std.specs.Prelude.{ℕ, ◌-◌, ◌==◌, Bool, false, ◌&&◌, List, [], ◌∷◌, ◌++◌, slice_get, slice_set, take, nat_le, nat_lt, Option, Some, None, Result, Ok, Err, if◌then◌else◌}
use Rattle.std.specs.List.{list_any, position}
use Rattle.std.specs.Str.{bytes_eq}
use Rattle.std.specs.Int.{from_le_bytes, w32}
use Rattle.contact.specs.Versions.{versions}
use Rattle.contact.specs.Classes.{class_id}
use Rattle.contact.specs.Services.{service_id}
use Rattle.contact.specs.declared.version.Version.{Version}
use Rattle.contact.specs.declared.kind.Kind.{Kind}
use Rattle.contact.specs.declared.kind.Kind.TheVariants.{Beat, Down, Disk, Net, Kvp, Sock}
use Rattle.chan_state.specs.declared.state.State.{State}
use Rattle.chan_state.specs.declared.event.Event.{Event}
use Rattle.chan_state.specs.declared.event.Event.TheVariants.{WantModify}
use Rattle.chan_state.specs.declared.action.Action.{Action}
use Rattle.chan_state.specs.declared.chan_state.ChanState.{ChanState}
use Rattle.chan_state.specs.Life.{transition, vp_after}
use Rattle.control_model.specs.declared.channel.Channel.{Channel}
use Rattle.control_model.specs.declared.fault.ControlFault.{ControlFault}
use Rattle.control_model.specs.declared.fault.ControlFault.TheVariants.{State as StateRefused}
use Rattle.control_model.specs.declared.change.Change.{Change}
use Rattle.control_model.specs.declared.change.Change.TheVariants.{Same, Offered, Now, Moved}
use Rattle.control_model.specs.declared.moves.Move.{Move}

-- the greatest version below this one
abbrev pub first_below : ℕ → List ℕ → Option Version
first_below v [] = None
first_below v (u ∷ us) = if nat_lt u v then Some (record { 0 = u }) else first_below v us

abbrev pub version_below : Version → Option Version
version_below v = first_below v.0 versions

-- a host with this highest version accepts one that is asked for
abbrev pub accepts : Version → ℕ → Bool
accepts highest asked = nat_le asked highest.0 && list_any (λ u. u == asked) versions

-- the port whose service has an id, if it is of that form: the first four bytes say it
abbrev pub port_with : List ℕ → ℕ
port_with id = from_le_bytes w32 (take 4 id)

abbrev pub service_with : List ℕ → Option Kind
service_with id = if bytes_eq id (service_id (port_with id)) then Some (Sock (port_with id)) else None

-- the kinds of devices, each of which has a class id of its own
abbrev pub device_kinds : List Kind
device_kinds = Beat ∷ Down ∷ Disk ∷ Net ∷ Kvp ∷ []

-- the kind with a class id, if one has it: the one of these, or that of the service at a port
abbrev pub kind_among : List ℕ → List Kind → Option Kind
kind_among id [] = service_with id
kind_among id (kind ∷ kinds) = if bytes_eq id (class_id kind) then Some kind else kind_among id kinds

abbrev pub kind_with : List ℕ → Option Kind
kind_with id = kind_among id device_kinds

-- two kinds are the same: they have one class id
abbrev pub same_kind : Kind → Kind → Bool
same_kind a b = bytes_eq (class_id a) (class_id b)

abbrev pub is_kind : Kind → Option Kind → Bool
is_kind kind None = false
is_kind kind (Some other) = same_kind kind other

-- the channel with a relid: relids count from 1, in order of offer
abbrev pub by_relid : {X : Type 0} → List X → ℕ → Option X
by_relid channels relid = if relid == 0 then None else slice_get channels (relid - 1)

-- the state after an event and what is to be done, where the table of a channel's life has a row
abbrev pub row_of : ChanState → Event → Option (State × Action)
row_of life e = transition life.side life.state e

-- a channel in another state
abbrev pub stands : ChanState → State → ChanState
stands life state = record { side = life.side; state = state; vp = life.vp }

-- a channel after an event that has a row
abbrev pub goes_by : ChanState → Event → State → ChanState
goes_by life e state = record { side = life.side; state = state; vp = vp_after life.vp e }

-- a guest's channel after an event, or the refusal where the table has no row
abbrev pub lived_by : Channel → Event → Option (State × Action) → Result Channel ControlFault
lived_by c e None = Err (StateRefused (record { state = c.life.state; event = e }))
lived_by c e (Some row) = Ok (record { life = goes_by c.life e row.0; gpadl = c.gpadl })

abbrev pub lived : Channel → Event → Result Channel ControlFault
lived c e = lived_by c e (row_of c.life e)

-- the guest moves a channel, where the table of its life has a row for that
abbrev pub put_moved : List Channel → ℕ → Result Channel ControlFault → List Channel
put_moved channels relid (Err fault) = channels
put_moved channels relid (Ok now) = slice_set channels (relid - 1) now

abbrev pub move_at : List Channel → Bool → Move → Option Channel → List Channel
move_at channels answered m None = channels
move_at channels answered m (Some c) = put_moved channels m.relid (lived c (WantModify m.vp answered))

abbrev pub move_all : List Channel → Bool → List Move → List Channel
move_all channels answered [] = channels
move_all channels answered (m ∷ moves) = move_all (move_at channels answered m (by_relid channels m.relid)) answered moves

-- what becomes of a guest's channels
abbrev pub changed : List Channel → Change → List Channel
changed channels Same = channels
changed channels (Offered channel) = channels ++ channel ∷ []
changed channels (Now relid channel) = slice_set channels (relid - 1) channel
changed channels (Moved moves answered) = move_all channels answered moves

-- the page list that a channel set up has this handle
abbrev pub is_handle : ℕ → Option ℕ → Bool
is_handle gpadl None = false
is_handle gpadl (Some handle) = handle == gpadl

-- the place of the channel that set up the page list with a handle
abbrev pub place_of_list : List Channel → ℕ → Option ℕ
place_of_list channels gpadl = position (λ channel. is_handle gpadl channel.gpadl) channels
