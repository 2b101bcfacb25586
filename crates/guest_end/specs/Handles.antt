-- The handles of the page lists that a guest's channels set up.
use Rattle.std.specs.Prelude.{◌≡◌, ℕ, ◌+◌, ◌<◌, List, slice_index_or, nat_le, Option, Some, None, if◌then◌else◌}
use Rattle.control_model.specs.declared.channel.Channel.{Channel}
use Rattle.control_model.specs.Channels.{is_handle}
use Rattle.control_model.specs.Guest.{offered_channel}

-- the handle of the channel at a place, if it has one
abbrev pub handle_at : List Channel → ℕ → Option ℕ
handle_at channels place = (slice_index_or channels place offered_channel).gpadl

-- no channel has a handle from this number on, and no two have the same
abbrev pub IsApart : ℕ → List Channel → Type 0
IsApart next channels = (i j handle : ℕ) → handle_at channels i ≡ Some handle → (handle < next) × (handle_at channels j ≡ Some handle → j ≡ i)

abbrev pub AreApart : Option ℕ → List Channel → Type 0
AreApart None channels = Unit {0}
AreApart (Some next) channels = IsApart next channels

-- the number from which on no channel has a handle, where one has this handle in place of another: none where it isn't above all before
abbrev pub behind : Option ℕ → ℕ → Option ℕ
behind None handle = None
behind (Some next) handle = if nat_le next handle then Some (handle + 1) else None

abbrev pub next_handle : Option ℕ → Option ℕ → Option ℕ → Option ℕ
next_handle rising before None = rising
next_handle rising before (Some handle) = if is_handle handle before then rising else behind rising handle
