-- One end's part in the protocol of a channel.
use Rattle.std.specs.Prelude.{ℕ, ◌<◌, ◌^◌, List, ◌++◌, map, length}
use Rattle.std.specs.List.{AllByRecursion}
use Rattle.device_wire.specs.declared.buffer_lists.BufferLists.{BufferLists}
use Rattle.device_wire.specs.declared.want.Want.{Want}
use Rattle.device_wire.specs.declared.want.Want.TheVariants.{Request}
use Rattle.device_wire.specs.WireModels.{WireModel, startup_in}

-- the kind of channel, its number among its device's channels, how many are beside the first one, the page lists of its buffers, and what the script asks on it
pub record EndScript (K Q : Type 0) : Type 0 where
  pub kind : K
  pub sub : ℕ
  pub subs : ℕ
  pub lists : BufferLists
  pub asks : List Q

-- what the end that asks has to ask: the start-up first
abbrev pub asks_in : {S Q R K : Type 0} → WireModel S Q R → EndScript K Q → List (Want S Q)
asks_in m t = startup_in m t.sub t.subs t.lists ++ map Request t.asks

-- all of it can be asked, and there is room to count it in
pub record CanAskAll {Q : Type 0} (Can : Q → Type 0) (asks : List Q) : Type 0 where
  pub can : AllByRecursion Can asks
  pub few : length asks < 2 ^ 31
