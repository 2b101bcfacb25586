-- A register that is served beside any peer.
use Rattle.std.specs.Prelude.{ℕ, List, map, filter_map}
use Rattle.channel_trace.specs.Runs.{IsFront}
use Rattle.hist_lock.specs.Legal.{IsLegal}
use Rattle.hist_lock.specs.declared.history.Entry.{Entry}
use Rattle.ring_core.specs.Seen.{Seen}
use Rattle.ring_core.specs.Told.{Tale}
use Rattle.worker_copy_laws.specs.Copies.{KnowsCopies, read_as}
use Rattle.example_device.specs.declared.register.Register.{Register}
use Rattle.example_device.specs.Registers.{register_items}

abbrev pub register_of : ℕ → Register
register_of value = record { value = value }

-- What its end knows are copies that it tested. Its history is legal, from a register that holds 0: each reply is the value that was stored before. And what was
-- stored, in order, are the values of the first packets that were copied, and nothing else
pub record StoresCopies {S : Type 0} (tale : S → Tale) (e : Seen S) (entries : List (Entry Register ℕ ℕ)) : Type 0 where
  pub knows : KnowsCopies (λ i. i) tale e
  pub legal : IsLegal (λ s q. register_of q) (λ (s : Register) q. s.value) (register_of 0) entries
  pub stored : IsFront (map (λ n. n.request) entries) (filter_map register_items.read (read_as (λ i. i) e))
