-- The workers of a channel, once they were started.
use Rattle.std.specs.Prelude.{◌≡◌}
use Rattle.bus_threads.specs.Pairs.{Pairing, IsPaired}
use Rattle.bus_threads.specs.Starting.{Comes, IsStarted}
use Rattle.bus_threads.specs.declared.channel.Workers.{Workers}
use Rattle.bus_threads.specs.declared.channel.Workers.TheVariants.{Threads, Here}

-- these are the workers of this pair
abbrev pub Begins : Pairing → Workers → Type 0
Begins p (Threads guest host) = IsPaired p × IsStarted p.guest guest × (host.promise.worker.value ≡ p.host)
Begins p (Here guest host) = IsPaired p × (guest ≡ p.guest) × Comes p.host host
