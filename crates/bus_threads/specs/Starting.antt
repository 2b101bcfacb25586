-- What the start of a worker gives.
use Rattle.std.specs.Prelude.{◌≡◌}
use Rattle.worker_pair.specs.Leaving.{Leaves}
use Rattle.worker_pair.specs.declared.worker.Worker.{Worker}
use Rattle.bus_threads.specs.declared.start.Start.{Start}
use Rattle.bus_threads.specs.declared.start.Start.TheVariants.{Ran, Back}
use Rattle.bus_threads.specs.declared.start.Started.{Started}
use Rattle.bus_threads.specs.declared.start.Started.TheVariants.{Thread, Here}

-- the worker has run, or comes back
abbrev pub Comes : Worker → Start → Type 0
Comes w (Ran done) = Leaves w done
Comes w (Back worker) = worker ≡ w

-- a thread has it, or it came
abbrev pub IsStarted : Worker → Started → Type 0
IsStarted w (Thread handle) = handle.promise.worker.value ≡ w
IsStarted w (Here start) = Comes w start
