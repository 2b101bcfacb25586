-- A worker that hasn't ended in a turn can take another one.
use Rattle.worker_port.specs.declared.ended.Turn.TheVariants.{Moved, Idle}
use Rattle.worker_pair.specs.Workers.{IsLive, Turned}
use Rattle.worker_pair.specs.declared.worker.Worker.{Worker}
use Rattle.worker_pair.specs.declared.worker.Worker.TheVariants.{Asks, Serves}

pub moved_live : (w : Worker) → Turned Moved w → IsLive w
moved_live (Asks w) h = h.0
moved_live (Serves w) h = h.0

pub idle_live : (w : Worker) → Turned Idle w → IsLive w
idle_live (Asks w) h = h.0.0
idle_live (Serves w) h = h.0.0
