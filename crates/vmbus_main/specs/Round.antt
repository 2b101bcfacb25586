-- The control path of a run.
use Rattle.std.specs.Prelude.{◌≡◌}
use Rattle.vmbus_main.specs.declared.run.BusRan.{BusRan}

-- the queues that were ended are those of the path whose parts stood round the phases that ran, and what was put into each is what its control posted
pub record StoodRound (ran : BusRan) : Type 0 where
  pub to_host : ran.to_host.queue ≡ ran.run.path.value.guest_post.queue
  pub to_guest : ran.to_guest.queue ≡ ran.run.path.value.host_post.queue
  pub host_got : ran.to_host.put ≡ ran.controls.guest.posted
  pub guest_got : ran.to_guest.put ≡ ran.controls.host.posted
