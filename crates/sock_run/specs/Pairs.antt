-- Both workers of a channel, and what they leave.
use Rattle.std.specs.Prelude.{◌≡◌, ◌<◌, ℕ, length, get_or}
use Rattle.ring_seat.specs.Settling.{AreOfOneChannel}
use Rattle.sock_workers.specs.Pieces.{packets_for}
use Rattle.sock_workers.specs.Workers.{Guest, Host, HostLeaves, IsLive}
use Rattle.sock_run.specs.declared.start.Start.{Start}
use Rattle.sock_run.specs.declared.start.Start.TheVariants.{Ran, Back}
use Rattle.sock_run.specs.declared.start.Started.{Started}
use Rattle.sock_run.specs.declared.start.Started.TheVariants.{Thread, Here}

pub record Pairing : Type 0 where
  pub guest : Guest
  pub host : Host

-- the ends of one channel, with room for the packets of the input each way
pub record ArePair (p : Pairing) : Type 0 where
  pub one_channel : AreOfOneChannel p.guest.port.end p.host.port.end
  pub guest_room : p.guest.port.room ≡ packets_for (length p.guest.input)
  pub host_room : p.host.port.room ≡ packets_for (length p.guest.input)
  pub guest_live : IsLive p.guest.port
  pub host_live : IsLive p.host.port
  pub bytes : (i : ℕ) → get_or p.guest.input i 0 < 256

-- the worker has run, or comes back
abbrev pub Comes : Host → Start → Type 0
Comes w (Ran done) = HostLeaves w done.ended done.end
Comes w (Back host) = host ≡ w

-- a thread has it, or it came
abbrev pub IsStarted : Host → Started → Type 0
IsStarted w (Thread handle) = handle.promise.host.value ≡ w
IsStarted w (Here start) = Comes w start
