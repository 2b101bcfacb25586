-- A piece of a page list that makes no list whole.
use Rattle.std.specs.Prelude.{◌≡◌, ◌⊎◌, ◌<◌, length, Some}
use Rattle.vmbus_msg.specs.declared.msg.Msg.{Msg}
use Rattle.vmbus_msg.specs.declared.msg.Msg.TheVariants.{GpadlHeader}
use Rattle.gpadl.specs.Assembly.{Assembly, Partial, built}

-- it was taken, and frames are missing
pub record IsPart (m : Msg) (old new : Assembly) : Type 0 where
  pub list : Partial
  pub has : built old.building m ≡ Some list
  pub missing : length list.pages < list.want
  pub kept : new ≡ record { building = Some list; live = old.live }

-- a header may have been refused, for want of memory
abbrev pub GoesOn : Msg → Assembly → Assembly → Type 0
GoesOn (GpadlHeader h) old new = IsPart (GpadlHeader h) old new ⊎ (new ≡ old)
GoesOn m old new = IsPart m old new
