-- What feeding a host's control comes to.
use Rattle.std.specs.Prelude.{◌≡◌, ℕ, ◌-◌, ◌++◌, ◌∷◌, [], List, slice_set, Option, Some, None, Result, Ok, Err}
use Rattle.vmbus_msg.specs.declared.msg.Msg.{Msg}
use Rattle.mail_box.specs.Mail.{Mail}
use Rattle.chan_state.specs.declared.action.Action.{Action}
use Rattle.chan_state.specs.declared.chan_state.ChanState.{ChanState}
use Rattle.gpadl.specs.declared.progress.Progress.{Progress}
use Rattle.gpadl.specs.declared.progress.Progress.TheVariants.{More, Done}
use Rattle.control_model.specs.declared.burst.Burst.{Burst}
use Rattle.control_model.specs.declared.fault.ControlFault.{ControlFault}
use Rattle.control_model.specs.declared.fault.ControlFault.TheVariants.{Memory}
use Rattle.control_model.specs.Messages.{Sends}
use Rattle.control_model.specs.Host.{HostSeen, HostTurn, opened_then, opened_subs, with_subs, host_after}

-- a box with messages behind those that are in it
abbrev pub with_mail : Mail → List Msg → Mail
with_mail box sent = record { size = box.size; queue = box.queue ++ sent }

-- a burst was sent: it is posted, and is in the box
pub record Posts (old new : HostSeen) (burst : Burst) (fed : List Msg) (before after : Mail) : Type 0 where
  pub sent : List Msg
  pub sends : Sends old.plan burst sent
  pub now : new ≡ record { plan = old.plan; part = old.part; awaits = old.awaits; version = old.version; channels = old.channels; lists = old.lists; posted = old.posted ++ sent; fed = old.fed ++ fed }
  pub mail : after ≡ with_mail before sent

-- a channel that stands so then was opened, with this action of the table: a burst was sent, and the sub-channels that are offered then are behind the others
pub record Opens (old new : HostSeen) (m : Msg) (relid : ℕ) (life : ChanState) (action : Action) (burst : Burst) (before after : Mail) : Type 0 where
  pub sent : List Msg
  pub sends : Sends old.plan burst sent
  pub now : new ≡ record {
    plan = old.plan;
    part = old.part;
    awaits = opened_then old old.awaits relid;
    version = old.version;
    channels = with_subs (slice_set old.channels (relid - 1) life) (opened_subs old relid action);
    lists = old.lists;
    posted = old.posted ++ sent;
    fed = old.fed ++ m ∷ [];
  }
  pub mail : after ≡ with_mail before sent

-- what the message does came about, and what comes of it was sent
pub record Took (turn : HostTurn) (old new : HostSeen) (m : Msg) (before after : Mail) : Type 0 where
  pub sent : List Msg
  pub sends : Sends old.plan turn.burst sent
  pub now : new ≡ host_after old old.part turn sent (m ∷ [])
  pub mail : after ≡ with_mail before sent

-- nothing is changed
pub record Unchanged (old new : HostSeen) (before after : Mail) : Type 0 where
  pub control : new ≡ old
  pub mail : after ≡ before

-- the message is taken, or refused with its own fault; or it would be taken, and memory is short
abbrev pub Comes : Result HostTurn ControlFault → HostSeen → HostSeen → Msg → Mail → Mail → Result Unit ControlFault → Type 0
Comes (Ok turn) old new m before after (Ok _) = Took turn old new m before after
Comes (Ok turn) old new m before after (Err fault) = (fault ≡ Memory) × Unchanged old new before after
Comes (Err own) old new m before after (Ok _) = ⊥
Comes (Err own) old new m before after (Err fault) = (fault ≡ own) × Unchanged old new before after

-- the channel and the handle of a list that is whole
abbrev pub list_made : Progress → Option (ℕ × ℕ)
list_made (More have want) = None
list_made (Done list) = Some (list.relid, list.handle)
