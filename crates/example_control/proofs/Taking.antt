-- What a host took, as its control says it.
use Rattle.std.proofs.Common.{◌≡◌, List, refl}
use Rattle.std.specs.Prelude.{Result, Ok, Err}
use Rattle.vmbus_msg.specs.declared.msg.Msg.{Msg}
use Rattle.mail_box.specs.Mail.{Mail}
use Rattle.control_model.specs.Host.{HostSeen, HostTurn, HostTakes, host_hears}
use Rattle.control_model.specs.declared.fault.ControlFault.{ControlFault}
use Rattle.host_end.specs.Feeding.{Comes}
use Rattle.example_control.specs.Bytes.{with_mail}

by_turn : (hears : Result HostTurn ControlFault) (old new : HostSeen) (m : Msg) (before after : Mail) (r : Unit {0}) → host_hears old m ≡ hears → Comes hears old new m before after (Ok r) → (sent : List Msg) × HostTakes old m sent new × (after ≡ with_mail before sent)
by_turn (Ok turn) old new m before after r is t = (t.sent, record { turn = turn; hears = is; sends = t.sends; now = t.now }, t.mail)
by_turn (Err own) old new m before after r is t = absurd t

-- a message that was taken
pub took : (old new : HostSeen) (m : Msg) (before after : Mail) (r : Unit {0}) → Comes (host_hears old m) old new m before after (Ok r) → (sent : List Msg) × HostTakes old m sent new × (after ≡ with_mail before sent)
took old new m before after r t = by_turn (host_hears old m) old new m before after r refl t
