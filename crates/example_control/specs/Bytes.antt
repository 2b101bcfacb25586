-- Why the bytes of a message are refused.
use Rattle.std.specs.Prelude.{◌≡◌, ℕ, List, ◌++◌, Result, Ok, Err, Some}
use Rattle.vmbus_msg.specs.Grammar.{IsMessage}
use Rattle.vmbus_msg.specs.Faults.{fault_of}
use Rattle.vmbus_msg.specs.declared.msg.Msg.{Msg}
use Rattle.mail_box.specs.Mail.{Mail}
use Rattle.control_model.specs.Guest.{Refuses as RefusesMessage}
use Rattle.control_model.specs.declared.fault.ControlFault.{ControlFault}
use Rattle.example_control.specs.declared.message_bytes.Refused.{Refused}
use Rattle.example_control.specs.declared.message_bytes.Refused.TheVariants.{Bytes, Message}

-- a box with messages behind those that are in it
abbrev pub with_mail : Mail → List Msg → Mail
with_mail box sent = record { size = box.size; queue = box.queue ++ sent }

-- bytes are no message, for this reason; or they are a message, and what comes of it is this refusal, or want of memory
abbrev pub Refuses : {T : Type 0} → (Msg → Result T ControlFault) → List ℕ → Refused → Type 0
Refuses hears bytes (Bytes fault) = fault_of bytes ≡ Some fault
Refuses hears bytes (Message fault) = (m : Msg) × IsMessage m bytes × RefusesMessage (hears m) fault
