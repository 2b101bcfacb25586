-- What an assembler of page lists makes of a message.
use Rattle.std.specs.Prelude.{◌≡◌, ◌⊎◌, ℕ, ◌++◌, Bool, true, false, List, [], length, codes, Option, Some, None}
use Rattle.std.specs.Fmt.{decimal}
use Rattle.vmbus_msg.specs.Faults.{fault_of as message_fault}
use Rattle.vmbus_msg.specs.Grammar.{type_of, IsMessage}
use Rattle.vmbus_msg.specs.declared.fault.MsgFault.{MsgFault}
use Rattle.vmbus_msg.specs.declared.msg.Msg.{Msg}
use Rattle.vmbus_msg.specs.declared.msg.Msg.TheVariants.{GpadlHeader, GpadlBody}
use Rattle.vmbus_msg_text.specs.Text.{fault_text}
use Rattle.gpadl.specs.Assembly.{Assembly, Took, fault_of}
use Rattle.gpadl.specs.declared.fault.GpadlFault.{GpadlFault}
use Rattle.gpadl.specs.declared.fault.GpadlFault.TheVariants.{Count, Handle, Repeat, Range, Memory}
use Rattle.gpadl.specs.declared.progress.Progress.{Progress}
use Rattle.gpadl.specs.declared.progress.Progress.TheVariants.{More, Done}

-- the header of a page list, or a body
abbrev pub is_piece : Msg → Bool
is_piece (GpadlHeader h) = true
is_piece (GpadlBody b) = true
is_piece _ = false

abbrev pub gpadl_fault_said : GpadlFault → List ℕ
gpadl_fault_said (Count want have) = (codes "gpadl count " ++ decimal want) ++ (codes " " ++ decimal have)
gpadl_fault_said (Handle id) = codes "gpadl handle " ++ decimal id
gpadl_fault_said (Repeat id) = codes "gpadl repeat " ++ decimal id
gpadl_fault_said (Range value) = codes "gpadl range " ++ decimal value
gpadl_fault_said Memory = []

abbrev pub progress_said : Progress → List ℕ
progress_said (More have want) = (codes "more " ++ decimal have) ++ (codes " " ++ decimal want)
progress_said (Done list) = codes "pages " ++ decimal (length list.pages.items)

-- the message was taken
pub record Takes (m : Msg) (s t : Assembly) (said : List ℕ) : Type 0 where
  pub progress : Progress
  pub took : Took s m progress t
  pub says : said ≡ progress_said progress

-- a part of a page list is refused for its first fault, which changes nothing, or is taken
abbrev pub SaysPiece : Option GpadlFault → Msg → Assembly → Assembly → List ℕ → Type 0
SaysPiece (Some fault) m s t said = (t ≡ s) × (said ≡ gpadl_fault_said fault)
SaysPiece None m s t said = Takes m s t said

-- any other message changes nothing
abbrev pub SaysBy : Bool → Msg → Assembly → Assembly → List ℕ → Type 0
SaysBy true m s t said = SaysPiece (fault_of s m) m s t said
SaysBy false m s t said = (t ≡ s) × (said ≡ codes "other " ++ decimal (type_of m))

abbrev pub SaysMessage : Msg → Assembly → Assembly → List ℕ → Type 0
SaysMessage m s t said = SaysBy (is_piece m) m s t said

-- the bytes are a message, of which this is told
pub record SaysWhole (b : List ℕ) (s t : Assembly) (said : List ℕ) : Type 0 where
  pub message : Msg
  pub is : IsMessage message b
  pub says : SaysMessage message s t said

-- they are none, and this is their first fault
pub record SaysNone (b : List ℕ) (s t : Assembly) (said : List ℕ) : Type 0 where
  pub fault : MsgFault
  pub is : message_fault b ≡ Some fault
  pub same : t ≡ s
  pub says : said ≡ fault_text fault

abbrev pub SaysPages : List ℕ → Assembly → Assembly → List ℕ → Type 0
SaysPages b s t said = SaysNone b s t said ⊎ SaysWhole b s t said
