-- What a packet of a network's channel is.
use Rattle.std.specs.Prelude.{◌≡◌, ℕ, Bool, ◌&&◌, List, true, false, slice_range, Option, Some, None, if◌then◌else◌}
use Rattle.wire_table.specs.Little.{number_of}
use Rattle.device_packets.specs.Packets.{is_completion, content_of}
use Rattle.net_format.specs.Nets.{has_nvsp, is_init, tells_receive, tells_send, carries_rndis, least_in, greatest_in}
use Rattle.device_net.specs.declared.nets.Came.{Came}
use Rattle.device_net.specs.declared.nets.Came.TheVariants.{Init, Receive, Send, Rndis, Other}

-- what the tests say of it: an init, the page list of the receive buffer, that of the send buffer, or a message
pub record IsTested (init receive send carries : Bool) (p : List ℕ) : Type 0 where
  pub init_is : is_init p ≡ init
  pub receive_is : tells_receive p ≡ receive
  pub send_is : tells_send p ≡ send
  pub carries_is : carries_rndis p ≡ carries

abbrev pub IsCame : Came → List ℕ → Type 0
IsCame (Init min max) p = IsTested true false false false p × (min ≡ least_in p) × (max ≡ greatest_in p)
IsCame Receive p = IsTested false true false false p
IsCame Send p = IsTested false false true false p
IsCame Rndis p = IsTested false false false true p
IsCame Other p = IsTested false false false false p

-- the status of a packet that completes one with a Remote NDIS message, where it is one
abbrev pub status_in : List ℕ → Option ℕ
status_in p = if is_completion p && has_nvsp 108 p then Some (number_of (slice_range (content_of p) 4 8)) else None
