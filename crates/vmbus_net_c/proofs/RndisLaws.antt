-- The buffer of a message that was made of numbers and a buffer.
use Rattle.std.proofs.Common.{◌≡◌, ℕ, Option, Some, None, List, [], ◌∷◌, length, refl, sym, ap, rules}
use Rattle.rndis_msg.specs.Messages.{body_of}
use Rattle.rndis_msg.specs.declared.rndis.Rndis.{Rndis}
use Rattle.rndis_msg.specs.declared.rndis.Rndis.TheVariants.{Packet, Initialize, InitializeComplete, Halt, Query, QueryComplete, Set, SetComplete, Reset, ResetComplete, Keepalive, KeepaliveComplete}
use Rattle.vmbus_net_c.specs.Network.{rndis_fields}
use Rattle.vmbus_net_c.specs.RndisWriting.{rndis_of}

-- the buffer of a message, where there is one
body_in : Option Rndis → List ℕ
body_in None = []
body_in (Some m) = body_of m

no_bytes : (body : List ℕ) → length body ≡ 0 → [] ≡ body
no_bytes [] few = refl
no_bytes (b ∷ body) few = search rules

-- a message of its own numbers and of a buffer as long as its own has that buffer
pub own_body : (m : Rndis) (body : List ℕ) → rndis_of (rndis_fields m) body ≡ Some m → length body ≡ (rndis_fields m).body_len → body_of m ≡ body
unfolding body_in
own_body (Packet b) body is few = sym (ap body_in is)
own_body (Query request_id oid b) body is few = sym (ap body_in is)
own_body (QueryComplete request_id status b) body is few = sym (ap body_in is)
own_body (Set request_id oid b) body is few = sym (ap body_in is)
own_body (Initialize request_id major minor max_transfer) body is few = no_bytes body few
own_body (InitializeComplete request_id status major minor device_flags medium max_packets max_transfer alignment) body is few = no_bytes body few
own_body (Halt request_id) body is few = no_bytes body few
own_body (SetComplete request_id status) body is few = no_bytes body few
own_body Reset body is few = no_bytes body few
own_body (ResetComplete status addressing_reset) body is few = no_bytes body few
own_body (Keepalive request_id) body is few = no_bytes body few
own_body (KeepaliveComplete request_id status) body is few = no_bytes body few
