-- The Remote NDIS message of the type that numbers give.
use Rattle.std.specs.Prelude.{ℕ, List, ◌==◌, Option, Some, None, if◌then◌else◌}
use Rattle.rndis_msg.specs.declared.rndis.Rndis.{Rndis}
use Rattle.rndis_msg.specs.declared.rndis.Rndis.TheVariants.{Packet, Initialize, InitializeComplete, Halt, Query, QueryComplete, Set, SetComplete, Reset, ResetComplete, Keepalive, KeepaliveComplete}
use Rattle.vmbus_net_c.specs.declared.network.VmbusRndis.{VmbusRndis}

abbrev pub rndis_of : VmbusRndis → List ℕ → Option Rndis
rndis_of v body =
    if v.kind == 1 then Some (Packet body) else
    if v.kind == 4 then Some (Query v.request_id v.oid body) else
    if v.kind == 2147483652 then Some (QueryComplete v.request_id v.status body) else
    if v.kind == 5 then Some (Set v.request_id v.oid body) else
    if v.kind == 2 then Some (Initialize v.request_id v.major v.minor v.max_transfer) else
    if v.kind == 2147483650 then Some (InitializeComplete v.request_id v.status v.major v.minor v.device_flags v.medium v.max_packets v.max_transfer v.alignment) else
    if v.kind == 3 then Some (Halt v.request_id) else
    if v.kind == 2147483653 then Some (SetComplete v.request_id v.status) else
    if v.kind == 6 then Some Reset else
    if v.kind == 2147483654 then Some (ResetComplete v.status v.addressing_reset) else
    if v.kind == 8 then Some (Keepalive v.request_id) else
    if v.kind == 2147483656 then Some (KeepaliveComplete v.request_id v.status) else
    None
