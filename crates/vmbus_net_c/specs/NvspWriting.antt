-- The NVSP message of the type that numbers give.
use Rattle.std.specs.Prelude.{◌%◌, ◌^◌, ◌==◌, Option, Some, None, if◌then◌else◌}
use Rattle.net_dev.specs.declared.nvsp.Nvsp.{Nvsp}
use Rattle.net_dev.specs.declared.nvsp.Nvsp.TheVariants.{Init, InitComplete, NdisVersion, ReceiveBuffer, ReceiveBufferComplete, SendBuffer, SendBufferComplete, RndisPacket, RndisPacketComplete}
use Rattle.vmbus_net_c.specs.declared.network.VmbusNvsp.{VmbusNvsp}

abbrev pub nvsp_of : VmbusNvsp → Option Nvsp
nvsp_of v =
    if v.kind == 1 then Some (Init v.min v.max) else
    if v.kind == 2 then Some (InitComplete v.version v.mdl_chain_length v.status) else
    if v.kind == 100 then Some (NdisVersion v.major v.minor) else
    if v.kind == 101 then Some (ReceiveBuffer v.gpadl (v.id % 2 ^ 16)) else
    if v.kind == 102 then Some (ReceiveBufferComplete v.status v.count v.offset v.sub_alloc_size v.num_sub_allocs v.end_offset) else
    if v.kind == 104 then Some (SendBuffer v.gpadl (v.id % 2 ^ 16)) else
    if v.kind == 105 then Some (SendBufferComplete v.status v.section_size) else
    if v.kind == 107 then Some (RndisPacket v.channel_type v.section_index v.section_size) else
    if v.kind == 108 then Some (RndisPacketComplete v.status) else
    None
