-- NVSP and Remote NDIS messages and their refusals as the numbers that C sees.
use Rattle.std.specs.Prelude.{ℕ, length}
use Rattle.net_dev.specs.declared.nvsp.Nvsp.{Nvsp}
use Rattle.net_dev.specs.declared.nvsp.Nvsp.TheVariants.{Init, InitComplete, NdisVersion, ReceiveBuffer, ReceiveBufferComplete, SendBuffer, SendBufferComplete, RndisPacket, RndisPacketComplete}
use Rattle.net_dev.specs.declared.fault.NvspFault.{NvspFault}
use Rattle.net_dev.specs.declared.fault.NvspFault.TheVariants.{Short as NvspShort, Unknown as NvspUnknown}
use Rattle.rndis_msg.specs.declared.rndis.Rndis.{Rndis}
use Rattle.rndis_msg.specs.declared.rndis.Rndis.TheVariants.{Packet, Initialize, InitializeComplete, Halt, Query, QueryComplete, Set, SetComplete, Reset, ResetComplete, Keepalive, KeepaliveComplete}
use Rattle.rndis_msg.specs.declared.fault.RndisFault.{RndisFault}
use Rattle.rndis_msg.specs.declared.fault.RndisFault.TheVariants.{Short as RndisShort, Unknown as RndisUnknown, Long as RndisLong, Field as RndisField}
use Rattle.rndis_msg.specs.declared.field_name.FieldName.TheVariants.{Offset, Length}
use Rattle.vmbus_net_c.specs.declared.network.VmbusNvsp.{VmbusNvsp}
use Rattle.vmbus_net_c.specs.declared.network.VmbusRndis.{VmbusRndis}
use Rattle.vmbus_fault.specs.declared.fault.VmbusFault.{VmbusFault}

-- a message of this type with all other numbers 0
abbrev pub nvsp_bare : ℕ → VmbusNvsp
nvsp_bare kind = record { kind = kind; min = 0; max = 0; version = 0; mdl_chain_length = 0; status = 0; major = 0; minor = 0; gpadl = 0; id = 0; count = 0; offset = 0; sub_alloc_size = 0; num_sub_allocs = 0; end_offset = 0; section_size = 0; channel_type = 0; section_index = 0 }

-- its numbers, by type
abbrev pub nvsp_fields : Nvsp → VmbusNvsp
nvsp_fields (Init min max) = record (nvsp_bare 1) { min = min; max = max }
nvsp_fields (InitComplete version mdl_chain_length status) = record (nvsp_bare 2) { version = version; mdl_chain_length = mdl_chain_length; status = status }
nvsp_fields (NdisVersion major minor) = record (nvsp_bare 100) { major = major; minor = minor }
nvsp_fields (ReceiveBuffer gpadl id) = record (nvsp_bare 101) { gpadl = gpadl; id = id }
nvsp_fields (ReceiveBufferComplete status count offset sub_alloc_size num_sub_allocs end_offset) = record (nvsp_bare 102) { status = status; count = count; offset = offset; sub_alloc_size = sub_alloc_size; num_sub_allocs = num_sub_allocs; end_offset = end_offset }
nvsp_fields (SendBuffer gpadl id) = record (nvsp_bare 104) { gpadl = gpadl; id = id }
nvsp_fields (SendBufferComplete status section_size) = record (nvsp_bare 105) { status = status; section_size = section_size }
nvsp_fields (RndisPacket channel_type section_index section_size) = record (nvsp_bare 107) { channel_type = channel_type; section_index = section_index; section_size = section_size }
nvsp_fields (RndisPacketComplete status) = record (nvsp_bare 108) { status = status }

abbrev pub rndis_bare : ℕ → VmbusRndis
rndis_bare kind = record { kind = kind; request_id = 0; major = 0; minor = 0; max_transfer = 0; status = 0; device_flags = 0; medium = 0; max_packets = 0; alignment = 0; oid = 0; addressing_reset = 0; body_len = 0 }

-- its numbers, by type, with the length of its buffer
abbrev pub rndis_fields : Rndis → VmbusRndis
rndis_fields (Packet body) = record (rndis_bare 1) { body_len = length body }
rndis_fields (Initialize request_id major minor max_transfer) = record (rndis_bare 2) { request_id = request_id; major = major; minor = minor; max_transfer = max_transfer }
rndis_fields (InitializeComplete request_id status major minor device_flags medium max_packets max_transfer alignment) = record (rndis_bare 2147483650) { request_id = request_id; status = status; major = major; minor = minor; device_flags = device_flags; medium = medium; max_packets = max_packets; max_transfer = max_transfer; alignment = alignment }
rndis_fields (Halt request_id) = record (rndis_bare 3) { request_id = request_id }
rndis_fields (Query request_id oid body) = record (rndis_bare 4) { request_id = request_id; oid = oid; body_len = length body }
rndis_fields (QueryComplete request_id status body) = record (rndis_bare 2147483652) { request_id = request_id; status = status; body_len = length body }
rndis_fields (Set request_id oid body) = record (rndis_bare 5) { request_id = request_id; oid = oid; body_len = length body }
rndis_fields (SetComplete request_id status) = record (rndis_bare 2147483653) { request_id = request_id; status = status }
rndis_fields Reset = rndis_bare 6
rndis_fields (ResetComplete status addressing_reset) = record (rndis_bare 2147483654) { status = status; addressing_reset = addressing_reset }
rndis_fields (Keepalive request_id) = record (rndis_bare 8) { request_id = request_id }
rndis_fields (KeepaliveComplete request_id status) = record (rndis_bare 2147483656) { request_id = request_id; status = status }

-- the numbers of refusals
abbrev pub nvsp_number : NvspFault → ℕ
nvsp_number (NvspShort have need) = 1
nvsp_number (NvspUnknown kind) = 2

abbrev pub nvsp_told : NvspFault → VmbusFault
nvsp_told (NvspShort have need) = record { have = have; need = need; field = 0; value = 0 }
nvsp_told (NvspUnknown kind) = record { have = 0; need = 0; field = 0; value = kind }

abbrev pub rndis_number : RndisFault → ℕ
rndis_number (RndisShort have need) = 1
rndis_number (RndisUnknown kind) = 2
rndis_number (RndisLong have) = 3
rndis_number (RndisField name value) = 4

abbrev pub rndis_told : RndisFault → VmbusFault
rndis_told (RndisShort have need) = record { have = have; need = need; field = 0; value = 0 }
rndis_told (RndisUnknown kind) = record { have = 0; need = 0; field = 0; value = kind }
rndis_told (RndisLong have) = record { have = have; need = 0; field = 0; value = 0 }
rndis_told (RndisField Offset value) = record { have = 0; need = 0; field = 1; value = value }
rndis_told (RndisField Length value) = record { have = 0; need = 0; field = 2; value = value }
