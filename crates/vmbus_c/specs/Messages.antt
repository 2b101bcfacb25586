-- A control message and a refusal as the numbers that C sees.
use Rattle.std.specs.Prelude.{ℕ, length}
use Rattle.vmbus_msg.specs.declared.msg.Msg.{Msg}
use Rattle.vmbus_msg.specs.declared.msg.Msg.TheVariants.{OfferChannel, RescindChannelOffer, RequestOffers, AllOffersDelivered, OpenChannel, OpenChannelResult, CloseChannel, GpadlHeader, GpadlBody, GpadlCreated, GpadlTeardown, GpadlTorndown, RelidReleased, InitiateContact, VersionResponse, Unload, UnloadResponse, TlConnectRequest, ModifyChannel, ModifyChannelResponse}
use Rattle.vmbus_msg.specs.declared.fault.MsgFault.{MsgFault}
use Rattle.vmbus_msg.specs.declared.fault.MsgFault.TheVariants.{Short, Unknown, Long, Field}
use Rattle.vmbus_msg.specs.declared.field_name.FieldName.TheVariants.{RangeBuflen, Rangecount}
use Rattle.vmbus_c.specs.declared.messages.VmbusMessage.{VmbusMessage}
use Rattle.vmbus_fault.specs.declared.fault.VmbusFault.{VmbusFault}

-- a message of this type with all other numbers 0
abbrev pub bare : ℕ → ℕ → VmbusMessage
bare kind padding = record { kind = kind; padding = padding; relid = 0; openid = 0; gpadl = 0; status = 0; target_vp = 0; downstream = 0; version = 0; target_vcpu = 0; supported = 0; state = 0; padding2 = 0; conn = 0; msgnumber = 0; range_buflen = 0; rangecount = 0; byte_count = 0; byte_offset = 0; frames = 0; chn_flags = 0; mmio = 0; sub = 0; reserved3 = 0; monitorid = 0; monitor = 0; interrupt = 0; connection = 0; page = 0; monitor1 = 0; monitor2 = 0; reserved1 = 0; reserved2 = 0 }

-- its numbers, by type
abbrev pub fields_of : Msg → VmbusMessage
fields_of (OfferChannel padding if_type if_instance reserved1 reserved2 chn_flags mmio user sub reserved3 relid monitorid monitor interrupt connection) = record (bare 1 padding) { reserved1 = reserved1; reserved2 = reserved2; chn_flags = chn_flags; mmio = mmio; sub = sub; reserved3 = reserved3; relid = relid; monitorid = monitorid; monitor = monitor; interrupt = interrupt; connection = connection }
fields_of (RescindChannelOffer padding relid) = record (bare 2 padding) { relid = relid }
fields_of (RequestOffers padding) = bare 3 padding
fields_of (AllOffersDelivered padding) = bare 4 padding
fields_of (OpenChannel padding relid openid gpadl target_vp downstream user) = record (bare 5 padding) { relid = relid; openid = openid; gpadl = gpadl; target_vp = target_vp; downstream = downstream }
fields_of (OpenChannelResult padding relid openid status) = record (bare 6 padding) { relid = relid; openid = openid; status = status }
fields_of (CloseChannel padding relid) = record (bare 7 padding) { relid = relid }
fields_of (GpadlHeader h) = record (bare 8 h.padding) { relid = h.relid; gpadl = h.gpadl; range_buflen = h.range_buflen; rangecount = h.rangecount; byte_count = h.byte_count; byte_offset = h.byte_offset; frames = length h.frames }
fields_of (GpadlBody b) = record (bare 9 b.padding) { msgnumber = b.msgnumber; gpadl = b.gpadl; frames = length b.frames }
fields_of (GpadlCreated padding relid gpadl status) = record (bare 10 padding) { relid = relid; gpadl = gpadl; status = status }
fields_of (GpadlTeardown padding relid gpadl) = record (bare 11 padding) { relid = relid; gpadl = gpadl }
fields_of (GpadlTorndown padding gpadl) = record (bare 12 padding) { gpadl = gpadl }
fields_of (RelidReleased padding relid) = record (bare 13 padding) { relid = relid }
fields_of (InitiateContact padding version target_vcpu page monitor1 monitor2) = record (bare 14 padding) { version = version; target_vcpu = target_vcpu; page = page; monitor1 = monitor1; monitor2 = monitor2 }
fields_of (VersionResponse padding supported state padding2 conn) = record (bare 15 padding) { supported = supported; state = state; padding2 = padding2; conn = conn }
fields_of (Unload padding) = bare 16 padding
fields_of (UnloadResponse padding) = bare 17 padding
fields_of (TlConnectRequest padding guest_endpoint host_service) = bare 21 padding
fields_of (ModifyChannel padding relid target_vp) = record (bare 22 padding) { relid = relid; target_vp = target_vp }
fields_of (ModifyChannelResponse padding relid status) = record (bare 24 padding) { relid = relid; status = status }

-- the number of a refusal
abbrev pub number_of : MsgFault → ℕ
number_of (Short have need) = 1
number_of (Unknown kind) = 2
number_of (Long have) = 3
number_of (Field name value) = 4

-- its numbers
abbrev pub told_of : MsgFault → VmbusFault
told_of (Short have need) = record { have = have; need = need; field = 0; value = 0 }
told_of (Unknown kind) = record { have = 0; need = 0; field = 0; value = kind }
told_of (Long have) = record { have = have; need = 0; field = 0; value = 0 }
told_of (Field RangeBuflen value) = record { have = 0; need = 0; field = 1; value = value }
told_of (Field Rangecount value) = record { have = 0; need = 0; field = 2; value = value }
