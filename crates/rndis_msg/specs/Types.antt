-- The table of Remote NDIS messages: the number of each type, how many bytes its fixed part has, where the fields stand that are
-- kept, and where those of its buffer stand. Each field has 4 bytes.
use Rattle.std.specs.Prelude.{ℕ, List, [], ◌∷◌, Option, Some, None, ◌==◌, if◌then◌else◌}
use Rattle.rndis_msg.specs.declared.message_type.MessageType.{MessageType}
use Rattle.rndis_msg.specs.declared.message_type.MessageType.TheVariants.{PacketMsg, InitializeMsg, InitializeCmplt, HaltMsg, QueryMsg, QueryCmplt, SetMsg, SetCmplt, ResetMsg, ResetCmplt, KeepaliveMsg, KeepaliveCmplt}
use Rattle.rndis_msg.specs.declared.message_type.BufferPlace.{BufferPlace}

-- the number of a type
abbrev pub number_of_type : MessageType → ℕ
number_of_type PacketMsg = 1
number_of_type InitializeMsg = 2
number_of_type InitializeCmplt = 0x8000_0002
number_of_type HaltMsg = 3
number_of_type QueryMsg = 4
number_of_type QueryCmplt = 0x8000_0004
number_of_type SetMsg = 5
number_of_type SetCmplt = 0x8000_0005
number_of_type ResetMsg = 6
number_of_type ResetCmplt = 0x8000_0006
number_of_type KeepaliveMsg = 8
number_of_type KeepaliveCmplt = 0x8000_0008

-- the type of a number
abbrev pub message_type : ℕ → Option MessageType
message_type n =
    if n == 1 then Some PacketMsg
    else (if n == 2 then Some InitializeMsg
    else (if n == 0x8000_0002 then Some InitializeCmplt
    else (if n == 3 then Some HaltMsg
    else (if n == 4 then Some QueryMsg
    else (if n == 0x8000_0004 then Some QueryCmplt
    else (if n == 5 then Some SetMsg
    else (if n == 0x8000_0005 then Some SetCmplt
    else (if n == 6 then Some ResetMsg
    else (if n == 0x8000_0006 then Some ResetCmplt
    else (if n == 8 then Some KeepaliveMsg
    else (if n == 0x8000_0008 then Some KeepaliveCmplt
    else None)))))))))))

-- how many bytes the fixed part has, type and length included
abbrev pub fixed_part : MessageType → ℕ
fixed_part PacketMsg = 44
fixed_part InitializeMsg = 24
fixed_part InitializeCmplt = 52
fixed_part HaltMsg = 12
fixed_part QueryMsg = 28
fixed_part QueryCmplt = 24
fixed_part SetMsg = 28
fixed_part SetCmplt = 16
fixed_part ResetMsg = 12
fixed_part ResetCmplt = 16
fixed_part KeepaliveMsg = 12
fixed_part KeepaliveCmplt = 16

-- where the fields begin that are kept, in order
abbrev pub kept_places : MessageType → List ℕ
kept_places PacketMsg = []
kept_places InitializeMsg = 8 ∷ 12 ∷ 16 ∷ 20 ∷ []
kept_places InitializeCmplt = 8 ∷ 12 ∷ 16 ∷ 20 ∷ 24 ∷ 28 ∷ 32 ∷ 36 ∷ 40 ∷ []
kept_places HaltMsg = 8 ∷ []
kept_places QueryMsg = 8 ∷ 12 ∷ []
kept_places QueryCmplt = 8 ∷ 12 ∷ []
kept_places SetMsg = 8 ∷ 12 ∷ []
kept_places SetCmplt = 8 ∷ 12 ∷ []
kept_places ResetMsg = []
kept_places ResetCmplt = 8 ∷ 12 ∷ []
kept_places KeepaliveMsg = 8 ∷ []
kept_places KeepaliveCmplt = 8 ∷ 12 ∷ []

-- where the offset and the length of the buffer begin, in a message that may have one
abbrev pub buffer_place : MessageType → Option BufferPlace
buffer_place PacketMsg = Some (record { offset = 8; length = 12 })
buffer_place QueryMsg = Some (record { offset = 20; length = 16 })
buffer_place QueryCmplt = Some (record { offset = 20; length = 16 })
buffer_place SetMsg = Some (record { offset = 20; length = 16 })
buffer_place _ = None
