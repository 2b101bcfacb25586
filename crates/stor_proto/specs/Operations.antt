-- The operations of a storage packet, by their numbers.
use Rattle.std.specs.Prelude.{ℕ, ◌==◌, Option, Some, None, if◌then◌else◌}
use Rattle.stor_proto.specs.declared.operation.Operation.{Operation}
use Rattle.stor_proto.specs.declared.operation.Operation.TheVariants.{CompleteIo, RemoveDevice, ExecuteSrb, BeginInitialization, EndInitialization, QueryProtocolVersion, QueryProperties, EnumerateBus, CreateSubChannels}

-- the operation of a number
abbrev pub operation_of : ℕ → Option Operation
operation_of n =
    if n == 1 then Some CompleteIo
    else (if n == 2 then Some RemoveDevice
    else (if n == 3 then Some ExecuteSrb
    else (if n == 7 then Some BeginInitialization
    else (if n == 8 then Some EndInitialization
    else (if n == 9 then Some QueryProtocolVersion
    else (if n == 10 then Some QueryProperties
    else (if n == 11 then Some EnumerateBus
    else (if n == 13 then Some CreateSubChannels
    else None))))))))

-- the number of an operation
abbrev pub number_of_operation : Operation → ℕ
number_of_operation CompleteIo = 1
number_of_operation RemoveDevice = 2
number_of_operation ExecuteSrb = 3
number_of_operation BeginInitialization = 7
number_of_operation EndInitialization = 8
number_of_operation QueryProtocolVersion = 9
number_of_operation QueryProperties = 10
number_of_operation EnumerateBus = 11
number_of_operation CreateSubChannels = 13
