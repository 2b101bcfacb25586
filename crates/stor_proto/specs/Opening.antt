-- What the host answers in a channel's start-up.
use Rattle.std.specs.Prelude.{ℕ, Bool, ◌==◌, ◌||◌, nat_le, replicate, List, Option, Some, if◌then◌else◌}
use Rattle.stor_proto.specs.Fields.{number_at, with_number}
use Rattle.stor_proto.specs.Operations.{operation_of, number_of_operation}
use Rattle.stor_proto.specs.declared.vstor.Vstor.{Vstor}
use Rattle.stor_proto.specs.declared.operation.Operation.{Operation}
use Rattle.stor_proto.specs.declared.operation.Operation.TheVariants.{BeginInitialization, EndInitialization, QueryProtocolVersion, QueryProperties, EnumerateBus, CreateSubChannels}

-- versions 6.2, 6.0 and 5.1, as major * 256 + minor
abbrev pub is_version : ℕ → Bool
is_version v = (v == 0x0602) || (v == 0x0600) || (v == 0x0501)

-- the status of an answer, by the operation and the number that stands first in its request
abbrev pub status_of : Option Operation → ℕ → ℕ
status_of (Some BeginInitialization) first = 0
status_of (Some EndInitialization) first = 0
status_of (Some EnumerateBus) first = 0
status_of (Some QueryProtocolVersion) first = if is_version first then 0 else 1
status_of (Some QueryProperties) first = 0
status_of (Some CreateSubChannels) first = if nat_le first 3 then 0 else 1
status_of _ first = 1

-- at most 3 sub-channels, flags 1, at most 4,096 bytes
abbrev pub with_properties : List ℕ → List ℕ
with_properties rest = with_number 12 4 4096 (with_number 8 4 1 (with_number 4 2 3 rest))

-- the bytes of an answer: those of its request but for properties
abbrev pub rest_of : Option Operation → List ℕ → List ℕ
rest_of (Some QueryProperties) rest = with_properties rest
rest_of _ rest = rest

-- the answer to a request that isn't an srb
abbrev pub answer_of : Vstor → Vstor
answer_of p = record {
  operation = 1;
  flags = p.flags;
  status = status_of (operation_of p.operation) (number_at 0 2 p.rest);
  rest = rest_of (operation_of p.operation) p.rest;
}

-- a request of the start-up: a version or a count stands first, and all else is 0
abbrev pub start_of : Operation → ℕ → Vstor
start_of operation first = record {
  operation = number_of_operation operation;
  flags = 1;
  status = 0;
  rest = with_number 0 2 first (replicate 52 0);
}
