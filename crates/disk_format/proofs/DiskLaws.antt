-- The storage packets that a guest sends are in form.
use Rattle.std.proofs.Common.{◌≡◌, ℕ, ◌^◌, ◌<◌, List, [], length, replicate, Option, refl, ◌∙◌, lit≤, arith}
use Rattle.wire_table.proofs.RowLaws.{IsBytes}
use Rattle.scsi_disk.specs.declared.command.Command.{Command}
use Rattle.stor_proto.specs.Fields.{with_number}
use Rattle.stor_proto.specs.Operations.{number_of_operation}
use Rattle.stor_proto.specs.Opening.{start_of}
use Rattle.stor_proto.specs.Packets.{IsAllowed}
use Rattle.stor_proto.specs.Srbs.{bytes_moved, cdb_length, data_in, ask_rest}
use Rattle.stor_proto.specs.declared.operation.Operation.{Operation}
use Rattle.stor_proto.specs.declared.operation.Operation.TheVariants.{CompleteIo, RemoveDevice, ExecuteSrb, BeginInitialization, EndInitialization, QueryProtocolVersion, QueryProperties, EnumerateBus, CreateSubChannels}
use Rattle.disk_format.specs.declared.disk_step.DiskStep.{DiskStep}
use Rattle.disk_format.specs.declared.disk_step.DiskStep.TheVariants.{Begin, Version, Properties, End, SubChannels}
use Rattle.disk_format.specs.Disks.{start_vstor}
use Rattle.device_packets.proofs.ByteLaws.{zero_bytes, with_number_bytes, with_bytes_bytes}
use Rattle.disk_format.proofs.VstorLaws.{Formed, length-with_bytes, number_put}

-- the start-up

small_operation : (o : Operation) → number_of_operation o < 256 ^ 4
small_operation CompleteIo = omega arith
small_operation RemoveDevice = omega arith
small_operation ExecuteSrb = omega arith
small_operation BeginInitialization = omega arith
small_operation EndInitialization = omega arith
small_operation QueryProtocolVersion = omega arith
small_operation QueryProperties = omega arith
small_operation EnumerateBus = omega arith
small_operation CreateSubChannels = omega arith

start_formed : (operation : Operation) (first : ℕ) → Formed (start_of operation first)
start_formed operation first = record {
  operation = small_operation operation;
  flags = omega arith;
  status = omega arith;
  len = number_put 0 2 first (replicate 52 0) (lit≤ tt) refl;
  bytes = with_number_bytes 0 2 first (replicate 52 0) (zero_bytes 52);
}

pub start_is_formed : (k : DiskStep) → Formed (start_vstor k)
start_is_formed Begin = start_formed BeginInitialization 0
start_is_formed Version = start_formed QueryProtocolVersion 0x0602
start_is_formed Properties = start_formed QueryProperties 0
start_is_formed End = start_formed EndInitialization 0
start_is_formed (SubChannels n) = start_formed CreateSubChannels n

pub start_allowed : (k : DiskStep) → IsAllowed (start_vstor k)
start_allowed Begin = (refl, λ other. refl)
start_allowed Version = (refl, λ other. refl)
start_allowed Properties = (refl, λ other. refl)
start_allowed End = (refl, λ other. refl)
start_allowed (SubChannels n) = (refl, λ other. refl)

pub none_are_bytes : IsBytes []
none_are_bytes i = omega arith

-- requests of the disk

pub rest_formed : (k : Option Command) (cdb : List ℕ) (n : ℕ) → length cdb ≡ 16 → IsBytes cdb → (length (ask_rest k cdb n) ≡ 52) × IsBytes (ask_rest k cdb n)
rest_formed k cdb n len bytes =
    let a0 = replicate {A = ℕ} 52 0 in
    let a1 = with_number 0 2 52 a0 in
    let a2 = with_number 8 1 (cdb_length cdb) a1 in
    let a3 = with_number 9 1 20 a2 in
    let a4 = with_number 10 1 (data_in k) a3 in
    let a5 = with_number 12 4 (bytes_moved k n) a4 in
    let l1 = number_put 0 2 52 a0 (lit≤ tt) refl in
    let l2 = number_put 8 1 (cdb_length cdb) a1 (lit≤ tt) l1 in
    let l3 = number_put 9 1 20 a2 (lit≤ tt) l2 in
    let l4 = number_put 10 1 (data_in k) a3 (lit≤ tt) l3 in
    let l5 = number_put 12 4 (bytes_moved k n) a4 (lit≤ tt) l4 in
    let all = with_number_bytes 12 4 (bytes_moved k n) a4 (with_number_bytes 10 1 (data_in k) a3 (with_number_bytes 9 1 20 a2 (with_number_bytes 8 1 (cdb_length cdb) a1 (with_number_bytes 0 2 52 a0 (zero_bytes 52))))) in
    (length-with_bytes 16 cdb a5 (omega (arith, l5, len)) ∙ l5, with_bytes_bytes 16 cdb a5 bytes all)
