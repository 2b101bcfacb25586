-- What is kept after a request stands for the disk after it.
use Rattle.std.proofs.Common.{◌≡◌, ℕ, Bool, true, false, cond, List, ◌++◌, Option, Some, None, refl}
use Rattle.std.specs.Prelude.{is_none}
use Rattle.std.specs.Map.{keys_of}
use Rattle.scsi_disk.specs.Commands.{command_of}
use Rattle.scsi_disk.specs.DiskModel.{refusal_of, first_written, command_after, disk_after, overwritten}
use Rattle.scsi_disk.specs.FiniteMap.{Kept, stands_for, with_written, written_after, kept_after, block_in, with_blocks}
use Rattle.scsi_disk.specs.declared.command.Command.{Command}
use Rattle.scsi_disk.specs.declared.command.Command.TheVariants.{TestUnitReady, Inquiry, ReadCapacity, Read, Write, SynchronizeCache, LongCapacity}
use Rattle.scsi_disk.specs.declared.request.DiskRequest.{DiskRequest}
use Rattle.scsi_disk.proofs.BlockLaws.{block_in-with_blocks}
use Rattle.scsi_disk.proofs.SpaceLaws.{keys_with_blocks}

written_blocks : (k : Kept) (lba count : ℕ) (out : List ℕ) (b : Bool)
    → stands_for (with_written k (cond b (with_blocks k.written lba count out) k.written))
    ≡ cond b (record { blocks = k.blocks; bytes_at = overwritten (block_in k.written) lba count out; written = keys_of k.written ++ first_written (keys_of k.written) lba count; is_bad = (stands_for k).is_bad }) (stands_for k)
written_blocks k lba count out true = λ i. record {
  blocks = k.blocks;
  bytes_at = λ q. block_in-with_blocks count lba k.written out q i;
  written = keys_with_blocks count lba k.written out i;
  is_bad = (stands_for k).is_bad;
}
written_blocks k lba count out false = refl

after_command : (k : Kept) (c : Option Command) (out : List ℕ) → stands_for (with_written k (written_after k c out)) ≡ command_after (stands_for k) c out
after_command k (Some (Write lba count)) out = written_blocks k lba count out (is_none (refusal_of (stands_for k) (Write lba count) out))
after_command k (Some TestUnitReady) out = refl
after_command k (Some (Inquiry standard allocation)) out = refl
after_command k (Some ReadCapacity) out = refl
after_command k (Some (Read lba count)) out = refl
after_command k (Some SynchronizeCache) out = refl
after_command k (Some (LongCapacity built allocation)) out = refl
after_command k None out = refl

-- the finite map and the total map take each request alike
pub stands_for-kept_after : (k : Kept) (q : DiskRequest) → stands_for (kept_after k q) ≡ disk_after (stands_for k) q
stands_for-kept_after k q = after_command k (command_of q.cdb) q.out
