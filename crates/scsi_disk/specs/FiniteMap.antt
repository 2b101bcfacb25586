-- What a disk keeps, and the disk for which that stands.
use Rattle.std.specs.Prelude.{ℕ, Bool, zero, suc, ◌+◌, List, [], take, drop, nat_eq, fold, unwrap_or, Option, Some, is_none, if◌then◌else◌}
use Rattle.std.specs.List.{list_any}
use Rattle.std.specs.Map.{keys_of, lookup}
use Rattle.indexmap.specs.IndexMap.{insert_entry}
use Rattle.indexmap.specs.IndexSet.{insert_key}
use Rattle.scsi_disk.specs.Commands.{command_of}
use Rattle.scsi_disk.specs.DiskModel.{DiskState, zero_block, refusal_of}
use Rattle.scsi_disk.specs.declared.command.Command.{Command}
use Rattle.scsi_disk.specs.declared.command.Command.TheVariants.{Write}
use Rattle.scsi_disk.specs.declared.request.DiskRequest.{DiskRequest}

-- how many blocks, the bad places, and the blocks that were written, each place once
pub record Kept : Type 0 where
  pub blocks : ℕ
  pub bad : List ℕ
  pub written : List (ℕ × List ℕ)

-- the block at a place: zero where none was written
abbrev pub block_in : List (ℕ × List ℕ) → ℕ → List ℕ
block_in written place = unwrap_or (lookup (nat_eq place) written) zero_block

-- a place is among the bad ones
abbrev pub is_among : List ℕ → ℕ → Bool
is_among bad place = list_any (nat_eq place) bad

-- the disk that is kept so
abbrev pub stands_for : Kept → DiskState
stands_for k = record { blocks = k.blocks; bytes_at = block_in k.written; written = keys_of k.written; is_bad = is_among k.bad }

-- each place once
abbrev pub distinct : List ℕ → List ℕ
distinct places = fold (insert_key nat_eq) [] places

-- a new disk
abbrev pub made : ℕ → List ℕ → Kept
made blocks bad = record { blocks = blocks; bad = distinct bad; written = [] }

-- the same disk with other written blocks
abbrev pub with_written : Kept → List (ℕ × List ℕ) → Kept
with_written k written = record { blocks = k.blocks; bad = k.bad; written = written }

-- the first state of the disk's setup: nothing was written
abbrev pub unwritten : Kept → Kept
unwritten k = with_written k []

-- the written blocks after the bytes of out are put into so many blocks from lba on
unfoldable pub with_blocks : List (ℕ × List ℕ) → ℕ → ℕ → List ℕ → List (ℕ × List ℕ)
with_blocks written lba zero out = written
with_blocks written lba (suc n) out = with_blocks (insert_entry nat_eq written lba (take 512 out)) (lba + 1) n (drop 512 out)

-- the written blocks after a command
abbrev pub written_after : Kept → Option Command → List ℕ → List (ℕ × List ℕ)
written_after k (Some (Write lba count)) out =
    if is_none (refusal_of (stands_for k) (Write lba count) out) then with_blocks k.written lba count out else k.written
written_after k _ out = k.written

-- what is kept after a request
abbrev pub kept_after : Kept → DiskRequest → Kept
kept_after k q = with_written k (written_after k (command_of q.cdb) q.out)
