-- Each block of a disk that can be written has room.
use Rattle.std.specs.Prelude.{ℕ, ◌+◌, ◌<◌, ◌≤◌, List, nat_eq, min, length}
use Rattle.std.specs.List.{AllByRecursion}
use Rattle.std.specs.Map.{keys_of}
use Rattle.std.specs.declared.hash.FoldHasher.{FoldHasher}
use Rattle.std.specs.declared.hash.BuildHasherDefault.{BuildHasherDefault}
use Rattle.indexmap.specs.IndexMap.{IndexMap, IsUnique, spare}
use Rattle.scsi_disk.specs.DiskModel.{most_written}

-- the written blocks by their places
abbrev pub Written : Type 0
Written = IndexMap ℕ (List ℕ) (BuildHasherDefault FoldHasher)

-- each block was written within the disk, and as many as can be written have room
pub record HasRoom (blocks : ℕ) (m : Written) : Type 0 where
  pub within : AllByRecursion (λ k. k < blocks) (keys_of m.entries)
  pub apart : IsUnique nat_eq m
  pub room : min blocks most_written ≤ spare m + length m.entries
