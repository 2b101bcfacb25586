-- A read and a write of at most 8 blocks go through their channel.
use Rattle.std.proofs.Common.{◌≡◌, ◌≤◌, ◌*◌, ℕ, List, length, Some, refl, subst, arith}
use Rattle.std.specs.Prelude.{IsSome}
use Rattle.scsi_disk.specs.Commands.{command_of}
use Rattle.scsi_disk.specs.declared.command.Command.TheVariants.{Read, Write}
use Rattle.script_lines.specs.Requests.{CanBeCarried, most_moved, bytes_written}

write_carried : (cdb out : List ℕ) (lba count : ℕ) → length cdb ≡ 16 → Some (Write lba count) ≡ command_of cdb → count ≤ 8 → length out ≡ 512 * count → CanBeCarried (record { cdb = cdb; out = out })
write_carried cdb out lba count len is few all = record {
  bytes = len;
  built = subst (λ k. IsSome k) is refl;
  moves = subst (λ k. most_moved k ≤ 4096) is (omega arith);
  writes = subst (λ k. length out ≡ bytes_written k) is all;
}

read_carried : (cdb out : List ℕ) (lba count : ℕ) → length cdb ≡ 16 → Some (Read lba count) ≡ command_of cdb → count ≤ 8 → length out ≡ 0 → CanBeCarried (record { cdb = cdb; out = out })
read_carried cdb out lba count len is few none = record {
  bytes = len;
  built = subst (λ k. IsSome k) is refl;
  moves = subst (λ k. most_moved k ≤ 4096) is (omega arith);
  writes = subst (λ k. length out ≡ bytes_written k) is none;
}
