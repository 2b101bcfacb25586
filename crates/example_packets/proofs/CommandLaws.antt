-- The command that reads blocks is read as such.
use Rattle.std.proofs.Common.{◌≡◌, ℕ, ◌<◌, ◌^◌, ap, ◌∙◌}
use Rattle.std.specs.Prelude.{Some}
use Rattle.scsi_disk.specs.Commands.{command_of, lba_of, count_of}
use Rattle.scsi_disk.specs.declared.command.Command.TheVariants.{Read}
use Rattle.scsi_disk.proofs.BigEndianLaws.{be_number-to_be_bytes_2, be_number-to_be_bytes_4}
use Rattle.example_packets.specs.Disks.{read_command}

lba_is : (lba count : ℕ) → lba < 2 ^ 32 → lba_of (read_command lba count) ≡ lba
lba_is lba count small = be_number-to_be_bytes_4 lba small

count_is : (lba count : ℕ) → count < 2 ^ 16 → count_of (read_command lba count) ≡ count
count_is lba count small = be_number-to_be_bytes_2 count small

pub read_is : (lba count : ℕ) → lba < 2 ^ 32 → count < 2 ^ 16 → command_of (read_command lba count) ≡ Some (Read lba count)
unfolding command_of
read_is lba count small few =
    ap (λ n. Some (Read n (count_of (read_command lba count)))) (lba_is lba count small) ∙ ap (λ n. Some (Read lba n)) (count_is lba count few)
