-- Each request of a line goes through its disk's channel.
use Rattle.std.proofs.Common.{◌≡◌, ℕ, ◌*◌, ◌<◌, ◌≤◌, ◌^◌, Bool, true, cond, nat_lt, length, [], refl, sym, ap, ◌∙◌, subst, arith}
use Rattle.std.specs.Prelude.{Option, Some, None, IsSome, is_some, IfSome, unwrap_or}
use Rattle.std.proofs.lemmas.Bool.Decides.{nat_tests}
use Rattle.std.proofs.lemmas.List.{length-replicate}
use Rattle.scsi_disk.specs.BigEndian.{be_number}
use Rattle.scsi_disk.specs.Commands.{command_of, lba_of, count_of, wide_lba, wide_count}
use Rattle.scsi_disk.specs.declared.command.Command.{Command}
use Rattle.scsi_disk.specs.declared.command.Command.TheVariants.{TestUnitReady, Inquiry as IsInquiry, ReadCapacity, Read as IsRead, Write as IsWrite, SynchronizeCache, LongCapacity as IsLongCapacity}
use Rattle.scsi_disk.proofs.BigEndianLaws.{be_number-to_be_bytes_2, be_number-to_be_bytes_4, be_number-to_be_bytes_8}
use Rattle.scsi_disk.proofs.RoomLaws.{by_test}
use Rattle.script_lines.specs.declared.disk_ask.DiskAsk.{DiskAsk}
use Rattle.script_lines.specs.declared.disk_ask.DiskAsk.TheVariants.{Ready, Inquiry, Capacity, LongCapacity, Flush, Read, Write}
use Rattle.script_lines.specs.Faults.{asks_in_range}
use Rattle.script_lines.specs.Requests.{ten, sixteen, moving, cdb_of, request_of, command_said, AskInRange, most_moved, bytes_written, CanBeCarried}

lba_is : (code lba count : ℕ) → lba < 2 ^ 32 → lba_of (ten code lba count) ≡ lba
lba_is code lba count small = be_number-to_be_bytes_4 lba small

count_is : (code lba count : ℕ) → count < 2 ^ 16 → count_of (ten code lba count) ≡ count
count_is code lba count small = be_number-to_be_bytes_2 count small

wide_lba_is : (code lba count : ℕ) → lba < 2 ^ 64 → wide_lba (sixteen code lba count) ≡ lba
wide_lba_is code lba count small = be_number-to_be_bytes_8 lba small

wide_count_is : (code lba count : ℕ) → count < 2 ^ 32 → wide_count (sixteen code lba count) ≡ count
wide_count_is code lba count small = be_number-to_be_bytes_4 count small

pub ready_is : command_of (cdb_of Ready) ≡ Some TestUnitReady
unfolding command_of
ready_is = refl

pub inquiry_is : command_of (cdb_of Inquiry) ≡ Some (IsInquiry true 36)
unfolding command_of be_number
inquiry_is = refl

pub capacity_is : command_of (cdb_of Capacity) ≡ Some ReadCapacity
unfolding command_of
capacity_is = refl

pub long_capacity_is : command_of (cdb_of LongCapacity) ≡ Some (IsLongCapacity true 32)
unfolding command_of be_number
long_capacity_is = refl

pub flush_is : command_of (cdb_of Flush) ≡ Some SynchronizeCache
unfolding command_of
flush_is = refl

narrow_read : (lba count : ℕ) → lba < 2 ^ 32 → count < 2 ^ 16 → command_of (ten 0x28 lba count) ≡ Some (IsRead lba count)
unfolding command_of
narrow_read lba count small few =
    ap (λ n. Some (IsRead n (count_of (ten 0x28 lba count)))) (lba_is 0x28 lba count small) ∙ ap (λ n. Some (IsRead lba n)) (count_is 0x28 lba count few)

narrow_write : (lba count : ℕ) → lba < 2 ^ 32 → count < 2 ^ 16 → command_of (ten 0x2a lba count) ≡ Some (IsWrite lba count)
unfolding command_of
narrow_write lba count small few =
    ap (λ n. Some (IsWrite n (count_of (ten 0x2a lba count)))) (lba_is 0x2a lba count small) ∙ ap (λ n. Some (IsWrite lba n)) (count_is 0x2a lba count few)

wide_read : (lba count : ℕ) → lba < 2 ^ 64 → count < 2 ^ 32 → command_of (sixteen 0x88 lba count) ≡ Some (IsRead lba count)
unfolding command_of
wide_read lba count small few =
    ap (λ n. Some (IsRead n (wide_count (sixteen 0x88 lba count)))) (wide_lba_is 0x88 lba count small) ∙ ap (λ n. Some (IsRead lba n)) (wide_count_is 0x88 lba count few)

wide_write : (lba count : ℕ) → lba < 2 ^ 64 → count < 2 ^ 32 → command_of (sixteen 0x8a lba count) ≡ Some (IsWrite lba count)
unfolding command_of
wide_write lba count small few =
    ap (λ n. Some (IsWrite n (wide_count (sixteen 0x8a lba count)))) (wide_lba_is 0x8a lba count small) ∙ ap (λ n. Some (IsWrite lba n)) (wide_count_is 0x8a lba count few)

-- a command that moves blocks, of either length
moved_by : (narrow wide lba count : ℕ) (c : Command) → (lba < 2 ^ 32 → command_of (ten narrow lba count) ≡ Some c) → command_of (sixteen wide lba count) ≡ Some c → command_of (moving narrow wide lba count) ≡ Some c
moved_by narrow wide lba count c short long =
    let either = λ (b : Bool). command_of (cond b (ten narrow lba count) (sixteen wide lba count)) in
    by_test (nat_lt lba (2 ^ 32))
    (λ is. let small : lba < 2 ^ 32 = grind (arith, nat_tests, is) in ap either is ∙ short small)
    (λ is. ap either is ∙ long)

pub read_is : (lba count : ℕ) → lba < 2 ^ 64 → count < 2 ^ 16 → command_of (moving 0x28 0x88 lba count) ≡ Some (IsRead lba count)
read_is lba count small few = moved_by 0x28 0x88 lba count (IsRead lba count) (λ narrow. narrow_read lba count narrow few) (wide_read lba count small (omega (arith, few)))

pub write_is : (lba count : ℕ) → lba < 2 ^ 64 → count < 2 ^ 16 → command_of (moving 0x2a 0x8a lba count) ≡ Some (IsWrite lba count)
write_is lba count small few = moved_by 0x2a 0x8a lba count (IsWrite lba count) (λ narrow. narrow_write lba count narrow few) (wide_write lba count small (omega (arith, few)))

moving_long : (narrow wide lba count : ℕ) → length (moving narrow wide lba count) ≡ 16
moving_long narrow wide lba count =
    let either = λ (b : Bool). length (cond b (ten narrow lba count) (sixteen wide lba count)) in
    by_test (nat_lt lba (2 ^ 32)) (λ is. ap either is ∙ refl) (λ is. ap either is ∙ refl)

or_zero_small : (o : Option ℕ) (n : ℕ) → 0 < n → IfSome o (λ m. m < n) → unwrap_or o 0 < n
or_zero_small None n some small = some
or_zero_small (Some m) n some small = small

or_zero_few : (o : Option ℕ) → IfSome o (λ m. m ≤ 8) → unwrap_or o 0 ≤ 8
or_zero_few None few = omega arith
or_zero_few (Some m) few = few

-- the disk reads the command of a line in its request
pub reads_back : (ask : DiskAsk) → AskInRange ask → command_of (cdb_of ask) ≡ Some (command_said ask)
reads_back Ready range = ready_is
reads_back Inquiry range = inquiry_is
reads_back Capacity range = capacity_is
reads_back LongCapacity range = long_capacity_is
reads_back Flush range = flush_is
reads_back (Read lba count) range = read_is (unwrap_or lba 0) (unwrap_or count 0) (or_zero_small lba (2 ^ 64) (omega arith) range.0) (omega (arith, or_zero_few count range.1))
reads_back (Write lba count byte) range = write_is (unwrap_or lba 0) (unwrap_or count 0) (or_zero_small lba (2 ^ 64) (omega arith) range.0) (omega (arith, or_zero_few count range.1))

some_command : (o : Option Command) (c : Command) → o ≡ Some c → IsSome o
some_command o c is = ap is_some is

-- a command that writes nothing, with no data
unwritten : (ask : DiskAsk) (c : Command) → command_of (cdb_of ask) ≡ Some c → length (cdb_of ask) ≡ 16 → (request_of ask).out ≡ [] → most_moved (Some c) ≤ 4096 → bytes_written (Some c) ≡ 0 → CanBeCarried (request_of ask)
unwritten ask c is long empty few none = record {
  bytes = long;
  built = some_command _ c is;
  moves = subst (λ o. most_moved o ≤ 4096) (sym is) few;
  writes = ap length empty ∙ sym (ap bytes_written is ∙ none);
}

-- a request in its ranges
pub asks_carried : (ask : DiskAsk) → asks_in_range ask ≡ true → AskInRange ask → CanBeCarried (request_of ask)
asks_carried Ready holds range = unwritten Ready TestUnitReady ready_is refl refl (omega arith) refl
asks_carried Inquiry holds range = unwritten Inquiry (IsInquiry true 36) inquiry_is refl refl (omega arith) refl
asks_carried Capacity holds range = unwritten Capacity ReadCapacity capacity_is refl refl (omega arith) refl
asks_carried LongCapacity holds range = unwritten LongCapacity (IsLongCapacity true 32) long_capacity_is refl refl (omega arith) refl
asks_carried Flush holds range = unwritten Flush SynchronizeCache flush_is refl refl (omega arith) refl
asks_carried (Read None count) holds range = absurd (cc)
asks_carried (Read (Some lba) None) holds range = absurd (cc)
asks_carried (Read (Some lba) (Some count)) holds range =
    unwritten (Read (Some lba) (Some count)) (IsRead lba count) (read_is lba count range.0 (omega (arith, range.1))) (moving_long 0x28 0x88 lba count) refl (omega (arith, range.1)) refl
asks_carried (Write None count byte) holds range = absurd (cc)
asks_carried (Write (Some lba) None byte) holds range = absurd (cc)
asks_carried (Write (Some lba) (Some count) byte) holds range =
    let is = write_is lba count range.0 (omega (arith, range.1)) in
    record {
      bytes = moving_long 0x2a 0x8a lba count;
      built = some_command _ (IsWrite lba count) is;
      moves = subst (λ o. most_moved o ≤ 4096) (sym is) (omega (arith, range.1));
      writes = length-replicate (512 * count) byte ∙ sym (ap bytes_written is);
    }
