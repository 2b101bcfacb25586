-- Disks whose blocks are each of one byte.
use Rattle.std.proofs.Common.{◌≡◌, ℕ, ◌+◌, ◌-◌, ◌*◌, ◌≤◌, ◌<◌, cond, ◌&&◌, List, [], ◌++◌, length, take, min, nat_le, nat_lt, Option, Some, None, refl, sym, ap, ◌∙◌, subst, arith}
use Rattle.std.specs.Prelude.{replicate, is_none, slice_range}
use Rattle.std.specs.List.{flat_map, range_with_len}
use Rattle.std.proofs.lemmas.Bool.Decides.{nat_tests}
use Rattle.std.proofs.lemmas.List.{length-take, length-replicate, take-replicate, drop-replicate}
use Rattle.scsi_disk.specs.Commands.{command_of}
use Rattle.scsi_disk.specs.DiskModel.{DiskState, new_disk, inquiry_data, long_capacity, first_written, refusal_of, good_bytes, answer_of, command_reply, command_after, overwritten, disk_reply, disk_after}
use Rattle.scsi_disk.specs.declared.command.Command.{Command}
use Rattle.scsi_disk.specs.declared.command.Command.TheVariants.{TestUnitReady, Inquiry, ReadCapacity, Read, Write, SynchronizeCache, LongCapacity}
use Rattle.scsi_disk.specs.declared.refusal.Refusal.{Refusal}
use Rattle.scsi_disk.specs.declared.refusal.Refusal.TheVariants.{InvalidCode, InvalidField, OutOfRange, UnrecoveredRead, SpaceExhausted}
use Rattle.scsi_disk.specs.declared.request.DiskRequest.{DiskRequest}
use Rattle.scsi_disk.specs.declared.reply.DiskReply.{DiskReply}
use Rattle.scsi_disk.specs.declared.reply.DiskReply.TheVariants.{Good, Check}
use Rattle.scsi_disk.proofs.BlockLaws.{overwritten_inside, overwritten_outside}
use Rattle.scsi_disk.proofs.RefusalLaws.{read_allowed, write_allowed}
use Rattle.scsi_disk.proofs.RoomLaws.{by_test}

-- bytes that are all the same
pub record IsOneByte (bytes : List ℕ) : Type 0 where
  pub byte : ℕ
  pub all : bytes ≡ replicate (length bytes) byte

pub one_byte : (n b : ℕ) → IsOneByte (replicate n b)
one_byte n b = record { byte = b; all = ap (λ k. replicate k b) (sym (length-replicate n b)) }

-- each block is of one byte
abbrev pub HasPlainBlocks : DiskState → Type 0
HasPlainBlocks d = (place : ℕ) → IsOneByte (d.bytes_at place)

-- a new disk's are
pub new_plain : (blocks : ℕ) (bad : List ℕ) → HasPlainBlocks (new_disk blocks bad)
new_plain blocks bad place = one_byte 512 0

-- a part of bytes that are all the same
part_plain : (out : List ℕ) (i : ℕ) → IsOneByte out → i + 512 ≤ length out → IsOneByte (slice_range out i (i + 512))
part_plain out i one within =
    let n = length out in
    let is : slice_range (replicate n one.byte) i (i + 512) ≡ replicate (i + 512 - i) one.byte =
    ap (take (i + 512 - i)) (drop-replicate i n one.byte) ∙ take-replicate (i + 512 - i) (n - i) one.byte (omega arith) in
    subst IsOneByte (sym (ap (λ xs. slice_range xs i (i + 512)) one.all ∙ is)) (one_byte (i + 512 - i) one.byte)

module _ (d : DiskState) (plain : HasPlainBlocks d) (out : List ℕ) (one : IsOneByte out) where
  written : (lba count : ℕ) → length out ≡ 512 * count → (place : ℕ) → IsOneByte (overwritten d.bytes_at lba count out place)
  written lba count long place =
      by_test (nat_le lba place && nat_lt place (lba + count))
      (λ inside.
      let low : lba ≤ place = grind (arith, nat_tests, inside) in
      let high : place < lba + count = grind (arith, nat_tests, inside) in
      subst IsOneByte (sym (overwritten_inside d.bytes_at lba count out place low high)) (part_plain out (512 * (place - lba)) one (omega (arith, low, high, long))))
      (λ outside. subst IsOneByte (sym (overwritten_outside d.bytes_at lba count out place (λ low high. grind (arith, nat_tests, outside, low, high)))) (plain place))

  after_write : (lba count : ℕ) (r : Option Refusal) → refusal_of d (Write lba count) out ≡ r
      → HasPlainBlocks (cond (is_none r) (record { blocks = d.blocks; bytes_at = overwritten d.bytes_at lba count out; written = d.written ++ first_written d.written lba count; is_bad = d.is_bad }) d)
  after_write lba count None is place = let may = write_allowed d lba count out is in written lba count may.1 place
  after_write lba count (Some refusal) is place = plain place

  after_command : (c : Option Command) → HasPlainBlocks (command_after d c out)
  after_command (Some (Write lba count)) = after_write lba count (refusal_of d (Write lba count) out) refl
  after_command (Some TestUnitReady) = plain
  after_command (Some (Inquiry standard allocation)) = plain
  after_command (Some ReadCapacity) = plain
  after_command (Some (Read lba count)) = plain
  after_command (Some SynchronizeCache) = plain
  after_command (Some (LongCapacity built allocation)) = plain
  after_command None = plain

-- a request whose data are all the same byte keeps each block so
pub stays_plain : (d : DiskState) (q : DiskRequest) → HasPlainBlocks d → IsOneByte q.out → HasPlainBlocks (disk_after d q)
stays_plain d q plain one = after_command d plain q.out one (command_of q.cdb)

-- the bytes of a good reply have this
abbrev pub GoodHas : (List ℕ → Type 0) → DiskReply → Type 0
GoodHas P (Good bytes) = P bytes
GoodHas P (Check key asc ascq) = Unit {0}

good_answer : (P : List ℕ → Type 0) (o : Option Refusal) (bytes : List ℕ) → (o ≡ None → P bytes) → GoodHas P (answer_of o bytes)
good_answer P None bytes has = has refl
good_answer P (Some InvalidCode) bytes has = tt
good_answer P (Some InvalidField) bytes has = tt
good_answer P (Some OutOfRange) bytes has = tt
good_answer P (Some UnrecoveredRead) bytes has = tt
good_answer P (Some SpaceExhausted) bytes has = tt

few_inquiry : (allocation : ℕ) → length (take allocation inquiry_data) ≤ 36
few_inquiry allocation = let is : length (take allocation inquiry_data) ≡ min allocation 36 = length-take allocation inquiry_data in omega (arith, is)

few_capacity : (d : DiskState) (allocation : ℕ) → length (take allocation (long_capacity d)) ≤ 32
few_capacity d allocation = let is : length (take allocation (long_capacity d)) ≡ min allocation 32 = length-take allocation (long_capacity d) in omega (arith, is)

-- a good reply has at most 36 bytes, or the blocks of a read, at most 8
module _ (d : DiskState) (P : List ℕ → Type 0) (short : (bytes : List ℕ) → length bytes ≤ 36 → P bytes) (blocks : (lba count : ℕ) → count ≤ 8 → P (flat_map d.bytes_at (range_with_len lba count))) where
  good_has : (c : Command) (out : List ℕ) → refusal_of d c out ≡ None → P (good_bytes d c)
  unfolding good_bytes
  good_has TestUnitReady out may = short [] (omega arith)
  good_has (Inquiry standard allocation) out may = short (take allocation inquiry_data) (few_inquiry allocation)
  good_has ReadCapacity out may = short (good_bytes d ReadCapacity) (omega arith)
  good_has (Read lba count) out may = let allowed = read_allowed d lba count out may in blocks lba count allowed.0
  good_has (Write lba count) out may = short [] (omega arith)
  good_has SynchronizeCache out may = short [] (omega arith)
  good_has (LongCapacity built allocation) out may = let few = few_capacity d allocation in short (take allocation (long_capacity d)) (omega (arith, few))

  command_has : (c : Option Command) (out : List ℕ) → GoodHas P (command_reply d c out)
  command_has (Some c) out = good_answer P (refusal_of d c out) (good_bytes d c) (good_has c out)
  command_has None out = tt

  pub reply_has : (q : DiskRequest) → GoodHas P (disk_reply d q)
  reply_has q = command_has (command_of q.cdb) q.out
