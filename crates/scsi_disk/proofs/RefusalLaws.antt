-- What a command that isn't refused has.
use Rattle.std.proofs.Common.{◌≡◌, ℕ, ◌+◌, ◌*◌, ◌≤◌, Bool, true, false, cond, ◌||◌, not, List, length, Option, Some, None, nat_lt, eqb, refl, arith}
use Rattle.std.proofs.lemmas.Bool.Decides.{nat_tests}
use Rattle.scsi_disk.specs.DiskModel.{DiskState, refusal_of, first_written, most_written}
use Rattle.std.specs.List.{list_any, range_with_len}
use Rattle.scsi_disk.specs.declared.refusal.Refusal.TheVariants.{InvalidField, OutOfRange, UnrecoveredRead, SpaceExhausted}
use Rattle.scsi_disk.specs.declared.command.Command.TheVariants.{Read, Write}

none_from : {E : Type 0} (b : Bool) (x : E) (y : Option E) → cond b (Some x) y ≡ None → (b ≡ false) × (y ≡ None)
none_from true x y h = cc
none_from false x y h = (refl, h)

pub read_allowed : (d : DiskState) (lba count : ℕ) (out : List ℕ) → refusal_of d (Read lba count) out ≡ None → (count ≤ 8) × (lba + count ≤ d.blocks)
unfolding refusal_of
read_allowed d lba count out h =
    let many = nat_lt 8 count in
    let past = nat_lt d.blocks (lba + count) in
    let bad = list_any d.is_bad (range_with_len lba count) in
    let last = cond bad (Some UnrecoveredRead) None in
    let first = none_from many InvalidField (cond past (Some OutOfRange) last) h in
    let second = none_from past OutOfRange last first.1 in
    (grind (arith, nat_tests, first.0), grind (arith, nat_tests, second.0))

pub write_allowed : (d : DiskState) (lba count : ℕ) (out : List ℕ) → refusal_of d (Write lba count) out ≡ None
    → (count ≤ 8) × (length out ≡ 512 * count) × (lba + count ≤ d.blocks) × (length d.written + length (first_written d.written lba count) ≤ most_written)
unfolding refusal_of
write_allowed d lba count out h =
    let wrong = nat_lt 8 count || not (eqb (length out) (512 * count)) in
    let past = nat_lt d.blocks (lba + count) in
    let full = nat_lt most_written (length d.written + length (first_written d.written lba count)) in
    let last = cond full (Some SpaceExhausted) None in
    let first = none_from wrong InvalidField (cond past (Some OutOfRange) last) h in
    let second = none_from past OutOfRange last first.1 in
    let third = none_from full SpaceExhausted None second.1 in
    (grind (arith, nat_tests, first.0), grind (arith, nat_tests, first.0), grind (arith, nat_tests, second.0), grind (arith, nat_tests, third.0))

pub read_allows : (d : DiskState) (lba count : ℕ) (out : List ℕ) → count ≤ 8 → lba + count ≤ d.blocks → list_any d.is_bad (range_with_len lba count) ≡ false → refusal_of d (Read lba count) out ≡ None
unfolding refusal_of
read_allows d lba count out few within fine =
    let many : nat_lt 8 count ≡ false = grind (arith, nat_tests) in
    let past : nat_lt d.blocks (lba + count) ≡ false = grind (arith, nat_tests) in
    rw (many, past, fine) refl
