-- What users of a disk rely on, as laws of its model.
use Rattle.std.proofs.Common.{◌≡◌, ℕ, zero, suc, ◌+◌, ◌-◌, ◌*◌, ◌<◌, ◌≤◌, false, List, [], ◌++◌, take, drop, Some, None, refl, sym, ap, subst, ◌∙◌, arith}
use Rattle.std.specs.Prelude.{slice_range}
use Rattle.std.specs.List.{flat_map, list_any, range_with_len}
use Rattle.std.proofs.lemmas.List.{drop-drop, take_all}
use Rattle.std.proofs.Math.Seq.{take-add}
use Rattle.scsi_disk.specs.DiskModel.{DiskState, refusal_of, first_written, command_reply, command_after, overwritten, good_bytes, answer_of}
use Rattle.scsi_disk.specs.declared.command.Command.TheVariants.{Read, Write}
use Rattle.scsi_disk.specs.declared.reply.DiskReply.TheVariants.{Good}
use Rattle.scsi_disk.proofs.BlockLaws.{overwritten_inside, overwritten_outside}
use Rattle.scsi_disk.proofs.RefusalLaws.{write_allowed, read_allows}

-- so many written blocks, from the i-th on
written_part : (old : ℕ → List ℕ) (lba count : ℕ) (out : List ℕ) (n i : ℕ) → i + n ≤ count → flat_map (overwritten old lba count out) (range_with_len (lba + i) n) ≡ take (512 * n) (drop (512 * i) out)
written_part old lba count out zero i few = refl
written_part old lba count out (suc n) i few =
    let f = overwritten old lba count out in
    let here : f (lba + i) ≡ take 512 (drop (512 * i) out) =
    overwritten_inside old lba count out (lba + i) (omega arith) (omega arith)
    ∙ (let a : lba + i - lba ≡ i = omega arith in let P : ℕ → Type 0 = λ k. slice_range out (512 * k) (512 * k + 512) ≡ take 512 (drop (512 * i) out) in
    subst P (sym a) (let w : 512 * i + 512 - 512 * i ≡ 512 = omega arith in ap (λ k. take k (drop (512 * i) out)) w)) in
    let next : flat_map f (range_with_len (lba + i + 1) n) ≡ take (512 * n) (drop 512 (drop (512 * i) out)) =
    ap (λ k. flat_map f (range_with_len k n)) (omega arith) ∙ written_part old lba count out n (i + 1) (omega arith)
    ∙ ap (take (512 * n)) (ap (λ k. drop k out) (omega arith) ∙ sym (drop-drop 512 (512 * i) out)) in
    ap (λ xs. xs ++ flat_map f (range_with_len (lba + i + 1) n)) here ∙ ap (λ xs. take 512 (drop (512 * i) out) ++ xs) next
    ∙ sym (take-add 512 (512 * n) (drop (512 * i) out)) ∙ ap (λ k. take k (drop (512 * i) out)) (omega arith)

module _ (d : DiskState) (lba count : ℕ) (out : List ℕ) (may : refusal_of d (Write lba count) out ≡ None) where
  -- the map after a write that isn't refused
  written_so : DiskState
  written_so = record { blocks = d.blocks; bytes_at = overwritten d.bytes_at lba count out; written = d.written ++ first_written d.written lba count; is_bad = d.is_bad }

  after_write : command_after d (Some (Write lba count)) out ≡ written_so
  unfolding written_so
  after_write = rw may refl

  -- what was written is read back
  pub read_after_write : list_any d.is_bad (range_with_len lba count) ≡ false → command_reply (command_after d (Some (Write lba count)) out) (Some (Read lba count)) [] ≡ Good out
  unfolding good_bytes written_so
  read_after_write fine =
      let ok = write_allowed d lba count out may in
      let new = written_so in
      let start : lba ≡ lba + 0 = omega arith in
      let all : flat_map new.bytes_at (range_with_len lba count) ≡ out =
      ap (λ k. flat_map new.bytes_at (range_with_len k count)) start ∙ written_part d.bytes_at lba count out count 0 (omega arith) ∙ take_all (512 * count) out (omega arith) in
      ap (λ s. command_reply s (Some (Read lba count)) []) after_write
      ∙ ap (λ r. answer_of r (good_bytes new (Read lba count))) (read_allows new lba count [] ok.0 ok.2 fine) ∙ ap Good all

  -- and other blocks stay
  pub write_leaves : (place : ℕ) → (lba ≤ place → place < lba + count → ⊥) → (command_after d (Some (Write lba count)) out).bytes_at place ≡ d.bytes_at place
  unfolding written_so
  write_leaves place apart = ap (λ s. s.bytes_at place) after_write ∙ overwritten_outside d.bytes_at lba count out place apart
