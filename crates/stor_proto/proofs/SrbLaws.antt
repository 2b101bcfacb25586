-- The host reads what the guest asked, and the guest what the host answered.
use Rattle.std.proofs.Common.{◌≡◌, ℕ, ◌+◌, ◌^◌, ◌<◌, ◌≤◌, inl, inr, Bool, true, false, ◌||◌, cond, not, ◌&&◌, eqb, List, [], ◌++◌, length, take, slice_range, min, Option, Some, None, Result, Ok, Err, refl, sym, ap, ◌∙◌, lit<, lit≤, arith}
use Rattle.std.specs.Prelude.{replicate, nat_lt, slice_index}
use Rattle.std.proofs.lemmas.Bool.Decides.{nat_tests}
use Rattle.std.proofs.lemmas.List.{take_all, take_at, append-nil}
use Rattle.wire_table.specs.Little.{number_of}
use Rattle.scsi_disk.specs.Commands.{command_of}
use Rattle.scsi_disk.specs.declared.command.Command.{Command}
use Rattle.scsi_disk.specs.declared.command.Command.TheVariants.{TestUnitReady, Inquiry, ReadCapacity, Read, Write, SynchronizeCache, LongCapacity}
use Rattle.scsi_disk.specs.declared.request.DiskRequest.{DiskRequest}
use Rattle.scsi_disk.specs.declared.reply.DiskReply.{DiskReply}
use Rattle.scsi_disk.specs.declared.reply.DiskReply.TheVariants.{Good, Check}
use Rattle.stor_proto.specs.Fields.{number_at, with_bytes, with_number}
use Rattle.stor_proto.specs.Srbs.{cdb_in, data_for, request_of, moved_by, sense_of, good_srb, completed, reply_of, done_of, bytes_moved, cdb_length, data_in, ask_rest, ask_of, IsReadBack, HasItsData}
use Rattle.stor_proto.specs.declared.vstor.Vstor.{Vstor}
use Rattle.stor_proto.specs.declared.stop.SrbStop.{SrbStop}
use Rattle.stor_proto.proofs.FieldLaws.{length-with_number, number_at-same, number_at-other, part_again, byte_again, number_at-before}

moved_fits : (k : Option Command) (n : ℕ) → n ≤ 4096 → moved_by k n < 256 ^ 4
moved_fits None n le = omega arith
moved_fits (Some TestUnitReady) n le = omega arith
moved_fits (Some (Inquiry s a)) n le = omega arith
moved_fits (Some ReadCapacity) n le = omega arith
moved_fits (Some (Read l k)) n le = omega arith
moved_fits (Some (Write l k)) n le = omega arith
moved_fits (Some SynchronizeCache) n le = omega arith
moved_fits (Some (LongCapacity b a)) n le = omega arith

module _ (p : Vstor) (len : length p.rest ≡ 52) where
  -- the srb of a completion with bytes: its status, and how many bytes moved
  good_read : (n : ℕ) → n ≤ 4096 → (number_at 2 1 (good_srb p n) ≡ 1) × (number_at 12 4 (good_srb p n) ≡ moved_by (command_of (cdb_in p)) n)
  good_read n few =
      let m = moved_by (command_of (cdb_in p)) n in
      let r1 = with_number 2 1 1 p.rest in
      let r2 = with_number 3 1 0 r1 in
      let l1 : length r1 ≡ 52 = length-with_number 2 1 1 p.rest (omega arith) ∙ len in
      let l2 : length r2 ≡ 52 = length-with_number 3 1 0 r1 (omega arith) ∙ l1 in (
        number_at-other 12 4 m r2 (omega arith) 2 1 (inl (omega arith))
            ∙ number_at-other 3 1 0 r1 (omega arith) 2 1 (inl (omega arith))
            ∙ number_at-same 2 1 1 p.rest (omega arith) (omega arith),
        number_at-same 12 4 m r2 (omega arith) (moved_fits (command_of (cdb_in p)) n few),
      )

  -- the bytes that are read in it
  good_bytes_read : (n : ℕ) (back bytes : List ℕ) → n ≤ 4096 → take (min (moved_by (command_of (cdb_in p)) n) 4096) back ≡ bytes → done_of (completed p (good_srb p n)) back ≡ Some (Good bytes)
  good_bytes_read n back bytes few is =
      let r3 = good_srb p n in
      let read = good_read n few in
      ap (λ s. cond (eqb s 1) (Some (Good (take (min (number_at 12 4 r3) 4096) back))) (cond (eqb s 0x84) (Some (Check (slice_index r3 18) (slice_index r3 28) (slice_index r3 29))) None)) read.0
      ∙ ap {B = Option DiskReply} (λ m. Some (Good (take (min m 4096) back))) read.1 ∙ ap {B = Option DiskReply} (λ bs. Some (Good bs)) is

  -- a completion with bytes
  pub good_read_back : (bytes : List ℕ) → length bytes ≤ 4096 → IsReadBack p (Good bytes) (reply_of p (Good bytes))
  good_read_back bytes few = λ enough.
      let m = moved_by (command_of (cdb_in p)) (length bytes) in
      good_bytes_read (length bytes) bytes bytes few (take_all (min m 4096) bytes (omega (arith, enough, few)))

  -- and so it is where more follows, if as many bytes moved
  pub good_read_more : (bytes more : List ℕ) → length bytes ≤ 4096 → moved_by (command_of (cdb_in p)) (length bytes) ≡ length bytes → done_of (reply_of p (Good bytes)) (bytes ++ more) ≡ Some (Good bytes)
  good_read_more bytes more few is =
      let m = moved_by (command_of (cdb_in p)) (length bytes) in
      good_bytes_read (length bytes) (bytes ++ more) bytes few (take_at bytes more (min m 4096) (omega (arith, is, few)))

  -- a completion with sense
  pub check_read_back : (key asc ascq : ℕ) → IsReadBack p (Check key asc ascq) (reply_of p (Check key asc ascq))
  check_read_back key asc ascq = λ back.
      let sense = sense_of key asc ascq in
      let r1 = with_number 2 1 0x84 p.rest in
      let r2 = with_number 3 1 2 r1 in
      let r3 = with_number 9 1 18 r2 in
      let r4 = with_number 12 4 0 r3 in
      let r5 = with_bytes 16 sense r4 in
      let l1 : length r1 ≡ 52 = length-with_number 2 1 0x84 p.rest (omega arith) ∙ len in
      let l2 : length r2 ≡ 52 = length-with_number 3 1 2 r1 (omega arith) ∙ l1 in
      let l3 : length r3 ≡ 52 = length-with_number 9 1 18 r2 (omega arith) ∙ l2 in
      let l4 : length r4 ≡ 52 = length-with_number 12 4 0 r3 (omega arith) ∙ l3 in
      let within : 16 + length sense ≤ length r4 = omega (arith, l4) in
      let status : number_at 2 1 r5 ≡ 0x84 =
      number_at-before 16 sense r4 within 2 1 (omega arith)
      ∙ number_at-other 12 4 0 r3 (omega arith) 2 1 (inl (omega arith))
      ∙ number_at-other 9 1 18 r2 (omega arith) 2 1 (inl (omega arith))
      ∙ number_at-other 3 1 2 r1 (omega arith) 2 1 (inl (omega arith))
      ∙ number_at-same 2 1 0x84 p.rest (omega arith) (omega arith) in
      let k : slice_index r5 18 ≡ key = byte_again 16 sense r4 within 2 in
      let a : slice_index r5 28 ≡ asc = byte_again 16 sense r4 within 12 in
      let q : slice_index r5 29 ≡ ascq = byte_again 16 sense r4 within 13 in
      ap (λ s. cond (eqb s 1) (Some (Good (take (min (number_at 12 4 r5) 4096) back))) (cond (eqb s 0x84) (Some (Check (slice_index r5 18) (slice_index r5 28) (slice_index r5 29))) None)) status
      ∙ ap {B = Option DiskReply} (λ x. Some (Check x (slice_index r5 28) (slice_index r5 29))) k
      ∙ ap {B = Option DiskReply} (λ x. Some (Check key x (slice_index r5 29))) a
      ∙ ap {B = Option DiskReply} (λ x. Some (Check key asc x)) q

one_of_three : (b c : Bool) → cond b 6 (cond c 16 10) ≤ 16
one_of_three true c = omega arith
one_of_three false true = omega arith
one_of_three false false = omega arith

pub short_command : (cdb : List ℕ) → cdb_length cdb ≤ 16
short_command cdb =
    let code = slice_index cdb 0 in
    one_of_three (eqb code 0x00 || eqb code 0x12) (eqb code 0x88 || eqb code 0x8a || eqb code 0x9e)

same_data : (k : Option Command) (n : ℕ) (out : List ℕ) → data_for k (bytes_moved k n) out ≡ data_for k n out
same_data None n out = refl
same_data (Some TestUnitReady) n out = refl
same_data (Some (Inquiry s a)) n out = refl
same_data (Some ReadCapacity) n out = refl
same_data (Some (Read l k)) n out = refl
same_data (Some (Write l k)) n out = refl
same_data (Some SynchronizeCache) n out = refl
same_data (Some (LongCapacity b a)) n out = refl

-- a number below the command in the srb of a request
module _ (k : Option Command) (cdb : List ℕ) (out : ℕ) (len : length cdb ≡ 16) (few : bytes_moved k out ≤ 4096) where
  a1 : List ℕ
  a1 = with_number 0 2 52 (replicate 52 0)

  a2 : List ℕ
  a2 = with_number 8 1 (cdb_length cdb) a1

  a3 : List ℕ
  a3 = with_number 9 1 20 a2

  a4 : List ℕ
  a4 = with_number 10 1 (data_in k) a3

  a5 : List ℕ
  a5 = with_number 12 4 (bytes_moved k out) a4

  l1 : length a1 ≡ 52
  unfolding a1
  l1 = length-with_number 0 2 52 (replicate 52 0) (lit≤ tt)

  l2 : length a2 ≡ 52
  unfolding a2
  l2 = length-with_number 8 1 (cdb_length cdb) a1 (omega (arith, l1)) ∙ l1

  l3 : length a3 ≡ 52
  unfolding a3
  l3 = length-with_number 9 1 20 a2 (omega (arith, l2)) ∙ l2

  l4 : length a4 ≡ 52
  unfolding a4
  l4 = length-with_number 10 1 (data_in k) a3 (omega (arith, l3)) ∙ l3

  l5 : length a5 ≡ 52
  unfolding a5
  l5 = length-with_number 12 4 (bytes_moved k out) a4 (omega (arith, l4)) ∙ l4

  within : 16 + length cdb ≤ length a5
  within = omega (arith, l5, len)

  zero_at : (i : ℕ) → 5 ≤ i → i < 8 → number_at i 1 (with_bytes 16 cdb a5) ≡ number_at i 1 (replicate 52 0)
  unfolding a1 a2 a3 a4 a5
  zero_at i low high =
      number_at-before 16 cdb a5 within i 1 (omega arith)
      ∙ number_at-other 12 4 (bytes_moved k out) a4 (omega (arith, l4)) i 1 (inl (omega arith))
      ∙ number_at-other 10 1 (data_in k) a3 (omega (arith, l3)) i 1 (inl (omega arith))
      ∙ number_at-other 9 1 20 a2 (omega (arith, l2)) i 1 (inl (omega arith))
      ∙ number_at-other 8 1 (cdb_length cdb) a1 (omega (arith, l1)) i 1 (inl (omega arith))
      ∙ number_at-other 0 2 52 (replicate 52 0) (lit≤ tt) i 1 (inr (omega arith))

  command_at : number_at 8 1 (with_bytes 16 cdb a5) ≡ cdb_length cdb
  unfolding a1 a2 a3 a4 a5
  command_at =
      number_at-before 16 cdb a5 within 8 1 (omega arith)
      ∙ number_at-other 12 4 (bytes_moved k out) a4 (omega (arith, l4)) 8 1 (inl (omega arith))
      ∙ number_at-other 10 1 (data_in k) a3 (omega (arith, l3)) 8 1 (inl (omega arith))
      ∙ number_at-other 9 1 20 a2 (omega (arith, l2)) 8 1 (inl (omega arith))
      ∙ number_at-same 8 1 (cdb_length cdb) a1 (omega (arith, l1)) (omega (arith, short_command cdb))

  transfer_at : number_at 12 4 (with_bytes 16 cdb a5) ≡ bytes_moved k out
  unfolding a5
  transfer_at = number_at-before 16 cdb a5 within 12 4 (omega arith) ∙ number_at-same 12 4 (bytes_moved k out) a4 (omega (arith, l4)) (omega (arith, few))

  cdb_at : slice_range (with_bytes 16 cdb a5) 16 32 ≡ cdb
  cdb_at = ap (λ n. slice_range (with_bytes 16 cdb a5) 16 (16 + n)) (sym len) ∙ part_again 16 cdb a5 within

  rest_is : ask_rest k cdb out ≡ with_bytes 16 cdb a5
  unfolding a1 a2 a3 a4 a5
  rest_is = refl

own_data : (k : Option Command) (out more : List ℕ) → data_for k (length out) out ≡ out → data_for k (length out) (out ++ more) ≡ out
own_data None out more own = own
own_data (Some TestUnitReady) out more own = own
own_data (Some (Inquiry s a)) out more own = own
own_data (Some ReadCapacity) out more own = own
own_data (Some (Read l k)) out more own = own
own_data (Some (Write l k)) out more own = take_at out more (length out) refl
own_data (Some SynchronizeCache) out more own = own
own_data (Some (LongCapacity b a)) out more own = own

-- the host reads the request that was asked, whatever follows its data
pub ask_read_more : (r : DiskRequest) (more : List ℕ) → length r.cdb ≡ 16 → bytes_moved (command_of r.cdb) (length r.out) ≤ 4096 → HasItsData r → request_of (ask_of r) (r.out ++ more) ≡ Ok r
unfolding number_of
ask_read_more r more len few own =
    let k = command_of r.cdb in
    let n = length r.out in
    let rest = with_bytes 16 r.cdb (a5 k r.cdb n len few) in
    let q : Vstor = record { operation = 3; flags = 1; status = 0; rest = rest } in
    let is : ask_of r ≡ q = ap {B = Vstor} (λ (xs : List ℕ). record { operation = 3; flags = 1; status = 0; rest = xs }) (rest_is k r.cdb n len few) in
    let path : number_at 5 1 rest ≡ 0 = zero_at k r.cdb n len few 5 (lit≤ tt) (lit< tt) in
    let target : number_at 6 1 rest ≡ 0 = zero_at k r.cdb n len few 6 (lit≤ tt) (lit< tt) in
    let lun : number_at 7 1 rest ≡ 0 = zero_at k r.cdb n len few 7 (lit≤ tt) (lit< tt) in
    let short : nat_lt 16 (number_at 8 1 rest) ≡ false = grind (arith, nat_tests, command_at k r.cdb n len few, short_command r.cdb) in
    let cdb = cdb_at k r.cdb n len few in
    let transfer = transfer_at k r.cdb n len few in
    let F : List ℕ → ℕ → Result DiskRequest SrbStop = λ xs m. Ok (record { cdb = xs; out = data_for (command_of xs) m (r.out ++ more) }) in
    ap (λ (v : Vstor). request_of v (r.out ++ more)) is
    ∙ ap (λ b. cond (not (eqb b 0 && eqb (number_at 6 1 rest) 0 && eqb (number_at 7 1 rest) 0)) (Err (record { status = 0x20 })) (cond (nat_lt 16 (number_at 8 1 rest)) (Err (record { status = 4 })) (F (slice_range rest 16 32) (number_at 12 4 rest)))) path
    ∙ ap (λ b. cond (not (eqb b 0 && eqb (number_at 7 1 rest) 0)) (Err (record { status = 0x20 })) (cond (nat_lt 16 (number_at 8 1 rest)) (Err (record { status = 4 })) (F (slice_range rest 16 32) (number_at 12 4 rest)))) target
    ∙ ap (λ b. cond (not (eqb b 0)) (Err (record { status = 0x20 })) (cond (nat_lt 16 (number_at 8 1 rest)) (Err (record { status = 4 })) (F (slice_range rest 16 32) (number_at 12 4 rest)))) lun
    ∙ ap (λ b. cond b (Err (record { status = 4 })) (F (slice_range rest 16 32) (number_at 12 4 rest))) short
    ∙ ap (λ xs. F xs (number_at 12 4 rest)) cdb ∙ ap (F r.cdb) transfer
    ∙ ap (λ xs. Ok (record { cdb = r.cdb; out = xs })) (same_data k n (r.out ++ more) ∙ own_data k r.out more own)

-- so it does where nothing follows
pub ask_read_back : (r : DiskRequest) → length r.cdb ≡ 16 → bytes_moved (command_of r.cdb) (length r.out) ≤ 4096 → HasItsData r → request_of (ask_of r) r.out ≡ Ok r
ask_read_back r len few own = ap (request_of (ask_of r)) (sym (append-nil r.out)) ∙ ask_read_more r [] len few own
