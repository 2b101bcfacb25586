-- The storage packets with which a host replies are in form, and so are the replies.
use Rattle.std.proofs.Common.{◌≡◌, ℕ, ◌<◌, ◌≤◌, Bool, true, false, cond, not, ◌&&◌, nat_lt, List, length, Option, Some, None, Result, Ok, Err, refl, sym, ap, ◌∙◌, lit<, lit≤, arith}
use Rattle.std.specs.Prelude.{nat_le, is_none}
use Rattle.std.specs.List.{AllByRecursion, list_all}
use Rattle.std.proofs.lemmas.Bool.Decides.{nat_tests}
use Rattle.wire_table.proofs.RowLaws.{IsBytes}
use Rattle.scsi_disk.specs.Commands.{command_of}
use Rattle.scsi_disk.specs.DiskModel.{most_back, IsSized}
use Rattle.scsi_disk.specs.declared.request.DiskRequest.{DiskRequest}
use Rattle.scsi_disk.specs.declared.reply.DiskReply.{DiskReply}
use Rattle.scsi_disk.specs.declared.reply.DiskReply.TheVariants.{Good, Check}
use Rattle.stor_proto.specs.Fields.{number_at, with_number}
use Rattle.stor_proto.specs.Packets.{vstor_fault, InForm, IsAllowed}
use Rattle.stor_proto.specs.Srbs.{cdb_in, names_disk, data_for, request_of, moved_by, sense_of, reply_of}
use Rattle.stor_proto.specs.declared.vstor.Vstor.{Vstor}
use Rattle.stor_proto.specs.declared.stop.SrbStop.{SrbStop}
use Rattle.stor_proto.proofs.PacketLaws.{vstor_found}
use Rattle.device_packets.specs.Packets.{content_of}
use Rattle.device_packets.specs.Said.{vstor_of, has_vstor}
use Rattle.disk_format.specs.Disks.{back_of, disk_fits}
use Rattle.device_packets.proofs.ByteLaws.{from_all, with_number_bytes, with_bytes_bytes, all_from_test, test_from_all}
use Rattle.device_packets.proofs.PacketLaws.{content_bytes}
use Rattle.disk_format.proofs.VstorLaws.{Formed, length-with_bytes, number_put}

none_is : {X : Type 0} (o : Option X) → is_none o ≡ true → o ≡ None
none_is None h = refl
none_is (Some x) h = cc

-- a packet that has a storage packet has one in its form
pub vstor_form : (p : List ℕ) → has_vstor p ≡ true → InForm (vstor_of p) × IsAllowed (vstor_of p)
unfolding has_vstor vstor_of
vstor_form p h =
    let found = vstor_found (content_of p) (content_bytes p) (none_is (vstor_fault (content_of p)) h) in
    (found.0, found.1)

ok_from : (b : Bool) (e : SrbStop) (x : Result DiskRequest SrbStop) (q : DiskRequest) → cond b (Err e) x ≡ Ok q → x ≡ Ok q
ok_from true e x q h = cc
ok_from false e x q h = h

abbrev ok_of : DiskRequest → Result DiskRequest SrbStop
ok_of x = Ok x

ok_cdb : (x q : DiskRequest) → ok_of x ≡ ok_of q → q.cdb ≡ x.cdb
ok_cdb x q h = let same : x ≡ q = cc in ap (λ z. z.cdb) (sym same)

pub cdb_read : (v : Vstor) (behind : List ℕ) (q : DiskRequest) → request_of v behind ≡ Ok q → q.cdb ≡ cdb_in v
cdb_read v behind q h =
    let last : Result DiskRequest SrbStop = Ok (record { cdb = cdb_in v; out = data_for (command_of (cdb_in v)) (number_at 12 4 v.rest) behind }) in
    let one = ok_from (not (names_disk v)) (record { status = 0x20 }) (cond (nat_lt 16 (number_at 8 1 v.rest)) (Err (record { status = 4 })) last) q h in
    ok_cdb (record { cdb = cdb_in v; out = data_for (command_of (cdb_in v)) (number_at 12 4 v.rest) behind }) q (ok_from (nat_lt 16 (number_at 8 1 v.rest)) (record { status = 4 }) last q one)

both : (a b : Bool) → (a && b) ≡ true → (a ≡ true) × (b ≡ true)
both true true h = (refl, refl)
both true false h = cc
both false b h = cc

-- a fitting reply

pub good_fits : (q : DiskRequest) (bytes : List ℕ) → disk_fits q (Good bytes) ≡ true → (length bytes ≤ most_back (command_of q.cdb)) × AllByRecursion (λ b. b < 256) bytes
unfolding disk_fits
good_fits q bytes h =
    let two = both (nat_le (length bytes) (most_back (command_of q.cdb))) (list_all (λ b. nat_lt b 256) bytes) h in
    (grind (arith, nat_tests, two.0), all_from_test bytes two.1)

pub check_fits : (q : DiskRequest) (key asc ascq : ℕ) → disk_fits q (Check key asc ascq) ≡ true → (key < 256) × (asc < 256) × (ascq < 256)
unfolding disk_fits
check_fits q key asc ascq h =
    let one = both (nat_lt key 256 && nat_lt asc 256) (nat_lt ascq 256) h in
    let two = both (nat_lt key 256) (nat_lt asc 256) one.0 in
    (grind (arith, nat_tests, two.0), grind (arith, nat_tests, two.1), grind (arith, nat_tests, one.1))

-- each reply of the disk fits
pub sized_fits : (q : DiskRequest) (r : DiskReply) → IsSized q r → disk_fits q r ≡ true
unfolding disk_fits
sized_fits q (Good bytes) h =
    let few : nat_le (length bytes) (most_back (command_of q.cdb)) ≡ true = grind (arith, nat_tests, h.0) in
    rw (few, test_from_all bytes h.1) refl
sized_fits q (Check key asc ascq) h =
    let k : nat_lt key 256 ≡ true = grind (arith, nat_tests, h.0) in
    let a : nat_lt asc 256 ≡ true = grind (arith, nat_tests, h.1) in
    let b : nat_lt ascq 256 ≡ true = grind (arith, nat_tests, h.2) in
    rw (k, a, b) refl

pub back_fits : (q : DiskRequest) (r : DiskReply) → disk_fits q r ≡ true → (length (back_of r) ≤ most_back (command_of q.cdb)) × IsBytes (back_of r)
back_fits q (Good bytes) h = let g = good_fits q bytes h in (g.0, from_all bytes g.1)
back_fits q (Check key asc ascq) h = (omega arith, λ i. omega arith)

sense_bytes : (key asc ascq : ℕ) → key < 256 → asc < 256 → ascq < 256 → IsBytes (sense_of key asc ascq)
sense_bytes key asc ascq k a q =
    let z : 0 < 256 = lit< tt in
    from_all (sense_of key asc ascq) (lit< tt, (z, (k, (z, (z, (z, (z, (lit< tt, (z, (z, (z, (z, (a, (q, (z, (z, (z, (z, tt))))))))))))))))))

pub reply_formed : (v : Vstor) (q : DiskRequest) (r : DiskReply) → Formed v → disk_fits q r ≡ true → Formed (reply_of v r)
reply_formed v q (Good bytes) f h =
    let m = moved_by (command_of (cdb_in v)) (length bytes) in
    let r1 = with_number 2 1 1 v.rest in
    let r2 = with_number 3 1 0 r1 in
    let l1 = number_put 2 1 1 v.rest (lit≤ tt) f.len in
    let l2 = number_put 3 1 0 r1 (lit≤ tt) l1 in
    record {
      operation = omega arith;
      flags = f.flags;
      status = f.status;
      len = number_put 12 4 m r2 (lit≤ tt) l2;
      bytes = with_number_bytes 12 4 m r2 (with_number_bytes 3 1 0 r1 (with_number_bytes 2 1 1 v.rest f.bytes));
    }
reply_formed v q (Check key asc ascq) f h =
    let c = check_fits q key asc ascq h in
    let r1 = with_number 2 1 0x84 v.rest in
    let r2 = with_number 3 1 2 r1 in
    let r3 = with_number 9 1 18 r2 in
    let r4 = with_number 12 4 0 r3 in
    let l1 = number_put 2 1 0x84 v.rest (lit≤ tt) f.len in
    let l2 = number_put 3 1 2 r1 (lit≤ tt) l1 in
    let l3 = number_put 9 1 18 r2 (lit≤ tt) l2 in
    let l4 = number_put 12 4 0 r3 (lit≤ tt) l3 in
    let all = with_number_bytes 12 4 0 r3 (with_number_bytes 9 1 18 r2 (with_number_bytes 3 1 2 r1 (with_number_bytes 2 1 0x84 v.rest f.bytes))) in
    record {
      operation = omega arith;
      flags = f.flags;
      status = f.status;
      len = length-with_bytes 16 (sense_of key asc ascq) r4 (omega (arith, l4)) ∙ l4;
      bytes = with_bytes_bytes 16 (sense_of key asc ascq) r4 (sense_bytes key asc ascq c.0 c.1 c.2) all;
    }
