-- What the storage packet alone tells of a packet of a disk's channel over data pages, whatever bytes came in its page.
use Rattle.std.proofs.Common.{◌≡◌, ℕ, ◌<◌, ◌≤◌, ◌*◌, Bool, true, false, cond, not, ◌&&◌, ◌==◌, List, [], length, take, min, Option, Some, None, Result, Ok, Err, refl, sym, ap, subst, ◌∙◌, arith, ⊎_elim}
use Rattle.std.specs.Prelude.{nat_le, is_none, is_some, IsSome, IsOk, MatchOption}
use Rattle.std.proofs.lemmas.Bool.{cases_lt}
use Rattle.std.proofs.lemmas.Bool.Decides.{nat_tests}
use Rattle.vm_page.specs.Words.{words_for, bytes_in, words_of}
use Rattle.vm_page.proofs.WordLaws.{length-bytes_in}
use Rattle.pkt_desc.specs.Packets.{id_of, kind_of}
use Rattle.page_kept.specs.declared.item.Item.{Item}
use Rattle.scsi_disk.specs.Commands.{command_of}
use Rattle.scsi_disk.specs.DiskModel.{most_back}
use Rattle.scsi_disk.specs.declared.request.DiskRequest.{DiskRequest}
use Rattle.stor_proto.specs.Packets.{IsAllowed}
use Rattle.stor_proto.specs.Opening.{answer_of}
use Rattle.stor_proto.specs.Srbs.{request_of, stop_of, done_of, cdb_in, data_in, reply_of}
use Rattle.stor_proto.specs.declared.vstor.Vstor.{Vstor}
use Rattle.stor_proto.specs.declared.stop.SrbStop.{SrbStop}
use Rattle.std.proofs.lemmas.List.{take_min, take_all}
use Rattle.scsi_disk.specs.declared.reply.DiskReply.{DiskReply}
use Rattle.channel_protocol.specs.Listed.{answer_in}
use Rattle.channel_protocol.specs.Paged.{Lays, LaysSome}
use Rattle.device_wire.specs.Codecs.{alone, fixed_back}
use Rattle.device_packets.specs.Packets.{is_completion}
use Rattle.device_packets.specs.Said.{has_vstor, vstor_of, came_in, came_with, said_item, gives_bytes}
use Rattle.disk_format.specs.Disks.{stopped_by, done_packet, back_of, disk_fits}
use Rattle.disk_format.specs.PageDisks.{page_waits, lacks_page, with_room, srb_asked, page_read, silent_answer, page_fixed_vstor, page_fixed, page_result, page_codec, page_answer}
use Rattle.disk_format.proofs.DoneLaws.{back_fits}
use Rattle.disk_format.proofs.PageDoneLaws.{waits_has, page_asks}
use Rattle.disk_format.proofs.SaidLaws.{is_read_so, read_said, said_fixed, same_request, said_answer}
use Rattle.disk_format.proofs.SaidLaws.{result_words}

-- a request that reaches the disk asks it where its reply has room
room_fits : (n room : ℕ) (r : Result DiskRequest SrbStop) (cdb : List ℕ) → IsOk r → ((q : DiskRequest) → r ≡ Ok q → q.cdb ≡ cdb) → nat_le (most_back (command_of cdb)) room ≡ true → n ≡ room → room ≤ 4096 → IsSome (with_room n r)
room_fits n room (Ok q) cdb ok same fits is few =
    let most : min n 4096 ≡ room = omega (arith, is, few) in
    let t : nat_le (most_back (command_of q.cdb)) (min n 4096) ≡ true = ap (λ (c : List ℕ). nat_le (most_back (command_of c)) (min n 4096)) (same q refl) ∙ ap (nat_le (most_back (command_of cdb))) most ∙ fits in
    rw t refl
room_fits n room (Err stop) cdb ok same fits is few = cc

room_not : (n room : ℕ) (r : Result DiskRequest SrbStop) (cdb : List ℕ) → IsOk r → ((q : DiskRequest) → r ≡ Ok q → q.cdb ≡ cdb) → nat_le (most_back (command_of cdb)) room ≡ false → n ≡ room → room ≤ 4096 → (with_room n r ≡ None) × (stopped_by r ≡ 4)
room_not n room (Ok q) cdb ok same fits is few =
    let most : min n 4096 ≡ room = omega (arith, is, few) in
    let t : nat_le (most_back (command_of q.cdb)) (min n 4096) ≡ false = ap (λ (c : List ℕ). nat_le (most_back (command_of c)) (min n 4096)) (same q refl) ∙ ap (nat_le (most_back (command_of cdb))) most ∙ fits in
    (ap (λ b. cond b (Some q) None) t, refl)
room_not n room (Err stop) cdb ok same fits is few = cc

-- an srb

srb_is : (v : Vstor) (lacks : Bool) (came : List ℕ) → v.operation ≡ 3 → srb_asked v lacks came ≡ cond lacks None (with_room (length came) (request_of v came))
unfolding srb_asked
srb_is v lacks came is = let t : (v.operation == 3) ≡ true = ap (λ n. n == 3) is in ap (λ b. cond b (cond lacks None (with_room (length came) (request_of v came))) None) t

fixed_srb_is : (v : Vstor) (lacks : Bool) (came : List ℕ) → v.operation ≡ 3 → page_fixed_vstor v lacks came ≡ stop_of v (cond lacks 4 (stopped_by (request_of v came)))
unfolding page_fixed_vstor
fixed_srb_is v lacks came is = let t : (v.operation == 3) ≡ true = ap (λ n. n == 3) is in ap (λ b. cond b (stop_of v (cond lacks 4 (stopped_by (request_of v came)))) (silent_answer (answer_of v))) t

pub other_asked : (v : Vstor) (lacks : Bool) (came : List ℕ) → (v.operation ≡ 3 → ⊥) → srb_asked v lacks came ≡ None
unfolding srb_asked
other_asked v lacks came not = let t : (v.operation == 3) ≡ false = grind (arith, nat_tests, not) in ap (λ b. cond b (cond lacks None (with_room (length came) (request_of v came))) None) t

other_fixed : (v : Vstor) (lacks : Bool) (came : List ℕ) → (v.operation ≡ 3 → ⊥) → page_fixed_vstor v lacks came ≡ silent_answer (answer_of v)
unfolding page_fixed_vstor
other_fixed v lacks came not = let t : (v.operation == 3) ≡ false = grind (arith, nat_tests, not) in ap (λ b. cond b (stop_of v (cond lacks 4 (stopped_by (request_of v came)))) (silent_answer (answer_of v))) t

-- it is stopped so, or asks the disk
abbrev pub Stops : Vstor → Bool → ℕ → ℕ → Type 0
Stops v lacks room status = (came : List ℕ) → length came ≡ room → (srb_asked v lacks came ≡ None) × (page_fixed_vstor v lacks came ≡ stop_of v status)

pub stops_lacking : (v : Vstor) (lacks : Bool) (room : ℕ) → v.operation ≡ 3 → lacks ≡ true → Stops v lacks room 4
stops_lacking v lacks room srb is = λ came len. (
  srb_is v lacks came srb ∙ ap (λ b. cond b None (with_room (length came) (request_of v came))) is,
  fixed_srb_is v lacks came srb ∙ ap (λ b. stop_of v (cond b 4 (stopped_by (request_of v came)))) is,
)

pub stops_unread : (v : Vstor) (lacks : Bool) (room : ℕ) (stop : SrbStop) → v.operation ≡ 3 → lacks ≡ false → ((came : List ℕ) → request_of v came ≡ Err stop) → Stops v lacks room stop.status
stops_unread v lacks room stop srb has is = λ came len. (
  srb_is v lacks came srb ∙ ap (λ b. cond b None (with_room (length came) (request_of v came))) has ∙ ap (with_room (length came)) (is came),
  fixed_srb_is v lacks came srb ∙ ap (λ b. stop_of v (cond b 4 (stopped_by (request_of v came)))) has ∙ ap (λ r. stop_of v (stopped_by r)) (is came),
)

pub stops_short : (v : Vstor) (lacks : Bool) (room : ℕ) (cdb : List ℕ) → v.operation ≡ 3 → lacks ≡ false → ((came : List ℕ) → IsOk (request_of v came)) → ((came : List ℕ) (q : DiskRequest) → request_of v came ≡ Ok q → q.cdb ≡ cdb) → nat_le (most_back (command_of cdb)) room ≡ false → room ≤ 4096 → Stops v lacks room 4
stops_short v lacks room cdb srb has ok same short few = λ came len.
    let not = room_not (length came) room (request_of v came) cdb (ok came) (same came) short len few in (
      srb_is v lacks came srb ∙ ap (λ b. cond b None (with_room (length came) (request_of v came))) has ∙ not.0,
      fixed_srb_is v lacks came srb ∙ ap (λ b. stop_of v (cond b 4 (stopped_by (request_of v came)))) has ∙ ap (stop_of v) not.1,
    )

pub asks_with_room : (v : Vstor) (lacks : Bool) (room : ℕ) (cdb : List ℕ) → v.operation ≡ 3 → lacks ≡ false → ((came : List ℕ) → IsOk (request_of v came)) → ((came : List ℕ) (q : DiskRequest) → request_of v came ≡ Ok q → q.cdb ≡ cdb) → nat_le (most_back (command_of cdb)) room ≡ true → room ≤ 4096
    → (came : List ℕ) → length came ≡ room → IsSome (srb_asked v lacks came)
asks_with_room v lacks room cdb srb has ok same fits few = λ came len.
    subst IsSome (sym (srb_is v lacks came srb ∙ ap (λ b. cond b None (with_room (length came) (request_of v came))) has)) (room_fits (length came) room (request_of v came) cdb (ok came) (same came) fits len few)

-- why an srb asks nothing, if it doesn't
abbrev WhyStopped : Vstor → Bool → ℕ → Option ℕ → Type 0
WhyStopped v lacks room o = MatchOption o ((came : List ℕ) → length came ≡ room → IsSome (srb_asked v lacks came)) (λ status. Stops v lacks room status)

pub asks_by : (v : Vstor) (lacks : Bool) (room : ℕ) (o : Option ℕ) (b : Bool) → is_some o ≡ not b → WhyStopped v lacks room o → (came : List ℕ) → length came ≡ room → b ≡ is_some (srb_asked v lacks came)
asks_by v lacks room None true is h = λ came len. sym (h came len)
asks_by v lacks room None false is h = cc
asks_by v lacks room (Some status) true is h = cc
asks_by v lacks room (Some status) false is h = λ came len. sym (ap is_some (h came len).0)

pub asks_nothing : (v : Vstor) (lacks : Bool) (room : ℕ) → (v.operation ≡ 3 → ⊥) → (came : List ℕ) → length came ≡ room → false ≡ is_some (srb_asked v lacks came)
asks_nothing v lacks room other = λ came len. sym (ap is_some (other_asked v lacks came other))

-- this goes back for a storage packet, whatever bytes came
abbrev Fixed : Vstor → Bool → ℕ → Vstor → Type 0
Fixed v lacks room w = IsAllowed w × ((came : List ℕ) → length came ≡ room → (is_none (srb_asked v lacks came) ≡ true) × (w ≡ page_fixed_vstor v lacks came))

pub fixed_other : (v : Vstor) (lacks : Bool) (room : ℕ) (w : Vstor) → (v.operation ≡ 3 → ⊥) → IsAllowed w → w ≡ silent_answer (answer_of v) → Fixed v lacks room w
fixed_other v lacks room w other allowed is = (allowed, λ came len. (ap is_none (other_asked v lacks came other), is ∙ sym (other_fixed v lacks came other)))

pub fixed_srb : (v : Vstor) (lacks : Bool) (room : ℕ) (w : Vstor) (status : ℕ) → Stops v lacks room status → w ≡ stop_of v status → Fixed v lacks room w
fixed_srb v lacks room w status stops is =
    let allowed : IsAllowed (stop_of v status) = (refl, λ not. absurd (not refl)) in
    (subst IsAllowed (sym is) allowed, λ came len. (ap is_none (stops came len).0, is ∙ sym (stops came len).1))

some_not_none : (o : Option DiskRequest) → IsSome o → is_none o ≡ false
some_not_none None h = cc
some_not_none (Some q) h = refl

pub fixed_not : (v : Vstor) (lacks : Bool) (room : ℕ) → ((came : List ℕ) → length came ≡ room → IsSome (srb_asked v lacks came)) → (came : List ℕ) → length came ≡ room → is_none (srb_asked v lacks came) ≡ false
fixed_not v lacks room some = λ came len. some_not_none (srb_asked v lacks came) (some came len)

pub none_from : (o : Option DiskRequest) → is_some o ≡ false → o ≡ None
none_from None h = refl
none_from (Some q) h = cc

pub none_if : (o : Option DiskRequest) → is_none o ≡ true → o ≡ None
none_if None h = refl
none_if (Some q) h = cc

-- a packet asks what its storage packet does

pub read_is : (i : Item) (v : Vstor) → page_waits i ≡ true → v ≡ vstor_of i.packet → page_read (said_item i) ≡ srb_asked v (lacks_page i) (bytes_in i.words)
unfolding page_read
read_is i v waits is = read_said i ∙ rw waits (ap (λ w. srb_asked w (lacks_page i) (bytes_in i.words)) (sym is))

pub read_other : (i : Item) → page_waits i ≡ false → page_read (said_item i) ≡ None
unfolding page_read
read_other i not = read_said i ∙ rw not refl

pub has_so : (i : Item) → page_waits i ≡ true → has_vstor i.packet ≡ false → ⊥
has_so i waits lacks = true_false (sym (waits_has i waits) ∙ lacks)
  where
    true_false : true ≡ false → ⊥
    true_false e = cc

pub room_of : (ws : List ℕ) → length (bytes_in ws) ≡ 8 * length ws
room_of ws = length-bytes_in ws

-- the answer to what asks nothing of the disk

fixed_said : (i : Item) → page_waits i ≡ true → page_read (said_item i) ≡ None → fixed_back page_codec (said_item i) ≡ Some (alone (page_fixed i))
fixed_said i waits none =
    let so = is_read_so i in
    let waits_too : page_waits (said_item i) ≡ true = so.waits ∙ waits in
    let nothing : is_none (page_read (said_item i)) ≡ true = ap is_none none in
    rw (waits_too, nothing) (ap (λ (x : Item). Some (alone x)) (so.fixed waits))

pub fixed_goes : (i : Item) (p : List ℕ) (n : ℕ) → page_waits i ≡ true → page_read (said_item i) ≡ None → p ≡ (page_fixed i).packet → 0 < length p → LaysSome said_item p [] n (answer_in (fixed_back page_codec (said_item i)))
fixed_goes i p n waits none is some =
    subst (λ o. LaysSome said_item p [] n (answer_in o)) (sym (fixed_said i waits none)) (some, λ j lays. said_fixed i j waits (lays.packet_is ∙ is))

pub none_goes : (i : Item) (p : List ℕ) (n : ℕ) → page_waits i ≡ false → p ≡ [] → LaysSome said_item p [] n (answer_in (fixed_back page_codec (said_item i)))
none_goes i p n not is =
    let waits_not : page_waits (said_item i) ≡ false = (is_read_so i).waits ∙ not in
    subst (λ b. LaysSome said_item p [] n (answer_in (cond (b && is_none (page_read (said_item i))) (Some (alone (page_fixed (said_item i)))) None))) (sym waits_not) is

pub asked_goes : (i : Item) (p : List ℕ) (n : ℕ) → is_none (page_read (said_item i)) ≡ false → p ≡ [] → LaysSome said_item p [] n (answer_in (fixed_back page_codec (said_item i)))
asked_goes i p n asks is =
    subst (λ b. LaysSome said_item p [] n (answer_in (cond b (Some (alone (page_fixed (said_item i)))) None))) (sym (both_off (page_waits (said_item i)) (is_none (page_read (said_item i))) asks)) is
  where
    both_off : (a b : Bool) → b ≡ false → (a && b) ≡ false
    both_off true b h = h
    both_off false b h = refl

pub fixed_packet : (i : Item) (v w : Vstor) → v ≡ vstor_of i.packet → w ≡ page_fixed_vstor v (lacks_page i) (bytes_in i.words) → done_packet (id_of i.packet) w [] ≡ (page_fixed i).packet
unfolding page_fixed
fixed_packet i v w is answers = ap (λ x. done_packet (id_of i.packet) x []) (answers ∙ ap (λ x. page_fixed_vstor x (lacks_page i) (bytes_in i.words)) is)

-- completions

pub result_is : (i : Item) (v : Vstor) → is_completion i.packet ≡ true → has_vstor i.packet ≡ true → v ≡ vstor_of i.packet → v.operation ≡ 1 → page_result i ≡ done_of v (bytes_in i.words)
unfolding page_result
result_is i v done has is one =
    let t : ((vstor_of i.packet).operation == 1) ≡ true = ap (λ (x : Vstor). x.operation == 1) (sym is) ∙ ap (λ n. n == 1) one in
    rw (done, has, t) (ap (λ (w : Vstor). done_of w (bytes_in i.words)) (sym is))

pub result_other : (i : Item) (v : Vstor) → is_completion i.packet ≡ true → has_vstor i.packet ≡ true → v ≡ vstor_of i.packet → (v.operation ≡ 1 → ⊥) → page_result i ≡ None
unfolding page_result
result_other i v done has is not =
    let f : (v.operation == 1) ≡ false = grind (arith, nat_tests, not) in
    let t : ((vstor_of i.packet).operation == 1) ≡ false = ap (λ (x : Vstor). x.operation == 1) (sym is) ∙ f in
    rw (done, has, t) refl

-- what is asked is an srb that reaches the disk, whatever bytes it came with where its command gives some
pub record Reads (i : Item) (v : Vstor) (came : List ℕ) : Type 0 where
  pub srb : v.operation ≡ 3
  pub reaches : IsOk (request_of v came)
  pub is : (q : DiskRequest) → request_of v came ≡ Ok q → page_read (said_item i) ≡ Some q

abbrev ok_of : DiskRequest → Result DiskRequest SrbStop
ok_of x = Ok x

read_same : (i : Item) (r : Result DiskRequest SrbStop) (x q : DiskRequest) → page_read (said_item i) ≡ Some x → r ≡ Ok x → r ≡ Ok q → page_read (said_item i) ≡ Some q
read_same i r x q h one two =
    let same_ok : ok_of x ≡ ok_of q = sym one ∙ two in
    let same : x ≡ q = cc in
    h ∙ ap Some same

reads_at : (i : Item) (o : Option DiskRequest) (came : List ℕ) → page_read (said_item i) ≡ o → IsSome o → request_of (vstor_of i.packet) came ≡ request_of (vstor_of i.packet) (bytes_in i.words) → Reads i (vstor_of i.packet) came
reads_at i None came h some alike = cc
reads_at i (Some x) came h some alike =
    let a = page_asks i x (sym (read_said i) ∙ h) in
    let one : request_of (vstor_of i.packet) came ≡ Ok x = alike ∙ a.request in
    let ok : IsOk (request_of (vstor_of i.packet) came) = rw one refl in
    record { srb = a.srb; reaches = ok; is = λ q two. read_same i (request_of (vstor_of i.packet) came) x q h one two }

pub reads : (i : Item) (v : Vstor) (came : List ℕ) → v ≡ vstor_of i.packet → came ≡ bytes_in i.words → IsSome (page_read (said_item i)) → Reads i v came
reads i v came same is some = rw same (reads_at i (page_read (said_item i)) came refl some (ap (request_of (vstor_of i.packet)) is))

gives_alike : (v : Vstor) → (data_in (command_of (cdb_in v)) == 1) ≡ true → gives_bytes v ≡ true
unfolding gives_bytes
gives_alike v gives = gives

pub reads_giving : (i : Item) (v : Vstor) → v ≡ vstor_of i.packet → (data_in (command_of (cdb_in v)) == 1) ≡ true → IsSome (page_read (said_item i)) → Reads i v []
reads_giving i v same gives some =
    subst (λ (x : Vstor). (data_in (command_of (cdb_in x)) == 1) ≡ true → Reads i x []) (sym same)
    (λ here. reads_at i (page_read (said_item i)) [] refl some (same_request (vstor_of i.packet) [] (bytes_in i.words) (gives_alike (vstor_of i.packet) here))) gives

pub reads_srb : (i : Item) (v : Vstor) → v ≡ vstor_of i.packet → IsSome (page_read (said_item i)) → v.operation ≡ 3
reads_srb i v same some = (reads i v (bytes_in i.words) same refl some).srb

-- the answer with the reply

pub answer_srb : (i : Item) (v : Vstor) (q : DiskRequest) → v ≡ vstor_of i.packet → page_read (said_item i) ≡ Some q → v.operation ≡ 3
answer_srb i v q same h = ap (λ (x : Vstor). x.operation) same ∙ (page_asks i q (sym (read_said i) ∙ h)).srb

answer_packet : (i : Item) (r : DiskReply) → (page_answer i r).packet ≡ done_packet (id_of i.packet) (reply_of (vstor_of i.packet) r) []
unfolding page_answer
answer_packet i r = refl

pub answer_goes : (i : Item) (v : Vstor) (q : DiskRequest) (r : DiskReply) (p ws : List ℕ) → v ≡ vstor_of i.packet → page_read (said_item i) ≡ Some q → disk_fits q r ≡ true → p ≡ done_packet (id_of i.packet) (reply_of v r) [] → ws ≡ words_of (back_of r)
    → (n : ℕ) (j : Item) → Lays p ws n j → said_item j ≡ page_answer (said_item i) r
answer_goes i v q r p ws same h fits put data_is n j lays =
    let back : take (length (words_of (back_of r))) j.words ≡ words_of (back_of r) = subst (λ (x : List ℕ). take (length x) j.words ≡ x) data_is lays.words_are in
    said_answer (said_item i) q r j h fits (lays.packet_is ∙ put ∙ ap (λ w. done_packet (id_of i.packet) (reply_of w r) []) same ∙ sym (answer_packet (said_item i) r)) back

pub answer_few : (i : Item) (q : DiskRequest) (r : DiskReply) → page_read (said_item i) ≡ Some q → disk_fits q r ≡ true → (words_for (length (back_of r)) ≤ length (said_item i).words) × (length (back_of r) ≤ 4096)
answer_few i q r h fits =
    let few = (page_asks (said_item i) q h).few in
    let back = (back_fits q r fits).0 in
    (omega (arith, few, back, length-bytes_in (said_item i).words), omega (arith, few, back))

-- what a completion says

pub ended_came : (p : List ℕ) (v : Vstor) → has_vstor p ≡ true → v ≡ vstor_of p → came_in p ≡ came_with v
unfolding came_in
ended_came p v has is = rw has (ap came_with (sym is))

pub kind_done : (p : List ℕ) → is_completion p ≡ true → kind_of p ≡ 11
unfolding is_completion
kind_done p h = let first = left (kind_of p == 11) (nat_le (length p) 384) h in grind (arith, nat_tests, first)
  where
    left : (a b : Bool) → (a && b) ≡ true → a ≡ true
    left true b h = refl
    left false b h = cc

pub result_none : (i : Item) → is_completion i.packet ≡ false → page_result i ≡ None
unfolding page_result
result_none i not = rw not refl

pub result_bare : (i : Item) → has_vstor i.packet ≡ false → page_result i ≡ None
unfolding page_result
result_bare i not = ap (λ b. cond b (done_of (vstor_of i.packet) (bytes_in i.words)) None) (off (is_completion i.packet) (has_vstor i.packet) ((vstor_of i.packet).operation == 1) not)
  where
    off : (a b c : Bool) → b ≡ false → (a && (b && c)) ≡ false
    off true b c h = ap (λ x. x && c) h
    off false b c h = refl

-- of the page words of a completion those are read that came
pub said_words : (i : Item) → kind_of i.packet ≡ 11 → (said_item i).words ≡ take (words_for (came_in i.packet)) i.words
said_words i kind = result_words i.packet i.words kind

pub cut_words : (n most : ℕ) (ws : List ℕ) → length ws ≤ 512 → most ≡ words_for (min n 4096) → take (min most (length ws)) ws ≡ take (words_for n) ws
cut_words n most ws few is =
    take_min most ws ∙ ⊎_elim (λ gt. take_all most ws (omega (arith, is, few, gt)) ∙ sym (take_all (words_for n) ws (omega (arith, few, gt)))) (λ le. ap (λ m. take m ws) (omega (arith, is, le))) (cases_lt 4096 n)

pub said_result : (i : Item) (v : Vstor) → kind_of i.packet ≡ 11 → came_in i.packet ≡ came_with v → ((j : Item) → j.packet ≡ i.packet → page_result j ≡ done_of v (bytes_in j.words)) → page_result (said_item i) ≡ done_of v (bytes_in (take (words_for (came_with v)) i.words))
said_result i v kind came says = says (said_item i) refl ∙ ap (λ ws. done_of v (bytes_in ws)) (said_words i kind ∙ ap (λ n. take (words_for n) i.words) came)

pub all_bytes : (ws xs : List ℕ) → length ws ≤ 512 → xs ≡ take 4096 (bytes_in ws) → xs ≡ bytes_in ws
all_bytes ws xs few is = is ∙ take_all 4096 (bytes_in ws) (omega (arith, length-bytes_in ws, few))
