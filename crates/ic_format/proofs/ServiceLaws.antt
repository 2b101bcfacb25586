-- A utility channel: what was asked is read, and what was answered is read.
use Rattle.std.proofs.Common.{◌≡◌, ℕ, ◌*◌, ◌-◌, ◌≤◌, ◌==◌, Bool, true, false, cond, ◌&&◌, ◌||◌, nat_lt, ◌+◌, List, ◌++◌, length, take, drop, replicate, Option, Some, None, refl, sym, ap, ◌∙◌, lit<, lit≤, arith}
use Rattle.std.specs.Prelude.{nat_le}
use Rattle.std.proofs.lemmas.Bool.Decides.{nat_tests}
use Rattle.wire_table.specs.Little.{number_of, bytes_of}
use Rattle.wire_table.proofs.RowLaws.{IsBytes, length-spelled_after, take_bytes, drop_bytes}
use Rattle.vm_page.specs.Words.{words_for}
use Rattle.pkt_desc.specs.Packets.{id_of, inband_packet}
use Rattle.contact.specs.declared.kind.DeviceKind.{DeviceKind}
use Rattle.util_ic.specs.declared.ic.IcAsk.{IcAsk}
use Rattle.util_ic.specs.declared.ic.IcAsk.TheVariants.{Beat, Down}
use Rattle.util_ic.specs.declared.ic.IcAnswer.{IcAnswer}
use Rattle.util_ic.specs.declared.version.Version.{Version}
use Rattle.util_ic.specs.declared.row.AnswerRow.TheVariants.{Short, Cut, Heartbeat, Shutdown, Other}
use Rattle.util_ic.specs.Messages.{on_beat, on_down, put, type_of, with_seq, ask_bytes, negotiate_bytes}
use Rattle.util_ic.specs.Versions.{greatest_known}
use Rattle.util_ic.specs.Answers.{row_of, agreed_row, frames_in, messages_in, versions_end, utility_answer, HasRoom}
use Rattle.util_ic.specs.Asks.{asked_by, ask_of, answer_of, reply_of, kind_for, answer_bytes, Answered}
use Rattle.util_ic.specs.Packets.{ask_packet, negotiate_packet, answer_packet}
use Rattle.util_ic.proofs.ByteLaws.{length-put}
use Rattle.util_ic.proofs.AskLaws.{FitsAsk, beat_kinds, beat_rows, beat_has, down_kinds, down_rows, down_has, read_back}
use Rattle.util_ic.proofs.AnswerLaws.{answered}
use Rattle.util_ic.proofs.TableLaws.{type_zero}
use Rattle.util_ic.proofs.PacketLaws.{ask_carries, negotiate_carries}
use Rattle.device_packets.specs.Packets.{is_of, is_inband, content_of}
use Rattle.ic_format.specs.Services.{service_read, service_fixed, service_answer, service_result, service_fits}
use Rattle.device_packets.proofs.ByteLaws.{append_bytes, number_bytes}
use Rattle.device_packets.proofs.PacketLaws.{content_any, content_kept, content_bytes, length-content, is_of_kept, short_of, right, cond_some}

-- bytes

put_bytes : (at w v : ℕ) (b : List ℕ) → IsBytes b → IsBytes (put at w v b)
put_bytes at w v b h = append_bytes (take at b ++ bytes_of w v) (drop (at + w) b) (append_bytes (take at b) (bytes_of w v) (take_bytes at b h) (number_bytes w v)) (drop_bytes (at + w) b h)

-- ids

pub inband_any : (id flags : ℕ) (bs : List ℕ) → is_inband (inband_packet id flags bs) ≡ is_inband (inband_packet 0 flags bs)
unfolding is_inband
inband_any id flags bs = refl

pub service_any : (kind : DeviceKind) (id flags : ℕ) (bs : List ℕ) → service_read kind (inband_packet id flags bs) ≡ service_read kind (inband_packet 0 flags bs)
unfolding service_read is_inband
service_any kind id flags bs =
    let same : content_of (inband_packet id flags bs) ≡ content_of (inband_packet 0 flags bs) = content_any 6 id flags bs (lit< tt) ∙ sym (content_any 6 0 flags bs (lit< tt)) in
    ap (λ c. cond (is_of 6 (inband_packet id flags bs)) (ask_of kind c) None) same

-- requests of the service

length-ask : (ask : IcAsk) → FitsAsk ask → length (ask_bytes ask) ≤ 2088
length-ask (Beat seq) fits = omega (arith, length-spelled_after beat_kinds (beat_rows seq) (beat_has seq fits))
length-ask (Down reason timeout flags) fits = omega (arith, length-spelled_after down_kinds (down_rows reason timeout flags) (down_has reason timeout flags fits.0 fits.1 fits.2))

pub ask_waits : (id : ℕ) (ask : IcAsk) → FitsAsk ask → is_inband (ask_packet id ask) ≡ true
unfolding is_inband
ask_waits id ask fits = is_of_kept 6 id 0 (ask_bytes ask) (lit< tt) (omega (arith, length-ask ask fits))

pub ask_read : (id : ℕ) (ask : IcAsk) → FitsAsk ask → service_read (kind_for ask) (ask_packet id ask) ≡ Some ask
unfolding service_read content_of
ask_read id ask fits =
    let b = ask_bytes ask in
    rw (ask_waits id ask fits) (ap (ask_of (kind_for ask)) (ask_carries id ask fits).bytes_are ∙ read_back ask (replicate (8 * words_for (length b) - length b) 0) fits)

-- the start-up

pub start_waits : (id : ℕ) → is_inband (negotiate_packet id) ≡ true
unfolding is_inband bytes_of
start_waits id = is_of_kept 6 id 0 negotiate_bytes (lit< tt) (lit≤ tt)

negotiation_asks : (cut : Bool) (f m : Option Version) (b : List ℕ) → asked_by (cond cut Cut (agreed_row f m)) b ≡ None
negotiation_asks true f m b = refl
negotiation_asks false (Some f) (Some m) b = refl
negotiation_asks false (Some f) None b = refl
negotiation_asks false None m b = refl

type_here : (more : List ℕ) → type_of (negotiate_bytes ++ more) ≡ 0
unfolding bytes_of number_of
type_here more = refl

long_here : (more : List ℕ) → 28 ≤ length (negotiate_bytes ++ more)
unfolding bytes_of
long_here more = omega arith

start_asks : (kind : DeviceKind) (more : List ℕ) → ask_of kind (negotiate_bytes ++ more) ≡ None
start_asks kind more =
    let b = negotiate_bytes ++ more in
    ap (λ r. asked_by r b) (sym (type_zero kind b (long_here more) (type_here more)))
    ∙ negotiation_asks (nat_lt (length b) 36 || nat_lt (length b) (versions_end b)) (greatest_known (frames_in b)) (greatest_known (messages_in b)) b

pub start_read : (kind : DeviceKind) (id : ℕ) → service_read kind (negotiate_packet id) ≡ None
unfolding service_read content_of
start_read kind id =
    rw (start_waits id) (ap (ask_of kind) (negotiate_carries id).bytes_are ∙ start_asks kind (replicate (8 * words_for (length negotiate_bytes) - length negotiate_bytes) 0))

-- replies

both : (a b : Bool) → (a && b) ≡ true → (a ≡ true) × (b ≡ true)
both true true h = (refl, refl)
both true false h = cc
both false b h = cc

-- each reply of the service fits
pub reply_fits : (kind : DeviceKind) (q : IcAsk) (r : IcAnswer) → r ≡ reply_of kind q → service_fits kind q r ≡ true
unfolding service_fits
reply_fits kind q r is =
    let status : (r.status == (reply_of kind q).status) ≡ true = grind (arith, nat_tests, ap (λ x. x.status) is) in
    let seq : (r.seq == (reply_of kind q).seq) ≡ true = grind (arith, nat_tests, ap (λ x. x.seq) is) in
    rw (status, seq) refl

-- and no other does
pub reply_is : (kind : DeviceKind) (q : IcAsk) (r : IcAnswer) → service_fits kind q r ≡ true → r ≡ reply_of kind q
unfolding service_fits
reply_is kind q r h =
    let t = reply_of kind q in
    let two = both (r.status == t.status) (r.seq == t.seq) h in
    let status : r.status ≡ t.status = grind (arith, nat_tests, two.0) in
    let seq : r.seq ≡ t.seq = grind (arith, nat_tests, two.1) in
    let F : ℕ → ℕ → IcAnswer = λ s n. record { status = s; seq = n } in
    ap (λ s. F s r.seq) status ∙ ap (F t.status) seq

room_if : (short starts beats downs : Bool) (cut : Bool) (f m : Option Version) (b : List ℕ) (q : IcAsk) (n : ℕ) → (beats ≡ true → 36 ≤ n) → (downs ≡ true → 40 ≤ n)
    → asked_by (cond short Short (cond starts (cond cut Cut (agreed_row f m)) (cond beats Heartbeat (cond downs Shutdown Other)))) b ≡ Some q
    → HasRoom (cond short Short (cond starts (cond cut Cut (agreed_row f m)) (cond beats Heartbeat (cond downs Shutdown Other)))) n × (36 ≤ n)
room_if true starts beats downs cut f m b q n x y h = cc
room_if false true beats downs cut f m b q n x y h = let none = negotiation_asks cut f m b in cc
room_if false false true downs cut f m b q n x y h = (x refl, x refl)
room_if false false false true cut f m b q n x y h = let le = y refl in (le, omega (arith, le))
room_if false false false false cut f m b q n x y h = cc

pub room : (kind : DeviceKind) (b : List ℕ) (q : IcAsk) → ask_of kind b ≡ Some q → HasRoom (row_of kind b) (length b) × (36 ≤ length b)
room kind b q h =
    room_if (nat_lt (length b) 28) (type_of b == 0) ((type_of b == 1) && on_beat kind && nat_le 36 (length b)) ((type_of b == 3) && on_down kind && nat_le 40 (length b))
    (nat_lt (length b) 36 || nat_lt (length b) (versions_end b)) (greatest_known (frames_in b)) (greatest_known (messages_in b)) b q (length b)
    (λ is. let le = right ((type_of b == 1) && on_beat kind) (nat_le 36 (length b)) is in grind (arith, nat_tests, le))
    (λ is. let le = right ((type_of b == 3) && on_down kind) (nat_le 40 (length b)) is in grind (arith, nat_tests, le)) h

-- the answer to what asks the service
pub asked_answer : (kind : DeviceKind) (b : List ℕ) (q : IcAsk) → ask_of kind b ≡ Some q → Answered kind q b (utility_answer kind b)
asked_answer kind b q h = answered (row_of kind b) kind b q refl (room kind b q h).0 h

with_seq_if : (beats : Bool) (seq : ℕ) (b : List ℕ) → 36 ≤ length b → IsBytes b → (length (cond beats (with_seq seq b) b) ≡ length b) × IsBytes (cond beats (with_seq seq b) b)
with_seq_if true seq b long bytes = (length-put 28 8 seq b long, put_bytes 28 8 seq b bytes)
with_seq_if false seq b long bytes = (refl, bytes)

answer_formed : (b : List ℕ) (r : IcAnswer) → 36 ≤ length b → IsBytes b → (length (answer_bytes b r) ≡ length b) × IsBytes (answer_bytes b r)
answer_formed b r long bytes =
    let x = cond (type_of b == 1) (with_seq r.seq b) b in
    let one = with_seq_if (type_of b == 1) r.seq b long bytes in
    let inner = length-put 20 4 r.status x (omega (arith, one.0)) in
    (length-put 25 1 5 (put 20 4 r.status x) (omega (arith, inner, one.0)) ∙ (inner ∙ one.0), put_bytes 25 1 5 (put 20 4 r.status x) (put_bytes 20 4 r.status x one.1))

-- what the answer with the service's reply says is that reply
pub reply_read : (kind : DeviceKind) (id flags : ℕ) (bs : List ℕ) (q : IcAsk) (r : IcAnswer) → service_read kind (inband_packet id flags bs) ≡ Some q → service_fits kind q r ≡ true
    → service_result kind (service_answer (inband_packet id flags bs) r) ≡ Some r
unfolding service_read service_result service_answer is_inband
reply_read kind id flags bs q r h fits =
    let p = inband_packet id flags bs in
    let b = content_of p in
    let two = cond_some (is_of 6 p) (ask_of kind b) q h in
    let short = short_of 6 id flags bs two.0 in
    let size = length-content 6 id flags bs (lit< tt) in
    let can = asked_answer kind b q two.1 in
    let same = reply_is kind q r fits in
    let bytes = answer_bytes b r in
    let form = answer_formed b r (room kind b q two.1).1 (content_bytes p) in
    let more = replicate {A = ℕ} (8 * words_for (length bytes) - length bytes) 0 in
    let a = answer_packet (id_of p) b r in
    let comes : is_of 6 a ≡ true = is_of_kept 6 (id_of p) 0 bytes (lit< tt) (omega (arith, form.0, size, short)) in
    let says : answer_of kind (content_of a) ≡ r =
    ap (answer_of kind) (content_kept 6 (id_of p) 0 bytes (lit< tt) form.1)
    ∙ ap (λ x. answer_of kind (x ++ more)) (ap (answer_bytes b) same ∙ sym can.carries) ∙ (can.says more ∙ sym same) in
    ap (λ t. cond t (Some (answer_of kind (content_of a))) None) comes ∙ ap Some says

-- the service's own answer to what asks it carries the reply
pub served_answers : (kind : DeviceKind) (p : List ℕ) (q : IcAsk) (r : IcAnswer) → service_read kind p ≡ Some q → service_fits kind q r ≡ true → service_fixed kind p ≡ service_answer p r
unfolding service_read service_fixed service_answer
served_answers kind p q r h fits =
    let b = content_of p in
    let two = cond_some (is_inband p) (ask_of kind b) q h in
    let can = asked_answer kind b q two.1 in
    ap (inband_packet (id_of p) 0) (can.carries ∙ ap (answer_bytes b) (sym (reply_is kind q r fits)))
