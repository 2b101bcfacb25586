-- A network's channel over data pages: what was asked is read, and so is what came back; its items keep to the laws of a wire format.
use Rattle.std.proofs.Common.{◌≡◌, ℕ, ◌-◌, ◌*◌, ◌%◌, ◌^◌, ◌<◌, ◌==◌, Bool, true, false, cond, ◌&&◌, ◌||◌, List, [], length, replicate, Option, Some, None, Result, Ok, Err, refl, sym, ap, subst, ◌∙◌, lit<, arith}
use Rattle.std.specs.Prelude.{slice_range}
use Rattle.std.proofs.lemmas.Bool.Decides.{nat_tests}
use Rattle.wire_table.specs.Little.{number_of}
use Rattle.wire_table.specs.Rows.{nth_number}
use Rattle.vm_page.specs.Words.{words_for, words_of, bytes_in}
use Rattle.vm_page.proofs.WordLaws.{bytes_in-words_from}
use Rattle.pkt_desc.specs.Packets.{id_of, kind_of, inband_packet, completion_packet}
use Rattle.rndis_msg.specs.declared.rndis.Rndis.{Rndis}
use Rattle.rndis_msg.specs.declared.rndis.Rndis.TheVariants.{Packet, Initialize}
use Rattle.rndis_msg.specs.declared.fault.RndisFault.{RndisFault}
use Rattle.rndis_msg.specs.Grammar.{rndis_bytes}
use Rattle.rndis_msg.specs.Reading.{message_in}
use Rattle.rndis_msg.proofs.WriteLaws.{read_again}
use Rattle.net_dev.specs.declared.nvsp.Nvsp.{Nvsp}
use Rattle.net_dev.specs.declared.nvsp.Nvsp.TheVariants.{Init, NdisVersion, ReceiveBuffer, ReceiveBufferComplete, SendBuffer, SendBufferComplete, RndisPacket, RndisPacketComplete}
use Rattle.net_dev.specs.declared.reply.NetReply.{NetReply}
use Rattle.net_dev.specs.Nvsp.{nvsp_bytes, InForm}
use Rattle.net_dev.specs.Station.{initialize_reply}
use Rattle.page_kept.specs.declared.item.Item.{Item}
use Rattle.page_kept.specs.Items.{item_of}
use Rattle.channel_model.specs.WireFormat.{Keeps, Back, IsBack, IsBesides, under_own}
use Rattle.net_format.specs.declared.net_step.NetStep.{NetStep}
use Rattle.net_format.specs.declared.net_step.NetStep.TheVariants.{Init as FirstInit, Version, ReceiveList, SendList, Initialize as LastInitialize}
use Rattle.device_wire.specs.declared.want.Want.{Want}
use Rattle.device_wire.specs.declared.want.Want.TheVariants.{Step, Request}
use Rattle.device_packets.specs.Packets.{is_inband, is_completion, content_of}
use Rattle.net_format.specs.Nets.{has_nvsp, is_init, tells_receive, tells_send, carries_rndis, is_transfer, brings_rndis, asked_by, channel_type, net_done, init_done, receive_done, send_done, back_in_form, net_fits, with_id, can_ask, request_id_of, net_init, net_ndis, net_receive, net_send, initialize_of, ok_of}
use Rattle.net_format.specs.PageNets.{step_answered, rndis_in, net_waits, net_read, section_of, section_packet, rndis_sent, transfer_packet, rndis_back, bare_alone, fixed_by, net_fixed, message_of, taken_status, net_ack, net_start, net_encode, net_has_answer, back_in, net_said, net_result, net_format}
use Rattle.device_packets.proofs.PacketLaws.{by_test}
use Rattle.net_format.proofs.NetLaws.{neither, other_one, rndis_are_bytes, Formed, formed, begins, has_kind, is_plain, IsOfType, sent_type, init_form, ndis_form, done_form, start_formed, few_bytes, asked_formed, asked_self, asks_parts, is_six, is_eleven, not_both_types, fits_parts}
use Rattle.net_format.proofs.TransferLaws.{transfer_kind, transfer_id, transfer_begins, transfer_short}

-- messages in page words

pub channel_small : (m : Rndis) → channel_type m < 256 ^ 4
channel_small (Packet body) = lit< tt
channel_small m = lit< tt

words_read : (m : Rndis) → Formed m → message_in (bytes_in (words_of (rndis_bytes m))) ≡ Ok m
words_read m f =
    let b = rndis_bytes m in
    let rest = replicate (8 * words_for (length b) - length b) 0 in
    ap message_in (bytes_in-words_from (words_for (length b)) b (rndis_are_bytes m f.bytes) (omega arith)) ∙ read_again m rest f.form

pub section_form : (id : ℕ) (m : Rndis) → Formed m → InForm (RndisPacket (channel_type m) (section_of id) (length (rndis_bytes m)))
section_form id m f = ((refl, channel_small m), ((refl, omega arith), ((refl, omega (arith, few_bytes m f)), tt)))

record Carries (i : Item) (m : Rndis) : Type 0 where
  pub is : IsOfType i.packet 107
  pub message : rndis_in i ≡ Ok m

carried : (id : ℕ) (m : Rndis) → Formed m → Carries (rndis_sent id m) m
unfolding rndis_sent section_packet rndis_in
carried id m f = record {
  is = sent_type id 1 (RndisPacket (channel_type m) (section_of id) (length (rndis_bytes m))) (section_form id m f);
  message = words_read m f;
}

-- by the type of the network message

waits_by : (i : Item) (k : ℕ) → IsOfType i.packet k → net_waits i ≡ ((k == 1) || ((k == 101) || ((k == 104) || (k == 107))))
unfolding net_waits
waits_by i k t = λ j. t.init j || (t.receive j || (t.send j || t.carries j))

read_by : (i : Item) (k : ℕ) → IsOfType i.packet k → net_read i ≡ cond (k == 107) (asked_by (rndis_in i)) None
unfolding net_read
read_by i k t = ap (λ b. cond b (asked_by (rndis_in i)) None) t.carries

read_carried : (i : Item) (m : Rndis) → Carries i m → net_read i ≡ asked_by (Ok m)
read_carried i m c = read_by i 107 c.is ∙ ap asked_by c.message

-- the start-up

pub record IsSilentStep (i : Item) (answered : Bool) : Type 0 where
  pub waits : net_waits i ≡ answered
  pub reads : net_read i ≡ None

init_step : (id : ℕ) → IsSilentStep (item_of (net_init id) []) true
unfolding net_init
init_step id =
    let i = item_of (inband_packet id 1 (nvsp_bytes (Init 0x5_0000 0x5_0000))) [] in
    let t = sent_type id 1 (Init 0x5_0000 0x5_0000) init_form in
    record { waits = waits_by i 1 t; reads = read_by i 1 t }

ndis_step : IsSilentStep (item_of net_ndis []) false
unfolding net_ndis
ndis_step =
    let i = item_of (inband_packet 0 0 (nvsp_bytes (NdisVersion 6 30))) [] in
    let t = sent_type 0 0 (NdisVersion 6 30) ndis_form in
    record { waits = waits_by i 100 t; reads = read_by i 100 t }

pub receive_form : (g : ℕ) → g < 2 ^ 32 → InForm (ReceiveBuffer g 0xcafe)
receive_form g small = ((refl, small), ((refl, lit< tt), tt))

pub send_form : (g : ℕ) → g < 2 ^ 32 → InForm (SendBuffer g 0)
send_form g small = ((refl, small), ((refl, lit< tt), tt))

receive_step_is : (id g : ℕ) → g < 2 ^ 32 → IsSilentStep (item_of (net_receive id g) []) true
unfolding net_receive
receive_step_is id g small =
    let i = item_of (inband_packet id 1 (nvsp_bytes (ReceiveBuffer g 0xcafe))) [] in
    let t = sent_type id 1 (ReceiveBuffer g 0xcafe) (receive_form g small) in
    record { waits = waits_by i 101 t; reads = read_by i 101 t }

send_step_is : (id g : ℕ) → g < 2 ^ 32 → IsSilentStep (item_of (net_send id g) []) true
unfolding net_send
send_step_is id g small =
    let i = item_of (inband_packet id 1 (nvsp_bytes (SendBuffer g 0))) [] in
    let t = sent_type id 1 (SendBuffer g 0) (send_form g small) in
    record { waits = waits_by i 104 t; reads = read_by i 104 t }

initialize_step : (id : ℕ) → IsSilentStep (rndis_sent id (initialize_of id)) true
initialize_step id =
    let c = carried id (initialize_of id) (start_formed id) in
    record { waits = waits_by (rndis_sent id (initialize_of id)) 107 c.is; reads = read_carried (rndis_sent id (initialize_of id)) (initialize_of id) c }

handle_small : (g : ℕ) → g % 2 ^ 32 < 2 ^ 32
handle_small g = omega arith

pub start_is : (id : ℕ) (s : NetStep) → IsSilentStep (net_start id s) (step_answered s)
start_is id FirstInit = init_step id
start_is id Version = ndis_step
start_is id (ReceiveList g) = receive_step_is id (g % 2 ^ 32) (handle_small g)
start_is id (SendList g) = send_step_is id (g % 2 ^ 32) (handle_small g)
start_is id LastInitialize = initialize_step id

-- nothing of the start-up asks the adapter
pub step_read : (id : ℕ) (s : NetStep) → net_read (net_start id s) ≡ None
step_read id s = (start_is id s).reads

-- the messages that can be asked

asked_carried : (id : ℕ) (m : Rndis) → can_ask m ≡ true → Carries (rndis_sent id (with_id (request_id_of id) m)) (with_id (request_id_of id) m)
asked_carried id m h = let two = asks_parts m h in carried id (with_id (request_id_of id) m) (asked_formed m id two.0 two.1)

-- what a packet that asks asks: the same message, with the id of the packet
pub asked_read : (id : ℕ) (m : Rndis) → can_ask m ≡ true → net_read (net_encode id (Request m)) ≡ Some (with_id (request_id_of id) m)
asked_read id m h =
    ap (λ t. net_read (cond t (rndis_sent id (with_id (request_id_of id) m)) (item_of (net_init id) []))) h
    ∙ (read_carried (rndis_sent id (with_id (request_id_of id) m)) (with_id (request_id_of id) m) (asked_carried id m h) ∙ asked_self m id (asks_parts m h).0)

-- what holds of the packet of a request, whether it can be asked or not
pub of_request : (P : Item → Type 0) (id : ℕ) (m : Rndis) → (can_ask m ≡ true → P (rndis_sent id (with_id (request_id_of id) m))) → P (item_of (net_init id) []) → P (net_encode id (Request m))
of_request P id m asks not =
    let Q : Bool → Type 0 = λ t. P (cond t (rndis_sent id (with_id (request_id_of id) m)) (item_of (net_init id) [])) in
    by_test (can_ask m) (λ e. subst Q (sym e) (asks e)) (λ e. subst Q (sym e) not)

-- completions

done_said : (id status : ℕ) (before : Option Item) → status < 2 ^ 32 → net_said before (item_of (net_done id status) []) ≡ Some (record { status = status; back = back_in before })
unfolding net_said net_done is_completion
done_said id status before small =
    let n = RndisPacketComplete status in
    let p = completion_packet id (nvsp_bytes n) in
    let is = begins 11 id 0 n (lit< tt) (done_form status small) in
    let comes = is_plain 11 id 0 n (lit< tt) (done_form status small) in
    let test : (is_completion p && has_nvsp 108 p) ≡ true = ap (λ t. t && has_nvsp 108 p) comes ∙ has_kind p n 108 is in
    let says : number_of (slice_range (content_of p) 4 8) ≡ status = ap (nth_number 0) is.fields in
    let F : ℕ → NetReply = λ s. record { status = s; back = back_in before } in
    ap (λ t. cond t (Some (F (number_of (slice_range (content_of p) 4 8)))) None) test ∙ ap (λ s. Some (F s)) says

pub transfer_brings : (own c n : ℕ) → c < 256 ^ 4 → brings_rndis (transfer_packet own c n) ≡ true
unfolding brings_rndis is_transfer
transfer_brings own c n channel =
    let p = transfer_packet own c n in
    ap (λ t. t && has_nvsp 107 p) (transfer_short own c n channel) ∙ has_kind p (RndisPacket c 0xffff_ffff 0) 107 (transfer_begins own c n channel)

back_carried : (own : ℕ) (m : Rndis) → Formed m → (brings_rndis (rndis_back own m).packet ≡ true) × (rndis_in (rndis_back own m) ≡ Ok m)
unfolding rndis_back rndis_in
back_carried own m f = (transfer_brings own (channel_type m) (length (rndis_bytes m)) (channel_small m), words_read m f)

back_read : (own : ℕ) (back : Option Rndis) → back_in_form back ≡ true → back_in (under_own own (message_of back)) ≡ back
back_read own None h = refl
back_read own (Some m) h =
    let c = back_carried own m (formed m h) in
    ap (λ t. cond t (ok_of (rndis_in (rndis_back own m))) None) c.0 ∙ ap ok_of c.1

-- what goes back

is_seven : (own : ℕ) (m : Rndis) → (kind_of (rndis_back own m).packet == 7) ≡ true
unfolding rndis_back
is_seven own m = let kind = transfer_kind own (channel_type m) (length (rndis_bytes m)) in grind (arith, nat_tests, kind)

seven_other : (own : ℕ) (m : Rndis) → (kind_of (rndis_back own m).packet == 11) ≡ false
unfolding rndis_back
seven_other own m = let kind = transfer_kind own (channel_type m) (length (rndis_bytes m)) in grind (arith, nat_tests, kind)

pub back_id : (own : ℕ) (m : Rndis) → id_of (rndis_back own m).packet ≡ own
unfolding rndis_back
back_id own m = transfer_id own (channel_type m) (length (rndis_bytes m))

besides_is : (m : Rndis) → IsBesides net_format (Some (λ own. rndis_back own m))
besides_is m own = record { message = is_seven own m; other = seven_other own m; same = λ _. back_id own m }

besides_of : (back : Option Rndis) → IsBesides net_format (message_of back)
besides_of None = tt
besides_of (Some m) = besides_is m

-- a completion goes back
pub record Completes (id : ℕ) (p : List ℕ) : Type 0 where
  pub done : (kind_of p == 11) ≡ true
  pub other : (kind_of p == 7) ≡ false
  pub same : id_of p ≡ id

completed : (id : ℕ) (n : Nvsp) → Completes id (completion_packet id (nvsp_bytes n))
completed id n =
    let is = is_eleven id (nvsp_bytes n) in
    let kind : kind_of (completion_packet id (nvsp_bytes n)) ≡ 11 = grind (arith, nat_tests, is) in
    record { done = is; other = grind (arith, nat_tests, kind); same = refl }

back_by : (id : ℕ) (p : List ℕ) (message : Option (ℕ → Item)) → IsBesides net_format message → Completes id p → IsBack net_format id (record { message = message; answer = item_of p [] })
back_by id p message besides c = record { besides = besides; one = c.done; other = c.other; same = c.same }

done_completes : (id status : ℕ) → Completes id (net_done id status)
unfolding net_done
done_completes id status = completed id (RndisPacketComplete status)

init_completes : (p : List ℕ) → Completes (id_of p) (init_done p)
unfolding init_done
init_completes p = completed (id_of p) _

receive_completes : (id : ℕ) → Completes id (receive_done id)
unfolding receive_done
receive_completes id = completed id (ReceiveBufferComplete 1 1 0 4096 64 262144)

send_completes : (id : ℕ) → Completes id (send_done id)
unfolding send_done
send_completes id = completed id (SendBufferComplete 1 4096)

fixed_some : (id : ℕ) (r : Result Rndis RndisFault) → asked_by r ≡ None → (b : Back Item) × (fixed_by id r ≡ Some b) × IsBack net_format id b
fixed_some id (Ok (Initialize request_id major minor max_transfer)) h =
    (record { message = Some (λ own. rndis_back own (initialize_reply request_id)); answer = item_of (net_done id 1) [] }, refl, back_by id (net_done id 1) (Some (λ own. rndis_back own (initialize_reply request_id))) (besides_is (initialize_reply request_id)) (done_completes id 1))
fixed_some id (Ok m) h = absurd (cc)
fixed_some id (Err fault) h = (bare_alone (net_done id 2), refl, back_by id (net_done id 2) None tt (done_completes id 2))

-- the four cases of what is fixed
abbrev pub fixed_at : Bool → Bool → Bool → Bool → Item → Option (Back Item)
fixed_at a b c d i =
    cond a (Some (bare_alone (init_done i.packet)))
    (cond b (Some (bare_alone (receive_done (id_of i.packet))))
    (cond c (Some (bare_alone (send_done (id_of i.packet))))
    (cond d (fixed_by (id_of i.packet) (rndis_in i)) None)))

pub fixed_is : (i : Item) → net_fixed i ≡ fixed_at (is_init i.packet) (tells_receive i.packet) (tells_send i.packet) (carries_rndis i.packet) i
unfolding net_fixed
fixed_is i = refl

net_fixes : (i : Item) → net_waits i ≡ true → net_read i ≡ None → (b : Back Item) × (net_fixed i ≡ Some b) × IsBack net_format (id_of i.packet) b
unfolding net_waits net_read
net_fixes i waits none =
    let p = i.packet in
    by_test (is_init p)
    (λ e. (bare_alone (init_done p), fixed_is i ∙ ap (λ t. fixed_at t (tells_receive p) (tells_send p) (carries_rndis p) i) e, back_by (id_of p) (init_done p) None tt (init_completes p)))
    (λ e.
    let w1 = other_one (is_init p) (tells_receive p || (tells_send p || carries_rndis p)) waits e in
    let f1 = fixed_is i ∙ ap (λ t. fixed_at t (tells_receive p) (tells_send p) (carries_rndis p) i) e in
    by_test (tells_receive p)
    (λ g. (bare_alone (receive_done (id_of p)), f1 ∙ ap (λ t. fixed_at false t (tells_send p) (carries_rndis p) i) g, back_by (id_of p) (receive_done (id_of p)) None tt (receive_completes (id_of p))))
    (λ g.
    let w2 = other_one (tells_receive p) (tells_send p || carries_rndis p) w1 g in
    let f2 = f1 ∙ ap (λ t. fixed_at false t (tells_send p) (carries_rndis p) i) g in
    by_test (tells_send p)
    (λ s. (bare_alone (send_done (id_of p)), f2 ∙ ap (λ t. fixed_at false false t (carries_rndis p) i) s, back_by (id_of p) (send_done (id_of p)) None tt (send_completes (id_of p))))
    (λ s.
    let carries = other_one (tells_send p) (carries_rndis p) w2 s in
    let found = fixed_some (id_of p) (rndis_in i) (sym (ap (λ t. cond t (asked_by (rndis_in i)) None) carries) ∙ none) in
    (found.0, f2 ∙ (ap (λ t. fixed_at false false t (carries_rndis p) i) s ∙ (ap (λ t. fixed_at false false false t i) carries ∙ found.1)), found.2))))

record Quiet (p : List ℕ) : Type 0 where
  pub init : is_init p ≡ false
  pub receive : tells_receive p ≡ false
  pub send : tells_send p ≡ false
  pub carries : carries_rndis p ≡ false

quiet : (i : Item) → net_waits i ≡ false → Quiet i.packet
unfolding net_waits
quiet i h =
    let p = i.packet in
    let a = neither (is_init p) (tells_receive p || (tells_send p || carries_rndis p)) h in
    let b = neither (tells_receive p) (tells_send p || carries_rndis p) a.1 in
    let c = neither (tells_send p) (carries_rndis p) b.1 in
    record { init = a.0; receive = b.0; send = c.0; carries = c.1 }

net_unread : (i : Item) → net_waits i ≡ false → net_read i ≡ None
unfolding net_read
net_unread i h = ap (λ t. cond t (asked_by (rndis_in i)) None) (quiet i h).carries

net_silent : (i : Item) → net_waits i ≡ false → net_fixed i ≡ None
net_silent i h = let q = quiet i h in fixed_is i ∙ (λ j. fixed_at (q.init j) (q.receive j) (q.send j) (q.carries j) i)

pub net_asks : (i : Item) → (kind_of i.packet == 6) ≡ false → net_waits i ≡ false
unfolding net_waits is_init tells_receive tells_send carries_rndis is_inband
net_asks i h = rw h refl

-- what is asked

unfoldable IsSix : Item → Type 0
IsSix i = (kind_of i.packet == 6) ≡ true

init_six : (id : ℕ) → IsSix (item_of (net_init id) [])
unfolding IsSix net_init
init_six id = is_six id 1 _

sent_six : (id : ℕ) (m : Rndis) → IsSix (rndis_sent id m)
unfolding IsSix rndis_sent section_packet
sent_six id m = is_six id 1 _

pub six_sent : (id : ℕ) (m : Rndis) → (kind_of (rndis_sent id m).packet == 6) ≡ true
unfolding IsSix
six_sent id m = sent_six id m

ndis_six : IsSix (item_of net_ndis [])
unfolding IsSix net_ndis
ndis_six = is_six 0 0 _

receive_six : (id g : ℕ) → IsSix (item_of (net_receive id g) [])
unfolding IsSix net_receive
receive_six id g = is_six id 1 _

send_six : (id g : ℕ) → IsSix (item_of (net_send id g) [])
unfolding IsSix net_send
send_six id g = is_six id 1 _

pub all_six : (id : ℕ) (a : Want NetStep Rndis) → (kind_of (net_encode id a).packet == 6) ≡ true
unfolding IsSix
all_six id (Step FirstInit) = init_six id
all_six id (Step Version) = ndis_six
all_six id (Step (ReceiveList g)) = receive_six id (g % 2 ^ 32)
all_six id (Step (SendList g)) = send_six id (g % 2 ^ 32)
all_six id (Step LastInitialize) = sent_six id (initialize_of id)
all_six id (Request m) = of_request (λ i. (kind_of i.packet == 6) ≡ true) id m (λ _. sent_six id (with_id (request_id_of id) m)) (init_six id)

pub waits_asked : (id : ℕ) (a : Want NetStep Rndis) → net_waits (net_encode id a) ≡ net_has_answer a
waits_asked id (Step s) = (start_is id s).waits
waits_asked id (Request m) = of_request (λ i. net_waits i ≡ true) id m (λ e. waits_by (rndis_sent id (with_id (request_id_of id) m)) 107 (asked_carried id m e).is) (init_step id).waits

init_id : (id : ℕ) → id_of (net_init id) ≡ id
unfolding net_init
init_id id = refl

sent_id : (id : ℕ) (m : Rndis) → id_of (rndis_sent id m).packet ≡ id
unfolding rndis_sent section_packet
sent_id id m = refl

receive_id : (id g : ℕ) → id_of (net_receive id g) ≡ id
unfolding net_receive
receive_id id g = refl

send_id : (id g : ℕ) → id_of (net_send id g) ≡ id
unfolding net_send
send_id id g = refl

net_id_kept : (id : ℕ) (a : Want NetStep Rndis) → net_has_answer a ≡ true → id_of (net_encode id a).packet ≡ id
net_id_kept id (Step FirstInit) h = init_id id
net_id_kept id (Step Version) h = absurd (let bad : false ≡ true = h in cc)
net_id_kept id (Step (ReceiveList g)) h = receive_id id (g % 2 ^ 32)
net_id_kept id (Step (SendList g)) h = send_id id (g % 2 ^ 32)
net_id_kept id (Step LastInitialize) h = sent_id id (initialize_of id)
net_id_kept id (Request m) h = of_request (λ i. id_of i.packet ≡ id) id m (λ _. sent_id id (with_id (request_id_of id) m)) (init_id id)

net_id_own : (id : ℕ) (a : Want NetStep Rndis) → net_has_answer a ≡ false → net_encode (id_of (net_encode id a).packet) a ≡ net_encode id a
net_id_own id (Step FirstInit) h = absurd (let bad : true ≡ false = h in cc)
net_id_own id (Step Version) h = refl
net_id_own id (Step (ReceiveList g)) h = absurd (let bad : true ≡ false = h in cc)
net_id_own id (Step (SendList g)) h = absurd (let bad : true ≡ false = h in cc)
net_id_own id (Step LastInitialize) h = absurd (let bad : true ≡ false = h in cc)
net_id_own id (Request m) h = absurd (let bad : true ≡ false = h in cc)

not_asked_read : (id : ℕ) (m : Rndis) → can_ask m ≡ false → net_read (net_encode id (Request m)) ≡ None
not_asked_read id m h = ap (λ t. net_read (cond t (rndis_sent id (with_id (request_id_of id) m)) (item_of (net_init id) []))) h ∙ (init_step id).reads

none_some : {X Y : Type 0} (x : X) → None ≡ Some x → Y
none_some x h = absurd (cc)

net_reads : (id : ℕ) (a : Want NetStep Rndis) (q : Rndis) (r : NetReply) → net_read (net_encode id a) ≡ Some q → net_fits q r ≡ true → (own : ℕ) → net_result a (under_own own (message_of r.back)) (item_of (net_done (id_of (net_encode id a).packet) r.status) []) ≡ Some r
net_reads id (Step s) q r h fits own = none_some q (sym (step_read id s) ∙ h)
net_reads id (Request m) q r h fits own =
    by_test (can_ask m)
    (λ e.
    let two = fits_parts q r fits in
    let before = under_own own (message_of r.back) in
    let done = item_of (net_done (id_of (net_encode id (Request m)).packet) r.status) [] in
    let F : Option Rndis → NetReply = λ b. record { status = r.status; back = b } in
    ap (λ t. cond t (net_said before done) None) e ∙ (done_said (id_of (net_encode id (Request m)).packet) r.status before two.0 ∙ ap (λ b. Some (F b)) (back_read own r.back two.1)))
    (λ e. none_some q (sym (not_asked_read id m e) ∙ h))

net_no_result : (id : ℕ) (a : Want NetStep Rndis) (before : Option Item) (i : Item) → net_read (net_encode id a) ≡ None → net_result a before i ≡ None
net_no_result id (Step s) before i h = refl
net_no_result id (Request m) before i h =
    by_test (can_ask m)
    (λ e. none_some (with_id (request_id_of id) m) (sym h ∙ asked_read id m e))
    (λ e. ap (λ t. cond t (net_said before i) None) e)

pub ack_completes : (i : Item) → Completes (id_of i.packet) (net_ack i).packet
unfolding net_ack
ack_completes i = done_completes (id_of i.packet) (taken_status i.packet)

pub net_keeps : Keeps net_format
net_keeps = record {
  given = λ i r waits. back_by (id_of i.packet) (net_done (id_of i.packet) r.status) (message_of r.back) (besides_of r.back) (done_completes (id_of i.packet) r.status);
  fixes = net_fixes;
  unread = net_unread;
  silent = net_silent;
  asks = net_asks;
  encodes = all_six;
  waits_ask = waits_asked;
  id_kept = λ id a small answers. net_id_kept id a answers;
  id_own = net_id_own;
  reads = net_reads;
  no_result = net_no_result;
  acks = λ i is. ((ack_completes i).done, (ack_completes i).same);
  ack_asks = λ i is. not_both_types (kind_of i.packet) is;
}
