-- A network's items keep to what data pages ask, and are read as they were meant.
use Rattle.std.proofs.Common.{◌≡◌, ℕ, ◌+◌, ◌-◌, ◌%◌, ◌^◌, ◌<◌, ◌≤◌, ◌==◌, Bool, true, false, cond, ◌&&◌, List, [], length, Option, Some, None, Result, Ok, Err, refl, sym, ap, subst, ◌∙◌, lit<, arith}
use Rattle.std.specs.Prelude.{nat_le, is_some, if◌then◌else◌}
use Rattle.std.proofs.lemmas.Bool.Decides.{nat_tests}
use Rattle.std.proofs.lemmas.List.{take_all}
use Rattle.vm_page.specs.Words.{words_for, words_of, bytes_in}
use Rattle.vm_page.proofs.WordLaws.{length-words_from}
use Rattle.pkt_desc.specs.Packets.{id_of, kind_of, completion_packet}
use Rattle.pkt_desc.specs.Lending.{lent_of}
use Rattle.pkt_desc.specs.declared.loan.Lent.{Lent}
use Rattle.rndis_msg.specs.declared.rndis.Rndis.{Rndis}
use Rattle.rndis_msg.specs.declared.rndis.Rndis.TheVariants.{Packet, Initialize}
use Rattle.rndis_msg.specs.declared.fault.RndisFault.{RndisFault}
use Rattle.rndis_msg.specs.declared.fault.RndisFault.TheVariants.{Short}
use Rattle.rndis_msg.specs.Types.{fixed_part}
use Rattle.rndis_msg.specs.Messages.{type_of as rndis_type}
use Rattle.rndis_msg.specs.Grammar.{rndis_bytes}
use Rattle.rndis_msg.specs.Faults.{first_fault}
use Rattle.rndis_msg.specs.Reading.{message_in}
use Rattle.rndis_msg.proofs.WriteLaws.{length-written}
use Rattle.net_dev.specs.declared.nvsp.Nvsp.{Nvsp}
use Rattle.net_dev.specs.declared.nvsp.Nvsp.TheVariants.{Init, NdisVersion, ReceiveBuffer, ReceiveBufferComplete, SendBuffer, SendBufferComplete, RndisPacketComplete}
use Rattle.net_dev.specs.declared.reply.NetReply.{NetReply}
use Rattle.net_dev.specs.Nvsp.{type_in, nvsp_bytes, InForm}
use Rattle.net_dev.specs.Station.{initialize_reply}
use Rattle.page_kept.specs.declared.item.Item.{Item}
use Rattle.page_kept.specs.Items.{item_of}
use Rattle.channel_model.specs.WireFormat.{Back}
use Rattle.channel_protocol.specs.Paged.{KeepsPages, Lays, LendsOwnPage, lent_len, words_lent}
use Rattle.device_wire.specs.WireModels.{KeepsWire}
use Rattle.net_format.specs.declared.net_step.NetStep.{NetStep}
use Rattle.net_format.specs.declared.net_step.NetStep.TheVariants.{Init as FirstInit, Version, ReceiveList, SendList, Initialize as LastInitialize}
use Rattle.device_wire.specs.declared.buffer_lists.BufferLists.{BufferLists}
use Rattle.device_wire.specs.declared.want.Want.{Want}
use Rattle.device_wire.specs.declared.want.Want.TheVariants.{Step, Request}
use Rattle.device_packets.specs.Said.{said_item}
use Rattle.device_packets.specs.Packets.{is_of, is_inband, content_of}
use Rattle.net_format.specs.Nets.{IsNetAsk, has_nvsp, is_transfer, brings_rndis, ok_of, carries_rndis, init_answer, least_in, greatest_in, asked_by, channel_type, net_done, init_done, receive_done, send_done, with_id, request_id_of, net_init, net_ndis, net_receive, net_send, initialize_of, is_init, tells_receive, tells_send}
use Rattle.net_format.specs.PageNets.{TellsLists, net_format, net_model, net_result, net_said, rndis_in, net_waits, net_read, section_packet, rndis_sent, transfer_packet, rndis_back, bare_alone, fixed_by, net_fixed, message_of, taken_status, net_ack, net_gives, back_in, net_encode, net_has_answer}
use Rattle.device_packets.proofs.PacketLaws.{by_test, kind_plain}
use Rattle.net_format.proofs.NetLaws.{both, Formed, answer_form, asked_formed, asks_parts, done_form, few_bytes, forty, init_form, ndis_form, start_formed}
use Rattle.net_format.proofs.PageNetLaws.{asked_read, net_keeps, step_read, all_six, channel_small, fixed_at, fixed_is, net_asks, of_request, receive_form, send_form, six_sent}
use Rattle.device_packets.proofs.SaidLaws.{said_plain, said_short}
use Rattle.net_format.proofs.TransferLaws.{other_lends, section_lends, transfer_kind, transfer_lends, transfer_lends_own}

-- what each packet lends

some_bytes : (m : Rndis) → 1 ≤ fixed_part (rndis_type m)
some_bytes (Packet body) = omega arith
some_bytes m = omega arith

pub message_bytes : (m : Rndis) → Formed m → (1 ≤ length (rndis_bytes m)) × (length (rndis_bytes m) ≤ 1600)
message_bytes m f = (omega (arith, length-written m f.form, some_bytes m), few_bytes m f)

pub sent_lends : (id : ℕ) (m : Rndis) → Formed m → id ≤ 64 → lent_of (rndis_sent id m).packet ≡ Some (record { page = id - 1; bytes = length (rndis_bytes m) })
unfolding rndis_sent
sent_lends id m f most = let n = message_bytes m f in section_lends id (channel_type m) (length (rndis_bytes m)) most n.0 (omega (arith, n.1)) (channel_small m)

pub back_lends : (own : ℕ) (m : Rndis) → Formed m → own ≤ 64 → lent_of (rndis_back own m).packet ≡ Some (record { page = 64 + (own - 1); bytes = length (rndis_bytes m) })
unfolding rndis_back
back_lends own m f most = let n = message_bytes m f in transfer_lends own (channel_type m) (length (rndis_bytes m)) most n.0 (omega (arith, n.1))

init_lends : (id : ℕ) → lent_of (net_init id) ≡ None
unfolding net_init
init_lends id = other_lends id 1 (Init 0x5_0000 0x5_0000) init_form (λ e. absurd (omega (arith, e)))

ndis_lends : lent_of net_ndis ≡ None
unfolding net_ndis
ndis_lends = other_lends 0 0 (NdisVersion 6 30) ndis_form (λ e. absurd (omega (arith, e)))

pub receive_lends : (id g : ℕ) → g < 2 ^ 32 → lent_of (net_receive id g) ≡ None
unfolding net_receive
receive_lends id g small = other_lends id 1 (ReceiveBuffer g 0xcafe) (receive_form g small) (λ e. absurd (omega (arith, e)))

pub send_lends : (id g : ℕ) → g < 2 ^ 32 → lent_of (net_send id g) ≡ None
unfolding net_send
send_lends id g small = other_lends id 1 (SendBuffer g 0) (send_form g small) (λ e. absurd (omega (arith, e)))

handle_small : (g : ℕ) → g % 2 ^ 32 < 2 ^ 32
handle_small g = omega arith

own_page : (id n : ℕ) (l : Lent) → 1 ≤ id → Some (record { page = id - 1; bytes = n }) ≡ Some l → l.page + 1 ≡ id
own_page id n l one h =
    let own : Lent = record { page = id - 1; bytes = n } in
    let same : own ≡ l = cc in
    let page : l.page ≡ id - 1 = ap (λ (x : Lent). x.page) (sym same) in
    omega (arith, page, one)

no_page : (p : List ℕ) (l : Lent) {X : Type 0} → lent_of p ≡ None → lent_of p ≡ Some l → X
no_page p l none h = absurd (let bad : None ≡ Some l = sym none ∙ h in cc)

lends_own : (id : ℕ) (a : Want NetStep Rndis) (l : Lent) → 1 ≤ id → id ≤ 64 → lent_of (net_encode id a).packet ≡ Some l → l.page + 1 ≡ id
lends_own id (Step FirstInit) l one most h = no_page (net_init id) l (init_lends id) h
lends_own id (Step Version) l one most h = no_page net_ndis l ndis_lends h
lends_own id (Step (ReceiveList g)) l one most h = no_page (net_receive id (g % 2 ^ 32)) l (receive_lends id (g % 2 ^ 32) (handle_small g)) h
lends_own id (Step (SendList g)) l one most h = no_page (net_send id (g % 2 ^ 32)) l (send_lends id (g % 2 ^ 32) (handle_small g)) h
lends_own id (Step LastInitialize) l one most h = own_page id (length (rndis_bytes (initialize_of id))) l one (sym (sent_lends id (initialize_of id) (start_formed id) most) ∙ h)
lends_own id (Request m) l one most h =
    of_request (λ i. lent_of i.packet ≡ Some l → l.page + 1 ≡ id) id m
    (λ e. let two = asks_parts m e in λ x. own_page id (length (rndis_bytes (with_id (request_id_of id) m))) l one (sym (sent_lends id (with_id (request_id_of id) m) (asked_formed m id two.0 two.1) most) ∙ x))
    (λ x. no_page (net_init id) l (init_lends id) x) h

says_nothing : (id : ℕ) (a : Want NetStep Rndis) → net_has_answer a ≡ false → (id_of (net_encode id a).packet ≡ 0) × (lent_of (net_encode id a).packet ≡ None)
unfolding net_ndis
says_nothing id (Step FirstInit) h = absurd (let bad : true ≡ false = h in cc)
says_nothing id (Step Version) h = (refl, ndis_lends)
says_nothing id (Step (ReceiveList g)) h = absurd (let bad : true ≡ false = h in cc)
says_nothing id (Step (SendList g)) h = absurd (let bad : true ≡ false = h in cc)
says_nothing id (Step LastInitialize) h = absurd (let bad : true ≡ false = h in cc)
says_nothing id (Request m) h = absurd (let bad : true ≡ false = h in cc)

back_own : (m : Rndis) → LendsOwnPage (Some (λ own. rndis_back own m))
unfolding rndis_back
back_own m own l one most h = transfer_lends_own own (channel_type m) (length (rndis_bytes m)) l one most h

besides_own : (back : Option Rndis) → LendsOwnPage (message_of back)
besides_own None = tt
besides_own (Some m) = back_own m

-- what holds of each thing that is fixed

module _ (P : Back Item → Type 0) (i : Item) (x : Back Item) where
  of_by : (id : ℕ) (r : Result Rndis RndisFault) → ((request_id : ℕ) → P (record { message = Some (λ own. rndis_back own (initialize_reply request_id)); answer = item_of (net_done id 1) [] })) → P (bare_alone (net_done id 2)) → fixed_by id r ≡ Some x → P x
  of_by id (Ok (Initialize request_id major minor max_transfer)) first last h =
      let own : Back Item = record { message = Some (λ own. rndis_back own (initialize_reply request_id)); answer = item_of (net_done id 1) [] } in
      let same : own ≡ x = cc in
      subst P same (first request_id)
  of_by id (Ok m) first last h = absurd (cc)
  of_by id (Err fault) first last h = let same : bare_alone (net_done id 2) ≡ x = cc in subst P same last

  of_cases : (a b c d : Bool) → P (bare_alone (init_done i.packet)) → P (bare_alone (receive_done (id_of i.packet))) → P (bare_alone (send_done (id_of i.packet))) → (fixed_by (id_of i.packet) (rndis_in i) ≡ Some x → P x) → fixed_at a b c d i ≡ Some x → P x
  of_cases true b c d p q r s h = let same : bare_alone (init_done i.packet) ≡ x = cc in subst P same p
  of_cases false true c d p q r s h = let same : bare_alone (receive_done (id_of i.packet)) ≡ x = cc in subst P same q
  of_cases false false true d p q r s h = let same : bare_alone (send_done (id_of i.packet)) ≡ x = cc in subst P same r
  of_cases false false false true p q r s h = s h
  of_cases false false false false p q r s h = absurd (cc)

  pub of_fixed : P (bare_alone (init_done i.packet)) → P (bare_alone (receive_done (id_of i.packet))) → P (bare_alone (send_done (id_of i.packet)))
      → ((request_id : ℕ) → P (record { message = Some (λ own. rndis_back own (initialize_reply request_id)); answer = item_of (net_done (id_of i.packet) 1) [] })) → P (bare_alone (net_done (id_of i.packet) 2)) → net_fixed i ≡ Some x → P x
  of_fixed p q r first last h =
      of_cases (is_init i.packet) (tells_receive i.packet) (tells_send i.packet) (carries_rndis i.packet) p q r (of_by (id_of i.packet) (rndis_in i) first last) (sym (fixed_is i) ∙ h)

fixed_own : (i : Item) (b : Back Item) → net_fixed i ≡ Some b → LendsOwnPage b.message
fixed_own i b h = of_fixed (λ x. LendsOwnPage x.message) i b tt tt tt (λ request_id. back_own (initialize_reply request_id)) tt h

fixed_words : (i : Item) (b : Back Item) → net_fixed i ≡ Some b → b.answer.words ≡ []
fixed_words i b h = of_fixed (λ x. x.answer.words ≡ []) i b refl refl refl (λ request_id. refl) refl h

-- by type

six_not : (k : ℕ) → (k == 6) ≡ true → (k == 11) ≡ false
six_not k h = let is : k ≡ 6 = grind (arith, nat_tests, h) in grind (arith, nat_tests, is)

seven_not : (k : ℕ) → (k == 7) ≡ true → (k == 11) ≡ false
seven_not k h = let is : k ≡ 7 = grind (arith, nat_tests, h) in grind (arith, nat_tests, is)

waits_not : (i : Item) → net_waits i ≡ true → (kind_of i.packet == 11) ≡ false
waits_not i h = by_test (kind_of i.packet == 6)
    (λ e. six_not (kind_of i.packet) e)
    (λ e. absurd (let bad : true ≡ false = sym h ∙ net_asks i e in cc))

ack_words : (i : Item) → (net_ack i).words ≡ []
unfolding net_ack
ack_words i = refl

pub net_pages : KeepsPages net_format
net_pages = record {
  ids = λ i. refl;
  answers = λ i. refl;
  acks = λ i is. is;
  asks = λ id a. six_not (kind_of (net_encode id a).packet) (all_six id a);
  waits = waits_not;
  messages = λ i is. seven_not (kind_of i.packet) is;
  lent = λ id a l one most has h. lends_own id a l one most h;
  silent = says_nothing;
  besides = λ i r. besides_own r.back;
  fixed_besides = fixed_own;
  back = λ i q r h fits. omega arith;
  fixed_back = fixed_words;
  acked = ack_words;
}

says_so : (q : Rndis) (before : Option Item) (i : Item) → IsNetAsk q → net_result (Request q) before i ≡ net_said before i
says_so q before i can = ap (λ t. cond t (net_said before i) None) can

pub page_kept : KeepsWire net_model IsNetAsk
page_kept = record {
  keeps = net_keeps;
  may = tt;
  paged = λ lends. net_pages;
  ids = λ i. refl;
  few = λ subs lists. omega arith;
  same = λ subs lists others. refl;
  fixed = step_read;
  waits = λ s. refl;
  asked = asked_read;
  says = says_so;
}

-- read as they were meant

is_six : (p : List ℕ) → (kind_of p == 6) ≡ true → kind_of p ≡ 6
is_six p h = grind (arith, nat_tests, h)

pub said_encoded : (id : ℕ) (a : Want NetStep Rndis) → said_item (net_encode id a) ≡ net_encode id a
said_encoded id a =
    let i = net_encode id a in
    said_plain i i.packet i.words 6 refl refl (is_six i.packet (all_six id a)) refl refl

-- a completion with a network message brings back nothing that is read
said_completed : (j : Item) (id : ℕ) (n : Nvsp) → InForm n → j.packet ≡ completion_packet id (nvsp_bytes n) → said_item j ≡ item_of (completion_packet id (nvsp_bytes n)) []
said_completed j id n form is = said_short j (completion_packet id (nvsp_bytes n)) is (kind_plain 11 id 0 (nvsp_bytes n) (lit< tt)) (omega (arith, forty 11 id 0 n (lit< tt) form))

pub said_done : (j : Item) (id status : ℕ) → status < 2 ^ 32 → j.packet ≡ net_done id status → said_item j ≡ item_of (net_done id status) []
unfolding net_done
said_done j id status small is = said_completed j id (RndisPacketComplete status) (done_form status small) is

said_init : (j : Item) (p : List ℕ) → j.packet ≡ init_done p → said_item j ≡ item_of (init_done p) []
unfolding init_done
said_init j p is = said_completed j (id_of p) (init_answer (least_in p) (greatest_in p)) (answer_form (least_in p) (greatest_in p)) is

said_receive : (j : Item) (id : ℕ) → j.packet ≡ receive_done id → said_item j ≡ item_of (receive_done id) []
unfolding receive_done
said_receive j id is = said_completed j id (ReceiveBufferComplete 1 1 0 4096 64 262144) ((refl, lit< tt), ((refl, lit< tt), ((refl, lit< tt), ((refl, lit< tt), ((refl, lit< tt), ((refl, lit< tt), tt)))))) is

said_send : (j : Item) (id : ℕ) → j.packet ≡ send_done id → said_item j ≡ item_of (send_done id) []
unfolding send_done
said_send j id is = said_completed j id (SendBufferComplete 1 4096) ((refl, lit< tt), ((refl, lit< tt), tt)) is

pub said_given : (i j : Item) (r : NetReply) → r.status < 2 ^ 32 → j.packet ≡ (net_gives i r).answer.packet → said_item j ≡ (net_gives i r).answer
said_given i j r small is = said_done j (id_of i.packet) r.status small is

pub said_fixed : (i j : Item) (b : Back Item) → net_fixed i ≡ Some b → j.packet ≡ b.answer.packet → said_item j ≡ b.answer
said_fixed i j b h =
    of_fixed (λ x. j.packet ≡ x.answer.packet → said_item j ≡ x.answer) i b (said_init j i.packet) (said_receive j (id_of i.packet)) (said_send j (id_of i.packet))
    (λ request_id. said_done j (id_of i.packet) 1 (lit< tt)) (said_done j (id_of i.packet) 2 (lit< tt)) h

small_status : (b : Bool) → (if b then 1 else 2) < 2 ^ 32
small_status true = lit< tt
small_status false = lit< tt

status_small : (p : List ℕ) → taken_status p < 2 ^ 32
unfolding taken_status
status_small p = small_status (brings_rndis p && is_some (lent_of p))

pub said_acked : (i j : Item) → j.packet ≡ (net_ack i).packet → said_item j ≡ net_ack i
unfolding net_ack
said_acked i j is = said_done j (id_of i.packet) (taken_status i.packet) (status_small i.packet) is

pub ack_is : (i : Item) (p : List ℕ) (status : ℕ) → i.packet ≡ p → status ≡ taken_status p → net_done (id_of p) status ≡ (net_ack i).packet
unfolding net_ack
ack_is i p status same is = ap (net_done (id_of p)) is ∙ ap (λ q. net_done (id_of q) (taken_status q)) (sym same)

-- a packet with these page words, all of which are stored

all_words : (p ws : List ℕ) (n : ℕ) (i : Item) → n ≡ length ws → Lays p ws n i → i.words ≡ ws
all_words p ws n i long lays = sym (take_all (length ws) i.words (omega (arith, lays.long, long))) ∙ lays.words_are

pub lays_sent : (id : ℕ) (m : Rndis) (p ws : List ℕ) (n : ℕ) → p ≡ (rndis_sent id m).packet → ws ≡ words_of (rndis_bytes m) → n ≡ words_for (length (rndis_bytes m)) → (kind_of p == 6) ≡ true → (i : Item) → Lays p ws n i → said_item i ≡ rndis_sent id m
unfolding rndis_sent
lays_sent id m p ws n is words many six i lays =
    let len : length ws ≡ words_for (length (rndis_bytes m)) = ap length words ∙ length-words_from (words_for (length (rndis_bytes m))) (rndis_bytes m) in
    said_plain i (rndis_sent id m).packet (words_of (rndis_bytes m)) 6 (lays.packet_is ∙ is) (all_words p ws n i (omega (arith, many, len)) lays ∙ words) (ap kind_of (sym is) ∙ is_six p six) refl refl

pub lays_back : (own : ℕ) (m : Rndis) (p ws : List ℕ) (n : ℕ) → p ≡ (rndis_back own m).packet → ws ≡ words_of (rndis_bytes m) → n ≡ words_for (length (rndis_bytes m)) → (i : Item) → Lays p ws n i → said_item i ≡ rndis_back own m
unfolding rndis_back
lays_back own m p ws n is words many i lays =
    let len : length ws ≡ words_for (length (rndis_bytes m)) = ap length words ∙ length-words_from (words_for (length (rndis_bytes m))) (rndis_bytes m) in
    said_plain i (rndis_back own m).packet (words_of (rndis_bytes m)) 7 (lays.packet_is ∙ is) (all_words p ws n i (omega (arith, many, len)) lays ∙ words) (transfer_kind own (channel_type m) (length (rndis_bytes m))) refl refl

-- a message that comes back says what it is
pub said_back : (own : ℕ) (m : Rndis) → said_item (rndis_back own m) ≡ rndis_back own m
unfolding rndis_back
said_back own m = said_plain (rndis_back own m) (rndis_back own m).packet (words_of (rndis_bytes m)) 7 refl refl (transfer_kind own (channel_type m) (length (rndis_bytes m))) refl refl

-- the packets of these
pub sent_is : (id : ℕ) (m : Rndis) → section_packet id (channel_type m) (length (rndis_bytes m)) ≡ (rndis_sent id m).packet
unfolding rndis_sent
sent_is id m = refl

pub sent_kind : (id : ℕ) (m : Rndis) (p : List ℕ) → p ≡ (rndis_sent id m).packet → (kind_of p == 6) ≡ true
sent_kind id m p is = ap (λ q. kind_of q == 6) is ∙ six_sent id m

pub back_is : (own : ℕ) (m : Rndis) → transfer_packet own (channel_type m) (length (rndis_bytes m)) ≡ (rndis_back own m).packet
unfolding rndis_back
back_is own m = refl

-- and how many words they lend
pub sent_words : (id : ℕ) (m : Rndis) (p : List ℕ) → Formed m → id ≤ 64 → p ≡ (rndis_sent id m).packet → words_lent p ≡ words_for (length (rndis_bytes m))
sent_words id m p f most is = ap words_lent is ∙ ap lent_len (sent_lends id m f most)

pub back_words : (own : ℕ) (m : Rndis) (p : List ℕ) → Formed m → own ≤ 64 → p ≡ (rndis_back own m).packet → words_lent p ≡ words_for (length (rndis_bytes m))
back_words own m p f most is = ap words_lent is ∙ ap lent_len (back_lends own m f most)

pub receive_words : (id g : ℕ) → g < 2 ^ 32 → words_lent (net_receive id g) ≡ 0
receive_words id g small = ap lent_len (receive_lends id g small)

pub send_words : (id g : ℕ) → g < 2 ^ 32 → words_lent (net_send id g) ≡ 0
send_words id g small = ap lent_len (send_lends id g small)

pub init_words : (id : ℕ) → words_lent (net_init id) ≡ 0
init_words id = ap lent_len (init_lends id)

pub ndis_words : words_lent net_ndis ≡ 0
ndis_words = ap lent_len ndis_lends

-- a message is read in the words that came, and anything else without a look at them

said_message : (i : Item) → carries_rndis i.packet ≡ true → said_item i ≡ i
unfolding carries_rndis is_inband
said_message i carries =
    let inband = (both (is_of 6 i.packet) (has_nvsp 107 i.packet) carries).0 in
    let kind = (both (kind_of i.packet == 6) (nat_le (length i.packet) 384) inband).0 in
    said_plain i i.packet i.words 6 refl refl (is_six i.packet kind) refl refl

pub read_said : (i : Item) → net_read (said_item i) ≡ net_read i
unfolding net_read
read_said i = by_test (carries_rndis i.packet)
    (λ e. ap (λ j. cond (carries_rndis i.packet) (asked_by (rndis_in j)) None) (said_message i e))
    (λ e. ap (λ t. cond t (asked_by (rndis_in (said_item i))) None) e ∙ sym (ap (λ t. cond t (asked_by (rndis_in i)) None) e))

pub fixed_said : (i : Item) → net_fixed (said_item i) ≡ net_fixed i
fixed_said i =
    let p = i.packet in
    let at : Bool → Item → Option (Back Item) = λ t j. fixed_at (is_init p) (tells_receive p) (tells_send p) t j in
    fixed_is (said_item i)
    ∙ (by_test {P = at (carries_rndis p) (said_item i) ≡ at (carries_rndis p) i} (carries_rndis p)
    (λ e. ap (at (carries_rndis p)) (said_message i e))
    (λ e. ap (λ t. at t (said_item i)) e ∙ sym (ap (λ t. at t i) e)))
    ∙ sym (fixed_is i)

said_transfer : (i : Item) → brings_rndis i.packet ≡ true → said_item i ≡ i
unfolding brings_rndis is_transfer
said_transfer i brings =
    let seven = (both (is_of 7 i.packet) (has_nvsp 107 i.packet) brings).0 in
    let kind = (both (kind_of i.packet == 7) (nat_le (length i.packet) 384) seven).0 in
    let is : kind_of i.packet ≡ 7 = grind (arith, nat_tests, kind) in
    said_plain i i.packet i.words 7 refl refl is refl refl

pub back_said : (i : Item) → back_in (Some (said_item i)) ≡ back_in (Some i)
back_said i = by_test (brings_rndis i.packet)
    (λ e. ap (λ j. cond (brings_rndis i.packet) (ok_of (rndis_in j)) None) (said_transfer i e))
    (λ e. ap (λ t. cond t (ok_of (rndis_in (said_item i))) None) e ∙ sym (ap (λ t. cond t (ok_of (rndis_in i)) None) e))

-- the page lists

pub own_handle : (g : ℕ) → g < 2 ^ 32 → g % 2 ^ 32 ≡ g
own_handle g small = omega (arith, small)

pub tells_lists : (lists : BufferLists) → lists.receive < 2 ^ 32 → lists.send < 2 ^ 32 → TellsLists lists
tells_lists lists receive send = record { steps = λ subs. refl; receive = λ id. ap (λ g. item_of (net_receive id g) []) (own_handle lists.receive receive); send = λ id. ap (λ g. item_of (net_send id g) []) (own_handle lists.send send) }

-- a message without its page is none

without_words : (i : Item) → i.words ≡ [] → rndis_in i ≡ Err (Short 0 8)
unfolding rndis_in message_in first_fault
without_words i none = ap (λ ws. message_in (bytes_in ws)) none

and_right : (a b : Bool) → b ≡ false → (a && b) ≡ false
and_right true b h = h
and_right false b h = refl

type_is : (p : List ℕ) → carries_rndis p ≡ true → type_in (content_of p) ≡ 107
unfolding carries_rndis has_nvsp
type_is p carries =
    let two = both (is_inband p) (has_nvsp 107 p) carries in
    let three = both (nat_le 40 (length (content_of p))) (type_in (content_of p) == 107) two.1 in
    let test = three.1 in
    grind (arith, nat_tests, test)

-- a packet with a message is none of the start-up's
record IsNoStart (p : List ℕ) : Type 0 where
  pub init : is_init p ≡ false
  pub receive : tells_receive p ≡ false
  pub send : tells_send p ≡ false

no_start : (p : List ℕ) → carries_rndis p ≡ true → IsNoStart p
unfolding is_init tells_receive tells_send has_nvsp
no_start p carries =
    let is = type_is p carries in
    let long = nat_le 40 (length (content_of p)) in
    record {
      init = and_right (is_inband p) (has_nvsp 1 p) (and_right long (type_in (content_of p) == 1) (ap (λ k. k == 1) is));
      receive = and_right (is_inband p) (has_nvsp 101 p) (and_right long (type_in (content_of p) == 101) (ap (λ k. k == 101) is));
      send = and_right (is_inband p) (has_nvsp 104 p) (and_right long (type_in (content_of p) == 104) (ap (λ k. k == 104) is));
    }

pub not_served_without_page : (i : Item) → carries_rndis i.packet ≡ true → i.words ≡ [] → (net_read i ≡ None) × (net_fixed i ≡ Some (record { message = None; answer = item_of (net_done (id_of i.packet) 2) [] }))
unfolding net_read
not_served_without_page i carries none =
    let bad = without_words i none in
    let other = no_start i.packet carries in (
      ap (λ t. cond t (asked_by (rndis_in i)) None) carries ∙ ap asked_by bad,
      fixed_is i ∙ ((λ j. fixed_at (other.init j) (other.receive j) (other.send j) (carries j) i) ∙ ap (fixed_by (id_of i.packet)) bad),
    )
