-- What the network message at the front of a packet says of it.
use Rattle.std.proofs.Common.{◌≡◌, ℕ, Bool, true, false, cond, ◌&&◌, ◌==◌, ◌<◌, ◌≤◌, ◌^◌, List, length, Option, Some, None, Result, Ok, Err, refl, sym, ap, subst, ◌∙◌, arith}
use Rattle.std.specs.Prelude.{nat_le, nat_lt, IfErr, slice_range}
use Rattle.std.proofs.lemmas.Bool.Decides.{nat_tests}
use Rattle.wire_table.specs.Little.{number_of}
use Rattle.wire_table.specs.Rows.{nth_number}
use Rattle.pkt_desc.specs.Packets.{kind_of}
use Rattle.rndis_msg.specs.declared.rndis.Rndis.{Rndis}
use Rattle.rndis_msg.specs.Messages.{values_of, body_of}
use Rattle.std.specs.List.{AllByRecursion}
use Rattle.net_dev.specs.declared.nvsp.Nvsp.{Nvsp}
use Rattle.net_dev.specs.declared.nvsp.Nvsp.TheVariants.{Init, ReceiveBuffer, SendBuffer, RndisPacket, RndisPacketComplete}
use Rattle.net_dev.specs.declared.fault.NvspFault.{NvspFault}
use Rattle.net_dev.specs.declared.fault.NvspFault.TheVariants.{Short}
use Rattle.net_dev.specs.declared.reply.NetReply.{NetReply}
use Rattle.net_dev.specs.Nvsp.{type_of, kinds_of, type_in, IsNvsp, unknown, nvsp_fault}
use Rattle.device_packets.specs.Packets.{is_inband, is_completion, content_of}
use Rattle.net_format.specs.Nets.{has_nvsp, is_init, tells_receive, tells_send, carries_rndis, is_transfer, brings_rndis, is_request_type, can_ask}
use Rattle.net_format.specs.PageNets.{net_waits, back_in, net_said}
use Rattle.page_kept.specs.declared.item.Item.{Item}
use Rattle.device_packets.proofs.PacketLaws.{by_test}
use Rattle.net_format.proofs.NetLaws.{has_kind, formed_test}
use Rattle.net_format.proofs.PageNetLaws.{net_keeps}
use Rattle.device_net.specs.Came.{IsCame, IsTested, status_in}
use Rattle.device_net.specs.declared.nets.Came.TheVariants.{Init as CameInit, Receive, Send, Rndis as CameRndis, Other}

and_right : (a b : Bool) → b ≡ false → (a && b) ≡ false
and_right true b h = h
and_right false b h = refl

none_some : {X Y : Type 0} (x : X) → None ≡ Some x → Y
none_some x h = absurd (cc)

-- bytes with a fault begin with no message of a type that is known
no_kind : (p : List ℕ) (k : ℕ) (e : NvspFault) → unknown k (kinds_of k) ≡ None → nvsp_fault (content_of p) ≡ Some e → has_nvsp k p ≡ false
unfolding nvsp_fault has_nvsp
no_kind p k e known fault =
    let b = content_of p in
    by_test (nat_lt (length b) 40)
    (λ short. let few : nat_le 40 (length b) ≡ false = grind (arith, nat_tests, short) in ap (λ t. t && (type_in b == k)) few)
    (λ long.
    let none : unknown (type_in b) (kinds_of (type_in b)) ≡ Some e = sym (ap (λ t. cond t (Some (Short (length b) 40)) (unknown (type_in b) (kinds_of (type_in b)))) long) ∙ fault in
    by_test (type_in b == k)
    (λ same. let is : type_in b ≡ k = grind (arith, nat_tests, same) in none_some e (sym known ∙ (sym (ap (λ j. unknown j (kinds_of j)) is) ∙ none)))
    (λ other. and_right (nat_le 40 (length b)) (type_in b == k) other))

faulty : (p b : List ℕ) (r : Result Nvsp NvspFault) (k : ℕ) → b ≡ content_of p → ((m : Nvsp) → r ≡ Ok m → ⊥) → IfErr r (λ e. nvsp_fault b ≡ Some e) → unknown k (kinds_of k) ≡ None → has_nvsp k p ≡ false
faulty p b (Ok m) k same not fault known = absurd (not m refl)
faulty p b (Err e) k same not fault known = no_kind p k e known (sym (ap nvsp_fault same) ∙ fault)

-- by the type of the message at the front
tested : (p : List ℕ) (a b c d : Bool) → (is_inband p && has_nvsp 1 p) ≡ a → (is_inband p && has_nvsp 101 p) ≡ b → (is_inband p && has_nvsp 104 p) ≡ c → (is_inband p && has_nvsp 107 p) ≡ d → IsTested a b c d p
unfolding is_init tells_receive tells_send carries_rndis
tested p a b c d init receive send carries = record { init_is = init; receive_is = receive; send_is = send; carries_is = carries }

pub came_not : (p : List ℕ) → is_inband p ≡ false → IsCame Other p
came_not p h = tested p false false false false (ap (λ t. t && has_nvsp 1 p) h) (ap (λ t. t && has_nvsp 101 p) h) (ap (λ t. t && has_nvsp 104 p) h) (ap (λ t. t && has_nvsp 107 p) h)

pub came_faulty : (p b : List ℕ) (r : Result Nvsp NvspFault) → b ≡ content_of p → ((m : Nvsp) → r ≡ Ok m → ⊥) → IfErr r (λ e. nvsp_fault b ≡ Some e) → IsCame Other p
came_faulty p b r same not fault =
    let no : (k : ℕ) → unknown k (kinds_of k) ≡ None → (is_inband p && has_nvsp k p) ≡ false = λ k known. and_right (is_inband p) (has_nvsp k p) (faulty p b r k same not fault known) in
    tested p false false false false (no 1 refl) (no 101 refl) (no 104 refl) (no 107 refl)

-- the message at the front
at_front : (p b : List ℕ) (m n : Nvsp) → b ≡ content_of p → IsNvsp m b → m ≡ n → IsNvsp n (content_of p)
at_front p b m n same is eq = subst (λ x. IsNvsp x (content_of p)) eq (subst (IsNvsp m) same is)

of_type : (p b : List ℕ) (m n : Nvsp) → is_inband p ≡ true → b ≡ content_of p → IsNvsp m b → m ≡ n → IsTested (type_of n == 1) (type_of n == 101) (type_of n == 104) (type_of n == 107) p
of_type p b m n inband same is eq =
    let at = at_front p b m n same is eq in
    let one : (k : ℕ) → (is_inband p && has_nvsp k p) ≡ (type_of n == k) = λ k. ap (λ t. t && has_nvsp k p) inband ∙ has_kind p n k at in
    tested p (type_of n == 1) (type_of n == 101) (type_of n == 104) (type_of n == 107) (one 1) (one 101) (one 104) (one 107)

pub came_init : (p b : List ℕ) (m : Nvsp) (min max : ℕ) → is_inband p ≡ true → b ≡ content_of p → IsNvsp m b → m ≡ Init min max → IsCame (CameInit min max) p
came_init p b m min max inband same is eq =
    let at = at_front p b m (Init min max) same is eq in
    (of_type p b m (Init min max) inband same is eq, sym (ap (nth_number 0) at.fields), sym (ap (nth_number 1) at.fields))

pub came_receive : (p b : List ℕ) (m : Nvsp) (g i : ℕ) → is_inband p ≡ true → b ≡ content_of p → IsNvsp m b → m ≡ ReceiveBuffer g i → IsCame Receive p
came_receive p b m g i inband same is eq = of_type p b m (ReceiveBuffer g i) inband same is eq

pub came_send : (p b : List ℕ) (m : Nvsp) (g i : ℕ) → is_inband p ≡ true → b ≡ content_of p → IsNvsp m b → m ≡ SendBuffer g i → IsCame Send p
came_send p b m g i inband same is eq = of_type p b m (SendBuffer g i) inband same is eq

pub came_rndis : (p b : List ℕ) (m : Nvsp) (a i s : ℕ) → is_inband p ≡ true → b ≡ content_of p → IsNvsp m b → m ≡ RndisPacket a i s → IsCame CameRndis p
came_rndis p b m a i s inband same is eq = of_type p b m (RndisPacket a i s) inband same is eq

-- any other message
record IsOther (m : Nvsp) : Type 0 where
  pub init : (min max : ℕ) → m ≡ Init min max → ⊥
  pub receive : (g i : ℕ) → m ≡ ReceiveBuffer g i → ⊥
  pub send : (g i : ℕ) → m ≡ SendBuffer g i → ⊥
  pub rndis : (a i s : ℕ) → m ≡ RndisPacket a i s → ⊥

other_types : (m : Nvsp) → IsOther m → ((type_of m == 1) ≡ false) × ((type_of m == 101) ≡ false) × ((type_of m == 104) ≡ false) × ((type_of m == 107) ≡ false)
other_types (Init min max) h = absurd (h.init min max refl)
other_types (ReceiveBuffer g i) h = absurd (h.receive g i refl)
other_types (SendBuffer g i) h = absurd (h.send g i refl)
other_types (RndisPacket a i s) h = absurd (h.rndis a i s refl)
other_types m h = (refl, refl, refl, refl)

pub came_other : (p b : List ℕ) (m : Nvsp) → b ≡ content_of p → IsNvsp m b → ((min max : ℕ) → m ≡ Init min max → ⊥) → ((g i : ℕ) → m ≡ ReceiveBuffer g i → ⊥) → ((g i : ℕ) → m ≡ SendBuffer g i → ⊥) → ((a i s : ℕ) → m ≡ RndisPacket a i s → ⊥) → IsCame Other p
came_other p b m same is init receive send rndis =
    let at = at_front p b m m same is refl in
    let no = other_types m (record { init = init; receive = receive; send = send; rndis = rndis }) in
    tested p false false false false (and_right (is_inband p) (has_nvsp 1 p) (has_kind p m 1 at ∙ no.0)) (and_right (is_inband p) (has_nvsp 101 p) (has_kind p m 101 at ∙ no.1)) (and_right (is_inband p) (has_nvsp 104 p) (has_kind p m 104 at ∙ no.2)) (and_right (is_inband p) (has_nvsp 107 p) (has_kind p m 107 at ∙ no.3))

-- transfers

pub brings_not : (p : List ℕ) → is_transfer p ≡ false → brings_rndis p ≡ false
unfolding brings_rndis
brings_not p h = ap (λ t. t && has_nvsp 107 p) h

pub brings_faulty : (p b : List ℕ) (r : Result Nvsp NvspFault) → b ≡ content_of p → ((m : Nvsp) → r ≡ Ok m → ⊥) → IfErr r (λ e. nvsp_fault b ≡ Some e) → brings_rndis p ≡ false
unfolding brings_rndis
brings_faulty p b r same not fault = and_right (is_transfer p) (has_nvsp 107 p) (faulty p b r 107 same not fault refl)

pub brings_is : (p b : List ℕ) (m : Nvsp) (a i s : ℕ) → is_transfer p ≡ true → b ≡ content_of p → IsNvsp m b → m ≡ RndisPacket a i s → brings_rndis p ≡ true
unfolding brings_rndis
brings_is p b m a i s transfer same is eq = ap (λ t. t && has_nvsp 107 p) transfer ∙ has_kind p (RndisPacket a i s) 107 (at_front p b m (RndisPacket a i s) same is eq)

no_rndis : (m : Nvsp) → ((a i s : ℕ) → m ≡ RndisPacket a i s → ⊥) → (type_of m == 107) ≡ false
no_rndis (RndisPacket a i s) not = absurd (not a i s refl)
no_rndis (Init min max) not = refl
no_rndis m not = refl

pub brings_other : (p b : List ℕ) (m : Nvsp) → b ≡ content_of p → IsNvsp m b → ((a i s : ℕ) → m ≡ RndisPacket a i s → ⊥) → brings_rndis p ≡ false
unfolding brings_rndis
brings_other p b m same is not = and_right (is_transfer p) (has_nvsp 107 p) (has_kind p m 107 (at_front p b m m same is refl) ∙ no_rndis m not)

-- completions

status_by : (p : List ℕ) (t : Bool) → (is_completion p && has_nvsp 108 p) ≡ t → status_in p ≡ cond t (Some (number_of (slice_range (content_of p) 4 8))) None
status_by p t is = ap (λ u. cond u (Some (number_of (slice_range (content_of p) 4 8))) None) is

pub status_not : (p : List ℕ) → is_completion p ≡ false → status_in p ≡ None
status_not p h = status_by p false (ap (λ t. t && has_nvsp 108 p) h)

pub status_faulty : (p b : List ℕ) (r : Result Nvsp NvspFault) → b ≡ content_of p → ((m : Nvsp) → r ≡ Ok m → ⊥) → IfErr r (λ e. nvsp_fault b ≡ Some e) → status_in p ≡ None
status_faulty p b r same not fault = status_by p false (and_right (is_completion p) (has_nvsp 108 p) (faulty p b r 108 same not fault refl))

other_type : (m : Nvsp) → ((status : ℕ) → m ≡ RndisPacketComplete status → ⊥) → (type_of m == 108) ≡ false
other_type (RndisPacketComplete status) not = absurd (not status refl)
other_type (Init min max) not = refl
other_type m not = refl

pub status_other : (p b : List ℕ) (m : Nvsp) → b ≡ content_of p → IsNvsp m b → ((status : ℕ) → m ≡ RndisPacketComplete status → ⊥) → status_in p ≡ None
status_other p b m same is not =
    status_by p false (and_right (is_completion p) (has_nvsp 108 p) (has_kind p m 108 (at_front p b m m same is refl) ∙ other_type m not))

pub status_is : (p b : List ℕ) (m : Nvsp) (status : ℕ) → is_completion p ≡ true → b ≡ content_of p → IsNvsp m b → m ≡ RndisPacketComplete status → status_in p ≡ Some status
status_is p b m status comes same is eq =
    let at = at_front p b m (RndisPacketComplete status) same is eq in
    let test : (is_completion p && has_nvsp 108 p) ≡ true = ap (λ t. t && has_nvsp 108 p) comes ∙ has_kind p (RndisPacketComplete status) 108 at in
    status_by p true test ∙ ap Some (ap (nth_number 0) at.fields)

-- what is said, by the status
said_by : (before : Option Item) (i : Item) (t : Bool) → (is_completion i.packet && has_nvsp 108 i.packet) ≡ t → net_said before i ≡ cond t (Some (record { status = number_of (slice_range (content_of i.packet) 4 8); back = back_in before })) None
unfolding net_said
said_by before i t is = ap (λ u. cond u (Some (record { status = number_of (slice_range (content_of i.packet) 4 8); back = back_in before })) None) is

pub said_none : (before : Option Item) (i : Item) → status_in i.packet ≡ None → net_said before i ≡ None
said_none before i none = by_test (is_completion i.packet && has_nvsp 108 i.packet)
    (λ e. none_some (number_of (slice_range (content_of i.packet) 4 8)) (sym none ∙ status_by i.packet true e))
    (λ e. said_by before i false e)

pub said_some : (before : Option Item) (i : Item) (status : ℕ) → status_in i.packet ≡ Some status → net_said before i ≡ Some (record { status = status; back = back_in before })
said_some before i status some =
    let p = i.packet in
    let F : ℕ → NetReply = λ s. record { status = s; back = back_in before } in
    by_test (is_completion p && has_nvsp 108 p)
    (λ e. let same_some : Some (number_of (slice_range (content_of p) 4 8)) ≡ Some status = sym (status_by p true e) ∙ some in let same : number_of (slice_range (content_of p) 4 8) ≡ status = cc in said_by before i true e ∙ ap (λ s. Some (F s)) same)
    (λ e. none_some status (sym (status_by p false e) ∙ some))

-- a packet that waits is in-band
pub and_waits : (i : Item) → ((kind_of i.packet == 6) && net_waits i) ≡ net_waits i
and_waits i = by_test (kind_of i.packet == 6)
    (λ e. ap (λ t. t && net_waits i) e)
    (λ e. ap (λ t. t && net_waits i) e ∙ sym (net_keeps.asks i e))

-- a message of a type that is asked, whose numbers and bytes fit
pub can_asked : (m : Rndis) → is_request_type m ≡ true → AllByRecursion (λ v. v < 2 ^ 32) (values_of m) → length (body_of m) ≤ 1514 → AllByRecursion (λ b. b < 256) (body_of m) → can_ask m ≡ true
unfolding can_ask
can_asked m kind fields few bytes = rw (kind, formed_test m (record { fields = fields; few = few }) bytes) refl
