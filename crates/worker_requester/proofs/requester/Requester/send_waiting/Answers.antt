use Rattle.std.proofs.Common.{◌≤◌, ◌<◌, ℕ, List, inr, subst, ◌+◌, ◌*◌, refl, ap, ◌∙◌, length, arith, sym, is_some, true, ◌≡◌}
use Rattle.std.proofs.lemmas.Option.{slice_get_within}
use Rattle.worker_port.specs.Owed.{LacksSendOf}
use Rattle.worker_port.specs.Tries.{FoundFull}
use Rattle.ring_core.specs.declared.room.Room.{Room}
use Rattle.worker_requester.specs.Asking.{id_in, pending}
use Rattle.worker_requester.proofs.AskSteps.{sent_kept}
use Rattle.worker_port.specs.Line.{page_words}
use Rattle.worker_port.proofs.ItemSteps.{past_is, room_item}
use Rattle.worker_port.proofs.LentLaws.{packet_written, sent_is}
use Rattle.worker_port.proofs.PageLaws.{nil_by}
use Rattle.ring_core.specs.Pages.{along}
use Rattle.ring_core.proofs.Paging.{none_along}
use Rattle.worker_port.proofs.RoomLaws.{got_same}
use Rattle.channel_trace.specs.Runs.{sent_of}
use Rattle.worker_port.proofs.RoomLaws.{room_quiet}
use Rattle.worker_requester.proofs.AskSteps.{tried_kept}
use Rattle.worker_requester.specs.Asking.{is_open_in}
use Rattle.worker_requester.proofs.HomeSteps.{IsOwnAsk, by_lends, can_lay, along_is, home_asked, home_left, pages_on, waits_own, waits_within}
use Rattle.worker_requester.proofs.requester.Requester.send_waiting.Goals as goal

pub invariant_of-self-in-Sent : goal.invariant_of-self-in-Sent
invariant_of-self-in-Sent g c =
    let v = c.self.view_is in
    let l = c.self.invariant (ap (λ w. w.end.state.machine.marked) v ∙ c.requires.ready.unmarked) in
    let waits = ap (λ w. w.waiting) v ∙ c.requires.waits in
    let at = l.live.asked c.args.id waits in
    let said = g.T.Protocol.said in
    let q = (g.T.Protocol.format c.self.inside.protocol).encode c.args.id at.0 in
    let few : length c.encode.new.self.words ≤ c.encode.new.self.lent = omega (arith, ap length c.page-words.ensures.value, c.page-words.ensures.most.0) in
    let pk : q.packet ≡ c.packet-packet.result.now = packet_written said g.T.Protocol.said_packet c.encode.new.self q few (λ j lays. c.encode.ensures.value at.0 j at.1 lays) ∙ sym c.packet-packet.ensures.value in
    let own : (g.T.Protocol.lends c.self.inside.protocol) ≡ true → IsOwnAsk c.self.inside.port.end.state.pages.count c.self.inside.port.end.state.machine.side (is_open_in (g.T.Protocol.format c.self.inside.protocol) (g.T.Protocol.asks c.self.inside.protocol) c.self.inside.port.state.past) c.packet-packet.result.now = λ e. waits_own (g.T.Protocol.format c.self.inside.protocol) (g.T.Protocol.keeps c.self.inside.protocol) (g.T.Protocol.paged c.self.inside.protocol e) (g.T.Protocol.asks c.self.inside.protocol) _ l.live c.args.id at.0 c.packet-packet.result.now _ _ waits at.1 pk l.size (l.pages.enough e) (l.pages.guest e) in
    let is : along c.self.inside.port.end.state.pages c.packet-packet.result.now ≡ c.encode.new.self.lent = along_is (g.T.Protocol.lends c.self.inside.protocol) (length c.self.inside.table) c.self.inside.port.end.state c.encode.new.self c.packet-packet.result.now l.pages c.packet-packet.ensures.value c.encode.ensures.none c.encode.ensures.lent (λ e. ((own e).ask, (own e).inside)) in
    let made = sent_is said c.encode.new.self c.packet-packet.result.now c.page-words.result.now _ _ q c.packet-packet.ensures.value c.page-words.ensures.value is c.send.ensures.lays (λ j lays. c.encode.ensures.value at.0 j at.1 lays) in
    let past = past_is _ _ _ q made c.in-Sent.ensures.past in
    λ _. record {
      pages = pages_on (g.T.Protocol.lends c.self.inside.protocol) (length c.self.inside.table) c.send.ensures.stays.same l.pages;
      home = by_lends (g.T.Protocol.lends c.self.inside.protocol) (length c.self.inside.table) c.send.new.self.end.state _ (pages_on (g.T.Protocol.lends c.self.inside.protocol) (length c.self.inside.table) c.send.ensures.stays.same l.pages) (λ e. home_asked (g.T.Protocol.format c.self.inside.protocol) (g.T.Protocol.keeps c.self.inside.protocol) (g.T.Protocol.paged c.self.inside.protocol e) (g.T.Protocol.asks c.self.inside.protocol) _ l.live c.args.id at.0 c.packet-packet.result.now c.send.new.self.end.state _ waits at.1 pk (own e) past c.in-Sent.ensures.home l.home);
      live = sent_kept (g.T.Protocol.format c.self.inside.protocol) (g.T.Protocol.keeps c.self.inside.protocol) (g.T.Protocol.asks c.self.inside.protocol) _ _ c.args.id at.0 q at.1 waits refl past c.send.ensures.got.0 c.in-Sent.ensures.tries.awake (ap (λ w. w.seen) v ∙ c.requires.unseen) l.live;
      replies = omega (arith, l.replies, slice_get_within (g.T.Protocol.asks c.self.inside.protocol) c.self.inside.next at.0 at.1, ap pending waits);
      spare = l.spare;
      size = l.size;
      room = room_item _ q c.packet-packet.result.now _ _ pk c.packet-packet.ensures.most (got_same _ _ c.send.ensures.stays.same.pages c.send.ensures.got.0 c.send.ensures.got.1) c.send.ensures.stays.cells c.send.ensures.into past l.room;
      side = l.side ∙ sym c.send.ensures.stays.side;
    }

pub returns-in-Full-clause-asked : goal.returns-in-Full-clause-asked
returns-in-Full-clause-asked g c =
    let v = c.self.view_is in
    let l = c.self.invariant (ap (λ w. w.end.state.machine.marked) v ∙ c.requires.ready.unmarked) in
    let waits = ap (λ w. w.waiting) v ∙ c.requires.waits in
    let at = l.live.asked c.args.id waits in
    let said = g.T.Protocol.said in
    let q = (g.T.Protocol.format c.self.inside.protocol).encode c.args.id at.0 in
    let few : length c.encode.new.self.words ≤ c.encode.new.self.lent = omega (arith, ap length c.page-words.ensures.value, c.page-words.ensures.most.0) in
    let pk : q.packet ≡ c.packet-packet.result.now = packet_written said g.T.Protocol.said_packet c.encode.new.self q few (λ j lays. c.encode.ensures.value at.0 j at.1 lays) ∙ sym c.packet-packet.ensures.value in
    let made = sym pk ∙ ap (λ o. ((g.T.Protocol.format c.self.inside.protocol).encode (id_in o) at.0).packet) (sym waits) in
    (at.0, at.1, ap is_some waits ∙ sym at.2, c.need.ensures.value ∙ ap (λ p. 8 * length p + 8) (sym c.packet-packet.ensures.value ∙ made), c.need.ensures.most.0, c.need.ensures.most.1, ap (λ w. w.acked) v ∙ (c.requires.acked ∙ (ap (λ w. length w.end.state.got) (sym v) ∙ ap length (sym c.send.ensures.got.0))), subst (λ (x : List ℕ × Room × ℕ). (0 < x.1.packets) × (length x.0 + page_words x.2 1 ≤ x.1.words)) (λ i. (made i, sym (c.in-Full.ensures.unsent (λ h. cc)) i, sym c.send.ensures.stays.same.pages i)) c.in_default.ensures.lacks)

pub returns-in-Full-clause-tried : goal.returns-in-Full-clause-tried
returns-in-Full-clause-tried g c =
    let v = c.self.view_is in
    let l = c.self.invariant (ap (λ w. w.end.state.machine.marked) v ∙ c.requires.ready.unmarked) in
    let waits = ap (λ w. w.waiting) v ∙ c.requires.waits in
    let at = l.live.asked c.args.id waits in
    let said = g.T.Protocol.said in
    let q = (g.T.Protocol.format c.self.inside.protocol).encode c.args.id at.0 in
    let few : length c.encode.new.self.words ≤ c.encode.new.self.lent = omega (arith, ap length c.page-words.ensures.value, c.page-words.ensures.most.0) in
    let pk : q.packet ≡ c.packet-packet.result.now = packet_written said g.T.Protocol.said_packet c.encode.new.self q few (λ j lays. c.encode.ensures.value at.0 j at.1 lays) ∙ sym c.packet-packet.ensures.value in
    let own : (g.T.Protocol.lends c.self.inside.protocol) ≡ true → IsOwnAsk c.self.inside.port.end.state.pages.count c.self.inside.port.end.state.machine.side (is_open_in (g.T.Protocol.format c.self.inside.protocol) (g.T.Protocol.asks c.self.inside.protocol) c.self.inside.port.state.past) c.packet-packet.result.now = λ e. waits_own (g.T.Protocol.format c.self.inside.protocol) (g.T.Protocol.keeps c.self.inside.protocol) (g.T.Protocol.paged c.self.inside.protocol e) (g.T.Protocol.asks c.self.inside.protocol) _ l.live c.args.id at.0 c.packet-packet.result.now _ _ waits at.1 pk l.size (l.pages.enough e) (l.pages.guest e) in
    let is : along c.self.inside.port.end.state.pages c.packet-packet.result.now ≡ c.encode.new.self.lent = along_is (g.T.Protocol.lends c.self.inside.protocol) (length c.self.inside.table) c.self.inside.port.end.state c.encode.new.self c.packet-packet.result.now l.pages c.packet-packet.ensures.value c.encode.ensures.none c.encode.ensures.lent (λ e. ((own e).ask, (own e).inside)) in
    let made = sym pk ∙ ap (λ o. ((g.T.Protocol.format c.self.inside.protocol).encode (id_in o) at.0).packet) (sym waits) in
    let told = g.S.Seatlike.told in
    let tale = g.S.Seatlike.tale in
    let e = c.send.new.self in
    let full : FoundFull told tale c.packet-packet.result.now c.self.inside.port.end e.end = record { words = c.page-words.result.now; bare = λ z. nil_by c.page-words.result.now (omega (arith, c.page-words.ensures.most.0, is, none_along c.self.inside.port.end.state.pages c.packet-packet.result.now z)); tried = c.send.ensures.tried; full = c.in-Full.ensures.full refl } in
    let p = ((g.T.Protocol.format c.self.inside.protocol).encode (id_in c.self.inside.waiting) at.0).packet in
    (at.0, at.1, subst (λ w. FoundFull told tale p w.end.end e.end) v (subst (λ q. FoundFull told tale q c.self.inside.port.end e.end) made full))

pub returns-in-Some-clause-asked : goal.returns-in-Some-clause-asked
returns-in-Some-clause-asked g c =
    let v = c.self.view_is in
    let l = c.self.invariant (ap (λ w. w.end.state.machine.marked) v ∙ c.requires.ready.unmarked) in
    let waits = ap (λ w. w.waiting) v ∙ c.requires.waits in
    let at = l.live.asked c.args.id waits in
    let said = g.T.Protocol.said in
    let q = (g.T.Protocol.format c.self.inside.protocol).encode c.args.id at.0 in
    let few : length c.encode.new.self.words ≤ c.encode.new.self.lent = omega (arith, ap length c.page-words.ensures.value, c.page-words.ensures.most.0) in
    let pk : q.packet ≡ c.packet-packet.result.now = packet_written said g.T.Protocol.said_packet c.encode.new.self q few (λ j lays. c.encode.ensures.value at.0 j at.1 lays) ∙ sym c.packet-packet.ensures.value in
    let made = sym pk ∙ ap (λ o. ((g.T.Protocol.format c.self.inside.protocol).encode (id_in o) at.0).packet) (sym waits) in
    (inr (at.0, at.1, ap is_some waits ∙ sym at.2, subst (λ p. LacksSendOf c.in-Some.room.packets c.in-Some.room.words p c.self.inside.port) made c.in-Some.ensures.lacks), c.in-Some.ensures.got)

pub send-requires-clause-lays : goal.send-requires-clause-lays
send-requires-clause-lays g c =
    let v = c.self.view_is in
    let l = c.self.invariant (ap (λ w. w.end.state.machine.marked) v ∙ c.requires.ready.unmarked) in
    let waits = ap (λ w. w.waiting) v ∙ c.requires.waits in
    let at = l.live.asked c.args.id waits in
    let said = g.T.Protocol.said in
    let q = (g.T.Protocol.format c.self.inside.protocol).encode c.args.id at.0 in
    let few : length c.encode.new.self.words ≤ c.encode.new.self.lent = omega (arith, ap length c.page-words.ensures.value, c.page-words.ensures.most.0) in
    let pk : q.packet ≡ c.packet-packet.result.now = packet_written said g.T.Protocol.said_packet c.encode.new.self q few (λ j lays. c.encode.ensures.value at.0 j at.1 lays) ∙ sym c.packet-packet.ensures.value in
    let own : (g.T.Protocol.lends c.self.inside.protocol) ≡ true → IsOwnAsk c.self.inside.port.end.state.pages.count c.self.inside.port.end.state.machine.side (is_open_in (g.T.Protocol.format c.self.inside.protocol) (g.T.Protocol.asks c.self.inside.protocol) c.self.inside.port.state.past) c.packet-packet.result.now = λ e. waits_own (g.T.Protocol.format c.self.inside.protocol) (g.T.Protocol.keeps c.self.inside.protocol) (g.T.Protocol.paged c.self.inside.protocol e) (g.T.Protocol.asks c.self.inside.protocol) _ l.live c.args.id at.0 c.packet-packet.result.now _ _ waits at.1 pk l.size (l.pages.enough e) (l.pages.guest e) in
    let is : along c.self.inside.port.end.state.pages c.packet-packet.result.now ≡ c.encode.new.self.lent = along_is (g.T.Protocol.lends c.self.inside.protocol) (length c.self.inside.table) c.self.inside.port.end.state c.encode.new.self c.packet-packet.result.now l.pages c.packet-packet.ensures.value c.encode.ensures.none c.encode.ensures.lent (λ e. ((own e).ask, (own e).inside)) in
    can_lay c.self.inside.port.end (g.T.Protocol.lends c.self.inside.protocol) (length c.self.inside.table) c.packet-packet.result.now c.page-words.result.now c.encode.new.self.lent l.pages is c.page-words.ensures.most.0 (λ e. c.lends_what_is_closed.ensures (is_open_in (g.T.Protocol.format c.self.inside.protocol) (g.T.Protocol.asks c.self.inside.protocol) c.self.inside.port.state.past) c.packet-packet.result.now l.home (own e).ask (own e).closed (own e).own)

pub encode-requires-clause-id : goal.encode-requires-clause-id
encode-requires-clause-id g c =
    let v = c.self.view_is in
    let l = c.self.invariant (ap (λ w. w.end.state.machine.marked) v ∙ c.requires.ready.unmarked) in
    λ _. omega (arith, waits_within (g.T.Protocol.format c.self.inside.protocol) (g.T.Protocol.keeps c.self.inside.protocol) (g.T.Protocol.asks c.self.inside.protocol) _ l.live c.args.id (ap (λ w. w.waiting) v ∙ c.requires.waits), l.size)

pub invariant_of-self-in-Full : goal.invariant_of-self-in-Full
invariant_of-self-in-Full g c =
    let v = c.self.view_is in
    let l = c.self.invariant (ap (λ w. w.end.state.machine.marked) v ∙ c.requires.ready.unmarked) in
    let waits = ap (λ w. w.waiting) v ∙ c.requires.waits in
    let at = l.live.asked c.args.id waits in
    let said = g.T.Protocol.said in
    let q = (g.T.Protocol.format c.self.inside.protocol).encode c.args.id at.0 in
    let few : length c.encode.new.self.words ≤ c.encode.new.self.lent = omega (arith, ap length c.page-words.ensures.value, c.page-words.ensures.most.0) in
    let pk : q.packet ≡ c.packet-packet.result.now = packet_written said g.T.Protocol.said_packet c.encode.new.self q few (λ j lays. c.encode.ensures.value at.0 j at.1 lays) ∙ sym c.packet-packet.ensures.value in
    let own : (g.T.Protocol.lends c.self.inside.protocol) ≡ true → IsOwnAsk c.self.inside.port.end.state.pages.count c.self.inside.port.end.state.machine.side (is_open_in (g.T.Protocol.format c.self.inside.protocol) (g.T.Protocol.asks c.self.inside.protocol) c.self.inside.port.state.past) c.packet-packet.result.now = λ e. waits_own (g.T.Protocol.format c.self.inside.protocol) (g.T.Protocol.keeps c.self.inside.protocol) (g.T.Protocol.paged c.self.inside.protocol e) (g.T.Protocol.asks c.self.inside.protocol) _ l.live c.args.id at.0 c.packet-packet.result.now _ _ waits at.1 pk l.size (l.pages.enough e) (l.pages.guest e) in
    let is : along c.self.inside.port.end.state.pages c.packet-packet.result.now ≡ c.encode.new.self.lent = along_is (g.T.Protocol.lends c.self.inside.protocol) (length c.self.inside.table) c.self.inside.port.end.state c.encode.new.self c.packet-packet.result.now l.pages c.packet-packet.ensures.value c.encode.ensures.none c.encode.ensures.lent (λ e. ((own e).ask, (own e).inside)) in
    λ _. record {
      pages = pages_on (g.T.Protocol.lends c.self.inside.protocol) (length c.self.inside.table) c.send.ensures.stays.same l.pages;
      home = by_lends (g.T.Protocol.lends c.self.inside.protocol) (length c.self.inside.table) c.send.new.self.end.state _ (pages_on (g.T.Protocol.lends c.self.inside.protocol) (length c.self.inside.table) c.send.ensures.stays.same l.pages) (λ e. home_left (g.T.Protocol.format c.self.inside.protocol) (g.T.Protocol.asks c.self.inside.protocol) c.self.inside.port.state.past _ c.send.new.self.end.state c.in-Full.ensures.past ((c.in-Full.ensures.home).asks (is_open_in (g.T.Protocol.format c.self.inside.protocol) (g.T.Protocol.asks c.self.inside.protocol) c.self.inside.port.state.past) (own e).ask (own e).closed (own e).own l.home));
      live = tried_kept (g.T.Protocol.format c.self.inside.protocol) (g.T.Protocol.keeps c.self.inside.protocol) (g.T.Protocol.asks c.self.inside.protocol) _ _ c.in-Full.ensures.past c.send.ensures.got.0 c.in-Full.ensures.tries.awake l.live;
      replies = l.replies;
      spare = l.spare;
      size = l.size;
      room = room_quiet _ _ _ (got_same _ _ c.send.ensures.stays.same.pages c.send.ensures.got.0 c.send.ensures.got.1) c.send.ensures.stays.cells (c.in-Full.ensures.unsent (λ h. cc)) (ap sent_of c.in-Full.ensures.past) l.room;
      side = l.side ∙ sym c.send.ensures.stays.side;
    }

pub invariant_of-self-in-Broken : goal.invariant_of-self-in-Broken
invariant_of-self-in-Broken g c =
    let v = c.self.view_is in
    let l = c.self.invariant (ap (λ w. w.end.state.machine.marked) v ∙ c.requires.ready.unmarked) in
    let waits = ap (λ w. w.waiting) v ∙ c.requires.waits in
    let at = l.live.asked c.args.id waits in
    let said = g.T.Protocol.said in
    let q = (g.T.Protocol.format c.self.inside.protocol).encode c.args.id at.0 in
    let few : length c.encode.new.self.words ≤ c.encode.new.self.lent = omega (arith, ap length c.page-words.ensures.value, c.page-words.ensures.most.0) in
    let pk : q.packet ≡ c.packet-packet.result.now = packet_written said g.T.Protocol.said_packet c.encode.new.self q few (λ j lays. c.encode.ensures.value at.0 j at.1 lays) ∙ sym c.packet-packet.ensures.value in
    let own : (g.T.Protocol.lends c.self.inside.protocol) ≡ true → IsOwnAsk c.self.inside.port.end.state.pages.count c.self.inside.port.end.state.machine.side (is_open_in (g.T.Protocol.format c.self.inside.protocol) (g.T.Protocol.asks c.self.inside.protocol) c.self.inside.port.state.past) c.packet-packet.result.now = λ e. waits_own (g.T.Protocol.format c.self.inside.protocol) (g.T.Protocol.keeps c.self.inside.protocol) (g.T.Protocol.paged c.self.inside.protocol e) (g.T.Protocol.asks c.self.inside.protocol) _ l.live c.args.id at.0 c.packet-packet.result.now _ _ waits at.1 pk l.size (l.pages.enough e) (l.pages.guest e) in
    let is : along c.self.inside.port.end.state.pages c.packet-packet.result.now ≡ c.encode.new.self.lent = along_is (g.T.Protocol.lends c.self.inside.protocol) (length c.self.inside.table) c.self.inside.port.end.state c.encode.new.self c.packet-packet.result.now l.pages c.packet-packet.ensures.value c.encode.ensures.none c.encode.ensures.lent (λ e. ((own e).ask, (own e).inside)) in
    λ _. record {
      pages = pages_on (g.T.Protocol.lends c.self.inside.protocol) (length c.self.inside.table) c.send.ensures.stays.same l.pages;
      home = by_lends (g.T.Protocol.lends c.self.inside.protocol) (length c.self.inside.table) c.send.new.self.end.state _ (pages_on (g.T.Protocol.lends c.self.inside.protocol) (length c.self.inside.table) c.send.ensures.stays.same l.pages) (λ e. home_left (g.T.Protocol.format c.self.inside.protocol) (g.T.Protocol.asks c.self.inside.protocol) c.self.inside.port.state.past _ c.send.new.self.end.state c.in-Broken.ensures.past ((c.in-Broken.ensures.home).asks (is_open_in (g.T.Protocol.format c.self.inside.protocol) (g.T.Protocol.asks c.self.inside.protocol) c.self.inside.port.state.past) (own e).ask (own e).closed (own e).own l.home));
      live = tried_kept (g.T.Protocol.format c.self.inside.protocol) (g.T.Protocol.keeps c.self.inside.protocol) (g.T.Protocol.asks c.self.inside.protocol) _ _ c.in-Broken.ensures.past c.send.ensures.got.0 c.in-Broken.ensures.tries.awake l.live;
      replies = l.replies;
      spare = l.spare;
      size = l.size;
      room = room_quiet _ _ _ (got_same _ _ c.send.ensures.stays.same.pages c.send.ensures.got.0 c.send.ensures.got.1) c.send.ensures.stays.cells (c.in-Broken.ensures.unsent (λ h. cc)) (ap sent_of c.in-Broken.ensures.past) l.room;
      side = l.side ∙ sym c.send.ensures.stays.side;
    }
