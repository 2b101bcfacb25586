use Rattle.std.proofs.Common.{◌≡◌, [], refl, ◌+◌, ◌*◌, ◌<◌, ◌≤◌, ℕ, List, ap, ◌∙◌, length, sym, subst, arith, inl}
use Rattle.std.specs.Prelude.{slice_get, ◌==◌}
use Rattle.page_kept.specs.declared.item.Item.{Item}
use Rattle.page_kept.specs.Items.{item_of}
use Rattle.worker_port.specs.Line.{page_words, words_at}
use Rattle.worker_port.proofs.ItemSteps.{past_is, room_item}
use Rattle.worker_port.proofs.RoomLaws.{got_same}
use Rattle.ring_core.specs.declared.room.Room.{Room}
use Rattle.worker_port.specs.Tries.{FoundFull}
use Rattle.worker_requester.specs.Asking.{AckFull, HasMessage}
use Rattle.worker_requester.proofs.AskSteps.{ack_full, acked_kept, leaves_full, message_here}
use Rattle.channel_trace.specs.Runs.{sent_of}
use Rattle.worker_port.proofs.RoomLaws.{room_quiet}
use Rattle.worker_requester.proofs.AskSteps.{tried_kept}
use Rattle.pkt_desc.specs.Packets.{kind_of}
use Rattle.worker_requester.specs.Asking.{is_open_in}
use Rattle.worker_requester.proofs.HomeSteps.{ack_lends, ack_made, by_lends, home_acked, home_left, may_by, pages_on}
use Rattle.worker_port.specs.Owed.{LacksSendOf}
use Rattle.worker_requester.proofs.requester.Requester.acknowledge.Goals as goal

pub invariant_of-self-in-Sent : goal.invariant_of-self-in-Sent
invariant_of-self-in-Sent g c =
    let v = c.self.view_is in
    let l = c.self.invariant (ap (λ w. w.end.state.machine.marked) v ∙ c.requires.ready.unmarked) in
    let m = subst (λ w. HasMessage (g.T.Protocol.format w.protocol) w) (sym v) c.requires.message in
    let is = message_here (g.T.Protocol.format c.self.inside.protocol) c.self.inside.port.state.got c.self.inside.acked m.0 (g.T.Protocol.said (item_of c.got.result.now (words_at c.self.inside.port.end.state.pages.got c.self.inside.acked))) m.1 m.2 c.got.ensures.value in
    let said = g.T.Protocol.said in
    let q = (g.T.Protocol.format c.self.inside.protocol).ack (g.T.Protocol.said (item_of c.got.result.now (words_at c.self.inside.port.end.state.pages.got c.self.inside.acked))) in
    let value = c.write_ack.ensures.value (g.T.Protocol.said (item_of c.got.result.now (words_at c.self.inside.port.end.state.pages.got c.self.inside.acked))) (g.T.Protocol.said_packet (item_of c.got.result.now (words_at c.self.inside.port.end.state.pages.got c.self.inside.acked))) is in
    let item = ap (λ w. item_of w []) c.packet-packet.ensures.value ∙ value in
    let made = ack_made said g.T.Protocol.said_bare (g.T.Protocol.lends c.self.inside.protocol) (length c.self.inside.table) c.self.inside.port.end.state c.packet-packet.result.now _ q l.pages c.send.ensures.bare item (λ e. c.write_ack.ensures.back e (said (item_of c.got.result.now (words_at c.self.inside.port.end.state.pages.got c.self.inside.acked))) _ (g.T.Protocol.said_packet (item_of c.got.result.now (words_at c.self.inside.port.end.state.pages.got c.self.inside.acked))) is (c.send.ensures.lays.packet_is ∙ c.packet-packet.ensures.value)) in
    let pk = ap (λ x. x.packet) (sym item) in
    let past = past_is _ _ _ q made c.in-Sent.ensures.past in
    λ _. record {
      pages = pages_on (g.T.Protocol.lends c.self.inside.protocol) (length c.self.inside.table) c.send.ensures.stays.same l.pages;
      home = by_lends (g.T.Protocol.lends c.self.inside.protocol) (length c.self.inside.table) c.send.new.self.end.state _ (pages_on (g.T.Protocol.lends c.self.inside.protocol) (length c.self.inside.table) c.send.ensures.stays.same l.pages) (λ e. home_acked (g.T.Protocol.format c.self.inside.protocol) (g.T.Protocol.keeps c.self.inside.protocol) (g.T.Protocol.paged c.self.inside.protocol e) (g.T.Protocol.asks c.self.inside.protocol) _ l.live (said (item_of c.got.result.now (words_at c.self.inside.port.end.state.pages.got c.self.inside.acked))) c.packet-packet.result.now c.send.new.self.end.state _ is pk past c.in-Sent.ensures.home l.home);
      live = acked_kept (g.T.Protocol.format c.self.inside.protocol) (g.T.Protocol.keeps c.self.inside.protocol) (g.T.Protocol.asks c.self.inside.protocol) _ _ (g.T.Protocol.said (item_of c.got.result.now (words_at c.self.inside.port.end.state.pages.got c.self.inside.acked))) q c.got.ensures.value is refl past c.send.ensures.got.0 c.in-Sent.ensures.tries.awake l.live;
      replies = l.replies;
      spare = l.spare;
      size = l.size;
      room = room_item _ q c.packet-packet.result.now _ _ pk c.packet-packet.ensures.most (got_same _ _ c.send.ensures.stays.same.pages c.send.ensures.got.0 c.send.ensures.got.1) c.send.ensures.stays.cells c.send.ensures.into past l.room;
      side = l.side ∙ sym c.send.ensures.stays.side;
    }

pub returns-in-Full-clause-asked : goal.returns-in-Full-clause-asked
returns-in-Full-clause-asked g c =
    let v = c.self.view_is in
    let l = c.self.invariant (ap (λ w. w.end.state.machine.marked) v ∙ c.requires.ready.unmarked) in
    let m = subst (λ w. HasMessage (g.T.Protocol.format w.protocol) w) (sym v) c.requires.message in
    let is = message_here (g.T.Protocol.format c.self.inside.protocol) c.self.inside.port.state.got c.self.inside.acked m.0 (g.T.Protocol.said (item_of c.got.result.now (words_at c.self.inside.port.end.state.pages.got c.self.inside.acked))) m.1 m.2 c.got.ensures.value in
    let said = g.T.Protocol.said in
    let q = (g.T.Protocol.format c.self.inside.protocol).ack (g.T.Protocol.said (item_of c.got.result.now (words_at c.self.inside.port.end.state.pages.got c.self.inside.acked))) in
    let value = c.write_ack.ensures.value (g.T.Protocol.said (item_of c.got.result.now (words_at c.self.inside.port.end.state.pages.got c.self.inside.acked))) (g.T.Protocol.said_packet (item_of c.got.result.now (words_at c.self.inside.port.end.state.pages.got c.self.inside.acked))) is in
    let made = c.packet-packet.ensures.value ∙ ap (λ (x : Item). x.packet) value in
    ((g.T.Protocol.said (item_of c.got.result.now (words_at c.self.inside.port.end.state.pages.got c.self.inside.acked))), ap (λ l. slice_get l c.self.inside.acked) c.send.ensures.got.0 ∙ c.got.ensures.value, is, c.need.ensures.value ∙ ap (λ (x : Item). 8 * length x.packet + 8) value, c.need.ensures.most.0, c.need.ensures.most.1, subst (λ (x : List ℕ × Room × ℕ). (0 < x.1.packets) × (length x.0 + page_words x.2 1 ≤ x.1.words)) (λ i. (made i, sym (c.in-Full.ensures.unsent (λ h. cc)) i, sym c.send.ensures.stays.same.pages i)) c.in_default.ensures.lacks)

pub returns-in-Full-clause-left : goal.returns-in-Full-clause-left
returns-in-Full-clause-left g c =
    let v = c.self.view_is in
    let l = c.self.invariant (ap (λ w. w.end.state.machine.marked) v ∙ c.requires.ready.unmarked) in
    let m = subst (λ w. HasMessage (g.T.Protocol.format w.protocol) w) (sym v) c.requires.message in
    let i = g.T.Protocol.said (item_of c.got.result.now (words_at c.self.inside.port.end.state.pages.got c.self.inside.acked)) in
    let is = message_here (g.T.Protocol.format c.self.inside.protocol) c.self.inside.port.state.got c.self.inside.acked m.0 i m.1 m.2 c.got.ensures.value in
    let value = c.write_ack.ensures.value i (g.T.Protocol.said_packet (item_of c.got.result.now (words_at c.self.inside.port.end.state.pages.got c.self.inside.acked))) is in
    let made = c.packet-packet.ensures.value ∙ ap (λ (x : Item). x.packet) value in
    let e = c.send.new.self in
    leaves_full (g.T.Protocol.format c.self.inside.protocol) (g.T.Protocol.asks c.self.inside.protocol) _ e i c.got.ensures.value is c.in-Full.ensures.past
    (subst (λ (p : List ℕ). (e.state.machine.room ≤ length p + 1) × (e.state.machine.words ≡ length p)) made (c.in-Full.ensures.found refl)) l.live

pub returns-in-Full-clause-full : goal.returns-in-Full-clause-full
returns-in-Full-clause-full g c =
    let v = c.self.view_is in
    let told = g.S.Seatlike.told in
    let tale = g.S.Seatlike.tale in
    let s = g.T.Protocol.format c.self.inside.protocol in
    let l = c.self.invariant (ap (λ w. w.end.state.machine.marked) v ∙ c.requires.ready.unmarked) in
    let m = subst (λ w. HasMessage (g.T.Protocol.format w.protocol) w) (sym v) c.requires.message in
    let i = g.T.Protocol.said (item_of c.got.result.now (words_at c.self.inside.port.end.state.pages.got c.self.inside.acked)) in
    let is = message_here s c.self.inside.port.state.got c.self.inside.acked m.0 i m.1 m.2 c.got.ensures.value in
    let value = c.write_ack.ensures.value i (g.T.Protocol.said_packet (item_of c.got.result.now (words_at c.self.inside.port.end.state.pages.got c.self.inside.acked))) is in
    let made = c.packet-packet.ensures.value ∙ ap (λ (x : Item). x.packet) value in
    let e = c.send.new.self in
    let full : FoundFull told tale c.packet-packet.result.now c.self.inside.port.end e.end = record { words = []; bare = λ _. refl; tried = c.send.ensures.tried; full = c.in-Full.ensures.full refl } in
    subst (λ w. AckFull told tale s w.end.end e) v (ack_full s (g.T.Protocol.asks c.self.inside.protocol) _ told tale e i c.got.ensures.value is c.in-Full.ensures.past (subst (λ p. FoundFull told tale p c.self.inside.port.end e.end) made full) l.live)

pub returns-in-Full-clause-tried : goal.returns-in-Full-clause-tried
returns-in-Full-clause-tried g c =
    let v = c.self.view_is in
    let l = c.self.invariant (ap (λ w. w.end.state.machine.marked) v ∙ c.requires.ready.unmarked) in
    let told = g.S.Seatlike.told in
    let tale = g.S.Seatlike.tale in
    let s = g.T.Protocol.format c.self.inside.protocol in
    let m = subst (λ w. HasMessage (g.T.Protocol.format w.protocol) w) (sym v) c.requires.message in
    let i = g.T.Protocol.said (item_of c.got.result.now (words_at c.self.inside.port.end.state.pages.got c.self.inside.acked)) in
    let is = message_here s c.self.inside.port.state.got c.self.inside.acked m.0 i m.1 m.2 c.got.ensures.value in
    let value = c.write_ack.ensures.value i (g.T.Protocol.said_packet (item_of c.got.result.now (words_at c.self.inside.port.end.state.pages.got c.self.inside.acked))) is in
    let made = c.packet-packet.ensures.value ∙ ap (λ (x : Item). x.packet) value in
    let e = c.send.new.self in
    let full : FoundFull told tale c.packet-packet.result.now c.self.inside.port.end e.end = record { words = []; bare = λ _. refl; tried = c.send.ensures.tried; full = c.in-Full.ensures.full refl } in
    (i, ap (λ l. slice_get l c.self.inside.acked) c.send.ensures.got.0 ∙ c.got.ensures.value, subst (λ w. FoundFull told tale (s.ack i).packet w.end.end e.end) v (subst (λ p. FoundFull told tale p c.self.inside.port.end e.end) made full))

pub write_ack-requires-clause-message : goal.write_ack-requires-clause-message
write_ack-requires-clause-message g c =
    let v = c.self.view_is in
    let l = c.self.invariant (ap (λ w. w.end.state.machine.marked) v ∙ c.requires.ready.unmarked) in
    let m = subst (λ w. HasMessage (g.T.Protocol.format w.protocol) w) (sym v) c.requires.message in
    ((g.T.Protocol.said (item_of c.got.result.now (words_at c.self.inside.port.end.state.pages.got c.self.inside.acked))), g.T.Protocol.said_packet (item_of c.got.result.now (words_at c.self.inside.port.end.state.pages.got c.self.inside.acked)), message_here (g.T.Protocol.format c.self.inside.protocol) c.self.inside.port.state.got c.self.inside.acked m.0 (g.T.Protocol.said (item_of c.got.result.now (words_at c.self.inside.port.end.state.pages.got c.self.inside.acked))) m.1 m.2 c.got.ensures.value)

pub send-requires-clause-lays : goal.send-requires-clause-lays
send-requires-clause-lays g c =
    let v = c.self.view_is in
    let l = c.self.invariant (ap (λ w. w.end.state.machine.marked) v ∙ c.requires.ready.unmarked) in
    let m = subst (λ w. HasMessage (g.T.Protocol.format w.protocol) w) (sym v) c.requires.message in
    let is = message_here (g.T.Protocol.format c.self.inside.protocol) c.self.inside.port.state.got c.self.inside.acked m.0 (g.T.Protocol.said (item_of c.got.result.now (words_at c.self.inside.port.end.state.pages.got c.self.inside.acked))) m.1 m.2 c.got.ensures.value in
    let said = g.T.Protocol.said in
    let q = (g.T.Protocol.format c.self.inside.protocol).ack (g.T.Protocol.said (item_of c.got.result.now (words_at c.self.inside.port.end.state.pages.got c.self.inside.acked))) in
    let value = c.write_ack.ensures.value (g.T.Protocol.said (item_of c.got.result.now (words_at c.self.inside.port.end.state.pages.got c.self.inside.acked))) (g.T.Protocol.said_packet (item_of c.got.result.now (words_at c.self.inside.port.end.state.pages.got c.self.inside.acked))) is in
    let item = ap (λ w. item_of w []) c.packet-packet.ensures.value ∙ value in
    let pk = ap (λ x. x.packet) (sym item) in
    let p = c.stands_on_pages.ensures in
    record { may = may_by (g.T.Protocol.lends c.self.inside.protocol) (length c.self.inside.table) c.self.inside.port.end.state c.packet-packet.result.now l.pages (λ e. ack_lends (g.T.Protocol.format c.self.inside.protocol) (g.T.Protocol.keeps c.self.inside.protocol) (g.T.Protocol.paged c.self.inside.protocol e) (g.T.Protocol.asks c.self.inside.protocol) _ l.live said g.T.Protocol.said_packet p.clear p.items p.read (said (item_of c.got.result.now (words_at c.self.inside.port.end.state.pages.got c.self.inside.acked))) c.packet-packet.result.now c.got.ensures.value is pk); fits = omega arith }

pub invariant_of-self-in-Full : goal.invariant_of-self-in-Full
invariant_of-self-in-Full g c =
    let v = c.self.view_is in
    let l = c.self.invariant (ap (λ w. w.end.state.machine.marked) v ∙ c.requires.ready.unmarked) in
    let m = subst (λ w. HasMessage (g.T.Protocol.format w.protocol) w) (sym v) c.requires.message in
    let is = message_here (g.T.Protocol.format c.self.inside.protocol) c.self.inside.port.state.got c.self.inside.acked m.0 (g.T.Protocol.said (item_of c.got.result.now (words_at c.self.inside.port.end.state.pages.got c.self.inside.acked))) m.1 m.2 c.got.ensures.value in
    let said = g.T.Protocol.said in
    let q = (g.T.Protocol.format c.self.inside.protocol).ack (g.T.Protocol.said (item_of c.got.result.now (words_at c.self.inside.port.end.state.pages.got c.self.inside.acked))) in
    let value = c.write_ack.ensures.value (g.T.Protocol.said (item_of c.got.result.now (words_at c.self.inside.port.end.state.pages.got c.self.inside.acked))) (g.T.Protocol.said_packet (item_of c.got.result.now (words_at c.self.inside.port.end.state.pages.got c.self.inside.acked))) is in
    let item = ap (λ w. item_of w []) c.packet-packet.ensures.value ∙ value in
    let pk = ap (λ x. x.packet) (sym item) in
    λ _. record {
      pages = pages_on (g.T.Protocol.lends c.self.inside.protocol) (length c.self.inside.table) c.send.ensures.stays.same l.pages;
      home = by_lends (g.T.Protocol.lends c.self.inside.protocol) (length c.self.inside.table) c.send.new.self.end.state _ (pages_on (g.T.Protocol.lends c.self.inside.protocol) (length c.self.inside.table) c.send.ensures.stays.same l.pages) (λ e. home_left (g.T.Protocol.format c.self.inside.protocol) (g.T.Protocol.asks c.self.inside.protocol) c.self.inside.port.state.past _ c.send.new.self.end.state c.in-Full.ensures.past ((c.in-Full.ensures.home).ends (is_open_in (g.T.Protocol.format c.self.inside.protocol) (g.T.Protocol.asks c.self.inside.protocol) c.self.inside.port.state.past) (ap (λ r. kind_of r == 11) (sym pk) ∙ (g.T.Protocol.paged c.self.inside.protocol e).acks q ((g.T.Protocol.keeps c.self.inside.protocol).acks (said (item_of c.got.result.now (words_at c.self.inside.port.end.state.pages.got c.self.inside.acked))) is).0) l.home));
      live = tried_kept (g.T.Protocol.format c.self.inside.protocol) (g.T.Protocol.keeps c.self.inside.protocol) (g.T.Protocol.asks c.self.inside.protocol) _ _ c.in-Full.ensures.past c.send.ensures.got.0 c.in-Full.ensures.tries.awake l.live;
      replies = l.replies;
      spare = l.spare;
      size = l.size;
      room = room_quiet _ _ _ (got_same _ _ c.send.ensures.stays.same.pages c.send.ensures.got.0 c.send.ensures.got.1) c.send.ensures.stays.cells (c.in-Full.ensures.unsent (λ h. cc)) (ap sent_of c.in-Full.ensures.past) l.room;
      side = l.side ∙ sym c.send.ensures.stays.side;
    }

pub invariant_of-self-in-Broken : goal.invariant_of-self-in-Broken
invariant_of-self-in-Broken g c =
    let v = c.self.view_is in
    let l = c.self.invariant (ap (λ w. w.end.state.machine.marked) v ∙ c.requires.ready.unmarked) in
    let m = subst (λ w. HasMessage (g.T.Protocol.format w.protocol) w) (sym v) c.requires.message in
    let is = message_here (g.T.Protocol.format c.self.inside.protocol) c.self.inside.port.state.got c.self.inside.acked m.0 (g.T.Protocol.said (item_of c.got.result.now (words_at c.self.inside.port.end.state.pages.got c.self.inside.acked))) m.1 m.2 c.got.ensures.value in
    let said = g.T.Protocol.said in
    let q = (g.T.Protocol.format c.self.inside.protocol).ack (g.T.Protocol.said (item_of c.got.result.now (words_at c.self.inside.port.end.state.pages.got c.self.inside.acked))) in
    let value = c.write_ack.ensures.value (g.T.Protocol.said (item_of c.got.result.now (words_at c.self.inside.port.end.state.pages.got c.self.inside.acked))) (g.T.Protocol.said_packet (item_of c.got.result.now (words_at c.self.inside.port.end.state.pages.got c.self.inside.acked))) is in
    let item = ap (λ w. item_of w []) c.packet-packet.ensures.value ∙ value in
    let pk = ap (λ x. x.packet) (sym item) in
    λ _. record {
      pages = pages_on (g.T.Protocol.lends c.self.inside.protocol) (length c.self.inside.table) c.send.ensures.stays.same l.pages;
      home = by_lends (g.T.Protocol.lends c.self.inside.protocol) (length c.self.inside.table) c.send.new.self.end.state _ (pages_on (g.T.Protocol.lends c.self.inside.protocol) (length c.self.inside.table) c.send.ensures.stays.same l.pages) (λ e. home_left (g.T.Protocol.format c.self.inside.protocol) (g.T.Protocol.asks c.self.inside.protocol) c.self.inside.port.state.past _ c.send.new.self.end.state c.in-Broken.ensures.past ((c.in-Broken.ensures.home).ends (is_open_in (g.T.Protocol.format c.self.inside.protocol) (g.T.Protocol.asks c.self.inside.protocol) c.self.inside.port.state.past) (ap (λ r. kind_of r == 11) (sym pk) ∙ (g.T.Protocol.paged c.self.inside.protocol e).acks q ((g.T.Protocol.keeps c.self.inside.protocol).acks (said (item_of c.got.result.now (words_at c.self.inside.port.end.state.pages.got c.self.inside.acked))) is).0) l.home));
      live = tried_kept (g.T.Protocol.format c.self.inside.protocol) (g.T.Protocol.keeps c.self.inside.protocol) (g.T.Protocol.asks c.self.inside.protocol) _ _ c.in-Broken.ensures.past c.send.ensures.got.0 c.in-Broken.ensures.tries.awake l.live;
      replies = l.replies;
      spare = l.spare;
      size = l.size;
      room = room_quiet _ _ _ (got_same _ _ c.send.ensures.stays.same.pages c.send.ensures.got.0 c.send.ensures.got.1) c.send.ensures.stays.cells (c.in-Broken.ensures.unsent (λ h. cc)) (ap sent_of c.in-Broken.ensures.past) l.room;
      side = l.side ∙ sym c.send.ensures.stays.side;
    }

pub returns-in-Some-clause-asked : goal.returns-in-Some-clause-asked
returns-in-Some-clause-asked g c =
    let v = c.self.view_is in
    let l = c.self.invariant (ap (λ w. w.end.state.machine.marked) v ∙ c.requires.ready.unmarked) in
    let m = subst (λ w. HasMessage (g.T.Protocol.format w.protocol) w) (sym v) c.requires.message in
    let is = message_here (g.T.Protocol.format c.self.inside.protocol) c.self.inside.port.state.got c.self.inside.acked m.0 (g.T.Protocol.said (item_of c.got.result.now (words_at c.self.inside.port.end.state.pages.got c.self.inside.acked))) m.1 m.2 c.got.ensures.value in
    let said = g.T.Protocol.said in
    let q = (g.T.Protocol.format c.self.inside.protocol).ack (g.T.Protocol.said (item_of c.got.result.now (words_at c.self.inside.port.end.state.pages.got c.self.inside.acked))) in
    let value = c.write_ack.ensures.value (g.T.Protocol.said (item_of c.got.result.now (words_at c.self.inside.port.end.state.pages.got c.self.inside.acked))) (g.T.Protocol.said_packet (item_of c.got.result.now (words_at c.self.inside.port.end.state.pages.got c.self.inside.acked))) is in
    let item = ap (λ w. item_of w []) c.packet-packet.ensures.value ∙ value in
    let pk = ap (λ x. x.packet) (sym item) in
    (inl (said (item_of c.got.result.now (words_at c.self.inside.port.end.state.pages.got c.self.inside.acked)), c.got.ensures.value, is, subst (λ p. LacksSendOf c.in-Some.room.packets c.in-Some.room.words p c.self.inside.port) (sym pk) c.in-Some.ensures.lacks), c.in-Some.ensures.got)
