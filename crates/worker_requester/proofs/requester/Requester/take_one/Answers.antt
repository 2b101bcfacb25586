use Rattle.std.proofs.Common.{◌++◌, refl, ap, sym, ◌∙◌, arith, None, length, subst}
use Rattle.std.specs.Prelude.{if◌then◌else◌, ◌==◌}
use Rattle.page_kept.specs.Items.{item_of}
use Rattle.channel_protocol.specs.Paged.{item_in}
use Rattle.txn_table.specs.Open.{request_of}
use Rattle.channel_trace.specs.Runs.{sent_of}
use Rattle.worker_requester.specs.Asking.{waits_under, answer_of, asked_in}
use Rattle.worker_requester.proofs.AskSteps.{came_kept, took_kept, stray_by, reply_room}
use Rattle.worker_port.proofs.RoomLaws.{room_quiet}
use Rattle.worker_requester.specs.Asking.{FitsPages, is_open_in}
use Rattle.worker_requester.proofs.HomeSteps.{by_lends, home_came, pages_on}
use Rattle.worker_requester.proofs.requester.Requester.take_one.Goals as goal

pub invariant_of-self : goal.invariant_of-self
invariant_of-self g c =
    let l = c.self.invariant (ap (λ w. w.end.state.machine.marked) c.self.view_is ∙ c.requires.ready.unmarked) in
    let s = g.T.Protocol.format c.self.inside.protocol in
    let t = c.in-Packet.ensures.took in
    let i = g.T.Protocol.said (item_of c.last-packet.result.now c.last_words-words.result.now) in
    let pk = g.T.Protocol.said_packet (item_of c.last-packet.result.now c.last_words-words.result.now) in
    let same = ap (λ ws. g.T.Protocol.said (item_of c.last-packet.result.now ws)) c.last_words-words.ensures.value ∙ c.last-packet.ensures.value c.self.inside.port.state.got t.0 t.2 in
    let other = ap s.is_answer (sym same) ∙ (sym (c.is_answer.ensures i pk) ∙ c.if-not-is_answer.true) in
    λ _. record {
      pages = pages_on (g.T.Protocol.lends c.self.inside.protocol) (length c.self.inside.table) c.take.ensures.stays.same l.pages;
      home = by_lends (g.T.Protocol.lends c.self.inside.protocol) (length c.self.inside.table) c.take.new.self.end.state _ (pages_on (g.T.Protocol.lends c.self.inside.protocol) (length c.self.inside.table) c.take.ensures.stays.same l.pages) (λ e. home_came (g.T.Protocol.format c.self.inside.protocol) (g.T.Protocol.keeps c.self.inside.protocol) (g.T.Protocol.paged c.self.inside.protocol e) (g.T.Protocol.asks c.self.inside.protocol) _ l.live t.0 c.take.new.self.end.state _ t.1 (c.in-Packet.ensures.home (is_open_in (g.T.Protocol.format c.self.inside.protocol) (g.T.Protocol.asks c.self.inside.protocol) c.self.inside.port.state.past) t.0 t.2 l.home));
      live = came_kept s (g.T.Protocol.keeps c.self.inside.protocol) (g.T.Protocol.asks c.self.inside.protocol) _ _ t.0 other t.1 t.2 c.in-Packet.ensures.finds.awake l.live;
      replies = l.replies;
      spare = l.spare;
      size = l.size;
      room = room_quiet _ _ _ c.take.ensures.into c.take.ensures.stays.cells c.take.ensures.sent (ap sent_of t.1) l.room;
      side = l.side ∙ sym c.take.ensures.stays.side;
    }

pub invariant_of-self-then-is_waiting_under : goal.invariant_of-self-then-is_waiting_under
invariant_of-self-then-is_waiting_under g c =
    let l = c.self.invariant (ap (λ w. w.end.state.machine.marked) c.self.view_is ∙ c.requires.ready.unmarked) in
    let s = g.T.Protocol.format c.self.inside.protocol in
    let t = c.in-Packet.ensures.took in
    let i = g.T.Protocol.said (item_of c.last-packet.result.now c.last_words-words.result.now) in
    let pk = g.T.Protocol.said_packet (item_of c.last-packet.result.now c.last_words-words.result.now) in
    let same = ap (λ ws. g.T.Protocol.said (item_of c.last-packet.result.now ws)) c.last_words-words.ensures.value ∙ c.last-packet.ensures.value c.self.inside.port.state.got t.0 t.2 in
    let answers = ap s.is_answer (sym same) ∙ (sym (c.is_answer.ensures i pk) ∙ c.if-not-is_answer.false) in
    let e = ap (waits_under c.self.inside.waiting) (sym (c.id-id.ensures i pk ∙ ap s.id_of same)) ∙ (sym c.is_waiting_under.ensures ∙ c.if-is_waiting_under.true) in
    λ _. record {
      pages = pages_on (g.T.Protocol.lends c.self.inside.protocol) (length c.self.inside.table) c.take.ensures.stays.same l.pages;
      home = by_lends (g.T.Protocol.lends c.self.inside.protocol) (length c.self.inside.table) c.take.new.self.end.state _ (pages_on (g.T.Protocol.lends c.self.inside.protocol) (length c.self.inside.table) c.take.ensures.stays.same l.pages) (λ e. home_came (g.T.Protocol.format c.self.inside.protocol) (g.T.Protocol.keeps c.self.inside.protocol) (g.T.Protocol.paged c.self.inside.protocol e) (g.T.Protocol.asks c.self.inside.protocol) _ l.live t.0 c.take.new.self.end.state _ t.1 (c.in-Packet.ensures.home (is_open_in (g.T.Protocol.format c.self.inside.protocol) (g.T.Protocol.asks c.self.inside.protocol) c.self.inside.port.state.past) t.0 t.2 l.home));
      live = stray_by s (g.T.Protocol.keeps c.self.inside.protocol) (g.T.Protocol.asks c.self.inside.protocol) _ c.self.inside.waiting refl _ t.0 answers e t.1 t.2 c.in-Packet.ensures.finds.awake l.live;
      replies = l.replies;
      spare = l.spare;
      size = l.size;
      room = room_quiet _ _ _ c.take.ensures.into c.take.ensures.stays.cells c.take.ensures.sent (ap sent_of t.1) l.room;
      side = l.side ∙ sym c.take.ensures.stays.side;
    }

pub settle-requires-clause-room : goal.settle-requires-clause-room
settle-requires-clause-room g c =
    let l = c.self.invariant (ap (λ w. w.end.state.machine.marked) c.self.view_is ∙ c.requires.ready.unmarked) in
    reply_room (g.T.Protocol.format c.self.inside.protocol) (g.T.Protocol.keeps c.self.inside.protocol) (g.T.Protocol.asks c.self.inside.protocol) _ _ _ _ l.replies l.live

pub invariant_of-self-in-Packet : goal.invariant_of-self-in-Packet
invariant_of-self-in-Packet g c =
    let l = c.self.invariant (ap (λ w. w.end.state.machine.marked) c.self.view_is ∙ c.requires.ready.unmarked) in
    let s = g.T.Protocol.format c.self.inside.protocol in
    let asks = g.T.Protocol.asks c.self.inside.protocol in
    let t = c.in-Packet.ensures.took in
    let i = g.T.Protocol.said (item_of c.last-packet.result.now c.last_words-words.result.now) in
    let pk = g.T.Protocol.said_packet (item_of c.last-packet.result.now c.last_words-words.result.now) in
    let same = ap (λ ws. g.T.Protocol.said (item_of c.last-packet.result.now ws)) c.last_words-words.ensures.value ∙ c.last-packet.ensures.value c.self.inside.port.state.got t.0 t.2 in
    let answers = ap s.is_answer (sym same) ∙ (sym (c.is_answer.ensures i pk) ∙ c.if-not-is_answer.false) in
    let before = c.came_before-before.ensures.value c.self.inside.port.state.got t.0 t.2 in
    let e = ap (waits_under c.self.inside.waiting) (sym (c.id-id.ensures i pk ∙ ap s.id_of same)) ∙ (sym c.is_waiting_under.ensures ∙ c.if-is_waiting_under.false) in
    λ _. record {
      pages = subst (λ n. FitsPages (g.T.Protocol.lends c.self.inside.protocol) n c.take.new.self.end.state) (sym c.settle.ensures.size) (pages_on (g.T.Protocol.lends c.self.inside.protocol) (length c.self.inside.table) c.take.ensures.stays.same l.pages);
      home = by_lends (g.T.Protocol.lends c.self.inside.protocol) (length c.self.inside.table) c.take.new.self.end.state _ (pages_on (g.T.Protocol.lends c.self.inside.protocol) (length c.self.inside.table) c.take.ensures.stays.same l.pages) (λ e. home_came (g.T.Protocol.format c.self.inside.protocol) (g.T.Protocol.keeps c.self.inside.protocol) (g.T.Protocol.paged c.self.inside.protocol e) (g.T.Protocol.asks c.self.inside.protocol) _ l.live t.0 c.take.new.self.end.state _ t.1 (c.in-Packet.ensures.home (is_open_in (g.T.Protocol.format c.self.inside.protocol) (g.T.Protocol.asks c.self.inside.protocol) c.self.inside.port.state.past) t.0 t.2 l.home));
      live = took_kept s (g.T.Protocol.keeps c.self.inside.protocol) asks _ _ _ _ t.0 answers c.take.ensures.list t.1 t.2 c.in-Packet.ensures.finds.awake e (λ j. c.settle.ensures.closed j ∙ ap (λ q. if j == s.id_of q then None else request_of c.self.inside.table j) same)
          (c.settle.ensures.told ∙ (ap (λ q. c.self.inside.replies.items ++ answer_of s (asked_in asks c.self.inside.table (s.id_of q)) (item_in g.T.Protocol.said c.came_before-before.result.packet.now c.came_before-before.result.words.now) q) same
          ∙ ap (λ b. c.self.inside.replies.items ++ answer_of s (asked_in asks c.self.inside.table (s.id_of t.0)) b t.0) before)) c.settle.ensures.size l.live;
      replies = omega (arith, l.replies, c.settle.ensures.room, c.settle.ensures.capacity);
      spare = omega (arith, l.spare, c.settle.ensures.size);
      size = omega (arith, l.size, c.settle.ensures.size);
      room = room_quiet _ _ _ c.take.ensures.into c.take.ensures.stays.cells c.take.ensures.sent (ap sent_of t.1) l.room;
      side = l.side ∙ sym c.take.ensures.stays.side;
    }
