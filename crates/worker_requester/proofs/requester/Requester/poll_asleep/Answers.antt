use Rattle.std.proofs.Common.{ap, ◌∙◌, sym, length}
use Rattle.channel_trace.specs.Runs.{sent_of}
use Rattle.worker_requester.proofs.AskSteps.{still_kept, holds_on}
use Rattle.worker_port.proofs.RoomLaws.{room_quiet, got_same}
use Rattle.worker_requester.specs.Asking.{is_open_in}
use Rattle.worker_requester.proofs.HomeSteps.{home_quiet, pages_on}
use Rattle.worker_requester.proofs.requester.Requester.poll_asleep.Goals as goal

pub invariant_of-self-2 : goal.invariant_of-self-2
invariant_of-self-2 g c =
    let v = c.self.view_is in
    let l = c.self.invariant (ap (λ w. w.end.state.machine.marked) v ∙ c.requires.unmarked) in
    let r = l.live.rests (ap (λ w. w.end.state.machine.asleep) v ∙ c.requires.asleep) in
    λ _. record {
      pages = pages_on (g.T.Protocol.lends c.self.inside.protocol) (length c.self.inside.table) c.poll.ensures.stays.same l.pages;
      home = home_quiet (g.T.Protocol.format c.self.inside.protocol) (g.T.Protocol.asks c.self.inside.protocol) c.self.inside.port.state.past c.poll.new.self.state.past c.self.inside.port.end.state c.poll.new.self.end.state (ap (is_open_in (g.T.Protocol.format c.self.inside.protocol) (g.T.Protocol.asks c.self.inside.protocol)) c.if-poll.ensures.past) c.poll.ensures.home l.home;
      live = still_kept (g.T.Protocol.format c.self.inside.protocol) (g.T.Protocol.keeps c.self.inside.protocol) (g.T.Protocol.asks c.self.inside.protocol) (record {
        protocol = c.self.inside.protocol;
        end = c.self.inside.port;
        table = c.self.inside.table;
        next = c.self.inside.next;
        waiting = c.self.inside.waiting;
        acked = c.self.inside.acked;
        told = c.self.inside.replies.items;
        starts = c.self.inside.starts;
        seen = c.self.inside.seen;
        hold = c.self.inside.hold;
        relid = c.self.inside.relid;
      }) _ c.self.inside.hold c.if-poll.ensures.past c.poll.ensures.lists.0 (λ _. (
        holds_on (g.T.Protocol.format c.self.inside.protocol) (g.T.Protocol.keeps c.self.inside.protocol) (g.T.Protocol.asks c.self.inside.protocol) (record {
          protocol = c.self.inside.protocol;
          end = c.self.inside.port;
          table = c.self.inside.table;
          next = c.self.inside.next;
          waiting = c.self.inside.waiting;
          acked = c.self.inside.acked;
          told = c.self.inside.replies.items;
          starts = c.self.inside.starts;
          seen = c.self.inside.seen;
          hold = c.self.inside.hold;
          relid = c.self.inside.relid;
        }) _ c.self.inside.hold c.self.inside.hold c.poll.ensures.lists.0 c.poll.ensures.lists.2 c.poll.ensures.stays.same.pages r.0,
        record { asleep = c.if-poll.ensures.asleep; want_is = c.poll.ensures.want c.if-poll.ensures.asleep ∙ r.1.want_is },
        r.2,
      )) l.live;
      replies = l.replies;
      spare = l.spare;
      size = l.size;
      room = room_quiet _ _ _ (got_same _ _ c.poll.ensures.stays.same.pages c.poll.ensures.lists.0 c.poll.ensures.lists.1) c.poll.ensures.stays.cells c.poll.ensures.lists.2 (ap sent_of c.if-poll.ensures.past) l.room;
      side = l.side ∙ sym c.poll.ensures.stays.side;
    }

pub returns-clause-turns : goal.returns-clause-turns
returns-clause-turns g c =
    let v = c.self.view_is in
    let l = c.self.invariant (ap (λ w. w.end.state.machine.marked) v ∙ c.requires.unmarked) in
    let r = l.live.rests (ap (λ w. w.end.state.machine.asleep) v ∙ c.requires.asleep) in (
      c.if-poll.ensures.unmarked,
      c.if-poll.ensures.asleep,
      holds_on (g.T.Protocol.format c.self.inside.protocol) (g.T.Protocol.keeps c.self.inside.protocol) (g.T.Protocol.asks c.self.inside.protocol) (record {
        protocol = c.self.inside.protocol;
        end = c.self.inside.port;
        table = c.self.inside.table;
        next = c.self.inside.next;
        waiting = c.self.inside.waiting;
        acked = c.self.inside.acked;
        told = c.self.inside.replies.items;
        starts = c.self.inside.starts;
        seen = c.self.inside.seen;
        hold = c.self.inside.hold;
        relid = c.self.inside.relid;
      }) _ c.self.inside.hold c.self.inside.hold c.poll.ensures.lists.0 c.poll.ensures.lists.2 c.poll.ensures.stays.same.pages r.0,
      record { asleep = c.if-poll.ensures.asleep; want_is = c.poll.ensures.want c.if-poll.ensures.asleep ∙ r.1.want_is },
      r.2,
    )
