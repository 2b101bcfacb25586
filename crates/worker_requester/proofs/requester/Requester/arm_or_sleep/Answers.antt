use Rattle.std.proofs.Common.{ap, sym, ◌∙◌, subst, length}
use Rattle.channel_trace.specs.Runs.{sent_of}
use Rattle.ring_machine.specs.Endings.{want_of}
use Rattle.worker_port.specs.Tries.{ArmedOnce, FoundNothing}
use Rattle.worker_requester.specs.Asking.{Holds, HoldTried, want_by}
use Rattle.worker_requester.proofs.AskSteps.{saw_kept, still_kept, holds_on, rests_tried}
use Rattle.worker_port.proofs.RoomLaws.{room_quiet, got_same}
use Rattle.worker_requester.specs.Asking.{is_open_in}
use Rattle.worker_requester.proofs.HomeSteps.{home_quiet, pages_on}
use Rattle.worker_requester.proofs.requester.Requester.arm_or_sleep.Goals as goal

pub invariant_of-self : goal.invariant_of-self
invariant_of-self g c =
    let v = c.self.view_is in
    let l = c.self.invariant (ap (λ w. w.end.state.machine.marked) v ∙ c.requires.ready.unmarked) in
    λ _. record {
      pages = pages_on (g.T.Protocol.lends c.self.inside.protocol) (length c.self.inside.table) c.arm.ensures.stays.same l.pages;
      home = home_quiet (g.T.Protocol.format c.self.inside.protocol) (g.T.Protocol.asks c.self.inside.protocol) c.self.inside.port.state.past c.arm.new.self.state.past c.self.inside.port.end.state c.arm.new.self.end.state (ap (is_open_in (g.T.Protocol.format c.self.inside.protocol) (g.T.Protocol.asks c.self.inside.protocol)) c.in-Nothing.ensures.past) c.arm.ensures.home l.home;
      live = still_kept (g.T.Protocol.format c.self.inside.protocol) (g.T.Protocol.keeps c.self.inside.protocol) (g.T.Protocol.asks c.self.inside.protocol) (record {
        protocol = c.self.inside.protocol;
        end = c.self.inside.port;
        table = c.self.inside.table;
        next = c.self.inside.next;
        waiting = c.self.inside.waiting;
        acked = c.self.inside.acked;
        told = c.self.inside.replies.items;
        starts = c.self.inside.starts;
        seen = c.self.inside.seen;
        hold = c.self.inside.hold;
        relid = c.self.inside.relid;
      }) _ c.args.hold c.in-Nothing.ensures.past c.arm.ensures.lists.0 (λ _. (
        holds_on (g.T.Protocol.format c.self.inside.protocol) (g.T.Protocol.keeps c.self.inside.protocol) (g.T.Protocol.asks c.self.inside.protocol) (record {
          protocol = c.self.inside.protocol;
          end = c.self.inside.port;
          table = c.self.inside.table;
          next = c.self.inside.next;
          waiting = c.self.inside.waiting;
          acked = c.self.inside.acked;
          told = c.self.inside.replies.items;
          starts = c.self.inside.starts;
          seen = c.self.inside.seen;
          hold = c.self.inside.hold;
          relid = c.self.inside.relid;
        }) c.arm.new.self c.args.hold c.args.hold c.arm.ensures.lists.0 c.arm.ensures.lists.2 c.arm.ensures.stays.same.pages (subst (λ w. Holds (g.T.Protocol.format w.protocol) (g.T.Protocol.asks w.protocol) c.args.hold w) (sym v) c.requires.holds),
        record { asleep = c.in-Nothing.ensures.asleep; want_is = c.arm.ensures.want c.in-Nothing.ensures.asleep ∙ ap want_of c.want_for.ensures },
        ap (λ w. w.seen) v ∙ c.requires.unseen,
      )) l.live;
      replies = l.replies;
      spare = l.spare;
      size = l.size;
      room = room_quiet _ _ _ (got_same _ _ c.arm.ensures.stays.same.pages c.arm.ensures.lists.0 c.arm.ensures.lists.1) c.arm.ensures.stays.cells c.arm.ensures.lists.2 (ap sent_of c.in-Nothing.ensures.past) l.room;
      side = l.side ∙ sym c.arm.ensures.stays.side;
    }

pub returns-in-Nothing-clause-turns : goal.returns-in-Nothing-clause-turns
returns-in-Nothing-clause-turns g c =
    let v = c.self.view_is in (
      c.arm.ensures.unmarked,
      c.in-Nothing.ensures.asleep,
      holds_on (g.T.Protocol.format c.self.inside.protocol) (g.T.Protocol.keeps c.self.inside.protocol) (g.T.Protocol.asks c.self.inside.protocol) (record {
        protocol = c.self.inside.protocol;
        end = c.self.inside.port;
        table = c.self.inside.table;
        next = c.self.inside.next;
        waiting = c.self.inside.waiting;
        acked = c.self.inside.acked;
        told = c.self.inside.replies.items;
        starts = c.self.inside.starts;
        seen = c.self.inside.seen;
        hold = c.self.inside.hold;
        relid = c.self.inside.relid;
      }) c.arm.new.self c.args.hold c.args.hold c.arm.ensures.lists.0 c.arm.ensures.lists.2 c.arm.ensures.stays.same.pages (subst (λ w. Holds (g.T.Protocol.format w.protocol) (g.T.Protocol.asks w.protocol) c.args.hold w) (sym v) c.requires.holds),
      record { asleep = c.in-Nothing.ensures.asleep; want_is = c.arm.ensures.want c.in-Nothing.ensures.asleep ∙ ap want_of c.want_for.ensures },
      ap (λ w. w.seen) v ∙ c.requires.unseen,
    )

pub returns-in-Nothing-clause-tried : goal.returns-in-Nothing-clause-tried
returns-in-Nothing-clause-tried g c = λ before looked none held.
    let told = g.S.Seatlike.told in
    let tale = g.S.Seatlike.tale in
    let hold = c.args.hold in
    let old = c.self.inside.port.end in
    let new = c.arm.new.self.end in
    let rested : FoundNothing told tale (want_by hold) old new = record { armed = subst (λ o. ArmedOnce told tale o old new) c.want_for.ensures c.arm.ensures.once; asleep = c.in-Nothing.ensures.found } in
    let held' = subst (λ w. HoldTried told tale (g.T.Protocol.format w.protocol) (g.T.Protocol.asks w.protocol) hold looked w) (sym c.self.view_is) held in
    rests_tried told tale (g.T.Protocol.format c.self.inside.protocol) (g.T.Protocol.asks c.self.inside.protocol) (record {
      protocol = c.self.inside.protocol;
      end = c.self.inside.port;
      table = c.self.inside.table;
      next = c.self.inside.next;
      waiting = c.self.inside.waiting;
      acked = c.self.inside.acked;
      told = c.self.inside.replies.items;
      starts = c.self.inside.starts;
      seen = c.self.inside.seen;
      hold = c.self.inside.hold;
      relid = c.self.inside.relid;
    }) c.arm.new.self hold before looked c.arm.ensures.lists.0 none held' rested

pub invariant_of-self-in-Mark : goal.invariant_of-self-in-Mark
invariant_of-self-in-Mark g c =
    let v = c.self.view_is in
    let l = c.self.invariant (ap (λ w. w.end.state.machine.marked) v ∙ c.requires.ready.unmarked) in
    λ _. record {
      pages = pages_on (g.T.Protocol.lends c.self.inside.protocol) (length c.self.inside.table) c.arm.ensures.stays.same l.pages;
      home = home_quiet (g.T.Protocol.format c.self.inside.protocol) (g.T.Protocol.asks c.self.inside.protocol) c.self.inside.port.state.past c.arm.new.self.state.past c.self.inside.port.end.state c.arm.new.self.end.state (ap (is_open_in (g.T.Protocol.format c.self.inside.protocol) (g.T.Protocol.asks c.self.inside.protocol)) c.in-Mark.ensures.past) c.arm.ensures.home l.home;
      live = saw_kept (g.T.Protocol.format c.self.inside.protocol) (g.T.Protocol.keeps c.self.inside.protocol) (g.T.Protocol.asks c.self.inside.protocol) (record {
        protocol = c.self.inside.protocol;
        end = c.self.inside.port;
        table = c.self.inside.table;
        next = c.self.inside.next;
        waiting = c.self.inside.waiting;
        acked = c.self.inside.acked;
        told = c.self.inside.replies.items;
        starts = c.self.inside.starts;
        seen = c.self.inside.seen;
        hold = c.self.inside.hold;
        relid = c.self.inside.relid;
      }) _ c.args.hold c.in-Mark.ensures.past c.arm.ensures.lists.0 c.in-Mark.ensures.asleep l.live;
      replies = l.replies;
      spare = l.spare;
      size = l.size;
      room = room_quiet _ _ _ (got_same _ _ c.arm.ensures.stays.same.pages c.arm.ensures.lists.0 c.arm.ensures.lists.1) c.arm.ensures.stays.cells c.arm.ensures.lists.2 (ap sent_of c.in-Mark.ensures.past) l.room;
      side = l.side ∙ sym c.arm.ensures.stays.side;
    }
