-- A worker over several turns.
use Rattle.std.proofs.Common.{◌≡◌, ◌∙◌, ◌+◌, ◌++◌, [], Bool, true, false, length, map, take, refl, sym, ap, subst, Some, None}
use Rattle.ring_seat.specs.Seats.{told_in}
use Rattle.ring_seat.specs.declared.table_seat.TableSeat.{TableSeat}
use Rattle.script_lines.specs.declared.line.Ask.{Ask}
use Rattle.bus_script.specs.declared.outcome.Reply.{Reply}
use Rattle.device_kinds.specs.Formats.{besides_on, format_of, ChannelScript, asks_of}
use Rattle.device_packets.specs.Said.{said_item}
use Rattle.worker_port.specs.Line.{IsLine, Line, line_of}
use Rattle.worker_port.specs.Rooms.{AskedWithin, AskLacksFor, ServedWithin, ServeLacksFor, is_broken}
use Rattle.worker_port.specs.declared.ended.Ended.{Ended}
use Rattle.worker_port.specs.declared.ended.Turn.TheVariants.{Ended as TurnEnded}
use Rattle.worker_requester.specs.Asking.{Asking, AskedFrom, AskEnds, AsksBy, AsksOn, AskTurns, EndTried, EndsAcked, EverTried as AskerTried, IsPaced}
use Rattle.worker_requester.specs.Causes.{AskCause}
use Rattle.worker_requester.proofs.AskSteps.{ends_acked}
use Rattle.worker_server.specs.Causes.{ServeCause}
use Rattle.worker_server.specs.Serving.{Serving, ServeEnds, ServesOn, EndsBy, EverTried as ServerTried, LeavesTried, Turns, calls_behind}
use Rattle.worker_server.proofs.ResponderLaws.{behind_is, front_is}
use Rattle.worker_server.proofs.ServeSteps.{ends_on, lacks_on, tried_on}
use Rattle.worker_pair.specs.Leaving.{LeavesAsked, LeavesServed, StandsAsking, StandsServing, WorkerDone, items_in, told_at}
use Rattle.device_any.specs.Seats.{served_at, device_place, left_at}
use Rattle.device_any.specs.declared.device_seat.DeviceSeat.{DeviceSeat}
use Rattle.ring_core.specs.Told.{tells_nothing}

-- what it leaves is what was asked of it at its beginning
pub served_on : (u v : Serving ChannelScript DeviceSeat TableSeat Ask Reply) (d : WorkerDone) → ServesOn (λ s t. device_place t ≡ device_place s) (λ (s : TableSeat). s.seat.table_id) (λ (s : TableSeat). Some (told_in s.seat.me.0)) u v → LeavesServed v d → LeavesServed u d
served_on u v d on leaves =
    record {
      back = leaves.back;
      seat = leaves.seat;
      serves = ends_on (λ s t. device_place t ≡ device_place s) (λ (s : TableSeat). s.seat.table_id) (λ (s : TableSeat). Some (told_in s.seat.me.0)) (λ (t : ChannelScript). format_of t.kind) (λ (t : ChannelScript). besides_on t.kind) d.ended u v (line_of said_item d.end) (calls_behind u.responder.before (served_at leaves.back)) on (subst (λ l. EndsBy (format_of v.responder.protocol.kind) (besides_on v.responder.protocol.kind) d.ended v (line_of said_item d.end) (calls_behind l (served_at leaves.back))) on.before leaves.serves);
      tried = record {
        before = leaves.tried.before;
        same = record { seat = leaves.tried.same.seat ∙ on.end.seat; side = leaves.tried.same.side ∙ on.end.side; pages = leaves.tried.same.pages ∙ on.end.pages };
        tried = tried_on (λ s t. device_place t ≡ device_place s) (λ (s : TableSeat). s.seat.table_id) (λ (s : TableSeat). Some (told_in s.seat.me.0)) (λ (s : TableSeat). tells_nothing) (λ (t : ChannelScript). format_of t.kind) (λ (t : ChannelScript). besides_on t.kind) d.ended u v leaves.tried.before (line_of said_item d.end) (calls_behind u.responder.before (served_at leaves.back)) on
            (subst (λ l. LeavesTried (λ (s : TableSeat). Some (told_in s.seat.me.0)) (λ (s : TableSeat). tells_nothing) (format_of v.responder.protocol.kind) (besides_on v.responder.protocol.kind) d.ended v leaves.tried.before (line_of said_item d.end) (calls_behind l (served_at leaves.back))) on.before leaves.tried.tried);
      };
      before = subst (λ l. take (length l) (served_at leaves.back) ≡ l) on.before leaves.before;
      serials = subst (λ l. d.serials.items ≡ map (λ c. c.serial) (calls_behind l (served_at leaves.back))) on.before leaves.serials;
      end = record { seat = leaves.end.seat ∙ on.end.seat; side = leaves.end.side ∙ on.end.side; pages = leaves.end.pages ∙ on.end.pages };
      place = leaves.place ∙ on.seat;
      stands = leaves.stands;
      honest = leaves.honest;
      sent = subst (λ (t : ChannelScript). ServedWithin (format_of t.kind) (besides_on t.kind) (items_in d.end)) on.protocol leaves.sent;
      room = lacks_on (λ s t. device_place t ≡ device_place s) (λ (s : TableSeat). s.seat.table_id) (λ (s : TableSeat). Some (told_in s.seat.me.0)) (λ (t : ChannelScript). format_of t.kind) (λ (t : ChannelScript). besides_on t.kind) d.ended u v (items_in d.end) on leaves.room;
      replies = leaves.replies;
    }

pub asked_on : (u v : Asking ChannelScript TableSeat Reply) (d : WorkerDone) → AsksOn (λ (s : TableSeat). s.seat.table_id) (λ (s : TableSeat). Some (told_in s.seat.me.0)) u v → LeavesAsked v d → LeavesAsked u d
asked_on u v d on leaves =
    record {
      asks = subst (λ (t : ChannelScript). AsksBy (format_of t.kind) d.ended (asks_of t) (items_in d.end) d.replies.items) on.protocol leaves.asks;
      end = record { seat = leaves.end.seat ∙ on.end.seat; side = leaves.end.side ∙ on.end.side; pages = leaves.end.pages ∙ on.end.pages };
      stands = leaves.stands;
      honest = leaves.honest;
      sent = subst (λ (t : ChannelScript). AskedWithin (format_of t.kind) (length (asks_of t)) (items_in d.end)) on.protocol leaves.sent;
      room = subst (λ (t : ChannelScript). AskLacksFor (format_of t.kind) (besides_on t.kind) (length (asks_of t)) d.ended (items_in d.end)) on.protocol leaves.room;
      paced = subst (λ n. IsPaced (format_of u.protocol.kind) n (asks_of u.protocol) (items_in d.end)) on.starts (subst (λ (t : ChannelScript). IsPaced (format_of t.kind) v.starts (asks_of t) (items_in d.end)) on.protocol leaves.paced);
      ids = subst (λ n. AskedFrom (format_of u.protocol.kind) n (asks_of u.protocol) (items_in d.end)) on.window (subst (λ (t : ChannelScript). AskedFrom (format_of t.kind) (length v.table) (asks_of t) (items_in d.end)) on.protocol leaves.ids);
      acks = subst (λ (t : ChannelScript). EndsAcked (format_of t.kind) d.ended (line_of said_item d.end)) on.protocol leaves.acks;
      tried = record {
        before = leaves.tried.before;
        same = record { seat = leaves.tried.same.seat ∙ on.end.seat; side = leaves.tried.same.side ∙ on.end.side; pages = leaves.tried.same.pages ∙ on.end.pages };
        tried = subst (λ (t : ChannelScript). EndTried (λ (s : TableSeat). Some (told_in s.seat.me.0)) (λ (s : TableSeat). tells_nothing) (format_of t.kind) d.ended leaves.tried.before (line_of said_item d.end)) on.protocol leaves.tried.tried;
      };
      seat = leaves.seat;
      serials = leaves.serials;
    }

awake_of : (b : Bool) → (b ≡ true → ⊥) → b ≡ false
awake_of true never = absurd (never refl)
awake_of false never = refl

-- a turn in which the end that asks ended
pub asked_stands : (how : Ended) (v w : Asking ChannelScript TableSeat Reply) → AsksOn (λ (s : TableSeat). s.seat.table_id) (λ (s : TableSeat). Some (told_in s.seat.me.0)) v w → AskCause (λ (s : TableSeat). Some (told_in s.seat.me.0)) (λ (s : TableSeat). tells_nothing) (TurnEnded how) v.end w.end
    → (v.end.state.machine.asleep ≡ false → EndTried (λ (s : TableSeat). Some (told_in s.seat.me.0)) (λ (s : TableSeat). tells_nothing) (format_of w.protocol.kind) how v.end.end w.end) → AskTurns (format_of w.protocol.kind) (besides_on w.protocol.kind) (asks_of w.protocol) (TurnEnded how) w
    → AskEnds (format_of w.protocol.kind) (besides_on w.protocol.kind) w.starts (length w.table) (asks_of w.protocol) (TurnEnded how) w.end.state.past → is_broken how ≡ false → StandsAsking (Some how) w
asked_stands how v w on cause tried turns room honest = (
  turns.0,
  room.0,
  room.1,
  room.2,
  room.3,
  ends_acked (format_of w.protocol.kind) (besides_on w.protocol.kind) (asks_of w.protocol) w how turns.1,
  honest,
  record { before = v.end.end; same = record { seat = sym on.end.seat; side = sym on.end.side; pages = sym on.end.pages }; tried = tried (awake_of v.end.state.machine.asleep cause.asleep) },
)

-- and the end that serves
pub served_stands : (how : Ended) (v w : Serving ChannelScript DeviceSeat TableSeat Ask Reply) → ServesOn (λ s t. device_place t ≡ device_place s) (λ (s : TableSeat). s.seat.table_id) (λ (s : TableSeat). Some (told_in s.seat.me.0)) v w → ServeCause (λ (s : TableSeat). Some (told_in s.seat.me.0)) (λ (s : TableSeat). tells_nothing) (TurnEnded how) v.end w.end
    → (v.end.state.machine.asleep ≡ false → LeavesTried (λ (s : TableSeat). Some (told_in s.seat.me.0)) (λ (s : TableSeat). tells_nothing) (format_of w.responder.protocol.kind) (besides_on w.responder.protocol.kind) how w v.end.end w.end w.responder.calls)
    → Turns left_at (format_of w.responder.protocol.kind) (besides_on w.responder.protocol.kind) (TurnEnded how) w → ServeEnds (format_of w.responder.protocol.kind) (besides_on w.responder.protocol.kind) (TurnEnded how) w → is_broken how ≡ false → StandsServing (Some how) w
served_stands how v w on cause tried turns room honest = (
  turns.0,
  room.0,
  room.1,
  honest,
  record { before = v.end.end; same = record { seat = sym on.end.seat; side = sym on.end.side; pages = sym on.end.pages }; tried = tried (awake_of v.end.state.machine.asleep cause.asleep) },
)

-- what a worker leaves that has ended so
pub asker_leaves : (w : Asking ChannelScript TableSeat Reply) (how : Ended) (d : WorkerDone) → StandsAsking (Some how) w → d.ended ≡ how → w.end ≡ line_of said_item d.end → IsLine told_at d.end
    → AsksBy (format_of w.protocol.kind) d.ended (asks_of w.protocol) (items_in d.end) d.replies.items → d.seat ≡ None → d.serials.items ≡ [] → LeavesAsked w d
asker_leaves w how d h ended line stands asks seat serials =
    let s = format_of w.protocol.kind in
    let asked = asks_of w.protocol in
    let both : (how, w.end) ≡ (d.ended, line_of said_item d.end) = λ i. (sym ended i, line i) in
    record {
      asks = asks;
      end = record { seat = ap (λ (l : Line TableSeat). l.end.seat.seat.table_id) (sym line); side = ap (λ (l : Line TableSeat). l.end.state.machine.side) (sym line); pages = ap (λ (l : Line TableSeat). l.end.state.pages.count) (sym line) };
      stands = stands;
      honest = ap is_broken ended ∙ h.6;
      sent = subst (λ (l : Line TableSeat). AskedWithin s (length asked) l.state.past) line h.1;
      room = subst (λ (p : Ended × Line TableSeat). AskLacksFor s (besides_on w.protocol.kind) (length asked) p.0 p.1.state.past) both h.2;
      paced = subst (λ (l : Line TableSeat). IsPaced s w.starts asked l.state.past) line h.3;
      ids = subst (λ (l : Line TableSeat). AskedFrom s (length w.table) asked l.state.past) line h.4;
      acks = subst (λ (p : Ended × Line TableSeat). EndsAcked s p.0 p.1) both h.5;
      tried = subst (λ (p : Ended × Line TableSeat). AskerTried (λ (s : TableSeat). s.seat.table_id) told_at (λ (s : TableSeat). tells_nothing) s p.0 w.end.end p.1) both h.7;
      seat = seat;
      serials = serials;
    }

pub server_leaves : (w : Serving ChannelScript DeviceSeat TableSeat Ask Reply) (how : Ended) (d : WorkerDone) (back : DeviceSeat) → StandsServing (Some how) w → d.ended ≡ how → w.end ≡ line_of said_item d.end → IsLine told_at d.end
    → d.seat ≡ Some back → back ≡ w.responder.seat → served_at back ≡ w.responder.before ++ w.responder.calls → d.serials.items ≡ map (λ c. c.serial) w.responder.calls → d.replies.items ≡ [] → LeavesServed w d
server_leaves w how d back h ended line stands seat is calls serials replies =
    let s = format_of w.responder.protocol.kind in
    let besides = besides_on w.responder.protocol.kind in
    let both : (how, w.end) ≡ (d.ended, line_of said_item d.end) = λ i. (sym ended i, line i) in
    let behind : calls_behind w.responder.before (served_at back) ≡ w.responder.calls = behind_is w.responder.before w.responder.before w.responder.calls (served_at back) calls refl in
    record {
      back = back;
      seat = seat;
      serves = subst (λ (p : Ended × Line TableSeat). EndsBy s besides p.0 w p.1 (calls_behind w.responder.before (served_at back))) both (subst (EndsBy s besides how w w.end) (sym behind) h.0);
      tried = subst (λ (p : Ended × Line TableSeat). ServerTried (λ (s : TableSeat). s.seat.table_id) told_at (λ (s : TableSeat). tells_nothing) s besides p.0 w p.1 (calls_behind w.responder.before (served_at back))) both
          (subst (ServerTried (λ (s : TableSeat). s.seat.table_id) told_at (λ (s : TableSeat). tells_nothing) s besides how w w.end) (sym behind) h.4);
      before = front_is w.responder.before w.responder.before w.responder.calls (served_at back) calls refl;
      serials = serials ∙ ap (map (λ c. c.serial)) (sym behind);
      end = record { seat = ap (λ (l : Line TableSeat). l.end.seat.seat.table_id) (sym line); side = ap (λ (l : Line TableSeat). l.end.state.machine.side) (sym line); pages = ap (λ (l : Line TableSeat). l.end.state.pages.count) (sym line) };
      place = ap device_place is;
      stands = stands;
      honest = ap is_broken ended ∙ h.3;
      sent = subst (λ (l : Line TableSeat). ServedWithin s besides l.state.past) line h.1;
      room = subst (λ (p : Ended × Line TableSeat). ServeLacksFor s besides (w.starts + w.come) w.serve w.stops p.0 p.1.state.past) both h.2;
      replies = replies;
    }
