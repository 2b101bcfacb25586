-- Both workers of a channel are made.
use Rattle.std.proofs.Common.{◌≡◌, ◌≤◌, ℕ, List, [], length, Option, Some, None, is_some, Bool, false, refl, ap, subst, sym, ◌∙◌, arith, rules}
use Rattle.script_lines.specs.declared.line.Ask.{Ask}
use Rattle.bus_script.specs.declared.outcome.Reply.{Reply}
use Rattle.device_kinds.specs.Formats.{ChannelScript}
use Rattle.io_edge.specs.declared.side.Side.{Side}
use Rattle.io_edge.specs.declared.side.Side.TheVariants.{Guest, Host}
use Rattle.ring_core.specs.Seen.{Seen}
use Rattle.ring_seat.specs.Settling.{AreOfOneChannel}
use Rattle.ring_seat.specs.declared.table_seat.TableSeat.{TableSeat}
use Rattle.worker_requester.specs.Asking.{Asking}
use Rattle.worker_server.specs.Serving.{Serving}
use Rattle.channel_model.specs.Channel.{count_of}
use Rattle.channel_model.specs.Roles.{side_that_asks}
use Rattle.worker_pair.specs.Pairs.{AreMadeAt, AreRoles, ArePair, IsNewEnd, PlansAgree, dealt}
use Rattle.worker_pair.specs.Plans.{AsksFor, CanPlan, HasSeat, IsMade, Planned, ServesFor, planned}
use Rattle.worker_pair.specs.Leaving.{Leaves, WorkerDone}
use Rattle.worker_pair.specs.Seats.{IsAt, side_in}
use Rattle.worker_pair.specs.Workers.{IsLive, IsOfSide, end_at}
use Rattle.device_any.specs.Seats.{kind_at, left_at}
use Rattle.device_any.specs.declared.device_seat.DeviceSeat.{DeviceSeat}
use Rattle.worker_pair.specs.declared.channel_plan.ChannelPlan.{ChannelPlan}
use Rattle.worker_pair.specs.declared.worker.Worker.{Worker}
use Rattle.worker_pair.specs.declared.worker.Worker.TheVariants.{Asks, Serves}
use Rattle.worker_pair.proofs.NewEnds.{guest_has, host_has}
use Rattle.worker_pair.proofs.Opening.{asks_length}

unstopped : (stop : Option (ℕ × Bool)) → is_some stop ≡ false → stop ≡ None
unstopped None e = refl
unstopped (Some k) e = absurd (cc)

-- what is made for one plan agrees: the one that serves made room for all that the other one asks, and has a call for each request
plans_agree : (p : Planned) (seat : DeviceSeat) (a : Asking ChannelScript TableSeat Reply) (s : Serving ChannelScript DeviceSeat TableSeat Ask Reply) → p.count ≡ length p.asks → AsksFor p a → ServesFor p seat s → PlansAgree a s
plans_agree p seat a s count asked served = record {
  kind = ap (λ (t : ChannelScript). t.kind) asked.protocol ∙ sym served.answers;
  room = omega (arith, asks_length p.kind p.sub p.subs p.lists p.asks a.protocol asked.protocol, served.come, count);
  calls = λ go.
      let all : s.serve ≡ p.count = served.serve ∙ ap (λ k. count_of k p.count) (unstopped p.stop (sym served.stops ∙ go)) in
      omega (arith, all, count, ap (λ (t : ChannelScript). length t.asks) asked.protocol);
}

-- the plan of the end that asks is one for the other end too, which has no request of its own
can_serve : (q : ChannelPlan) (asks : List Ask) (at side : Side) → CanPlan at (planned q asks) → (side ≡ at → ⊥) → at ≡ side_that_asks q.kind → CanPlan side (planned q [])
can_serve q asks at side can other is = record { window = can.window; few = can.few; subs = can.subs; stop = can.stop; asks = λ same. absurd (other (same ∙ sym is)) }

-- each side's worker can be made with what is dealt to it
can_deal : (at side : Side) (q : ChannelPlan) (seat : DeviceSeat) (asks : List Ask) → at ≡ side_that_asks q.kind → (kind_at seat ≡ q.kind) × (q.count ≤ left_at seat) → CanPlan at (planned q asks)
    → CanPlan side (planned q (dealt at side seat asks).1) × HasSeat side (planned q (dealt at side seat asks).1) (dealt at side seat asks).0 × IsAt side (dealt at side seat asks).0
can_deal Guest Guest q seat asks is has can = (can, is, tt)
can_deal Guest Host q seat asks is has can = (can_serve q asks Guest Host can (λ e. cc) is, has, host_has seat q.kind has.0 (sym is))
can_deal Host Guest q seat asks is has can = (can_serve q asks Host Guest can (λ e. cc) is, has, guest_has seat q.kind has.0 (sym is))
can_deal Host Host q seat asks is has can = (can, is, tt)

pub can_make : (at side : Side) (q : ChannelPlan) (seat : DeviceSeat) (asks xs : List Ask) (o : Option DeviceSeat) → at ≡ side_that_asks q.kind → (o, xs) ≡ dealt at side seat asks → (kind_at seat ≡ q.kind) × (q.count ≤ left_at seat) → CanPlan (side_that_asks q.kind) (planned q asks)
    → CanPlan side (planned q xs) × HasSeat side (planned q xs) o × IsAt side o
can_make at side q seat asks xs o is deal has can =
    subst (λ (p : Option DeviceSeat × List Ask). CanPlan side (planned q p.1) × HasSeat side (planned q p.1) p.0 × IsAt side p.0) (sym deal) (can_deal at side q seat asks is has (subst (λ s. CanPlan s (planned q asks)) (sym is) can))

-- what is made with no request serves whatever the other end asks
serves_all : (q : ChannelPlan) (asks : List Ask) (seat : DeviceSeat) (w : Worker) → IsMade (planned q []) (Some seat) w → IsMade (planned q asks) (Some seat) w
serves_all q asks seat (Asks w) made = made
serves_all q asks seat (Serves w) made = search rules

-- both are made for the plan
are_made : (at : Side) (q : ChannelPlan) (seat : DeviceSeat) (asks : List Ask) (guest host : Worker) → IsMade (planned q (dealt at Guest seat asks).1) (dealt at Guest seat asks).0 guest → IsMade (planned q (dealt at Host seat asks).1) (dealt at Host seat asks).0 host
    → AreMadeAt at (planned q asks) seat guest host
are_made Guest q seat asks guest host g h = (g, serves_all q asks seat host h)
are_made Host q seat asks guest host g h = (serves_all q asks seat guest g, h)

pub made_at : (at : Side) (q : ChannelPlan) (seat : DeviceSeat) (asks xs ys : List Ask) (o p : Option DeviceSeat) (guest host : Worker) → (o, xs) ≡ dealt at Guest seat asks → (p, ys) ≡ dealt at Host seat asks → IsMade (planned q xs) o guest → IsMade (planned q ys) p host
    → AreMadeAt at (planned q asks) seat guest host
made_at at q seat asks xs ys o p guest host for_guest for_host g h =
    are_made at q seat asks guest host (subst (λ (m : Option DeviceSeat × List Ask). IsMade (planned q m.1) m.0 guest) for_guest g) (subst (λ (m : Option DeviceSeat × List Ask). IsMade (planned q m.1) m.0 host) for_host h)

-- and the one asks what the other serves
pub are_roles : (at : Side) (p : Planned) (seat : DeviceSeat) (guest host : Worker) → p.count ≡ length p.asks → AreMadeAt at p seat guest host → AreRoles guest host
are_roles Guest p seat (Asks a) (Serves s) count made = plans_agree p seat a s count made.0 made.1
are_roles Host p seat (Serves s) (Asks a) count made = plans_agree p seat a s count made.1 made.0
are_roles Guest p seat (Asks a) (Asks b) count made = absurd made.1
are_roles Guest p seat (Serves s) w count made = absurd made.0
are_roles Host p seat (Serves s) (Serves t) count made = absurd made.1
are_roles Host p seat (Asks a) w count made = absurd made.0

-- workers with the new ends of one channel are a pair
pub pair_of : (n : ℕ) (g h : Seen TableSeat) (guest host : Worker) → AreOfOneChannel g h → IsNewEnd Guest n g → IsNewEnd Host n h → ((end_at guest).state ≡ g.state) × ((end_at guest).seat ≡ g.seat)
    → ((end_at host).state ≡ h.state) × ((end_at host).seat ≡ h.seat) → IsLive guest → IsLive host → AreRoles guest host → ArePair guest host
pair_of n g h guest host one g_new h_new at_g at_h guest_live host_live roles = record {
  ends = record {
    same = ap (λ (s : TableSeat). s.seat.table_id) at_g.1 ∙ one.same ∙ sym (ap (λ (s : TableSeat). s.seat.table_id) at_h.1);
    guest = ap (λ s. s.machine.side) at_g.0 ∙ one.guest;
    host = ap (λ s. s.machine.side) at_h.0 ∙ one.host;
  };
  pages = ap (λ s. s.pages.count) (at_g.0 ∙ g_new.3) ∙ sym (ap (λ s. s.pages.count) (at_h.0 ∙ h_new.3));
  guest_live = guest_live;
  host_live = host_live;
  roles = roles;
}

-- what a worker leaves is at its side: no seat, or the one that it had
pub left_at_side : (side : Side) (w : Worker) (d : WorkerDone) → IsOfSide side w → Leaves w d → IsAt side d.seat
left_at_side side (Asks w) d is left = subst (IsAt side) (sym left.seat) tt
left_at_side side (Serves w) d is left = subst (IsAt side) (sym left.seat) (ap side_in left.place ∙ is.seat)
