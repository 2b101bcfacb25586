use Rattle.std.proofs.Common.{◌≡◌, None, ap, is_some, length, sym, ◌∙◌, subst, arith}
use Rattle.channel_trace.specs.Runs.{got_of}
use Rattle.page_kept.specs.Items.{item_of}
use Rattle.ring_machine.specs.Endings.{refused}
use Rattle.ring_machine.specs.States.{IsPacket}
use Rattle.ring_sleep.proofs.Telling.{tells_on}
use Rattle.worker_port.specs.declared.found.Found.TheVariants.{Packet as FoundPacket}
use Rattle.page_kept.specs.Kept.{pages_took}
use Rattle.page_kept.specs.Layouts.{layout}
use Rattle.ring_machine.specs.PageCalls.{newest}
use Rattle.ring_machine.specs.declared.machine.Stage.TheVariants.{Idle}
use Rattle.worker_port.specs.Line.{Line, TookOne, found_of, line_of, page_words}
use Rattle.worker_port.specs.Rooms.{GotInto}
use Rattle.worker_port.specs.Tries.{FoundNone}
use Rattle.worker_port.proofs.ItemLaws.{line_got}
use Rattle.worker_port.proofs.PageLaws.{TakenWhole, taken_whole}
use Rattle.worker_port.proofs.RoomLaws.{got_one, got_same}
use Rattle.worker_port.proofs.TakeLaws.{a_packet, commit_past, found_none, no_packet, no_refusal, one_taken, refused_line, refused_pages, refused_room, refused_took, taken_got, taken_past, took_idle, took_pages_of}
use Rattle.worker_port.specs.Homes.{TakesHome}
use Rattle.worker_port.proofs.HomeLaws.{home_same}
use Rattle.worker_port.proofs.TakeLaws.{refused_list, taken_home, takes_none}
use Rattle.ring_machine.specs.Steps.{is_busy_at}
use Rattle.ring_end_history.specs.Calls.{CommitCall, TakeCall}
use Rattle.ring_end_history.proofs.Joining.{came_call, came_trans}
use Rattle.worker_port.proofs.CameLaws.{came_on}
use Rattle.worker_port.proofs.port.Port.take.Given.{Over}
use Rattle.worker_port.proofs.port.Port.take.Goals.{After-commit, After-items_fit, After-load_all, After-take_in}
use Rattle.worker_port.proofs.port.Port.take.Goals as goal

-- before the take, the end is in no call
rested : (g : Over) (c : After-take_in g) → c.self.inside.end.state.machine.stage ≡ Idle
rested g c = ap (λ (x : Line _). x.state.machine.stage) c.self.view_is ∙ c.requires.ready.idle

-- nothing was taken
module _ (g : Over) (c : After-items_fit g) where
  none : found_of (refused c.take_in.result) ≡ FoundPacket → ⊥
  none = no_packet (refused c.take_in.result) c.found_by-found.result c.found_by-found.ensures (sym c.has_packet.ensures ∙ c.if-not-has_packet.true)

  same_pages : c.take_in.new.self.state.pages ≡ c.self.inside.end.state.pages
  same_pages =
      let idle = ap (λ (x : Line _). x.state.machine.stage) c.self.view_is ∙ c.requires.ready.idle in
      refused_pages c.self.inside.end c.take_in.new.self (refused c.take_in.result) none c.take_in.ensures.takes idle (c.take_in.ensures.pages idle)

-- a packet was taken
module _ (g : Over) (c : After-load_all g) where
  is : c.found_by-found.result ≡ FoundPacket
  is = a_packet c.found_by-found.result (sym c.has_packet.ensures ∙ c.if-not-has_packet.false)

  took : refused c.take_in.result ≡ None
  took = no_refusal (refused c.take_in.result) (sym c.found_by-found.ensures ∙ is)

  gone : c.take_in.new.self.state.pages ≡ pages_took (layout c.self.inside.end.state.pages.count) c.self.inside.end.state.pages (newest c.take_in.new.self.state.got)
  gone =
      let idle = ap (λ (x : Line _). x.state.machine.stage) c.self.view_is ∙ c.requires.ready.idle in
      took_pages_of c.self.inside.end c.take_in.new.self (refused c.take_in.result) c.take_in.ensures.takes idle took (c.take_in.ensures.pages idle)

  loaded : TakenWhole g.S.Seatlike.told g.S.Seatlike.same c.self.inside.end.state.pages (c.take_in.ensures.took took).words c.take_in.new.self c.load_all.new.end
  loaded =
      let old = c.self.inside.end in
      let gets = c.take_in.ensures.took took in
      taken_whole g.S.Seatlike.told g.S.Seatlike.tale g.S.Seatlike.same g.met.S.Seatlike.same_refl old.state.pages c.take_in.new.self c.load_all.new.end gets.words old.state.got gets.list c.self.invariant.line.pages.clear gone c.load_all.ensures.loads c.load_all.ensures.none

past_on : (g : Over) (c : After-commit g) → c.commit.new.self.state.past ≡ c.load_all.new.end.state.past
past_on g c = c.commit.ensures.past ∙ commit_past c.commit.new.self.state.machine.ended c.commit.new.self.state.machine.saw c.load_all.new.end.state.past c.commit.ensures.answer.1

pub load_all-requires-clause-room : goal.load_all-requires-clause-room
load_all-requires-clause-room g c =
    let v = c.self.view_is in
    let takes = c.take_in.ensures.takes in
    omega (arith, c.requires.room.1, ap (λ (x : Line _). x.state.machine.cells) v, ap (λ (x : Line _). x.spare_got.words) v, ap (λ (x : Line _). page_words x.end.state.pages.count 1) v, ap (λ n. page_words n 1) c.take_in.ensures.count, takes.room.1, takes.cells, c.stands_inside.ensures.len)

pub commit-requires-clause-idle : goal.commit-requires-clause-idle
commit-requires-clause-idle g c =
    let s = goal.at.commit-requires-clause-idle g c in
    ap (λ m. m.stage) c.load_all.ensures.kept.machine ∙ took_idle c.self.inside.end c.take_in.new.self (refused c.take_in.result) c.take_in.ensures.takes (rested g s.After-take_in) (took g s.After-load_all)

pub commit-requires-clause-clear : goal.commit-requires-clause-clear
commit-requires-clause-clear g c = (loaded g (goal.at.commit-requires-clause-clear g c).After-load_all).pages.clear

pub invariant_of-self : goal.invariant_of-self
invariant_of-self g c =
    let s = goal.at.invariant_of-self g c in
    let v = c.self.view_is in
    let old = c.self.inside.end in
    let mid = c.take_in.new.self in
    let idle = rested g s.After-take_in in
    let line = refused_line old mid (refused c.take_in.result) (none g s.After-items_fit) c.take_in.ensures.takes idle (same_pages g s.After-items_fit) (ap (λ (x : Line _). x.state.machine.marked) v ∙ c.requires.ready.unmarked) c.self.invariant.line in
    record { line = line; came = came_on g.S.Seatlike.tale old mid c.self.invariant.came (came_call g.S.Seatlike.tale g.S.Seatlike.told TakeCall old mid idle (c.take_in.ensures.takes.idle idle).ran line.rests) }

pub invariant_of-self-2 : goal.invariant_of-self-2
invariant_of-self-2 g c =
    let s = goal.at.invariant_of-self-2 g c in
    let v = c.self.view_is in
    let old = c.self.inside.end in
    let mid = c.take_in.new.self in
    let whole = c.load_all.new.end in
    let new = c.commit.new.self in
    let takes = c.take_in.ensures.takes in
    let idle = rested g s.After-take_in in
    let t = took g s.After-load_all in
    let line = one_taken old mid whole new (refused c.take_in.result) takes (c.take_in.ensures.took t) (loaded g s.After-load_all) (past_on g s.After-commit) c.commit.ensures.kept c.self.invariant.line (ap (λ (x : Line _). x.state.machine.marked) v ∙ c.requires.ready.unmarked) c.commit.ensures.after c.commit.ensures.leaves.cells c.items_fit-2.ensures.items c.items_fit-2.ensures.bare in
    let tale = g.S.Seatlike.tale in
    let told = g.S.Seatlike.told in
    let at = took_idle old mid (refused c.take_in.result) takes idle t in
    let took_one = came_call tale told TakeCall old mid idle (takes.idle idle).ran (ap is_busy_at at) in
    let gave_back = came_call tale told CommitCall whole new (ap (λ m. m.stage) c.load_all.ensures.kept.machine ∙ at) c.commit.ensures.ran line.rests in
    record { line = line; came = came_on tale old new c.self.invariant.came (came_trans tale old mid new took_one (came_trans tale mid whole new c.load_all.ensures.came gave_back)) }

pub returns-then-not-has_packet-clause-stays : goal.returns-then-not-has_packet-clause-stays
returns-then-not-has_packet-clause-stays g c =
    let v = c.self.view_is in
    let takes = c.take_in.ensures.takes in record {
      tells = tells_on _ _ _ _ _ _ (takes.idle (rested g (goal.at.returns-then-not-has_packet-clause-stays g c).After-take_in)).ran ∙ ap (λ (x : Line _). is_some (g.S.Seatlike.told x.seat)) v;
      same = record {
        seat = g.met.S.Parks.same_channel _ _ takes.same_seat ∙ ap (λ (x : Line _). g.S.Parks.channel x.end.seat) v;
        side = takes.side ∙ ap (λ (x : Line _). x.end.state.machine.side) v;
        pages = c.take_in.ensures.count ∙ ap (λ (x : Line _). x.end.state.pages.count) v;
      };
      cells = takes.cells ∙ ap (λ (x : Line _). x.state.machine.cells) v;
      side = takes.side ∙ ap (λ (x : Line _). x.state.machine.side) v;
    }

pub returns-clause-stays : goal.returns-clause-stays
returns-clause-stays g c =
    let s = goal.at.returns-clause-stays g c in
    let v = c.self.view_is in
    let w = loaded g s.After-load_all in
    let takes = c.take_in.ensures.takes in
    let commit = c.commit.ensures in record {
      tells = tells_on _ _ _ _ _ _ commit.ran ∙ (w.tells ∙ (tells_on _ _ _ _ _ _ (takes.idle (rested g s.After-take_in)).ran ∙ ap (λ (x : Line _). is_some (g.S.Seatlike.told x.seat)) v));
      same = record {
        seat = g.met.S.Parks.same_channel _ _ commit.same ∙ (g.met.S.Parks.same_channel _ _ c.load_all.ensures.same ∙ (g.met.S.Parks.same_channel _ _ takes.same_seat ∙ ap (λ (x : Line _). g.S.Parks.channel x.end.seat) v));
        side = commit.leaves.side ∙ (ap (λ m. m.side) w.machine ∙ (takes.side ∙ ap (λ (x : Line _). x.end.state.machine.side) v));
        pages = ap (λ k. k.count) commit.kept.pages ∙ (w.pages.count ∙ ap (λ (x : Line _). x.end.state.pages.count) v);
      };
      cells = commit.leaves.cells ∙ (ap (λ m. m.cells) w.machine ∙ (takes.cells ∙ ap (λ (x : Line _). x.state.machine.cells) v));
      side = commit.leaves.side ∙ (ap (λ m. m.side) w.machine ∙ (takes.side ∙ ap (λ (x : Line _). x.state.machine.side) v));
    }

pub returns-then-not-has_packet-clause-list : goal.returns-then-not-has_packet-clause-list
returns-then-not-has_packet-clause-list g c = subst (λ (x : Line _). got_of x.state.past ≡ x.state.got) c.self.view_is (line_got g.T.Protocol.said c.self.inside.end c.self.invariant.line)

pub returns-clause-list : goal.returns-clause-list
returns-clause-list g c = subst (λ (x : Line _). got_of x.state.past ≡ x.state.got) c.self.view_is (line_got g.T.Protocol.said c.self.inside.end c.self.invariant.line)

pub returns-then-not-has_packet-clause-took : goal.returns-then-not-has_packet-clause-took
returns-then-not-has_packet-clause-took g c =
    let s = goal.at.returns-then-not-has_packet-clause-took g c in
    let said = g.T.Protocol.said in
    let new = (line_of said c.take_in.new.self).state in
    subst (λ (x : Line _). TookOne c.found_by-found.result x.state new) c.self.view_is
    (subst (λ f. TookOne f (line_of said c.self.inside.end).state new) (sym c.found_by-found.ensures)
    (refused_took c.self.inside.end c.take_in.new.self (refused c.take_in.result) (none g s.After-items_fit) c.take_in.ensures.takes (rested g s.After-take_in) said (same_pages g s.After-items_fit)))

pub returns-then-not-has_packet-clause-none : goal.returns-then-not-has_packet-clause-none
returns-then-not-has_packet-clause-none g c = λ _.
    let s = goal.at.returns-then-not-has_packet-clause-none g c in
    let v = c.self.view_is in
    let room = refused_room c.self.inside.end c.take_in.new.self (refused c.take_in.result) (none g s.After-items_fit) c.take_in.ensures.takes (rested g s.After-take_in) g.T.Protocol.said (same_pages g s.After-items_fit) in
    (room.0 ∙ ap (λ (x : Line _). x.state.got) v, room.1 ∙ ap (λ (x : Line _). x.spare_got) v)

pub returns-then-not-has_packet-clause-into : goal.returns-then-not-has_packet-clause-into
returns-then-not-has_packet-clause-into g c =
    let s = goal.at.returns-then-not-has_packet-clause-into g c in
    let old = c.self.inside.end in
    let mid = c.take_in.new.self in
    let said = g.T.Protocol.said in
    let room = refused_room old mid (refused c.take_in.result) (none g s.After-items_fit) c.take_in.ensures.takes (rested g s.After-take_in) said (same_pages g s.After-items_fit) in
    subst (λ (x : Line _). GotInto x (line_of said mid)) c.self.view_is (got_same (line_of said old) (line_of said mid) (ap (λ k. k.count) (same_pages g s.After-items_fit)) room.0 room.1)

pub returns-clause-took : goal.returns-clause-took
returns-clause-took g c =
    let s = goal.at.returns-clause-took g c in
    let old = c.self.inside.end in
    let mid = c.take_in.new.self in
    let whole = c.load_all.new.end in
    let new = c.commit.new.self in
    let gets = c.take_in.ensures.took (took g s.After-load_all) in
    let w = loaded g s.After-load_all in
    let said = g.T.Protocol.said in
    let i = item_of gets.words w.words in
    subst (λ f. TookOne f c.args.self.now.state (line_of said new).state) (sym (is g s.After-load_all))
    (subst (λ (x : Line _). TookOne FoundPacket x.state (line_of said new).state) c.self.view_is (
      said i,
      taken_past old mid whole new (refused c.take_in.result) c.take_in.ensures.takes gets w (past_on g s.After-commit) c.commit.ensures.kept c.self.invariant.line said,
      taken_got old mid whole new (refused c.take_in.result) c.take_in.ensures.takes gets w (past_on g s.After-commit) c.commit.ensures.kept c.self.invariant.line said,
      subst IsPacket (sym (g.T.Protocol.said_packet i)) gets.packet,
    ))

pub returns-clause-sent : goal.returns-clause-sent
returns-clause-sent g c =
    c.commit.ensures.kept.spare_sent ∙ (c.load_all.ensures.kept.spare_sent ∙ (c.take_in.ensures.takes.kept.1 ∙ ap (λ (x : Line _). x.spare_sent) c.self.view_is))

pub returns-clause-into : goal.returns-clause-into
returns-clause-into g c =
    let s = goal.at.returns-clause-into g c in
    let old = c.self.inside.end in
    let mid = c.take_in.new.self in
    let new = c.commit.new.self in
    let takes = c.take_in.ensures.takes in
    let gets = c.take_in.ensures.took (took g s.After-load_all) in
    let w = loaded g s.After-load_all in
    let said = g.T.Protocol.said in
    let k = c.commit.ensures.kept in
    let got = taken_got old mid c.load_all.new.end new (refused c.take_in.result) takes gets w (past_on g s.After-commit) k c.self.invariant.line said in
    subst (λ (x : Line _). GotInto x (line_of said new)) c.self.view_is
    (got_one (line_of said old) (line_of said mid) (line_of said new) (said (item_of gets.words w.words)) mid.state.machine.len (ap (λ x. x.count) k.pages ∙ w.pages.count) got (ap length (g.T.Protocol.said_packet (item_of gets.words w.words)) ∙ gets.size) takes.room.0 takes.room.1
    (omega (arith, w.packets_room, ap (λ r. r.packets) k.spare_got)) (omega (arith, w.words_room, ap (λ r. r.words) k.spare_got)))

pub returns-then-not-has_packet-clause-looked : goal.returns-then-not-has_packet-clause-looked
returns-then-not-has_packet-clause-looked g c = λ nothing.
    let idle = rested g (goal.at.returns-then-not-has_packet-clause-looked g c).After-take_in in
    subst (λ (x : Line _). FoundNone g.S.Seatlike.told g.S.Seatlike.tale x.end c.take_in.new.self) c.self.view_is
    (found_none g.S.Seatlike.told g.S.Seatlike.tale c.self.inside.end c.take_in.new.self (refused c.take_in.result) (c.take_in.ensures.takes.idle idle) (sym c.found_by-found.ensures ∙ nothing))

pub returns-then-not-has_packet-clause-home : goal.returns-then-not-has_packet-clause-home
returns-then-not-has_packet-clause-home g c =
    let s = goal.at.returns-then-not-has_packet-clause-home g c in
    let old = c.self.inside.end in
    let mid = c.take_in.new.self in
    let not = none g s.After-items_fit in
    let takes = c.take_in.ensures.takes in
    let pages = same_pages g s.After-items_fit in
    let said = g.T.Protocol.said in
    subst (λ (x : Line _). TakesHome c.found_by-found.result x (line_of said mid)) c.self.view_is
    (takes_none c.found_by-found.result (line_of said old) (line_of said mid) (λ is. not (sym c.found_by-found.ensures ∙ is))
    (home_same old.state mid.state takes.side (refused_list old mid (refused c.take_in.result) not takes (rested g s.After-take_in)) (ap (λ k. k.count) pages) (ap (λ k. k.sent) pages) (ap (λ k. k.owners) pages)))

pub returns-clause-home : goal.returns-clause-home
returns-clause-home g c =
    let s = goal.at.returns-clause-home g c in
    let new = c.commit.new.self in
    let gets = c.take_in.ensures.took (took g s.After-load_all) in
    let said = g.T.Protocol.said in
    subst (λ f. TakesHome f c.args.self.now (line_of said new)) (sym (is g s.After-load_all))
    (subst (λ (x : Line _). TakesHome FoundPacket x (line_of said new)) c.self.view_is
    (taken_home c.self.inside.end c.take_in.new.self c.load_all.new.end new (refused c.take_in.result) c.take_in.ensures.takes gets (loaded g s.After-load_all) (past_on g s.After-commit) c.commit.ensures.kept c.self.invariant.line said g.T.Protocol.said_packet (gone g s.After-load_all) c.commit.ensures.leaves.side))
