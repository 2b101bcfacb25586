use Rattle.std.proofs.Common.{◌≡◌, cond, is_some, length, sym, ap, ◌∙◌, subst, arith}
use Rattle.channel_trace.specs.Runs.{has_marked}
use Rattle.page_kept.specs.Items.{item_of}
use Rattle.ring_sleep.proofs.Telling.{tells_on, told_of}
use Rattle.channel_protocol.specs.Paged.{Lays}
use Rattle.std.proofs.Common.{◌≤◌}
use Rattle.ring_machine.specs.EndCalls.{Send}
use Rattle.ring_machine.specs.Endings.{Leaves, LeavesBy}
use Rattle.ring_machine.specs.States.{past_of, sent_by}
use Rattle.ring_machine.specs.Steps.{is_broken, is_sent}
use Rattle.ring_machine.specs.declared.machine.Stage.TheVariants.{Idle, Stopped}
use Rattle.ring_core.specs.Pages.{along}
use Rattle.worker_port.specs.Line.{Line, Tries, item_sent, line_of, page_words, past_tried, words_sent}
use Rattle.worker_port.specs.Tries.{LaidOnce}
use Rattle.worker_port.proofs.ItemLaws.{got_kept, item_bare, item_sent_is, line_marked, send_past}
use Rattle.worker_port.proofs.PageLaws.{along_few}
use Rattle.worker_port.proofs.PortLaws.{full_tried, honest_tried, not_sent, send_finds, sent_line, tries}
use Rattle.worker_port.proofs.SendLaws.{Carried, carried, lays_sent, sent_by_how}
use Rattle.worker_port.specs.Homes.{SendsHome}
use Rattle.worker_port.proofs.HomeLaws.{home_sent}
use Rattle.worker_port.proofs.PortLaws.{was_sent}
use Rattle.worker_port.proofs.SendLaws.{stored}
use Rattle.ring_end_history.specs.Calls.{SendCall}
use Rattle.ring_end_history.proofs.Joining.{came_call, came_trans}
use Rattle.worker_port.proofs.CameLaws.{came_on}
use Rattle.worker_port.proofs.port.Port.send.Given.{Over}
use Rattle.worker_port.proofs.port.Port.send.Goals.{After-send}
use Rattle.worker_port.proofs.port.Port.send.Goals as goal

-- the send begins as the stores left the end, which can begin a call
idle : (g : Over) (c : After-send g) → c.lay_all.new.end.state.machine.stage ≡ Idle
idle g c = ap (λ m. m.stage) c.lay_all.ensures.kept.0.machine ∙ (ap (λ (x : Line _). x.state.machine.stage) c.self.view_is ∙ c.requires.ready.idle)

kept_pages : (g : Over) (c : After-send g) → Carried c.self.inside.end.state.pages c.send.new.self.state.pages
kept_pages g c =
    let n = c.send.new.self.state in
    carried c.self.inside.end.state.pages c.lay_all.new.end.state.pages n.pages c.args.packet.now c.args.words.now c.lay_all.ensures.pages (is_sent n.machine.ended) (c.send.ensures.pages (idle g c))

pub lay_all-requires-clause-idle : goal.lay_all-requires-clause-idle
lay_all-requires-clause-idle g c = ap (λ (x : Line _). x.state.machine.stage) c.self.view_is ∙ c.requires.ready.idle

pub lay_all-requires-clause-unmarked : goal.lay_all-requires-clause-unmarked
lay_all-requires-clause-unmarked g c = ap (λ (x : Line _). x.state.machine.marked) c.self.view_is ∙ c.requires.ready.unmarked

pub send-requires-clause-room : goal.send-requires-clause-room
send-requires-clause-room g c =
    let v = c.self.view_is in
    let e = c.lay_all.ensures in
    let old = c.self.inside.end in (
      omega (arith, ap (λ r. r.packets) e.kept.0.spare_sent, ap (λ (x : Line _). x.spare_sent.packets) v, c.requires.room.0),
      omega (arith, ap (λ r. r.words) e.kept.0.spare_sent, ap (λ (x : Line _). x.spare_sent.words) v, c.requires.room.1, e.along, along_few old.state.pages c.args.packet.now c.self.invariant.line.pages.held, ap (λ (x : Line _). page_words x.end.state.pages.count 1) v),
    )

pub invariant_of-self : goal.invariant_of-self
invariant_of-self g c =
    let l = c.self.invariant.line in
    let a = c.lay_all.ensures in
    let e = c.send.ensures in
    let v = c.self.view_is in
    let s = (goal.at.invariant_of-self g c).After-send in
    let i = idle g s in
    let n = c.send.new.self.state in
    let pages = kept_pages g s in
    let tells = tells_on _ _ _ _ _ _ (e.ran i) ∙ a.tells in
    let tale = g.S.Seatlike.tale in
    let told = g.S.Seatlike.told in
    let p = c.args.packet.now in
    let line =
    sent_line g.S.Seatlike.told c.self.inside.end c.send.new.self c.args.packet.now tells (λ is. let u = told_of (g.S.Seatlike.told c.lay_all.new.end.seat) (a.tells ∙ is) in (e.honest u.0 u.1).1) (subst (λ m. Leaves m n.machine) a.kept.0.machine (e.leaves i)) (e.answer i).1 (subst (λ m. LeavesBy Send m n.machine) a.kept.0.machine (e.after i))
    ((e.lists i).1 ∙ ap (past_of n.machine.ended n.machine.saw c.args.packet.now) a.kept.0.past) ((e.lists i).0 ∙ ap (λ l. sent_by n.machine l c.args.packet.now) a.kept.0.sent) (e.kept.0 ∙ a.kept.0.got) (e.same.1 ∙ ap (λ m. m.cells) a.kept.0.machine) pages
    c.items_fit.ensures.items c.items_fit.ensures.bare (ap (λ (x : Line _). x.state.machine.marked) v ∙ c.requires.ready.unmarked) l in
    record { line = line; came = came_on tale _ _ c.self.invariant.came (came_trans tale _ c.lay_all.new.end _ a.came (came_call tale told (SendCall p) _ _ i (e.ran i) line.rests)) }

pub returns : goal.returns
returns g c =
    let v = c.self.view_is in
    let l = c.self.invariant.line in
    let a = c.lay_all.ensures in
    let e = c.send.ensures in
    let i = idle g (goal.at.returns g c).After-send in
    let pages = kept_pages g (goal.at.returns g c).After-send in
    let old = c.self.inside.end in
    let laid = c.lay_all.new.end in
    let n = c.send.new.self.state in
    let m = n.machine in
    let p = c.args.packet.now in
    let words = c.args.words.now in
    let said = g.T.Protocol.said in
    let how = c.tried_by-tried.ensures in
    let item = item_sent_is c.args.self.now p words ∙ ap (λ (x : Line _). item_of p (words_sent x.end.state.pages p words)) (sym v) in
    let sent = sent_by_how old c.send.new.self laid.state.pages p words a.pages (is_sent m.ended) (e.pages i) ((e.lists i).0 ∙ ap (λ l. sent_by m l p) a.kept.0.sent) (λ z. (l.pages.items z).0) (λ z. (l.pages.none z).0) (λ z. (c.items_fit.ensures.bare z).0) in
    let fits = subst (λ (x : Line _). length words ≤ along x.end.state.pages p) (sym v) c.requires.lays.fits in
    let tells = ap (λ (x : Line _). is_some (g.S.Seatlike.told x.seat)) v in
    let went_not = not_sent m.ended m c.send.result (e.answer i).1 (e.answer i).0 in
    let went_full = full_tried m.ended m c.send.result (e.answer i).1 (e.answer i).0 in
    record {
      past = send_past said old c.send.new.self p (words_sent old.state.pages p words) l (e.kept.0 ∙ a.kept.0.got) pages.got c.send.result (e.answer i).1 (e.answer i).0 ((e.lists i).1 ∙ ap (past_of m.ended m.saw p) a.kept.0.past) sent
          ∙ (λ j. past_tried (sym how j) (said (sym item j)) (ap (λ (x : Line _). x.state.past) v j));
      lays = subst (λ (x : Line _). Lays p words (along x.end.state.pages p) (item_sent c.args.self.now p words)) v (lays_sent old.state.pages laid.state.pages n.pages p words a.pages fits a.along a.words _ item);
      bare = item_bare c.args.self.now p words;
      tries = subst (λ t. Tries t (line_of said c.send.new.self)) (sym how) (tries laid.state.machine (line_of said c.send.new.self) c.send.result (e.leaves i) (e.answer i).1 (e.answer i).0 e.awake.0 e.awake.1);
      honest = λ is broken. let u = told_of (g.S.Seatlike.told laid.seat) (a.tells ∙ (tells ∙ is)) in honest_tried c.send.result (e.honest u.0 u.1).2 (sym how ∙ broken);
      stays = record {
        tells = tells_on _ _ _ _ _ _ (e.ran i) ∙ (a.tells ∙ tells);
        same = record {
          seat = g.met.S.Parks.same_channel _ _ e.same.0 ∙ (g.met.S.Parks.same_channel _ _ a.same ∙ ap (λ (x : Line _). g.S.Parks.channel x.end.seat) v);
          side = e.same.2 ∙ (ap (λ m. m.side) a.kept.0.machine ∙ ap (λ (x : Line _). x.end.state.machine.side) v);
          pages = pages.count ∙ ap (λ (x : Line _). x.end.state.pages.count) v;
        };
        cells = e.same.1 ∙ (ap (λ m. m.cells) a.kept.0.machine ∙ ap (λ (x : Line _). x.state.machine.cells) v);
        side = e.same.2 ∙ (ap (λ m. m.side) a.kept.0.machine ∙ ap (λ (x : Line _). x.state.machine.side) v);
      };
      got = (got_kept said old.state n (e.kept.0 ∙ a.kept.0.got) pages.got ∙ ap (λ (x : Line _). x.state.got) v, e.kept.1 ∙ (a.kept.1 ∙ ap (λ (x : Line _). x.spare_got) v));
      unmarked = ap (λ (x : Line _). has_marked x.state.past) (sym v) ∙ (line_marked said old.state ∙ (sym l.mark ∙ (ap (λ (x : Line _). x.state.machine.marked) v ∙ c.requires.ready.unmarked)));
      unsent = λ none. e.room.same (went_not (λ is. none (how ∙ is))) ∙ (a.kept.0.spare_sent ∙ ap (λ (x : Line _). x.spare_sent) v);
      found = λ is. let full = went_full (sym how ∙ is) in send_finds (length p) p laid.state n _ _ _ _ (e.ran i) ((e.leaves i).stage ∙ ap (λ h. cond (is_broken h) Stopped Idle) full) full;
      tried = record { laid = laid; lays = subst (λ (x : Line _). LaidOnce g.S.Seatlike.told g.S.Seatlike.tale p words x.end laid) v a.laid; tried = e.ran i };
      full = λ is. went_full (sym how ∙ is);
      home = subst (λ (x : Line _). SendsHome c.tried_by-tried.result p x.end.state n) v
          (home_sent old.state n laid.state.pages p words (stored old.state.pages laid.state.pages p words a.pages) l.pages.listed (e.same.2 ∙ ap (λ x. x.side) a.kept.0.machine) (e.kept.0 ∙ a.kept.0.got) c.tried_by-tried.result (is_sent m.ended)
          (λ is. was_sent m.ended m c.send.result (e.answer i).1 (e.answer i).0 (sym how ∙ is)) (λ none. went_not (λ is. none (how ∙ is))) (e.pages i));
      into = record {
        packets = omega (arith, e.room.packets, ap (λ x. x.packets) a.kept.0.spare_sent, ap (λ (x : Line _). x.spare_sent.packets) v);
        words_is = omega (arith, e.room.words, ap (λ x. x.words) a.kept.0.spare_sent, ap (λ (x : Line _). x.spare_sent.words) v, a.along, along_few old.state.pages p l.pages.held, ap (λ (x : Line _). page_words x.end.state.pages.count 1) v);
      };
    }
