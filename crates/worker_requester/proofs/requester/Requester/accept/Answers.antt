use Rattle.std.proofs.Common.{◌≡◌, ◌-◌, ◌<◌, ◌≤◌, ap, sym, ◌∙◌, length, subst, arith, true, Some, count_by, is_some}
use Rattle.std.specs.Prelude.{slice_get}
use Rattle.std.proofs.lemmas.List.{length-set}
use Rattle.worker_requester.specs.Asking.{FitsPages, pending}
use Rattle.worker_requester.proofs.Tables.{count_more}
use Rattle.worker_requester.proofs.NextLaws.{at_least}
use Rattle.worker_requester.proofs.AskSteps.{accepted_kept}
use Rattle.worker_requester.proofs.requester.Requester.accept.Goals as goal

pub invariant_of-self : goal.invariant_of-self
invariant_of-self g c =
    let v = c.self.view_is in
    let l = c.self.invariant (ap (λ w. w.end.state.machine.marked) v ∙ c.requires.ready.unmarked) in
    let ok = c.in-Ok.ensures.accepted in
    let lt = c.requires.next in
    let at = at_least (g.T.Protocol.asks c.self.inside.protocol) c.self.inside.next (subst (λ w. w.next < length (g.T.Protocol.asks w.protocol)) (sym v) lt) in
    let answers = subst (λ w. (a : g.row.T-Ask.Denot) → slice_get (g.T.Protocol.asks w.protocol) w.next ≡ Some a → (g.T.Protocol.format w.protocol).has_answer a ≡ true) (sym v) c.requires.answers at.0 at.1 in
    λ _. record {
      pages = subst (λ n. FitsPages (g.T.Protocol.lends c.self.inside.protocol) n c.self.inside.port.end.state) (sym (ap length ok.3 ∙ length-set c.self.inside.table (c.in-Ok.id - 1) (Some c.self.inside.next))) l.pages;
      home = l.home;
      live = accepted_kept (g.T.Protocol.format c.self.inside.protocol) (g.T.Protocol.keeps c.self.inside.protocol) (g.T.Protocol.asks c.self.inside.protocol) _ _ c.in-Ok.id at.0 at.1 answers (ap (λ w. w.waiting) v ∙ c.requires.none) ok.0 ok.1 l.size ok.2 (subst (λ w. w.next ≤ w.starts → count_by is_some w.table ≡ 0) (sym v) c.requires.alone) ok.3 (ap (λ w. w.end.state.machine.asleep) v ∙ c.requires.ready.awake) l.live;
      replies = omega (arith, l.replies, ap pending (ap (λ w. w.waiting) v ∙ c.requires.none), ap (count_by is_some) ok.3, count_more c.self.inside.table c.in-Ok.id c.self.inside.next ok.0 ok.1 ok.2);
      spare = omega (arith, l.spare, ap length ok.3, length-set c.self.inside.table (c.in-Ok.id - 1) (Some c.self.inside.next));
      size = omega (arith, l.size, ap length ok.3, length-set c.self.inside.table (c.in-Ok.id - 1) (Some c.self.inside.next));
      room = l.room;
      side = l.side;
    }
