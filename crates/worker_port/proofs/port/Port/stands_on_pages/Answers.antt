use Rattle.std.proofs.Common.{◌≡◌, ◌≢◌, ◌∙◌, ap, map, length, subst, Some}
use Rattle.channel_trace.specs.Runs.{got_of, sent_of}
use Rattle.page_kept.specs.Items.{packets}
use Rattle.ring_core.specs.Pages.{IsClear}
use Rattle.ring_core.specs.declared.told.Told.{Told}
use Rattle.worker_port.specs.Line.{Line}
use Rattle.worker_port.proofs.ItemLaws.{line_got}
use Rattle.worker_port.proofs.ItemRuns.{items_got, items_sent, whole_is}
use Rattle.worker_port.proofs.port.Port.stands_on_pages.Goals as goal

pub returns : goal.returns
returns g c =
    let v = c.self.view_is in
    let f = g.T.Protocol.said in
    let e = c.self.inside.end in
    let h = c.self.invariant.line in
    record {
      clear = subst (λ (x : Line _). IsClear x.end.state.pages) v h.pages.clear;
      items = subst (λ (x : Line _). x.end.state.pages.count ≢ 0 → (packets x.end.state.pages.sent ≡ x.end.state.sent) × (packets x.end.state.pages.got ≡ x.end.state.got)) v h.pages.items;
      read = subst (λ (x : Line _). x.end.state.pages.count ≢ 0 → (sent_of x.state.past ≡ map f x.end.state.pages.sent) × (got_of x.state.past ≡ map f x.end.state.pages.got)) v
          (λ some. (items_sent f e h ∙ ap (map f) (whole_is e.state.sent e.state.pages.sent (h.pages.items some).0), items_got f e h ∙ ap (map f) (whole_is e.state.got e.state.pages.got (h.pages.items some).1)));
      listed = subst (λ (x : Line _). length x.end.state.pages.owners ≡ x.end.state.pages.count) v h.pages.listed;
      got = subst (λ (x : Line _). got_of x.state.past ≡ x.state.got) v (line_got f e h);
      told = subst (λ (x : Line _). (u : Told) → g.S.Seatlike.told x.seat ≡ Some u → u.state ≡ x.end.state) v c.items_fit.ensures.told;
    }
