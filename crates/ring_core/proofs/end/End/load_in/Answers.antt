use Rattle.std.proofs.Common.{[], ◌∷◌, ◌++◌, sym, ap, ◌∙◌, subst, arith, ◌≡◌, ℕ, List, length}
use Rattle.page_kept.specs.Items.{values, item_of}
use Rattle.page_table.specs.Table.{word_of}
use Rattle.ring_core.specs.Driven.{Lean}
use Rattle.ring_core.specs.Keeping.{Keeps}
use Rattle.ring_core.specs.Pages.{owed, part_words, last_words, part_len}
use Rattle.ring_core.specs.Seen.{Listed, Seen}
use Rattle.ring_core.proofs.ListLaws.{by_due, keeps_loaded}
use Rattle.page_kept.specs.declared.due.Due.TheVariants.{Clear, Loads as DueLoads}
use Rattle.page_kept.specs.declared.page_call.PageCall.TheVariants.{LoadWords}
use Rattle.ring_machine.specs.PageCalls.{newest}
use Rattle.ring_core.specs.PageRuns.{RanPages}
use Rattle.ring_core.proofs.Paging.{last_more, values_long}
use Rattle.ring_core.proofs.end.End.load_in.Goals as goal

pub returns : goal.returns
returns g c =
    let it = c.self.inside.lean.driven in
    let n = c.load-part.new.self.driven in
    let v = c.self.view_is in
    let e = c.load-part.ensures in
    let k = c.keep_words.ensures in
    let told = g.S.Seatlike.told in
    let tale = g.S.Seatlike.tale in
    record {
      loads = record {
        none = λ h. (let z = e.none (ap (λ (x : Seen _). x.state.pages.due) v ∙ h) in
            (λ i. record { state = (z.1 i).driven.state; seat = (z.1 i).driven.seat; spare_sent = c.self.inside.sent.room; spare_got = (k.none z.0 i).room }) ∙ v);
        all = λ q m j h.
            let d : it.state.pages.due ≡ DueLoads q m j = ap (λ (x : Seen _). x.state.pages.due) v ∙ h in
            let x = e.all (λ z. let y : DueLoads q m j ≡ Clear = sym d ∙ z in cc) in
            let same : DueLoads x.0.page x.0.words 0 ≡ DueLoads q m j = sym x.2.due ∙ d in
            let page : x.0.page ≡ q = cc in
            let count : x.0.words ≡ m = cc in
            let first : 0 ≡ j = cc in
            let last : last_words n.state.pages.got ≡ values x.0.words (word_of n.state.pages.copy x.0.page) = ap last_words x.2.got ∙ last_more it.state.pages.got _ in (
              sym first,
              omega (arith, x.2.few, count),
              record {
                ran = subst (λ (y : ℕ × ℕ). RanPages c.args.self.now.state n.state (LoadWords y.0 y.1 0) (told c.args.self.now.seat) (told n.seat) (tale c.args.self.now.seat) (tale n.seat)) (λ i. (page i, count i))
                    (subst (λ (y : Seen _). RanPages y.state n.state (LoadWords x.0.page x.0.words 0) (told y.seat) (told n.seat) (tale y.seat) (tale n.seat)) v x.2.ran);
                clear = x.2.clear;
                long = ap length last ∙ (values_long x.0.words (word_of n.state.pages.copy x.0.page) ∙ count);
                room = (
                  omega (arith, k.room.0, ap (λ (y : Seen _). y.spare_got.packets) v),
                  omega (arith, k.room.1, ap part_len x.1, ap (λ (y : Seen _). y.spare_got.words) v, count),
                );
              },
            );
        items = λ h.
            let x = e.all (λ z. h (sym (ap (λ (y : Seen _). y.state.pages.due) v) ∙ z)) in
            let words : List ℕ = values x.0.words (word_of n.state.pages.copy x.0.page) in
            let last : last_words n.state.pages.got ≡ words = ap last_words x.2.got ∙ last_more it.state.pages.got (item_of (newest it.state.got) words) in
            x.2.got
            ∙ (ap (λ (w : List ℕ). it.state.pages.got ++ item_of (newest it.state.got) w ∷ []) (sym last)
            ∙ ap (λ (y : Seen _). y.state.pages.got ++ item_of (newest y.state.got) (last_words n.state.pages.got) ∷ []) v);
        kept = record {
          machine = e.kept.0.machine ∙ ap (λ (x : Seen _). x.state.machine) v;
          sent = e.kept.0.sent ∙ ap (λ (x : Seen _). x.state.sent) v;
          got = e.kept.0.got ∙ ap (λ (x : Seen _). x.state.got) v;
          past = e.kept.0.past ∙ ap (λ (x : Seen _). x.state.past) v;
          spare_sent = ap (λ (x : Seen _). x.spare_sent) v;
        };
        same_seat = subst (λ (x : Seen _). g.S.Seatlike.same x.seat n.seat) v e.same;
      };
    }

pub invariant_of-self : goal.invariant_of-self
invariant_of-self g c =
    let old = c.self.inside.lean.driven.state in
    let new = c.load-part.new.self.driven.state in
    let e = c.load-part.ensures in
    let k = c.keep_words.ensures in
    by_due old.pages.due
    (λ d. let z = e.none d in subst (λ (x : Lean _ × Listed). Keeps g.S.Seatlike.pages x.0 c.self.inside.sent x.1) (λ i. (sym z.1 i, sym (k.none z.0) i)) c.self.invariant)
    (λ d.
    let x = e.all d in
    let inside = (e.inside x.0 x.1).0 in
    keeps_loaded (values x.0.words (word_of new.pages.copy x.0.page)) c.self.invariant (λ z. omega (arith, z, inside, e.held.0)) (ap owed x.2.due) x.2.clear e.kept.0.sent e.kept.0.got e.held.0 e.held.1 x.2.got k.list (k.lent x.0 x.1 ∙ ap (λ o. c.self.inside.got.lent ++ part_words new.pages.copy o ∷ []) x.1) e.kept.1
    (g.met.S.Seatlike.same_pages _ _ e.same))
