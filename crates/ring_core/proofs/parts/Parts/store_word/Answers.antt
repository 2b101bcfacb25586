use Rattle.std.proofs.Common.{◌≡◌, Some, refl, sym, ap, ◌∙◌, subst}
use Rattle.page_kept.specs.declared.page_call.PageCall.{PageCall}
use Rattle.page_kept.specs.declared.page_call.PageCall.TheVariants.{StoreWord}
use Rattle.page_table.specs.Table.{Table}
use Rattle.ring_machine.specs.declared.machine.EndMachine.{EndMachine}
use Rattle.ring_machine.specs.declared.page_core.PageCore.{PageCore}
use Rattle.ring_machine.specs.PageCalls.{page_op}
use Rattle.ring_core.specs.Listing.{got_in, sent_in}
use Rattle.ring_core.specs.Told.{answer_of, memory_after, told_page}
use Rattle.ring_core.proofs.Loading.{stored_one}
use Rattle.ring_core.proofs.Laying.{fed_same}
use Rattle.ring_core.proofs.parts.Parts.store_word.Goals as goal

pub returns-clause-ran : goal.returns-clause-ran
returns-clause-ran g c =
    let it = c.args.self.now in
    let s = c.page_step in
    let k = it.core.pages in
    let sent = sent_in it.past.events it.lent.events in
    let got = got_in it.past.events it.lent.events in
    let call : c.begin_page_store.new.self.pages.call ≡ StoreWord c.args.page c.args.word c.args.v = ap (λ (k : PageCore). k.call) c.begin_page_store.ensures.pages in
    stored_one it.core.machine k sent got it.past.events it.table c.args.page 0 c.args.word c.args.v s.result (g.S.Seatlike.told it.seat) (g.S.Seatlike.told s.new.seat) (g.S.Seatlike.tale it.seat) (g.S.Seatlike.tale s.new.seat) c.set_word.new.self it.core.machine k
    sent got it.past.events c.requires.told s.ensures.silent
    (λ u e. s.ensures.tells u e ∙ ap (λ (d : PageCall). Some (told_page u d s.result)) call)
    (λ y op e n. subst (λ (m : EndMachine). ((g.S.Seatlike.tale s.new.seat).memory ≡ Some (memory_after m.cells op y)) × (s.result ≡ answer_of m.cells op y)) c.begin_page_store.ensures.machine (s.ensures.runs y op e (ap page_op call ∙ n))) s.ensures.hears
    refl refl refl refl (sym (fed_same k c.args.page c.args.word c.args.v it.listed.off)) (ap (λ (t : Table). t.owners) c.set_word.ensures) (ap (λ (t : Table). t.copy) c.set_word.ensures)
