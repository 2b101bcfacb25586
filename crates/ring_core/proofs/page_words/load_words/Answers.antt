use Rattle.std.proofs.Common.{◌≡◌, ℕ, ◌+◌, ◌<◌, List, Some, refl, sym, ap, ◌∙◌, subst, inr, arith}
use Rattle.page_kept.specs.declared.page_call.PageCall.TheVariants.{LoadWords}
use Rattle.page_table.specs.Table.{Table}
use Rattle.ring_machine.specs.declared.machine.EndMachine.{EndMachine}
use Rattle.ring_machine.specs.declared.page_core.PageCore.{PageCore}
use Rattle.ring_machine.specs.PageCalls.{ContinuesPage, page_op, pages_fed}
use Rattle.ring_core.specs.Pages.{resting_in}
use Rattle.ring_core.specs.Told.{answer_of, memory_after, told_page}
use Rattle.ring_core.proofs.Loading.{LoadedSome, core_at, core_more, loaded_off, loads_at, paging_asks, some_all, some_more, core_first, some_first}
use Rattle.ring_core.proofs.Paging.{due_inside}
use Rattle.ring_core.proofs.page_words.load_words.Goals as goal

pub loop-word-preserved : goal.loop-word-preserved
loop-word-preserved g c =
    let core = c.args.core.now in
    let table = c.args.table.now in
    let from = c.args.seat.now in
    let rests = c.requires.rests in
    let l = c.loop-word in
    let s = c.page_step-v in
    let q = c.args.page in
    let n = c.args.words in
    let told = g.S.Seatlike.told in
    let tale = g.S.Seatlike.tale in
    let lt : l.word < n = omega (arith, c.loop-word-test.true, l.auto.word-end) in
    record {
      loaded = λ sent got past at.
          let more = some_more core.machine core.pages sent got past table q n l.word s.result l.table.copy (told from) (told l.seat) (told s.new.seat) (tale from) (tale l.seat) (tale s.new.seat) (l.invariant.loaded sent got past at) lt s.ensures.silent
          (λ u e. s.ensures.tells u e ∙ ap (λ (k : PageCore). Some (told_page u k.call s.result)) l.invariant.pages)
          (λ x op e o. subst (λ (m : EndMachine). ((tale s.new.seat).memory ≡ Some (memory_after m.cells op x)) × (s.result ≡ answer_of m.cells op x)) l.invariant.machine
          (s.ensures.runs x op e (ap (λ (k : PageCore). page_op k.call) l.invariant.pages ∙ o))) s.ensures.hears in
          subst (λ (copy : List ℕ). LoadedSome (resting_in core.machine core.pages sent got past table) core.pages sent got table q n (l.word + 1) copy (told from) (told s.new.seat) (tale from) (tale s.new.seat)) (sym (ap (λ (t : Table). t.copy) c.set_word.ensures)) more;
      machine = s.ensures.machine ∙ l.invariant.machine;
      pages = s.ensures.fed ∙ (ap pages_fed l.invariant.pages ∙ core_more core.pages rests.sent rests.got table q n l.word lt);
      same = g.met.S.Seatlike.same_trans _ _ _ l.invariant.same s.ensures.same;
      cells = s.ensures.cells ∙ l.invariant.cells;
      core = l.invariant.core;
      owners = ap (λ (t : Table). t.owners) c.set_word.ensures ∙ l.invariant.owners;
      counts = ap (λ (t : Table). t.counts) c.set_word.ensures ∙ l.invariant.counts;
    }

pub returns-clause-loads : goal.returns-clause-loads
returns-clause-loads g c =
    let core = c.args.core.now in
    let table = c.args.table.now in
    let l = c.loop-word in
    let n = c.args.words in
    let q = c.args.page in
    let told = g.S.Seatlike.told in
    let tale = g.S.Seatlike.tale in
    let from = c.args.seat.now in
    let all : l.word ≡ n = omega (arith, c.loop-word-test.false, l.auto.word-end) in
    let inside = due_inside core.pages core.machine.stage q n core.fit c.requires.due in
    let end : l.fast.pages ≡ core_at core.pages q n n = subst (λ (j : ℕ). l.fast.pages ≡ core_at core.pages q n j) all l.invariant.pages in
    record {
      ran = λ sent got got' past at long list lent.
          let loaded = subst (λ (j : ℕ). LoadedSome (resting_in core.machine core.pages sent got past table) core.pages sent got table q n j l.table.copy (told from) (told l.seat) (tale from) (tale l.seat)) all (l.invariant.loaded sent got past at) in
          some_all core.machine core.pages sent got past table q n (told from) (told l.seat) (tale from) (tale l.seat) got' l.table l.fast.machine l.fast.pages sent past loaded inside.1 long l.invariant.machine refl refl end l.invariant.owners list lent;
      machine = l.invariant.machine;
      clear = (ap (λ (k : PageCore). k.due) end, ap (λ (k : PageCore). k.call) end ∙ loaded_off q n, ap (λ (k : PageCore). k.count) end);
      table = (l.invariant.owners, l.invariant.counts);
    }

pub loop-word-init : goal.loop-word-init
loop-word-init g c =
    let core = c.args.core.now in
    let table = c.args.table.now in
    let rests = c.requires.rests in
    let inside = due_inside core.pages core.machine.stage c.args.page c.args.words core.fit c.requires.due in
    record {
      loaded = λ sent got past at. some_first core.machine core.pages sent got past table c.args.page c.args.words (g.S.Seatlike.told c.args.seat.now) (g.S.Seatlike.tale c.args.seat.now) inside.1 c.requires.due at;
      machine = c.begin_lent_load.ensures.machine;
      pages = c.begin_lent_load.ensures.pages ∙ core_first core.pages rests.sent rests.got table c.args.page c.args.words inside.1 c.requires.due;
      same = g.met.S.Seatlike.same_refl _;
      cells = rests.fits;
      core = refl;
      owners = refl;
      counts = refl;
    }

pub page_step-v-requires-clause-goes_on : goal.page_step-v-requires-clause-goes_on
page_step-v-requires-clause-goes_on g c = λ u e.
    let core = c.args.core.now in
    let rests = c.requires.rests in
    let l = c.loop-word in
    subst (λ (k : PageCore). ContinuesPage u.state k.call) (sym l.invariant.pages)
    (paging_asks (resting_in core.machine core.pages rests.sent rests.got rests.past c.args.table.now) (LoadWords c.args.page c.args.words 0) (loads_at c.args.page c.args.words l.word) (g.S.Seatlike.told c.args.seat.now)
    (g.S.Seatlike.told l.seat) (g.S.Seatlike.tale c.args.seat.now) (g.S.Seatlike.tale l.seat) l.word (l.invariant.loaded rests.sent rests.got rests.past rests.stands).paging (inr (rests.idle, rests.off, c.requires.due)) u e)
