use Rattle.std.proofs.Common.{◌≡◌, ℕ, suc, ◌+◌, ◌*◌, ◌<◌, ◌≤◌, List, [], ◌∷◌, ◌++◌, Some, length, take, get_or, sym, ap, ◌∙◌, subst, inr, arith}
use Rattle.std.proofs.Math.Seq.{take-length, take-suc}
use Rattle.std.proofs.lemmas.List.{length-take-le}
use Rattle.std.proofs.lemmas.Bool.Decides.{nat_tests}
use Rattle.std.specs.List.{splice}
use Rattle.page_kept.specs.declared.page_call.PageCall.{PageCall}
use Rattle.page_table.specs.Table.{Table}
use Rattle.ring_machine.specs.declared.machine.EndMachine.{EndMachine}
use Rattle.ring_machine.specs.declared.page_core.PageCore.{PageCore}
use Rattle.page_kept.specs.declared.page_call.PageCall.TheVariants.{StoreWord}
use Rattle.ring_machine.specs.declared.state.EndState.{EndState}
use Rattle.ring_machine.specs.PageCalls.{ContinuesPage, page_op, pages_fed}
use Rattle.ring_core.specs.Laying.{RanStores, stored_all}
use Rattle.ring_core.specs.Pages.{Paged, kept_of, resting_in}
use Rattle.ring_core.specs.Told.{answer_of, memory_after, told_page}
use Rattle.ring_core.proofs.Laying.{fed_same, kept_stored, some_more, stored_copy, stored_in, stores_told}
use Rattle.ring_core.proofs.page_words.store_words.Goals as goal

-- once all words are stored, the copy has them
table_is : (k : PageCore) (sent got : Paged) (t t' : Table) (q : ℕ) (xs : List ℕ) → t' ≡ record t { copy = splice t.copy (512 * q) (512 * q + length xs) xs } → length t.copy ≡ 512 * length t.owners → length t.owners ≡ k.count → length xs ≤ 512
    → q < k.count → t' ≡ record t { copy = (stored_all (kept_of k sent got t) q 0 xs).copy }
table_is k sent got t t' q xs set copied count few page = set ∙ (λ i. record t { copy = sym (stored_copy (kept_of k sent got t) q xs (omega (arith, copied, count, few, page))) i })

pub loop-word-preserved : goal.loop-word-preserved
loop-word-preserved g c =
    let core = c.args.core.now in
    let table = c.args.table.now in
    let from = c.args.seat.now in
    let l = c.loop-word in
    let b = c.begin_page_store in
    let s = c.page_step in
    let q = c.args.page in
    let w = l.word in
    let words = c.args.words.now in
    let told = g.S.Seatlike.told in
    let tale = g.S.Seatlike.tale in
    let off = c.requires.rests.off in
    let v = get_or words w 0 in
    let long : w ≡ length (take w words) = sym (length-take-le w words (omega (arith, c.loop-word-test.true))) in
    let more : take (w + 1) words ≡ take w words ++ v ∷ [] = ap (λ (j : ℕ). take j words) (let z : w + 1 ≡ suc w = omega arith in z) ∙ take-suc words w 0 c.loop-word-test.true in
    let machine : b.new.self.machine ≡ core.machine = b.ensures.machine ∙ l.invariant.machine in
    let call = ap (λ (k : PageCore). k.call) b.ensures.pages in
    record {
      ran = λ sent got past at.
          let stored = some_more core.machine core.pages sent got past table q (take w words) w v s.result (told from) (told l.seat) (told s.new.seat) (tale from) (tale l.seat) (tale s.new.seat) long off (l.invariant.ran sent got past at)
          s.ensures.silent
          (λ u e. s.ensures.tells u e ∙ ap (λ (d : PageCall). Some (told_page u d s.result)) call)
          (λ y op e n. subst (λ (m : EndMachine). ((tale s.new.seat).memory ≡ Some (memory_after m.cells op y)) × (s.result ≡ answer_of m.cells op y)) machine (s.ensures.runs y op e (ap page_op call ∙ n))) s.ensures.hears in
          subst (λ (ws : List ℕ). RanStores (resting_in core.machine core.pages sent got past table) (resting_in core.machine core.pages sent got past (stored_in core.machine core.pages sent got past table q ws)) q ws (told from) (told s.new.seat) (tale from) (tale s.new.seat))
          (sym more) stored;
      machine = s.ensures.machine ∙ machine;
      pages = s.ensures.fed ∙ (ap pages_fed b.ensures.pages ∙ (fed_same l.fast.pages q w v (ap (λ (k : PageCore). k.call) l.invariant.pages ∙ off) ∙ l.invariant.pages));
      same = g.met.S.Seatlike.same_trans _ _ _ l.invariant.same s.ensures.same;
      cells = s.ensures.cells ∙ l.invariant.cells;
      table = l.invariant.table;
    }

pub returns-clause-stores : goal.returns-clause-stores
returns-clause-stores g c =
    let core = c.args.core.now in
    let table = c.args.table.now in
    let l = c.loop-word in
    let q = c.args.page in
    let words = c.args.words.now in
    let told = g.S.Seatlike.told in
    let tale = g.S.Seatlike.tale in
    let all : take l.word words ≡ words = (let z : l.word ≡ length words = omega (arith, c.loop-word-test.false, l.auto.word-end) in ap (λ (j : ℕ). take j words) z ∙ take-length words) in
    let some : 0 < length words = grind (arith, nat_tests, c.if-is_empty.ensures) in
    let is = λ (sent got : Paged). table_is core.pages sent got table c.set_words.new.self q words c.set_words.ensures c.lends_in_bounds.ensures.copied c.requires.rests.count c.requires.few (c.requires.may c.requires.rests.sent c.requires.rests.got 0 some).page in
    record {
      ran = λ sent got past at. subst (λ (t : Table). RanStores (resting_in core.machine core.pages sent got past table) (resting_in core.machine core.pages sent got past t) q words (told c.args.seat.now) (told l.seat) (tale c.args.seat.now) (tale l.seat)) (sym (is sent got))
          (subst (λ (ws : List ℕ). RanStores (resting_in core.machine core.pages sent got past table) (resting_in core.machine core.pages sent got past (stored_in core.machine core.pages sent got past table q ws)) q ws (told c.args.seat.now) (told l.seat) (tale c.args.seat.now) (tale l.seat))
          all (l.invariant.ran sent got past at));
      pages = λ sent got. ap (kept_of core.pages sent got) (is sent got) ∙ kept_stored core.machine core.pages sent got [] table q words;
      table = (ap (λ (t : Table). t.owners) c.set_words.ensures, ap (λ (t : Table). t.counts) c.set_words.ensures);
    }

pub begin_page_store-requires-clause-quiet : goal.begin_page_store-requires-clause-quiet
begin_page_store-requires-clause-quiet g c =
    let rests = c.requires.rests in
    let l = c.loop-word in
    record {
      off = ap (λ (k : PageCore). k.call) l.invariant.pages ∙ rests.off;
      clear = ap (λ (k : PageCore). k.due) l.invariant.pages ∙ (c.requires.may rests.sent rests.got l.word c.loop-word-test.true).clear;
    }

pub begin_page_store-requires-clause-page : goal.begin_page_store-requires-clause-page
begin_page_store-requires-clause-page g c =
    let rests = c.requires.rests in
    omega (arith, (c.requires.may rests.sent rests.got c.loop-word.word c.loop-word-test.true).page, ap (λ (k : PageCore). k.count) c.loop-word.invariant.pages)

pub set_words-requires-clause-page : goal.set_words-requires-clause-page
set_words-requires-clause-page g c =
    let rests = c.requires.rests in
    let some : 0 < length c.args.words.now = grind (arith, nat_tests, c.if-is_empty.ensures) in
    omega (arith, (c.requires.may rests.sent rests.got 0 some).page, rests.count)

pub page_step-requires-clause-goes_on : goal.page_step-requires-clause-goes_on
page_step-requires-clause-goes_on g c = λ u e.
    let core = c.args.core.now in
    let rests = c.requires.rests in
    let l = c.loop-word in
    let q = c.args.page in
    let w = l.word in
    let words = c.args.words.now in
    let m = c.requires.may rests.sent rests.got w c.loop-word-test.true in
    let now = resting_in core.machine core.pages rests.sent rests.got rests.past (stored_in core.machine core.pages rests.sent rests.got rests.past c.args.table.now q (take w words)) in
    let at : u.state ≡ now = stores_told _ now q (take w words) _ _ _ _ (l.invariant.ran rests.sent rests.got rests.past rests.stands) u e in
    let begins : ContinuesPage now (StoreWord q w (get_or words w 0)) = inr (rests.idle, rests.off, c.requires.unmarked, record { clear = m.clear; page = m.page; word = m.word; owns = m.owns }) in
    subst (λ (x : EndState × PageCall). ContinuesPage x.0 x.1) (λ i. (sym at i, sym (ap (λ (k : PageCore). k.call) c.begin_page_store.ensures.pages) i)) begins
