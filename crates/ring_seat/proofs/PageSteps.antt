-- A step of a ring keeps the pages' rule: it is a send's store of the write index, a take's last load, or it touches no page.
use Rattle.std.proofs.Common.{rules, ◌≡◌, ◌≢◌, ℕ, ◌+◌, ◌*◌, ◌<◌, ◌≤◌, Bool, true, cond, ltb, List, [], ◌∷◌, ◌++◌, length, take, get_or, set, Some, refl, sym, ap, ◌∙◌, subst, arith, length-set}
use Rattle.std.proofs.lemmas.Bool.Decides.{nat_tests}
use Rattle.std.proofs.Math.Seq.{take-set-lt}
use Rattle.std.proofs.lemmas.List.{get_or-set_other, get_or-take, take-set-le}
use Rattle.io_edge.specs.declared.side.Side.{Side}
use Rattle.page_kept.specs.Items.{packets}
use Rattle.page_kept.specs.Keepers.{Keeper, keeper, MaySend, MayStore}
use Rattle.page_kept.specs.Kept.{pages_sent, pages_took}
use Rattle.page_kept.specs.Layouts.{layout}
use Rattle.page_kept.specs.Stepped.{word_in, page_stored, page_loaded}
use Rattle.page_kept.specs.declared.due.Due.TheVariants.{Loads, Clear}
use Rattle.page_kept.specs.declared.kept.Kept.{Kept}
use Rattle.ring_loan_rule.specs.Laws.{Lawful}
use Rattle.ring_loan_rule.specs.Pages.{PagesOwned}
use Rattle.ring_machine.specs.PageCalls.{with_pages}
use Rattle.ring_seat.proofs.PageLists.{Left, stepped_pages}
use Rattle.ring_seat.proofs.Loading.{loaded}
use Rattle.ring_seat.proofs.PointLaws.{Opens}
use Rattle.ring_seat.specs.PageRule.{is_unsent_at, is_taking_at, keeper_of, PagesPart, page_index}
use Rattle.page_kept.proofs.Loans.{fits}
use Rattle.ring_loan_rule.proofs.Counts.{no_is}
use Rattle.ring_loan_rule.proofs.Flows.{next_of as next_item}
use Rattle.ring_loan_rule.proofs.Keeping.{keeps_sent, keeps_took}
use Rattle.ring_machine.specs.declared.machine.Stage.{Stage}
use Rattle.ring_machine.specs.declared.machine.Stage.TheVariants.{Idle, SendRead, SendWrite, TakeFirst, TakeCell}
use Rattle.ring_machine.specs.declared.machine.EndMachine.{EndMachine}
use Rattle.ring_machine.specs.declared.state.EndState.{EndState}
use Rattle.ring_machine.specs.declared.place.Op.{Op}
use Rattle.ring_machine.specs.declared.place.Op.TheVariants.{Load, TakeSignal}
use Rattle.ring_machine.specs.Places.{words_of, peer_of, index_of, signal_of}
use Rattle.ring_machine.specs.Steps.{fed, fed_at, next_of, is_busy_at}
use Rattle.ring_machine.specs.States.{after, entered, got_after, sent_after, pages_after}
use Rattle.ring_core.specs.Told.{written, answer_in}
use Rattle.ring_seat.specs.Seats.{word_at}
use Rattle.ring_seat.proofs.Places.{word_small}
use Rattle.ring_seat.proofs.Sided.{Sided, stepped}
use Rattle.ring_pair_laws.specs.Ring.{Sending_at, Taking_at}
use Rattle.ring_pair_laws.proofs.Frame.{producer_same, consumer_same}
use Rattle.ring_machine.proofs.Sound.{at_both}
use Rattle.ring_loan_rule.proofs.Steps.{keeps_stored, last_packet, last_is, keeps_loaded}

written_far : (n : ℕ) (op : Op) (ws : List ℕ) (i : ℕ) → word_at n op < words_of n → words_of n ≤ i → get_or (written n op ws) i 0 ≡ get_or ws i 0
written_far n (Load pl) ws i a b = refl
written_far n _ ws i a b = get_or-set_other ws _ i _ 0 (λ e. omega (arith, a, b, e))

written_long : (n : ℕ) (op : Op) (ws : List ℕ) → length (written n op ws) ≡ length ws
written_long n (Load pl) ws = refl
written_long n _ ws = length-set ws _ _

-- the words of the rings after a step on them
pub written_take : (n : ℕ) (op : Op) (ws : List ℕ) → word_at n op < words_of n → take (words_of n) (written n op ws) ≡ written n op (take (words_of n) ws)
written_take n (Load pl) ws a = refl
written_take n _ ws a = take-set-lt (words_of n) ws _ _ a

pub answer_take : (n : ℕ) (op : Op) (ws : List ℕ) → word_at n op < words_of n → answer_in n op (take (words_of n) ws) ≡ answer_in n op ws
answer_take n (Load pl) ws a = get_or-take (words_of n) ws (index_of n pl) 0 a
answer_take n (TakeSignal x) ws a = get_or-take (words_of n) ws (signal_of n x) 0 a
answer_take n _ ws a = refl

-- a send that goes on before its store of the write index, and a take that goes on, leave the pages as they are
module _ (m : EndMachine) (k : Kept) (p xs : List ℕ) (v : ℕ) where
  sends_on : (P : List (List ℕ) → Kept → Type 0) (got : List (List ℕ)) (st : Stage) → m.stage ≡ st → (is_unsent_at st ≡ true → P got k) → is_unsent_at (fed_at st m v).stage ≡ true → P (got_after st m got xs v) (pages_after st m k p xs v)
  sends_on P got Idle i f = λ u. f (sym (ap is_unsent_at i) ∙ u)
  sends_on P got _ i f = let b = ap is_unsent_at i in search rules

  takes_on : (st : Stage) → m.stage ≡ st → (is_taking_at st ≡ true → k.due ≡ Clear) → is_taking_at (fed_at st m v).stage ≡ true → (pages_after st m k p xs v).due ≡ Clear
  takes_on Idle i f = λ u. f (sym (ap is_taking_at i) ∙ u)
  takes_on _ i f = let b = ap is_taking_at i in search rules

-- the pages of an end that knows its part of the rule
lawful : (n c : ℕ) (x : Side) (ws : List ℕ) (e p : EndState) → c ≢ 0 → PagesPart n c ws x e p → Lawful (layout c) e.pages
lawful n c x ws e p some g =
    let m = g.mine.count in
    record { pages = grind (arith, nat_tests, m, some); listed = g.mine.listed ∙ sym m; copied = g.mine.copied ∙ ap (λ (k : ℕ). 512 * k) (sym m); inside = λ q a i. (let d = (fits c q a i).0 in omega (arith, d, m), (fits c q a i).1, (fits c q a i).2) }

module _ (n c : ℕ) (x : Side) (ws : List ℕ) (e p : EndState) (some : c ≢ 0) (s : Sided n x (take (words_of n) ws) e p) (g : PagesPart n c ws x e p) (op : Op) (h : next_of e.machine e.packet ≡ Some op) where
  abbrev v : ℕ
  v = answer_in n op ws

  abbrev W : ℕ → ℕ → ℕ
  W = word_in (words_of n) ws

  abbrev y : Keeper
  y = keeper_of c (peer_of x) p

  pub small : word_at n op < words_of n
  small = word_small e.machine e.packet op (word_at n op) (words_of n) s.both.fits.sound h (ap (λ (k : ℕ). word_at k op) (sym s.both.fits.cells)) (ap words_of (sym s.both.fits.cells))

  pub made : Sided n x (take (words_of n) (written n op ws)) (after e v) p
  made = subst (λ (z : List ℕ × ℕ). Sided n x z.0 (after e z.1) p) (λ j. (sym (written_take n op ws small) j, answer_take n op ws small j)) (stepped n x (take (words_of n) ws) e p s op h)

  fit : Lawful (layout c) e.pages
  fit = lawful n c x ws e p some g

  words_same : word_in (words_of n) (written n op ws) ≡ W
  words_same =
      (λ j q w. cond (ltb w 512) (written_far n op ws (words_of n + (512 * q + w)) small (omega arith) j) 0)

  -- what the end's part is after the step
  abbrev Owned : List (List ℕ) → Kept → Type 0
  Owned took k = PagesOwned (layout c) x W (keeper (layout c) x took k) y

  -- the packet that a take's last load completes is the next one of the peer
  taken : (q : List ℕ) → (after e v).got ≡ e.got ++ q ∷ [] → e.pages.due ≡ Clear → Owned (e.got ++ q ∷ []) (pages_took (layout c) e.pages q)
  taken q is clear =
      let front : packets p.pages.sent ≡ (e.got ++ q ∷ []) ++ made.both.inn.waiting = g.theirs ∙ (made.both.inn.sent_is ∙ ap (λ (z : List (List ℕ)). z ++ made.both.inn.waiting) is) in
      let i = next_item W y (keeper_of c x e) g.owned.inn clear q made.both.inn.waiting front in
      subst (λ (z : List ℕ). Owned (e.got ++ z ∷ []) (pages_took (layout c) e.pages z)) i.3 (keeps_took (layout c) x W e.got e.pages y fit g.owned clear i.0 i.1 i.2)

  owned_by : (st : Stage) → e.machine.stage ≡ st → Owned (got_after st e.machine e.got e.copied v) (pages_after st e.machine e.pages e.packet e.copied v)
  owned_by SendWrite i = subst (λ (k : ℕ). Owned e.got (pages_sent (layout k) e.pages e.packet)) (sym g.mine.count) (keeps_sent (layout c) x W e.got e.pages y fit g.owned e.packet (g.mine.sending (ap is_unsent_at i)))
  owned_by TakeCell i =
      at_both Owned (ltb (e.machine.done + 1) e.machine.len) _ _ _ _ (λ t. g.owned)
      (λ t. subst (λ (k : ℕ). Owned (e.got ++ (e.copied ++ v ∷ []) ∷ []) (pages_took (layout k) e.pages (e.copied ++ v ∷ []))) (sym g.mine.count)
      (taken (e.copied ++ v ∷ []) (ap (λ (z : Stage). got_after z e.machine e.got e.copied v) i ∙ no_is (ltb (e.machine.done + 1) e.machine.len) _ _ t) (g.mine.taking (ap is_taking_at i))))
  owned_by _ i = g.owned

  unsent_busy : (st : Stage) → is_unsent_at st ≡ true → is_busy_at st ≡ true
  unsent_busy Idle u = absurd (cc)
  unsent_busy _ u = search rules

  pub page_step : PagesPart n c (written n op ws) x (after e v) p
  page_step =
      let m : EndMachine = e.machine in
      let l = stepped_pages m.stage m e.pages e.packet e.copied v in
      record {
        wide = (let w = g.wide in let z = written_long n op ws in omega (arith, w, z));
        mine = record {
          count = l.count ∙ g.mine.count;
          listed = l.listed ∙ g.mine.listed;
          copied = l.copied ∙ g.mine.copied;
          sent = l.sent fit.pages ∙ ap (λ (ps : List (List ℕ)). sent_after m.stage ps e.packet) g.mine.sent;
          sending = λ u. subst (λ (b : Bool). MaySend (layout c) (keeper_of c x (after e v)) (cond b e.packet [])) (sym (unsent_busy (fed m v).stage u)) (sends_on m e.pages e.packet e.copied v (λ (got : List (List ℕ)) (k : Kept). MaySend (layout c) (keeper (layout c) x got k) e.packet) e.got m.stage refl g.mine.sending u);
          taking = takes_on m e.pages e.packet e.copied v m.stage refl g.mine.taking;
        };
        theirs = g.theirs;
        owned = subst (λ (z : ℕ → ℕ → ℕ). PagesOwned (layout c) x z (keeper_of c x (after e v)) y) (sym words_same) (owned_by m.stage refl);
      }

pub part_begun : (n c : ℕ) (x : Side) (ws : List ℕ) (e p : EndState) (m : EndMachine) (q : List ℕ) → c ≢ 0 → e.machine.side ≡ x → PagesPart n c ws x e p → Opens e m q → PagesPart n c ws x (entered e m q) p
part_begun n c x ws e p m q some side g o = record {
  wide = g.wide;
  mine = record {
    count = g.mine.count;
    listed = g.mine.listed;
    copied = g.mine.copied;
    sent = g.mine.sent;
    sending = λ u. subst (λ (z : ℕ × Side). MaySend (layout z.0) (keeper (layout z.0) z.1 e.got e.pages) q) (λ j. (g.mine.count j, side j)) (o.sends u (λ z. some (sym g.mine.count ∙ z)));
    taking = o.takes;
  };
  theirs = g.theirs;
  owned = g.owned;
}

-- the rings don't see an end's pages
module _ (n : ℕ) (x : Side) (ws : List ℕ) (e p : EndState) (k : Kept) (s : Sided n x ws e p) where
  abbrev e' : EndState
  e' = with_pages e k

  sending_aside : (st : Stage) (f : ℕ → ℕ) (w r : ℕ) → Sending_at st n f w r e → Sending_at st n f w r e'
  sending_aside SendRead f w r t = t
  sending_aside _ f w r t = t

  taking_aside : (st : Stage) (ps : List (List ℕ)) → Taking_at st n e ps → Taking_at st n e' ps
  taking_aside TakeFirst ps t = record { first = t.first; mid = t.mid; rest = t.rest; waiting_is = t.waiting_is; seen = t.seen }
  taking_aside TakeCell ps t = record { first = t.first; mid = t.mid; rest = t.rest; waiting_is = t.waiting_is; seen = t.seen; len = t.len; copied = t.copied }
  taking_aside _ ps t = t

  pub aside : Sided n x ws e' p
  aside = record {
    both = record {
      words = s.both.words;
      fits = record { side = s.both.fits.side; cells = s.both.fits.cells; sound = s.both.fits.sound };
      peer_fits = s.both.peer_fits;
      out = producer_same n _ e e' p s.both.out refl refl (sending_aside e.machine.stage _ _ _ s.both.out.sending);
      inn = consumer_same n _ p e e' s.both.inn refl refl refl (taking_aside e.machine.stage _ s.both.inn.taking);
      past = record { sent = s.both.past.sent; got = s.both.past.got; marked = s.both.past.marked; seen = s.both.past.seen; drained = s.both.past.drained; word = s.both.past.word };
      peers = s.both.peers;
      turns = s.both.turns;
      run = s.both.run;
      mine = s.both.mine;
      others = s.both.others;
    };
    mine = record { goes = s.mine.goes; point = s.mine.point; committed = s.mine.committed; words = s.mine.words };
    peers = s.peers;
    wakes = s.wakes;
    peers_wakes = s.peers_wakes;
  }

-- a page call of an end that neither sends nor takes
module _ (n c : ℕ) (x : Side) (ws : List ℕ) (e0 p0 : EndState) (some : c ≢ 0) (s : Sided n x (take (words_of n) ws) e0 p0) (g : PagesPart n c ws x e0 p0) (unsent : is_unsent_at e0.machine.stage ≡ true → ⊥) (untaken : is_taking_at e0.machine.stage ≡ true → ⊥) where
  abbrev pub y0 : Keeper
  y0 = keeper_of c (peer_of x) p0

  pub fit0 : Lawful (layout c) e0.pages
  fit0 = lawful n c x ws e0 p0 some g

  pub all : words_of n + 512 * e0.pages.count ≤ length ws
  all = let w = g.wide in let z = g.mine.count in omega (arith, w, z)

  -- the rest, where the pages become k and the words ws'
  rebuilt : (k : Kept) (ws' : List ℕ) → length ws' ≡ length ws → take (words_of n) ws' ≡ take (words_of n) ws → Left e0.pages k (packets e0.pages.sent) → PagesOwned (layout c) x (word_in (words_of n) ws') (keeper (layout c) x e0.got k) y0
      → Sided n x (take (words_of n) ws') (with_pages e0 k) p0 × PagesPart n c ws' x (with_pages e0 k) p0
  rebuilt k ws' long same l owned = (
    subst (λ (z : List ℕ). Sided n x z (with_pages e0 k) p0) (sym same) (aside n x (take (words_of n) ws) e0 p0 k s),
    record {
      wide = (let w = g.wide in omega (arith, w, long));
      mine = record { count = l.count ∙ g.mine.count; listed = l.listed ∙ g.mine.listed; copied = l.copied ∙ g.mine.copied; sent = l.sent fit0.pages ∙ g.mine.sent; sending = λ u. absurd (unsent u); taking = λ u. absurd (untaken u) };
      theirs = g.theirs;
      owned = owned;
    },
  )

  pub store_keeps : (q w v : ℕ) → MayStore (layout c) x e0.pages q w
      → Sided n x (take (words_of n) (set ws (page_index n q w) v)) (with_pages e0 (page_stored e0.pages q w v)) p0 × PagesPart n c (set ws (page_index n q w) v) x (with_pages e0 (page_stored e0.pages q w v)) p0
  store_keeps q w v may =
      rebuilt (page_stored e0.pages q w v) (set ws (page_index n q w) v) (length-set ws _ v) (take-set-le (words_of n) ws (page_index n q w) v (omega arith)) (search rules)
      (keeps_stored (layout c) x (words_of n) ws e0.got e0.pages y0 fit0 all g.owned q w v may)

  module _ (q m j : ℕ) (due : e0.pages.due ≡ Loads q m j) (a : q < c) (b : j < 512) where
    pub within : q < e0.pages.count
    within = let z = g.mine.count in omega (arith, z, a)

    abbrev pub pk : List ℕ
    pk = last_packet (layout c) x (words_of n) ws e0.got e0.pages y0 fit0 all g.owned q m j due within b

    pub pk_is : e0.got ≡ packets e0.pages.got ++ pk ∷ []
    pk_is = last_is (layout c) x (words_of n) ws e0.got e0.pages y0 fit0 all g.owned q m j due within b

    pub load_keeps : Sided n x (take (words_of n) ws) (with_pages e0 (page_loaded e0.pages pk (word_in (words_of n) ws q j))) p0 × PagesPart n c ws x (with_pages e0 (page_loaded e0.pages pk (word_in (words_of n) ws q j))) p0
    load_keeps = rebuilt _ ws refl refl (loaded e0.pages.due e0.pages _ _) (keeps_loaded (layout c) x (words_of n) ws e0.got e0.pages y0 fit0 all g.owned q m j due within b)
