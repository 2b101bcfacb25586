-- The last load of a take: a packet is taken.
use Rattle.std.proofs.Common.{◌≡◌, ◌≢◌, ℕ, ◌+◌, ◌<◌, true, false, eqb, List, [], ◌∷◌, ◌++◌, Some, None, refl, sym, ap, ◌∙◌, subst, arith, append_assoc, inl, ⊎_elim}
use Rattle.std.proofs.lemmas.List.{append-nil}
use Rattle.std.proofs.lemmas.Bool.Decides.{nat_tests}
use Rattle.pkt_desc.specs.Packets.{kind_of, id_of}
use Rattle.io_edge.specs.declared.side.Side.{Side}
use Rattle.page_kept.specs.declared.due.Due.{Due}
use Rattle.page_kept.specs.declared.due.Due.TheVariants.{Clear, Loads}
use Rattle.page_kept.specs.declared.item.Item.{Item}
use Rattle.page_kept.specs.declared.owner.Owner.{Owner}
use Rattle.page_kept.specs.declared.owner.Owner.TheVariants.{Has, Lent, Held}
use Rattle.page_kept.specs.Items.{values, item_of}
use Rattle.page_kept.specs.Layouts.{other_end, Loan, Layout}
use Rattle.page_kept.specs.Counts.{nth, bit, is_ask, is_done}
use Rattle.page_kept.specs.Keepers.{Keeper, taken, ended, back}
use Rattle.ring_loan_rule.specs.Pages.{Took_by, Flow, Home, There, IsLent, AtHome, IsOut, IsThere, IsBack, IsOpen, PagesOwned}
use Rattle.ring_loan_rule.specs.Moves.{set_owner, took_item}
use Rattle.ring_loan_rule.specs.Laws.{InTurn, Next}
use Rattle.ring_loan_rule.proofs.Counts.{packets_append, count_one}
use Rattle.ring_loan_rule.proofs.Frame.{by_page, owner_here, owner_else, At, by_lent, one_lent, Onward, Near}
use Rattle.ring_loan_rule.proofs.Flows.{ask_no_done, done_no_ask, ask_is, done_is, else_ask, else_done, chain, next_nth, next_count}
use Rattle.ring_loan_rule.proofs.Moving.{mine_kept, theirs_kept, moved}
use Rattle.ring_loan_rule.proofs.Sends.{sides_apart}

module _ (l : Layout) (s : Side) (W : ℕ → ℕ → ℕ) (x y : Keeper) (o : PagesOwned l s W x y) (clear : x.due ≡ Clear) (i : Item) (more : List Item) (n : Next y x i more) where
  -- the packet ends no request for which a page is lent, and is no request for which a page is on its way out
  abbrev Unended : ℕ → Type 0
  Unended q = (t m : ℕ) → IsLent l x q t m → is_done t i.packet ≡ false

  abbrev Untaken : ℕ → Type 0
  Untaken q = (t m : ℕ) → IsOut l W y x q t m → is_ask t i.packet ≡ false

  -- what holds of any packet that is taken
  module _ (g : List Item) (f : ℕ → Owner) (d : Due) where
    abbrev new : Keeper
    new = took_item i.packet g f d x

    on : Onward x new
    on = record { items = []; sent = sym (append-nil x.sent); packs = i.packet ∷ []; took = refl }

    taken_is : (t : ℕ) → taken t new ≡ taken t x + bit (is_ask t i.packet)
    taken_is t = count_one (is_ask t) x.took i.packet

    back_is : (t : ℕ) → back t new ≡ back t x + bit (is_done t i.packet)
    back_is t = count_one (is_done t) x.took i.packet

    my_page : (q : ℕ) → l.home q ≡ s → Near x new q → Unended q → At l W new y q
    my_page q h near un = mine_kept l s W W x y new o q (λ w. refl) on near h (λ t m p. omega (arith, back_is t, ap bit (un t m p)))

    peers_page : (q : ℕ) → l.home q ≡ other_end s → Near x new q → Untaken q → At l W y new q
    peers_page q h near un = theirs_kept l s W W x y new o q (λ w. refl) on near h (λ t m p. omega (arith, taken_is t, ap bit (un t m p))) (λ t m p. refl)

    taken_keeps : Flow W y new → ((q : ℕ) → l.home q ≡ s → At l W new y q) → ((q : ℕ) → l.home q ≡ other_end s → At l W y new q)
        → ((q t m : ℕ) → l.home q ≡ s → x.owner q ≡ Lent t m → back t new ≡ back t x → f q ≡ Lent t m)
        → ((q m k : ℕ) → d ≡ Loads q m k → l.home q ≡ s → f q ≡ Has)
        → ((q m k : ℕ) → d ≡ Loads q m k → l.home q ≡ other_end s → (t : ℕ) × (f q ≡ Held t m)) → PagesOwned l s W new y
    taken_keeps inn mine theirs lent due_mine due_theirs = moved l s W W x y new o (record {
      on = on;
      like = λ q m k e w. (refl, refl, refl);
      inn = inn;
      mine = mine;
      theirs = theirs;
      lent = lent;
      asks = λ t k j h. inl h;
      dones = λ t k j h. inl h;
      due_mine = due_mine;
      due_theirs = due_theirs;
      owed = λ t. omega (arith, taken_is t, o.owed t);
    })

  -- no page comes with the packet: the item without words is the one that waits
  plain : i.words ≡ [] → ((q : ℕ) → Unended q) → ((q : ℕ) → Untaken q) → PagesOwned l s W (took_item i.packet (x.got ++ item_of i.packet [] ∷ []) x.owner x.due x) y
  plain bare unended untaken =
      let g : List Item = x.got ++ item_of i.packet [] ∷ [] in
      let is_item : item_of i.packet [] ≡ i = (λ j. record { packet = i.packet; words = sym bare j }) in
      let near : (q : ℕ) → Near x (new g x.owner x.due) q = λ q. record { owner = refl; copy = λ w. refl; due = λ w. refl } in
      taken_keeps g x.owner x.due
      (record {
        rest = more;
        front_is = cc (n.sent, append_assoc x.got (i ∷ []) more, is_item);
        took = subst (λ (e : Due). Took_by e W y (new g x.owner x.due) more) (sym clear) (cc (n.took, packets_append x.got (item_of i.packet [] ∷ [])));
      })
      (λ q h. my_page g x.owner x.due q h (near q) (unended q)) (λ q h. peers_page g x.owner x.due q h (near q) (untaken q)) (λ q t m h e b. e) (λ q m k e h. cc (clear, e)) (λ q m k e h. cc (clear, e))

  -- the words of a page are due: they stand there as the peer had them, and x has so much to do with the page
  module _ (q m : ℕ) (v : Owner) (some : 0 < m) (words : i.words ≡ values m (y.copy q)) (inside : (w : ℕ) → w < m → W q w ≡ y.copy q w) where
    abbrev f : ℕ → Owner
    f = set_owner q v x.owner

    abbrev paged : Keeper
    paged = took_item i.packet x.got f (Loads q m 0) x

    near : (r : ℕ) → r ≢ q → Near x paged r
    near r ne = record { owner = owner_else q v x.owner r ne; copy = λ w. refl; due = λ w. rw clear (grind (arith, nat_tests, ne)) }

    due_keeps : (l.home q ≡ s → (v ≡ Has) × At l W paged y q) → (l.home q ≡ other_end s → ((t : ℕ) × (v ≡ Held t m)) × At l W y paged q)
        → ((r : ℕ) → r ≢ q → Unended r) → ((r : ℕ) → r ≢ q → Untaken r) → ((t k : ℕ) → l.home q ≡ s → x.owner q ≡ Lent t k → back t paged ≡ back t x → ⊥) → PagesOwned l s W paged y
    due_keeps here there unended untaken lost =
        taken_keeps x.got f (Loads q m 0)
        (record {
          rest = i ∷ more;
          front_is = n.sent;
          took = record { item = i; more = more; rest_is = refl; took = ap (λ (k : List (List ℕ)). k ++ i.packet ∷ []) n.took; left = some; words = words; page = inside; loaded = λ w h. absurd (omega (arith, h)) };
        })
        (λ r h. by_page r q (λ same. rw same (here (rw same at h)).1) (λ other. my_page x.got f (Loads q m 0) r h (near r other) (unended r other)))
        (λ r h. by_page r q (λ same. rw same (there (rw same at h)).1) (λ other. peers_page x.got f (Loads q m 0) r h (near r other) (untaken r other)))
        (λ r t k h e b. by_page r q (λ same. absurd (lost t k (rw same at h) (rw same at e) b)) (λ other. owner_else q v x.owner r other ∙ e))
        (λ r k j e h. let same : r ≡ q = cc (e) in rw same (owner_here q v x.owner ∙ (here (rw same at h)).0))
        (λ r k j e h. let same : r ≡ q = cc (e) in let size : k ≡ m = cc (e) in let z = (there (rw same at h)).0 in (z.0, ap f same ∙ (owner_here q v x.owner ∙ (z.1 ∙ ap (Held z.0) (sym size)))))

  -- a request
  module _ (ask : eqb (kind_of i.packet) 11 ≡ false) where
    abbrev t : ℕ
    t = id_of i.packet

    number : nth (is_ask t) (taken t x) y.sent ≡ Some i
    number = next_nth y x i more n (is_ask t) (ask_is i.packet ask)

    -- that lends nothing
    pub take_ask : l.lends i.packet ≡ None → PagesOwned l s W (took_item i.packet (x.got ++ item_of i.packet [] ∷ []) x.owner x.due x) y
    take_ask none_named =
        plain (o.theirs.bare t _ i number none_named) (λ q u m e. ask_no_done u i.packet ask)
        (λ q u m e. by_page u t (λ same. cc (e.lent.item_is, e.lent.names, e.untaken, same, number, none_named)) (λ other. else_ask u i.packet other))

    -- that lends a page
    module _ (a : Loan) (names : l.lends i.packet ≡ Some a) (some : 0 < a.words) where
      turn : InTurn t y x
      turn = chain W y x o.inn o.out o.owed t

      is_open : IsOpen l (other_end s) y t (taken t x) a
      is_open = o.theirs.opens t (taken t x) i a number names (omega (arith, turn.done_taken, turn.done_sent))

      pub is_out : IsOut l W y x a.page t a.words
      is_out =
          by_lent l W y x a.page t a.words is_open.mine (o.theirs.page a.page is_open.home) (λ p. p) (λ p. absurd (omega (arith, p.was_taken, is_open.oldest)))
          (λ p. absurd (omega (arith, p.was_ended, o.owed t, is_open.oldest)))

      words : i.words ≡ values a.words (y.copy a.page)
      words = let same : is_out.lent.item ≡ i = cc (is_out.lent.item_is, is_out.untaken, number) in cc (is_out.lent.words, same)

      is_there : IsThere l W y (paged a.page a.words (Held t a.words) some words (λ w h. is_out.words w)) a.page t a.words
      is_there = record {
        lent = is_out.lent;
        theirs = owner_here a.page _ x.owner;
        was_taken = omega (arith, taken_is x.got x.owner x.due t, ap bit (ask_is i.packet ask), is_out.untaken);
        unended = omega (arith, turn.done_taken, turn.done_sent, is_out.untaken);
        inside = λ w h. grind (arith, nat_tests, is_out.words w);
        outside = λ w h. is_out.words w;
      }

      pub take_lent : PagesOwned l s W (took_item i.packet x.got (set_owner a.page (Held t a.words) x.owner) (Loads a.page a.words 0) x) y
      take_lent =
          due_keeps a.page a.words (Held t a.words) some words (λ w h. is_out.words w) (λ h. absurd (sides_apart s (l.home a.page) h is_open.home)) (λ h. ((t, refl), (There t a.words, is_there)))
          (λ r ne u m e. ask_no_done u i.packet ask)
          (λ r ne u m e. by_page u t (λ same. absurd (ne (one_lent l y r a.page t m a.words (rw same at e.lent) is_out.lent))) (λ other. else_ask u i.packet other))
          (λ u k h e b. sides_apart s (l.home a.page) h is_open.home)

  -- a completion
  module _ (done : eqb (kind_of i.packet) 11 ≡ true) where
    abbrev u : ℕ
    u = id_of i.packet

    first : nth (is_done u) (back u x) y.sent ≡ Some i
    first = next_nth y x i more n (is_done u) (done_is i.packet done)

    -- of nothing lent
    pub take_done : ((q m : ℕ) → x.owner q ≡ Lent u m → ⊥) → PagesOwned l s W (took_item i.packet (x.got ++ item_of i.packet [] ∷ []) x.owner x.due x) y
    take_done free =
        plain (⊎_elim (λ e. e) (λ r. absurd (free r.page r.words r.mine)) (o.mine.brings u (back u x) i first (omega arith)))
        (λ q t m e. by_page t u (λ same. absurd (free q m (rw same at e.mine))) (λ other. else_done t i.packet other))
        (λ q t m e. done_no_ask t i.packet done)

    -- with which a lent page comes back
    module _ (q m : ℕ) (home : l.home q ≡ s) (lent : x.owner q ≡ Lent u m) (some : 0 < m) where
      is_back : IsBack l W x y q u m
      is_back =
          by_lent l W x y q u m lent (o.mine.page q home) (λ p. absurd (omega (arith, p.untaken, less, o.peer_owed u)))
          (λ p. absurd (omega (arith, p.unended, less)))
          (λ p. p)
        where
          less : back u x < ended u y
          less = omega (arith, next_count y x i more n (is_done u), ap bit (done_is i.packet done))

      words_back : i.words ≡ values m (y.copy q)
      words_back = let same : is_back.item ≡ i = cc (is_back.item_is, first) in cc (is_back.item_words, same)

      at_home : AtHome W (paged q m Has some words_back is_back.inside) y q
      at_home = record { mine = owner_here q Has x.owner; theirs = is_back.theirs; words = λ w. grind (arith, nat_tests, is_back.inside w, is_back.outside w) }

      pub take_back : PagesOwned l s W (took_item i.packet x.got (set_owner q Has x.owner) (Loads q m 0) x) y
      take_back =
          due_keeps q m Has some words_back is_back.inside (λ h. (refl, (Home, at_home))) (λ h. absurd (sides_apart s (l.home q) home h))
          (λ r ne t k e. by_page t u (λ same. absurd (ne (one_lent l x r q u k m (rw same at e) is_back.lent))) (λ other. else_done t i.packet other))
          (λ r ne t k e. done_no_ask t i.packet done)
          (λ t k h e b. let same : t ≡ u = cc (e, lent) in omega (arith, (rw same at b), back_is x.got x.owner x.due u, ap bit (done_is i.packet done)))
