-- The store of the write index: a packet is sent.
use Rattle.std.proofs.Common.{◌≡◌, ◌≢◌, ℕ, ◌+◌, ◌<◌, ◌≤◌, true, false, eqb, List, [], ◌∷◌, Some, None, refl, sym, ap, ◌∙◌, arith, inl, inr, ⊎_elim}
use Rattle.std.proofs.lemmas.List.{append-nil}
use Rattle.pkt_desc.specs.Packets.{kind_of, id_of}
use Rattle.io_edge.specs.declared.side.Side.{Side}
use Rattle.io_edge.specs.declared.side.Side.TheVariants.{Guest, Host}
use Rattle.page_kept.specs.declared.due.Due.TheVariants.{Clear}
use Rattle.page_kept.specs.declared.item.Item.{Item}
use Rattle.page_kept.specs.declared.owner.Owner.{Owner}
use Rattle.page_kept.specs.declared.owner.Owner.TheVariants.{Has, Lent, Held, Away}
use Rattle.page_kept.specs.Items.{packets, values, item_of}
use Rattle.page_kept.specs.Layouts.{other_end, Loan, Layout}
use Rattle.page_kept.specs.Counts.{count, bit, is_ask, is_done}
use Rattle.page_kept.specs.Keepers.{Keeper, asked, taken, ended, back}
use Rattle.ring_loan_rule.specs.Pages.{Out, Back, AtHome, IsOut, IsThere, IsBack, IsOpen, Brings, PagesOwned}
use Rattle.ring_loan_rule.specs.Moves.{set_owner, sent_item}
use Rattle.ring_loan_rule.specs.Laws.{InTurn}
use Rattle.ring_loan_rule.proofs.Counts.{packets_append, count_one, nth_here, nth_last, IsNew}
use Rattle.ring_loan_rule.proofs.Frame.{by_page, owner_here, owner_else, At, home_of, there_of, one_lent, Onward, stays, Near}
use Rattle.ring_loan_rule.proofs.Flows.{ask_no_done, done_no_ask, ask_is, done_is, ask_id, done_id, else_done, chain, flow_kept}
use Rattle.ring_loan_rule.proofs.Moving.{AskOk, DoneOk, mine_kept, theirs_kept, moved}

pub sides_apart : (s a : Side) → a ≡ s → a ≡ other_end s → ⊥
sides_apart Guest a e f = cc
sides_apart Host a e f = cc

module _ (l : Layout) (s : Side) (W : ℕ → ℕ → ℕ) (x y : Keeper) (o : PagesOwned l s W x y) (clear : x.due ≡ Clear) where
  -- what holds of any packet that is sent
  module _ (i : Item) (f : ℕ → Owner) where
    abbrev new : Keeper
    new = sent_item i f x

    on : Onward x new
    on = record { items = i ∷ []; sent = refl; packs = []; took = sym (append-nil x.took) }

    near : (q : ℕ) → f q ≡ x.owner q → Near x new q
    near q e = record { owner = e; copy = λ w. refl; due = λ w. refl }

    ended_is : (t : ℕ) → ended t new ≡ ended t x + bit (is_done t i.packet)
    ended_is t = ap (count (is_done t)) (packets_append x.sent (i ∷ [])) ∙ count_one (is_done t) (packets x.sent) i.packet

    my_page : (q : ℕ) → l.home q ≡ s → f q ≡ x.owner q → At l W new y q
    my_page q h e = mine_kept l s W W x y new o q (λ w. refl) on (near q e) h (λ t n p. refl)

    peers_page : (q : ℕ) → l.home q ≡ other_end s → f q ≡ x.owner q → ((t n : ℕ) → IsThere l W y x q t n → is_done t i.packet ≡ false) → At l W y new q
    peers_page q h e un = theirs_kept l s W W x y new o q (λ w. refl) on (near q e) h (λ t n p. refl) (λ t n p. omega (arith, ended_is t, ap bit (un t n p)))

    -- a request leaves the pages of the peer as they are
    ask_sent : eqb (kind_of i.packet) 11 ≡ false → ((q : ℕ) → l.home q ≡ s → At l W new y q) → ((q : ℕ) → l.home q ≡ other_end s → f q ≡ x.owner q) → ((q t n : ℕ) → x.owner q ≡ Lent t n → f q ≡ Lent t n)
        → ((t k : ℕ) (j : Item) → IsNew (is_ask t) x.sent i j k → AskOk l s new t k j) → PagesOwned l s W new y
    ask_sent ask mine theirs lent asks = moved l s W W x y new o (record {
      on = on;
      like = λ q n k e w. (refl, refl, refl);
      inn = flow_kept W W y x y new (stays y) refl refl refl (λ q n k e w. (refl, refl, refl)) o.inn;
      mine = mine;
      theirs = λ q h. peers_page q h (theirs q h) (λ t n p. ask_no_done t i.packet ask);
      lent = λ q t n h e b. lent q t n e;
      asks = λ t k j h. ⊎_elim inl (λ new. inr (asks t k j new)) (nth_last (is_ask t) x.sent i j k h);
      dones = λ t k j h. ⊎_elim inl (λ new. cc (new.passes, ask_no_done t i.packet ask)) (nth_last (is_done t) x.sent i j k h);
      due_mine = λ q n k e h. cc (clear, e);
      due_theirs = λ q n k e h. cc (clear, e);
      owed = λ t. omega (arith, ended_is t, ap bit (ask_no_done t i.packet ask), o.owed t);
    })

    -- and a completion the pages of its sender
    done_sent : eqb (kind_of i.packet) 11 ≡ true → ended (id_of i.packet) x < taken (id_of i.packet) x → ((q : ℕ) → l.home q ≡ s → f q ≡ x.owner q) → ((q : ℕ) → l.home q ≡ other_end s → At l W y new q)
        → ((t k : ℕ) (j : Item) → IsNew (is_done t) x.sent i j k → DoneOk l (other_end s) y t k j) → PagesOwned l s W new y
    done_sent done less mine theirs dones = moved l s W W x y new o (record {
      on = on;
      like = λ q n k e w. (refl, refl, refl);
      inn = flow_kept W W y x y new (stays y) refl refl refl (λ q n k e w. (refl, refl, refl)) o.inn;
      mine = λ q h. my_page q h (mine q h);
      theirs = theirs;
      lent = λ q t n h e b. mine q h ∙ e;
      asks = λ t k j h. ⊎_elim inl (λ new. cc (new.passes, done_no_ask t i.packet done)) (nth_last (is_ask t) x.sent i j k h);
      dones = λ t k j h. ⊎_elim inl (λ new. inr (dones t k j new)) (nth_last (is_done t) x.sent i j k h);
      due_mine = λ q n k e h. cc (clear, e);
      due_theirs = λ q n k e h. cc (clear, e);
      owed = λ t. by_page t (id_of i.packet) (λ same. rw same (omega (arith, ended_is (id_of i.packet), less, ap bit (done_is i.packet done)))) (λ other. omega (arith, ended_is t, ap bit (else_done t i.packet other), o.owed t));
    })

  -- a request that lends nothing
  pub send_ask : (p : List ℕ) → eqb (kind_of p) 11 ≡ false → l.lends p ≡ None → PagesOwned l s W (sent_item (item_of p []) x.owner x) y
  send_ask p ask bare =
      ask_sent (item_of p []) x.owner ask (λ q h. my_page (item_of p []) x.owner q h refl) (λ q h. refl) (λ q t n e. e)
      (λ t k j new. record { opens = λ a la. cc (la, bare, new.same); bare = λ la. cc (new.same) })

  -- a completion with which no page goes back
  pub send_done : (p : List ℕ) → eqb (kind_of p) 11 ≡ true → ended (id_of p) x < taken (id_of p) x → ((q n : ℕ) → x.owner q ≡ Held (id_of p) n → ⊥) → PagesOwned l s W (sent_item (item_of p []) x.owner x) y
  send_done p done less free =
      done_sent (item_of p []) x.owner done less (λ q h. refl)
      (λ q h. peers_page (item_of p []) x.owner q h refl (λ t n g. by_page t (id_of p) (λ same. absurd (free q n (cc (g.theirs, same)))) (λ other. else_done t p other)))
      (λ t k j new. inl (cc (new.same)))

  -- a request that lends a page that its sender has, under an id of which all requests are completed
  module _ (p : List ℕ) (a : Loan) (ask : eqb (kind_of p) 11 ≡ false) (names : l.lends p ≡ Some a) (home : l.home a.page ≡ s) (has : x.owner a.page ≡ Has) (settled : asked (id_of p) x ≤ back (id_of p) x) where
    abbrev i : Item
    i = item_of p (values a.words (x.copy a.page))

    abbrev f : ℕ → Owner
    f = set_owner a.page (Lent (id_of p) a.words) x.owner

    turn : InTurn (id_of p) x y
    turn = chain W x y o.out o.inn o.peer_owed (id_of p)

    number : back (id_of p) x ≡ asked (id_of p) x
    number = omega (arith, turn.done_taken, turn.done_sent, turn.ask_taken, settled)

    at_home : AtHome W x y a.page
    at_home = home_of l W x y a.page (o.mine.page a.page home) has

    is_out : IsOut l W (sent_item i f x) y a.page (id_of p) a.words
    is_out = record {
      lent = record { mine = owner_here a.page _ x.owner; item = i; item_is = nth_here (is_ask (id_of p)) x.sent [] i (back (id_of p) x) (ask_is p ask) number; names = names; words = refl };
      theirs = at_home.theirs;
      untaken = omega (arith, turn.done_taken, turn.done_sent, turn.ask_taken, settled);
      words = λ w. cc (at_home.words w, clear);
    }

    pub send_lent : PagesOwned l s W (sent_item i f x) y
    send_lent =
        ask_sent i f ask (λ q h. by_page q a.page (λ same. rw same (Out (id_of p) a.words, is_out)) (λ other. my_page i f q h (owner_else a.page _ x.owner q other)))
        (λ q h. owner_else a.page _ x.owner q (λ same. sides_apart s (l.home q) (ap l.home same ∙ home) h))
        (λ q t n e. owner_else a.page _ x.owner q (λ same. cc (same, e, has)) ∙ e)
        (λ t k j new. record { opens = λ b la. opened t k j b la new; bare = λ la. cc (new.same, la, names) })
      where
        opened : (t k : ℕ) (j : Item) (b : Loan) → l.lends j.packet ≡ Some b → IsNew (is_ask t) x.sent i j k → IsOpen l s (sent_item i f x) t k b
        opened t k j b la new =
            let same : b ≡ a = cc (names, new.same, la) in
            let id : id_of p ≡ t = ask_id t p new.passes in
            rw (same, ← id) (record { oldest = (rw (← id) at new.number) ∙ sym number; mine = owner_here a.page _ x.owner; home = home })

  -- a completion with which a held page goes back
  module _ (p : List ℕ) (q n : ℕ) (done : eqb (kind_of p) 11 ≡ true) (home : l.home q ≡ other_end s) (held : x.owner q ≡ Held (id_of p) n) where
    abbrev j : Item
    j = item_of p (values n (x.copy q))

    abbrev g : ℕ → Owner
    g = set_owner q Away x.owner

    there : IsThere l W y x q (id_of p) n
    there = there_of l W y x q (id_of p) n (o.theirs.page q home) held

    is_back : IsBack l W y (sent_item j g x) q (id_of p) n
    is_back = record {
      lent = there.lent;
      theirs = owner_here q Away x.owner;
      was_ended = omega (arith, there.unended, ended_is j g (id_of p), ap bit (done_is p done));
      item = j;
      item_is = nth_here (is_done (id_of p)) x.sent [] j (back (id_of p) y) (done_is p done) (sym there.unended);
      item_words = refl;
      inside = λ w h. cc (there.inside w h, clear);
      outside = there.outside;
    }

    unended : (r : ℕ) → r ≢ q → (t m : ℕ) → IsThere l W y x r t m → is_done t p ≡ false
    unended r ne t m e = by_page t (id_of p) (λ same. absurd (ne (one_lent l y r q (id_of p) m n (rw same at e.lent) there.lent))) (λ other. else_done t p other)

    pub send_back : PagesOwned l s W (sent_item j g x) y
    send_back =
        done_sent j g done (omega (arith, there.unended, there.was_taken)) (λ r h. owner_else q Away x.owner r (λ same. sides_apart s (l.home r) h (ap l.home same ∙ home)))
        (λ r h. by_page r q (λ same. rw same (Back (id_of p) n, is_back)) (λ other. peers_page j g r h (owner_else q Away x.owner r other) (unended r other)))
        (λ t k i new. inr (brought t k i new))
      where
        brought : (t k : ℕ) (i : Item) → IsNew (is_done t) x.sent j i k → Brings l (other_end s) y t k
        brought t k i new = let id : id_of p ≡ t = done_id t p new.passes in rw (← id) (record { next = (rw (← id) at new.number) ∙ there.unended; page = q; words = n; mine = there.lent.mine; home = home })
