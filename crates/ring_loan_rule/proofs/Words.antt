-- A page word is stored, or loaded.
use Rattle.std.proofs.Common.{◌≡◌, ◌≢◌, ◌⊎◌, ℕ, ◌+◌, ◌<◌, ◌≤◌, false, cond, List, [], ◌∷◌, ◌++◌, refl, sym, ◌∙◌, subst, arith, append_assoc, inl, inr, ⊎_elim}
use Rattle.std.proofs.lemmas.List.{append-nil}
use Rattle.std.proofs.lemmas.Bool.Decides.{nat_tests}
use Rattle.io_edge.specs.declared.side.Side.{Side}
use Rattle.io_edge.specs.declared.side.Side.TheVariants.{Guest, Host}
use Rattle.page_kept.specs.declared.due.Due.{Due}
use Rattle.page_kept.specs.declared.due.Due.TheVariants.{Clear, Loads}
use Rattle.page_kept.specs.declared.item.Item.{Item}
use Rattle.page_kept.specs.declared.owner.Owner.TheVariants.{Has, Held}
use Rattle.page_kept.specs.Items.{values, item_of}
use Rattle.page_kept.specs.Layouts.{other_end, Layout}
use Rattle.page_kept.specs.Keepers.{Keeper, CanStore}
use Rattle.ring_loan_rule.specs.Pages.{covers, Waits, Took_by, Flow, Home, There, PagesOwned}
use Rattle.ring_loan_rule.specs.Moves.{set_word, loaded_item}
use Rattle.ring_loan_rule.proofs.Counts.{packets_append, front_same}
use Rattle.ring_loan_rule.proofs.Frame.{by_page, At, by_mine, by_theirs, home_of, there_of, Onward, stays, Near}
use Rattle.ring_loan_rule.proofs.Flows.{flow_kept}
use Rattle.ring_loan_rule.proofs.Moving.{mine_kept, theirs_kept, moved}

pub side_of : (a s : Side) → (a ≡ s) ⊎ (a ≡ other_end s)
side_of Guest Guest = inl refl
side_of Guest Host = inr refl
side_of Host Guest = inr refl
side_of Host Host = inl refl

module _ (l : Layout) (s : Side) (W : ℕ → ℕ → ℕ) (x y : Keeper) (o : PagesOwned l s W x y) where
  -- What holds of any step that changes the word k of page q, in the copy of x and maybe in the memory: x has or holds the page
  module _ (V : ℕ → ℕ → ℕ) (q k v : ℕ) (g : List Item) (d : Due) where
    abbrev new : Keeper
    new = loaded_item q k v g d x

    on : Onward x new
    on = record { items = []; sent = sym (append-nil x.sent); packs = []; took = sym (append-nil x.took) }

    word_keeps : ((r w : ℕ) → r ≢ q → V r w ≡ W r w) → ((r w : ℕ) → r ≢ q → covers d r w ≡ covers x.due r w) → ((r n j : ℕ) → d ≡ Loads r n j → (i : ℕ) × (x.due ≡ Loads r n i))
        → (l.home q ≡ s → x.owner q ≡ Has) → (l.home q ≡ other_end s → (t : ℕ) × (n : ℕ) × (x.owner q ≡ Held t n) × ((w : ℕ) → n ≤ w → V q w ≡ W q w))
        → ((w : ℕ) → W q w ≡ cond (covers x.due q w) (y.copy q w) (x.copy q w) → V q w ≡ cond (covers d q w) (y.copy q w) (new.copy q w)) → Flow V y new → PagesOwned l s V new y
    word_keeps off dues before has holds shown inn = moved l s W V x y new o (record {
      on = on;
      like = λ r n j e w. (off r w (undue r n j e), grind (arith, nat_tests, undue r n j e), refl);
      inn = inn;
      mine = λ r h. by_page r q (λ same. rw same (let at = home_of l W x y q (o.mine.page q (rw same at h)) (has (rw same at h)) in (Home, record { mine = at.mine; theirs = at.theirs; words = λ w. shown w (at.words w) })))
          (λ ne. mine_kept l s W V x y new o r (λ w. off r w ne) on (near r ne) h (λ t n p. refl));
      theirs = λ r h. by_page r q (λ same. rw same (held (rw same at h))) (λ ne. theirs_kept l s W V x y new o r (λ w. off r w ne) on (near r ne) h (λ t n p. refl) (λ t n p. refl));
      lent = λ r t n h e b. e;
      asks = λ t j i h. inl h;
      dones = λ t j i h. inl h;
      due_mine = λ r n j e h. let z = before r n j e in o.mine.due_mine r n z.0 z.1 h;
      due_theirs = λ r n j e h. let z = before r n j e in o.theirs.due_theirs r n z.0 z.1 h;
      owed = o.owed;
    })
      where
        near : (r : ℕ) → r ≢ q → Near x new r
        near r ne = record { owner = refl; copy = λ w. grind (arith, nat_tests, ne); due = λ w. dues r w ne }

        held : l.home q ≡ other_end s → At l V y new q
        held h =
            let z = holds h in
            let at = there_of l W y x q z.0 z.1 (o.theirs.page q h) z.2 in
            (There z.0 z.1, record { lent = at.lent; theirs = at.theirs; was_taken = at.was_taken; unended = at.unended; inside = λ w i. shown w (at.inside w i); outside = λ w i. z.3 w i ∙ at.outside w i })

        -- the peer has nothing to load of that page
        undue : (r n j : ℕ) → y.due ≡ Loads r n j → r ≢ q
        undue r n j e same =
            ⊎_elim (λ (h : l.home q ≡ s). let z = o.mine.due_theirs q n j (rw same at e) h in cc (z.1, (home_of l W x y q (o.mine.page q h) (has h)).theirs))
            (λ (h : l.home q ≡ other_end s). let z = holds h in cc (o.theirs.due_mine q n j (rw same at e) h, (there_of l W y x q z.0 z.1 (o.theirs.page q h) z.2).lent.mine))
            (side_of (l.home q) s)

  -- an end stores to a page that it has, or to a lent word of one that it holds
  pub store_word : (q w v : ℕ) → x.due ≡ Clear → CanStore (x.owner q) w → PagesOwned l s (set_word q w v W) (loaded_item q w v x.got x.due x) y
  store_word q w v clear can =
      word_keeps (set_word q w v W) q w v x.got x.due (λ r u ne. grind (arith, nat_tests, ne)) (λ r u ne. refl) (λ r n j e. (j, e))
      (λ h. by_mine l W x y q (o.mine.page q h) (λ p. p.mine) (λ t n p. absurd (rw p.mine at can)))
      (λ h. by_theirs l W y x q (o.theirs.page q h) (λ e. absurd (rw e at can)) (λ t n p. (t, n, p.theirs, λ u far. let less = rw p.theirs at can in grind (arith, nat_tests, far, less))))
      (λ u e. let f = rw clear at e in rw clear (grind (arith, nat_tests, f)))
      (flow_kept W (set_word q w v W) y x y (loaded_item q w v x.got x.due x) (stays y) refl refl refl (λ r n j e. cc (clear, e)) o.inn)

  -- a due word is loaded
  module _ (q n k : ℕ) (due : x.due ≡ Loads q n k) where
    pub waits : Waits W y x q n k o.inn.rest
    waits = subst (λ (e : Due). Took_by e W y x o.inn.rest) due o.inn.took

    -- the copy has what is loaded so far
    so_far : (w : ℕ) → w < k + 1 → set_word q k (W q k) x.copy q w ≡ y.copy q w
    so_far w h = by_page w k (λ same. rw same (grind (arith, nat_tests, waits.page k waits.left))) (λ other. grind (arith, nat_tests, waits.loaded w, other))

    load_keeps : (g : List Item) (d : Due) → ((r w : ℕ) → r ≢ q → covers d r w ≡ covers (Loads q n k) r w) → ((r m j : ℕ) → d ≡ Loads r m j → (i : ℕ) × (x.due ≡ Loads r m i))
        → ((w : ℕ) → w ≢ k → covers d q w ≡ covers (Loads q n k) q w) → covers d q k ≡ false → Flow W y (loaded_item q k (W q k) g d x) → PagesOwned l s W (loaded_item q k (W q k) g d x) y
    load_keeps g d dues before else here =
        word_keeps W q k (W q k) g d (λ r w ne. refl) (λ r w ne. rw due (dues r w ne)) before (o.mine.due_mine q n k due)
        (λ h. let z = o.theirs.due_theirs q n k due h in (z.0, n, z.1, λ w far. refl))
        (λ w e. by_page w k (λ same. rw (same, here) (grind (arith, nat_tests))) (λ other. let f = rw due at e in rw (else w other) (grind (arith, nat_tests, f, other))))

    -- a word, and there are more
    pub load_one : k + 1 < n → PagesOwned l s W (loaded_item q k (W q k) x.got (Loads q n (k + 1)) x) y
    load_one more =
        load_keeps x.got (Loads q n (k + 1)) (λ r w ne. grind (arith, nat_tests, ne)) (λ r m j e. (k, cc (due, e))) (λ w ne. grind (arith, nat_tests, ne)) (grind (arith, nat_tests))
        (record {
          rest = o.inn.rest;
          front_is = o.inn.front_is;
          took = record { item = waits.item; more = waits.more; rest_is = waits.rest_is; took = waits.took; left = more; words = waits.words; page = waits.page; loaded = so_far };
        })

    -- the last word: what was taken is the item that was sent, with its words
    pub load_all : k + 1 ≡ n → PagesOwned l s W (loaded_item q k (W q k) (x.got ++ item_of waits.item.packet (values n (set_word q k (W q k) x.copy q)) ∷ []) Clear x) y
    load_all last =
        load_keeps (x.got ++ item_of waits.item.packet (values n (set_word q k (W q k) x.copy q)) ∷ []) Clear (λ r w ne. grind (arith, nat_tests, ne)) (λ r m j e. cc) (λ w ne. grind (arith, nat_tests, ne, last)) refl
        (record {
          rest = waits.more;
          front_is = cc (o.inn.front_is, waits.rest_is, append_assoc x.got (waits.item ∷ []) waits.more, is_item);
          took = cc (waits.took, packets_append x.got (item_of waits.item.packet (values n (set_word q k (W q k) x.copy q)) ∷ []));
        })
      where
        is_item : waits.item ≡ item_of waits.item.packet (values n (set_word q k (W q k) x.copy q))
        is_item = (λ j. record { packet = waits.item.packet; words = (waits.words ∙ front_same n (y.copy q) (set_word q k (W q k) x.copy q) (λ w h. sym (so_far w (omega (arith, h, last))))) j })
