-- The lists of an end that keeps none, where its past and its table change.
use Rattle.std.proofs.Common.{◌≡◌, ◌≢◌, ℕ, List, [], ◌∷◌, ◌++◌, length, Option, Some, None, refl, sym, ap, ◌∙◌, subst, arith, length-append}
use Rattle.channel_trace.specs.Runs.{sent_of, got_of}
use Rattle.channel_trace.specs.declared.event.Event.{Event}
use Rattle.channel_trace.specs.declared.event.Event.TheVariants.{Sent as SentEvent, Got as GotEvent}
use Rattle.page_kept.specs.Kept.{pages_sent, pages_took}
use Rattle.page_kept.specs.Items.{item_of}
use Rattle.page_kept.specs.Layouts.{layout}
use Rattle.page_kept.specs.declared.due.Due.TheVariants.{Clear, Loads}
use Rattle.page_kept.specs.declared.kept.Kept.{Kept}
use Rattle.page_table.specs.Ids.{AreCounted}
use Rattle.page_table.specs.Table.{KeepsPages, Table, sent_by, took_by}
use Rattle.page_table.specs.declared.loan.Loan.{Loan as Part}
use Rattle.ring_machine.specs.PageCalls.{owes}
use Rattle.ring_machine.specs.declared.page_core.PageCore.{PageCore}
use Rattle.ring_core.specs.Listing.{AreListed, kept_in}
use Rattle.ring_core.specs.Pages.{items_of, owed, part_words}
use Rattle.ring_core.proofs.Paging.{items_more, items_none, items_wait, none_sent, none_took, sent_is}

-- where no page words are kept, there are no items
bare_items : (ps qs ws : List (List ℕ)) → ws ≡ [] → items_of ps ws ≡ items_of qs ws
bare_items ps qs ws e = ap (items_of ps) e ∙ (items_none ps ∙ sym (ap (items_of qs) e ∙ items_none qs))

module _ (k : PageCore) (past lent : List (Event (List ℕ))) (t : Table) (are : AreListed k past lent t) where
  -- what the table's own clauses ask of what the end keeps
  keeps : k.count ≢ 0 → KeepsPages (kept_in k past lent t) t
  keeps some = record { count = sym are.count; some = some; owners = refl; copy = refl }

  -- a packet was sent, or taken, in a channel without pages
  module _ (none : k.count ≡ 0) where
    pub bare_kept_sent : (p : List ℕ) (past' : List (Event (List ℕ))) → past' ≡ SentEvent p ∷ past → kept_in k past' lent t ≡ pages_sent (layout k.count) (kept_in k past lent t) p
    bare_kept_sent p past' e =
        let same : items_of (sent_of past ++ p ∷ []) (sent_of lent) ≡ items_of (sent_of past) (sent_of lent) = bare_items _ _ (sent_of lent) (are.sent_bare none) in
        ap (λ (es : List (Event (List ℕ))). kept_in k es lent t) e
        ∙ ((λ i. record { count = k.count; sent = same i; got = items_of (got_of past) (got_of lent); owners = t.owners; copy = t.copy; due = k.due; call = k.call })
        ∙ sym (none_sent (kept_in k past lent t) p none))

    pub bare_kept_took : (p : List ℕ) (past' : List (Event (List ℕ))) → past' ≡ GotEvent p ∷ past → kept_in k past' lent t ≡ pages_took (layout k.count) (kept_in k past lent t) p
    bare_kept_took p past' e =
        let same : items_of (got_of past ++ p ∷ []) (got_of lent) ≡ items_of (got_of past) (got_of lent) = bare_items _ _ (got_of lent) (are.got_bare none) in
        ap (λ (es : List (Event (List ℕ))). kept_in k es lent t) e
        ∙ ((λ i. record { count = k.count; sent = items_of (sent_of past) (sent_of lent); got = same i; owners = t.owners; copy = t.copy; due = k.due; call = k.call })
        ∙ sym (none_took (kept_in k past lent t) p none))

  -- and in one with pages
  module _ (some : k.count ≢ 0) (p : List ℕ) (t' : Table) (past' lent' : List (Event (List ℕ))) (size : length t'.owners ≡ length t.owners) (copy : t'.copy ≡ t.copy) where
    module _ (o : Option Part) (ws : List ℕ) (words : ws ≡ part_words t'.copy o) (is : past' ≡ SentEvent p ∷ past) (went : lent' ≡ SentEvent ws ∷ lent) where
      pub kept_sent : ((j : Kept) → KeepsPages j t → pages_sent (layout j.count) j p ≡ sent_by j p t'.owners o) → kept_in k past' lent' t' ≡ pages_sent (layout k.count) (kept_in k past lent t) p
      kept_sent sends =
          let more : items_of (sent_of past ++ p ∷ []) (sent_of lent ++ ws ∷ []) ≡ items_of (sent_of past) (sent_of lent) ++ item_of p (part_words t.copy o) ∷ [] =
          items_more (sent_of past) (sent_of lent) p ws (are.sent_all some)
          ∙ ap (λ (w : List ℕ). items_of (sent_of past) (sent_of lent) ++ item_of p w ∷ []) (words ∙ ap (λ (c : List ℕ). part_words c o) copy) in
          (λ i. kept_in k (is i) (went i) t')
          ∙ ((λ i. record { count = k.count; sent = more i; got = items_of (got_of past) (got_of lent); owners = t'.owners; copy = copy i; due = k.due; call = k.call })
          ∙ sym (sends (kept_in k past lent t) (keeps some) ∙ sent_is (kept_in k past lent t) p t'.owners o))

      pub listed_sent : ((xs ys : List (List ℕ)) → AreCounted t.counts xs ys → AreCounted t'.counts (xs ++ p ∷ []) ys) → AreListed k past' lent' t'
      listed_sent counts = subst (λ (e : List (Event (List ℕ)) × List (Event (List ℕ))). AreListed k e.0 e.1 t') (λ i. (sym is i, sym went i)) (record {
        off = are.off;
        count = size ∙ are.count;
        sent_bare = λ z. absurd (some z);
        got_bare = are.got_bare;
        sent_all = λ _. omega (arith, length-append (sent_of past) (p ∷ []), length-append (sent_of lent) (ws ∷ []), are.sent_all some);
        got_all = are.got_all;
        whole = are.whole;
        counted = λ s. counts (sent_of past) (got_of past) (are.counted s);
      })

    module _ (clear : k.due ≡ Clear) (is : past' ≡ GotEvent p ∷ past) (counts : (xs ys : List (List ℕ)) → AreCounted t.counts xs ys → AreCounted t'.counts xs (ys ++ p ∷ [])) where
      all_got : length (got_of past) ≡ length (got_of lent)
      all_got = omega (arith, are.got_all some, ap owed clear)

      -- no page comes with it
      pub kept_took : lent' ≡ GotEvent [] ∷ lent → ((j : Kept) → KeepsPages j t → pages_took (layout j.count) j p ≡ took_by j p t'.owners None) → kept_in k past' lent' t' ≡ pages_took (layout k.count) (kept_in k past lent t) p
      kept_took went takes =
          let more : items_of (got_of past ++ p ∷ []) (got_of lent ++ [] ∷ []) ≡ items_of (got_of past) (got_of lent) ++ item_of p [] ∷ [] = items_more (got_of past) (got_of lent) p [] all_got in
          (λ i. kept_in k (is i) (went i) t')
          ∙ ((λ i. record { count = k.count; sent = items_of (sent_of past) (sent_of lent); got = more i; owners = t'.owners; copy = copy i; due = k.due; call = k.call })
          ∙ sym (takes (kept_in k past lent t) (keeps some)))

      pub listed_took : lent' ≡ GotEvent [] ∷ lent → AreListed k past' lent' t'
      listed_took went = subst (λ (e : List (Event (List ℕ)) × List (Event (List ℕ))). AreListed k e.0 e.1 t') (λ i. (sym is i, sym went i)) (record {
        off = are.off;
        count = size ∙ are.count;
        sent_bare = are.sent_bare;
        got_bare = λ z. absurd (some z);
        sent_all = are.sent_all;
        got_all = λ _. omega (arith, length-append (got_of past) (p ∷ []), length-append (got_of lent) ([] ∷ []), are.got_all some);
        whole = are.whole;
        counted = λ s. counts (sent_of past) (got_of past) (are.counted s);
      })

      -- a page comes with it
      module _ (a : Part) (k' : PageCore) (owe : k' ≡ owes k a.page a.words) where
        pub kept_due : ((j : Kept) → KeepsPages j t → pages_took (layout j.count) j p ≡ took_by j p t'.owners (Some a)) → kept_in k' past' lent t' ≡ pages_took (layout k.count) (kept_in k past lent t) p
        kept_due takes =
            let waits : items_of (got_of past ++ p ∷ []) (got_of lent) ≡ items_of (got_of past) (got_of lent) = items_wait (got_of past) (got_of lent) (p ∷ []) all_got in
            (λ i. kept_in (owe i) (is i) lent t')
            ∙ ((λ i. record { count = k.count; sent = items_of (sent_of past) (sent_of lent); got = waits i; owners = t'.owners; copy = copy i; due = Loads a.page a.words 0; call = k.call })
            ∙ sym (takes (kept_in k past lent t) (keeps some)))

        pub listed_due : AreListed k' past' lent t'
        listed_due = subst (λ (x : PageCore × List (Event (List ℕ))). AreListed x.0 x.1 lent t') (λ i. (sym owe i, sym is i)) (record {
          off = are.off;
          count = size ∙ are.count;
          sent_bare = are.sent_bare;
          got_bare = λ z. absurd (some z);
          sent_all = are.sent_all;
          got_all = λ _. omega (arith, length-append (got_of past) (p ∷ []), all_got);
          whole = refl;
          counted = λ s. counts (sent_of past) (got_of past) (are.counted s);
        })
