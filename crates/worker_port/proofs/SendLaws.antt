-- What a send leaves of the pages of an end, behind page words that were stored for the packet.
use Rattle.std.proofs.Common.{◌≡◌, ◌≢◌, ℕ, ◌≤◌, ◌==◌, Bool, true, false, cond, take, List, [], ◌∷◌, ◌++◌, length, refl, sym, ap, ◌∙◌, subst, arith, inl, inr}
use Rattle.page_kept.specs.declared.item.Item.{Item}
use Rattle.page_kept.specs.declared.kept.Kept.{Kept}
use Rattle.page_kept.specs.Items.{item_of, packets}
use Rattle.page_kept.specs.Kept.{pages_sent}
use Rattle.page_kept.specs.Layouts.{layout}
use Rattle.page_table.specs.Table.{part_in}
use Rattle.channel_protocol.specs.Paged.{Lays}
use Rattle.ring_core.specs.Laying.{laid}
use Rattle.ring_core.specs.Pages.{along, last_words}
use Rattle.ring_core.proofs.Paging.{first_of, none_along, other_of}
use Rattle.worker_port.specs.Line.{AreFew, words_sent}
use Rattle.ring_core.specs.Seen.{Seen}
use Rattle.worker_port.proofs.ItemLaws.{Grows, SentAs}
use Rattle.worker_port.proofs.PageLaws.{by_count, is_more, is_zero, laid_is, nil_by, sent_pages}

-- all but the copy stays
pub record Stored (k l : Kept) : Type 0 where
  pub count : l.count ≡ k.count
  pub sent : l.sent ≡ k.sent
  pub got : l.got ≡ k.got
  pub owners : l.owners ≡ k.owners
  pub due : l.due ≡ k.due

pub stored : (k l : Kept) (p ws : List ℕ) → l ≡ laid k p ws → Stored k l
stored k l p ws e =
    let all : l ≡ record { count = k.count; sent = k.sent; got = k.got; owners = k.owners; copy = (laid k p ws).copy; due = k.due; call = k.call } = e ∙ laid_is k (part_in k.owners p) ws in
    record { count = ap (λ x. x.count) all; sent = ap (λ x. x.sent) all; got = ap (λ x. x.got) all; owners = ap (λ x. x.owners) all; due = ap (λ x. x.due) all }

-- what a send leaves of the pages, besides the items that were sent
pub record Carried (k k' : Kept) : Type 0 where
  pub count : k'.count ≡ k.count
  pub got : k'.got ≡ k.got
  pub due : k'.due ≡ k.due
  pub held : AreFew k.owners → AreFew k'.owners
  pub listed : length k'.owners ≡ length k.owners

module _ (k l k' : Kept) (p ws : List ℕ) (e : l ≡ laid k p ws) where
  s : Stored k l
  s = stored k l p ws e

  unsent : k' ≡ l → Carried k k'
  unsent is = record { count = ap (λ x. x.count) is ∙ s.count; got = ap (λ x. x.got) is ∙ s.got; due = ap (λ x. x.due) is ∙ s.due; held = λ h. subst AreFew (sym (ap (λ x. x.owners) is ∙ s.owners)) h; listed = ap (λ x. length x.owners) is ∙ ap length s.owners }

  pub carried : (b : Bool) → k' ≡ cond b (pages_sent (layout l.count) l p) l → Carried k k'
  carried false is = unsent is
  carried true is =
      by_count l.count (λ z. unsent (is ∙ first_of (l.count == 0) l _ (is_zero l.count z)))
      (λ some.
      let t = sent_pages l.count l p some in
      record {
        count = ap (λ x. x.count) is ∙ (t.count ∙ s.count);
        got = ap (λ x. x.got) is ∙ (t.got ∙ s.got);
        due = ap (λ x. x.due) is ∙ (t.due ∙ s.due);
        held = λ h. subst AreFew (sym (ap (λ x. x.owners) is)) (t.held (subst AreFew (sym s.owners) h));
        listed = ap (λ x. length x.owners) is ∙ (t.listed ∙ ap length s.owners);
      })

  -- nothing was sent
  pub same_sent : (b : Bool) → k' ≡ cond b (pages_sent (layout l.count) l p) l → b ≡ false → k'.sent ≡ k.sent
  same_sent false is none = ap (λ x. x.sent) is ∙ s.sent
  same_sent true is none = absurd (cc)

  -- the page words that went along
  words_are : k.count ≢ 0 → words_sent k p ws ≡ last_words (pages_sent (layout l.count) l p).sent
  words_are some =
      other_of (k.count == 0) [] (last_words (pages_sent (layout k.count) (laid k p ws) p).sent) (is_more k.count some) ∙ (λ j. last_words (pages_sent (layout (sym s.count j)) (sym e j) p).sent)

  words_none : k.count ≡ 0 → words_sent k p ws ≡ []
  words_none z = first_of (k.count == 0) [] (last_words (pages_sent (layout k.count) (laid k p ws) p).sent) (is_zero k.count z)

  pub sent_more : (ps ps' : List (List ℕ)) (b : Bool) → b ≡ true → k' ≡ cond b (pages_sent (layout l.count) l p) l → ps' ≡ ps ++ p ∷ [] → (k.count ≢ 0 → packets k.sent ≡ ps) → (k.count ≡ 0 → k.sent ≡ []) → (k'.count ≡ 0 → k'.sent ≡ []) → Grows ps ps' k.sent k'.sent p (words_sent k p ws)
  sent_more ps ps' false b is list items none none' = absurd (cc)
  sent_more ps ps' true b is list items none none' = record {
    list = list;
    items = by_count k.count (λ z. inl (none z, none' ((carried true is).count ∙ z), words_none z))
        (λ some.
        let t = sent_pages l.count l p (λ z. some (sym s.count ∙ z)) in
        inr (items some, ap (λ x. x.sent) is ∙ (t.sent ∙ (λ j. s.sent j ++ item_of p (sym (words_are some) j) ∷ []))));
  }

  -- and they begin with those that were laid
  pub lays_sent : length ws ≤ along k p → along l p ≡ along k p → (l.count ≢ 0 → take (length ws) (last_words (pages_sent (layout l.count) l p).sent) ≡ ws) → (i : Item) → i ≡ item_of p (words_sent k p ws) → Lays p ws (along k p) i
  lays_sent fits same words i is =
      subst (Lays p ws (along k p)) (sym is)
      (by_count k.count
      (λ z.
      let none = nil_by ws (omega (arith, fits, none_along k p z)) in
      record { packet_is = refl; words_are = (λ j. take (length (none j)) (words_none z j)) ∙ sym none; long = ap length (words_none z) ∙ sym (none_along k p z) })
      (λ some.
      let more : l.count ≢ 0 = λ z. some (sym s.count ∙ z) in
      record {
        packet_is = refl;
        words_are = ap (take (length ws)) (words_are some) ∙ words more;
        long = ap length (words_are some) ∙ (sym (other_of (l.count == 0) 0 (length (last_words (pages_sent (layout l.count) l p).sent)) (is_more l.count more)) ∙ same);
      }))

-- by whether the packet was sent
pub sent_by_how : {S : Type 0} (old new : Seen S) (l : Kept) (p ws : List ℕ) → l ≡ laid old.state.pages p ws → (b : Bool) → new.state.pages ≡ cond b (pages_sent (layout l.count) l p) l → new.state.sent ≡ cond b (old.state.sent ++ p ∷ []) old.state.sent
    → (old.state.pages.count ≢ 0 → packets old.state.pages.sent ≡ old.state.sent) → (old.state.pages.count ≡ 0 → old.state.pages.sent ≡ []) → (new.state.pages.count ≡ 0 → new.state.pages.sent ≡ [])
    → SentAs old new p (words_sent old.state.pages p ws) b
sent_by_how old new l p ws e true is list items none none' = sent_more old.state.pages l new.state.pages p ws e old.state.sent new.state.sent true refl is list items none none'
sent_by_how old new l p ws e false is list items none none' = (list, same_sent old.state.pages l new.state.pages p ws e false is refl)
