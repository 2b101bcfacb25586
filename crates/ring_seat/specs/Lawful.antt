-- What the rule of the pages tells of one end by itself, where nothing is due.
use Rattle.std.specs.Prelude.{◌≡◌, ◌≢◌, ℕ, ◌≤◌, [], length, Some, None, slice_index_or}
use Rattle.page_kept.specs.Counts.{count, is_ask, is_done, nth}
use Rattle.page_kept.specs.Layouts.{Loan, layout}
use Rattle.page_kept.specs.declared.due.Due.TheVariants.{Clear}
use Rattle.page_kept.specs.declared.item.Item.{Item}
use Rattle.page_kept.specs.declared.owner.Owner.TheVariants.{Held, Away}
use Rattle.ring_machine.specs.declared.state.EndState.{EndState}

pub record IsLawful (e : EndState) : Type 0 where
  -- a request that was got, lends a page, and isn't completed has that page here, and all its words
  pub held : (t k : ℕ) (i : Item) (a : Loan) → nth (is_ask t) k e.pages.got ≡ Some i → (layout e.pages.count).lends i.packet ≡ Some a → count (is_done t) e.sent ≤ k
      → (slice_index_or e.pages.owners a.page Away ≡ Held t a.words) × (length i.words ≡ a.words)
  -- one that lends no page of this channel has no page words
  pub bare : (t k : ℕ) (i : Item) → nth (is_ask t) k e.pages.got ≡ Some i → (layout e.pages.count).lends i.packet ≡ None → i.words ≡ []
  -- no two pages are held under one id
  pub one : (t q r m n : ℕ) → slice_index_or e.pages.owners q Away ≡ Held t m → slice_index_or e.pages.owners r Away ≡ Held t n → q ≡ r

-- an end of a channel with data pages, where nothing is due
abbrev pub Lawfully : EndState → Type 0
Lawfully e = e.pages.count ≢ 0 → e.pages.due ≡ Clear → IsLawful e
