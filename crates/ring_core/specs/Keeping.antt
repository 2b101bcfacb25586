-- The lists of an end that keeps its packets, beside the lean end that it holds.
use Rattle.std.specs.Prelude.{◌≡◌, ◌≢◌, ℕ, ◌+◌, ◌<◌, ◌≤◌, ◌==◌, not, List, [], length}
use Rattle.page_kept.specs.declared.item.Item.{Item}
use Rattle.ring_core.specs.Driven.{Lean}
use Rattle.ring_core.specs.Pages.{items_of, owed}
use Rattle.ring_core.specs.Seen.{Listed}

-- A list of these packets, in a channel of c pages, with these items: each packet has its page words, but the last one where they are owed, and then there is a place
-- for them. A channel without pages keeps no page words
pub record IsList (c : ℕ) (ps : List (List ℕ)) (is : List Item) (owes : ℕ) (l : Listed) : Type 0 where
  pub list : l.list ≡ ps
  pub items : items_of l.list l.lent ≡ is
  pub paged : l.paged ≡ not (c == 0)
  pub bare : c ≡ 0 → l.lent ≡ []
  pub all : c ≢ 0 → length l.list ≡ length l.lent + owes
  pub place : c ≢ 0 → 0 < owes → 0 < l.lent_room.packets

-- The lists are those of the lean end's state, and in a channel with pages it can count the ids of as many packets more as both lists were given room for
pub record Keeps {S : Type 0} (pages_of : S → ℕ) (e : Lean S) (s g : Listed) : Type 0 where
  pub sent : IsList e.driven.state.pages.count e.driven.state.sent e.driven.state.pages.sent 0 s
  pub got : IsList e.driven.state.pages.count e.driven.state.got e.driven.state.pages.got (owed e.driven.state.pages.due) g
  pub places : e.driven.state.pages.count ≢ 0 → s.places + g.places ≤ e.room
  pub pages : pages_of e.driven.seat ≡ e.driven.state.pages.count
