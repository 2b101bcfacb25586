-- Packets with the page words that go along.
use Rattle.std.specs.Prelude.{ℕ, zero, suc, List, [], ◌∷◌, ◌++◌}
pub use Rattle.page_kept.specs.declared.item.Item.{Item}

abbrev pub item_of : List ℕ → List ℕ → Item
item_of p ws = record { packet = p; words = ws }

abbrev pub packets : List Item → List (List ℕ)
packets [] = []
packets (i ∷ is) = i.packet ∷ packets is

-- the first n values of a function
abbrev pub values : ℕ → (ℕ → ℕ) → List ℕ
values zero f = []
values (suc n) f = values n f ++ f n ∷ []
