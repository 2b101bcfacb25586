-- What a step makes of an end's part: a packet is sent, or taken; a page word is stored, or loaded.
use Rattle.std.specs.Prelude.{ℕ, ◌&&◌, ◌==◌, cond, List, [], ◌∷◌, ◌++◌}
use Rattle.page_kept.specs.declared.due.Due.{Due}
use Rattle.page_kept.specs.declared.item.Item.{Item}
use Rattle.page_kept.specs.declared.owner.Owner.{Owner}
use Rattle.page_kept.specs.Keepers.{Keeper}

abbrev pub set_owner : ℕ → Owner → (ℕ → Owner) → ℕ → Owner
set_owner q o f r = cond (r == q) o (f r)

-- one page word is changed
abbrev pub set_word : ℕ → ℕ → ℕ → (ℕ → ℕ → ℕ) → ℕ → ℕ → ℕ
set_word q w v f r u = cond ((r == q) && (u == w)) v (f r u)

-- any packet is sent
abbrev pub sent_item : Item → (ℕ → Owner) → Keeper → Keeper
sent_item i f x = record { sent = x.sent ++ i ∷ []; took = x.took; got = x.got; owner = f; copy = x.copy; due = x.due }

-- any packet is taken
abbrev pub took_item : List ℕ → List Item → (ℕ → Owner) → Due → Keeper → Keeper
took_item p g f d x = record { sent = x.sent; took = x.took ++ p ∷ []; got = g; owner = f; copy = x.copy; due = d }

-- any page word is loaded
abbrev pub loaded_item : ℕ → ℕ → ℕ → List Item → Due → Keeper → Keeper
loaded_item q k v g d x = record { sent = x.sent; took = x.took; got = g; owner = x.owner; copy = set_word q k v x.copy; due = d }
