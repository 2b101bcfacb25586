-- The pages of an end under the ids of its requests: a request lends the page of its own id, or none.
use Rattle.std.specs.Prelude.{◌≡◌, ◌≤◌, ◌<◌, ◌+◌, ◌==◌, ◌⊎◌, ℕ, Bool, true, false, cond, List, [], ◌∷◌, ◌++◌, length, Some, None}
use Rattle.io_edge.specs.declared.side.Side.{Side}
use Rattle.io_edge.specs.declared.side.Side.TheVariants.{Guest, Host}
use Rattle.pkt_desc.specs.Packets.{kind_of, id_of}
use Rattle.page_kept.specs.declared.kept.Kept.{Kept}
use Rattle.page_kept.specs.declared.owner.Owner.{Owner}
use Rattle.page_kept.specs.declared.owner.Owner.TheVariants.{Has, Lent}
use Rattle.page_kept.specs.Layouts.{Layout, Loan}
use Rattle.page_kept.specs.Kept.{is_lent, pages_sent, pages_took}
use Rattle.page_kept.specs.Stepped.{page_stored, page_loaded}
use Rattle.page_kept.specs.Counts.{bit}
use Rattle.page_kept.specs.Keepers.{Keeper, keeper, asked, back}

-- the first page of a channel whose home is this end
abbrev pub first_of : Side → ℕ
first_of Guest = 0
first_of Host = 64

-- what a packet lends is the page of its id: that of id 1 is the first page of its end, and so on up to id 64
abbrev pub LendsItsOwn : Layout → Side → List ℕ → Type 0
LendsItsOwn l s p = (a : Loan) → l.lends p ≡ Some a → (1 ≤ id_of p) × (id_of p ≤ 64) × (a.page + 1 ≡ first_of s + id_of p)

-- the same ids are open, and this one; and without this one
abbrev pub opened : (ℕ → Bool) → ℕ → ℕ → Bool
opened is_open t u = cond (u == t) true (is_open u)

abbrev pub closed : (ℕ → Bool) → ℕ → ℕ → Bool
closed is_open t u = cond (u == t) false (is_open u)

-- the end has a page, or it is lent under this id, which is open
abbrev pub HasOrLent : (ℕ → Bool) → ℕ → Owner → Type 0
HasOrLent is_open t o = (o ≡ Has) ⊎ ((is_open t ≡ true) × (is_lent t o ≡ true))

-- The end x of a channel with so many pages, where these ids are open. Of each id the end has the page, or has lent it under that id, which is open; no page is lent
-- under another id; and of the requests of an id all but an open one were completed. A packet with id 0 awaits no completion
pub record HomeKept (s : Side) (pages : ℕ) (is_open : ℕ → Bool) (x : Keeper) : Type 0 where
  pub page : (t q : ℕ) → 1 ≤ t → t ≤ 64 → q + 1 ≡ first_of s + t → q < pages → HasOrLent is_open t (x.owner q)
  pub lent : (q t n : ℕ) → x.owner q ≡ Lent t n → (q + 1 ≡ first_of s + t) × (is_open t ≡ true)
  pub completed : (t : ℕ) → 1 ≤ t → asked t x ≤ back t x + bit (is_open t)

-- The pages of an end are listed, and each page that a packet names is in the list
pub record IsListed (l : Layout) (k : Kept) : Type 0 where
  pub pages : (k.count == 0) ≡ false
  pub listed : length k.owners ≡ k.count
  pub inside : (p : List ℕ) (a : Loan) → l.lends p ≡ Some a → a.page < k.count

-- Each move of an end keeps that: a request is sent under an id that isn't open; a packet with id 0 is sent, which lends nothing; a completion is sent; a completion is
-- taken; any other packet is taken; a page word is stored; a page word is loaded
abbrev pub KeepsHome : Layout → Side → (ℕ → Bool) → List (List ℕ) → Kept → Type 0
KeepsHome l s is_open took k = IsListed l k → HomeKept s k.count is_open (keeper l s took k)
    → ((p : List ℕ) → (kind_of p == 11) ≡ false → is_open (id_of p) ≡ false → LendsItsOwn l s p → HomeKept s k.count (opened is_open (id_of p)) (keeper l s took (pages_sent l k p)))
    × ((p : List ℕ) → (kind_of p == 11) ≡ false → id_of p ≡ 0 → l.lends p ≡ None → HomeKept s k.count is_open (keeper l s took (pages_sent l k p)))
    × ((p : List ℕ) → (kind_of p == 11) ≡ true → HomeKept s k.count is_open (keeper l s took (pages_sent l k p)))
    × ((p : List ℕ) → (kind_of p == 11) ≡ true → HomeKept s k.count (closed is_open (id_of p)) (keeper l s (took ++ p ∷ []) (pages_took l k p)))
    × ((p : List ℕ) → (kind_of p == 11) ≡ false → HomeKept s k.count is_open (keeper l s (took ++ p ∷ []) (pages_took l k p)))
    × ((q w v : ℕ) → HomeKept s k.count is_open (keeper l s took (page_stored k q w v)))
    × ((p : List ℕ) (v : ℕ) → HomeKept s k.count is_open (keeper l s took (page_loaded k p v)))
