-- What two ends of a channel with data pages have to do with each other. It speaks of what each end sent and took, of its pages, and of the page words.
use Rattle.std.specs.Prelude.{◌≡◌, ◌⊎◌, ℕ, ◌<◌, ◌≤◌, Bool, false, ◌&&◌, ◌==◌, ltb, leb, cond, List, [], ◌∷◌, ◌++◌, Some, None}
use Rattle.io_edge.specs.declared.side.Side.{Side}
use Rattle.page_kept.specs.declared.due.Due.{Due}
use Rattle.page_kept.specs.declared.due.Due.TheVariants.{Clear, Loads}
use Rattle.page_kept.specs.declared.item.Item.{Item}
use Rattle.page_kept.specs.declared.owner.Owner.TheVariants.{Has, Lent, Held, Away}
use Rattle.page_kept.specs.Items.{packets, values}
use Rattle.page_kept.specs.Layouts.{other_end, Loan, Layout}
use Rattle.page_kept.specs.Counts.{is_done, is_ask, nth}
use Rattle.page_kept.specs.Keepers.{Keeper, taken, ended, back}

-- a due load of this page word
abbrev pub covers : Due → ℕ → ℕ → Bool
covers Clear q w = false
covers (Loads r n k) q w = (q == r) && (leb k w && ltb w n)

-- y has to load words of the item that it took last: they stand in the page as x had them, and y has loaded the first k
pub record Waits (W : ℕ → ℕ → ℕ) (x y : Keeper) (q n k : ℕ) (rest : List Item) : Type 0 where
  pub item : Item
  pub more : List Item
  pub rest_is : rest ≡ item ∷ more
  pub took : y.took ≡ packets y.got ++ item.packet ∷ []
  pub left : k < n
  pub words : item.words ≡ values n (x.copy q)
  pub page : (w : ℕ) → w < n → W q w ≡ x.copy q w
  pub loaded : (w : ℕ) → w < k → y.copy q w ≡ x.copy q w

abbrev pub Took_by : Due → (ℕ → ℕ → ℕ) → Keeper → Keeper → List Item → Type 0
Took_by Clear W x y rest = y.took ≡ packets y.got
Took_by (Loads q n k) W x y rest = Waits W x y q n k rest

-- what y got is the front of what x sent, with its page words
pub record Flow (W : ℕ → ℕ → ℕ) (x y : Keeper) : Type 0 where
  pub rest : List Item
  pub front_is : x.sent ≡ y.got ++ rest
  pub took : Took_by y.due W x y rest

-- where a page is: at home, on its way out, at the peer, or on its way back
pub data Where : Type 0 where
  Home : Where
  Out : ℕ → ℕ → Where
  There : ℕ → ℕ → Where
  Back : ℕ → ℕ → Where

-- The home end x has lent this page: the oldest request of this id that isn't completed names it, and its words are the copy
pub record IsLent (l : Layout) (x : Keeper) (q t n : ℕ) : Type 0 where
  pub mine : x.owner q ≡ Lent t n
  pub item : Item
  pub item_is : nth (is_ask t) (back t x) x.sent ≡ Some item
  pub names : l.lends item.packet ≡ Some record { page = q; words = n }
  pub words : item.words ≡ values n (x.copy q)

-- at home: each word is the home end's copy, or one that it has still to load, which is the peer's copy
pub record AtHome (W : ℕ → ℕ → ℕ) (x y : Keeper) (q : ℕ) : Type 0 where
  pub mine : x.owner q ≡ Has
  pub theirs : y.owner q ≡ Away
  pub words : (w : ℕ) → W q w ≡ cond (covers x.due q w) (y.copy q w) (x.copy q w)

-- on its way out: the peer has taken no further request of this id
pub record IsOut (l : Layout) (W : ℕ → ℕ → ℕ) (x y : Keeper) (q t n : ℕ) : Type 0 where
  pub lent : IsLent l x q t n
  pub theirs : y.owner q ≡ Away
  pub untaken : taken t y ≡ back t x
  pub words : (w : ℕ) → W q w ≡ x.copy q w

-- at the peer, which has taken the request and not completed it
pub record IsThere (l : Layout) (W : ℕ → ℕ → ℕ) (x y : Keeper) (q t n : ℕ) : Type 0 where
  pub lent : IsLent l x q t n
  pub theirs : y.owner q ≡ Held t n
  pub was_taken : back t x < taken t y
  pub unended : ended t y ≡ back t x
  pub inside : (w : ℕ) → w < n → W q w ≡ cond (covers y.due q w) (x.copy q w) (y.copy q w)
  pub outside : (w : ℕ) → n ≤ w → W q w ≡ x.copy q w

-- on its way back: the peer's next completion of this id has the words
pub record IsBack (l : Layout) (W : ℕ → ℕ → ℕ) (x y : Keeper) (q t n : ℕ) : Type 0 where
  pub lent : IsLent l x q t n
  pub theirs : y.owner q ≡ Away
  pub was_ended : back t x < ended t y
  pub item : Item
  pub item_is : nth (is_done t) (back t x) y.sent ≡ Some item
  pub item_words : item.words ≡ values n (y.copy q)
  pub inside : (w : ℕ) → w < n → W q w ≡ y.copy q w
  pub outside : (w : ℕ) → n ≤ w → W q w ≡ x.copy q w

abbrev pub PageAt : Where → Layout → (ℕ → ℕ → ℕ) → Keeper → Keeper → ℕ → Type 0
PageAt Home l W x y q = AtHome W x y q
PageAt (Out t n) l W x y q = IsOut l W x y q t n
PageAt (There t n) l W x y q = IsThere l W x y q t n
PageAt (Back t n) l W x y q = IsBack l W x y q t n

-- a request that isn't completed, and names a page, is the oldest such of its id, and its sender has lent that page
pub record IsOpen (l : Layout) (s : Side) (x : Keeper) (t k : ℕ) (a : Loan) : Type 0 where
  pub oldest : k ≡ back t x
  pub mine : x.owner a.page ≡ Lent t a.words
  pub home : l.home a.page ≡ s

-- a completion that its requester hasn't taken has no words, or it is the next one of its id and a page is lent under the id
pub record Brings (l : Layout) (s : Side) (x : Keeper) (t k : ℕ) : Type 0 where
  pub next : k ≡ back t x
  pub page : ℕ
  pub words : ℕ
  pub mine : x.owner page ≡ Lent t words
  pub home : l.home page ≡ s

-- the pages whose home is x, at this side, and the requests of x
pub record HomeOk (l : Layout) (s : Side) (W : ℕ → ℕ → ℕ) (x y : Keeper) : Type 0 where
  pub page : (q : ℕ) → l.home q ≡ s → (at : Where) × PageAt at l W x y q
  pub opens : (t k : ℕ) (i : Item) (a : Loan) → nth (is_ask t) k x.sent ≡ Some i → l.lends i.packet ≡ Some a → back t x ≤ k → IsOpen l s x t k a
  pub bare : (t k : ℕ) (i : Item) → nth (is_ask t) k x.sent ≡ Some i → l.lends i.packet ≡ None → i.words ≡ []
  pub brings : (t k : ℕ) (i : Item) → nth (is_done t) k y.sent ≡ Some i → back t x ≤ k → (i.words ≡ []) ⊎ Brings l s x t k
  pub due_mine : (q n k : ℕ) → x.due ≡ Loads q n k → l.home q ≡ s → x.owner q ≡ Has
  pub due_theirs : (q n k : ℕ) → y.due ≡ Loads q n k → l.home q ≡ s → (t : ℕ) × (y.owner q ≡ Held t n)

-- Both ends and the page words, from the side of x. An end completes no more than it took
pub record PagesOwned (l : Layout) (s : Side) (W : ℕ → ℕ → ℕ) (x y : Keeper) : Type 0 where
  pub out : Flow W x y
  pub inn : Flow W y x
  pub mine : HomeOk l s W x y
  pub theirs : HomeOk l (other_end s) W y x
  pub owed : (t : ℕ) → ended t x ≤ taken t x
  pub peer_owed : (t : ℕ) → ended t y ≤ taken t y
