-- What the rule of pages says, in plain words, and that each move keeps it.
use Rattle.std.specs.Prelude.{◌≡◌, ℕ, ◌+◌, ◌^◌, ◌<◌, ◌≤◌, ◌==◌, ◌*◌, false, length, List, [], ◌∷◌, ◌++◌, Some, None, slice_set}
use Rattle.io_edge.specs.declared.side.Side.{Side}
use Rattle.page_kept.specs.declared.due.Due.TheVariants.{Clear, Loads}
use Rattle.page_kept.specs.declared.item.Item.{Item}
use Rattle.page_kept.specs.declared.kept.Kept.{Kept}
use Rattle.page_kept.specs.declared.owner.Owner.TheVariants.{Has, Lent, Held}
use Rattle.page_kept.specs.Items.{packets}
use Rattle.page_kept.specs.Layouts.{Loan, Layout}
use Rattle.page_kept.specs.Kept.{first_owner, pages_sent, pages_took}
use Rattle.page_kept.specs.Stepped.{word_in, page_stored, page_loaded}
use Rattle.page_kept.specs.Counts.{is_ask, nth}
use Rattle.page_kept.specs.Keepers.{Keeper, keeper, asked, taken, ended, back, MaySend, MayStore}
use Rattle.ring_loan_rule.specs.Pages.{PagesOwned}

-- an end of a new channel
abbrev pub new_keeper : Layout → Side → Keeper
new_keeper l x = record { sent = []; took = []; got = []; owner = λ q. first_owner x (l.home q); copy = λ q w. 0; due = Clear }

-- a packet in band with id 1, which is an RNDIS packet whose message is the first 512 bytes of section 0
abbrev pub small_request : List ℕ
small_request = (6 + 2 * 2 ^ 16 + 7 * 2 ^ 32) ∷ 1 ∷ 107 ∷ (512 * 2 ^ 32) ∷ 0 ∷ 0 ∷ 0 ∷ []

-- The pages of an end are listed, with 512 words a page in its copy. Each page that a packet names is in the list, and 1 to 512 words of it are lent
pub record Lawful (l : Layout) (k : Kept) : Type 0 where
  pub pages : (k.count == 0) ≡ false
  pub listed : length k.owners ≡ k.count
  pub copied : length k.copy ≡ 512 * k.count
  pub inside : (p : List ℕ) (a : Loan) → l.lends p ≡ Some a → (a.page < k.count) × (0 < a.words) × (a.words ≤ 512)

-- the next item that y takes, where it has nothing to load
pub record Next (x y : Keeper) (i : Item) (more : List Item) : Type 0 where
  pub sent : x.sent ≡ y.got ++ i ∷ more
  pub took : y.took ≡ packets y.got

-- the counts of each id of a requester x: completions taken, sent, requests taken, sent
pub record InTurn (t : ℕ) (x y : Keeper) : Type 0 where
  pub done_taken : back t x ≤ ended t y
  pub done_sent : ended t y ≤ taken t y
  pub ask_taken : taken t y ≤ asked t x

-- x sent this request of id t, after k others of its id, and it lends this page
abbrev pub Lends : Layout → Keeper → ℕ → ℕ → Loan → Type 0
Lends l x t k a = (i : Item) × (nth (is_ask t) k x.sent ≡ Some i) × (l.lends i.packet ≡ Some a)

-- What an end got, where it has nothing to load: the front of what its peer sent, with the words of each packet's page
pub record GotWhole (x y : Keeper) : Type 0 where
  pub rest : List Item
  pub front_is : x.sent ≡ y.got ++ rest
  pub all : y.took ≡ packets y.got

-- What the rule says: counts are in turn; a packet that lends is open or completed in its turn, no page is named by two open packets; an end with
-- nothing to load got whole items
pub record Says (l : Layout) (s : Side) (W : ℕ → ℕ → ℕ) (x y : Keeper) : Type 0 where
  pub counts : (t : ℕ) → InTurn t x y
  pub peers_counts : (t : ℕ) → InTurn t y x
  pub in_turn : (t k : ℕ) (a : Loan) → Lends l x t k a → k ≤ back t x
  pub open_lent : (t k : ℕ) (a : Loan) → Lends l x t k a → back t x ≤ k → x.owner a.page ≡ Lent t a.words
  pub one_open : (t k u j : ℕ) (a b : Loan) → Lends l x t k a → back t x ≤ k → Lends l x u j b → back u x ≤ j → a.page ≡ b.page → (t ≡ u) × (k ≡ j)
  pub words_had : (q : ℕ) → x.owner q ≡ Has → x.due ≡ Clear → (w : ℕ) → W q w ≡ x.copy q w
  pub words_held : (q t n : ℕ) → x.owner q ≡ Held t n → x.due ≡ Clear → (w : ℕ) → w < n → W q w ≡ x.copy q w
  pub words_kept : (q t n : ℕ) → x.owner q ≡ Lent t n → (w : ℕ) → n ≤ w → W q w ≡ x.copy q w
  pub got : y.due ≡ Clear → GotWhole x y
  pub got_all : y.due ≡ Clear → y.took ≡ packets x.sent → y.got ≡ x.sent

-- What an end that has nothing to load knows of its peer's requests by itself
pub record HoldsOpen (l : Layout) (y : Keeper) : Type 0 where
  -- a request that it got, that lends a page, and that it hasn't completed has that page here, and all its words
  pub held : (t k : ℕ) (i : Item) (a : Loan) → nth (is_ask t) k y.got ≡ Some i → l.lends i.packet ≡ Some a → ended t y ≤ k → (y.owner a.page ≡ Held t a.words) × (length i.words ≡ a.words)
  -- one that lends no page of the channel has no page words
  pub bare : (t k : ℕ) (i : Item) → nth (is_ask t) k y.got ≡ Some i → l.lends i.packet ≡ None → i.words ≡ []
  -- no two pages are held under one id
  pub one : (t q r m n : ℕ) → y.owner q ≡ Held t m → y.owner r ≡ Held t n → q ≡ r

-- Each move of an end with data pages keeps the rule, whatever its peer does: a packet is sent, a packet is taken, a page word is stored, a due word is
-- loaded. The words of the pages stand in a list from this place on
abbrev pub Keeps : Layout → Side → ℕ → List ℕ → List (List ℕ) → Kept → Keeper → Type 0
Keeps l s base ws took k y = Lawful l k → base + 512 * k.count ≤ length ws → PagesOwned l s (word_in base ws) (keeper l s took k) y
    → ((p : List ℕ) → MaySend l (keeper l s took k) p → PagesOwned l s (word_in base ws) (keeper l s took (pages_sent l k p)) y)
    × ((i : Item) (more : List Item) → k.due ≡ Clear → Next y (keeper l s took k) i more → PagesOwned l s (word_in base ws) (keeper l s (took ++ i.packet ∷ []) (pages_took l k i.packet)) y)
    × ((q w v : ℕ) → MayStore l s k q w → PagesOwned l s (word_in base (slice_set ws (base + (512 * q + w)) v)) (keeper l s took (page_stored k q w v)) y)
    × ((q n j : ℕ) → k.due ≡ Loads q n j → q < k.count → j < 512 → (p : List ℕ) × (took ≡ packets k.got ++ p ∷ []) × PagesOwned l s (word_in base ws) (keeper l s took (page_loaded k p (word_in base ws q j))) y)
