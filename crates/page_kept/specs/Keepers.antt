-- An end's part in the pages of its channel, as functions of the page, and what its calls ask of it.
use Rattle.std.specs.Prelude.{◌≡◌, ℕ, ◌<◌, ◌≤◌, true, false, ◌==◌, List, Some}
use Rattle.pkt_desc.specs.Packets.{kind_of, id_of}
use Rattle.page_kept.specs.Items.{Item, packets}
use Rattle.page_kept.specs.Layouts.{Side, Loan, Layout}
use Rattle.page_kept.specs.Kept.{Kept, Owner, Has, Lent, Held, Away, Due, Clear, owner_in, copy_in}
use Rattle.page_kept.specs.Counts.{is_done, is_ask, count}

-- An end's part: the items that it sent, the packets that it took, the items among them whose words it has, its pages, its copy of their words, and
-- what it has to load
pub record Keeper : Type 0 where
  pub sent : List Item
  pub took : List (List ℕ)
  pub got : List Item
  pub owner : ℕ → Owner
  pub copy : ℕ → ℕ → ℕ
  pub due : Due

-- the part of the end x that keeps this, and took these packets
abbrev pub keeper : Layout → Side → List (List ℕ) → Kept → Keeper
keeper l x took k = record { sent = k.sent; took = took; got = k.got; owner = owner_in l x k; copy = copy_in k; due = k.due }

-- The four counts of an id: the requests that x sent, those of them that y took, the completions that y sent, and those that x took
abbrev pub asked : ℕ → Keeper → ℕ
asked t x = count (is_ask t) (packets x.sent)

abbrev pub taken : ℕ → Keeper → ℕ
taken t y = count (is_ask t) y.took

abbrev pub ended : ℕ → Keeper → ℕ
ended t y = count (is_done t) (packets y.sent)

abbrev pub back : ℕ → Keeper → ℕ
back t x = count (is_done t) x.took

-- What a send asks of an end with data pages, besides room: nothing is due; it is the home of a page that a request names, and has it, and all
-- earlier requests of the id are completed; a completion answers a request that was taken and isn't completed
pub record MaySend (l : Layout) (x : Keeper) (p : List ℕ) : Type 0 where
  pub clear : x.due ≡ Clear
  pub has : (a : Loan) → (kind_of p == 11) ≡ false → l.lends p ≡ Some a → x.owner a.page ≡ Has
  pub settled : (a : Loan) → (kind_of p == 11) ≡ false → l.lends p ≡ Some a → asked (id_of p) x ≤ back (id_of p) x
  pub answers : (kind_of p == 11) ≡ true → ended (id_of p) x < taken (id_of p) x

-- the word w of a page may be stored to: the end has the page, or holds it, and the word is lent
abbrev pub CanStore : Owner → ℕ → Type 0
CanStore Has w = Unit {0}
CanStore (Lent t n) w = ⊥
CanStore (Held t n) w = w < n
CanStore Away w = ⊥

-- what a store of a page word asks of the end s
pub record MayStore (l : Layout) (s : Side) (k : Kept) (q w : ℕ) : Type 0 where
  pub clear : k.due ≡ Clear
  pub page : q < k.count
  pub word : w < 512
  pub owns : CanStore (owner_in l s k q) w
