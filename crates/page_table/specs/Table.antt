-- The pages of one end, and what a packet that it sends or takes makes of them.
use Rattle.std.specs.Prelude.{◌≡◌, ◌≢◌, ◌⊎◌, ℕ, zero, suc, ◌+◌, ◌*◌, ◌<◌, ◌≤◌, Bool, true, false, ◌==◌, ltb, cond, List, [], ◌∷◌, ◌++◌, length, slice_index, slice_index_or, slice_set, Option, Some, None, MatchOption}
use Rattle.std.specs.List.{position}
use Rattle.page_kept.specs.Items.{item_of, values}
use Rattle.io_edge.specs.declared.side.Side.{Side}
use Rattle.page_kept.specs.declared.kept.Kept.{Kept}
use Rattle.page_kept.specs.declared.owner.Owner.{Owner}
use Rattle.page_kept.specs.declared.owner.Owner.TheVariants.{Has, Lent, Held, Away}
use Rattle.page_kept.specs.Kept.{first_owner, first_page, is_held, lent_words, may_hold, copy_in, with_sent, with_due}
use Rattle.pkt_desc.specs.Packets.{kind_of, id_of}
use Rattle.page_kept.specs.Layouts.{Loan, layout}
use Rattle.page_table.specs.declared.loan.Loan.{Loan as Part}
use Rattle.page_table.specs.Ids.{Counts}

-- what the end has to do with each page, its copy of their words, 512 a page, and the balances of its ids
pub record Table : Type 0 where
  pub owners : List Owner
  pub copy : List ℕ
  pub counts : Counts

-- a word of a copy: 0 where there is none
abbrev pub word_of : List ℕ → ℕ → ℕ → ℕ
word_of copy q w = cond (ltb w 512) (slice_index copy (512 * q + w)) 0

-- the words that are lent, or held, are 1 to 512
abbrev pub Fits : Owner → Type 0
Fits Has = Unit {0}
Fits (Lent t n) = (0 < n) × (n ≤ 512)
Fits (Held t n) = (0 < n) × (n ≤ 512)
Fits Away = Unit {0}

-- at most 128 pages, each with its words
pub record IsTable (owners : List Owner) (copy : List ℕ) : Type 0 where
  pub most : length owners ≤ 128
  pub copied : length copy ≡ 512 * length owners
  pub fit : (q : ℕ) → Fits (slice_index_or owners q Away)

-- the pages of a new end
abbrev pub first_owners : Side → ℕ → List Owner
first_owners x zero = []
first_owners x (suc c) = first_owners x c ++ first_owner x ((layout 0).home c) ∷ []

-- the end has the page
abbrev pub is_had : Owner → Bool
is_had Has = true
is_had (Lent t n) = false
is_had (Held t n) = false
is_had Away = false

-- the end has the page, or holds it
abbrev pub is_owned : Owner → Bool
is_owned Has = true
is_owned (Lent t n) = false
is_owned (Held t n) = true
is_owned Away = false

-- a page that there isn't is Away
abbrev pub owned_in : List Owner → ℕ → Bool
owned_in owners q = is_owned (slice_index_or owners q Away)

-- 1 to 512 words of a page that there is
abbrev pub IsPart : List Owner → Part → Type 0
IsPart owners a = (a.page < length owners) × (0 < a.words) × (a.words ≤ 512)

abbrev pub loan_of : Part → Loan
loan_of a = record { page = a.page; words = a.words }

-- what a packet names in a channel with these pages
abbrev pub named_in : List Owner → List ℕ → Option Loan
named_in owners p = (layout (length owners)).lends p

abbrev pub loans : Option Part → Option Loan
loans None = None
loans (Some a) = Some (loan_of a)

-- the page that is held, with all its words
abbrev pub held_part : List Owner → Option ℕ → Option Loan
held_part owners None = None
held_part owners (Some q) = Some record { page = q; words = lent_words (slice_index_or owners q Away) }

-- the part of a page that goes along with a packet, if that is sent: the first page that is held under a completion's id, or what any other packet names
abbrev pub part_in : List Owner → List ℕ → Option Loan
part_in owners p = cond (kind_of p == 11) (held_part owners (first_page (is_held (id_of p)) 0 owners)) (named_in owners p)

-- the page that is held under this id, with all its words
abbrev pub IsHeldPart : ℕ → List Owner → Option Part → Type 0
IsHeldPart t owners result = MatchOption result (position (is_held t) owners ≡ None) (λ a. (position (is_held t) owners ≡ Some a.page) × (a.words ≡ lent_words (slice_index_or owners a.page Away)))

-- the page that passes goes back, or comes back, to be this: the first one, if any
abbrev pub GoesBack : (Owner → Bool) → Owner → List Owner → List Owner → Option Part → Type 0
GoesBack f o old new result = MatchOption result
    ((position f old ≡ None) × (new ≡ old))
    (λ a. (position f old ≡ Some a.page) × (a.words ≡ lent_words (slice_index_or old a.page Away)) × (new ≡ slice_set old a.page o))

-- the page that a packet with this id names is lent
abbrev pub Lends : ℕ → List ℕ → List Owner → List Owner → Option Part → Type 0
Lends t p old new result = MatchOption result
    ((named_in old p ≡ None) × (new ≡ old))
    (λ a. (named_in old p ≡ Some (loan_of a)) × (new ≡ slice_set old a.page (Lent t a.words)))

-- the page that a packet with this id names is held, where it may be
abbrev pub Holds : ℕ → List ℕ → List Owner → List Owner → Option Part → Type 0
Holds t p old new result = MatchOption result
    (((named_in old p ≡ None) ⊎ ((a : Part) × (named_in old p ≡ Some (loan_of a)) × (may_hold t (slice_index_or old a.page Has) ≡ false))) × (new ≡ old))
    (λ a. (named_in old p ≡ Some (loan_of a)) × (may_hold t (slice_index_or old a.page Has) ≡ true) × (new ≡ slice_set old a.page (Held t a.words)))

-- an end that keeps this has these pages, and there are some
pub record KeepsPages (k : Kept) (t : Table) : Type 0 where
  pub count : k.count ≡ length t.owners
  pub some : k.count ≢ 0
  pub owners : k.owners ≡ t.owners
  pub copy : k.copy ≡ t.copy

-- the packet p was sent, these are the owners now, and the words of this part of a page went along
abbrev pub sent_by : Kept → List ℕ → List Owner → Option Part → Kept
sent_by k p os None = with_sent k p [] os
sent_by k p os (Some a) = with_sent k p (values a.words (copy_in k a.page)) os

-- the packet p was taken, these are the owners now, and this part of a page is to be loaded
abbrev pub took_by : Kept → List ℕ → List Owner → Option Part → Kept
took_by k p os None = record { count = k.count; sent = k.sent; got = k.got ++ item_of p [] ∷ []; owners = os; copy = k.copy; due = k.due; call = k.call }
took_by k p os (Some a) = with_due k os a.page a.words
