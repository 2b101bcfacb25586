-- What a send and a take make of the pages of an end. A channel without pages keeps nothing.
use Rattle.std.specs.Prelude.{ℕ, suc, ◌+◌, ◌*◌, Bool, true, false, ◌==◌, ltb, cond, List, [], ◌∷◌, ◌++◌, Option, Some, None, slice_index, slice_index_or, slice_set}
pub use Rattle.page_kept.specs.declared.kept.Kept.{Kept}
pub use Rattle.page_kept.specs.declared.owner.Owner.{Owner}
pub use Rattle.page_kept.specs.declared.owner.Owner.TheVariants.{Has, Lent, Held, Away}
pub use Rattle.page_kept.specs.declared.due.Due.{Due}
pub use Rattle.page_kept.specs.declared.due.Due.TheVariants.{Clear, Loads}
pub use Rattle.page_kept.specs.declared.page_call.PageCall.{PageCall}
pub use Rattle.page_kept.specs.declared.page_call.PageCall.TheVariants.{Off, StoreWord, LoadWords}
use Rattle.pkt_desc.specs.Packets.{kind_of, id_of}
use Rattle.page_kept.specs.Items.{item_of, values}
use Rattle.page_kept.specs.Layouts.{Side, Guest, Host, Loan, Layout}

abbrev pub no_pages : Kept
no_pages = record { count = 0; sent = []; got = []; owners = []; copy = []; due = Clear; call = Off }

-- what an end has to do at first with a page of this home
abbrev pub first_owner : Side → Side → Owner
first_owner Guest Guest = Has
first_owner Guest Host = Away
first_owner Host Guest = Away
first_owner Host Host = Has

-- what the end x has to do with a page
abbrev pub owner_in : Layout → Side → Kept → ℕ → Owner
owner_in l x k q = slice_index_or k.owners q (first_owner x (l.home q))

-- a word of the copy: 0 where there is none
abbrev pub copy_in : Kept → ℕ → ℕ → ℕ
copy_in k q w = cond (ltb w 512) (slice_index k.copy (512 * q + w)) 0

-- lent, or held, by a packet with this id; and how many words
abbrev pub is_lent : ℕ → Owner → Bool
is_lent t (Lent u n) = u == t
is_lent t _ = false

abbrev pub is_held : ℕ → Owner → Bool
is_held t (Held u n) = u == t
is_held t _ = false

abbrev pub lent_words : Owner → ℕ
lent_words (Lent u n) = n
lent_words (Held u n) = n
lent_words _ = 0

-- the first page that passes, counted from q
abbrev pub first_page : (Owner → Bool) → ℕ → List Owner → Option ℕ
first_page f q [] = None
first_page f q (o ∷ os) = cond (f o) (Some q) (first_page f (suc q) os)

-- a packet was sent with these page words, and the owners are these
abbrev pub with_sent : Kept → List ℕ → List ℕ → List Owner → Kept
with_sent k p ws os = record { count = k.count; sent = k.sent ++ item_of p ws ∷ []; got = k.got; owners = os; copy = k.copy; due = k.due; call = k.call }

-- a completion brings back the page that is held under its id
abbrev pub gives_back : Kept → List ℕ → Option ℕ → Kept
gives_back k p None = with_sent k p [] k.owners
gives_back k p (Some q) = with_sent k p (values (lent_words (slice_index_or k.owners q Away)) (copy_in k q)) (slice_set k.owners q Away)

-- any other packet lends what it names
abbrev pub lends_out : Kept → List ℕ → Option Loan → Kept
lends_out k p None = with_sent k p [] k.owners
lends_out k p (Some a) = with_sent k p (values a.words (copy_in k a.page)) (slice_set k.owners a.page (Lent (id_of p) a.words))

-- Packet p was sent, at its store of the write index. A completion has type 11
abbrev pub pages_sent : Layout → Kept → List ℕ → Kept
pages_sent l k p = cond (k.count == 0) k (cond (kind_of p == 11) (gives_back k p (first_page (is_held (id_of p)) 0 k.owners)) (lends_out k p (l.lends p)))

-- a packet was taken, and no page comes with it
abbrev pub with_took : Kept → List ℕ → Kept
with_took k p = record { count = k.count; sent = k.sent; got = k.got ++ item_of p [] ∷ []; owners = k.owners; copy = k.copy; due = k.due; call = k.call }

-- a packet was taken, the owners are these, and n words of a page are due
abbrev pub with_due : Kept → List Owner → ℕ → ℕ → Kept
with_due k os q n = record { count = k.count; sent = k.sent; got = k.got; owners = os; copy = k.copy; due = Loads q n 0; call = k.call }

-- a completion brings back the page that is lent under its id
abbrev pub has_back : Kept → List ℕ → Option ℕ → Kept
has_back k p None = with_took k p
has_back k p (Some q) = with_due k (slice_set k.owners q Has) q (lent_words (slice_index_or k.owners q Away))

-- a page of the peer, that isn't held under another id
abbrev pub may_hold : ℕ → Owner → Bool
may_hold t Has = false
may_hold t (Lent u n) = false
may_hold t (Held u n) = u == t
may_hold t Away = true

-- any other packet lends what it names, where this end may hold that
abbrev pub holds_now : Kept → List ℕ → Option Loan → Kept
holds_now k p None = with_took k p
holds_now k p (Some a) = cond (may_hold (id_of p) (slice_index_or k.owners a.page Has)) (with_due k (slice_set k.owners a.page (Held (id_of p) a.words)) a.page a.words) (with_took k p)

-- packet p was taken, at the last load of its take
abbrev pub pages_took : Layout → Kept → List ℕ → Kept
pages_took l k p = cond (k.count == 0) k (cond (kind_of p == 11) (has_back k p (first_page (is_lent (id_of p)) 0 k.owners)) (holds_now k p (l.lends p)))
