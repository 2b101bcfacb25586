-- What an end has to do with a page, in numbers, and what a packet names.
use Rattle.std.specs.Prelude.{ℕ, ◌<◌, ◌≤◌, Bool, true, false, ◌&&◌, ◌==◌, nat_le, cond, List, [], ◌∷◌, length, slice_index, slice_index_or, slice_set, Option, Some, None}
use Rattle.std.specs.List.{position}
use Rattle.pkt_desc.specs.Packets.{kind_of, id_of, len8_of, offset8_of}
use Rattle.page_kept.specs.declared.owner.Owner.{Owner}
use Rattle.page_kept.specs.declared.owner.Owner.TheVariants.{Has, Lent, Held, Away}
use Rattle.page_kept.specs.Kept.{is_held, is_lent, may_hold}
use Rattle.page_kept.specs.Layouts.{Loan, layout}
pub use Rattle.page_call_plan.specs.declared.slot.PageSlot.{PageSlot}
use Rattle.page_call_plan.specs.declared.packet.Part.{Part}

-- 1 the end has the page, 2 it has lent it, 3 it holds it; by any other number the page is the peer's
abbrev pub owner_at : ℕ → ℕ → ℕ → Owner
owner_at o t n = cond (o == 1) Has (cond (o == 2) (Lent t n) (cond (o == 3) (Held t n) Away))

abbrev pub owner_of : PageSlot → Owner
owner_of s = owner_at s.owner s.tid s.words

abbrev pub owners_of : List PageSlot → List Owner
owners_of [] = []
owners_of (s ∷ ss) = owner_of s ∷ owners_of ss

abbrev pub away : PageSlot
away = record { tid = 0; words = 0; owner = 0 }

abbrev pub has : PageSlot
has = record { tid = 0; words = 0; owner = 1 }

abbrev pub lent : ℕ → ℕ → PageSlot
lent t n = record { tid = t; words = n; owner = 2 }

abbrev pub held : ℕ → ℕ → PageSlot
held t n = record { tid = t; words = n; owner = 3 }

abbrev pub slot_at : List PageSlot → ℕ → PageSlot
slot_at ss q = slice_index_or ss q away

-- the end has the page
abbrev pub is_had : Owner → Bool
is_had Has = true
is_had (Lent t n) = false
is_had (Held t n) = false
is_had Away = false

-- how many of a page's first words the end may store to
abbrev pub store_room : Owner → ℕ
store_room Has = 512
store_room (Lent t n) = 0
store_room (Held t n) = n
store_room Away = 0

-- the words that are lent, or held, are 1 to 512
abbrev pub Fits : Owner → Type 0
Fits Has = Unit {0}
Fits (Lent t n) = (0 < n) × (n ≤ 512)
Fits (Held t n) = (0 < n) × (n ≤ 512)
Fits Away = Unit {0}

-- at least two words, of which the first has their number, and an offset past the descriptor and not past the end
abbrev pub is_packet : List ℕ → Bool
is_packet p = nat_le 2 (length p) && ((len8_of (slice_index p 0) == length p) && (nat_le 2 (offset8_of (slice_index p 0)) && nat_le (offset8_of (slice_index p 0)) (len8_of (slice_index p 0))))

abbrev pub loan_of : Part → Loan
loan_of a = record { page = a.page; words = a.words }

abbrev pub loans : Option Part → Option Loan
loans None = None
loans (Some a) = Some (loan_of a)

-- what a packet names in a channel with these pages
abbrev pub named_in : List PageSlot → List ℕ → Option Loan
named_in ss p = (layout (length ss)).lends p

-- the first page that is held, or lent, under this id
abbrev pub held_under : ℕ → List PageSlot → Option ℕ
held_under t ss = position (λ s. is_held t (owner_of s)) ss

abbrev pub lent_under : ℕ → List PageSlot → Option ℕ
lent_under t ss = position (λ s. is_lent t (owner_of s)) ss

-- A send gives back the page that is held under a completion's id, and lends what any other packet names
abbrev pub given_back : List PageSlot → Option ℕ → List PageSlot
given_back ss None = ss
given_back ss (Some q) = slice_set ss q away

abbrev pub lent_out : List PageSlot → ℕ → Option Loan → List PageSlot
lent_out ss t None = ss
lent_out ss t (Some a) = slice_set ss a.page (lent t a.words)

abbrev pub slots_sent : List PageSlot → List ℕ → List PageSlot
slots_sent ss p = cond (kind_of p == 11) (given_back ss (held_under (id_of p) ss)) (lent_out ss (id_of p) (named_in ss p))

-- A take has the page back that is lent under a completion's id, and holds what any other packet names, where it may: the slots, and the words that are due then
abbrev pub has_back : List PageSlot → Option ℕ → List PageSlot
has_back ss None = ss
has_back ss (Some q) = slice_set ss q has

abbrev pub held_now : List PageSlot → ℕ → Option Loan → List PageSlot
held_now ss t None = ss
held_now ss t (Some a) = cond (may_hold t (owner_of (slot_at ss a.page))) (slice_set ss a.page (held t a.words)) ss

abbrev pub slots_took : List PageSlot → List ℕ → List PageSlot
slots_took ss p = cond (kind_of p == 11) (has_back ss (lent_under (id_of p) ss)) (held_now ss (id_of p) (named_in ss p))

abbrev pub back_part : List PageSlot → Option ℕ → Option Loan
back_part ss None = None
back_part ss (Some q) = Some record { page = q; words = (slot_at ss q).words }

abbrev pub held_part : List PageSlot → ℕ → Option Loan → Option Loan
held_part ss t None = None
held_part ss t (Some a) = cond (may_hold t (owner_of (slot_at ss a.page))) (Some a) None

abbrev pub part_took : List PageSlot → List ℕ → Option Loan
part_took ss p = cond (kind_of p == 11) (back_part ss (lent_under (id_of p) ss)) (held_part ss (id_of p) (named_in ss p))
