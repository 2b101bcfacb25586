-- How many packets of an id there are, and which item of them has a number.
use Rattle.std.specs.Prelude.{ℕ, ◌+◌, ◌-◌, Bool, ◌&&◌, ◌==◌, not, cond, List, [], ◌∷◌, Option, Some, None}
use Rattle.pkt_desc.specs.Packets.{kind_of, id_of}
use Rattle.page_kept.specs.Items.{Item}

-- a completion, of type 11, with this id; and a packet of any other type with this id
abbrev pub is_done : ℕ → List ℕ → Bool
is_done t p = (kind_of p == 11) && (id_of p == t)

abbrev pub is_ask : ℕ → List ℕ → Bool
is_ask t p = not (kind_of p == 11) && (id_of p == t)

abbrev pub bit : Bool → ℕ
bit b = cond b 1 0

-- how many pass the test
abbrev pub count : (List ℕ → Bool) → List (List ℕ) → ℕ
count f [] = 0
count f (p ∷ ps) = bit (f p) + count f ps

-- the item number k, from 0, of those whose packet passes the test
abbrev pub nth : (List ℕ → Bool) → ℕ → List Item → Option Item
nth f k [] = None
nth f k (i ∷ is) = cond (f i.packet) (cond (k == 0) (Some i) (nth f (k - 1) is)) (nth f k is)
