-- The objects that a query may ask for.
use Rattle.std.specs.Prelude.{ℕ, List, [], ◌∷◌, Option, Some, None, ◌==◌, if◌then◌else◌}
use Rattle.std.specs.List.{flat_map}
use Rattle.wire_table.specs.Little.{bytes_of}
use Rattle.net_dev.specs.declared.objects.Object.{Object}
use Rattle.net_dev.specs.declared.objects.Answer.{Answer}
use Rattle.net_dev.specs.declared.objects.Answer.TheVariants.{Objects, Number, Filter, Address}

-- an object with its number and what a query of it gives
abbrev pub object : ℕ → Answer → Object
object oid answer = record { oid = oid; answer = answer }

-- all objects: the list of them, hardware ready, 802.3 supported and in use, frames of 1,500 bytes, 10,000,000 units of 100 bits a second,
-- the packet filter, connected, and the adapter's permanent and current address
abbrev pub objects : List Object
objects =
    object 0x0001_0101 Objects
    ∷ object 0x0001_0102 (Number 0)
    ∷ object 0x0001_0103 (Number 0)
    ∷ object 0x0001_0104 (Number 0)
    ∷ object 0x0001_0106 (Number 1500)
    ∷ object 0x0001_0107 (Number 10000000)
    ∷ object 0x0001_010e Filter
    ∷ object 0x0001_0114 (Number 0)
    ∷ object 0x0101_0101 Address
    ∷ object 0x0101_0102 Address
    ∷ []

-- what the first object of this number gives
abbrev pub answer_in : List Object → ℕ → Option Answer
answer_in [] oid = None
answer_in (o ∷ os) oid = if o.oid == oid then Some o.answer else answer_in os oid

-- what a query of an object gives
abbrev pub answer_for : ℕ → Option Answer
answer_for oid = answer_in objects oid

-- the numbers of objects, 4 bytes each
abbrev pub numbers_of : List Object → List ℕ
numbers_of os = flat_map (λ (o : Object). bytes_of 4 o.oid) os

-- the numbers of all objects
abbrev pub object_bytes : List ℕ
object_bytes = numbers_of objects
