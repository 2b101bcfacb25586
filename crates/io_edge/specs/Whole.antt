-- What a whole read answers.
use Rattle.std.specs.Prelude.{◌≡◌, ℕ, ◌<◌, ◌≤◌, List, length, Result, Ok, Err, Vec}
use Rattle.std.specs.declared.alloc.Global.{Global}
use Rattle.io_edge.specs.declared.whole.ReadFault.{ReadFault}
use Rattle.io_edge.specs.declared.whole.ReadFault.TheVariants.{Memory, Fault, Limit}

-- what a read of all these bytes may answer, where none of its calls fails
abbrev pub IsReadOf : List ℕ → ℕ → Result (Vec ℕ Global) ReadFault → Type 0
IsReadOf all most (Ok bytes) = (bytes.items ≡ all) × (length all ≤ most)
IsReadOf all most (Err Limit) = most < length all
IsReadOf all most (Err Memory) = Unit {0}
IsReadOf all most (Err Fault) = ⊥
