-- What a sound layout gives of each field.
use Rattle.std.proofs.Common.{◌≡◌, ℕ, zero, suc, ◌+◌, ◌<◌, ◌≤◌, Bool, true, false, cond, nat_lt, List, [], ◌∷◌, length, Option, Some, None, arith}
use Rattle.std.proofs.lemmas.Bool.Decides.{nat_tests}
use Rattle.wire_table.specs.declared.field.Field.{Field}
use Rattle.wire_table.specs.declared.field.LayoutFault.{LayoutFault}
use Rattle.wire_table.specs.declared.field.LayoutFault.TheVariants.{PastEnd}
use Rattle.wire_table.specs.Tables.{overlap_of, past_end_of, or_else, fault_of, end_of}

second_none : (a b : Option LayoutFault) → or_else a b ≡ None → b ≡ None
second_none None b h = h
second_none (Some e) b h = cc

later_none : (b : Bool) (x : LayoutFault) (y : Option LayoutFault) → cond b (Some x) y ≡ None → y ≡ None
later_none true x y h = cc
later_none false x y h = h

-- and it has no field past the end
pub within_size : (size k : ℕ) (fs : List Field) (i : ℕ) → past_end_of size k fs ≡ None → i < length fs → end_of fs i ≤ size
within_size size k [] i h lt = absurd (omega arith)
within_size size k (f ∷ fs) zero h lt = grind (arith, nat_tests)
within_size size k (f ∷ fs) (suc i) h lt = within_size size (k + 1) fs i (later_none (nat_lt size (f.at + f.width)) (PastEnd k) (past_end_of size (k + 1) fs) h) (omega arith)

-- a field of a sound layout ends within the size
pub end_within : (size : ℕ) (fs : List Field) (i : ℕ) → fault_of size fs ≡ None → i < length fs → end_of fs i ≤ size
end_within size fs i h lt = within_size size 0 fs i (second_none (overlap_of 0 fs) (past_end_of size 0 fs) h) lt
