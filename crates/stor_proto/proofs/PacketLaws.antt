-- What is read of a packet is spelled so, and what is spelled so is read.
use Rattle.std.proofs.Common.{◌≡◌, ℕ, ◌+◌, ◌≤◌, Bool, true, false, cond, not, ◌&&◌, eqb, List, [], ◌++◌, length, take, drop, Option, Some, None, refl, sym, ap, ◌∙◌, arith}
use Rattle.std.specs.Prelude.{is_none, IsSome, nat_lt}
use Rattle.std.proofs.lemmas.Bool.Decides.{nat_tests}
use Rattle.std.proofs.lemmas.List.{take_at, take-append-drop}
use Rattle.wire_table.specs.Rows.{Row, spelled_after, rows_at, nth_number, nth_raw}
use Rattle.wire_table.proofs.RowLaws.{IsBytes, front_found, front_again, length-spelled_after}
use Rattle.stor_proto.specs.Operations.{operation_of}
use Rattle.stor_proto.specs.Packets.{rows_of, vstor_kinds, vstor_bytes, InForm, IsAllowed, vstor_in, vstor_fault, fault_in}
use Rattle.stor_proto.specs.declared.vstor.Vstor.{Vstor}
use Rattle.stor_proto.specs.declared.fault.VstorFault.{VstorFault}
use Rattle.stor_proto.specs.declared.fault.VstorFault.TheVariants.{Short, Operation, Field}
use Rattle.stor_proto.specs.declared.field_name.FieldName.TheVariants.{Status}

none_from : {E : Type 0} (b : Bool) (x : E) (y : Option E) → cond b (Some x) y ≡ None → (b ≡ false) × (y ≡ None)
none_from true x y h = cc
none_from false x y h = (refl, h)

some_from : {X : Type 0} (o : Option X) → is_none o ≡ false → IsSome o
some_from None h = cc
some_from (Some x) h = refl

not_none : {X : Type 0} (o : Option X) → IsSome o → is_none o ≡ false
not_none None h = cc
not_none (Some x) h = refl

allowed_from : (p : Vstor) → fault_in p ≡ None → IsAllowed p
allowed_from p h =
    let last : Option VstorFault = cond (not (eqb p.status 0) && not (eqb p.operation 1)) (Some (Field Status p.status)) None in
    let first = none_from (is_none (operation_of p.operation)) (Operation p.operation) last h in
    let second = none_from {E = VstorFault} (not (eqb p.status 0) && not (eqb p.operation 1)) (Field Status p.status) None first.1 in
    (some_from (operation_of p.operation) first.0, λ other. grind (arith, nat_tests, second.0, other))

no_fault : (p : Vstor) → IsAllowed p → fault_in p ≡ None
no_fault p h =
    let known = not_none (operation_of p.operation) h.0 in
    let fine : (not (eqb p.status 0) && not (eqb p.operation 1)) ≡ false = grind (arith, nat_tests, h.1) in
    rw (known, fine) refl

-- the values of rows
of_rows : List Row → Vstor
of_rows rs = record { operation = nth_number 0 rs; flags = nth_number 1 rs; status = nth_number 2 rs; rest = nth_raw 3 rs }

pub vstor_found : (b : List ℕ) → IsBytes b → vstor_fault b ≡ None → InForm (vstor_in b) × IsAllowed (vstor_in b) × (take 64 b ≡ vstor_bytes (vstor_in b))
unfolding vstor_fault vstor_in vstor_bytes
vstor_found b bytes h =
    let first = none_from (nat_lt (length b) 64) (Short (length b) 64) (fault_in (vstor_in b)) h in
    let long : 64 ≤ length b = grind (arith, nat_tests, first.0) in
    let found = front_found vstor_kinds b bytes long in (
      found.0,
      allowed_from (vstor_in b) first.1,
      ap (take 64) found.1 ∙ take_at (spelled_after [] (rows_at vstor_kinds 0 b)) (drop 64 b) 64 (length-spelled_after vstor_kinds (rows_at vstor_kinds 0 b) found.0),
    )

pub vstor_only : (p : Vstor) (b : List ℕ) → InForm p → IsAllowed p → take 64 b ≡ vstor_bytes p → (vstor_fault b ≡ None) × (vstor_in b ≡ p)
unfolding vstor_fault vstor_in vstor_bytes of_rows
vstor_only p b form allowed is =
    let whole : b ≡ spelled_after [] (rows_of p) ++ drop 64 b = sym (take-append-drop 64 b) ∙ ap (λ xs. xs ++ drop 64 b) is in
    let again = front_again vstor_kinds (rows_of p) (drop 64 b) form in
    let rows : rows_at vstor_kinds 0 b ≡ rows_of p = ap (rows_at vstor_kinds 0) whole ∙ again.0 in
    let len : length b ≡ 64 + length (drop 64 b) = ap length whole ∙ again.2 in
    let same : vstor_in b ≡ p = ap of_rows rows in
    let long : nat_lt (length b) 64 ≡ false = grind (arith, nat_tests, len) in
    (ap (λ t. cond t (Some (Short (length b) 64)) (fault_in (vstor_in b))) long ∙ (ap fault_in same ∙ no_fault p allowed), same)
