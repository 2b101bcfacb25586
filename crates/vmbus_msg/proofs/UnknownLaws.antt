-- A type that no message has.
use Rattle.std.proofs.Common.{◌≡◌, ◌≢◌, ℕ, List, false, ◌==◌, Some, refl, arith}
use Rattle.std.proofs.lemmas.Bool.Decides.{nat_tests}
use Rattle.vmbus_msg.specs.declared.fault.MsgFault.TheVariants.{Unknown}
use Rattle.vmbus_msg.specs.Faults.{fault_for}

not_same : (a b : ℕ) → a ≢ b → (a == b) ≡ false
not_same a b ne = grind (arith, nat_tests)

pub unknown_fault : (k : ℕ) (b : List ℕ) → k ≢ 1 → k ≢ 2 → k ≢ 3 → k ≢ 4 → k ≢ 5 → k ≢ 6 → k ≢ 7 → k ≢ 8 → k ≢ 9 → k ≢ 10 → k ≢ 11 → k ≢ 12 → k ≢ 13 → k ≢ 14 → k ≢ 15 → k ≢ 16 → k ≢ 17 → k ≢ 21 → k ≢ 22 → k ≢ 24 → fault_for k b ≡ Some (Unknown k)
unknown_fault k b n1 n2 n3 n4 n5 n6 n7 n8 n9 n10 n11 n12 n13 n14 n15 n16 n17 n21 n22 n24 =
    let t1 = not_same k 1 n1 in
    let t2 = not_same k 2 n2 in
    let t3 = not_same k 3 n3 in
    let t4 = not_same k 4 n4 in
    let t5 = not_same k 5 n5 in
    let t6 = not_same k 6 n6 in
    let t7 = not_same k 7 n7 in
    let t8 = not_same k 8 n8 in
    let t9 = not_same k 9 n9 in
    let t10 = not_same k 10 n10 in
    let t11 = not_same k 11 n11 in
    let t12 = not_same k 12 n12 in
    let t13 = not_same k 13 n13 in
    let t14 = not_same k 14 n14 in
    let t15 = not_same k 15 n15 in
    let t16 = not_same k 16 n16 in
    let t17 = not_same k 17 n17 in
    let t21 = not_same k 21 n21 in
    let t22 = not_same k 22 n22 in
    let t24 = not_same k 24 n24 in
    rw (t8, t9, t1, t2, t3, t4, t5, t6, t7, t10, t11, t12, t13, t14, t15, t16, t17, t21, t22, t24) refl
