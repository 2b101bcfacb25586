-- A storage packet is read in the first 64 bytes of a payload.
use Rattle.std.proofs.Common.{◌≡◌, ℕ, ◌<◌, ◌≤◌, true, false, cond, List, length, take, Option, Some, None, refl, sym, ap, ◌∙◌, arith}
use Rattle.std.specs.Prelude.{is_none, nat_lt}
use Rattle.std.proofs.lemmas.Bool.Decides.{nat_tests}
use Rattle.std.proofs.lemmas.List.{take_all, length-take-le}
use Rattle.vm_page.specs.Words.{bytes_in}
use Rattle.vm_page.proofs.WordLaws.{length-bytes_in}
use Rattle.pkt_desc.specs.Packets.{payload_of}
use Rattle.stor_proto.specs.Packets.{vstor_bytes, vstor_in, vstor_fault, InForm, IsAllowed, fault_in}
use Rattle.stor_proto.specs.declared.vstor.Vstor.{Vstor}
use Rattle.stor_proto.specs.declared.fault.VstorFault.{VstorFault}
use Rattle.stor_proto.specs.declared.fault.VstorFault.TheVariants.{Short}
use Rattle.stor_proto.proofs.PacketLaws.{vstor_found, vstor_only}
use Rattle.device_packets.specs.Packets.{content_of}
use Rattle.device_packets.specs.Said.{has_vstor, vstor_of}
use Rattle.device_packets.proofs.PacketLaws.{by_test, content_bytes}

none_is : {X : Type 0} (o : Option X) → is_none o ≡ true → o ≡ None
none_is None h = refl
none_is (Some x) h = cc

-- where there are fewer, there is none
pub short_has : (p : List ℕ) → length (payload_of p) < 8 → has_vstor p ≡ false
unfolding has_vstor content_of vstor_fault
short_has p few =
    let b = bytes_in (payload_of p) in
    let short : nat_lt (length b) 64 ≡ true = grind (arith, nat_tests, length-bytes_in (payload_of p), few) in
    ap (λ t. is_none (cond t (Some (Short (length b) 64)) (fault_in (vstor_in b)))) short

pub long_enough : (p : List ℕ) → 8 ≤ length (payload_of p) → 64 ≤ length (content_of p)
unfolding content_of
long_enough p long = omega (arith, length-bytes_in (payload_of p), long)

-- the bytes that were put in
pub front_is : (p w out : List ℕ) (n : ℕ) → n ≡ 64 → w ≡ payload_of p → out ≡ take n (bytes_in w) → out ≡ take 64 (content_of p)
unfolding content_of
front_is p w out n all is put = put ∙ (ap (λ k. take k (bytes_in w)) all ∙ ap (λ x. take 64 (bytes_in x)) is)

again : (c : List ℕ) → 64 ≤ length c → take 64 (take 64 c) ≡ take 64 c
again c long = take_all 64 (take 64 c) (omega (arith, length-take-le 64 c long))

pub front_has : (p b : List ℕ) (v : Vstor) → 64 ≤ length (content_of p) → b ≡ take 64 (content_of p) → InForm v → IsAllowed v → take 64 b ≡ vstor_bytes v → (has_vstor p ≡ true) × (v ≡ vstor_of p)
unfolding has_vstor vstor_of
front_has p b v long is form allowed spelled =
    let only = vstor_only v (content_of p) form allowed (sym (again (content_of p) long) ∙ (ap (take 64) (sym is) ∙ spelled)) in
    (ap is_none only.0, sym only.1)

some_none : (e : VstorFault) (o : Option VstorFault) → o ≡ Some e → o ≡ None → true ≡ false
some_none e o some none = cc

pub front_lacks : (p b : List ℕ) (e : VstorFault) → 64 ≤ length (content_of p) → b ≡ take 64 (content_of p) → vstor_fault b ≡ Some e → has_vstor p ≡ false
unfolding has_vstor
front_lacks p b e long is fault =
    by_test (is_none (vstor_fault (content_of p)))
    (λ has. let found = vstor_found (content_of p) (content_bytes p) (none_is (vstor_fault (content_of p)) has) in
    let only = vstor_only (vstor_in (content_of p)) b found.0 found.1 (ap (take 64) is ∙ (again (content_of p) long ∙ found.2)) in
    absurd (let no : true ≡ false = some_none e (vstor_fault b) fault only.0 in cc))
    (λ not. not)
