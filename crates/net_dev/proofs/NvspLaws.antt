-- An NVSP message and its bytes tell each other.
use Rattle.std.proofs.Common.{◌≡◌, ℕ, ◌-◌, ◌<◌, ◌≤◌, ◌^◌, Bool, true, false, cond, nat_lt, ◌==◌, if◌then◌else◌, List, [], ◌∷◌, ◌++◌, length, take, drop, replicate, Option, Some, None, Result, Ok, Err, IfOk, IfErr, refl, sym, ap, ◌∙◌, subst, arith, append_assoc, length-append}
use Rattle.std.proofs.lemmas.Bool.Decides.{nat_tests}
use Rattle.std.proofs.lemmas.List.{append-nil, take_all, drop-replicate, length-replicate}
use Rattle.wire_table.specs.Rows.{Row, num, nums, rows_at, nth_number}
use Rattle.wire_table.proofs.RowLaws.{front_again}
use Rattle.net_dev.specs.Nvsp.{type_of, fields_of, kinds_of, InForm, type_in, IsNvsp, unknown, nvsp_fault, size_of_fields, field_bytes, nvsp_bytes}
use Rattle.net_dev.specs.NvspReading.{Reads, Parses}
use Rattle.net_dev.specs.declared.fault.NvspFault.{NvspFault}
use Rattle.net_dev.specs.declared.fault.NvspFault.TheVariants.{Short, Unknown}
use Rattle.net_dev.specs.declared.nvsp.Nvsp.{Nvsp}
use Rattle.net_dev.specs.declared.nvsp.Nvsp.TheVariants.{Init, InitComplete, NdisVersion, ReceiveBuffer, ReceiveBufferComplete, SendBuffer, SendBufferComplete, RndisPacket, RndisPacketComplete}

none_from : (b : Bool) (x : NvspFault) (y : Option NvspFault) → cond b (Some x) y ≡ None → (b ≡ false) × (y ≡ None)
none_from true x y h = cc
none_from false x y h = (refl, h)

pub type_fits : (m : Nvsp) → type_of m < 256 ^ 4
type_fits (Init min max) = omega arith
type_fits m = omega arith

pub fields_within : (m : Nvsp) → size_of_fields m ≤ 40
fields_within (Init min max) = omega arith
fields_within m = omega arith

-- there is a message of its type
known : (m : Nvsp) → unknown (type_of m) (kinds_of (type_of m)) ≡ None
known (Init min max) = refl
known m = refl

-- the message of a type with these fields
made : ℕ → List Row → Nvsp
made k rs =
    if k == 1 then Init (nth_number 0 rs) (nth_number 1 rs) else
    if k == 2 then InitComplete (nth_number 0 rs) (nth_number 1 rs) (nth_number 2 rs) else
    if k == 100 then NdisVersion (nth_number 0 rs) (nth_number 1 rs) else
    if k == 101 then ReceiveBuffer (nth_number 0 rs) (nth_number 1 rs) else
    if k == 102 then ReceiveBufferComplete (nth_number 0 rs) (nth_number 1 rs) (nth_number 2 rs) (nth_number 3 rs) (nth_number 4 rs) (nth_number 5 rs) else
    if k == 104 then SendBuffer (nth_number 0 rs) (nth_number 1 rs) else
    if k == 105 then SendBufferComplete (nth_number 0 rs) (nth_number 1 rs) else
    if k == 107 then RndisPacket (nth_number 0 rs) (nth_number 1 rs) (nth_number 2 rs) else
    RndisPacketComplete (nth_number 0 rs)

made_again : (m : Nvsp) → made (type_of m) (fields_of m) ≡ m
unfolding made
made_again (Init min max) = refl
made_again m = refl

same_parts : (m n : Nvsp) → type_of m ≡ type_of n → fields_of m ≡ fields_of n → m ≡ n
same_parts m n t f = sym (made_again m) ∙ (ap (λ k. made k (fields_of m)) t ∙ (ap (made (type_of n)) f ∙ made_again n))

-- bytes are those of one message at most
one_message : (m n : Nvsp) (b : List ℕ) → IsNvsp m b → IsNvsp n b → m ≡ n
one_message m n b h k =
    let t : type_of m ≡ type_of n = sym h.kind ∙ k.kind in
    same_parts m n t (sym h.fields ∙ (ap (λ u. rows_at (kinds_of u) 4 b) t ∙ k.fields))

-- a message's bytes have no fault
no_fault : (m : Nvsp) (b : List ℕ) → IsNvsp m b → nvsp_fault b ≡ None
unfolding nvsp_fault
no_fault m b h =
    let long = h.long in
    let t : nat_lt (length b) 40 ≡ false = grind (arith, nat_tests, long) in
    ap (λ s. cond s (Some (Short (length b) 40)) (unknown (type_in b) (kinds_of (type_in b)))) t ∙ (ap (λ k. unknown k (kinds_of k)) h.kind ∙ known m)

-- what is read of a type is read of the bytes
pub from_kind : (b : List ℕ) (k : ℕ) (r : Result Nvsp NvspFault) → 40 ≤ length b → k ≡ type_in b → Reads k b r → Parses b r
unfolding Parses nvsp_fault
from_kind b k (Ok m) long is h = (long, h.0 ∙ is, ap (λ u. rows_at (kinds_of u) 4 b) (sym is) ∙ h.1)
from_kind b k (Err e) long is h =
    let t : nat_lt (length b) 40 ≡ false = grind (arith, nat_tests, long) in
    let none : kinds_of (type_in b) ≡ [] = ap kinds_of (sym is) ∙ h.1 in
    ap (λ s. cond s (Some (Short (length b) 40)) (unknown (type_in b) (kinds_of (type_in b)))) t ∙ (ap (unknown (type_in b)) none ∙ ap Some (ap Unknown (sym is) ∙ sym h.0))

pub parsed_found : (b : List ℕ) (r : Result Nvsp NvspFault) → Parses b r → IfOk r (λ m. IsNvsp m b)
unfolding Parses
parsed_found b (Ok m) p = record { long = p.0; kind = sym p.1; fields = ap (λ u. rows_at (kinds_of u) 4 b) p.1 ∙ p.2 }
parsed_found b (Err e) p = tt

parsed_no_err : (b : List ℕ) (e : NvspFault) {m : Nvsp} → Parses b (Err e) → nvsp_fault b ≡ None → Err e ≡ Ok m
unfolding Parses
parsed_no_err b e p none = cc

pub parsed_only : (b : List ℕ) (r : Result Nvsp NvspFault) → Parses b r → (m : Nvsp) → IsNvsp m b → r ≡ Ok m
parsed_only b (Ok n) p m h = ap Ok (one_message n m b (parsed_found b (Ok n) p) h)
parsed_only b (Err e) p m h = parsed_no_err b e p (no_fault m b h)

pub parsed_fault : (b : List ℕ) (r : Result Nvsp NvspFault) → Parses b r → IfErr r (λ e. nvsp_fault b ≡ Some e)
unfolding Parses
parsed_fault b (Ok m) p = tt
parsed_fault b (Err e) p = p

pub parsed_faulty : (b : List ℕ) (r : Result Nvsp NvspFault) → Parses b r → IfOk r (λ m. nvsp_fault b ≡ None)
parsed_faulty b (Ok m) p = no_fault m b (parsed_found b (Ok m) p)
parsed_faulty b (Err e) p = tt

-- the bytes that are written are the message's
pub written : (m : Nvsp) (more : List ℕ) → InForm m → IsNvsp m (nvsp_bytes m ++ more)
written m more form =
    let rs = fields_of m in
    let ks = kinds_of (type_of m) in
    let zeros : List ℕ = replicate (40 - size_of_fields m) 0 in
    let again = front_again (nums 4 ∷ ks) (num 4 (type_of m) ∷ rs) (zeros ++ more) ((refl, type_fits m), form) in
    let whole : nvsp_bytes m ++ more ≡ field_bytes m ++ (zeros ++ more) = append_assoc (field_bytes m) zeros more in
    let rows : rows_at (nums 4 ∷ ks) 0 (nvsp_bytes m ++ more) ≡ num 4 (type_of m) ∷ rs = ap (rows_at (nums 4 ∷ ks) 0) whole ∙ again.0 in
    let within = fields_within m in
    record {
      long = omega (arith, ap length whole, again.2, length-append zeros more, length-replicate {A = ℕ} (40 - size_of_fields m) 0, within);
      kind = ap (nth_number 0) rows;
      fields = ap (drop 1) rows;
    }

-- zeros, with the fields in front of them
pub written_is : (m : Nvsp) (w : List ℕ) (n : ℕ) → length w ≡ n → n ≡ size_of_fields m → take (size_of_fields m) w ≡ field_bytes m → w ++ drop n (replicate 40 0) ≡ nvsp_bytes m
written_is m w n len is bytes =
    let front : w ≡ field_bytes m = sym (take_all (size_of_fields m) w (omega (arith, len, is))) ∙ bytes in
    let zeros : drop n (replicate 40 0) ≡ replicate (40 - size_of_fields m) 0 = drop-replicate n 40 0 ∙ ap (λ k. replicate (40 - k) 0) is in
    ap (λ (xs : List ℕ). xs ++ drop n (replicate 40 0)) front ∙ ap (λ (xs : List ℕ). field_bytes m ++ xs) zeros

-- a message's own bytes are all of them
pub alone : (m : Nvsp) (b : List ℕ) → IsNvsp m (b ++ []) → IsNvsp m b
alone m b h = subst (IsNvsp m) (append-nil b) h
