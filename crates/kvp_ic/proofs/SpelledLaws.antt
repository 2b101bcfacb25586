-- Requests as rows: how many bytes they have, and the type of their message, whatever follows.
use Rattle.std.proofs.Common.{◌≡◌, ℕ, ◌-◌, ◌*◌, ◌^◌, ◌<◌, ◌≤◌, List, [], ◌∷◌, ◌++◌, length, refl, ap, arith}
use Rattle.std.specs.List.{flat_map}
use Rattle.wire_table.specs.Little.{bytes_of}
use Rattle.wire_table.specs.Rows.{num, Kind, nums, raws, AllHave, nth_number}
use Rattle.wire_table.proofs.RowLaws.{front_again, length-spelled_after}
use Rattle.util_ic.specs.Messages.{type_of, zeros}
use Rattle.util_ic.proofs.AskLaws.{header_kinds, heads}
use Rattle.util_ic.proofs.ByteLaws.{zeros_all}
use Rattle.util_ic.proofs.PacketLaws.{BytesOnly, of_both, of_rows}
use Rattle.kvp_ic.specs.declared.message.Kvp.{Kvp}
use Rattle.kvp_ic.specs.declared.message.Kvp.TheVariants.{Get, Set, Delete, Enum}
use Rattle.kvp_ic.specs.Texts.{text_size, field_of}
use Rattle.kvp_ic.specs.Messages.{asked_rows, record_rows, field_rows, rows_of, kvp_bytes, CanBeAsked}
use Rattle.kvp_ic.proofs.TextLaws.{length-field_of}

of_units : (us : List ℕ) → BytesOnly (flat_map (bytes_of 2) us)
unfolding bytes_of
of_units [] = tt
of_units (u ∷ us) = (omega arith, (omega arith, of_units us))

-- a field has bytes alone
pub field_bytes : (room : ℕ) (us : List ℕ) → BytesOnly (field_of room us)
field_bytes room us = of_both (flat_map (bytes_of 2) us) (zeros (room - 2 * length us)) (of_units us) (zeros_all (room - 2 * length us))

abbrev fields : List Kind
fields = raws 512 ∷ raws 2048 ∷ []

abbrev keyed : List Kind
keyed = header_kinds (nums 1 ∷ nums 1 ∷ nums 2 ∷ nums 4 ∷ nums 4 ∷ nums 4 ∷ fields)

abbrev placed : List Kind
placed = header_kinds (nums 1 ∷ nums 1 ∷ nums 2 ∷ nums 4 ∷ nums 4 ∷ nums 4 ∷ nums 4 ∷ fields)

-- the kinds of a request's rows
abbrev pub kinds_of : Kvp → List Kind
kinds_of (Get pool key) = keyed
kinds_of (Set pool key value) = keyed
kinds_of (Delete pool key) = keyed
kinds_of (Enum pool index) = placed

fields_have : (key value : List ℕ) → length key ≤ 255 → length value ≤ 1023 → AllHave fields (field_rows key value)
fields_have key value few most =
    ((length-field_of 512 key (omega (arith, few)), field_bytes 512 key), ((length-field_of 2048 value (omega (arith, most)), field_bytes 2048 value), tt))

keyed_have : (op pool ks vs : ℕ) (key value : List ℕ) → op < 256 → pool < 256 → ks < 2 ^ 32 → vs < 2 ^ 32 → length key ≤ 255 → length value ≤ 1023
    → AllHave (nums 1 ∷ nums 1 ∷ nums 2 ∷ nums 4 ∷ nums 4 ∷ nums 4 ∷ fields) (asked_rows op pool (record_rows ks vs (field_rows key value)))
keyed_have op pool ks vs key value o p k v few most =
    ((refl, o), ((refl, p), ((refl, omega arith), ((refl, omega arith), ((refl, k), ((refl, v), fields_have key value few most))))))

pub rows_have : (m : Kvp) → CanBeAsked m → AllHave (kinds_of m) (rows_of m)
rows_have (Get pool key) can =
    heads 2 2576 (nums 1 ∷ nums 1 ∷ nums 2 ∷ nums 4 ∷ nums 4 ∷ nums 4 ∷ fields) (asked_rows 0 pool (record_rows (text_size (length key)) 0 (field_rows key []))) (omega arith) (omega arith)
    (keyed_have 0 pool (text_size (length key)) 0 key [] (omega arith) (omega (arith, can.1)) (omega (arith, can.0.most)) (omega arith) can.0.most (omega arith))
rows_have (Set pool key value) can =
    heads 2 2576 (nums 1 ∷ nums 1 ∷ nums 2 ∷ nums 4 ∷ nums 4 ∷ nums 4 ∷ fields) (asked_rows 1 pool (record_rows (text_size (length key)) (text_size (length value)) (field_rows key value))) (omega arith) (omega arith)
    (keyed_have 1 pool (text_size (length key)) (text_size (length value)) key value (omega arith) (omega (arith, can.1)) (omega (arith, can.0.0.most)) (omega (arith, can.0.1.most)) can.0.0.most can.0.1.most)
rows_have (Delete pool key) can =
    heads 2 2576 (nums 1 ∷ nums 1 ∷ nums 2 ∷ nums 4 ∷ nums 4 ∷ nums 4 ∷ fields) (asked_rows 2 pool (record_rows (text_size (length key)) 0 (field_rows key []))) (omega arith) (omega arith)
    (keyed_have 2 pool (text_size (length key)) 0 key [] (omega arith) (omega (arith, can.1)) (omega (arith, can.0.most)) (omega arith) can.0.most (omega arith))
rows_have (Enum pool index) can =
    heads 2 2580 (nums 1 ∷ nums 1 ∷ nums 2 ∷ nums 4 ∷ nums 4 ∷ nums 4 ∷ nums 4 ∷ fields) (asked_rows 3 pool (num 4 index ∷ record_rows 0 0 (field_rows [] []))) (omega arith) (omega arith)
    ((refl, omega arith), ((refl, omega (arith, can.1)), ((refl, omega arith), ((refl, can.0), ((refl, omega arith), ((refl, omega arith), ((refl, omega arith), fields_have [] [] (omega arith) (omega arith))))))))

-- a request has 2,604 or 2,608 bytes
pub length-request : (m : Kvp) → CanBeAsked m → (28 ≤ length (kvp_bytes m)) × (length (kvp_bytes m) ≤ 2608)
length-request (Get pool key) can = let all = length-spelled_after keyed (rows_of (Get pool key)) (rows_have (Get pool key) can) in (omega (arith, all), omega (arith, all))
length-request (Set pool key value) can = let all = length-spelled_after keyed (rows_of (Set pool key value)) (rows_have (Set pool key value) can) in (omega (arith, all), omega (arith, all))
length-request (Delete pool key) can = let all = length-spelled_after keyed (rows_of (Delete pool key)) (rows_have (Delete pool key) can) in (omega (arith, all), omega (arith, all))
length-request (Enum pool index) can = let all = length-spelled_after placed (rows_of (Enum pool index)) (rows_have (Enum pool index) can) in (omega (arith, all), omega (arith, all))

pub request_bytes : (m : Kvp) → CanBeAsked m → BytesOnly (kvp_bytes m)
request_bytes m can = of_rows (kinds_of m) (rows_of m) [] (rows_have m can) tt

-- and is of type 2
pub type_is : (m : Kvp) (more : List ℕ) → CanBeAsked m → type_of (kvp_bytes m ++ more) ≡ 2
type_is (Get pool key) more can = ap (nth_number 4) (front_again keyed (rows_of (Get pool key)) more (rows_have (Get pool key) can)).0
type_is (Set pool key value) more can = ap (nth_number 4) (front_again keyed (rows_of (Set pool key value)) more (rows_have (Set pool key value) can)).0
type_is (Delete pool key) more can = ap (nth_number 4) (front_again keyed (rows_of (Delete pool key)) more (rows_have (Delete pool key) can)).0
type_is (Enum pool index) more can = ap (nth_number 4) (front_again placed (rows_of (Enum pool index)) more (rows_have (Enum pool index) can)).0
