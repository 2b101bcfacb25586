-- Storage packets in packets: they are read as they were written.
use Rattle.std.proofs.Common.{◌≡◌, ℕ, ◌+◌, ◌-◌, ◌*◌, ◌^◌, ◌<◌, ◌≤◌, true, List, [], ◌∷◌, ◌++◌, length, take, drop, replicate, refl, ap, ◌∙◌, append_assoc, length-append, length-drop, arith}
use Rattle.std.specs.Prelude.{is_none}
use Rattle.std.proofs.lemmas.List.{take_at, length-take-le}
use Rattle.wire_table.specs.Little.{bytes_of}
use Rattle.wire_table.specs.Rows.{Row, num, raw, Kind, nums, raws, Has, AllHave}
use Rattle.wire_table.proofs.RowLaws.{IsBytes, all_bytes, length-spelled_after}
use Rattle.vm_page.specs.Words.{words_for}
use Rattle.pkt_desc.specs.Packets.{plain_packet}
use Rattle.stor_proto.specs.Fields.{with_number, with_bytes}
use Rattle.stor_proto.specs.Packets.{rows_of, vstor_kinds, vstor_bytes, InForm, IsAllowed}
use Rattle.stor_proto.specs.declared.vstor.Vstor.{Vstor}
use Rattle.stor_proto.proofs.FieldLaws.{length-with_number}
use Rattle.stor_proto.proofs.PacketLaws.{vstor_only}
use Rattle.device_packets.specs.Packets.{content_of}
use Rattle.device_packets.specs.Said.{vstor_of, has_vstor}
use Rattle.device_packets.proofs.ByteLaws.{from_all, append_bytes, number_bytes}
use Rattle.device_packets.proofs.PacketLaws.{content_kept}

have_first : (k : Kind) (ks : List Kind) (r : Row) (rs : List Row) → AllHave (k ∷ ks) (r ∷ rs) → Has k r
have_first k ks r rs h = h.0

have_rest : (k : Kind) (ks : List Kind) (r : Row) (rs : List Row) → AllHave (k ∷ ks) (r ∷ rs) → AllHave ks rs
have_rest k ks r rs h = h.1

-- what the form of a packet says of it
pub record Formed (v : Vstor) : Type 0 where
  pub operation : v.operation < 256 ^ 4
  pub flags : v.flags < 256 ^ 4
  pub status : v.status < 256 ^ 4
  pub len : length v.rest ≡ 52
  pub bytes : IsBytes v.rest

pub formed : (v : Vstor) → InForm v → Formed v
formed v form =
    let three = have_rest (nums 4) (nums 4 ∷ nums 4 ∷ raws 52 ∷ []) (num 4 v.operation) (num 4 v.flags ∷ num 4 v.status ∷ raw v.rest ∷ []) form in
    let two = have_rest (nums 4) (nums 4 ∷ raws 52 ∷ []) (num 4 v.flags) (num 4 v.status ∷ raw v.rest ∷ []) three in
    let one = have_rest (nums 4) (raws 52 ∷ []) (num 4 v.status) (raw v.rest ∷ []) two in
    let last = have_first (raws 52) [] (raw v.rest) [] one in
    record {
      operation = (have_first (nums 4) (nums 4 ∷ nums 4 ∷ raws 52 ∷ []) (num 4 v.operation) (num 4 v.flags ∷ num 4 v.status ∷ raw v.rest ∷ []) form).1;
      flags = (have_first (nums 4) (nums 4 ∷ raws 52 ∷ []) (num 4 v.flags) (num 4 v.status ∷ raw v.rest ∷ []) three).1;
      status = (have_first (nums 4) (raws 52 ∷ []) (num 4 v.status) (raw v.rest ∷ []) two).1;
      len = last.0;
      bytes = from_all v.rest last.1;
    }

pub in_form : (v : Vstor) → Formed v → InForm v
in_form v h = ((refl, h.operation), ((refl, h.flags), ((refl, h.status), ((h.len, all_bytes v.rest h.bytes), tt))))

pub vstor_are_bytes : (v : Vstor) → Formed v → IsBytes (vstor_bytes v)
unfolding vstor_bytes
vstor_are_bytes v h =
    let a = append_bytes (bytes_of 4 v.operation) (bytes_of 4 v.flags) (number_bytes 4 v.operation) (number_bytes 4 v.flags) in
    let b = append_bytes (bytes_of 4 v.operation ++ bytes_of 4 v.flags) (bytes_of 4 v.status) a (number_bytes 4 v.status) in
    append_bytes ((bytes_of 4 v.operation ++ bytes_of 4 v.flags) ++ bytes_of 4 v.status) v.rest b h.bytes

pub length-vstor : (v : Vstor) → InForm v → length (vstor_bytes v) ≡ 64
unfolding vstor_bytes
length-vstor v form = length-spelled_after vstor_kinds (rows_of v) form

-- it is read as it was written
pub record Read (p : List ℕ) (v : Vstor) : Type 0 where
  pub has : has_vstor p ≡ true
  pub vstor : vstor_of p ≡ v

pub read_again : (kind id flags : ℕ) (v : Vstor) (more : List ℕ) → kind < 2 ^ 16 → InForm v → IsAllowed v → IsBytes more → Read (plain_packet kind id flags (vstor_bytes v ++ more)) v
unfolding has_vstor vstor_of
read_again kind id flags v more small form allowed bytes =
    let b = vstor_bytes v in
    let p = plain_packet kind id flags (b ++ more) in
    let l64 : length b ≡ 64 = length-vstor v form in
    let len : length (b ++ more) ≡ 64 + length more = length-append b more ∙ ap (λ n. n + length more) l64 in
    let shape : content_of p ≡ b ++ (more ++ replicate (8 * words_for (64 + length more) - (64 + length more)) 0) =
    content_kept kind id flags (b ++ more) small (append_bytes b more (vstor_are_bytes v (formed v form)) bytes)
    ∙ (ap (λ n. (b ++ more) ++ replicate (8 * words_for n - n) 0) len ∙ append_assoc b more (replicate (8 * words_for (64 + length more) - (64 + length more)) 0)) in
    let only = vstor_only v (content_of p) form allowed (ap (take 64) shape ∙ take_at b (more ++ replicate (8 * words_for (64 + length more) - (64 + length more)) 0) 64 l64) in
    record {
      has = ap is_none only.0;
      vstor = only.1;
    }

pub length-with_bytes : (at : ℕ) (part b : List ℕ) → at + length part ≤ length b → length (with_bytes at part b) ≡ length b
unfolding with_bytes
length-with_bytes at part b le = omega (arith, length-append (take at b ++ part) (drop (at + length part) b), length-append (take at b) part, length-take-le at b (omega arith), length-drop (at + length part) b)

pub number_put : (at w v : ℕ) (b : List ℕ) → at + w ≤ 52 → length b ≡ 52 → length (with_number at w v b) ≡ 52
number_put at w v b le len = length-with_number at w v b (omega (arith, len)) ∙ len
