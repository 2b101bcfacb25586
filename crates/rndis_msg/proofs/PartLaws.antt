-- The parts of a message: its type, its values and its buffer tell it, and its front has the numbers of the bytes.
use Rattle.std.proofs.Common.{◌≡◌, ℕ, ◌+◌, ◌-◌, ◌≤◌, List, ◌++◌, length, take, drop, slice_range, Some, refl, sym, ap, ◌∙◌, arith}
use Rattle.std.proofs.lemmas.List.{take-take, drop-take, take_at, take_all, length-take-le}
use Rattle.wire_table.specs.Little.{number_of}
use Rattle.rndis_msg.specs.Types.{number_of_type, message_type, fixed_part, buffer_place}
use Rattle.rndis_msg.specs.Messages.{type_of, values_of, body_of}
use Rattle.rndis_msg.specs.Grammar.{number_at, IsBuffer, Holds}
use Rattle.rndis_msg.specs.Reading.{buffer_in, made}
use Rattle.rndis_msg.specs.declared.message_type.MessageType.{MessageType}
use Rattle.rndis_msg.specs.declared.message_type.MessageType.TheVariants.{PacketMsg}
use Rattle.rndis_msg.specs.declared.message_type.BufferPlace.{BufferPlace}
use Rattle.rndis_msg.specs.declared.rndis.Rndis.{Rndis}
use Rattle.rndis_msg.specs.declared.rndis.Rndis.TheVariants.{Packet, Query, QueryComplete, Set}

-- the type of a type's number
pub type_again : (t : MessageType) → message_type (number_of_type t) ≡ Some t
type_again PacketMsg = refl
type_again t = refl

some_same : (t u : MessageType) → Some t ≡ Some u → t ≡ u
some_same t u h = cc

-- a number belongs to one type
pub one_type : (t u : MessageType) → number_of_type t ≡ number_of_type u → t ≡ u
one_type t u h = some_same t u (sym (type_again t) ∙ (ap message_type h ∙ type_again u))

-- each message has a type, a length and 4 bytes more
pub some_fixed : (t : MessageType) → 12 ≤ fixed_part t
some_fixed PacketMsg = omega arith
some_fixed t = omega arith

pub made_again : (m : Rndis) → made (type_of m) (values_of m) (body_of m) ≡ m
made_again (Packet body) = refl
made_again m = refl

pub same_parts : (m n : Rndis) → type_of m ≡ type_of n → values_of m ≡ values_of n → body_of m ≡ body_of n → m ≡ n
same_parts m n t v b = sym (made_again m) ∙ (rw (t, v, b) refl ∙ made_again n)

-- numbers of bytes that begin alike
pub number_before : (b c : List ℕ) (n at : ℕ) → take n b ≡ take n c → at + 4 ≤ n → number_at at b ≡ number_at at c
number_before b c n at same le =
    let len : at + 4 - at ≡ 4 = omega arith in
    let cut : (zs : List ℕ) → take 4 (drop at zs) ≡ drop at (take (at + 4) (take n zs)) = λ zs. sym (ap (drop at) (take-take (at + 4) n zs le) ∙ drop-take at 4 zs) in
    rw len (ap number_of (cut b ∙ (ap (λ zs. drop at (take (at + 4) zs)) same ∙ sym (cut c))))

-- a number in the front of bytes
pub front_number : (b : List ℕ) (n at : ℕ) → n ≤ length b → at + 4 ≤ n → number_at at (take n b) ≡ number_at at b
front_number b n at long le = number_before (take n b) b n at (take_all n (take n b) (omega (arith, length-take-le n b long))) le

-- a number in bytes with more behind them
pub padded_number : (b more : List ℕ) (at : ℕ) → at + 4 ≤ length b → number_at at (b ++ more) ≡ number_at at b
padded_number b more at le = number_before (b ++ more) b (length b) at (take_at b more (length b) refl ∙ sym (take_all (length b) b (omega arith))) le

buffer_is : (place : BufferPlace) (fixed : ℕ) (body b : List ℕ) → IsBuffer place fixed body b → body ≡ buffer_in (Some place) b
buffer_is place fixed body b h = h.bytes ∙ ap (λ n. slice_range b (number_at place.offset b + 8) (number_at place.offset b + 8 + n)) (sym h.count)

-- the buffer is told by the bytes
pub body_is : (m : Rndis) (b : List ℕ) → Holds (buffer_place (type_of m)) (fixed_part (type_of m)) (body_of m) b → body_of m ≡ buffer_in (buffer_place (type_of m)) b
body_is (Packet body) b h = buffer_is (record { offset = 8; length = 12 }) 44 body b h
body_is (Query request_id oid body) b h = buffer_is (record { offset = 20; length = 16 }) 28 body b h
body_is (QueryComplete request_id status body) b h = buffer_is (record { offset = 20; length = 16 }) 24 body b h
body_is (Set request_id oid body) b h = buffer_is (record { offset = 20; length = 16 }) 28 body b h
body_is m b h = refl
