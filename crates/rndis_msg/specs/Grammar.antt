-- Which bytes a message has.
--
-- A message begins with its type and its length. Its fixed part has the fields of its type. Its buffer lies behind the fixed part and
-- within the length, at an offset that counts from byte 8. `IsRndis` says which bytes are a message's, `rndis_bytes` which of them are
-- written.
use Rattle.std.specs.Prelude.{◌≡◌, ℕ, ◌+◌, ◌^◌, ◌<◌, ◌≤◌, List, [], ◌∷◌, ◌++◌, length, take, slice_range, Option, Some, None, ◌==◌, if◌then◌else◌}
use Rattle.std.specs.List.{AllByRecursion}
use Rattle.wire_table.specs.Little.{number_of}
use Rattle.wire_table.specs.Rows.{Row, num, spelled_after}
use Rattle.rndis_msg.specs.Types.{number_of_type, fixed_part, kept_places, buffer_place}
use Rattle.rndis_msg.specs.Messages.{type_of, values_of, body_of}
use Rattle.rndis_msg.specs.declared.message_type.BufferPlace.{BufferPlace}
use Rattle.rndis_msg.specs.declared.rndis.Rndis.{Rndis}
use Rattle.rndis_msg.specs.declared.rndis.Rndis.TheVariants.{Packet, Initialize, InitializeComplete, Halt, Query, QueryComplete, Set, SetComplete, Reset, ResetComplete, Keepalive, KeepaliveComplete}

-- the number of 4 bytes at a place
abbrev pub number_at : ℕ → List ℕ → ℕ
number_at at b = number_of (slice_range b at (at + 4))

-- the numbers at places
abbrev pub numbers_at : List ℕ → List ℕ → List ℕ
numbers_at [] b = []
numbers_at (at ∷ places) b = number_at at b ∷ numbers_at places b

-- the buffer of a message, by its length and its offset
pub record IsBuffer (place : BufferPlace) (fixed : ℕ) (body b : List ℕ) : Type 0 where
  pub count : number_at place.length b ≡ length body
  pub few : length body ≤ 1514
  pub begins : 0 < length body → fixed ≤ number_at place.offset b + 8
  pub ends : number_at place.offset b + 8 + length body ≤ length b
  pub bytes : body ≡ slice_range b (number_at place.offset b + 8) (number_at place.offset b + 8 + length body)

-- the buffer of a message that may have one; else nothing follows the fixed part
abbrev pub Holds : Option BufferPlace → ℕ → List ℕ → List ℕ → Type 0
Holds (Some place) fixed body b = IsBuffer place fixed body b
Holds None fixed body b = length b ≡ fixed

-- bytes, all of them, are those of a message
pub record IsRndis (m : Rndis) (b : List ℕ) : Type 0 where
  pub kind : number_at 0 b ≡ number_of_type (type_of m)
  pub size : number_at 4 b ≡ length b
  pub fixed : fixed_part (type_of m) ≤ length b
  pub fields : values_of m ≡ numbers_at (kept_places (type_of m)) b
  pub buffer : Holds (buffer_place (type_of m)) (fixed_part (type_of m)) (body_of m) b

-- the message with which bytes begin: as many as its length says. What follows is padding.
abbrev pub front_of : List ℕ → List ℕ
front_of b = take (number_at 4 b) b

-- bytes begin with those of a message
pub record BeginsWith (m : Rndis) (b : List ℕ) : Type 0 where
  pub within : number_at 4 b ≤ length b
  pub front : IsRndis m (front_of b)

-- how many bytes a message has where its buffer follows its fixed part
abbrev pub length_of : Rndis → ℕ
length_of m = fixed_part (type_of m) + length (body_of m)

-- the offset of a query's or a set's buffer: 0 where it is empty
abbrev pub offset_of : ℕ → List ℕ → ℕ
offset_of at body = if length body == 0 then 0 else at

-- the fields after the length: what isn't looked at is 0
abbrev pub fields_of : Rndis → List ℕ
fields_of (Packet body) = 36 ∷ length body ∷ 0 ∷ 0 ∷ 0 ∷ 0 ∷ 0 ∷ 0 ∷ 0 ∷ []
fields_of (InitializeComplete request_id status major minor device_flags medium max_packets max_transfer alignment) = request_id ∷ status ∷ major ∷ minor ∷ device_flags ∷ medium ∷ max_packets ∷ max_transfer ∷ alignment ∷ 0 ∷ 0 ∷ []
fields_of (Query request_id oid body) = request_id ∷ oid ∷ length body ∷ offset_of 20 body ∷ 0 ∷ []
fields_of (QueryComplete request_id status body) = request_id ∷ status ∷ length body ∷ offset_of 16 body ∷ []
fields_of (Set request_id oid body) = request_id ∷ oid ∷ length body ∷ offset_of 20 body ∷ 0 ∷ []
fields_of Reset = 0 ∷ []
fields_of (Initialize request_id major minor max_transfer) = request_id ∷ major ∷ minor ∷ max_transfer ∷ []
fields_of (Halt request_id) = request_id ∷ []
fields_of (SetComplete request_id status) = request_id ∷ status ∷ []
fields_of (ResetComplete status addressing_reset) = status ∷ addressing_reset ∷ []
fields_of (Keepalive request_id) = request_id ∷ []
fields_of (KeepaliveComplete request_id status) = request_id ∷ status ∷ []

-- the fixed part: the type, the length, and the other fields
abbrev pub words_of : Rndis → List ℕ
words_of m = number_of_type (type_of m) ∷ length_of m ∷ fields_of m

-- numbers of 4 bytes
abbrev pub rows_of : List ℕ → List Row
rows_of [] = []
rows_of (n ∷ ns) = num 4 n ∷ rows_of ns

-- the bytes that are written of a message: its fixed part, and right behind it its buffer
unfoldable pub rndis_bytes : Rndis → List ℕ
rndis_bytes (Packet body) = spelled_after [] (rows_of (words_of (Packet body))) ++ body
rndis_bytes (Query request_id oid body) = spelled_after [] (rows_of (words_of (Query request_id oid body))) ++ body
rndis_bytes (QueryComplete request_id status body) = spelled_after [] (rows_of (words_of (QueryComplete request_id status body))) ++ body
rndis_bytes (Set request_id oid body) = spelled_after [] (rows_of (words_of (Set request_id oid body))) ++ body
rndis_bytes m = spelled_after [] (rows_of (words_of m))

-- each value fits 4 bytes, and the buffer holds a frame at most
pub record InForm (m : Rndis) : Type 0 where
  pub fields : AllByRecursion (λ v. v < 256 ^ 4) (values_of m)
  pub few : length (body_of m) ≤ 1514
