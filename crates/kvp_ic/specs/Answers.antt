-- The guest's answers, and what they say.
use Rattle.std.specs.Prelude.{◌≡◌, ℕ, ◌+◌, ◌==◌, nat_lt, not, List, ◌++◌, length, take, drop, Option, Some, None, if◌then◌else◌}
use Rattle.util_ic.specs.Messages.{number_at, put, with_result}
use Rattle.kvp_ic.specs.declared.message.KvpReply.{KvpReply}
use Rattle.kvp_ic.specs.declared.text.TextPlace.{TextPlace}
use Rattle.kvp_ic.specs.Machine.{told}
use Rattle.kvp_ic.specs.Texts.{text_size, field_of, text_in}
use Rattle.kvp_ic.specs.Messages.{operation_of, message_size, key_place, value_place}
use Rattle.kvp_ic.specs.Faults.{fault_of}

-- ---- what is written

-- the bytes with others from a place on
abbrev pub replaced : ℕ → List ℕ → List ℕ → List ℕ
replaced at bytes b = (take at b ++ bytes) ++ drop (at + length bytes) b

-- the bytes with a text put into its field of so many bytes, and its size
abbrev pub with_text : ℕ → TextPlace → List ℕ → List ℕ → List ℕ
with_text room place units b = replaced place.at (field_of room units) (put place.size_at 4 (text_size (length units)) b)

abbrev pub with_part : ℕ → TextPlace → Option (List ℕ) → List ℕ → List ℕ
with_part room place (Some units) b = with_text room place units b
with_part room place None b = b

-- a copy of the request with the status and flags 5, and where the reply has a key or a value with its size and its field
abbrev pub kvp_answer : List ℕ → KvpReply → List ℕ
kvp_answer b r =
    with_part 512 (key_place (operation_of b)) r.key (with_part 2048 (value_place (operation_of b)) r.value (with_result r.status b))

-- a part of a reply answers a request that isn't refused
abbrev pub NeedsMessage : List ℕ → Option (List ℕ) → Type 0
NeedsMessage b (Some units) = fault_of b ≡ None
NeedsMessage b None = Unit {0}

pub record CanCarry (b : List ℕ) (r : KvpReply) : Type 0 where
  pub key : NeedsMessage b r.key
  pub value : NeedsMessage b r.value

-- ---- what is read

abbrev pub status_of : List ℕ → ℕ
status_of b = number_at 20 4 b

-- a value, or a key and a value, where they are there
abbrev pub value_told : Option (List ℕ) → Option KvpReply
value_told (Some value) = Some (record { status = 0; key = None; value = Some value })
value_told None = None

abbrev pub pair_told : Option (List ℕ) → Option (List ℕ) → Option KvpReply
pair_told (Some key) (Some value) = Some (record { status = 0; key = Some key; value = Some value })
pair_told (Some key) None = None
pair_told None value = None

-- what an answer with status 0 says, by its operation: a get's value, and the pair at a place
abbrev pub good_told : ℕ → List ℕ → Option KvpReply
good_told operation b =
    if operation == 0 then value_told (text_in 0 1023 (value_place 0) b)
    else (if operation == 3 then pair_told (text_in 1 255 (key_place 3) b) (text_in 0 1023 (value_place 3) b)
    else Some (told 0))

-- what an answer says: nothing where it has no status, or a status of 0 and too few bytes or a wrong text
abbrev pub told_reply : List ℕ → Option KvpReply
told_reply b =
    if nat_lt (length b) 28 then None
    else (if not (status_of b == 0) then Some (told (status_of b))
    else (if nat_lt (length b) (message_size (operation_of b)) then None else good_told (operation_of b) b))
