-- Why bytes don't begin with a message: the first reason that applies is told.
use Rattle.std.specs.Prelude.{ℕ, ◌+◌, ◌*◌, ◌==◌, ◌&&◌, nat_lt, List, length, option_map, Option, Some, None, if◌then◌else◌}
use Rattle.kvp_ic.specs.declared.message.Kvp.{Kvp}
use Rattle.kvp_ic.specs.declared.message.Kvp.TheVariants.{Get, Set, Delete, Enum}
use Rattle.kvp_ic.specs.declared.text.TextPlace.{TextPlace}
use Rattle.kvp_ic.specs.declared.fault.KvpFault.{KvpFault}
use Rattle.kvp_ic.specs.declared.fault.KvpFault.TheVariants.{Short, Operation, Pool, Size, Text}
use Rattle.kvp_ic.specs.Texts.{size_at, is_size, units_at, text_at, wrong_unit}
use Rattle.kvp_ic.specs.Messages.{operation_of, pool_in, index_in, key_place, value_place}

-- the fault where there is one, or else the other
abbrev pub or_else : Option KvpFault → Option KvpFault → Option KvpFault
or_else (Some e) other = Some e
or_else None other = other

-- 1. there are fewer bytes than every message has, or than one about a place has
abbrev pub short_fault : List ℕ → Option KvpFault
short_fault b =
    if nat_lt (length b) 2604 then Some (Short (length b) 2604)
    else (if (operation_of b == 3) && nat_lt (length b) 2608 then Some (Short (length b) 2608) else None)

-- 2. there is no such operation
abbrev pub operation_fault : List ℕ → Option KvpFault
operation_fault b = if nat_lt 3 (operation_of b) then Some (Operation (operation_of b)) else None

-- 3. there is no such pool
abbrev pub pool_fault : List ℕ → Option KvpFault
pool_fault b = if nat_lt 4 (pool_in b) then Some (Pool (pool_in b)) else None

-- 4. a text's size isn't right
abbrev pub size_fault : ℕ → ℕ → TextPlace → List ℕ → Option KvpFault
size_fault min max place b = if is_size min max (size_at place b) then None else Some (Size (size_at place b))

-- 5. one of its units isn't right: the first, by its byte behind so many
abbrev pub text_fault : ℕ → TextPlace → List ℕ → Option KvpFault
text_fault before place b = option_map (λ k. Text (before + 2 * k)) (wrong_unit 0 (units_at place b))

abbrev pub frame_fault : List ℕ → Option KvpFault
frame_fault b = or_else (short_fault b) (or_else (operation_fault b) (pool_fault b))

-- what is wrong with a key alone
abbrev pub key_fault : TextPlace → List ℕ → Option KvpFault
key_fault key b = or_else (size_fault 1 255 key b) (text_fault 0 key b)

-- what is wrong with a key and a value: both sizes before both texts
abbrev pub pair_fault : TextPlace → TextPlace → List ℕ → Option KvpFault
pair_fault key value b =
    or_else (size_fault 1 255 key b) (or_else (size_fault 0 1023 value b) (or_else (text_fault 0 key b) (text_fault 512 value b)))

-- what is wrong with the texts that an operation looks at
abbrev pub texts_fault : ℕ → List ℕ → Option KvpFault
texts_fault operation b =
    if operation == 3 then None
    else (if operation == 1 then pair_fault (key_place 1) (value_place 1) b else key_fault (key_place 0) b)

-- why a message is refused
abbrev pub fault_of : List ℕ → Option KvpFault
fault_of b = or_else (frame_fault b) (texts_fault (operation_of b) b)

-- what is asked by bytes that have no fault
abbrev pub asked_by : ℕ → List ℕ → Kvp
asked_by operation b =
    if operation == 0 then Get (pool_in b) (text_at (key_place 0) b)
    else (if operation == 1 then Set (pool_in b) (text_at (key_place 1) b) (text_at (value_place 1) b)
    else (if operation == 2 then Delete (pool_in b) (text_at (key_place 2) b)
    else Enum (pool_in b) (index_in b)))

abbrev pub message_in : List ℕ → Kvp
message_in b = asked_by (operation_of b) b
