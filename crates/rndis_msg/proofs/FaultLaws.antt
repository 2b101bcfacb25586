-- What no fault says of bytes, rule by rule, and what rules it out.
use Rattle.std.proofs.Common.{◌≡◌, ℕ, ◌+◌, ◌≤◌, ◌<◌, List, length, Bool, true, false, cond, nat_lt, ◌&&◌, ◌||◌, Option, Some, None, refl, arith}
use Rattle.std.proofs.lemmas.Bool.Decides.{nat_tests}
use Rattle.rndis_msg.specs.Types.{fixed_part}
use Rattle.rndis_msg.specs.Grammar.{number_at}
use Rattle.rndis_msg.specs.Faults.{first_of, no_header, below_fixed, cut_short, above_fixed, begins_early, ends_late}
use Rattle.rndis_msg.specs.declared.message_type.MessageType.{MessageType}
use Rattle.rndis_msg.specs.declared.message_type.BufferPlace.{BufferPlace}
use Rattle.rndis_msg.specs.declared.field_name.FieldName.TheVariants.{Offset, Length}
use Rattle.rndis_msg.specs.declared.fault.RndisFault.{RndisFault}
use Rattle.rndis_msg.specs.declared.fault.RndisFault.TheVariants.{Short, Long, Field}

pub here_fault : (a b : Option RndisFault) (e : RndisFault) → a ≡ Some e → first_of a b ≡ Some e
here_fault None b e h = cc
here_fault (Some x) b e h = h

pub then_fault : (a b : Option RndisFault) (o : Option RndisFault) → a ≡ None → b ≡ o → first_of a b ≡ o
then_fault None b o h k = k
then_fault (Some x) b o h k = cc

pub both_none : (a b : Option RndisFault) → first_of a b ≡ None → (a ≡ None) × (b ≡ None)
both_none None b h = (refl, h)
both_none (Some x) b h = cc

none_from : (b : Bool) (x : RndisFault) → cond b (Some x) None ≡ None → b ≡ false
none_from true x h = cc
none_from false x h = refl

not_either : (a b : Bool) → (a || b) ≡ false → (a ≡ false) × (b ≡ false)
not_either true b h = cc
not_either false b h = (refl, h)

pub header_there : (b : List ℕ) → no_header b ≡ None → 8 ≤ length b
header_there b h = let t = none_from (nat_lt (length b) 8) (Short (length b) 8) h in grind (arith, nat_tests, t)

pub there_header : (b : List ℕ) → 8 ≤ length b → no_header b ≡ None
there_header b h = let t : nat_lt (length b) 8 ≡ false = grind (arith, nat_tests, h) in rw t refl

pub fixed_there : (t : MessageType) (b : List ℕ) → below_fixed t b ≡ None → fixed_part t ≤ number_at 4 b
fixed_there t b h = let t = none_from (nat_lt (number_at 4 b) (fixed_part t)) (Short (number_at 4 b) (fixed_part t)) h in grind (arith, nat_tests, t)

pub there_fixed : (t : MessageType) (b : List ℕ) → fixed_part t ≤ number_at 4 b → below_fixed t b ≡ None
there_fixed t b h = let t : nat_lt (number_at 4 b) (fixed_part t) ≡ false = grind (arith, nat_tests, h) in rw t refl

pub all_there : (b : List ℕ) → cut_short b ≡ None → number_at 4 b ≤ length b
all_there b h = let t = none_from (nat_lt (length b) (number_at 4 b)) (Short (length b) (number_at 4 b)) h in grind (arith, nat_tests, t)

pub there_all : (b : List ℕ) → number_at 4 b ≤ length b → cut_short b ≡ None
there_all b h = let t : nat_lt (length b) (number_at 4 b) ≡ false = grind (arith, nat_tests, h) in rw t refl

pub no_more : (t : MessageType) (b : List ℕ) → above_fixed None t b ≡ None → number_at 4 b ≤ fixed_part t
no_more t b h = let t = none_from (nat_lt (fixed_part t) (number_at 4 b)) (Long (number_at 4 b)) h in grind (arith, nat_tests, t)

pub more_not : (t : MessageType) (b : List ℕ) → number_at 4 b ≤ fixed_part t → above_fixed None t b ≡ None
more_not t b h = let t : nat_lt (fixed_part t) (number_at 4 b) ≡ false = grind (arith, nat_tests, h) in rw t refl

-- a buffer that isn't empty begins behind the fixed part
pub begins_behind : (place : BufferPlace) (t : MessageType) (b : List ℕ) → begins_early (Some place) t b ≡ None → 0 < number_at place.length b → fixed_part t ≤ number_at place.offset b + 8
begins_behind place t b h some =
    let t = none_from (nat_lt 0 (number_at place.length b) && nat_lt (number_at place.offset b + 8) (fixed_part t)) (Field Offset (number_at place.offset b)) h in
    grind (arith, nat_tests, t, some)

pub behind_begins : (place : BufferPlace) (t : MessageType) (b : List ℕ) → (0 < number_at place.length b → fixed_part t ≤ number_at place.offset b + 8) → begins_early (Some place) t b ≡ None
behind_begins place t b h =
    let t : (nat_lt 0 (number_at place.length b) && nat_lt (number_at place.offset b + 8) (fixed_part t)) ≡ false = grind (arith, nat_tests, h) in
    rw t refl

-- a buffer ends within the message, and holds a frame at most
pub ends_within : (place : BufferPlace) (b : List ℕ) → ends_late (Some place) b ≡ None
    → (number_at place.offset b + 8 + number_at place.length b ≤ length b) × (number_at place.length b ≤ 1514)
ends_within place b h =
    let past = nat_lt (length b) (number_at place.offset b + 8 + number_at place.length b) in
    let wide = nat_lt 1514 (number_at place.length b) in
    let t = not_either past wide (none_from (past || wide) (Field Length (number_at place.length b)) h) in
    (grind (arith, nat_tests, t.0), grind (arith, nat_tests, t.1))

pub within_ends : (place : BufferPlace) (b : List ℕ) → number_at place.offset b + 8 + number_at place.length b ≤ length b → number_at place.length b ≤ 1514 → ends_late (Some place) b ≡ None
within_ends place b h few =
    let past : nat_lt (length b) (number_at place.offset b + 8 + number_at place.length b) ≡ false = grind (arith, nat_tests, h) in
    let wide : nat_lt 1514 (number_at place.length b) ≡ false = grind (arith, nat_tests, few) in
    rw (past, wide) refl
