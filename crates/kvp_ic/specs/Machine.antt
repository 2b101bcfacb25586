-- A key-value device: five finite maps, and what is asked of them.
use Rattle.std.specs.Prelude.{◌≡◌, ℕ, ◌<◌, ◌^◌, Bool, true, false, ◌==◌, List, [], replicate, Option, Some, None, is_some, slice_get, slice_index_or, slice_set, if◌then◌else◌}
use Rattle.kvp_pool.specs.Pools.{Pairs, IsText, value_in, with_pair, without, can_set}
use Rattle.kvp_ic.specs.declared.message.Kvp.{Kvp}
use Rattle.kvp_ic.specs.declared.message.Kvp.TheVariants.{Get, Set, Delete, Enum}
use Rattle.kvp_ic.specs.declared.message.KvpReply.{KvpReply}

-- five pools with no pair
abbrev pub new_pools : List Pairs
new_pools = replicate 5 []

-- the pool that is asked
abbrev pub pool_of : Kvp → ℕ
pool_of (Get pool key) = pool
pool_of (Set pool key value) = pool
pool_of (Delete pool key) = pool
pool_of (Enum pool index) = pool

-- a status with no key and no value
abbrev pub told : ℕ → KvpReply
told status = record { status = status; key = None; value = None }

-- the statuses of refusals: the key or the place has no pair, the pool is full, there is no such pool
abbrev pub missing : KvpReply
missing = told 0x8007_0103

abbrev pub full : KvpReply
full = told 0x8007_0070

abbrev pub no_pool : KvpReply
no_pool = told 0x8007_0057

-- a value, or a pair, where there is one
abbrev pub value_reply : Option (List ℕ) → KvpReply
value_reply (Some value) = record { status = 0; key = None; value = Some value }
value_reply None = missing

abbrev pub pair_reply : Option (List ℕ × List ℕ) → KvpReply
pair_reply (Some pair) = record { status = 0; key = Some pair.0; value = Some pair.1 }
pair_reply None = missing

-- what a pool answers
abbrev pub pool_reply : Pairs → Kvp → KvpReply
pool_reply pool (Get _ key) = value_reply (value_in key pool)
pool_reply pool (Set _ key value) = if can_set key pool then told 0 else full
pool_reply pool (Delete _ key) = if is_some (value_in key pool) then told 0 else missing
pool_reply pool (Enum _ index) = pair_reply (slice_get pool index)

-- the pool after a request
abbrev pub pool_after : Pairs → Kvp → Pairs
pool_after pool (Get _ key) = pool
pool_after pool (Set _ key value) = if can_set key pool then with_pair key value pool else pool
pool_after pool (Delete _ key) = without key pool
pool_after pool (Enum _ index) = pool

abbrev pub reply_in : Option Pairs → Kvp → KvpReply
reply_in (Some pool) q = pool_reply pool q
reply_in None q = no_pool

-- what the device answers: what the pool does that is asked
abbrev pub pools_reply : List Pairs → Kvp → KvpReply
pools_reply pools q = reply_in (slice_get pools (pool_of q)) q

-- the pools after a request: the one that is asked changes, if it is there
abbrev pub pools_after : List Pairs → Kvp → List Pairs
pools_after pools q = slice_set pools (pool_of q) (pool_after (slice_index_or pools (pool_of q) []) q)

-- a text of a reply is there just where it is to be, and a text then
abbrev pub IsPart : Bool → ℕ → ℕ → Option (List ℕ) → Type 0
IsPart true min max (Some units) = IsText min max units
IsPart true min max None = ⊥
IsPart false min max (Some units) = ⊥
IsPart false min max None = Unit {0}

-- which of key and value a reply has, by the request and the status
abbrev pub IsReplyTo : Kvp → KvpReply → Type 0
IsReplyTo (Get _ _) r = (r.key ≡ None) × IsPart (r.status == 0) 0 1023 r.value × (r.status < 2 ^ 32)
IsReplyTo (Set _ _ _) r = (r.key ≡ None) × (r.value ≡ None) × (r.status < 2 ^ 32)
IsReplyTo (Delete _ _) r = (r.key ≡ None) × (r.value ≡ None) × (r.status < 2 ^ 32)
IsReplyTo (Enum _ _) r = IsPart (r.status == 0) 1 255 r.key × IsPart (r.status == 0) 0 1023 r.value × (r.status < 2 ^ 32)
