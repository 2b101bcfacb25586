-- What comes of many requests, one after the other.
use Rattle.std.specs.Prelude.{ℕ, ◌==◌, ◌&&◌, List, [], ◌∷◌, Option, Some, None, slice_index_or, if◌then◌else◌, bytes_eq}
use Rattle.kvp_pool.specs.Pools.{Pairs, value_in}
use Rattle.kvp_ic.specs.declared.message.Kvp.{Kvp}
use Rattle.kvp_ic.specs.declared.message.Kvp.TheVariants.{Get, Set, Delete, Enum}
use Rattle.kvp_ic.specs.declared.message.KvpReply.{KvpReply}
use Rattle.kvp_ic.specs.Machine.{pools_reply, pools_after}

-- the pools after these requests
abbrev pub after_all : List Pairs → List Kvp → List Pairs
after_all pools [] = pools
after_all pools (q ∷ qs) = after_all (pools_after pools q) qs

-- each request with its reply
abbrev pub calls : List Pairs → List Kvp → List (Kvp × KvpReply)
calls pools [] = []
calls pools (q ∷ qs) = (q, pools_reply pools q) ∷ calls (pools_after pools q) qs

-- the value of a key in a pool
abbrev pub stored : List Pairs → ℕ → List ℕ → Option (List ℕ)
stored pools i key = value_in key (slice_index_or pools i [])

-- the value of a key in a pool behind a call, as the call says: a set of it that was done gives it, a delete that was done takes it away
abbrev pub told_by : ℕ → List ℕ → Option (List ℕ) → Kvp → ℕ → Option (List ℕ)
told_by i key before (Get pool k) status = before
told_by i key before (Set pool k value) status = if (status == 0) && (pool == i) && bytes_eq k key then Some value else before
told_by i key before (Delete pool k) status = if (status == 0) && (pool == i) && bytes_eq k key then None else before
told_by i key before (Enum pool index) status = before

-- and behind many
abbrev pub last_told : ℕ → List ℕ → Option (List ℕ) → List (Kvp × KvpReply) → Option (List ℕ)
last_told i key before [] = before
last_told i key before (c ∷ cs) = last_told i key (told_by i key before c.0 c.1.status) cs
