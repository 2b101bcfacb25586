-- The rule of a queue of control messages: what was put is what was taken and then what it holds, and it is a front of the named list, or such a front and the last message.
use Rattle.std.specs.Prelude.{◌≡◌, ◌⊎◌, ℕ, Bool, true, false, List, [], ◌∷◌, ◌++◌}
use mathlib.Core.Option.{some}
use mathlib.Core.List.{IsPrefix}
use lib.ListN.{get_elem?}
use Rattle.atomic_table.specs.Seated.{TableId}
use Rattle.crossbeam_queue.specs.Fifo.{Learns}
use Rattle.crossbeam_queue.specs.Passes.{Pass, view}
use Rattle.vmbus_msg.specs.declared.msg.Msg.{Msg}
use Rattle.vmbus_msg.specs.declared.msg.Msg.TheVariants.{UnloadResponse}
use Rattle.mail_box.specs.declared.rule.Log.{Log}
use Rattle.mail_box.specs.Mail.{Post, Fetch}

abbrev pub log : Bool → Bool → List Msg → Msg → List Msg → List Msg → Log
log posts fetches named last put taken = record { posts = posts; fetches = fetches; named = named; last = last; put = put; taken = taken }

-- the last message of a queue that no caller has named yet
abbrev pub no_last : Msg
no_last = UnloadResponse 0

abbrev pub with_put : Log → Msg → Log
with_put v x = log v.posts v.fetches v.named v.last (v.put ++ x ∷ []) v.taken

abbrev pub with_taken : Log → Msg → Log
with_taken v x = log v.posts v.fetches v.named v.last v.put (v.taken ++ x ∷ [])

-- such a front and the last message
pub record EndsEarly (named : List Msg) (last : Msg) (said : List Msg) : Type 0 where
  pub front : List Msg
  pub named_front : IsPrefix front named
  pub is : said ≡ front ++ last ∷ []

-- a front of the named list, or such a front and the last message
abbrev pub MaySay : List Msg → Msg → List Msg → Type 0
MaySay named last said = IsPrefix said named ⊎ EndsEarly named last said

-- the pass that may put has the list of what was put, the one that may take that of what was taken, and both the names
pub record Fits (writer reader : ℕ) (named : List Msg) (last : Msg) (put taken : List Msg) (port : ℕ) (v : Log) : Type 0 where
  pub posts : v.posts ≡ true → (port ≡ writer) × (v.named ≡ named) × (v.last ≡ last) × (v.put ≡ put)
  pub fetches : v.fetches ≡ true → (port ≡ reader) × (v.named ≡ named) × (v.last ≡ last) × (v.taken ≡ taken)

pub record Mailed (items : List Msg) (views : List Log) : Type 0 where
  pub writer : ℕ
  pub reader : ℕ
  pub named : List Msg
  pub last : Msg
  pub put : List Msg
  pub taken : List Msg
  pub order : put ≡ taken ++ items
  pub may : MaySay named last put
  pub each : (port : ℕ) (v : Log) → get_elem? views port ≡ some v → Fits writer reader named last put taken port v

-- what any pass of the queue learns at any moment is so
abbrev pub Teaches : (Log → List Msg → Type 0) → Type 0
Teaches fact = (port : ℕ) (v : Log) → Learns Mailed port v (fact v)

-- what the pass of an end knows
abbrev pub posting : Post → Log
posting p = log true false p.named p.last p.put []

abbrev pub fetching : Fetch → Log
fetching f = log false true f.named f.last [] f.taken

-- what contracts see of an end, by what its pass knows
abbrev pub post_seen : TableId → ℕ → Log → Post
post_seen queue size v = record { queue = queue; size = size; named = v.named; last = v.last; put = v.put }

abbrev pub fetch_seen : TableId → ℕ → Log → Fetch
fetch_seen queue size v = record { queue = queue; size = size; named = v.named; last = v.last; taken = v.taken }

-- `view`, under a name that `impl Model` leaves free
abbrev pub known : Pass Msg Log → Log
known p = view p
