-- What a worker keeps between its steps.
use Rattle.std.specs.Prelude.{ℕ, ◌≡◌, Bool, List, [], ◌∷◌, ◌++◌, length, drop, filter, map, Option, Some, None, true, false, ◌==◌, ◌⊎◌, if◌then◌else◌}
use Rattle.channel_trace.specs.declared.event.Event.{Event}
use Rattle.channel_trace.specs.Runs.{sent_of, got_of}
use Rattle.hist_lock.specs.Seat.{Call}
use Rattle.channel_model.specs.WireFormat.{WireFormat}
use Rattle.channel_model.specs.Asker.{requests_of, Encoded, open_of, under, replies_of}
use Rattle.channel_model.specs.Server.{Serves, left_of, left_one, InOrder}
use Rattle.channel_model.specs.Acks.{own_open, is_in, AreApart}

-- what stands under an id of a list of pairs
abbrev pub ask_of : {A : Type 0} → Option (ℕ × A) → Option A
ask_of None = None
ask_of (Some o) = Some o.1

module _ {P A Q R : Type 0} (s : WireFormat P A Q R) where
  -- how many are still to be served after one more packet
  abbrev pub left_after : Bool → Option Q → Option ℕ → Option ℕ
  left_after held o None = None
  left_after held o (Some m) = left_one s held o m (λ k. Some k)

  -- The serving end: it served the first packets that it got, and took the others without serving them yet. What it sent and still owes are the
  -- answers to those that it served
  pub record ServerKept (held : Bool) (n : ℕ) (past : List (Event P)) (calls : List (Call Q R)) (owed : List P) (left : Option ℕ) (rest : List P) : Type 0 where
    pub served : List P
    pub got_is : got_of past ≡ served ++ rest
    pub serves : Serves s held served n calls (sent_of past ++ owed)
    pub stands : left_of s held served n ≡ left
    pub order : InOrder s past

  -- no id stands twice
  abbrev pub Apart : List (ℕ × A) → Type 0
  Apart [] = Unit {0}
  Apart (o ∷ os) = (under s o.0 os ≡ None) × Apart os

  -- the asking end: what it sent are its first requests, its table has those that are open, and its replies are those of what it got.
  -- A request that waits for room stands in the table already
  pub record AskerKept (asks : List A) (past : List (Event P)) (todo : List A) (waiting : List (ℕ × A)) (table : ℕ → Option A) (told : List R) : Type 0 where
    pub encoded : Encoded s asks (requests_of s past)
    pub rest : drop (length (requests_of s past)) asks ≡ todo
    pub opens : (id : ℕ) → table id ≡ ask_of (under s id (open_of s asks past ++ waiting))
    pub apart : Apart (open_of s asks past ++ waiting)
    pub says : told ≡ replies_of s asks past

  -- the messages of the other end: it acknowledged those among the first packets that it got, and the others are still to be looked at
  pub record AcksKept (past : List (Event P)) (rest : List P) : Type 0 where
    pub done : List P
    pub got_is : got_of past ≡ done ++ rest
    pub acks : filter s.is_ack (sent_of past) ≡ map s.ack (filter s.is_message done)

  -- the serving end's own messages: its table has those that were sent and not yet acknowledged, and those that it owes
  pub record OwnKept (past : List (Event P)) (owed : List P) (table : ℕ → Bool) : Type 0 where
    pub opens : (id : ℕ) → table id ≡ is_in id (own_open s past ++ map s.id_of (filter s.is_message owed))
    pub apart : AreApart (own_open s past ++ map s.id_of (filter s.is_message owed))

  -- what is owed for one packet has no message, and the table is as before; or it has one, which stands in the table under an id that was free
  pub record OwesNone (owed : List P) (table table' : ℕ → Bool) : Type 0 where
    pub none : filter s.is_message owed ≡ []
    pub same : (j : ℕ) → table' j ≡ table j

  pub record OwesOwn (owed : List P) (table table' : ℕ → Bool) : Type 0 where
    pub own : ℕ
    pub one : map s.id_of (filter s.is_message owed) ≡ own ∷ []
    pub free : table own ≡ false
    pub set : (j : ℕ) → table' j ≡ (if j == own then true else table j)

  abbrev pub Owes : List P → (ℕ → Bool) → (ℕ → Bool) → Type 0
  Owes owed table table' = OwesNone owed table table' ⊎ OwesOwn owed table table'
