-- Which requests are settled.
use Rattle.std.specs.Prelude.{ℕ, ◌≡◌, ◌+◌, Bool, cond, List, [], ◌∷◌, ◌++◌, map, Option, Some, None}
use Rattle.channel_trace.specs.declared.event.Event.{Event}
use Rattle.channel_trace.specs.Runs.{got_of}
use Rattle.channel_model.specs.WireFormat.{WireFormat, listed}
use Rattle.std.specs.List.{count_by}
use Rattle.channel_model.specs.Asker.{requests_of, answers_of, open_of, closed_of, replies_of}

module _ {P A Q R : Type 0} (s : WireFormat P A Q R) where
  -- the ids of the requests that have answers, each with the ask that it has
  abbrev pub pairs : List P → List A → List (ℕ × A)
  pairs [] asks = []
  pairs (p ∷ ps) [] = []
  pairs (p ∷ ps) (a ∷ asks) = cond (s.waits p) ((s.id_of p, a) ∷ pairs ps asks) (pairs ps asks)

  -- what came back says to the requests, in order
  abbrev pub said_all : List (ℕ × A) → Option P → List P → List R
  said_all os before [] = []
  said_all [] before (z ∷ zs) = []
  said_all (o ∷ os) before (z ∷ zs) = cond (s.is_answer z) (listed (s.result o.1 before z) ++ said_all os None zs) (said_all (o ∷ os) (Some z) zs)

  -- the first requests are settled, each by the answer at its place, and the others are open
  pub record IsSettled (asks : List A) (past : List (Event P)) : Type 0 where
    pub done : List (ℕ × A)
    pub split : pairs (requests_of s past) asks ≡ done ++ open_of s asks past
    pub ids : map (λ o. o.0) done ≡ map s.id_of (answers_of s past)
    pub said : replies_of s asks past ≡ said_all done None (got_of past)

  -- each request that was sent and has an answer is open, or was closed, and that once: so it is of the requests of whatever kind
  abbrev pub SettledOnce : List A → List (Event P) → Type 0
  SettledOnce asks past = (f : ℕ × A → Bool) → count_by f (pairs (requests_of s past) asks) ≡ count_by f (closed_of s asks past) + count_by f (open_of s asks past)
