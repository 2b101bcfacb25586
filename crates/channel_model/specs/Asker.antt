-- The end that asks.
use Rattle.std.specs.Prelude.{ℕ, ◌≡◌, cond, ◌==◌, List, [], ◌∷◌, ◌++◌, length, drop, filter, find, Option, Some, None}
use Rattle.channel_trace.specs.declared.event.Event.{Event}
use Rattle.channel_trace.specs.declared.event.Event.TheVariants.{Sent, Got, Empty, Marked, Saw}
use Rattle.channel_trace.specs.Runs.{sent_of, got_of}
use Rattle.channel_model.specs.WireFormat.{WireFormat, listed}

module _ {P A Q R : Type 0} (s : WireFormat P A Q R) where
  -- the requests that were sent, and the answers that were got
  abbrev pub requests_of : List (Event P) → List P
  requests_of past = filter s.is_request (sent_of past)

  abbrev pub answers_of : List (Event P) → List P
  answers_of past = filter s.is_answer (got_of past)

  -- the packets ask the first of these, in order
  abbrev pub Encoded : List A → List P → Type 0
  Encoded asks [] = Unit {0}
  Encoded [] (p ∷ ps) = ⊥
  Encoded (a ∷ asks) (p ∷ ps) = (p ≡ s.encode (s.id_of p) a) × Encoded asks ps

  -- what is open once a packet was sent: its id, with the ask that it has
  abbrev pub opened : P → List A → List (ℕ × A)
  opened p [] = []
  opened p (a ∷ asks) = cond (s.waits p) ((s.id_of p, a) ∷ []) []

  -- the first request under an id is closed
  abbrev pub without : ℕ → List (ℕ × A) → List (ℕ × A)
  without id [] = []
  without id (o ∷ os) = cond (o.0 == id) os (o ∷ without id os)

  abbrev pub under : ℕ → List (ℕ × A) → Option (ℕ × A)
  under id os = find (λ o. o.0 == id) os

  -- the requests that are open, in the order in which they were sent
  abbrev pub open_of : List A → List (Event P) → List (ℕ × A)
  open_of asks [] = []
  open_of asks (Sent p ∷ past) = cond (s.is_request p) (open_of asks past ++ opened p (drop (length (requests_of past)) asks)) (open_of asks past)
  open_of asks (Got p ∷ past) = cond (s.is_answer p) (without (s.id_of p) (open_of asks past)) (open_of asks past)
  open_of asks (Empty ∷ past) = open_of asks past
  open_of asks (Marked ∷ past) = open_of asks past
  open_of asks (Saw ∷ past) = open_of asks past

  -- the requests that an answer closed, in the order in which they were closed
  abbrev pub closed_of : List A → List (Event P) → List (ℕ × A)
  closed_of asks [] = []
  closed_of asks (Sent p ∷ past) = closed_of asks past
  closed_of asks (Got p ∷ past) = cond (s.is_answer p) (closed_of asks past ++ listed (under (s.id_of p) (open_of asks past))) (closed_of asks past)
  closed_of asks (Empty ∷ past) = closed_of asks past
  closed_of asks (Marked ∷ past) = closed_of asks past
  closed_of asks (Saw ∷ past) = closed_of asks past

  -- what came last, where it is no answer, after what came before
  abbrev pub since : Option P → List P → Option P
  since before [] = before
  since before (p ∷ ps) = since (cond (s.is_answer p) None (Some p)) ps

  -- an answer, and what came just before it, say to the request that it closes
  abbrev pub said : Option (ℕ × A) → Option P → P → List R
  said None before p = []
  said (Some o) before p = listed (s.result o.1 before p)

  -- the replies that were got
  abbrev pub replies_of : List A → List (Event P) → List R
  replies_of asks [] = []
  replies_of asks (Sent p ∷ past) = replies_of asks past
  replies_of asks (Got p ∷ past) = cond (s.is_answer p) (replies_of asks past ++ said (under (s.id_of p) (open_of asks past)) (since None (got_of past)) p) (replies_of asks past)
  replies_of asks (Empty ∷ past) = replies_of asks past
  replies_of asks (Marked ∷ past) = replies_of asks past
  replies_of asks (Saw ∷ past) = replies_of asks past
