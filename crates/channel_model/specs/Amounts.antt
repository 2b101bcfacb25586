-- How many packets of each kind come and go.
use Rattle.std.specs.Prelude.{ℕ, ◌≡◌, ◌≤◌, ◌+◌, Bool, true, false, List, length, filter, Some, None}
use Rattle.channel_trace.specs.declared.event.Event.{Event}
use Rattle.channel_trace.specs.Runs.{sent_of, got_of}
use Rattle.channel_trace.specs.Laws.{AreOfOneRun}
use Rattle.channel_model.specs.WireFormat.{WireFormat, Back}

-- room for so many packets, and for a message besides each where there are messages
abbrev pub room_of : Bool → ℕ → ℕ
room_of false n = n
room_of true n = n + n

-- so many messages, where there are messages
abbrev pub besides_of : Bool → ℕ → ℕ
besides_of false n = 0
besides_of true n = n

module _ {P A Q R : Type 0} (s : WireFormat P A Q R) where
  -- no message goes back besides an answer
  pub record HasNoMessages : Type 0 where
    pub gives : (p : P) (r : R) → (s.gives p r).message ≡ None
    pub fixed : (p : P) (b : Back P) → s.fixed p ≡ Some b → b.message ≡ None

  abbrev pub MayHaveMessages : Bool → Type 0
  MayHaveMessages false = HasNoMessages
  MayHaveMessages true = Unit {0}

  -- all that the asking end sent are requests and acknowledgements
  abbrev pub SendsKinds : List (Event P) → Type 0
  SendsKinds past = length (sent_of past) ≤ length (filter s.is_request (sent_of past)) + length (filter s.is_ack (sent_of past))

  -- the asking end sent at most so many requests, and no more acknowledgements than it got messages
  pub record AsksAtMost (most : ℕ) (past : List (Event P)) : Type 0 where
    pub kinds : SendsKinds past
    pub requests : length (filter s.is_request (sent_of past)) ≤ most
    pub acks : length (filter s.is_ack (sent_of past)) ≤ length (filter s.is_message (got_of past))

  -- the serving end sent at most one answer for each request that it got, and one message besides where there are messages
  pub record ServesAtMost (besides : Bool) (past : List (Event P)) : Type 0 where
    pub kinds : length (sent_of past) ≤ length (filter s.is_answer (sent_of past)) + length (filter s.is_message (sent_of past))
    pub answers : length (filter s.is_answer (sent_of past)) ≤ length (filter s.is_request (got_of past))
    pub messages : length (filter s.is_message (sent_of past)) ≤ besides_of besides (length (filter s.is_request (got_of past)))

  -- what came has room: at each end as many packets as room was made for, no more requests than asks, and no more messages, where there are messages
  pub record HasRoom (besides : Bool) (most : ℕ) (asker server : List (Event P)) : Type 0 where
    pub requests : length (filter s.is_request (got_of server)) ≤ most
    pub messages : length (filter s.is_message (got_of asker)) ≤ besides_of besides most
    pub server_got : length (got_of server) ≤ room_of besides most
    pub asker_got : length (got_of asker) ≤ room_of besides most

  -- two ends of one run: what the one sends is bounded by what it got of the other, kind by kind
  abbrev pub NeverOver : Bool → ℕ → List (Event P) → List (Event P) → Type 0
  NeverOver besides most asker server = AreOfOneRun asker server → AsksAtMost most asker → ServesAtMost besides server → HasRoom besides most asker server
