-- The run of one channel in one phase.
use Rattle.std.specs.Prelude.{ℕ, ◌≡◌, ◌≤◌, min, Bool, true, false, ◌&&◌, nat_le, List, [], ◌∷◌, ◌++◌, map, length, filter, Option, Some, None, ◌⊎◌, filter_map}
use Rattle.std.specs.List.{cons_option}
use Rattle.channel_trace.specs.declared.event.Event.{Event}
use Rattle.channel_trace.specs.Runs.{IsFront, sent_of, got_of, is_drained}
use Rattle.channel_trace.specs.Laws.{Follows}
use Rattle.hist_lock.specs.Seat.{Call}
use Rattle.channel_model.specs.WireFormat.{WireFormat}
use Rattle.channel_model.specs.Asker.{requests_of, Encoded, open_of, replies_of}
use Rattle.channel_model.specs.Server.{Serves, InOrder, answered}
use Rattle.channel_model.specs.Acks.{acks_for}

-- the requests of the start-up and of the script; the serving end may stop after some, and may keep the answer to the last one
pub record RequestPlan (A : Type 0) : Type 0 where
  pub start : List A
  pub script : List A
  pub stop : Option (ℕ × Bool)

-- how many of so many requests are served, and whether the last one is held
abbrev pub count_of : Option (ℕ × Bool) → ℕ → ℕ
count_of None m = m
count_of (Some k) m = min k.0 m

abbrev pub held_of : Option (ℕ × Bool) → ℕ → Bool
held_of None m = false
held_of (Some k) m = k.1 && nat_le k.0 m

module _ {P A Q R : Type 0} (s : WireFormat P A Q R) where
  -- what goes back for the start-up is fixed, and the script asks the device
  abbrev pub AllFixed : List A → Type 0
  AllFixed [] = Unit {0}
  AllFixed (a ∷ asks) = ((id : ℕ) → s.read (s.encode id a) ≡ None) × AllFixed asks

  abbrev pub AllAsk : List A → Type 0
  AllAsk [] = Unit {0}
  AllAsk (a ∷ asks) = ((id : ℕ) → (q : Q) × (s.read (s.encode id a) ≡ Some q)) × AllAsk asks

  pub record IsRequestPlan (plan : RequestPlan A) : Type 0 where
    pub fixed : AllFixed plan.start
    pub asks : AllAsk plan.script

  abbrev pub asks_of : RequestPlan A → List A
  asks_of plan = plan.start ++ plan.script

  -- all is asked and settled, and each message is acknowledged
  pub record AskerSettles (plan : RequestPlan A) (past : List (Event P)) : Type 0 where
    pub all : length (requests_of s past) ≡ length (asks_of plan)
    pub none : open_of s (asks_of plan) past ≡ []
    pub acked : filter s.is_ack (sent_of past) ≡ acks_for s (got_of past)

  -- what the asking end gives, once it has marked itself: all is asked and settled, or the other end stopped before
  pub record AskerEnds (plan : RequestPlan A) (past : List (Event P)) (told : List R) : Type 0 where
    pub encoded : Encoded s (asks_of plan) (requests_of s past)
    pub replies : told ≡ replies_of s (asks_of plan) past
    pub acks : IsFront (filter s.is_ack (sent_of past)) (acks_for s (got_of past))
    pub end : AskerSettles plan past ⊎ ((is_drained past ≡ true) × Follows past)

  -- what the serving end gives, once it has marked itself: it stopped where the plan says, or the other end has ended
  pub record ServerStops (plan : RequestPlan A) (past : List (Event P)) (calls : List (Call Q R)) : Type 0 where
    pub after : ℕ × Bool
    pub stop : plan.stop ≡ Some after
    pub count : length calls ≡ count_of plan.stop (length plan.script)
    pub started : length (filter s.has_answer plan.start) ≤ length (filter s.waits (filter s.is_request (got_of past)))

  -- it stopped there with all served that it got, and all sent that it owed; or the other end had marked itself, and takes nothing more: then the last answers may
  -- be missing, and packets may be left that it didn't serve
  pub record ServerEnds (plan : RequestPlan A) (past : List (Event P)) (calls : List (Call Q R)) : Type 0 where
    pub served : List P
    pub first : IsFront served (got_of past)
    pub missing : List P
    pub serves : Serves s (held_of plan.stop (length plan.script)) served (count_of plan.stop (length plan.script)) calls (sent_of past ++ missing)
    pub order : InOrder s past
    pub end : (ServerStops plan past calls × (served ≡ got_of past) × (missing ≡ [])) ⊎ ((is_drained past ≡ true) × Follows past)

  -- what the asking end gives where it found no room in its lists: some of its last requests are missing, and some are open
  pub record AskerBreaks (asks : List A) (past : List (Event P)) (told : List R) : Type 0 where
    pub encoded : Encoded s asks (requests_of s past)
    pub replies : told ≡ replies_of s asks past
    pub acks : IsFront (filter s.is_ack (sent_of past)) (acks_for s (got_of past))

  -- what the serving end gives where it found no room in its lists, or had no call left: it served the first packets that it got, and some of the last answers are missing
  pub record ServerBreaks (held : Bool) (n : ℕ) (past : List (Event P)) (calls : List (Call Q R)) : Type 0 where
    pub served : List P
    pub first : IsFront served (got_of past)
    pub missing : List P
    pub serves : Serves s held served n calls (sent_of past ++ missing)
    pub order : InOrder s past

  pub record IsProtocolRun (plan : RequestPlan A) (sent got : List P) (server_sent server_got : List P) (calls : List (Call Q R)) (told : List R) : Type 0 where
    -- what was sent was got, but for requests after the stop
    pub front : IsFront server_got sent
    pub whole_got : plan.stop ≡ None → server_got ≡ sent
    pub answers_got : got ≡ server_sent
    -- the requests are the start-up's and then the script's, in order; all of them where there is no stop
    pub requests : Encoded s (asks_of plan) (filter s.is_request sent)
    pub whole : plan.stop ≡ None → length (filter s.is_request sent) ≡ length (asks_of plan)
    -- the messages are acknowledged in order, each at most once; each of them where there is no stop
    pub acks : IsFront (filter s.is_ack sent) (acks_for s server_sent)
    pub all_acked : plan.stop ≡ None → filter s.is_ack sent ≡ acks_for s server_sent
    -- the start-up and the calls are answered, in order, each after the message that it has besides
    pub served : Serves s (held_of plan.stop (length plan.script)) server_got (count_of plan.stop (length plan.script)) calls server_sent
    pub started : length (filter s.has_answer plan.start) ≤ length (filter s.waits (filter s.is_request server_got))
    -- the calls are those of the first requests of the script, as many as the plan says
    pub asked : IsFront (map (λ c. c.request) calls) (filter_map s.read sent)
    pub count : length calls ≡ count_of plan.stop (length plan.script)
    pub replies : told ≡ map (λ c. c.reply) (answered s (held_of plan.stop (length plan.script)) (count_of plan.stop (length plan.script)) calls)

-- what these asks ask of the device under these ids, in order
abbrev pub asked_under : {A Q : Type 0} → (ℕ → A → Option Q) → List ℕ → List A → List Q
asked_under wants [] asks = []
asked_under wants (id ∷ ids) [] = []
asked_under wants (id ∷ ids) (a ∷ asks) = cons_option (wants id a) (asked_under wants ids asks)
