-- The messages besides the answers, and what acknowledges them.
use Rattle.std.specs.Prelude.{ℕ, ◌≤◌, ◌≡◌, ◌+◌, ◌==◌, ◌||◌, ◌&&◌, Bool, true, false, cond, List, [], ◌∷◌, ◌++◌, map, filter}
use Rattle.std.specs.List.{count_by}
use Rattle.channel_trace.specs.declared.event.Event.{Event}
use Rattle.channel_trace.specs.declared.event.Event.TheVariants.{Sent, Got, Empty, Marked, Saw}
use Rattle.channel_trace.specs.Runs.{sent_of}
use Rattle.channel_model.specs.WireFormat.{WireFormat}

-- the id is in the list
abbrev pub is_in : ℕ → List ℕ → Bool
is_in id [] = false
is_in id (o ∷ os) = (o == id) || is_in id os

-- without the first one that is this id
abbrev pub removed : ℕ → List ℕ → List ℕ
removed id [] = []
removed id (o ∷ os) = cond (o == id) os (o ∷ removed id os)

-- no id stands twice
abbrev pub AreApart : List ℕ → Type 0
AreApart [] = Unit {0}
AreApart (o ∷ os) = (is_in o os ≡ false) × AreApart os

module _ {P A Q R : Type 0} (s : WireFormat P A Q R) where
  -- what acknowledges the messages among these packets, in order
  abbrev pub acks_for : List P → List P
  acks_for ps = map s.ack (filter s.is_message ps)

  -- the ids of the serving end's messages that are open, in the order in which they were sent
  abbrev pub own_open : List (Event P) → List ℕ
  own_open [] = []
  own_open (Sent p ∷ past) = cond (s.is_message p) (own_open past ++ s.id_of p ∷ []) (own_open past)
  own_open (Got p ∷ past) = cond (s.is_ack p) (removed (s.id_of p) (own_open past)) (own_open past)
  own_open (Empty ∷ past) = own_open past
  own_open (Marked ∷ past) = own_open past
  own_open (Saw ∷ past) = own_open past

  -- the ids of those that an acknowledgement closed, in the order in which they were closed
  abbrev pub own_closed : List (Event P) → List ℕ
  own_closed [] = []
  own_closed (Sent p ∷ past) = own_closed past
  own_closed (Got p ∷ past) = cond (s.is_ack p && is_in (s.id_of p) (own_open past)) (own_closed past ++ s.id_of p ∷ []) (own_closed past)
  own_closed (Empty ∷ past) = own_closed past
  own_closed (Marked ∷ past) = own_closed past
  own_closed (Saw ∷ past) = own_closed past

  -- each message that was sent is open, or was closed, and that once
  abbrev pub OwnOnce : List (Event P) → Type 0
  OwnOnce past = (f : ℕ → Bool) → count_by f (map s.id_of (filter s.is_message (sent_of past))) ≡ count_by f (own_closed past) + count_by f (own_open past)

  -- each message was sent under an id from 1 to so many, under which none was open
  abbrev pub OwnFrom : ℕ → List (Event P) → Type 0
  OwnFrom most [] = Unit {0}
  OwnFrom most (Sent p ∷ past) = (s.is_message p ≡ true → (1 ≤ s.id_of p) × (s.id_of p ≤ most) × (is_in (s.id_of p) (own_open past) ≡ false)) × OwnFrom most past
  OwnFrom most (Got p ∷ past) = OwnFrom most past
  OwnFrom most (Empty ∷ past) = OwnFrom most past
  OwnFrom most (Marked ∷ past) = OwnFrom most past
  OwnFrom most (Saw ∷ past) = OwnFrom most past

  -- each of these ids has an open message
  abbrev pub AllOwnOpen : ℕ → List (Event P) → Type 0
  AllOwnOpen most past = (id : ℕ) → 1 ≤ id → id ≤ most → is_in id (own_open past) ≡ true
