-- What the two ends of a channel did, and which runs of both there can be. Lists of events and of turns have the last one first.
use Rattle.std.specs.Prelude.{◌≡◌, Bool, true, false, ◌||◌, List, [], ◌∷◌, ◌++◌}
use Rattle.channel_trace.specs.declared.event.Event.{Event}
use Rattle.channel_trace.specs.declared.event.Event.TheVariants.{Sent, Got, Empty, Marked, Saw}

-- an event of the guest, or of the host
pub data Turn (P : Type 0) : Type 0 where
  Guest : Event P → Turn P
  Host : Event P → Turn P

-- the second list begins with the first
abbrev pub IsFront : {A : Type 0} → List A → List A → Type 0
IsFront {A = A} front all = (rest : List A) × (all ≡ front ++ rest)

module _ {P : Type 0} where
  -- what an end sent, in order
  abbrev pub sent_of : List (Event P) → List P
  sent_of [] = []
  sent_of (Sent p ∷ past) = sent_of past ++ p ∷ []
  sent_of (Got p ∷ past) = sent_of past
  sent_of (Empty ∷ past) = sent_of past
  sent_of (Marked ∷ past) = sent_of past
  sent_of (Saw ∷ past) = sent_of past

  -- what an end got, in order
  abbrev pub got_of : List (Event P) → List P
  got_of [] = []
  got_of (Sent p ∷ past) = got_of past
  got_of (Got p ∷ past) = got_of past ++ p ∷ []
  got_of (Empty ∷ past) = got_of past
  got_of (Marked ∷ past) = got_of past
  got_of (Saw ∷ past) = got_of past

  -- it marked itself
  abbrev pub has_marked : List (Event P) → Bool
  has_marked [] = false
  has_marked (Sent p ∷ past) = has_marked past
  has_marked (Got p ∷ past) = has_marked past
  has_marked (Empty ∷ past) = has_marked past
  has_marked (Marked ∷ past) = true
  has_marked (Saw ∷ past) = has_marked past

  -- it saw the other end's mark
  abbrev pub has_seen : List (Event P) → Bool
  has_seen [] = false
  has_seen (Sent p ∷ past) = has_seen past
  has_seen (Got p ∷ past) = has_seen past
  has_seen (Empty ∷ past) = has_seen past
  has_seen (Marked ∷ past) = has_seen past
  has_seen (Saw ∷ past) = true

  -- it found none waiting once it had seen the mark
  abbrev pub is_drained : List (Event P) → Bool
  is_drained [] = false
  is_drained (Sent p ∷ past) = is_drained past
  is_drained (Got p ∷ past) = is_drained past
  is_drained (Empty ∷ past) = has_seen past || is_drained past
  is_drained (Marked ∷ past) = is_drained past
  is_drained (Saw ∷ past) = is_drained past

  -- the guest's events of a run
  abbrev pub guest_of : List (Turn P) → List (Event P)
  guest_of [] = []
  guest_of (Guest e ∷ past) = e ∷ guest_of past
  guest_of (Host e ∷ past) = guest_of past

  -- the host's events of a run
  abbrev pub host_of : List (Turn P) → List (Event P)
  host_of [] = []
  host_of (Guest e ∷ past) = host_of past
  host_of (Host e ∷ past) = e ∷ host_of past

  -- An end may do this next, where it did `mine` and the other end did `other` so far: after its own mark it does nothing, a packet that it gets is the
  -- next one that the other end sent, it finds none waiting only where it got all, and a mark that it sees is there
  abbrev pub May : Event P → List (Event P) → List (Event P) → Type 0
  May (Sent p) mine other = has_marked mine ≡ false
  May (Got p) mine other = (has_marked mine ≡ false) × IsFront (got_of mine ++ p ∷ []) (sent_of other)
  May Empty mine other = (has_marked mine ≡ false) × (got_of mine ≡ sent_of other)
  May Marked mine other = has_marked mine ≡ false
  May Saw mine other = (has_marked mine ≡ false) × (has_marked other ≡ true)

  -- each turn was one that its end might make after the turns before it
  abbrev pub IsRun : List (Turn P) → Type 0
  IsRun [] = Unit {0}
  IsRun (Guest e ∷ past) = May e (guest_of past) (host_of past) × IsRun past
  IsRun (Host e ∷ past) = May e (host_of past) (guest_of past) × IsRun past
