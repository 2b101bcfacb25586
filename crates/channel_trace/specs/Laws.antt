-- What holds of every run, in words of the two ends' events.
use Rattle.std.specs.Prelude.{◌≡◌, ◌⊎◌, true, false, List, [], ◌∷◌, ◌++◌}
use Rattle.channel_trace.specs.declared.event.Event.{Event}
use Rattle.channel_trace.specs.declared.event.Event.TheVariants.{Sent, Got, Empty, Marked, Saw}
use Rattle.channel_trace.specs.Runs.{Turn, Guest, Host, IsFront, sent_of, got_of, has_marked, has_seen, is_drained, guest_of, host_of, IsRun}

module _ {P : Type 0} where
  -- the two ends' events are those of one run
  pub record AreOfOneRun (guest host : List (Event P)) : Type 0 where
    pub turns : List (Turn P)
    pub run : IsRun turns
    pub guest_is : guest_of turns ≡ guest
    pub host_is : host_of turns ≡ host

  -- it holds of the guest with the host as its peer, and of the host with the guest as its peer
  pub record BothWays (Holds : List (Event P) → List (Event P) → Type 0) (run : List (Turn P)) : Type 0 where
    pub guest : Holds (guest_of run) (host_of run)
    pub host : Holds (host_of run) (guest_of run)

  -- what an end got is the front of what its peer sent: in order, unchanged, none twice and none left out
  abbrev pub GetsInOrder : List (Event P) → List (Event P) → Type 0
  GetsInOrder mine other = IsFront (got_of mine) (sent_of other)

  -- a drained end got all that its peer sent
  abbrev pub DrainsAll : List (Event P) → List (Event P) → Type 0
  DrainsAll mine other = is_drained mine ≡ true → got_of mine ≡ sent_of other

  -- a mark that an end saw is there
  abbrev pub SeesMarks : List (Event P) → List (Event P) → Type 0
  SeesMarks mine other = has_seen mine ≡ true → has_marked other ≡ true

  -- an end's mark is the last thing that it did
  abbrev pub EndsAtMark : List (Event P) → List (Event P) → Type 0
  EndsAtMark mine other = (later before : List (Event P)) → mine ≡ later ++ Marked ∷ before → later ≡ []

  -- it marked itself before it saw its peer's mark
  pub record MarksFirst (mine : List (Event P)) : Type 0 where
    pub later : List (Event P)
    pub before : List (Event P)
    pub is : mine ≡ later ++ Marked ∷ before
    pub unseen : has_seen before ≡ false

  -- where an end marked itself, one of the two did so first
  abbrev pub HasFirstMark : List (Event P) → List (Event P) → Type 0
  HasFirstMark mine other = has_marked mine ≡ true → MarksFirst mine ⊎ MarksFirst other

  -- each mark of an end was set after it saw its peer's
  abbrev pub Follows : List (Event P) → Type 0
  Follows [] = Unit {0}
  Follows (Sent p ∷ past) = Follows past
  Follows (Got p ∷ past) = Follows past
  Follows (Empty ∷ past) = Follows past
  Follows (Marked ∷ past) = (has_seen past ≡ true) × Follows past
  Follows (Saw ∷ past) = Follows past

  -- where each end waits for its peer's mark, neither sets one
  abbrev pub StaysUnmarked : List (Event P) → List (Event P) → Type 0
  StaysUnmarked mine other = Follows mine → Follows other → has_marked mine ≡ false

  -- the run with guest and host exchanged
  abbrev pub exchanged : List (Turn P) → List (Turn P)
  exchanged [] = []
  exchanged (Guest e ∷ past) = Host e ∷ exchanged past
  exchanged (Host e ∷ past) = Guest e ∷ exchanged past
