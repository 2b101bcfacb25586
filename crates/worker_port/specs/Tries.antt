-- One call of an end, from what a contract sees of it before to what it sees after; an end's last three calls where it let a packet go; and those of a turn that
-- left it asleep.
use Rattle.std.specs.Prelude.{ℕ, ◌≡◌, ◌≢◌, List, [], length, Option, Some, None}
use Rattle.page_kept.specs.Layouts.{Loan}
use Rattle.page_table.specs.Table.{part_in}
use Rattle.ring_machine.specs.Endings.{want_of}
use Rattle.ring_machine.specs.declared.machine.Ending.TheVariants.{Empty, FellAsleep, Full}
use Rattle.ring_machine.specs.Steps.{arm_begun, mark_begun, send_begun, take_begun}
use Rattle.ring_core.specs.Laying.{RanStores}
use Rattle.ring_core.specs.Seen.{Seen}
use Rattle.ring_core.specs.declared.told.Told.{Told}
use Rattle.ring_core.specs.Told.{MakesSteps, Tale}

-- it looked once for a packet
abbrev pub LookedOnce : {S : Type 0} → (S → Option Told) → (S → Tale) → Seen S → Seen S → Type 0
LookedOnce told tale old new = MakesSteps told tale (take_begun old.state.machine) [] old new

-- it stored these page words for this packet, into the part of a page that goes along with it, one step a word; where there are no words it did nothing
pub record LaidOnce {S : Type 0} (told : S → Option Told) (tale : S → Tale) (p words : List ℕ) (old new : Seen S) : Type 0 where
  pub none : words ≡ [] → new ≡ old
  pub away : part_in old.state.pages.owners p ≡ None → new ≡ old
  pub ran : words ≢ [] → (a : Loan) → part_in old.state.pages.owners p ≡ Some a → RanStores old.state new.state a.page words (told old.seat) (told new.seat) (tale old.seat) (tale new.seat)

-- it tried once to send this packet
abbrev pub TriedOnce : {S : Type 0} → (S → Option Told) → (S → Tale) → List ℕ → Seen S → Seen S → Type 0
TriedOnce told tale p old new = MakesSteps told tale (send_begun old.state.machine (length p)) p old new

-- it stored these page words for this packet, and tried once to send it
pub record TriedWith {S : Type 0} (told : S → Option Told) (tale : S → Tale) (p words : List ℕ) (old new : Seen S) : Type 0 where
  pub laid : Seen S
  pub lays : LaidOnce told tale p words old laid
  pub tried : TriedOnce told tale p laid new

-- it marked itself
abbrev pub MarkedOnce : {S : Type 0} → (S → Option Told) → (S → Tale) → Seen S → Seen S → Type 0
MarkedOnce told tale old new = MakesSteps told tale (mark_begun old.state.machine) [] old new

-- it armed once, for this room in bytes
abbrev pub ArmedOnce : {S : Type 0} → (S → Option Told) → (S → Tale) → Option ℕ → Seen S → Seen S → Type 0
ArmedOnce told tale want old new = MakesSteps told tale (arm_begun old.state.machine (want_of want)) [] old new

-- it looked once for a packet, and none waited
pub record FoundNone {S : Type 0} (told : S → Option Told) (tale : S → Tale) (old new : Seen S) : Type 0 where
  pub looked : LookedOnce told tale old new
  pub none : new.state.machine.ended ≡ Empty

-- it tried once to send this packet with some page words, none in a channel without data pages, for which the ring had too little room
pub record FoundFull {S : Type 0} (told : S → Option Told) (tale : S → Tale) (p : List ℕ) (old new : Seen S) : Type 0 where
  pub words : List ℕ
  pub bare : old.state.pages.count ≡ 0 → words ≡ []
  pub tried : TriedWith told tale p words old new
  pub full : new.state.machine.ended ≡ Full

-- its look for a packet found none, its try to send this packet found too little room, and then it marked itself: these three calls and no others
pub record TriedLast {S : Type 0} (told : S → Option Told) (tale : S → Tale) (p : List ℕ) (old new : Seen S) : Type 0 where
  pub looked : Seen S
  pub tried : Seen S
  pub none : FoundNone told tale old looked
  pub full : FoundFull told tale p looked tried
  pub marked : MarkedOnce told tale tried new

-- it armed once, for this room, and its looks found nothing: no packet, no more room than that, and no mark
pub record FoundNothing {S : Type 0} (told : S → Option Told) (tale : S → Tale) (want : Option ℕ) (old new : Seen S) : Type 0 where
  pub armed : ArmedOnce told tale want old new
  pub asleep : new.state.machine.ended ≡ FellAsleep

-- its look for a packet found none, and then its arm found nothing: these two calls and no others
pub record LookedRested {S : Type 0} (told : S → Option Told) (tale : S → Tale) (want : Option ℕ) (old new : Seen S) : Type 0 where
  pub looked : Seen S
  pub none : FoundNone told tale old looked
  pub rested : FoundNothing told tale want looked new

-- its look for a packet found none, its try to send this packet found too little room, and then its arm found nothing: these three calls and no others
pub record LookedTriedRested {S : Type 0} (told : S → Option Told) (tale : S → Tale) (p : List ℕ) (want : Option ℕ) (old new : Seen S) : Type 0 where
  pub looked : Seen S
  pub tried : Seen S
  pub none : FoundNone told tale old looked
  pub full : FoundFull told tale p looked tried
  pub rested : FoundNothing told tale want tried new

-- the same, where it tried the packet before it looked
pub record TriedLookedRested {S : Type 0} (told : S → Option Told) (tale : S → Tale) (p : List ℕ) (want : Option ℕ) (old new : Seen S) : Type 0 where
  pub tried : Seen S
  pub looked : Seen S
  pub full : FoundFull told tale p old tried
  pub none : FoundNone told tale tried looked
  pub rested : FoundNothing told tale want looked new
