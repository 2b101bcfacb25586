-- How the last call ended stands while a later one is under way.
use Rattle.std.proofs.Common.{◌≡◌, ℕ, ◌+◌, ◌*◌, ◌%◌, Bool, true, false, ◌&&◌, leb, ltb, eqb, List, refl, ap, ◌∙◌, ⊎_elim}
use Rattle.ring_machine.specs.declared.machine.Stage.{Stage}
use Rattle.ring_machine.specs.declared.machine.Stage.TheVariants.{Idle, Stopped, SendRead, SendCell, SendWrite, SendMask, SendLook, SendRaise, TakeWrite, TakeFirst, TakeCell, CommitRead, CommitFeature, CommitPending, CommitWrite, CommitRaise, ArmPending, ArmMask, ArmWrite, ArmRead, ArmMark, ArmUndoMask, ArmUndoPending, PollSignal, PollMask, PollPending, MarkStore, MarkRaise, PeerMark}
use Rattle.ring_machine.specs.declared.machine.Ending.{Ending}
use Rattle.ring_machine.specs.declared.machine.Ending.TheVariants.{Full, BadPeer, Took, Empty, BadIndex, BadLength, BadOffset}
use Rattle.ring_machine.specs.declared.machine.EndMachine.{EndMachine}
use Rattle.ring_machine.specs.declared.last.Last.TheVariants.{Full as LastFull, Took as LastTook, Empty as LastEmpty}
use Rattle.ring_machine.specs.declared.state.EndState.{EndState}
use Rattle.ring_machine.specs.Places.{low, is_index, cell_of, used, free, len8_of, offset8_of}
use Rattle.ring_machine.specs.Steps.{IsSound, fed, fed_at, is_busy_at, is_broken, makes_room, finds_room}
use Rattle.ring_machine.specs.States.{Begins, BeginsSend, BeginsTake, BeginsCommit, BeginsArm, BeginsPoll, BeginsMark, BeginsPeerMark}
use Rattle.ring_machine.specs.Endings.{last_by, last_of}
use Rattle.ring_machine.proofs.Sound.{at_cond}

-- a call that begins changes nothing that the last ending is told by
begun_last : (how : Ending) (m : EndMachine) (st : Stage) (len want : ℕ) (saw : Bool) → last_by how (record m { stage = st; len = len; done = 0; want = want; saw = saw }) ≡ last_by how m
begun_last Full m st len want saw = refl
begun_last BadPeer m st len want saw = refl
begun_last Took m st len want saw = refl
begun_last Empty m st len want saw = refl
begun_last BadIndex m st len want saw = refl
begun_last BadLength m st len want saw = refl
begun_last BadOffset m st len want saw = refl
begun_last _ m st len want saw = refl

pub last_begins : (s : EndState) (m : EndMachine) (p : List ℕ) → Begins s m p → last_of m ≡ last_of s.machine
last_begins s m p b =
    ⊎_elim (λ (c : BeginsSend s m p). ap last_of c.0 ∙ begun _ _ s.machine.want s.machine.saw)
    (⊎_elim (λ (c : BeginsTake s m p). ap last_of c.0 ∙ begun _ _ s.machine.want s.machine.saw)
    (⊎_elim (λ (c : BeginsCommit s m p). ap last_of c.0 ∙ begun _ _ s.machine.want s.machine.saw)
    (⊎_elim (λ (c : BeginsArm s m p). ap last_of c.1 ∙ begun _ _ c.0 false)
    (⊎_elim (λ (c : BeginsPoll s m p). ap last_of c.0 ∙ begun _ _ s.machine.want s.machine.saw)
    (⊎_elim (λ (c : BeginsMark s m p). ap last_of c.0 ∙ begun _ _ s.machine.want s.machine.saw)
    (λ (c : BeginsPeerMark s m p). ap last_of c.0 ∙ begun _ _ s.machine.want s.machine.saw)))))) b.1
  where
    begun : (st : Stage) (len want : ℕ) (saw : Bool) → last_of (record s.machine { stage = st; len = len; done = 0; want = want; saw = saw }) ≡ last_of s.machine
    begun st len want saw = begun_last s.machine.ended s.machine st len want saw

-- what the last ending is told by, where it is no refusal
record Same (m k : EndMachine) : Type 0 where
  ended : k.ended ≡ m.ended
  room : k.room ≡ m.room
  words : k.words ≡ m.words
  read : k.read ≡ m.read

last_same : (how : Ending) (m k : EndMachine) → is_broken how ≡ false → Same m k → last_by how k ≡ last_by how m
last_same Full m k n s = λ j. LastFull (8 * s.room j) (8 * s.words j + 8)
last_same Took m k n s = ap LastTook s.words
last_same Empty m k n s = λ j. LastEmpty (8 * s.read j)
last_same BadPeer m k n s = absurd (cc)
last_same BadIndex m k n s = absurd (cc)
last_same BadLength m k n s = absurd (cc)
last_same BadOffset m k n s = absurd (cc)
last_same _ m k n s = refl

module _ (m : EndMachine) (v : ℕ) where
  abbrev Stays : EndMachine → Type 0
  Stays k = is_busy_at k.stage ≡ true → Same m k

  on : {k : EndMachine} → k.ended ≡ m.ended → k.room ≡ m.room → k.words ≡ m.words → k.read ≡ m.read → Stays k
  on e f w r = λ h. record { ended = e; room = f; words = w; read = r }

  stays_at : (st : Stage) → m.stage ≡ st → Stays (fed_at st m v)
  stays_at SendRead e = at_cond Stays (is_index m.cells v) _ _ (λ t. at_cond Stays (leb (free m.cells (cell_of v) m.write) (m.len + 1)) _ _ (λ u h. absurd (cc)) (λ u. on refl refl refl refl)) (λ t h. absurd (cc))
  stays_at SendCell e = at_cond Stays (ltb m.done m.len) _ _ (λ t. on refl refl refl refl) (λ t. on refl refl refl refl)
  stays_at SendMask e = at_cond Stays (eqb (low v) 0) _ _ (λ t. on refl refl refl refl) (λ t h. absurd (cc))
  stays_at SendLook e = at_cond Stays (eqb (low v) (8 * m.old)) _ _ (λ t. on refl refl refl refl) (λ t h. absurd (cc))
  stays_at SendRaise e = λ h. absurd (cc)
  stays_at TakeWrite e = at_cond Stays (is_index m.cells v) _ _ (λ t. at_cond Stays (eqb (cell_of v) m.read) _ _ (λ u h. absurd (cc)) (λ u. on refl refl refl refl)) (λ t h. absurd (cc))
  stays_at TakeFirst e = at_cond Stays (leb 2 (len8_of v) && ltb (len8_of v) (used m.cells m.read m.seen)) _ _ (λ t. at_cond Stays (leb 2 (offset8_of v) && leb (offset8_of v) (len8_of v)) _ _ (λ u. on refl refl refl refl) (λ u h. absurd (cc))) (λ t h. absurd (cc))
  stays_at TakeCell e = at_cond Stays (ltb (m.done + 1) m.len) _ _ (λ t. on refl refl refl refl) (λ t h. absurd (cc))
  stays_at CommitFeature e = at_cond Stays (eqb (low v % 2) 1) _ _ (λ t. on refl refl refl refl) (λ t h. absurd (cc))
  stays_at CommitPending e = at_cond Stays (eqb (low v) 0) _ _ (λ t h. absurd (cc)) (λ t. on refl refl refl refl)
  stays_at CommitWrite e = at_cond Stays (makes_room m v) _ _ (λ t. on refl refl refl refl) (λ t h. absurd (cc))
  stays_at CommitRaise e = λ h. absurd (cc)
  stays_at ArmWrite e = at_cond Stays (eqb (low v) (8 * m.read)) _ _ (λ t. at_cond Stays (eqb m.want 0) _ _ (λ u. on refl refl refl refl) (λ u. on refl refl refl refl)) (λ t. on refl refl refl refl)
  stays_at ArmRead e = at_cond Stays (finds_room m v) _ _ (λ t. on refl refl refl refl) (λ t. on refl refl refl refl)
  stays_at ArmMark e = at_cond Stays (eqb v 0) _ _ (λ t h. absurd (cc)) (λ t. on refl refl refl refl)
  stays_at ArmUndoMask e = at_cond Stays (eqb m.want 0) _ _ (λ t h. absurd (cc)) (λ t. on refl refl refl refl)
  stays_at ArmUndoPending e = λ h. absurd (cc)
  stays_at PollSignal e = at_cond Stays (eqb v 0) _ _ (λ t h. absurd (cc)) (λ t. on refl refl refl refl)
  stays_at PollMask e = at_cond Stays (eqb m.want 0) _ _ (λ t h. absurd (cc)) (λ t. on refl refl refl refl)
  stays_at PollPending e = λ h. absurd (cc)
  stays_at MarkRaise e = λ h. absurd (cc)
  stays_at PeerMark e = at_cond Stays (eqb v 0) _ _ (λ t h. absurd (cc)) (λ t h. absurd (cc))
  stays_at _ e = on refl refl refl refl

  -- a machine that refused makes no step
  whole : IsSound m → is_busy_at (fed m v).stage ≡ true → (b : Bool) → is_broken m.ended ≡ b → is_broken m.ended ≡ false
  whole s h true e = let i = s.broken e in let n : is_busy_at (fed m v).stage ≡ false = (λ j. is_busy_at (fed_at (i j) m v).stage) ∙ ap is_busy_at i in absurd (cc)
  whole s h false e = e

  pub last_feeds : IsSound m → is_busy_at (fed m v).stage ≡ true → last_of (fed m v) ≡ last_of m
  last_feeds s h =
      let it : Same m (fed m v) = stays_at m.stage refl h in
      ap (λ (how : Ending). last_by how (fed m v)) it.ended ∙ last_same m.ended m (fed m v) (whole s h _ refl) it
