-- A step keeps a machine sound, brings its call nearer to its end, and is counted.
use Rattle.std.proofs.Common.{◌≡◌, ℕ, ◌+◌, ◌-◌, ◌*◌, ◌/◌, ◌%◌, ◌^◌, ◌<◌, ◌≤◌, Bool, true, false, ◌&&◌, cond, leb, ltb, eqb, refl, sym, ap, ◌∙◌, subst, arith}
use Rattle.std.proofs.lemmas.Bool.Decides.{nat_tests}
use Rattle.ring_machine.specs.declared.machine.Stage.{Stage}
use Rattle.ring_machine.specs.declared.machine.Stage.TheVariants.{Idle, Stopped, SendRead, SendCell, SendWrite, SendMask, SendLook, SendRaise, TakeWrite, TakeFirst, TakeCell, CommitRead, CommitFeature, CommitPending, CommitWrite, CommitRaise, ArmPending, ArmMask, ArmWrite, ArmRead, ArmMark, ArmUndoMask, ArmUndoPending, PollSignal, PollMask, PollPending, MarkStore, MarkRaise, PeerMark}
use Rattle.ring_machine.specs.declared.machine.Ending.{Ending}
use Rattle.ring_machine.specs.declared.machine.Ending.TheVariants.{SentQuiet, SentRaised, BadPeer, BadIndex, BadLength, BadOffset, CommittedQuiet, CommittedRaised, PeerMarkDown}
use Rattle.ring_machine.specs.declared.machine.EndMachine.{EndMachine}
use Rattle.ring_machine.specs.Places.{ahead, used, free, low, is_index, cell_of, len8_of, offset8_of}
use Rattle.ring_machine.specs.Steps.{IsSound, fed, fed_at, ends, breaks, left_at, steps_left, made_at, is_busy_at, is_arming_at, is_looking_at, is_broken, sleeps_at, makes_room, finds_room, send_begun, take_begun, commit_begun, arm_begun, poll_begun, mark_begun, peer_mark_begun}

pub at_cond : {A : Type 0} (P : A → Type 0) (b : Bool) (x y : A) → (b ≡ true → P x) → (b ≡ false → P y) → P (cond b x y)
at_cond P true x y t f = t refl
at_cond P false x y t f = f refl

pub at_both : {A B : Type 0} (P : A → B → Type 0) (b : Bool) (x y : A) (u w : B) → (b ≡ true → P x u) → (b ≡ false → P y w) → P (cond b x y) (cond b u w)
at_both P true x y u w t f = t refl
at_both P false x y u w t f = f refl

pub and_left : (a b : Bool) → (a && b) ≡ true → a ≡ true
and_left true b h = refl
and_left false b h = absurd (cc)

pub and_right : (a b : Bool) → (a && b) ≡ true → b ≡ true
and_right true b h = h
and_right false b h = absurd (cc)

pub ahead_below : (d i k : ℕ) → i < d → k < d → ahead d i k < d
ahead_below d i k a b = grind (arith, nat_tests)

pub used_below : (d r w : ℕ) → r < d → w < d → used d r w < d
used_below d r w a b = grind (arith, nat_tests)

free_most : (d r w : ℕ) → r < d → w < d → free d r w ≤ d
free_most d r w a b = grind (arith, nat_tests)

-- a loaded index that is in form names a cell
pub cell_below : (n v : ℕ) → is_index n v ≡ true → cell_of v < n
cell_below n v h = let in_ring : ltb (low v / 8) n ≡ true = and_right _ _ h in grind (arith, nat_tests)

low_small : (v : ℕ) → low v < 2 ^ 32
low_small v = omega arith

form_small : (v : ℕ) → v / 65536 % 4294967296 < 2 ^ 32
form_small v = omega arith

-- the numbers of a sound machine, in the order of its fields
pub record Sized (n w r t e o l k v q f u : ℕ) : Type 0 where
  pub cells : (512 ≤ n) × (n ≤ 16777216)
  pub write : w < n
  pub read : r < n
  pub start : t < n
  pub seen : e < n
  pub old : o < n
  pub len : l + 1 < n
  pub done : k ≤ l
  pub value : v < 2 ^ 32
  pub want : q < 8 * n
  pub room : f ≤ n
  pub words : u < n

-- what its stage and its ending say of its flags: asleep, marked and masked
pub record Staged (st : Stage) (how : Ending) (a b c : Bool) (t r q l k : ℕ) : Type 0 where
  pub arming : is_arming_at st ≡ true → t ≡ r
  pub looking : is_looking_at st ≡ true → c ≡ false
  pub asleep : a ≡ true → (c ≡ false) × (t ≡ r) × (sleeps_at st ≡ true) × (b ≡ false)
  pub unmarked : is_busy_at st ≡ true → b ≡ false
  pub first : st ≡ TakeFirst → k ≡ 0
  pub copying : st ≡ TakeCell → (0 < k) × (k < l)
  pub wanting : (st ≡ ArmPending → 0 < q) × (st ≡ ArmRead → 0 < q)
  pub broken : is_broken how ≡ true → st ≡ Stopped
  pub stopped : st ≡ Stopped → is_broken how ≡ true

pub sound_of : (m : EndMachine) → Sized m.cells m.write m.read m.start m.seen m.old m.len m.done m.value m.want m.room m.words
    → Staged m.stage m.ended m.asleep m.marked m.masked m.start m.read m.want m.len m.done → IsSound m
sound_of m s h = record {
  cells = s.cells;
  write = s.write;
  read = s.read;
  start = s.start;
  seen = s.seen;
  old = s.old;
  len = s.len;
  done = s.done;
  value = s.value;
  want = s.want;
  room = s.room;
  words = s.words;
  arming = h.arming;
  looking = h.looking;
  asleep = h.asleep;
  unmarked = h.unmarked;
  first = h.first;
  copying = h.copying;
  wanting = h.wanting;
  broken = h.broken;
  stopped = h.stopped;
}

-- the stages of which a sound machine says nothing of its own
abbrev is_plain : Stage → Bool
is_plain Idle = false
is_plain Stopped = false
is_plain TakeFirst = false
is_plain TakeCell = false
is_plain ArmPending = false
is_plain ArmMask = false
is_plain ArmWrite = false
is_plain ArmRead = false
is_plain ArmMark = false
is_plain ArmUndoMask = false
is_plain ArmUndoPending = false
is_plain _ = true

pub no_true : {b : Bool} → b ≡ false → b ≡ true → ⊥
no_true n h = let y : false ≡ true = sym n ∙ h in cc

module _ (how : Ending) (a b c : Bool) (t r q l k : ℕ) (awake : a ≡ true → ⊥) where
  rested : is_broken how ≡ false → Staged Idle how a b c t r q l k
  rested n = record { arming = λ h. absurd (cc); looking = λ h. absurd (cc); asleep = λ h. absurd (awake h); unmarked = λ h. absurd (cc); first = λ h. absurd (cc); copying = λ h. absurd (cc); wanting = (λ h. absurd (cc), λ h. absurd (cc)); broken = λ h. absurd (no_true n h); stopped = λ h. absurd (cc) }

  halted : is_broken how ≡ true → Staged Stopped how a b c t r q l k
  halted y = record { arming = λ h. absurd (cc); looking = λ h. absurd (cc); asleep = λ h. absurd (awake h); unmarked = λ h. absurd (cc); first = λ h. absurd (cc); copying = λ h. absurd (cc); wanting = (λ h. absurd (cc), λ h. absurd (cc)); broken = λ _. refl; stopped = λ _. y }

  plain : (st : Stage) → is_plain st ≡ true → b ≡ false → (is_broken how ≡ true → ⊥) → Staged st how a b c t r q l k
  plain Idle p u n = absurd (cc)
  plain Stopped p u n = absurd (cc)
  plain TakeFirst p u n = absurd (cc)
  plain TakeCell p u n = absurd (cc)
  plain ArmPending p u n = absurd (cc)
  plain ArmMask p u n = absurd (cc)
  plain ArmWrite p u n = absurd (cc)
  plain ArmRead p u n = absurd (cc)
  plain ArmMark p u n = absurd (cc)
  plain ArmUndoMask p u n = absurd (cc)
  plain ArmUndoPending p u n = absurd (cc)
  plain _ p u n = record { arming = λ h. absurd (cc); looking = λ h. absurd (cc); asleep = λ h. absurd (awake h); unmarked = λ h. u; first = λ h. absurd (cc); copying = λ h. absurd (cc); wanting = (λ h. absurd (cc), λ h. absurd (cc)); broken = λ h. absurd (n h); stopped = λ h. absurd (cc) }

  armed : (st : Stage) → st ≡ st → (is_arming_at st ≡ true → t ≡ r) → (is_looking_at st ≡ true → c ≡ false) → (st ≡ ArmPending → 0 < q) × (st ≡ ArmRead → 0 < q) → b ≡ false → (is_broken how ≡ true → ⊥) → is_arming_at st ≡ true → Staged st how a b c t r q l k
  armed st e x y z u n i = record { arming = x; looking = y; asleep = λ h. absurd (awake h); unmarked = λ h. u; first = λ h. absurd (let w : is_arming_at TakeFirst ≡ true = subst (λ (s : Stage). is_arming_at s ≡ true) h i in cc); copying = λ h. absurd (let w : is_arming_at TakeCell ≡ true = subst (λ (s : Stage). is_arming_at s ≡ true) h i in cc); wanting = z; broken = λ h. absurd (n h); stopped = λ h. absurd (let w : is_arming_at Stopped ≡ true = subst (λ (s : Stage). is_arming_at s ≡ true) h i in cc) }

  at_first : k ≡ 0 → b ≡ false → (is_broken how ≡ true → ⊥) → Staged TakeFirst how a b c t r q l k
  at_first z u n = record { arming = λ h. absurd (cc); looking = λ h. absurd (cc); asleep = λ h. absurd (awake h); unmarked = λ _. u; first = λ _. z; copying = λ h. absurd (cc); wanting = (λ h. absurd (cc), λ h. absurd (cc)); broken = λ h. absurd (n h); stopped = λ h. absurd (cc) }

  at_cell : (st : Stage) → st ≡ TakeCell → (0 < k) × (k < l) → b ≡ false → (is_broken how ≡ true → ⊥) → Staged st how a b c t r q l k
  at_cell st e z u n = record { arming = λ h. absurd (no_true (ap is_arming_at e) h); looking = λ h. absurd (no_true (ap is_looking_at e) h); asleep = λ h. absurd (awake h); unmarked = λ _. u; first = λ h. absurd (cc); copying = λ _. z; wanting = (λ h. absurd (cc), λ h. absurd (cc)); broken = λ h. absurd (n h); stopped = λ h. absurd (cc) }

-- an end that may be asleep
dozing : (how : Ending) (a b c : Bool) (t r q l k : ℕ) → (a ≡ true → (c ≡ false) × (t ≡ r) × (b ≡ false)) → is_broken how ≡ false → Staged Idle how a b c t r q l k
dozing how a b c t r q l k z n = record { arming = λ h. absurd (cc); looking = λ h. absurd (cc); asleep = λ h. ((z h).0, (z h).1, refl, (z h).2); unmarked = λ h. absurd (cc); first = λ h. absurd (cc); copying = λ h. absurd (cc); wanting = (λ h. absurd (cc), λ h. absurd (cc)); broken = λ h. absurd (no_true n h); stopped = λ h. absurd (cc) }

polling : (how : Ending) (a b c : Bool) (t r q l k : ℕ) → (a ≡ true → (c ≡ false) × (t ≡ r) × (b ≡ false)) → b ≡ false → (is_broken how ≡ true → ⊥) → Staged PollSignal how a b c t r q l k
polling how a b c t r q l k z u n = record { arming = λ h. absurd (cc); looking = λ h. absurd (cc); asleep = λ h. ((z h).0, (z h).1, refl, (z h).2); unmarked = λ _. u; first = λ h. absurd (cc); copying = λ h. absurd (cc); wanting = (λ h. absurd (cc), λ h. absurd (cc)); broken = λ h. absurd (n h); stopped = λ h. absurd (cc) }

module _ (m : EndMachine) (v : ℕ) (s : IsSound m) where
  awake_at : (st : Stage) → m.stage ≡ st → sleeps_at st ≡ false → m.asleep ≡ true → ⊥
  awake_at st e n h = no_true n (subst (λ (x : Stage). sleeps_at x ≡ true) e (s.asleep h).2)

  whole_at : (st : Stage) → m.stage ≡ st → is_busy_at st ≡ true → is_broken m.ended ≡ true → ⊥
  whole_at st e b h = no_true (ap is_busy_at (s.broken h)) (ap is_busy_at e ∙ b)

  unmarked_at : (st : Stage) → m.stage ≡ st → is_busy_at st ≡ true → m.marked ≡ false
  unmarked_at st e b = s.unmarked (ap is_busy_at e ∙ b)

  sized : {w r t e o l k u q : ℕ} → w < m.cells → r < m.cells → t < m.cells → e < m.cells → o < m.cells → l + 1 < m.cells → k ≤ l → u < 2 ^ 32 → q < 8 * m.cells → Sized m.cells w r t e o l k u q m.room m.words
  sized a b c d e f g h i = record { cells = s.cells; write = a; read = b; start = c; seen = d; old = e; len = f; done = g; value = h; want = i; room = s.room; words = s.words }

  none_done : 0 ≤ m.len
  none_done = omega arith

  -- the numbers of a call that tells more: there was too little room, or it took a packet
  sized_full : cell_of v < m.cells → Sized m.cells m.write m.read m.start (cell_of v) m.old m.len 0 m.value m.want (free m.cells (cell_of v) m.write) m.len
  sized_full c = record { cells = s.cells; write = s.write; read = s.read; start = s.start; seen = c; old = s.old; len = s.len; done = none_done; value = s.value; want = s.want; room = free_most m.cells (cell_of v) m.write c s.write; words = omega (arith, s.len) }

  sized_took : Sized m.cells m.write (ahead m.cells m.read (m.len + 1)) m.start m.seen m.old m.len 0 m.value m.want m.room m.len
  sized_took = record { cells = s.cells; write = s.write; read = ahead_below m.cells m.read (m.len + 1) s.read s.len; start = s.start; seen = s.seen; old = s.old; len = s.len; done = none_done; value = s.value; want = s.want; room = s.room; words = omega (arith, s.len) }

  -- the next step belongs to a plain stage
  on : (from : Stage) → m.stage ≡ from → sleeps_at from ≡ false → is_busy_at from ≡ true → (st : Stage) → is_plain st ≡ true → IsSound (record m { stage = st })
  on from e n b st p = sound_of _ (sized s.write s.read s.start s.seen s.old s.len s.done s.value s.want) (plain _ _ _ _ _ _ _ _ _ (awake_at from e n) st p (unmarked_at from e b) (whole_at from e b))

  off : (from : Stage) → m.stage ≡ from → sleeps_at from ≡ false → (how : Ending) → is_broken how ≡ false → IsSound (ends m how)
  off from e n how p = sound_of _ (sized s.write s.read s.start s.seen s.old s.len none_done s.value s.want) (rested _ _ _ _ _ _ _ _ _ (awake_at from e n) p)

  halt : (from : Stage) → m.stage ≡ from → sleeps_at from ≡ false → (how : Ending) → is_broken how ≡ true → (u : ℕ) → u < 2 ^ 32 → IsSound (breaks m how u)
  halt from e n how p u small = sound_of _ (sized s.write s.read s.start s.seen s.old s.len none_done small s.want) (halted _ _ _ _ _ _ _ _ _ (awake_at from e n) p)

  -- the next step of an arm
  arms : (from : Stage) → m.stage ≡ from → sleeps_at from ≡ false → is_busy_at from ≡ true → is_arming_at from ≡ true → is_looking_at from ≡ true → (st : Stage) → is_arming_at st ≡ true → (st ≡ ArmPending → 0 < m.want) × (st ≡ ArmRead → 0 < m.want) → IsSound (record m { stage = st })
  arms from e n b i l st j z = sound_of _ (sized s.write s.read s.start s.seen s.old s.len s.done s.value s.want) (armed _ _ _ _ _ _ _ _ _ (awake_at from e n) st refl (λ _. s.arming (ap is_arming_at e ∙ i)) (λ _. s.looking (ap is_looking_at e ∙ l)) z (unmarked_at from e b) (whole_at from e b) j)

  sound_at : (st : Stage) → m.stage ≡ st → IsSound (fed_at st m v)
  sound_at Idle e = s
  sound_at Stopped e = s
  sound_at SendRead e = at_cond IsSound (is_index m.cells v) _ _ (λ t. at_cond IsSound (leb (free m.cells (cell_of v) m.write) (m.len + 1)) _ _ (λ u. sound_of _ (sized_full (cell_below m.cells v t)) (rested _ _ _ _ _ _ _ _ _ (awake_at SendRead e refl) refl)) (λ u. sound_of _ (sized s.write s.read s.start (cell_below m.cells v t) s.old s.len none_done s.value s.want) (plain _ _ _ _ _ _ _ _ _ (awake_at SendRead e refl) SendCell refl (unmarked_at SendRead e refl) (whole_at SendRead e refl)))) (λ t. halt SendRead e refl BadPeer refl (low v) (low_small v))
  sound_at SendCell e = at_cond IsSound (ltb m.done m.len) _ _ (λ t. (let more : m.done + 1 ≤ m.len = grind (arith, nat_tests) in sound_of _ (sized s.write s.read s.start s.seen s.old s.len more s.value s.want) (plain _ _ _ _ _ _ _ _ _ (awake_at SendCell e refl) m.stage (ap is_plain e) (unmarked_at SendCell e refl) (whole_at SendCell e refl)))) (λ t. on SendCell e refl refl SendWrite refl)
  sound_at SendWrite e = sound_of _ (sized (ahead_below m.cells m.write (m.len + 1) s.write s.len) s.read s.start s.seen s.write s.len s.done s.value s.want) (plain _ _ _ _ _ _ _ _ _ (awake_at SendWrite e refl) SendMask refl (unmarked_at SendWrite e refl) (whole_at SendWrite e refl))
  sound_at SendMask e = at_cond IsSound (eqb (low v) 0) _ _ (λ t. on SendMask e refl refl SendLook refl) (λ t. off SendMask e refl SentQuiet refl)
  sound_at SendLook e = at_cond IsSound (eqb (low v) (8 * m.old)) _ _ (λ t. on SendLook e refl refl SendRaise refl) (λ t. off SendLook e refl SentQuiet refl)
  sound_at SendRaise e = off SendRaise e refl SentRaised refl
  sound_at TakeWrite e = at_cond IsSound (is_index m.cells v) _ _ (λ t. at_cond IsSound (eqb (cell_of v) m.read) _ _ (λ u. sound_of _ (sized s.write s.read s.start s.seen s.old s.len none_done s.value s.want) (rested _ _ _ _ _ _ _ _ _ (awake_at TakeWrite e refl) refl)) (λ u. sound_of _ (sized s.write s.read s.start (cell_below m.cells v t) s.old s.len none_done s.value s.want) (at_first _ _ _ _ _ _ _ _ _ (awake_at TakeWrite e refl) refl (unmarked_at TakeWrite e refl) (whole_at TakeWrite e refl)))) (λ t. halt TakeWrite e refl BadIndex refl (low v) (low_small v))
  sound_at TakeFirst e = at_cond IsSound (leb 2 (len8_of v) && ltb (len8_of v) (used m.cells m.read m.seen)) _ _ (λ t. at_cond IsSound (leb 2 (offset8_of v) && leb (offset8_of v) (len8_of v)) _ _ (λ u. (let few = used_below m.cells m.read m.seen s.read s.seen in let long : 2 ≤ len8_of v = (let x = and_left (leb 2 (len8_of v)) _ t in grind (arith, nat_tests)) in let short : len8_of v < used m.cells m.read m.seen = (let x = and_right (leb 2 (len8_of v)) _ t in grind (arith, nat_tests)) in sound_of _ (sized s.write s.read s.start s.seen s.old (omega arith) (omega arith) s.value s.want) (at_cell _ _ _ _ _ _ _ _ _ (awake_at TakeFirst e refl) TakeCell refl (omega arith, omega arith) (unmarked_at TakeFirst e refl) (whole_at TakeFirst e refl)))) (λ u. halt TakeFirst e refl BadOffset refl (v / 65536 % 4294967296) (form_small v))) (λ t. halt TakeFirst e refl BadLength refl (v / 65536 % 4294967296) (form_small v))
  sound_at TakeCell e = at_cond IsSound (ltb (m.done + 1) m.len) _ _ (λ t. (let more : m.done + 1 < m.len = grind (arith, nat_tests) in sound_of _ (sized s.write s.read s.start s.seen s.old s.len (omega arith) s.value s.want) (at_cell _ _ _ _ _ _ _ _ _ (awake_at TakeCell e refl) m.stage e (omega arith, more) (unmarked_at TakeCell e refl) (whole_at TakeCell e refl)))) (λ t. sound_of _ sized_took (rested _ _ _ _ _ _ _ _ _ (awake_at TakeCell e refl) refl))
  sound_at CommitRead e = sound_of _ (sized s.write s.read s.read s.seen s.start s.len s.done s.value s.want) (plain _ _ _ _ _ _ _ _ _ (awake_at CommitRead e refl) CommitFeature refl (unmarked_at CommitRead e refl) (whole_at CommitRead e refl))
  sound_at CommitFeature e = at_cond IsSound (eqb (low v % 2) 1) _ _ (λ t. on CommitFeature e refl refl CommitPending refl) (λ t. off CommitFeature e refl CommittedQuiet refl)
  sound_at CommitPending e = at_cond IsSound (eqb (low v) 0) _ _ (λ t. off CommitPending e refl CommittedQuiet refl) (λ t. sound_of _ (sized s.write s.read s.start s.seen s.old s.len s.done (low_small v) s.want) (plain _ _ _ _ _ _ _ _ _ (awake_at CommitPending e refl) CommitWrite refl (unmarked_at CommitPending e refl) (whole_at CommitPending e refl)))
  sound_at CommitWrite e = at_cond IsSound (makes_room m v) _ _ (λ t. on CommitWrite e refl refl CommitRaise refl) (λ t. off CommitWrite e refl CommittedQuiet refl)
  sound_at CommitRaise e = off CommitRaise e refl CommittedRaised refl
  sound_at ArmPending e = sound_of _ (sized s.write s.read s.start s.seen s.old s.len s.done s.value s.want) (armed _ _ _ _ _ _ _ _ _ (awake_at ArmPending e refl) ArmMask refl (λ _. s.arming (ap is_arming_at e)) (λ h. absurd (cc)) (λ h. absurd (cc), λ h. absurd (cc)) (unmarked_at ArmPending e refl) (whole_at ArmPending e refl) refl)
  sound_at ArmMask e = sound_of _ (sized s.write s.read s.start s.seen s.old s.len s.done s.value s.want) (armed _ _ _ _ _ _ _ _ _ (awake_at ArmMask e refl) ArmWrite refl (λ _. s.arming (ap is_arming_at e)) (λ _. refl) (λ h. absurd (cc), λ h. absurd (cc)) (unmarked_at ArmMask e refl) (whole_at ArmMask e refl) refl)
  sound_at ArmWrite e = at_cond IsSound (eqb (low v) (8 * m.read)) _ _ (λ t. at_cond IsSound (eqb m.want 0) _ _ (λ u. arms ArmWrite e refl refl refl refl ArmMark refl (λ h. absurd (cc), λ h. absurd (cc))) (λ u. (let wants : 0 < m.want = grind (arith, nat_tests) in arms ArmWrite e refl refl refl refl ArmRead refl (λ h. absurd (cc), λ _. wants)))) (λ t. arms ArmWrite e refl refl refl refl ArmUndoMask refl (λ h. absurd (cc), λ h. absurd (cc)))
  sound_at ArmRead e = at_cond IsSound (finds_room m v) _ _ (λ t. arms ArmRead e refl refl refl refl ArmUndoMask refl (λ h. absurd (cc), λ h. absurd (cc))) (λ t. arms ArmRead e refl refl refl refl ArmMark refl (λ h. absurd (cc), λ h. absurd (cc)))
  sound_at ArmMark e = at_cond IsSound (eqb v 0) _ _ (λ t. sound_of _ (sized s.write s.read s.start s.seen s.old s.len none_done s.value s.want) (dozing _ _ _ _ _ _ _ _ _ (λ _. (s.looking (ap is_looking_at e), s.arming (ap is_arming_at e), unmarked_at ArmMark e refl)) refl)) (λ t. sound_of _ (sized s.write s.read s.start s.seen s.old s.len s.done s.value s.want) (armed _ _ _ _ _ _ _ _ _ (awake_at ArmMark e refl) ArmUndoMask refl (λ _. s.arming (ap is_arming_at e)) (λ _. s.looking (ap is_looking_at e)) (λ h. absurd (cc), λ h. absurd (cc)) (unmarked_at ArmMark e refl) (whole_at ArmMark e refl) refl))
  sound_at ArmUndoMask e = at_cond IsSound (eqb m.want 0) _ _ (λ t. sound_of _ (sized s.write s.read s.start s.seen s.old s.len none_done s.value s.want) (rested _ _ _ _ _ _ _ _ _ (awake_at ArmUndoMask e refl) refl)) (λ t. sound_of _ (sized s.write s.read s.start s.seen s.old s.len s.done s.value s.want) (armed _ _ _ _ _ _ _ _ _ (awake_at ArmUndoMask e refl) ArmUndoPending refl (λ _. s.arming (ap is_arming_at e)) (λ h. absurd (cc)) (λ h. absurd (cc), λ h. absurd (cc)) (unmarked_at ArmUndoMask e refl) (whole_at ArmUndoMask e refl) refl))
  sound_at ArmUndoPending e = sound_of _ (sized s.write s.read s.start s.seen s.old s.len none_done s.value (omega (arith, s.cells))) (rested _ _ _ _ _ _ _ _ _ (awake_at ArmUndoPending e refl) refl)
  sound_at PollSignal e = at_cond IsSound (eqb v 0) _ _ (λ t. sound_of _ (sized s.write s.read s.start s.seen s.old s.len none_done s.value s.want) (dozing _ _ _ _ _ _ _ _ _ (λ h. ((s.asleep h).0, (s.asleep h).1, (s.asleep h).3)) refl)) (λ t. sound_of _ (sized s.write s.read s.start s.seen s.old s.len s.done s.value s.want) (plain _ _ _ _ _ _ _ _ _ (no_true refl) PollMask refl (unmarked_at PollSignal e refl) (whole_at PollSignal e refl)))
  sound_at PollMask e = at_cond IsSound (eqb m.want 0) _ _ (λ t. sound_of _ (sized s.write s.read s.start s.seen s.old s.len none_done s.value s.want) (rested _ _ _ _ _ _ _ _ _ (awake_at PollMask e refl) refl)) (λ t. sound_of _ (sized s.write s.read s.start s.seen s.old s.len s.done s.value s.want) (plain _ _ _ _ _ _ _ _ _ (awake_at PollMask e refl) PollPending refl (unmarked_at PollMask e refl) (whole_at PollMask e refl)))
  sound_at PollPending e = sound_of _ (sized s.write s.read s.start s.seen s.old s.len none_done s.value (omega (arith, s.cells))) (rested _ _ _ _ _ _ _ _ _ (awake_at PollPending e refl) refl)
  sound_at MarkStore e = on MarkStore e refl refl MarkRaise refl
  sound_at MarkRaise e = sound_of _ (sized s.write s.read s.start s.seen s.old s.len none_done s.value s.want) (rested _ _ _ _ _ _ _ _ _ (awake_at MarkRaise e refl) refl)
  sound_at PeerMark e = at_cond IsSound (eqb v 0) _ _ (λ t. off PeerMark e refl PeerMarkDown refl) (λ t. sound_of _ (sized s.write s.read s.start s.seen s.old s.len none_done s.value s.want) (rested _ _ _ _ _ _ _ _ _ (awake_at PeerMark e refl) refl))

  pub fed_sound : IsSound (fed m v)
  fed_sound = sound_at m.stage refl

  left_less : (st : Stage) → m.stage ≡ st → is_busy_at st ≡ true → steps_left (fed_at st m v) < left_at st m
  left_less Idle e b = absurd (cc)
  left_less Stopped e b = absurd (cc)
  left_less SendRead e b = at_cond (λ (k : EndMachine). steps_left k < left_at SendRead m) (is_index m.cells v) _ _ (λ t. at_cond (λ (k : EndMachine). steps_left k < left_at SendRead m) (leb (free m.cells (cell_of v) m.write) (m.len + 1)) _ _ (λ u. omega (arith, s.cells)) (λ u. omega (arith, s.cells))) (λ t. omega (arith, s.cells))
  left_less SendCell e b = at_cond (λ (k : EndMachine). steps_left k < left_at SendCell m) (ltb m.done m.len) _ _ (λ t. (let more : m.done < m.len = grind (arith, nat_tests) in subst (λ (x : Stage). left_at x (record m { done = m.done + 1 }) < m.len - m.done + 5) (sym e) (omega arith))) (λ t. omega (arith, s.cells))
  left_less SendMask e b = at_cond (λ (k : EndMachine). steps_left k < left_at SendMask m) (eqb (low v) 0) _ _ (λ t. omega (arith, s.cells)) (λ t. omega (arith, s.cells))
  left_less SendLook e b = at_cond (λ (k : EndMachine). steps_left k < left_at SendLook m) (eqb (low v) (8 * m.old)) _ _ (λ t. omega (arith, s.cells)) (λ t. omega (arith, s.cells))
  left_less TakeWrite e b = at_cond (λ (k : EndMachine). steps_left k < left_at TakeWrite m) (is_index m.cells v) _ _ (λ t. at_cond (λ (k : EndMachine). steps_left k < left_at TakeWrite m) (eqb (cell_of v) m.read) _ _ (λ u. omega (arith, s.cells)) (λ u. omega (arith, s.cells))) (λ t. omega (arith, s.cells))
  left_less TakeFirst e b = at_cond (λ (k : EndMachine). steps_left k < left_at TakeFirst m) (leb 2 (len8_of v) && ltb (len8_of v) (used m.cells m.read m.seen)) _ _ (λ t. at_cond (λ (k : EndMachine). steps_left k < left_at TakeFirst m) (leb 2 (offset8_of v) && leb (offset8_of v) (len8_of v)) _ _ (λ u. (let few = used_below m.cells m.read m.seen s.read s.seen in let short : len8_of v < used m.cells m.read m.seen = (let x = and_right (leb 2 (len8_of v)) _ t in grind (arith, nat_tests)) in omega arith)) (λ u. omega (arith, s.cells))) (λ t. omega (arith, s.cells))
  left_less TakeCell e b = at_cond (λ (k : EndMachine). steps_left k < left_at TakeCell m) (ltb (m.done + 1) m.len) _ _ (λ t. (let more : m.done + 1 < m.len = grind (arith, nat_tests) in subst (λ (x : Stage). left_at x (record m { done = m.done + 1 }) < m.len - m.done) (sym e) (omega arith))) (λ t. (let busy : m.done < m.len = (s.copying e).1 in omega arith))
  left_less CommitFeature e b = at_cond (λ (k : EndMachine). steps_left k < left_at CommitFeature m) (eqb (low v % 2) 1) _ _ (λ t. omega (arith, s.cells)) (λ t. omega (arith, s.cells))
  left_less CommitPending e b = at_cond (λ (k : EndMachine). steps_left k < left_at CommitPending m) (eqb (low v) 0) _ _ (λ t. omega (arith, s.cells)) (λ t. omega (arith, s.cells))
  left_less CommitWrite e b = at_cond (λ (k : EndMachine). steps_left k < left_at CommitWrite m) (makes_room m v) _ _ (λ t. omega (arith, s.cells)) (λ t. omega (arith, s.cells))
  left_less ArmWrite e b = at_cond (λ (k : EndMachine). steps_left k < left_at ArmWrite m) (eqb (low v) (8 * m.read)) _ _ (λ t. at_cond (λ (k : EndMachine). steps_left k < left_at ArmWrite m) (eqb m.want 0) _ _ (λ u. omega (arith, s.cells)) (λ u. omega (arith, s.cells))) (λ t. omega (arith, s.cells))
  left_less ArmRead e b = at_cond (λ (k : EndMachine). steps_left k < left_at ArmRead m) (finds_room m v) _ _ (λ t. omega (arith, s.cells)) (λ t. omega (arith, s.cells))
  left_less ArmMark e b = at_cond (λ (k : EndMachine). steps_left k < left_at ArmMark m) (eqb v 0) _ _ (λ t. omega (arith, s.cells)) (λ t. omega (arith, s.cells))
  left_less ArmUndoMask e b = at_cond (λ (k : EndMachine). steps_left k < left_at ArmUndoMask m) (eqb m.want 0) _ _ (λ t. omega (arith, s.cells)) (λ t. omega (arith, s.cells))
  left_less PollSignal e b = at_cond (λ (k : EndMachine). steps_left k < left_at PollSignal m) (eqb v 0) _ _ (λ t. omega (arith, s.cells)) (λ t. omega (arith, s.cells))
  left_less PollMask e b = at_cond (λ (k : EndMachine). steps_left k < left_at PollMask m) (eqb m.want 0) _ _ (λ t. omega (arith, s.cells)) (λ t. omega (arith, s.cells))
  left_less PeerMark e b = at_cond (λ (k : EndMachine). steps_left k < left_at PeerMark m) (eqb v 0) _ _ (λ t. omega (arith, s.cells)) (λ t. omega (arith, s.cells))
  left_less _ e b = omega (arith, s.cells)

  pub fed_nearer : is_busy_at m.stage ≡ true → steps_left (fed m v) < steps_left m
  fed_nearer b = left_less m.stage refl b

  made_more : (st : Stage) → m.stage ≡ st → is_busy_at st ≡ true → made_at st m + 1 ≤ made_at (fed_at st m v).stage (fed_at st m v)
  made_more Idle e b = absurd (cc)
  made_more Stopped e b = absurd (cc)
  made_more SendRead e b = at_cond (λ (k : EndMachine). made_at SendRead m + 1 ≤ made_at k.stage k) (is_index m.cells v) _ _ (λ t. at_cond (λ (k : EndMachine). made_at SendRead m + 1 ≤ made_at k.stage k) (leb (free m.cells (cell_of v) m.write) (m.len + 1)) _ _ (λ u. omega arith) (λ u. omega arith)) (λ t. omega arith)
  made_more SendCell e b = at_cond (λ (k : EndMachine). made_at SendCell m + 1 ≤ made_at k.stage k) (ltb m.done m.len) _ _ (λ t. subst (λ (x : Stage). m.done + 1 + 1 ≤ made_at x (record m { done = m.done + 1 })) (sym e) (omega arith)) (λ t. (let over : m.len ≤ m.done = grind (arith, nat_tests) in omega (arith, s.done)))
  made_more SendMask e b = at_cond (λ (k : EndMachine). made_at SendMask m + 1 ≤ made_at k.stage k) (eqb (low v) 0) _ _ (λ t. omega arith) (λ t. omega arith)
  made_more SendLook e b = at_cond (λ (k : EndMachine). made_at SendLook m + 1 ≤ made_at k.stage k) (eqb (low v) (8 * m.old)) _ _ (λ t. omega arith) (λ t. omega arith)
  made_more TakeWrite e b = at_cond (λ (k : EndMachine). made_at TakeWrite m + 1 ≤ made_at k.stage k) (is_index m.cells v) _ _ (λ t. at_cond (λ (k : EndMachine). made_at TakeWrite m + 1 ≤ made_at k.stage k) (eqb (cell_of v) m.read) _ _ (λ u. omega arith) (λ u. omega arith)) (λ t. omega arith)
  made_more TakeFirst e b = at_cond (λ (k : EndMachine). made_at TakeFirst m + 1 ≤ made_at k.stage k) (leb 2 (len8_of v) && ltb (len8_of v) (used m.cells m.read m.seen)) _ _ (λ t. at_cond (λ (k : EndMachine). made_at TakeFirst m + 1 ≤ made_at k.stage k) (leb 2 (offset8_of v) && leb (offset8_of v) (len8_of v)) _ _ (λ u. omega arith) (λ u. omega arith)) (λ t. omega arith)
  made_more TakeCell e b = at_cond (λ (k : EndMachine). made_at TakeCell m + 1 ≤ made_at k.stage k) (ltb (m.done + 1) m.len) _ _ (λ t. subst (λ (x : Stage). m.done + 1 + 1 ≤ made_at x (record m { done = m.done + 1 })) (sym e) (omega arith)) (λ t. (let busy : m.done < m.len = (s.copying e).1 in omega arith))
  made_more CommitFeature e b = at_cond (λ (k : EndMachine). made_at CommitFeature m + 1 ≤ made_at k.stage k) (eqb (low v % 2) 1) _ _ (λ t. omega arith) (λ t. omega arith)
  made_more CommitPending e b = at_cond (λ (k : EndMachine). made_at CommitPending m + 1 ≤ made_at k.stage k) (eqb (low v) 0) _ _ (λ t. omega arith) (λ t. omega arith)
  made_more CommitWrite e b = at_cond (λ (k : EndMachine). made_at CommitWrite m + 1 ≤ made_at k.stage k) (makes_room m v) _ _ (λ t. omega arith) (λ t. omega arith)
  made_more ArmWrite e b = at_cond (λ (k : EndMachine). made_at ArmWrite m + 1 ≤ made_at k.stage k) (eqb (low v) (8 * m.read)) _ _ (λ t. at_cond (λ (k : EndMachine). made_at ArmWrite m + 1 ≤ made_at k.stage k) (eqb m.want 0) _ _ (λ u. omega arith) (λ u. omega arith)) (λ t. omega arith)
  made_more ArmRead e b = at_cond (λ (k : EndMachine). made_at ArmRead m + 1 ≤ made_at k.stage k) (finds_room m v) _ _ (λ t. omega arith) (λ t. omega arith)
  made_more ArmMark e b = at_cond (λ (k : EndMachine). made_at ArmMark m + 1 ≤ made_at k.stage k) (eqb v 0) _ _ (λ t. omega arith) (λ t. omega arith)
  made_more ArmUndoMask e b = at_cond (λ (k : EndMachine). made_at ArmUndoMask m + 1 ≤ made_at k.stage k) (eqb m.want 0) _ _ (λ t. omega arith) (λ t. omega arith)
  made_more PollSignal e b = at_cond (λ (k : EndMachine). made_at PollSignal m + 1 ≤ made_at k.stage k) (eqb v 0) _ _ (λ t. omega arith) (λ t. omega arith)
  made_more PollMask e b = at_cond (λ (k : EndMachine). made_at PollMask m + 1 ≤ made_at k.stage k) (eqb m.want 0) _ _ (λ t. omega arith) (λ t. omega arith)
  made_more PeerMark e b = at_cond (λ (k : EndMachine). made_at PeerMark m + 1 ≤ made_at k.stage k) (eqb v 0) _ _ (λ t. omega arith) (λ t. omega arith)
  made_more _ e b = omega arith

  pub fed_made : is_busy_at m.stage ≡ true → made_at m.stage m + 1 ≤ made_at (fed m v).stage (fed m v)
  fed_made b = made_more m.stage refl b

-- the calls that an end that is awake and unmarked begins
module _ (m : EndMachine) (s : IsSound m) (idle : m.stage ≡ Idle) (awake : m.asleep ≡ false) (unmarked : m.marked ≡ false) where
  unbroken : is_broken m.ended ≡ true → ⊥
  unbroken h = let z : Idle ≡ Stopped = sym idle ∙ s.broken h in cc

  begins : (st : Stage) → is_plain st ≡ true → (n : ℕ) → n + 1 < m.cells → IsSound (record m { stage = st; len = n; done = 0 })
  begins st p n h = sound_of _ (record { cells = s.cells; write = s.write; read = s.read; start = s.start; seen = s.seen; old = s.old; len = h; done = omega arith; value = s.value; want = s.want; room = s.room; words = s.words }) (plain _ _ _ _ _ _ _ _ _ (no_true awake) st p unmarked unbroken)

  pub send_sound : (n : ℕ) → n + 1 < m.cells → IsSound (send_begun m n)
  send_sound n h = begins SendRead refl n h

  pub take_sound : IsSound (take_begun m)
  take_sound = begins TakeWrite refl 0 (omega (arith, s.cells))

  pub commit_sound : IsSound (commit_begun m)
  commit_sound = begins CommitRead refl 0 (omega (arith, s.cells))

  pub mark_sound : IsSound (mark_begun m)
  mark_sound = begins MarkStore refl 0 (omega (arith, s.cells))

  pub peer_mark_sound : IsSound (peer_mark_begun m)
  peer_mark_sound = begins PeerMark refl 0 (omega (arith, s.cells))

  pub arm_sound : (want : ℕ) → want < 8 * m.cells → m.start ≡ m.read → IsSound (arm_begun m want)
  arm_sound want small same = at_cond (λ (st : Stage). IsSound (record m { stage = st; len = 0; done = 0; want = want; saw = false })) (eqb want 0) _ _
      (λ t. sound_of _ (record { cells = s.cells; write = s.write; read = s.read; start = s.start; seen = s.seen; old = s.old; len = omega (arith, s.cells); done = omega arith; value = s.value; want = small; room = s.room; words = s.words }) (armed _ _ _ _ _ _ _ _ _ (no_true awake) ArmMask refl (λ _. same) (λ h. absurd (cc)) (λ h. absurd (cc), λ h. absurd (cc)) unmarked unbroken refl))
      (λ t. let wants : 0 < want = grind (arith, nat_tests) in sound_of _ (record { cells = s.cells; write = s.write; read = s.read; start = s.start; seen = s.seen; old = s.old; len = omega (arith, s.cells); done = omega arith; value = s.value; want = small; room = s.room; words = s.words }) (armed _ _ _ _ _ _ _ _ _ (no_true awake) ArmPending refl (λ _. same) (λ h. absurd (cc)) (λ _. wants, λ h. absurd (cc)) unmarked unbroken refl))

-- the call of an end that is asleep
pub poll_sound : (m : EndMachine) → IsSound m → m.stage ≡ Idle → m.asleep ≡ true → IsSound (poll_begun m)
poll_sound m s idle asleep =
    let a = s.asleep asleep in
    sound_of _ (record { cells = s.cells; write = s.write; read = s.read; start = s.start; seen = s.seen; old = s.old; len = omega (arith, s.cells); done = omega arith; value = s.value; want = s.want; room = s.room; words = s.words })
    (polling _ _ _ _ _ _ _ _ _ (λ _. (a.0, a.1, a.3)) a.3 (λ h. let z : Idle ≡ Stopped = sym idle ∙ s.broken h in cc))
