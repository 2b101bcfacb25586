-- Both ends over one memory: what a call of the end that has it leaves.
use Rattle.std.proofs.Common.{◌≡◌, ◌≢◌, ℕ, ◌+◌, ◌*◌, ◌<◌, ◌≤◌, Bool, true, false, cond, ltb, List, [], ◌∷◌, ◌++◌, length, Some, None, Result, Ok, Err, IfOk, MatchResult, refl, sym, ap, ◌∙◌, subst, arith, ⊎_elim}
use Rattle.io_edge.specs.declared.side.Side.{Side}
use Rattle.io_edge.specs.declared.side.Side.TheVariants.{Guest, Host}
use Rattle.ring_machine.specs.declared.machine.Stage.{Stage}
use Rattle.ring_machine.specs.declared.machine.Stage.TheVariants.{Idle, Stopped, SendWrite, TakeCell}
use Rattle.ring_machine.specs.declared.machine.Ending.{Ending}
use Rattle.ring_machine.specs.declared.machine.Ending.TheVariants.{SentQuiet, SentRaised, Full, Empty}
use Rattle.ring_machine.specs.declared.machine.EndMachine.{EndMachine}
use Rattle.ring_machine.specs.declared.last.SendRefusal.TheVariants.{Full as SendFull}
use Rattle.ring_machine.specs.declared.last.TakeRefusal.{TakeRefusal}
use Rattle.ring_machine.specs.declared.last.TakeRefusal.TheVariants.{Empty as TakeEmpty}
use Rattle.ring_machine.specs.declared.state.EndState.{EndState}
use Rattle.ring_machine.specs.declared.place.Op.{Op}
use Rattle.ring_machine.specs.Places.{peer_of, free}
use Rattle.ring_machine.specs.EndCalls.{Send, Take}
use Rattle.ring_machine.specs.Steps.{IsSound, is_copying_at, is_broken, is_sent, is_took, call_by}
use Rattle.page_kept.specs.declared.kept.Kept.{Kept as Pages}
use Rattle.page_kept.specs.declared.due.Due.TheVariants.{Clear}
use Rattle.page_kept.specs.declared.page_call.PageCall.TheVariants.{Off}
use Rattle.page_kept.specs.Kept.{no_pages}
use Rattle.ring_machine.specs.States.{IsPacket, MayLend, entered, afters, pages_after, sent_by, Begins, BeginsSend, BeginsTake, BeginsCommit, BeginsArm, BeginsPoll, BeginsMark, BeginsPeerMark}
use Rattle.ring_machine.specs.Endings.{send_answer, take_refusal}
use Rattle.ring_core.specs.Told.{Memory, Held}
use Rattle.ring_core.specs.Seen.{Seen}
use Rattle.ring_machine.specs.Endings.{refused}
use Rattle.ring_machine.proofs.Sound.{send_sound, take_sound, commit_sound, arm_sound, poll_sound, mark_sound, peer_mark_sound}
use Rattle.ring_pair_laws.specs.Ring.{Resting, AtRest}
use Rattle.ring_pair_laws.specs.Pair.{TwoEnds, MakesOwnSteps, Stays, end_of, with_end, handed_from, handed, swapped, memory_of, cells_of, called, IsPair}
use Rattle.ring_pair_laws.specs.Results.{waiting_for, room_for, need_of, SendMeets, TakeRefused}
use Rattle.ring_pair_laws.proofs.Keeping.{Both, Goes, both_of, channel_of, call_began, goes_on_by}
use Rattle.ring_pair_laws.proofs.Knowing.{call_keeps}
use Rattle.ring_pair_laws.proofs.Meets.{had_room, write_same, none_waiting, took_first, read_same}

-- a machine that has begun a call is sound
pub begins_sound : (e : EndState) (m : EndMachine) (q : List ℕ) → IsSound e.machine → Begins e m q → IsSound m
begins_sound e m q s b =
    ⊎_elim (λ (c : BeginsSend e m q). subst IsSound (sym c.0) (send_sound e.machine s c.3.idle c.3.awake c.3.unmarked (length q) c.2))
    (⊎_elim (λ (c : BeginsTake e m q). subst IsSound (sym c.0) (take_sound e.machine s c.2.idle c.2.awake c.2.unmarked))
    (⊎_elim (λ (c : BeginsCommit e m q). subst IsSound (sym c.0) (commit_sound e.machine s c.2.idle c.2.awake c.2.unmarked))
    (⊎_elim (λ (c : BeginsArm e m q). subst IsSound (sym c.1) (arm_sound e.machine s c.4.idle c.4.awake c.4.unmarked c.0 c.2 c.5))
    (⊎_elim (λ (c : BeginsPoll e m q). subst IsSound (sym c.0) (poll_sound e.machine s c.2 c.3))
    (⊎_elim (λ (c : BeginsMark e m q). subst IsSound (sym c.0) (mark_sound e.machine s c.2.idle c.2.awake c.2.unmarked))
    (λ (c : BeginsPeerMark e m q). subst IsSound (sym c.0) (peer_mark_sound e.machine s c.2.idle c.2.awake c.2.unmarked))))))) b.1

-- where the memory of a pair goes from one side to another: it is at that side, and the lists, the indices and the spare room of both ends stay
pub seat_at : (s : TwoEnds) (a x : Side) → (end_of (handed_from a x s) x).seat ≡ (end_of s a).seat
seat_at s Guest Guest = refl
seat_at s Host Guest = refl
seat_at s _ _ = refl

handed_at : (s : TwoEnds) (a x : Side) → s.at ≡ a → (handed_from a x s).at ≡ x
handed_at s Guest Guest is = is
handed_at s Host Host is = is
handed_at s _ _ is = refl

stays_by : (s : TwoEnds) (a x y : Side) → Stays (end_of s y) (end_of (handed_from a x s) y)
stays_by s Guest Host Guest = record { state = refl; spare_sent = refl; spare_got = refl }
stays_by s Host Guest Guest = record { state = refl; spare_sent = refl; spare_got = refl }
stays_by s _ _ _ = record { state = refl; spare_sent = refl; spare_got = refl }

pub handed_stays : (s : TwoEnds) (x y : Side) → Stays (end_of s y) (end_of (handed s x) y)
handed_stays s x y = stays_by s s.at x y

pub handed_memory : (s : TwoEnds) (x : Side) → memory_of (handed s x) ≡ memory_of s
handed_memory s x = ap (λ (y : Side). (end_of (handed s x) y).seat.memory) (handed_at s s.at x refl) ∙ ap (λ (k : Held). k.memory) (seat_at s s.at x)

pub exchanged : (s : TwoEnds) (a : Side) → handed_from a (peer_of a) s ≡ swapped s (peer_of a)
exchanged s Guest = refl
exchanged s Host = refl

-- the end that was lent, and the other one
record Lent (s : TwoEnds) (x : Side) (new : Seen Held) : Type 0 where
  pub mine : end_of (with_end s x new) x ≡ new
  pub other : end_of (with_end s x new) (peer_of x) ≡ end_of s (peer_of x)
  pub at : (with_end s x new).at ≡ s.at

lent_by : (s : TwoEnds) (x : Side) (new : Seen Held) → Lent s x new
lent_by s Guest new = record { mine = refl; other = refl; at = refl }
lent_by s Host new = record { mine = refl; other = refl; at = refl }

pub lent_is : (s : TwoEnds) (x : Side) (new : Seen Held) → end_of (called s x new) x ≡ new
lent_is s x new = (lent_by (handed s x) x new).mine

pub lent_memory : (s : TwoEnds) (x : Side) (new : Seen Held) → memory_of (called s x new) ≡ new.seat.memory
lent_memory s x new =
    ap (λ (y : Side). (end_of (called s x new) y).seat.memory) ((lent_by (handed s x) x new).at ∙ handed_at s s.at x refl) ∙ ap (λ (y : Seen Held). y.seat.memory) (lent_is s x new)

pub stays : (s : TwoEnds) (x : Side) (new : Seen Held) → Stays (end_of s (peer_of x)) (end_of (called s x new) (peer_of x))
stays s x new = subst (Stays (end_of s (peer_of x))) (sym (lent_by (handed s x) x new).other) (handed_stays s x (peer_of x))

-- a pair from the side of one of its ends
pub record From (s : TwoEnds) (x : Side) : Type 0 where
  pub both : Both (cells_of s) x (memory_of s).words (end_of s x).state (end_of s (peer_of x)).state
  pub rests : Resting (end_of s x).state
  pub peer_rests : Resting (end_of s (peer_of x)).state

pub from_side : (s : TwoEnds) (x : Side) → IsPair s → From s x
from_side s Guest ok = record { both = both_of _ Guest _ _ _ ok.rest.channel; rests = ok.rest.guest_rests; peer_rests = ok.rest.host_rests }
from_side s Host ok = record { both = both_of _ Host _ _ _ ok.rest.channel; rests = ok.rest.host_rests; peer_rests = ok.rest.guest_rests }

pair_at : (s : TwoEnds) (x : Side) (n : ℕ) → (memory_of s).due ≡ [] → Both n x (memory_of s).words (end_of s x).state (end_of s (peer_of x)).state → Resting (end_of s x).state → Resting (end_of s (peer_of x)).state → IsPair s
pair_at s Guest n alone b rests peer = record { alone = alone; rest = subst (λ (k : ℕ). AtRest k (memory_of s).words s.guest.state s.host.state) (sym b.fits.cells) (record { channel = channel_of n Guest _ _ _ b; guest_rests = rests; host_rests = peer }) }
pair_at s Host n alone b rests peer = record { alone = alone; rest = subst (λ (k : ℕ). AtRest k (memory_of s).words s.guest.state s.host.state) (sym b.peer_fits.cells) (record { channel = channel_of n Host _ _ _ b; guest_rests = peer; host_rests = rests }) }

pub pair_by : (s : TwoEnds) (x : Side) (n : ℕ) (m : Memory) (e p : EndState) → memory_of s ≡ m → (end_of s x).state ≡ e → (end_of s (peer_of x)).state ≡ p → m.due ≡ [] → Both n x m.words e p → Resting e → Resting p → IsPair s
pair_by s x n m e p memory is other = subst (λ (k : Memory × EndState × EndState). k.0.due ≡ [] → Both n x k.0.words k.1 k.2 → Resting k.1 → Resting k.2 → IsPair s) (λ j. (memory j, is j, other j)) (pair_at s x n)

-- the pair whose memory was handed on
pub handed_pair : (s : TwoEnds) (x : Side) → IsPair s → IsPair (handed s x)
handed_pair s x ok =
    let f = from_side s x ok in
    pair_by (handed s x) x _ _ _ _ (handed_memory s x) (handed_stays s x x).state (handed_stays s x (peer_of x)).state ok.alone f.both f.rests f.peer_rests

-- the pair whose end was lent
pub called_pair : (s : TwoEnds) (x : Side) (new : Seen Held) → IsPair s → new.seat.memory.due ≡ [] → Both (cells_of s) x new.seat.memory.words new.state (end_of s (peer_of x)).state → Resting new.state → IsPair (called s x new)
called_pair s x new ok alone b rests =
    pair_by (called s x new) x _ _ _ _ (lent_memory s x new) (ap (λ (y : Seen Held). y.state) (lent_is s x new)) (stays s x new).state alone b rests (from_side s x ok).peer_rests

-- the end that was lent made no step
pub same_on : (s : TwoEnds) (x : Side) (new : Seen Held) → IsPair s → new.state ≡ (end_of s x).state → new.seat ≡ (end_of (handed s x) x).seat → IsPair (called s x new)
same_on s x new ok state seat =
    let f = from_side s x ok in
    let m : new.seat.memory ≡ memory_of s = ap (λ (k : Held). k.memory) (seat ∙ seat_at s s.at x) in
    called_pair s x new ok (ap (λ (k : Memory). k.due) m ∙ ok.alone) (subst (λ (k : Memory × EndState). Both (cells_of s) x k.0.words k.1 (end_of s (peer_of x)).state) (λ j. (sym m j, sym state j)) f.both) (subst Resting (sym state) f.rests)

idle_copies : (st : Stage) → st ≡ Idle → is_copying_at st ≡ false
idle_copies st i = ap is_copying_at i

-- an end of a channel without data pages keeps none
none_after : (st : Stage) (m : EndMachine) (p xs : List ℕ) (v : ℕ) → pages_after st m no_pages p xs v ≡ no_pages
none_after SendWrite m p xs v = refl
none_after TakeCell m p xs v = by_last (ltb (m.done + 1) m.len)
  where
    by_last : (b : Bool) → cond b no_pages no_pages ≡ no_pages
    by_last true = refl
    by_last false = refl
none_after _ m p xs v = refl

bare_after : (s : EndState) → s.pages ≡ no_pages → (values : List ℕ) → (afters s values).pages ≡ no_pages
bare_after s bare [] = bare
bare_after s bare (v ∷ values) =
    let t : EndState = afters s values in
    ap (λ (k : Pages). pages_after t.machine.stage t.machine k t.packet t.copied v) (bare_after s bare values) ∙ none_after t.machine.stage t.machine t.packet t.copied v

-- the end at the side x, once it has the channel's memory
pub record Held_at (s : TwoEnds) (x : Side) : Type 0 where
  pub memory : (end_of (handed s x) x).seat.memory ≡ memory_of s
  pub both : Both (cells_of s) x (end_of (handed s x) x).seat.memory.words (end_of (handed s x) x).state (end_of s (peer_of x)).state
  pub rests : Resting (end_of (handed s x) x).state

pub held_at : (s : TwoEnds) (x : Side) → IsPair s → Held_at s x
held_at s x ok =
    let f = from_side s x ok in
    let memory : (end_of (handed s x) x).seat.memory ≡ memory_of s = ap (λ (k : Held). k.memory) (seat_at s s.at x) in
    let state = (handed_stays s x x).state in
    record { memory = memory; both = subst (λ (k : Memory × EndState). Both (cells_of s) x k.0.words k.1 (end_of s (peer_of x)).state) (λ j. (sym memory j, sym state j)) f.both; rests = subst Resting (sym state) f.rests }

-- a call of the end at the side x, with the channel's memory
pub record Called (s : TwoEnds) (x : Side) (q : List ℕ) (new : Seen Held) : Type 0 where
  pub pair : IsPair (called s x new)
  pub goes : Goes (cells_of s) x q new.seat.memory.words new.state (end_of s (peer_of x)).state
  pub idle : new.state.machine.stage ≡ Idle

pub call_on : (s : TwoEnds) (x : Side) → IsPair s → (m : EndMachine) (q : List ℕ) (new : Seen Held) → Begins (end_of (handed s x) x).state m q
    → MakesOwnSteps m q (end_of (handed s x) x) new
    → new.state.machine.stage ≡ cond (is_broken new.state.machine.ended) Stopped Idle → Called s x q new
call_on s x ok m q new begins ran stage =
    let p : EndState = (end_of s (peer_of x)).state in
    let old : Seen Held = end_of (handed s x) x in
    let h = held_at s x ok in
    let k = call_keeps (λ (e : EndState) (ws : List ℕ). Goes (cells_of s) x q ws e p) (λ (e : EndState) (ws : List ℕ) (op : Op). goes_on_by (cells_of s) x q p e ws op) (entered old.state m q) new.state old.seat.memory new.seat.memory ran
    (ap (λ (m : Memory). m.due) h.memory ∙ ok.alone) (call_began _ x _ old.state p h.both m q begins (begins_sound old.state m q h.both.fits.sound begins)) in
    let idle : new.state.machine.stage ≡ Idle = rests (is_broken new.state.machine.ended) refl k.holds.goes in
    record {
      pair = called_pair s x new ok k.alone k.holds.both (record { idle = idle; clear = k.holds.clear (idle_copies new.state.machine.stage idle); bare = ap (λ (y : EndState). y.pages) ran.state ∙ bare_after (entered old.state m q) h.rests.bare ran.values });
      goes = k.holds;
      idle = idle;
    }
  where
    rests : (t : Bool) → is_broken new.state.machine.ended ≡ t → new.state.machine.stage ≢ Stopped → new.state.machine.stage ≡ Idle
    rests true i n = absurd (n (stage ∙ ap (λ (y : Bool). cond y Stopped Idle) i))
    rests false i n = stage ∙ ap (λ (y : Bool). cond y Stopped Idle) i

-- a send of an honest end
pub send_meets : (n : ℕ) (x : Side) (ws ws' q : List ℕ) (e p t : EndState) → Both n x ws e p → Goes n x q ws' t p → t.machine.stage ≡ Idle → call_by t.machine.ended ≡ Send → is_broken t.machine.ended ≡ false
    → t.sent ≡ sent_by t.machine e.sent q → SendMeets (send_answer t.machine.ended t.machine) q e t p
send_meets n x ws ws' q e p t b g idle call whole sent = by_ending t.machine.ended refl call whole
  where
    appended : is_sent t.machine.ended ≡ true → t.sent ≡ e.sent ++ q ∷ []
    appended i = sent ∙ ap (λ (y : Bool). cond y (e.sent ++ q ∷ []) e.sent) i

    kept : is_sent t.machine.ended ≡ false → t.sent ≡ e.sent
    kept i = sent ∙ ap (λ (y : Bool). cond y (e.sent ++ q ∷ []) e.sent) i

    roomy : is_sent t.machine.ended ≡ true → need_of q < room_for e p
    roomy i =
        let r : length q + 1 < free n p.machine.start e.machine.write = had_room n _ _ e t p b.out g.both.out q (appended i) in
        let c : free e.machine.cells p.machine.start e.machine.write ≡ free n p.machine.start e.machine.write = ap (λ (k : ℕ). free k p.machine.start e.machine.write) b.fits.cells in
        omega (arith, r, c)

    full_is : t.machine.ended ≡ Full → (room_for e p ≤ need_of q) × (8 * t.machine.room ≡ room_for e p) × (t.machine.words ≡ length q) × (t.machine.write ≡ e.machine.write)
    full_is i =
        let f = g.rests.full idle i in
        let w : t.machine.write ≡ e.machine.write = write_same n _ _ e t p b.out g.both.out (kept (ap is_sent i)) in
        let c : t.machine.cells ≡ e.machine.cells = g.both.fits.cells ∙ sym b.fits.cells in
        let z : free t.machine.cells p.machine.start t.machine.write ≡ free e.machine.cells p.machine.start e.machine.write = λ j. free (c j) p.machine.start (w j) in
        (omega (arith, f.0, z), ap (λ (k : ℕ). 8 * k) (f.1 ∙ z), f.2, w)

    by_ending : (how : Ending) → t.machine.ended ≡ how → call_by how ≡ Send → is_broken how ≡ false → SendMeets (send_answer how t.machine) q e t p
    by_ending SentQuiet i c w = (roomy (ap is_sent i), appended (ap is_sent i))
    by_ending SentRaised i c w = (roomy (ap is_sent i), appended (ap is_sent i))
    by_ending Full i c w = let f = full_is i in ((λ j. SendFull (f.1 j) (8 * f.2 j + 8)), f.0, kept (ap is_sent i), f.3)
    by_ending _ i c w = absurd (cc)

-- a take of an honest end, by its answer: the packet that it gave was the first one that waited, or none waited
abbrev pub TakeMeets : Result (List ℕ) TakeRefusal → EndState → EndState → EndState → EndState → Type 0
TakeMeets result e p t p' = MatchResult result (λ w. IsPacket w × (length w ≡ t.machine.len) × (waiting_for e p ≡ w ∷ waiting_for t p') × (t.got ≡ e.got ++ w ∷ [])) (λ r. TakeRefused r e t p)

pub take_meets : (n : ℕ) (x : Side) (ws ws' : List ℕ) (e p t : EndState) → Both n x ws e p → Goes n x [] ws' t p → t.machine.stage ≡ Idle → call_by t.machine.ended ≡ Take → is_broken t.machine.ended ≡ false
    → (is_took t.machine.ended ≡ false → t.got ≡ e.got) → (result : Result (List ℕ) TakeRefusal) → refused result ≡ cond (is_took t.machine.ended) None (Some (take_refusal t.machine.ended t.machine))
    → IfOk result (λ w. IsPacket w × (length w ≡ t.machine.len) × (t.got ≡ e.got ++ w ∷ [])) → TakeMeets result e p t p
take_meets n x ws ws' e p t b g idle call whole kept (Ok w) answer l = (l.0, l.1, took_first e t p w g.both.inn.waiting l.2 g.both.inn.sent_is, l.2)
take_meets n x ws ws' e p t b g idle call whole kept (Err r) answer l = by_took (is_took t.machine.ended) refl
  where
    by_ending : (how : Ending) → t.machine.ended ≡ how → call_by how ≡ Take → is_broken how ≡ false → is_took how ≡ false → TakeRefused (take_refusal how t.machine) e t p
    by_ending Empty i c w k =
        let got = kept (ap is_took i) in
        let read_is : t.machine.read ≡ e.machine.read = read_same n _ _ e t p b.inn g.both.inn got in
        ((λ j. TakeEmpty (8 * read_is j)), none_waiting e p (sym got ∙ g.rests.empty idle i), got, read_is)
    by_ending _ i c w k = absurd (cc)

    by_took : (t' : Bool) → is_took t.machine.ended ≡ t' → TakeRefused r e t p
    by_took true i = let none : Some r ≡ None = answer ∙ ap (λ (y : Bool). cond y None (Some (take_refusal t.machine.ended t.machine))) i in absurd (cc)
    by_took false i =
        let some : Some r ≡ Some (take_refusal t.machine.ended t.machine) = answer ∙ ap (λ (y : Bool). cond y None (Some (take_refusal t.machine.ended t.machine))) i in
        let same : take_refusal t.machine.ended t.machine ≡ r = cc in
        subst (λ (y : TakeRefusal). TakeRefused y e t p) same (by_ending t.machine.ended refl call whole i)

-- an end of a channel without data pages is in no page call, has nothing to load, and lends nothing
pub off_by : (e : EndState) → Resting e → e.pages.call ≡ Off
off_by e r = ap (λ (k : Pages). k.call) r.bare

pub clear_by : (e : EndState) → Resting e → e.pages.due ≡ Clear
clear_by e r = ap (λ (k : Pages). k.due) r.bare

pub lends_none : (e : EndState) (q : List ℕ) → Resting e → MayLend e q
lends_none e q r some = absurd (some (ap (λ (k : Pages). k.count) r.bare))
