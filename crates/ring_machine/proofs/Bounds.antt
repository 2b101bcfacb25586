-- Steps stay inside the channel; bytes and cells count alike.
use Rattle.std.proofs.Common.{◌≡◌, ℕ, ◌*◌, ◌%◌, ◌<◌, true, false, List, Option, Some, None, refl, sym, ap, subst, inl, inr, arith}
use Rattle.std.proofs.lemmas.Bool.Decides.{nat_tests}
use Rattle.ring_machine.specs.declared.machine.Stage.{Stage}
use Rattle.ring_machine.specs.declared.machine.Stage.TheVariants.{Idle, Stopped, SendRead, SendCell, SendWrite, SendMask, SendLook, SendRaise, TakeWrite, TakeFirst, TakeCell, CommitRead, CommitFeature, CommitPending, CommitWrite, CommitRaise, ArmPending, ArmMask, ArmWrite, ArmRead, ArmMark, ArmUndoMask, ArmUndoPending, PollSignal, PollMask, PollPending, MarkStore, MarkRaise, PeerMark}
use Rattle.ring_machine.specs.declared.machine.EndMachine.{EndMachine}
use Rattle.io_edge.specs.declared.side.Side.{Side}
use Rattle.page_kept.specs.declared.page_call.PageCall.{PageCall}
use Rattle.page_kept.specs.declared.page_call.PageCall.TheVariants.{Off, StoreWord, LoadWords}
use Rattle.ring_machine.specs.declared.page_core.PageCore.{PageCore}
use Rattle.ring_machine.specs.declared.place.Op.{Op}
use Rattle.ring_machine.specs.EndCalls.{EndCall, StorePage, LoadLent}
use Rattle.ring_machine.specs.Inside.{IsInside, ChangesOnly, call_in}
use Rattle.ring_machine.specs.PageCalls.{is_paging, page_op, or_else, next_in, is_call_of, PagesFit}
use Rattle.ring_machine.specs.Places.{free, used, ahead}
use Rattle.ring_machine.specs.Steps.{IsSound, next_at, next_of, is_busy_at, call_at}
use Rattle.ring_machine.proofs.Fitting.{inside_store, inside_load}
use Rattle.ring_machine.proofs.Sound.{ahead_below}

cell_inside : (n k : ℕ) → k < n → (8 * k % 8 ≡ 0) × (8 * k < 8 * n)
cell_inside n k h = (omega arith, omega (arith, h))

pub inside_at : (m : EndMachine) (c : ℕ) (p : List ℕ) → IsSound m → (st : Stage) → m.stage ≡ st → IsInside m.cells c (next_at st m p)
inside_at m c p s SendCell e = cell_inside m.cells _ (ahead_below m.cells m.write m.done s.write (omega (arith, s.done, s.len)))
inside_at m c p s TakeFirst e = cell_inside m.cells m.read s.read
inside_at m c p s TakeCell e = cell_inside m.cells _ (ahead_below m.cells m.read m.done s.read (omega (arith, s.done, s.len)))
inside_at m c p s _ e = tt

-- a step of the rings, or else one on a page word
or_inside : (n c : ℕ) (a b : Option Op) → IsInside n c a → IsInside n c b → IsInside n c (or_else a b)
or_inside n c None b x y = y
or_inside n c (Some op) b x y = x

page_inside : (n c : ℕ) (call : PageCall) → is_call_of c call ≡ true → IsInside n c (page_op call)
page_inside n c Off h = tt
page_inside n c (StoreWord q w v) h = inside_store c q w v h
page_inside n c (LoadWords q m j) h = let i = inside_load c q m j h in (i.0, omega (arith, i.1, i.2))

pub inside_in : (m : EndMachine) (k : PageCore) (p : List ℕ) → IsSound m → PagesFit k m.stage → IsInside m.cells k.count (next_in m k.call p)
inside_in m k p s f = or_inside m.cells k.count _ _ (inside_at m k.count p s m.stage refl) (page_inside m.cells k.count k.call f.call)

pub free_bytes_are : (n r w : ℕ) → r < n → w < n → 8 * free n r w ≡ free (8 * n) (8 * r) (8 * w)
free_bytes_are n r w a b = grind (arith, nat_tests)

pub used_bytes_are : (n r w : ℕ) → r < n → w < n → 8 * used n r w ≡ used (8 * n) (8 * r) (8 * w)
used_bytes_are n r w a b = grind (arith, nat_tests)

pub ahead_bytes_are : (n i k : ℕ) → i < n → k < n → 8 * ahead n i k ≡ ahead (8 * n) (8 * i) (8 * k)
ahead_bytes_are n i k a b = grind (arith, nat_tests)

-- the words that a step of each call may change
changes_at : (m : EndMachine) (p : List ℕ) (st : Stage) → ChangesOnly (call_at st) m.side (next_at st m p)
changes_at m p SendCell = (refl, refl)
changes_at m p SendWrite = (refl, refl)
changes_at m p SendRaise = (inl refl, refl)
changes_at m p CommitRead = (refl, refl)
changes_at m p CommitRaise = (inr (inl refl), refl)
changes_at m p ArmPending = (inl refl, refl)
changes_at m p ArmMask = (inl refl, refl)
changes_at m p ArmUndoMask = (inl refl, refl)
changes_at m p ArmUndoPending = (inl refl, refl)
changes_at m p PollSignal = (refl, refl)
changes_at m p PollMask = (inr refl, refl)
changes_at m p PollPending = (inr refl, refl)
changes_at m p MarkStore = (refl, refl)
changes_at m p MarkRaise = (inr (inr refl), refl)
changes_at m p _ = tt

or_changes : (call : EndCall) (x : Side) (a b : Option Op) → ChangesOnly call x a → ChangesOnly call x b → ChangesOnly call x (or_else a b)
or_changes call x None b f g = g
or_changes call x (Some op) b f g = f

-- an idle machine names no step
idle_none : (m : EndMachine) (p : List ℕ) → m.stage ≡ Idle → next_of m p ≡ None
idle_none m p e = ap (λ (st : Stage). next_at st m p) e

only_page : (call : EndCall) (m : EndMachine) (c : PageCall) (p : List ℕ) → m.stage ≡ Idle → ChangesOnly call m.side (page_op c) → ChangesOnly call m.side (next_in m c p)
only_page call m c p e h = subst (λ (a : Option Op). ChangesOnly call m.side (or_else a (page_op c))) (sym (idle_none m p e)) h

pub changes_in : (m : EndMachine) (c : PageCall) (p : List ℕ) → (is_paging c ≡ true → m.stage ≡ Idle) → ChangesOnly (call_in m.stage c) m.side (next_in m c p)
changes_in m Off p f = or_changes (call_at m.stage) m.side (next_of m p) None (changes_at m p m.stage) tt
changes_in m (StoreWord q w v) p f = only_page StorePage m (StoreWord q w v) p (f refl) refl
changes_in m (LoadWords q n j) p f = only_page LoadLent m (LoadWords q n j) p (f refl) tt

-- a machine with no call under way names no step
pub rests_none : (m : EndMachine) (p : List ℕ) (st : Stage) → is_busy_at st ≡ false → next_at st m p ≡ None
rests_none m p Idle n = refl
rests_none m p Stopped n = refl
rests_none m p _ n = absurd (cc)
