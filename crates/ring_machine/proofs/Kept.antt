-- Which fields the steps of a send, a take and a commit leave as they were.
use Rattle.std.proofs.Common.{◌≡◌, ℕ, ◌+◌, ◌*◌, ◌%◌, true, refl, ap, sym, ◌∙◌, leb, ltb, eqb, ◌&&◌}
use Rattle.ring_machine.specs.declared.machine.Stage.{Stage}
use Rattle.ring_machine.specs.declared.machine.Stage.TheVariants.{Idle, Stopped, SendRead, SendCell, SendWrite, SendMask, SendLook, SendRaise, TakeWrite, TakeFirst, TakeCell, CommitRead, CommitFeature, CommitPending, CommitWrite, CommitRaise, ArmPending, ArmMask, ArmWrite, ArmRead, ArmMark, ArmUndoMask, ArmUndoPending, PollSignal, PollMask, PollPending, MarkStore, MarkRaise, PeerMark}
use Rattle.ring_machine.specs.declared.machine.EndMachine.{EndMachine}
use Rattle.ring_machine.specs.EndCalls.{EndCall, Send, Take, Commit}
use Rattle.ring_machine.specs.Places.{low, is_index, cell_of, used, free, len8_of, offset8_of}
use Rattle.ring_machine.specs.Steps.{call_at, fed_at, is_busy_at, makes_room}
use Rattle.ring_machine.specs.Loops.{Keeps, SendKeeps, TakeKeeps, CommitKeeps}
use Rattle.ring_machine.proofs.Sound.{at_cond}

-- a machine that differs in no other field than these
sends : (m k : EndMachine) → k ≡ record m { write = k.write; old = k.old; seen = k.seen; done = k.done; value = k.value; room = k.room; words = k.words; stage = k.stage; ended = k.ended } → SendKeeps m k
sends m k e = record { cells = sym (ap (λ (x : EndMachine). x.cells) e); read = sym (ap (λ (x : EndMachine). x.read) e); start = sym (ap (λ (x : EndMachine). x.start) e); len = sym (ap (λ (x : EndMachine). x.len) e); want = sym (ap (λ (x : EndMachine). x.want) e); side = sym (ap (λ (x : EndMachine). x.side) e); masked = sym (ap (λ (x : EndMachine). x.masked) e); asleep = sym (ap (λ (x : EndMachine). x.asleep) e); marked = sym (ap (λ (x : EndMachine). x.marked) e); peer_marked = sym (ap (λ (x : EndMachine). x.peer_marked) e); drained = sym (ap (λ (x : EndMachine). x.drained) e); saw = sym (ap (λ (x : EndMachine). x.saw) e) }

takes : (m k : EndMachine) → k ≡ record m { read = k.read; seen = k.seen; len = k.len; done = k.done; value = k.value; words = k.words; stage = k.stage; ended = k.ended; drained = k.drained } → TakeKeeps m k
takes m k e = record { cells = sym (ap (λ (x : EndMachine). x.cells) e); write = sym (ap (λ (x : EndMachine). x.write) e); start = sym (ap (λ (x : EndMachine). x.start) e); old = sym (ap (λ (x : EndMachine). x.old) e); want = sym (ap (λ (x : EndMachine). x.want) e); room = sym (ap (λ (x : EndMachine). x.room) e); side = sym (ap (λ (x : EndMachine). x.side) e); masked = sym (ap (λ (x : EndMachine). x.masked) e); asleep = sym (ap (λ (x : EndMachine). x.asleep) e); marked = sym (ap (λ (x : EndMachine). x.marked) e); peer_marked = sym (ap (λ (x : EndMachine). x.peer_marked) e); saw = sym (ap (λ (x : EndMachine). x.saw) e) }

commits : (m k : EndMachine) → k ≡ record m { start = k.start; old = k.old; done = k.done; value = k.value; stage = k.stage; ended = k.ended } → CommitKeeps m k
commits m k e = record { cells = sym (ap (λ (x : EndMachine). x.cells) e); write = sym (ap (λ (x : EndMachine). x.write) e); read = sym (ap (λ (x : EndMachine). x.read) e); seen = sym (ap (λ (x : EndMachine). x.seen) e); len = sym (ap (λ (x : EndMachine). x.len) e); want = sym (ap (λ (x : EndMachine). x.want) e); room = sym (ap (λ (x : EndMachine). x.room) e); words = sym (ap (λ (x : EndMachine). x.words) e); side = sym (ap (λ (x : EndMachine). x.side) e); masked = sym (ap (λ (x : EndMachine). x.masked) e); asleep = sym (ap (λ (x : EndMachine). x.asleep) e); marked = sym (ap (λ (x : EndMachine). x.marked) e); peer_marked = sym (ap (λ (x : EndMachine). x.peer_marked) e); drained = sym (ap (λ (x : EndMachine). x.drained) e); saw = sym (ap (λ (x : EndMachine). x.saw) e) }

pub keeps_none : (n : EndCall) (m : EndMachine) → Keeps n m m
keeps_none Send m = sends m m refl
keeps_none Take m = takes m m refl
keeps_none Commit m = commits m m refl
keeps_none _ m = tt

pub keeps_more : (n : EndCall) (b m k : EndMachine) → Keeps n b m → Keeps n m k → Keeps n b k
keeps_more Send b m k x y = record { cells = x.cells ∙ y.cells; read = x.read ∙ y.read; start = x.start ∙ y.start; len = x.len ∙ y.len; want = x.want ∙ y.want; side = x.side ∙ y.side; masked = x.masked ∙ y.masked; asleep = x.asleep ∙ y.asleep; marked = x.marked ∙ y.marked; peer_marked = x.peer_marked ∙ y.peer_marked; drained = x.drained ∙ y.drained; saw = x.saw ∙ y.saw }
keeps_more Take b m k x y = record { cells = x.cells ∙ y.cells; write = x.write ∙ y.write; start = x.start ∙ y.start; old = x.old ∙ y.old; want = x.want ∙ y.want; room = x.room ∙ y.room; side = x.side ∙ y.side; masked = x.masked ∙ y.masked; asleep = x.asleep ∙ y.asleep; marked = x.marked ∙ y.marked; peer_marked = x.peer_marked ∙ y.peer_marked; saw = x.saw ∙ y.saw }
keeps_more Commit b m k x y = record { cells = x.cells ∙ y.cells; write = x.write ∙ y.write; read = x.read ∙ y.read; seen = x.seen ∙ y.seen; len = x.len ∙ y.len; want = x.want ∙ y.want; room = x.room ∙ y.room; words = x.words ∙ y.words; side = x.side ∙ y.side; masked = x.masked ∙ y.masked; asleep = x.asleep ∙ y.asleep; marked = x.marked ∙ y.marked; peer_marked = x.peer_marked ∙ y.peer_marked; drained = x.drained ∙ y.drained; saw = x.saw ∙ y.saw }
keeps_more _ b m k x y = tt

pub keeps_step : (m : EndMachine) (v : ℕ) (st : Stage) → is_busy_at st ≡ true → Keeps (call_at st) m (fed_at st m v)
keeps_step m v SendRead e = at_cond (SendKeeps m) (is_index m.cells v) _ _ (λ t. at_cond (SendKeeps m) (leb (free m.cells (cell_of v) m.write) (m.len + 1)) _ _ (λ t. sends m _ refl) (λ t. sends m _ refl)) (λ t. sends m _ refl)
keeps_step m v SendCell e = at_cond (SendKeeps m) (ltb m.done m.len) _ _ (λ t. sends m _ refl) (λ t. sends m _ refl)
keeps_step m v SendWrite e = sends m _ refl
keeps_step m v SendMask e = at_cond (SendKeeps m) (eqb (low v) 0) _ _ (λ t. sends m _ refl) (λ t. sends m _ refl)
keeps_step m v SendLook e = at_cond (SendKeeps m) (eqb (low v) (8 * m.old)) _ _ (λ t. sends m _ refl) (λ t. sends m _ refl)
keeps_step m v SendRaise e = sends m _ refl
keeps_step m v TakeWrite e = at_cond (TakeKeeps m) (is_index m.cells v) _ _ (λ t. at_cond (TakeKeeps m) (eqb (cell_of v) m.read) _ _ (λ t. takes m _ refl) (λ t. takes m _ refl)) (λ t. takes m _ refl)
keeps_step m v TakeFirst e = at_cond (TakeKeeps m) (leb 2 (len8_of v) && ltb (len8_of v) (used m.cells m.read m.seen)) _ _ (λ t. at_cond (TakeKeeps m) (leb 2 (offset8_of v) && leb (offset8_of v) (len8_of v)) _ _ (λ t. takes m _ refl) (λ t. takes m _ refl)) (λ t. takes m _ refl)
keeps_step m v TakeCell e = at_cond (TakeKeeps m) (ltb (m.done + 1) m.len) _ _ (λ t. takes m _ refl) (λ t. takes m _ refl)
keeps_step m v CommitRead e = commits m _ refl
keeps_step m v CommitFeature e = at_cond (CommitKeeps m) (eqb (low v % 2) 1) _ _ (λ t. commits m _ refl) (λ t. commits m _ refl)
keeps_step m v CommitPending e = at_cond (CommitKeeps m) (eqb (low v) 0) _ _ (λ t. commits m _ refl) (λ t. commits m _ refl)
keeps_step m v CommitWrite e = at_cond (CommitKeeps m) (makes_room m v) _ _ (λ t. commits m _ refl) (λ t. commits m _ refl)
keeps_step m v CommitRaise e = commits m _ refl
keeps_step m v Idle e = absurd (cc)
keeps_step m v Stopped e = absurd (cc)
keeps_step m v _ e = tt
