-- What a driver keeps from step to step, over plain values.
use Rattle.std.proofs.Common.{◌≡◌, ℕ, suc, ◌+◌, ◌*◌, ◌%◌, ◌<◌, ◌≤◌, Bool, true, false, ◌&&◌, cond, leb, ltb, eqb, List, [], ◌∷◌, ◌++◌, length, take, set, Some, zero, refl, sym, ap, ◌∙◌, subst, arith, add-one}
use Rattle.std.specs.Prelude.{slice_index}
use Rattle.std.proofs.Math.Seq.{take-suc-set}
use Rattle.std.proofs.lemmas.Bool.Decides.{nat_tests}
use Rattle.channel_trace.specs.declared.event.Event.{Event}
use Rattle.channel_trace.specs.declared.event.Event.TheVariants.{Sent as SentEvent, Got as GotEvent, Marked as MarkedEvent, Saw as SawEvent}
use Rattle.ring_machine.specs.declared.machine.Stage.{Stage}
use Rattle.ring_machine.specs.declared.machine.Stage.TheVariants.{Idle, Stopped, SendRead, SendCell, SendWrite, SendMask, SendLook, SendRaise, TakeWrite, TakeFirst, TakeCell, CommitRead, CommitFeature, CommitPending, CommitWrite, CommitRaise, ArmPending, ArmMask, ArmWrite, ArmRead, ArmMark, ArmUndoMask, ArmUndoPending, PollSignal, PollMask, PollPending, MarkStore, MarkRaise, PeerMark}
use Rattle.ring_machine.specs.declared.machine.Ending.{Ending}
use Rattle.ring_machine.specs.declared.machine.Ending.TheVariants.{Took}
use Rattle.ring_machine.specs.declared.machine.EndMachine.{EndMachine}
use Rattle.ring_machine.specs.declared.place.Op.{Op}
use Rattle.ring_machine.specs.EndCalls.{EndCall, Send, Take, Commit, Arm, Poll, Mark as MarkCall, PeerMark as PeerMarkCall}
use Rattle.ring_machine.specs.Places.{ahead, used, free, low, is_index, cell_of, len8_of, offset8_of}
use Rattle.ring_machine.specs.Steps.{IsSound, fed_at, next_at, ends, is_busy_at, is_copying_at, is_sent, is_took, call_at, call_by, makes_room, finds_room}
use Rattle.ring_machine.specs.Loops.{is_unseen_at, is_polling_at, is_given_at}
use Rattle.ring_machine.specs.States.{copied_at, copied_after, sent_after, sent_while, got_after, past_after, past_while, past_by, sent_by, got_by, stored}
use Rattle.ring_machine.specs.Endings.{is_committed, is_dozed, is_marked}
use Rattle.ring_machine.specs.Moves.{Lists, Moves, write_at, read_at, start_at, asleep_at, marked_at, Form, is_formed}
use Rattle.ring_machine.proofs.Sound.{at_cond, at_both, and_left, and_right, no_true}

-- a step that isn't a load of a take leaves no take's loop
none_copied : (m : EndMachine) (v : ℕ) (buf : List ℕ) (st : Stage) → m.stage ≡ st → is_copying_at st ≡ false → [] ≡ copied_at (fed_at st m v).stage (take (fed_at st m v).done buf)
none_copied m v buf Idle e n = rw e refl
none_copied m v buf Stopped e n = rw e refl
none_copied m v buf SendRead e n = at_cond (λ (k : EndMachine). [] ≡ copied_at k.stage (take k.done buf)) (is_index m.cells v) _ _ (λ t. at_cond (λ (k : EndMachine). [] ≡ copied_at k.stage (take k.done buf)) (leb (free m.cells (cell_of v) m.write) (m.len + 1)) _ _ (λ u. refl) (λ u. refl)) (λ t. refl)
none_copied m v buf SendCell e n = at_cond (λ (k : EndMachine). [] ≡ copied_at k.stage (take k.done buf)) (ltb m.done m.len) _ _ (λ t. rw e refl) (λ t. refl)
none_copied m v buf SendMask e n = at_cond (λ (k : EndMachine). [] ≡ copied_at k.stage (take k.done buf)) (eqb (low v) 0) _ _ (λ t. refl) (λ t. refl)
none_copied m v buf SendLook e n = at_cond (λ (k : EndMachine). [] ≡ copied_at k.stage (take k.done buf)) (eqb (low v) (8 * m.old)) _ _ (λ t. refl) (λ t. refl)
none_copied m v buf TakeWrite e n = at_cond (λ (k : EndMachine). [] ≡ copied_at k.stage (take k.done buf)) (is_index m.cells v) _ _ (λ t. at_cond (λ (k : EndMachine). [] ≡ copied_at k.stage (take k.done buf)) (eqb (cell_of v) m.read) _ _ (λ u. refl) (λ u. refl)) (λ t. refl)
none_copied m v buf TakeFirst e n = absurd (cc)
none_copied m v buf TakeCell e n = absurd (cc)
none_copied m v buf CommitFeature e n = at_cond (λ (k : EndMachine). [] ≡ copied_at k.stage (take k.done buf)) (eqb (low v % 2) 1) _ _ (λ t. refl) (λ t. refl)
none_copied m v buf CommitPending e n = at_cond (λ (k : EndMachine). [] ≡ copied_at k.stage (take k.done buf)) (eqb (low v) 0) _ _ (λ t. refl) (λ t. refl)
none_copied m v buf CommitWrite e n = at_cond (λ (k : EndMachine). [] ≡ copied_at k.stage (take k.done buf)) (makes_room m v) _ _ (λ t. refl) (λ t. refl)
none_copied m v buf ArmWrite e n = at_cond (λ (k : EndMachine). [] ≡ copied_at k.stage (take k.done buf)) (eqb (low v) (8 * m.read)) _ _ (λ t. at_cond (λ (k : EndMachine). [] ≡ copied_at k.stage (take k.done buf)) (eqb m.want 0) _ _ (λ u. refl) (λ u. refl)) (λ t. refl)
none_copied m v buf ArmRead e n = at_cond (λ (k : EndMachine). [] ≡ copied_at k.stage (take k.done buf)) (finds_room m v) _ _ (λ t. refl) (λ t. refl)
none_copied m v buf ArmMark e n = at_cond (λ (k : EndMachine). [] ≡ copied_at k.stage (take k.done buf)) (eqb v 0) _ _ (λ t. refl) (λ t. refl)
none_copied m v buf ArmUndoMask e n = at_cond (λ (k : EndMachine). [] ≡ copied_at k.stage (take k.done buf)) (eqb m.want 0) _ _ (λ t. refl) (λ t. refl)
none_copied m v buf PollSignal e n = at_cond (λ (k : EndMachine). [] ≡ copied_at k.stage (take k.done buf)) (eqb v 0) _ _ (λ t. refl) (λ t. refl)
none_copied m v buf PollMask e n = at_cond (λ (k : EndMachine). [] ≡ copied_at k.stage (take k.done buf)) (eqb m.want 0) _ _ (λ t. refl) (λ t. refl)
none_copied m v buf PeerMark e n = at_cond (λ (k : EndMachine). [] ≡ copied_at k.stage (take k.done buf)) (eqb v 0) _ _ (λ t. refl) (λ t. refl)
none_copied m v buf _ e n = refl

pub copied_by : (m : EndMachine) (v : ℕ) (buf : List ℕ) → IsSound m → length buf ≡ m.cells → (st : Stage) → m.stage ≡ st
    → copied_after st (fed_at st m v) (copied_at st (take m.done buf)) v ≡ copied_at (fed_at st m v).stage (take (fed_at st m v).done (stored (is_copying_at st) buf m.done v))
copied_by m v buf s w TakeFirst e =
    let P : EndMachine → Type 0 = λ k. copied_at k.stage (v ∷ []) ≡ copied_at k.stage (take k.done (set buf m.done v)) in
    let here : m.done ≡ 0 = s.first e in
    let room : 0 < length buf = omega (arith, s.cells) in
    at_cond P (leb 2 (len8_of v) && ltb (len8_of v) (used m.cells m.read m.seen)) _ _ (λ t. at_cond P (leb 2 (offset8_of v) && leb (offset8_of v) (len8_of v)) _ _ (λ u. rw here (sym (take-suc-set buf 0 v room))) (λ u. refl)) (λ t. refl)
copied_by m v buf s w TakeCell e =
    let P : EndMachine → Type 0 = λ k. copied_at k.stage (take m.done buf ++ v ∷ []) ≡ copied_at k.stage (take k.done (set buf m.done v)) in
    let room : m.done < length buf = omega (arith, s.len, s.done) in
    at_cond P (ltb (m.done + 1) m.len) _ _ (λ t. ap (copied_at m.stage) (rw add-one (sym (take-suc-set buf m.done v room)))) (λ t. refl)
copied_by m v buf s w _ e = none_copied m v buf _ e refl

pub fed_cells : (m : EndMachine) (v : ℕ) (st : Stage) → (fed_at st m v).cells ≡ m.cells
fed_cells m v SendRead = at_cond (λ (k : EndMachine). k.cells ≡ m.cells) (is_index m.cells v) _ _ (λ t. at_cond (λ (k : EndMachine). k.cells ≡ m.cells) (leb (free m.cells (cell_of v) m.write) (m.len + 1)) _ _ (λ u. refl) (λ u. refl)) (λ t. refl)
fed_cells m v SendCell = at_cond (λ (k : EndMachine). k.cells ≡ m.cells) (ltb m.done m.len) _ _ (λ t. refl) (λ t. refl)
fed_cells m v SendMask = at_cond (λ (k : EndMachine). k.cells ≡ m.cells) (eqb (low v) 0) _ _ (λ t. refl) (λ t. refl)
fed_cells m v SendLook = at_cond (λ (k : EndMachine). k.cells ≡ m.cells) (eqb (low v) (8 * m.old)) _ _ (λ t. refl) (λ t. refl)
fed_cells m v TakeWrite = at_cond (λ (k : EndMachine). k.cells ≡ m.cells) (is_index m.cells v) _ _ (λ t. at_cond (λ (k : EndMachine). k.cells ≡ m.cells) (eqb (cell_of v) m.read) _ _ (λ u. refl) (λ u. refl)) (λ t. refl)
fed_cells m v TakeFirst = at_cond (λ (k : EndMachine). k.cells ≡ m.cells) (leb 2 (len8_of v) && ltb (len8_of v) (used m.cells m.read m.seen)) _ _ (λ t. at_cond (λ (k : EndMachine). k.cells ≡ m.cells) (leb 2 (offset8_of v) && leb (offset8_of v) (len8_of v)) _ _ (λ u. refl) (λ u. refl)) (λ t. refl)
fed_cells m v TakeCell = at_cond (λ (k : EndMachine). k.cells ≡ m.cells) (ltb (m.done + 1) m.len) _ _ (λ t. refl) (λ t. refl)
fed_cells m v CommitFeature = at_cond (λ (k : EndMachine). k.cells ≡ m.cells) (eqb (low v % 2) 1) _ _ (λ t. refl) (λ t. refl)
fed_cells m v CommitPending = at_cond (λ (k : EndMachine). k.cells ≡ m.cells) (eqb (low v) 0) _ _ (λ t. refl) (λ t. refl)
fed_cells m v CommitWrite = at_cond (λ (k : EndMachine). k.cells ≡ m.cells) (makes_room m v) _ _ (λ t. refl) (λ t. refl)
fed_cells m v ArmWrite = at_cond (λ (k : EndMachine). k.cells ≡ m.cells) (eqb (low v) (8 * m.read)) _ _ (λ t. at_cond (λ (k : EndMachine). k.cells ≡ m.cells) (eqb m.want 0) _ _ (λ u. refl) (λ u. refl)) (λ t. refl)
fed_cells m v ArmRead = at_cond (λ (k : EndMachine). k.cells ≡ m.cells) (finds_room m v) _ _ (λ t. refl) (λ t. refl)
fed_cells m v ArmMark = at_cond (λ (k : EndMachine). k.cells ≡ m.cells) (eqb v 0) _ _ (λ t. refl) (λ t. refl)
fed_cells m v ArmUndoMask = at_cond (λ (k : EndMachine). k.cells ≡ m.cells) (eqb m.want 0) _ _ (λ t. refl) (λ t. refl)
fed_cells m v PollSignal = at_cond (λ (k : EndMachine). k.cells ≡ m.cells) (eqb v 0) _ _ (λ t. refl) (λ t. refl)
fed_cells m v PollMask = at_cond (λ (k : EndMachine). k.cells ≡ m.cells) (eqb m.want 0) _ _ (λ t. refl) (λ t. refl)
fed_cells m v PeerMark = at_cond (λ (k : EndMachine). k.cells ≡ m.cells) (eqb v 0) _ _ (λ t. refl) (λ t. refl)
fed_cells m v _ = refl

pub busy_next : (m : EndMachine) (p : List ℕ) (st : Stage) → is_busy_at st ≡ true → (op : Op) × (next_at st m p ≡ Some op)
busy_next m p Idle b = absurd (cc)
busy_next m p Stopped b = absurd (cc)
busy_next m p _ b = (_, refl)

module _ (sent got : List (List ℕ)) (past : List (Event (List ℕ))) (p : List ℕ) (buf : List ℕ) where
  -- a machine that goes on, and one whose call has ended
  more : (call : EndCall) (m : EndMachine) (sent' got' : List (List ℕ)) (past' : List (Event (List ℕ))) → is_busy_at m.stage ≡ true → (call_at m.stage ≡ call) × (sent' ≡ sent_while m.stage sent p) × (got' ≡ got) × (past' ≡ past_while m.stage m past p) → Lists call sent got past p m buf sent' got' past'
  more call m sent' got' past' b x = record { busy = λ _. x; ended = λ n. absurd (no_true n b) }

  over : (call : EndCall) (m : EndMachine) (sent' got' : List (List ℕ)) (past' : List (Event (List ℕ))) → is_busy_at m.stage ≡ false → (call_by m.ended ≡ call) × (sent' ≡ sent_by m sent p) × (got' ≡ got_by m got buf) × (past' ≡ past_by m past p buf) → Lists call sent got past p m buf sent' got' past'
  over call m sent' got' past' n x = record { busy = λ b. absurd (no_true n b); ended = λ _. x }

module _ (sent got : List (List ℕ)) (past : List (Event (List ℕ))) (p : List ℕ) (m : EndMachine) (buf : List ℕ) (v : ℕ) (s : IsSound m) (w : length buf ≡ m.cells) (unseen : is_unseen_at m.stage ≡ true → m.saw ≡ false) where
  saw_none : (st : Stage) → m.stage ≡ st → is_unseen_at st ≡ true → past ≡ cond m.saw (SawEvent ∷ past) past
  saw_none st e u = sym (ap (λ (b : Bool). cond b (SawEvent ∷ past) past) (unseen (ap is_unseen_at e ∙ u)))

  pub lists_by : (st : Stage) → m.stage ≡ st → is_busy_at st ≡ true → Lists (call_at st) sent got past p (fed_at st m v) (stored (is_copying_at st) buf m.done v) (sent_after st (sent_while st sent p) p) (got_after st m got (copied_at st (take m.done buf)) v) (past_after st m (past_while st m past p) p (copied_at st (take m.done buf)) v)
  lists_by SendRead e b = at_cond (λ (k : EndMachine). Lists Send sent got past p k buf sent got past) (is_index m.cells v) _ _ (λ t. at_cond (λ (k : EndMachine). Lists Send sent got past p k buf sent got past) (leb (free m.cells (cell_of v) m.write) (m.len + 1)) _ _ (λ u. over sent got past p buf Send _ sent got past refl (refl, refl, refl, refl)) (λ u. more sent got past p buf Send _ sent got past refl (refl, refl, refl, refl))) (λ t. over sent got past p buf Send _ sent got past refl (refl, refl, refl, refl))
  lists_by SendCell e b = at_cond (λ (k : EndMachine). Lists Send sent got past p k buf sent got past) (ltb m.done m.len) _ _ (λ t. more sent got past p buf Send _ sent got past (ap is_busy_at e) (ap call_at e, sym (ap (λ (x : Stage). sent_while x sent p) e), refl, sym (ap (λ (x : Stage). past_while x (record m { done = m.done + 1 }) past p) e))) (λ t. more sent got past p buf Send _ sent got past refl (refl, refl, refl, refl))
  lists_by SendWrite e b = more sent got past p buf Send _ (sent ++ p ∷ []) got (SentEvent p ∷ past) refl (refl, refl, refl, refl)
  lists_by SendMask e b = at_cond (λ (k : EndMachine). Lists Send sent got past p k buf (sent ++ p ∷ []) got (SentEvent p ∷ past)) (eqb (low v) 0) _ _ (λ t. more sent got past p buf Send _ (sent ++ p ∷ []) got (SentEvent p ∷ past) refl (refl, refl, refl, refl)) (λ t. over sent got past p buf Send _ (sent ++ p ∷ []) got (SentEvent p ∷ past) refl (refl, refl, refl, refl))
  lists_by SendLook e b = at_cond (λ (k : EndMachine). Lists Send sent got past p k buf (sent ++ p ∷ []) got (SentEvent p ∷ past)) (eqb (low v) (8 * m.old)) _ _ (λ t. more sent got past p buf Send _ (sent ++ p ∷ []) got (SentEvent p ∷ past) refl (refl, refl, refl, refl)) (λ t. over sent got past p buf Send _ (sent ++ p ∷ []) got (SentEvent p ∷ past) refl (refl, refl, refl, refl))
  lists_by SendRaise e b = over sent got past p buf Send _ (sent ++ p ∷ []) got (SentEvent p ∷ past) refl (refl, refl, refl, refl)
  lists_by TakeWrite e b = at_both (λ (k : EndMachine) (es : List (Event (List ℕ))). Lists Take sent got past p k buf sent got es) (is_index m.cells v) _ _ _ _ (λ t. at_both (λ (k : EndMachine) (es : List (Event (List ℕ))). Lists Take sent got past p k buf sent got es) (eqb (cell_of v) m.read) _ _ _ _ (λ u. over sent got past p buf Take _ sent got _ refl (refl, refl, refl, refl)) (λ u. more sent got past p buf Take _ sent got _ refl (refl, refl, refl, refl))) (λ t. over sent got past p buf Take _ sent got _ refl (refl, refl, refl, refl))
  lists_by TakeFirst e b = at_cond (λ (k : EndMachine). Lists Take sent got past p k (set buf m.done v) sent got past) (leb 2 (len8_of v) && ltb (len8_of v) (used m.cells m.read m.seen)) _ _ (λ t. at_cond (λ (k : EndMachine). Lists Take sent got past p k (set buf m.done v) sent got past) (leb 2 (offset8_of v) && leb (offset8_of v) (len8_of v)) _ _ (λ u. more sent got past p (set buf m.done v) Take _ sent got past refl (refl, refl, refl, refl)) (λ u. over sent got past p (set buf m.done v) Take _ sent got past refl (refl, refl, refl, refl))) (λ t. over sent got past p (set buf m.done v) Take _ sent got past refl (refl, refl, refl, refl))
  lists_by TakeCell e b = took (ltb (m.done + 1) m.len) refl
    where
      took : (t : Bool) → ltb (m.done + 1) m.len ≡ t
          → Lists Take sent got past p (cond t (record m { done = m.done + 1 }) (record (ends m Took) { read = ahead m.cells m.read (m.len + 1); words = m.len })) (set buf m.done v) sent (cond t got (got ++ (take m.done buf ++ v ∷ []) ∷ [])) (cond t past (GotEvent (take m.done buf ++ v ∷ []) ∷ past))
      took true h = more sent got past p (set buf m.done v) Take _ sent got past (ap is_busy_at e) (ap call_at e, sym (ap (λ (x : Stage). sent_while x sent p) e), refl, sym (ap (λ (x : Stage). past_while x (record m { done = m.done + 1 }) past p) e))
      took false h =
          let room : m.done < length buf = omega (arith, s.len, s.done) in
          let busy : m.done < m.len = (s.copying e).1 in
          let last : m.len ≡ m.done + 1 = grind (arith, nat_tests) in
          let words : take m.done buf ++ v ∷ [] ≡ take m.len (set buf m.done v) = sym (take-suc-set buf m.done v room) ∙ ap (λ (n : ℕ). take n (set buf m.done v)) (sym (last ∙ add-one m.done)) in
          over sent got past p (set buf m.done v) Take _ sent _ _ refl (refl, refl, ap (λ (xs : List ℕ). got ++ xs ∷ []) words, ap (λ (xs : List ℕ). GotEvent xs ∷ past) words)
  lists_by CommitRead e b = more sent got past p buf Commit _ sent got past refl (refl, refl, refl, refl)
  lists_by CommitFeature e b = at_cond (λ (k : EndMachine). Lists Commit sent got past p k buf sent got past) (eqb (low v % 2) 1) _ _ (λ t. more sent got past p buf Commit _ sent got past refl (refl, refl, refl, refl)) (λ t. over sent got past p buf Commit _ sent got past refl (refl, refl, refl, refl))
  lists_by CommitPending e b = at_cond (λ (k : EndMachine). Lists Commit sent got past p k buf sent got past) (eqb (low v) 0) _ _ (λ t. over sent got past p buf Commit _ sent got past refl (refl, refl, refl, refl)) (λ t. more sent got past p buf Commit _ sent got past refl (refl, refl, refl, refl))
  lists_by CommitWrite e b = at_cond (λ (k : EndMachine). Lists Commit sent got past p k buf sent got past) (makes_room m v) _ _ (λ t. more sent got past p buf Commit _ sent got past refl (refl, refl, refl, refl)) (λ t. over sent got past p buf Commit _ sent got past refl (refl, refl, refl, refl))
  lists_by CommitRaise e b = over sent got past p buf Commit _ sent got past refl (refl, refl, refl, refl)
  lists_by ArmPending e b = more sent got past p buf Arm _ sent got past refl (refl, refl, refl, refl)
  lists_by ArmMask e b = more sent got past p buf Arm _ sent got past refl (refl, refl, refl, refl)
  lists_by ArmWrite e b = at_cond (λ (k : EndMachine). Lists Arm sent got past p k buf sent got past) (eqb (low v) (8 * m.read)) _ _ (λ t. at_cond (λ (k : EndMachine). Lists Arm sent got past p k buf sent got past) (eqb m.want 0) _ _ (λ u. more sent got past p buf Arm _ sent got past refl (refl, refl, refl, refl)) (λ u. more sent got past p buf Arm _ sent got past refl (refl, refl, refl, refl))) (λ t. more sent got past p buf Arm _ sent got past refl (refl, refl, refl, saw_none ArmWrite e refl))
  lists_by ArmRead e b = at_cond (λ (k : EndMachine). Lists Arm sent got past p k buf sent got past) (finds_room m v) _ _ (λ t. more sent got past p buf Arm _ sent got past refl (refl, refl, refl, saw_none ArmRead e refl)) (λ t. more sent got past p buf Arm _ sent got past refl (refl, refl, refl, refl))
  lists_by ArmMark e b = at_both (λ (k : EndMachine) (es : List (Event (List ℕ))). Lists Arm sent got past p k buf sent got es) (eqb v 0) _ _ _ _ (λ t. over sent got past p buf Arm _ sent got _ refl (refl, refl, refl, refl)) (λ t. more sent got past p buf Arm _ sent got _ refl (refl, refl, refl, refl))
  lists_by ArmUndoMask e b = at_cond (λ (k : EndMachine). Lists Arm sent got past p k buf sent got (cond m.saw (SawEvent ∷ past) past)) (eqb m.want 0) _ _ (λ t. over sent got past p buf Arm _ sent got (cond m.saw (SawEvent ∷ past) past) refl (refl, refl, refl, refl)) (λ t. more sent got past p buf Arm _ sent got (cond m.saw (SawEvent ∷ past) past) refl (refl, refl, refl, refl))
  lists_by ArmUndoPending e b = over sent got past p buf Arm _ sent got (cond m.saw (SawEvent ∷ past) past) refl (refl, refl, refl, refl)
  lists_by PollSignal e b = at_cond (λ (k : EndMachine). Lists Poll sent got past p k buf sent got past) (eqb v 0) _ _ (λ t. over sent got past p buf Poll _ sent got past refl (refl, refl, refl, refl)) (λ t. more sent got past p buf Poll _ sent got past refl (refl, refl, refl, refl))
  lists_by PollMask e b = at_cond (λ (k : EndMachine). Lists Poll sent got past p k buf sent got past) (eqb m.want 0) _ _ (λ t. over sent got past p buf Poll _ sent got past refl (refl, refl, refl, refl)) (λ t. more sent got past p buf Poll _ sent got past refl (refl, refl, refl, refl))
  lists_by PollPending e b = over sent got past p buf Poll _ sent got past refl (refl, refl, refl, refl)
  lists_by MarkStore e b = more sent got past p buf MarkCall _ sent got (MarkedEvent ∷ past) refl (refl, refl, refl, refl)
  lists_by MarkRaise e b = over sent got past p buf MarkCall _ sent got (MarkedEvent ∷ past) refl (refl, refl, refl, refl)
  lists_by PeerMark e b = at_both (λ (k : EndMachine) (es : List (Event (List ℕ))). Lists PeerMarkCall sent got past p k buf sent got es) (eqb v 0) _ _ _ _ (λ t. over sent got past p buf PeerMarkCall _ sent got _ refl (refl, refl, refl, refl)) (λ t. over sent got past p buf PeerMarkCall _ sent got _ refl (refl, refl, refl, refl))
  lists_by Idle e b = absurd (cc)
  lists_by Stopped e b = absurd (cc)

module _ (b m : EndMachine) (v : ℕ) (it : Moves b m) where
  pub w_at : (st : Stage) → m.stage ≡ st → m.write ≡ write_at st m.ended b m.len
  w_at st e = it.write ∙ ap (λ (x : Stage). write_at x m.ended b m.len) e

  pub r_at : (st : Stage) → m.stage ≡ st → m.read ≡ read_at st m.ended b m.len
  r_at st e = it.read ∙ ap (λ (x : Stage). read_at x m.ended b m.len) e

  pub s_at : (st : Stage) → m.stage ≡ st → m.start ≡ start_at st m.ended b
  s_at st e = it.start ∙ ap (λ (x : Stage). start_at x m.ended b) e

  pub a_at : (st : Stage) → m.stage ≡ st → m.asleep ≡ asleep_at st m.ended
  a_at st e = it.asleep ∙ ap (λ (x : Stage). asleep_at x m.ended) e

  pub k_at : (st : Stage) → m.stage ≡ st → m.marked ≡ marked_at st m.ended
  k_at st e = it.marked ∙ ap (λ (x : Stage). marked_at x m.ended) e

  pub u_at : (st : Stage) → m.stage ≡ st → is_unseen_at st ≡ true → m.saw ≡ false
  u_at st e h = it.unseen (ap is_unseen_at e ∙ h)

  moved : (k : EndMachine) → k.cells ≡ b.cells → k.side ≡ b.side → k.write ≡ write_at k.stage k.ended b k.len → k.read ≡ read_at k.stage k.ended b k.len → k.start ≡ start_at k.stage k.ended b → k.asleep ≡ asleep_at k.stage k.ended → k.marked ≡ marked_at k.stage k.ended → (is_unseen_at k.stage ≡ true → k.saw ≡ false) → Moves b k
  moved k c d w r s a l u = record { cells = c; side = d; write = w; read = r; start = s; asleep = a; marked = l; unseen = u }

  ahead_same : m.write ≡ b.write → ahead m.cells m.write (m.len + 1) ≡ ahead b.cells b.write (m.len + 1)
  ahead_same e = ap (λ (n : ℕ). ahead n m.write (m.len + 1)) it.cells ∙ ap (λ (w : ℕ). ahead b.cells w (m.len + 1)) e

  reads_same : m.read ≡ b.read → ahead m.cells m.read (m.len + 1) ≡ ahead b.cells b.read (m.len + 1)
  reads_same e = ap (λ (n : ℕ). ahead n m.read (m.len + 1)) it.cells ∙ ap (λ (w : ℕ). ahead b.cells w (m.len + 1)) e

  pub moves_by : (st : Stage) → m.stage ≡ st → is_busy_at st ≡ true → Moves b (fed_at st m v)
  moves_by Idle e y = absurd (cc)
  moves_by Stopped e y = absurd (cc)
  moves_by SendRead e y = at_cond (Moves b) (is_index m.cells v) _ _ (λ t. at_cond (Moves b) (leb (free m.cells (cell_of v) m.write) (m.len + 1)) _ _ (λ u. moved _ it.cells it.side (w_at SendRead e) (r_at SendRead e) (s_at SendRead e) (a_at SendRead e) (k_at SendRead e) (λ h. absurd (cc))) (λ u. moved _ it.cells it.side (w_at SendRead e) (r_at SendRead e) (s_at SendRead e) (a_at SendRead e) (k_at SendRead e) (λ h. absurd (cc)))) (λ t. moved _ it.cells it.side (w_at SendRead e) (r_at SendRead e) (s_at SendRead e) (a_at SendRead e) (k_at SendRead e) (λ h. absurd (cc)))
  moves_by SendCell e y = at_cond (Moves b) (ltb m.done m.len) _ _ (λ t. moved _ it.cells it.side it.write it.read it.start it.asleep it.marked it.unseen) (λ t. moved _ it.cells it.side (w_at SendCell e) (r_at SendCell e) (s_at SendCell e) (a_at SendCell e) (k_at SendCell e) (λ h. absurd (cc)))
  moves_by SendWrite e y = moved _ it.cells it.side (ahead_same (w_at SendWrite e)) (r_at SendWrite e) (s_at SendWrite e) (a_at SendWrite e) (k_at SendWrite e) (λ h. absurd (cc))
  moves_by SendMask e y = at_cond (Moves b) (eqb (low v) 0) _ _ (λ t. moved _ it.cells it.side (w_at SendMask e) (r_at SendMask e) (s_at SendMask e) (a_at SendMask e) (k_at SendMask e) (λ h. absurd (cc))) (λ t. moved _ it.cells it.side (w_at SendMask e) (r_at SendMask e) (s_at SendMask e) (a_at SendMask e) (k_at SendMask e) (λ h. absurd (cc)))
  moves_by SendLook e y = at_cond (Moves b) (eqb (low v) (8 * m.old)) _ _ (λ t. moved _ it.cells it.side (w_at SendLook e) (r_at SendLook e) (s_at SendLook e) (a_at SendLook e) (k_at SendLook e) (λ h. absurd (cc))) (λ t. moved _ it.cells it.side (w_at SendLook e) (r_at SendLook e) (s_at SendLook e) (a_at SendLook e) (k_at SendLook e) (λ h. absurd (cc)))
  moves_by TakeWrite e y = at_cond (Moves b) (is_index m.cells v) _ _ (λ t. at_cond (Moves b) (eqb (cell_of v) m.read) _ _ (λ u. moved _ it.cells it.side (w_at TakeWrite e) (r_at TakeWrite e) (s_at TakeWrite e) (a_at TakeWrite e) (k_at TakeWrite e) (λ h. absurd (cc))) (λ u. moved _ it.cells it.side (w_at TakeWrite e) (r_at TakeWrite e) (s_at TakeWrite e) (a_at TakeWrite e) (k_at TakeWrite e) (λ h. absurd (cc)))) (λ t. moved _ it.cells it.side (w_at TakeWrite e) (r_at TakeWrite e) (s_at TakeWrite e) (a_at TakeWrite e) (k_at TakeWrite e) (λ h. absurd (cc)))
  moves_by TakeFirst e y = at_cond (Moves b) (leb 2 (len8_of v) && ltb (len8_of v) (used m.cells m.read m.seen)) _ _ (λ t. at_cond (Moves b) (leb 2 (offset8_of v) && leb (offset8_of v) (len8_of v)) _ _ (λ u. moved _ it.cells it.side (w_at TakeFirst e) (r_at TakeFirst e) (s_at TakeFirst e) (a_at TakeFirst e) (k_at TakeFirst e) (λ h. absurd (cc))) (λ u. moved _ it.cells it.side (w_at TakeFirst e) (r_at TakeFirst e) (s_at TakeFirst e) (a_at TakeFirst e) (k_at TakeFirst e) (λ h. absurd (cc)))) (λ t. moved _ it.cells it.side (w_at TakeFirst e) (r_at TakeFirst e) (s_at TakeFirst e) (a_at TakeFirst e) (k_at TakeFirst e) (λ h. absurd (cc)))
  moves_by TakeCell e y = at_cond (Moves b) (ltb (m.done + 1) m.len) _ _ (λ t. moved _ it.cells it.side it.write it.read it.start it.asleep it.marked it.unseen) (λ t. moved _ it.cells it.side (w_at TakeCell e) (reads_same (r_at TakeCell e)) (s_at TakeCell e) (a_at TakeCell e) (k_at TakeCell e) (λ h. absurd (cc)))
  moves_by CommitRead e y = moved _ it.cells it.side (w_at CommitRead e) (r_at CommitRead e) (r_at CommitRead e) (a_at CommitRead e) (k_at CommitRead e) (λ h. absurd (cc))
  moves_by CommitFeature e y = at_cond (Moves b) (eqb (low v % 2) 1) _ _ (λ t. moved _ it.cells it.side (w_at CommitFeature e) (r_at CommitFeature e) (s_at CommitFeature e) (a_at CommitFeature e) (k_at CommitFeature e) (λ h. absurd (cc))) (λ t. moved _ it.cells it.side (w_at CommitFeature e) (r_at CommitFeature e) (s_at CommitFeature e) (a_at CommitFeature e) (k_at CommitFeature e) (λ h. absurd (cc)))
  moves_by CommitPending e y = at_cond (Moves b) (eqb (low v) 0) _ _ (λ t. moved _ it.cells it.side (w_at CommitPending e) (r_at CommitPending e) (s_at CommitPending e) (a_at CommitPending e) (k_at CommitPending e) (λ h. absurd (cc))) (λ t. moved _ it.cells it.side (w_at CommitPending e) (r_at CommitPending e) (s_at CommitPending e) (a_at CommitPending e) (k_at CommitPending e) (λ h. absurd (cc)))
  moves_by CommitWrite e y = at_cond (Moves b) (makes_room m v) _ _ (λ t. moved _ it.cells it.side (w_at CommitWrite e) (r_at CommitWrite e) (s_at CommitWrite e) (a_at CommitWrite e) (k_at CommitWrite e) (λ h. absurd (cc))) (λ t. moved _ it.cells it.side (w_at CommitWrite e) (r_at CommitWrite e) (s_at CommitWrite e) (a_at CommitWrite e) (k_at CommitWrite e) (λ h. absurd (cc)))
  moves_by ArmPending e y = moved _ it.cells it.side (w_at ArmPending e) (r_at ArmPending e) (s_at ArmPending e) (a_at ArmPending e) (k_at ArmPending e) (λ _. u_at ArmPending e refl)
  moves_by ArmMask e y = moved _ it.cells it.side (w_at ArmMask e) (r_at ArmMask e) (s_at ArmMask e) (a_at ArmMask e) (k_at ArmMask e) (λ _. u_at ArmMask e refl)
  moves_by ArmWrite e y = at_cond (Moves b) (eqb (low v) (8 * m.read)) _ _ (λ t. at_cond (Moves b) (eqb m.want 0) _ _ (λ u. moved _ it.cells it.side (w_at ArmWrite e) (r_at ArmWrite e) (s_at ArmWrite e) (a_at ArmWrite e) (k_at ArmWrite e) (λ _. u_at ArmWrite e refl)) (λ u. moved _ it.cells it.side (w_at ArmWrite e) (r_at ArmWrite e) (s_at ArmWrite e) (a_at ArmWrite e) (k_at ArmWrite e) (λ _. u_at ArmWrite e refl))) (λ t. moved _ it.cells it.side (w_at ArmWrite e) (r_at ArmWrite e) (s_at ArmWrite e) (a_at ArmWrite e) (k_at ArmWrite e) (λ h. absurd (cc)))
  moves_by ArmRead e y = at_cond (Moves b) (finds_room m v) _ _ (λ t. moved _ it.cells it.side (w_at ArmRead e) (r_at ArmRead e) (s_at ArmRead e) (a_at ArmRead e) (k_at ArmRead e) (λ h. absurd (cc))) (λ t. moved _ it.cells it.side (w_at ArmRead e) (r_at ArmRead e) (s_at ArmRead e) (a_at ArmRead e) (k_at ArmRead e) (λ _. u_at ArmRead e refl))
  moves_by ArmMark e y = at_cond (Moves b) (eqb v 0) _ _ (λ t. moved _ it.cells it.side (w_at ArmMark e) (r_at ArmMark e) (s_at ArmMark e) refl (k_at ArmMark e) (λ h. absurd (cc))) (λ t. moved _ it.cells it.side (w_at ArmMark e) (r_at ArmMark e) (s_at ArmMark e) (a_at ArmMark e) (k_at ArmMark e) (λ h. absurd (cc)))
  moves_by ArmUndoMask e y = at_cond (Moves b) (eqb m.want 0) _ _ (λ t. moved _ it.cells it.side (w_at ArmUndoMask e) (r_at ArmUndoMask e) (s_at ArmUndoMask e) (a_at ArmUndoMask e) (k_at ArmUndoMask e) (λ h. absurd (cc))) (λ t. moved _ it.cells it.side (w_at ArmUndoMask e) (r_at ArmUndoMask e) (s_at ArmUndoMask e) (a_at ArmUndoMask e) (k_at ArmUndoMask e) (λ h. absurd (cc)))
  moves_by PollSignal e y = at_cond (Moves b) (eqb v 0) _ _ (λ t. moved _ it.cells it.side (w_at PollSignal e) (r_at PollSignal e) (s_at PollSignal e) (a_at PollSignal e) (k_at PollSignal e) (λ h. absurd (cc))) (λ t. moved _ it.cells it.side (w_at PollSignal e) (r_at PollSignal e) (s_at PollSignal e) refl (k_at PollSignal e) (λ h. absurd (cc)))
  moves_by PollMask e y = at_cond (Moves b) (eqb m.want 0) _ _ (λ t. moved _ it.cells it.side (w_at PollMask e) (r_at PollMask e) (s_at PollMask e) (a_at PollMask e) (k_at PollMask e) (λ h. absurd (cc))) (λ t. moved _ it.cells it.side (w_at PollMask e) (r_at PollMask e) (s_at PollMask e) (a_at PollMask e) (k_at PollMask e) (λ h. absurd (cc)))
  moves_by MarkRaise e y = moved _ it.cells it.side (w_at MarkRaise e) (r_at MarkRaise e) (s_at MarkRaise e) (a_at MarkRaise e) refl (λ h. absurd (cc))
  moves_by PeerMark e y = at_cond (Moves b) (eqb v 0) _ _ (λ t. moved _ it.cells it.side (w_at PeerMark e) (r_at PeerMark e) (s_at PeerMark e) (a_at PeerMark e) (k_at PeerMark e) (λ h. absurd (cc))) (λ t. moved _ it.cells it.side (w_at PeerMark e) (r_at PeerMark e) (s_at PeerMark e) (a_at PeerMark e) (k_at PeerMark e) (λ h. absurd (cc)))
  moves_by _ e y = moved _ it.cells it.side (w_at _ e) (r_at _ e) (s_at _ e) (a_at _ e) (k_at _ e) (λ h. absurd (cc))

first_set : (xs : List ℕ) (i v : ℕ) → 0 < i → slice_index (set xs i v) 0 ≡ slice_index xs 0
first_set [] i v h = refl
first_set (x ∷ xs) zero v h = absurd (omega arith)
first_set (x ∷ xs) (suc i) v h = refl

set_first : (xs : List ℕ) (v : ℕ) → 0 < length xs → slice_index (set xs 0 v) 0 ≡ v
set_first [] v h = absurd (omega arith)
set_first (x ∷ xs) v h = refl

formed_as : (x n : ℕ) (buf : List ℕ) → slice_index buf 0 ≡ x → len8_of x ≡ n → (2 ≤ offset8_of x) × (offset8_of x ≤ n) → 1 < n → Form n buf
formed_as x n buf here l o two = record {
  length_is = ap len8_of here ∙ l;
  offset = subst (λ (y : ℕ). (2 ≤ offset8_of y) × (offset8_of y ≤ n)) (sym here) o;
  two = two;
}

module _ (m : EndMachine) (buf : List ℕ) (v : ℕ) (s : IsSound m) (w : length buf ≡ m.cells) (it : is_formed m.stage m.ended ≡ true → Form m.len buf) where
  pub form_by : (st : Stage) → m.stage ≡ st → is_busy_at st ≡ true → is_formed (fed_at st m v).stage (fed_at st m v).ended ≡ true → Form (fed_at st m v).len (stored (is_copying_at st) buf m.done v)
  form_by Idle e y = absurd (cc)
  form_by Stopped e y = absurd (cc)
  form_by SendRead e y = at_cond (λ (k : EndMachine). is_formed k.stage k.ended ≡ true → Form k.len buf) (is_index m.cells v) _ _ (λ t. at_cond (λ (k : EndMachine). is_formed k.stage k.ended ≡ true → Form k.len buf) (leb (free m.cells (cell_of v) m.write) (m.len + 1)) _ _ (λ u. λ h. absurd (no_true refl h)) (λ u. λ h. absurd (no_true refl h))) (λ t. λ h. absurd (no_true refl h))
  form_by SendCell e y = at_cond (λ (k : EndMachine). is_formed k.stage k.ended ≡ true → Form k.len buf) (ltb m.done m.len) _ _ (λ t. λ h. absurd (no_true (ap (λ (x : Stage). is_formed x m.ended) e) h)) (λ t. λ h. absurd (no_true refl h))
  form_by SendMask e y = at_cond (λ (k : EndMachine). is_formed k.stage k.ended ≡ true → Form k.len buf) (eqb (low v) 0) _ _ (λ t. λ h. absurd (no_true refl h)) (λ t. λ h. absurd (no_true refl h))
  form_by SendLook e y = at_cond (λ (k : EndMachine). is_formed k.stage k.ended ≡ true → Form k.len buf) (eqb (low v) (8 * m.old)) _ _ (λ t. λ h. absurd (no_true refl h)) (λ t. λ h. absurd (no_true refl h))
  form_by TakeWrite e y = at_cond (λ (k : EndMachine). is_formed k.stage k.ended ≡ true → Form k.len buf) (is_index m.cells v) _ _ (λ t. at_cond (λ (k : EndMachine). is_formed k.stage k.ended ≡ true → Form k.len buf) (eqb (cell_of v) m.read) _ _ (λ u. λ h. absurd (no_true refl h)) (λ u. λ h. absurd (no_true refl h))) (λ t. λ h. absurd (no_true refl h))
  form_by TakeFirst e y = at_cond (λ (k : EndMachine). is_formed k.stage k.ended ≡ true → Form k.len (set buf m.done v)) (leb 2 (len8_of v) && ltb (len8_of v) (used m.cells m.read m.seen)) _ _ (λ t. at_cond (λ (k : EndMachine). is_formed k.stage k.ended ≡ true → Form k.len (set buf m.done v)) (leb 2 (offset8_of v) && leb (offset8_of v) (len8_of v)) _ _ (λ u. λ _. (let here : slice_index (set buf m.done v) 0 ≡ v = ap (λ (i : ℕ). slice_index (set buf i v) 0) (s.first e) ∙ set_first buf v (omega (arith, s.cells)) in let low : 2 ≤ offset8_of v = (let x = and_left (leb 2 (offset8_of v)) _ u in grind (arith, nat_tests)) in let high : offset8_of v ≤ len8_of v = (let x = and_right (leb 2 (offset8_of v)) _ u in grind (arith, nat_tests)) in let two : 1 < len8_of v = (let x = and_left (leb 2 (len8_of v)) _ t in grind (arith, nat_tests)) in formed_as v (len8_of v) (set buf m.done v) here refl (low, high) two)) (λ u. λ h. absurd (no_true refl h))) (λ t. λ h. absurd (no_true refl h))
  form_by TakeCell e y = at_cond (λ (k : EndMachine). is_formed k.stage k.ended ≡ true → Form k.len (set buf m.done v)) (ltb (m.done + 1) m.len) _ _ (λ t. λ _. (let f = it (ap (λ (x : Stage). is_formed x m.ended) e) in formed_as (slice_index buf 0) m.len (set buf m.done v) (first_set buf m.done v (s.copying e).0) f.length_is f.offset f.two)) (λ t. λ _. (let f = it (ap (λ (x : Stage). is_formed x m.ended) e) in formed_as (slice_index buf 0) m.len (set buf m.done v) (first_set buf m.done v (s.copying e).0) f.length_is f.offset f.two))
  form_by CommitFeature e y = at_cond (λ (k : EndMachine). is_formed k.stage k.ended ≡ true → Form k.len buf) (eqb (low v % 2) 1) _ _ (λ t. λ h. absurd (no_true refl h)) (λ t. λ h. absurd (no_true refl h))
  form_by CommitPending e y = at_cond (λ (k : EndMachine). is_formed k.stage k.ended ≡ true → Form k.len buf) (eqb (low v) 0) _ _ (λ t. λ h. absurd (no_true refl h)) (λ t. λ h. absurd (no_true refl h))
  form_by CommitWrite e y = at_cond (λ (k : EndMachine). is_formed k.stage k.ended ≡ true → Form k.len buf) (makes_room m v) _ _ (λ t. λ h. absurd (no_true refl h)) (λ t. λ h. absurd (no_true refl h))
  form_by ArmWrite e y = at_cond (λ (k : EndMachine). is_formed k.stage k.ended ≡ true → Form k.len buf) (eqb (low v) (8 * m.read)) _ _ (λ t. at_cond (λ (k : EndMachine). is_formed k.stage k.ended ≡ true → Form k.len buf) (eqb m.want 0) _ _ (λ u. λ h. absurd (no_true refl h)) (λ u. λ h. absurd (no_true refl h))) (λ t. λ h. absurd (no_true refl h))
  form_by ArmRead e y = at_cond (λ (k : EndMachine). is_formed k.stage k.ended ≡ true → Form k.len buf) (finds_room m v) _ _ (λ t. λ h. absurd (no_true refl h)) (λ t. λ h. absurd (no_true refl h))
  form_by ArmMark e y = at_cond (λ (k : EndMachine). is_formed k.stage k.ended ≡ true → Form k.len buf) (eqb v 0) _ _ (λ t. λ h. absurd (no_true refl h)) (λ t. λ h. absurd (no_true refl h))
  form_by ArmUndoMask e y = at_cond (λ (k : EndMachine). is_formed k.stage k.ended ≡ true → Form k.len buf) (eqb m.want 0) _ _ (λ t. λ h. absurd (no_true refl h)) (λ t. λ h. absurd (no_true refl h))
  form_by PollSignal e y = at_cond (λ (k : EndMachine). is_formed k.stage k.ended ≡ true → Form k.len buf) (eqb v 0) _ _ (λ t. λ h. absurd (no_true refl h)) (λ t. λ h. absurd (no_true refl h))
  form_by PollMask e y = at_cond (λ (k : EndMachine). is_formed k.stage k.ended ≡ true → Form k.len buf) (eqb m.want 0) _ _ (λ t. λ h. absurd (no_true refl h)) (λ t. λ h. absurd (no_true refl h))
  form_by PeerMark e y = at_cond (λ (k : EndMachine). is_formed k.stage k.ended ≡ true → Form k.len buf) (eqb v 0) _ _ (λ t. λ h. absurd (no_true refl h)) (λ t. λ h. absurd (no_true refl h))
  form_by _ e y = λ h. absurd (no_true refl h)
