-- Where the steps of an end change the words of its channel.
use Rattle.std.proofs.Common.{◌≡◌, ◌≢◌, ℕ, ◌+◌, ◌*◌, ◌/◌, ◌%◌, ◌<◌, ◌≤◌, Bool, true, false, ◌&&◌, cond, eqb, List, ◌∷◌, length, get_or, set, Option, Some, None, refl, sym, ap, ◌∙◌, subst, arith, inr, add-zero}
use Rattle.std.proofs.lemmas.List.{get_or-set_same, get_or-set_other}
use Rattle.std.proofs.lemmas.Bool.Decides.{nat_tests}
use Rattle.std.proofs.Math.Bool.{or-true}
use Rattle.channel_trace.specs.declared.event.Event.{Event}
use Rattle.channel_trace.specs.declared.event.Event.TheVariants.{Marked, Saw}
use Rattle.channel_trace.specs.Runs.{has_marked}
use Rattle.io_edge.specs.declared.side.Side.{Side}
use Rattle.io_edge.specs.declared.side.Side.TheVariants.{Guest, Host}
use Rattle.page_kept.specs.declared.kept.Kept.{Kept as Pages}
use Rattle.ring_machine.specs.declared.machine.Stage.{Stage}
use Rattle.ring_machine.specs.declared.machine.Stage.TheVariants.{SendRead, SendCell, SendWrite, SendMask, SendLook, SendRaise, TakeWrite, TakeFirst, TakeCell, CommitRead, CommitFeature, CommitPending, CommitWrite, CommitRaise, ArmPending, ArmMask, ArmWrite, ArmRead, ArmMark, ArmUndoMask, ArmUndoPending, PollSignal, PollMask, PollPending, MarkStore, MarkRaise, PeerMark}
use Rattle.ring_machine.specs.declared.machine.EndMachine.{EndMachine}
use Rattle.ring_machine.specs.declared.state.EndState.{EndState}
use Rattle.ring_machine.specs.declared.place.Ring.{Ring}
use Rattle.ring_machine.specs.declared.place.Ring.TheVariants.{ToHost, ToGuest}
use Rattle.ring_machine.specs.declared.place.Op.{Op}
use Rattle.ring_machine.specs.Places.{out_of, in_of, peer_of, base_of, signal_of, mark_of, words_of, ahead, low}
use Rattle.ring_machine.specs.Steps.{is_busy_at, next_of, makes_room, finds_room}
use Rattle.ring_machine.specs.States.{after}
use Rattle.ring_core.specs.Told.{written, answer_in}
use Rattle.ring_machine.proofs.Sound.{and_left, and_right}
use Rattle.ring_pair_laws.specs.Ring.{ring_in, is_marked, is_marking_at}
use Rattle.ring_pair_laws.proofs.Turns.{ahead_below}
use Rattle.ring_pair_laws.proofs.Frame.{Near, near_refl, Moves, Ready, Quiet, quiet, at_stage, unmarked, calm_taking, out_stays, inn_stays, no_rest, not_stopped, past_of, marks_of, indices_of, is_calm_at, goes_on}
use Rattle.ring_pair_laws.proofs.Sends.{send_read, store_cell, store_write}
use Rattle.ring_pair_laws.proofs.Takes.{take_write, take_first, take_cell, commit_read}

pub base_most : (n : ℕ) (y : Ring) → base_of n y ≤ n + 5
base_most n ToHost = omega arith
base_most n ToGuest = omega arith

-- the signals stand behind the rings, and the marks behind the signals
pub behind : (n : ℕ) (x : Side) → (n + n + 10 ≤ signal_of n x) × (signal_of n x < n + n + 12) × (n + n + 12 ≤ mark_of n x) × (mark_of n x < n + n + 14)
behind n Guest = (omega arith, omega arith, omega arith, omega arith)
behind n Host = (omega arith, omega arith, omega arith, omega arith)

marks_apart : (n : ℕ) (x : Side) → mark_of n (peer_of x) ≢ mark_of n x
marks_apart n Guest h = omega arith
marks_apart n Host h = omega arith

bases_apart : (n : ℕ) (x : Side) (j k : ℕ) → j < n + 5 → k < n + 5 → base_of n (out_of x) + j ≢ base_of n (in_of x) + k
bases_apart n Guest j k a b h = omega arith
bases_apart n Host j k a b h = omega arith

cell_index : (b k : ℕ) → b + 5 + 8 * k / 8 ≡ b + (5 + k)
cell_index b k = omega arith

-- the word at i isn't one that the ends of the ring y rely on
abbrev IsFree : ℕ → ℕ → Ring → Type 0
IsFree n i y = (j : ℕ) → j < n + 5 → (1 < j → j < 5 → ⊥) → i ≢ base_of n y + j

header_free : (n : ℕ) (y z : Ring) (k : ℕ) → 1 < k → k < 5 → IsFree n (base_of n y + k) z
header_free n ToHost ToHost k a b j h g i = g (omega arith) (omega arith)
header_free n ToGuest ToHost k a b j h g i = g (omega arith) (omega arith)
header_free n _ _ k a b j h g i = g (omega arith) (omega arith)

behind_free : (n i : ℕ) (y : Ring) → n + n + 10 ≤ i → IsFree n i y
behind_free n i y far j h g is = let s = base_most n y in omega arith

free_near : (n : ℕ) (ws : List ℕ) (i w : ℕ) (y : Ring) → IsFree n i y → Near n (ring_in n ws y) (ring_in n (set ws i w) y)
free_near n ws i w y free = record {
  write = get_or-set_other ws i (base_of n y + 0) w 0 (λ h. free 0 (omega arith) (λ a b. omega arith) (sym h));
  read = get_or-set_other ws i (base_of n y + 1) w 0 (λ h. free 1 (omega arith) (λ a b. omega arith) (sym h));
  cells = λ k b. get_or-set_other ws i (base_of n y + (5 + k)) w 0 (λ h. free (5 + k) (omega arith) (λ c d. omega arith) (sym h));
}

-- what a step makes of the words, of the end and of its peer's mark
pub record Kept (n : ℕ) (x : Side) (ws ws' : List ℕ) (e p : EndState) (v : ℕ) : Type 0 where
  pub moves : Moves n (ring_in n ws' (out_of x)) (ring_in n ws' (in_of x)) (get_or ws' (mark_of n x) 0) e p (after e v)
  pub peers : get_or ws' (mark_of n (peer_of x)) 0 ≡ get_or ws (mark_of n (peer_of x)) 0

-- a machine that is quiet whichever way a test goes
moved : {m m' : EndMachine} → indices_of m' ≡ indices_of m → marks_of m' ≡ marks_of m → (is_calm_at m'.stage && goes_on m'.stage m'.ended) ≡ true → Quiet m m'
moved i s g = record { indices = i; marks = s; goes = g }

either : (m : EndMachine) (b : Bool) (x y : EndMachine) → Quiet m x → Quiet m y → Quiet m (cond b x y)
either m true x y s t = s
either m false x y s t = t

abbrev lists_of : EndState → List (List ℕ) × List (List ℕ) × List (Event (List ℕ))
lists_of e = (e.sent, e.got, e.past)

module _ (fo fi : ℕ → ℕ) (mark pmark : ℕ) (e p : EndState) (r : Ready fo fi mark pmark e p) where
  -- a mark that is up was made by the peer
  peer_has : (v : ℕ) → v ≡ pmark → v ≢ 0 → has_marked p.past ≡ true
  peer_has v is some = by_mark (is_marked p) refl
    where
      by_mark : (b : Bool) → is_marked p ≡ b → has_marked p.past ≡ true
      by_mark true h = r.peers.marked ∙ h
      by_mark false h = absurd (some (is ∙ (r.peers.word ∙ ap (λ (b : Bool). cond b 1 0) h)))

  -- a step that sees the peer's mark
  sees : (v : ℕ) → v ≡ pmark → v ≢ 0 → is_busy_at e.machine.stage ≡ true → is_marking_at e.machine.stage ≡ false → (m : EndMachine) (q xs : List ℕ) (k : Pages) → indices_of m ≡ indices_of e.machine
      → marks_of m ≡ marks_of (record e.machine { peer_marked = true }) → (is_calm_at m.stage && goes_on m.stage m.ended) ≡ true
      → Moves e.machine.cells fo fi mark e p (record { machine = m; packet = q; copied = xs; sent = e.sent; got = e.got; past = Saw ∷ e.past; pages = k })
  sees v is some busy plain m q xs k same marks on =
      let calm = and_left (is_calm_at m.stage) _ on in
      let goes = and_right (is_calm_at m.stage) _ on in
      record {
        out = out_stays _ _ _ _ _ _ r fo (near_refl _ fo) _ refl (ap (λ (i : ℕ × ℕ × ℕ). i.0) same) calm;
        inn = inn_stays _ _ _ _ _ _ r fi (near_refl _ fi) _ refl (ap (λ (i : ℕ × ℕ × ℕ). i.1) same) (ap (λ (i : ℕ × ℕ × ℕ). i.2) same) (calm_taking m.stage _ _ _ calm);
        past = past_of mark _ r.past.sent r.past.got ((λ j. (r.past.marked j, true, r.past.drained j)) ∙ sym marks) (r.past.word ∙ ap (λ (b : Bool × Bool × Bool). cond b.0 1 0) (sym marks));
        told = inr (Saw, refl, (unmarked _ _ _ _ _ _ r busy plain, peer_has v is some));
        rests = no_rest _ _ p goes;
        goes = not_stopped m goes;
      }

module _ (fo fi : ℕ → ℕ) (mark pmark : ℕ) (e p : EndState) where
  -- the last look of an arm
  arm_mark : Ready fo fi mark pmark (at_stage ArmMark e) p → (v : ℕ) → v ≡ pmark → Moves e.machine.cells fo fi mark (at_stage ArmMark e) p (after (at_stage ArmMark e) v)
  arm_mark r v is = by_mark (eqb v 0) refl
    where
      by_mark : (b : Bool) → eqb v 0 ≡ b → Moves e.machine.cells fo fi mark (at_stage ArmMark e) p (after (at_stage ArmMark e) v)
      by_mark true h = rw h (quiet _ _ _ _ _ _ r fo fi (near_refl _ fo) (near_refl _ fi) _ _ _ _ (moved refl refl refl))
      by_mark false h = rw h (sees _ _ _ _ _ _ r v is (grind (arith, nat_tests)) refl refl _ _ _ _ refl refl refl)

  peer_mark : Ready fo fi mark pmark (at_stage PeerMark e) p → (v : ℕ) → v ≡ pmark → Moves e.machine.cells fo fi mark (at_stage PeerMark e) p (after (at_stage PeerMark e) v)
  peer_mark r v is = by_mark (eqb v 0) refl
    where
      by_mark : (b : Bool) → eqb v 0 ≡ b → Moves e.machine.cells fo fi mark (at_stage PeerMark e) p (after (at_stage PeerMark e) v)
      by_mark true h = rw h (quiet _ _ _ _ _ _ r fo fi (near_refl _ fo) (near_refl _ fi) _ _ _ _ (moved refl refl refl))
      by_mark false h = rw h (sees _ _ _ _ _ _ r v is (grind (arith, nat_tests)) refl refl _ _ _ _ refl refl refl)

  -- store the mark
  mark_store : Ready fo fi mark pmark (at_stage MarkStore e) p → (v : ℕ) (fo' fi' : ℕ → ℕ) (mark' : ℕ) → mark' ≡ 1 → Near e.machine.cells fo fo' → Near e.machine.cells fi fi' → Moves e.machine.cells fo' fi' mark' (at_stage MarkStore e) p (after (at_stage MarkStore e) v)
  mark_store r v fo' fi' mark' up near_out near_in = record {
    out = out_stays _ _ _ _ _ _ r fo' near_out _ refl refl refl;
    inn = inn_stays _ _ _ _ _ _ r fi' near_in _ refl refl refl tt;
    past = past_of mark' _ r.past.sent r.past.got (λ j. (sym (or-true e.machine.marked) j, r.past.seen j, r.past.drained j)) (up ∙ ap (λ (b : Bool). cond b 1 0) (sym (or-true e.machine.marked)));
    told = inr (Marked, refl, unmarked _ _ _ _ _ _ r refl refl);
    rests = no_rest _ _ p refl;
    goes = λ i. cc;
  }

module _ (ws : List ℕ) (e p : EndState) (long : length ws ≡ words_of e.machine.cells) where
  -- the end at this stage is ready for its step, and what the step leaves, which makes the words ws' of these and answers v
  abbrev Starts : Stage → Type 0
  Starts st = Ready (ring_in e.machine.cells ws (out_of e.machine.side)) (ring_in e.machine.cells ws (in_of e.machine.side)) (get_or ws (mark_of e.machine.cells e.machine.side) 0) (get_or ws (mark_of e.machine.cells (peer_of e.machine.side)) 0) (at_stage st e) p

  abbrev Leads : Stage → List ℕ → ℕ → Type 0
  Leads st ws' v = Moves e.machine.cells (ring_in e.machine.cells ws' (out_of e.machine.side)) (ring_in e.machine.cells ws' (in_of e.machine.side)) (get_or ws (mark_of e.machine.cells e.machine.side) 0) (at_stage st e) p (after (at_stage st e) v)

  abbrev Ends : Stage → Option Op → Type 0
  Ends st None = Unit {0}
  Ends st (Some op) = Kept e.machine.cells e.machine.side ws (written e.machine.cells op ws) (at_stage st e) p (answer_in e.machine.cells op ws)

  -- a step that only moves its call on
  abbrev Still : Stage → ℕ → Type 0
  Still st v = (lists_of (after (at_stage st e) v) ≡ lists_of e) × Quiet (at_stage st e).machine (after (at_stage st e) v).machine

  still : (st : Stage) → Starts st → (ws' : List ℕ) (v : ℕ) → ((y : Ring) → Near e.machine.cells (ring_in e.machine.cells ws y) (ring_in e.machine.cells ws' y)) → Still st v → Leads st ws' v
  still st r ws' v near it =
      let t : EndState = after (at_stage st e) v in
      subst (λ (l : List (List ℕ) × List (List ℕ) × List (Event (List ℕ))). Moves e.machine.cells (ring_in e.machine.cells ws' (out_of e.machine.side)) (ring_in e.machine.cells ws' (in_of e.machine.side)) (get_or ws (mark_of e.machine.cells e.machine.side) 0) (at_stage st e) p (record t { sent = l.0; got = l.1; past = l.2 }))
      (sym it.0) (quiet _ _ _ _ _ _ r _ _ (near (out_of e.machine.side)) (near (in_of e.machine.side)) t.machine t.packet t.copied t.pages it.1)

  looked : (st : Stage) → Starts st → (v : ℕ) → ((u : ℕ) → Still st u) → Leads st ws v
  looked st r v it = still st r ws v (λ y. near_refl _ _) (it v)

  loaded : (st : Stage) (v : ℕ) → Leads st ws v → Kept e.machine.cells e.machine.side ws ws (at_stage st e) p v
  loaded st v m = record { moves = m; peers = refl }

  -- a step that stores before the marks
  put : (st : Stage) (i w v : ℕ) → i < e.machine.cells + e.machine.cells + 12 → Leads st (set ws i w) v → Kept e.machine.cells e.machine.side ws (set ws i w) (at_stage st e) p v
  put st i w v before m = record {
    moves = subst (λ (a : ℕ). Moves e.machine.cells (ring_in e.machine.cells (set ws i w) (out_of e.machine.side)) (ring_in e.machine.cells (set ws i w) (in_of e.machine.side)) a (at_stage st e) p (after (at_stage st e) v)) (sym (same e.machine.side)) m;
    peers = same (peer_of e.machine.side);
  }
    where
      same : (y : Side) → get_or (set ws i w) (mark_of e.machine.cells y) 0 ≡ get_or ws (mark_of e.machine.cells y) 0
      same y = get_or-set_other ws i (mark_of e.machine.cells y) w 0 (λ h. let b = behind e.machine.cells y in omega arith)

  -- a store of a mask or a wanted room, and of a signal
  header : (st : Stage) → Starts st → (y : Ring) (k w v : ℕ) → 1 < k → k < 5 → Still st v → Kept e.machine.cells e.machine.side ws (set ws (base_of e.machine.cells y + k) w) (at_stage st e) p v
  header st r y k w v a b it = put st _ w v (let s = base_most e.machine.cells y in omega arith) (still st r _ v (λ z. free_near _ ws _ w z (header_free _ y z k a b)) it)

  signal : (st : Stage) → Starts st → (y : Side) (w v : ℕ) → ((u : ℕ) → Still st u) → Kept e.machine.cells e.machine.side ws (set ws (signal_of e.machine.cells y) w) (at_stage st e) p v
  signal st r y w v it =
      let far = behind e.machine.cells y in
      put st _ w v (omega arith) (still st r _ v (λ z. free_near _ ws _ w z (behind_free _ _ z (omega arith))) (it v))

  -- the word that a store in a ring changes, and the others
  here : (y : Ring) (k w : ℕ) → k < e.machine.cells + 5 → ring_in e.machine.cells (set ws (base_of e.machine.cells y + k) w) y k ≡ w
  here y k w small = get_or-set_same ws (base_of e.machine.cells y + k) w 0 (let s = base_most e.machine.cells y in omega arith)

  else : (y : Ring) (k w j : ℕ) → j ≢ k → ring_in e.machine.cells (set ws (base_of e.machine.cells y + k) w) y j ≡ ring_in e.machine.cells ws y j
  else y k w j ne = get_or-set_other ws (base_of e.machine.cells y + k) (base_of e.machine.cells y + j) w 0 (λ i. ne (omega arith))

  -- a cell of a packet, or its trailer; the write index; and the read index
  in_ring : (y : Ring) (k : ℕ) → k < e.machine.cells + 5 → base_of e.machine.cells y + k < e.machine.cells + e.machine.cells + 12
  in_ring y k small = let s = base_most e.machine.cells y in omega arith

  from_in : (k w : ℕ) → k < e.machine.cells + 5 → Near e.machine.cells (ring_in e.machine.cells ws (in_of e.machine.side)) (ring_in e.machine.cells (set ws (base_of e.machine.cells (out_of e.machine.side) + k) w) (in_of e.machine.side))
  from_in k w small = free_near _ ws _ w (in_of e.machine.side) (λ j h g. bases_apart e.machine.cells e.machine.side k j small h)

  from_out : (k w : ℕ) → k < e.machine.cells + 5 → Near e.machine.cells (ring_in e.machine.cells ws (out_of e.machine.side)) (ring_in e.machine.cells (set ws (base_of e.machine.cells (in_of e.machine.side) + k) w) (out_of e.machine.side))
  from_out k w small = free_near _ ws _ w (out_of e.machine.side) (λ j h g i. bases_apart e.machine.cells e.machine.side j k h small (sym i))

  cell_word : (k : ℕ) → get_or ws (base_of e.machine.cells (in_of e.machine.side) + 5 + 8 * k / 8) 0 ≡ ring_in e.machine.cells ws (in_of e.machine.side) (5 + k)
  cell_word k = ap (λ (j : ℕ). get_or ws j 0) (cell_index (base_of e.machine.cells (in_of e.machine.side)) k)

  step_at : (st : Stage) → Starts st → Ends st (next_of (at_stage st e).machine e.packet)
  step_at SendRead r = loaded _ _ (send_read _ _ _ _ e p r _ refl)
  step_at SendCell r =
      let c : ℕ = ahead e.machine.cells e.machine.write e.machine.done in
      let small : 5 + c < e.machine.cells + 5 = let b = ahead_below e.machine.cells e.machine.write e.machine.done r.sound.write (omega (arith, r.sound.done, r.sound.len)) in omega arith in
      rw cell_index (put _ _ _ 0 (in_ring (out_of e.machine.side) (5 + c) small) (store_cell _ _ _ _ e p r _ _ 0 (from_in (5 + c) _ small) (here (out_of e.machine.side) (5 + c) _ small) (else (out_of e.machine.side) (5 + c) _)))
  step_at SendWrite r =
      let small : 0 < e.machine.cells + 5 = omega arith in
      rw (← add-zero (base_of e.machine.cells (out_of e.machine.side))) (put _ _ _ 0 (in_ring (out_of e.machine.side) 0 small) (store_write _ _ _ _ e p r _ _ 0 (from_in 0 _ small) (here (out_of e.machine.side) 0 _ small) (else (out_of e.machine.side) 0 _)))
  step_at SendMask r = loaded _ _ (looked SendMask r _ (λ v. (refl, either _ (eqb (low v) 0) _ _ (moved refl refl refl) (moved refl refl refl))))
  step_at SendLook r = loaded _ _ (looked SendLook r _ (λ v. (refl, either _ (eqb (low v) (8 * e.machine.old)) _ _ (moved refl refl refl) (moved refl refl refl))))
  step_at SendRaise r = signal SendRaise r (peer_of e.machine.side) 1 0 (λ v. (refl, moved refl refl refl))
  step_at TakeWrite r = loaded _ _ (take_write _ _ _ _ e p r _ (ap (λ (k : ℕ). get_or ws k 0) (sym (add-zero (base_of e.machine.cells (in_of e.machine.side))))))
  step_at TakeFirst r = loaded _ _ (take_first _ _ _ _ e p r _ (cell_word e.machine.read))
  step_at TakeCell r = loaded _ _ (take_cell _ _ _ _ e p r _ (cell_word (ahead e.machine.cells e.machine.read e.machine.done)))
  step_at CommitRead r =
      let small : 1 < e.machine.cells + 5 = omega arith in
      put _ _ _ 0 (in_ring (in_of e.machine.side) 1 small) (commit_read _ _ _ _ e p r _ _ 0 (from_out 1 _ small) (here (in_of e.machine.side) 1 _ small) (else (in_of e.machine.side) 1 _))
  step_at CommitFeature r = loaded _ _ (looked CommitFeature r _ (λ v. (refl, either _ (eqb (low v % 2) 1) _ _ (moved refl refl refl) (moved refl refl refl))))
  step_at CommitPending r = loaded _ _ (looked CommitPending r _ (λ v. (refl, either _ (eqb (low v) 0) _ _ (moved refl refl refl) (moved refl refl refl))))
  step_at CommitWrite r = loaded _ _ (looked CommitWrite r _ (λ v. (refl, either _ (makes_room (at_stage CommitWrite e).machine v) _ _ (moved refl refl refl) (moved refl refl refl))))
  step_at CommitRaise r = signal CommitRaise r (peer_of e.machine.side) 1 0 (λ v. (refl, moved refl refl refl))
  step_at ArmPending r = header ArmPending r (out_of e.machine.side) 3 e.machine.want 0 (omega arith) (omega arith) (refl, moved refl refl refl)
  step_at ArmMask r = header ArmMask r (in_of e.machine.side) 2 0 0 (omega arith) (omega arith) (refl, moved refl refl refl)
  step_at ArmWrite r = loaded _ _ (looked ArmWrite r _ (λ v. (refl, either _ (eqb (low v) (8 * e.machine.read)) _ _ (either _ (eqb e.machine.want 0) _ _ (moved refl refl refl) (moved refl refl refl)) (moved refl refl refl))))
  step_at ArmRead r = loaded _ _ (looked ArmRead r _ (λ v. (refl, either _ (finds_room (at_stage ArmRead e).machine v) _ _ (moved refl refl refl) (moved refl refl refl))))
  step_at ArmMark r = loaded _ _ (arm_mark _ _ _ _ e p r _ refl)
  step_at ArmUndoMask r = header ArmUndoMask r (in_of e.machine.side) 2 1 0 (omega arith) (omega arith) (refl, either _ (eqb e.machine.want 0) _ _ (moved refl refl refl) (moved refl refl refl))
  step_at ArmUndoPending r = header ArmUndoPending r (out_of e.machine.side) 3 0 0 (omega arith) (omega arith) (refl, moved refl refl refl)
  step_at PollSignal r = signal PollSignal r e.machine.side 0 _ (λ v. (refl, either _ (eqb v 0) _ _ (moved refl refl refl) (moved refl refl refl)))
  step_at PollMask r = header PollMask r (in_of e.machine.side) 2 1 0 (omega arith) (omega arith) (refl, either _ (eqb e.machine.want 0) _ _ (moved refl refl refl) (moved refl refl refl))
  step_at PollPending r = header PollPending r (out_of e.machine.side) 3 0 0 (omega arith) (omega arith) (refl, moved refl refl refl)
  step_at MarkStore r =
      let at : ℕ = mark_of e.machine.cells e.machine.side in
      let b = behind e.machine.cells e.machine.side in
      let near : (y : Ring) → Near e.machine.cells (ring_in e.machine.cells ws y) (ring_in e.machine.cells (set ws at 1) y) = λ y. free_near _ ws at 1 y (behind_free _ _ y (omega arith)) in
      record {
        moves = mark_store _ _ _ _ e p r 0 _ _ _ (get_or-set_same ws at 1 0 (omega arith)) (near (out_of e.machine.side)) (near (in_of e.machine.side));
        peers = get_or-set_other ws at (mark_of e.machine.cells (peer_of e.machine.side)) 1 0 (marks_apart e.machine.cells e.machine.side);
      }
  step_at MarkRaise r = signal MarkRaise r (peer_of e.machine.side) 1 0 (λ v. (refl, moved refl (λ j. (sym (or-true e.machine.marked) j, e.machine.peer_marked, e.machine.drained)) refl))
  step_at PeerMark r = loaded _ _ (peer_mark _ _ _ _ e p r _ refl)
  step_at _ r = tt

  -- a step of the end on the channel's words
  pub step_kept : Ready (ring_in e.machine.cells ws (out_of e.machine.side)) (ring_in e.machine.cells ws (in_of e.machine.side)) (get_or ws (mark_of e.machine.cells e.machine.side) 0) (get_or ws (mark_of e.machine.cells (peer_of e.machine.side)) 0) e p
      → (op : Op) → next_of e.machine e.packet ≡ Some op → Kept e.machine.cells e.machine.side ws (written e.machine.cells op ws) e p (answer_in e.machine.cells op ws)
  step_kept r op h = subst (Ends e.machine.stage) h (step_at e.machine.stage r)
