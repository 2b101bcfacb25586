-- Plans are the steps of the machine.
use Rattle.std.specs.Prelude.{◌≡◌, ◌≢◌, ◌⊎◌, false, ℕ, ◌+◌, ◌-◌, ◌*◌, ◌/◌, ◌%◌, ◌<◌, ◌≤◌, ◌==◌, ltb, cond, List, [], ◌∷◌, length, slice_index, Some}
use Rattle.ring_machine.specs.declared.machine.Stage.{Stage}
use Rattle.ring_machine.specs.declared.machine.Stage.TheVariants.{Idle, Stopped}
use Rattle.ring_machine.specs.declared.machine.Ending.{Ending}
use Rattle.ring_machine.specs.declared.machine.Ending.TheVariants.{SentQuiet, SentRaised, Took, CommittedQuiet, CommittedRaised, FellAsleep, FoundWork, NoSignal, Woke, Marked}
use Rattle.ring_machine.specs.declared.machine.EndMachine.{EndMachine}
use Rattle.ring_machine.specs.declared.place.Place.TheVariants.{Write, Read, Mask, Pending, Feature, Cell, Mark}
use Rattle.ring_machine.specs.declared.place.Op.TheVariants.{Load, Store, Raise, TakeSignal, StoreMark}
use Rattle.ring_machine.specs.Places.{out_of, in_of, peer_of, used, len8_of, offset8_of}
use Rattle.ring_machine.specs.Steps.{next_of, fed, send_begun, take_begun, commit_begun, arm_begun, poll_begun, mark_begun}
use Rattle.ring_call_plan.specs.Answers.{planned, sent_quiet, sent_raised, committed_quiet, committed_raised, fell_asleep, found_work, found_work_room, no_signal, woke, woke_room, number_of_ending}
use Rattle.ring_call_plan.specs.declared.end.PlanEnd.{PlanEnd}
use Rattle.ring_call_plan.specs.declared.end.SendPlan.{SendPlan}
use Rattle.ring_call_plan.specs.declared.end.TakePlan.{TakePlan}
use Rattle.ring_call_plan.specs.Numbers.{has_room}
use Rattle.ring_call_plan.specs.Shown.{Shows, feds}

-- what a machine says by its answer: that it goes on as planned, or how the call ended
abbrev pub said_at : Stage → Ending → ℕ
said_at Idle how = number_of_ending how
said_at Stopped how = number_of_ending how
said_at _ how = planned

abbrev pub said : EndMachine → ℕ
said m = said_at m.stage m.ended

-- the offset of the k-th cell of two runs: one of `first` cells from byte `at` on, and one from the ring's beginning on
abbrev pub offset_in : ℕ → ℕ → ℕ → ℕ
offset_in at first k = cond (ltb k first) (at + 8 * k) (8 * (k - first))

-- The stores that are left of a send of the packet p are those of the plan, in order: the words of the packet, its trailer, and the write index
pub record StoresBy (m : EndMachine) (p : List ℕ) (q : SendPlan) : Type 0 where
  pub words : (ws : List ℕ) → length ws < length p → next_of (feds m ws) p ≡ Some (Store (Cell (out_of m.side) (offset_in q.at q.first (length ws))) (slice_index p (length ws)))
  pub trailer : (ws : List ℕ) → length ws ≡ length p → next_of (feds m ws) p ≡ Some (Store (Cell (out_of m.side) q.trailer_at) q.trailer)
  pub write : (ws : List ℕ) → length ws ≡ length p + 1 → next_of (feds m ws) p ≡ Some (Store (Write (out_of m.side)) q.write)

-- The answer a, the end e and the plan q are those of a machine that begins a send of k words and loads the read index v
pub record SendBegun (m : EndMachine) (k v a : ℕ) (e : PlanEnd) (q : SendPlan) : Type 0 where
  pub shows : Shows e (fed (send_begun m k) v)
  pub says : a ≡ said (fed (send_begun m k) v)
  pub stores : a ≡ planned → (p : List ℕ) → length p ≡ k → StoresBy (fed (send_begun m k) v) p q

-- A plan of a ring of n cells stores k words and a trailer inside the ring, first those up to its end. The ring holds cells from r to w, and none of these is
-- stored to: the j-th cell lies j past them
pub record SendInside (n w r k : ℕ) (q : SendPlan) : Type 0 where
  pub all : q.first + q.second ≡ k
  pub first : q.at + 8 * q.first ≤ 8 * n
  pub second : 8 * q.second ≤ q.at
  pub trailer : q.trailer_at < 8 * n
  pub write : q.write < 8 * n
  pub whole : (q.at % 8 ≡ 0) × (q.trailer_at % 8 ≡ 0) × (q.write % 8 ≡ 0)
  pub free : (j : ℕ) → j < k → used n r (offset_in q.at q.first j / 8) ≡ used n r w + j
  pub behind : used n r (q.trailer_at / 8) ≡ used n r w + k

-- what a send hears after its stores, the last answer first: the mask, and where it is 0 the read index again
abbrev pub asked : ℕ → ℕ → List ℕ → List ℕ
asked mask v ws = cond (mask == 0) (v ∷ mask ∷ ws) (mask ∷ ws)

-- The answer a and the end e are those of a machine whose send made its stores, which answered ws, and loads the mask x and where that is 0 the read index v
pub record SendEnded (m : EndMachine) (ws : List ℕ) (x v a : ℕ) (e : PlanEnd) : Type 0 where
  pub mask : (p : List ℕ) → next_of (feds m ws) p ≡ Some (Load (Mask (out_of m.side)))
  pub look : x ≡ 0 → (p : List ℕ) → next_of (feds m (x ∷ ws)) p ≡ Some (Load (Read (out_of m.side)))
  pub quiet : a ≡ sent_quiet → Shows e (feds m (asked x v ws)) × ((feds m (asked x v ws)).ended ≡ SentQuiet)
  pub raise : a ≡ sent_raised → (p : List ℕ) → next_of (feds m (asked x v ws)) p ≡ Some (Raise (peer_of m.side))
  pub raised : a ≡ sent_raised → (y : ℕ) → Shows e (feds m (y ∷ asked x v ws)) × ((feds m (y ∷ asked x v ws)).ended ≡ SentRaised)

-- The answer a, the end e and the offset at are those of a machine that begins a take and loads the write index v
pub record TakeBegun (m : EndMachine) (v a : ℕ) (e : PlanEnd) (at : ℕ) : Type 0 where
  pub shows : Shows e (fed (take_begun m) v)
  pub says : a ≡ said (fed (take_begun m) v)
  pub load : a ≡ planned → (p : List ℕ) → next_of (fed (take_begun m) v) p ≡ Some (Load (Cell (in_of m.side) at))

-- The answer a, the end e and the plan q are those of a machine that loads a packet's first word h, and then the rest of its words in order, each once
pub record TakeEnded (m : EndMachine) (h a : ℕ) (e : PlanEnd) (q : TakePlan) : Type 0 where
  pub says : a ≡ said (fed m h)
  pub stops : a ≢ planned → Shows e (fed m h)
  pub form : a ≡ planned → (q.len ≡ len8_of h) × (q.offset ≡ offset8_of h)
  pub loads : a ≡ planned → (ws p : List ℕ) → length ws + 1 < q.len → next_of (feds (fed m h) ws) p ≡ Some (Load (Cell (in_of m.side) (offset_in q.at q.first (length ws))))
  pub took : a ≡ planned → (ws : List ℕ) → length ws + 1 ≡ q.len → Shows e (feds (fed m h) ws) × ((feds (fed m h) ws).ended ≡ Took)

-- A plan of a ring of n cells loads the rest of a packet inside the ring, first the words up to its end, and no cell but those that the ring holds from r to w
pub record TakeInside (n r w : ℕ) (q : TakePlan) : Type 0 where
  pub all : q.first + q.second + 1 ≡ q.len
  pub first : q.at + 8 * q.first ≤ 8 * n
  pub second : 8 * q.second ≤ q.at
  pub offset : (2 ≤ q.offset) × (q.offset ≤ q.len)
  pub whole : q.at % 8 ≡ 0
  pub held : (j : ℕ) → j + 1 < q.len → (used n r (offset_in q.at q.first j / 8) ≡ j + 1) × (j + 1 < used n r w)

-- The end e and the index i are those of a machine that begins a commit
pub record CommitBegun (m : EndMachine) (e : PlanEnd) (i : ℕ) : Type 0 where
  pub shows : Shows e (commit_begun m)
  pub store : (p : List ℕ) → next_of (commit_begun m) p ≡ Some (Store (Read (in_of m.side)) i)

-- what a commit hears after its store, whose answer is x: the feature bits, where bit 0 is set pending, and where that isn't 0 the write index
abbrev pub heard : ℕ → ℕ → ℕ → ℕ → List ℕ
heard f q v x = cond (f % 2 == 1) (cond (q == 0) (q ∷ f ∷ x ∷ []) (v ∷ q ∷ f ∷ x ∷ [])) (f ∷ x ∷ [])

-- The answer a and the end e are those of a machine whose commit stored the read index, and hears these
pub record CommitEnded (m : EndMachine) (f q v a : ℕ) (e : PlanEnd) : Type 0 where
  pub feature : (x : ℕ) (p : List ℕ) → next_of (feds m (x ∷ [])) p ≡ Some (Load (Feature (in_of m.side)))
  pub pending : (f % 2 ≡ 1) → (x : ℕ) (p : List ℕ) → next_of (feds m (f ∷ x ∷ [])) p ≡ Some (Load (Pending (in_of m.side)))
  pub write : (f % 2 ≡ 1) → q ≢ 0 → (x : ℕ) (p : List ℕ) → next_of (feds m (q ∷ f ∷ x ∷ [])) p ≡ Some (Load (Write (in_of m.side)))
  pub quiet : a ≡ committed_quiet → (x : ℕ) → Shows e (feds m (heard f q v x)) × ((feds m (heard f q v x)).ended ≡ CommittedQuiet)
  pub raise : a ≡ committed_raised → (x : ℕ) (p : List ℕ) → next_of (feds m (heard f q v x)) p ≡ Some (Raise (peer_of m.side))
  pub raised : a ≡ committed_raised → (x y : ℕ) → Shows e (feds m (y ∷ heard f q v x)) × ((feds m (y ∷ heard f q v x)).ended ≡ CommittedRaised)

-- The end e is that of a machine that begins an arm which waits for this room: its stores are pending, where room is wanted, and mask 0
pub record ArmBegun (m : EndMachine) (want : ℕ) (e : PlanEnd) : Type 0 where
  pub shows : Shows e (arm_begun m want)
  pub pending : want ≢ 0 → (p : List ℕ) → next_of (arm_begun m want) p ≡ Some (Store (Pending (out_of m.side)) want)
  pub mask : (ws p : List ℕ) → length ws ≡ cond (want == 0) 0 1 → next_of (feds (arm_begun m want) ws) p ≡ Some (Store (Mask (in_of m.side)) 0)

-- What an arm hears after its stores, the last answer first: the write index w, where that shows no packet and room is wanted the read index r, and where
-- neither shows work the mark k
abbrev pub listened : PlanEnd → ℕ → ℕ → ℕ → List ℕ → List ℕ
listened e w r k ws = cond (w == 8 * e.read) (cond (e.want == 0) (k ∷ w ∷ ws) (cond (has_room e r) (r ∷ w ∷ ws) (k ∷ r ∷ w ∷ ws))) (w ∷ ws)

-- The answer a and the end e' are those of a machine whose arm made its stores, which answered ws, and hears these. Where it finds work it stores mask 1,
-- and pending 0 where room was wanted
pub record ArmEnded (e : PlanEnd) (m : EndMachine) (ws : List ℕ) (w r k a : ℕ) (e' : PlanEnd) : Type 0 where
  pub write : (p : List ℕ) → next_of (feds m ws) p ≡ Some (Load (Write (in_of m.side)))
  pub read : w ≡ 8 * e.read → e.want ≢ 0 → (p : List ℕ) → next_of (feds m (w ∷ ws)) p ≡ Some (Load (Read (out_of m.side)))
  pub mark : w ≡ 8 * e.read → e.want ≡ 0 → (p : List ℕ) → next_of (feds m (w ∷ ws)) p ≡ Some (Load (Mark (peer_of m.side)))
  pub mark_room : w ≡ 8 * e.read → e.want ≢ 0 → has_room e r ≡ false → (p : List ℕ) → next_of (feds m (r ∷ w ∷ ws)) p ≡ Some (Load (Mark (peer_of m.side)))
  pub sleeps : a ≡ fell_asleep → Shows e' (feds m (listened e w r k ws)) × ((feds m (listened e w r k ws)).ended ≡ FellAsleep)
  pub mask : (a ≡ found_work) ⊎ (a ≡ found_work_room) → (p : List ℕ) → next_of (feds m (listened e w r k ws)) p ≡ Some (Store (Mask (in_of m.side)) 1)
  pub works : a ≡ found_work → (x : ℕ) → Shows e' (feds m (x ∷ listened e w r k ws)) × ((feds m (x ∷ listened e w r k ws)).ended ≡ FoundWork)
  pub pending : a ≡ found_work_room → (x : ℕ) (p : List ℕ) → next_of (feds m (x ∷ listened e w r k ws)) p ≡ Some (Store (Pending (out_of m.side)) 0)
  pub works_room : a ≡ found_work_room → (x y : ℕ) → Shows e' (feds m (y ∷ x ∷ listened e w r k ws)) × ((feds m (y ∷ x ∷ listened e w r k ws)).ended ≡ FoundWork)

-- The answer a and the end e' are those of a machine that takes its signal, which answers v. Where it was up it stores mask 1, and pending 0 where room was wanted
pub record PollEnded (m : EndMachine) (v a : ℕ) (e' : PlanEnd) : Type 0 where
  pub takes : (p : List ℕ) → next_of (poll_begun m) p ≡ Some (TakeSignal m.side)
  pub sleeps : a ≡ no_signal → Shows e' (fed (poll_begun m) v) × ((fed (poll_begun m) v).ended ≡ NoSignal)
  pub mask : (a ≡ woke) ⊎ (a ≡ woke_room) → (p : List ℕ) → next_of (fed (poll_begun m) v) p ≡ Some (Store (Mask (in_of m.side)) 1)
  pub works : a ≡ woke → (x : ℕ) → Shows e' (feds (poll_begun m) (x ∷ v ∷ [])) × ((feds (poll_begun m) (x ∷ v ∷ [])).ended ≡ Woke)
  pub pending : a ≡ woke_room → (x : ℕ) (p : List ℕ) → next_of (feds (poll_begun m) (x ∷ v ∷ [])) p ≡ Some (Store (Pending (out_of m.side)) 0)
  pub works_room : a ≡ woke_room → (x y : ℕ) → Shows e' (feds (poll_begun m) (y ∷ x ∷ v ∷ [])) × ((feds (poll_begun m) (y ∷ x ∷ v ∷ [])).ended ≡ Woke)

-- The end e is that of a machine that stores its mark, and raises the peer
pub record MarkSaid (m : EndMachine) (e : PlanEnd) : Type 0 where
  pub mark : (p : List ℕ) → next_of (mark_begun m) p ≡ Some (StoreMark m.side)
  pub raise : (x : ℕ) (p : List ℕ) → next_of (feds (mark_begun m) (x ∷ [])) p ≡ Some (Raise (peer_of m.side))
  pub shows : (x y : ℕ) → Shows e (feds (mark_begun m) (y ∷ x ∷ [])) × ((feds (mark_begun m) (y ∷ x ∷ [])).ended ≡ Marked)
