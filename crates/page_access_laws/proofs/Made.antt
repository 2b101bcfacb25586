-- What accesses of the rings make of the pages of an end, and of the packets that it got.
use Rattle.std.proofs.Common.{◌≡◌, ℕ, zero, suc, ◌==◌, Bool, true, false, cond, List, [], ◌∷◌, length, Option, Some, None, refl, ap, ◌∙◌}
use Rattle.io_edge.specs.declared.side.Side.{Side}
use Rattle.pkt_desc.specs.Packets.{kind_of, id_of}
use Rattle.page_kept.specs.declared.kept.Kept.{Kept}
use Rattle.page_kept.specs.Kept.{first_page, gives_back, has_back, holds_now, is_held, is_lent, lends_out, pages_sent, pages_took}
use Rattle.page_kept.specs.Layouts.{Layout, Loan, layout}
use Rattle.ring_machine.specs.declared.machine.EndMachine.{EndMachine}
use Rattle.ring_machine.specs.declared.machine.Stage.{Stage}
use Rattle.ring_machine.specs.declared.machine.Stage.TheVariants.{TakeCell}
use Rattle.ring_machine.specs.declared.place.Op.{Op}
use Rattle.ring_machine.specs.declared.place.Op.TheVariants.{Load, Store}
use Rattle.ring_machine.specs.declared.place.Place.TheVariants.{Cell, Mask, Read, Write}
use Rattle.ring_machine.specs.declared.place.Ring.{Ring}
use Rattle.ring_machine.specs.declared.state.EndState.{EndState}
use Rattle.ring_machine.specs.Places.{out_of}
use Rattle.ring_machine.specs.States.{afters, got_after, pages_after}
use Rattle.ring_machine.specs.Steps.{fed, is_busy_at, next_at}
use Rattle.ring_pair_laws.proofs.Sides.{fed_side}
use Rattle.ring_call_plan.specs.declared.end.SendPlan.{SendPlan}
use Rattle.ring_call_plan.proofs.Parts.{true_is}
use Rattle.ring_call_plan_laws.specs.Accesses.{Access, AreStepsFrom, answers, loaded, stores_after}
use Rattle.ring_call_plan_laws.specs.Whole.{raise_after, send_stores}
use Rattle.ring_call_plan_laws.proofs.Walks.{busy_by, copied_over}

-- the step stores a write index, and so sends a packet; or it loads a cell
abbrev commits : Option Op → Bool
commits (Some (Store (Write r) v)) = true
commits _ = false

abbrev takes_cell : Option Op → Bool
takes_cell (Some (Load (Cell r o))) = true
takes_cell _ = false

step_at : (st : Stage) (m : EndMachine) (p : List ℕ) (k : Kept) (g : List (List ℕ)) (xs : List ℕ) (v : ℕ) → takes_cell (next_at st m p) ≡ false
    → (pages_after st m k p xs v ≡ cond (commits (next_at st m p)) (pages_sent (layout k.count) k p) k) × (got_after st m g xs v ≡ g)
step_at TakeCell m p k g xs v h = absurd (cc)
step_at _ m p k g xs v h = (refl, refl)

-- none of these loads a cell
abbrev pub NoCells : List Access → Type 0
NoCells [] = Unit {0}
NoCells (a ∷ acts) = (takes_cell (Some a.op) ≡ false) × NoCells acts

-- the pages after them, where the packet p is sent
abbrev pub pages_made : List ℕ → Kept → List Access → Kept
pages_made p k [] = k
pages_made p k (a ∷ acts) = cond (commits (Some a.op)) (pages_sent (layout (pages_made p k acts).count) (pages_made p k acts) p) (pages_made p k acts)

-- the packet stays as long as the call is under way
packet_kept : (s : EndState) (acts : List Access) → AreStepsFrom s acts → is_busy_at (afters s (answers acts)).machine.stage ≡ true → (afters s (answers acts)).packet ≡ s.packet
packet_kept s [] h b = refl
packet_kept s (a ∷ acts) h b =
    let t : EndState = afters s (answers acts) in
    true_is (is_busy_at (fed t.machine a.gave).stage) t.packet [] b ∙ packet_kept s acts h.1 (busy_by t.machine t.packet a.op h.0)

pub makes : (s : EndState) (acts : List Access) → AreStepsFrom s acts → NoCells acts → ((afters s (answers acts)).pages ≡ pages_made s.packet s.pages acts) × ((afters s (answers acts)).got ≡ s.got)
makes s [] h n = (refl, refl)
makes s (a ∷ acts) h n =
    let t : EndState = afters s (answers acts) in
    let before = makes s acts h.1 n.1 in
    let step = step_at t.machine.stage t.machine t.packet t.pages t.got t.copied a.gave (ap takes_cell h.0 ∙ n.0) in
    let packet : t.packet ≡ s.packet = packet_kept s acts h.1 (busy_by t.machine t.packet a.op h.0) in (
      step.0 ∙ (λ i. cond (commits (h.0 i)) (pages_sent (layout (before.0 i).count) (before.0 i) (packet i)) (before.0 i)),
      step.1 ∙ before.1,
    )

-- what accesses make of the pages k
abbrev pub Makes : List ℕ → Kept → List Access → Kept → Type 0
Makes p k acts k' = NoCells acts × (pages_made p k acts ≡ k')

words_make : (p : List ℕ) (k : Kept) (r : Ring) (v at first : ℕ) (q : List ℕ) (j : ℕ) → Makes p k (stores_after (loaded (Read r) v ∷ []) r at first q j) k
words_make p k r v at first q zero = ((refl, tt), refl)
words_make p k r v at first q (suc j) = let before = words_make p k r v at first q j in ((refl, before.0), before.1)

stores_make : (p : List ℕ) (k : Kept) (y : Side) (q : SendPlan) (v : ℕ) → Makes p k (send_stores y q p v) (pages_sent (layout k.count) k p)
stores_make p k y q v =
    let before = words_make p k (out_of y) v q.at q.first p (length p) in
    ((refl, (refl, before.0)), ap (λ (j : Kept). pages_sent (layout j.count) j p) before.1)

-- a send whose packet the ring took
pub send_makes : (p : List ℕ) (k : Kept) (y : Side) (q : SendPlan) (v x w : ℕ) (b c : Bool)
    → Makes p k (raise_after y b (cond c (loaded (Read (out_of y)) w ∷ loaded (Mask (out_of y)) x ∷ send_stores y q p v) (loaded (Mask (out_of y)) x ∷ send_stores y q p v))) (pages_sent (layout k.count) k p)
send_makes p k y q v x w true true = let h = stores_make p k y q v in ((refl, (refl, (refl, h.0))), h.1)
send_makes p k y q v x w true false = let h = stores_make p k y q v in ((refl, (refl, h.0)), h.1)
send_makes p k y q v x w false true = let h = stores_make p k y q v in ((refl, (refl, h.0)), h.1)
send_makes p k y q v x w false false = let h = stores_make p k y q v in ((refl, h.0), h.1)

-- an end that isn't in a call copies nothing
pub clear_after : (s : EndState) (vs : List ℕ) → s.copied ≡ [] → is_busy_at (afters s vs).machine.stage ≡ false → (afters s vs).copied ≡ []
clear_after s [] c n = c
clear_after s (v ∷ vs) c n = copied_over (afters s vs).machine.stage (fed (afters s vs).machine v) (afters s vs).copied v n

pub side_after : (s : EndState) (vs : List ℕ) → (afters s vs).machine.side ≡ s.machine.side
side_after s [] = refl
side_after s (v ∷ vs) = fed_side (afters s vs).machine v (afters s vs).machine.stage ∙ side_after s vs

-- a send and a take leave the call on page words
either_call : (b : Bool) (j k k' : Kept) → j.call ≡ k'.call → k.call ≡ k'.call → (cond b j k).call ≡ k'.call
either_call true j k k' e f = e
either_call false j k k' e f = f

gives_call : (k : Kept) (p : List ℕ) (o : Option ℕ) → (gives_back k p o).call ≡ k.call
gives_call k p None = refl
gives_call k p (Some q) = refl

lends_call : (k : Kept) (p : List ℕ) (o : Option Loan) → (lends_out k p o).call ≡ k.call
lends_call k p None = refl
lends_call k p (Some a) = refl

pub sent_call : (l : Layout) (k : Kept) (p : List ℕ) → (pages_sent l k p).call ≡ k.call
sent_call l k p =
    either_call (k.count == 0) k (cond (kind_of p == 11) (gives_back k p (first_page (is_held (id_of p)) 0 k.owners)) (lends_out k p (l.lends p))) k refl
    (either_call (kind_of p == 11) (gives_back k p (first_page (is_held (id_of p)) 0 k.owners)) (lends_out k p (l.lends p)) k (gives_call k p (first_page (is_held (id_of p)) 0 k.owners)) (lends_call k p (l.lends p)))

back_call : (k : Kept) (p : List ℕ) (o : Option ℕ) → (has_back k p o).call ≡ k.call
back_call k p None = refl
back_call k p (Some q) = refl

holds_call : (k : Kept) (p : List ℕ) (o : Option Loan) → (holds_now k p o).call ≡ k.call
holds_call k p None = refl
holds_call k p (Some a) = either_call _ _ _ k refl refl

pub took_call : (l : Layout) (k : Kept) (p : List ℕ) → (pages_took l k p).call ≡ k.call
took_call l k p =
    either_call (k.count == 0) k (cond (kind_of p == 11) (has_back k p (first_page (is_lent (id_of p)) 0 k.owners)) (holds_now k p (l.lends p))) k refl
    (either_call (kind_of p == 11) (has_back k p (first_page (is_lent (id_of p)) 0 k.owners)) (holds_now k p (l.lends p)) k (back_call k p (first_page (is_lent (id_of p)) 0 k.owners)) (holds_call k p (l.lends p)))
