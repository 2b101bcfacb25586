-- Each step that an end's machine names is allowed at the table: it keeps the rule, and leaves the end in its next state.
use Rattle.std.proofs.Common.{◌≡◌, ◌≢◌, ℕ, ◌+◌, ◌*◌, ◌<◌, Bool, true, false, ◌||◌, List, [], get_or, set, Option, Some, refl, sym, ap, ◌∙◌, subst, inl, inr, ⊎_elim, arith}
use Rattle.std.proofs.lemmas.List.{set-get_or}
use mathlib.Core.Option.{some, none}
use lib.ListN.{get_elem?}
use Rattle.atomic_table.specs.Table.{State, Me, step, keeps, Allows}
use Rattle.atomic_table.proofs.Lists.{at_set}
use Rattle.io_edge.specs.declared.side.Side.{Side}
use Rattle.io_edge.specs.declared.side.Side.TheVariants.{Guest, Host}
use Rattle.page_kept.specs.declared.page_call.PageCall.{PageCall}
use Rattle.page_kept.specs.declared.page_call.PageCall.TheVariants.{Off, StoreWord, LoadWords}
use Rattle.ring_machine.specs.declared.machine.Stage.{Stage}
use Rattle.ring_machine.specs.declared.machine.Stage.TheVariants.{Stopped}
use Rattle.ring_machine.specs.declared.machine.EndMachine.{EndMachine}
use Rattle.ring_machine.specs.declared.page_core.PageCore.{PageCore}
use Rattle.ring_machine.specs.declared.state.EndState.{EndState}
use Rattle.ring_machine.specs.declared.place.Op.{Op}
use Rattle.ring_machine.specs.declared.place.Op.TheVariants.{Load, Store, Raise, TakeSignal, StoreMark}
use Rattle.ring_machine.specs.PageCalls.{PagesFit, is_call_of, is_paging, is_under_way, newest, page_op, next_in}
use Rattle.ring_machine.specs.Places.{peer_of, index_of, words_of}
use Rattle.ring_machine.specs.Steps.{IsSound, fed, next_of, is_busy_at}
use Rattle.ring_machine.specs.States.{Continues, BeginsSend, BeginsTake, BeginsCommit, BeginsArm, BeginsPoll, BeginsMark, BeginsPeerMark}
use Rattle.ring_machine.proofs.Fitting.{inside_store, inside_load}
use Rattle.ring_core.specs.declared.told.Told.{Told}
use Rattle.ring_core.specs.Told.{written, answer_in, GoesOn}
use Rattle.ring_core.proofs.Performed.{ring_went, page_next}
use Rattle.ring_pair_laws.proofs.Sides.{fed_side}
use Rattle.ring_machine.proofs.Tables.{fed_cells}
use Rattle.ring_seat.proofs.Loading.{fed_count}
use Rattle.ring_seat.proofs.PageLists.{stepped_pages}
use Rattle.ring_seat.proofs.Sided.{invariant_of}
use Rattle.ring_seat.proofs.WholeLaws.{rule_of}
use Rattle.ring_seat.specs.Whole.{WholeRule}
use Rattle.ring_seat.specs.PageRule.{ring_words}
use Rattle.ring_loan_rule.proofs.Counts.{by_test}
use Rattle.page_kept.specs.Stepped.{with_call}
use Rattle.ring_seat.specs.declared.view.View.{View}
use Rattle.ring_seat.specs.declared.view.View.TheVariants.{Both, One, Spent}
use Rattle.ring_seat.specs.Seats.{Knows, Holds, IsLoading, states, Making, made, word_at, stored_by, IsOp, IsNamed, Tells}
use Rattle.ring_seat.proofs.Counting.{with_told, each_told, states_with, signals_with}
use Rattle.ring_seat.proofs.Known.{Known, Goes, known_of, at_told, made_known, the_op}
use Rattle.ring_seat.proofs.OneEnd.{lawful_of}
use Rattle.ring_seat.proofs.Places.{word_small, page_small}

-- what the word of a step becomes, and what the machine is fed, by the value that was there
abbrev pub becomes : Op → ℕ → ℕ
becomes (Load p) w = w
becomes (Store p v) w = v
becomes (Raise x) w = 1
becomes (TakeSignal x) w = 0
becomes (StoreMark x) w = 1

abbrev pub answers : Op → ℕ → ℕ
answers (Load p) w = w
answers (Store p v) w = 0
answers (Raise x) w = 0
answers (TakeSignal x) w = w
answers (StoreMark x) w = 0

written_is : (n : ℕ) (op : Op) (ws : List ℕ) → written n op ws ≡ set ws (word_at n op) (becomes op (get_or ws (word_at n op) 0))
written_is n (Load p) ws = sym (set-get_or ws (index_of n p) 0)
written_is n _ ws = refl

answer_is : (n : ℕ) (op : Op) (ws : List ℕ) → answer_in n op ws ≡ answers op (get_or ws (word_at n op) 0)
answer_is n (Load p) ws = refl
answer_is n _ ws = refl

-- what is told after a step of one of them
end_here : (x : Side) (u : Told) (ends : Side → Told) → with_told x u ends x ≡ u
end_here Guest u ends = refl
end_here Host u ends = refl

end_else : (x y : Side) (u : Told) (ends : Side → Told) → y ≢ x → with_told x u ends y ≡ ends y
end_else Guest Guest u ends ne = absurd (ne refl)
end_else Guest Host u ends ne = refl
end_else Host Guest u ends ne = refl
end_else Host Host u ends ne = absurd (ne refl)

either_seat : (seat : Side → ℕ) (j : ℕ) (x : Side) → j ≡ seat Guest → j ≡ seat Host → j ≡ seat x
either_seat seat j Guest a b = a
either_seat seat j Host a b = b

module _ (ends : Side → Told) (seat : Side → ℕ) (id : ℕ) (x : Side) (u : Told) (here : id ≡ seat x) where
  others : (j : ℕ) (v : View) → j ≢ id → Knows ends seat j v → Knows (with_told x u ends) seat j v
  others j (Both g h) ne k = absurd (ne (either_seat seat j x k.2 k.3 ∙ sym here))
  others j (One a) ne k = (k.0 ∙ sym (end_else x a.state.machine.side u ends (λ same. ne (k.1 ∙ (ap seat same ∙ sym here)))), k.1)
  others j Spent ne k = tt

  mine : u.state.machine.side ≡ x → Knows (with_told x u ends) seat id (One u)
  mine side = (sym (end_here x u ends) ∙ ap (with_told x u ends) (sym side), here ∙ ap seat (sym side))

  pub views_kept : (views : List View) → u.state.machine.side ≡ x → ((j : ℕ) (v : View) → get_elem? views j ≡ some v → Knows ends seat j v)
      → (j : ℕ) (v : View) → get_elem? (set views id (One u)) j ≡ some v → Knows (with_told x u ends) seat j v
  views_kept views side knows j v at =
      ⊎_elim (λ (t : (j ≡ id) × (One u ≡ v)). subst (λ (k : ℕ × View). Knows (with_told x u ends) seat k.0 k.1) (λ i. (sym t.0 i, t.1 i)) (mine side))
      (λ (t : (j ≢ id) × (get_elem? views j ≡ some v)). others j v t.0 (knows j v t.1)) (at_set views id j (One u) v at)

-- the table's state after one of them made a step
pub holds_with : (n c id : ℕ) (s : State (Unit {0}) View) (x : Side) (u : Told) (ws : List ℕ) (it : Holds n c s) → id ≡ it.seat x → Known n c x ws u (it.ends (peer_of x)) → Holds n c record { words = ws; homes = s.homes; views = set s.views id (One u) }
holds_with n c id s x u ws it here k = record {
  ends = with_told x u it.ends;
  seat = it.seat;
  seats = views_kept it.ends it.seat id x u here s.views k.rings.sided.both.fits.side it.seats;
  channel = subst (WholeRule n c ws) (λ i y. states_with x u it.ends y i)
      (record { rings = invariant_of n x (ring_words n ws) u.state (states it.ends) k.rings.sided; pages = λ some. rule_of n c ws (states it.ends) x u.state (it.channel.pages some).own (k.pages some) });
  counts = each_told (λ (y : Side) (t : Told). t.state.pages.count ≡ c) x u it.ends k.count it.counts;
  loads = λ some. each_told (λ (y : Side) (t : Told). IsLoading t.state.pages.call t.state.pages.due) x u it.ends (k.loads some) (it.loads some);
  signals = signals_with n x _ u it.ends k.rings;
}

-- one step of the end that the view id tells of
pub allowed : (n c slots id : ℕ) (k : Making) (op : Op) → Goes c k op → Allows (Holds n c) slots id (One k.told, []) (word_at n op) (becomes op) (λ f me. Tells k (answers op f) me)
allowed n c slots id k op go s it deep at small =
    let x : Side = k.told.state.machine.side in
    let p : Told = it.ends (peer_of x) in
    let v : ℕ = answers op (get_or s.words (word_at n op) 0) in
    let new : Known n c x (set s.words (word_at n op) (becomes op (get_or s.words (word_at n op) 0))) (made k v) p × ((fed k.machine v).stage ≢ Stopped) =
    subst (λ (z : List ℕ × ℕ). Known n c x z.0 (made k z.1) p × ((fed k.machine z.1).stage ≢ Stopped)) (λ j. (written_is n op s.words j, answer_is n op s.words j)) (made_known n c x s.words k p op (known_of n c id s k.told it at) go) in (
      One (made k v),
      keeps,
      tt,
      holds_with n c id s x (made k v) _ it (it.seats id (One k.told) at).1 new.0,
      (refl, new.1, lawful_of n c x _ (made k v) p new.0),
    )

-- what a step asks of the table
asks : (n c slots id : ℕ) (me : Me (Unit {0}) View) (base k : Making) → me ≡ (One k.told, []) → base ≡ k → n ≡ k.machine.cells → (op : Op) → Goes c k op → next_in k.machine k.call k.packet ≡ Some op → (i : ℕ) → i ≡ word_at k.machine.cells op
    → Allows (Holds n c) slots id me i (becomes op) (λ f now. IsNamed base (step slots i (stored_by op) 0 none) × Tells base (answers op f) now)
asks n c slots id me base k view is sized op go named_op i at =
    subst (λ (z : Me (Unit {0}) View × Making × ℕ). Allows (Holds n c) slots id z.0 z.2 (becomes op) (λ f now. IsNamed z.1 (step slots z.2 (stored_by op) 0 none) × Tells z.1 (answers op f) now))
    (λ j. (sym view j, sym is j, (ap (λ (d : ℕ). word_at d op) sized ∙ sym at) j)) here
  where
    named : IsNamed k (step slots (word_at n op) (stored_by op) 0 none)
    named = subst (λ (o : Option Op). IsOp k.machine.cells o (step slots (word_at n op) (stored_by op) 0 none)) (sym named_op) (ap (λ (d : ℕ). word_at d op) sized, refl)

    here : Allows (Holds n c) slots id (One k.told, []) (word_at n op) (becomes op) (λ f now. IsNamed k (step slots (word_at n op) (stored_by op) 0 none) × Tells k (answers op f) now)
    here s it deep at_id small =
        let r = allowed n c slots id k op go s it deep at_id small in
        (r.0, r.1, r.2, r.3, (named, r.4))

-- the word of each step stands in the table
page_word : (n c : ℕ) (d : PageCall) (op : Op) → is_call_of c d ≡ true → page_op d ≡ Some op → word_at n op < words_of n + 512 * c
page_word n c Off op h e = absurd (cc)
page_word n c (StoreWord q w v) op h e = let z = inside_store c q w v h in subst (λ (o : Op). word_at n o < words_of n + 512 * c) (ap the_op e) (page_small n c q w z.0 z.1)
page_word n c (LoadWords q m j) op h e = let z = inside_load c q m j h in subst (λ (o : Op). word_at n o < words_of n + 512 * c) (ap the_op e) (page_small n c q j z.0 (omega (arith, z.1, z.2)))

op_small : (c : ℕ) (k : Making) (op : Op) → IsSound k.machine → Goes c k op → word_at k.machine.cells op < words_of k.machine.cells + 512 * c
op_small c k op sound g =
    by_test (is_busy_at k.machine.stage) (λ e. let z = word_small k.machine k.packet op (word_at k.machine.cells op) (words_of k.machine.cells) sound (g.ring e) refl refl in omega (arith, z))
    (λ e. page_word k.machine.cells c k.call op g.call (g.page e))

-- a page call of a channel of as many pages
pub call_in : (a c : ℕ) (d : PageCall) → is_call_of a d ≡ true → (is_paging d ≡ true → a ≡ c) → is_call_of c d ≡ true
call_in a c Off h e = refl
call_in a c d h e = subst (λ (b : ℕ). is_call_of b d ≡ true) (e refl) h

-- what is under way, where no call of the rings is, is a page call
pub paging_of : (st : Stage) (d : PageCall) → is_under_way st d ≡ true → is_busy_at st ≡ false → is_paging d ≡ true
paging_of st d h e = sym (ap (λ (b : Bool). b || is_paging d) e) ∙ h

-- a machine that goes on from a state, or begins a call there, is of the same end
pub continues_side : (e : EndState) (m : EndMachine) (q : List ℕ) → Continues e m q → m.side ≡ e.machine.side
continues_side e m q (inl c) = ap (λ (k : EndMachine). k.side) c.0
continues_side e m q (inr c) =
    ⊎_elim (λ (b : BeginsSend e m q). ap (λ (k : EndMachine). k.side) b.0)
    (⊎_elim (λ (b : BeginsTake e m q). ap (λ (k : EndMachine). k.side) b.0)
    (⊎_elim (λ (b : BeginsCommit e m q). ap (λ (k : EndMachine). k.side) b.0)
    (⊎_elim (λ (b : BeginsArm e m q). ap (λ (k : EndMachine). k.side) b.1)
    (⊎_elim (λ (b : BeginsPoll e m q). ap (λ (k : EndMachine). k.side) b.0)
    (⊎_elim (λ (b : BeginsMark e m q). ap (λ (k : EndMachine). k.side) b.0) (λ (b : BeginsPeerMark e m q). ap (λ (k : EndMachine). k.side) b.0)))))) c.1

-- what a step leaves of an end's side, of its cells and of its pages
pub record Stays (old new : EndState) : Type 0 where
  pub side : new.machine.side ≡ old.machine.side
  pub cells : new.machine.cells ≡ old.machine.cells
  pub count : new.pages.count ≡ old.pages.count

pub made_stays : (k : Making) (v : ℕ) → GoesOn (is_busy_at k.machine.stage) k.told.state k.machine k.call k.packet → k.machine.cells ≡ k.told.state.machine.cells → Stays k.told.state (made k v).state
made_stays k v go fits =
    at_told (λ (t : Told). Stays k.told.state t.state) (is_busy_at k.machine.stage) k.told k.machine k.call k.packet v
    (λ e. record {
      side = fed_side k.machine v k.machine.stage ∙ continues_side k.told.state k.machine k.packet (ring_went _ k.told.state k.machine k.call k.packet e go);
      cells = fed_cells k.machine v k.machine.stage ∙ fits;
      count = (stepped_pages k.machine.stage k.machine k.told.state.pages k.packet k.told.state.copied v).count;
    })
    (λ e. record { side = refl; cells = refl; count = fed_count k.call (with_call k.call k.told.state.pages) (newest k.told.state.got) v })

-- what a call on the table requires, which makes the next step of the end that the seat tells of
pub calls : {T : Type 0} {table board : T} (words n c slots id : ℕ) (me : Me (Unit {0}) View) (base : Making) (told : Told) (core : PageCore) (m : EndMachine) (p : List ℕ) (next : Option Op) (op : Op) (i : ℕ) → table ≡ board → (words ≡ words_of m.cells + 512 * c) × (n ≡ m.cells)
    → me ≡ (One told, []) → base ≡ record { told = told; machine = m; call = core.call; packet = p } → IsSound m → PagesFit core m.stage → is_under_way m.stage core.call ≡ true → (is_paging core.call ≡ true → core.count ≡ c) → GoesOn (is_busy_at m.stage) told.state m core.call p
    → (is_busy_at m.stage ≡ true → next ≡ next_of m p) → next ≡ next_in m core.call p → next ≡ Some op → i ≡ word_at m.cells op
    → (table ≡ board) × (i < words) × Allows (Holds n c) slots id me i (becomes op) (λ f now. IsNamed base (step slots i (stored_by op) 0 none) × Tells base (answers op f) now)
calls words n c slots id me base told core m p next op i seated sized view is sound fit way pages on rings whole named at = (
  seated,
  (let z = op_small c k op sound go in omega (arith, z, at, sized.0)),
  asks n c slots id me base k view is sized.1 op go (sym whole ∙ named) i at,
)
  where
    k : Making
    k = record { told = told; machine = m; call = core.call; packet = p }

    go : Goes c k op
    go = record {
      goes_on = on;
      call = call_in core.count c core.call fit.call pages;
      idle = λ e. fit.idle (paging_of m.stage core.call way e);
      ring = λ b. sym (rings b) ∙ named;
      page = λ e. sym (page_next m core.call p e) ∙ (sym whole ∙ named);
    }
