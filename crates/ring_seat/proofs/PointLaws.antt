-- An end's machine has the mask and the wanted room of its point, after each step and where a call begins.
use Rattle.std.proofs.Common.{rules, ◌≡◌, ℕ, Bool, true, false, ◌||◌, not, cond, eqb, List, refl, sym, ap, ◌∙◌, subst, arith, ⊎_elim}
use Rattle.std.proofs.lemmas.Bool.Decides.{nat_tests}
use Rattle.io_edge.specs.declared.side.Side.{Side}
use Rattle.page_kept.specs.declared.due.Due.TheVariants.{Clear}
use Rattle.ring_machine.specs.declared.machine.Stage.{Stage}
use Rattle.ring_machine.specs.declared.machine.Stage.TheVariants.{Idle, Stopped, ArmPending, ArmMask}
use Rattle.ring_machine.specs.declared.machine.EndMachine.{EndMachine}
use Rattle.ring_machine.specs.declared.state.EndState.{EndState}
use Rattle.ring_machine.specs.Steps.{IsSound, fed, fed_at, is_arming_at, is_waking_at, sleeps_at, machine_new, poll_begun}
use Rattle.ring_machine.specs.States.{Begins, BeginsSend, BeginsTake, BeginsCommit, BeginsArm, BeginsPoll, BeginsMark, BeginsPeerMark, MayLend}
use Rattle.ring_machine.specs.Loops.{is_given_at}
use Rattle.ring_pair_laws.specs.Ring.{is_marking_at}
use Rattle.ring_seat.specs.PageRule.{is_unsent_at, is_taking_at}
use Rattle.ring_seat.specs.Points.{AtPoint, is_unmasked_at, pending_at, pending_of}
use Rattle.ring_seat.specs.Waking.{packets_looked_at}

pub awake_at : (m : EndMachine) → IsSound m → (st : Stage) → m.stage ≡ st → sleeps_at st ≡ false → m.asleep ≡ false
awake_at m s st e dozes = by_case m.asleep refl
  where
    by_case : (b : Bool) → m.asleep ≡ b → b ≡ false
    by_case true h = let yes : sleeps_at st ≡ true = sym (ap sleeps_at e) ∙ (s.asleep h).2 in absurd (cc)
    by_case false h = refl

module _ (m : EndMachine) (p : AtPoint m) where
  masked_at : (st : Stage) → m.stage ≡ st → m.masked ≡ not (is_unmasked_at st || m.asleep)
  masked_at st e = p.masked ∙ ap (λ (k : Stage). not (is_unmasked_at k || m.asleep)) e

  want_at : (st : Stage) → m.stage ≡ st → (is_arming_at st || (is_waking_at st || m.asleep)) ≡ false → m.want ≡ 0
  want_at st e h = p.want (ap (λ (k : Stage). is_arming_at k || (is_waking_at k || m.asleep)) e ∙ h)

  module _ (s : IsSound m) (v : ℕ) where
    fed_at_point : (st : Stage) → m.stage ≡ st → AtPoint (fed_at st m v)
    fed_at_point Idle e = p
    fed_at_point Stopped e = p
    fed_at_point _ e =
        let a = masked_at _ e in
        let b = want_at _ e in
        let c = awake_at m s _ e in
        record { masked = search rules; want = first_of (search rules, grind (arith, nat_tests)); polls = search rules }

    pub fed_point : AtPoint (fed m v)
    fed_point = fed_at_point m.stage refl

pub new_point : (n : ℕ) (x : Side) → AtPoint (machine_new x n)
new_point n x = record { masked = refl; want = λ h. refl; polls = λ h. absurd (cc) }

-- A machine k that has begun a call with the packet q from the state e: it has the flags and the indices of the one before, and is at none of the steps that say
-- something of their own
pub record Opens (e : EndState) (k : EndMachine) (q : List ℕ) : Type 0 where
  pub idle : e.machine.stage ≡ Idle
  pub side : k.side ≡ e.machine.side
  pub write : k.write ≡ e.machine.write
  pub start : k.start ≡ e.machine.start
  pub masked : k.masked ≡ e.machine.masked
  pub asleep : k.asleep ≡ e.machine.asleep
  pub marks : (k.marked || is_marking_at k.stage) ≡ (e.machine.marked || is_marking_at e.machine.stage)
  pub shut : packets_looked_at k.stage ≡ false
  pub ungiven : is_given_at k.stage ≡ false
  pub sleeps : e.machine.asleep ≡ true → k ≡ poll_begun e.machine
  pub pending : pending_of k ≡ pending_of e.machine
  pub point : AtPoint k
  pub sends : is_unsent_at k.stage ≡ true → MayLend e q
  pub takes : is_taking_at k.stage ≡ true → e.pages.due ≡ Clear

-- what an end at rest has of its point
record Rests (m : EndMachine) : Type 0 where
  masked : m.masked ≡ not (false || m.asleep)
  want : m.asleep ≡ false → m.want ≡ 0
  pending : m.want ≡ pending_of m
  marks : (m.marked || false) ≡ (m.marked || is_marking_at m.stage)

rests : (m : EndMachine) → AtPoint m → m.stage ≡ Idle → Rests m
rests m p i = record { masked = masked_at m p Idle i; want = want_at m p Idle i; pending = ap (λ (st : Stage). pending_at st m.want) (sym i); marks = ap (λ (st : Stage). m.marked || is_marking_at st) (sym i) }

arms : (e : EndState) (q : List ℕ) (want : ℕ) (b : Bool) → Rests e.machine → e.machine.stage ≡ Idle → eqb want 0 ≡ b → e.machine.asleep ≡ false → Opens e record e.machine { stage = cond b ArmMask ArmPending; len = 0; done = 0; want = want; saw = false } q
arms e q want true r i t a = let z : want ≡ 0 = grind (arith, nat_tests) in search rules
arms e q want false r i t a = search rules

abbrev By : EndState → List ℕ → EndMachine → Type 0
By e q k = Opens e k q

pub begins_opens : (e : EndState) (m : EndMachine) (q : List ℕ) → AtPoint e.machine → Begins e m q → Opens e m q
begins_opens e m q p b =
    ⊎_elim (λ (c : BeginsSend e m q). let r = rests e.machine p c.3.idle in subst (By e q) (sym c.0) (search rules))
    (⊎_elim (λ (c : BeginsTake e m q). let r = rests e.machine p c.2.idle in subst (By e q) (sym c.0) (search rules))
    (⊎_elim (λ (c : BeginsCommit e m q). let r = rests e.machine p c.2.idle in subst (By e q) (sym c.0) (search rules))
    (⊎_elim (λ (c : BeginsArm e m q). subst (By e q) (sym c.1) (arms e q c.0 (eqb c.0 0) (rests e.machine p c.4.idle) c.4.idle refl c.4.awake))
    (⊎_elim (λ (c : BeginsPoll e m q). let r = rests e.machine p c.2 in subst (By e q) (sym c.0) (search rules))
    (⊎_elim (λ (c : BeginsMark e m q). let r = rests e.machine p c.2.idle in subst (By e q) (sym c.0) (search rules))
    (λ (c : BeginsPeerMark e m q). let r = rests e.machine p c.2.idle in subst (By e q) (sym c.0) (search rules))))))) b.1
