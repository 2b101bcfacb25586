-- What holds through the steps of an end, on a memory that nobody else changes.
use Rattle.std.proofs.Common.{◌≡◌, ℕ, zero, suc, List, [], length, Option, Some, None, refl, sym, ◌∙◌, subst}
use Rattle.io_edge.specs.declared.side.Side.{Side}
use Rattle.ring_machine.specs.declared.machine.Stage.{Stage}
use Rattle.ring_machine.specs.declared.machine.EndMachine.{EndMachine}
use Rattle.ring_machine.specs.declared.state.EndState.{EndState}
use Rattle.ring_machine.specs.declared.place.Op.{Op}
use Rattle.ring_machine.specs.Steps.{fed, next_of}
use Rattle.ring_machine.specs.States.{after}
use Rattle.ring_core.specs.Told.{Memory, Pair, pair, step, step_by, run, written, answer_in, Ran, tells_memory}
use Rattle.ring_machine.proofs.Tables.{fed_cells}
use Rattle.ring_pair_laws.proofs.Sides.{fed_side}

module _ (K : EndState → List ℕ → Type 0)
    (keeps : (e : EndState) (ws : List ℕ) (op : Op) → K e ws → next_of e.machine e.packet ≡ Some op → K (after e (answer_in e.machine.cells op ws)) (written e.machine.cells op ws)) where
  -- K holds of the state and of the words
  pub record Stands (y : Pair) : Type 0 where
    pub alone : y.memory.due ≡ []
    pub holds : K y.state y.memory.words

  stands_by : (e : EndState) (ws : List ℕ) (steps : ℕ) → K e ws → (o : Option Op) → next_of e.machine e.packet ≡ o → Stands (step_by o (pair e record { words = ws; steps = steps; due = [] }))
  stands_by e ws steps k None h = record { alone = refl; holds = k }
  stands_by e ws steps k (Some op) h = record { alone = refl; holds = keeps e ws op k h }

  step_stands : (y : Pair) → Stands y → Stands (step y)
  step_stands y it =
      subst (λ (z : Pair). Stands (step z)) (λ i. record { state = y.state; memory = record { words = y.memory.words; steps = y.memory.steps; due = sym it.alone i } })
      (stands_by y.state y.memory.words y.memory.steps it.holds (next_of y.state.machine y.state.packet) refl)

  run_stands : (k : ℕ) (y : Pair) → Stands y → Stands (run k y)
  run_stands zero y it = it
  run_stands (suc k) y it = step_stands (run k y) (run_stands k y it)

  -- what holds at the end of a call
  pub call_keeps : (b t : EndState) (memory memory' : Memory) → Ran b t None None (tells_memory memory) (tells_memory memory') → memory.due ≡ [] → K b memory.words → Stands (pair t memory')
  call_keeps b t memory memory' ran alone k =
      let r = ran.runs memory refl in
      subst (λ (m : Memory). Stands (pair t m)) (sym (some_is memory' r.0 r.1)) (subst Stands r.2 (run_stands (length ran.values) (pair b memory) (record { alone = alone; holds = k })))
    where
      some_is : (a b : Memory) → Some a ≡ Some b → a ≡ b
      some_is a b i = cc

-- what holds after the next step of a machine, if it makes one
abbrev pub Next : (EndMachine → List ℕ → Type 0) → EndMachine → List ℕ → Option Op → Type 0
Next K m ws None = Unit {0}
Next K m ws (Some op) = K (fed m (answer_in m.cells op ws)) (written m.cells op ws)

module _ (K : ℕ → Side → EndMachine → List ℕ → Type 0)
    (keeps : (m : EndMachine) (q ws : List ℕ) (st : Stage) → K m.cells m.side (record m { stage = st }) ws → Next (K m.cells m.side) (record m { stage = st }) ws (next_of (record m { stage = st }) q))
    (n : ℕ) (x : Side) where
  -- a machine of this side and these cells knows K of the words
  abbrev Knows : EndState → List ℕ → Type 0
  Knows e ws = (e.machine.side ≡ x) × (e.machine.cells ≡ n) × K n x e.machine ws

  knows : (e : EndState) (ws : List ℕ) (op : Op) → Knows e ws → next_of e.machine e.packet ≡ Some op → Knows (after e (answer_in e.machine.cells op ws)) (written e.machine.cells op ws)
  knows e ws op k h = (
    fed_side e.machine _ e.machine.stage ∙ k.0,
    fed_cells e.machine _ e.machine.stage ∙ k.1,
    subst (λ (j : ℕ × Side). K j.0 j.1 e.machine ws → K j.0 j.1 (fed e.machine (answer_in e.machine.cells op ws)) (written e.machine.cells op ws)) (λ j. (k.1 j, k.0 j))
        (λ it. subst (Next (K e.machine.cells e.machine.side) e.machine ws) h (keeps e.machine e.packet ws e.machine.stage it)) k.2,
  )

  -- what it knows at the end of a call
  pub call_knows : (b t : EndState) (memory memory' : Memory) → Ran b t None None (tells_memory memory) (tells_memory memory') → memory.due ≡ [] → b.machine.side ≡ x → b.machine.cells ≡ n → K n x b.machine memory.words → K n x t.machine memory'.words
  call_knows b t memory memory' ran alone side cells k = (call_keeps Knows knows b t memory memory' ran alone (side, cells, k)).holds.2
