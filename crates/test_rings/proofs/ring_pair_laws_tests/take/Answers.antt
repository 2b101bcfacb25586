use Rattle.std.proofs.Common.{◌≡◌, ℕ, List, [], ◌∷◌, ◌++◌, length, Option, None, Result, Ok, Err, IfOk, refl, ap, ◌∙◌}
use Rattle.ring_machine.specs.declared.last.TakeRefusal.{TakeRefusal}
use Rattle.ring_machine.specs.Endings.{refused}
use Rattle.ring_machine.specs.States.{IsPacket}
use Rattle.ring_core.specs.Seen.{Seen}
use Rattle.ring_core.specs.Taking.{Takes}
use Rattle.ring_core.specs.Told.{Held, tells_memory}
use Rattle.ring_pair_laws.specs.Calls.{TakeSays}
use Rattle.test_rings.proofs.ring_pair_laws_tests.take.Goals as goal

-- what a take says, but that the memory keeps its pages
bare : {old new : Seen Held} {r : Option TakeRefusal} → Takes Held (λ _. None) (λ (k : Held). tells_memory k.memory) (λ (k l : Held). l.pages ≡ k.pages) old new r
    → Takes Held (λ _. None) (λ (k : Held). tells_memory k.memory) (λ _ _. Unit {0}) old new r
bare t = record { idle = t.idle; stopped = t.stopped; honest = t.honest; same_seat = tt; cells = t.cells; side = t.side; kept = t.kept; awake = t.awake; room = t.room }

-- a take by the words that it lends
says : {T : Type 0} (words : T → List ℕ) (old new : Seen Held) (result : Result T TakeRefusal) → Takes Held (λ _. None) (λ (k : Held). tells_memory k.memory) (λ (k l : Held). l.pages ≡ k.pages) old new (refused result)
    → IfOk result (λ t. IsPacket (words t) × (length (words t) ≡ new.state.machine.len) × (new.state.got ≡ old.state.got ++ words t ∷ []))
    → (r : Result (List ℕ) TakeRefusal) × (refused r ≡ refused result) × TakeSays old new r
says words old new (Ok t) takes lends = (Ok (words t), refl, record { takes = bare takes; lends = lends })
says words old new (Err e) takes lends = (Err e, refl, record { takes = bare takes; lends = lends })

pub returns-in-Ok : goal.returns-in-Ok
returns-in-Ok c =
    let s = says _ c.args.e.now c.take.follows.lender-at-none c.take.result c.take.follows.holds-at-none.0 c.take.follows.holds-at-none.2 in
    (s.0, s.1 ∙ ap refused c.in-Ok.is, s.2)

pub returns-in-Err : goal.returns-in-Err
returns-in-Err c =
    let s = says _ c.args.e.now c.take.follows.lender-at-none c.take.result c.take.follows.holds-at-none.0 c.take.follows.holds-at-none.2 in
    (s.0, s.1 ∙ ap refused c.in-Err.is, s.2)
