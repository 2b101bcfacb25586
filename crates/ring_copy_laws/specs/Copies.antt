-- The packets that an end got, as copies that its takes made.
use Rattle.std.specs.Prelude.{◌≡◌, ◌⊎◌, ℕ, zero, suc, ◌+◌, ◌*◌, ◌≤◌, List, [], ◌∷◌, ◌++◌, length, reverse, Some}
use Rattle.ring_machine.specs.declared.last.Why.{Why}
use Rattle.ring_machine.specs.declared.machine.EndMachine.{EndMachine}
use Rattle.ring_machine.specs.declared.place.Op.TheVariants.{Load}
use Rattle.ring_machine.specs.declared.place.Place.{Place}
use Rattle.ring_machine.specs.declared.place.Place.TheVariants.{Cell, Write}
use Rattle.ring_machine.specs.declared.state.EndState.{EndState}
use Rattle.ring_machine.specs.Places.{ahead, cell_of, in_of, used}
use Rattle.ring_machine.specs.States.{IsPacket, afters, entered}
use Rattle.ring_machine.specs.Steps.{next_of, take_begun}
use Rattle.ring_core.specs.Refused.{BreaksIn}
use Rattle.ring_end_history.specs.Calls.{CallsLead, Leads, PageLoads, PageStores, RingSteps, TakeCall, WholeCall, begun, packet_in}

-- what the steps of a take load, in order: the write index, and then the cells from the read index on, one after another
abbrev pub place_at : EndMachine → ℕ → Place
place_at m zero = Write (in_of m.side)
place_at m (suc zero) = Cell (in_of m.side) (8 * m.read)
place_at m (suc (suc j)) = Cell (in_of m.side) (8 * ahead m.cells m.read (suc j))

-- each of these answers, the last one first, was loaded from its place by the take that the machine m began at the state s
abbrev pub AreLoaded : EndMachine → EndState → List ℕ → Type 0
AreLoaded m s [] = Unit {0}
AreLoaded m s (v ∷ vs) = (next_of (afters s vs).machine [] ≡ Some (Load (place_at m (length vs)))) × AreLoaded m s vs

-- The call c, that began at the state u, made a copy of the packet p: it is a take that loaded the write index, and then each word of p once, in order, from the
-- cells behind the read index. The packet's length and the offset of its payload are right in these words, and with its trailer it isn't longer than what that
-- write index leaves, whatever stands in the cells before or after
pub record IsCopy (u : EndState) (c : WholeCall) (p : List ℕ) : Type 0 where
  pub index : ℕ
  pub call : c ≡ RingSteps TakeCall (reverse p ++ index ∷ [])
  pub loaded : AreLoaded u.machine (entered u (take_begun u.machine) []) (reverse p ++ index ∷ [])
  pub packet : IsPacket p
  pub fits : length p + 1 ≤ used u.machine.cells u.machine.read (cell_of index)

-- what the call c adds, which began at the state u: nothing, or one packet that it copied
abbrev pub Adds : EndState → WholeCall → List (List ℕ) → List (List ℕ) → Type 0
Adds u c qs ps = (ps ≡ qs) ⊎ ((p : List ℕ) × (ps ≡ qs ++ p ∷ []) × IsCopy u c p)

-- these calls, the last one first, led from the state s to the state t, and the packets ps are the copies that their takes made, in order, one a take
abbrev pub Copied : List WholeCall → EndState → EndState → List (List ℕ) → Type 0
Copied [] s t ps = (t ≡ s) × (ps ≡ [])
Copied (c ∷ cs) s t ps = (u : EndState) × (qs : List (List ℕ)) × Copied cs s u qs × Leads c u t × Adds u c qs ps

-- the last of these calls is one of the rings, and loaded a value that breaks the rule that is named
abbrev pub BrokeLast : List WholeCall → EndState → EndState → Why → Type 0
BrokeLast [] s t why = ⊥
BrokeLast (RingSteps c vs ∷ cs) s t why = (u : EndState) × CallsLead cs s u × Leads (RingSteps c vs) u t × BreaksIn (entered u (begun c u.machine) (packet_in c)) vs why
BrokeLast (PageLoads q n vs ∷ cs) s t why = ⊥
BrokeLast (PageStores q words vs ∷ cs) s t why = ⊥
