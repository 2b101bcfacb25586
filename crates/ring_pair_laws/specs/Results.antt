-- What one end can send, and what waits for it.
use Rattle.std.specs.Prelude.{◌≡◌, ℕ, ◌+◌, ◌*◌, ◌<◌, ◌≤◌, List, [], ◌∷◌, ◌++◌, length, drop, Result, MatchResult}
use Rattle.ring_machine.specs.declared.last.Signalled.{Signalled}
use Rattle.ring_machine.specs.declared.last.SendRefusal.{SendRefusal}
use Rattle.ring_machine.specs.declared.last.SendRefusal.TheVariants.{Full}
use Rattle.ring_machine.specs.declared.last.TakeRefusal.{TakeRefusal}
use Rattle.ring_machine.specs.declared.last.TakeRefusal.TheVariants.{Empty}
use Rattle.ring_machine.specs.declared.state.EndState.{EndState}
use Rattle.ring_machine.specs.Places.{free}

-- the packets that the end p sent and the end e hasn't got yet
abbrev pub waiting_for : EndState → EndState → List (List ℕ)
waiting_for e p = drop (length e.got) p.sent

-- the free bytes of the ring that e fills and p empties
abbrev pub room_for : EndState → EndState → ℕ
room_for e p = 8 * free e.machine.cells p.machine.start e.machine.write

-- the bytes that a packet needs with its trailer
abbrev pub need_of : List ℕ → ℕ
need_of q = 8 * length q + 8

-- A send of the packet q by e, that left t: it is appended, as there was room, or there was no room, and then nothing is changed
abbrev pub SendMeets : Result Signalled SendRefusal → List ℕ → EndState → EndState → EndState → Type 0
SendMeets result q e t p = MatchResult result
    (λ _. (need_of q < room_for e p) × (t.sent ≡ e.sent ++ q ∷ []))
    (λ r. (r ≡ Full (room_for e p) (need_of q)) × (room_for e p ≤ need_of q) × (t.sent ≡ e.sent) × (t.machine.write ≡ e.machine.write))

-- A take by e, that left t, where it was refused: nothing is waiting, and nothing is changed
abbrev pub TakeRefused : TakeRefusal → EndState → EndState → EndState → Type 0
TakeRefused r e t p = (r ≡ Empty (8 * e.machine.read)) × (waiting_for e p ≡ []) × (t.got ≡ e.got) × (t.machine.read ≡ e.machine.read)
