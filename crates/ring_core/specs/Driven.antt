-- What a contract sees of a driver's end, and the words in which its calls speak.
use Rattle.std.specs.Prelude.{◌≡◌, ℕ, ◌+◌, ◌*◌, ◌≤◌, cond, false, List, [], ◌∷◌, ◌++◌, Option, Some, None, Result, Ok, Err}
use Rattle.page_kept.specs.Items.{item_of, values}
use Rattle.page_kept.specs.Kept.{pages_sent, pages_took}
use Rattle.page_kept.specs.Layouts.{layout}
use Rattle.page_kept.specs.declared.due.Due.TheVariants.{Clear, Loads}
use Rattle.page_kept.specs.declared.kept.Kept.{Kept}
use Rattle.page_kept.specs.declared.page_call.PageCall.TheVariants.{LoadWords}
use Rattle.page_table.specs.Table.{word_of}
use Rattle.page_table.specs.declared.loan.Loan.{Loan as Part}
use Rattle.ring_machine.specs.PageCalls.{newest}
use Rattle.ring_core.specs.PageRuns.{RanPages}
use Rattle.ring_core.specs.declared.told.Told.{Told}
use Rattle.ring_core.specs.Told.{Ran, Tale}
use Rattle.ring_machine.specs.declared.machine.EndMachine.{EndMachine}
use Rattle.ring_machine.specs.declared.state.EndState.{EndState}
use Rattle.ring_machine.specs.States.{entered}
use Rattle.ring_machine.specs.declared.last.Signalled.{Signalled}
use Rattle.ring_machine.specs.declared.last.Why.{Why}
use Rattle.ring_machine.specs.declared.last.Why.TheVariants.{BadPeer as WhyBadPeer, Malformed as WhyMalformed}
use Rattle.ring_machine.specs.declared.last.SendRefusal.{SendRefusal}
use Rattle.ring_machine.specs.declared.last.SendRefusal.TheVariants.{Full, BadPeer, Stopped as StoppedSend}
use Rattle.ring_machine.specs.declared.last.TakeRefusal.{TakeRefusal}
use Rattle.ring_machine.specs.declared.last.TakeRefusal.TheVariants.{Empty, Malformed, Stopped as StoppedTake}
use Rattle.ring_machine.specs.Steps.{is_broken}
use Rattle.ring_machine.specs.Endings.{why_of}

-- the state, the seat, and the words of the packet that was taken last
pub record Driven (S : Type 0) : Type 0 where
  pub state : EndState
  pub seat : S
  pub taken : List ℕ

-- what a contract sees of an end that keeps no packet, and for how many packets more it can count the ids
pub record Lean (S : Type 0) : Type 0 where
  pub driven : Driven S
  pub room : ℕ

-- the call that this machine has begun, with this packet, made its steps: from what a contract saw of the end before it to what it sees after it
abbrev pub MakesSteps : {S : Type 0} → (S → Option Told) → (S → Tale) → EndMachine → List ℕ → Driven S → Driven S → Type 0
MakesSteps told tale begun packet old new = Ran (entered old.state begun packet) new.state (told old.seat) (told new.seat) (tale old.seat) (tale new.seat)

-- why the end is broken, where it is: it refused what it loaded, and makes no step any more
abbrev pub broken : EndState → Option Why
broken s = cond (is_broken s.machine.ended) (Some (why_of s.machine)) None

-- it can send and take, or be refused because it is broken
abbrev pub IsAwakeEnd : EndState → Type 0
IsAwakeEnd s = (s.machine.asleep ≡ false) × (s.machine.marked ≡ false)

-- the packets sent after a send of p that answered so, where these were before
abbrev pub sent_by_answer : Result Signalled SendRefusal → List ℕ → List (List ℕ) → List (List ℕ)
sent_by_answer (Ok _) p before = before ++ p ∷ []
sent_by_answer (Err _) p before = before

-- why a send that answered so found the end broken, and why it left it so
abbrev pub found_by_send : Result Signalled SendRefusal → Option Why
found_by_send (Err (StoppedSend why)) = Some why
found_by_send (Err (Full free need)) = None
found_by_send (Err (BadPeer index)) = None
found_by_send (Ok _) = None

abbrev pub left_by_send : Result Signalled SendRefusal → Option Why
left_by_send (Err (StoppedSend why)) = Some why
left_by_send (Err (Full free need)) = None
left_by_send (Err (BadPeer index)) = Some (WhyBadPeer index)
left_by_send (Ok _) = None

-- the bytes that a send of n words asks for, and those that it found: it waits for room where these aren't more
abbrev pub LacksRoom : ℕ → Result Signalled SendRefusal → Type 0
LacksRoom n (Err (Full free need)) = (need ≡ 8 * n + 8) × (free ≤ need)
LacksRoom n (Err (BadPeer index)) = Unit {0}
LacksRoom n (Err (StoppedSend why)) = Unit {0}
LacksRoom n (Ok _) = Unit {0}

-- the packets got after a take that answered so, where these were before and the words w were taken
abbrev pub got_by_answer : Option TakeRefusal → List ℕ → List (List ℕ) → List (List ℕ)
got_by_answer None w before = before ++ w ∷ []
got_by_answer (Some _) w before = before

abbrev pub found_by_take : Option TakeRefusal → Option Why
found_by_take (Some (StoppedTake why)) = Some why
found_by_take (Some (Empty at)) = None
found_by_take (Some (Malformed bad)) = None
found_by_take None = None

abbrev pub left_by_take : Option TakeRefusal → Option Why
left_by_take (Some (StoppedTake why)) = Some why
left_by_take (Some (Empty at)) = None
left_by_take (Some (Malformed bad)) = Some (WhyMalformed bad)
left_by_take None = None

-- the pages after a send of p that answered so, and after a take that answered so and gave the words w
abbrev pub pages_by_send : Result Signalled SendRefusal → List ℕ → Kept → Kept
pages_by_send (Ok _) p k = pages_sent (layout k.count) k p
pages_by_send (Err _) p k = k

abbrev pub pages_by_take : Option TakeRefusal → List ℕ → Kept → Kept
pages_by_take None w k = pages_took (layout k.count) k w
pages_by_take (Some _) w k = k

-- what was due is loaded: the words of the part that is answered, which are got with the packet that was taken last, and nothing is due any more
pub record LoadsPart {S : Type 0} (told : S → Option Told) (tale : S → Tale) (a : Part) (old new : Driven S) : Type 0 where
  pub due : old.state.pages.due ≡ Loads a.page a.words 0
  pub few : a.words ≤ 512
  pub ran : RanPages old.state new.state (LoadWords a.page a.words 0) (told old.seat) (told new.seat) (tale old.seat) (tale new.seat)
  pub got : new.state.pages.got ≡ old.state.pages.got ++ item_of (newest old.state.got) (values a.words (word_of new.state.pages.copy a.page)) ∷ []
  pub clear : new.state.pages.due ≡ Clear

-- a page call changes neither the machine, nor what was sent and got, nor the words of the packet that was taken last
pub record StaysByPages {S : Type 0} (old new : Driven S) : Type 0 where
  pub machine : new.state.machine ≡ old.state.machine
  pub sent : new.state.sent ≡ old.state.sent
  pub got : new.state.got ≡ old.state.got
  pub past : new.state.past ≡ old.state.past
  pub taken : new.taken ≡ old.taken
