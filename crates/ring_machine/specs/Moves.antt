-- How a machine, its end's lists and its pages stand while a call is under way, and once it has ended: by where they stood when it began.
use Rattle.std.specs.Prelude.{◌≡◌, ℕ, ◌+◌, ◌<◌, ◌≤◌, Bool, true, false, cond, List, slice_index}
use Rattle.channel_trace.specs.declared.event.Event.{Event}
use Rattle.page_kept.specs.declared.kept.Kept.{Kept}
use Rattle.ring_machine.specs.declared.machine.Stage.{Stage}
use Rattle.ring_machine.specs.declared.machine.Stage.TheVariants.{Idle, Stopped, SendMask, SendLook, SendRaise, TakeCell}
use Rattle.ring_machine.specs.declared.machine.Ending.{Ending}
use Rattle.ring_machine.specs.declared.machine.EndMachine.{EndMachine}
use Rattle.ring_machine.specs.EndCalls.{EndCall}
use Rattle.ring_machine.specs.Places.{ahead, len8_of, offset8_of}
use Rattle.ring_machine.specs.Steps.{is_busy_at, is_sent, is_took, call_at, call_by}
use Rattle.ring_machine.specs.Loops.{is_unseen_at, is_polling_at, is_given_at}
use Rattle.ring_machine.specs.States.{sent_while, past_while, past_by, sent_by, got_by, pages_while, pages_by_ending}
use Rattle.ring_machine.specs.Endings.{is_committed, is_dozed, is_marked}

-- the lists and the past, while a call is under way and after it
pub record Lists (call : EndCall) (sent got : List (List ℕ)) (past : List (Event (List ℕ))) (p : List ℕ) (m : EndMachine) (buf : List ℕ) (sent' got' : List (List ℕ)) (past' : List (Event (List ℕ))) : Type 0 where
  pub busy : is_busy_at m.stage ≡ true → (call_at m.stage ≡ call) × (sent' ≡ sent_while m.stage sent p) × (got' ≡ got) × (past' ≡ past_while m.stage m past p)
  pub ended : is_busy_at m.stage ≡ false → (call_by m.ended ≡ call) × (sent' ≡ sent_by m sent p) × (got' ≡ got_by m got buf) × (past' ≡ past_by m past p buf)

-- the indices and flags, while a call is under way and after it
abbrev pub write_at : Stage → Ending → EndMachine → ℕ → ℕ
write_at SendMask how b n = ahead b.cells b.write (n + 1)
write_at SendLook how b n = ahead b.cells b.write (n + 1)
write_at SendRaise how b n = ahead b.cells b.write (n + 1)
write_at Idle how b n = cond (is_sent how) (ahead b.cells b.write (n + 1)) b.write
write_at _ how b n = b.write

abbrev pub read_at : Stage → Ending → EndMachine → ℕ → ℕ
read_at Idle how b n = cond (is_took how) (ahead b.cells b.read (n + 1)) b.read
read_at _ how b n = b.read

abbrev pub start_at : Stage → Ending → EndMachine → ℕ
start_at Idle how b = cond (is_committed how) b.read b.start
start_at st how b = cond (is_given_at st) b.read b.start

abbrev pub asleep_at : Stage → Ending → Bool
asleep_at Idle how = is_dozed how
asleep_at st how = is_polling_at st

abbrev pub marked_at : Stage → Ending → Bool
marked_at Idle how = is_marked how
marked_at _ how = false

-- the machine m of a call that began with the machine b
pub record Moves (b m : EndMachine) : Type 0 where
  pub cells : m.cells ≡ b.cells
  pub side : m.side ≡ b.side
  pub write : m.write ≡ write_at m.stage m.ended b m.len
  pub read : m.read ≡ read_at m.stage m.ended b m.len
  pub start : m.start ≡ start_at m.stage m.ended b
  pub asleep : m.asleep ≡ asleep_at m.stage m.ended
  pub marked : m.marked ≡ marked_at m.stage m.ended
  pub unseen : is_unseen_at m.stage ≡ true → m.saw ≡ false

-- the first word of the packet that is taken says its length and its offset
pub record Form (len : ℕ) (buf : List ℕ) : Type 0 where
  pub length_is : len8_of (slice_index buf 0) ≡ len
  pub offset : (2 ≤ offset8_of (slice_index buf 0)) × (offset8_of (slice_index buf 0) ≤ len)
  pub two : 1 < len

-- a packet's first word is loaded, and in order
abbrev pub is_formed : Stage → Ending → Bool
is_formed TakeCell how = true
is_formed Idle how = is_took how
is_formed _ how = false

-- the pages at a stage of a call that began with k, or after the call
abbrev pub pages_at : Stage → EndMachine → Kept → List ℕ → List ℕ → Kept
pages_at Idle m k p buf = pages_by_ending m.ended m k p buf
pages_at Stopped m k p buf = pages_by_ending m.ended m k p buf
pages_at st m k p buf = pages_while st k p
