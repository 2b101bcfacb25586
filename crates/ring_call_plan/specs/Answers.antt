-- What the calls answer: the numbers of the machine's endings, and four that plans have beside them. C knows no other list.
use Rattle.std.specs.Prelude.{ℕ}
use Rattle.ring_machine.specs.declared.machine.Ending.{Ending}
use Rattle.ring_machine.specs.declared.machine.Ending.TheVariants.{Fresh, SentQuiet, SentRaised, Full, BadPeer, Took, Empty, BadIndex, BadLength, BadOffset, CommittedQuiet, CommittedRaised, FellAsleep, FoundWork, NoSignal, Woke, Marked, PeerMarkDown, PeerMarkUp}

-- no call: it doesn't fit the end's state or its numbers, and nothing changed
abbrev pub no_call : ℕ
no_call = 0

abbrev pub sent_quiet : ℕ
sent_quiet = 1

abbrev pub sent_raised : ℕ
sent_raised = 2

abbrev pub full : ℕ
full = 3

abbrev pub bad_peer : ℕ
bad_peer = 4

abbrev pub took : ℕ
took = 5

abbrev pub empty : ℕ
empty = 6

abbrev pub bad_index : ℕ
bad_index = 7

abbrev pub bad_length : ℕ
bad_length = 8

abbrev pub bad_offset : ℕ
bad_offset = 9

abbrev pub committed_quiet : ℕ
committed_quiet = 10

abbrev pub committed_raised : ℕ
committed_raised = 11

abbrev pub fell_asleep : ℕ
fell_asleep = 12

abbrev pub found_work : ℕ
found_work = 13

abbrev pub no_signal : ℕ
no_signal = 14

abbrev pub woke : ℕ
woke = 15

abbrev pub marked : ℕ
marked = 16

abbrev pub peer_mark_down : ℕ
peer_mark_down = 17

abbrev pub peer_mark_up : ℕ
peer_mark_up = 18

-- the call goes on as planned
abbrev pub planned : ℕ
planned = 19

-- as found_work and woke, of an end that waited for room
abbrev pub found_work_room : ℕ
found_work_room = 20

abbrev pub woke_room : ℕ
woke_room = 21

-- the number of how a call ended
abbrev pub number_of_ending : Ending → ℕ
number_of_ending Fresh = no_call
number_of_ending SentQuiet = sent_quiet
number_of_ending SentRaised = sent_raised
number_of_ending Full = full
number_of_ending BadPeer = bad_peer
number_of_ending Took = took
number_of_ending Empty = empty
number_of_ending BadIndex = bad_index
number_of_ending BadLength = bad_length
number_of_ending BadOffset = bad_offset
number_of_ending CommittedQuiet = committed_quiet
number_of_ending CommittedRaised = committed_raised
number_of_ending FellAsleep = fell_asleep
number_of_ending FoundWork = found_work
number_of_ending NoSignal = no_signal
number_of_ending Woke = woke
number_of_ending Marked = marked
number_of_ending PeerMarkDown = peer_mark_down
number_of_ending PeerMarkUp = peer_mark_up
