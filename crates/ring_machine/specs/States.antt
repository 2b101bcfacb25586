-- The state of an end, and what a step makes of it.
use Rattle.std.specs.Prelude.{◌≡◌, ◌≢◌, ◌⊎◌, ℕ, ◌+◌, ◌*◌, ◌<◌, ◌≤◌, ◌==◌, cond, ltb, Bool, true, false, List, [], ◌∷◌, ◌++◌, length, slice_index, slice_set, take}
use Rattle.channel_trace.specs.declared.event.Event.{Event}
use Rattle.channel_trace.specs.declared.event.Event.TheVariants.{Sent as SentEvent, Got as GotEvent, Empty as EmptyEvent, Marked as MarkedEvent, Saw as SawEvent}
use Rattle.page_kept.specs.declared.due.Due.TheVariants.{Clear}
use Rattle.page_kept.specs.declared.kept.Kept.{Kept}
use Rattle.page_kept.specs.declared.page_call.PageCall.TheVariants.{Off}
use Rattle.page_kept.specs.Kept.{no_pages, pages_sent, pages_took}
use Rattle.page_kept.specs.Layouts.{layout}
use Rattle.page_kept.specs.Keepers.{keeper, MaySend}
use Rattle.ring_machine.specs.declared.machine.Stage.{Stage}
use Rattle.ring_machine.specs.declared.machine.Stage.TheVariants.{Idle, SendWrite, SendMask, SendLook, SendRaise, TakeWrite, TakeFirst, TakeCell, ArmMark, ArmUndoMask, ArmUndoPending, MarkStore, MarkRaise, PeerMark}
use Rattle.ring_machine.specs.declared.machine.Ending.{Ending}
use Rattle.ring_machine.specs.declared.machine.Ending.TheVariants.{SentQuiet, SentRaised, Took, Empty, FoundWork, Marked, PeerMarkUp}
use Rattle.ring_machine.specs.declared.machine.EndMachine.{EndMachine}
use Rattle.ring_machine.specs.declared.state.EndState.{EndState}
use Rattle.ring_machine.specs.Places.{len8_of, offset8_of, is_index, cell_of}
use Rattle.ring_machine.specs.Steps.{fed, is_busy_at, is_sent, is_took, send_begun, take_begun, commit_begun, arm_begun, poll_begun, mark_begun, peer_mark_begun}

-- A packet: at least two words, whose first one gives the packet's length, and an offset of its payload in it. Source: struct vmpacket_descriptor
pub record IsPacket (p : List ℕ) : Type 0 where
  pub two : 1 < length p
  pub length_is : len8_of (slice_index p 0) ≡ length p
  pub offset : (2 ≤ offset8_of (slice_index p 0)) × (offset8_of (slice_index p 0) ≤ length p)

-- the bytes that it takes in a ring, with its trailer
abbrev pub packet_size : List ℕ → ℕ
packet_size p = 8 * length p + 8

-- the packet under way: none where no call is
abbrev pub kept_at : Stage → List ℕ → List ℕ
kept_at st p = cond (is_busy_at st) p []

-- the words copied so far
abbrev pub copied_at : Stage → List ℕ → List ℕ
copied_at TakeCell xs = xs
copied_at _ xs = []

abbrev pub copied_after : Stage → EndMachine → List ℕ → ℕ → List ℕ
copied_after TakeFirst m xs v = copied_at m.stage (v ∷ [])
copied_after TakeCell m xs v = copied_at m.stage (xs ++ v ∷ [])
copied_after _ m xs v = []

-- a packet is sent at the store of the write index
abbrev pub sent_after : Stage → List (List ℕ) → List ℕ → List (List ℕ)
sent_after SendWrite ps p = ps ++ p ∷ []
sent_after _ ps p = ps

-- a packet is got at the last load of its words
abbrev pub got_after : Stage → EndMachine → List (List ℕ) → List ℕ → ℕ → List (List ℕ)
got_after TakeCell m ps xs v = cond (ltb (m.done + 1) m.len) ps (ps ++ (xs ++ v ∷ []) ∷ [])
got_after _ m ps xs v = ps

-- What a step adds to the end's past, the last event first: a packet was sent, got, or found to be none; a mark was stored, or seen
abbrev pub past_after : Stage → EndMachine → List (Event (List ℕ)) → List ℕ → List ℕ → ℕ → List (Event (List ℕ))
past_after SendWrite m past p xs v = SentEvent p ∷ past
past_after TakeWrite m past p xs v = cond (is_index m.cells v) (cond (cell_of v == m.read) (EmptyEvent ∷ past) past) past
past_after TakeCell m past p xs v = cond (ltb (m.done + 1) m.len) past (GotEvent (xs ++ v ∷ []) ∷ past)
past_after ArmMark m past p xs v = cond (v == 0) past (SawEvent ∷ past)
past_after MarkStore m past p xs v = MarkedEvent ∷ past
past_after PeerMark m past p xs v = cond (v == 0) past (SawEvent ∷ past)
past_after _ m past p xs v = past

-- what a step makes of the pages: a packet is sent at the store of the write index, and taken at the last load of its words
abbrev pub pages_after : Stage → EndMachine → Kept → List ℕ → List ℕ → ℕ → Kept
pages_after SendWrite m k p xs v = pages_sent (layout k.count) k p
pages_after TakeCell m k p xs v = cond (ltb (m.done + 1) m.len) k (pages_took (layout k.count) k (xs ++ v ∷ []))
pages_after _ m k p xs v = k

-- the state after a step that answered v
abbrev pub after : EndState → ℕ → EndState
after s v = record {
  machine = fed s.machine v;
  packet = kept_at (fed s.machine v).stage s.packet;
  copied = copied_after s.machine.stage (fed s.machine v) s.copied v;
  sent = sent_after s.machine.stage s.sent s.packet;
  got = got_after s.machine.stage s.machine s.got s.copied v;
  past = past_after s.machine.stage s.machine s.past s.packet s.copied v;
  pages = pages_after s.machine.stage s.machine s.pages s.packet s.copied v;
}

-- the state after these answers, the last one first
abbrev pub afters : EndState → List ℕ → EndState
afters s [] = s
afters s (v ∷ vs) = after (afters s vs) v

-- an end with no call of the rings under way; and one of a channel without pages
abbrev pub resting_with : EndMachine → List (List ℕ) → List (List ℕ) → List (Event (List ℕ)) → Kept → EndState
resting_with m sent got past k = record { machine = m; packet = []; copied = []; sent = sent; got = got; past = past; pages = k }

abbrev pub resting : EndMachine → List (List ℕ) → List (List ℕ) → List (Event (List ℕ)) → EndState
resting m sent got past = resting_with m sent got past no_pages

-- the same state, with this call under way
abbrev pub entered : EndState → EndMachine → List ℕ → EndState
entered s m p = record { machine = m; packet = p; copied = s.copied; sent = s.sent; got = s.got; past = s.past; pages = s.pages }

-- the state of an end by what it keeps: the words of the packet under way are the first of its buffer
abbrev pub shown : EndMachine → List ℕ → List ℕ → List (List ℕ) → List (List ℕ) → List (Event (List ℕ)) → Kept → EndState
shown m p buf sent got past k = record { machine = m; packet = p; copied = copied_at m.stage (take m.done buf); sent = sent; got = got; past = past; pages = k }

-- the buffer, where it takes the loaded word
abbrev pub stored : Bool → List ℕ → ℕ → ℕ → List ℕ
stored b buf i v = cond b (slice_set buf i v) buf

-- the sent list during a call, where the packet was sent already
abbrev pub sent_while : Stage → List (List ℕ) → List ℕ → List (List ℕ)
sent_while SendMask ps p = ps ++ p ∷ []
sent_while SendLook ps p = ps ++ p ∷ []
sent_while SendRaise ps p = ps ++ p ∷ []
sent_while _ ps p = ps

-- the past during a call, where the packet was sent, the mark stored, or the peer's mark seen already
abbrev pub past_while : Stage → EndMachine → List (Event (List ℕ)) → List ℕ → List (Event (List ℕ))
past_while SendMask m past p = SentEvent p ∷ past
past_while SendLook m past p = SentEvent p ∷ past
past_while SendRaise m past p = SentEvent p ∷ past
past_while ArmUndoMask m past p = cond m.saw (SawEvent ∷ past) past
past_while ArmUndoPending m past p = cond m.saw (SawEvent ∷ past) past
past_while MarkRaise m past p = MarkedEvent ∷ past
past_while _ m past p = past

-- the lists after a call that ended so: it sent the packet p, or it took the first words of the buffer
abbrev pub sent_by : EndMachine → List (List ℕ) → List ℕ → List (List ℕ)
sent_by m ps p = cond (is_sent m.ended) (ps ++ p ∷ []) ps

abbrev pub got_by : EndMachine → List (List ℕ) → List ℕ → List (List ℕ)
got_by m ps buf = cond (is_took m.ended) (ps ++ take m.len buf ∷ []) ps

-- the past after a call that ended so
abbrev pub past_by_ending : Ending → EndMachine → List (Event (List ℕ)) → List ℕ → List ℕ → List (Event (List ℕ))
past_by_ending SentQuiet m past p buf = SentEvent p ∷ past
past_by_ending SentRaised m past p buf = SentEvent p ∷ past
past_by_ending Took m past p buf = GotEvent (take m.len buf) ∷ past
past_by_ending Empty m past p buf = EmptyEvent ∷ past
past_by_ending FoundWork m past p buf = cond m.saw (SawEvent ∷ past) past
past_by_ending Marked m past p buf = MarkedEvent ∷ past
past_by_ending PeerMarkUp m past p buf = SawEvent ∷ past
past_by_ending _ m past p buf = past

abbrev pub past_by : EndMachine → List (Event (List ℕ)) → List ℕ → List ℕ → List (Event (List ℕ))
past_by m past p buf = past_by_ending m.ended m past p buf

-- the pages during a call, where the packet was sent already
abbrev pub pages_while : Stage → Kept → List ℕ → Kept
pages_while SendMask k p = pages_sent (layout k.count) k p
pages_while SendLook k p = pages_sent (layout k.count) k p
pages_while SendRaise k p = pages_sent (layout k.count) k p
pages_while _ k p = k

-- the pages after a call that ended so: it sent the packet p, or it took the first words of the buffer
abbrev pub pages_by_ending : Ending → EndMachine → Kept → List ℕ → List ℕ → Kept
pages_by_ending SentQuiet m k p buf = pages_sent (layout k.count) k p
pages_by_ending SentRaised m k p buf = pages_sent (layout k.count) k p
pages_by_ending Took m k p buf = pages_took (layout k.count) k (take m.len buf)
pages_by_ending _ m k p buf = k

abbrev pub pages_by : EndMachine → Kept → List ℕ → List ℕ → Kept
pages_by m k p buf = pages_by_ending m.ended m k p buf

-- the calls that an end that is awake can begin, and the one of an end that is asleep
pub record IsAwake (s : EndState) : Type 0 where
  pub idle : s.machine.stage ≡ Idle
  pub awake : s.machine.asleep ≡ false
  pub unmarked : s.machine.marked ≡ false

-- an end that may send these words, where its channel has data pages
abbrev pub MayLend : EndState → List ℕ → Type 0
MayLend s p = s.pages.count ≢ 0 → MaySend (layout s.pages.count) (keeper (layout s.pages.count) s.machine.side s.got s.pages) p

abbrev pub BeginsSend : EndState → EndMachine → List ℕ → Type 0
BeginsSend s m p = (m ≡ send_begun s.machine (length p)) × IsPacket p × (length p + 1 < s.machine.cells) × IsAwake s × MayLend s p

abbrev pub BeginsTake : EndState → EndMachine → List ℕ → Type 0
BeginsTake s m p = (m ≡ take_begun s.machine) × (p ≡ []) × IsAwake s × (s.pages.due ≡ Clear)

abbrev pub BeginsCommit : EndState → EndMachine → List ℕ → Type 0
BeginsCommit s m p = (m ≡ commit_begun s.machine) × (p ≡ []) × IsAwake s × (s.pages.due ≡ Clear)

abbrev pub BeginsArm : EndState → EndMachine → List ℕ → Type 0
BeginsArm s m p = (want : ℕ) × (m ≡ arm_begun s.machine want) × (want < 8 * s.machine.cells) × (p ≡ []) × IsAwake s × (s.machine.start ≡ s.machine.read) × (s.pages.due ≡ Clear)

abbrev pub BeginsPoll : EndState → EndMachine → List ℕ → Type 0
BeginsPoll s m p = (m ≡ poll_begun s.machine) × (p ≡ []) × (s.machine.stage ≡ Idle) × (s.machine.asleep ≡ true)

abbrev pub BeginsMark : EndState → EndMachine → List ℕ → Type 0
BeginsMark s m p = (m ≡ mark_begun s.machine) × (p ≡ []) × IsAwake s × (s.pages.due ≡ Clear)

abbrev pub BeginsPeerMark : EndState → EndMachine → List ℕ → Type 0
BeginsPeerMark s m p = (m ≡ peer_mark_begun s.machine) × (p ≡ []) × IsAwake s

-- m has begun a call from the state s, which is in no page call
abbrev pub Begins : EndState → EndMachine → List ℕ → Type 0
Begins s m p = ((s.copied ≡ []) × (s.pages.call ≡ Off)) × (BeginsSend s m p ⊎ (BeginsTake s m p ⊎ (BeginsCommit s m p ⊎ (BeginsArm s m p ⊎ (BeginsPoll s m p ⊎ (BeginsMark s m p ⊎ BeginsPeerMark s m p))))))

-- m goes on from the state s, or begins a call there
abbrev pub Continues : EndState → EndMachine → List ℕ → Type 0
Continues s m p = ((m ≡ s.machine) × (p ≡ s.packet)) ⊎ Begins s m p

-- what a call that ended so adds to the past, where w is the packet that it sent or took
abbrev pub past_of : Ending → Bool → List ℕ → List (Event (List ℕ)) → List (Event (List ℕ))
past_of SentQuiet saw w past = SentEvent w ∷ past
past_of SentRaised saw w past = SentEvent w ∷ past
past_of Took saw w past = GotEvent w ∷ past
past_of Empty saw w past = EmptyEvent ∷ past
past_of FoundWork saw w past = cond saw (SawEvent ∷ past) past
past_of Marked saw w past = MarkedEvent ∷ past
past_of PeerMarkUp saw w past = SawEvent ∷ past
past_of _ saw w past = past

-- a packet of n words comes to the list of those that were got, and to the past
pub record Gets (n : ℕ) (got got' : List (List ℕ)) (past past' : List (Event (List ℕ))) : Type 0 where
  pub words : List ℕ
  pub packet : IsPacket words
  pub size : length words ≡ n
  pub list : got' ≡ got ++ words ∷ []
  pub past_is : past' ≡ GotEvent words ∷ past
