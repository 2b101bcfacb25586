-- What the words of one ring and the states of its two ends have to do with each other: they stand for a list that was sent and a list that was got.
use Rattle.std.specs.Prelude.{◌≡◌, Bool, true, false, ◌||◌, ℕ, ◌+◌, ◌*◌, ◌%◌, ◌<◌, ◌≤◌, cond, List, [], ◌∷◌, ◌++◌, length, slice_index, take}
use Rattle.std.specs.List.{All}
use Rattle.channel_trace.specs.Runs.{Turn, IsRun, guest_of, host_of, sent_of, got_of, has_marked, has_seen, is_drained}
use Rattle.io_edge.specs.declared.side.Side.{Side}
use Rattle.io_edge.specs.declared.side.Side.TheVariants.{Guest, Host}
use Rattle.page_kept.specs.Kept.{no_pages}
use Rattle.ring_machine.specs.declared.machine.Stage.{Stage}
use Rattle.ring_machine.specs.declared.machine.Stage.TheVariants.{Idle, SendRead, SendCell, SendWrite, TakeFirst, TakeCell, MarkRaise}
use Rattle.ring_machine.specs.declared.state.EndState.{EndState}
use Rattle.ring_machine.specs.declared.place.Ring.{Ring}
use Rattle.ring_machine.specs.declared.place.Ring.TheVariants.{ToHost, ToGuest}
use Rattle.ring_machine.specs.Places.{trailer, base_of, mark_of, words_of}
use Rattle.ring_machine.specs.Steps.{IsSound}
use Rattle.ring_machine.specs.States.{IsPacket}

-- the cells that packets take, each with its trailer
abbrev pub size : List (List ℕ) → ℕ
size [] = 0
size (p ∷ ps) = length p + 1 + size ps

-- the words of these packets with their trailers, where the first one begins at this position of the stream. Positions count on, and never turn back
abbrev pub stream : ℕ → ℕ → List (List ℕ) → List ℕ
stream n at [] = []
stream n at (p ∷ ps) = p ++ trailer (at % n) ∷ stream n (at + (length p + 1)) ps

-- A send that found room: `done` of the packet's cells and its trailer are stored. `w` cells were sent, and `r` cells were given back. The read index that
-- it loaded, `seen`, stands for no more than that, and left more room than the packet needs
pub record Sending (n : ℕ) (f : ℕ → ℕ) (w r done len seen : ℕ) (p : List ℕ) : Type 0 where
  pub packet : IsPacket p
  pub whole : length p ≡ len
  pub known : ℕ
  pub before : known ≤ r
  pub seen_is : seen ≡ known % n
  pub room : w + len + 1 < known + n
  pub stored : (j : ℕ) → j < done → f (5 + (w + j) % n) ≡ slice_index (p ++ trailer (w % n) ∷ []) j

abbrev pub Sending_at : Stage → ℕ → (ℕ → ℕ) → ℕ → ℕ → EndState → Type 0
Sending_at SendRead n f w r e = IsPacket e.packet × (length e.packet ≡ e.machine.len)
Sending_at SendCell n f w r e = Sending n f w r e.machine.done e.machine.len e.machine.seen e.packet
Sending_at SendWrite n f w r e = Sending n f w r (e.machine.len + 1) e.machine.len e.machine.seen e.packet
Sending_at _ n f w r e = Unit {0}

-- a take that saw the write index behind the packets first and mid
pub record Seeing (n : ℕ) (e : EndState) (waiting : List (List ℕ)) : Type 0 where
  pub first : List ℕ
  pub mid : List (List ℕ)
  pub rest : List (List ℕ)
  pub waiting_is : waiting ≡ (first ∷ mid) ++ rest
  pub seen : e.machine.seen ≡ size (e.got ++ first ∷ mid) % n

-- a take that copies the first waiting packet, and saw the write index behind that and mid
pub record Copying (n : ℕ) (e : EndState) (waiting : List (List ℕ)) : Type 0 where
  pub first : List ℕ
  pub mid : List (List ℕ)
  pub rest : List (List ℕ)
  pub waiting_is : waiting ≡ (first ∷ mid) ++ rest
  pub seen : e.machine.seen ≡ size (e.got ++ first ∷ mid) % n
  pub len : e.machine.len ≡ length first
  pub copied : e.copied ≡ take e.machine.done first

abbrev pub Taking_at : Stage → ℕ → EndState → List (List ℕ) → Type 0
Taking_at TakeFirst n e ws = Seeing n e ws
Taking_at TakeCell n e ws = Copying n e ws
Taking_at _ n e ws = Unit {0}

-- A ring of n cells stands for the packets that its producer sent and its consumer got. f 0 is the write word, f 1 the read word, and f (5 + k) the cell k
pub record RingOk (n : ℕ) (f : ℕ → ℕ) (producer consumer : EndState) : Type 0 where
  pub given_back : List (List ℕ)
  pub since : List (List ℕ)
  pub waiting : List (List ℕ)
  pub got_is : consumer.got ≡ given_back ++ since
  pub sent_is : producer.sent ≡ consumer.got ++ waiting
  pub packets : All IsPacket producer.sent
  pub room : size producer.sent < size given_back + n
  pub write : producer.machine.write ≡ size producer.sent % n
  pub read : consumer.machine.read ≡ size consumer.got % n
  pub start : consumer.machine.start ≡ size given_back % n
  pub write_word : f 0 ≡ 8 * producer.machine.write
  pub read_word : f 1 ≡ 8 * consumer.machine.start
  pub cells : (k : ℕ) → size given_back ≤ k → k < size producer.sent → f (5 + k % n) ≡ slice_index (stream n 0 producer.sent) k
  pub sending : Sending_at producer.machine.stage n f (size producer.sent) (size given_back) producer
  pub taking : Taking_at consumer.machine.stage n consumer waiting

-- the mark was stored
abbrev pub is_marking_at : Stage → Bool
is_marking_at MarkRaise = true
is_marking_at _ = false

abbrev pub is_marked : EndState → Bool
is_marked e = e.machine.marked || is_marking_at e.machine.stage

-- an end's lists, marks and mark word are those of its past
pub record PastOk (mark : ℕ) (e : EndState) : Type 0 where
  pub sent : sent_of e.past ≡ e.sent
  pub got : got_of e.past ≡ e.got
  pub marked : has_marked e.past ≡ is_marked e
  pub seen : has_seen e.past ≡ e.machine.peer_marked
  pub drained : is_drained e.past ≡ e.machine.drained
  pub word : mark ≡ cond (is_marked e) 1 0

-- it is the end of this side, and its machine is sound
pub record Fits (n : ℕ) (x : Side) (e : EndState) : Type 0 where
  pub side : e.machine.side ≡ x
  pub cells : e.machine.cells ≡ n
  pub sound : IsSound e.machine

-- the words of a ring, of a channel
abbrev pub ring_in : ℕ → List ℕ → Ring → ℕ → ℕ
ring_in n ws r k = slice_index ws (base_of n r + k)

-- The words of a channel and its two ends belong together: each ring stands for what its producer sent and its consumer got,
-- and there is one run of both ends whose events are what each of them did
pub record ChannelOk (n : ℕ) (ws : List ℕ) (guest host : EndState) : Type 0 where
  pub words : length ws ≡ words_of n
  pub guest_fits : Fits n Guest guest
  pub host_fits : Fits n Host host
  pub to_host : RingOk n (ring_in n ws ToHost) guest host
  pub to_guest : RingOk n (ring_in n ws ToGuest) host guest
  pub guest_past : PastOk (slice_index ws (mark_of n Guest)) guest
  pub host_past : PastOk (slice_index ws (mark_of n Host)) host
  pub turns : List (Turn (List ℕ))
  pub run : IsRun turns
  pub guest_turns : guest_of turns ≡ guest.past
  pub host_turns : host_of turns ≡ host.past

-- no call is under way, the end isn't stopped, and its channel has no data pages
pub record Resting (e : EndState) : Type 0 where
  pub idle : e.machine.stage ≡ Idle
  pub clear : e.copied ≡ []
  pub bare : e.pages ≡ no_pages

-- a channel without data pages, between the calls of its ends
pub record AtRest (n : ℕ) (ws : List ℕ) (guest host : EndState) : Type 0 where
  pub channel : ChannelOk n ws guest host
  pub guest_rests : Resting guest
  pub host_rests : Resting host
