-- The stream of bytes that packets carry.
use Rattle.std.specs.Prelude.{◌≡◌, ℕ, Bool, true, false, List, [], ◌∷◌, ◌++◌, Option, Some, None, Result, Ok, Err, take}
use Rattle.channel_trace.specs.Runs.{IsFront}
use Rattle.ring_machine.specs.declared.state.EndState.{EndState}
use Rattle.ring_seat.specs.Settling.{AreSettled}
use Rattle.hv_sock.specs.declared.got.Got.{Got}
use Rattle.hv_sock.specs.declared.got.Got.TheVariants.{Bytes, End}
use Rattle.hv_sock.specs.declared.sock_fault.SockFault.{SockFault}
use Rattle.hv_sock.specs.declared.sock_fault.SockFault.TheVariants.{Ended, Short, Kind, Size}
use Rattle.hv_sock.specs.Packets.{Said, Data, Close, Fault, says}

abbrev pub data_then : Said → List ℕ → List ℕ
data_then (Data bytes) rest = bytes ++ rest
data_then Close rest = []
data_then (Fault f) rest = []

-- the stream of a list of packets: their data joined, up to the first packet without data
abbrev pub stream_of : List (List ℕ) → List ℕ
stream_of [] = []
stream_of (p ∷ ps) = data_then (says p) (stream_of ps)

abbrev pub closed_by : Said → Bool → Bool
closed_by (Data bytes) rest = rest
closed_by Close rest = true
closed_by (Fault f) rest = false

-- it is closed where the first packet without data is an end packet
abbrev pub is_closed : List (List ℕ) → Bool
is_closed [] = false
is_closed (p ∷ ps) = closed_by (says p) (is_closed ps)

abbrev pub fault_by : Said → Option SockFault → Option SockFault
fault_by (Data bytes) rest = rest
fault_by Close rest = None
fault_by (Fault f) rest = Some f

-- it is broken off where that packet is none of a socket's, for this reason
abbrev pub fault_in : List (List ℕ) → Option SockFault
fault_in [] = None
fault_in (p ∷ ps) = fault_by (says p) (fault_in ps)

-- it can go on
pub record IsOpen (ps : List (List ℕ)) : Type 0 where
  pub unclosed : is_closed ps ≡ false
  pub whole : fault_in ps ≡ None

-- the bytes that a read which answered so gave, in a buffer that it left so
abbrev pub bytes_read : Result Got SockFault → List ℕ → List ℕ
bytes_read (Ok (Bytes n)) out = take n out
bytes_read (Ok End) out = []
bytes_read (Err f) out = []

-- a read that answered so leaves a closed stream
abbrev pub closes : Result Got SockFault → Bool
closes (Ok (Bytes n)) = false
closes (Ok End) = true
closes (Err Ended) = true
closes (Err _) = false

-- the fault with which a read that answered so leaves a stream broken off
abbrev pub breaks_off : Result Got SockFault → Option SockFault
breaks_off (Err (Short have)) = Some (Short have)
breaks_off (Err (Kind value)) = Some (Kind value)
breaks_off (Err (Size value have)) = Some (Size value have)
breaks_off _ = None

-- What was read is the front of what was written, and all of it once the end was read. Where nothing else than data and the end was sent, nothing else is read
pub record ReadsOf (got sent : List (List ℕ)) : Type 0 where
  pub front : IsFront (stream_of got) (stream_of sent)
  pub all : is_closed got ≡ true → (stream_of got ≡ stream_of sent) × (is_closed sent ≡ true)
  pub whole : fault_in sent ≡ None → fault_in got ≡ None

-- packets that are the front of others carry the front of their stream
abbrev pub ReadsFront : Type 0
ReadsFront = (got sent : List (List ℕ)) → IsFront got sent → IsFront (stream_of got) (stream_of sent)

-- and all of it where they close it
abbrev pub ReadsAll : Type 0
ReadsAll = (got sent : List (List ℕ)) → IsFront got sent → is_closed got ≡ true → (stream_of got ≡ stream_of sent) × (is_closed sent ≡ true)

-- in a channel that is at an end, whatever order the word steps of its ends fell in
abbrev pub SockChannel : Type 0
SockChannel = (g h : EndState) → AreSettled g h → ReadsOf h.got g.sent × ReadsOf g.got h.sent
