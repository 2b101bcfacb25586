-- What a run of a socket leaves.
use Rattle.std.specs.Prelude.{◌≡◌, ℕ, true, List}
use Rattle.ring_pair_laws.specs.Lists.{Lists}
use Rattle.hv_sock.specs.Streams.{ReadsOf, is_closed, stream_of}
use Rattle.sock_workers.specs.Pieces.{packets_of}

-- One channel carried the input to the host and back, and each direction was ended: the packets of the input were sent and got in both. In whatever order the
-- word steps of both ends fell, what was read is the front of what was written, and all of it once the end was read. What was kept is what the guest read
pub record IsSockRun (input output : List ℕ) (s : Lists) : Type 0 where
  pub guest_sent : s.guest_sent ≡ packets_of input
  pub host_got : s.host_got ≡ packets_of input
  pub host_sent : s.host_sent ≡ packets_of input
  pub guest_got : s.guest_got ≡ packets_of input
  pub streams : (stream_of s.guest_sent ≡ input) × (stream_of s.host_got ≡ input) × (stream_of s.host_sent ≡ input) × (stream_of s.guest_got ≡ input)
  pub closed : (is_closed s.guest_sent ≡ true) × (is_closed s.host_got ≡ true) × (is_closed s.host_sent ≡ true) × (is_closed s.guest_got ≡ true)
  pub to_host : ReadsOf s.host_got s.guest_sent
  pub to_guest : ReadsOf s.guest_got s.host_sent
  pub output_is : output ≡ stream_of s.guest_got
