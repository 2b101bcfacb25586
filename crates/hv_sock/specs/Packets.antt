-- The packets of a socket, and what each says. Source: Linux include/linux/hyperv.h, struct vmpipe_proto_header, and net/vmw_vsock/hyperv_transport.c,
-- hvs_send_data and hvs_update_recv_data. That data have at most 2,048 bytes is this program's.
use Rattle.std.specs.Prelude.{ℕ, ◌+◌, ◌*◌, Bool, ◌==◌, ◌&&◌, ltb, leb, cond, List, ◌++◌, length, take, drop, Option, Some, None, Result, Ok, Err}
use Rattle.vm_page.specs.Words.{number_of, low_bytes, bytes_in, words_for}
use Rattle.pkt_desc.specs.Packets.{inband_packet, payload_of}
use Rattle.hv_sock.specs.declared.got.Got.{Got}
use Rattle.hv_sock.specs.declared.got.Got.TheVariants.{Bytes, End}
use Rattle.hv_sock.specs.declared.sock_fault.SockFault.{SockFault}
use Rattle.hv_sock.specs.declared.sock_fault.SockFault.TheVariants.{Short, Kind, Size}

-- a header of two numbers of 32 bits, the type 1 and the number of bytes, and then the bytes
abbrev pub sock_payload : List ℕ → List ℕ
sock_payload bytes = low_bytes 4 1 ++ (low_bytes 4 (length bytes) ++ bytes)

-- the words of the packet that carries these bytes: in-band data of id 0 and flags 0. Without bytes it ends its direction
abbrev pub sock_packet : List ℕ → List ℕ
sock_packet bytes = inband_packet 0 0 (sock_payload bytes)

-- the type, the number of bytes, and the data in the bytes of a payload
abbrev pub type_in : List ℕ → ℕ
type_in content = number_of (take 4 content)

abbrev pub size_in : List ℕ → ℕ
size_in content = number_of (take 4 (drop 4 content))

abbrev pub data_in : List ℕ → List ℕ
data_in content = take (size_in content) (drop 8 content)

-- so much data is allowed, and fills a payload of so many bytes, in whole words
abbrev pub is_size : ℕ → ℕ → Bool
is_size size have = leb size 2048 && (have == 8 * words_for (8 + size))

-- why a header of this type and size stands in no payload of so many bytes: the type first
abbrev pub header_fault : ℕ → ℕ → ℕ → Option SockFault
header_fault kind size have = cond (kind == 1) (cond (is_size size have) None (Some (Size size have))) (Some (Kind kind))

-- why a payload is none of a socket's: the first reason
abbrev pub content_fault : List ℕ → Option SockFault
content_fault content = cond (ltb (length content) 8) (Some (Short (length content))) (header_fault (type_in content) (size_in content) (length content))

-- what a packet says: these bytes come next, or nothing more comes, or it is none of a socket's
pub data Said : Type 0 where
  Data : List ℕ → Said
  Close : Said
  Fault : SockFault → Said

abbrev pub said_by : Option SockFault → List ℕ → Said
said_by (Some f) content = Fault f
said_by None content = cond (size_in content == 0) Close (Data (data_in content))

abbrev pub says : List ℕ → Said
says p = said_by (content_fault (bytes_in (payload_of p))) (bytes_in (payload_of p))

-- what a read of it answers, and what it leaves of a buffer: data go to its front
abbrev pub answer_of : Said → Result Got SockFault
answer_of (Data bytes) = Ok (Bytes (length bytes))
answer_of Close = Ok End
answer_of (Fault f) = Err f

abbrev pub left_in : Said → List ℕ → List ℕ
left_in (Data bytes) out = bytes ++ drop (length bytes) out
left_in Close out = out
left_in (Fault f) out = out
