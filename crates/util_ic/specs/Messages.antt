-- Messages of the utility services: a pipe header of 8 bytes, an IC header of 20, and the content.
use Rattle.std.specs.Prelude.{ℕ, ◌+◌, ◌%◌, ◌^◌, Bool, true, false, List, [], ◌∷◌, ◌++◌, take, drop, replicate, slice_range}
use Rattle.wire_table.specs.Little.{number_of, bytes_of}
use Rattle.wire_table.specs.Rows.{Row, num, raw, spelled_after}
use Rattle.contact.specs.declared.kind.DeviceKind.{DeviceKind}
use Rattle.contact.specs.declared.kind.DeviceKind.TheVariants.{Beat, Down, Disk, Net}
use Rattle.util_ic.specs.declared.ic.IcAsk.{IcAsk}
use Rattle.util_ic.specs.declared.ic.IcAsk.TheVariants.{Beat as AskBeat, Down as AskDown}

-- the test for a heartbeat channel
abbrev pub on_beat : DeviceKind → Bool
on_beat Beat = true
on_beat _ = false

-- the test for a shutdown channel
abbrev pub on_down : DeviceKind → Bool
on_down Down = true
on_down _ = false

-- a utility channel: no disk's and no network's
abbrev pub IsUtility : DeviceKind → Type 0
IsUtility Disk = ⊥
IsUtility Net = ⊥
IsUtility _ = Unit {0}

-- the number of so many bytes at a place
abbrev pub number_at : ℕ → ℕ → List ℕ → ℕ
number_at at width b = number_of (slice_range b at (at + width))

-- the bytes with a number put at a place
abbrev pub put : ℕ → ℕ → ℕ → List ℕ → List ℕ
put at width v b = (take at b ++ bytes_of width v) ++ drop (at + width) b

-- the fields that are looked at
abbrev pub type_of : List ℕ → ℕ
type_of b = number_at 12 2 b

abbrev pub frame_count_of : List ℕ → ℕ
frame_count_of b = number_at 28 2 b

abbrev pub message_count_of : List ℕ → ℕ
message_count_of b = number_at 30 2 b

abbrev pub seq_of : List ℕ → ℕ
seq_of b = number_at 28 8 b

abbrev pub reason_of : List ℕ → ℕ
reason_of b = number_at 28 4 b

abbrev pub timeout_of : List ℕ → ℕ
timeout_of b = number_at 32 4 b

abbrev pub down_flags_of : List ℕ → ℕ
down_flags_of b = number_at 36 4 b

-- an answer's status, with flags 5
abbrev pub with_result : ℕ → List ℕ → List ℕ
with_result status b = put 25 1 5 (put 20 4 status b)

-- a heartbeat's sequence number
abbrev pub with_seq : ℕ → List ℕ → List ℕ
with_seq seq b = put 28 8 seq b

-- one more, wrapping at 2^64
abbrev pub with_seq_risen : List ℕ → List ℕ
with_seq_risen b = with_seq ((seq_of b + 1) % 2 ^ 64) b

-- so many bytes of zero
unfoldable pub zeros : ℕ → List ℕ
zeros n = replicate n 0

-- a request's headers, with flags 3, and its content of so many bytes
abbrev pub request_rows : ℕ → ℕ → ℕ → List Row → List Row
request_rows major type size content =
    num 4 0 ∷ num 4 (20 + size)
    ∷ num 2 major ∷ num 2 0 ∷ num 2 type ∷ num 2 major ∷ num 2 0 ∷ num 2 size ∷ num 4 0 ∷ num 1 0 ∷ num 1 3 ∷ num 2 0
    ∷ content

-- the content of a heartbeat: its sequence number and 32 reserved bytes
abbrev pub beat_content : ℕ → List Row
beat_content seq = num 8 seq ∷ raw (zeros 32) ∷ []

-- a heartbeat
abbrev pub beat_bytes : ℕ → List ℕ
beat_bytes seq = spelled_after [] (request_rows 3 1 40 (beat_content seq))

-- the content of a shutdown, with 2,048 bytes of text
abbrev pub down_content : ℕ → ℕ → ℕ → List Row
down_content reason timeout flags = num 4 reason ∷ num 4 timeout ∷ num 4 flags ∷ raw (zeros 2048) ∷ []

-- a shutdown
abbrev pub down_bytes : ℕ → ℕ → ℕ → List ℕ
down_bytes reason timeout flags = spelled_after [] (request_rows 3 3 2060 (down_content reason timeout flags))

-- a request
abbrev pub ask_bytes : IcAsk → List ℕ
ask_bytes (AskBeat seq) = beat_bytes seq
ask_bytes (AskDown reason timeout flags) = down_bytes reason timeout flags

-- a version
abbrev pub version_rows : ℕ → ℕ → List Row → List Row
version_rows major minor later = num 2 major ∷ num 2 minor ∷ later

-- the content of the negotiate message: frame versions 3.0 and 1.0, message versions 3.0 and 1.0
abbrev pub offer_content : List Row
offer_content = num 2 2 ∷ num 2 2 ∷ num 4 0 ∷ version_rows 3 0 (version_rows 1 0 (version_rows 3 0 (version_rows 1 0 [])))

-- the negotiate message
abbrev pub negotiate_bytes : List ℕ
negotiate_bytes = spelled_after [] (request_rows 0 0 24 offer_content)
