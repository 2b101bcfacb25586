-- What the first bytes of a message are.
use Rattle.std.specs.Prelude.{◌≡◌, ℕ, ◌+◌, ◌-◌, ◌*◌, ◌/◌, ◌%◌, take, Bool, false, nat_lt, ◌==◌, if◌then◌else◌}
use Rattle.vmbus_msg.specs.declared.msg.Msg.{Msg}
use Rattle.vmbus_msg.specs.declared.msg.Msg.TheVariants.{GpadlHeader, GpadlBody}
use Rattle.vmbus_msg.specs.Grammar.{type_of, fields_of, frames_of, length_of}

-- how many bytes are needed, of a message whose type is there: a page list's header tells its length in its first 28 bytes, a body has a frame at least and whole frames
abbrev pub needed_behind_type : Msg → ℕ → ℕ
needed_behind_type (GpadlHeader h) n = if nat_lt n 28 then 28 else length_of (GpadlHeader h)
needed_behind_type (GpadlBody h) n = if nat_lt n 24 then 24 else n / 8 * 8 + 8
needed_behind_type m n = length_of m

-- how many bytes are needed where the first `n` are too short: 8 for a type and its padding
abbrev pub needed : Msg → ℕ → ℕ
needed m n = if nat_lt n 8 then 8 else needed_behind_type m n

-- the first `n` bytes are those of a page list's body up to the end of a frame
abbrev pub ends_between_frames : Msg → ℕ → Bool
ends_between_frames (GpadlBody h) n = if nat_lt n 24 then false else n % 8 == 0
ends_between_frames m n = false

-- how many frames of a body end in its first `n` bytes
abbrev pub frames_before : ℕ → ℕ
frames_before n = (n - 16) / 8

-- the message is the other one with its first frames alone, so many
pub record HasFirstFrames (count : ℕ) (m r : Msg) : Type 0 where
  pub kind : type_of r ≡ type_of m
  pub fields : fields_of r ≡ fields_of m
  pub frames : frames_of r ≡ take count (frames_of m)
