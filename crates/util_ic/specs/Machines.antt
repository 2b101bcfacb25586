-- The two services as machines of one state.
use Rattle.std.specs.Prelude.{ℕ, ◌+◌, ◌%◌, ◌^◌, nat_lt, if◌then◌else◌}
use Rattle.util_ic.specs.declared.ic.IcAsk.{IcAsk}
use Rattle.util_ic.specs.declared.ic.IcAsk.TheVariants.{Beat, Down}
use Rattle.util_ic.specs.declared.ic.IcAnswer.{IcAnswer}
use Rattle.util_ic.specs.declared.beat.BeatMachine.{BeatMachine}
use Rattle.util_ic.specs.declared.down.DownMachine.{DownMachine}

abbrev pub beat_start : BeatMachine
beat_start = record { state = tt }

abbrev pub down_start : DownMachine
down_start = record { state = tt }

-- the status of a refusal, 0x80004005
abbrev pub fail : ℕ
fail = 2147500037

-- flags 0 to 3 mean power off or restart, and this guest refuses all others
abbrev pub down_status : ℕ → ℕ
down_status flags = if nat_lt flags 4 then 0 else fail

-- the sequence number plus one, wrapping at 2^64
abbrev pub beat_reply : IcAsk → IcAnswer
beat_reply (Beat seq) = record { status = 0; seq = (seq + 1) % 2 ^ 64 }
beat_reply (Down reason timeout flags) = record { status = fail; seq = 0 }

abbrev pub down_reply : IcAsk → IcAnswer
down_reply (Beat seq) = record { status = fail; seq = 0 }
down_reply (Down reason timeout flags) = record { status = down_status flags; seq = 0 }
