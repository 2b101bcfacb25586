-- The page lists that a guest told its host.
use Rattle.std.specs.Prelude.{ℕ, ◌==◌, List, [], ◌∷◌, if◌then◌else◌}
use Rattle.vmbus_msg.specs.declared.msg.Msg.{Msg}
use Rattle.vmbus_msg.specs.declared.msg.Msg.TheVariants.{GpadlHeader}

-- the handles of the last two page lists of a channel, in order, behind one more message
abbrev pub told_by : ℕ → ℕ × ℕ → Msg → ℕ × ℕ
told_by relid told (GpadlHeader header) = if header.relid == relid then (told.1, header.gpadl) else told
told_by relid told _ = told

-- and behind all of these. A network's channel has three: that of its rings, then the receive buffer's, then the send buffer's. 0 stands for none
abbrev pub lists_told : ℕ → ℕ × ℕ → List Msg → ℕ × ℕ
lists_told relid told [] = told
lists_told relid told (m ∷ ms) = lists_told relid (told_by relid told m) ms
