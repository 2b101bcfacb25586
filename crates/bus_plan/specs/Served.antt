-- The outcomes of a channel's requests, by the serials of one end and the replies of the other.
use Rattle.std.specs.Prelude.{ℕ, List, [], ◌∷◌, ◌++◌, replicate, Option, Some, None}
use Rattle.bus_script.specs.declared.outcome.LineResult.{LineResult}
use Rattle.bus_script.specs.declared.outcome.LineResult.TheVariants.{Done, RescindedServed, Unserved}
use Rattle.bus_script.specs.declared.outcome.Reply.{Reply}

-- one request is done where its reply came back
abbrev pub served_line : ℕ → Option Reply → LineResult
served_line serial (Some reply) = Done serial reply
served_line serial None = RescindedServed serial

-- those of all that were served, of which the first have the replies
abbrev pub served_lines : List ℕ → List Reply → List LineResult
served_lines [] replies = []
served_lines (n ∷ serials) [] = served_line n None ∷ served_lines serials []
served_lines (n ∷ serials) (r ∷ replies) = served_line n (Some r) ∷ served_lines serials replies

-- and behind them so many that were not
abbrev pub left_in : List ℕ → List Reply → ℕ → List LineResult
left_in serials replies unserved = served_lines serials replies ++ replicate unserved Unserved
