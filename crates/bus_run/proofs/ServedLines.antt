-- The outcomes of a channel's requests, from the lists of both ends.
use Rattle.std.proofs.Common.{◌≡◌, ℕ, zero, suc, ◌-◌, ◌≤◌, Bool, arith, List, [], ◌∷◌, ◌++◌, map, drop, length, append_assoc, refl, sym, ap, ◌∙◌, Option, Some, None}
use Rattle.std.specs.Prelude.{replicate}
use Rattle.std.proofs.lemmas.List.{map-append, length-map}
use Rattle.channel_model.specs.Channel.{count_of}
use Rattle.channel_model.specs.Outcome.{Outcome, Unserved as IsUnserved, lines_done, lines_of, served_at}
use Rattle.bus_script.specs.declared.outcome.LineResult.{LineResult}
use Rattle.bus_script.specs.declared.outcome.LineResult.TheVariants.{Unserved}
use Rattle.bus_script.specs.declared.outcome.Reply.{Reply}
use Rattle.bus_model.specs.Laws.{line_of}
use Rattle.bus_model.specs.Orders.{Order}
use Rattle.bus_model.specs.Channel.{outcomes_of}
use Rattle.bus_model.proofs.Arriving.{serves_each_lem}
use Rattle.bus_model.proofs.FromLists.{lists_tell_lem}
use Rattle.device_any.specs.Seats.{served_at as calls_at}
use Rattle.bus_threads.specs.declared.pair.PairDone.{PairDone}
use Rattle.device_any.specs.declared.device_seat.DeviceSeat.{DeviceSeat}
use Rattle.bus_threads.specs.Pairs.{RanPair}
use Rattle.bus_plan.specs.Served.{left_in, served_line, served_lines}

without_replies : (ns : List ℕ) → map line_of (map served_at ns) ≡ served_lines ns []
without_replies [] = refl
without_replies (n ∷ ns) = ap (λ l. served_line n None ∷ l) (without_replies ns)

first_lines : (ns : List ℕ) (rs : List Reply) → map line_of (lines_done ns rs ++ map served_at (drop (length rs) ns)) ≡ served_lines ns rs
first_lines [] [] = refl
first_lines [] (r ∷ rs) = refl
first_lines (n ∷ ns) [] = ap (λ l. served_line n None ∷ l) (without_replies ns)
first_lines (n ∷ ns) (r ∷ rs) = ap (λ l. served_line n (Some r) ∷ l) (first_lines ns rs)

last_lines : (n : ℕ) → map line_of (replicate n IsUnserved) ≡ replicate n Unserved
last_lines zero = refl
last_lines (suc n) = ap (λ l. Unserved ∷ l) (last_lines n)

-- the served ones, and behind them the unserved
all_lines : (m : ℕ) (ns : List ℕ) (rs : List Reply) → left_in ns rs (m - length ns) ≡ map line_of (lines_of m ns rs)
all_lines m ns rs =
    let rest : List (Outcome Reply) = replicate (m - length ns) IsUnserved in
    let held : List (Outcome Reply) = map served_at (drop (length rs) ns) in
    sym (ap (map line_of) (sym (append_assoc (lines_done ns rs) held rest))
    ∙ map-append line_of (lines_done ns rs ++ held) rest
    ∙ ap (λ l. l ++ map line_of rest) (first_lines ns rs)
    ∙ ap (λ l. served_lines ns rs ++ l) (last_lines (m - length ns)))

-- a channel serves no more than it is asked
pub no_more : (stop : Option (ℕ × Bool)) (m : ℕ) → count_of stop m ≤ m
no_more None m = omega arith
no_more (Some k) m = omega arith

-- what the end of a channel tells

pub few_serials : (order : Order) (first : DeviceSeat) (done : PairDone) (asked : ℕ) → length order.asks ≡ asked → RanPair order first done → length done.serials.items ≤ asked
few_serials order first done asked many ran =
    omega (arith, ap length ran.serials, length-map (calls_at ran.back) (λ s. s.serial), serves_each_lem order done.settled (calls_at ran.back) ran.channel, no_more order.stop (length order.asks), many)

pub outcomes_told : (order : Order) (first : DeviceSeat) (done : PairDone) (asked : ℕ) (results : List LineResult) → length order.asks ≡ asked → (ran : RanPair order first done) → results ≡ left_in done.serials.items done.replies.items (asked - length done.serials.items)
    → results ≡ outcomes_of order (calls_at ran.back)
outcomes_told order first done asked results many ran is =
    is ∙ all_lines asked done.serials.items done.replies.items ∙ ap (λ m. map line_of (lines_of m done.serials.items done.replies.items)) (sym many)
    ∙ ap (λ l. map line_of (lines_of (length order.asks) l done.replies.items)) ran.serials
    ∙ ap (λ l. map line_of (lines_of (length order.asks) (map (λ s. s.serial) (calls_at ran.back)) l)) ran.replies
    ∙ lists_tell_lem order done.settled (calls_at ran.back) ran.channel
