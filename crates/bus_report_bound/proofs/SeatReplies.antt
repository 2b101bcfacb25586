-- The requests and replies of a history, and those that its seats gave.
use Rattle.std.proofs.Common.{ℕ, ◌+◌, List, [], ◌∷◌, length, nat_eq, subst}
use Rattle.std.specs.List.{AllByRecursion}
use Rattle.script_lines.specs.declared.line.Ask.{Ask}
use Rattle.bus_script.specs.declared.outcome.Reply.{Reply}
use Rattle.device_kinds.specs.Served.{Served}
use Rattle.device_kinds.specs.Logs.{Recorded, served_from, EachSeat, Grows}
use Rattle.bus_model.proofs.Lists.{each_left, each_right, each_if}

module _ (Q : Ask → Reply → Type 0) where
  from_seat : (seat n : ℕ) (more : List Recorded) → AllByRecursion (λ e. Q e.ask e.reply) more → AllByRecursion (λ s. Q s.request s.reply) (served_from seat n more)
  from_seat seat n [] all = tt
  from_seat seat n (e ∷ es) all =
      each_if (λ (s : Served). Q s.request s.reply) (nat_eq e.seat seat) (record { serial = n; request = e.ask; reply = e.reply }) (served_from seat (n + 1) es) all.0 (from_seat seat (n + 1) es all.1)

  from_seats : (seat n : ℕ) (more : List Recorded) (served : List (List Served)) → EachSeat seat n more served → AllByRecursion (λ e. Q e.ask e.reply) more → AllByRecursion (AllByRecursion (λ s. Q s.request s.reply)) served
  from_seats seat n more [] each all = tt
  from_seats seat n more (s ∷ served) each all = (subst (AllByRecursion (λ s. Q s.request s.reply)) each.0 (from_seat seat n more all), from_seats (seat + 1) n more served each.1 all)

  -- where the entries of a history have Q, so have those before it, and those that its seats gave
  pub entries_with : (before after : List Recorded) (served : List (List Served)) → Grows before after served → AllByRecursion (λ e. Q e.ask e.reply) after
      → AllByRecursion (λ e. Q e.ask e.reply) before × AllByRecursion (AllByRecursion (λ s. Q s.request s.reply)) served
  entries_with before after served grows all =
      let whole = subst (AllByRecursion (λ e. Q e.ask e.reply)) grows.after_is all in
      (each_left (λ (e : Recorded). Q e.ask e.reply) before grows.more whole, from_seats 0 (length before) grows.more served grows.seats (each_right (λ (e : Recorded). Q e.ask e.reply) before grows.more whole))
