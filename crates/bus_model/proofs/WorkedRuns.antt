-- The worked examples have runs.
use Rattle.std.proofs.Common.{◌≡◌, ℕ, List, [], ◌∷◌, Bool, true, false, refl, ap, arith}
use Rattle.contact.specs.Versions.{version}
use Rattle.contact.specs.declared.kind.DeviceKind.TheVariants.{Disk as DiskKind}
use Rattle.script_lines.specs.declared.line.Line.{Line}
use Rattle.script_lines.specs.declared.line.What.TheVariants.{Offer as IsOffer, Ask as IsAsk, Shut as IsShut}
use Rattle.script_lines.specs.declared.line.Ask.{Ask}
use Rattle.script_lines.specs.declared.line.Ask.TheVariants.{Disk as AskDisk}
use Rattle.script_lines.specs.declared.line.DeviceSpec.TheVariants.{Disk}
use Rattle.device_kinds.specs.Kinds.{IsAskable}
use Rattle.device_kinds.specs.Formats.{asked_as}
use Rattle.script_phases.specs.Openings.{Phase, Opening}
use Rattle.bus_script.specs.declared.outcome.LineResult.TheVariants.{Done, Closed}
use Rattle.bus_model.specs.Orders.{order_of}
use Rattle.bus_model.specs.Laws.{Suits}
use Rattle.bus_model.specs.Run.{over, then_on}
use Rattle.bus_model.specs.Worked.{Exchange, line, entry, call, rescinding, Rescinded, Held, Closes, Shares, SharesOtherwise}
use Rattle.bus_model.proofs.ChannelMade.{channel_made, carry, carried}

abbrev opening : ℕ → ℕ → ℕ → Opening
opening relid subs sub = record { relid = relid; device = 0; spec = Disk 64 subs; sub = sub }

-- a disk is asked the same under each id

same_disk : (id : ℕ) (ask : Ask) → IsAskable DiskKind ask → ask ≡ asked_as id ask
same_disk id (AskDisk q) can = refl
same_disk id _ can = absurd can

one_disk : (id : ℕ) (ask : Ask) → IsAskable DiskKind ask → ask ∷ [] ≡ asked_as id ask ∷ []
one_disk id ask can = ap (λ a. a ∷ []) (same_disk id ask can)

-- an order with a stop

suits : (held : Bool) (a b c d : Exchange) → Suits (rescinding held a b c d) (call 0 a ∷ call 1 b ∷ [])
suits held a b c d = record { can = (a.can, (b.can, (c.can, (d.can, tt)))); few = omega arith; serves = (λ i. same_disk 5 a.ask a.can i ∷ (same_disk 6 b.ask b.can i ∷ [])); fits = (a.fits, (b.fits, tt)) }

pub rescinded_lem : Rescinded
rescinded_lem a b c d = let made = channel_made (rescinding false a b c d) _ (suits false a b c d) in record { lists = made.0; run = made.1; outcomes = refl }

pub held_lem : Held
held_lem a b c d = let made = channel_made (rescinding true a b c d) _ (suits true a b c d) in record { lists = made.0; run = made.1; outcomes = refl }

-- a disk that is closed

module _ (a : Exchange) where
  abbrev lines_to_close : List Line
  lines_to_close = line 1 (IsOffer [] (Disk 64 0)) ∷ line 2 (IsAsk 0 a.ask) ∷ line 3 (IsShut 0) ∷ []

  abbrev closed_phase : Phase
  closed_phase = record { version = version 5 2; number = 0; earlier = []; part = lines_to_close; opened = opening 1 0 0 ∷ [] }

  once : Suits (order_of closed_phase (opening 1 0 0)) (call 0 a ∷ [])
  once = record { can = (a.can, tt); few = omega arith; serves = one_disk 5 a.ask a.can; fits = (a.fits, tt) }

pub closes_lem : Closes
closes_lem a b =
    let p = closed_phase a in
    record {
      settled = _;
      runs = then_on {between = (entry 0 a ∷ []) ∷ []} {told = Done 0 a.reply ∷ []} (record {
        channels = carry p (opening 1 0 0) (call 0 a ∷ []) (once a) ∷ [];
        opened = refl;
        each = (carried p (opening 1 0 0) (call 0 a ∷ []) (once a), tt);
        runs_are = refl;
        histories = (record { more = entry 0 a ∷ []; after_is = refl; seats = (refl, tt); all = refl }, tt);
        outcomes = refl;
      })
          (then_on {told = Closed ∷ []} (record { channels = []; opened = refl; each = tt; runs_are = refl; histories = (record { more = []; after_is = refl; seats = tt; all = refl }, tt); outcomes = refl }) over);
      channels_are = refl;
    }

-- a disk with a sub-channel

module _ (a b c : Exchange) where
  abbrev lines_before : List Line
  lines_before = line 1 (IsOffer [] (Disk 64 1)) ∷ line 2 (IsAsk 0 a.ask) ∷ []

  abbrev before : Phase
  before = record { version = version 5 2; number = 0; earlier = []; part = lines_before; opened = opening 1 1 0 ∷ opening 2 1 1 ∷ [] }

  abbrev behind : Phase
  behind = record { version = version 5 2; number = 1; earlier = lines_before; part = line 4 (IsAsk 0 b.ask) ∷ line 5 (IsAsk 0 c.ask) ∷ []; opened = opening 1 1 0 ∷ opening 3 1 1 ∷ [] }

  one : Suits (order_of before (opening 1 1 0)) (call 0 a ∷ [])
  one = record { can = (a.can, tt); few = omega arith; serves = one_disk 6 a.ask a.can; fits = (a.fits, tt) }

  none : Suits (order_of before (opening 2 1 1)) []
  none = record { can = tt; few = omega arith; serves = refl; fits = tt }

  main : (n : ℕ) → Suits (order_of behind (opening 1 1 0)) (call n b ∷ [])
  main n = record { can = (b.can, tt); few = omega arith; serves = one_disk 6 b.ask b.can; fits = (b.fits, tt) }

  sub : (n : ℕ) → Suits (order_of behind (opening 3 1 1)) (call n c ∷ [])
  sub n = record { can = (c.can, tt); few = omega arith; serves = one_disk 1 c.ask c.can; fits = (c.fits, tt) }

pub shares_lem : Shares
shares_lem a b c =
    let p = before a b c in
    let q = behind a b c in
    record {
      settled = _;
      runs = then_on {between = (entry 0 a ∷ []) ∷ []} {told = Done 0 a.reply ∷ []} (record {
        channels = carry p (opening 1 1 0) (call 0 a ∷ []) (one a b c) ∷ carry p (opening 2 1 1) [] (none a b c) ∷ [];
        opened = refl;
        each = (carried p (opening 1 1 0) (call 0 a ∷ []) (one a b c), (carried p (opening 2 1 1) [] (none a b c), tt));
        runs_are = refl;
        histories = (record { more = entry 0 a ∷ []; after_is = refl; seats = (refl, (refl, tt)); all = refl }, tt);
        outcomes = refl;
      })
          (then_on {told = Done 1 b.reply ∷ Done 2 c.reply ∷ []} (record {
            channels = carry q (opening 1 1 0) (call 1 b ∷ []) (main a b c 1) ∷ carry q (opening 3 1 1) (call 2 c ∷ []) (sub a b c 2) ∷ [];
            opened = refl;
            each = (carried q (opening 1 1 0) (call 1 b ∷ []) (main a b c 1), (carried q (opening 3 1 1) (call 2 c ∷ []) (sub a b c 2), tt));
            runs_are = refl;
            histories = (record { more = entry 0 b ∷ entry 1 c ∷ []; after_is = refl; seats = (refl, (refl, tt)); all = refl }, tt);
            outcomes = refl;
          }) over);
      channels_are = refl;
    }

pub shares_otherwise_lem : SharesOtherwise
shares_otherwise_lem a b c =
    let p = before a b c in
    let q = behind a b c in
    record {
      settled = _;
      runs = then_on {between = (entry 0 a ∷ []) ∷ []} {told = Done 0 a.reply ∷ []} (record {
        channels = carry p (opening 1 1 0) (call 0 a ∷ []) (one a b c) ∷ carry p (opening 2 1 1) [] (none a b c) ∷ [];
        opened = refl;
        each = (carried p (opening 1 1 0) (call 0 a ∷ []) (one a b c), (carried p (opening 2 1 1) [] (none a b c), tt));
        runs_are = refl;
        histories = (record { more = entry 0 a ∷ []; after_is = refl; seats = (refl, (refl, tt)); all = refl }, tt);
        outcomes = refl;
      })
          (then_on {told = Done 2 b.reply ∷ Done 1 c.reply ∷ []} (record {
            channels = carry q (opening 1 1 0) (call 2 b ∷ []) (main a b c 2) ∷ carry q (opening 3 1 1) (call 1 c ∷ []) (sub a b c 1) ∷ [];
            opened = refl;
            each = (carried q (opening 1 1 0) (call 2 b ∷ []) (main a b c 2), (carried q (opening 3 1 1) (call 1 c ∷ []) (sub a b c 1), tt));
            runs_are = refl;
            histories = (record { more = entry 1 c ∷ entry 0 b ∷ []; after_is = refl; seats = (refl, (refl, tt)); all = refl }, tt);
            outcomes = refl;
          }) over);
      channels_are = refl;
    }
