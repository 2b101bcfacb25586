-- A side goes on with the opening at a place of a phase that starts, if there is one.
use Rattle.std.proofs.Common.{◌≡◌, ℕ, suc, ◌<◌, ◌≤◌, List, [], ◌∷◌, length, Option, Some, None, sym, refl, ap, subst, arith}
use Rattle.control_laws.proofs.Words.{Version, Part, Msg, Opening, Channel, Change, Same, GuestWait, GuestTurn}
use Rattle.gpadl.specs.Cut.{cut}
use Rattle.control_model.specs.declared.burst.Burst.TheVariants.{Empty}
use Rattle.control_model.specs.Plan.{BusPlan, first_subs, laters, phase_of}
use Rattle.control_model.specs.Channels.{changed}
use Rattle.control_model.specs.Messages.{pages_from}
use Rattle.control_model.specs.Stand.{offered_before, offered_by, marked, Stand}
use Rattle.control_model.specs.GuestAt.{GuestStands}
use Rattle.control_laws.proofs.Relids.{offered_more}

-- where all channels of a phase are open, all that it offers was offered
pub all_open : {X : Type 0} (plan : BusPlan) (channels : List X) (so : Opening → X) (phase : ℕ) (done : List Opening) (base : ℕ → X) → phase < length plan.phases → phase_of plan phase ≡ done
    → Stand channels (offered_by plan phase done []) (marked so done base) → Stand channels (offered_before plan (suc phase)) (marked so (phase_of plan phase) base)
all_open plan channels so phase done base in_plan full stand =
    let none : length (first_subs []) ≡ 0 = refl in
    let count : offered_by plan phase done [] ≡ offered_before plan (suc phase) = omega (arith, offered_more plan phase in_plan, (ap (λ os. length (laters os)) full), none) in
    subst (λ n. Stand channels n (marked so (phase_of plan phase) base)) count (subst (λ os. Stand channels (offered_by plan phase done []) (marked so os base)) (sym full) stand)

-- where a guest stands after a turn
abbrev pub Turned : BusPlan → Option Part → List Channel → GuestTurn → Type 0
Turned plan part channels turn = GuestStands plan part turn.awaits turn.version (changed (changed channels turn.heard) turn.wished)

-- a turn before it goes on
abbrev pub heard_so : GuestWait → Version → Change → GuestTurn
heard_so awaits v heard = record { awaits = awaits; version = Some v; heard = heard; wished = Same; burst = Empty }

-- the host waits for the page list of an opening, if there is one; but where its channel is that of a service, for the guest to ask for it
abbrev pub pieces_by : Opening → Option ℕ → List Msg
pieces_by o None = cut o.relid o.gpadl (pages_from o)
pieces_by o (Some port) = []

abbrev pub pieces_of : Option Opening → List Msg
pieces_of None = []
pieces_of (Some o) = pieces_by o o.dialed

pub record HasFirst (ms : List Msg) : Type 0 where
  pub first : Msg
  pub rest : List Msg
  pub is : ms ≡ first ∷ rest

pub cut_first : (relid handle : ℕ) (pages : List ℕ) → 1 ≤ length pages → HasFirst (cut relid handle pages)
cut_first relid handle [] some = absurd (omega (arith, some))
cut_first relid handle (page ∷ pages) some = record { first = _; rest = _; is = refl }
