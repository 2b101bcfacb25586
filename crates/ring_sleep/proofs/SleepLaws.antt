-- A poll of an end that is asleep.
use Rattle.std.proofs.Common.{◌≡◌, ℕ, Bool, List, [], Option, refl, ◌∙◌}
use Rattle.channel_trace.specs.declared.event.Event.{Event}
use Rattle.ring_machine.specs.declared.machine.Ending.{Ending}
use Rattle.ring_machine.specs.declared.machine.Ending.TheVariants.{NoSignal, Woke}
use Rattle.ring_machine.specs.declared.machine.Stage.TheVariants.{Idle}
use Rattle.ring_machine.specs.EndCalls.{Poll}
use Rattle.ring_machine.specs.Steps.{call_by, poll_begun}
use Rattle.ring_machine.specs.States.{past_of}
use Rattle.ring_machine.specs.Endings.{Leaves, LeavesBy}
use Rattle.ring_core.specs.Seen.{Seen, Kept}
use Rattle.ring_core.specs.Told.{MakesSteps, Tale}
use Rattle.ring_core.specs.declared.told.Told.{Told}
use Rattle.ring_sleep.specs.Sleeping.{Sleeps}
use Rattle.ring_sleep.proofs.Telling.{tells_on}

-- a poll adds nothing to the past
poll_past : (how : Ending) (saw : Bool) (w : List ℕ) (past : List (Event (List ℕ))) → call_by how ≡ Poll → past_of how saw w past ≡ past
poll_past NoSignal saw w past h = refl
poll_past Woke saw w past h = refl
poll_past _ saw w past h = absurd (cc)

pub polled : {S C : Type 0} (channel : S → C) (told : S → Option Told) (tale : S → Tale) (old new : Seen S) → MakesSteps told tale (poll_begun old.state.machine) [] old new → Leaves old.state.machine new.state.machine
    → LeavesBy Poll old.state.machine new.state.machine → call_by new.state.machine.ended ≡ Poll → new.state.past ≡ past_of new.state.machine.ended new.state.machine.saw [] old.state.past → channel new.seat ≡ channel old.seat → Kept old new → Sleeps channel told old new
polled channel told tale old new ran l a call past same kept = record {
  idle = a.idle (λ h. cc) (λ h. cc);
  seat = same;
  tells = tells_on _ _ _ _ _ _ ran;
  side = l.side;
  cells = l.cells;
  write = a.write (λ h. cc);
  read = a.read (λ h. cc);
  start = a.start (λ h. cc);
  past = past ∙ poll_past new.state.machine.ended new.state.machine.saw [] old.state.past call;
  kept = kept;
}

pub sleeps_refl : {S C : Type 0} (channel : S → C) (told : S → Option Told) (e : Seen S) → e.state.machine.stage ≡ Idle → Sleeps channel told e e
sleeps_refl channel told e idle = record {
  idle = idle;
  seat = refl;
  tells = refl;
  side = refl;
  cells = refl;
  write = refl;
  read = refl;
  start = refl;
  past = refl;
  kept = record { sent = refl; got = refl; spare_sent = refl; spare_got = refl; pages = refl };
}

pub sleeps_trans : {S C : Type 0} (channel : S → C) (told : S → Option Told) (a b c : Seen S) → Sleeps channel told a b → Sleeps channel told b c → Sleeps channel told a c
sleeps_trans channel told a b c x y = record {
  idle = y.idle;
  seat = y.seat ∙ x.seat;
  tells = y.tells ∙ x.tells;
  side = y.side ∙ x.side;
  cells = y.cells ∙ x.cells;
  write = y.write ∙ x.write;
  read = y.read ∙ x.read;
  start = y.start ∙ x.start;
  past = y.past ∙ x.past;
  kept = record { sent = y.kept.sent ∙ x.kept.sent; got = y.kept.got ∙ x.kept.got; spare_sent = y.kept.spare_sent ∙ x.kept.spare_sent; spare_got = y.kept.spare_got ∙ x.kept.spare_got; pages = y.kept.pages ∙ x.kept.pages };
}
