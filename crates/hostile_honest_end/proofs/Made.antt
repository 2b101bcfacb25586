-- What a call made, and what it answered.
use Rattle.std.proofs.Common.{◌≡◌, ℕ, Bool, true, false, not, List, [], ◌∷◌, ◌++◌, length, Option, Some, None, Result, Ok, Err, cond, if◌then◌else◌, refl, sym, ap, ◌∙◌, subst}
use Rattle.ring_machine.specs.declared.machine.Ending.{Ending}
use Rattle.ring_machine.specs.declared.machine.Ending.TheVariants.{Fresh, SentQuiet, SentRaised, Full, BadPeer, Took, Empty, BadIndex, BadLength, BadOffset, CommittedQuiet, CommittedRaised, FellAsleep, FoundWork, NoSignal, Woke, Marked, PeerMarkDown, PeerMarkUp}
use Rattle.ring_machine.specs.declared.machine.EndMachine.{EndMachine}
use Rattle.ring_machine.specs.declared.last.TakeRefusal.{TakeRefusal}
use Rattle.ring_machine.specs.EndCalls.{Send, Take, Commit, Arm, Poll}
use Rattle.ring_machine.specs.Endings.{last_by, send_answer, take_refusal, refused, is_dozed}
use Rattle.ring_machine.specs.Steps.{call_by, is_busy_at, is_took}
use Rattle.ring_core.specs.Seen.{Seen}
use Rattle.ring_core.specs.declared.told.Told.{Told}
use Rattle.ring_core.specs.Told.{Held, Memory, MakesSteps, pair, run, tells_memory}
use Rattle.ring_machine.specs.States.{entered}
use Rattle.ring_machine.specs.declared.state.EndState.{EndState}
use Rattle.ring_machine.specs.declared.machine.Stage.TheVariants.{Idle, Stopped as StoppedStage}
use Rattle.ring_machine.specs.PageCalls.{newest}
use Rattle.std.specs.Result.{OnOk}
use Rattle.hostile_honest_end.specs.Calls.{RunsCall, Comes, Refused, Stopped, Begins, by_stage, is_idle, Leads, said_of}
use Rattle.hostile_honest_end.specs.Text.{ending_text, sent_text, took_text, polled_text}

same_memory : (a b : Memory) → Some a ≡ Some b → a ≡ b
same_memory a b e = cc

-- the steps of a call over told words are a run of the machine there
pub made : (old new : Seen Held) (begun : EndMachine) (packet : List ℕ) → MakesSteps (λ (s : Held). None) (λ (s : Held). tells_memory s.memory) begun packet old new → is_busy_at new.state.machine.stage ≡ false
    → RunsCall begun packet (pair old.state old.seat.memory) (pair new.state new.seat.memory)
made old new begun packet ran rests =
    let r = ran.runs old.seat.memory refl in
    record {
      steps = length ran.values;
      runs = r.2 ∙ ap (pair new.state) (sym (same_memory new.seat.memory r.0 r.1));
      over = rests;
    }

-- what a call answers tells how it ended
pub sent_said : (how : Ending) (m : EndMachine) (w : List ℕ) → call_by how ≡ Send → sent_text (send_answer how m) ≡ ending_text (last_by how m) w
sent_said SentQuiet m w is = refl
sent_said SentRaised m w is = refl
sent_said Full m w is = refl
sent_said BadPeer m w is = refl
sent_said Fresh m w is = absurd (cc)
sent_said Took m w is = absurd (cc)
sent_said Empty m w is = absurd (cc)
sent_said BadIndex m w is = absurd (cc)
sent_said BadLength m w is = absurd (cc)
sent_said BadOffset m w is = absurd (cc)
sent_said CommittedQuiet m w is = absurd (cc)
sent_said CommittedRaised m w is = absurd (cc)
sent_said FellAsleep m w is = absurd (cc)
sent_said FoundWork m w is = absurd (cc)
sent_said NoSignal m w is = absurd (cc)
sent_said Woke m w is = absurd (cc)
sent_said Marked m w is = absurd (cc)
sent_said PeerMarkDown m w is = absurd (cc)
sent_said PeerMarkUp m w is = absurd (cc)

-- a take's text by its refusal, where there is one
abbrev took_by : Option TakeRefusal → List ℕ → List ℕ
took_by None w = took_text (Ok tt) w
took_by (Some e) w = took_text (Err e) w

by_refusal : (answer : Result (Unit {0}) TakeRefusal) (o : Option TakeRefusal) → refused answer ≡ o → (w : List ℕ) → took_text answer w ≡ took_by o w
by_refusal (Ok u) o is w = ap (λ (r : Option TakeRefusal). took_by r w) is
by_refusal (Err e) o is w = ap (λ (r : Option TakeRefusal). took_by r w) is

pub took_said : (how : Ending) (m : EndMachine) (answer : Result (Unit {0}) TakeRefusal) (w : List ℕ) → call_by how ≡ Take → refused answer ≡ cond (is_took how) None (Some (take_refusal how m)) → took_text answer w ≡ ending_text (last_by how m) w
took_said Took m answer w is r = by_refusal answer None r w
took_said Empty m answer w is r = by_refusal answer (Some (take_refusal Empty m)) r w
took_said BadIndex m answer w is r = by_refusal answer (Some (take_refusal BadIndex m)) r w
took_said BadLength m answer w is r = by_refusal answer (Some (take_refusal BadLength m)) r w
took_said BadOffset m answer w is r = by_refusal answer (Some (take_refusal BadOffset m)) r w
took_said Fresh m answer w is r = absurd (cc)
took_said SentQuiet m answer w is r = absurd (cc)
took_said SentRaised m answer w is r = absurd (cc)
took_said Full m answer w is r = absurd (cc)
took_said BadPeer m answer w is r = absurd (cc)
took_said CommittedQuiet m answer w is r = absurd (cc)
took_said CommittedRaised m answer w is r = absurd (cc)
took_said FellAsleep m answer w is r = absurd (cc)
took_said FoundWork m answer w is r = absurd (cc)
took_said NoSignal m answer w is r = absurd (cc)
took_said Woke m answer w is r = absurd (cc)
took_said Marked m answer w is r = absurd (cc)
took_said PeerMarkDown m answer w is r = absurd (cc)
took_said PeerMarkUp m answer w is r = absurd (cc)

pub polled_said : (how : Ending) (m : EndMachine) (w : List ℕ) → call_by how ≡ Poll → polled_text (not (is_dozed how)) ≡ ending_text (last_by how m) w
polled_said NoSignal m w is = refl
polled_said Woke m w is = refl
polled_said Fresh m w is = absurd (cc)
polled_said SentQuiet m w is = absurd (cc)
polled_said SentRaised m w is = absurd (cc)
polled_said Full m w is = absurd (cc)
polled_said BadPeer m w is = absurd (cc)
polled_said Took m w is = absurd (cc)
polled_said Empty m w is = absurd (cc)
polled_said BadIndex m w is = absurd (cc)
polled_said BadLength m w is = absurd (cc)
polled_said BadOffset m w is = absurd (cc)
polled_said CommittedQuiet m w is = absurd (cc)
polled_said CommittedRaised m w is = absurd (cc)
polled_said FellAsleep m w is = absurd (cc)
polled_said FoundWork m w is = absurd (cc)
polled_said Marked m w is = absurd (cc)
polled_said PeerMarkDown m w is = absurd (cc)
polled_said PeerMarkUp m w is = absurd (cc)

pub on_ok : {T E : Type 0} {P : Type 0} (r : Result T E) → P → OnOk r P
on_ok (Ok x) p = p
on_ok (Err e) p = tt

pub rests_by : (b : Bool) → is_busy_at (cond b StoppedStage Idle) ≡ false
rests_by true = refl
rests_by false = refl

begins : (asleep idle : Bool) (begun : EndMachine) (p : List ℕ) → asleep ≡ false → idle ≡ true → (if asleep then Refused else if idle then Begins begun p else Stopped) ≡ Begins begun p
begins false true begun p a i = refl
begins false false begun p a i = absurd (cc)
begins true idle begun p a i = absurd (cc)

-- a send and a take that begin, behind a change of the room of the end's lists
module _ (old ready new : Seen Held) (state : ready.state ≡ old.state) (seat : ready.seat ≡ old.seat) (awake : old.state.machine.asleep ≡ false) (idle : is_idle old.state.machine.stage ≡ true) where
  pub begins_by : (begun : EndMachine) (p : List ℕ) → by_stage old.state.machine begun p ≡ Begins begun p
  begins_by begun p = begins old.state.machine.asleep (is_idle old.state.machine.stage) begun p awake idle

  pub leads_by : (begin : EndMachine → EndMachine) (p q : List ℕ) → q ≡ p → MakesSteps (λ (s : Held). None) (λ (s : Held). tells_memory s.memory) (begin ready.state.machine) q ready new → is_busy_at new.state.machine.stage ≡ false
      → Leads (by_stage old.state.machine (begin old.state.machine) p) (pair old.state old.seat.memory) (pair new.state new.seat.memory)
  leads_by begin p q same ran rests =
      subst (λ (c : Comes). Leads c (pair old.state old.seat.memory) (pair new.state new.seat.memory)) (sym (begins_by (begin old.state.machine) p))
      (subst (λ (z : EndState × Held × List ℕ). RunsCall (begin z.0.machine) z.2 (pair z.0 z.1.memory) (pair new.state new.seat.memory)) (λ j. (state j, seat j, same j)) (made ready new (begin ready.state.machine) q ran rests))

  pub says_by : (begun : EndMachine) (p : List ℕ) → said_of (by_stage old.state.machine begun p) (pair new.state new.seat.memory) ≡ ending_text (last_by new.state.machine.ended new.state.machine) (newest new.state.got)
  says_by begun p = ap (λ (c : Comes). said_of c (pair new.state new.seat.memory)) (begins_by begun p)
