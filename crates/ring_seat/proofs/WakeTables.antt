-- What each step leaves of an end's indices, its mark and its looks.
use Rattle.std.proofs.Common.{rules, ◌≡◌, ◌≢◌, ℕ, Bool, true, false, ◌||◌, refl, sym, ap, ◌∙◌}
use Rattle.ring_machine.specs.declared.machine.Stage.{Stage}
use Rattle.ring_machine.specs.declared.machine.Stage.TheVariants.{SendWrite, CommitRead, MarkStore}
use Rattle.ring_machine.specs.declared.machine.EndMachine.{EndMachine}
use Rattle.ring_machine.specs.Steps.{fed, fed_at}
use Rattle.ring_machine.specs.Loops.{is_given_at}
use Rattle.ring_pair_laws.specs.Ring.{is_marking_at}
use Rattle.ring_seat.specs.Waking.{packets_looked_at}

-- no look of the end is in force
pub record Shut (m : EndMachine) : Type 0 where
  pub stage : packets_looked_at m.stage ≡ false
  pub awake : m.asleep ≡ false

module _ (m : EndMachine) (v : ℕ) where
  -- the write index moves at its store alone
  pub write_kept : (st : Stage) → st ≢ SendWrite → (fed_at st m v).write ≡ m.write
  write_kept SendWrite h = absurd (h refl)
  write_kept _ h = search rules

  -- the committed index moves at its store alone
  pub start_kept : (st : Stage) → st ≢ CommitRead → (fed_at st m v).start ≡ m.start
  start_kept CommitRead h = absurd (h refl)
  start_kept _ h = search rules

  abbrev marks : EndMachine → Bool
  marks k = k.marked || is_marking_at k.stage

  -- the mark goes up at its store alone
  pub mark_kept : (st : Stage) → m.stage ≡ st → st ≢ MarkStore → marks (fed_at st m v) ≡ marks m
  mark_kept MarkStore e h = absurd (h refl)
  mark_kept _ e h = let l = ap (λ (st : Stage). m.marked || is_marking_at st) (sym e) in search rules

-- past its store of the read index a commit has given back all that was taken
abbrev pub IsGiven : EndMachine → Type 0
IsGiven m = is_given_at m.stage ≡ true → m.start ≡ m.read

module _ (m : EndMachine) (v : ℕ) (g : IsGiven m) where
  given_here : (st : Stage) → m.stage ≡ st → is_given_at st ≡ true → m.start ≡ m.read
  given_here st e h = g (ap is_given_at e ∙ h)

  given_by : (st : Stage) → m.stage ≡ st → IsGiven (fed_at st m v)
  given_by CommitRead e = λ h. refl
  given_by _ e = let f = given_here _ e in search rules

  pub fed_given : IsGiven (fed m v)
  fed_given = given_by m.stage refl
