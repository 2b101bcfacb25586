-- The tests of a machine's numbers say that it is sound.
use Rattle.std.proofs.Common.{◌≡◌, ℕ, ◌+◌, ◌*◌, ◌<◌, ◌≤◌, ◌^◌, ◌==◌, Bool, true, false, ◌&&◌, ◌||◌, not, leb, ltb, eqb, refl, sym, ap, ◌∙◌, arith}
use Rattle.std.proofs.lemmas.Bool.Decides.{nat_tests}
use Rattle.ring_machine.specs.declared.machine.EndMachine.{EndMachine}
use Rattle.ring_machine.specs.declared.machine.Stage.{Stage}
use Rattle.ring_machine.specs.declared.machine.Stage.TheVariants.{Stopped, TakeFirst, TakeCell, ArmPending, ArmRead}
use Rattle.ring_machine.specs.Steps.{IsSound, is_arming_at, is_broken, is_busy_at, is_looking_at, sleeps_at}
use Rattle.ring_machine.proofs.Sound.{and_left, and_right}
use Rattle.vmbus_ring_c.specs.Sound.{counts_fit, fits_ring, fits_stage, flags_fit, is_first_at, is_loading_at, is_wanting_at, is_stopped_at, rests, stops_fit}

both : (a b : Bool) → a ≡ true → b ≡ true → (a && b) ≡ true
both true b e f = f
both false b e f = e

then : (a b : Bool) → (not a || b) ≡ true → a ≡ true → b ≡ true
then true b h e = h
then false b h e = absurd (cc)

when : (a b : Bool) → (a ≡ true → b ≡ true) → (not a || b) ≡ true
when true b f = f refl
when false b f = refl

isnt : (a : Bool) → not a ≡ true → a ≡ false
isnt true h = absurd (cc)
isnt false h = refl

is_not : (a : Bool) → a ≡ false → not a ≡ true
is_not true h = absurd (cc)
is_not false h = refl

stopped_is : (st : Stage) → is_stopped_at st ≡ true → st ≡ Stopped
stopped_is Stopped h = refl
stopped_is _ h = absurd (cc)

first_is : (st : Stage) → is_first_at st ≡ true → st ≡ TakeFirst
first_is TakeFirst h = refl
first_is _ h = absurd (cc)

loading_is : (st : Stage) → is_loading_at st ≡ true → st ≡ TakeCell
loading_is TakeCell h = refl
loading_is _ h = absurd (cc)

less : (a b : ℕ) → ltb a b ≡ true → a < b
less a b h = grind (arith, nat_tests, h)

most : (a b : ℕ) → leb a b ≡ true → a ≤ b
most a b h = grind (arith, nat_tests, h)

same : (a b : ℕ) → eqb a b ≡ true → a ≡ b
same a b h = grind (arith, nat_tests, h)

is_less : (a b : ℕ) → a < b → ltb a b ≡ true
is_less a b h = grind (arith, nat_tests, h)

is_most : (a b : ℕ) → a ≤ b → leb a b ≡ true
is_most a b h = grind (arith, nat_tests, h)

is_same : (a b : ℕ) → a ≡ b → eqb a b ≡ true
is_same a b h = grind (arith, nat_tests, h)

abbrev arms : EndMachine → Bool
arms m = not (is_arming_at m.stage) || (m.start == m.read)

abbrev looks : EndMachine → Bool
looks m = not (is_looking_at m.stage) || not m.masked

abbrev works : EndMachine → Bool
works m = not (is_busy_at m.stage) || not m.marked

abbrev sleeps : EndMachine → Bool
sleeps m = not m.asleep || rests m

abbrev begins : EndMachine → Bool
begins m = not (is_first_at m.stage) || (m.done == 0)

abbrev copies : EndMachine → Bool
copies m = not (is_loading_at m.stage) || (ltb 0 m.done && ltb m.done m.len)

abbrev wants : EndMachine → Bool
wants m = not (is_wanting_at m.stage) || ltb 0 m.want

abbrev breaks : EndMachine → Bool
breaks m = not (is_broken m.ended) || is_stopped_at m.stage

abbrev stops : EndMachine → Bool
stops m = not (is_stopped_at m.stage) || is_broken m.ended

record Flags (m : EndMachine) : Type 0 where
  pub arming : arms m ≡ true
  pub looking : looks m ≡ true
  pub sleeping : sleeps m ≡ true
  pub working : works m ≡ true
  pub beginning : begins m ≡ true
  pub copying : copies m ≡ true
  pub wanting : wants m ≡ true
  pub breaking : breaks m ≡ true
  pub stopping : stops m ≡ true

flags_of : (m : EndMachine) → fits_stage m ≡ true → Flags m
flags_of m h =
    let flags : (arms m && (looks m && works m)) ≡ true = and_left (flags_fit m) (sleeps m && (counts_fit m && stops_fit m)) h in
    let others : (sleeps m && (counts_fit m && stops_fit m)) ≡ true = and_right (flags_fit m) (sleeps m && (counts_fit m && stops_fit m)) h in
    let last : (counts_fit m && stops_fit m) ≡ true = and_right (sleeps m) (counts_fit m && stops_fit m) others in
    let counts : (begins m && (copies m && wants m)) ≡ true = and_left (counts_fit m) (stops_fit m) last in
    let ends : (breaks m && stops m) ≡ true = and_right (counts_fit m) (stops_fit m) last in
    let two : (looks m && works m) ≡ true = and_right (arms m) (looks m && works m) flags in
    let more : (copies m && wants m) ≡ true = and_right (begins m) (copies m && wants m) counts in
    record {
      arming = and_left (arms m) (looks m && works m) flags;
      looking = and_left (looks m) (works m) two;
      sleeping = and_left (sleeps m) (counts_fit m && stops_fit m) others;
      working = and_right (looks m) (works m) two;
      beginning = and_left (begins m) (copies m && wants m) counts;
      copying = and_left (copies m) (wants m) more;
      wanting = and_right (copies m) (wants m) more;
      breaking = and_left (breaks m) (stops m) ends;
      stopping = and_right (breaks m) (stops m) ends;
    }

rest_parts : (m : EndMachine) → rests m ≡ true → (m.masked ≡ false) × (m.start ≡ m.read) × (sleeps_at m.stage ≡ true) × (m.marked ≡ false)
rest_parts m h =
    let a : ((m.start == m.read) && (sleeps_at m.stage && not m.marked)) ≡ true = and_right (not m.masked) _ h in
    let b : (sleeps_at m.stage && not m.marked) ≡ true = and_right (m.start == m.read) (sleeps_at m.stage && not m.marked) a in
    (isnt m.masked (and_left (not m.masked) ((m.start == m.read) && (sleeps_at m.stage && not m.marked)) h), same m.start m.read (and_left (m.start == m.read) (sleeps_at m.stage && not m.marked) a), and_left (sleeps_at m.stage) (not m.marked) b, isnt m.marked (and_right (sleeps_at m.stage) (not m.marked) b))

copy_parts : (m : EndMachine) → (ltb 0 m.done && ltb m.done m.len) ≡ true → (0 < m.done) × (m.done < m.len)
copy_parts m h = (less 0 m.done (and_left (ltb 0 m.done) (ltb m.done m.len) h), less m.done m.len (and_right (ltb 0 m.done) (ltb m.done m.len) h))

sound_from : (m : EndMachine) → m.value < 2 ^ 32 → fits_ring m ≡ true → Flags m → IsSound m
sound_from m value r f = record {
  cells = ((grind (arith, nat_tests, r)), (grind (arith, nat_tests, r)));
  write = grind (arith, nat_tests, r);
  read = grind (arith, nat_tests, r);
  start = grind (arith, nat_tests, r);
  seen = grind (arith, nat_tests, r);
  old = grind (arith, nat_tests, r);
  len = grind (arith, nat_tests, r);
  done = grind (arith, nat_tests, r);
  value = value;
  want = grind (arith, nat_tests, r);
  room = grind (arith, nat_tests, r);
  words = grind (arith, nat_tests, r);
  arming = λ a. same m.start m.read (then (is_arming_at m.stage) (m.start == m.read) f.arming a);
  looking = λ a. isnt m.masked (then (is_looking_at m.stage) (not m.masked) f.looking a);
  asleep = λ a. rest_parts m (then m.asleep (rests m) f.sleeping a);
  unmarked = λ a. isnt m.marked (then (is_busy_at m.stage) (not m.marked) f.working a);
  first = λ e. same m.done 0 (then (is_first_at m.stage) (m.done == 0) f.beginning (ap is_first_at e));
  copying = λ e. copy_parts m (then (is_loading_at m.stage) (ltb 0 m.done && ltb m.done m.len) f.copying (ap is_loading_at e));
  wanting = (λ e. less 0 m.want (then (is_wanting_at m.stage) (ltb 0 m.want) f.wanting (ap is_wanting_at e)), λ e. less 0 m.want (then (is_wanting_at m.stage) (ltb 0 m.want) f.wanting (ap is_wanting_at e)));
  broken = λ a. stopped_is m.stage (then (is_broken m.ended) (is_stopped_at m.stage) f.breaking a);
  stopped = λ e. then (is_stopped_at m.stage) (is_broken m.ended) f.stopping (ap is_stopped_at e);
}

wants_by : (st : Stage) (n : ℕ) → (st ≡ ArmPending → 0 < n) → (st ≡ ArmRead → 0 < n) → is_wanting_at st ≡ true → 0 < n
wants_by ArmPending n f g h = f refl
wants_by ArmRead n f g h = g refl
wants_by _ n f g h = absurd (cc)

ring_to : (m : EndMachine) → IsSound m → fits_ring m ≡ true
ring_to m s =
    both (leb 512 m.cells) _ (is_most 512 m.cells s.cells.0)
    (both (leb m.cells 16777216) _ (is_most m.cells 16777216 s.cells.1)
    (both (ltb m.write m.cells) _ (is_less m.write m.cells s.write)
    (both (ltb m.read m.cells) _ (is_less m.read m.cells s.read)
    (both (ltb m.start m.cells) _ (is_less m.start m.cells s.start)
    (both (ltb m.seen m.cells) _ (is_less m.seen m.cells s.seen)
    (both (ltb m.old m.cells) _ (is_less m.old m.cells s.old)
    (both (ltb m.len m.cells) _ (is_less m.len m.cells (let l = s.len in omega (arith, l)))
    (both (ltb (m.len + 1) m.cells) _ (is_less (m.len + 1) m.cells s.len)
    (both (leb m.done m.len) _ (is_most m.done m.len s.done)
    (both (ltb m.want (8 * m.cells)) _ (is_less m.want (8 * m.cells) s.want)
    (both (leb m.room m.cells) (ltb m.words m.cells) (is_most m.room m.cells s.room) (is_less m.words m.cells s.words))))))))))))

rests_to : (m : EndMachine) → (m.masked ≡ false) × (m.start ≡ m.read) × (sleeps_at m.stage ≡ true) × (m.marked ≡ false) → rests m ≡ true
rests_to m p =
    both (not m.masked) ((m.start == m.read) && (sleeps_at m.stage && not m.marked)) (is_not m.masked p.0)
    (both (m.start == m.read) (sleeps_at m.stage && not m.marked) (is_same m.start m.read p.1) (both (sleeps_at m.stage) (not m.marked) p.2 (is_not m.marked p.3)))

stage_to : (m : EndMachine) → IsSound m → fits_stage m ≡ true
stage_to m s =
    both (flags_fit m) (sleeps m && (counts_fit m && stops_fit m))
    (both (arms m) (looks m && works m) (when (is_arming_at m.stage) (m.start == m.read) (λ a. is_same m.start m.read (s.arming a)))
    (both (looks m) (works m) (when (is_looking_at m.stage) (not m.masked) (λ a. is_not m.masked (s.looking a))) (when (is_busy_at m.stage) (not m.marked) (λ a. is_not m.marked (s.unmarked a)))))
    (both (sleeps m) (counts_fit m && stops_fit m) (when m.asleep (rests m) (λ a. rests_to m (s.asleep a)))
    (both (counts_fit m) (stops_fit m)
    (both (begins m) (copies m && wants m) (when (is_first_at m.stage) (m.done == 0) (λ a. is_same m.done 0 (s.first (first_is m.stage a))))
    (both (copies m) (wants m)
    (when (is_loading_at m.stage) (ltb 0 m.done && ltb m.done m.len) (λ a. both (ltb 0 m.done) (ltb m.done m.len) (is_less 0 m.done (s.copying (loading_is m.stage a)).0) (is_less m.done m.len (s.copying (loading_is m.stage a)).1)))
    (when (is_wanting_at m.stage) (ltb 0 m.want) (λ a. is_less 0 m.want (wants_by m.stage m.want s.wanting.0 s.wanting.1 a)))))
    (both (breaks m) (stops m) (when (is_broken m.ended) (is_stopped_at m.stage) (λ a. ap is_stopped_at (s.broken a))) (when (is_stopped_at m.stage) (is_broken m.ended) (λ a. s.stopped (stopped_is m.stage a))))))

-- the tests say that a machine is sound, whose value has 32 bits
pub says_sound : (m : EndMachine) (a b : Bool) → m.value < 2 ^ 32 → a ≡ fits_ring m → b ≡ fits_stage m → (a && b) ≡ true → IsSound m
says_sound m a b value ring stage h = sound_from m value (sym ring ∙ and_left a b h) (flags_of m (sym stage ∙ and_right a b h))

pub sound_says : (m : EndMachine) (a b : Bool) → a ≡ fits_ring m → b ≡ fits_stage m → IsSound m → (a && b) ≡ true
sound_says m a b ring stage s = both a b (ring ∙ ring_to m s) (stage ∙ stage_to m s)
