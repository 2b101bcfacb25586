use Rattle.ring_end_history.proofs.Joining.{came_refl, came_trans}
use Rattle.ring_sleep.proofs.SleepLaws.{sleeps_refl, sleeps_trans}
use Rattle.ring_sleep.proofs.waiting.sleep.Goals as goal

pub loop-init : goal.loop-init
loop-init g c = record { can = tt; ends = tt; asleep = c.requires.asleep; slept = sleeps_refl g.S.Parks.channel g.S.Seatlike.told _ c.requires.idle; came = came_refl g.S.Seatlike.tale _ }

pub returns-then-poll-clause-came : goal.returns-then-poll-clause-came
returns-then-poll-clause-came g c = came_trans g.S.Seatlike.tale c.args.e.now c.loop.e c.poll.new.e c.loop.invariant.came c.poll.ensures.came

pub loop-preserved-then-is_completed : goal.loop-preserved-then-is_completed
loop-preserved-then-is_completed g c = record {
  can = tt;
  ends = tt;
  asleep = c.if-poll.ensures.asleep;
  slept = sleeps_trans g.S.Parks.channel g.S.Seatlike.told c.args.e.now c.loop.e c.poll.new.e c.loop.invariant.slept c.poll.ensures.slept;
  came = came_trans g.S.Seatlike.tale c.args.e.now c.loop.e c.poll.new.e c.loop.invariant.came c.poll.ensures.came;
}

pub loop-preserved : goal.loop-preserved
loop-preserved g c = record {
  can = tt;
  ends = tt;
  asleep = c.if-poll.ensures.asleep;
  slept = sleeps_trans g.S.Parks.channel g.S.Seatlike.told c.args.e.now c.loop.e c.poll.new.e c.loop.invariant.slept c.poll.ensures.slept;
  came = came_trans g.S.Seatlike.tale c.args.e.now c.loop.e c.poll.new.e c.loop.invariant.came c.poll.ensures.came;
}
