use Rattle.std.proofs.Common.{ap}
use Rattle.ring_machine.specs.Steps.{is_busy_at}
use Rattle.ring_end_history.specs.Calls.{PollCall}
use Rattle.ring_end_history.proofs.Joining.{came_call}
use Rattle.ring_sleep.proofs.SleepLaws.{polled}
use Rattle.ring_sleep.proofs.waiting.poll.Goals as goal

pub returns-clause-slept : goal.returns-clause-slept
returns-clause-slept g c =
    let e = c.poll_signal.ensures in
    polled g.S.Parks.channel g.S.Seatlike.told g.S.Seatlike.tale _ _ e.ran e.leaves e.after e.answer.1 e.past (g.met.S.Parks.same_channel _ _ e.same) e.kept

pub returns-clause-came : goal.returns-clause-came
returns-clause-came g c =
    let e = c.poll_signal.ensures in
    came_call g.S.Seatlike.tale g.S.Seatlike.told PollCall _ _ c.requires.idle e.ran (ap is_busy_at (e.after.idle (λ h. cc) (λ h. cc)))
