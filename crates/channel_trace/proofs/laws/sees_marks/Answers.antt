use Rattle.channel_trace.proofs.RunLaws as laws
use Rattle.channel_trace.proofs.laws.sees_marks.Goals as goal

pub returns : goal.returns
returns g c = laws.sees_marks
