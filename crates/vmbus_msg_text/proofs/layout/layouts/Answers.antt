use Rattle.std.proofs.Common.{refl}
use Rattle.vmbus_msg_text.proofs.layout.layouts.Goals as goal

pub returns : goal.returns
returns c = record { names = λ k. refl; shows = λ k. refl; kinds = λ k. refl; fit = refl }
