use Rattle.std.proofs.Common.{◌∙◌}
use Rattle.hist_lock.proofs.Opening.{if_ok}
use Rattle.hist_lock.proofs.lock.HistLock.make.Goals as goal

pub returns : goal.returns
returns g c = if_ok c.open.result _ _ (λ v x. record { lock = x.lock; first_is = x.first_is ∙ c.requires.first; past_is = x.past_is ∙ c.new.ensures.items; count = x.count; seats_are = x.seats_are }) c.open.ensures
