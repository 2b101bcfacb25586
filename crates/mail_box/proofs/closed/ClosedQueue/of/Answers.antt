use Rattle.std.proofs.Common.{ap}
use Rattle.mail_box.proofs.Moves.{unites, rests}
use Rattle.mail_box.proofs.closed.ClosedQueue.of.Goals as goal

pub absorb-requires-clause-rule : goal.absorb-requires-clause-rule
absorb-requires-clause-rule g c = unites _ _ _ _ (ap (λ v. v.posts) c.post.invariant.1) (ap (λ v. v.fetches) c.fetch.invariant.1)

pub len_as-left-requires-clause-rule : goal.len_as-left-requires-clause-rule
len_as-left-requires-clause-rule g c = rests _ _ (ap (λ v. v.posts) c.absorb.ensures.rule) (ap (λ v. v.fetches) c.absorb.ensures.rule)
