use Rattle.std.proofs.Common.{sym}
use Rattle.ring_pair_laws.proofs.Settling.{guest_front, host_front, one_run, guest_drained, host_drained}
use Rattle.ring_pair_laws.proofs.laws.pairs_are_of_one_run.Goals as goal

pub returns-clause-fronts : goal.returns-clause-fronts
returns-clause-fronts c = λ s ok. (guest_front _ _ _ _ ok.rest.channel, host_front _ _ _ _ ok.rest.channel)

pub returns-clause-guest_drained : goal.returns-clause-guest_drained
returns-clause-guest_drained c = λ s ok drained. guest_drained _ _ _ _ ok.rest.channel drained

pub returns-clause-host_drained : goal.returns-clause-host_drained
returns-clause-host_drained c = λ s ok drained. host_drained _ _ _ _ ok.rest.channel drained

pub returns-clause-run : goal.returns-clause-run
returns-clause-run c = λ s ok. one_run _ _ _ _ ok.rest.channel

pub returns-clause-guest_past : goal.returns-clause-guest_past
returns-clause-guest_past c = λ s ok. (sym ok.rest.channel.guest_past.sent, sym ok.rest.channel.guest_past.got)

pub returns-clause-host_past : goal.returns-clause-host_past
returns-clause-host_past c = λ s ok. (sym ok.rest.channel.host_past.sent, sym ok.rest.channel.host_past.got)
