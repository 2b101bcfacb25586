use Rattle.worker_requester.specs.Acking.{NoneIn}
use Rattle.worker_requester.proofs.next.next_message.Given as goal

abbrev pub invariant-loop-i : goal.invariant-loop-i
invariant-loop-i g l = NoneIn (g.T.Protocol.format l.protocol) l.port.state.got l.from l.i
