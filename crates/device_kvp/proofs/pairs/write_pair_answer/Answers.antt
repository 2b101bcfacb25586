use Rattle.std.proofs.Common.{ap, ◌∙◌}
use Rattle.kvp_ic.specs.Faults.{fault_of}
use Rattle.kvp_ic.proofs.ReplyLaws.{may_carry}
use Rattle.device_kvp.proofs.pairs.write_pair_answer.Goals as goal

pub answer-count-requires-clause-carried : goal.answer-count-requires-clause-carried
answer-count-requires-clause-carried c = may_carry _ c.args.reply.now (ap fault_of c.content-len.ensures.bytes ∙ c.requires.asks)
