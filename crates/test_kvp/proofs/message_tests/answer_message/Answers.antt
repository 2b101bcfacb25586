use Rattle.kvp_ic.proofs.ReplyLaws.{may_carry}
use Rattle.test_kvp.proofs.message_tests.answer_message.Goals as goal

pub answer-len-requires-clause-carried : goal.answer-len-requires-clause-carried
answer-len-requires-clause-carried g c = may_carry c.args.request.now c.args.reply.now c.in-Ok.ensures.value.0
