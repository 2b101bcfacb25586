use Rattle.test_workers.proofs.message_tests.lends_again.Goals as goal

pub loop-i-preserved : goal.loop-i-preserved
loop-i-preserved g c = c.rests.ensures c.check-in-loop-i.ensures
