use Rattle.hv_sock.proofs.StreamLaws.{reads_all, reads_front}
use Rattle.hv_sock.proofs.laws.reads_what_was_written.Goals as goal

pub returns-clause-front : goal.returns-clause-front
returns-clause-front c = reads_front

pub returns-clause-all : goal.returns-clause-all
returns-clause-all c = reads_all
