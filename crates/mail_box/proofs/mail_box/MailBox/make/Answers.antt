use Rattle.mail_box.proofs.Moves.{begins}
use Rattle.mail_box.proofs.mail_box.MailBox.make.Goals as goal

pub ruled-requires-clause-rule : goal.ruled-requires-clause-rule
ruled-requires-clause-rule c = begins
