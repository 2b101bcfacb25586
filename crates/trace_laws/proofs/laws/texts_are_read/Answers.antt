use Rattle.trace_laws.proofs.Texts.{reads}
use Rattle.trace_laws.proofs.laws.texts_are_read.Goals as goal

pub returns : goal.returns
returns c d x op v size is = reads d x op v size is
