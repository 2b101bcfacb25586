use Rattle.std.proofs.Common.{◌∙◌, sym}
use Rattle.rndis_msg.specs.declared.rndis.Rndis.TheVariants.{Keepalive}
use Rattle.example_calls.proofs.rndis.answer_keepalive.Goals as goal

-- bytes that begin with a keepalive are read
pub returns-in_default-2-clause-other : goal.returns-in_default-2-clause-other
returns-in_default-2-clause-other c id e = let read = sym c.in_default.is ∙ c.decode.ensures.only (Keepalive id) e in absurd (cc)
