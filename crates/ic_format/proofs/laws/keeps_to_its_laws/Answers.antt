use Rattle.ic_format.proofs.KindLaws as laws
use Rattle.ic_format.proofs.laws.keeps_to_its_laws.Goals as goal

pub returns : goal.returns
returns c = laws.service_kept
