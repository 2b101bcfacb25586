use Rattle.net_format.proofs.NetPageLaws as laws
use Rattle.net_format.proofs.laws.keeps_to_its_laws.Goals as goal

pub returns : goal.returns
returns c = laws.page_kept
