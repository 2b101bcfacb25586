use Rattle.disk_format.proofs.PageFormatLaws as laws
use Rattle.disk_format.proofs.laws.keeps_to_its_laws.Goals as goal

pub returns : goal.returns
returns c = laws.page_kept
