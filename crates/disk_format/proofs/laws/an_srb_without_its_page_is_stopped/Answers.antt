use Rattle.disk_format.proofs.PageFormatLaws as laws
use Rattle.disk_format.proofs.laws.an_srb_without_its_page_is_stopped.Goals as goal

pub returns : goal.returns
returns c = laws.stopped_without_page
