use Rattle.net_format.proofs.NetPageLaws as laws
use Rattle.net_format.proofs.laws.start_up_tells_the_page_lists.Goals as goal

pub returns : goal.returns
returns c = laws.tells_lists
