use Rattle.net_format.proofs.NetPageLaws as laws
use Rattle.net_format.proofs.laws.a_message_without_its_page_isnt_served.Goals as goal

pub returns : goal.returns
returns c = laws.not_served_without_page
