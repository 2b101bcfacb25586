use Rattle.net_format.proofs.NetPageLaws as laws
use Rattle.net_format.proofs.laws.network_pages_are_read_as_meant.Goals as goal

pub returns-clause-asked : goal.returns-clause-asked
returns-clause-asked c = laws.said_encoded

pub returns-clause-given : goal.returns-clause-given
returns-clause-given c = laws.said_given

pub returns-clause-fixed : goal.returns-clause-fixed
returns-clause-fixed c = laws.said_fixed

pub returns-clause-acked : goal.returns-clause-acked
returns-clause-acked c = laws.said_acked
