use Rattle.disk_format.proofs.PageFormatLaws as laws
use Rattle.disk_format.proofs.laws.pages_are_read_as_meant.Goals as goal

pub returns-clause-asked : goal.returns-clause-asked
returns-clause-asked c = laws.said_encoded

pub returns-clause-reads : goal.returns-clause-reads
returns-clause-reads c = laws.said_reads

pub returns-clause-answered : goal.returns-clause-answered
returns-clause-answered c = laws.said_answered

pub returns-clause-fixed : goal.returns-clause-fixed
returns-clause-fixed c = laws.said_fixed_so
