use Rattle.device_kinds.proofs.KindLaws as laws
use Rattle.device_kinds.proofs.laws.keeps_to_its_laws.Goals as goal

pub returns-clause-keeps : goal.returns-clause-keeps
returns-clause-keeps c = laws.keeps

pub returns-clause-may : goal.returns-clause-may
returns-clause-may c = laws.may_have

pub returns-clause-pages : goal.returns-clause-pages
returns-clause-pages c = laws.pages_kept
