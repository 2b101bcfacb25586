use Rattle.control_model.proofs.VersionLaws.{below_is}
use Rattle.control_model.proofs.version.version_below.Goals as goal

pub returns-clause-below : goal.returns-clause-below
returns-clause-below c = below_is c.args.v c.next_version.result c.requires c.next_version.ensures.last c.next_version.ensures.lower c.next_version.ensures.next
