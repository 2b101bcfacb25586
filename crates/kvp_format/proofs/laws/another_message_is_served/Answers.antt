use Rattle.kvp_format.proofs.PairLaws.{other_served}
use Rattle.kvp_format.proofs.laws.another_message_is_served.Goals as goal

pub returns : goal.returns
returns c p not = other_served p not
