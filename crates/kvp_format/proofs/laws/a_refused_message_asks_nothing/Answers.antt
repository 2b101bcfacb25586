use Rattle.kvp_format.proofs.PairLaws.{refused_nothing}
use Rattle.kvp_format.proofs.laws.a_refused_message_asks_nothing.Goals as goal

pub returns : goal.returns
returns c p fault is refused = refused_nothing p fault is refused
