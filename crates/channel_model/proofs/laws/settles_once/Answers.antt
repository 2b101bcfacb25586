use Rattle.channel_model.proofs.Acking as messages
use Rattle.channel_model.proofs.Once as laws
use Rattle.channel_model.proofs.laws.settles_once.Goals as goal

pub returns-clause-asked : goal.returns-clause-asked
returns-clause-asked g c = laws.settled_once

pub returns-clause-own : goal.returns-clause-own
returns-clause-own g c = messages.own_once
