-- A turn leaves no more channels than a plan can have.
use Rattle.std.proofs.Common.{◌≡◌, ◌∙◌, ℕ, Bool, Option, Some, None, Result, Ok, Err, refl, ◌≤◌, ◌-◌, List, [], ◌∷◌, length, length-append, length-set, arith}
use Rattle.control_model.specs.declared.channel.Channel.{Channel}
use Rattle.control_model.specs.declared.change.Change.{Change}
use Rattle.control_model.specs.declared.change.Change.TheVariants.{Same, Offered, Now, Moved}
use Rattle.control_model.specs.Plan.{most_channels}
use Rattle.control_model.specs.declared.moves.Move.{Move}
use Rattle.control_model.specs.declared.fault.ControlFault.{ControlFault}
use Rattle.chan_state.specs.declared.event.Event.TheVariants.{WantModify}
use Rattle.control_model.specs.Channels.{by_relid, lived, put_moved, move_at, move_all, changed}
use Rattle.control_model.specs.Guest.{HasRoom, AddsNone}

-- a move adds no channel
many_put : (channels : List Channel) (relid : ℕ) (now : Result Channel ControlFault) → length (put_moved channels relid now) ≡ length channels
many_put channels relid (Err fault) = refl
many_put channels relid (Ok now) = length-set channels (relid - 1) now

many_at : (channels : List Channel) (answered : Bool) (m : Move) (known : Option Channel) → length (move_at channels answered m known) ≡ length channels
many_at channels answered m None = refl
many_at channels answered m (Some c) = many_put channels m.relid (lived c (WantModify m.vp answered))

many_moved : (channels : List Channel) (answered : Bool) (moves : List Move) → length (move_all channels answered moves) ≡ length channels
many_moved channels answered [] = refl
many_moved channels answered (m ∷ moves) =
    many_moved (move_at channels answered m (by_relid channels m.relid)) answered moves ∙ many_at channels answered m (by_relid channels m.relid)

heard_few : (channels : List Channel) (change : Change) → length channels ≤ most_channels → HasRoom channels change → length (changed channels change) ≤ most_channels
heard_few channels Same few room = few
heard_few channels (Offered c) few room = let more = length-append channels (c ∷ []) in omega (arith, more, room)
heard_few channels (Moved moves answered) few room = let same = many_moved channels answered moves in omega (arith, same, few)
heard_few channels (Now relid c) few room = let same = length-set channels (relid - 1) c in omega (arith, same, few)

wished_few : (channels : List Channel) (change : Change) → length channels ≤ most_channels → AddsNone change → length (changed channels change) ≤ most_channels
wished_few channels Same few none = few
wished_few channels (Offered c) few none = absurd none
wished_few channels (Moved moves answered) few none = let same = many_moved channels answered moves in omega (arith, same, few)
wished_few channels (Now relid c) few none = let same = length-set channels (relid - 1) c in omega (arith, same, few)

pub turn_few : (channels : List Channel) (heard wished : Change) → length channels ≤ most_channels → HasRoom channels heard → AddsNone wished → length (changed (changed channels heard) wished) ≤ most_channels
turn_few channels heard wished few room none = wished_few (changed channels heard) wished (heard_few channels heard few room) none
