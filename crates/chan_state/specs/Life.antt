-- The life of a channel, as a table: side, state and event, and then the state after and what is to be done.
use Rattle.std.specs.Prelude.{ℕ, Option, Some, None, ◌==◌, if◌then◌else◌}
use Rattle.io_edge.specs.declared.side.Side.{Side}
use Rattle.io_edge.specs.declared.side.Side.TheVariants.{Guest, Host}
use Rattle.chan_state.specs.declared.state.State.{State}
use Rattle.chan_state.specs.declared.state.State.TheVariants.{Offered, Opening, Opened, Modifying, Closing, Closed, Rescinded, Released}
use Rattle.chan_state.specs.declared.event.Event.{Event}
use Rattle.chan_state.specs.declared.event.Event.TheVariants.{WantOpen, WantModify, WantClose, WantRelease, WantRescind, OpenSeen, ResultSeen, ModifySeen, ModifiedSeen, CloseSeen, TeardownSeen, TorndownSeen, RescindSeen, ReleaseSeen}
use Rattle.chan_state.specs.declared.action.Action.{Action}
use Rattle.chan_state.specs.declared.action.Action.TheVariants.{Nothing, SendOpen, SendResult, SendModify, SendModified, SendClose, SendTorndown, SendRescind, SendRelease, StartRings, EndRings, Settle}

-- the row of a side, a state and an event, where the table has one
abbrev pub transition : Side → State → Event → Option (State × Action)
transition Guest Offered WantOpen = Some (Opening, SendOpen)
transition Guest Closed WantOpen = Some (Opening, SendOpen)
transition Guest Opening (ResultSeen status) = if status == 0 then Some (Opened, StartRings) else Some (Offered, Nothing)
transition Guest Opened (WantModify vp answered) = if answered then Some (Modifying, SendModify) else Some (Opened, SendModify)
transition Guest Modifying ModifiedSeen = Some (Opened, Nothing)
transition Guest Opened WantClose = Some (Closing, SendClose)
transition Guest Closing TorndownSeen = Some (Closed, EndRings)
transition Guest Offered RescindSeen = Some (Rescinded, Settle)
transition Guest Opening RescindSeen = Some (Rescinded, Settle)
transition Guest Opened RescindSeen = Some (Rescinded, Settle)
transition Guest Modifying RescindSeen = Some (Rescinded, Settle)
transition Guest Closing RescindSeen = Some (Rescinded, Settle)
transition Guest Closed RescindSeen = Some (Rescinded, Settle)
transition Guest Rescinded ModifiedSeen = Some (Rescinded, Nothing)
transition Guest Rescinded WantRelease = Some (Released, SendRelease)
transition Host Offered OpenSeen = Some (Opened, SendResult)
transition Host Closed OpenSeen = Some (Opened, SendResult)
transition Host Opened (ModifySeen vp answered) = if answered then Some (Opened, SendModified) else Some (Opened, Nothing)
transition Host Opened CloseSeen = Some (Closing, Nothing)
transition Host Closing TeardownSeen = Some (Closed, SendTorndown)
transition Host Offered WantRescind = Some (Rescinded, SendRescind)
transition Host Opened WantRescind = Some (Rescinded, SendRescind)
transition Host Closing WantRescind = Some (Rescinded, SendRescind)
transition Host Closed WantRescind = Some (Rescinded, SendRescind)
transition Host Rescinded OpenSeen = Some (Rescinded, Nothing)
transition Host Rescinded CloseSeen = Some (Rescinded, Nothing)
transition Host Rescinded TeardownSeen = Some (Rescinded, Nothing)
transition Host Rescinded (ModifySeen vp answered) = Some (Rescinded, Nothing)
transition Host Rescinded ReleaseSeen = Some (Released, Nothing)
transition _ _ _ = None

-- the virtual processor of a channel's interrupts after an event that has a row: that of the last one that names one
abbrev pub vp_after : ℕ → Event → ℕ
vp_after vp (WantModify to answered) = to
vp_after vp (ModifySeen to answered) = to
vp_after vp event = vp
