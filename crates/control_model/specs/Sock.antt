-- The plan of a socket.
use Rattle.std.specs.Prelude.{ℕ, true, false, [], ◌∷◌, Some, None}
use Rattle.script_phases.specs.Agreed.{no_less}
use Rattle.control_model.specs.declared.opening.Opening.{Opening}
use Rattle.control_model.specs.Plan.{BusPlan, first_gpadl}

-- the channel of the service at a port: the guest asks for it, its rings have 16 pages, and the host rescinds it at the end
abbrev pub dialed_at : ℕ → Opening
dialed_at port = record { relid = 1; sub = 0; ring_pages = 16; gpadl = first_gpadl; first_page = 0; rescinded = true; vp = None; dialed = Some port; buffers = false }

-- both ends have 5.2, no device is offered, and one phase opens that channel
abbrev pub sock_plan : ℕ → BusPlan
sock_plan port = record { guest = no_less; host = no_less; kinds = []; phases = (dialed_at port ∷ []) ∷ [] }
