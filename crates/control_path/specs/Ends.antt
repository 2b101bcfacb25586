-- Both sides once their queues have ended.
use Rattle.std.specs.Prelude.{◌≡◌, List, ◌∷◌, ◌++◌, Option, None, Some}
use mathlib.Core.List.{IsPrefix}
use Rattle.vmbus_msg.specs.declared.msg.Msg.{Msg}
use Rattle.control_model.specs.declared.fault.ControlFault.{ControlFault}
use Rattle.control_model.specs.declared.fault.ControlFault.TheVariants.{Unasked, Memory}
use Rattle.control_side.specs.Sides.{Side}

-- a side never says this
abbrev pub NeverSays : Side → Msg → Type 0
NeverSays s m = (front rest : List Msg) → ¬ (s.says ≡ front ++ m ∷ rest)

-- a side hears what the other one says, and the message that ends that early, which is no part of it
pub record Hears (s other : Side) : Type 0 where
  pub hears : s.hears ≡ other.says
  pub cut : s.cut ≡ other.parting
  pub never : NeverSays other other.parting

-- why a side refused, if it did: want of memory, or the message that ends the other side's early, which that one put for want of memory
abbrev pub IsExplained : Option ControlFault → Option ControlFault → Type 0
IsExplained None other = Unit {0}
IsExplained (Some Memory) other = Unit {0}
IsExplained (Some (Unasked kind)) other = other ≡ Some Memory
IsExplained (Some fault) other = ⊥

-- without a fault of either, a side was fed a front of what the other one posted
abbrev pub IsFedFrom : Side → Side → Option ControlFault → Option ControlFault → Type 0
IsFedFrom s other None None = IsPrefix s.fed other.posted
IsFedFrom s other _ _ = Unit {0}
