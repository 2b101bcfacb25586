-- What comes of messages that are taken one after the other.
use Rattle.std.specs.Prelude.{◌≡◌, ℕ, ◌==◌, List, [], ◌∷◌, ◌++◌, length, Option, Some, None, if◌then◌else◌}
use Rattle.vmbus_msg.specs.declared.msg.Msg.{Msg}
use Rattle.gpadl.specs.Assembly.{Partial, Assembly, built, fault_of}

-- what is left of a list: it is live where it is whole
abbrev pub settled : Option Partial → List ℕ → Assembly
settled None live = record { building = None; live = live }
settled (Some p) live = if length p.pages == p.want then record { building = None; live = live ++ p.handle ∷ [] } else record { building = Some p; live = live }

-- what is left once a message is taken
abbrev pub next : Assembly → Msg → Assembly
next s m = settled (built s.building m) s.live

-- a list where it is whole
abbrev pub whole : Option Partial → List Partial
whole None = []
whole (Some p) = if length p.pages == p.want then p ∷ [] else []

-- each message is taken
abbrev pub AreTaken : Assembly → List Msg → Type 0
AreTaken s [] = Unit {0}
AreTaken s (m ∷ ms) = (fault_of s m ≡ None) × AreTaken (next s m) ms

-- the lists that the messages make whole
abbrev pub whole_lists : Assembly → List Msg → List Partial
whole_lists s [] = []
whole_lists s (m ∷ ms) = whole (built s.building m) ++ whole_lists (next s m) ms

-- what is left once all messages are taken
abbrev pub after : Assembly → List Msg → Assembly
after s [] = s
after s (m ∷ ms) = after (next s m) ms

-- the messages are taken, and make this list and no other
pub record Assemble (s : Assembly) (ms : List Msg) (p : Partial) : Type 0 where
  pub taken : AreTaken s ms
  pub made : whole_lists s ms ≡ p ∷ []
  pub left : after s ms ≡ record { building = None; live = s.live ++ p.handle ∷ [] }
