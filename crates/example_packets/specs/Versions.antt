-- A host's answer to the version that a guest asks for.
use Rattle.std.specs.Prelude.{◌≡◌, ℕ, ◌≤◌, List}
use Rattle.vmbus_msg.specs.Grammar.{IsMessage}
use Rattle.vmbus_msg.specs.declared.msg.Msg.TheVariants.{VersionResponse}
use Rattle.contact.specs.Versions.{IsVersion}

-- a version is supported (1) exactly where it is one, and not above the host's highest
pub record Supports (supported version highest : ℕ) : Type 0 where
  pub yes : IsVersion version → version ≤ highest → supported ≡ 1
  pub no : (IsVersion version → version ≤ highest → ⊥) → supported ≡ 0

-- bytes are a host's answer that a version isn't supported
abbrev pub Refuses : List ℕ → Type 0
Refuses bytes = (padding state padding2 conn : ℕ) × IsMessage (VersionResponse padding 0 state padding2 conn) bytes
