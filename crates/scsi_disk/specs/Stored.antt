-- The written blocks of a disk.
use Rattle.std.specs.Prelude.{ℕ, List}

-- how many blocks there are, and those that were written, each place once
pub record Stored : Type 0 where
  pub blocks : ℕ
  pub written : List (ℕ × List ℕ)
