-- The pages of a ring.
use Rattle.std.specs.Prelude.{◌≤◌, ℕ, Option, IfSome}
use Rattle.trace_lines.specs.declared.said.Said.{Said}
use Rattle.trace_lines.specs.declared.said.Said.TheVariants.{Nothing, Ring, Says}

-- a ring has 1 to 16 pages, where a line says how many
abbrev pub IsPages : Option ℕ → Type 0
IsPages ring = IfSome ring (λ pages. (1 ≤ pages) × (pages ≤ 16))

abbrev pub IsRanged : Said → Type 0
IsRanged Nothing = Unit {0}
IsRanged (Ring pages) = IsPages pages
IsRanged (Says what) = Unit {0}
