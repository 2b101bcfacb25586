-- The devices that the lines of a phase speak to.
use Rattle.std.specs.Prelude.{ℕ, ◌<◌, List}
use Rattle.std.specs.Option.{IfSome}
use Rattle.std.specs.List.{AllByRecursion}
use Rattle.script_lines.specs.declared.line.Line.{Line}
use Rattle.script_lines.specs.declared.line.What.{What}
use Rattle.script_lines.specs.Lines.{said}

-- the device that a line speaks to is one of so many
abbrev pub IsBelow : ℕ → What → Type 0
IsBelow count what = IfSome (said what) (λ s. s.0 < count)

abbrev pub AllBelow : ℕ → List Line → Type 0
AllBelow count part = AllByRecursion (λ l. IsBelow count l.what) part
