use Rattle.std.proofs.Common.{◌≡◌, ◌-◌, take}
use Rattle.std.specs.Option.{option_or}
use Rattle.std.specs.Str.Lines.{lines}
use Rattle.script_explain.specs.Help.{last_said}
use Rattle.script_explain.proofs.place.earlier.Given as goal

-- the last one of the lines that are left that is said again, and else the one that was found
abbrev pub invariant-loop-n : goal.invariant-loop-n
invariant-loop-n l = option_or (last_said l.line l.n (take (l.number - l.n) (lines l.rest))) l.found ≡ last_said l.line 1 (take (l.number - 1) (lines l.bytes))
