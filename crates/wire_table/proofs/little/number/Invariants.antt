use Rattle.std.proofs.Common.{◌≡◌, drop}
use Rattle.wire_table.specs.Little.{number_of}
use Rattle.wire_table.proofs.little.number.Given as goal

abbrev pub invariant-loop-i : goal.invariant-loop-i
invariant-loop-i l = l.value ≡ number_of (drop l.i l.field)
