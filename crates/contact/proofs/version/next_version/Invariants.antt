use Rattle.std.proofs.Common.{◌≤◌, take}
use Rattle.std.specs.Prelude.{All}
use Rattle.contact.specs.Versions.{versions}
use Rattle.contact.proofs.version.next_version.Given as goal

abbrev pub invariant-loop-u : goal.invariant-loop-u
invariant-loop-u l = All (λ w. l.v.0 ≤ w) (take l.u-index versions)
