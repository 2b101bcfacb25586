use Rattle.std.proofs.Common.{◌≡◌, ◌-◌, ◌*◌, drop}
use Rattle.util_ic.specs.Versions.{versions_in, is_offered}
use Rattle.util_ic.proofs.version.offers.Given as goal

abbrev pub invariant-loop-i : goal.invariant-loop-i
invariant-loop-i l = is_offered (versions_in (l.count - l.i) (drop (4 * l.i) l.versions)) l.version ≡ is_offered (versions_in l.count l.versions) l.version
