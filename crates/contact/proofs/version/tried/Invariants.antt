use Rattle.std.proofs.Common.{◌≡◌, ◌+◌, ◌≤◌, length, drop}
use Rattle.std.specs.Prelude.{filter}
use Rattle.contact.specs.Versions.{versions, versions_tried, is_tried}
use Rattle.contact.proofs.version.tried.Given as goal

abbrev pub invariant-loop-v : goal.invariant-loop-v
invariant-loop-v l = record {
  left : l.count + length (filter (is_tried l.guest.0 l.host.0) (drop l.v-index versions)) ≡ length (versions_tried l.guest.0 l.host.0);
  few : l.count ≤ l.v-index;
}
