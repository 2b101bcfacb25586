use Rattle.std.proofs.Common.{◌≡◌, ◌-◌, ◌+◌, ◌*◌, ◌≤◌, ◌++◌, take, length, IfSome}
use Rattle.contact.specs.Versions.{IsVersion}
use Rattle.bus_script.specs.Report.{versions_from, versions_text, tried}
use Rattle.bus_script.proofs.Tried.{left}
use Rattle.bus_script.proofs.writing.push_tried.Given as goal

abbrev pub invariant-loop : goal.invariant-loop
invariant-loop l = record {
  told : l.text.items ++ versions_text (take (l.fn.count - l.counter) (left l.next)) ≡ l.fn.text.items ++ versions_text (tried l.fn.guest.0 l.fn.count);
  short : length l.text.items + 42 * length (left l.next) ≤ length l.fn.text.items + 42 * length (versions_from l.fn.guest.0);
  known : IfSome l.next (λ v. IsVersion v.0);
}
