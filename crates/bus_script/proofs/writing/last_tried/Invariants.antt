use Rattle.std.proofs.Common.{◌≡◌, ◌-◌, take, IfSome}
use Rattle.contact.specs.Versions.{IsVersion}
use Rattle.bus_script.specs.Report.{last_or, tried}
use Rattle.bus_script.proofs.Tried.{left}
use Rattle.bus_script.proofs.writing.last_tried.Given as goal

abbrev pub invariant-loop : goal.invariant-loop
invariant-loop l = record {
  last : last_or l.last.0 (take (l.fn.count - l.counter) (left l.next)) ≡ last_or 0 (tried l.fn.guest.0 l.fn.count);
  known : IfSome l.next (λ v. IsVersion v.0);
}
