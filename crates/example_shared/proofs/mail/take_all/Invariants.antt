use Rattle.std.proofs.Common.{◌≡◌, ◌≤◌, length, vec_capacity}
use Rattle.example_shared.proofs.mail.take_all.Given as goal

-- what was taken is kept
abbrev pub invariant-loop : goal.invariant-loop
invariant-loop g l = record {
  can : (goal.iterator-loop g).can_next l.iterator';
  ends : (goal.iterator-loop g).is_finite l.iterator';
  fetch : l.fetch ≡ record l.fn.fetch { taken = l.got.items };
  few : length l.got.items ≤ l.count;
  room : l.count ≤ vec_capacity l.got;
}
