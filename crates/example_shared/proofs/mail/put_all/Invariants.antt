use Rattle.std.proofs.Common.{◌≡◌, ◌≤◌, length, take}
use Rattle.example_shared.proofs.mail.put_all.Given as goal

-- the first messages were put
abbrev pub invariant-loop : goal.invariant-loop
invariant-loop g l = record {
  can : (goal.iterator-loop g).can_next l.iterator';
  ends : (goal.iterator-loop g).is_finite l.iterator';
  within : l.next ≤ length l.messages;
  post : l.post ≡ record l.fn.post { put = take l.next l.messages };
}
